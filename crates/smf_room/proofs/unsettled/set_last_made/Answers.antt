use Rattle.std.proofs.Common.{◌≡◌, ◌∙◌, ◌++◌, ◌∷◌, ◌-◌, [], List, ap, false, get_or, length, rules}
use Rattle.std.proofs.Math.ListN.{set}
use Rattle.smf_room.specs.Helds.{Held}
use Rattle.smf_room.proofs.Clearing.{last_at, last_set}
use Rattle.smf_room.proofs.unsettled.set_last_made.Goals as goal

pub returns-then-count-gt0 : goal.returns-then-count-gt0
returns-then-count-gt0 c hs h e =
    let n = c.len-count.result in
    let count : n ≡ length c.args.unsettled.now.items = search rules in
    let size : n ≡ length (hs ++ h ∷ []) = count ∙ ap (λ (x : List Held). length x) e in
    let last : c.index_mut.result.now ≡ h =
    c.index_mut.ensures.value ∙ ap (λ (x : List Held). get_or x (n - 1) c.index_mut.result.now) e
    ∙ last_at hs h c.index_mut.result.now n size in
    let is : c.set_made.new.self ≡ record { known = h.known; failed = false } =
    c.set_made.ensures ∙ ap (λ (x : Held). record { known = x.known; failed = false }) last in
    ap (λ (x : List Held). set x (n - 1) c.set_made.new.self) e ∙ last_set hs h c.set_made.new.self n size
    ∙ ap (λ (x : Held). hs ++ x ∷ []) is
