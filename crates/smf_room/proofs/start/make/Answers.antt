use Rattle.std.proofs.Common.{◌≡◌, ◌∙◌, ◌++◌, ◌∷◌, [], List, Some, ap, refl, rules, string_bytes, true, ℕ}
use Rattle.smf_room.specs.Helds.{Held}
use Rattle.smf_room.specs.Starts.{IsMade, IsUnmade, held_as}
use Rattle.smf_room.proofs.Hearing.{both, none, on_err, one, weaker}
use Rattle.smf_room.proofs.Starting.{is_made, no_memory, partly_made}
use Rattle.smf_room.proofs.start.make.Goals as goal

pub returns-in_err-instance-clause-lost : goal.returns-in_err-instance-clause-lost
returns-in_err-instance-clause-lost g c =
    on_err c.from_residual.result
    (none g.R.Room.tells g.R.Room.did _ c.args.room.now
    (no_memory c.args.numbers.now c.args.unsettled.now.items c.args.unsettled.now.items c.args.note.now refl))

pub returns-in_err-reserve-clause-lost : goal.returns-in_err-reserve-clause-lost
returns-in_err-reserve-clause-lost g c =
    on_err c.from_residual-in_err-reserve.result
    (none g.R.Room.tells g.R.Room.did _ c.args.room.now
    (no_memory c.args.numbers.now c.args.unsettled.now.items c.reserve.new.self.items c.args.note.now
    c.reserve.ensures.items))

pub returns-in_err-make-clause-lost : goal.returns-in_err-make-clause-lost
returns-in_err-make-clause-lost g c =
    let same : string_bytes c.in_ok-instance.instance ≡ string_bytes c.args.note.now.instance = search rules in
    let is : c.to_make.result ≡ held_as c.in_ok-given.given.id c.args.note.now true =
    c.to_make.ensures
    ∙ ap (λ (x : List ℕ). record { known = record { id = c.in_ok-given.given.id; instance = Some x }; failed = true }) same in
    let noted : c.push_reserved.new.self.items ≡ c.args.unsettled.now.items ++ held_as c.in_ok-given.given.id c.args.note.now true ∷ [] =
    c.push_reserved.ensures.items ∙ ap (λ (x : List Held). x ++ c.to_make.result ∷ []) c.reserve.ensures.items
    ∙ ap (λ (x : Held). c.args.unsettled.now.items ++ x ∷ []) is in
    on_err c.from_residual-in_err-make.result
    (weaker
    (IsUnmade c.args.numbers.now c.in_ok-given.given.left c.args.unsettled.now.items c.push_reserved.new.self.items
    c.args.note.now)
    (partly_made c.args.numbers.now c.args.unsettled.now.items c.push_reserved.new.self.items c.args.note.now
    c.in_ok-given.given noted)
    (both c.in_ok-given.ensures.given (one c.in_err-make.ensures.lost)))

pub returns-clause-made : goal.returns-clause-made
returns-clause-made g c =
    let same : string_bytes c.in_ok-instance.instance ≡ string_bytes c.args.note.now.instance = search rules in
    let is : c.to_make.result ≡ held_as c.in_ok-given.given.id c.args.note.now true =
    c.to_make.ensures
    ∙ ap (λ (x : List ℕ). record { known = record { id = c.in_ok-given.given.id; instance = Some x }; failed = true }) same in
    let noted : c.push_reserved.new.self.items ≡ c.args.unsettled.now.items ++ held_as c.in_ok-given.given.id c.args.note.now true ∷ [] =
    c.push_reserved.ensures.items ∙ ap (λ (x : List Held). x ++ c.to_make.result ∷ []) c.reserve.ensures.items
    ∙ ap (λ (x : Held). c.args.unsettled.now.items ++ x ∷ []) is in
    weaker
    (IsMade c.args.numbers.now c.in_ok-given.given.left c.args.unsettled.now.items c.set_last_made.new.unsettled.items
    c.args.note.now c.in_ok-given.given.id)
    (is_made c.args.numbers.now c.args.unsettled.now.items c.set_last_made.new.unsettled.items c.args.note.now
    c.in_ok-given.given
    (c.set_last_made.ensures c.args.unsettled.now.items (held_as c.in_ok-given.given.id c.args.note.now true) noted))
    (both c.in_ok-given.ensures.given (one c.in_ok-make.ensures.told))
