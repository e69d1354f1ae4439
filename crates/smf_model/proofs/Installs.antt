-- Changes made one after the other.
use Rattle.std.proofs.Common.{◌≡◌, ℕ, ◌+◌, List, [], ◌∷◌, length, ap, ◌∙◌, subst, arith}
use Rattle.smf_model.specs.declared.change.Change.{Change}
use Rattle.smf_model.specs.declared.tables.Lists.{Lists}
use Rattle.smf_model.specs.Contents.{Holdings}
use Rattle.smf_model.specs.Look.{holdings_after_changes, holdings_after_change}
use Rattle.smf_model.specs.Tables.{HasRoom}

pub installed_step : (h h2 e : Holdings) (c : Change) (xs ys : List Change) → holdings_after_changes h xs ≡ e
    → xs ≡ c ∷ ys → h2 ≡ holdings_after_change h c → holdings_after_changes h2 ys ≡ e
unfolding holdings_after_changes
installed_step h h2 e c xs ys s p q = ap (λ k. holdings_after_changes k ys) q
    ∙ (let t : holdings_after_changes h xs
    ≡ holdings_after_changes (holdings_after_change h c) ys = ap (holdings_after_changes h) p in cc)

pub installed_end : (h e : Holdings) (xs : List Change) → holdings_after_changes h xs ≡ e → xs ≡ [] → h ≡ e
unfolding holdings_after_changes
installed_end h e xs s p = let t : holdings_after_changes h xs ≡ h = ap (holdings_after_changes h) p in cc

pub room_for : (t : Lists) (c : Change) (xs ys : List Change) → xs ≡ c ∷ ys → HasRoom t (length xs)
    → HasRoom t (length ys + 1)
room_for t c xs ys e h =
    let longer : length xs ≡ length ys + 1 = ap length e
    ∙ (let n : length (c ∷ ys) ≡ length ys + 1 = omega arith in n) in
    subst (λ (n : ℕ). HasRoom t n) longer h

pub room_for_one : (t : Lists) (n : ℕ) → HasRoom t (n + 1) → HasRoom t 1
room_for_one t n h =
    record {
      services = omega (arith, h.services);
      instances = omega (arith, h.instances);
      names = omega (arith, h.names);
      snapshots = omega (arith, h.snapshots);
      launches = omega (arith, h.launches);
    }
