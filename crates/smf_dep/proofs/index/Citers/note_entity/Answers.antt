use Rattle.std.proofs.Common.{◌≡◌, List, ℕ, true, false, refl, rules, subst}
use Rattle.std.specs.Prelude.{is_some}
use Rattle.smf_fmri.specs.Patterns.{instance_of}
use Rattle.smf_dep.specs.Index.{NotesAt}
use Rattle.smf_dep.proofs.CiterPlaces.{noted_instance, noted_service}
use Rattle.smf_dep.proofs.index.Citers.note_entity.Goals as goal

pub returns-in_ok-note_at : goal.returns-in_ok-note_at
returns-in_ok-note_at c =
    let old = c.args.self.now in
    let is : is_some (instance_of c.args.entity.now) ≡ true = search rules in
    let P : List ℕ → Type 0 = λ n. NotesAt n c.args.place old.instances c.note_at.new.found in
    noted_instance c.args.entity.now c.args.place old (record old { instances = c.note_at.new.found }) is (λ q. refl)
    (subst P c.print.ensures.text c.in_ok-note_at.ensures)

pub returns-in_ok-note_at-2 : goal.returns-in_ok-note_at-2
returns-in_ok-note_at-2 c =
    let old = c.args.self.now in
    let is : is_some (instance_of c.args.entity.now) ≡ false = search rules in
    let P : List ℕ → Type 0 = λ n. NotesAt n c.args.place old.services c.note_at-else-is_some.new.found in
    noted_service c.args.entity.now c.args.place old (record old { services = c.note_at-else-is_some.new.found }) is
    (λ q. refl) (subst P c.service.ensures c.in_ok-note_at-2.ensures)
