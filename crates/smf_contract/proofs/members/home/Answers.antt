use Rattle.std.proofs.Common.{◌<◌, Option, ℕ, length, map, sym, ap, ◌∙◌, arith}
use Rattle.std.specs.Prelude.{option_map}
use Rattle.std.proofs.lemmas.Option.{slice_get-get_or}
use Rattle.smf_fmri.proofs.Places.{stands_within}
use Rattle.smf_contract.specs.declared.contract.Member.{Member}
use Rattle.smf_contract.specs.Entries.{found_at}
use Rattle.smf_contract.specs.Trail.{by_process}
use Rattle.smf_contract.proofs.Halves.{not_placed, one_alone, placed}
use Rattle.smf_contract.proofs.members.home.Goals as goal

pub bounds-members-at : goal.bounds-members-at
bounds-members-at c = stands_within by_process c.args.process c.in-Ok.at c.args.members.now c.in-Ok.ensures.found

pub bounds-members-at-in-Ok : goal.bounds-members-at-in-Ok
bounds-members-at-in-Ok c = stands_within by_process c.args.process c.in-Ok.at c.args.members.now c.in-Ok.ensures.found

pub offset_bounds-members-at : goal.offset_bounds-members-at
offset_bounds-members-at c =
    let h : c.in-Ok.at < length c.args.members.now =
    stands_within by_process c.args.process c.in-Ok.at c.args.members.now c.in-Ok.ensures.found in
    omega arith

pub returns-in-Ok-clause-exact : goal.returns-in-Ok-clause-exact
returns-in-Ok-clause-exact c =
    let h : c.in-Ok.at < length c.args.members.now =
    stands_within by_process c.args.process c.in-Ok.at c.args.members.now c.in-Ok.ensures.found in
    let place = placed (λ (m : Member). m.process) c.args.process c.in-Ok.at c.args.members.now c.in-Ok.ensures.found in
    sym (ap (λ (o : Option ℕ). option_map (λ m. m.contract) (found_at c.args.members.now o)) place
    ∙ ap (option_map (λ m. m.contract)) (slice_get-get_or c.args.members.now c.in-Ok.at _ h))

pub returns-in-Err-clause-exact : goal.returns-in-Err-clause-exact
returns-in-Err-clause-exact c =
    let place =
    not_placed (λ (m : Member). m.process) c.args.process c.in-Err.field-0 c.args.members.now c.requires
    c.in-Err.ensures.absent in
    sym (ap (λ (o : Option ℕ). option_map (λ m. m.contract) (found_at c.args.members.now o)) place)

-- no process is there twice
pub returns-in-Ok-clause-one : goal.returns-in-Ok-clause-one
returns-in-Ok-clause-one c =
    ap (map (λ (m : Member). m.contract))
    (one_alone (λ (m : Member). m.process) c.args.process c.in-Ok.at c.args.members.now _ c.requires
    c.in-Ok.ensures.found)
