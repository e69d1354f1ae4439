use Rattle.std.proofs.Common.{◌≡◌, List, ℕ, ap, subst, ◌∙◌}
use Rattle.smf_fmri.specs.Patterns.{service_of}
use Rattle.smf_links.specs.Blockage.{IsOut}
use Rattle.smf_dep.specs.Index.{Finds, is_naming_at}
use Rattle.smf_dep.specs.Names.{found_at}
use Rattle.smf_dep.proofs.NamingPlaces.{finds_both}
use Rattle.smf_dep.proofs.index.Citers.put_naming_of.Goals as goal

pub returns : goal.returns
returns c =
    let all = c.args.self.now in
    let one = c.args.one.now in
    let test = is_naming_at c.args.arrivals.now c.args.members.now in
    let named : c.places_at-by_name.result.now ≡ found_at all.instances one.name =
    c.places_at-by_name.ensures ∙ ap (found_at all.instances) c.print.ensures.text in
    let served : c.places_at-by_service.result.now ≡ found_at all.services (service_of one.name) =
    c.places_at-by_service.ensures
    ∙ ap (found_at all.services) (c.service.ensures ∙ ap service_of c.as_fmri.ensures) in
    let P : List ℕ → Type 0 = λ l. Finds (λ a. IsOut a l) test c.args.found.now c.put_naming.new.found in
    let Q : List ℕ → Type 0 = λ l. Finds (λ a. IsOut a l) test c.put_naming.new.found c.put_naming-2.new.found in
    finds_both (λ a. IsOut a (found_at all.instances one.name))
    (λ a. IsOut a (found_at all.services (service_of one.name))) test c.args.found.now c.put_naming.new.found
    c.put_naming-2.new.found (subst P named c.in_ok-put_naming.ensures) (subst Q served c.in_ok-put_naming-2.ensures)
