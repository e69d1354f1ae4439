use Rattle.std.proofs.Common.{◌≡◌, ℕ, List, arith, length, subst, sym}
use Rattle.smf_links.specs.Stamps.{Avoid, Notes}
use Rattle.smf_links.proofs.arrival.prepare_arrival.Goals as goal

pub returns-clause-notes : goal.returns-clause-notes
returns-clause-notes c =
    let place : c.len-place.result ≡ length c.args.nodes.now.items = omega (arith, c.len-place.ensures) in
    let F : ℕ → Type 0 =
    λ p. Notes (λ q. Avoid q c.args.links.now) p c.args.citing.now.items c.prepare.new.citing.items in
    let G : List (List ℕ) → Type 0 =
    λ l. Notes (λ q. Avoid q c.args.links.now) (length c.args.nodes.now.items) c.args.citing.now.items l in
    subst G (sym c.in_ok-make_place.ensures.citing) (subst F place c.in_ok-own.ensures.notes)
