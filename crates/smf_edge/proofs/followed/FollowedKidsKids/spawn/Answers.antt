use Rattle.std.proofs.Common.{rules, ◌≡◌, [], ◌∷◌, ◌++◌, ap, refl, sym, ◌∙◌}
use Rattle.smf_edge.specs.Books.{ledger_of}
use Rattle.smf_edge.specs.Phases.{posts}
use Rattle.smf_edge.proofs.Preservation.{followed_along, followed_spawned}
use Rattle.smf_edge.proofs.FollowedStarts.{kid_is, more_posts}
use Rattle.smf_edge.proofs.followed.FollowedKidsKids.spawn.Goals as goal

pub returns-clause-started : goal.returns-clause-started
returns-clause-started g c =
    let items : c.push.new.self.items ≡ c.self.inside.kids.items ++ c.in_ok-kid.kid ∷ [] = search rules in
    record {
      held = c.in_ok-kid.kid.held;
      of = c.in_ok-kid.ensures.of;
      is =
          items
          ∙ ap (λ h. h.kids ++ c.in_ok-kid.kid ∷ []) c.self.view_is
          ∙ ap (λ kid. c.args.self.now.kids ++ kid ∷ [])
          (kid_is c.in_ok-kid.kid c.args.start.now.contract c.in_ok-kid.ensures.contract c.in_ok-kid.ensures.phase);
    }

pub invariant_of-self-2 : goal.invariant_of-self-2
invariant_of-self-2 g c =
    let items : c.push.new.self.items ≡ c.self.inside.kids.items ++ c.in_ok-kid.kid ∷ [] = search rules in
    let before = followed_along _ (ledger_of c.prepare.new.self) _ _
    (sym c.prepare.ensures.same) refl c.self.invariant.followed in
    let same : c.in_ok-kid.kid.contract ≡ c.in_ok-run.run'.contract =
    c.in_ok-kid.ensures.contract ∙ sym (ap (λ run. run.contract) c.in_ok-run.ensures) in
    let more = more_posts c.self.inside.kids.items c.push.new.self.items c.in_ok-kid.kid c.in_ok-run.run'.contract items
    same c.in_ok-kid.ensures.phase in
    record {
      sound = c.make.ensures.sound;
      followed = followed_spawned _ (ledger_of c.prepare.new.self) (ledger_of c.make.new.self)
          (posts c.self.inside.kids.items) _ before c.make.ensures.made more;
    }
