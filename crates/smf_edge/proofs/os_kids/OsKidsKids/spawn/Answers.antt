use Rattle.std.proofs.Common.{rules, false, true, inr, ◌≡◌, [], ◌∷◌, ◌++◌, ap, refl, sym, ◌∙◌}
use Rattle.smf_edge.specs.Books.{ledger_of}
use Rattle.smf_edge.specs.Processes.{contracts}
use Rattle.smf_edge.specs.Shell.{IsRun}
use Rattle.smf_edge.specs.Starts.{MadeNone, log_with_start}
use Rattle.smf_edge.proofs.Manned.{manned_along, manned_spawned}
use Rattle.smf_edge.proofs.Places.{if_err, kid_is, more_contracts}
use Rattle.smf_edge.proofs.os_kids.OsKidsKids.spawn.Goals as goal

pub returns-clause-started : goal.returns-clause-started
returns-clause-started g c =
    let run = c.in_ok-program.ensures in
    let items : c.push.new.self.items ≡ c.self.inside.children.items ++ c.in_ok-kid.kid ∷ [] = search rules in
    record {
      program = c.in_ok-program.program;
      run = record {
        clears = run.clears;
        program = run.program;
        args = run.args;
        variables = run.variables;
        alone = run.alone;
      };
      once = c.in_ok-kid.ensures.made
          ∙ ap (log_with_start c.in_ok-program.program true) (ap (λ h. h.started) c.self.view_is);
      child = c.in_ok-kid.kid.child;
      of = c.in_ok-kid.ensures.of;
      group = c.in_ok-kid.kid.group;
      number = c.in_ok-kid.ensures.number;
      is =
          items
          ∙ ap (λ h. h.kids ++ c.in_ok-kid.kid ∷ []) c.self.view_is
          ∙ ap (λ kid. c.args.self.now.kids ++ kid ∷ [])
          (kid_is c.in_ok-kid.kid c.args.start.now.contract c.args.start.now.style c.in_ok-kid.ensures.contract
          c.in_ok-kid.ensures.style);
    }

pub invariant_of-self-2 : goal.invariant_of-self-2
invariant_of-self-2 g c =
    let items : c.push.new.self.items ≡ c.self.inside.children.items ++ c.in_ok-kid.kid ∷ [] = search rules in
    let before = manned_along _ (ledger_of c.prepare.new.self) _ _
    (sym c.prepare.ensures.same) refl c.self.invariant.manned in
    let after = manned_spawned _ (ledger_of c.prepare.new.self) (ledger_of c.make.new.self)
    (contracts c.self.inside.children.items) before c.make.ensures.made in
    let more = more_contracts c.self.inside.children.items c.push.new.self.items c.in_ok-kid.kid items in
    let same : c.in_ok-kid.kid.contract ≡ c.in_ok-run.run'.contract =
    c.in_ok-kid.ensures.contract ∙ sym (ap (λ run. run.contract) c.in_ok-run.ensures) in
    record {
      sound = c.make.ensures.sound;
      manned = manned_along _ _ _ _ refl
          (sym (more ∙ ap (λ n. contracts c.self.inside.children.items ++ n ∷ []) same)) after;
    }

pub returns-in_err-kid-clause-none : goal.returns-in_err-kid-clause-none
returns-in_err-kid-clause-none g c =
    let run = c.in_ok-program.ensures in
    let none : MadeNone (IsRun c.args.start.now) c.args.self.now.started
    (g.R.System.starts c.start_program.new.system) =
    inr (
      c.in_ok-program.program,
      record {
        clears = run.clears;
        program = run.program;
        args = run.args;
        variables = run.variables;
        alone = run.alone;
      },
      c.in_err-kid.ensures.none
          ∙ ap (log_with_start c.in_ok-program.program false) (ap (λ h. h.started) c.self.view_is),
    ) in
    if_err _ _ none
