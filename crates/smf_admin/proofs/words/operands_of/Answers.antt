use Rattle.std.proofs.Common.{◌≡◌, ◌∙◌, ℕ, List, map, None, Some, subst}
use Rattle.std.specs.Prelude.{IfOk}
use Rattle.clap.specs.Words.{found_of}
use Rattle.smf_admin.proofs.Rows.{operands_are}
use Rattle.smf_admin.proofs.words.operands_of.Goals as goal

pub returns-in-None : goal.returns-in-None
returns-in-None c = c.new.ensures ∙ operands_are (found_of c.args.matches.now) None c.in-None.ensures

pub returns-in-Some : goal.returns-in-Some
returns-in-Some c =
    let P : List (List ℕ) → Type 0 = λ l. IfOk c.word_copies.result (λ all. all ≡ l) in
    subst P (operands_are (found_of c.args.matches.now)
    (Some (map (λ w. w.now) c.in-Some.words.now)) c.in-Some.ensures) c.word_copies.ensures
