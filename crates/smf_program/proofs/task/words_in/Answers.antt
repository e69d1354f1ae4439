use Rattle.std.proofs.Common.{◌≡◌, ◌∙◌, ap, ℕ, List, [], map, Option, codes, subst}
use Rattle.std.specs.Prelude.{IfOk, unwrap_or}
use Rattle.clap.specs.Words.{found_of}
use Rattle.clap.proofs.WalkLemmas.{raw_values-rows}
use Rattle.smf_program.proofs.task.words_in.Goals as goal

pub returns-in-None : goal.returns-in-None
returns-in-None c =
    ap (map (λ w. w.now)) c.new.ensures.items
    ∙ ap (λ (o : Option (List (List ℕ))). unwrap_or o [])
    (c.in-None.ensures ∙ raw_values-rows (found_of c.args.found.now) (codes "FMRI"))

pub returns-in-Some : goal.returns-in-Some
returns-in-Some c =
    let P : List (List ℕ) → Type 0 = λ l. IfOk c.same_words.result (λ all. map (λ w. w.now) all.items ≡ l) in
    subst P
    (ap (λ (o : Option (List (List ℕ))). unwrap_or o [])
    (c.in-Some.ensures ∙ raw_values-rows (found_of c.args.found.now) (codes "FMRI")))
    c.same_words.ensures
