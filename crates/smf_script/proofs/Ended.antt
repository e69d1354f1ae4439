-- Children that are asked to end, one contract after another.
use Rattle.std.proofs.Common.{◌≡◌, ◌<◌, ◌+◌, ℕ, List, ◌∷◌, length, get_or, drop, Bool, ◌||◌, Result, sym, ap, subst, ◌∙◌}
use Rattle.std.proofs.lemmas.List.{drop_more}
use Rattle.smf_edge.specs.declared.fault.KidsFault.{KidsFault}
use Rattle.smf_edge.specs.Answers.{Seen, Skills}
use Rattle.smf_script.specs.Asks.{HasAnswered, lacks_memory, to_kill}
use Rattle.smf_script.specs.Ends.{AreAsked}

-- one was asked, and then those after it
pub asked_first : (k : Skills) (before lacks lacked : Bool) (ids : List ℕ) (i id : ℕ)
    (answer : Result (Unit {0}) KidsFault) (old mid after : Seen) → i < length ids → id ≡ get_or ids i id
    → HasAnswered k (to_kill id) answer old mid → lacks ≡ lacks_memory answer
    → AreAsked k (before || lacks) lacked (drop (i + 1) ids) mid after
    → AreAsked k before lacked (drop i ids) old after
asked_first k before lacks lacked ids i id answer old mid after low at answered is rest =
    let left : drop i ids ≡ id ∷ drop (i + 1) ids =
    drop_more ids i id low ∙ ap (λ (x : ℕ). x ∷ drop (i + 1) ids) (sym at) in
    let then : AreAsked k (before || lacks_memory answer) lacked (drop (i + 1) ids) mid after =
    subst (λ (b : Bool). AreAsked k (before || b) lacked (drop (i + 1) ids) mid after) is rest in
    subst (λ (x : List ℕ). AreAsked k before lacked x old after) (sym left) (answer, mid, answered, then)
