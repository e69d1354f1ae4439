-- A node and children that begin with the contracts that were found.
use Rattle.std.proofs.Common.{◌≡◌, ◌<◌, ◌≤◌, ◌&&◌, ℕ, Bool, true, false, List, [], ◌∷◌, map, refl, sym, subst, Option, arith}
use Rattle.std.specs.Prelude.{nat_le, nat_lt}
use Rattle.std.specs.declared.time.Duration.{Duration}
use Rattle.std.proofs.lemmas.Bool.Decides.{nat_tests}
use Rattle.smf_contract.specs.declared.contract.Holder.TheVariants.{Held, Inherited}
use Rattle.smf_contract.specs.declared.found.Found.{Found}
use Rattle.smf_contract.specs.Begun.{table_of_found}
use Rattle.smf_contract.specs.Laws.{Ascends}
use Rattle.smf_script.specs.Agrees.{AgreesSince, before_over}
use Rattle.smf_script.specs.Forgets.{AgreesAnew}
use Rattle.smf_script.proofs.Beginnings.{agree_found}
use Rattle.smf_edge.specs.Answers.{Seen, Skills}
use Rattle.smf_edge.specs.Ledgers.{Ledger, ledger_over}
use Rattle.smf_model.specs.Contents.{Holdings}
use Rattle.smf_model.specs.declared.journal.RepoFault.{RepoFault}
use Rattle.smf_node.specs.FoundContracts.{are_fit}
use Rattle.smf_past.specs.Lived.{continued}
use Rattle.smf_server.specs.Life.{HasStayed, is_uncut, state_after_find}
use Rattle.smf_server.specs.Turns.{Between}
use Rattle.smf_watch.specs.Traffic.{Passed}
use Rattle.smf_watch.specs.declared.ask.Onward.{Onward}
use Rattle.smf_watch.specs.declared.retries.Retry.{Retry}
use Rattle.smf_watch.specs.declared.terms.Term.{Term}
use Rattle.smf_world.specs.declared.item.Item.{Item}

both_true : (a b : Bool) → (a && b) ≡ true → (a ≡ true) × (b ≡ true)
both_true true true e = (refl, refl)
both_true true false e = absurd cc
both_true false b e = absurd cc

below : (m n : ℕ) → nat_lt m n ≡ true → m < n
below m n e = grind (arith, nat_tests)

at_most : (m n : ℕ) → nat_le m n ≡ true → m ≤ n
at_most m n e = grind (arith, nat_tests)

fit_ascends : (low last : ℕ) (fs : List Found) → are_fit low last fs ≡ true
    → Ascends low (map (λ (f : Found). f.id) fs) last
fit_ascends low last [] e = at_most low last e
fit_ascends low last (f ∷ fs) e =
    let parts = both_true (nat_lt low f.id) (f.terms.inherit && are_fit f.id last fs) e in
    let more = both_true f.terms.inherit (are_fit f.id last fs) parts.1 in
    (below low f.id parts.0, fit_ascends f.id last fs more.1)

-- children hold what was found, and nobody holds the node's
pub found_agrees : (h : Holdings) (last : ℕ) (fs : List Found) (l : Ledger) → are_fit 0 last fs ≡ true
    → l ≡ ledger_over (table_of_found (Held 0) last fs)
    → AgreesSince (before_over (table_of_found Inherited last fs)) (continued h (table_of_found Inherited last fs)) l
found_agrees h last fs l fit same =
    subst (λ (x : Ledger).
    AgreesSince (before_over (table_of_found Inherited last fs)) (continued h (table_of_found Inherited last fs)) x)
    (sym same) (agree_found h last fs (fit_ascends 0 last fs fit))

-- they agree at last, unless a request was ended by a fault
pub stay_agrees : (k : Skills) (clock : Duration → Type 0) (stores : RepoFault → Type 0) (h : Holdings) (last : ℕ)
    (fs : List Found) (seen : Seen) (retries : List Retry) (t : Between) (most : ℕ) (how : Onward) (was is : Option (List Passed))
    (told_was told_is : Option (List Item)) (terms_was terms_is : Option (List (List Term)))
    → are_fit 0 last fs ≡ true → seen.ledger ≡ ledger_over (table_of_found (Held 0) last fs)
    → (stayed : HasStayed k clock stores most how was is told_was told_is terms_was terms_is
    (state_after_find h last fs seen retries) t) → is_uncut stayed.served.turns ≡ true
    → AgreesAnew t.standing.course.progress.world t.standing.course.seen.ledger
stay_agrees k clock stores h last fs seen retries t most how was is told_was told_is terms_was terms_is fit same stayed uncut =
    stayed.agrees uncut (before_over (table_of_found Inherited last fs)) (found_agrees h last fs seen.ledger fit same)
