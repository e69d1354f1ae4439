-- The row in the answer to a proposal is that of the instance, as the answer leaves it.
use Rattle.std.proofs.Common.{◌≡◌, ℕ, ◌+◌, nat_lt, nat_le, Bool, true, false, if◌then◌else◌, List, [], ◌∷◌, ◌++◌, Option, Some, None, option_map, Result, Ok, Err, refl, sym, ap, ◌∙◌, subst}
use Rattle.smf_fmri.specs.ByKey.{lookup}
use Rattle.smf_state.specs.Rows.{result_of_proposal}
use Rattle.smf_state.specs.declared.fault.StepFault.{StepFault}
use Rattle.smf_state.specs.declared.row.Row.{Row}
use Rattle.smf_state.specs.declared.step.Proposal.{Proposal}
use Rattle.smf_model.specs.declared.change.Change.{Change}
use Rattle.smf_model.specs.declared.change.Change.TheVariants.{PutInstance, AddSnapshot, NextSnapshot, SetRevision}
use Rattle.smf_model.specs.declared.command.Command.TheVariants as commands
use Rattle.smf_model.specs.declared.command.CommandReply.{CommandReply}
use Rattle.smf_model.specs.declared.command.CommandReply.TheVariants.{Granted, Limit, Stale}
use Rattle.smf_state.specs.declared.refusal.Why.{Why}
use Rattle.smf_state.specs.declared.refusal.Why.TheVariants as whys
use Rattle.smf_model.specs.declared.held.Instance.{Instance}
use Rattle.smf_model.specs.Contents.{Holdings}
use Rattle.smf_model.specs.Look.{by_instance, groups_of, holdings_after_changes, instance, instances, put_over}
use Rattle.smf_model.specs.GeneralGroup.{current}
use Rattle.smf_model.specs.Next.{Asked, greatest, greatest_snapshot, refusal_with, acceptance_with, snapshot_of, is_again, stale, with_row, with_running, takes_running, outcome_of_grant, step_answer, fresh_answer, answer_at, answer, outcome_of_command, next}
use Rattle.smf_model.proofs.Entries.{bare_instance}
use Rattle.smf_model.proofs.LawLists.{at_put, is_number}
use Rattle.smf_model.proofs.LawOutcomes.{Found, installed_closed, is_found}
use Rattle.smf_world.proofs.CommitLists.{has_same, in_place_is}

-- a row has the number and the state of an instance's
pub record IsRowOf (k : Holdings) (n : ℕ) (row : Row) : Type 0 where
  pub of : Instance
  pub is_there : instance k n ≡ Some of
  pub number : row.number ≡ of.row.number
  pub state : row.state ≡ of.row.state

abbrev pub IsRowIn : Holdings → ℕ → Option Row → Type 0
IsRowIn k n None = Unit {0}
IsRowIn k n (Some row) = IsRowOf k n row

abbrev pub Answers : Holdings → ℕ → CommandReply → Type 0
Answers k n (Granted row) = IsRowOf k n row
Answers k n (Stale why row) = IsRowIn k n row
Answers k n _ = Unit {0}

abbrev AnswersOf : Holdings → ℕ → Asked → Type 0
AnswersOf h n a = Answers (holdings_after_changes h a.changes) n a.reply

abbrev after : Holdings → List Change → ℕ → Holdings
after h cs m = record (holdings_after_changes h cs) { revision = m }

refuses : (h : Holdings) (n : ℕ) (r : CommandReply) → Answers h n r → AnswersOf h n (refusal_with r)
unfolding holdings_after_changes
refuses h n r a = a

accepts : (h : Holdings) (n : ℕ) (cs : List Change) (r : CommandReply) → ((m : ℕ) → Answers (after h cs m) n r)
    → AnswersOf h n (acceptance_with h cs r)
accepts h n cs r a = by (nat_lt h.revision greatest)
  where
    by : (b : Bool)
        → AnswersOf h n
        (if b then (record { changes = cs ++ SetRevision (h.revision + 1) ∷ []; reply = r }) else refusal_with Limit)
    by true = subst (λ (k : Holdings). Answers k n r) (sym (installed_closed h cs (h.revision + 1)))
        (a (h.revision + 1))
    by false = refuses h n Limit tt

either : (h : Holdings) (n : ℕ) (b : Bool) (x y : Asked) → AnswersOf h n x → AnswersOf h n y
    → AnswersOf h n (if b then x else y)
either h n true x y p q = p
either h n false x y p q = q

abbrev with_taken : Holdings → Instance → List Change → List Change
with_taken h i cs = AddSnapshot (snapshot_of h i) ∷ NextSnapshot (h.next_snapshot + 1) ∷ cs

find_put : (n : ℕ) (x before : Instance) (xs : List Instance) → lookup by_instance xs n ≡ Some before → x.number ≡ n
    → lookup by_instance (put_over x xs) n ≡ Some x
find_put n x before xs there number =
    let here : before.number ≡ x.number = is_number n xs before there ∙ sym number in
    at_put n x xs ∙ rw (has_same x.number n number, there) (ap (λ (i : Instance). Some i) (in_place_is x before here))

put_row : (h : Holdings) (n : ℕ) (before x : Instance) (k : Holdings) → instance h n ≡ Some before → x.number ≡ n
    → instances k ≡ put_over x (instances h) → IsRowOf k n x.row
put_row h n before x k there number e =
    record {
      of = x;
      is_there = ap (λ (xs : List Instance). lookup by_instance xs n) e
          ∙ find_put n x before (instances h) there number;
      number = refl;
      state = refl;
    }

grants : (h : Holdings) (p : Proposal) (before i : Instance) (row : Row) (b : Bool) → Found h p.instance before i
    → AnswersOf h p.instance (outcome_of_grant h i row b)
unfolding holdings_after_changes
grants h p before i row true f =
    let x : Instance = with_row i (with_running h row) in
    let cs : List Change = with_taken h i (PutInstance x ∷ []) in
    either h p.instance (nat_le h.next_snapshot greatest_snapshot) _ _
    (accepts h p.instance cs (Granted x.row)
    (λ m. put_row h p.instance before x (after h cs m) f.is_there f.is_number (bare_instance x h.instances)))
    (refuses h p.instance Limit tt)
grants h p before i row false f =
    let x : Instance = with_row i row in
    accepts h p.instance (PutInstance x ∷ []) (Granted x.row)
    (λ m. put_row h p.instance before x (after h (PutInstance x ∷ []) m) f.is_there f.is_number
    (bare_instance x h.instances))

as_found : (h : Holdings) (n : ℕ) (before i : Instance) → Found h n before i → IsRowOf h n i.row
as_found h n before i f =
    record {
      of = before;
      is_there = f.is_there;
      number = ap (λ (r : Row). r.number) f.reads.same;
      state = ap (λ (r : Row). r.state) f.reads.same;
    }

of_step : (h : Holdings) (p : Proposal) (before i : Instance) (r : Result Row StepFault) → Found h p.instance before i
    → AnswersOf h p.instance (step_answer h i r)
of_step h p before i (Err fault) f =
    refuses h p.instance (Stale (whys.Step fault) (Some i.row)) (as_found h p.instance before i f)
of_step h p before i (Ok row) f =
    either h p.instance (nat_le row.serial greatest) _ _ (grants h p before i row (takes_running i.row row) f)
    (refuses h p.instance Limit tt)

of_fresh : (h : Holdings) (p : Proposal) (before i : Instance) (o : Option Why) → Found h p.instance before i
    → AnswersOf h p.instance (fresh_answer h i p o)
of_fresh h p before i (Some why) f = refuses h p.instance (Stale why (Some i.row)) (as_found h p.instance before i f)
of_fresh h p before i None f = of_step h p before i (result_of_proposal i.row p (h.revision + 1)) f

of_found : (h : Holdings) (p : Proposal) (before i : Instance) → Found h p.instance before i
    → AnswersOf h p.instance (answer_at h p (Some i))
of_found h p before i f =
    either h p.instance (is_again i.row p) _ _
    (refuses h p.instance (Granted i.row) (as_found h p.instance before i f))
    (of_fresh h p before i (stale h i.row p) f)

of_answer : (h : Holdings) (p : Proposal) → AnswersOf h p.instance (answer h p)
unfolding answer
of_answer h p = by (instance h p.instance) refl
  where
    by : (o : Option Instance) → instance h p.instance ≡ o
        → AnswersOf h p.instance (answer_at h p (option_map (current (groups_of h)) o))
    by None e = refuses h p.instance (Stale whys.NoSuch None) tt
    by (Some i) e = of_found h p i (current (groups_of h) i) (is_found h p.instance i e)

pub answered : (h : Holdings) (p : Proposal)
    → Answers (next h (commands.Propose p)).0 p.instance (next h (commands.Propose p)).1
unfolding next outcome_of_command
answered h p = of_answer h p
