-- How a proposal is answered, and what a grant makes of the row.
use Rattle.std.proofs.Common.{◌≡◌, inl, inr, ℕ, ◌+◌, ◌==◌, ◌&&◌, ◌||◌, not, nat_lt, nat_le, nat_eq, Bool, true, false, if◌then◌else◌, List, [], ◌∷◌, ◌++◌, Option, Some, None, option_map, Result, Ok, Err, refl, sym, ap, ◌∙◌, subst, arith, eqb-true}
use Rattle.std.proofs.lemmas.Bool.Decides.{nat_tests}
use Rattle.std.specs.Cmp.Lexicographic.{pointwise}
use Rattle.std.specs.Ordering.{is_eq, nat_cmp}
use Rattle.smf_fmri.specs.ByKey.{lookup}
use Rattle.smf_fmri.proofs.Lookups.{same_key}
use Rattle.smf_fmri.proofs.Patterns.{same_text}
use Rattle.smf_state.specs.Rows.{result_of_proposal, applied_unless, row_with_numbers, refusal, same_state, row_after_step}
use Rattle.smf_state.specs.declared.fault.StepFault.{StepFault}
use Rattle.smf_state.specs.declared.row.Row.{Row}
use Rattle.smf_state.specs.declared.state.State.{State}
use Rattle.smf_state.specs.declared.state.State.TheVariants.{Uninitialized, Disabled, Offline, Online, Degraded, Maintenance}
use Rattle.smf_state.specs.declared.step.Proposal.{Proposal}
use Rattle.smf_state.specs.declared.step.Step.{Step}
use Rattle.smf_state.specs.declared.step.Step.TheVariants.{Move, Start, Stop, Refresh, End, Note}
use Rattle.smf_model.specs.declared.change.Change.{Change}
use Rattle.smf_model.specs.declared.change.Change.TheVariants.{PutInstance, AddSnapshot, NextSnapshot, SetRevision}
use Rattle.smf_model.specs.declared.change.Outcome.{Outcome as Asked}
use Rattle.smf_model.specs.declared.command.Command.TheVariants as commands
use Rattle.smf_model.specs.declared.command.CommandReply.TheVariants as replies
use Rattle.smf_state.specs.declared.refusal.Why.{Why}
use Rattle.smf_state.specs.declared.refusal.Why.TheVariants as whys
use Rattle.smf_model.specs.declared.held.Instance.{Instance}
use Rattle.smf_model.specs.Contents.{Holdings}
use Rattle.smf_model.specs.Look.{by_instance, groups_of, in_place, holdings_after_changes, instance, instances, launch_of, put_over}
use Rattle.smf_model.specs.GeneralGroup.{current}
use Rattle.smf_model.specs.Next.{greatest, greatest_snapshot, refusal_with as refusing, acceptance_with, snapshot_of, is_again, is_other_snapshot, stale, with_row, with_running, takes_running, outcome_of_grant as granting, step_answer, fresh_answer, answer_at, answer, outcome_of_command}
use Rattle.smf_model.proofs.Entries.{bare_instance}
use Rattle.smf_model.proofs.LawLists.{at_put, is_number}
use Rattle.smf_model.proofs.LawOutcomes.{installed_closed, is_found}
use Rattle.smf_world.proofs.RowClauses.{fits}
use Rattle.smf_world.proofs.RowMoves.{Answers, IsAgain, IsGrant, IsGranted, IsRead, IsRowRead, Refuses, again, anew, granted, limited, refused}
use Rattle.smf_world.proofs.RowCommands.{Gives, IsFoundAs, by_found, puts, read_as, refuses, snaps}

-- ---- what a step leaves alone

pub fits_read : (r : Row) (owner : List ℕ) (s : Step) → fits (record r { owner = owner }) s ≡ fits r s
fits_read r owner (Move to) = refl
fits_read r owner (Start run snapshot duration ignore base) = refl
fits_read r owner (Stop to cause run) = refl
fits_read r owner (Refresh run) = refl
fits_read r owner (End to keep failed cause) = refl
fits_read r owner (Note bits keep) = refl

-- a row fits as it is read
pub fits_as : (before read : Row) (s : Step) → IsRead before read → fits read s ≡ fits before s
fits_as before read s r = ap (λ (x : Row). fits x s) r.same ∙ fits_read before read.owner s

stepped_running : (r : Row) (s : Step) (revision : ℕ) → (row_after_step r s revision).running ≡ r.running
stepped_running r (Move to) revision = refl
stepped_running r (Start run snapshot duration ignore base) revision = refl
stepped_running r (Stop to cause run) revision = refl
stepped_running r (Refresh run) revision = refl
stepped_running r (End to keep failed cause) revision = refl
stepped_running r (Note bits keep) revision = refl

-- ---- why a proposal is stale

abbrev why_of : Bool → Bool → Bool → Bool → Bool → Option Why
why_of z a b d e =
    if z || not a then Some whys.Launch else if not b then Some whys.Owner else if not d then Some whys.Number
    else if e then Some whys.Snapshot else None

fresh_tests : (z a b d e : Bool) → why_of z a b d e ≡ None → (a ≡ true) × (b ≡ true) × (d ≡ true) × (e ≡ false)
fresh_tests true a b d e f = absurd cc
fresh_tests false false b d e f = absurd cc
fresh_tests false true false d e f = absurd cc
fresh_tests false true true false e f = absurd cc
fresh_tests false true true true true f = absurd cc
fresh_tests false true true true false f = (refl, refl, refl, refl)

pub record IsFresh (h : Holdings) (r : Row) (p : Proposal) : Type 0 where
  pub launch : p.launch ≡ launch_of h p.proposer
  pub owner : r.owner ≡ p.proposer
  pub number : p.number ≡ r.number + 1
  pub snapshot : is_other_snapshot r p.step ≡ false

is_fresh : (h : Holdings) (r : Row) (p : Proposal) → stale h r p ≡ None → IsFresh h r p
is_fresh h r p e =
    let t = fresh_tests (p.launch == 0) (p.launch == launch_of h p.proposer) (pointwise nat_eq r.owner p.proposer)
    (p.number == r.number + 1) (is_other_snapshot r p.step) e in
    record {
      launch = eqb-true p.launch (launch_of h p.proposer) t.0;
      owner = (same_text r.owner p.proposer).0 t.1;
      number = eqb-true p.number (r.number + 1) t.2;
      snapshot = t.3;
    }

unlike : (m n : ℕ) → (m == n) ≡ false → m ≡ n → ⊥
unlike m n e f = grind (arith, nat_tests)

unlike_text : (a b : List ℕ) → pointwise nat_eq a b ≡ false → a ≡ b → ⊥
unlike_text a b e f = let t : pointwise nat_eq a b ≡ true = (same_text a b).1 f in cc

is_stale : (h : Holdings) (r : Row) (p : Proposal) (why : Why) → stale h r p ≡ Some why → Refuses h p why (Some r)
is_stale h r p why e =
    by (p.launch == 0) (p.launch == launch_of h p.proposer) (pointwise nat_eq r.owner p.proposer)
    (p.number == r.number + 1) (is_other_snapshot r p.step) refl refl refl refl refl e
  where
    some_is : (a b : Why) → Some a ≡ Some b → a ≡ b
    some_is a b e = cc

    by : (z a b d e : Bool) → (p.launch == 0) ≡ z → (p.launch == launch_of h p.proposer) ≡ a
        → pointwise nat_eq r.owner p.proposer ≡ b → (p.number == r.number + 1) ≡ d → is_other_snapshot r p.step ≡ e
        → why_of z a b d e ≡ Some why → Refuses h p why (Some r)
    by true a b d e y f g k l is =
        subst (λ (w : Why). Refuses h p w (Some r)) (some_is whys.Launch why is) (inl (eqb-true p.launch 0 y))
    by false false b d e y f g k l is =
        subst (λ (w : Why). Refuses h p w (Some r)) (some_is whys.Launch why is)
        (inr (unlike p.launch (launch_of h p.proposer) f))
    by false true false d e y f g k l is =
        subst (λ (w : Why). Refuses h p w (Some r)) (some_is whys.Owner why is) (unlike_text r.owner p.proposer g)
    by false true true false e y f g k l is =
        subst (λ (w : Why). Refuses h p w (Some r)) (some_is whys.Number why is)
        ((same_text r.owner p.proposer).0 g, unlike p.number (r.number + 1) k)
    by false true true true true y f g k l is =
        subst (λ (w : Why). Refuses h p w (Some r)) (some_is whys.Snapshot why is)
        ((same_text r.owner p.proposer).0 g, l)
    by false true true true false y f g k l is = absurd cc

-- ---- the step

pub record IsApplied (r : Row) (p : Proposal) (revision : ℕ) (row : Row) : Type 0 where
  pub allowed : refusal r p.step ≡ None
  pub is : row ≡ row_with_numbers (row_after_step r p.step revision) (r.number + 1) p

applied_by : (r : Row) (p : Proposal) (revision : ℕ) (row : Row) (o : Option StepFault) → refusal r p.step ≡ o
    → applied_unless o (row_with_numbers (row_after_step r p.step revision) (r.number + 1) p) ≡ Ok row
    → IsApplied r p revision row
applied_by r p revision row None e f = record { allowed = e; is = cc }
applied_by r p revision row (Some fault) e f = absurd cc

is_applied : (r : Row) (p : Proposal) (revision : ℕ) (row : Row) → result_of_proposal r p revision ≡ Ok row
    → IsApplied r p revision row
unfolding result_of_proposal
is_applied r p revision row e = applied_by r p revision row (refusal r p.step) refl e

fault_by : (x : Row) (o : Option StepFault) (fault : StepFault) → applied_unless o x ≡ Err fault → o ≡ Some fault
fault_by x None fault e = absurd cc
fault_by x (Some f) fault e = cc

is_fault : (r : Row) (p : Proposal) (revision : ℕ) (fault : StepFault) → result_of_proposal r p revision ≡ Err fault
    → refusal r p.step ≡ Some fault
unfolding result_of_proposal
is_fault r p revision fault e = fault_by _ (refusal r p.step) fault e

-- ---- the grant

fits_both : (r : Row) (s : Step) → refusal r s ≡ None → is_other_snapshot r s ≡ false → fits r s ≡ true
fits_both r s e f = rw (e, f) refl

taking_first : (s : State) (b d : Bool) → (same_state s Uninitialized && b && d) ≡ true → s ≡ Uninitialized
taking_first Uninitialized b d e = refl
taking_first Disabled b d e = absurd cc
taking_first Offline b d e = absurd cc
taking_first Online b d e = absurd cc
taking_first Degraded b d e = absurd cc
taking_first Maintenance b d e = absurd cc

-- the row that is granted
abbrev granted_row : Holdings → Row → Bool → Row
granted_row h row true = with_running h row
granted_row h row false = row

abbrev next_taken : Holdings → Bool → ℕ
next_taken h true = h.next_snapshot + 1
next_taken h false = h.next_snapshot

grant_is : (h : Holdings) (p : Proposal) (before i : Instance) (row : Row) (b : Bool)
    → IsFoundAs h p.instance before i → is_again i.row p ≡ false → IsFresh h i.row p
    → IsApplied i.row p (h.revision + 1) row
    → takes_running i.row row ≡ b → IsGrant h (next_taken h b) p before.row (granted_row h row b)
grant_is h p before i row b f new g a e = by b e
  where
    n : Row
    n = row_with_numbers (row_after_step i.row p.step (h.revision + 1)) (i.row.number + 1) p

    kept : row.running ≡ before.row.running
    kept = ap (λ (r : Row). r.running) a.is
        ∙ (stepped_running i.row p.step (h.revision + 1) ∙ ap (λ (r : Row). r.running) f.read.same)

    number : p.number ≡ before.row.number + 1
    number = g.number ∙ ap (λ (r : Row). r.number + 1) f.read.same

    fit : fits before.row p.step ≡ true
    fit = sym (fits_as before.row i.row p.step f.read) ∙ fits_both i.row p.step a.allowed g.snapshot

    by : (b : Bool) → takes_running i.row row ≡ b → IsGrant h (next_taken h b) p before.row (granted_row h row b)
    by true e =
        record {
          read = i.row;
          reads = f.read;
          owner = g.owner;
          launch = g.launch;
          number = number;
          fits = fit;
          new = new;
          left = ap (λ (r : Row). record r { running = Some h.next_snapshot }) a.is;
          running = inr (refl, refl);
          first = inr (ap (λ (r : Row). r.state) (sym f.read.same) ∙ taking_first i.row.state _ _ e);
        }
    by false e =
        record {
          read = i.row;
          reads = f.read;
          owner = g.owner;
          launch = g.launch;
          number = number;
          fits = fit;
          new = new;
          left = a.is ∙ ap (λ (s : Option ℕ). record n { running = s }) (ap (λ (r : Row). r.running) (sym a.is));
          running = inl kept;
          first = inl kept;
        }

-- ---- what a proposal puts

grants : (h : Holdings) (p : Proposal) (before i : Instance) (row : Row) (b : Bool) → IsFoundAs h p.instance before i
    → IsGrant h (next_taken h b) p before.row (granted_row h row b) → Gives h (commands.Propose p) (granting h i row b)
grants h p before i row true f g =
    snaps h (commands.Propose p) p.instance before i (with_row i (with_running h row)) []
    (replies.Granted (with_running h row)) f.found.is_there f.found.is_number (granted p refl refl g) tt
grants h p before i row false f g =
    puts h (commands.Propose p) p.instance before (with_row i row)
    (replies.Granted row) f.found.is_there f.found.is_number (granted p refl refl g)

gives_step : (h : Holdings) (p : Proposal) (before i : Instance) (r : Result Row StepFault)
    → IsFoundAs h p.instance before i → is_again i.row p ≡ false → IsFresh h i.row p
    → result_of_proposal i.row p (h.revision + 1) ≡ r → Gives h (commands.Propose p) (step_answer h i r)
gives_step h p before i (Err fault) f new g e =
    refuses h (commands.Propose p) (replies.Stale (whys.Step fault) (Some i.row))
gives_step h p before i (Ok row) f new g e = by (nat_le row.serial greatest)
  where
    by : (b : Bool)
        → Gives h (commands.Propose p)
        (if b then granting h i row (takes_running i.row row) else refusing replies.Limit)
    by true = grants h p before i row (takes_running i.row row) f
        (grant_is h p before i row (takes_running i.row row) f new g (is_applied i.row p (h.revision + 1) row e) refl)
    by false = refuses h (commands.Propose p) replies.Limit

gives_fresh : (h : Holdings) (p : Proposal) (before i : Instance) (o : Option Why) → IsFoundAs h p.instance before i
    → is_again i.row p ≡ false → stale h i.row p ≡ o → Gives h (commands.Propose p) (fresh_answer h i p o)
gives_fresh h p before i (Some why) f new e = refuses h (commands.Propose p) (replies.Stale why (Some i.row))
gives_fresh h p before i None f new e =
    gives_step h p before i (result_of_proposal i.row p (h.revision + 1)) f new (is_fresh h i.row p e) refl

gives_at : (h : Holdings) (p : Proposal) (before i : Instance) → IsFoundAs h p.instance before i
    → Gives h (commands.Propose p) (answer_at h p (Some i))
gives_at h p before i f = by (is_again i.row p) refl
  where
    by : (b : Bool) → is_again i.row p ≡ b
        → Gives h (commands.Propose p)
        (if b then refusing (replies.Granted i.row) else fresh_answer h i p (stale h i.row p))
    by true e = refuses h (commands.Propose p) (replies.Granted i.row)
    by false e = gives_fresh h p before i (stale h i.row p) f e refl

pub gives_answer : (h : Holdings) (p : Proposal) → Gives h (commands.Propose p) (answer h p)
unfolding answer
gives_answer h p =
    by_found h (commands.Propose p) p.instance (answer_at h p)
    (refuses h (commands.Propose p) (replies.Stale whys.NoSuch None)) (gives_at h p)

-- ---- what a proposal is answered

-- an instance in place of one of its number stays as it is
pub in_its_place : (x before : Instance) → before.number ≡ x.number → in_place x before ≡ x
in_its_place x before e = ap (λ (n : ℕ). let placed : Instance = record x { number = n } in placed) e

itself : (m n : ℕ) → m ≡ n → is_eq (nat_cmp m n) ≡ true
itself m n e = subst (λ (k : ℕ). is_eq (nat_cmp m k) ≡ true) e (ap is_eq (same_key by_instance m))

pub find_put : (n : ℕ) (x before : Instance) (xs : List Instance) → lookup by_instance xs n ≡ Some before
    → x.number ≡ n → lookup by_instance (put_over x xs) n ≡ Some x
find_put n x before xs there number =
    let here : before.number ≡ x.number = is_number n xs before there ∙ sym number in
    at_put n x xs ∙ rw (itself x.number n number, there) (ap (λ (i : Instance). Some i) (in_its_place x before here))

abbrev AnswersOf : Holdings → Proposal → Asked → Type 0
AnswersOf h p a = Answers h p a

abbrev behind : Holdings → List Change → ℕ → Holdings
behind h cs m = record (holdings_after_changes h cs) { revision = m }

either_answer : (h : Holdings) (p : Proposal) (b : Bool) (x y : Asked) → AnswersOf h p x → AnswersOf h p y
    → AnswersOf h p (if b then x else y)
either_answer h p true x y u v = u
either_answer h p false x y u v = v

accepts_answer : (h : Holdings) (p : Proposal) (cs : List Change) (r : Row)
    → ((m : ℕ) → IsGranted h p (behind h cs m) r) → AnswersOf h p (acceptance_with h cs (replies.Granted r))
accepts_answer h p cs r g = by (nat_lt h.revision greatest)
  where
    by : (b : Bool)
        → AnswersOf h p
        (if b then (record { changes = cs ++ SetRevision (h.revision + 1) ∷ []; reply = replies.Granted r })
        else refusing replies.Limit)
    by true = anew r refl
        (subst (λ (k : Holdings). IsGranted h p k r) (sym (installed_closed h cs (h.revision + 1)))
        (g (h.revision + 1)))
    by false = limited refl refl

puts_row : (h : Holdings) (p : Proposal) (before x : Instance) (k : Holdings) → instance h p.instance ≡ Some before
    → x.number ≡ p.instance → instances k ≡ put_over x (instances h) → IsGrant h k.next_snapshot p before.row x.row
    → IsGranted h p k x.row
puts_row h p before x k there number e g =
    record {
      before = before;
      after = x;
      there = there;
      is = ap (λ (xs : List Instance). lookup by_instance xs p.instance) e
          ∙ find_put p.instance x before (instances h) there number;
      row = refl;
      grant = g;
    }

abbrev with_taken : Holdings → Instance → List Change → List Change
with_taken h i cs = AddSnapshot (snapshot_of h i) ∷ NextSnapshot (h.next_snapshot + 1) ∷ cs

answers_granted : (h : Holdings) (p : Proposal) (before i : Instance) (row : Row) (b : Bool)
    → IsFoundAs h p.instance before i → IsGrant h (next_taken h b) p before.row (granted_row h row b)
    → AnswersOf h p (granting h i row b)
unfolding holdings_after_changes
answers_granted h p before i row true f g =
    let x : Instance = with_row i (with_running h row) in
    let cs : List Change = with_taken h i (PutInstance x ∷ []) in
    either_answer h p (nat_le h.next_snapshot greatest_snapshot) _ _
    (accepts_answer h p cs x.row
    (λ m. puts_row h p before x (behind h cs m) f.found.is_there f.found.is_number (bare_instance x h.instances) g))
    (limited refl refl)
answers_granted h p before i row false f g =
    let x : Instance = with_row i row in
    accepts_answer h p (PutInstance x ∷ []) x.row
    (λ m. puts_row h p before x (behind h (PutInstance x ∷ []) m) f.found.is_there f.found.is_number
    (bare_instance x h.instances) g)

is_there : (h : Holdings) (n : ℕ) (before i : Instance) → IsFoundAs h n before i → IsRowRead h n (Some i.row)
is_there h n before i f = (before, f.found.is_there, f.read)

refuses_answer : (h : Holdings) (p : Proposal) (before i : Instance) (why : Why) → IsFoundAs h p.instance before i
    → Refuses h p why (Some i.row) → AnswersOf h p (refusing (replies.Stale why (Some i.row)))
refuses_answer h p before i why f r =
    refused why (Some i.row) refl refl (record { row = is_there h p.instance before i f; reason = r })

answers_step : (h : Holdings) (p : Proposal) (before i : Instance) (r : Result Row StepFault)
    → IsFoundAs h p.instance before i → is_again i.row p ≡ false → IsFresh h i.row p
    → result_of_proposal i.row p (h.revision + 1) ≡ r → AnswersOf h p (step_answer h i r)
answers_step h p before i (Err fault) f new g e =
    refuses_answer h p before i (whys.Step fault) f (g.owner, is_fault i.row p (h.revision + 1) fault e)
answers_step h p before i (Ok row) f new g e = by (nat_le row.serial greatest)
  where
    by : (b : Bool) → AnswersOf h p (if b then granting h i row (takes_running i.row row) else refusing replies.Limit)
    by true = answers_granted h p before i row (takes_running i.row row) f
        (grant_is h p before i row (takes_running i.row row) f new g (is_applied i.row p (h.revision + 1) row e) refl)
    by false = limited refl refl

answers_fresh : (h : Holdings) (p : Proposal) (before i : Instance) (o : Option Why) → IsFoundAs h p.instance before i
    → is_again i.row p ≡ false → stale h i.row p ≡ o → AnswersOf h p (fresh_answer h i p o)
answers_fresh h p before i (Some why) f new e = refuses_answer h p before i why f (is_stale h i.row p why e)
answers_fresh h p before i None f new e =
    answers_step h p before i (result_of_proposal i.row p (h.revision + 1)) f new (is_fresh h i.row p e) refl

again_tests : (a b d : Bool) → (a && b && d) ≡ true → (a ≡ true) × (b ≡ true) × (d ≡ true)
again_tests false b d e = absurd cc
again_tests true false d e = absurd cc
again_tests true true false e = absurd cc
again_tests true true true e = (refl, refl, refl)

is_granted_again : (h : Holdings) (p : Proposal) (before i : Instance) → IsFoundAs h p.instance before i
    → is_again i.row p ≡ true → IsAgain h p i.row
is_granted_again h p before i f e =
    let t = again_tests (pointwise nat_eq i.row.owner p.proposer) (i.row.launch == p.launch)
    (i.row.serial == p.serial) e in
    record {
      of = before;
      there = f.found.is_there;
      reads = f.read;
      owner = (same_text i.row.owner p.proposer).0 t.0;
      launch = eqb-true i.row.launch p.launch t.1;
      serial = eqb-true i.row.serial p.serial t.2;
    }

answers_at : (h : Holdings) (p : Proposal) (before i : Instance) → IsFoundAs h p.instance before i
    → AnswersOf h p (answer_at h p (Some i))
answers_at h p before i f = by (is_again i.row p) refl
  where
    by : (b : Bool) → is_again i.row p ≡ b
        → AnswersOf h p (if b then refusing (replies.Granted i.row) else fresh_answer h i p (stale h i.row p))
    by true e = again i.row refl refl (is_granted_again h p before i f e)
    by false e = answers_fresh h p before i (stale h i.row p) f e refl

answers_proposal : (h : Holdings) (p : Proposal) → AnswersOf h p (answer h p)
unfolding answer
answers_proposal h p = by (instance h p.instance) refl
  where
    by : (o : Option Instance) → instance h p.instance ≡ o
        → AnswersOf h p (answer_at h p (option_map (current (groups_of h)) o))
    by None e = refused whys.NoSuch None refl refl (record { row = e; reason = e })
    by (Some i) e =
        answers_at h p i (current (groups_of h) i)
        (record { found = is_found h p.instance i e; read = read_as (groups_of h) i })

-- a proposal is granted anew, granted again, refused, or not answered at a limit
pub answers : (h : Holdings) (p : Proposal) → Answers h p (outcome_of_command h (commands.Propose p))
unfolding outcome_of_command
answers h p = answers_proposal h p
