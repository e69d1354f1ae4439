-- Lists of things to do of which a part was done, and calls by what they leave of a course.
use Rattle.std.proofs.Common.{◌≡◌, inl, List, [], ◌∷◌, ◌++◌, Result, Ok, Err, IfErr, OnErr, OnOk, refl, sym, ap, ◌∙◌, subst, append_assoc, append-nil}
use Rattle.smf_edge.specs.Answers.{Seen}
use Rattle.smf_model.specs.declared.journal.RepoFault.{RepoFault}
use Rattle.smf_node.specs.declared.fault.NodeFault.{NodeFault}
use Rattle.smf_node.specs.declared.fault.NodeFault.TheVariants.{Memory}
use Rattle.smf_node.specs.Faults.{IsDeedFault, IsLack, event_of}
use Rattle.smf_node.specs.Partly.{DeedFails, FailsAt, LacksMemory, Stays}
use Rattle.smf_node.specs.Rounds.{AllDone, Course, at, course}
use Rattle.smf_world.specs.declared.schedule.Deed.{Deed}
use Rattle.smf_world.specs.Schedule.{Progress}

abbrev Stores : Type 1
Stores = RepoFault → Type 0

-- ---- lists

done_more : {X : Type 0} (Does : X → Course → Course → Type 0) (xs : List X) (x : X) (c d e : Course)
    → AllDone Does xs c d → Does x d e → AllDone Does (xs ++ x ∷ []) c e
done_more Does [] x c d e h last = (e, subst (λ (m : Course). Does x m e) h last, refl)
done_more Does (y ∷ xs) x c d e h last = (h.0, h.1, done_more Does xs x h.0 d e h.2 last)

-- some of a list was done, and the rest is left
pub record IsPart {X : Type 0} (Does : X → Course → Course → Type 0) (all rest : List X) (c d : Course) : Type 0 where
  pub first : List X
  pub whole : all ≡ first ++ rest
  pub done : AllDone Does first c d

pub part_none : {X : Type 0} (Does : X → Course → Course → Type 0) (all : List X) (c : Course) → IsPart Does all all c c
part_none Does all c = record { first = []; whole = refl; done = refl }

pub part_more : {X : Type 0} (Does : X → Course → Course → Type 0) (all rest more : List X) (x : X) (c d e : Course)
    → IsPart Does all rest c d → rest ≡ x ∷ more → Does x d e → IsPart Does all more c e
part_more Does all rest more x c d e u is one =
    record {
      first = u.first ++ x ∷ [];
      whole = u.whole ∙ ap (λ l. u.first ++ l) is ∙ sym (append_assoc u.first (x ∷ []) more);
      done = done_more Does u.first x c d e u.done one;
    }

pub part_all : {X : Type 0} (Does : X → Course → Course → Type 0) (all rest : List X) (c d : Course)
    → IsPart Does all rest c d → rest ≡ [] → AllDone Does all c d
part_all Does all rest c d u is =
    subst (λ (xs : List _). AllDone Does xs c d) (sym (u.whole ∙ ap (λ l. u.first ++ l) is ∙ append-nil u.first)) u.done

pub part_fails : {X : Type 0} (Does : X → Course → Course → Type 0) (Fails : X → Course → Course → NodeFault → Type 0)
    (all rest more : List X) (x : X) (c d e : Course) (f : NodeFault) → IsPart Does all rest c d → rest ≡ x ∷ more
    → Fails x d e f
    → FailsAt Does Fails all c e f
part_fails Does Fails all rest more x c d e f u is fault =
    record {
      first = u.first;
      failed = x;
      rest = more;
      reached = d;
      whole = u.whole ∙ ap (λ l. u.first ++ l) is;
      done = u.done;
      fault = fault;
    }

-- ---- calls that ask nothing of anybody

pub stays_same : (p q : Progress) (s : Seen) → q ≡ p → Stays (course p s) (course q s)
stays_same p q s e = record { progress = e; kept = refl }

pub lacks_memory : (c : Course) → LacksMemory c c Memory
lacks_memory c = (refl, record { progress = refl; kept = refl })

pub went_to : {X E : Type 0} (p q v : Progress) (s : Seen) (r : Result X E) → OnOk r (q ≡ v)
    → OnOk r (course q s ≡ at (course p s) v)
went_to p q v s (Ok x) e = ap (λ (y : Progress). course y s) e
went_to p q v s (Err f) e = tt

pub deed_failed : {X : Type 0} (fails : Stores) (d : Deed) (p q : Progress) (s : Seen) (r : Result X NodeFault)
    → OnErr r (q ≡ p) → IfErr r (λ e. IsDeedFault fails p d e)
    → IfErr r (λ e. DeedFails fails d (course p s) (course q s) e)
deed_failed fails d p q s (Ok x) same f = tt
deed_failed fails d p q s (Err e) same f = (stays_same p q s same, f)

pub event_failed : {X : Type 0} (fails : Stores) (d : Deed) (p q : Progress) (s : Seen) (r : Result X NodeFault)
    → OnErr r (q ≡ p) → IfErr r (λ e. IsLack fails p.world (event_of p d) e)
    → IfErr r (λ e. DeedFails fails d (course p s) (course q s) e)
event_failed fails d p q s (Ok x) same f = tt
event_failed fails d p q s (Err e) same f = (stays_same p q s same, inl f)

pub no_memory : (fails : Stores) (d : Deed) (c : Course) → DeedFails fails d c c Memory
no_memory fails d c = (record { progress = refl; kept = refl }, inl (inl refl))
