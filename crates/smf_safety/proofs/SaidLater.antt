-- Accepted commands and further messages keep the clauses on the messages that were said, and on grants.
use Rattle.std.proofs.Common.{◌≡◌, ◌⊎◌, inl, inr, ℕ, ◌+◌, ◌≤◌, List, [], ◌∷◌, ◌++◌, reverse, Option, Some, None, sym, ap, ◌∙◌, subst, arith}
use Rattle.std.proofs.lemmas.Grind.{reverse_onto}
use Rattle.std.proofs.lemmas.List.{append_assoc}
use Rattle.smf_state.specs.declared.row.Row.{Row}
use Rattle.smf_state.specs.declared.state.State.TheVariants.{Uninitialized}
use Rattle.smf_state.specs.declared.step.Proposal.{Proposal}
use Rattle.smf_state.specs.declared.step.Step.{Step}
use Rattle.smf_state.specs.declared.step.Step.TheVariants.{Move, Start, Stop, Refresh, End, Note}
use Rattle.smf_model.specs.declared.command.Command.{Command}
use Rattle.smf_model.specs.declared.command.Command.TheVariants as commands
use Rattle.smf_model.specs.declared.held.Instance.{Instance}
use Rattle.smf_model.specs.Contents.{Holdings}
use Rattle.smf_model.specs.Laws.{Stays}
use Rattle.smf_model.specs.Look.{instance, launch_of}
use Rattle.smf_wire.specs.declared.message.Known.{Known}
use Rattle.smf_wire.specs.declared.message.Message.{Message}
use Rattle.smf_wire.specs.declared.message.Message.TheVariants as messages
use Rattle.smf_world.proofs.LiveEach.{each_in, each_later}
use Rattle.smf_world.proofs.RowClauses.{AreExplained, AreFit, IsExplained, IsSpent, WasGranted, WasProposed, WasRow, WasSaid}
use Rattle.smf_world.proofs.RowMoves.{Moves, RowPut, granted, handed, quiet}
use Rattle.smf_safety.proofs.RowLater.{CameOf, IsGiven, IsProper, began, booted, came_of, changed, is_given, left_stays, was_later}
use Rattle.smf_safety.proofs.SaidClauses.{AllMayBeSaid, AreOnce, AreSaid, IsAnswer, IsLike, IsPastStep, IsProposal, IsRowOf, IsSaid, IsSaidOnce, MayBeSaid, WasRowIf}

-- ---- behind a command

past_step_later : (m n r s : ℕ) (p : Step) → m ≤ n → r ≤ s → IsPastStep m r p → IsPastStep n s p
past_step_later m n r s (Start run snapshot duration ignore base) le less p =
    (let a = p.0 in omega arith, let b = p.1 in omega arith)
past_step_later m n r s (Move to) le less p = tt
past_step_later m n r s (Stop to cause run) le less p = tt
past_step_later m n r s (Refresh run) le less p = tt
past_step_later m n r s (End to keep failed cause) le less p = tt
past_step_later m n r s (Note bits keep) le less p = tt

pub proposal_later : (h : Holdings) (c : Command) (k : Holdings) (q : Proposal) → AreFit h → Moves h c k
    → IsProposal h q → IsProposal k q
proposal_later h c k q fit m p =
    record {
      launch = (let a = p.launch in let b = m.launches q.proposer in omega arith);
      launched = p.launched;
      serial = p.serial;
      numbered = p.numbered;
      known = (let a = p.known in let b = m.next_instance in omega arith);
      number = λ j there. by j (came_of h c k q.instance j m there);
      step = past_step_later h.next_snapshot k.next_snapshot h.revision k.revision q.step m.next_snapshot
          (let e = m.revision in omega arith) p.step;
    }
  where
    low : (i j : Instance) → instance h q.instance ≡ Some i → i.row.number ≤ j.row.number → q.number ≤ j.row.number + 1
    low i j there le = (let a = p.number i there in omega arith)

    put_by : (i j : Instance) → instance h q.instance ≡ Some i → RowPut h k.next_snapshot c q.instance i.row j.row
        → q.number ≤ j.row.number + 1
    put_by i j there (quiet x) = low i j there (let e = ap (λ (r : Row). r.number) x.stays.same in omega arith)
    put_by i j there (granted p is at g) =
        low i j there
        (let e = (is_given h k.next_snapshot p i.row j.row g (fit q.instance i there).shape
        (fit q.instance i there).runs).counted in omega arith)
    put_by i j there (handed is g) = low i j there (let e = ap (λ (r : Row). r.number) g.left in omega arith)

    by : (j : Instance) → CameOf h k.next_snapshot c q.instance (instance h q.instance) j.row
        → q.number ≤ j.row.number + 1
    by j (changed i there x) = put_by i j there x
    by j (began none is new) = absurd (let a = p.known in omega arith)
    by j (booted i owner there is new) = low i j there (let e = ap (λ (r : Row). r.number) new in omega arith)

abbrev WasLater : Holdings → Holdings → Type 0
WasLater h k = (n : ℕ) (r : Row) → WasRow h n r → WasRow k n r

was_if_later : (h k : Holdings) (n : ℕ) (r : Option Row) → WasLater h k → WasRowIf h n r → WasRowIf k n r
was_if_later h k n None w x = tt
was_if_later h k n (Some r) w x = w n r x

bound_later : (h : Holdings) (c : Command) (k : Holdings) (name : List ℕ) (launch : ℕ) → Moves h c k
    → launch ≤ launch_of h name → launch ≤ launch_of k name
bound_later h c k name launch m le = (let a = m.launches name in omega arith)

said_later : (h : Holdings) (c : Command) (k : Holdings) (ms : List Message) (m : Message) → AreFit h → Moves h c k
    → IsSaid h ms m → IsSaid k ms m
said_later h c k ms (messages.Join name launch) fit v s = bound_later h c k name launch v s
said_later h c k ms (messages.Rows name launch rows) fit v s = (
  bound_later h c k name launch v s.0,
  each_later (IsRowOf h name) (IsRowOf k name)
      (λ (x : Known) a. record { was = was_later h c k x.instance x.row fit v a.was; owner = a.owner }) rows s.1,
)
said_later h c k ms (messages.Propose q) fit v s = proposal_later h c k q fit v s
said_later h c k ms (messages.Ack name launch serial n r) fit v s =
    record {
      bound = bound_later h c k name launch v s.bound;
      was = was_later h c k n r fit v s.was;
      to = s.to;
      answers = s.answers;
      owner = s.owner;
      launch_is = s.launch_is;
      serial_is = s.serial_is;
      number = s.number;
      left = s.left;
    }
said_later h c k ms (messages.Nack name launch serial n why r) fit v s =
    record {
      bound = bound_later h c k name launch v s.bound;
      was = was_if_later h k n r (λ l x w. was_later h c k l x fit v w) s.was;
      told = s.told;
      owner = s.owner;
      to = s.to;
      answers = s.answers;
    }
said_later h c k ms messages.AskView fit v s = tt
said_later h c k ms (messages.AskChange since) fit v s = tt
said_later h c k ms (messages.View view) fit v s = tt
said_later h c k ms (messages.Changes news) fit v s = tt
said_later h c k ms (messages.Order o) fit v s = was_later h c k o.instance o.row fit v s

pub are_said_later : (h : Holdings) (c : Command) (k : Holdings) (ms : List Message) → AreFit h → Moves h c k
    → AreSaid h ms → AreSaid k ms
are_said_later h c k ms fit v a =
    record {
      each = each_later (IsSaid h ms) (IsSaid k ms) (λ m s. said_later h c k ms m fit v s) ms a.each;
      once = a.once;
    }

-- ---- behind one message more

reverse_more : (x : Message) (xs ys : List Message) → reverse (x ∷ xs) ++ ys ≡ reverse xs ++ (x ∷ ys)
reverse_more x xs ys = ap (λ (l : List Message). l ++ ys) (reverse_onto xs x []) ∙ append_assoc (reverse xs) (x ∷ []) ys

-- a message that was said before is said still
abbrev Within : List Message → List Message → Type 0
Within ms ns = (m : Message) → WasSaid m ms → WasSaid m ns

answer_more : (ms ns : List Message) (name : List ℕ) (launch serial n : ℕ) (q : Proposal) → Within ms ns
    → IsAnswer ms name launch serial n q → IsAnswer ns name launch serial n q
answer_more ms ns name launch serial n q w a =
    record {
      said = w (messages.Propose q) a.said;
      proposer = a.proposer;
      launch = a.launch;
      serial = a.serial;
      at = a.at;
    }

said_more : (h : Holdings) (ms ns : List Message) (m : Message) → Within ms ns → IsSaid h ms m → IsSaid h ns m
said_more h ms ns (messages.Join name launch) w s = s
said_more h ms ns (messages.Rows name launch rows) w s = s
said_more h ms ns (messages.Propose q) w s = s
said_more h ms ns (messages.Ack name launch serial n r) w s =
    record {
      bound = s.bound;
      was = s.was;
      to = s.to;
      answers = answer_more ms ns name launch serial n s.to w s.answers;
      owner = s.owner;
      launch_is = s.launch_is;
      serial_is = s.serial_is;
      number = s.number;
      left = s.left;
    }
said_more h ms ns (messages.Nack name launch serial n why r) w s =
    record {
      bound = s.bound;
      was = s.was;
      told = s.told;
      owner = s.owner;
      to = s.to;
      answers = answer_more ms ns name launch serial n s.to w s.answers;
    }
said_more h ms ns messages.AskView w s = tt
said_more h ms ns (messages.AskChange since) w s = tt
said_more h ms ns (messages.View view) w s = tt
said_more h ms ns (messages.Changes news) w s = tt
said_more h ms ns (messages.Order o) w s = s

propose_is : (p q : Proposal) → messages.Propose p ≡ messages.Propose q → p ≡ q
propose_is p q e = cc

like_back : (p q : Proposal) → IsLike p q → IsLike q p
like_back p q l a b d = sym (l (sym a) (sym b) (sym d))

once_more : (m : Message) (ms : List Message) → IsSaidOnce m ms → AreOnce ms → AreOnce (m ∷ ms)
once_more m ms new old p q (inr a) (inr b) = old p q a b
once_more m ms new old p q (inl e) (inl f) = λ a b d. propose_is p q (sym e ∙ f)
once_more m ms new old p q (inl e) (inr b) = subst (λ (x : Message). IsSaidOnce x ms) e new q b
once_more m ms new old p q (inr a) (inl f) = like_back q p (subst (λ (x : Message). IsSaidOnce x ms) f new p a)

-- one message more may be said
pub said_one : (h : Holdings) (ms : List Message) (m : Message) → MayBeSaid h ms m → AreSaid h ms → AreSaid h (m ∷ ms)
said_one h ms m new a =
    let w : Within ms (m ∷ ms) = λ x s. inr s in
    record {
      each = (
        said_more h ms (m ∷ ms) m w new.is,
        each_later (IsSaid h ms) (IsSaid h (m ∷ ms)) (λ x s. said_more h ms (m ∷ ms) x w s) ms a.each,
      );
      once = once_more m ms new.once a.once;
    }

-- these, in turn
pub said_all : (h : Holdings) (more ms : List Message) → AllMayBeSaid h ms more → AreSaid h ms
    → AreSaid h (reverse more ++ ms)
said_all h [] ms all a = a
said_all h (m ∷ more) ms all a =
    subst (AreSaid h) (sym (reverse_more m more ms)) (said_all h more (m ∷ ms) all.1 (said_one h ms m all.0 a))

pub within_all : (more ms : List Message) (m : Message) → WasSaid m ms → WasSaid m (reverse more ++ ms)
within_all [] ms m s = s
within_all (x ∷ more) ms m s = subst (WasSaid m) (sym (reverse_more x more ms)) (within_all more (x ∷ ms) m (inr s))

-- ---- what grants explain

granted_more : (ms ns : List Message) (n : ℕ) (r : Row) → Within ms ns → WasGranted ms n r → WasGranted ns n r
granted_more ms ns n r w g =
    record {
      by = g.by;
      said = w (messages.Propose g.by) g.said;
      proposer = g.proposer;
      launch = g.launch;
      serial = g.serial;
      at = g.at;
      number = g.number;
      left = g.left;
    }

pub explained_more : (h : Holdings) (ms ns : List Message) → ((m : Message) → WasSaid m ms → WasSaid m ns)
    → AreExplained h ms → AreExplained h ns
explained_more h ms ns w a n i there =
    let x : IsExplained ms n i.row = a n i there in
    record { granted = λ e. granted_more ms ns n i.row w (x.granted e); state = x.state; next = x.next }

-- a command is a proposal that was said, or none
abbrev pub IsAskable : List Message → Command → Type 0
IsAskable ms c = (p : Proposal) → c ≡ commands.Propose p → WasProposed p ms

pub are_proper : (h : Holdings) (ms : List Message) (c : Command) → AreSaid h ms → IsAskable ms c → IsProper h c
are_proper h ms c a ask p is = each_in (IsSaid h ms) (messages.Propose p) ms a.each (ask p is)

explained_stays : (ms : List Message) (n : ℕ) (r s : Row) → Stays r s → (r.number ≡ 0 → r.launch ≡ 0)
    → IsExplained ms n r → IsExplained ms n s
explained_stays ms n r s t zero_is x =
    let launch : s.launch ≡ r.launch = ap (λ (y : Row). y.launch) t.same in
    record {
      granted = λ e. by launch e t.owner;
      state = λ e. ap (λ (y : Row). y.state) t.same ∙ x.state (sym launch ∙ e);
      next = λ e. ap (λ (y : Row). y.next) t.same ∙ x.next (sym launch ∙ e);
    }
  where
    by : s.launch ≡ r.launch → 1 ≤ s.launch → (r.number ≡ 0) ⊎ (s.owner ≡ r.owner) → WasGranted ms n s
    by e le (inl none) = absurd (let z = zero_is none in omega arith)
    by e le (inr owner) =
        let g : WasGranted ms n r = x.granted (omega arith) in
        record {
          by = g.by;
          said = g.said;
          proposer = g.proposer ∙ sym owner;
          launch = g.launch ∙ sym e;
          serial = g.serial ∙ sym (ap (λ (y : Row). y.serial) t.same);
          at = g.at;
          number = g.number ∙ sym (ap (λ (y : Row). y.number) t.same);
          left = left_stays r s g.by.step t g.left;
        }

explained_anew : (ms : List Message) (n : ℕ) (r : Row) → r.launch ≡ 0 → r.state ≡ Uninitialized → r.next ≡ None
    → IsExplained ms n r
explained_anew ms n r launch state next =
    record { granted = λ e. absurd (omega arith); state = λ e. state; next = λ e. next }

explained_given : (ms : List Message) (n : ℕ) (p : Proposal) (r s : Row) → 1 ≤ p.launch → p.instance ≡ n
    → WasProposed p ms → IsGiven p r s → IsExplained ms n s
explained_given ms n p r s launched at said x =
    record {
      granted = λ e. record {
        by = p;
        said = said;
        proposer = sym x.owner;
        launch = sym x.launch;
        serial = sym x.serial;
        at = at;
        number = sym x.number;
        left = x.left;
      };
      state = λ e. absurd (let a = x.launch in omega arith);
      next = λ e. absurd (let a = x.launch in omega arith);
    }

pub explained_later : (h : Holdings) (c : Command) (k : Holdings) (ms : List Message) → AreFit h → AreSaid h ms
    → IsAskable ms c → Moves h c k → AreExplained h ms → AreExplained k ms
explained_later h c k ms fit said ask m a n j there = by (came_of h c k n j m there)
  where
    put_by : (i : Instance) → instance h n ≡ Some i → RowPut h k.next_snapshot c n i.row j.row → IsExplained ms n j.row
    put_by i at (quiet q) = explained_stays ms n i.row j.row q.stays (λ e. ((fit n i at).zero e).launch) (a n i at)
    put_by i at (granted p is of_n g) =
        explained_given ms n p i.row j.row (are_proper h ms c said ask p is).launched of_n (ask p is)
        (is_given h k.next_snapshot p i.row j.row g (fit n i at).shape (fit n i at).runs)
    put_by i at (handed is g) =
        explained_anew ms n j.row (ap (λ (r : Row). r.launch) g.left) (ap (λ (r : Row). r.state) g.left)
        (ap (λ (r : Row). r.next) g.left ∙ g.rest.next)

    by : CameOf h k.next_snapshot c n (instance h n) j.row → IsExplained ms n j.row
    by (changed i at p) = put_by i at p
    by (began none is new) =
        explained_anew ms n j.row (ap (λ (r : Row). r.launch) new) (ap (λ (r : Row). r.state) new)
        (ap (λ (r : Row). r.next) new)
    by (booted i owner at is new) =
        explained_anew ms n j.row (ap (λ (r : Row). r.launch) new) (ap (λ (r : Row). r.state) new)
        (ap (λ (r : Row). r.next) new)

-- ---- runs that were begun

pub spent_later : (h : Holdings) (c : Command) (k : Holdings) (n run : ℕ) → AreFit h → Moves h c k → IsSpent h n run
    → IsSpent k n run
spent_later h c k n run fit m s =
    record {
      known = (let a = s.known in let b = m.next_instance in omega arith);
      last = λ j there. by j (came_of h c k n j m there);
    }
  where
    low : (i j : Instance) → instance h n ≡ Some i → i.row.last ≤ j.row.last → run ≤ j.row.last
    low i j there le = (let a = s.last i there in omega arith)

    put_by : (i j : Instance) → instance h n ≡ Some i → RowPut h k.next_snapshot c n i.row j.row → run ≤ j.row.last
    put_by i j there (quiet q) = low i j there (let e = ap (λ (r : Row). r.last) q.stays.same in omega arith)
    put_by i j there (granted p is at g) =
        low i j there (is_given h k.next_snapshot p i.row j.row g (fit n i there).shape (fit n i there).runs).last
    put_by i j there (handed is g) = low i j there (let e = ap (λ (r : Row). r.last) g.left in omega arith)

    by : (j : Instance) → CameOf h k.next_snapshot c n (instance h n) j.row → run ≤ j.row.last
    by j (changed i there p) = put_by i j there p
    by j (began none is new) = absurd (let a = s.known in omega arith)
    by j (booted i owner there is new) = low i j there (let e = ap (λ (r : Row). r.last) new in omega arith)
