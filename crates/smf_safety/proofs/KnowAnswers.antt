-- Answers to proposals, and steps of others, keep what holds of what a restarter knows; and so it begins.
use Rattle.std.proofs.Common.{◌≡◌, ◌⊎◌, inl, inr, ℕ, ◌≤◌, ◌<◌, true, List, [], ◌∷◌, ◌++◌, reverse, Option, Some, None, refl, sym, ap, ◌∙◌, subst, arith}
use Rattle.smf_state.specs.declared.row.Row.{Row}
use Rattle.smf_state.specs.declared.step.Proposal.{Proposal}
use Rattle.smf_model.specs.declared.change.Change.{Change}
use Rattle.smf_model.specs.declared.change.Outcome.{Outcome}
use Rattle.smf_model.specs.declared.command.CommandReply.{CommandReply}
use Rattle.smf_model.specs.declared.command.CommandReply.TheVariants as replies
use Rattle.smf_state.specs.declared.refusal.Why.{Why}
use Rattle.smf_state.specs.declared.refusal.Why.TheVariants as whys
use Rattle.smf_model.specs.declared.held.Instance.{Instance}
use Rattle.smf_model.specs.History.{History}
use Rattle.smf_model.specs.Contents.{Holdings}
use Rattle.smf_model.specs.Look.{holdings_after_changes, instance, launch_of}
use Rattle.smf_wire.specs.declared.message.Message.{Message}
use Rattle.smf_wire.specs.declared.message.Message.TheVariants as messages
use Rattle.smf_restarter.specs.declared.known.After.{After}
use Rattle.smf_restarter.specs.declared.known.KnownInstance.{KnownInstance}
use Rattle.smf_restarter.specs.declared.known.Owed.{Owed}
use Rattle.smf_restarter.specs.declared.known.Phase.TheVariants as phases
use Rattle.smf_restarter.specs.Knowledge.{Knowledge, at_first, known_instance}
use Rattle.smf_restarter.specs.Orders.{proposal}
use Rattle.smf_world.specs.Worked.{answer_to}
use Rattle.smf_world.proofs.RowClauses.{AreExplained, AreFit, WasProposed, WasSaid}
use Rattle.smf_world.proofs.RowMoves.{Answers, IsRefused, Refuses, again, anew, limited, refused as refusing}
use Rattle.smf_safety.proofs.RowDead.{refused_dead}
use Rattle.smf_safety.proofs.SaidAnswers.{IsLast, again_last, given_last}
use Rattle.smf_safety.proofs.SaidClauses.{AreSaid}
use Rattle.smf_safety.proofs.KnowClauses.{IsInformed, IsMine, IsOwing, IsRefusal, IsStill, is_begun}
use Rattle.smf_safety.proofs.KnowSteps.{Does, Doing, IsAt, builds, forgets, granted, joins, learns, lists, proposes, refused, repeats, rests, spawns, turns}
use Rattle.smf_safety.proofs.KnowKept.{IsMore, informed_elsewhere, known_more}
use Rattle.smf_safety.proofs.KnowDone.{awaited_at}
use Rattle.smf_safety.proofs.KnowEvery.{BegunBy, IsBegunIn, elsewhere_aside, elsewhere_proposed, elsewhere_same, owing_at}
use Rattle.smf_safety.proofs.KnowLater.{proposal_is, waiting_at}

-- ---- one answer more

ack_parts : (a b : List ℕ) (c d e f g i : ℕ) (r s : Row) → messages.Ack a c e g r ≡ messages.Ack b d f i s
    → (a ≡ b) × (c ≡ d) × (e ≡ f) × (g ≡ i)
ack_parts a b c d e f g i r s x = (cc, cc, cc, cc)

nack_parts : (a b : List ℕ) (c d e f g i : ℕ) (v w : Why) (r s : Option Row)
    → messages.Nack a c e g v r ≡ messages.Nack b d f i w s → (a ≡ b) × (c ≡ d) × (e ≡ f) × (g ≡ i) × (v ≡ w) × (r ≡ s)
nack_parts a b c d e f g i v w r s x = (cc, cc, cc, cc, cc, cc)

-- an ack is true if it is for another restarter or launch, or if the row is the one that was granted
pub informed_ack : (y : History) (h : Holdings) (ms : List Message) (B : ℕ → ℕ → Type 0) (k : Knowledge)
    (name : List ℕ) (launch serial n : ℕ) (row : Row)
    → (name ≡ k.name → launch ≡ k.launch → IsStill h k n serial) → IsInformed y h ms B k
    → IsInformed y h (messages.Ack name launch serial n row ∷ ms) B k
informed_ack y h ms B k name launch serial n row still f =
    record {
      launch = f.launch;
      launched = f.launched;
      rises = f.rises;
      blank = f.blank;
      unserved = f.unserved;
      idle = f.idle;
      serial = λ q w is. f.serial q (before (messages.Propose q) (λ e. absurd cc) w) is;
      each = λ j i e. known_more y h ms us B B k k j i more (f.each j i e);
      dead = λ q w is. f.dead q (before (messages.Propose q) (λ e. absurd cc) w) is;
      acks = λ s j r p after i w e ph t b. ack_by s j r p after i e ph t b w;
      nacks = λ s j why o p after i w e ph t. f.nacks s j why o p after i
          (before (messages.Nack k.name k.launch s j why o) (λ e. absurd cc) w) e ph t;
    }
  where
    us : List Message
    us = messages.Ack name launch serial n row ∷ ms

    before : (m : Message) → (messages.Ack name launch serial n row ≡ m → ⊥) → WasSaid m us → WasSaid m ms
    before m apart (inl e) = absurd (apart e)
    before m apart (inr w) = w

    more : {j : ℕ} → IsMore h ms us B B k k j
    more = record {
      same = record { name = refl; launch = refl; serial = omega arith };
      said = λ q w. inr w;
      mine = λ q w is at. before (messages.Propose q) (λ e. absurd cc) w;
      begun = λ run of there owner b. b;
    }

    ack_by : (s j : ℕ) (r : Row) (p : Proposal) (after : After) (i : KnownInstance) → known_instance k j ≡ Some i
        → i.phase ≡ phases.Waiting p after → p.serial ≡ s → is_begun p.step ≡ true
        → (messages.Ack name launch serial n row ≡ messages.Ack k.name k.launch s j r)
        ⊎ WasSaid (messages.Ack k.name k.launch s j r) ms → IsStill h k j s
    ack_by s j r p after i e ph t b (inl same) =
        let a = ack_parts name k.name launch k.launch serial s n j row r same in
        subst (λ (x : ℕ). IsStill h k x s) a.3 (subst (IsStill h k n) a.2 (still a.0 a.1))
    ack_by s j r p after i e ph t b (inr w) = f.acks s j r p after i w e ph t b

-- a nack is true if it is for another restarter or launch, or if it refuses the awaited proposal
pub informed_nack : (y : History) (h : Holdings) (ms : List Message) (B : ℕ → ℕ → Type 0) (k : Knowledge)
    (name : List ℕ) (launch serial n : ℕ) (why : Why) (row : Option Row)
    → (name ≡ k.name → launch ≡ k.launch → (q : Proposal) → WasProposed q ms → IsMine k q → q.serial ≡ serial
    → IsRefusal h k q why row) → IsInformed y h ms B k
    → IsInformed y h (messages.Nack name launch serial n why row ∷ ms) B k
informed_nack y h ms B k name launch serial n why row refuses f =
    record {
      launch = f.launch;
      launched = f.launched;
      rises = f.rises;
      blank = f.blank;
      unserved = f.unserved;
      idle = f.idle;
      serial = λ q w is. f.serial q (before (messages.Propose q) (λ e. absurd cc) w) is;
      each = λ j i e. known_more y h ms us B B k k j i more (f.each j i e);
      dead = λ q w is. f.dead q (before (messages.Propose q) (λ e. absurd cc) w) is;
      acks = λ s j r p after i w e ph t b. f.acks s j r p after i
          (before (messages.Ack k.name k.launch s j r) (λ e. absurd cc) w) e ph t b;
      nacks = λ s j v o p after i w e ph t. nack_by s j v o p after i e ph t w;
    }
  where
    us : List Message
    us = messages.Nack name launch serial n why row ∷ ms

    before : (m : Message) → (messages.Nack name launch serial n why row ≡ m → ⊥) → WasSaid m us → WasSaid m ms
    before m apart (inl e) = absurd (apart e)
    before m apart (inr w) = w

    more : {j : ℕ} → IsMore h ms us B B k k j
    more = record {
      same = record { name = refl; launch = refl; serial = omega arith };
      said = λ q w. inr w;
      mine = λ q w is at. before (messages.Propose q) (λ e. absurd cc) w;
      begun = λ run of there owner b. b;
    }

    nack_by : (s j : ℕ) (v : Why) (o : Option Row) (p : Proposal) (after : After) (i : KnownInstance)
        → known_instance k j ≡ Some i → i.phase ≡ phases.Waiting p after → p.serial ≡ s
        → (messages.Nack name launch serial n why row ≡ messages.Nack k.name k.launch s j v o)
        ⊎ WasSaid (messages.Nack k.name k.launch s j v o) ms → IsRefusal h k p v o
    nack_by s j v o p after i e ph t (inl same) =
        let a = nack_parts name k.name launch k.launch serial s n j why v row o same in
        let w = waiting_at y h ms B k j i p after f e ph in
        subst (IsRefusal h k p v) a.5
        (subst (λ (x : Why). IsRefusal h k p x row) a.4 (refuses a.0 a.1 p w.said w.mine (t ∙ sym a.2)))
    nack_by s j v o p after i e ph t (inr w) = f.nacks s j v o p after i w e ph t

-- ---- the answer to a proposal

last_still : (h : Holdings) (k : Knowledge) (p : Proposal) (r : Row) → IsLast h p r → p.proposer ≡ k.name
    → p.launch ≡ k.launch → IsStill h k p.instance p.serial
last_still h k p r l a b =
    record { of = l.of; there = l.there; owner = l.owner ∙ a; launch = l.launch ∙ b; serial_is = l.serial }

refusal_of : (y : History) (h : Holdings) (ms : List Message) (B : ℕ → ℕ → Type 0) (k : Knowledge) (p : Proposal)
    (why : Why) (o : Option Row) → AreSaid h ms → WasProposed p ms → IsRefused h p why o → IsInformed y h ms B k
    → p.proposer ≡ k.name → p.launch ≡ k.launch → (q : Proposal) → WasProposed q ms → IsMine k q → q.serial ≡ p.serial
    → IsRefusal h k q why o
refusal_of y h ms B k p why o said was x f name launch q w mine serial =
    subst (λ (z : Proposal). IsRefusal h k z why o) (sym same)
    (record {
      dead = λ i there owner low. refused_dead h p why o (proposal_is h ms p said was) now x i there
          (owner ∙ sym name) low;
      row = λ r e apart. by why o r x.reason e apart ∙ name;
    })
  where
    same : q ≡ p
    same = said.once q p w was (mine.proposer ∙ sym name) (mine.launch ∙ sym launch) serial

    now : p.launch ≡ launch_of h p.proposer
    now = launch ∙ (f.launch ∙ ap (launch_of h) (sym name))

    of_row : (s r : Row) → Some s ≡ Some r → s.owner ≡ p.proposer → r.owner ≡ p.proposer
    of_row s r e own = let g : s ≡ r = cc in ap (λ (z : Row). z.owner) (sym g) ∙ own

    is_present : (p.launch ≡ 0) ⊎ (p.launch ≡ launch_of h p.proposer → ⊥) → ⊥
    is_present (inl zero) = let l = f.launched in omega arith
    is_present (inr other) = other now

    by : (v : Why) (z : Option Row) (r : Row) → Refuses h p v z → z ≡ Some r → (v ≡ whys.Owner → ⊥)
        → r.owner ≡ p.proposer
    by whys.NoSuch None r e g apart = absurd (let t : None ≡ Some r = g in cc)
    by whys.NoSuch (Some s) r e g apart = absurd e
    by whys.Launch None r e g apart = absurd e
    by whys.Launch (Some s) r e g apart = absurd (is_present e)
    by whys.Owner z r e g apart = absurd (apart refl)
    by whys.Number None r e g apart = absurd e
    by whys.Number (Some s) r e g apart = of_row s r g e.0
    by whys.Snapshot None r e g apart = absurd e
    by whys.Snapshot (Some s) r e g apart = of_row s r g e.0
    by (whys.Step fault) None r e g apart = absurd e
    by (whys.Step fault) (Some s) r e g apart = of_row s r g e.0

unmade : (h : Holdings) (cs : List Change) → cs ≡ [] → holdings_after_changes h cs ≡ h
unfolding holdings_after_changes
unmade h cs e = ap (holdings_after_changes h) e

-- a restarter is informed after the answer if it is informed after the command
pub informed_answer : (y : History) (h : Holdings) (ms : List Message) (B : ℕ → ℕ → Type 0) (k : Knowledge)
    (p : Proposal) (a : Outcome)
    → AreFit h → AreSaid h ms → AreExplained h ms → WasProposed p ms → Answers h p a
    → IsInformed y (holdings_after_changes h a.changes) ms B k
    → IsInformed y (holdings_after_changes h a.changes) (reverse (answer_to p a.reply) ++ ms) B k
informed_answer y h ms B k p a fit said explained was x f = by x
  where
    g : Holdings
    g = holdings_after_changes h a.changes

    Behind : CommandReply → Type 0
    Behind r = IsInformed y g (reverse (answer_to p r) ++ ms) B k

    acked : (r : Row) → IsLast g p r → Behind (replies.Granted r)
    acked r l = informed_ack y g ms B k p.proposer p.launch p.serial p.instance r (λ s t. last_still g k p r l s t) f

    nacked : (why : Why) (r : Option Row) → g ≡ h → IsRefused h p why r → Behind (replies.Stale why r)
    nacked why r same z =
        informed_nack y g ms B k p.proposer p.launch p.serial p.instance why r
        (λ s t q w mine serial. subst (λ (e : Holdings). IsRefusal e k q why r) (sym same)
        (refusal_of y h ms B k p why r said was z (subst (λ (e : Holdings). IsInformed y e ms B k) same f) s t q w
        mine serial)) f

    by : Answers h p a → Behind a.reply
    by (anew r e z) = subst Behind (sym e) (acked r (given_last h p g r fit z))
    by (again r e none z) =
        subst Behind (sym e)
        (acked r (subst (λ (t : Holdings). IsLast t p r) (sym (unmade h a.changes none))
        (again_last h ms p r fit said explained was z)))
    by (refusing why r e none z) = subst Behind (sym e) (nacked why r (unmade h a.changes none) z)
    by (limited e none) = subst Behind (sym e) f

-- ---- a launch

-- a restarter is informed at first: no proposal that was said bears its launch
pub informed_first : (y : History) (h : Holdings) (ms : List Message) (B : ℕ → ℕ → Type 0) (name : List ℕ)
    (actor launch : ℕ) → launch ≡ launch_of h name → 1 ≤ launch
    → ((q : Proposal) → WasProposed q ms → q.proposer ≡ name → q.launch < launch)
    → IsInformed y h ms B (at_first name actor launch)
informed_first y h ms B name actor launch is low new =
    record {
      launch = is;
      launched = low;
      rises = tt;
      blank = λ e. refl;
      unserved = λ e. refl;
      idle = λ e n i there. absurd (let t : None ≡ Some i = there in cc);
      serial = λ q w mine. absurd (less q.launch launch mine.launch (new q w mine.proposer));
      each = λ n i there. absurd (let t : None ≡ Some i = there in cc);
      dead = λ q w mine. absurd (less q.launch launch mine.launch (new q w mine.proposer));
      acks = λ serial n r p after i w there ph t b. absurd (let e : None ≡ Some i = there in cc);
      nacks = λ serial n why o p after i w there ph t. absurd (let e : None ≡ Some i = there in cc);
    }
  where
    less : (a b : ℕ) → a ≡ b → a < b → ⊥
    less a b e l = omega arith

-- ---- steps of others

abbrev Other : History → Holdings → List Message → (ℕ → ℕ → Type 0) → Knowledge → Doing → Type 0
Other y h ms C l d = IsInformed y h (reverse d.said ++ ms) C l

-- a step of k keeps what holds of what l knows
pub informed_other : (y : History) (h : Holdings) (ms : List Message) (B C : ℕ → ℕ → Type 0) (k l : Knowledge)
    (d : Doing) (T : Message → Type 0)
    → (k.name ≡ l.name → ⊥) → BegunBy B d.begun C → Does k T d → IsInformed y h ms B k → IsInformed y h ms B l
    → IsInformed y h (reverse d.said ++ ms) C l
informed_other y h ms B C k l d T apart begun does f g = by does
  where
    to : (e : Doing) → d ≡ e → Other y h ms C l e → Other y h ms C l d
    to e same o = subst (Other y h ms C l) (sym same) o

    no_runs : (e : Doing) → d ≡ e → e.begun ≡ [] → (n run : ℕ) (of : Instance) → instance h n ≡ Some of
        → of.row.owner ≡ l.name → C n run → B n run
    no_runs e same empty n run of there owner c = run_by (subst (λ (x : Doing). IsBegunOrIn x) same (begun n run c))
      where
        IsBegunOrIn : Doing → Type 0
        IsBegunOrIn x = B n run ⊎ IsBegunIn n run x.begun

        run_by : B n run ⊎ IsBegunIn n run e.begun → B n run
        run_by (inl b) = b
        run_by (inr b) = absurd (subst (IsBegunIn n run) empty b)

    silent : (e : Doing) → d ≡ e → e.begun ≡ [] → e.said ≡ [] → Other y h ms C l d
    silent e same empty quiet =
        subst (λ (xs : List Message). IsInformed y h (reverse xs ++ ms) C l)
        (sym (ap (λ (x : Doing). x.said) same ∙ quiet))
        (informed_elsewhere y h ms ms B C l (elsewhere_same ms l) (no_runs e same empty) g)

    owner_is : (n : ℕ) (of j : Instance) → instance h n ≡ Some of → instance h n ≡ Some j → of ≡ j
    owner_is n of j p q = let e : Some of ≡ Some j = sym p ∙ q in cc

    -- a run that k begins is of an instance that l does not own
    owes : (i : KnownInstance) (o : Owed) → IsAt k i → i.phase ≡ phases.Owes o → (e : Doing) → d ≡ e → e.said ≡ []
        → ((n run : ℕ) → IsBegunIn n run e.begun → n ≡ i.instance) → Other y h ms C l d
    owes i o at ph e same quiet only =
        subst (λ (xs : List Message). IsInformed y h (reverse xs ++ ms) C l)
        (sym (ap (λ (x : Doing). x.said) same ∙ quiet))
        (informed_elsewhere y h ms ms B C l (elsewhere_same ms l)
        (λ n run of there owner c. run_by n run of there owner
        (subst (λ (x : Doing). B n run ⊎ IsBegunIn n run x.begun) same (begun n run c))) g)
      where
        a : IsOwing y h B k i.instance i.row o
        a = owing_at y h ms B k i o f at ph

        run_by : (n run : ℕ) (of : Instance) → instance h n ≡ Some of → of.row.owner ≡ l.name
            → B n run ⊎ IsBegunIn n run e.begun → B n run
        run_by n run of there owner (inl b) = b
        run_by n run of there owner (inr b) =
            let here : instance h n ≡ Some a.of =
            subst (λ (m : ℕ). instance h m ≡ Some a.of) (sym (only n run b)) a.there in
            absurd (apart (sym a.owner ∙ (ap (λ (x : Instance). x.row.owner) (owner_is n a.of of here there) ∙ owner)))

    by : Does k T d → Other y h ms C l d
    by (rests run call e) = silent _ e refl refl
    by (joins stage e) =
        to _ e (informed_elsewhere y h ms (messages.Join k.name k.launch ∷ ms) B C l
        (elsewhere_aside ms (messages.Join k.name k.launch) l tt) (no_runs _ e refl) g)
    by (repeats i p after at ph e) =
        to _ e (informed_elsewhere y h ms (messages.Propose p ∷ ms) B C l
        (elsewhere_proposed ms p l (λ is. (awaited_at y h ms B k i p after f at ph).said)) (no_runs _ e refl) g)
    by (proposes i step after stage why e) =
        to _ e (informed_elsewhere y h ms (messages.Propose (proposal k i step) ∷ ms) B C l
        (elsewhere_proposed ms (proposal k i step) l (λ is. absurd (apart is.proposer))) (no_runs _ e refl) g)
    by (granted i p after name row at ph t e) = silent _ e refl refl
    by (refused i p after name why row at ph t differs e) = silent _ e refl refl
    by (forgets i p after name why row at ph t reason e) = silent _ e refl refl
    by (learns name rows stage t e) = silent _ e refl refl
    by (lists ss stage e) = silent _ e refl refl
    by (spawns i o c cookie at ph packs e) = owes i o at ph _ e refl (λ n run b. only_one i o n run b)
      where
        only_one : (i : KnownInstance) (o : Owed) (n run : ℕ) → ((i.instance ≡ n) × (o.run ≡ run)) ⊎ ⊥ → n ≡ i.instance
        only_one i o n run (inl b) = sym b.0
        only_one i o n run (inr b) = absurd b
    by (builds i o call at ph e) = owes i o at ph _ e refl (λ n run b. only_one i o n run b)
      where
        only_one : (i : KnownInstance) (o : Owed) (n run : ℕ) → ((i.instance ≡ n) × (o.run ≡ run)) ⊎ ⊥ → n ≡ i.instance
        only_one i o n run (inl b) = sym b.0
        only_one i o n run (inr b) = absurd b
    by (turns i method x run call at active is_end e) = silent _ e refl refl
