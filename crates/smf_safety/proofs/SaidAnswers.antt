-- The answers to a proposal may be said.
use Rattle.std.proofs.Common.{◌≡◌, ◌⊎◌, inl, inr, ℕ, ◌≤◌, List, [], Option, Some, None, refl, sym, ap, ◌∙◌, subst, arith}
use Rattle.smf_state.specs.declared.row.Row.{Row}
use Rattle.smf_state.specs.declared.step.Proposal.{Proposal}
use Rattle.smf_model.specs.declared.change.Change.{Change}
use Rattle.smf_model.specs.declared.change.Outcome.{Outcome}
use Rattle.smf_model.specs.declared.command.CommandReply.{CommandReply}
use Rattle.smf_model.specs.declared.command.CommandReply.TheVariants as replies
use Rattle.smf_state.specs.declared.refusal.Why.{Why}
use Rattle.smf_state.specs.declared.refusal.Why.TheVariants as whys
use Rattle.smf_model.specs.declared.held.Instance.{Instance}
use Rattle.smf_model.specs.Contents.{Holdings}
use Rattle.smf_model.specs.Laws.{IsNumbered, Stays}
use Rattle.smf_model.specs.Look.{holdings_after_changes, instance, launch_of}
use Rattle.smf_wire.specs.declared.message.Message.{Message}
use Rattle.smf_wire.specs.declared.message.Message.TheVariants as messages
use Rattle.smf_world.specs.Worked.{answer_to}
use Rattle.smf_world.proofs.LiveEach.{each_in}
use Rattle.smf_world.proofs.RowClauses.{AreExplained, AreFit, IsLeft, WasGranted, WasProposed}
use Rattle.smf_world.proofs.RowMoves.{Answers, IsAgain, IsGranted, IsRefused, IsRowRead, Refuses, again, anew, limited, refused}
use Rattle.smf_safety.proofs.RowLater.{IsGiven, is_given, left_stays, read_stays, was_now, was_read}
use Rattle.smf_safety.proofs.SaidClauses.{AllMayBeSaid, AreSaid, HasRowBut, IsAck, IsAnswer, IsProposal, IsRowOfBut, IsSaid, WasRowIf}

-- ---- an instance's last granted proposal

-- the row of the instance is what a proposal left: the row's owner, launch and serial are the proposal's
pub record IsLast (k : Holdings) (p : Proposal) (r : Row) : Type 0 where
  pub of : Instance
  pub there : instance k p.instance ≡ Some of
  pub owner : of.row.owner ≡ p.proposer
  pub launch : of.row.launch ≡ p.launch
  pub serial : of.row.serial ≡ p.serial
  pub number : of.row.number ≡ p.number
  pub left : IsLeft p.step of.row
  pub stays : Stays of.row r

pub given_last : (h : Holdings) (p : Proposal) (k : Holdings) (r : Row) → AreFit h → IsGranted h p k r → IsLast k p r
given_last h p k r fit g =
    let f = fit p.instance g.before g.there in
    let x : IsGiven p g.before.row g.after.row =
    is_given h k.next_snapshot p g.before.row g.after.row g.grant f.shape f.runs in
    record {
      of = g.after;
      there = g.is;
      owner = x.owner;
      launch = x.launch;
      serial = x.serial;
      number = x.number;
      left = x.left;
      stays = subst (Stays g.after.row) g.row (record { same = refl; owner = inr refl });
    }

-- the proposal that was granted last explains the row
pub again_last : (h : Holdings) (ms : List Message) (p : Proposal) (r : Row) → AreFit h → AreSaid h ms
    → AreExplained h ms → WasProposed p ms → IsAgain h p r → IsLast h p r
again_last h ms p r fit said explained was a =
    let q : IsProposal h p = each_in (IsSaid h ms) (messages.Propose p) ms said.each was in
    let launch : a.of.row.launch ≡ p.launch = ap (λ (x : Row). x.launch) (sym a.reads.same) ∙ a.launch in
    let serial : a.of.row.serial ≡ p.serial = ap (λ (x : Row). x.serial) (sym a.reads.same) ∙ a.serial in
    let served : 1 ≤ a.of.row.launch = (let l = q.launched in omega arith) in
    let owner : a.of.row.owner ≡ p.proposer = owned served a.reads.owner in
    let g : WasGranted ms p.instance a.of.row = (explained p.instance a.of a.there).granted served in
    let same : g.by ≡ p = said.once g.by p g.said was (g.proposer ∙ owner) (g.launch ∙ launch) (g.serial ∙ serial) in
    record {
      of = a.of;
      there = a.there;
      owner = owner;
      launch = launch;
      serial = serial;
      number = sym g.number ∙ ap (λ (x : Proposal). x.number) same;
      left = subst (λ (x : Proposal). IsLeft x.step a.of.row) same g.left;
      stays = read_stays a.of.row r a.reads;
    }
  where
    owned : 1 ≤ a.of.row.launch → (a.of.row.number ≡ 0) ⊎ (r.owner ≡ a.of.row.owner) → a.of.row.owner ≡ p.proposer
    owned le (inl e) = absurd (let none = ((fit p.instance a.of a.there).zero e).launch in omega arith)
    owned le (inr e) = sym e ∙ a.owner

-- ---- the answers

abbrev MayAnswer : Holdings → List Message → Proposal → CommandReply → Type 0
MayAnswer k ms p r = AllMayBeSaid k ms (answer_to p r)

is_answer : (ms : List Message) (p : Proposal) → WasProposed p ms
    → IsAnswer ms p.proposer p.launch p.serial p.instance p
is_answer ms p was = record { said = was; proposer = refl; launch = refl; serial = refl; at = refl }

-- granted anew
acks_new : (h : Holdings) (ms : List Message) (p : Proposal) (k : Holdings) (r : Row) → IsNumbered k → AreFit h
    → ((name : List ℕ) → launch_of h name ≤ launch_of k name) → IsProposal h p → WasProposed p ms → IsGranted h p k r
    → MayAnswer k ms p (replies.Granted r)
acks_new h ms p k r numbered fit rise q was g =
    let f = fit p.instance g.before g.there in
    let x : IsGiven p g.before.row g.after.row =
    is_given h k.next_snapshot p g.before.row g.after.row g.grant f.shape f.runs in
    let ack : IsAck k ms p.proposer p.launch p.serial p.instance g.after.row = record {
      bound = (let a = q.launch in let b = rise p.proposer in omega arith);
      was = was_now k p.instance g.after numbered g.is;
      to = p;
      answers = is_answer ms p was;
      owner = x.owner;
      launch_is = x.launch;
      serial_is = x.serial;
      number = x.number;
      left = x.left;
    } in
    (record { is = subst (IsAck k ms p.proposer p.launch p.serial p.instance) g.row ack; once = tt }, tt)

-- granted again
acks_again : (h : Holdings) (ms : List Message) (p : Proposal) (r : Row) → IsNumbered h → AreFit h → AreSaid h ms
    → AreExplained h ms → WasProposed p ms → IsAgain h p r → MayAnswer h ms p (replies.Granted r)
acks_again h ms p r numbered fit said explained was a =
    let q : IsProposal h p = each_in (IsSaid h ms) (messages.Propose p) ms said.each was in
    let l : IsLast h p r = again_last h ms p r fit said explained was a in
    let ack : IsAck h ms p.proposer p.launch p.serial p.instance r = record {
      bound = q.launch;
      was = was_read h p.instance a.of r numbered a.there a.reads;
      to = p;
      answers = is_answer ms p was;
      owner = a.owner;
      launch_is = a.launch;
      serial_is = a.serial;
      number = ap (λ (x : Row). x.number) l.stays.same ∙ l.number;
      left = left_stays l.of.row r p.step l.stays l.left;
    } in
    (record { is = ack; once = tt }, tt)

-- refused
nacks : (h : Holdings) (ms : List Message) (p : Proposal) (why : Why) (r : Option Row) → IsNumbered h → IsProposal h p
    → WasProposed p ms → IsRefused h p why r → MayAnswer h ms p (replies.Stale why r)
nacks h ms p why r numbered q was x = (
  record {
    is = record {
      bound = q.launch;
      was = read_was r x.row;
      told = has_row why r x.reason;
      owner = of_owner why r x.reason;
      to = p;
      answers = is_answer ms p was;
    };
    once = tt;
  },
  tt,
)
  where
    read_was : (o : Option Row) → IsRowRead h p.instance o → WasRowIf h p.instance o
    read_was None e = tt
    read_was (Some s) (i, at, t) = was_read h p.instance i s numbered at t

    has_row : (w : Why) (o : Option Row) → Refuses h p w o → HasRowBut w o
    has_row whys.NoSuch None e = tt
    has_row whys.NoSuch (Some s) e = tt
    has_row whys.Launch None e = e
    has_row whys.Launch (Some s) e = tt
    has_row whys.Owner None e = e
    has_row whys.Owner (Some s) e = tt
    has_row whys.Number None e = e
    has_row whys.Number (Some s) e = tt
    has_row whys.Snapshot None e = e
    has_row whys.Snapshot (Some s) e = tt
    has_row (whys.Step fault) None e = e
    has_row (whys.Step fault) (Some s) e = tt

    of_owner : (w : Why) (o : Option Row) → Refuses h p w o → IsRowOfBut w p.proposer o
    of_owner whys.NoSuch o e = tt
    of_owner whys.Launch o e = tt
    of_owner whys.Owner o e = tt
    of_owner whys.Number None e = tt
    of_owner whys.Number (Some s) e = e.0
    of_owner whys.Snapshot None e = tt
    of_owner whys.Snapshot (Some s) e = e.0
    of_owner (whys.Step fault) None e = tt
    of_owner (whys.Step fault) (Some s) e = e.0

unmade : (h : Holdings) (cs : List Change) → cs ≡ [] → holdings_after_changes h cs ≡ h
unfolding holdings_after_changes
unmade h cs e = ap (holdings_after_changes h) e

pub may_answer : (h : Holdings) (ms : List Message) (p : Proposal) (a : Outcome) → IsNumbered h
    → IsNumbered (holdings_after_changes h a.changes)
    → ((name : List ℕ) → launch_of h name ≤ launch_of (holdings_after_changes h a.changes) name)
    → AreFit h → AreSaid h ms → AreExplained h ms → WasProposed p ms → Answers h p a
    → MayAnswer (holdings_after_changes h a.changes) ms p a.reply
may_answer h ms p a b n rise fit said explained was (anew r e g) =
    subst (MayAnswer (holdings_after_changes h a.changes) ms p) (sym e)
    (acks_new h ms p (holdings_after_changes h a.changes) r n fit rise
    (each_in (IsSaid h ms) (messages.Propose p) ms said.each was) was g)
may_answer h ms p a b n rise fit said explained was (again r e none g) =
    subst (λ (k : Holdings). MayAnswer k ms p a.reply) (sym (unmade h a.changes none))
    (subst (MayAnswer h ms p) (sym e) (acks_again h ms p r b fit said explained was g))
may_answer h ms p a b n rise fit said explained was (refused why r e none x) =
    subst (λ (k : Holdings). MayAnswer k ms p a.reply) (sym (unmade h a.changes none))
    (subst (MayAnswer h ms p) (sym e)
    (nacks h ms p why r b (each_in (IsSaid h ms) (messages.Propose p) ms said.each was) was x))
may_answer h ms p a b n rise fit said explained was (limited e none) =
    subst (MayAnswer (holdings_after_changes h a.changes) ms p) (sym e) tt
