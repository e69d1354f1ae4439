-- Restarters owe only starts that are well decided and runs that were never begun, by the facts that they know.
use Rattle.std.proofs.Common.{◌≡◌, ℕ, List, Some, sym, ap, ◌∙◌, subst}
use Rattle.std.specs.Ordering.{nat_cmp}
use Rattle.smf_fmri.specs.ByKey.{has_key}
use Rattle.smf_fmri.proofs.Lookups.{equal_from_test}
use Rattle.smf_contract.specs.declared.cookie.Method.{Method}
use Rattle.smf_state.specs.declared.row.Row.{Row}
use Rattle.smf_method.specs.declared.call.MethodCall.{MethodCall}
use Rattle.smf_model.specs.declared.held.Instance.{Instance}
use Rattle.smf_model.specs.History.{History}
use Rattle.smf_model.specs.Contents.{Holdings}
use Rattle.smf_model.specs.Laws.{Stays}
use Rattle.smf_model.specs.Look.{instance}
use Rattle.smf_model.proofs.LawLists.{found_passes}
use Rattle.smf_wire.specs.declared.message.Message.{Message}
use Rattle.smf_restarter.specs.declared.known.KnownInstance.{KnownInstance}
use Rattle.smf_restarter.specs.declared.known.Owed.{Owed}
use Rattle.smf_restarter.specs.Knowledge.{Knowledge, by_instance, known_instance}
use Rattle.smf_world.specs.declared.item.Item.{Item}
use Rattle.smf_world.specs.Safe.{WasSpawned}
use Rattle.smf_safety.proofs.DecidedEvents.{AreFresh, AreOwedWell}
use Rattle.smf_safety.proofs.DecidedStarts.{IsOwedStart}
use Rattle.smf_safety.proofs.KnowClauses.{IsInformed, IsInPhase, IsOwing as OwesWell, IsOwedAs, IsStartOwed, IsStarting, IsUnder, run_under}
use Rattle.smf_world.proofs.LiveEach.{each_in}
use Rattle.smf_world.proofs.LiveLists.{Each}
use Rattle.smf_world.proofs.RowClauses.{WasRow}
use Rattle.smf_world.proofs.TablesWalked.{IsOwing}

abbrev pub begun_on : List Item → ℕ → ℕ → Type 0
begun_on trail n run = WasSpawned n run trail

-- each launched restarter is informed
abbrev pub AllInformed : History → Holdings → List Message → List Item → List Knowledge → Type 0
AllInformed y h ms trail ks = Each (IsInformed y h ms (begun_on trail)) ks

pub known_number : (k : Knowledge) (n : ℕ) (i : KnownInstance) → known_instance k n ≡ Some i → i.instance ≡ n
known_number k n i e =
    by_instance.exact i.instance n
    (equal_from_test (nat_cmp i.instance n) (found_passes (has_key by_instance n) k.instances i e))

owes_well : (y : History) (h : Holdings) (ms : List Message) (trail : List Item) (ks : List Knowledge)
    → AllInformed y h ms trail ks → (s : IsOwing ks)
    → OwesWell y h (begun_on trail) s.restarter s.instance s.of.row s.owed
owes_well y h ms trail ks all s =
    let k : IsInformed y h ms (begun_on trail) s.restarter =
    each_in (IsInformed y h ms (begun_on trail)) s.restarter ks all s.is_launched in
    subst (IsInPhase y h ms (begun_on trail) s.restarter s.instance s.of.row) s.owes
    (k.each s.instance s.of s.is_known).phase

was_row : (y : History) (h : Holdings) (ms : List Message) (trail : List Item) (ks : List Knowledge)
    → AllInformed y h ms trail ks → (s : IsOwing ks) → WasRow h s.instance s.of.row
was_row y h ms trail ks all s =
    ((each_in (IsInformed y h ms (begun_on trail)) s.restarter ks all s.is_launched).each s.instance s.of
    s.is_known).was

-- no run that is owed was begun
pub are_fresh : (y : History) (h : Holdings) (ms : List Message) (trail : List Item) (ks : List Knowledge)
    → AllInformed y h ms trail ks → AreFresh ks trail
are_fresh y h ms trail ks all s w =
    (owes_well y h ms trail ks all s).fresh
    (subst (λ (n : ℕ). WasSpawned n s.owed.run trail) (known_number s.restarter s.instance s.of s.is_known) w)

owed_start : (y : History) (h : Holdings) (n : ℕ) (r : Row) (o : Owed) (of : Instance) → IsStarting r
    → r.live ≡ Some o.run → IsStartOwed y n r o → Stays r of.row → instance h n ≡ Some of
    → IsOwedStart y h n o.run o.revision o.call.command
owed_start y h n r o of starting live owed stays there =
    record {
      of = of;
      number = owed.number;
      snapshot = owed.snapshot;
      read = owed.read;
      row = owed.decided;
      is_there = there;
      offline = ap (λ (x : Row). x.state) stays.same ∙ starting.state;
      next = ap (λ (x : Row). x.next) stays.same ∙ starting.next;
      live = ap (λ (x : Row). x.live) stays.same ∙ live;
      base = ap (λ (x : Row). x.base) stays.same ∙ owed.base;
      begun = ap (λ (x : Row). x.begun) stays.same ∙ owed.begun;
      number_is = ap (λ (x : Row). x.number) stays.same ∙ owed.counted;
      ready = owed.ready;
      command_is = ap (λ (c : MethodCall). c.command) (sym owed.call);
    }

-- each start that is owed was decided and announced
pub are_owed_well : (y : History) (h : Holdings) (ms : List Message) (trail : List Item) (ks : List Knowledge)
    → AllInformed y h ms trail ks → AreOwedWell y h ks
are_owed_well y h ms trail ks all s e =
    let o : OwesWell y h (begun_on trail) s.restarter s.instance s.of.row s.owed = owes_well y h ms trail ks all s in
    let was : WasRow h s.instance s.of.row = was_row y h ms trail ks all s in
    let stays : Stays s.of.row o.of.row = (was.before o.of o.there).same (sym o.number) in
    let under : IsStarting s.of.row = subst (λ (m : Method). IsUnder m s.of.row) e o.under in
    let run : s.of.row.live ≡ Some s.owed.run = ap (λ (m : Method). run_under m s.of.row) (sym e) ∙ o.run in
    let begins : IsStartOwed y s.instance s.of.row s.owed =
    subst (λ (m : Method). IsOwedAs m y s.instance s.of.row s.owed) e o.begins in
    subst (λ (n : ℕ). IsOwedStart y h n s.owed.run s.owed.revision s.owed.call.command)
    (sym (known_number s.restarter s.instance s.of s.is_known))
    (owed_start y h s.instance s.of.row s.owed o.of under run begins stays o.there)
