-- A node and its children agree when they begin with the contracts that are found, and when the past is forgotten.
use Rattle.std.proofs.Common.{◌≡◌, ℕ, ◌+◌, List, [], ◌∷◌, ◌++◌, Bool, true, false, cond, filter, map, reverse, length, refl, sym, ap, subst, ◌∙◌, arith, append-nil}
use Rattle.std.specs.Prelude.{flat_map}
use Rattle.smf_contract.specs.declared.contract.Contract.{Contract}
use Rattle.smf_contract.specs.declared.contract.Holder.{Holder}
use Rattle.smf_contract.specs.declared.contract.Holder.TheVariants.{Held, Inherited}
use Rattle.smf_contract.specs.declared.contract.Member.{Member}
use Rattle.smf_contract.specs.declared.event.ContractEvent.{ContractEvent}
use Rattle.smf_contract.specs.declared.event.EventKind.{EventKind}
use Rattle.smf_contract.specs.declared.event.EventKind.TheVariants as kinds
use Rattle.smf_contract.specs.declared.found.Found.{Found}
use Rattle.smf_contract.specs.Begun.{table_of_found}
use Rattle.smf_contract.specs.Entries.{Contracts, empty, has_members}
use Rattle.smf_contract.specs.Laws.{Ascends, IsOrdered}
use Rattle.smf_contract.specs.Thinned.{thinned}
use Rattle.smf_contract.proofs.After.{calls_order}
use Rattle.smf_contract.proofs.Begun.{all_held, table_ordered}
use Rattle.smf_contract.proofs.ThinTables.{thinned_ordered}
use Rattle.smf_model.specs.Contents.{Holdings}
use Rattle.smf_edge.specs.Beginnings.{held_table}
use Rattle.smf_edge.specs.Ledgers.{Ledger, ledger_over, record_of, remaining}
use Rattle.smf_world.specs.World.{World}
use Rattle.smf_past.specs.Forgotten.{forgotten}
use Rattle.smf_past.specs.Lived.{continued}
use Rattle.smf_past.specs.Remains.{remains}
use Rattle.smf_script.specs.Agrees.{AgreesSince, AreAlike, ArePast, Before, IsPast, before_over, before_trail, bond_by, bond_of, contract_without_holder, passages_in, start_by, starts_of}

-- ---- tables

unheld_held : (h : Holder) (cs : List Contract)
    → map contract_without_holder cs ≡ map contract_without_holder (map (λ (c : Contract). record c { holder = h }) cs)
unheld_held h [] = refl
unheld_held h (c ∷ cs) = ap (λ xs. contract_without_holder c ∷ xs) (unheld_held h cs)

pub alike_held : (h : Holder) (t : Contracts) → AreAlike t (held_table h t)
alike_held h t =
    record {
      contracts = unheld_held h t.contracts;
      members = refl;
      events = refl;
      last_contract = refl;
      last_process = refl;
    }

-- ---- beginnings

none_more : (n : ℕ) → n ≡ n + (0 + 0)
none_more n = omega arith

pub agree_continued : (h : Holdings) (t u : Contracts) → IsOrdered u → AreAlike t u
    → AgreesSince (before_over t) (continued h t) (ledger_over u)
agree_continued h t u o a =
    record {
      starts = refl;
      made = ([], append-nil (map bond_of t.contracts));
      counted = none_more t.last_process;
      alike = a;
      noted = ([], append-nil (flat_map passages_in t.events));
      past = tt;
      ordered = o;
    }

same_found : (who other : Holder) (last : ℕ) (fs : List Found)
    → table_of_found who last fs ≡ held_table who (table_of_found other last fs)
same_found who other last fs =
    sym (ap (λ (t : Contracts). record t { last_contract = last }) (all_held who other empty fs))

-- both sides have the contracts that are found: nobody holds the node's, and the children hold theirs
pub agree_found : (h : Holdings) (last : ℕ) (fs : List Found) → Ascends 0 (map (λ (f : Found). f.id) fs) last
    → AgreesSince (before_over (table_of_found Inherited last fs)) (continued h (table_of_found Inherited last fs))
    (ledger_over (table_of_found (Held 0) last fs))
agree_found h last fs up =
    let t : Contracts = table_of_found Inherited last fs in
    let u : Contracts = table_of_found (Held 0) last fs in
    agree_continued h t u (table_ordered (Held 0) empty fs last up (calls_order []))
    (subst (AreAlike t) (sym (same_found (Held 0) Inherited last fs)) (alike_held (Held 0) t))

-- ---- what remains

pub agree_forgotten : (b : Before) (w : World) (l : Ledger) → AgreesSince b w l
    → AgreesSince (before_trail b w) (forgotten w) l
agree_forgotten b w l a =
    record {
      starts = append-nil (b.starts ++ flat_map starts_of (reverse w.trail)) ∙ a.starts;
      made = a.made;
      counted = a.counted;
      alike = a.alike;
      noted = a.noted;
      past = a.past;
      ordered = a.ordered;
    }

-- the contracts that stay are the same, whoever holds them
kept_unheld : (q : ℕ → Bool) (cs : List Contract)
    → map contract_without_holder (filter (λ (c : Contract). q c.id) cs)
    ≡ filter (λ (c : Contract). q c.id) (map contract_without_holder cs)
kept_unheld q [] = refl
kept_unheld q (c ∷ cs) = by (q c.id) (kept_unheld q cs)
  where
    left : List Contract
    left = filter (λ (x : Contract). q x.id) cs

    by : (b : Bool)
        → map contract_without_holder left ≡ filter (λ (x : Contract). q x.id) (map contract_without_holder cs)
        → map contract_without_holder (cond b (c ∷ left) left)
        ≡ cond b (contract_without_holder c ∷ filter (λ (x : Contract). q x.id) (map contract_without_holder cs))
        (filter (λ (x : Contract). q x.id) (map contract_without_holder cs))
    by true ih = ap (λ xs. contract_without_holder c ∷ xs) ih
    by false ih = ih

alike_thinned : (t u : Contracts) → AreAlike t u → AreAlike (thinned t) (thinned u)
alike_thinned t u a =
    record {
      contracts = kept_unheld (λ n. has_members n t.members) t.contracts
          ∙ ap (filter (λ (c : Contract). has_members c.id t.members)) a.contracts
          ∙ ap (λ (ms : List Member). filter (λ (c : Contract). has_members c.id ms)
          (map contract_without_holder u.contracts)) a.members
          ∙ sym (kept_unheld (λ n. has_members n u.members) u.contracts);
      members = a.members;
      events = ap (filter (λ (e : ContractEvent). has_members e.contract t.members)) a.events
          ∙ ap (λ (ms : List Member). filter (λ (e : ContractEvent). has_members e.contract ms) u.events) a.members;
      last_contract = a.last_contract;
      last_process = a.last_process;
    }

past_kind : (t : Contracts) (k : EventKind) → IsPast t k → IsPast (thinned t) k
past_kind t kinds.Empty p = tt
past_kind t (kinds.Exit n exit) p = p
past_kind t (kinds.Fork n) p = absurd p
past_kind t (kinds.Core n) p = absurd p
past_kind t (kinds.Signal n) p = absurd p
past_kind t (kinds.Hwerr n) p = absurd p

past_thinned : (t : Contracts) (es : List ContractEvent) → ArePast t es → ArePast (thinned t) es
past_thinned t [] a = tt
past_thinned t (e ∷ es) a = (past_kind t e.kind a.0, past_thinned t es a.1)

pub agree_remaining : (b : Before) (w : World) (l : Ledger) → AgreesSince b w l
    → AgreesSince (before_over (remains w).table) (remains w) (remaining l)
agree_remaining b w l a =
    record {
      starts = refl;
      made = ([], append-nil (map bond_of (thinned w.table).contracts));
      counted = none_more w.table.last_process;
      alike = alike_thinned w.table l.table a.alike;
      noted = ([], append-nil (flat_map passages_in (thinned w.table).events));
      past = past_thinned l.table l.due a.past;
      ordered = thinned_ordered l.table a.ordered;
    }
