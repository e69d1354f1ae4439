-- Contracts that are there when a table begins keep it in order.
use Rattle.std.proofs.Common.{◌≡◌, ◌<◌, ◌≤◌, ℕ, ◌+◌, ◌==◌, List, [], ◌∷◌, ◌++◌, map, drop, length, get_or, Bool, true, false, cond, Option, Some, None, refl, sym, ap, ◌∙◌, subst, arith}
use Rattle.std.specs.List.{AllByRecursion}
use Rattle.std.proofs.lemmas.List.{drop_more, map_push}
use Rattle.smf_contract.specs.declared.contract.Contract.{Contract}
use Rattle.smf_contract.specs.declared.contract.Holder.{Holder}
use Rattle.smf_contract.specs.declared.contract.Member.{Member}
use Rattle.smf_contract.specs.declared.event.ContractEvent.{ContractEvent}
use Rattle.smf_contract.specs.declared.event.EventKind.TheVariants as kinds
use Rattle.smf_contract.specs.declared.event.Exit.{Exit}
use Rattle.smf_contract.specs.declared.found.Found.{Found}
use Rattle.smf_contract.specs.Entries.{Contracts, last_event}
use Rattle.smf_contract.specs.Laws.{Ascends, Homed, IsOrdered, ids, is_among, numbers_of, numbers_up_to}
use Rattle.smf_contract.specs.Begun.{found_contract, found_events, found_member, with_all_found, with_found}
use Rattle.smf_contract.proofs.Numbered.{noted_numbered}
use Rattle.smf_contract.proofs.Ordered.{among_last, ascends_more, homed_more, homed_wider}

pub ascends_higher : (low : ℕ) (ns : List ℕ) (last top : ℕ) → last ≤ top → Ascends low ns last → Ascends low ns top
ascends_higher low [] last top h a = omega (arith, h, a)
ascends_higher low (n ∷ ns) last top h a = (a.0, ascends_higher n ns last top h a.1)

member_up : (last id : ℕ) (end : Option Exit) (ns : List ℕ) → Ascends 0 ns last
    → Ascends 0 (ns ++ (found_member last id end).process ∷ []) (last + 1 + 1)
member_up last id None ns a =
    ascends_higher 0 (ns ++ (last + 1) ∷ []) (last + 1) (last + 1 + 1) (omega arith)
    (ascends_more 0 ns last (last + 1) (omega arith) a)
member_up last id (Some exit) ns a = ascends_more 0 ns last (last + 1 + 1) (omega arith) a

member_home : (last id : ℕ) (end : Option Exit) → (found_member last id end).contract ≡ id
member_home last id None = refl
member_home last id (Some exit) = refl

events_numbered : (es : List ContractEvent) (last at : ℕ) (end : Option Exit)
    → ((id : ℕ) → numbers_of id es ≡ numbers_up_to (last_event id es)) → (id : ℕ)
    → numbers_of id (found_events es last at end) ≡ numbers_up_to (last_event id (found_events es last at end))
events_numbered es last at None h id = h id
events_numbered es last at (Some exit) h id = noted_numbered es at (kinds.Exit (last + 1) exit) true h id

pub found_ordered : (who : Holder) (t : Contracts) (f : Found) → t.last_contract < f.id → IsOrdered t
    → IsOrdered (with_found who t f)
unfolding with_found
found_ordered who t f later o =
    let c : Contract = found_contract who t.last_process f in
    let m : Member = found_member t.last_process f.id f.end in
    let same : ids (with_found who t f) ≡ ids t ++ f.id ∷ [] = map_push (λ (x : Contract). x.id) t.contracts c in
    record {
      contracts_ascend = subst (λ (ns : List ℕ). Ascends 0 ns f.id) (sym same)
          (ascends_more 0 (ids t) t.last_contract f.id later o.contracts_ascend);
      members_ascend = subst (λ (ns : List ℕ). Ascends 0 ns (t.last_process + 1 + 1))
          (sym (map_push (λ (x : Member). x.process) t.members m))
          (member_up t.last_process f.id f.end (map (λ (x : Member). x.process) t.members) o.members_ascend);
      homed = subst (λ (ns : List ℕ). Homed ns (t.members ++ m ∷ [])) (sym same)
          (homed_more (ids t ++ f.id ∷ []) t.members m (homed_wider (ids t) f.id t.members o.homed)
          (subst (λ (n : ℕ). is_among n (ids t ++ f.id ∷ []) ≡ true) (sym (member_home t.last_process f.id f.end))
          (among_last (ids t) f.id)));
      numbered = events_numbered t.events t.last_process f.id f.end o.numbered;
    }

pub all_found_ordered : (who : Holder) (t : Contracts) (fs : List Found) (last : ℕ)
    → Ascends t.last_contract (map (λ (f : Found). f.id) fs) last → IsOrdered t → IsOrdered (with_all_found who t fs)
unfolding with_found
all_found_ordered who t [] last up o = o
all_found_ordered who t (f ∷ fs) last up o =
    all_found_ordered who (with_found who t f) fs last up.1 (found_ordered who t f up.0 o)

-- ---- holders

abbrev with_holder : Holder → Contract → Contract
with_holder who c = record c { holder = who }

abbrev all_with_holder : Holder → Contracts → Contracts
all_with_holder who t = record t { contracts = map (with_holder who) t.contracts }

one_held : (who other : Holder) (t : Contracts) (f : Found)
    → all_with_holder who (with_found other t f) ≡ with_found who (all_with_holder who t) f
unfolding with_found
one_held who other t f =
    ap (λ cs. record {
      contracts = cs;
      members = t.members ++ found_member t.last_process f.id f.end ∷ [];
      events = found_events t.events t.last_process f.id f.end;
      last_contract = f.id;
      last_process = t.last_process + 1 + 1;
    }) (map_push (with_holder who) t.contracts (found_contract other t.last_process f))

pub all_held : (who other : Holder) (t : Contracts) (fs : List Found)
    → all_with_holder who (with_all_found other t fs) ≡ with_all_found who (all_with_holder who t) fs
all_held who other t [] = refl
all_held who other t (f ∷ fs) =
    all_held who other (with_found other t f) fs
    ∙ ap (λ (u : Contracts). with_all_found who u fs) (one_held who other t f)

holders_more : (who : Holder) (cs : List Contract) (c : Contract) → c.holder ≡ who
    → AllByRecursion (λ x. x.holder ≡ who) cs → AllByRecursion (λ x. x.holder ≡ who) (cs ++ c ∷ [])
holders_more who [] c e a = (e, tt)
holders_more who (x ∷ xs) c e a = (a.0, holders_more who xs c e a.1)

pub all_holders : (who : Holder) (t : Contracts) (fs : List Found) → AllByRecursion (λ c. c.holder ≡ who) t.contracts
    → AllByRecursion (λ c. c.holder ≡ who) (with_all_found who t fs).contracts
unfolding with_found
all_holders who t [] a = a
all_holders who t (f ∷ fs) a =
    all_holders who (with_found who t f) fs
    (holders_more who t.contracts (found_contract who t.last_process f) refl a)

-- ---- one after the other

abbrev numbers_of_found : List Found → List ℕ
numbers_of_found fs = map (λ (f : Found). f.id) fs

pub found_next : (who : Holder) (t u start : Contracts) (all : List Found) (i top : ℕ) (f : Found) → f ≡ get_or all i f
    → i < length all → u ≡ with_found who t f → Ascends t.last_contract (numbers_of_found (drop i all)) top
    → with_all_found who t (drop i all) ≡ with_all_found who start all
    → Ascends u.last_contract (numbers_of_found (drop (i + 1) all)) top
    × (with_all_found who u (drop (i + 1) all) ≡ with_all_found who start all)
unfolding with_found
found_next who t u start all i top f here low is up same =
    let rest : List Found = drop (i + 1) all in
    let shape : drop i all ≡ f ∷ rest = drop_more all i f low ∙ ap (λ x. x ∷ rest) (sym here) in
    let first : Ascends t.last_contract (numbers_of_found (f ∷ rest)) top =
    subst (λ fs. Ascends t.last_contract (numbers_of_found fs) top) shape up in (
      subst (λ (v : Contracts). Ascends v.last_contract (numbers_of_found rest) top) (sym is) first.1,
      ap (λ v. with_all_found who v rest) is ∙ sym (ap (with_all_found who t) shape) ∙ same,
    )

-- the last id stands above all that are found
end_up : (who : Holder) (t : Contracts) (fs : List Found) (last : ℕ)
    → Ascends t.last_contract (numbers_of_found fs) last → (with_all_found who t fs).last_contract ≤ last
unfolding with_found
end_up who t [] last up = up
end_up who t (f ∷ fs) last up = end_up who (with_found who t f) fs last up.1

pub table_ordered : (who : Holder) (t : Contracts) (fs : List Found) (last : ℕ)
    → Ascends t.last_contract (numbers_of_found fs) last → IsOrdered t
    → IsOrdered (record (with_all_found who t fs) { last_contract = last })
table_ordered who t fs last up o =
    let all = all_found_ordered who t fs last up o in
    record {
      contracts_ascend = ascends_higher 0 (ids (with_all_found who t fs)) (with_all_found who t fs).last_contract last
          (end_up who t fs last up) all.contracts_ascend;
      members_ascend = all.members_ascend;
      homed = all.homed;
      numbered = all.numbered;
    }
