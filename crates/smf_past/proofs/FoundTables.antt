-- The table of the contracts that are found is in order, and has each contract that has members.
use Rattle.std.proofs.Common.{◌≡◌, inl, inr, ◌≤◌, ◌||◌, ℕ, Bool, true, false, List, [], ◌∷◌, ◌++◌, map, Option, Some, None, refl, subst, arith, eq-eqb}
use Rattle.std.specs.List.{AllByRecursion, list_any}
use Rattle.std.proofs.lemmas.List.Folds.{list_any-append}
use Rattle.smf_contract.specs.declared.contract.Contract.{Contract}
use Rattle.smf_contract.specs.declared.contract.Holder.{Holder}
use Rattle.smf_contract.specs.declared.contract.Holder.TheVariants.{Inherited}
use Rattle.smf_contract.specs.declared.contract.Member.{Member}
use Rattle.smf_contract.specs.declared.event.ContractEvent.{ContractEvent}
use Rattle.smf_contract.specs.declared.event.EventKind.TheVariants as kinds
use Rattle.smf_contract.specs.declared.event.Exit.{Exit}
use Rattle.smf_contract.specs.declared.found.Found.{Found}
use Rattle.smf_contract.specs.Begun.{found_contract, found_events, found_member, table_of_found, with_all_found, with_found}
use Rattle.smf_contract.specs.Entries.{Contracts, empty, has_members, is_in}
use Rattle.smf_contract.specs.Laws.{Ascends}
use Rattle.smf_contract.proofs.After.{calls_order}
use Rattle.smf_contract.proofs.Begun.{table_ordered}
use Rattle.smf_world.proofs.FormedChanges.{every_both}
use Rattle.smf_past.specs.Killed.{AreFoundOf, IsFound, IsOf}
use Rattle.smf_past.specs.Losses.{IsAmong, IsStillThere, IsThere, SaysEmpty}

-- ---- contracts

-- one of the contracts that there were, whose terms let it be inherited
abbrev IsKnown : Contracts → Contract → Type 0
IsKnown u c = IsAmong c.id c.cookie u.contracts × (c.terms.inherit ≡ true)

all_known : (who : Holder) (u t : Contracts) (fs : List Found) → AllByRecursion (IsKnown u) t.contracts
    → AllByRecursion (IsOf u) fs → AllByRecursion (IsKnown u) (with_all_found who t fs).contracts
unfolding with_found
all_known who u t [] a b = a
all_known who u t (f ∷ fs) a b =
    all_known who u (with_found who t f) fs
    (every_both (IsKnown u) t.contracts (found_contract who t.last_process f ∷ []) a (b.0, tt)) b.1

are_among : (u : Contracts) (cs : List Contract) → AllByRecursion (IsKnown u) cs
    → AllByRecursion (λ c. IsAmong c.id c.cookie u.contracts) cs
are_among u [] a = tt
are_among u (c ∷ cs) a = (a.0.0, are_among u cs a.1)

all_inherit : (u : Contracts) (cs : List Contract) → AllByRecursion (IsKnown u) cs
    → AllByRecursion (λ c. c.terms.inherit ≡ true) cs
all_inherit u [] a = tt
all_inherit u (c ∷ cs) a = (a.0.1, all_inherit u cs a.1)

-- ---- those that have members

-- the contract is in the table, with members
abbrev Stands : ℕ → ℕ → Contracts → Type 0
Stands id cookie t = IsAmong id cookie t.contracts × (has_members id t.members ≡ true)

among_more : (id cookie : ℕ) (cs : List Contract) (c : Contract) → IsAmong id cookie cs
    → IsAmong id cookie (cs ++ c ∷ [])
among_more id cookie [] c a = absurd a
among_more id cookie (x ∷ xs) c (inl e) = inl e
among_more id cookie (x ∷ xs) c (inr a) = inr (among_more id cookie xs c a)

among_last : (cs : List Contract) (c : Contract) → IsAmong c.id c.cookie (cs ++ c ∷ [])
among_last [] c = inl (refl, refl)
among_last (x ∷ xs) c = inr (among_last xs c)

or_first : (a b : Bool) → a ≡ true → (a || b) ≡ true
or_first true b e = refl
or_first false b e = absurd cc

or_second : (a b : Bool) → b ≡ true → (a || b) ≡ true
or_second true b e = refl
or_second false b e = e

has_more : (id : ℕ) (ms : List Member) (m : Member) → has_members id ms ≡ true
    → has_members id (ms ++ m ∷ []) ≡ true
has_more id ms m h =
    rw (list_any-append (is_in id) ms (m ∷ [])) (or_first (list_any (is_in id) ms) (list_any (is_in id) (m ∷ [])) h)

has_last : (last id : ℕ) (end : Option Exit) (ms : List Member)
    → has_members id (ms ++ found_member last id end ∷ []) ≡ true
has_last last id end ms =
    rw (list_any-append (is_in id) ms (found_member last id end ∷ []))
    (or_second (list_any (is_in id) ms) (list_any (is_in id) (found_member last id end ∷ [])) (own end))
  where
    own : (e : Option Exit) → list_any (is_in id) (found_member last id e ∷ []) ≡ true
    own None = rw (eq-eqb id id refl) refl
    own (Some exit) = rw (eq-eqb id id refl) refl

stands_on : (who : Holder) (id cookie : ℕ) (t : Contracts) (fs : List Found) → Stands id cookie t
    → Stands id cookie (with_all_found who t fs)
unfolding with_found
stands_on who id cookie t [] s = s
stands_on who id cookie t (f ∷ fs) s =
    stands_on who id cookie (with_found who t f) fs (
      among_more id cookie t.contracts (found_contract who t.last_process f) s.0,
      has_more id t.members (found_member t.last_process f.id f.end) s.1,
    )

found_stands : (who : Holder) (id cookie : ℕ) (t : Contracts) (fs : List Found) → IsFound id cookie fs
    → Stands id cookie (with_all_found who t fs)
unfolding with_found
found_stands who id cookie t [] a = absurd a
found_stands who id cookie t (f ∷ fs) (inl e) =
    stands_on who id cookie (with_found who t f) fs
    (subst (λ (n : ℕ). Stands n cookie (with_found who t f)) e.0
    (subst (λ (k : ℕ). Stands f.id k (with_found who t f)) e.1 (
      among_last t.contracts (found_contract who t.last_process f),
      has_last t.last_process f.id f.end t.members,
    )))
found_stands who id cookie t (f ∷ fs) (inr a) = found_stands who id cookie (with_found who t f) fs a

all_there : (u : Contracts) (last : ℕ) (fs : List Found) (cs : List Contract)
    → AllByRecursion (λ c. has_members c.id u.members ≡ true → IsFound c.id c.cookie fs) cs
    → AllByRecursion (IsThere (table_of_found Inherited last fs) u) cs
all_there u last fs [] a = tt
all_there u last fs (c ∷ cs) a =
    (λ m. found_stands Inherited c.id c.cookie empty fs (a.0 m), all_there u last fs cs a.1)

-- ---- events

-- an event of a contract up to this number, which does not call it empty
abbrev IsNoEnd : ℕ → ContractEvent → Type 0
IsNoEnd last e = (e.contract ≤ last) × (e.kind ≡ kinds.Empty → ⊥)

one_no_end : (last at id : ℕ) (end : Option Exit) (es : List ContractEvent) → id ≤ last
    → AllByRecursion (IsNoEnd last) es → AllByRecursion (IsNoEnd last) (found_events es at id end)
one_no_end last at id None es low a = a
one_no_end last at id (Some exit) es low a = every_both (IsNoEnd last) es _ a ((low, λ e. absurd cc), tt)

low_first : (low n top : ℕ) (ns : List ℕ) → Ascends low (n ∷ ns) top → n ≤ top
low_first low n top [] a = a.1
low_first low n top (m ∷ ms) a = let up = low_first n m top ms a.1 in omega (arith, up, a.1.0)

no_ends : (who : Holder) (t : Contracts) (fs : List Found) (low last : ℕ)
    → Ascends low (map (λ (f : Found). f.id) fs) last → AllByRecursion (IsNoEnd last) t.events
    → AllByRecursion (IsNoEnd last) (with_all_found who t fs).events
unfolding with_found
no_ends who t [] low last up a = a
no_ends who t (f ∷ fs) low last up a =
    no_ends who (with_found who t f) fs f.id last up.1
    (one_no_end last t.last_process f.id f.end t.events (low_first low f.id last (map (λ (x : Found). x.id) fs) up) a)

all_say : (t : Contracts) (es : List ContractEvent) → AllByRecursion (IsNoEnd t.last_contract) es
    → AllByRecursion (SaysEmpty t) es
all_say t [] a = tt
all_say t (e ∷ es) a = ((a.0.0, λ is. absurd (a.0.1 is)), all_say t es a.1)

-- ---- the table

pub found_still : (last : ℕ) (fs : List Found) (u : Contracts) → AreFoundOf last fs u
    → IsStillThere (table_of_found Inherited last fs) u
found_still last fs u a =
    let t : Contracts = table_of_found Inherited last fs in
    let known = all_known Inherited u empty fs tt a.known in
    record {
      ordered = table_ordered Inherited empty fs last a.ascend (calls_order []);
      contracts = are_among u t.contracts known;
      living = all_there u last fs u.contracts a.whole;
      events = all_say t t.events (no_ends Inherited empty fs 0 last a.ascend tt);
      inherit = all_inherit u t.contracts known;
    }
