-- An event of a process empties the contract of that process, or none.
use Rattle.std.proofs.Common.{◌≡◌, ℕ, ◌+◌, ◌==◌, ◌≤◌, ◌&&◌, ◌||◌, not, Bool, true, false, cond, List, [], ◌∷◌, ◌++◌, length, Option, Some, None, IfSome, filter, map, position, refl, sym, ◌∙◌, ap, subst, eq-eqb, arith, if◌then◌else◌}
use Rattle.std.proofs.lemmas.Bool.{eqb-true, ne_eqb}
use Rattle.std.proofs.lemmas.List.Folds.{list_any-append}
use Rattle.smf_contract.specs.declared.call.ContractCall.TheVariants as calls
use Rattle.smf_contract.specs.declared.contract.Contract.{Contract}
use Rattle.smf_contract.specs.declared.contract.Member.{Member}
use Rattle.smf_contract.specs.declared.event.Exit as ends
use Rattle.smf_contract.specs.declared.event.Failure.{Failure}
use Rattle.smf_contract.specs.Called.{table_after_contract_call, emptied_between, emptied_by, ids_of, is_emptied, left_by, left_by_making}
use Rattle.smf_contract.specs.Calls.{activity, result_of_exit, exited_in, exits_by_failure, result_of_failure, failed_in, result_of_fork, forked_in, is_fatal, next_number, with_activity, with_failure}
use Rattle.smf_contract.specs.Entries.{Contracts, contract, has_id, has_members, home, is_in, is_process, outside, processes, without}
use Rattle.smf_contract.specs.Laws.{Ascends, IsOrdered, ids, is_among}
use Rattle.smf_contract.proofs.EmptiedBy.{nothing_empties, fork_empties as no_fork}
use Rattle.smf_contract.proofs.Ordered.{home_among, home_has}
use Rattle.smf_machine.specs.Children.{emptied_one}
use Rattle.smf_edge.proofs.Members.{count_outside, count_without, none_count, some_count}

-- ---- contracts of one id

both_same : {A : Type 0} {x y : A} {xs ys : List A} → x ≡ y → xs ≡ ys → x ∷ xs ≡ y ∷ ys
both_same e f = λ i. e i ∷ f i

none_later : (id low last : ℕ) (cs : List Contract) → id ≤ low → Ascends low (ids_of cs) last
    → ids_of (filter (has_id id) cs) ≡ []
none_later id low last [] h a = refl
none_later id low last (c ∷ cs) h a =
    rw (ne_eqb c.id id (λ same. omega (arith, same, h, a.0))) (none_later id c.id last cs (omega (arith, h, a.0)) a.1)

one_here : (b : Bool) (id last : ℕ) (c : Contract) (cs : List Contract) → (c.id == id) ≡ b
    → Ascends c.id (ids_of cs) last
    → (is_among id (ids_of cs) ≡ true → ids_of (filter (has_id id) cs) ≡ id ∷ [])
    → is_among id (ids_of (c ∷ cs)) ≡ true → ids_of (filter (has_id id) (c ∷ cs)) ≡ id ∷ []
one_here true id last c cs e a deeper h =
    let at : c.id ≡ id = eqb-true c.id id e in
    let rest : ids_of (filter (has_id id) cs) ≡ [] = none_later id c.id last cs (omega (arith, at)) a in
    rw e (both_same at rest)
one_here false id last c cs e a deeper h =
    let there : is_among id (ids_of cs) ≡ true = rw e at h in rw e (deeper there)

one_id : (id low last : ℕ) (cs : List Contract) → Ascends low (ids_of cs) last → is_among id (ids_of cs) ≡ true
    → ids_of (filter (has_id id) cs) ≡ id ∷ []
one_id id low last [] a h = absurd cc
one_id id low last (c ∷ cs) a h = one_here (c.id == id) id last c cs refl a.1 (one_id id c.id last cs a.1) h

same_head : (a b : Bool) (c : Contract) (xs ys : List Contract) → a ≡ b → ids_of xs ≡ ids_of ys
    → ids_of (cond a (c ∷ xs) xs) ≡ ids_of (cond b (c ∷ ys) ys)
same_head true true c xs ys h k = ap (λ is. c.id ∷ is) k
same_head false false c xs ys h k = k
same_head true false c xs ys h k = cc
same_head false true c xs ys h k = cc

same_ids : (p q : Contract → Bool) → ((c : Contract) → p c ≡ q c) → (cs : List Contract)
    → ids_of (filter p cs) ≡ ids_of (filter q cs)
same_ids p q h [] = refl
same_ids p q h (c ∷ cs) = same_head (p c) (q c) c (filter p cs) (filter q cs) (h c) (same_ids p q h cs)

and_true : (h : Bool) → (h && true) ≡ h
and_true true = refl
and_true false = refl

and_false : (h : Bool) → (h && false) ≡ false
and_false true = refl
and_false false = refl

no_ids : (p : Contract → Bool) → ((c : Contract) → p c ≡ false) → (cs : List Contract) → ids_of (filter p cs) ≡ []
no_ids p h [] = refl
no_ids p h (c ∷ cs) = same_head (p c) false c (filter p cs) (filter p cs) (h c) refl ∙ no_ids p h cs

-- a test that holds at most of the contract of this id
by_one : (p : Contract → Bool) (b : Bool) (id last : ℕ) (cs : List Contract)
    → ((c : Contract) → p c ≡ (has_id id c && not b)) → Ascends 0 (ids_of cs) last → is_among id (ids_of cs) ≡ true
    → ids_of (filter p cs) ≡ (if b then [] else id ∷ [])
by_one p true id last cs h a among = no_ids p (λ c. h c ∙ and_false (has_id id c)) cs
by_one p false id last cs h a among = same_ids p (has_id id) (λ c. h c ∙ and_true (has_id id c)) cs
    ∙ one_id id 0 last cs a among

-- ---- members of other contracts

cancel : (h : Bool) → (h && not h) ≡ false
cancel true = refl
cancel false = refl

test_by : (b : Bool) (j id : ℕ) (ms ns : List Member) → (j == id) ≡ b → has_members id ms ≡ true
    → ((j : ℕ) → (j == id) ≡ false → has_members j ns ≡ has_members j ms)
    → (has_members j ms && not (has_members j ns)) ≡ (b && not (has_members id ns))
test_by true j id ms ns e has others =
    let at : j ≡ id = eqb-true j id e in
    subst (λ k. (has_members k ms && not (has_members k ns)) ≡ not (has_members id ns)) (sym at) (rw has refl)
test_by false j id ms ns e has others = rw (others j e) (cancel (has_members j ms))

test_is : (ms ns : List Member) (id : ℕ) → has_members id ms ≡ true
    → ((j : ℕ) → (j == id) ≡ false → has_members j ns ≡ has_members j ms) → (c : Contract)
    → is_emptied ms ns c ≡ (has_id id c && not (has_members id ns))
test_is ms ns id has others c = test_by (c.id == id) c.id id ms ns refl has others

has_by : (a b : Bool) (j : ℕ) (ms ns : List Member) → has_members j ms ≡ a → has_members j ns ≡ b
    → length (processes j ms) ≡ length (processes j ns) → a ≡ b
has_by true true j ms ns e f same = refl
has_by false false j ms ns e f same = refl
has_by true false j ms ns e f same = absurd (omega (arith, some_count j ms e, none_count j ns f, same))
has_by false true j ms ns e f same = absurd (omega (arith, none_count j ms e, some_count j ns f, same))

same_has : (j : ℕ) (ms ns : List Member) → length (processes j ms) ≡ length (processes j ns)
    → has_members j ms ≡ has_members j ns
same_has j ms ns same = has_by (has_members j ms) (has_members j ns) j ms ns refl refl same

other_way : (i j : ℕ) → (j == i) ≡ false → (i == j) ≡ false
other_way i j e = ne_eqb i j (λ same. let never : true ≡ false = sym (eq-eqb j i (sym same)) ∙ e in absurd cc)

counted_without : (p id last j : ℕ) (ms : List Member) → Ascends 0 (map (λ m. m.process) ms) last
    → home ms p ≡ Some id → (id == j) ≡ false → length (processes j (without p ms)) ≡ length (processes j ms)
counted_without p id last j ms a h e =
    let count = count_without p id j last ms a h in
    let plain : length (processes j (without p ms)) + 0 ≡ length (processes j ms) = rw e at count in
    omega (arith, plain)

others_without : (p id last : ℕ) (ms : List Member) → Ascends 0 (map (λ m. m.process) ms) last → home ms p ≡ Some id
    → (j : ℕ) → (j == id) ≡ false → has_members j (without p ms) ≡ has_members j ms
others_without p id last ms a h j e =
    same_has j (without p ms) ms (counted_without p id last j ms a h (other_way id j e))

counted_outside : (id j : ℕ) (ms : List Member) → (id == j) ≡ false
    → length (processes j (outside id ms)) ≡ length (processes j ms)
counted_outside id j ms e = let count = count_outside id j ms in rw e at count

others_outside : (p id last : ℕ) (ms : List Member) → Ascends 0 (map (λ m. m.process) ms) last → home ms p ≡ Some id
    → (j : ℕ) → (j == id) ≡ false → has_members j (outside id (without p ms)) ≡ has_members j ms
others_outside p id last ms a h j e =
    same_has j (outside id (without p ms)) ms
    (counted_outside id j (without p ms) (other_way id j e) ∙ counted_without p id last j ms a h (other_way id j e))

-- ---- calls

none_between : (t : Contracts) → emptied_between t t ≡ []
unfolding emptied_by table_after_contract_call
none_between t = nothing_empties t

one_between : (t : Contracts) (ns : List Member) (id : ℕ) → IsOrdered t → has_members id t.members ≡ true
    → is_among id (ids t) ≡ true → ((j : ℕ) → (j == id) ≡ false → has_members j ns ≡ has_members j t.members)
    → ids_of (filter (is_emptied t.members ns) t.contracts) ≡ emptied_one ns (Some id)
one_between t ns id o has among others =
    by_one (is_emptied t.members ns) (has_members id ns) id t.last_contract t.contracts
    (test_is t.members ns id has others) o.contracts_ascend among

by_exit : (t : Contracts) (p : ℕ) (e : ends.Exit) (o : Option ℕ) → IsOrdered t → home t.members p ≡ o
    → IfSome o (λ c. has_members c t.members ≡ true) → IfSome o (λ c. is_among c (ids t) ≡ true)
    → emptied_between t (left_by t (exited_in t p e o)) ≡ emptied_one (left_by t (exited_in t p e o)).members o
by_exit t p e None o h has among = none_between t
by_exit t p e (Some id) o h has among =
    one_between t (without p t.members) id o has among (others_without p id t.last_process t.members o.members_ascend h)

failed_by : (fatal : Bool) (t : Contracts) (p id : ℕ) (f : Failure) → IsOrdered t → home t.members p ≡ Some id
    → has_members id t.members ≡ true → is_among id (ids t) ≡ true
    → emptied_between t (with_activity t (exits_by_failure fatal id p (with_failure id p f (activity t))))
    ≡ emptied_one (with_activity t (exits_by_failure fatal id p (with_failure id p f (activity t)))).members
    (Some id)
failed_by true t p id f o h has among =
    one_between t (outside id (without p t.members)) id o has among
    (others_outside p id t.last_process t.members o.members_ascend h)
failed_by false t p id f o h has among =
    one_between t (without p t.members) id o has among (others_without p id t.last_process t.members o.members_ascend h)

by_failure : (t : Contracts) (p : ℕ) (f : Failure) (o : Option ℕ) → IsOrdered t → home t.members p ≡ o
    → IfSome o (λ c. has_members c t.members ≡ true) → IfSome o (λ c. is_among c (ids t) ≡ true)
    → emptied_between t (left_by t (failed_in t p f o)) ≡ emptied_one (left_by t (failed_in t p f o)).members o
by_failure t p f None o h has among = none_between t
by_failure t p f (Some id) o h has among = failed_by (is_fatal f (contract t id)) t p id f o h has among

still_has : (id : ℕ) (ms : List Member) (m : Member) → has_members id ms ≡ true → has_members id (ms ++ m ∷ []) ≡ true
still_has id ms m h = rw (list_any-append (is_in id) ms (m ∷ [])) (wider (has_members id ms) _ h)
  where
    wider : (a b : Bool) → a ≡ true → (a || b) ≡ true
    wider true b h = refl
    wider false b h = absurd cc

none_gone : (id : ℕ) (ms : List Member) → has_members id ms ≡ true → emptied_one ms (Some id) ≡ []
none_gone id ms h = rw h refl

by_fork : (t : Contracts) (o q : Option ℕ) → emptied_between t (left_by_making t (forked_in t o q)) ≡ []
    → IfSome o (λ c. has_members c t.members ≡ true)
    → emptied_between t (left_by_making t (forked_in t o q))
    ≡ emptied_one (left_by_making t (forked_in t o q)).members o
by_fork t None q none has = none
by_fork t (Some id) None none has = none ∙ sym (none_gone id t.members has)
by_fork t (Some id) (Some q) none has =
    none ∙ sym (none_gone id (t.members ++ record { process = q; contract = id } ∷ [])
    (still_has id t.members (record { process = q; contract = id }) has))

pub exit_empties : (t : Contracts) (p : ℕ) (e : ends.Exit) → IsOrdered t
    → emptied_by t (calls.Exit p e)
    ≡ emptied_one (table_after_contract_call t (calls.Exit p e)).members (home t.members p)
unfolding emptied_by table_after_contract_call result_of_exit
exit_empties t p e o =
    by_exit t p e (home t.members p) o refl (home_has t.members (position (is_process p) t.members))
    (home_among (ids t) t.members (position (is_process p) t.members) o.homed)

pub failure_empties : (t : Contracts) (p : ℕ) (f : Failure) → IsOrdered t
    → emptied_by t (calls.Fail p f)
    ≡ emptied_one (table_after_contract_call t (calls.Fail p f)).members (home t.members p)
unfolding emptied_by table_after_contract_call result_of_failure
failure_empties t p f o =
    by_failure t p f (home t.members p) o refl (home_has t.members (position (is_process p) t.members))
    (home_among (ids t) t.members (position (is_process p) t.members) o.homed)

fork_none : (t : Contracts) (p : ℕ)
    → emptied_between t (left_by_making t (forked_in t (home t.members p) (next_number t.last_process))) ≡ []
unfolding emptied_by table_after_contract_call result_of_fork
fork_none t p = no_fork t p

pub fork_empties : (t : Contracts) (p : ℕ)
    → emptied_by t (calls.Fork p) ≡ emptied_one (table_after_contract_call t (calls.Fork p)).members (home t.members p)
unfolding emptied_by table_after_contract_call result_of_fork
fork_empties t p =
    by_fork t (home t.members p) (next_number t.last_process) (fork_none t p)
    (home_has t.members (position (is_process p) t.members))
