-- The contracts that a call empties, as the code finds them.
use Rattle.std.proofs.Common.{◌≡◌, ℕ, ◌==◌, ◌&&◌, ◌||◌, not, Bool, true, false, cond, List, [], ◌∷◌, ◌++◌, Option, Some, None, IfSome, Ok, Err, filter, map, position, refl, sym, ◌∙◌, ap, subst, eq-eqb}
use Rattle.std.specs.List.{list_any}
use Rattle.std.specs.Option.{is_some}
use Rattle.std.proofs.lemmas.Bool.{eqb-true}
use Rattle.std.proofs.lemmas.List.Folds.{list_any-append}
use Rattle.smf_contract.specs.declared.call.ContractCall.TheVariants as calls
use Rattle.smf_contract.specs.declared.contract.Contract.{Contract}
use Rattle.smf_contract.specs.declared.contract.Holder.TheVariants.{Held, Inherited, Abandoned}
use Rattle.smf_contract.specs.declared.contract.Member.{Member}
use Rattle.smf_contract.specs.declared.event.Exit as ends
use Rattle.smf_contract.specs.declared.event.Failure.{Failure}
use Rattle.smf_contract.specs.declared.fault.ContractFault.{ContractFault}
use Rattle.smf_contract.specs.declared.terms.Terms.{Terms}
use Rattle.smf_contract.specs.Entries.{Contracts, Activity, contract, home, has_members, is_in, is_process, has_id, without, outside}
use Rattle.smf_contract.specs.Calls
use Rattle.smf_contract.specs.Called.{table_after_contract_call, emptied_by, emptied_between, ids_of, is_emptied, left_by, left_by_making}
use Rattle.smf_contract.specs.Ends.{homes, is_other, is_ended_by, ended_ids, ids_exited, ids_failed, ids_killed, ending_ids, is_ending, ids_left}
use Rattle.smf_contract.specs.Laws.{is_among}
use Rattle.smf_contract.proofs.Ordered

-- two tests that agree keep the same ids
same_head : (a b : Bool) (c : Contract) (xs ys : List Contract) → a ≡ b → ids_of xs ≡ ids_of ys
    → ids_of (cond a (c ∷ xs) xs) ≡ ids_of (cond b (c ∷ ys) ys)
same_head true true c xs ys h k = ap (λ is. c.id ∷ is) k
same_head false false c xs ys h k = k
same_head true false c xs ys h k = cc
same_head false true c xs ys h k = cc

same_ids : (p q : Contract → Bool) → ((c : Contract) → p c ≡ q c) → (cs : List Contract)
    → ids_of (filter p cs) ≡ ids_of (filter q cs)
same_ids p q h [] = refl
same_ids p q h (c ∷ cs) = same_head (p c) (q c) c (filter p cs) (filter q cs) (h c) (same_ids p q h cs)

no_ids : (p : Contract → Bool) → ((c : Contract) → p c ≡ false) → (cs : List Contract) → ids_of (filter p cs) ≡ []
no_ids p h [] = refl
no_ids p h (c ∷ cs) = same_head (p c) false c (filter p cs) (filter p cs) (h c) refl ∙ no_ids p h cs

-- truth tables
kept : (a b : Bool) → (a ≡ true → b ≡ true) → (a && not b) ≡ false
kept true true h = refl
kept true false h = let wrong : false ≡ true = h refl in cc
kept false b h = refl

wider : (a b : Bool) → a ≡ true → (a || b) ≡ true
wider true b h = refl
wider false b h = cc

killed_one : (h e : Bool) → (e ≡ true → h ≡ true) → (h && not (h && not e)) ≡ e
killed_one true true k = refl
killed_one true false k = refl
killed_one false true k = k refl
killed_one false false k = refl

exited_one : (a w : Bool) → ((a || w) && not w) ≡ (a && not w)
exited_one true true = refl
exited_one true false = refl
exited_one false true = refl
exited_one false false = refl

or_and : (a w : Bool) → (a || w) ≡ true → ((a || w) && not (w && false)) ≡ true
or_and true true h = refl
or_and true false h = refl
or_and false true h = refl
or_and false false h = h

failed_one : (a w e : Bool) → (e ≡ true → (a || w) ≡ true) → ((a || w) && not (w && not e)) ≡ (e || a && not w)
failed_one a w true k = or_and a w (k refl)
failed_one true true false k = refl
failed_one true false false k = refl
failed_one false true false k = refl
failed_one false false false k = refl

left_one : (h a : Bool) → (h && not (h && not a)) ≡ (a && h)
left_one true true = refl
left_one true false = refl
left_one false true = refl
left_one false false = refl

and_true : (h : Bool) → (h && true) ≡ h
and_true true = refl
and_true false = refl

and_false : (h : Bool) → (h && false) ≡ false
and_false true = refl
and_false false = refl

-- the test of two numbers, either way
same_way : (a b : Bool) → (a ≡ true → b ≡ true) → (b ≡ true → a ≡ true) → a ≡ b
same_way true true h k = refl
same_way false false h k = refl
same_way true false h k = sym (h refl)
same_way false true h k = k refl

turned : (i j : ℕ) → (i == j) ≡ (j == i)
turned i j = same_way (i == j) (j == i) (λ e. eq-eqb j i (sym (eqb-true i j e)))
    (λ e. eq-eqb i j (sym (eqb-true j i e)))

-- the members of a contract, after those of another are taken out
outside_more : (a b e h : Bool) (j : ℕ) (m : Member) (ms : List Member) → is_in j m ≡ b
    → has_members j ms ≡ (h && not e) → (a ≡ true → b ≡ true → e ≡ true) → (e ≡ true → b ≡ true → a ≡ true)
    → has_members j (cond (not a) (m ∷ ms) ms) ≡ ((b || h) && not e)
outside_more true true e h j m ms i k there back = let is : e ≡ true = there refl refl in
    let one : has_members j ms ≡ (h && false) = subst (λ x. has_members j ms ≡ (h && not x)) is k in
    one ∙ and_false h ∙ sym (ap not is)
outside_more true false e h j m ms i k there back = k
outside_more false true true h j m ms i k there back = let wrong : false ≡ true = back refl refl in cc
outside_more false true false h j m ms i k there back = rw i refl
outside_more false false e h j m ms i k there back = rw i k

has_outside : (id j : ℕ) (ms : List Member) → has_members j (outside id ms) ≡ (has_members j ms && not (j == id))
has_outside id j [] = refl
has_outside id j (m ∷ ms) =
    outside_more (m.contract == id) (m.contract == j) (j == id) (has_members j ms) j m (outside id ms) refl
    (has_outside id j ms)
    (λ a b. eq-eqb j id (sym (eqb-true m.contract j b) ∙ eqb-true m.contract id a))
    (λ e b. eq-eqb m.contract id (eqb-true m.contract j b ∙ eqb-true j id e))

-- and after a process is taken out
or_left : (b h a w : Bool) → h ≡ (a || w) → (b || h) ≡ ((b || a) || w)
or_left true h a w k = refl
or_left false h a w k = k

or_right : (b h a w : Bool) → h ≡ (a || w) → (b || h) ≡ (a || (b || w))
or_right true h true w k = refl
or_right true h false w k = refl
or_right false h a w k = k

home_more : (a : Bool) (j : ℕ) (m : Member) (fs ws : List Member) (h : Bool)
    → h ≡ (is_among j (map (λ m. m.contract) fs) || has_members j ws)
    → (is_in j m || h)
    ≡ (is_among j (map (λ m. m.contract) (cond a (m ∷ fs) fs)) || has_members j (cond (not a) (m ∷ ws) ws))
home_more true j m fs ws h k = or_left (is_in j m) h (is_among j (map (λ m. m.contract) fs)) (has_members j ws) k
home_more false j m fs ws h k = or_right (is_in j m) h (is_among j (map (λ m. m.contract) fs)) (has_members j ws) k

has_homes : (p j : ℕ) (ms : List Member) → has_members j ms ≡ (is_among j (homes p ms) || has_members j (without p ms))
has_homes p j [] = refl
has_homes p j (m ∷ ms) =
    home_more (is_process p m) j m (filter (is_process p) ms) (without p ms) (has_members j ms) (has_homes p j ms)

other_more : (a b : Bool) (id p : ℕ) (m : Member) (own ws : List Member) → is_in id m ≡ a → is_process p m ≡ b
    → list_any (is_other p) own ≡ has_members id ws
    → list_any (is_other p) (cond a (m ∷ own) own) ≡ has_members id (cond (not b) (m ∷ ws) ws)
other_more true true id p m own ws e f k = rw f k
other_more true false id p m own ws e f k = rw (e, f) refl
other_more false true id p m own ws e f k = k
other_more false false id p m own ws e f k = rw e k

pub others : (id p : ℕ) (ms : List Member)
    → list_any (is_other p) (filter (is_in id) ms) ≡ has_members id (without p ms)
others id p [] = refl
others id p (m ∷ ms) =
    other_more (is_in id m) (is_process p m) id p m (filter (is_in id) ms) (without p ms) refl refl (others id p ms)

-- the calls that empty nothing
none_between : (ms ns : List Member) → ((j : ℕ) → has_members j ms ≡ true → has_members j ns ≡ true)
    → (cs : List Contract) → ids_of (filter (is_emptied ms ns) cs) ≡ []
none_between ms ns h cs = no_ids (is_emptied ms ns) (λ c. kept (has_members c.id ms) (has_members c.id ns) (h c.id)) cs

none_more : (ms : List Member) (m : Member) (j : ℕ) → has_members j ms ≡ true → has_members j (ms ++ m ∷ []) ≡ true
none_more ms m j h = rw (list_any-append (is_in j) ms (m ∷ [])) (wider (has_members j ms) _ h)

pub nothing_empties : (t : Contracts) → emptied_by t calls.Nothing ≡ []
unfolding emptied_by table_after_contract_call
nothing_empties t = none_between t.members t.members (λ j h. h) t.contracts

pub reboot_empties : (t : Contracts) → emptied_by t calls.Reboot ≡ []
unfolding emptied_by table_after_contract_call
reboot_empties t = refl

by_spawn : (t : Contracts) (actor cookie : ℕ) (terms : Terms) (id p : Option ℕ)
    → emptied_between t (left_by_making t (Calls.spawned_as t actor cookie terms id p)) ≡ []
by_spawn t actor cookie terms None p = none_between t.members t.members (λ j h. h) t.contracts
by_spawn t actor cookie terms (Some id) None = none_between t.members t.members (λ j h. h) t.contracts
by_spawn t actor cookie terms (Some id) (Some p) =
    none_between t.members (t.members ++ record { process = p; contract = id } ∷ [])
    (none_more t.members (record { process = p; contract = id })) _

pub spawn_empties : (t : Contracts) (actor cookie : ℕ) (terms : Terms)
    → emptied_by t (calls.Spawn actor cookie terms) ≡ []
unfolding emptied_by table_after_contract_call Calls.result_of_spawn
spawn_empties t actor cookie terms = by_spawn t actor cookie terms _ _

by_fork : (t : Contracts) (id p : Option ℕ) → emptied_between t (left_by_making t (Calls.forked_in t id p)) ≡ []
by_fork t None p = none_between t.members t.members (λ j h. h) t.contracts
by_fork t (Some id) None = none_between t.members t.members (λ j h. h) t.contracts
by_fork t (Some id) (Some p) =
    none_between t.members (t.members ++ record { process = p; contract = id } ∷ [])
    (none_more t.members (record { process = p; contract = id })) t.contracts

pub fork_empties : (t : Contracts) (process : ℕ) → emptied_by t (calls.Fork process) ≡ []
unfolding emptied_by table_after_contract_call Calls.result_of_fork
fork_empties t process = by_fork t _ _

by_choice : (b : Bool) (t u : Contracts) (e : ContractFault) → u.members ≡ t.members
    → emptied_between t (left_by t (cond b (Ok u) (Err e))) ≡ []
by_choice true t u e same =
    none_between t.members u.members (λ j h. subst (λ ms. has_members j ms ≡ true) (sym same) h) u.contracts
by_choice false t u e same = none_between t.members t.members (λ j h. h) t.contracts

by_adopt : (t : Contracts) (actor id : ℕ) (o : Option Contract)
    → emptied_between t (left_by t (Calls.adopted_if t actor id o)) ≡ []
by_adopt t actor id None = none_between t.members t.members (λ j h. h) t.contracts
by_adopt t actor id (Some c) = by_choice (Calls.is_inherited c.holder) t (Calls.with_holder t id (Held actor)) _ refl

pub adopt_empties : (t : Contracts) (actor id : ℕ) → emptied_by t (calls.Adopt actor id) ≡ []
unfolding emptied_by table_after_contract_call Calls.result_of_adoption
adopt_empties t actor id = by_adopt t actor id _

-- a kill
ended_is : (t : Contracts) (id : ℕ) (b : Bool) → has_members id t.members ≡ b
    → emptied_between t
    (Calls.with_activity t (cond b (Calls.emptied_by_force id (Calls.activity t)) (Calls.activity t)))
    ≡ cond b (ids_of (filter (has_id id) t.contracts)) []
ended_is t id true h =
    same_ids _ (has_id id) (λ c. ap (λ x. has_members c.id t.members && not x) (has_outside id c.id t.members)
    ∙ killed_one (has_members c.id t.members) (c.id == id)
    (λ e. subst (λ n. has_members n t.members ≡ true) (sym (eqb-true c.id id e)) h)) t.contracts
ended_is t id false h = none_between t.members t.members (λ j h. h) t.contracts

by_kill : (t : Contracts) (id : ℕ) (o : Option Contract)
    → emptied_between t (left_by t (Calls.killed_if t id o)) ≡ ids_killed t id (is_some o)
by_kill t id None = none_between t.members t.members (λ j h. h) t.contracts
by_kill t id (Some c) = ended_is t id (has_members id t.members) refl

pub kill_empties : (t : Contracts) (actor id : ℕ)
    → emptied_by t (calls.Kill actor id) ≡ ids_killed t id (is_some (Calls.contract_held_by t actor id))
unfolding emptied_by table_after_contract_call Calls.result_of_kill
kill_empties t actor id = by_kill t id _

-- an exit
alone_is : (t : Contracts) (p id : ℕ) → ids_of (filter (is_emptied t.members (without p t.members)) t.contracts)
    ≡ ended_ids t.contracts t.members false id p
unfolding is_ended_by
alone_is t p id =
    same_ids _ _ (λ c. ap (λ x. x && not (has_members c.id (without p t.members))) (has_homes p c.id t.members)
    ∙ exited_one (is_among c.id (homes p t.members)) (has_members c.id (without p t.members))) t.contracts

by_exit : (t : Contracts) (p : ℕ) (e : ends.Exit) (o : Option ℕ)
    → emptied_between t (left_by t (Calls.exited_in t p e o)) ≡ ids_exited t p o
by_exit t p e None = none_between t.members t.members (λ j h. h) t.contracts
by_exit t p e (Some id) = alone_is t p id

pub exit_empties : (t : Contracts) (p : ℕ) (e : ends.Exit)
    → emptied_by t (calls.Exit p e) ≡ ids_exited t p (home t.members p)
unfolding emptied_by table_after_contract_call Calls.result_of_exit
exit_empties t p e = by_exit t p e _

-- a process that is in one contract alone empties no other
one_or : (takes_all h : Bool) → (takes_all && true || (true || false) && not h) ≡ (takes_all || not h)
one_or true h = refl
one_or false h = refl

none_or : (takes_all h : Bool) → (takes_all && false || (false || false) && h) ≡ false
none_or true h = refl
none_or false h = refl

alone_by : (b takes_all : Bool) (id p : ℕ) (ms : List Member) (c : Contract) → (c.id == id) ≡ b
    → is_ended_by takes_all id p (id ∷ []) ms c ≡ (b && (takes_all || not (has_members id (without p ms))))
unfolding is_ended_by
alone_by true takes_all id p ms c e =
    let same : c.id ≡ id = eqb-true c.id id e in
    let back : (id == c.id) ≡ true = turned id c.id ∙ e in
    let has : has_members c.id (without p ms) ≡ has_members id (without p ms) =
    ap (λ n. has_members n (without p ms)) same in
    rw (e, back, has) (one_or takes_all (has_members id (without p ms)))
alone_by false takes_all id p ms c e =
    let back : (id == c.id) ≡ false = turned id c.id ∙ e in
    rw (e, back) (none_or takes_all (not (has_members c.id (without p ms))))

by_alone : (b : Bool) (id : ℕ) (cs : List Contract)
    → ids_of (filter (λ c. c.id == id && b) cs) ≡ cond b (ids_of (filter (has_id id) cs)) []
by_alone true id cs = same_ids _ _ (λ c. and_true (c.id == id)) cs
by_alone false id cs = no_ids _ (λ c. and_false (c.id == id)) cs

pub ended_alone : (cs : List Contract) (ms : List Member) (takes_all : Bool) (id p : ℕ) → homes p ms ≡ id ∷ []
    → ended_ids cs ms takes_all id p
    ≡ cond (takes_all || not (has_members id (without p ms))) (ids_of (filter (has_id id) cs)) []
ended_alone cs ms takes_all id p one =
    ap (λ ns. ids_of (filter (is_ended_by takes_all id p ns ms) cs)) one
    ∙ same_ids _ _ (λ c. alone_by (c.id == id) takes_all id p ms c refl) cs
    ∙ by_alone (takes_all || not (has_members id (without p ms))) id cs

-- a failure
all_are : (t : Contracts) (p id : ℕ) → has_members id t.members ≡ true
    → ids_of (filter (is_emptied t.members (outside id (without p t.members))) t.contracts)
    ≡ ended_ids t.contracts t.members true id p
unfolding is_ended_by
all_are t p id h =
    same_ids _ _ (λ c.
    ap (λ x. has_members c.id t.members && not x) (has_outside id c.id (without p t.members))
    ∙ ap (λ x. x && not (has_members c.id (without p t.members) && not (c.id == id))) (has_homes p c.id t.members)
    ∙ failed_one (is_among c.id (homes p t.members)) (has_members c.id (without p t.members)) (c.id == id)
    (λ e. sym (has_homes p c.id t.members)
    ∙ subst (λ n. has_members n t.members ≡ true) (sym (eqb-true c.id id e)) h)) t.contracts

failed_is : (fatal : Bool) (t : Contracts) (p id : ℕ) (f : Failure) → has_members id t.members ≡ true
    → emptied_between t
    (Calls.with_activity t (Calls.exits_by_failure fatal id p (Calls.with_failure id p f (Calls.activity t))))
    ≡ ended_ids t.contracts t.members fatal id p
failed_is true t p id f h = all_are t p id h
failed_is false t p id f h = alone_is t p id

by_failure : (t : Contracts) (p : ℕ) (f : Failure) (o : Option ℕ) → IfSome o (λ c. has_members c t.members ≡ true)
    → emptied_between t (left_by t (Calls.failed_in t p f o)) ≡ ids_failed t p f o
by_failure t p f None h = none_between t.members t.members (λ j h. h) t.contracts
by_failure t p f (Some id) h = failed_is (Calls.is_fatal f (contract t id)) t p id f h

pub failure_empties : (t : Contracts) (p : ℕ) (f : Failure)
    → emptied_by t (calls.Fail p f) ≡ ids_failed t p f (home t.members p)
unfolding emptied_by table_after_contract_call Calls.result_of_failure
failure_empties t p f =
    by_failure t p f (home t.members p) (Ordered.home_has t.members (position (is_process p) t.members))

-- a holder that is gone
none_of_it : (e h : Bool) → (e ≡ true → h ≡ false) → h ≡ (h && not e)
none_of_it true h k = k refl ∙ sym (and_false h)
none_of_it false h k = sym (and_true h)

ended_has : (id j : ℕ) (b : Bool) (a : Activity) → has_members id a.members ≡ b
    → has_members j (cond b (Calls.emptied_by_force id a) a).members ≡ (has_members j a.members && not (j == id))
ended_has id j true a h = has_outside id j a.members
ended_has id j false a h =
    none_of_it (j == id) (has_members j a.members)
    (λ e. subst (λ n. has_members n a.members ≡ false) (sym (eqb-true j id e)) h)

one_has : (b : Bool) (c : Contract) (j : ℕ) (a : Activity)
    → has_members j (cond b (Calls.activity_after_end c.id a) a).members
    ≡ (has_members j a.members && not (b && j == c.id))
one_has true c j a = ended_has c.id j (has_members c.id a.members) a refl
one_has false c j a = sym (and_true (has_members j a.members))

and_more : (h e a : Bool) → ((h && not e) && not a) ≡ (h && not (e || a))
and_more true true a = refl
and_more true false a = refl
and_more false e a = refl

among_more : (b : Bool) (c : Contract) (j : ℕ) (cs : List Contract)
    → (b && j == c.id || is_among j (ids_of cs)) ≡ is_among j (ids_of (cond b (c ∷ cs) cs))
among_more true c j cs = ap (λ x. x || is_among j (ids_of cs)) (turned j c.id)
among_more false c j cs = refl

gone_has : (actor j : ℕ) (cs : List Contract) (a : Activity)
    → has_members j (Calls.ended_with actor cs a).members
    ≡ (has_members j a.members && not (is_among j (ending_ids actor cs)))
gone_has actor j [] a = sym (and_true (has_members j a.members))
gone_has actor j (c ∷ cs) a =
    let b : Bool = Calls.ends_with actor c in
    let one : Bool = b && j == c.id in
    let rest : Bool = is_among j (ending_ids actor cs) in
    gone_has actor j cs (Calls.ended_one_with actor c a)
    ∙ ap (λ x. x && not rest) (one_has b c j a)
    ∙ and_more (has_members j a.members) one rest
    ∙ ap (λ x. has_members j a.members && not x) (among_more b c j (filter (Calls.ends_with actor) cs))

-- a contract that is given up keeps its id
same_id : (b : Bool) (c d : Contract) → d.id ≡ c.id → (cond b d c).id ≡ c.id
same_id true c d h = h
same_id false c d h = refl

given_up_head : (a b : Bool) (c d : Contract) (xs ys : List Contract) → a ≡ b → d.id ≡ c.id → ids_of xs ≡ ids_of ys
    → ids_of (cond a (d ∷ xs) xs) ≡ ids_of (cond b (c ∷ ys) ys)
given_up_head true true c d xs ys h i k = let head : d.id ≡ c.id = i in cc
given_up_head false false c d xs ys h i k = k
given_up_head true false c d xs ys h i k = cc
given_up_head false true c d xs ys h i k = cc

given_up_filter : (test : ℕ → Bool) (actor : ℕ) (cs : List Contract)
    → ids_of (filter (λ c. test c.id) (map (Calls.given_up actor) cs)) ≡ ids_of (filter (λ c. test c.id) cs)
given_up_filter test actor [] = refl
given_up_filter test actor (c ∷ cs) =
    let same : (Calls.given_up actor c).id ≡ c.id =
    same_id (Calls.is_held_by actor c.holder) c
    (record c { holder = (cond c.terms.inherit Inherited Abandoned) }) refl in
    given_up_head (test (Calls.given_up actor c).id) (test c.id) c (Calls.given_up actor c) _ _ (ap test same) same
    (given_up_filter test actor cs)

pub loss_empties : (t : Contracts) (actor : ℕ) → emptied_by t (calls.Gone actor) ≡ ids_left actor t.contracts t.members
unfolding emptied_by table_after_contract_call Calls.table_without_actor is_ending
loss_empties t actor =
    let later : List Member = (Calls.ended_with actor t.contracts (Calls.activity t)).members in
    given_up_filter (λ j. has_members j t.members && not (has_members j later)) actor t.contracts
    ∙ same_ids _ _ (λ c.
    ap (λ x. has_members c.id t.members && not x) (gone_has actor c.id t.contracts (Calls.activity t))
    ∙ left_one (has_members c.id t.members) (is_among c.id (ending_ids actor t.contracts))) t.contracts
