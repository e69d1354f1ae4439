-- Each call keeps the contracts of the system in step with the ledger.
use Rattle.std.proofs.Common.{◌≡◌, ℕ, ◌+◌, ◌<◌, ◌==◌, List, [], ◌∷◌, ◌++◌, Bool, true, false, cond, Option, Some, None, Result, Ok, Err, IfOk, filter, length, refl, sym, ap, subst, arith, ◌∙◌}
use Rattle.std.proofs.lemmas.Bool.{eqb-true}
use Rattle.smf_contract.specs.declared.contract.Contract.{Contract}
use Rattle.smf_contract.specs.declared.contract.Member.{Member}
use Rattle.smf_contract.specs.declared.event.ContractEvent.{ContractEvent}
use Rattle.smf_contract.specs.declared.event.Exit as ends
use Rattle.smf_contract.specs.declared.event.Failure.{Failure}
use Rattle.smf_contract.specs.declared.event.Failure.TheVariants as failures
use Rattle.smf_contract.specs.declared.fault.ContractFault.{ContractFault}
use Rattle.smf_contract.specs.declared.table.Made.{Made}
use Rattle.smf_contract.specs.declared.terms.Terms.{Terms}
use Rattle.smf_contract.specs.Entries.{Contracts, contract, empty, has_members, processes}
use Rattle.smf_contract.specs.Calls
use Rattle.smf_contract.specs.Calls.{activity, result_of_exit, exited_in, result_of_failure, failed_in, result_of_fork, forked_in, is_fatal, result_of_kill, killed_if, result_of_spawn, spawned_as, with_activity}
use Rattle.smf_contract.specs.Called.{table_after_contract_call, left_by as left_by_call, left_by_making}
use Rattle.smf_contract.specs.Laws.{Ascends}
use Rattle.smf_contract.proofs.After.{spawned_next}
use Rattle.smf_edge.specs.declared.deed.Happening.{Happening}
use Rattle.smf_edge.specs.declared.deed.Happening.TheVariants.{Fork, Exit, Fail}
use Rattle.smf_edge.specs.declared.note.Run.{Run}
use Rattle.smf_edge.specs.Ledgers.{Ledger, call_of, is_other_deed, members_left, left_after, left_by}
use Rattle.smf_edge.specs.Processes.{HasTold}
use Rattle.smf_edge.specs.Sound.{IsSound}
use Rattle.smf_edge.specs.Steps.{IsGiven, IsKilled, IsSpawned}
use Rattle.smf_edge.proofs.Calls.{Brings, call_brings}
use Rattle.smf_edge.proofs.Members.{count_more, count_outside, none_count, one_at}
use Rattle.smf_edge.proofs.Sounds.{sound_empty}
use Rattle.smf_edge.proofs.Reports.{next_there}
use Rattle.smf_edge.specs.declared.kid.Phase.{Phase}
use Rattle.smf_edge.specs.declared.kid.Phase.TheVariants.{First}
use Rattle.smf_edge.specs.declared.stand.FirstEnd.{FirstEnd}
use Rattle.smf_edge.specs.declared.stand.FirstEnd.TheVariants.{Code, Signal, Core}
use Rattle.smf_edge.specs.Followed.{IsFollowed, IsKept}
use Rattle.smf_edge.specs.Phases.{IsPut, Post, happening_of, ids_of, is_fatal_end, is_other_post, size, size_in, size_of}
use Rattle.smf_edge.proofs.Sizes.{ascends_more, ascends_others, put_ascends, put_here, put_same, size_forgotten, size_kept, size_more}

-- ---- what is told of a member leaves the numbers of contracts

fork_last : (t : Contracts) (o n : Option ℕ) → (left_by_making t (forked_in t o n)).last_contract ≡ t.last_contract
fork_last t None n = refl
fork_last t (Some id) None = refl
fork_last t (Some id) (Some p) = refl

exit_last : (t : Contracts) (p : ℕ) (exit : ends.Exit) (o : Option ℕ)
    → (left_by_call t (exited_in t p exit o)).last_contract ≡ t.last_contract
exit_last t p exit None = refl
exit_last t p exit (Some id) = refl

fail_last : (t : Contracts) (p : ℕ) (f : Failure) (o : Option ℕ)
    → (left_by_call t (failed_in t p f o)).last_contract ≡ t.last_contract
fail_last t p f None = refl
fail_last t p f (Some id) = refl

told_last : (t : Contracts) (p : ℕ) (h : Happening)
    → (table_after_contract_call t (call_of p h)).last_contract ≡ t.last_contract
unfolding table_after_contract_call result_of_fork result_of_exit result_of_failure
told_last t p Fork = fork_last t _ _
told_last t p (Exit exit) = exit_last t p exit _
told_last t p (Fail f) = fail_last t p f _

-- ---- what is told

counts_by : (b : Bool) (id at n m j k : ℕ) (c : Option Contract) (h : Happening) → (id == at) ≡ b
    → n ≡ cond b (left_by c h m) m → m ≡ j → ((id == at) ≡ true → left_by c h j ≡ k) → ((id == at) ≡ false → k ≡ j)
    → n ≡ k
counts_by true id at n m j k c h e is was here other = is ∙ ap (left_by c h) was ∙ here e
counts_by false id at n m j k c h e is was here other = is ∙ was ∙ sym (other e)

-- something happened to a member of a contract, and the posts give it as many as are left
pub followed_told : (id : ℕ) (h : Happening) (e : ContractEvent) (l m : Ledger) (ps qs : List Post) → IsSound l
    → l.table.last_process < 0x7fff_ffff_ffff_ffff → IsFollowed l ps → HasTold id h l m e
    → left_by (contract l.table id) h (size_of id ps) ≡ size_of id qs
    → ((at : ℕ) → (id == at) ≡ false → size_of at qs ≡ size_of at ps)
    → Ascends 0 (ids_of qs) l.table.last_contract → IsFollowed m qs
followed_told id h e l m ps qs s low f told here others once =
    let next = next_there l.table.last_process low in
    let P : Contracts → Type 0 = Brings id h l.table in
    let b : Brings id h l.table m.table =
    subst P (sym told.2.table) (call_brings l.table id told.0 h next s.ordered.members_ascend told.1) in
    let last : m.table.last_contract ≡ l.table.last_contract =
    ap (λ t. t.last_contract) told.2.table ∙ told_last l.table told.0 h in
    record {
      counts = λ at. counts_by (id == at) id at _ _ _ _ (contract l.table id) h refl (b.counts at) (f.counts at)
          (λ same. let is : id ≡ at = eqb-true id at same in let Q : ℕ
          → Type 0 = λ n. left_by (contract l.table id) h (size_of n ps) ≡ size_of n qs in subst Q is here)
          (others at);
      once = let R : ℕ → Type 0 = λ n. Ascends 0 (ids_of qs) n in subst R (sym last) once;
      pending = ap (λ k. k.pending) told.2.is ∙ f.pending;
    }

-- a phase is put, if the contract had so many members
pub followed_put : (id n : ℕ) (phase : Phase) (h : Happening) (e : ContractEvent) (l m : Ledger) (ps qs : List Post)
    → IsSound l → l.table.last_process < 0x7fff_ffff_ffff_ffff → IsFollowed l ps → HasTold id h l m e
    → size_of id ps ≡ n → left_by (contract l.table id) h n ≡ size phase → IsPut id phase ps qs → IsFollowed m qs
followed_put id n phase h e l m ps qs s low f told was members_left put =
    followed_told id h e l m ps qs s low f told
    (ap (left_by (contract l.table id) h) was ∙ members_left
    ∙ sym (put_here id 0 l.table.last_contract phase ps qs put f.once))
    (λ at apart. put_same id at phase ps qs put apart)
    (put_ascends id 0 l.table.last_contract phase ps qs put f.once)

-- a contract is forgotten, if none is left of its members
pub followed_last : (id n : ℕ) (h : Happening) (e : ContractEvent) (l m : Ledger) (ps : List Post) → IsSound l
    → l.table.last_process < 0x7fff_ffff_ffff_ffff → IsFollowed l ps → HasTold id h l m e
    → size_of id ps ≡ n → left_by (contract l.table id) h n ≡ 0 → IsFollowed m (filter (is_other_post id) ps)
followed_last id n h e l m ps s low f told was members_left =
    followed_told id h e l m ps _ s low f told
    (ap (left_by (contract l.table id) h) was ∙ members_left ∙ sym (size_forgotten id ps))
    (λ at apart. size_kept id at ps apart)
    (ascends_others id 0 l.table.last_contract ps f.once)

pub followed_given : (e : ContractEvent) (l m : Ledger) (ps : List Post) → IsFollowed l ps → IsGiven e l m
    → IsFollowed m ps
followed_given e l m ps f h =
    let kept : IsFollowed (record l { due = m.due }) ps =
    record { counts = f.counts; once = f.once; pending = f.pending } in
    let P : Ledger → Type 0 = λ k. IsFollowed k ps in subst P (sym h.is) kept

-- ---- ends of first processes

if_fatal : (b : Bool) (c : Option Contract) (f : Failure) → is_fatal f c ≡ b → left_by c (Fail f) 1 ≡ 0
if_fatal true c f e = rw e refl
if_fatal false c f e = rw e refl

pub last_of_one : (c : Option Contract) (end : FirstEnd) → left_by c (happening_of end) 1 ≡ 0
last_of_one c (Code code) = refl
last_of_one c Signal = if_fatal _ c failures.Signal refl
last_of_one c Core = if_fatal _ c failures.Core refl

pub last_of_two : (c : Option Contract) (end : FirstEnd) → is_fatal_end c end ≡ true
    → left_by c (happening_of end) 2 ≡ 0
last_of_two c (Code code) h = absurd cc
last_of_two c Signal h = rw h refl
last_of_two c Core h = rw h refl

pub one_of_two : (c : Option Contract) (end : FirstEnd) → is_fatal_end c end ≡ false
    → left_by c (happening_of end) 2 ≡ 1
one_of_two c (Code code) h = refl
one_of_two c Signal h = rw h refl
one_of_two c Core h = rw h refl

-- ---- a run more

abbrev made_in : Made → Result (Contracts × Made) ContractFault → Made
made_in d (Ok r) = r.1
made_in d (Err e) = d

abbrev table_in : Contracts → Result (Contracts × Made) ContractFault → Contracts
table_in t (Ok r) = r.0
table_in t (Err e) = t

made_by : (t u : Contracts) (cookie : ℕ) (terms : Terms) (m : Made) (new first : Option ℕ)
    → spawned_as t 0 cookie terms new first ≡ Ok (u, m) → (p : ℕ)
    × (u ≡ Calls.with_new_contract t 0 cookie terms m.contract p)
made_by t u cookie terms m None first h = absurd cc
made_by t u cookie terms m (Some id) None h = absurd cc
made_by t u cookie terms m (Some id) (Some p) h =
    let same : id ≡ m.contract = ap (λ r. (made_in m r).contract) h in
    (p, sym (ap (table_in t) h) ∙ ap (λ n. Calls.with_new_contract t 0 cookie terms n p) same)

spawned_by : (t u : Contracts) (cookie : ℕ) (terms : Terms) (m : Made) → result_of_spawn t 0 cookie terms ≡ Ok (u, m)
    → (p : ℕ) × (u ≡ Calls.with_new_contract t 0 cookie terms m.contract p)
unfolding result_of_spawn
spawned_by t u cookie terms m h = made_by t u cookie terms m _ _ h

begun_in : (b : Bool) (id at : ℕ) → (id == at) ≡ b → one_at b ≡ size_in at (record { contract = id; phase = First })
begun_in true id at e = rw e refl
begun_in false id at e = rw e refl

pub followed_spawned : (run : Run) (l m : Ledger) (ps qs : List Post) → IsFollowed l ps → IsSpawned run l m
    → qs ≡ ps ++ record { contract = run.contract; phase = First } ∷ [] → IsFollowed m qs
followed_spawned run l m ps qs f h is =
    let t = l.table in
    let new : Post = record { contract = run.contract; phase = First } in
    let shape = spawned_by t m.table run.cookie run.terms
    (record { contract = run.contract; process = m.table.last_process }) h.made in
    let P : Result (Contracts × Made) ContractFault → Type 0 =
    λ r. IfOk r (λ x. (x.1.contract ≡ t.last_contract + 1) × (x.1.process ≡ t.last_process + 1)) in
    let next = (subst P h.made (spawned_next t 0 run.cookie run.terms)).0 in
    let member : Member = record { process = shape.0; contract = run.contract } in
    let Q : ℕ → Type 0 = λ n. Ascends 0 (ids_of (ps ++ new ∷ [])) n in
    let R : List Post → Type 0 = λ xs. IsFollowed m xs in
    let more : IsFollowed m (ps ++ new ∷ []) = record {
      counts = λ at.
          let count : length (processes at m.table.members)
          ≡ length (processes at t.members) + one_at (run.contract == at) =
          ap (λ u. length (processes at u.members)) shape.1 ∙ count_more at t.members member in
          omega (arith, count, f.counts at, begun_in _ run.contract at refl, size_more at ps new);
      once = subst Q (ap (λ u. u.last_contract) (sym shape.1))
          (ascends_more 0 t.last_contract run.contract ps new refl f.once (omega (arith, next)));
      pending = ap (λ k. k.pending) h.is ∙ f.pending;
    } in
    subst R (sym is) more

-- ---- a kill

killed_by : (b v : Bool) (id at : ℕ) (t : Contracts) → has_members id t.members ≡ b → (id == at) ≡ v
    → length (processes at (with_activity t (cond b (Calls.emptied_by_force id (activity t)) (activity t))).members)
    ≡ cond v 0 (length (processes at t.members))
killed_by true v id at t some e = count_outside id at t.members ∙ ap (λ b. cond b 0 (length (processes at t.members))) e
killed_by false true id at t none e =
    let is : id ≡ at = eqb-true id at e in
    let P : ℕ → Type 0 = λ n. length (processes n t.members) ≡ 0 in
    subst P is (none_count id t.members none)
killed_by false false id at t none e = refl

kill_counts : (id at : ℕ) (t u : Contracts) (o : Option Contract) → killed_if t id o ≡ Ok u
    → (length (processes at u.members) ≡ cond (id == at) 0 (length (processes at t.members)))
    × (u.last_contract ≡ t.last_contract)
kill_counts id at t u None h = absurd cc
kill_counts id at t u (Some c) h =
    let P : Contracts → Type 0 =
    λ x. (length (processes at x.members) ≡ cond (id == at) 0 (length (processes at t.members)))
    × (x.last_contract ≡ t.last_contract) in
    subst P (ap (left_by_call t) h)
    (killed_by (has_members id t.members) (id == at) id at t refl refl, refl_last (has_members id t.members) id t)
  where
    refl_last : (b : Bool) (id : ℕ) (t : Contracts)
        → (with_activity t (cond b (Calls.emptied_by_force id (activity t)) (activity t))).last_contract
        ≡ t.last_contract
    refl_last true id t = refl
    refl_last false id t = refl

killed_counts : (id at : ℕ) (t u : Contracts) → result_of_kill t 0 id ≡ Ok u
    → (length (processes at u.members) ≡ cond (id == at) 0 (length (processes at t.members)))
    × (u.last_contract ≡ t.last_contract)
unfolding result_of_kill
killed_counts id at t u h = kill_counts id at t u _ h

killed_size : (b : Bool) (id at n m : ℕ) (ps : List Post) → (id == at) ≡ b → n ≡ cond b 0 m → m ≡ size_of at ps
    → n ≡ size_of at (filter (is_other_post id) ps)
killed_size true id at n m ps e is was =
    let same : id ≡ at = eqb-true id at e in
    let P : ℕ → Type 0 = λ k. size_of k (filter (is_other_post id) ps) ≡ 0 in
    is ∙ sym (subst P same (size_forgotten id ps))
killed_size false id at n m ps e is was = is ∙ was ∙ sym (size_kept id at ps e)

pub followed_killed : (id : ℕ) (l m : Ledger) (ps : List Post) → IsFollowed l ps → IsKilled id l m
    → IsFollowed m (filter (is_other_post id) ps)
followed_killed id l m ps f h =
    let last = (killed_counts id 0 l.table m.table h.killed).1 in
    let P : ℕ → Type 0 = λ n. Ascends 0 (ids_of (filter (is_other_post id) ps)) n in
    record {
      counts = λ at. killed_size (id == at) id at _ _ ps refl (killed_counts id at l.table m.table h.killed).0
          (f.counts at);
      once = subst P (sym last) (ascends_others id 0 l.table.last_contract ps f.once);
      pending = ap (λ k. k.pending) h.is ∙ ap (filter (is_other_deed id)) f.pending;
    }

-- ---- what is followed, along equations

pub followed_along : (l m : Ledger) (ps qs : List Post) → l ≡ m → ps ≡ qs → IsFollowed l ps → IsFollowed m qs
followed_along l m ps qs e g f =
    let P : Ledger → Type 0 = λ k. IsFollowed k ps in
    let Q : List Post → Type 0 = λ xs. IsFollowed m xs in
    subst Q g (subst P e f)

abbrev nothing : Ledger
nothing = record { notes = []; table = empty; due = []; pending = [] }

pub kept_empty : (l : Ledger) (ps : List Post) → l ≡ nothing → ps ≡ [] → IsKept l ps
kept_empty l ps e g =
    let none : IsFollowed nothing [] = record { counts = λ id. refl; once = omega arith; pending = refl } in
    record { sound = sound_empty l e; followed = followed_along nothing l [] ps (sym e) (sym g) none }

-- how many members are left of a contract
pub left_is : (id : ℕ) (l : Ledger) (ps : List Post) → IsFollowed l ps → members_left l id ≡ size_of id ps
left_is id l ps f =
    let c = contract l.table id in
    let n = length (processes id l.table.members) in
    ap (λ ds. left_after c id ds n) f.pending ∙ f.counts id
