-- A poll of the contracts of the system: the events that it tells, and the invariant that it keeps.
use Rattle.std.proofs.Common.{◌≡◌, ◌≢◌, ℕ, ◌<◌, ◌==◌, ◌⊎◌, inl, inr, List, [], ◌∷◌, ◌++◌, Bool, true, false, cond, Option, Some, None, IsSome, filter, length, option_map, refl, sym, ap, subst, ◌∙◌, take, drop, arith}
use Rattle.std.specs.Prelude.{find}
use Rattle.std.proofs.lemmas.List.{length-map, length-set}
use Rattle.std.proofs.lemmas.Bool.{eqb-true}
use Rattle.smf_contract.specs.declared.contract.Contract.{Contract}
use Rattle.smf_contract.specs.declared.contract.Member.{Member}
use Rattle.smf_contract.specs.declared.event.ContractEvent.{ContractEvent}
use Rattle.smf_contract.specs.Entries.{contract, first_member, is_in, processes}
use Rattle.smf_edge.specs.declared.deed.Happening.TheVariants.{Fork}
use Rattle.smf_edge.specs.Ledgers.{Ledger, members_left, left_by}
use Rattle.smf_edge.specs.Processes.{HasTold}
use Rattle.smf_edge.specs.Sound.{IsSound}
use Rattle.smf_edge.proofs.Firsts.{found_is}
use Rattle.smf_edge.specs.declared.kid.Kid.{Kid}
use Rattle.smf_edge.specs.declared.kid.Phase.{Phase}
use Rattle.smf_edge.specs.declared.kid.Phase.TheVariants.{First, Forked, Others}
use Rattle.smf_edge.specs.declared.sights.Sight.TheVariants as sights
use Rattle.smf_edge.specs.declared.stand.FirstEnd.{FirstEnd}
use Rattle.smf_edge.specs.declared.stand.Stand.TheVariants.{Left}
use Rattle.smf_edge.specs.FollowedFacts.{ContractFacts}
use Rattle.smf_edge.specs.Followed.{IsFollowed}
use Rattle.smf_edge.specs.Phases.{IsAbsent, IsPut, Post, SomeKid, happening_of, is_fatal_end, is_other_kid, is_other_post, post_of, posts, size, size_of}
use Rattle.smf_edge.specs.Sights.{EmptiesOnly, IsEmptied, IsEmpty, OneSeen, PollsEvent, PollsKids, TellsEnd, TellsFork, TellsLast}
use Rattle.smf_edge.proofs.Preservation.{followed_last, followed_put, last_of_one, last_of_two, left_is, one_of_two}
use Rattle.smf_edge.proofs.FollowedPlaces.{back, left_posts, same_back, size_of_kid}
use Rattle.smf_edge.proofs.Sizes.{absent_size, put_here, put_same, size_kept, some_size}

-- ---- a contract of the system has members

some_first : (id : ℕ) (ms : List Member) → 0 < length (processes id ms)
    → IsSome (option_map (λ m. m.process) (find (is_in id) ms))
some_first id [] h = absurd (omega (arith, h))
some_first id (m ∷ ms) h = by (m.contract == id) refl (some_first id ms)
  where
    by : (b : Bool) → (m.contract == id) ≡ b
        → (0 < length (processes id ms) → IsSome (option_map (λ m. m.process) (find (is_in id) ms)))
        → IsSome (option_map (λ m. m.process) (cond b (Some m) (find (is_in id) ms)))
    by true e deeper = refl
    by false e deeper =
        deeper (let less : length (processes id (m ∷ ms)) ≡ length (processes id ms) = rw e refl in rw less at h)

not_none : {X : Type 0} (o : Option X) → IsSome o → o ≢ None
not_none None h = absurd cc
not_none (Some x) h = λ e. absurd cc

pub member_is_there : {H : Type 0} (id : ℕ) (l : Ledger) (kids : List (Kid H)) (P : Kid H → Type 0)
    → IsFollowed l (posts kids) → SomeKid id kids P → first_member id l.table.members ≢ None
member_is_there id l kids P f some =
    let many : 0 < length (processes id l.table.members) =
    omega (arith, f.counts id, size_of_kid id l kids P some f, some_size some.1.phase) in
    λ none. not_none _ (some_first id l.table.members many)
    (ap (option_map (λ m. m.process)) (sym (found_is (is_in id) l.table.members)) ∙ none)

not_absent : {H : Type 0} (id : ℕ) (l : Ledger) (kids : List (Kid H)) (ps : List Post) (P : Kid H → Type 0)
    → IsFollowed l (posts kids) → SomeKid id kids P → ps ≡ posts kids → IsAbsent id ps → ⊥
not_absent id l kids ps P f some same absent =
    let none : size_of id ps ≡ 0 = absent_size id ps absent in
    let as_many : size_of id ps ≡ size_of id (posts kids) = ap (size_of id) same in
    omega (arith, none, as_many, size_of_kid id l kids P some f, some_size some.1.phase)

-- one of which this holds, if the contract has members
pub living_kid : {H : Type 0} (id : ℕ) (l : Ledger) (kids : List (Kid H)) (P : Kid H → Type 0)
    → IsFollowed l (posts kids) → 0 < members_left l id → IsAbsent id (posts kids) ⊎ SomeKid id kids P
    → SomeKid id kids P
living_kid id l kids P f some (inl absent) =
    absurd (omega (arith, some, left_is id l (posts kids) f, absent_size id (posts kids) absent))
living_kid id l kids P f some (inr one) = one

was_put : {H : Type 0} (id : ℕ) (phase : Phase) (l : Ledger) (old now new : List (Kid H)) (P : Kid H → Type 0)
    → IsFollowed l (posts old) → SomeKid id old P → posts now ≡ posts old
    → IsAbsent id (posts now) ⊎ IsPut id phase (posts now) (posts new) → IsPut id phase (posts old) (posts new)
was_put id phase l old now new P f some same (inl absent) =
    absurd (not_absent id l old (posts now) P f some same absent)
was_put id phase l old now new P f some same (inr put) = let Q : List Post → Type 0 =
    λ ps. IsPut id phase ps (posts new) in subst Q same put

was_put_at : (id : ℕ) (phase : Phase) (ps qs rs : List Post) → ps ≡ qs → IsPut id phase ps rs → IsPut id phase qs rs
was_put_at id phase ps qs rs same put = let P : List Post → Type 0 = λ xs. IsPut id phase xs rs in subst P same put

-- ---- which contract a sight is of

pub left_kid : {H : Type 0} (facts : ContractFacts H) (id : ℕ) (end : FirstEnd) (l : Ledger) (kids : List (Kid H))
    → OneSeen facts l.table (sights.Left id end) kids
    → SomeKid id kids (λ kid. (kid.phase ≡ First) × facts.stands kid.held (Left end))
left_kid facts id end l kids s = (s.0, s.1, s.2, sym s.3.of, s.3.seen)

pub over_kid : {H : Type 0} (facts : ContractFacts H) (id : ℕ) (end : FirstEnd) (l : Ledger) (kids : List (Kid H))
    → OneSeen facts l.table (sights.Over id end) kids → SomeKid id kids (λ kid. kid.phase ≡ Forked end)
over_kid facts id end l kids s = (s.0, s.1, s.2, sym s.3.of, s.3.seen.0)

over_lone : {H : Type 0} (facts : ContractFacts H) (id : ℕ) (end : FirstEnd) (l : Ledger) (kids : List (Kid H))
    → OneSeen facts l.table (sights.Over id end) kids → is_fatal_end (contract l.table id) end ≡ false
over_lone facts id end l kids s = ap (λ n. is_fatal_end (contract l.table n) end) s.3.of ∙ s.3.seen.1

pub gone_kid : {H : Type 0} (facts : ContractFacts H) (id : ℕ) (end : FirstEnd) (l : Ledger) (kids : List (Kid H))
    → OneSeen facts l.table (sights.Gone id end) kids
    → SomeKid id kids (λ kid. IsEmptied facts (contract l.table id) end kid.phase kid.held)
gone_kid facts id end l kids s =
    let P : ℕ → Type 0 = λ n. IsEmptied facts (contract l.table n) end s.1.phase s.1.held in
    (s.0, s.1, s.2, sym s.3.of, subst P (sym s.3.of) s.3.seen)

-- ---- what is told

pub forked : {H : Type 0} (facts : ContractFacts H) (id : ℕ) (end : FirstEnd) (e : ContractEvent) (l m : Ledger)
    (old now new : List (Kid H)) → IsSound l → l.table.last_process < 0x7fff_ffff_ffff_ffff → IsFollowed l (posts old)
    → OneSeen facts l.table (sights.Left id end) old → posts now ≡ posts old → HasTold id Fork l m e
    → IsAbsent id (posts now) ⊎ IsPut id (Forked end) (posts now) (posts new)
    → TellsFork facts e l m old new × IsFollowed m (posts new)
forked {H} facts id end e l m old now new s low f seen same told put =
    let P : Kid H → Type 0 = λ kid. (kid.phase ≡ First) × facts.stands kid.held (Left end) in
    let kid = left_kid facts id end l old seen in
    let one : size_of id (posts old) ≡ 1 = size_of_kid id l old P kid f ∙ ap size kid.4.0 in
    let put_now = was_put id (Forked end) l old now new P f kid same put in (
      record { id = id; end = end; kid = kid; told = told; posts = put_now },
      followed_put id 1 (Forked end) Fork e l m (posts old) (posts new) s low f told one refl put_now,
    )

pub over : {H : Type 0} (facts : ContractFacts H) (id : ℕ) (end : FirstEnd) (e : ContractEvent) (l m : Ledger)
    (old now new : List (Kid H)) → IsSound l → l.table.last_process < 0x7fff_ffff_ffff_ffff → IsFollowed l (posts old)
    → OneSeen facts l.table (sights.Over id end) old → posts now ≡ posts old → HasTold id (happening_of end) l m e
    → IsAbsent id (posts now) ⊎ IsPut id Others (posts now) (posts new)
    → TellsEnd e l m old new × IsFollowed m (posts new)
over {H} facts id end e l m old now new s low f seen same told put =
    let P : Kid H → Type 0 = λ kid. kid.phase ≡ Forked end in
    let kid = over_kid facts id end l old seen in
    let lone = over_lone facts id end l old seen in
    let two : size_of id (posts old) ≡ 2 = size_of_kid id l old P kid f ∙ ap size kid.4 in
    let put_now = was_put id Others l old now new P f kid same put in (
      record { id = id; end = end; kid = kid; lone = lone; told = told; posts = put_now },
      followed_put id 2 Others (happening_of end) e l m (posts old) (posts new) s low f told two
          (one_of_two (contract l.table id) end lone) put_now,
    )

none_after : {H : Type 0} (facts : ContractFacts H) (id : ℕ) (end : FirstEnd) (l : Ledger) (phase : Phase) (held : H)
    → IsEmptied facts (contract l.table id) end phase held
    → left_by (contract l.table id) (happening_of end) (size phase) ≡ 0
none_after facts id end l First held h = last_of_one (contract l.table id) end
none_after facts id end l (Forked first) held h = last_of_two (contract l.table id) end h.1
none_after facts id end l Others held h = last_of_one (contract l.table id) end

pub emptied : {H : Type 0} (facts : ContractFacts H) (id : ℕ) (end : FirstEnd) (e : ContractEvent) (l m : Ledger)
    (old new : List (Kid H)) → IsSound l → l.table.last_process < 0x7fff_ffff_ffff_ffff → IsFollowed l (posts old)
    → OneSeen facts l.table (sights.Gone id end) old → HasTold id (happening_of end) l m e
    → posts new ≡ filter (is_other_post id) (posts old)
    → TellsLast facts e l m old new × IsFollowed m (posts new)
emptied {H} facts id end e l m old new s low f seen told gone =
    let P : Kid H → Type 0 = λ kid. IsEmptied facts (contract l.table id) end kid.phase kid.held in
    let kid = gone_kid facts id end l old seen in
    let count = size_of_kid id l old P kid f in
    let none = none_after facts id end l kid.1.phase kid.1.held kid.4 in
    let kept = followed_last id (size kid.1.phase) (happening_of end) e l m (posts old) s low f told count none in
    let Q : List Post → Type 0 = λ ps. IsFollowed m ps in
    (record { id = id; end = end; kid = kid; told = told; posts = gone }, subst Q (sym gone) kept)

-- ---- a poll, with what was lent and came back

put_back : {H : Type 0} (id len : ℕ) (phase : Phase) (items was now : List (Kid H)) → was ≡ items → length was ≡ len
    → IsPut id phase (posts was) (posts now) → posts (take len (now ++ drop (length now) items)) ≡ posts now
put_back id len phase items was now e n put =
    let count : length now ≡ length was = sym (length-map now post_of) ∙ ap length put.4
    ∙ length-set (posts was) put.0 _ ∙ length-map was post_of in
    ap posts (back len items was now e n count)

pub poll_left : {H : Type 0} (facts : ContractFacts H) (id : ℕ) (end : FirstEnd) (e : ContractEvent) (len : ℕ)
    (l m : Ledger) (items was seen again put now : List (Kid H)) → IsSound l → l.table.last_process < 0x7fff_ffff_ffff_ffff
    → IsFollowed l (posts items)
    → was ≡ items → length was ≡ len → posts seen ≡ posts was → OneSeen facts l.table (sights.Left id end) was
    → again ≡ take len (seen ++ drop (length seen) items) → length again ≡ len → HasTold id Fork l m e
    → IsAbsent id (posts again) ⊎ IsPut id (Forked end) (posts again) (posts put)
    → now ≡ take len (put ++ drop (length put) (take len (seen ++ drop (length seen) items)))
    → TellsFork facts e l m items now × IsFollowed m (posts now)
poll_left {H} facts id end e len l m items was seen again put now s low f at n same one at_again n_again told
    was_put_in is =
    let P : List (Kid H) → Type 0 = λ ks. OneSeen facts l.table (sights.Left id end) ks in
    let back_same = ap posts at_again ∙ same_back len items was seen at n same in
    let one_item = subst P at one in
    let kid = left_kid facts id end l items one_item in
    let put_again =
    was_put id (Forked end) l items again put (λ kid. (kid.phase ≡ First) × facts.stands kid.held (Left end)) f
    kid back_same was_put_in in
    let here = was_put_at id (Forked end) (posts items) (posts again) (posts put) (sym back_same) put_again in
    let back_put : posts now ≡ posts put = ap posts is
    ∙ put_back id len (Forked end) (take len (seen ++ drop (length seen) items)) again put at_again n_again here in
    let Q : List Post → Type 0 = λ ps. IsAbsent id (posts again) ⊎ IsPut id (Forked end) (posts again) ps in
    forked facts id end e l m items again now s low f one_item back_same told (subst Q (sym back_put) was_put_in)

pub poll_over : {H : Type 0} (facts : ContractFacts H) (id : ℕ) (end : FirstEnd) (e : ContractEvent) (len : ℕ)
    (l m : Ledger) (items was seen again put now : List (Kid H)) → IsSound l → l.table.last_process < 0x7fff_ffff_ffff_ffff
    → IsFollowed l (posts items)
    → was ≡ items → length was ≡ len → posts seen ≡ posts was → OneSeen facts l.table (sights.Over id end) was
    → again ≡ take len (seen ++ drop (length seen) items) → length again ≡ len → HasTold id (happening_of end) l m e
    → IsAbsent id (posts again) ⊎ IsPut id Others (posts again) (posts put)
    → now ≡ take len (put ++ drop (length put) (take len (seen ++ drop (length seen) items)))
    → TellsEnd e l m items now × IsFollowed m (posts now)
poll_over {H} facts id end e len l m items was seen again put now s low f at n same one at_again n_again told
    was_put_in is =
    let P : List (Kid H) → Type 0 = λ ks. OneSeen facts l.table (sights.Over id end) ks in
    let back_same = ap posts at_again ∙ same_back len items was seen at n same in
    let one_item = subst P at one in
    let kid = over_kid facts id end l items one_item in
    let put_again = was_put id Others l items again put (λ kid. kid.phase ≡ Forked end) f kid back_same was_put_in in
    let here = was_put_at id Others (posts items) (posts again) (posts put) (sym back_same) put_again in
    let back_put : posts now ≡ posts put = ap posts is
    ∙ put_back id len Others (take len (seen ++ drop (length seen) items)) again put at_again n_again here in
    let Q : List Post → Type 0 = λ ps. IsAbsent id (posts again) ⊎ IsPut id Others (posts again) ps in
    over facts id end e l m items again now s low f one_item back_same told (subst Q (sym back_put) was_put_in)

pub poll_gone : {H : Type 0} (facts : ContractFacts H) (id : ℕ) (end : FirstEnd) (e : ContractEvent) (len : ℕ)
    (l m : Ledger) (items was seen now : List (Kid H)) → IsSound l → l.table.last_process < 0x7fff_ffff_ffff_ffff
    → IsFollowed l (posts items)
    → was ≡ items → length was ≡ len → posts seen ≡ posts was → OneSeen facts l.table (sights.Gone id end) was
    → HasTold id (happening_of end) l m e
    → now ≡ filter (is_other_kid id) (take len (seen ++ drop (length seen) items))
    → TellsLast facts e l m items now × IsFollowed m (posts now)
poll_gone {H} facts id end e len l m items was seen now s low f at n same one told is =
    let P : List (Kid H) → Type 0 = λ ks. OneSeen facts l.table (sights.Gone id end) ks in
    emptied facts id end e l m items now s low f (subst P at one) told
    (left_posts id len items was seen now is at n same)

-- ---- which contracts lose their last member

empty_by : {H : Type 0} (facts : ContractFacts H) (c : Option Contract) (end : FirstEnd) (phase : Phase) (held : H)
    → IsEmptied facts c end phase held → IsEmpty facts held
empty_by facts c end First held h = inl (end, h)
empty_by facts c end (Forked first) held h = inr h.2
empty_by facts c end Others held h = inl (h.1, h.2)

put_leaves : (b : Bool) (id at : ℕ) (phase : Phase) (l : Ledger) (ps qs : List Post) → (id == at) ≡ b
    → IsFollowed l ps → IsPut id phase ps qs → 0 < size_of at ps → size_of at qs ≡ 0 → ⊥
put_leaves true id at phase l ps qs e f put some none =
    let same : id ≡ at = eqb-true id at e in
    let here = put_here id 0 l.table.last_contract phase ps qs put f.once in
    let there : size_of at qs ≡ size_of id qs = ap (λ n. size_of n qs) (sym same) in
    omega (arith, here, there, none, some_size phase)
put_leaves false id at phase l ps qs e f put some none = omega (arith, put_same id at phase ps qs put e, some, none)

last_leaves : {H : Type 0} (b : Bool) (facts : ContractFacts H) (e : ContractEvent) (l m : Ledger)
    (old new : List (Kid H)) (t : TellsLast facts e l m old new) (at : ℕ) → (t.id == at) ≡ b
    → 0 < size_of at (posts old) → size_of at (posts new) ≡ 0 → SomeKid at old (λ kid. IsEmpty facts kid.held)
last_leaves true facts e l m old new t at same some none =
    let kid = t.kid in (
      kid.0,
      kid.1,
      kid.2,
      kid.3 ∙ eqb-true t.id at same,
      empty_by facts (contract l.table t.id) t.end kid.1.phase kid.1.held kid.4,
    )
last_leaves false facts e l m old new t at apart some none =
    let now : size_of at (posts new) ≡ size_of at (posts old) =
    ap (size_of at) t.posts ∙ size_kept t.id at (posts old) apart in
    absurd (omega (arith, now, some, none))

sizes_given : {H : Type 0} (e : ContractEvent) (l m : Ledger) (old new : List (Kid H)) (at : ℕ) → new ≡ old
    → 0 < size_of at (posts old) → size_of at (posts new) ≡ 0 → ⊥
sizes_given e l m old new at same some none =
    let now : size_of at (posts new) ≡ size_of at (posts old) = ap (λ ks. size_of at (posts ks)) same in
    omega (arith, now, some, none)

empties_event : {H : Type 0} (facts : ContractFacts H) (e : ContractEvent) (l m : Ledger) (old new : List (Kid H))
    (at : ℕ) → IsFollowed l (posts old) → PollsEvent facts e l m old new
    → 0 < size_of at (posts old) → size_of at (posts new) ≡ 0 → SomeKid at old (λ kid. IsEmpty facts kid.held)
empties_event facts e l m old new at f (inl given) some none = absurd (sizes_given e l m old new at given.1 some none)
empties_event facts e l m old new at f (inr (none_due, inl t)) some none =
    absurd (put_leaves (t.id == at) t.id at (Forked t.end) l (posts old) (posts new) refl f t.posts some none)
empties_event facts e l m old new at f (inr (none_due, inr (inl t))) some none =
    absurd (put_leaves (t.id == at) t.id at Others l (posts old) (posts new) refl f t.posts some none)
empties_event facts e l m old new at f (inr (none_due, inr (inr t))) some none =
    last_leaves (t.id == at) facts e l m old new t at refl some none

empties_kids : {H : Type 0} (facts : ContractFacts H) (o : Option ContractEvent) (l m : Ledger)
    (old new : List (Kid H)) (at : ℕ) → IsFollowed l (posts old) → PollsKids facts o l m old new
    → 0 < size_of at (posts old) → size_of at (posts new) ≡ 0 → SomeKid at old (λ kid. IsEmpty facts kid.held)
empties_kids facts None l m old new at f polls some none =
    let now : size_of at (posts new) ≡ size_of at (posts old) = ap (size_of at) polls.0 in
    absurd (omega (arith, now, some, none))
empties_kids facts (Some e) l m old new at f polls some none = empties_event facts e l m old new at f polls some none

pub empties : {H : Type 0} (facts : ContractFacts H) (o : Option ContractEvent) (l m : Ledger)
    (old new : List (Kid H)) → IsFollowed l (posts old) → IsFollowed m (posts new) → PollsKids facts o l m old new
    → EmptiesOnly facts old l m
empties facts o l m old new f g polls = λ at some none.
    empties_kids facts o l m old new at f polls (let e = left_is at l (posts old) f in omega (arith, e, some))
    (sym (left_is at m (posts new) g) ∙ none)
