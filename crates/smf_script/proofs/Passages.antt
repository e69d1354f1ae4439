-- Processes that come and go, as children note them, and which of them have ended.
use Rattle.std.proofs.Common.{◌≡◌, ◌<◌, ◌≤◌, ℕ, ◌+◌, ◌==◌, nat_lt, Bool, true, false, cond, List, [], ◌∷◌, ◌++◌, length, map, filter, drop, Option, Some, None, IfSome, option_map, refl, sym, ap, ◌∙◌, subst, arith, append_assoc, not}
use Rattle.std.specs.Prelude.{find, flat_map}
use Rattle.std.proofs.Math.Seq.{drop-append_seam}
use Rattle.std.proofs.lemmas.Bool.{eqb-true, ne_eqb}
use Rattle.std.proofs.lemmas.Grind.{flat_map-append}
use Rattle.std.proofs.lemmas.List.{append-nil}
use Rattle.std.proofs.lemmas.List.Folds.{flat_map-map}
use Rattle.smf_contract.specs.declared.contract.Member.{Member}
use Rattle.smf_contract.specs.declared.event.ContractEvent.{ContractEvent}
use Rattle.smf_contract.specs.declared.event.EventKind.{EventKind}
use Rattle.smf_contract.specs.declared.event.EventKind.TheVariants as kinds
use Rattle.smf_contract.specs.declared.event.Exit as ends
use Rattle.smf_contract.specs.declared.event.Exit.TheVariants.{Killed}
use Rattle.smf_contract.specs.declared.event.Failure.{Failure}
use Rattle.smf_contract.specs.declared.event.Failure.TheVariants.{Core, Signal, Hwerr}
use Rattle.smf_contract.specs.Called.{table_after_contract_call, left_by, left_by_making}
use Rattle.smf_contract.specs.Calls.{activity, with_empty_event, result_of_exit, exited_in, exits, exits_by_failure, result_of_failure, failed_in, failure_kind, result_of_fork, forked_in, is_fatal, next_number, with_next_event, with_activity, with_failure}
use Rattle.smf_contract.specs.Entries.{Contracts, contract, has_members, home, is_in, is_process, last_event, outside, processes, without}
use Rattle.smf_contract.specs.Laws.{Ascends, IsOrdered}
use Rattle.smf_contract.proofs.Ordered.{ascends_filter, next_is}
use Rattle.smf_edge.specs.declared.deed.Happening.{Happening}
use Rattle.smf_edge.specs.declared.deed.Happening.TheVariants as happenings
use Rattle.smf_edge.specs.declared.note.Note.{Note}
use Rattle.smf_edge.specs.declared.note.Note.TheVariants as notes
use Rattle.smf_edge.specs.Ledgers.{call_of, forks_by}
use Rattle.smf_edge.proofs.Firsts.{found_is}
use Rattle.smf_edge.proofs.Members.{none_count}
use Rattle.smf_script.specs.Agrees.{ArePast, IsNoted, IsPast, Passage, ended_in, passages_in, passages_of}
use Rattle.smf_script.proofs.Alikeness.{killed_all}

-- ---- what was noted

abbrev pub passed : List Note → List Passage
passed ns = flat_map passages_of ns

abbrev pub told : List ContractEvent → List Passage
told es = flat_map passages_in es

pub noted_by : (gs : List ContractEvent) (ns ms : List Note) (es fs : List ContractEvent) (more : List Passage) → IsNoted gs ns es
    → passed ms ≡ passed ns ++ more → told fs ≡ told es ++ more → IsNoted gs ms fs
noted_by gs ns ms es fs more h a b =
    (h.0, ap (λ xs. told gs ++ xs) a ∙ sym (append_assoc (told gs) (passed ns) more) ∙ ap (λ xs. xs ++ more) h.1 ∙ append_assoc h.0 (told es) more ∙ ap (λ xs. h.0 ++ xs) (sym b))

pub noted_run : (gs : List ContractEvent) (ns : List Note) (run : _) (es : List ContractEvent) → IsNoted gs ns es
    → IsNoted gs (ns ++ notes.Made run ∷ []) es
noted_run gs ns run es h =
    noted_by gs ns (ns ++ notes.Made run ∷ []) es es [] h (flat_map-append passages_of ns (notes.Made run ∷ []))
    (sym (append-nil (told es)))

pub noted_found : (gs : List ContractEvent) (ns : List Note) (es fs : List ContractEvent) → IsNoted gs ns es
    → IsNoted gs (ns ++ map notes.Found fs) (es ++ fs)
noted_found gs ns es fs h =
    noted_by gs ns (ns ++ map notes.Found fs) es (es ++ fs) (told fs) h
    (flat_map-append passages_of ns (map notes.Found fs)
    ∙ ap (λ xs. passed ns ++ xs) (flat_map-map passages_of notes.Found fs))
    (flat_map-append passages_in es fs)

told_exits : (es : List ContractEvent) (id : ℕ) (ps : List ℕ) → told (exits es id ps) ≡ told es ++ map (ended_in id) ps
told_exits es id [] = sym (append-nil (told es))
told_exits es id (p ∷ ps) =
    let here : List ContractEvent = with_next_event es id (kinds.Exit p Killed) (nat_lt 0 (length ps)) in
    told_exits here id ps
    ∙ ap (λ xs. xs ++ map (ended_in id) ps) (flat_map-append passages_in es _)
    ∙ append_assoc (told es) (ended_in id p ∷ []) (map (ended_in id) ps)

told_ended : (b : Bool) (es : List ContractEvent) (id : ℕ) (ps : List ℕ) → (b ≡ false → ps ≡ [])
    → told (cond b (with_next_event (exits es id ps) id kinds.Empty false) es) ≡ told es ++ map (ended_in id) ps
told_ended true es id ps none = flat_map-append passages_in (exits es id ps) _ ∙ append-nil (told (exits es id ps))
    ∙ told_exits es id ps
told_ended false es id ps none = sym (append-nil (told es))
    ∙ ap (λ qs. told es ++ map (ended_in id) qs) (sym (none refl))

no_length : (ps : List ℕ) → length ps ≡ 0 → ps ≡ []
no_length [] h = refl
no_length (p ∷ ps) h = absurd (omega (arith, h))

ended_events : (b : Bool) (t : Contracts) (id : ℕ)
    → (cond b (record {
      members = outside id t.members;
      events = with_next_event (exits t.events id (processes id t.members)) id kinds.Empty false;
    }) (activity t)).events
    ≡ cond b (with_next_event (exits t.events id (processes id t.members)) id kinds.Empty false) t.events
ended_events true t id = refl
ended_events false t id = refl

pub noted_kill : (gs : List ContractEvent) (ns : List Note) (t : Contracts) (id : ℕ) → IsNoted gs ns t.events
    → IsNoted gs (ns ++ notes.Killed (record { contract = id; ends = processes id t.members }) ∷ [])
    (killed_all t id).events
noted_kill gs ns t id h =
    let kill : Note = notes.Killed (record { contract = id; ends = processes id t.members }) in
    noted_by gs ns (ns ++ kill ∷ []) t.events (killed_all t id).events (map (ended_in id) (processes id t.members)) h
    (flat_map-append passages_of ns (kill ∷ [])
    ∙ ap (λ xs. passed ns ++ xs) (append-nil (map (ended_in id) (processes id t.members))))
    (ap told (ended_events (has_members id t.members) t id)
    ∙ told_ended (has_members id t.members) t.events id (processes id t.members)
    (λ e. no_length (processes id t.members) (none_count id t.members e)))

-- ---- members that are gone

abbrev numbers : List Member → List ℕ
numbers ms = map (λ m. m.process) ms

abbrev at : List Member → ℕ → Option ℕ
at ms p = option_map (λ m. m.contract) (find (is_process p) ms)

pub home_at : (ms : List Member) (p : ℕ) → home ms p ≡ at ms p
home_at ms p = ap (option_map (λ m. m.contract)) (found_is (is_process p) ms)

abbrev found_if : Bool → Member → Option Member → Option ℕ
found_if b m o = option_map (λ x. x.contract) (cond b (Some m) o)

skip : (b : Bool) (m : Member) (o : Option Member) → b ≡ false → found_if b m o ≡ option_map (λ x. x.contract) o
skip true m o e = absurd cc
skip false m o e = refl

rest_none : (b : Bool) (m : Member) (o : Option Member) → found_if b m o ≡ None
    → (b ≡ false) × (option_map (λ x. x.contract) o ≡ None)
rest_none true m o h = absurd cc
rest_none false m o h = (refl, h)

filter_by : (b : Bool) (test : Member → Bool) (m : Member) (ms : List Member) (p : ℕ) → (m.process == p) ≡ false
    → at (filter test ms) p ≡ None → at (cond b (m ∷ filter test ms) (filter test ms)) p ≡ None
filter_by true test m ms p other none = skip (m.process == p) m (find (is_process p) (filter test ms)) other ∙ none
filter_by false test m ms p other none = none

filter_none : (test : Member → Bool) (ms : List Member) (p : ℕ) → at ms p ≡ None → at (filter test ms) p ≡ None
filter_none test [] p h = refl
filter_none test (m ∷ ms) p h =
    let both = rest_none (m.process == p) m (find (is_process p) ms) h in
    filter_by (test m) test m ms p both.0 (filter_none test ms p both.1)

without_by : (b : Bool) (m : Member) (ms : List Member) (p : ℕ) → (m.process == p) ≡ b → at (without p ms) p ≡ None
    → at (cond (not b) (m ∷ without p ms) (without p ms)) p ≡ None
without_by true m ms p e none = none
without_by false m ms p e none = skip (m.process == p) m (find (is_process p) (without p ms)) e ∙ none

without_none : (p : ℕ) (ms : List Member) → at (without p ms) p ≡ None
without_none p [] = refl
without_none p (m ∷ ms) = without_by (m.process == p) m ms p refl (without_none p ms)

above_none : (q low last : ℕ) (ms : List Member) → q ≤ low → Ascends low (numbers ms) last → at ms q ≡ None
above_none q low last [] h a = refl
above_none q low last (m ∷ ms) h a =
    skip (m.process == q) m (find (is_process q) ms) (ne_eqb m.process q (λ same. omega (arith, same, h, a.0)))
    ∙ above_none q m.process last ms (omega (arith, h, a.0)) a.1

ascends_last : (low last : ℕ) (ns : List ℕ) → Ascends low ns last → low ≤ last
ascends_last low last [] a = a
ascends_last low last (n ∷ ns) a = let more = ascends_last n last ns a.1 in omega (arith, a.0, more)

below_by : (b : Bool) (id p low last : ℕ) (m : Member) (ms : List Member) → (m.process == p) ≡ b
    → Ascends m.process (numbers ms) last → (at ms p ≡ Some id → p ≤ last)
    → found_if b m (find (is_process p) ms) ≡ Some id → p ≤ last
below_by true id p low last m ms e a deeper h = let same = eqb-true m.process p e in let top =
    ascends_last m.process last (numbers ms) a in omega (arith, same, top)
below_by false id p low last m ms e a deeper h = deeper h

pub below_last : (id p low last : ℕ) (ms : List Member) → Ascends low (numbers ms) last → at ms p ≡ Some id → p ≤ last
below_last id p low last [] a h = absurd cc
below_last id p low last (m ∷ ms) a h =
    below_by (m.process == p) id p low last m ms refl a.1 (below_last id p m.process last ms a.1) h

-- each is above, not above the last, and no member
abbrev AllGone : ℕ → ℕ → List Member → List ℕ → Type 0
AllGone low last fs [] = Unit {0}
AllGone low last fs (q ∷ qs) = (low < q) × (q ≤ last) × (at fs q ≡ None) × AllGone low last fs qs

gone_more : (low last : ℕ) (m : Member) (fs : List Member) (qs : List ℕ) → low < m.process
    → AllGone m.process last fs qs → AllGone low last (m ∷ fs) qs
gone_more low last m fs [] h g = tt
gone_more low last m fs (q ∷ qs) h g = (
  omega (arith, h, g.0),
  g.1,
  skip (m.process == q) m (find (is_process q) fs) (ne_eqb m.process q (λ same. omega (arith, same, g.0))) ∙ g.2,
  gone_more low last m fs qs h g.3,
)

gone_lower : (low high last : ℕ) (fs : List Member) (qs : List ℕ) → low < high → AllGone high last fs qs
    → AllGone low last fs qs
gone_lower low high last fs [] h g = tt
gone_lower low high last fs (q ∷ qs) h g = (omega (arith, h, g.0), g.1, g.2, gone_lower low high last fs qs h g.3)

outside_by : (b : Bool) (id low last : ℕ) (m : Member) (ms : List Member) → low < m.process
    → Ascends m.process (numbers ms) last → AllGone m.process last (outside id ms) (processes id ms)
    → AllGone low last (cond (not b) (m ∷ outside id ms) (outside id ms))
    (map (λ x. x.process) (cond b (m ∷ filter (is_in id) ms) (filter (is_in id) ms)))
outside_by true id low last m ms h a g = (
  h,
  ascends_last m.process last (numbers ms) a,
  filter_none (λ x. not (is_in id x)) ms m.process (above_none m.process m.process last ms (omega arith) a),
  gone_lower low m.process last (outside id ms) (processes id ms) h g,
)
outside_by false id low last m ms h a g = gone_more low last m (outside id ms) (processes id ms) h g

all_outside : (id low last : ℕ) (ms : List Member) → Ascends low (numbers ms) last
    → AllGone low last (outside id ms) (processes id ms)
all_outside id low last [] a = tt
all_outside id low last (m ∷ ms) a =
    outside_by (m.contract == id) id low last m ms a.0 a.1 (all_outside id m.process last ms a.1)

-- ---- events after others, all of which are past

record More (u : Contracts) (es fs : List ContractEvent) : Type 0 where
  more : List ContractEvent
  is : fs ≡ es ++ more
  each : ArePast u more

past_both : (u : Contracts) (xs ys : List ContractEvent) → ArePast u xs → ArePast u ys → ArePast u (xs ++ ys)
past_both u [] ys a b = b
past_both u (x ∷ xs) ys a b = (a.0, past_both u xs ys a.1 b)

more_same : (u : Contracts) (es : List ContractEvent) → More u es es
more_same u es = record { more = []; is = sym (append-nil es); each = tt }

more_noted : (u : Contracts) (es : List ContractEvent) (id : ℕ) (kind : EventKind) (left : Bool) → IsPast u kind
    → More u es (with_next_event es id kind left)
more_noted u es id kind left h =
    record {
      more = record { contract = id; number = last_event id es + 1; kind = kind; left = left } ∷ [];
      is = refl;
      each = (h, tt);
    }

more_then : (u : Contracts) (xs ys zs : List ContractEvent) → More u xs ys → More u ys zs → More u xs zs
more_then u xs ys zs a b =
    record {
      more = a.more ++ b.more;
      is = b.is ∙ ap (λ es. es ++ b.more) a.is ∙ append_assoc xs a.more b.more;
      each = past_both u a.more b.more a.each b.each;
    }

more_emptied : (u : Contracts) (b : Bool) (es : List ContractEvent) (id : ℕ) → More u es (with_empty_event b es id)
more_emptied u true es id = more_same u es
more_emptied u false es id = more_noted u es id kinds.Empty false tt

more_exits : (u : Contracts) (es : List ContractEvent) (id low : ℕ) (ps : List ℕ)
    → AllGone low u.last_process u.members ps → More u es (exits es id ps)
more_exits u es id low [] g = more_same u es
more_exits u es id low (p ∷ ps) g =
    let here : List ContractEvent = with_next_event es id (kinds.Exit p Killed) (nat_lt 0 (length ps)) in
    more_then u es here (exits here id ps)
    (more_noted u es id (kinds.Exit p Killed) (nat_lt 0 (length ps)) (g.1, home_at u.members p ∙ g.2))
    (more_exits u here id low ps g.3)

-- an event of this kind comes first, and those after it are past
pub record Tells (kind : EventKind) (u : Contracts) (es fs : List ContractEvent) : Type 0 where
  pub first : ContractEvent
  pub more : List ContractEvent
  pub kind_is : first.kind ≡ kind
  pub is : fs ≡ es ++ first ∷ more
  pub each : ArePast u more

tells : (u : Contracts) (es fs : List ContractEvent) (id : ℕ) (kind : EventKind) (left : Bool)
    → More u (with_next_event es id kind left) fs → Tells kind u es fs
tells u es fs id kind left m =
    let first : ContractEvent = record { contract = id; number = last_event id es + 1; kind = kind; left = left } in
    record {
      first = first;
      more = m.more;
      kind_is = refl;
      is = m.is ∙ append_assoc es (first ∷ []) m.more;
      each = m.each;
    }

-- ---- what happens to a member

exit_tells : (t : Contracts) (id p : ℕ) (exit : ends.Exit) → let u : Contracts =
    left_by t (exited_in t p exit (Some id)) in Tells (kinds.Exit p exit) u t.events u.events
exit_tells t id p exit =
    let u : Contracts = left_by t (exited_in t p exit (Some id)) in
    let left : Bool = has_members id (without p t.members) in
    tells u t.events u.events id (kinds.Exit p exit) left
    (more_emptied u left (with_next_event t.events id (kinds.Exit p exit) left) id)

abbrev failed_by : Bool → Contracts → ℕ → ℕ → Failure → Contracts
failed_by b t id p f = with_activity t (exits_by_failure b id p (with_failure id p f (activity t)))

fail_tells : (b : Bool) (t : Contracts) (id p : ℕ) (f : Failure) → Ascends 0 (numbers t.members) t.last_process
    → p ≤ t.last_process → Tells (failure_kind f p) (failed_by b t id p f) t.events (failed_by b t id p f).events
fail_tells false t id p f a low =
    let u : Contracts = failed_by false t id p f in
    let left : Bool = has_members id (without p t.members) in
    let failing : List ContractEvent = with_next_event t.events id (failure_kind f p) true in
    let ending : List ContractEvent = with_next_event failing id (kinds.Exit p Killed) left in
    tells u t.events u.events id (failure_kind f p) true
    (more_then u failing ending (with_empty_event left ending id)
    (more_noted u failing id (kinds.Exit p Killed) left
    (low, home_at (without p t.members) p ∙ without_none p t.members))
    (more_emptied u left ending id))
fail_tells true t id p f a low =
    let u : Contracts = failed_by true t id p f in
    let rest : List Member = without p t.members in
    let left : Bool = has_members id rest in
    let failing : List ContractEvent = with_next_event t.events id (failure_kind f p) true in
    let ending : List ContractEvent = with_next_event failing id (kinds.Exit p Killed) left in
    let all : List ContractEvent = exits ending id (processes id rest) in
    let gone : AllGone 0 t.last_process (outside id rest) (processes id rest) =
    all_outside id 0 t.last_process rest
    (ascends_filter (λ m. not (is_process p m)) 0 t.last_process t.members a) in
    let none : home (outside id rest) p ≡ None = home_at (outside id rest) p
    ∙ filter_none (λ m. not (is_in id m)) rest p (without_none p t.members) in
    tells u t.events u.events id (failure_kind f p) true
    (more_then u failing ending (with_next_event all id kinds.Empty false)
    (more_noted u failing id (kinds.Exit p Killed) left (low, none))
    (more_then u ending all (with_next_event all id kinds.Empty false)
    (more_exits u ending id 0 (processes id rest) gone)
    (more_noted u all id kinds.Empty false tt)))

fork_tells : (t : Contracts) (id child : ℕ) → let u : Contracts =
    left_by_making t (forked_in t (Some id) (Some child)) in Tells (kinds.Fork child) u t.events u.events
fork_tells t id child =
    let u : Contracts = left_by_making t (forked_in t (Some id) (Some child)) in
    tells u t.events u.events id (kinds.Fork child) true
    (more_same u (with_next_event t.events id (kinds.Fork child) true))

-- the first event says what happened, and to whom; of a fork, to whom the contract says
abbrev pub KindOf : Happening → ℕ → EventKind → Type 0
KindOf happenings.Fork p kind = (child : ℕ) × (kind ≡ kinds.Fork child)
KindOf (happenings.Exit exit) p kind = kind ≡ kinds.Exit p exit
KindOf (happenings.Fail failure) p kind = kind ≡ failure_kind failure p

-- this event tells what happened, and the ones that are due after it are past
pub record IsTelling (t u : Contracts) (h : Happening) (p : ℕ) (e : ContractEvent)
    (due : List ContractEvent) : Type 0 where
  pub kind : KindOf h p e.kind
  pub events : u.events ≡ t.events ++ e ∷ due
  pub past : ArePast u due
  pub contracts : u.contracts ≡ t.contracts
  pub last : u.last_process ≡ t.last_process + length (forks_by e.contract e.kind)

given_is : (e first : ContractEvent) (due more : List ContractEvent) → first ∷ more ≡ e ∷ due
    → (first ≡ e) × (more ≡ due)
given_is e first due more h = (let P : first ≡ e = cc in P, let P : more ≡ due = cc in P)

tells_first : (kind : EventKind) (u : Contracts) (es fs : List ContractEvent) (e : ContractEvent)
    (due : List ContractEvent) → Tells kind u es fs → drop (length es) fs ≡ e ∷ due
    → (e.kind ≡ kind) × (fs ≡ es ++ e ∷ due) × ArePast u due
tells_first kind u es fs e due s h =
    let all : s.first ∷ s.more ≡ e ∷ due = sym (ap (drop (length es)) s.is ∙ drop-append_seam es (s.first ∷ s.more))
    ∙ h in
    let parts = given_is e s.first due s.more all in (
      ap (λ x. x.kind) (sym parts.0) ∙ s.kind_is,
      s.is ∙ ap (λ xs. es ++ xs) all,
      let P : List ContractEvent → Type 0 = λ xs. ArePast u xs in subst P parts.1 s.each,
    )

none_told : (es : List ContractEvent) (e : ContractEvent) (due : List ContractEvent) → drop (length es) es ≡ e ∷ due → ⊥
none_told es e due h =
    let none : drop (length es) (es ++ []) ≡ [] = drop-append_seam es [] in
    let here : drop (length es) es ≡ [] = ap (drop (length es)) (sym (append-nil es)) ∙ none in
    let no : [] ≡ e ∷ due = sym here ∙ h in
    absurd cc

-- numbers are given to forks alone
last_same : (t : Contracts) (e : ContractEvent) (kind : EventKind) → e.kind ≡ kind → forks_by e.contract kind ≡ []
    → t.last_process ≡ t.last_process + length (forks_by e.contract e.kind)
last_same t e kind is none =
    let count : length (forks_by e.contract e.kind) ≡ 0 =
    ap (λ k. length (forks_by e.contract k)) is ∙ ap length none in
    omega (arith, count)

last_forked : (t : Contracts) (e : ContractEvent) (child : ℕ) → e.kind ≡ kinds.Fork child → child ≡ t.last_process + 1
    → child ≡ t.last_process + length (forks_by e.contract e.kind)
last_forked t e child is next =
    let count : length (forks_by e.contract e.kind) ≡ 1 = ap (λ k. length (forks_by e.contract k)) is in
    omega (arith, count, next)

no_fork : (f : Failure) (id p : ℕ) → forks_by id (failure_kind f p) ≡ []
no_fork Core id p = refl
no_fork Signal id p = refl
no_fork Hwerr id p = refl

fork_telling : (t : Contracts) (id p : ℕ) (e : ContractEvent) (due : List ContractEvent) (n : Option ℕ)
    → n ≡ next_number t.last_process → let u : Contracts = left_by_making t (forked_in t (Some id) n) in
    drop (length t.events) u.events ≡ e ∷ due → IsTelling t u happenings.Fork p e due
fork_telling t id p e due None next h = absurd (none_told t.events e due h)
fork_telling t id p e due (Some child) next h =
    let u : Contracts = left_by_making t (forked_in t (Some id) (Some child)) in
    let parts = tells_first (kinds.Fork child) u t.events u.events e due (fork_tells t id child) h in
    let P : Option ℕ → Type 0 = λ x. IfSome x (λ k. k ≡ t.last_process + 1) in
    let number : child ≡ t.last_process + 1 = subst P (sym next) (next_is t.last_process) in
    record {
      kind = (child, parts.0);
      events = parts.1;
      past = parts.2;
      contracts = refl;
      last = last_forked t e child parts.0 number;
    }

abbrev Telling : Contracts → ℕ → ℕ → Happening → ContractEvent → List ContractEvent → Type 0
Telling t id p h e due = drop (length t.events) (table_after_contract_call t (call_of p h)).events ≡ e ∷ due
    → IsTelling t (table_after_contract_call t (call_of p h)) h p e due

telling_by : (t : Contracts) (id p : ℕ) (h : Happening) (e : ContractEvent) (due : List ContractEvent) → IsOrdered t
    → home t.members p ≡ Some id → Telling t id p h e due
unfolding table_after_contract_call result_of_fork result_of_exit result_of_failure
telling_by t id p happenings.Fork e due o member =
    let P : Option ℕ → Type 0 =
    λ x. drop (length t.events) (left_by_making t (forked_in t x (next_number t.last_process))).events ≡ e ∷ due
    → IsTelling t (left_by_making t (forked_in t x (next_number t.last_process))) happenings.Fork p e due in
    subst P (sym member) (fork_telling t id p e due (next_number t.last_process) refl)
telling_by t id p (happenings.Exit exit) e due o member =
    let P : Option ℕ → Type 0 = λ x. drop (length t.events) (left_by t (exited_in t p exit x)).events ≡ e ∷ due
    → IsTelling t (left_by t (exited_in t p exit x)) (happenings.Exit exit) p e due in
    subst P (sym member) (λ h.
    let u : Contracts = left_by t (exited_in t p exit (Some id)) in
    let parts = tells_first (kinds.Exit p exit) u t.events u.events e due (exit_tells t id p exit) h in
    record {
      kind = parts.0;
      events = parts.1;
      past = parts.2;
      contracts = refl;
      last = last_same t e (kinds.Exit p exit) parts.0 refl;
    }
    )
telling_by t id p (happenings.Fail f) e due o member =
    let P : Option ℕ → Type 0 = λ x. drop (length t.events) (left_by t (failed_in t p f x)).events ≡ e ∷ due
    → IsTelling t (left_by t (failed_in t p f x)) (happenings.Fail f) p e due in
    let low : p ≤ t.last_process =
    below_last id p 0 t.last_process t.members o.members_ascend (sym (home_at t.members p) ∙ member) in
    subst P (sym member) (λ h.
    let fatal : Bool = is_fatal f (contract t id) in
    let u : Contracts = failed_by fatal t id p f in
    let parts = tells_first (failure_kind f p) u t.events u.events e due
    (fail_tells fatal t id p f o.members_ascend low) h in
    record {
      kind = parts.0;
      events = parts.1;
      past = parts.2;
      contracts = refl;
      last = last_same t e (failure_kind f p) parts.0 (no_fork f e.contract p);
    }
    )

pub telling : (t u : Contracts) (id p : ℕ) (h : Happening) (e : ContractEvent) (due : List ContractEvent)
    → IsOrdered t → home t.members p ≡ Some id → u ≡ table_after_contract_call t (call_of p h)
    → drop (length t.events) u.events ≡ e ∷ due → IsTelling t u h p e due
telling t u id p h e due o member is brought =
    let P : Contracts → Type 0 = λ x. drop (length t.events) x.events ≡ e ∷ due → IsTelling t x h p e due in
    subst P (sym is) (telling_by t id p h e due o member) brought

-- ---- what is past stays so

pub record IsLaterTable (t u : Contracts) : Type 0 where
  pub above : t.last_process ≤ u.last_process
  pub gone : (p : ℕ) → p ≤ t.last_process → home t.members p ≡ None → home u.members p ≡ None

kind_past : (t u : Contracts) (kind : EventKind) → IsLaterTable t u → IsPast t kind → IsPast u kind
kind_past t u kinds.Empty l h = tt
kind_past t u (kinds.Exit p exit) l h =
    (let low = h.0 in let above = l.above in omega (arith, low, above), l.gone p h.0 h.1)
kind_past t u (kinds.Fork p) l h = h
kind_past t u (kinds.Core p) l h = h
kind_past t u (kinds.Signal p) l h = h
kind_past t u (kinds.Hwerr p) l h = h

pub still_past : (t u : Contracts) (es : List ContractEvent) → IsLaterTable t u → ArePast t es → ArePast u es
still_past t u [] l h = tt
still_past t u (e ∷ es) l h = (kind_past t u e.kind l h.0, still_past t u es l h.1)

fewer_by : (b : Bool) (t : Contracts) (test : ContractEvent → Bool) (e : ContractEvent) (es : List ContractEvent)
    → IsPast t e.kind → ArePast t (filter test es) → ArePast t (cond b (e ∷ filter test es) (filter test es))
fewer_by true t test e es h more = (h, more)
fewer_by false t test e es h more = more

pub fewer_past : (t : Contracts) (test : ContractEvent → Bool) (es : List ContractEvent) → ArePast t es
    → ArePast t (filter test es)
fewer_past t test [] h = tt
fewer_past t test (e ∷ es) h = fewer_by (test e) t test e es h.0 (fewer_past t test es h.1)

kill_gone : (b : Bool) (t : Contracts) (id p : ℕ) → home t.members p ≡ None
    → home (cond b
    (record {
      members = outside id t.members;
      events = with_next_event (exits t.events id (processes id t.members)) id kinds.Empty false;
    })
    (activity t)).members p ≡ None
kill_gone true t id p h = home_at (outside id t.members) p
    ∙ filter_none (λ m. not (is_in id m)) t.members p (sym (home_at t.members p) ∙ h)
kill_gone false t id p h = h

pub killed_later : (t : Contracts) (id : ℕ) → IsLaterTable t (killed_all t id)
killed_later t id = record { above = omega arith; gone = λ p low h. kill_gone (has_members id t.members) t id p h }

one_more : (ms : List Member) (m : Member) (p : ℕ) → (m.process == p) ≡ false → at ms p ≡ None
    → at (ms ++ m ∷ []) p ≡ None
one_more [] m p other h = skip (m.process == p) m None other
one_more (x ∷ xs) m p other h =
    let both = rest_none (x.process == p) x (find (is_process p) xs) h in
    skip (x.process == p) x (find (is_process p) (xs ++ m ∷ [])) both.0 ∙ one_more xs m p other both.1

pub spawned_later : (t u : Contracts) (id q : ℕ) → u.members ≡ t.members ++ record { process = q; contract = id } ∷ []
    → u.last_process ≡ q → q ≡ t.last_process + 1 → IsLaterTable t u
spawned_later t u id q members last next =
    record {
      above = omega (arith, last, next);
      gone = λ p low h.
          ap (λ ms. home ms p) members
          ∙ home_at (t.members ++ record { process = q; contract = id } ∷ []) p
          ∙ one_more t.members (record { process = q; contract = id }) p
          (ne_eqb q p (λ same. omega (arith, same, low, next))) (sym (home_at t.members p) ∙ h);
    }
