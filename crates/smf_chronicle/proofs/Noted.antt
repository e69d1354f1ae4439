-- Tables that know a chronicle tell the rule that the next entry breaks, and know the chronicle with it once it is noted.
use Rattle.std.proofs.Common.{◌≡◌, ℕ, suc, ◌<◌, ◌==◌, ◌&&◌, ◌||◌, nat_eq, not, List, ◌∷◌, length, Bool, true, false, cond, refl, sym, ap, ◌∙◌, subst, arith}
use Rattle.std.specs.Prelude.{Option, Some, None, IfSome, is_some, option_map}
use Rattle.std.specs.HashMap.{get}
use Rattle.std.proofs.lemmas.Bool.{eqb-true, eqb-false, eq-eqb, ne_eqb, lt-ltb, le-ltb}
use Rattle.smf_chronicle.specs.declared.entry.Entry.{Entry}
use Rattle.smf_chronicle.specs.declared.entry.Entry.TheVariants.{Happened, Life, Row, Living}
use Rattle.smf_state.specs.declared.state.State.{State}
use Rattle.smf_world.specs.declared.item.Item.{Item}
use Rattle.smf_world.specs.declared.item.Item.TheVariants.{Boot, Committed, Held, Spawned, Emptied}
use Rattle.smf_chronicle.specs.declared.tables.LastRow.{LastRow}
use Rattle.smf_chronicle.specs.declared.tables.LastStart.{LastStart}
use Rattle.smf_chronicle.specs.declared.tables.Tables.{Tables}
use Rattle.smf_world.specs.Safe.{LiveStart, OneEach, begun_start, is_start}
use Rattle.smf_chronicle.specs.Audit.{is_live_in, is_one_each}
use Rattle.smf_chronicle.specs.Breaches.{breach_next, first_false, may_be_found, may_follow, was_told, was_told_as}
use Rattle.smf_chronicle.specs.Lives.{LastTold, ToldRow, behind_boot, behind_life, is_beginning, last_row, last_told, live_told, row_told}
use Rattle.smf_chronicle.specs.Tables.{AreBefore, IsEmptiedNoted, IsItemNoted, IsNoted, IsRowNoted, IsStartNoted, IsStartNotedIf, Knows, breach_in, contract_in, is_after, is_free_for, is_held_as, last_by, last_in, live_by, live_in, may_start, same_row, state_in, state_of, state_or}
use Rattle.smf_chronicle.proofs.Decided.{each_decides}
use Rattle.smf_chronicle.proofs.Demanded.{once_decides, one_decides}
use Rattle.smf_chronicle.proofs.FoundTold.{all_true}
use Rattle.smf_chronicle.proofs.Lasting.{but_for, contract_left, each_left, free_as, held_as, live_as, numbered_as}

-- ---- the rule that is broken

same_first : (a b c d e v w x y z : Bool) → a ≡ v → b ≡ w → c ≡ x → d ≡ y → e ≡ z
    → first_false a b c d e ≡ first_false v w x y z
same_first a b c d e v w x y z p q r s t =
    ap (λ (m : Bool). first_false m b c d e) p
    ∙ ap (λ (m : Bool). first_false v m c d e) q
    ∙ ap (λ (m : Bool). first_false v w m d e) r
    ∙ ap (λ (m : Bool). first_false v w x m e) s
    ∙ ap (λ (m : Bool). first_false v w x y m) t

-- a start may begin if each instance has one live start then
start_by : (starts none live each : Bool) (c i : ℕ) (ls : List LiveStart) → is_one_each ls ≡ true → (c == 0) ≡ none
    → is_live_in i ls ≡ live → (not starts || (none || not live)) ≡ is_one_each (begun_start starts c i ls)
start_by true true live each c i ls one e l = rw e (sym one)
start_by true false true each c i ls one e l = rw (e, l) refl
start_by true false false each c i ls one e l = rw (e, l) (sym one)
start_by false none live each c i ls one e l = sym one

exact_start : (t : Tables) (told : List Entry) (starts : Bool) (c i : ℕ) → Knows t told
    → (not starts || may_start c (live_in t i)) ≡ is_one_each (begun_start starts c i (live_told told))
exact_start t told starts c i k =
    let each = (each_decides (live_told told)).1 k.one in
    ap (λ (o : Option ℕ). not starts || (c == 0 || not (is_some o))) (k.starts i)
    ∙ ap (λ (b : Bool). not starts || (c == 0 || not b)) (live_as i (live_told told))
    ∙ start_by starts (c == 0) (is_live_in i (live_told told)) true c i (live_told told) each refl refl

none_by : (each : Bool) → each ≡ true → None ≡ first_false true each true true true
none_by each e = rw e refl

pub exact_breach : (t : Tables) (told : List Entry) (x : Entry) → Knows t told → breach_in t x ≡ breach_next told x
exact_breach t told (Happened (Committed i n s next)) k =
    same_first true true true (not (is_some (state_in t i n))) (may_follow (last_in t i) n s)
    true (is_one_each (live_told told)) true (not (was_told_as i n told)) (may_follow (last_told i told) n s)
    refl (sym ((each_decides (live_told told)).1 k.one)) refl
    (ap (λ (o : Option State). not (is_some o)) (k.rows i n) ∙ ap not (numbered_as i n told))
    (ap (λ (o : Option LastTold). may_follow o n s) (k.lasts i))
exact_breach t told (Happened (Held name launch i n s)) k =
    same_first true true (is_held_as (state_in t i n) s) true true
    true (is_one_each (live_told told)) (was_told i n s told) true true
    refl (sym ((each_decides (live_told told)).1 k.one))
    (ap (λ (o : Option State). is_held_as o s) (k.rows i n) ∙ held_as i n s told k.once) refl refl
exact_breach t told (Happened (Spawned c i run method revision command)) k =
    ap (λ (b : Bool). first_false true b true true true) (exact_start t told (is_start method) c i k)
exact_breach t told (Happened (Emptied c)) k =
    none_by (is_one_each (live_told (Happened (Emptied c) ∷ told)))
    ((each_decides (live_told (Happened (Emptied c) ∷ told))).1 (each_left c (live_told told) k.one))
exact_breach t told (Happened Boot) k = refl
exact_breach t told Life k = refl
exact_breach t told (Row i n s) k =
    same_first t.beginning true true (is_free_for (state_in t i n) s) (may_be_found (last_in t i) n s)
    (is_beginning told) (is_one_each (live_told told)) true (not (was_told_as i n told) || was_told i n s told)
    (may_be_found (last_told i told) n s)
    k.beginning (sym ((each_decides (live_told told)).1 k.one)) refl
    (ap (λ (o : Option State). is_free_for o s) (k.rows i n) ∙ free_as i n s told k.once)
    (ap (λ (o : Option LastTold). may_be_found o n s) (k.lasts i))
exact_breach t told (Living c i) k =
    same_first t.beginning (may_start c (live_in t i)) true true true
    (is_beginning told) (is_one_each (begun_start true c i (live_told told))) true true true
    k.beginning (exact_start t told true c i k) refl refl refl

-- ---- places

later : (o : Option ℕ) (n : ℕ) → IfSome o (λ at. at < n) → IfSome o (λ at. at < suc n)
later None n h = tt
later (Some at) n h = omega (arith, h)

later_row : (o : Option LastRow) (n : ℕ) → IfSome o (λ r. r.place < n) → IfSome o (λ r. r.place < suc n)
later_row None n h = tt
later_row (Some r) n h = omega (arith, h)

later_start : (o : Option LastStart) (n : ℕ) → IfSome o (λ s. s.place < n) → IfSome o (λ s. s.place < suc n)
later_start None n h = tt
later_start (Some s) n h = omega (arith, h)

-- nothing happened after the place of the next entry
not_after : (o : Option ℕ) (n : ℕ) → IfSome o (λ at. at < n) → is_after o n ≡ false
not_after None n h = refl
not_after (Some at) n h = le-ltb n at (omega (arith, h))

all_later : (n : ℕ) (t : Tables) → AreBefore n t → AreBefore (suc n) t
all_later n t b =
    record {
      boot = later t.boot n b.boot;
      life = later t.life n b.life;
      last = λ i. later_row (get nat_eq t.lasts i) n (b.last i);
      start = λ i. later_start (get nat_eq t.starts i) n (b.start i);
      emptied = λ c. later (get nat_eq t.emptied c) n (b.emptied c);
    }

-- ---- what the tables know, but for whether a life begins, and without what is safe

record KnowsPast (t : Tables) (told : List Entry) : Type 0 where
  rows : (i number : ℕ) → state_in t i number ≡ state_of i number told
  lasts : (i : ℕ) → last_in t i ≡ last_told i told
  starts : (i : ℕ) → live_in t i ≡ contract_in i (live_told told)
  before : AreBefore (length told) t

past_of : (t : Tables) (told : List Entry) (b : Bool) → Knows t told → KnowsPast (record t { beginning = b }) told
past_of t told b k =
    record {
      rows = k.rows;
      lasts = k.lasts;
      starts = k.starts;
      before = record {
        boot = k.before.boot;
        life = k.before.life;
        last = k.before.last;
        start = k.before.start;
        emptied = k.before.emptied;
      };
    }

past : (t : Tables) (told : List Entry) → Knows t told → KnowsPast t told
past t told k = record { rows = k.rows; lasts = k.lasts; starts = k.starts; before = k.before }

-- ---- an entry that changes no table

nothing_noted : (t : Tables) (told : List Entry) (x : Entry) → row_told x ≡ None
    → ((j : ℕ) → last_told j told ≡ last_told j (x ∷ told)) → live_told told ≡ live_told (x ∷ told) → KnowsPast t told
    → KnowsPast t (x ∷ told)
nothing_noted t told x no_row same_last same_live k =
    record {
      rows = λ j m. k.rows j m ∙ ap (λ (r : Option ToldRow). state_or j m r (state_of j m told)) (sym no_row);
      lasts = λ j. k.lasts j ∙ same_last j;
      starts = λ j. k.starts j ∙ ap (contract_in j) same_live;
      before = all_later (length told) t k.before;
    }

-- ---- a row

last_noted : (b : Bool) (boot life : Option ℕ) (n : ℕ) (s : State) (at : ℕ) (old : Option LastRow)
    (rest : Option LastTold) → IfSome boot (λ p. p < at) → IfSome life (λ p. p < at) → last_by boot life old ≡ rest
    → last_by boot life (cond b (Some (record { number = n; state = s; place = at })) old)
    ≡ cond b (Some (record { number = n; state = s; booted = false; older = false })) rest
last_noted true boot life n s at old rest before began e =
    let f : Bool → Option LastTold = λ v. Some (record { number = n; state = s; booted = v; older = is_after life at }) in
    let g : Bool → Option LastTold = λ v. Some (record { number = n; state = s; booted = false; older = v }) in
    ap f (not_after boot at before) ∙ ap g (not_after life at began)
last_noted false boot life n s at old rest before began e = e

row_put : (b : Bool) (at : ℕ) (r : LastRow) (new old : Option LastRow) → r.place ≡ at → new ≡ cond b (Some r) old
    → IfSome old (λ r. r.place < at) → IfSome new (λ r. r.place < suc at)
row_put b at r new old here e before =
    let P : Option LastRow → Type 0 = λ o. IfSome o (λ r. r.place < suc at) in
    subst P (sym e) (by b)
  where
    by : (b : Bool) → IfSome (cond b (Some r) old) (λ r. r.place < suc at)
    by true = omega (arith, here)
    by false = later_row old at before

-- the key is written either way round
same_key : (i n j m : ℕ) → same_row (i, n) (j, m) ≡ (i == j && n == m)
same_key i n j m = refl

row_noted : (old new : Tables) (told : List Entry) (x : Entry) (i n : ℕ) (s : State)
    → row_told x ≡ Some (record { instance = i; number = n; state = s })
    → ((j : ℕ) → last_told j (x ∷ told) ≡ last_row j i n s (last_told j told)) → live_told told ≡ live_told (x ∷ told)
    → KnowsPast old told → IsRowNoted (length told) i n s old new → KnowsPast new (x ∷ told)
row_noted old new told x i n s row last same_live k noted =
    let r : LastRow = record { number = n; state = s; place = length told } in
    let f : Option State → Option ToldRow → ℕ → ℕ → Option State = λ o e j m. state_or j m e o in
    record {
      rows = λ j m.
          noted.rows (j, m)
          ∙ ap (λ (o : Option State). cond (i == j && n == m) (Some s) o) (k.rows j m)
          ∙ ap (λ (e : Option ToldRow). state_or j m e (state_of j m told)) (sym row);
      lasts = λ j.
          ap (λ (o : Option ℕ). last_by o new.life (get nat_eq new.lasts j)) noted.boot
          ∙ ap (λ (o : Option ℕ). last_by old.boot o (get nat_eq new.lasts j)) noted.life
          ∙ ap (last_by old.boot old.life) (noted.lasts j)
          ∙ last_noted (i == j) old.boot old.life n s (length told) (get nat_eq old.lasts j) (last_told j told)
          k.before.boot k.before.life (k.lasts j)
          ∙ sym (last j);
      starts = λ j.
          ap (λ (o : Option ℕ). live_by o new.life (get nat_eq new.emptied) (get nat_eq new.starts j)) noted.boot
          ∙ ap (λ (o : Option ℕ). live_by old.boot o (get nat_eq new.emptied) (get nat_eq new.starts j)) noted.life
          ∙ ap (λ m. live_by old.boot old.life (get nat_eq m) (get nat_eq new.starts j)) noted.emptied
          ∙ ap (λ m. live_by old.boot old.life (get nat_eq old.emptied) (get nat_eq m j)) noted.starts
          ∙ k.starts j
          ∙ ap (contract_in j) same_live;
      before = record {
        boot = subst (λ o. IfSome o (λ at. at < suc (length told))) (sym noted.boot)
            (later old.boot (length told) k.before.boot);
        life = subst (λ o. IfSome o (λ at. at < suc (length told))) (sym noted.life)
            (later old.life (length told) k.before.life);
        last = λ j.
            row_put (i == j) (length told) r (get nat_eq new.lasts j) (get nat_eq old.lasts j) refl (noted.lasts j)
            (k.before.last j);
        start = λ j.
            subst (λ m. IfSome (get nat_eq m j) (λ s. s.place < suc (length told))) (sym noted.starts)
            (later_start (get nat_eq old.starts j) (length told) (k.before.start j));
        emptied = λ c.
            subst (λ m. IfSome (get nat_eq m c) (λ at. at < suc (length told))) (sym noted.emptied)
            (later (get nat_eq old.emptied c) (length told) (k.before.emptied c));
      };
    }

-- ---- a start

start_put : (b : Bool) (at : ℕ) (r : LastStart) (new old : Option LastStart) → r.place ≡ at → new ≡ cond b (Some r) old
    → IfSome old (λ r. r.place < at) → IfSome new (λ r. r.place < suc at)
start_put b at r new old here e before =
    let P : Option LastStart → Type 0 = λ o. IfSome o (λ r. r.place < suc at) in
    subst P (sym e) (by b)
  where
    by : (b : Bool) → IfSome (cond b (Some r) old) (λ r. r.place < suc at)
    by true = omega (arith, here)
    by false = later_start old at before

lives_by : (c : ℕ) (a b d : Bool) → a ≡ false → b ≡ false → d ≡ false → cond ((a || b) || d) None (Some c) ≡ Some c
lives_by c a b d e f g = rw (e, f, g) refl

start_live : (b : Bool) (boot life : Option ℕ) (emptied : ℕ → Option ℕ) (c at : ℕ) (old : Option LastStart)
    (rest : Option ℕ) → IfSome boot (λ p. p < at) → IfSome life (λ p. p < at) → IfSome (emptied c) (λ p. p < at)
    → live_by boot life emptied old ≡ rest
    → live_by boot life emptied (cond b (Some (record { contract = c; place = at })) old) ≡ cond b (Some c) rest
start_live true boot life emptied c at old rest p l q e =
    lives_by c (is_after boot at) (is_after life at) (is_after (emptied c) at) (not_after boot at p)
    (not_after life at l) (not_after (emptied c) at q)
start_live false boot life emptied c at old rest p l q e = e

start_noted : (old new : Tables) (told : List Entry) (x : Entry) (c i : ℕ) → row_told x ≡ None
    → ((j : ℕ) → last_told j told ≡ last_told j (x ∷ told))
    → record { contract = c; instance = i } ∷ live_told told ≡ live_told (x ∷ told) → KnowsPast old told
    → IsStartNoted (length told) c i old new → KnowsPast new (x ∷ told)
start_noted old new told x c i no_row same_last live k noted =
    let start : LastStart = record { contract = c; place = length told } in
    record {
      rows = λ j m.
          ap (λ r. get same_row r (j, m)) noted.rows ∙ k.rows j m
          ∙ ap (λ (r : Option ToldRow). state_or j m r (state_of j m told)) (sym no_row);
      lasts = λ j.
          ap (λ (o : Option ℕ). last_by o new.life (get nat_eq new.lasts j)) noted.boot
          ∙ ap (λ (o : Option ℕ). last_by old.boot o (get nat_eq new.lasts j)) noted.life
          ∙ ap (λ m. last_by old.boot old.life (get nat_eq m j)) noted.lasts
          ∙ k.lasts j ∙ same_last j;
      starts = λ j.
          ap (λ (o : Option ℕ). live_by o new.life (get nat_eq new.emptied) (get nat_eq new.starts j)) noted.boot
          ∙ ap (λ (o : Option ℕ). live_by old.boot o (get nat_eq new.emptied) (get nat_eq new.starts j)) noted.life
          ∙ ap (λ m. live_by old.boot old.life (get nat_eq m) (get nat_eq new.starts j)) noted.emptied
          ∙ ap (live_by old.boot old.life (get nat_eq old.emptied)) (noted.starts j)
          ∙ start_live (i == j) old.boot old.life (get nat_eq old.emptied) c (length told) (get nat_eq old.starts j)
          (contract_in j (live_told told)) k.before.boot k.before.life (k.before.emptied c) (k.starts j)
          ∙ ap (contract_in j) live;
      before = record {
        boot = subst (λ o. IfSome o (λ at. at < suc (length told))) (sym noted.boot)
            (later old.boot (length told) k.before.boot);
        life = subst (λ o. IfSome o (λ at. at < suc (length told))) (sym noted.life)
            (later old.life (length told) k.before.life);
        last = λ j.
            subst (λ m. IfSome (get nat_eq m j) (λ r. r.place < suc (length told))) (sym noted.lasts)
            (later_row (get nat_eq old.lasts j) (length told) (k.before.last j));
        start = λ j.
            start_put (i == j) (length told) start (get nat_eq new.starts j) (get nat_eq old.starts j) refl
            (noted.starts j) (k.before.start j);
        emptied = λ d.
            subst (λ m. IfSome (get nat_eq m d) (λ at. at < suc (length told))) (sym noted.emptied)
            (later (get nat_eq old.emptied d) (length told) (k.before.emptied d));
      };
    }

begins : (starts none : Bool) (c i : ℕ) (ls : List LiveStart) → (c == 0) ≡ none → (starts && not none) ≡ true
    → record { contract = c; instance = i } ∷ ls ≡ begun_start starts c i ls
begins true true c i ls e f = absurd cc
begins true false c i ls e f = rw e refl
begins false none c i ls e f = absurd cc

begins_none : (starts none : Bool) (c i : ℕ) (ls : List LiveStart) → (c == 0) ≡ none → (starts && not none) ≡ false
    → ls ≡ begun_start starts c i ls
begins_none true true c i ls e f = rw e refl
begins_none true false c i ls e f = absurd cc
begins_none false none c i ls e f = refl

start_if_noted : (b starts : Bool) (old new : Tables) (told : List Entry) (x : Entry) (c i : ℕ)
    → (starts && not (c == 0)) ≡ b → row_told x ≡ None → ((j : ℕ) → last_told j told ≡ last_told j (x ∷ told))
    → begun_start starts c i (live_told told) ≡ live_told (x ∷ told) → KnowsPast old told
    → IsStartNotedIf b (length told) c i old new → KnowsPast new (x ∷ told)
start_if_noted true starts old new told x c i e no_row same_last live k noted =
    start_noted old new told x c i no_row same_last
    (begins starts (c == 0) c i (live_told told) refl e ∙ live) k noted
start_if_noted false starts old new told x c i e no_row same_last live k noted =
    subst (λ t. KnowsPast t (x ∷ told)) (sym noted)
    (nothing_noted old told x no_row same_last (begins_none starts (c == 0) c i (live_told told) refl e ∙ live) k)

-- ---- a contract is found empty

place_put : (b : Bool) (at : ℕ) (new old : Option ℕ) → new ≡ cond b (Some at) old → IfSome old (λ p. p < at)
    → IfSome new (λ p. p < suc at)
place_put b at new old e before =
    let P : Option ℕ → Type 0 = λ o. IfSome o (λ p. p < suc at) in
    subst P (sym e) (by b)
  where
    by : (b : Bool) → IfSome (cond b (Some at) old) (λ p. p < suc at)
    by true = omega arith
    by false = later old at before

but_for_gone : (c d : ℕ) (gone : Bool) → (d == c) ≡ true → None ≡ but_for c (cond gone None (Some d))
but_for_gone c d true e = refl
but_for_gone c d false e = rw e refl

but_for_other : (c d : ℕ) (gone : Bool) → (d == c) ≡ false → cond gone None (Some d) ≡ but_for c (cond gone None (Some d))
but_for_other c d true e = refl
but_for_other c d false e = rw e refl

always_gone : (c : ℕ) (a b : Bool) → b ≡ true → cond (a || b) None (Some c) ≡ None
always_gone c true b e = refl
always_gone c false true e = refl
always_gone c false false e = absurd cc

emptied_one : (b past : Bool) (c d place at : ℕ) (new old : Option ℕ) → (c == d) ≡ b → place < at
    → new ≡ cond b (Some at) old
    → cond (past || is_after new place) None (Some d) ≡ but_for c (cond (past || is_after old place) None (Some d))
emptied_one true past c d place at new old same before e =
    let gone : is_after new place ≡ true = ap (λ (o : Option ℕ). is_after o place) e ∙ lt-ltb place at before in
    always_gone d past (is_after new place) gone
    ∙ but_for_gone c d (past || is_after old place) (eq-eqb d c (sym (eqb-true c d same)))
emptied_one false past c d place at new old same before e =
    ap (λ (o : Option ℕ). cond (past || is_after o place) None (Some d)) e
    ∙ but_for_other c d (past || is_after old place) (ne_eqb d c (λ f. eqb-false c d same (sym f)))

emptied_live : (boot life : Option ℕ) (old new : ℕ → Option ℕ) (c at : ℕ) (s : Option LastStart)
    → IfSome s (λ s. s.place < at) → ((q : ℕ) → new q ≡ cond (c == q) (Some at) (old q))
    → live_by boot life new s ≡ but_for c (live_by boot life old s)
emptied_live boot life old new c at None before puts = refl
emptied_live boot life old new c at (Some s) before puts =
    emptied_one (c == s.contract) (is_after boot s.place || is_after life s.place) c s.contract s.place at
    (new s.contract) (old s.contract) refl before (puts s.contract)

emptied_noted : (old new : Tables) (told : List Entry) (c : ℕ) → KnowsPast old told → OneEach (live_told told)
    → IsEmptiedNoted (length told) c old new → KnowsPast new (Happened (Emptied c) ∷ told)
emptied_noted old new told c k one noted =
    record {
      rows = λ j m. ap (λ r. get same_row r (j, m)) noted.rows ∙ k.rows j m;
      lasts = λ j.
          ap (λ (o : Option ℕ). last_by o new.life (get nat_eq new.lasts j)) noted.boot
          ∙ ap (λ (o : Option ℕ). last_by old.boot o (get nat_eq new.lasts j)) noted.life
          ∙ ap (λ m. last_by old.boot old.life (get nat_eq m j)) noted.lasts
          ∙ k.lasts j;
      starts = λ j.
          ap (λ (o : Option ℕ). live_by o new.life (get nat_eq new.emptied) (get nat_eq new.starts j)) noted.boot
          ∙ ap (λ (o : Option ℕ). live_by old.boot o (get nat_eq new.emptied) (get nat_eq new.starts j)) noted.life
          ∙ ap (λ m. live_by old.boot old.life (get nat_eq new.emptied) (get nat_eq m j)) noted.starts
          ∙ emptied_live old.boot old.life (get nat_eq old.emptied) (get nat_eq new.emptied) c (length told)
          (get nat_eq old.starts j) (k.before.start j) noted.emptied
          ∙ ap (but_for c) (k.starts j)
          ∙ sym (contract_left j c (live_told told) one);
      before = record {
        boot = subst (λ o. IfSome o (λ at. at < suc (length told))) (sym noted.boot)
            (later old.boot (length told) k.before.boot);
        life = subst (λ o. IfSome o (λ at. at < suc (length told))) (sym noted.life)
            (later old.life (length told) k.before.life);
        last = λ j.
            subst (λ m. IfSome (get nat_eq m j) (λ r. r.place < suc (length told))) (sym noted.lasts)
            (later_row (get nat_eq old.lasts j) (length told) (k.before.last j));
        start = λ j.
            subst (λ m. IfSome (get nat_eq m j) (λ s. s.place < suc (length told))) (sym noted.starts)
            (later_start (get nat_eq old.starts j) (length told) (k.before.start j));
        emptied = λ d.
            place_put (c == d) (length told) (get nat_eq new.emptied d) (get nat_eq old.emptied d) (noted.emptied d)
            (k.before.emptied d);
      };
    }

-- ---- a boot, and a life

last_booted : (boot life : Option ℕ) (r : Option LastRow) (at : ℕ) → IfSome r (λ r. r.place < at)
    → last_by (Some at) life r ≡ option_map behind_boot (last_by boot life r)
last_booted boot life None at before = refl
last_booted boot life (Some r) at before =
    let f : Bool → Option LastTold = λ v.
    Some (record { number = r.number; state = r.state; booted = v; older = is_after life r.place }) in
    ap f (lt-ltb r.place at before)

last_older : (boot life : Option ℕ) (r : Option LastRow) (at : ℕ) → IfSome r (λ r. r.place < at)
    → last_by boot (Some at) r ≡ option_map behind_life (last_by boot life r)
last_older boot life None at before = refl
last_older boot life (Some r) at before =
    let f : Bool → Option LastTold = λ v.
    Some (record { number = r.number; state = r.state; booted = is_after boot r.place; older = v }) in
    ap f (lt-ltb r.place at before)

over_by : (a b d : Bool) (c : ℕ) → (a || b) ≡ true → cond ((a || b) || d) None (Some c) ≡ None
over_by a b d c e = rw e refl

after_boot : (life : Option ℕ) (emptied : ℕ → Option ℕ) (s : Option LastStart) (at : ℕ)
    → IfSome s (λ s. s.place < at) → live_by (Some at) life emptied s ≡ None
after_boot life emptied None at before = refl
after_boot life emptied (Some s) at before =
    let past : is_after (Some at) s.place ≡ true = lt-ltb s.place at before in
    over_by (is_after (Some at) s.place) (is_after life s.place) (is_after (emptied s.contract) s.place) s.contract
    (rw past refl)

either : (a b : Bool) → b ≡ true → (a || b) ≡ true
either true b e = refl
either false b e = e

after_life : (boot : Option ℕ) (emptied : ℕ → Option ℕ) (s : Option LastStart) (at : ℕ)
    → IfSome s (λ s. s.place < at) → live_by boot (Some at) emptied s ≡ None
after_life boot emptied None at before = refl
after_life boot emptied (Some s) at before =
    over_by (is_after boot s.place) (is_after (Some at) s.place) (is_after (emptied s.contract) s.place) s.contract
    (either (is_after boot s.place) (is_after (Some at) s.place) (lt-ltb s.place at before))

boot_noted : (t : Tables) (told : List Entry) → KnowsPast t told
    → KnowsPast (record t { boot = Some (length told) }) (Happened Boot ∷ told)
boot_noted t told k =
    let b = all_later (length told) t k.before in
    record {
      rows = k.rows;
      lasts = λ j.
          last_booted t.boot t.life (get nat_eq t.lasts j) (length told) (k.before.last j)
          ∙ ap (option_map behind_boot) (k.lasts j);
      starts = λ j. after_boot t.life (get nat_eq t.emptied) (get nat_eq t.starts j) (length told) (k.before.start j);
      before = record { boot = omega arith; life = b.life; last = b.last; start = b.start; emptied = b.emptied };
    }

life_noted : (t : Tables) (told : List Entry) → KnowsPast t told
    → KnowsPast (record t { life = Some (length told) }) (Life ∷ told)
life_noted t told k =
    let b = all_later (length told) t k.before in
    record {
      rows = k.rows;
      lasts = λ j.
          last_older t.boot t.life (get nat_eq t.lasts j) (length told) (k.before.last j)
          ∙ ap (option_map behind_life) (k.lasts j);
      starts = λ j. after_life t.boot (get nat_eq t.emptied) (get nat_eq t.starts j) (length told) (k.before.start j);
      before = record { boot = b.boot; life = omega arith; last = b.last; start = b.start; emptied = b.emptied };
    }

-- ---- any entry

past_noted : (old new : Tables) (told : List Entry) (x : Entry) → Knows old told → IsNoted (length told) x old new
    → KnowsPast new (x ∷ told)
past_noted old new told (Happened (Committed i n s next)) k noted =
    row_noted (record old { beginning = false }) new told (Happened (Committed i n s next)) i n s refl (λ j. refl) refl
    (past_of old told false k) noted
past_noted old new told (Happened (Held name launch i n s)) k noted =
    subst (λ t. KnowsPast t (Happened (Held name launch i n s) ∷ told)) (sym noted)
    (nothing_noted (record old { beginning = false }) told (Happened (Held name launch i n s)) refl (λ j. refl) refl
    (past_of old told false k))
past_noted old new told (Happened (Spawned c i run method revision command)) k noted =
    start_if_noted (is_start method && not (c == 0)) (is_start method) (record old { beginning = false }) new told
    (Happened (Spawned c i run method revision command)) c i refl refl (λ j. refl) refl (past_of old told false k) noted
past_noted old new told (Happened (Emptied c)) k noted =
    emptied_noted (record old { beginning = false }) new told c (past_of old told false k) k.one noted
past_noted old new told (Happened Boot) k noted =
    subst (λ t. KnowsPast t (Happened Boot ∷ told)) (sym noted)
    (boot_noted (record old { beginning = false }) told (past_of old told false k))
past_noted old new told Life k noted =
    subst (λ t. KnowsPast t (Life ∷ told)) (sym noted)
    (life_noted (record old { beginning = true }) told (past_of old told true k))
past_noted old new told (Row i n s) k noted =
    row_noted old new told (Row i n s) i n s refl (λ j. refl) refl (past old told k) noted
past_noted old new told (Living c i) k noted =
    start_if_noted (not (c == 0)) true old new told (Living c i) c i refl refl (λ j. refl) refl (past old told k) noted

start_keeps : (b : Bool) (place c i : ℕ) (old new : Tables) → IsStartNotedIf b place c i old new
    → new.beginning ≡ old.beginning
start_keeps true place c i old new noted = noted.beginning
start_keeps false place c i old new noted = ap (λ (t : Tables). t.beginning) noted

item_begins : (place : ℕ) (item : Item) (old new : Tables) → IsItemNoted place item old new
    → new.beginning ≡ old.beginning
item_begins place (Committed i n s next) old new noted = noted.beginning
item_begins place (Held name launch i n s) old new noted = ap (λ (t : Tables). t.beginning) noted
item_begins place (Spawned c i run method revision command) old new noted =
    start_keeps (is_start method && not (c == 0)) place c i old new noted
item_begins place (Emptied c) old new noted = noted.beginning
item_begins place Boot old new noted = ap (λ (t : Tables). t.beginning) noted

beginning_noted : (place : ℕ) (old new : Tables) (told : List Entry) (x : Entry) → Knows old told
    → IsNoted place x old new → breach_next told x ≡ None → new.beginning ≡ is_beginning (x ∷ told)
beginning_noted place old new told (Happened item) k noted e =
    item_begins place item (record old { beginning = false }) new noted
beginning_noted place old new told Life k noted e = ap (λ (t : Tables). t.beginning) noted
beginning_noted place old new told (Row i n s) k noted e =
    noted.beginning ∙ k.beginning ∙ (all_true told (Row i n s) e).found
beginning_noted place old new told (Living c i) k noted e =
    start_keeps (not (c == 0)) place c i old new noted ∙ k.beginning ∙ (all_true told (Living c i) e).found

entry_noted : (old new : Tables) (told : List Entry) (x : Entry) → Knows old told → IsNoted (length told) x old new
    → breach_next told x ≡ None → Knows new (x ∷ told)
entry_noted old new told x k noted e =
    let p = past_noted old new told x k noted in
    let t = all_true told x e in
    record {
      beginning = beginning_noted (length told) old new told x k noted e;
      rows = p.rows;
      lasts = p.lasts;
      starts = p.starts;
      before = p.before;
      once = ((once_decides told x).0 t.once, k.once);
      one = (one_decides told x).0 t.one;
    }

pub knows_more : (old new : Tables) (told : List Entry) (x : Entry) (place : ℕ) → IsNoted place x old new
    → Knows old told → length told ≡ place → breach_next told x ≡ None → Knows new (x ∷ told)
knows_more old new told x place noted k there e =
    let P : ℕ → Type 0 = λ p. IsNoted p x old new in
    entry_noted old new told x k (subst P (sym there) noted) e
