-- Lists of restarters, seen as what they know.
use Rattle.std.proofs.Common.{◌≡◌, ℕ, zero, suc, ◌+◌, ◌<◌, ◌≤◌, List, [], ◌∷◌, Bool, true, false, cond, length, map, Option, Some, None, position, slice_get, refl, ap, ◌∙◌, sym, subst, get_or, arith, Result, Ok, Err, OnOk}
use Rattle.std.specs.Prelude.{filter, slice_set, not, option_map, find, is_some}
use Rattle.std.specs.List.{position_or_len}
use Rattle.std.proofs.lemmas.List.{length-map}
use Rattle.std.proofs.lemmas.Option.{slice_get-map, slice_get_read}
use Rattle.std.proofs.Math.Seq.{map-set_same}
use Rattle.std.proofs.lemmas.Option.{none-some}
use Rattle.smf_world.specs.declared.work.Becomes.TheVariants.{Knows}
use Rattle.smf_world.specs.Happens.{restarters_after}
use Rattle.smf_machine.specs.Install.{FitsIn, RoomOf}
use Rattle.std.specs.Prelude.{if◌then◌else◌}
use Rattle.smf_restarter.specs.declared.reply.KnowledgeChange.{KnowledgeChange}
use Rattle.smf_restarter.specs.Changes.{knowledge_after}
use Rattle.smf_restarter.specs.Knowledge.{Kept, Knowledge}
use Rattle.smf_world.specs.Worked.{is_named}
use Rattle.smf_machine.specs.Given.{is_named_kept}
use Rattle.smf_edge.proofs.Firsts.{found_first, found_none}
use Rattle.smf_value.proofs.Decimals.{same_text}
use Rattle.smf_machine.specs.Lists.{NoneNamed, NoTwins}
use Rattle.smf_machine.specs.Parts.{knowledge}

some_is : {X : Type 0} (x y : X) → ◌≡◌ {A = Option X} (Some x) (Some y) → x ≡ y
some_is x y h = cc

place_known : (name : List ℕ) (rs : List Kept)
    → position_or_len (is_named_kept name) rs ≡ position_or_len (is_named name) (map knowledge rs)
place_known name [] = refl
place_known name (r ∷ rs) = ap (λ n. cond (not (is_named_kept name r)) (1 + n) 0) (place_known name rs)

pub position_known : (name : List ℕ) (rs : List Kept)
    → position (is_named_kept name) rs ≡ position (is_named name) (map knowledge rs)
position_known name rs = rw (place_known name rs, length-map rs knowledge) refl

filter_by : (b : Bool) (r : Kept) (rs : List Kept) (ks : List Knowledge) → map knowledge rs ≡ ks
    → map knowledge (cond b (r ∷ rs) rs) ≡ cond b (r.known ∷ ks) ks
filter_by true r rs ks e = ap (λ l. r.known ∷ l) e
filter_by false r rs ks e = e

filter_all : (name : List ℕ) (rs : List Kept)
    → map knowledge (filter (λ r. not (is_named_kept name r)) rs)
    ≡ filter (λ k. not (is_named name k)) (map knowledge rs)
filter_all name [] = refl
filter_all name (r ∷ rs) = filter_by (not (is_named_kept name r)) r _ _ (filter_all name rs)

pub filter_known : (name : List ℕ) (rs qs : List Kept) → qs ≡ filter (λ r. not (is_named_kept name r)) rs
    → map knowledge qs ≡ filter (λ k. not (is_named name k)) (map knowledge rs)
filter_known name rs qs e = ap (map knowledge) e ∙ filter_all name rs

-- ---- names

both_same : {A : Type 0} {x y : A} {xs ys : List A} → x ≡ y → xs ≡ ys → x ∷ xs ≡ y ∷ ys
both_same e f = λ i. e i ∷ f i

alone_under : (name other : List ℕ) (ks : List Knowledge) → other ≡ name → NoneNamed other ks → NoneNamed name ks
alone_under name other ks e h = subst (λ n. NoneNamed n ks) e h

-- those of another name are left as they are
abbrev learning : List ℕ → KnowledgeChange → Knowledge → Knowledge
learning name c k = if is_named name k then knowledge_after k c else k

learns_by : (b : Bool) (k other : Knowledge) → b ≡ false → (if b then other else k) ≡ k
learns_by true k other e = absurd cc
learns_by false k other e = refl

none_learn : (name : List ℕ) (c : KnowledgeChange) (ks : List Knowledge) → NoneNamed name ks
    → map (learning name c) ks ≡ ks
none_learn name c [] h = refl
none_learn name c (k ∷ ks) h =
    both_same (learns_by (is_named name k) k (knowledge_after k c) h.0) (none_learn name c ks h.1)

learned_by : (b : Bool) (k other : Knowledge) → b ≡ true → (if b then other else k) ≡ other
learned_by true k other e = refl
learned_by false k other e = absurd cc

-- one that stands in a list has no name that none has
named_none : (name : List ℕ) (ks : List Knowledge) (place : ℕ) (k : Knowledge) → NoneNamed name ks
    → slice_get ks place ≡ Some k → is_named name k ≡ false
named_none name [] place k h e = absurd cc
named_none name (x ∷ xs) zero k h e = let same : x ≡ k = some_is x k e in subst (λ y. is_named name y ≡ false) same h.0
named_none name (x ∷ xs) (suc place) k h e = named_none name xs place k h.1 e

first_other : (name : List ℕ) (x k : Knowledge) (ks : List Knowledge) (place : ℕ) (b : Bool) → is_named name x ≡ b
    → NoneNamed x.name ks → slice_get ks place ≡ Some k → is_named name k ≡ true → is_named name x ≡ false
first_other name x k ks place false e h there named = e
first_other name x k ks place true e h there named =
    let none : NoneNamed name ks = alone_under name x.name ks (same_text x.name name e) h in
    let never : true ≡ false = sym named ∙ named_none name ks place k none there in absurd cc

-- the one of a name learns, and so all of that name do
pub learned_at : (name : List ℕ) (c : KnowledgeChange) (ks : List Knowledge) (place : ℕ) (k : Knowledge) → NoTwins ks
    → slice_get ks place ≡ Some k → is_named name k ≡ true
    → slice_set ks place (knowledge_after k c) ≡ map (learning name c) ks
learned_at name c [] place k apart there named = refl
learned_at name c (x ∷ xs) zero k apart there named =
    let same : x ≡ k = some_is x k there in
    let named_x : is_named name x ≡ true = subst (λ y. is_named name y ≡ true) (sym same) named in
    let head : knowledge_after k c ≡ learning name c x =
    ap (λ y. knowledge_after y c) (sym same) ∙ sym (learned_by (is_named name x) x (knowledge_after x c) named_x) in
    let tail : xs ≡ map (learning name c) xs =
    sym (none_learn name c xs (alone_under name x.name xs (same_text x.name name named_x) apart.0)) in
    both_same head tail
learned_at name c (x ∷ xs) (suc place) k apart there named =
    let other : is_named name x ≡ false = first_other name x k xs place (is_named name x) refl apart.0 there named in
    both_same (sym (learns_by (is_named name x) x (knowledge_after x c) other))
    (learned_at name c xs place k apart.1 there named)

-- ---- where a name is not

none_by : (b : Bool) (k : Knowledge) (found : Option Knowledge) → is_some (cond b (Some k) found) ≡ false
    → (b ≡ false) × (is_some found ≡ false)
none_by true k found e = absurd cc
none_by false k found e = (refl, e)

pub none_named : (name : List ℕ) (ks : List Knowledge) → is_some (find (is_named name) ks) ≡ false → NoneNamed name ks
none_named name [] e = tt
none_named name (k ∷ ks) e = let p = none_by (is_named name k) k (find (is_named name) ks) e in
    (p.0, none_named name ks p.1)

pub none_at : (name : List ℕ) (ks : List Knowledge) → position (is_named name) ks ≡ None → NoneNamed name ks
none_at name ks e = none_named name ks (ap is_some (found_none (is_named name) ks e))

-- ---- a restarter is another

pub set_known : (rs : List Kept) (k : ℕ) (r : Kept)
    → map knowledge (slice_set rs k r) ≡ slice_set (map knowledge rs) k r.known
set_known [] k r = refl
set_known (x ∷ xs) zero r = refl
set_known (x ∷ xs) (suc k) r = ap (λ l. x.known ∷ l) (set_known xs k r)

pub known_at : (rs : List Kept) (k : ℕ) (r : Kept) → slice_get rs k ≡ Some r
    → slice_get (map knowledge rs) k ≡ Some r.known
known_at rs k r e = slice_get-map knowledge rs k ∙ ap (option_map knowledge) e

named_here : (name : List ℕ) (ks : List Knowledge) (place : ℕ) (k : Knowledge)
    → position (is_named name) ks ≡ Some place → slice_get ks place ≡ Some k → is_named name k ≡ true
named_here name ks place k at there =
    let h = found_first (is_named name) ks place at in
    let same : h.0 ≡ k = some_is h.0 k (sym h.1 ∙ there) in
    subst (λ x. is_named name x ≡ true) same h.3

-- the restarter of a name makes a change
pub learned_there : (name : List ℕ) (c : KnowledgeChange) (rs : List Kept) (place : ℕ) (old new : Kept)
    → NoTwins (map knowledge rs) → Some place ≡ position (is_named name) (map knowledge rs)
    → place < length rs → old ≡ get_or rs place old → new.known ≡ knowledge_after old.known c
    → map knowledge (slice_set rs place new) ≡ restarters_after (Knows name c) (map knowledge rs)
learned_there name c rs place old new apart at low read e =
    let there : slice_get (map knowledge rs) place ≡ Some old.known =
    known_at rs place old (slice_get_read rs (length rs) place old refl low read) in
    let named : is_named name old.known ≡ true = named_here name (map knowledge rs) place old.known (sym at) there in
    set_known rs place new ∙ ap (slice_set (map knowledge rs) place) e
    ∙ learned_at name c (map knowledge rs) place old.known apart there named

pub none_learned : (name : List ℕ) (c : KnowledgeChange) (rs : List Kept)
    → None ≡ position (is_named name) (map knowledge rs)
    → map knowledge rs ≡ restarters_after (Knows name c) (map knowledge rs)
none_learned name c rs at = sym (none_learn name c (map knowledge rs) (none_at name (map knowledge rs) (sym at)))

-- ---- room

-- it has more room than it had
pub same_there : (rs : List Kept) (place : ℕ) (old new : Kept) → old ≡ get_or rs place old → new.known ≡ old.known
    → map knowledge (slice_set rs place new) ≡ map knowledge rs
same_there rs place old new read e = map-set_same knowledge rs place new old (e ∙ ap knowledge read)

set_there : (rs : List Kept) (k : ℕ) (r : Kept) → k < length rs → slice_get (slice_set rs k r) k ≡ Some r
set_there [] k r low = absurd (omega (arith, low))
set_there (x ∷ xs) zero r low = refl
set_there (x ∷ xs) (suc k) r low = set_there xs k r (omega (arith, low))

pub room_there : (name : List ℕ) (c : KnowledgeChange) (rs : List Kept) (place : ℕ) (old new : Kept)
    → Some place ≡ position (is_named name) (map knowledge rs) → place < length rs
    → old ≡ get_or rs place old → new.known ≡ old.known → FitsIn c new → RoomOf name c (slice_set rs place new)
room_there name c rs place old new at low read e fits = λ k r here there.
    let same : map knowledge (slice_set rs place new) ≡ map knowledge rs = same_there rs place old new read e in
    let place_is : ◌≡◌ {A = Option ℕ} (Some place) (Some k) = at ∙ ap (position (is_named name)) (sym same) ∙ here in
    let is : place ≡ k = some_is place k place_is in
    let there2 : slice_get (slice_set rs place new) place ≡ Some r =
    ap (slice_get (slice_set rs place new)) is ∙ there in
    let new_is : new ≡ r = some_is new r (sym (set_there rs place new low) ∙ there2) in
    subst (FitsIn c) new_is fits

pub room_ok : {X E : Type 0} (name : List ℕ) (c : KnowledgeChange) (rs : List Kept) (place : ℕ) (old new : Kept)
    (r : Result X E) → Some place ≡ position (is_named name) (map knowledge rs) → place < length rs
    → old ≡ get_or rs place old → new.known ≡ old.known → OnOk r (length c.put ≤ new.instances_room)
    → OnOk r (length c.listed + 1 ≤ new.runs_room)
    → OnOk r (RoomOf name c (slice_set rs place new))
room_ok name c rs place old new (Ok x) at low read e put listed =
    room_there name c rs place old new at low read e (record { instances = put; runs = listed })
room_ok name c rs place old new (Err f) at low read e put listed = tt

pub no_room : (name : List ℕ) (c : KnowledgeChange) (rs : List Kept)
    → None ≡ position (is_named name) (map knowledge rs) → RoomOf name c rs
no_room name c rs at = λ k r here there. let never : ◌≡◌ {A = Option ℕ} None (Some k) = at ∙ here in
    absurd (none-some k never)
