-- Items that are put on a trail leave the facts of runs that it shows.
use Rattle.std.proofs.Common.{◌≡◌, ℕ, List, [], ◌∷◌, map, refl, sym, ◌∙◌, subst}
use Rattle.smf_world.specs.declared.item.Item.{Item}
use Rattle.smf_world.specs.declared.item.Item.TheVariants.{Boot, Committed, Held, Spawned, Emptied}
use Rattle.smf_world.specs.Safe.{WasSpawned, last_committed, live_starts}
use Rattle.smf_safety.proofs.LiveClauses.{Once, live_runs}
use Rattle.smf_world.proofs.LiveLists.{Each}
use Rattle.smf_world.proofs.TrailItems.{noted, noted_more}
use Rattle.smf_safety.proofs.TablesClauses.{spawned_for}
use Rattle.smf_world.proofs.TablesWalked.{IsHeld, IsRow}

-- if each item of a kind keeps a fact, all of them together keep it
pub each_noted : (P : List Item → Type 0) (Q : Item → Type 0) → ((x : Item) (t : List Item) → Q x → P t → P (x ∷ t))
    → (xs t : List Item) → Each Q xs → P t → P (noted xs t)
each_noted P Q step [] t a p = p
each_noted P Q step (x ∷ xs) t a p =
    subst P (sym (noted_more x xs t)) (each_noted P Q step xs (x ∷ t) a.1 (step x t a.0 p))

abbrev pub IsEmptied : Item → Type 0
IsEmptied (Emptied c) = Unit {0}
IsEmptied _ = ⊥

pub held_row : (x : Item) → IsHeld x → IsRow x
held_row (Held name launch i n state) q = tt
held_row (Committed i n state next) q = tt
held_row (Spawned c i run method revision command) q = q
held_row (Emptied c) q = q
held_row Boot q = q

-- ---- one item

row_live : (x : Item) (t : List Item) → IsRow x → live_runs (x ∷ t) ≡ live_runs t
row_live (Committed i n state next) t q = refl
row_live (Held name launch i n state) t q = refl
row_live (Spawned c i run method revision command) t q = absurd q
row_live (Emptied c) t q = absurd q
row_live Boot t q = absurd q

row_starts : (x : Item) (t : List Item) → IsRow x → live_starts (x ∷ t) ≡ live_starts t
row_starts (Committed i n state next) t q = refl
row_starts (Held name launch i n state) t q = refl
row_starts (Spawned c i run method revision command) t q = absurd q
row_starts (Emptied c) t q = absurd q
row_starts Boot t q = absurd q

row_spawned : (i run : ℕ) (x : Item) (t : List Item) → IsRow x → WasSpawned i run (x ∷ t) → WasSpawned i run t
row_spawned i run (Committed j n state next) t q w = w
row_spawned i run (Held name launch j n state) t q w = w
row_spawned i run (Spawned c j r method revision command) t q w = absurd q
row_spawned i run (Emptied c) t q w = absurd q
row_spawned i run Boot t q w = absurd q

row_spawned_for : (c : ℕ) (x : Item) (t : List Item) → IsRow x → spawned_for c (x ∷ t) ≡ spawned_for c t
row_spawned_for c (Committed j n state next) t q = refl
row_spawned_for c (Held name launch j n state) t q = refl
row_spawned_for c (Spawned d j r method revision command) t q = absurd q
row_spawned_for c (Emptied d) t q = absurd q
row_spawned_for c Boot t q = absurd q

row_once : (x : Item) (t : List Item) → IsRow x → Once t → Once (x ∷ t)
row_once (Committed j n state next) t q o = o
row_once (Held name launch j n state) t q o = o
row_once (Spawned d j r method revision command) t q o = absurd q
row_once (Emptied d) t q o = absurd q
row_once Boot t q o = absurd q

held_last : (n : ℕ) (x : Item) (t : List Item) → IsHeld x → last_committed n (x ∷ t) ≡ last_committed n t
held_last n (Held name launch j m state) t q = refl
held_last n (Committed j m state next) t q = absurd q
held_last n (Spawned d j r method revision command) t q = absurd q
held_last n (Emptied d) t q = absurd q
held_last n Boot t q = absurd q

emptied_spawned : (i run : ℕ) (x : Item) (t : List Item) → IsEmptied x → WasSpawned i run (x ∷ t) → WasSpawned i run t
emptied_spawned i run (Emptied c) t q w = w
emptied_spawned i run (Committed j n state next) t q w = absurd q
emptied_spawned i run (Held name launch j n state) t q w = absurd q
emptied_spawned i run (Spawned c j r method revision command) t q w = absurd q
emptied_spawned i run Boot t q w = absurd q

emptied_once : (x : Item) (t : List Item) → IsEmptied x → Once t → Once (x ∷ t)
emptied_once (Emptied d) t q o = o
emptied_once (Committed j n state next) t q o = absurd q
emptied_once (Held name launch j n state) t q o = absurd q
emptied_once (Spawned d j r method revision command) t q o = absurd q
emptied_once Boot t q o = absurd q

emptied_spawned_for : (c : ℕ) (x : Item) (t : List Item) → IsEmptied x → spawned_for c (x ∷ t) ≡ spawned_for c t
emptied_spawned_for c (Emptied d) t q = refl
emptied_spawned_for c (Committed j n state next) t q = absurd q
emptied_spawned_for c (Held name launch j n state) t q = absurd q
emptied_spawned_for c (Spawned d j r method revision command) t q = absurd q
emptied_spawned_for c Boot t q = absurd q

-- ---- rows

pub rows_live : (xs t : List Item) → Each IsRow xs → live_runs (noted xs t) ≡ live_runs t
rows_live xs t a = each_noted (λ u. live_runs u ≡ live_runs t) IsRow (λ x u q p. row_live x u q ∙ p) xs t a refl

pub rows_starts : (xs t : List Item) → Each IsRow xs → live_starts (noted xs t) ≡ live_starts t
rows_starts xs t a = each_noted (λ u. live_starts u ≡ live_starts t) IsRow (λ x u q p. row_starts x u q ∙ p) xs t a refl

pub rows_spawned : (i run : ℕ) (xs t : List Item) → Each IsRow xs → WasSpawned i run (noted xs t) → WasSpawned i run t
rows_spawned i run xs t a =
    each_noted (λ u. WasSpawned i run u → WasSpawned i run t) IsRow
    (λ x u q p w. p (row_spawned i run x u q w)) xs t a (λ w. w)

pub rows_spawned_for : (c : ℕ) (xs t : List Item) → Each IsRow xs → spawned_for c (noted xs t) ≡ spawned_for c t
rows_spawned_for c xs t a =
    each_noted (λ u. spawned_for c u ≡ spawned_for c t) IsRow (λ x u q p. row_spawned_for c x u q ∙ p) xs t a refl

pub rows_once : (xs t : List Item) → Each IsRow xs → Once t → Once (noted xs t)
rows_once xs t a o = each_noted Once IsRow row_once xs t a o

pub held_last_committed : (n : ℕ) (xs t : List Item) → Each IsHeld xs
    → last_committed n (noted xs t) ≡ last_committed n t
held_last_committed n xs t a =
    each_noted (λ u. last_committed n u ≡ last_committed n t) IsHeld (λ x u q p. held_last n x u q ∙ p) xs t a refl

-- ---- contracts that are emptied

pub emptied_each : (cs : List ℕ) → Each IsEmptied (map (λ (c : ℕ). Emptied c) cs)
emptied_each [] = tt
emptied_each (c ∷ cs) = (tt, emptied_each cs)

pub all_emptied_spawned : (i run : ℕ) (xs t : List Item) → Each IsEmptied xs → WasSpawned i run (noted xs t)
    → WasSpawned i run t
all_emptied_spawned i run xs t a =
    each_noted (λ u. WasSpawned i run u → WasSpawned i run t) IsEmptied
    (λ x u q p w. p (emptied_spawned i run x u q w)) xs t a (λ w. w)

pub all_emptied_once : (xs t : List Item) → Each IsEmptied xs → Once t → Once (noted xs t)
all_emptied_once xs t a o = each_noted Once IsEmptied emptied_once xs t a o

pub all_emptied_spawned_for : (c : ℕ) (xs t : List Item) → Each IsEmptied xs
    → spawned_for c (noted xs t) ≡ spawned_for c t
all_emptied_spawned_for c xs t a =
    each_noted (λ u. spawned_for c u ≡ spawned_for c t) IsEmptied
    (λ x u q p. emptied_spawned_for c x u q ∙ p) xs t a refl
