-- The places of members at what they name.
use Rattle.std.proofs.Common.{◌≡◌, ℕ, zero, suc, ◌+◌, ◌<◌, ◌≤◌, List, [], ◌∷◌, ◌++◌, length, take, drop, get_or, Bool, true, false, not, ◌||◌, ◌&&◌, if◌then◌else◌, Some, None, ◌⊎◌, inl, inr, refl, sym, ap, ◌∙◌, subst, arith, length-append}
use Rattle.std.specs.Prelude.{Vec, String, is_some, slice_get, slice_set}
use Rattle.std.specs.HashMap.{HashMap}
use Rattle.std.specs.Option.{option_map_or}
use Rattle.std.specs.Str.{bytes_eq}
use Rattle.std.proofs.lemmas.Bool.{cases_eq}
use Rattle.std.proofs.lemmas.List.{append-nil, append_assoc, drop_all, length-take-le, take_all, take_more}
use Rattle.smf_fmri.specs.Patterns.{instance_of, service_of}
use Rattle.smf_links.specs.Blockage.{IsOut}
use Rattle.smf_links.proofs.Work.{left_at, out_left, out_right}
use Rattle.smf_dep.specs.declared.index.Citers.{Citers}
use Rattle.smf_dep.specs.declared.member.GraphMember.{GraphMember}
use Rattle.smf_dep.specs.declared.relink.PlacedMember.{PlacedMember}
use Rattle.smf_dep.specs.Index.{AreCiters, Notes, NotesAt, any_for, citers_at, group_names, is_for, member_names}
use Rattle.smf_dep.specs.Names.{found_at}
use Rattle.smf_dep.specs.Updates.{with_placed}
use Rattle.smf_dep.proofs.Relinked.{placed_after}
use Rattle.smf_dep.proofs.Updates.{same_some, set_other}

-- ---- one place at one name

pub noted : {Y S : Type 0} (name : List ℕ) (at : ℕ) (m m' : HashMap (String Y) (Vec ℕ Y) S)
    → ((q : List ℕ) → found_at m' q ≡ (if bytes_eq q name then found_at m q ++ at ∷ [] else found_at m q))
    → NotesAt name at m m'
noted name at m m' put =
    record {
      stays = λ q a out. kept (bytes_eq q name) a (found_at m q) (found_at m' q) (put q) out;
      notes = λ q out. told (bytes_eq q name) (found_at m q) (found_at m' q) (put q) out;
    }
  where
    kept : (b : Bool) (a : ℕ) (old new : List ℕ) → new ≡ (if b then old ++ at ∷ [] else old) → IsOut a new
        → IsOut a old
    kept true a old new e out = let P : List ℕ → Type 0 = IsOut a in out_left a old (at ∷ []) (subst P e out)
    kept false a old new e out = let P : List ℕ → Type 0 = IsOut a in subst P e out

    told : (b : Bool) (old new : List ℕ) → new ≡ (if b then old ++ at ∷ [] else old) → IsOut at new → b ≡ false
    told true old new e out =
        let P : List ℕ → Type 0 = IsOut at in absurd ((out_right at old (at ∷ []) (subst P e out)).0 refl)
    told false old new e out = refl

-- ---- one place at what an entity stands for

pub noted_instance : (e : List ℕ) (at : ℕ) (c c' : Citers) → is_some (instance_of e) ≡ true
    → ((q : List ℕ) → found_at c'.services q ≡ found_at c.services q) → NotesAt e at c.instances c'.instances
    → Notes (is_for e) at c c'
noted_instance e at c c' is same h = record { stays = kept; notes = told }
  where
    kept : (b : Bool) (q : List ℕ) (a : ℕ) → IsOut a (citers_at c' b q) → IsOut a (citers_at c b q)
    kept true q a out = h.stays q a out
    kept false q a out = let P : List ℕ → Type 0 = IsOut a in subst P (same q) out

    told : (b : Bool) (q : List ℕ) → IsOut at (citers_at c' b q) → is_for e b q ≡ false
    told true q out = λ i. is i && h.notes q out i
    told false q out = λ i. not (is i) && bytes_eq q (service_of e)

pub noted_service : (e : List ℕ) (at : ℕ) (c c' : Citers) → is_some (instance_of e) ≡ false
    → ((q : List ℕ) → found_at c'.instances q ≡ found_at c.instances q)
    → NotesAt (service_of e) at c.services c'.services → Notes (is_for e) at c c'
noted_service e at c c' is same h = record { stays = kept; notes = told }
  where
    kept : (b : Bool) (q : List ℕ) (a : ℕ) → IsOut a (citers_at c' b q) → IsOut a (citers_at c b q)
    kept true q a out = let P : List ℕ → Type 0 = IsOut a in subst P (same q) out
    kept false q a out = h.stays q a out

    told : (b : Bool) (q : List ℕ) → IsOut at (citers_at c' b q) → is_for e b q ≡ false
    told true q out = λ i. is i && bytes_eq q e
    told false q out = λ i. not (is i) && h.notes q out i

-- ---- one after another

-- what is left to note leads to all
pub record Leads {X : Type 0} (f : X → Bool → List ℕ → Bool) (at : ℕ) (left all : List X) (old new : Citers)
    : Type 0 where
  pub stays : (b : Bool) (q : List ℕ) (a : ℕ) → IsOut a (citers_at new b q) → IsOut a (citers_at old b q)
  pub leads : (b : Bool) (q : List ℕ) → IsOut at (citers_at new b q) → any_for f left b q ≡ false
      → any_for f all b q ≡ false

pub leads_first : {X : Type 0} (f : X → Bool → List ℕ → Bool) (at : ℕ) (all : List X) (c : Citers)
    → Leads f at (drop 0 all) all c c
leads_first f at all c = record { stays = λ b q a out. out; leads = λ b q out none. none }

pub leads_more : {X : Type 0} (f : X → Bool → List ℕ → Bool) (at : ℕ) (all : List X) (i : ℕ) (x : X)
    (c c' c'' : Citers) → i < length all → x ≡ get_or all i x → Notes (f x) at c' c''
    → Leads f at (drop i all) all c c' → Leads f at (drop (i + 1) all) all c c''
leads_more f at all i x c c' c'' less is step h =
    record {
      stays = λ b q a out. h.stays b q a (step.stays b q a out);
      leads = λ b q out none.
          h.leads b q (step.stays b q at out)
          (ap (λ l. any_for f l b q) (left_at all i x less is) ∙ (λ j. step.notes b q out j || none j));
    }

pub leads_end : {X : Type 0} (f : X → Bool → List ℕ → Bool) (at : ℕ) (all : List X) (i : ℕ) (c c' : Citers)
    → length all ≤ i → Leads f at (drop i all) all c c' → Notes (any_for f all) at c c'
leads_end f at all i c c' le h =
    record {
      stays = h.stays;
      notes = λ b q out. h.leads b q out (ap (λ l. any_for f l b q) (drop_all i all le));
    }

-- a member that names nothing
pub none_named : (m : GraphMember) (at : ℕ) (c : Citers) → m.dependencies ≡ None → Notes (member_names m) at c c
none_named m at c none =
    record {
      stays = λ b q a out. out;
      notes = λ b q out. ap (λ o. option_map_or (λ ds. any_for group_names ds b q) o false) none;
    }

-- ---- members that come after others

got_pushed : (ks : List GraphMember) (x : GraphMember) (a : ℕ) (m : GraphMember)
    → slice_get (ks ++ x ∷ []) a ≡ Some m → (slice_get ks a ≡ Some m) ⊎ ((a ≡ length ks) × (x ≡ m))
got_pushed [] x zero m e = inr (refl, same_some x m e)
got_pushed [] x (suc a) m e = absurd cc
got_pushed (k ∷ ks) x zero m e = inl e
got_pushed (k ∷ ks) x (suc a) m e =
    elim (got_pushed ks x a m e) [
      | inl before ↦ inl before
      | inr last ↦ inr (ap suc last.0, last.1)
    ]

citers_pushed : (c c' : Citers) (ks : List GraphMember) (at : ℕ) (x : GraphMember) → at ≡ length ks
    → Notes (member_names x) at c c' → AreCiters c ks → AreCiters c' (ks ++ x ∷ [])
citers_pushed c c' ks at x last step h b q a m got out =
    elim (got_pushed ks x a m got) [
      | inl before ↦ h b q a m before (step.stays b q a out)
      | inr here ↦
          let P : ℕ → Type 0 = λ n. IsOut n (citers_at c' b q) in
          ap (λ (y : GraphMember). member_names y b q) (sym here.1)
          ∙ step.notes b q (subst P (here.0 ∙ sym last) out)
    ]

-- the first ones of several have come
abbrev pub HaveJoined : ℕ → ℕ → List GraphMember → Citers → Citers → Type 0
HaveJoined count i xs c c' =
    (ms : List GraphMember) → length ms ≡ count → AreCiters c ms → AreCiters c' (ms ++ take i xs)

pub none_joined : (count : ℕ) (xs : List GraphMember) (c : Citers) → HaveJoined count 0 xs c c
none_joined count xs c ms size h = let P : List GraphMember → Type 0 = AreCiters c in subst P (sym (append-nil ms)) h

pub joined_more : (count i place : ℕ) (xs : List GraphMember) (x : GraphMember) (c c' c'' : Citers) → i < length xs
    → x ≡ get_or xs i x → place ≡ count + i → Notes (member_names x) place c' c'' → HaveJoined count i xs c c'
    → HaveJoined count (i + 1) xs c c''
joined_more count i place xs x c c' c'' less is at step h ms size first =
    let P : List GraphMember → Type 0 = AreCiters c'' in
    let most : i ≤ length xs = omega arith in
    let taken = length-take-le i xs most in
    let sum = length-append ms (take i xs) in
    let last : place ≡ length (ms ++ take i xs) = omega (arith, taken, sum, size, at) in
    let whole : (ms ++ take i xs) ++ x ∷ [] ≡ ms ++ take (i + 1) xs =
    append_assoc ms (take i xs) (x ∷ [])
    ∙ ap (λ l. ms ++ l) (ap (λ y. take i xs ++ y ∷ []) is ∙ sym (take_more xs i x less)) in
    subst P whole (citers_pushed c' c'' (ms ++ take i xs) place x last step (h ms size first))

pub all_joined : (count i : ℕ) (xs : List GraphMember) (c c' : Citers) → length xs ≤ i → HaveJoined count i xs c c'
    → (ms : List GraphMember) → length ms ≡ count → AreCiters c ms → AreCiters c' (ms ++ xs)
all_joined count i xs c c' le h ms size first =
    let P : List GraphMember → Type 0 = λ l. AreCiters c' (ms ++ l) in subst P (take_all i xs le) (h ms size first)

-- ---- members in the places of others

got_set : (ks : List GraphMember) (p : ℕ) (x m : GraphMember) → slice_get (slice_set ks p x) p ≡ Some m → x ≡ m
got_set [] p x m e = absurd cc
got_set (k ∷ ks) zero x m e = same_some x m e
got_set (k ∷ ks) (suc p) x m e = got_set ks p x m e

citers_set : (c c' : Citers) (ks : List GraphMember) (at : ℕ) (x : GraphMember) → Notes (member_names x) at c c'
    → AreCiters c ks → AreCiters c' (slice_set ks at x)
citers_set c c' ks at x step h b q a m got out =
    elim (cases_eq at a) [
      | inl e ↦
          let P : ℕ → Type 0 = λ n. IsOut n (citers_at c' b q) in
          ap (λ (y : GraphMember). member_names y b q)
          (sym (got_set ks at x m (ap (slice_get (slice_set ks at x)) e ∙ got)))
          ∙ step.notes b q (subst P (sym e) out)
      | inr ne ↦ h b q a m (sym (set_other ks at a x ne) ∙ got) (step.stays b q a out)
    ]

-- the first ones of several have places
abbrev pub HaveTaken : ℕ → List PlacedMember → Citers → Citers → Type 0
HaveTaken i ps c c' = (ms : List GraphMember) → AreCiters c ms → AreCiters c' (with_placed (take i ps) ms)

pub taken_more : (i : ℕ) (ps : List PlacedMember) (p : PlacedMember) (c c' c'' : Citers) → i < length ps
    → p ≡ get_or ps i p → Notes (member_names p.member) p.place c' c'' → HaveTaken i ps c c'
    → HaveTaken (i + 1) ps c c''
taken_more i ps p c c' c'' less is step h ms first =
    let P : List GraphMember → Type 0 = AreCiters c'' in
    let whole : slice_set (with_placed (take i ps) ms) p.place p.member ≡ with_placed (take (i + 1) ps) ms =
    sym (placed_after (take i ps) p ms)
    ∙ ap (λ l. with_placed l ms) (ap (λ y. take i ps ++ y ∷ []) is ∙ sym (take_more ps i p less)) in
    subst P whole (citers_set c' c'' (with_placed (take i ps) ms) p.place p.member step (h ms first))

pub all_taken : (i : ℕ) (ps : List PlacedMember) (c c' : Citers) → length ps ≤ i → HaveTaken i ps c c'
    → (ms : List GraphMember) → AreCiters c ms → AreCiters c' (with_placed ps ms)
all_taken i ps c c' le h ms first =
    let P : List PlacedMember → Type 0 = λ l. AreCiters c' (with_placed l ms) in
    subst P (take_all i ps le) (h ms first)
