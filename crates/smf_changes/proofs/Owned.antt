-- Known facts of the owners of rows stay true after changes.
use Rattle.std.proofs.Common.{◌≡◌, ℕ, ◌==◌, ◌&&◌, ◌||◌, not, Bool, true, false, if◌then◌else◌, List, [], ◌∷◌, ◌++◌, Option, Some, None, option_map, refl, sym, ap, ◌∙◌, subst}
use Rattle.std.specs.Prelude.{IfSome, nat_eq}
use Rattle.std.specs.Cmp.Lexicographic.{pointwise}
use Rattle.std.specs.List.{AllByRecursion}
use Rattle.std.proofs.lemmas.Cmp.{nat_list_eq_equiv}
use Rattle.std.proofs.lemmas.List.Folds.{list_any-append}
use Rattle.smf_state.specs.declared.row.Row.{Row}
use Rattle.smf_model.specs.declared.change.Change.{Change}
use Rattle.smf_model.specs.declared.change.Change.TheVariants.{AddService, DropService, AddInstance, PutInstance, DropInstance, PutName, DropName, PutGroups, AddSnapshot, DropSnapshots, PutLaunch, NextInstance, NextSnapshot, SetRevision}
use Rattle.smf_model.specs.declared.held.Instance.{Instance}
use Rattle.smf_model.specs.declared.held.InstanceEntry.{InstanceEntry}
use Rattle.smf_model.specs.declared.held.Owner.TheVariants as owners
use Rattle.smf_model.specs.Contents.{Holdings}
use Rattle.smf_model.specs.Look.{holdings_after_change, groups_of, holdings_after_changes, with_instance}
use Rattle.smf_model.specs.GeneralGroup.{Groups, current, owned_by_setting, setting}
use Rattle.smf_changes.specs.declared.change_record.Kept.{Kept}
use Rattle.smf_changes.specs.declared.row_owners.Owners.{Owners}
use Rattle.smf_changes.specs.ChangeRecord.{IsKept}
use Rattle.smf_changes.specs.Owned.{AreAmong, AreNumbered, AreOwned, AreTold, HasOwnersAmong, are_numbered, has_number, is_among, owners_of, put_row, puts_numbered, puts_numbered_all, with_owner, with_owner_put, with_owners_put}
use Rattle.smf_changes.proofs.SnapshotBounds.{amend_keeps, put_keeps, without_keeps}

-- ---- tests

or_left : (a b : Bool) → a ≡ true → (a || b) ≡ true
or_left true b e = refl
or_left false b e = cc

or_right : (a b : Bool) → b ≡ true → (a || b) ≡ true
or_right true b e = refl
or_right false b e = e

both : (a b : Bool) → (a && b) ≡ true → (a ≡ true) × (b ≡ true)
both true true e = (refl, refl)
both true false e = cc
both false b e = cc

-- ---- names

abbrev Grows : List (List ℕ) → List (List ℕ) → Type 0
Grows xs ys = (owner : List ℕ) → is_among xs owner ≡ true → is_among ys owner ≡ true

test_of : List ℕ → List ℕ → Bool
test_of owner name = pointwise nat_eq name owner

with_grows : (names : List (List ℕ)) (owner : List ℕ) → Grows names (with_owner names owner)
with_grows names owner = by (is_among names owner)
  where
    by : (b : Bool) → Grows names (if b then names else names ++ owner ∷ [])
    by true = λ o e. e
    by false = λ o e. list_any-append (λ name. pointwise nat_eq name o) names (owner ∷ []) ∙ or_left _ _ e

itself : (owner : List ℕ) → is_among (owner ∷ []) owner ≡ true
itself owner = ap (λ (b : Bool). b || false) (nat_list_eq_equiv.refl owner)

with_has : (names : List (List ℕ)) (owner : List ℕ) → is_among (with_owner names owner) owner ≡ true
with_has names owner = by (is_among names owner) refl
  where
    by : (b : Bool) → is_among names owner ≡ b → is_among (if b then names else names ++ owner ∷ []) owner ≡ true
    by true is = is
    by false is = list_any-append (λ name. pointwise nat_eq name owner) names (owner ∷ []) ∙ or_right _ _ (itself owner)

owners_grow : (names : List (List ℕ)) (es : List InstanceEntry) → Grows names (owners_of names es)
owners_grow names [] o is = is
owners_grow names (e ∷ es) o is =
    owners_grow (with_owner names e.instance.row.owner) es o (with_grows names e.instance.row.owner o is)

owners_are : (names : List (List ℕ)) (es : List InstanceEntry) → AreAmong (owners_of names es) es
owners_are names [] = tt
owners_are names (e ∷ es) =
    let next : List (List ℕ) = with_owner names e.instance.row.owner in
    (owners_grow next es e.instance.row.owner (with_has names e.instance.row.owner), owners_are next es)

pub owned_found : (names : List (List ℕ)) (es : List InstanceEntry) → names ≡ owners_of [] es → AreOwned (Some names) es
owned_found names es is = subst (λ (xs : List (List ℕ)). AreAmong xs es) (sym is) (owners_are [] es)

among_more : (xs ys : List (List ℕ)) (es : List InstanceEntry) → Grows xs ys → AreAmong xs es → AreAmong ys es
among_more xs ys [] g a = tt
among_more xs ys (e ∷ es) g a = (g e.instance.row.owner a.0, among_more xs ys es g a.1)

-- ---- changes

abbrev Puts : (Row → Type 0) → List Change → Type 0
Puts Q cs = AllByRecursion (λ c. IfSome (put_row c) Q) cs

abbrev Every : (Row → Type 0) → List InstanceEntry → Type 0
Every Q es = AllByRecursion (λ e. Q e.instance.row) es

change_keeps : (Q : Row → Type 0) (h : Holdings) (c : Change) → IfSome (put_row c) Q → Every Q h.instances
    → Every Q (holdings_after_change h c).instances
change_keeps Q h (AddInstance e) p f = put_keeps (λ z. Q z.instance.row) e h.instances p f
change_keeps Q h (PutInstance i) p f =
    amend_keeps (λ z. Q z.instance.row) i.number (with_instance i) h.instances (λ e was. p) f
change_keeps Q h (DropInstance n) p f = without_keeps (λ z. Q z.instance.row) n h.instances f
change_keeps Q h (PutGroups (owners.Instance n) gs) p f =
    amend_keeps (λ z. Q z.instance.row) n (λ e. record e { groups = gs }) h.instances (λ e was. was) f
change_keeps Q h (PutGroups (owners.Service name) gs) p f = f
change_keeps Q h (AddService s) p f = f
change_keeps Q h (DropService name) p f = f
change_keeps Q h (PutName z) p f = f
change_keeps Q h (DropName name) p f = f
change_keeps Q h (AddSnapshot s) p f = f
change_keeps Q h (DropSnapshots n) p f = f
change_keeps Q h (PutLaunch l) p f = f
change_keeps Q h (NextInstance n) p f = f
change_keeps Q h (NextSnapshot n) p f = f
change_keeps Q h (SetRevision n) p f = f

changes_keep : (Q : Row → Type 0) (h : Holdings) (cs : List Change) → Puts Q cs → Every Q h.instances
    → Every Q (holdings_after_changes h cs).instances
unfolding holdings_after_changes
changes_keep Q h [] p f = f
changes_keep Q h (c ∷ cs) p f = changes_keep Q (holdings_after_change h c) cs p.1 (change_keeps Q h c p.0 f)

-- ---- owners that changes put

put_grows : (names : List (List ℕ)) (o : Option Row) → Grows names (with_owner_put names o)
put_grows names None = λ o is. is
put_grows names (Some row) = with_grows names row.owner

puts_grow : (names : List (List ℕ)) (cs : List Change) → Grows names (with_owners_put names cs)
puts_grow names [] o is = is
puts_grow names (c ∷ cs) o is = puts_grow (with_owner_put names (put_row c)) cs o (put_grows names (put_row c) o is)

put_has : (names all : List (List ℕ)) (o : Option Row) → Grows (with_owner_put names o) all
    → IfSome o (λ row. is_among all row.owner ≡ true)
put_has names all None g = tt
put_has names all (Some row) g = g row.owner (with_has names row.owner)

puts_have : (names : List (List ℕ)) (cs : List Change)
    → Puts (λ row. is_among (with_owners_put names cs) row.owner ≡ true) cs
puts_have names [] = tt
puts_have names (c ∷ cs) =
    let next : List (List ℕ) = with_owner_put names (put_row c) in
    (put_has names (with_owners_put next cs) (put_row c) (puts_grow next cs), puts_have next cs)

-- the names after changes are given only if there were names
abbrev pub IsAfter : List Change → Option (List (List ℕ)) → Option (List (List ℕ)) → Type 0
IsAfter cs names after = IfSome after (λ all. option_map (λ before. with_owners_put before cs) names ≡ Some all)

owned_before : (cs : List Change) (names after : Option (List (List ℕ))) (es : List InstanceEntry)
    → IsAfter cs names after → AreOwned names es → AreOwned after es
owned_before cs names None es is f = tt
owned_before cs None (Some all) es is f = cc
owned_before cs (Some before) (Some all) es is f =
    subst (λ (o : Option (List (List ℕ))). AreOwned o es) is
    (among_more before (with_owners_put before cs) es (puts_grow before cs) f)

owned_then : (cs : List Change) (names after : Option (List (List ℕ))) (h : Holdings) → IsAfter cs names after
    → AreOwned names h.instances → AreOwned after (holdings_after_changes h cs).instances
owned_then cs names None h is f = tt
owned_then cs None (Some all) h is f = cc
owned_then cs (Some before) (Some all) h is f =
    let names : List (List ℕ) = with_owners_put before cs in
    subst (λ (o : Option (List (List ℕ))). AreOwned o (holdings_after_changes h cs).instances) is
    (changes_keep (λ row. is_among names row.owner ≡ true) h cs (puts_have before cs)
    (among_more before names h.instances (puts_grow before cs) f))

-- ---- numbers that changes put

put_numbered : (all : Bool) (o : Option Row) → puts_numbered all o ≡ true
    → (all ≡ true) × IfSome o (λ row. has_number row ≡ true)
put_numbered all None e = (e, tt)
put_numbered all (Some row) e = both all (has_number row) e

puts_numbers : (all : Bool) (cs : List Change) → puts_numbered_all all cs ≡ true
    → (all ≡ true) × Puts (λ row. has_number row ≡ true) cs
puts_numbers all [] e = (e, tt)
puts_numbers all (c ∷ cs) e =
    let rest = puts_numbers (puts_numbered all (put_row c)) cs e in
    let one = put_numbered all (put_row c) rest.0 in
    (one.0, (one.1, rest.1))

-- ---- what is noted and found

abbrev told_as : Option (List (List ℕ)) → Bool → Owners
told_as names all = record { names = names; all_numbered = all }

pub noted_before : (o : Owners) (names : Option (List (List ℕ))) (all : Bool) (cs : List Change)
    → all ≡ puts_numbered_all o.all_numbered cs → IsAfter cs o.names names
    → (es : List InstanceEntry) → AreTold o es → AreTold (told_as names all) es
noted_before o names all cs numbers after es told = record {
  owned = owned_before cs o.names names es after told.owned;
  numbered = λ e. told.numbered (puts_numbers o.all_numbered cs (sym numbers ∙ e)).0;
}

pub noted_then : (o : Owners) (names : Option (List (List ℕ))) (all : Bool) (cs : List Change)
    → all ≡ puts_numbered_all o.all_numbered cs → IsAfter cs o.names names
    → (h : Holdings) → AreTold o h.instances → AreTold (told_as names all) (holdings_after_changes h cs).instances
noted_then o names all cs numbers after h told = record {
  owned = owned_then cs o.names names h after told.owned;
  numbered = λ e.
      let each = puts_numbers o.all_numbered cs (sym numbers ∙ e) in
      changes_keep (λ row. has_number row ≡ true) h cs each.1 (told.numbered each.0);
}

numbers_pass : (es : List InstanceEntry) → are_numbered es ≡ true → AreNumbered es
numbers_pass [] e = tt
numbers_pass (x ∷ es) e = let two = both (has_number x.instance.row) (are_numbered es) e in
    (two.0, numbers_pass es two.1)

known_or : (known : Bool) (es : List InstanceEntry) → (known ≡ true → AreNumbered es)
    → (known || are_numbered es) ≡ true → AreNumbered es
known_or true es f e = f refl
known_or false es f e = numbers_pass es e

pub told_found : (o : Owners) (names : Option (List (List ℕ))) (all : Bool) (es : List InstanceEntry)
    → (AreOwned o.names es → AreOwned names es) → all ≡ (o.all_numbered || are_numbered es)
    → AreTold o es → AreTold (told_as names all) es
told_found o names all es found numbers told = record {
  owned = found told.owned;
  numbered = λ e. known_or o.all_numbered es told.numbered (sym numbers ∙ e);
}

pub kept_with : (k : Kept) (h : Holdings) (o : Owners) → AreTold o h.instances → IsKept k h
    → IsKept (record k { owners = o }) h
kept_with k h o told kept = record { few = kept.few; shown = kept.shown; runs = kept.runs; told = told }

-- ---- owners as they are read

as_it_is : (gs : Groups) (i : Instance) → has_number i.row ≡ true → current gs i ≡ i
unfolding current
as_it_is gs i e = by (i.row.number == 0) e
  where
    by : (b : Bool) → not b ≡ true → owned_by_setting b (setting gs i) i ≡ i
    by true e = cc
    by false e = refl

owners_read : (names : List (List ℕ)) (gs : Groups) (es : List InstanceEntry) → AreAmong names es → AreNumbered es
    → AllByRecursion (λ e. is_among names (current gs e.instance).row.owner ≡ true) es
owners_read names gs [] a f = tt
owners_read names gs (e ∷ es) a f = (
  ap (λ (i : Instance). is_among names i.row.owner) (as_it_is gs e.instance f.0) ∙ a.0,
  owners_read names gs es a.1 f.1,
)

pub has_owners : (o : Owners) (h : Holdings) (names : Option (List (List ℕ)))
    → IfSome names (λ all. o.names ≡ Some all) → IfSome names (λ all. o.all_numbered ≡ true) → AreTold o h.instances
    → IfSome names (λ all. HasOwnersAmong all h)
has_owners o h None is numbers told = tt
has_owners o h (Some all) is numbers told =
    owners_read all (groups_of h) h.instances
    (subst (λ (n : Option (List (List ℕ))). AreOwned n h.instances) is told.owned) (told.numbered numbers)
