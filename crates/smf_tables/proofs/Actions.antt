-- The foreign keys of other tables spare the tables of a store. That of the instances has no action, and an action of
-- another one changes the rows of its own table alone.
use Rattle.std.proofs.Common.{◌≡◌, ◌≢◌, ◌⊎◌, inl, inr, ℕ, zero, suc, ◌+◌, ℤ, List, [], ◌∷◌, ◌++◌, length, Some, None, Ok, Err, Option, refl, sym, ap, subst, ◌∙◌, Bool, true, false, ◌&&◌, if◌then◌else◌, nat_lt}
use Rattle.std.specs.Prelude.{◌==◌, MatchBool}
use Rattle.std.specs.List.{AllByRecursion, list_any, flat_map, filter_map, cons_option}
use Rattle.sqlite.specs.Order.{Row}
use Rattle.sqlite.specs.Schema.{Schema}
use Rattle.sqlite.specs.Table.{Table}
use Rattle.sqlite.specs.Tree.{Trees}
use Rattle.sqlite_schema.specs.declared.schema.Constraint.TheVariants.{ForeignKey}
use Rattle.sqlite_schema.specs.declared.schema.Keys.TheVariants.{Enforced}
use Rattle.sqlite_schema.specs.declared.schema.Reference.{Reference}
use Rattle.sqlite_schema.specs.Rules.{ParentKey, parent_key}
use Rattle.sqlite_rules.specs.declared.action.Deed.{Deed}
use Rattle.sqlite_rules.specs.declared.error.Refusal.TheVariants.{Violates, TooDeep}
use Rattle.sqlite_rules.specs.Action.{ActsOn, AreChildren, End, Goes, Leads, Work, Writes, action_edit, deed_for, loses, max_depth, pairs, refuses, work_by, work_for, works}
use Rattle.sqlite_rules.specs.Edit.{Edit, are_fresh, edited, have_rowids, left_by, taken_by}
use Rattle.sqlite_rules.specs.Lists.{Has}
use Rattle.sqlite_rules.proofs.ListLemmas.{all_has}
use Rattle.smf_tables.specs.Layout.{to_service}

-- the table has the tree of none of these
abbrev pub IsApart : List Table → Table → Type 0
IsApart six u = AllByRecursion (λ t. t.tree ≢ u.tree) six

-- the table refers to none, or as the instances do, which has no action
abbrev pub IsQuiet : Table → Type 0
IsQuiet u = (u.references ≡ []) ⊎ (u.references ≡ to_service ∷ [])

-- a schema has these tables, and each other table has another tree
pub record HasSix (s : Schema) (six : List Table) : Type 0 where
  pub listed : (t : Table) → Has six t → Has s.tables t
  pub others : AllByRecursion (λ u. IsQuiet u ⊎ IsApart six u) s.tables

-- each of these actions changes such a table
abbrev AreAside : List Table → List Work → Type 0
AreAside six = AllByRecursion (λ (w : Work). IsApart six w.child)

all_joined : {X : Type 0} (P : X → Type 0) (xs ys : List X) → AllByRecursion P xs → AllByRecursion P ys
    → AllByRecursion P (xs ++ ys)
all_joined P [] ys a b = b
all_joined P (x ∷ xs) ys a b = (a.0, all_joined P xs ys a.1 b)

all_parted : {X : Type 0} (P : X → Type 0) (xs ys : List X) → AllByRecursion P (xs ++ ys)
    → AllByRecursion P xs × AllByRecursion P ys
all_parted P [] ys a = (tt, a)
all_parted P (x ∷ xs) ys a = let parts = all_parted P xs ys a.1 in ((a.0, parts.0), parts.1)

-- ---- the actions that an edit sets off

aside_by : (six : List Table) (depth tree : ℕ) (moves : List (Row × Row)) (child : Table) (ref : Reference)
    (deed : Option Deed) (key : Option ParentKey) (more : List Work) → IsApart six child → AreAside six more
    → AreAside six (cons_option (work_by depth tree moves child ref deed key) more)
aside_by six depth tree moves child ref None key more a m = m
aside_by six depth tree moves child ref (Some deed) None more a m = m
aside_by six depth tree moves child ref (Some deed) (Some key) more a m =
    by ((key.0 == tree) && list_any (loses key.2 key.1) moves)
  where
    by : (b : Bool) → AreAside six (cons_option (if b
        then Some (record {
          depth = depth;
          child = child;
          ref = ref;
          places = key.1;
          order = key.2;
          deed = deed;
          moves = moves;
        })
        else None) more)
    by true = (a, m)
    by false = m

-- a reference with no action sets off nothing
quiet_by : (depth tree : ℕ) (moves : List (Row × Row)) (child : Table) (b : Bool) (key : Option ParentKey)
    → work_by depth tree moves child to_service (deed_for Enforced b to_service) key ≡ None
quiet_by depth tree moves child true key = refl
quiet_by depth tree moves child false key = refl

module _ (s : Schema) (six : List Table) (has : HasSix s six) where
  module _ (depth tree : ℕ) (olds news : List Row) where
    of_child : (child : Table) → IsApart six child → (refs : List Reference)
        → AreAside six (filter_map (work_for s Enforced depth tree olds news child) refs)
    of_child child a [] = tt
    of_child child a (ref ∷ refs) =
        aside_by six depth tree (pairs olds news) child ref (deed_for Enforced (length news == 0) ref)
        (parent_key s.tables ref)
        (filter_map (work_for s Enforced depth tree olds news child) refs) a (of_child child a refs)

    of_quiet : (child : Table) → IsQuiet child
        → AreAside six (filter_map (work_for s Enforced depth tree olds news child) child.references)
    of_quiet child (inl none) =
        subst (λ refs. AreAside six (filter_map (work_for s Enforced depth tree olds news child) refs)) (sym none) tt
    of_quiet child (inr one) =
        let still : work_for s Enforced depth tree olds news child to_service ≡ None =
        quiet_by depth tree (pairs olds news) child (length news == 0) (parent_key s.tables to_service) in
        subst (λ refs. AreAside six (filter_map (work_for s Enforced depth tree olds news child) refs)) (sym one)
        (subst (λ o. AreAside six (cons_option o [])) (sym still) tt)

    of_one : (child : Table) → IsQuiet child ⊎ IsApart six child
        → AreAside six (filter_map (work_for s Enforced depth tree olds news child) child.references)
    of_one child (inl quiet) = of_quiet child quiet
    of_one child (inr apart) = of_child child apart child.references

    of_tables : (tables : List Table) → AllByRecursion (λ u. IsQuiet u ⊎ IsApart six u) tables
        → AreAside six
        (flat_map (λ child. filter_map (work_for s Enforced depth tree olds news child) child.references) tables)
    of_tables [] a = tt
    of_tables (child ∷ tables) a =
        all_joined (λ (w : Work). IsApart six w.child)
        (filter_map (work_for s Enforced depth tree olds news child) child.references)
        (flat_map
        (λ other. filter_map (work_for s Enforced depth tree olds news other) other.references) tables)
        (of_one child a.0) (of_tables tables a.1)

    are_aside : AreAside six (works s Enforced depth tree olds news)
    are_aside = of_tables s.tables has.others

  -- ---- they leave the rows of the six

  module _ (n : ℕ) (last : Trees) (t : Table) (there : Has six t) (more : (db : Trees) (stack : List Work) → AreAside six stack → Leads s Enforced n db stack (Ok last) → last t.tree ≡ db t.tree) (db : Trees) (w : Work) (below : List Work) (aside : IsApart six w.child) (others : AreAside six below) where
    goes : (ids : List ℤ)
        → Goes s Enforced (Leads s Enforced n) db (action_edit db w ids) (w.depth + 1) below
        (Ok last) → last t.tree ≡ db t.tree
    goes ids (inl refused) = absurd (let e = refused.2 in cc)
    goes ids (inr (inl big)) = absurd (let e = big.3 in cc)
    goes ids (inr (inr went)) =
        let edit = action_edit db w ids in
        more went.0 (below ++ works s Enforced (w.depth + 1) w.child.tree (taken_by db edit) edit.news)
        (all_joined (λ (x : Work). IsApart six x.child) below
        (works s Enforced (w.depth + 1) w.child.tree (taken_by db edit) edit.news) others
        (are_aside (w.depth + 1) w.child.tree (taken_by db edit) edit.news)) went.2
        ∙ all_has (λ u. u.tree ≢ w.child.tree → went.0 u.tree ≡ db u.tree) s.tables t went.1.tables
        (has.listed t there) (all_has (λ u. u.tree ≢ w.child.tree) six t aside there)

    refusing : (b : Bool) (ids : List ℤ)
        → MatchBool b (◌≡◌ {A = End} (Ok last) (Err (Some (Violates ForeignKey))))
        (Goes s Enforced (Leads s Enforced n) db (action_edit db w ids) (w.depth + 1) below
        (Ok last)) → last t.tree ≡ db t.tree
    refusing true ids h = absurd (let e = h in cc)
    refusing false ids h = goes ids h

    on : (ids : List ℤ)
        → ActsOn s Enforced (Leads s Enforced n) db w below (Ok last) ids
        → last t.tree ≡ db t.tree
    on [] h = more db below others h
    on (id ∷ ids) h = refusing (refuses w.deed) (id ∷ ids) h

    within : (b : Bool)
        → MatchBool b
        ((ids : List ℤ) × AreChildren db w ids
        × ActsOn s Enforced (Leads s Enforced n) db w below (Ok last) ids)
        (◌≡◌ {A = End} (Ok last) (Err (Some TooDeep))) → last t.tree ≡ db t.tree
    within true h = on h.0 h.2
    within false h = absurd (let e = h in cc)

  same_trees : (a b : Trees) → ◌≡◌ {A = End} (Ok a) (Ok b) → a ≡ b
  same_trees a b e = cc

  spared : (n : ℕ) (last : Trees) (t : Table) → Has six t → (db : Trees) (stack : List Work)
      → AreAside six stack → Leads s Enforced n db stack (Ok last) → last t.tree ≡ db t.tree
  spared zero last t there db stack aside h = ap (λ (d : Trees). d t.tree) (same_trees last db h.1)
  spared (suc n) last t there db stack aside h =
      let parts = all_parted (λ (x : Work). IsApart six x.child) h.0 (h.1 ∷ []) (subst (AreAside six) h.2 aside) in
      within n last t there (spared n last t there) db h.1 h.0 parts.1.0 parts.0 (nat_lt h.1.depth max_depth) h.3

-- what an edit of one of these tables leaves of them, with all that it sets off
pub record Settled (six : List Table) (db : Trees) (edit : Edit) (next : Trees) : Type 0 where
  pub keyed : have_rowids edit.news ≡ true
  pub fresh : are_fresh (left_by db edit) edit.news ≡ true
  pub rows : next edit.table.tree ≡ edited db edit
  pub tables : (t : Table) → Has six t → t.tree ≢ edit.table.tree → next t.tree ≡ db t.tree

pub settles : (s : Schema) (six : List Table) → HasSix s six → (db next : Trees) (edit : Edit)
    → Has six edit.table → Writes s Enforced db edit (Ok next) → Settled six db edit next
settles s six has db next edit there (inl refused) = absurd (let e = refused.2 in cc)
settles s six has db next edit there (inr (inl big)) = absurd (let e = big.3 in cc)
settles s six has db next edit there (inr (inr went)) =
    let stays : (t : Table) → Has six t → next t.tree ≡ went.0 t.tree = λ t among.
    spared s six has went.2.0 next t among went.0
    (works s Enforced 0 edit.table.tree (taken_by db edit) edit.news)
    (are_aside s six has 0 edit.table.tree (taken_by db edit) edit.news) went.2.1 in
    record {
      keyed = went.1.keyed;
      fresh = went.1.fresh;
      rows = stays edit.table there ∙ went.1.rows;
      tables = λ t among other.
          stays t among
          ∙ all_has (λ u. u.tree ≢ edit.table.tree → went.0 u.tree ≡ db u.tree) s.tables t went.1.tables
          (has.listed t among) other;
    }
