-- Dependency groups ask by their words.
use Rattle.std.proofs.Common.{◌≡◌, ◌⊎◌, inl, inr, ℕ, List, [], ◌∷◌, Bool, true, false, cond, Option, Some, None, Result, Ok, Err, refl, ap, ◌∙◌, subst}
use Rattle.std.specs.Cmp.Lexicographic.{pointwise}
use Rattle.std.specs.List.{AllZip}
use Rattle.std.specs.Prelude.{codes, nat_eq}
use Rattle.smf_fmri.specs.declared.fault.FmriFault.{FmriFault}
use Rattle.smf_fmri.specs.Name.{name_of_text}
use Rattle.smf_fmri.specs.Grammar.{Spells}
use Rattle.smf_fmri.proofs.Patterns.{same_text}
use Rattle.smf_fmri.proofs.Whole.{read_is_spelled, spelled_is_read}
use Rattle.smf_value.specs.declared.kind.Kind.{Kind}
use Rattle.smf_value.specs.declared.kind.Kind.TheVariants as kinds
use Rattle.smf_value.specs.declared.value.Value.{Value}
use Rattle.smf_value.specs.declared.value.Value.TheVariants.{Boolean, Count, Integer, Time, Astring, Ustring, Fmri}
use Rattle.smf_value.specs.Groups.{GroupRecord, PropertyRecord, property_of, text_in, text_of}
use Rattle.smf_links.specs.declared.grouping.Grouping.{Grouping}
use Rattle.smf_links.specs.declared.grouping.Grouping.TheVariants.{RequireAll, RequireAny, OptionalAll, ExcludeAll}
use Rattle.smf_links.specs.declared.grouping.RestartOn.{RestartOn}
use Rattle.smf_links.specs.declared.grouping.RestartOn.TheVariants as restarts
use Rattle.smf_dep.specs.declared.dependency.Dependency.{Dependency}
use Rattle.smf_dep.specs.declared.fault.DependencyFault.{DependencyFault}
use Rattle.smf_dep.specs.declared.fault.DependencyFault.TheVariants.{BadGrouping, BadRestartOn, PathType, BadEntity}
use Rattle.smf_dep.specs.Requirements.{◌>>=◌, before, dependency_of, entities_by, entities_in, entities_of, entity_of, value_or_fault, grouping_in, is_dependency, is_of_names, is_of_services, is_service_text, name_or_bad_entity, of_services, read_groups, restart_in, with_group}
use Rattle.smf_meaning.specs.Asked.{AreEntities, AskAll, Asks, HasEntities, HasGrouping, HasRestartOn, IsDependency, IsFirstUnread, IsOfNames, IsOfServices, IsUnread, NamesEntity, None_asks, One_asks, Passed_over, grouping_word, restart_word}

-- ---- words

grouping_tests : (a b c d : Bool) (text : List ℕ) (x : Grouping) → pointwise nat_eq text (codes "require_all") ≡ a
    → pointwise nat_eq text (codes "require_any") ≡ b
    → pointwise nat_eq text (codes "optional_all") ≡ c → pointwise nat_eq text (codes "exclude_all") ≡ d
    → cond a (Some RequireAll) (cond b (Some RequireAny) (cond c (Some OptionalAll) (cond d (Some ExcludeAll) None)))
    ≡ Some x → text ≡ grouping_word x
grouping_tests true b c d text x e f g h is = (same_text text (codes "require_all")).0 e
    ∙ ap grouping_word (let s : RequireAll ≡ x = cc in s)
grouping_tests false true c d text x e f g h is = (same_text text (codes "require_any")).0 f
    ∙ ap grouping_word (let s : RequireAny ≡ x = cc in s)
grouping_tests false false true d text x e f g h is =
    (same_text text (codes "optional_all")).0 g ∙ ap grouping_word (let s : OptionalAll ≡ x = cc in s)
grouping_tests false false false true text x e f g h is =
    (same_text text (codes "exclude_all")).0 h ∙ ap grouping_word (let s : ExcludeAll ≡ x = cc in s)
grouping_tests false false false false text x e f g h is = absurd cc

grouping_said : (o : Option (List ℕ)) (x : Grouping) → grouping_in o ≡ Some x → o ≡ Some (grouping_word x)
grouping_said None x e = absurd cc
grouping_said (Some text) x e = ap Some (grouping_tests _ _ _ _ text x refl refl refl refl e)

grouping_again : (x : Grouping) → grouping_in (Some (grouping_word x)) ≡ Some x
grouping_again RequireAll = refl
grouping_again RequireAny = refl
grouping_again OptionalAll = refl
grouping_again ExcludeAll = refl

restart_tests : (a b c d : Bool) (text : List ℕ) (x : RestartOn) → pointwise nat_eq text (codes "none") ≡ a
    → pointwise nat_eq text (codes "error") ≡ b
    → pointwise nat_eq text (codes "restart") ≡ c → pointwise nat_eq text (codes "refresh") ≡ d
    → cond a (Some restarts.Nothing)
    (cond b (Some restarts.Error) (cond c (Some restarts.Restart) (cond d (Some restarts.Refresh) None))) ≡ Some x
    → text ≡ restart_word x
restart_tests true b c d text x e f g h is = (same_text text (codes "none")).0 e
    ∙ ap restart_word (let s : restarts.Nothing ≡ x = cc in s)
restart_tests false true c d text x e f g h is = (same_text text (codes "error")).0 f
    ∙ ap restart_word (let s : restarts.Error ≡ x = cc in s)
restart_tests false false true d text x e f g h is =
    (same_text text (codes "restart")).0 g ∙ ap restart_word (let s : restarts.Restart ≡ x = cc in s)
restart_tests false false false true text x e f g h is =
    (same_text text (codes "refresh")).0 h ∙ ap restart_word (let s : restarts.Refresh ≡ x = cc in s)
restart_tests false false false false text x e f g h is = absurd cc

restart_said : (o : Option (List ℕ)) (x : RestartOn) → restart_in o ≡ Some x → o ≡ Some (restart_word x)
restart_said None x e = absurd cc
restart_said (Some text) x e = ap Some (restart_tests _ _ _ _ text x refl refl refl refl e)

restart_again : (x : RestartOn) → restart_in (Some (restart_word x)) ≡ Some x
restart_again restarts.Nothing = refl
restart_again restarts.Error = refl
restart_again restarts.Restart = refl
restart_again restarts.Refresh = refl

-- `type`
service_said : (t : Option (List ℕ)) → is_service_text t ≡ true → t ≡ Some (codes "service")
service_said None e = absurd cc
service_said (Some text) e = ap Some ((same_text text (codes "service")).0 e)

services_said : (o : Option PropertyRecord) → is_of_services o ≡ true
    → (o ≡ None) ⊎ (text_in o ≡ Some (codes "service"))
services_said None e = inl refl
services_said (Some p) e = inr (service_said (text_of p.values) e)

services_again : (o : Option PropertyRecord) → (o ≡ None) ⊎ (text_in o ≡ Some (codes "service"))
    → is_of_services o ≡ true
services_again None s = refl
services_again (Some p) (inl e) = absurd cc
services_again (Some p) (inr e) = ap is_service_text e

-- ---- entities

ok_is : {A : Type 0} (x y : A) → ◌≡◌ {A = Result A DependencyFault} (Ok x) (Ok y) → x ≡ y
ok_is x y e = cc

err_is : {A : Type 0} (x y : DependencyFault) → ◌≡◌ {A = Result A DependencyFault} (Err x) (Err y) → x ≡ y
err_is x y e = cc

named_said : (r : Result (List ℕ) FmriFault) (text entity : List ℕ) → name_of_text text ≡ r
    → name_or_bad_entity r ≡ Ok entity → Spells text entity
named_said (Ok name) text entity e h = read_is_spelled text entity (e ∙ ap Ok (ok_is name entity h))
named_said (Err fault) text entity e h = absurd cc

entity_said : (v : Value) (entity : List ℕ) → entity_of v ≡ Ok entity → NamesEntity v entity
entity_said (Boolean b) entity e = absurd cc
entity_said (Count n) entity e = absurd cc
entity_said (Integer z) entity e = absurd cc
entity_said (Time t) entity e = absurd cc
entity_said (Astring text) entity e = named_said (name_of_text text) text entity refl e
entity_said (Ustring text) entity e = absurd cc
entity_said (Fmri name) entity e = ok_is name entity e

entity_again : (v : Value) (entity : List ℕ) → NamesEntity v entity → entity_of v ≡ Ok entity
entity_again (Boolean b) entity h = absurd h
entity_again (Count n) entity h = absurd h
entity_again (Integer z) entity h = absurd h
entity_again (Time t) entity h = absurd h
entity_again (Astring text) entity h = ap name_or_bad_entity (spelled_is_read text entity h)
entity_again (Ustring text) entity h = absurd h
entity_again (Fmri name) entity h = ap Ok h

named_fault : (r : Result (List ℕ) FmriFault) (fault : DependencyFault) → name_or_bad_entity r ≡ Err fault
    → BadEntity ≡ fault
named_fault (Ok name) fault e = absurd cc
named_fault (Err f) fault e = err_is {A = List ℕ} BadEntity fault e

entity_fault : (v : Value) (fault : DependencyFault) → entity_of v ≡ Err fault → BadEntity ≡ fault
entity_fault (Boolean b) fault e = err_is {A = List ℕ} BadEntity fault e
entity_fault (Count n) fault e = err_is {A = List ℕ} BadEntity fault e
entity_fault (Integer z) fault e = err_is {A = List ℕ} BadEntity fault e
entity_fault (Time t) fault e = err_is {A = List ℕ} BadEntity fault e
entity_fault (Astring text) fault e = named_fault (name_of_text text) fault e
entity_fault (Ustring text) fault e = err_is {A = List ℕ} BadEntity fault e
entity_fault (Fmri name) fault e = absurd cc

-- two, one after another
before_ok : {X : Type 0} (r : Result X DependencyFault) (others : Result (List X) DependencyFault) (ys : List X)
    → before r others ≡ Ok ys
    → (x : X) × (xs : List X) × (r ≡ Ok x) × (others ≡ Ok xs) × (x ∷ xs ≡ ys)
before_ok (Ok x) (Ok xs) ys e = (x, xs, refl, refl, ok_is (x ∷ xs) ys e)
before_ok (Ok x) (Err fault) ys e = absurd cc
before_ok (Err fault) others ys e = absurd cc

before_err : {X : Type 0} (r : Result X DependencyFault) (others : Result (List X) DependencyFault)
    (fault : DependencyFault) → before r others ≡ Err fault
    → (r ≡ Err fault) ⊎ ((x : X) × (r ≡ Ok x) × (others ≡ Err fault))
before_err {X = X} (Ok x) (Ok xs) fault e = absurd cc
before_err {X = X} (Ok x) (Err f) fault e = inr (x, refl, ap Err (err_is {A = List X} f fault e))
before_err {X = X} (Err f) others fault e = inl (ap Err (err_is {A = List X} f fault e))

entities_said : (vs : List Value) (es : List (List ℕ)) → entities_of vs ≡ Ok es → AllZip NamesEntity vs es
unfolding entities_of
entities_said [] es e = subst (AllZip NamesEntity []) (ok_is [] es e) tt
entities_said (v ∷ vs) es e =
    let b = before_ok (entity_of v) (entities_of vs) es e in
    subst (AllZip NamesEntity (v ∷ vs)) b.4 (entity_said v b.0 b.2, entities_said vs b.1 b.3)

entities_again : (vs : List Value) (es : List (List ℕ)) → AllZip NamesEntity vs es → entities_of vs ≡ Ok es
unfolding entities_of
entities_again [] [] h = refl
entities_again [] (x ∷ xs) h = absurd h
entities_again (v ∷ vs) [] h = absurd h
entities_again (v ∷ vs) (x ∷ xs) h = λ i. before (entity_again v x h.0 i) (entities_again vs xs h.1 i)

entities_fault : (vs : List Value) (fault : DependencyFault) → entities_of vs ≡ Err fault → BadEntity ≡ fault
unfolding entities_of
entities_fault [] fault e = absurd cc
entities_fault (v ∷ vs) fault e = by (before_err (entity_of v) (entities_of vs) fault e) (entities_fault vs fault)
  where
    by : (entity_of v ≡ Err fault) ⊎ ((x : List ℕ) × (entity_of v ≡ Ok x) × (entities_of vs ≡ Err fault))
        → (entities_of vs ≡ Err fault → BadEntity ≡ fault)
        → BadEntity ≡ fault
    by (inl first) more = entity_fault v fault first
    by (inr rest) more = more rest.2

names_said : (k : Kind) → is_of_names k ≡ true → IsOfNames k
names_said kinds.Boolean e = absurd cc
names_said kinds.Count e = absurd cc
names_said kinds.Integer e = absurd cc
names_said kinds.Time e = absurd cc
names_said kinds.Astring e = inr refl
names_said kinds.Ustring e = absurd cc
names_said kinds.Fmri e = inl refl

names_again : (k : Kind) → IsOfNames k → is_of_names k ≡ true
names_again k (inl e) = ap is_of_names e
names_again k (inr e) = ap is_of_names e

by_said : (b : Bool) (p : PropertyRecord) (es : List (List ℕ)) → is_of_names p.kind ≡ b
    → entities_by b p.values ≡ Ok es → AreEntities (Some p) es
by_said true p es k e = (names_said p.kind k, entities_said p.values es e)
by_said false p es k e = absurd cc

entities_in_said : (o : Option PropertyRecord) (es : List (List ℕ)) → entities_in o ≡ Ok es → AreEntities o es
entities_in_said None es e = ok_is [] es e
entities_in_said (Some p) es e = by_said (is_of_names p.kind) p es refl e

entities_in_again : (o : Option PropertyRecord) (es : List (List ℕ)) → AreEntities o es → entities_in o ≡ Ok es
entities_in_again None es h = ap Ok h
entities_in_again (Some p) es h = ap (λ b. entities_by b p.values) (names_again p.kind h.0)
    ∙ entities_again p.values es h.1

by_fault : (b : Bool) (vs : List Value) (fault : DependencyFault) → entities_by b vs ≡ Err fault → BadEntity ≡ fault
by_fault true vs fault e = entities_fault vs fault e
by_fault false vs fault e = err_is {A = List (List ℕ)} BadEntity fault e

entities_in_fault : (o : Option PropertyRecord) (fault : DependencyFault) → entities_in o ≡ Err fault
    → BadEntity ≡ fault
entities_in_fault None fault e = absurd cc
entities_in_fault (Some p) fault e = by_fault (is_of_names p.kind) p.values fault e

-- ---- a group

abbrev reading : Option Grouping → Option RestartOn → Bool → Result (List (List ℕ)) DependencyFault
    → Result Dependency DependencyFault
reading o r s es = do
  grouping ← value_or_fault BadGrouping o
  restart_on ← value_or_fault BadRestartOn r
  services ← of_services s
  entities ← es
  Ok (record { grouping = grouping; restart_on = restart_on; entities = entities })

abbrev grouping_at : GroupRecord → Option Grouping
grouping_at g = grouping_in (text_in (property_of (codes "grouping") g))

abbrev restart_at : GroupRecord → Option RestartOn
restart_at g = restart_in (text_in (property_of (codes "restart_on") g))

abbrev services_at : GroupRecord → Bool
services_at g = is_of_services (property_of (codes "type") g)

abbrev entities_at : GroupRecord → Result (List (List ℕ)) DependencyFault
entities_at g = entities_in (property_of (codes "entities") g)

asks_by : (o : Option Grouping) (r : Option RestartOn) (s : Bool) (es : Result (List (List ℕ)) DependencyFault)
    (g : GroupRecord) (d : Dependency)
    → grouping_at g ≡ o → restart_at g ≡ r → services_at g ≡ s → entities_at g ≡ es → reading o r s es ≡ Ok d → Asks g d
asks_by None r s es g d a b c e h = absurd cc
asks_by (Some x) None s es g d a b c e h = absurd cc
asks_by (Some x) (Some y) false es g d a b c e h = absurd cc
asks_by (Some x) (Some y) true (Err f) g d a b c e h = absurd cc
asks_by (Some x) (Some y) true (Ok es) g d a b c e h =
    let made : Dependency = record { grouping = x; restart_on = y; entities = es } in
    let asks : Asks g made = record {
      grouping = grouping_said (text_in (property_of (codes "grouping") g)) x a;
      restart_on = restart_said (text_in (property_of (codes "restart_on") g)) y b;
      services = services_said (property_of (codes "type") g) c;
      entities = entities_in_said (property_of (codes "entities") g) es e;
    } in
    subst (Asks g) (ok_is made d h) asks

asks : (g : GroupRecord) (d : Dependency) → dependency_of g ≡ Ok d → Asks g d
unfolding dependency_of
asks g d e = asks_by (grouping_at g) (restart_at g) (services_at g) (entities_at g) g d refl refl refl refl e

asked : (g : GroupRecord) (d : Dependency) → Asks g d → dependency_of g ≡ Ok d
unfolding dependency_of
asked g d h =
    let a : grouping_at g ≡ Some d.grouping = ap grouping_in h.grouping ∙ grouping_again d.grouping in
    let b : restart_at g ≡ Some d.restart_on = ap restart_in h.restart_on ∙ restart_again d.restart_on in
    let c : services_at g ≡ true = services_again (property_of (codes "type") g) h.services in
    let e : entities_at g ≡ Ok d.entities =
    entities_in_again (property_of (codes "entities") g) d.entities h.entities in
    λ i. reading (a i) (b i) (c i) (e i)

no_grouping : (g : GroupRecord) → grouping_at g ≡ None → HasGrouping g → ⊥
no_grouping g e h = let some : grouping_at g ≡ Some h.0 = ap grouping_in h.1 ∙ grouping_again h.0 in cc

no_restart : (g : GroupRecord) → restart_at g ≡ None → HasRestartOn g → ⊥
no_restart g e h = let some : restart_at g ≡ Some h.0 = ap restart_in h.1 ∙ restart_again h.0 in cc

no_services : (g : GroupRecord) → services_at g ≡ false → IsOfServices g → ⊥
no_services g e h = let yes_of : services_at g ≡ true = services_again (property_of (codes "type") g) h in cc

no_entities : (g : GroupRecord) (fault : DependencyFault) → entities_at g ≡ Err fault → (es : List (List ℕ))
    → HasEntities g es → ⊥
no_entities g fault e es h = let ok : entities_at g ≡ Ok es =
    entities_in_again (property_of (codes "entities") g) es h in cc

unread_by : (o : Option Grouping) (r : Option RestartOn) (s : Bool) (es : Result (List (List ℕ)) DependencyFault)
    (g : GroupRecord) (fault : DependencyFault)
    → grouping_at g ≡ o → restart_at g ≡ r → services_at g ≡ s → entities_at g ≡ es → reading o r s es ≡ Err fault
    → IsUnread g fault
unread_by None r s es g fault a b c e h =
    subst (IsUnread g) (err_is {A = Dependency} BadGrouping fault h) (no_grouping g a)
unread_by (Some x) None s es g fault a b c e h =
    subst (IsUnread g) (err_is {A = Dependency} BadRestartOn fault h)
    ((x, grouping_said (text_in (property_of (codes "grouping") g)) x a), no_restart g b)
unread_by (Some x) (Some y) false es g fault a b c e h =
    subst (IsUnread g) (err_is {A = Dependency} PathType fault h) (
      (x, grouping_said (text_in (property_of (codes "grouping") g)) x a),
      (y, restart_said (text_in (property_of (codes "restart_on") g)) y b),
      no_services g c,
    )
unread_by (Some x) (Some y) true (Err f) g fault a b c e h =
    let same : f ≡ fault = err_is {A = Dependency} f fault h in
    let bad : BadEntity ≡ fault = entities_in_fault (property_of (codes "entities") g) f e ∙ same in
    subst (IsUnread g) bad (
      (x, grouping_said (text_in (property_of (codes "grouping") g)) x a),
      (y, restart_said (text_in (property_of (codes "restart_on") g)) y b),
      services_said (property_of (codes "type") g) c,
      no_entities g f e,
    )
unread_by (Some x) (Some y) true (Ok es) g fault a b c e h = absurd cc

unread_group : (g : GroupRecord) (fault : DependencyFault) → dependency_of g ≡ Err fault → IsUnread g fault
unfolding dependency_of
unread_group g fault e =
    unread_by (grouping_at g) (restart_at g) (services_at g) (entities_at g) g fault refl refl refl refl e

-- ---- groups

is_one : (g : GroupRecord) → is_dependency g ≡ true → IsDependency g
is_one g e = (same_text g.group_type (codes "dependency")).0 e

is_none_of : (g : GroupRecord) → is_dependency g ≡ false → IsDependency g → ⊥
is_none_of g e h = let t : is_dependency g ≡ true = (same_text g.group_type (codes "dependency")).1 h in cc

pub ask_all : (gs : List GroupRecord) (ds : List Dependency) → read_groups gs ≡ Ok ds → AskAll gs ds
unfolding read_groups
ask_all [] ds e = subst (AskAll []) (ok_is [] ds e) None_asks
ask_all (g ∷ gs) ds e = by (is_dependency g) refl e (ask_all gs)
  where
    by : (b : Bool) → is_dependency g ≡ b → with_group b g (read_groups gs) ≡ Ok ds
        → ((xs : List Dependency) → read_groups gs ≡ Ok xs → AskAll gs xs) → AskAll (g ∷ gs) ds
    by true h k more =
        let p = before_ok (dependency_of g) (read_groups gs) ds k in
        subst (AskAll (g ∷ gs)) p.4 (One_asks (is_one g h) (asks g p.0 p.2) (more p.1 p.3))
    by false h k more = Passed_over (is_none_of g h) (more ds k)

passed : (b : Bool) (g : GroupRecord) (r : Result (List Dependency) DependencyFault) → is_dependency g ≡ b
    → (IsDependency g → ⊥) → with_group b g r ≡ r
passed true g r e differs = absurd (differs (is_one g e))
passed false g r e differs = refl

pub all_asked : (gs : List GroupRecord) (ds : List Dependency) → AskAll gs ds → read_groups gs ≡ Ok ds
unfolding read_groups
all_asked [] [] None_asks = refl
all_asked [] (d ∷ ds) a = elim a [ ]
all_asked (g ∷ gs) ds (Passed_over differs more) = passed (is_dependency g) g (read_groups gs) refl differs
    ∙ all_asked gs ds more
all_asked (g ∷ gs) (d ∷ ds) (One_asks is each more) =
    let t : is_dependency g ≡ true = (same_text g.group_type (codes "dependency")).1 is in
    (λ i. with_group (t i) g (all_asked gs ds more i)) ∙ ap (λ r. before r (Ok ds)) (asked g d each)

pub first_unread : (gs : List GroupRecord) (fault : DependencyFault) → read_groups gs ≡ Err fault
    → IsFirstUnread gs fault
unfolding read_groups
first_unread [] fault e = absurd cc
first_unread (g ∷ gs) fault e = by (is_dependency g) refl e (first_unread gs fault)
  where
    behind : (d : Dependency) → IsDependency g → Asks g d → IsFirstUnread gs fault → IsFirstUnread (g ∷ gs) fault
    behind d is asks f =
        record {
          before = g ∷ f.before;
          group = f.group;
          after = f.after;
          split = ap (λ (l : List GroupRecord). g ∷ l) f.split;
          asked = (d ∷ f.asked.0, One_asks is asks f.asked.1);
          of_type = f.of_type;
          unread = f.unread;
        }

    past : (IsDependency g → ⊥) → IsFirstUnread gs fault → IsFirstUnread (g ∷ gs) fault
    past differs f =
        record {
          before = g ∷ f.before;
          group = f.group;
          after = f.after;
          split = ap (λ (l : List GroupRecord). g ∷ l) f.split;
          asked = (f.asked.0, Passed_over differs f.asked.1);
          of_type = f.of_type;
          unread = f.unread;
        }

    here : is_dependency g ≡ true → (dependency_of g ≡ Err fault)
        ⊎ ((x : Dependency) × (dependency_of g ≡ Ok x) × (read_groups gs ≡ Err fault))
        → (read_groups gs ≡ Err fault → IsFirstUnread gs fault) → IsFirstUnread (g ∷ gs) fault
    here h (inl bad) more =
        record {
          before = [];
          group = g;
          after = gs;
          split = refl;
          asked = ([], None_asks);
          of_type = is_one g h;
          unread = unread_group g fault bad;
        }
    here h (inr rest) more = behind rest.0 (is_one g h) (asks g rest.0 rest.1) (more rest.2)

    by : (b : Bool) → is_dependency g ≡ b → with_group b g (read_groups gs) ≡ Err fault
        → (read_groups gs ≡ Err fault → IsFirstUnread gs fault) → IsFirstUnread (g ∷ gs) fault
    by true h k more = here h (before_err (dependency_of g) (read_groups gs) fault k) more
    by false h k more = past (is_none_of g h) (more k)
