-- The data of instances nests no deeper than a reader of JSON allows.
use Rattle.std.proofs.Common.{◌≡◌, ℕ, suc, ◌+◌, ◌≤◌, List, [], ◌∷◌, codes, filter, map, Option, Some, None, Ordering, Less, Equal, Greater, nat_cmp, arith}
use Rattle.std.specs.Cmp.Lexicographic.{slice_cmp}
use Rattle.std.specs.Ordering.{match_ordering}
use Rattle.serde_json.specs.Data.{Data, Members, no_members, member, put, depth, items_depth, members_depth}
use Rattle.serde_json.specs.Read.{max_depth}
use Rattle.serde_json.specs.View.{items_of}
use Rattle.smf_state.specs.declared.state.State.{State}
use Rattle.smf_value.specs.declared.value.Value.{Value}
use Rattle.smf_value.specs.Groups.{PropertyRecord, GroupRecord, property_of, text_in}
use Rattle.smf_show.specs.declared.shown.Configured.{Configured}
use Rattle.smf_show.specs.Json.{all_data, array_of, configured_members, dependencies_data, dependency_data, group_data, group_member, instance_data, is_dependency, next_data, object_of, property_data, property_member, standing_members, text_or_null, value_data, values_data, values_or_none, with_members}

put_at : (o : Ordering) (n : ℕ) (k l : List ℕ) (d e : Data) (ms : Members) → depth d ≤ n → depth e ≤ n
    → members_depth ms ≤ n → members_depth (put k d ms) ≤ n
    → members_depth (match_ordering o (member k d (member l e ms)) (member l d ms) (member l e (put k d ms))) ≤ n
put_at Less n k l d e ms first second others all = omega arith
put_at Equal n k l d e ms first second others all = omega arith
put_at Greater n k l d e ms first second others all = omega arith

-- a member that nests no deeper than the others
pub put_shallow : (n : ℕ) (k : List ℕ) (d : Data) (ms : Members) → depth d ≤ n → members_depth ms ≤ n
    → members_depth (put k d ms) ≤ n
put_shallow n k d no_members first others = omega arith
put_shallow n k d (member l e ms) first others =
    let second : depth e ≤ n = omega arith in
    let rest : members_depth ms ≤ n = omega arith in
    put_at (slice_cmp nat_cmp k l) n k l d e ms first second rest (put_shallow n k d ms first rest)

pub members_shallow : {X : Type 0} (n : ℕ) (f : X → List ℕ × Data) → ((x : X) → depth (f x).1 ≤ n) → (xs : List X)
    (found : Members) → members_depth found ≤ n → members_depth (with_members (map f xs) found) ≤ n
members_shallow n f each [] found others = others
members_shallow n f each (x ∷ xs) found others =
    members_shallow n f each xs (put (f x).0 (f x).1 found) (put_shallow n (f x).0 (f x).1 found (each x) others)

pub items_shallow : {X : Type 0} (n : ℕ) (f : X → Data) → ((x : X) → depth (f x) ≤ n) → (xs : List X)
    → items_depth (items_of (map f xs)) ≤ n
items_shallow n f each [] = omega arith
items_shallow n f each (x ∷ xs) =
    let first = each x in
    let others = items_shallow n f each xs in
    omega arith

-- ---- properties and groups

value_shallow : (v : Value) → depth (value_data v) ≤ 0
value_shallow v = omega arith

values_shallow : (vs : List Value) → depth (values_data vs) ≤ 1
values_shallow vs =
    let each = items_shallow 0 value_data value_shallow vs in
    omega arith

property_shallow : (p : PropertyRecord) → depth (property_data p) ≤ 2
unfolding property_data
property_shallow p =
    let values = values_shallow p.values in
    omega arith

group_shallow : (g : GroupRecord) → depth (group_data g) ≤ 4
unfolding group_data
group_shallow g =
    let values = members_shallow 2 property_member (λ p. property_shallow p) g.properties no_members (omega arith) in
    omega arith

-- ---- dependencies

text_shallow : (text : Option (List ℕ)) → depth (text_or_null text) ≤ 0
text_shallow None = omega arith
text_shallow (Some text) = omega arith

dependency_shallow : (g : GroupRecord) → depth (dependency_data g) ≤ 2
unfolding dependency_data
dependency_shallow g =
    let grouping = text_shallow (text_in (property_of (codes "grouping") g)) in
    let restart_on = text_shallow (text_in (property_of (codes "restart_on") g)) in
    let fmris = values_shallow (values_or_none (property_of (codes "entities") g)) in
    omega arith

-- ---- instances

next_shallow : (next : Option State) → depth (next_data next) ≤ 0
next_shallow None = omega arith
next_shallow (Some state) = omega arith

instance_shallow : (c : Configured) → depth (instance_data c) ≤ 6
unfolding instance_data
instance_shallow c =
    let next = next_shallow c.shown.next in
    let dependencies = items_shallow 2 dependency_data dependency_shallow (filter is_dependency c.groups) in
    let groups = members_shallow 4 group_member (λ g. group_shallow g) c.groups no_members (omega arith) in
    omega arith

-- a reader of JSON reads the data of instances whole
pub all_shallow : (cs : List Configured) → depth (all_data cs) ≤ max_depth
all_shallow cs =
    let each = items_shallow 6 instance_data instance_shallow cs in
    omega arith
