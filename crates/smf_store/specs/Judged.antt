-- The value that the rows of the tables hold, or why they are not opened as a store.
-- The reason is the version, or the first table that breaks the rules.
use Rattle.std.specs.Prelude.{ℕ, ℤ, pos, List, [], ◌∷◌, ◌++◌, ◌≡◌, ◌+◌, ◌==◌, ◌&&◌, not, nat_eq, nat_le, nat_lt, codes, length, Bool, true, false, Option, Some, None, is_some, is_none, Result, Ok, Err, if◌then◌else◌}
use Rattle.std.specs.Cmp.Lexicographic.{pointwise}
use Rattle.std.specs.List.{filter_map, list_all, list_any}
use Rattle.std.specs.Option.{option_map_or}
use Rattle.std.specs.Ordering.{int_eq, is_eq, nat_cmp}
use Rattle.sqlite.specs.Order.{Row, column}
use Rattle.smf_fmri.specs.ByKey.{has_key, list_with_item}
use Rattle.smf_fmri.specs.Patterns.{service_of}
use Rattle.smf_fmri.specs.Name.{short}
use Rattle.smf_state.specs.declared.row.Row.{Row as StateRow}
use Rattle.smf_state.specs.Rows.{greatest_number, greatest_run}
use Rattle.smf_value.specs.Groups.{GroupRecord, by_group}
use Rattle.smf_model.specs.declared.change.Change.TheVariants.{AddService, AddInstance, PutName, PutGroups, AddSnapshot, PutLaunch}
use Rattle.smf_model.specs.declared.held.Instance.{Instance}
use Rattle.smf_model.specs.declared.held.InstanceEntry.{InstanceEntry}
use Rattle.smf_model.specs.declared.held.Owner.{Owner}
use Rattle.smf_model.specs.declared.held.Owner.TheVariants as owners
use Rattle.smf_model.specs.Contents.{Holdings}
use Rattle.smf_model.specs.Look.{by_launch, holdings_after_change, group_in, instance, launch_of, instance_by_name, groups_if_there, service, snapshot}
use Rattle.smf_model.specs.Next.{greatest_instance, most_groups}
use Rattle.smf_store.specs.declared.counter_rows.Counters.{Counters}
use Rattle.smf_store.specs.declared.counter_rows.StoreVersion.{StoreVersion}
use Rattle.smf_store.specs.declared.counter_rows.StoreVersion.TheVariants as versions
use Rattle.smf_store.specs.declared.judgements.Judgement.{Judgement}
use Rattle.smf_store.specs.declared.judgements.StoreRows.{StoreRows}
use Rattle.smf_store.specs.declared.refusal.OpenFault.{OpenFault}
use Rattle.smf_store.specs.declared.refusal.OpenFault.TheVariants.{Memory, Version, Damaged, TooManyInstances}
use Rattle.smf_store.specs.declared.refusal.StoreTable.{StoreTable}
use Rattle.smf_store.specs.declared.refusal.StoreTable.TheVariants as tables
use Rattle.smf_store.specs.Begun.{empty_with_counters}
use Rattle.smf_store.specs.FirstOther.{earlier}
use Rattle.smf_store.specs.RowValues.{◌>>=◌, value_if, integer_in, number_in, text_in, greatest, short_service, service_said, instance_said, group_said, snapshot_said, launch_said}

-- ---- the counters

-- the value found of a key, with one value more
abbrev pub sole_value_with : Option ℤ → Option ℤ → Option (Option ℤ)
sole_value_with None (Some v) = Some (Some v)
sole_value_with None None = None
sole_value_with (Some before) more = None

-- a row has a key; one whose key is no text has none
abbrev pub has_text : List ℕ → Option (List ℕ) → Bool
has_text key name = option_map_or (λ t. pointwise nat_eq t key) name false

-- the same, with one row more, whatever is wrong with the rows of other keys
unfoldable pub look : List ℕ → Option ℤ → Row → Option (Option ℤ)
look key found r =
    if has_text key (text_in (column r 1)) then sole_value_with found (integer_in (column r 2)) else Some found

abbrev pub look_on : List ℕ → Option ℤ → List Row → Option (Option ℤ)
look_on key found [] = Some found
look_on key found (r ∷ rs) = look key found r >>= (λ more. look_on key more rs)

-- the value of a key that one row has
unfoldable pub value_of : List ℕ → List Row → Option ℤ
value_of key rows = look_on key None rows >>= (λ found. found)

abbrev pub number_of : ℤ → Option ℕ
number_of (pos n) = value_if (nat_le n greatest) n
number_of _ = None

unfoldable pub number_said : List ℕ → List Row → Option ℕ
number_said key rows = value_of key rows >>= (λ v. number_of v)

abbrev pub version_by : Option ℤ → Result StoreVersion OpenFault
version_by None = Err (Damaged tables.Meta)
version_by (Some v) =
    if int_eq v (pos 2) then Ok versions.Second
    else if int_eq v (pos 1) then Ok versions.First
    else Err (Version v)

unfoldable pub version_said : List Row → Result StoreVersion OpenFault
version_said rows = version_by (value_of (codes "version") rows)

-- a key that may stand in a store of this version. The key of the layout belongs to the second version alone. A key
-- that is no counter's says nothing
abbrev pub may_stand : StoreVersion → List ℕ → Bool
may_stand versions.First text = not (pointwise nat_eq text (codes "layout"))
may_stand versions.Second text = true

-- the key of a row is a text, and may stand there
unfoldable pub is_known : StoreVersion → Row → Bool
is_known version r = option_map_or (may_stand version) (text_in (column r 1)) false

-- the first version has no layout
unfoldable pub has_layout : StoreVersion → List Row → Bool
has_layout versions.First rows = true
has_layout versions.Second rows = option_map_or (λ v. int_eq v (pos 2)) (value_of (codes "layout") rows) false

-- so many instances as there are numbers for
abbrev pub is_within : StoreVersion → ℕ → Bool
is_within versions.First next = true
is_within versions.Second next = nat_le next (greatest_instance + 1)

unfoldable pub counters_said : StoreVersion → List Row → Option Counters
counters_said version rows =
    number_said (codes "revision") rows >>= (λ revision.
    number_said (codes "next_instance") rows >>= (λ next_instance.
    number_said (codes "next_snapshot") rows >>= (λ next_snapshot.
    value_if (list_all (is_known version) rows && has_layout version rows && nat_le 1 next_instance
    && nat_le 1 next_snapshot && is_within version next_instance)
    (record { revision = revision; next_instance = next_instance; next_snapshot = next_snapshot }))))

-- ---- one row more of a table: none where it may not stand beside what is held

unfoldable pub add_service : Holdings → Row → Option Holdings
add_service h r =
    service_said r >>= (λ name.
    value_if (is_none (service h name)) (holdings_after_change h (AddService (record { name = name; groups = [] }))))

-- runs up to the last
abbrev pub is_up_to : ℕ → Option ℕ → Bool
is_up_to last None = true
is_up_to last (Some run) = nat_le run last

-- a row has no revision that is still to come, no run past its last, and no number past a limit. Its base is not judged
abbrev pub is_right : ℕ → StateRow → Bool
is_right revision row =
    nat_le row.err revision && nat_le row.stop revision && nat_le row.refresh revision && nat_le row.start revision
    && is_up_to row.last row.live && is_up_to row.last row.side
    && nat_le row.last greatest_run && nat_le row.number greatest_number
    && nat_le row.launch greatest && nat_le row.serial greatest

abbrev pub is_new : Holdings → Instance → Bool
is_new h i =
    nat_lt 0 i.number && nat_lt i.number h.next_instance && is_none (instance h i.number)
    && is_none (instance_by_name h i.name)
    && is_some (service h (short ++ service_of i.name)) && is_right h.revision i.row

abbrev pub with_instance : Holdings → Instance → Holdings
with_instance h i =
    holdings_after_change (holdings_after_change h (AddInstance (record { instance = i; groups = [] })))
    (PutName (record { name = i.name; number = i.number }))

unfoldable pub add_instance : Holdings → Row → Option Holdings
add_instance h r = instance_said r >>= (λ i. value_if (is_new h i) (with_instance h i))

-- whose groups stand under this service and this number
abbrev pub owner_by : List ℕ → ℕ → Option Instance → Option Owner
owner_by text number None = None
owner_by text number (Some i) = value_if (pointwise nat_eq (short ++ service_of i.name) text) (owners.Instance number)

unfoldable pub owner_said : Holdings → List ℕ → ℕ → Option Owner
owner_said h text number =
    if number == 0 then (short_service text >>= (λ name. Some (owners.Service name)))
    else owner_by text number (instance h number)

unfoldable pub put_group : Holdings → Owner → GroupRecord → Option Holdings
put_group h owner g =
    groups_if_there h owner >>= (λ gs.
    value_if (is_none (group_in gs g.name) && nat_lt (length gs) most_groups)
    (holdings_after_change h (PutGroups owner (list_with_item by_group g gs))))

unfoldable pub add_group : Holdings → Row → Option Holdings
add_group h r =
    group_said r >>= (λ g.
    text_in (column r 1) >>= (λ text.
    number_in (column r 2) >>= (λ number.
    owner_said h text number >>= (λ owner.
    put_group h owner g))))

unfoldable pub add_snapshot : Holdings → Row → Option Holdings
add_snapshot h r =
    snapshot_said r >>= (λ s.
    value_if (nat_lt 0 s.number && nat_lt s.number h.next_snapshot && is_none (snapshot h s.number)
    && is_some (instance h s.instance))
    (holdings_after_change h (AddSnapshot s)))

unfoldable pub add_launch : Holdings → Row → Option Holdings
add_launch h r =
    launch_said r >>= (λ l.
    value_if (not (list_any (has_key by_launch l.restarter) h.launches)) (holdings_after_change h (PutLaunch l)))

-- ---- the tables, one behind another

abbrev pub add_all : (Holdings → Row → Option Holdings) → Holdings → List Row → Option Holdings
add_all add h [] = Some h
add_all add h (r ∷ rs) = add h r >>= (λ k. add_all add k rs)

abbrev pub result_or_damage : {X Y : Type 0} → StoreTable → Option X → (X → Result Y OpenFault) → Result Y OpenFault
result_or_damage table None f = Err (Damaged table)
result_or_damage table (Some x) f = f x

-- a row of snapshots has this number, whatever else it holds
unfoldable pub has_row : List Row → ℕ → Bool
has_row rows n = list_any (λ m. is_eq (nat_cmp n m)) (filter_map (λ r. number_in (column r 0)) rows)

-- a snapshot that an instance names is there
abbrev pub is_there : (ℕ → Bool) → Option ℕ → Bool
is_there has None = true
is_there has (Some n) = has n

abbrev pub names_snapshots : (ℕ → Bool) → Instance → Bool
names_snapshots has i =
    is_there has i.start && is_there has i.previous && is_there has i.row.running && is_there has i.row.begun

abbrev pub names_held : (ℕ → Bool) → InstanceEntry → Bool
names_held has e = names_snapshots has e.instance

-- the instances of these rows, if each snapshot that they name has a row
unfoldable pub instances_said : List Row → List Row → Holdings → Option Holdings
instances_said rows snapshots h =
    add_all add_instance h rows >>= (λ k. value_if (list_all (names_held (has_row snapshots)) k.instances) k)

-- a snapshot that an instance names is there, and is of this instance
abbrev pub is_own : Holdings → ℕ → Option ℕ → Bool
is_own h number None = true
is_own h number (Some n) = option_map_or (λ s. s.instance == number) (snapshot h n) false

abbrev pub names_own : Holdings → Instance → Bool
names_own h i =
    is_own h i.number i.start && is_own h i.number i.previous
    && is_own h i.number i.row.running && is_own h i.number i.row.begun

abbrev pub entry_names_own : Holdings → InstanceEntry → Bool
entry_names_own h e = names_own h e.instance

-- the snapshots of these rows, if each that an instance names is of this instance: else the later table breaks the rule
unfoldable pub snapshots_said : List Row → Holdings → Option Holdings
snapshots_said rows h =
    add_all add_snapshot h rows >>= (λ k. value_if (list_all (entry_names_own k) k.instances) k)

-- the launch of a row is not past the last of its restarter, which is 0 if this was never launched
abbrev pub is_launched : Holdings → InstanceEntry → Bool
is_launched h e = nat_le e.instance.row.launch (launch_of h e.instance.row.owner)

-- the launches of these rows, if no row of an instance has a later one: else the later table breaks the rule
unfoldable pub launches_said : List Row → Holdings → Option Holdings
launches_said rows h = add_all add_launch h rows >>= (λ k. value_if (list_all (is_launched k) k.instances) k)

-- the tables after that of the counters
unfoldable pub tables_said : StoreRows → Holdings → Result Holdings OpenFault
tables_said rows h =
    result_or_damage tables.Service (add_all add_service h rows.services.items) (λ h1.
    result_or_damage tables.Instance (instances_said rows.instances.items rows.snapshots.items h1) (λ h2.
    result_or_damage tables.Group (add_all add_group h2 rows.groups.items) (λ h3.
    result_or_damage tables.Snapshot (snapshots_said rows.snapshots.items h3) (λ h4.
    result_or_damage tables.Restarter (launches_said rows.launches.items h4) (λ h5. Ok h5)))))

-- a store of the first version may have given more numbers than there are
abbrev pub holdings_within_limit : StoreVersion → Holdings → Result Holdings OpenFault
holdings_within_limit versions.First h =
    if nat_le h.next_instance (greatest_instance + 1) then Ok h else Err TooManyInstances
holdings_within_limit versions.Second h = Ok h

abbrev pub held_by : StoreVersion → Result Holdings OpenFault → Result Holdings OpenFault
held_by version (Ok h) = holdings_within_limit version h
held_by version (Err e) = Err e

abbrev pub judged_as : StoreRows → Result StoreVersion OpenFault → Result Holdings OpenFault
judged_as rows (Err e) = Err e
judged_as rows (Ok version) =
    result_or_damage tables.Meta (counters_said version rows.counts.items)
    (λ c. held_by version (tables_said rows (empty_with_counters c)))

-- the held value, or why it is not opened
unfoldable pub verdict_on_rows : StoreRows → Result Holdings OpenFault
verdict_on_rows rows = judged_as rows (version_said rows.counts.items)

-- the fault of a database that is no store, by the first table that is absent or another. A fault of the tables before
-- it comes first
abbrev pub broken_by : StoreTable → OpenFault → OpenFault
broken_by other Memory = Memory
broken_by other (Version n) = Version n
broken_by other (Damaged table) = Damaged (earlier table other)
broken_by other _ = Damaged other

unfoldable pub first_broken : StoreTable → Result Holdings OpenFault → OpenFault
first_broken other (Ok h) = Damaged other
first_broken other (Err e) = broken_by other e

-- a call tells this, unless memory ran out
abbrev pub IsBroken : OpenFault → OpenFault → Type 0
IsBroken Memory e = Unit {0}
IsBroken result_or_damage e = result_or_damage ≡ e

-- a call gives this, unless memory ran out
abbrev pub IsJudged : Result Judgement OpenFault → Result Holdings OpenFault → Type 0
IsJudged (Ok x) value_if = value_if ≡ Ok x.tables
IsJudged (Err Memory) value_if = Unit {0}
IsJudged (Err e) value_if = value_if ≡ Err e

-- a row was taken, or it may not stand there
abbrev pub Takes : Bool → Option Holdings → Holdings → Type 0
Takes true said new = said ≡ Some new
Takes false said new = said ≡ None

-- the tables after that of the counters were read
abbrev pub IsRead : {X : Type 0} → Result X OpenFault → Holdings → Result Holdings OpenFault → Type 0
IsRead (Ok x) new value_if = value_if ≡ Ok new
IsRead (Err Memory) new value_if = Unit {0}
IsRead (Err e) new value_if = value_if ≡ Err e
