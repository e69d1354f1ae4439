-- The instances whose view items a list of changes may touch.
use Rattle.std.specs.Prelude.{◌≡◌, ℕ, ◌==◌, ◌&&◌, not, List, [], ◌∷◌, ◌++◌, map, filter, flat_map, Bool, true, false, Option, Some, None, is_none, is_some}
use Rattle.smf_fmri.specs.ByKey.{put_all}
use Rattle.smf_model.specs.declared.change.Change.{Change}
use Rattle.smf_model.specs.declared.change.Change.TheVariants.{AddInstance, AddService, AddSnapshot, DropInstance}
use Rattle.smf_model.specs.declared.change.Change.TheVariants.{DropService, DropSnapshots, PutGroups, PutInstance}
use Rattle.smf_model.specs.declared.held.Instance.{Instance}
use Rattle.smf_model.specs.declared.held.Owner.{Owner}
use Rattle.smf_model.specs.declared.held.Owner.TheVariants as owners
use Rattle.smf_model.specs.declared.held.Snapshot.{Snapshot}
use Rattle.smf_model.specs.Contents.{Holdings}
use Rattle.smf_model.specs.Look.{group_in, groups_of, instance, instances, is_snapshot_of, snapshot}
use Rattle.smf_model.specs.Next.{is_instance_of, named_snapshot}
use Rattle.smf_model.specs.GeneralGroup.{general}
use Rattle.smf_value.specs.Groups.{GroupRecord}
use Rattle.smf_changes.specs.Changes.{by_itself, has_changed}
use Rattle.smf_laws.specs.Consistent.{IsOwn}

-- the numbers of the instances that pass a test
abbrev pub numbers_where : (Instance → Bool) → Holdings → List ℕ
numbers_where test h = map (λ i. i.number) (filter test (instances h))

abbrev pub of_service : Holdings → List ℕ → List ℕ
of_service h name = numbers_where (is_instance_of name) h

abbrev pub has_general : List GroupRecord → Bool
has_general gs = is_some (group_in gs general)

-- neither these groups nor those of a service have a group `general` among them
abbrev pub lacks_general : Holdings → List ℕ → List GroupRecord → Bool
lacks_general h name gs = not (has_general gs) && not (has_general (groups_of h (owners.Service name)))

-- the instances of a service, if they see its groups change: a view shows `general` alone of these
abbrev pub of_general : Bool → Holdings → List ℕ → List ℕ
of_general true h name = []
of_general false h name = of_service h name

abbrev pub of_owner : Holdings → Owner → List GroupRecord → List ℕ
of_owner h (owners.Service name) gs = of_general (lacks_general h name gs) h name
of_owner h (owners.Instance n) gs = n ∷ []

-- the instance that a change names, or those of the service whose group `general` it may put or drop
abbrev pub named_by : Holdings → Change → List ℕ
named_by h (AddService s) = of_general (lacks_general h s.name s.groups) h s.name
named_by h (DropService name) = of_general (lacks_general h name []) h name
named_by h (AddInstance e) = e.instance.number ∷ []
named_by h (PutInstance i) = i.number ∷ []
named_by h (DropInstance n) = n ∷ []
named_by h (PutGroups owner gs) = of_owner h owner gs
named_by h (DropSnapshots n) = n ∷ []
named_by h _ = []

abbrev pub is_number : ℕ → Option ℕ → Bool
is_number n None = false
is_number n (Some m) = m == n

-- an instance waits for a snapshot if its row names one that is not there
abbrev pub waits_for : Holdings → ℕ → Instance → Bool
waits_for h n i = is_number n i.row.running && is_none (snapshot h n)

abbrev pub is_of : ℕ → Option Snapshot → Bool
is_of n None = false
is_of n (Some s) = is_snapshot_of n s

-- the snapshot `running` of an instance is one of instance n
abbrev pub runs_of : Holdings → ℕ → Instance → Bool
runs_of h n i = is_of n (named_snapshot h i.row.running)

-- the instances whose snapshot `running` a change adds or drops
abbrev pub running_by : Holdings → Change → List ℕ
running_by h (AddSnapshot s) = numbers_where (waits_for h s.number) h
running_by h (DropSnapshots n) = numbers_where (runs_of h n) h
running_by h _ = []

-- the instances that changes name
unfoldable pub instances_named : Holdings → List Change → List ℕ
instances_named h cs = flat_map (named_by h) cs

-- these, and those whose snapshot `running` comes or goes
unfoldable pub candidates : Holdings → List Change → List ℕ
candidates h cs = flat_map (named_by h) cs ++ flat_map (running_by h) cs

-- those of these numbers, rising, each once, whose view items differ
unfoldable pub touched_among : List ℕ → Holdings → Holdings → List ℕ
touched_among ns h k = filter (has_changed h k) (put_all by_itself ns [])

-- each snapshot `running` that a row names is there, and is of the row's instance
abbrev pub AllRunTheirOwn : Holdings → Type 0
AllRunTheirOwn h = (n : ℕ) (i : Instance) → instance h n ≡ Some i → IsOwn h n i.row.running
