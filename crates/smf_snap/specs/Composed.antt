-- Which groups an instance has.
use Rattle.std.specs.Prelude.{ℕ, List, Option, Some, None}
use Rattle.smf_fmri.specs.ByKey.{lookup, put_all}
use Rattle.smf_value.specs.Groups.{GroupRecord, by_group}

-- the group of a name
abbrev pub group_of : List ℕ → List GroupRecord → Option GroupRecord
group_of name gs = lookup by_group gs name

abbrev pub first_of : Option GroupRecord → Option GroupRecord → Option GroupRecord
first_of (Some g) other = Some g
first_of None other = other

-- the groups that an instance has: its own, put over those of its service, each as a whole
abbrev pub composition : List GroupRecord → List GroupRecord → List GroupRecord
composition instance service = put_all by_group instance service

-- the instance's group of a name, else the service's
unfoldable pub composed_group : List GroupRecord → List GroupRecord → List ℕ → Option GroupRecord
composed_group instance service name = first_of (group_of name instance) (group_of name service)
