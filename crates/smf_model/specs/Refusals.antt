-- The words that tell a client of a refusal.
use Rattle.std.specs.Prelude.{ℕ, List, ◌++◌, codes, Option, Some, None}
use Rattle.smf_value.specs.declared.fault.GroupFault.{GroupFault}
use Rattle.smf_value.specs.declared.fault.GroupFault.TheVariants as groups
use Rattle.smf_value.specs.Kinds.{kind_text}
use Rattle.smf_model.specs.declared.command.CommandReply.{CommandReply}
use Rattle.smf_model.specs.declared.command.CommandReply.TheVariants.{Made, Granted, Done, NoSuch, InUse, NotInState, Exists, Denied, Limit, Stale}

-- why a group is not changed
abbrev pub denial : GroupFault → List ℕ
denial groups.Memory = codes "no memory"
denial groups.NoSuch = codes "no such property"
denial groups.NeedsKind = codes "type needed"
denial groups.KindDiffers = codes "type differs"
denial groups.TooLong = codes "too long"
denial (groups.NotA kind) = codes "not a value of " ++ kind_text kind
denial groups.Range = codes "out of range"
denial groups.Full = codes "too many"

-- the words of a refusal; what is done has none
unfoldable pub refusal : CommandReply → Option (List ℕ)
refusal (Made number) = None
refusal (Granted row) = None
refusal Done = None
refusal NoSuch = Some (codes "no such entity")
refusal InUse = Some (codes "in use")
refusal NotInState = Some (codes "not in a state for this")
refusal Exists = Some (codes "already exists")
refusal (Denied fault) = Some (denial fault)
refusal Limit = Some (codes "limit")
refusal (Stale why row) = Some (codes "not granted")
