use Rattle.std.proofs.Common.{◌≡◌, drop, map}
use Rattle.serde_json.specs.Data.{no_members}
use Rattle.serde_json.specs.View.{members_view}
use Rattle.smf_show.specs.Json.{property_member, with_members}
use Rattle.smf_show.proofs.json.properties_members.Given as goal

abbrev pub invariant-loop-property : goal.invariant-loop-property
invariant-loop-property l =
    with_members (map property_member (drop l.property-index l.properties)) (members_view l.members.entries)
    ≡ with_members (map property_member l.properties) no_members
