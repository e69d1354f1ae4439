use Rattle.std.proofs.Common.{◌≡◌, drop, map}
use Rattle.serde_json.specs.Data.{no_members}
use Rattle.serde_json.specs.View.{members_view}
use Rattle.smf_show.specs.Json.{group_member, with_members}
use Rattle.smf_show.proofs.json.groups_members.Given as goal

abbrev pub invariant-loop-group : goal.invariant-loop-group
invariant-loop-group l =
    with_members (map group_member (drop l.group-index l.groups)) (members_view l.members.entries)
    ≡ with_members (map group_member l.groups) no_members
