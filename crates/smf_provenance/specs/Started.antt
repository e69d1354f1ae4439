-- The evidence of a start, by the view of the revision that it was decided on.
use Rattle.std.specs.Prelude.{ℕ, ◌==◌, ◌&&◌, List, Bool, true, false, if◌then◌else◌, Option, Some, None, Ok, Err, find, option_map}
use Rattle.smf_contract.specs.declared.cookie.Method.TheVariants as methods
use Rattle.smf_state.specs.declared.view.View.{View}
use Rattle.smf_state.specs.declared.view.ViewItem.{ViewItem}
use Rattle.smf_method.specs.declared.call.ReadMethod.{ReadMethod}
use Rattle.smf_dep.specs.declared.member.GraphMember.{GraphMember}
use Rattle.smf_dep.specs.Members.{member_of, members}
use Rattle.smf_dep.specs.Methods.{MethodRead}
use Rattle.smf_engine.specs.Orders.{is_about, method_in}
use Rattle.smf_world.specs.declared.item.Item.{Item}
use Rattle.smf_world.specs.declared.item.Item.TheVariants.{Spawned}
use Rattle.smf_world.specs.Safe.{is_start}
use Rattle.smf_provenance.specs.declared.evidence.StartEvidence.{StartEvidence}
use Rattle.smf_provenance.specs.Groups.{all_groups}

-- by the start method of an instance
abbrev pub by_method : ℕ → List GraphMember → ViewItem → GraphMember → ReadMethod → StartEvidence
by_method revision ms i m read =
    record {
      instance = i.instance;
      name = i.name;
      revision = revision;
      is_enabled = i.enabled;
      groups = all_groups ms m.composed i.row.owner;
      command = read.call.command;
      snapshot = i.row.running;
    }

-- one that can't be read counts as none
abbrev pub readable_method : MethodRead → Option ReadMethod
readable_method (Ok read) = read
readable_method (Err fault) = None

-- none without a start method
unfoldable pub by_member : ℕ → List GraphMember → ViewItem → GraphMember → Option StartEvidence
by_member revision ms i m = option_map (by_method revision ms i m) (readable_method (method_in i m methods.Start))

abbrev pub by_item : ℕ → List GraphMember → Option ViewItem → Option StartEvidence
by_item revision ms None = None
by_item revision ms (Some i) = by_member revision ms i (member_of i)

-- none by the view of another revision
unfoldable pub start_evidence : View → ℕ → ℕ → Option StartEvidence
start_evidence v n revision =
    if v.revision == revision then by_item revision (members v.items) (find (is_about n) v.items) else None

-- ---- the item of a trail that it is of

-- a start of its instance, which names its revision
abbrev pub is_of : StartEvidence → Item → Bool
is_of e (Spawned contract i run method revision command) =
    is_start method && (i == e.instance && revision == e.revision)
is_of e item = false
