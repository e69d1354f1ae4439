use Rattle.std.proofs.Common.{◌≡◌, ◌++◌, take, drop}
use Rattle.std.specs.List.{AllByRecursion, flat_map}
use Rattle.smf_value.specs.Body.{spelled_property, spelled_group, IsWholeProperty}
use Rattle.smf_value.proofs.body.put_group.Given as goal

abbrev pub invariant-loop-property : goal.invariant-loop-property
invariant-loop-property l = record {
  put : l.out.items ++ flat_map spelled_property (drop l.property-index l.properties)
      ≡ l.fn.out.items ++ spelled_group l.group;
  formed : AllByRecursion IsWholeProperty (take l.property-index l.properties);
}
