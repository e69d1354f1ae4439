use Rattle.std.proofs.Common.{◌≡◌, ◌++◌, take, drop}
use Rattle.std.specs.List.{AllByRecursion, flat_map}
use Rattle.smf_value.specs.Body.{spelled_value, spelled_property}
use Rattle.smf_value.specs.Values.{IsValue}
use Rattle.smf_value.proofs.body.put_property.Given as goal

abbrev pub invariant-loop-value : goal.invariant-loop-value
invariant-loop-value l = record {
  put : l.out.items ++ flat_map spelled_value (drop l.value-index l.value-items)
      ≡ l.fn.out.items ++ spelled_property l.property;
  formed : AllByRecursion IsValue (take l.value-index l.value-items);
}
