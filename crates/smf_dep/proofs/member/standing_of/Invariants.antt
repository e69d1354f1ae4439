use Rattle.std.proofs.Common.{◌≡◌, map, drop, length}
use Rattle.std.specs.List.{AllZip}
use Rattle.smf_dep.specs.declared.member.Standing.TheVariants.{Same}
use Rattle.smf_dep.specs.Members.{IsOfItem, member_of}
use Rattle.smf_dep.proofs.member.standing_of.Given as goal

abbrev pub invariant-loop-item : goal.invariant-loop-item
invariant-loop-item l =
    record {
      at_index : l.place ≡ l.item-index;
      as_long : length l.kept ≡ length l.items;
      alike : AllZip IsOfItem (drop l.item-index l.items) (drop l.item-index l.kept) → AllZip IsOfItem l.items l.kept;
      same : l.standing ≡ Same → drop l.item-index l.kept ≡ map member_of (drop l.item-index l.items)
          → l.kept ≡ map member_of l.items;
    }
