-- The words of a dependency group, by smf(5).
use Rattle.std.specs.Prelude.{ℕ, nat_eq, List, if◌then◌else◌, codes, Option, Some, None}
use Rattle.std.specs.Cmp.Lexicographic.{pointwise}
use Rattle.smf_links.specs.declared.grouping.Grouping.{Grouping}
use Rattle.smf_links.specs.declared.grouping.Grouping.TheVariants.{RequireAll, RequireAny, OptionalAll, ExcludeAll}
use Rattle.smf_links.specs.declared.grouping.RestartOn.{RestartOn}
use Rattle.smf_links.specs.declared.grouping.RestartOn.TheVariants as restarts

abbrev pub grouping_by : List ℕ → Option Grouping
grouping_by text =
    if pointwise nat_eq text (codes "require_all") then Some RequireAll
    else if pointwise nat_eq text (codes "require_any") then Some RequireAny
    else if pointwise nat_eq text (codes "optional_all") then Some OptionalAll
    else if pointwise nat_eq text (codes "exclude_all") then Some ExcludeAll
    else None

abbrev pub restart_by : List ℕ → Option RestartOn
restart_by text =
    if pointwise nat_eq text (codes "none") then Some restarts.Nothing
    else if pointwise nat_eq text (codes "error") then Some restarts.Error
    else if pointwise nat_eq text (codes "restart") then Some restarts.Restart
    else if pointwise nat_eq text (codes "refresh") then Some restarts.Refresh
    else None
