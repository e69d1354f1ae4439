-- Which instances are parked, by places, and which of their links are met and blocked.
use Rattle.std.specs.Prelude.{◌≡◌, ℕ, zero, suc, List, [], ◌∷◌, slice_get, length, Bool, false, not, ◌&&◌, ◌||◌}
use Rattle.std.specs.List.{list_all, list_any}
use Rattle.std.specs.Option.{option_map_or}
use Rattle.smf_links.specs.declared.grouping.Grouping.{Grouping}
use Rattle.smf_links.specs.declared.grouping.Grouping.TheVariants.{RequireAll, RequireAny, OptionalAll, ExcludeAll}
use Rattle.smf_links.specs.declared.link.Flags.{Flags}
use Rattle.smf_links.specs.declared.link.Link.{Link}
use Rattle.smf_links.specs.declared.link.GraphNode.{GraphNode}

-- a test of the instance at a place, which fails if there is none
abbrev pub node_is : (GraphNode → Bool) → List GraphNode → ℕ → Bool
node_is is_so ns p = option_map_or is_so (slice_get ns p) false

abbrev pub runs_at : List GraphNode → ℕ → Bool
runs_at ns p = node_is (λ (n : GraphNode). n.flags.running) ns p

abbrev pub off_at : List GraphNode → ℕ → Bool
off_at ns p = node_is (λ (n : GraphNode). n.flags.off) ns p

-- ---- the flags of one instance are others

abbrev pub with_flags : List GraphNode → ℕ → Flags → List GraphNode
with_flags [] p f = []
with_flags (n ∷ ns) zero f = record n { flags = f } ∷ ns
with_flags (n ∷ ns) (suc p) f = n ∷ with_flags ns p f

-- ---- a link, by the places that run, are off and are parked

abbrev pub blocks_at : Grouping → (ℕ → Bool) → (ℕ → Bool) → (ℕ → Bool) → List (List ℕ) → Bool
blocks_at RequireAll runs off parked es = not (list_all (list_any runs) es) && list_any (list_all parked) es
blocks_at RequireAny runs off parked es = not (list_any (list_any runs) es) && list_all (list_all parked) es
blocks_at OptionalAll runs off parked es = false
blocks_at ExcludeAll runs off parked es = not (list_all (list_all off) es) && list_any (list_any runs) es

abbrev pub blocked_by : (ℕ → Bool) → (ℕ → Bool) → (ℕ → Bool) → Link → Bool
blocked_by runs off parked l = blocks_at l.grouping runs off parked l.cited

abbrev pub meets_at : Grouping → (ℕ → Bool) → (ℕ → Bool) → (ℕ → Bool) → List (List ℕ) → Bool
meets_at RequireAll runs off parked es = list_all (list_any runs) es
meets_at RequireAny runs off parked es = list_any (list_any runs) es
meets_at OptionalAll runs off parked es = list_all (list_all (λ p. runs p || parked p)) es
meets_at ExcludeAll runs off parked es = list_all (list_all off) es

abbrev pub met_by : (ℕ → Bool) → (ℕ → Bool) → (ℕ → Bool) → Link → Bool
met_by runs off parked l = meets_at l.grouping runs off parked l.cited

-- ---- rounds

-- an instance is idle, or it waits and one of its links is blocked
abbrev pub parks_by : (ℕ → Bool) → (ℕ → Bool) → (ℕ → Bool) → GraphNode → Bool
parks_by runs off parked n = n.flags.idle || (n.flags.waiting && list_any (blocked_by runs off parked) n.links)

abbrev pub parks : List GraphNode → (ℕ → Bool) → ℕ → Bool
parks ns parked p = node_is (parks_by (runs_at ns) (off_at ns) parked) ns p

unfoldable pub parked_in : ℕ → List GraphNode → ℕ → Bool
parked_in zero ns p = node_is (λ (n : GraphNode). n.flags.idle) ns p
parked_in (suc k) ns p = parks ns (parked_in k ns) p

-- in as many rounds as there are instances
abbrev pub is_parked : List GraphNode → ℕ → Bool
is_parked ns p = parked_in (length ns) ns p

-- ---- links that are met

abbrev pub IsOut : ℕ → List ℕ → Type 0
IsOut a [] = Unit
IsOut a (x ∷ xs) = (x ≡ a → ⊥) × IsOut a xs

abbrev pub met_at : List GraphNode → ℕ → Bool
met_at ns p = node_is (λ (n : GraphNode). list_all (met_by (runs_at ns) (off_at ns) (is_parked ns)) n.links) ns p
