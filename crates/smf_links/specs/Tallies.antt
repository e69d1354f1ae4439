-- An entity by the places that it stands for, and a link by its entities.
use Rattle.std.specs.Prelude.{◌≡◌, ℕ, List, Bool, false, not, ◌&&◌, ◌||◌, count_by}
use Rattle.std.specs.List.{list_all, list_any}
use Rattle.smf_links.specs.declared.grouping.Grouping.{Grouping}
use Rattle.smf_links.specs.declared.grouping.Grouping.TheVariants.{RequireAll, RequireAny, OptionalAll, ExcludeAll}
use Rattle.smf_links.specs.declared.tally.Entity.{Entity}

-- an entity runs if one of its places runs; it is parked, off or settled if all are
abbrev pub entity_of : (ℕ → Bool) → (ℕ → Bool) → (ℕ → Bool) → List ℕ → Entity
entity_of runs off is_parked_entity ps =
    record {
      runs = list_any runs ps;
      parked = list_all is_parked_entity ps;
      off = list_all off ps;
      settled = list_all (λ p. runs p || is_parked_entity p) ps;
    }

abbrev pub runs : Entity → Bool
runs e = e.runs

abbrev pub is_parked_entity : Entity → Bool
is_parked_entity e = e.parked

abbrev pub off : Entity → Bool
off e = e.off

abbrev pub is_settled_entity : Entity → Bool
is_settled_entity e = e.settled

-- how many of the entities of a link are so
pub record AreCounted (es : List Entity) (run park are_off are_settled : ℕ) : Type 0 where
  pub running : run ≡ count_by runs es
  pub parking : park ≡ count_by is_parked_entity es
  pub offs : are_off ≡ count_by off es
  pub settling : are_settled ≡ count_by is_settled_entity es

-- the same tests by what the entities are
abbrev pub entities_block : Grouping → List Entity → Bool
entities_block RequireAll es = not (list_all runs es) && list_any is_parked_entity es
entities_block RequireAny es = not (list_any runs es) && list_all is_parked_entity es
entities_block OptionalAll es = false
entities_block ExcludeAll es = not (list_all off es) && list_any runs es

abbrev pub entities_meet : Grouping → List Entity → Bool
entities_meet RequireAll es = list_all runs es
entities_meet RequireAny es = list_any runs es
entities_meet OptionalAll es = list_all is_settled_entity es
entities_meet ExcludeAll es = list_all off es
