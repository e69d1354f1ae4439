-- What a LiveRoom keeps of a contract that may run.
use Rattle.std.specs.Prelude.{ℕ, List, map, Bool}
use Rattle.smf_room.specs.Lives.{Known, may_be}

pub record Held : Type 0 where
  pub known : Known
  -- it was to be made in this life, and that failed: no holder was asked to start it
  pub failed : Bool

abbrev pub knowns : List Held → List Known
knowns hs = map (λ h. h.known) hs

-- it may be of this instance
abbrev pub held_may_be : List ℕ → Held → Bool
held_may_be instance h = may_be instance h.known
