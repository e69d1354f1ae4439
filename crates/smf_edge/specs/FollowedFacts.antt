-- The facts that the calls of a system find of its contracts.
use Rattle.std.specs.Prelude.{ℕ, ◌+◌, Option, option_map}
use Rattle.std_io.specs.declared.io.error.Error.{Error}
use Rattle.smf_edge.specs.declared.start.Start.{Start}
use Rattle.smf_edge.specs.declared.stand.Stand.{Stand}

-- one contract more was made, if it is known how many
abbrev pub one_more_made : Option ℕ → Option ℕ
one_more_made made = option_map (λ n. n + 1) made

pub record ContractFacts (H : Type 0) : Type 1 where
  -- this start made the contract
  pub is_of : Start → H → Type 0
  -- a start failed so
  pub start_fails : Error → Type 0
  -- the contract was asked, and stood so
  pub stands : H → Stand → Type 0
  -- the contract was asked, and the system did not answer
  pub is_lost : H → Type 0
  -- it was asked to end, and nothing is left of it
  pub is_ended : H → Type 0
  -- it was asked to end, and something may be left of it
  pub may_live : H → Type 0
