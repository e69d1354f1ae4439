-- A repository as contracts see it: what is held, and the journal in which it stands.
use Rattle.smf_model.specs.Contents.{Holdings}

pub record Whole (J : Type 0) : Type 0 where
  pub held : Holdings
  pub journal : J
