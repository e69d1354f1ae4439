-- The name of svc.startd's own restarter.
use Rattle.std.specs.Prelude.{ℕ, List, codes}

abbrev pub startd : List ℕ
startd = codes "svc:/system/svc/restarter:default"
