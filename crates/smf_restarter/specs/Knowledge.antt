-- The knowledge of a restarter.
use Rattle.std.specs.Prelude.{ℕ, List, [], Option}
use Rattle.std.specs.Cmp.{on_total}
use Rattle.std.specs.Ordering.{nat_cmp, ordering_then}
use Rattle.std.specs.declared.cmp.Ordering.{Ordering}
use Rattle.std.proofs.lemmas.Cmp.{nat_cmp_total}
use Rattle.std.proofs.lemmas.Map.Lookups.{exact_pairs, exact_unsigned}
use Rattle.smf_fmri.specs.ByKey.{By, by_number, lookup}
use Rattle.smf_fmri.specs.Pairs.{pairs_total}
use Rattle.smf_restarter.specs.declared.known.KnownInstance.{KnownInstance}
use Rattle.smf_restarter.specs.declared.known.KnownRun.{KnownRun}
use Rattle.smf_restarter.specs.declared.known.RunKey.{RunKey}
use Rattle.smf_restarter.specs.declared.known.Stage.{Stage}
use Rattle.smf_restarter.specs.declared.known.Stage.TheVariants.{Joining}

-- its name; the actor that holds its contracts; its launch; the serial of its last proposal; how far it has come. Then
-- its instances by number, and its runs that have a contract, by instance and run
pub record Knowledge : Type 0 where
  pub name : List ℕ
  pub actor : ℕ
  pub launch : ℕ
  pub serial : ℕ
  pub stage : Stage
  pub instances : List KnownInstance
  pub runs : List KnownRun

-- the knowledge, and the room for more instances and runs
pub record Kept : Type 0 where
  pub known : Knowledge
  pub instances_room : ℕ
  pub runs_room : ℕ

abbrev pub kept_knowledge : Knowledge → ℕ → ℕ → Kept
kept_knowledge k instances runs = record { known = k; instances_room = instances; runs_room = runs }

abbrev pub by_instance : By KnownInstance ℕ
by_instance = by_number (λ i. i.instance)

-- runs go by their instance, and then by their number
abbrev pub run_cmp : RunKey → RunKey → Ordering
run_cmp a b = ordering_then (nat_cmp a.instance b.instance) (nat_cmp a.run b.run)

abbrev pair_of : RunKey → ℕ × ℕ
pair_of a = (a.instance, a.run)

abbrev pub by_run : By KnownRun RunKey
by_run =
    record {
      key = λ r. r.key;
      cmp = run_cmp;
      total = on_total pair_of (pairs_total nat_cmp nat_cmp nat_cmp_total nat_cmp_total);
      exact = λ a b e.
          let same = exact_pairs nat_cmp nat_cmp exact_unsigned exact_unsigned (pair_of a) (pair_of b) e in
          λ i. record { instance = (same i).0; run = (same i).1 };
    }

-- the instance of a number
abbrev pub known_instance : Knowledge → ℕ → Option KnownInstance
known_instance k n = lookup by_instance k.instances n

abbrev pub at_first : List ℕ → ℕ → ℕ → Knowledge
at_first name actor launch =
    record {
      name = name;
      actor = actor;
      launch = launch;
      serial = 0;
      stage = Joining;
      instances = [];
      runs = [];
    }
