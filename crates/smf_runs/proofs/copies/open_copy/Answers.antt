use Rattle.std.proofs.Common.{refl}
use Rattle.smf_runs.proofs.Copied.{finds_in, is_opened, is_uncopied}
use Rattle.smf_runs.proofs.copies.open_copy.Goals as goal

pub returns-in-Ok-clause-found : goal.returns-in-Ok-clause-found
returns-in-Ok-clause-found c =
    finds_in _ (λ disk. refl) c.in-Ok.files _ c.open_files.result c.in-Ok.ensures.holds c.open_files.ensures.found

pub returns-in-Ok-clause-opened : goal.returns-in-Ok-clause-opened
returns-in-Ok-clause-opened c = is_opened _ (λ disk. refl) c.open_files.result c.open_files.ensures.opened

pub returns-in-Ok-clause-err : goal.returns-in-Ok-clause-err
returns-in-Ok-clause-err c =
    is_uncopied _ c.in-Ok.files _ c.open_files.result c.in-Ok.ensures.holds c.open_files.ensures.err
