-- A copy on disks that give back what was written.
use Rattle.std.proofs.Common.{◌≡◌, true, Result, Ok, Err, IfOk, IfErr, refl, subst}
use Rattle.sqlite.specs.declared.error.Error.{Error}
use Rattle.sqlite.specs.Held.{Held}
use Rattle.sqlite.specs.Start.{FindsIn}
use Rattle.sqlite.specs.State.{HasCleanDisk}
use Rattle.sqlite.specs.Files.{IsOpened, file_state, image_of}
use Rattle.sqlite_disk.specs.declared.Disk.{Ghosts}
use Rattle.sqlite_disk.specs.declared.Files.{Files}
use Rattle.sqlite_pool.specs.Pool.{state}
use Rattle.sqlite_store.specs.declared.store.FileStore.{FileStore}
use Rattle.sqlite_trees.specs.View.{doubt}
use Rattle.sqlite_wal.specs.Recovery.{Image}
use Rattle.smf_runs.specs.Copies.{IsUncopied, IsUnopened}
use Rattle.smf_runs.specs.Copies.IsUncopied.{unopened}

pub clean_disks : {D : Type 0} (g : Ghosts D) → ((d : D) → g.is_clean d ≡ true) → (c : Held (FileStore D g))
    → HasCleanDisk (file_state c)
unfolding state doubt
clean_disks g all c = rw (all c.store.pool.backing.pager.log.log, all c.store.pool.backing.pager.log.db) refl

pub finds_in : {D : Type 0} (g : Ghosts D) → ((d : D) → g.is_clean d ≡ true)
    → (files : Files D) (image : Image) (r : Result (Held (FileStore D g)) Error) → image_of g files ≡ image
    → IfOk r (λ conn. HasCleanDisk (file_state conn) → FindsIn (image_of g files) (file_state conn))
    → IfOk r (λ conn. FindsIn image (file_state conn))
finds_in g all files image (Ok conn) same found =
    subst (λ (i : Image). FindsIn i (file_state conn)) same (found (clean_disks g all conn))
finds_in g all files image (Err e) same found = tt

pub is_opened : {D : Type 0} (g : Ghosts D) → ((d : D) → g.is_clean d ≡ true)
    → (r : Result (Held (FileStore D g)) Error)
    → IfOk r (λ conn. HasCleanDisk (file_state conn) → IsOpened conn) → IfOk r (λ conn. IsOpened conn)
is_opened g all (Ok conn) opened = opened (clean_disks g all conn)
is_opened g all (Err e) opened = tt

pub is_uncopied : {D : Type 0} (g : Ghosts D) (files : Files D) (image : Image)
    (r : Result (Held (FileStore D g)) Error) → image_of g files ≡ image
    → IfErr r (λ fault. IsUnopened g files fault) → IfErr r (λ fault. IsUncopied g image fault)
is_uncopied g files image (Ok conn) same why = tt
is_uncopied g files image (Err e) same why = unopened files same why
