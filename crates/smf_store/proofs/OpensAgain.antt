-- A store of a value that commands make is opened, unless the opening fails.
use Rattle.std.proofs.Common.{◌≡◌, inl, inr, Result, Ok, Err, sym, subst, ◌∙◌}
use Rattle.sqlite.specs.Effect.{Database}
use Rattle.sqlite.specs.Schema.{Schema}
use Rattle.smf_tables.specs.Layout.{IsStore, rows_in}
use Rattle.smf_model.specs.Contents.{Holdings}
use Rattle.smf_laws.specs.Consistent.{IsConsistent}
use Rattle.smf_store.specs.declared.fault.WriteFault.{WriteFault}
use Rattle.smf_store.specs.declared.refusal.OpenFault.{OpenFault}
use Rattle.smf_store.specs.declared.refusal.OpenFault.TheVariants.{Memory, Database as Failed, Version, Damaged, TooManyInstances}
use Rattle.smf_store.specs.declared.refusal.StoreTable.{StoreTable}
use Rattle.smf_store.specs.declared.refusal.StoreTable.TheVariants.{Meta, Service, Instance, Group, Snapshot, Restarter}
use Rattle.smf_store.specs.Faults.{open_fault}
use Rattle.smf_store.specs.FirstOther.{IsThere}
use Rattle.smf_store.specs.Holds.{Stands}
use Rattle.smf_store.specs.Opens.{IsStoreOf, in_second, in_first}
use Rattle.smf_store.specs.Stages.{IsFailure, IsRefused, IsSaid, Says}
use Rattle.smf_store.proofs.Stands.{failure_of}
use Rattle.smf_store.proofs.StandsAgain.{first_again, stands_again}

-- the rows of a store of the second version say its value
pub says_again : (db : Database) (h : Holdings) (what : Result Holdings OpenFault) → Stands db h → IsConsistent h
    → Says (rows_in db) what → what ≡ Ok h
says_again db h what s c w = sym w.said ∙ stands_again db w.rows h w.listed s c

clash : (h : Holdings) (e : OpenFault) → ◌≡◌ {A = Result Holdings OpenFault} (Err e) (Ok h) → ⊥
clash h e is = cc

never_said : (db : Database) (h : Holdings) (e : OpenFault) → IsStoreOf db h → IsConsistent h → Says (rows_in db) (Err e)
    → ⊥
never_said db h e (in_second s) c w = clash h e (says_again db h (Err e) s c w)
never_said db h e (in_first s) c w = let k = first_again db w.rows h w.listed s c in clash k.0 e (sym w.said ∙ k.1)

has_tables : (db : Database) (h : Holdings) → IsStoreOf db h → IsStore db.schema
has_tables db h (in_second s) = s.holds.schema.store
has_tables db h (in_first s) = s.schema

-- each of the six stands in a store
are_there : (s : Schema) (table : StoreTable) → IsStore s → IsThere s table
are_there s Meta store = store.meta
are_there s Service store = store.service
are_there s Instance store = store.instance
are_there s Group store = store.grp
are_there s Snapshot store = store.snap
are_there s Restarter store = store.restarter

said_alone : (db : Database) (h : Holdings) (e : OpenFault) → IsStoreOf db h → IsConsistent h → IsSaid (rows_in db) e
    → IsFailure e
said_alone db h Memory s c said = tt
said_alone db h Failed s c said = tt
said_alone db h (Version n) s c said = absurd (never_said db h (Version n) s c said)
said_alone db h (Damaged table) s c said = absurd (never_said db h (Damaged table) s c said)
said_alone db h TooManyInstances s c said = absurd (never_said db h TooManyInstances s c said)

pub refused_alone : (db : Database) (e : OpenFault) (h : Holdings) → IsStoreOf db h → IsConsistent h → IsRefused db e
    → IsFailure e
refused_alone db e h s c (inl failure) = failure
refused_alone db e h s c (inr (inl other)) = absurd (other.1.1 (are_there db.schema other.0 (has_tables db h s)))
refused_alone db e h s c (inr (inr said)) = said_alone db h e s c said.1

pub failed_alone : (w : WriteFault) (e : OpenFault) → e ≡ open_fault w → IsFailure e
failed_alone w e is = subst IsFailure (sym is) (failure_of w)
