-- The meaning of the texts that make the tables.
use Rattle.std.proofs.Common.{◌≡◌, List, ℕ, codes, Ok, refl}
use Rattle.sqlite.specs.Command.TheVariants.{CreateTable}
use Rattle.sqlite.specs.Compile.{table_defined_by}
use Rattle.sqlite_tied.specs.Compute.{everything}
use Rattle.sqlite.specs.Listing.{understood}
use Rattle.sqlite.proofs.Callers.{IsPlain, command_of, statement_of}
use Rattle.smf_tables.specs.Schema as schema
use Rattle.smf_tables.specs.Schema.{no_schema, one_table, two_tables, three_tables, four_tables, five_tables}

abbrev pub meta_text : List ℕ
meta_text = codes "CREATE TABLE meta (k TEXT PRIMARY KEY, v INTEGER NOT NULL) STRICT"

pub meta_runs : (command_of (understood no_schema meta_text) ≡ CreateTable)
    × (statement_of meta_text (understood no_schema meta_text) ≡ meta_text)
unfolding understood everything
meta_runs = (refl, refl)

pub meta_plain : IsPlain (understood no_schema meta_text)
unfolding understood everything
meta_plain = (refl, refl)

pub meta_is : table_defined_by meta_text ≡ Ok (schema.meta_at 0)
unfolding understood everything
meta_is = refl

abbrev pub service_text : List ℕ
service_text = codes "CREATE TABLE service (name TEXT PRIMARY KEY) STRICT"

pub service_runs : (command_of (understood one_table service_text) ≡ CreateTable)
    × (statement_of service_text (understood one_table service_text) ≡ service_text)
unfolding understood everything
service_runs = (refl, refl)

pub service_plain : IsPlain (understood one_table service_text)
unfolding understood everything
service_plain = (refl, refl)

pub service_is : table_defined_by service_text ≡ Ok (schema.service_at 0)
unfolding understood everything
service_is = refl

abbrev pub instance_text : List ℕ
instance_text =
    codes "CREATE TABLE instance (id INTEGER PRIMARY KEY, service TEXT NOT NULL REFERENCES service(name), name TEXT NOT NULL, rowtext TEXT NOT NULL, start_snap INTEGER, previous_snap INTEGER, UNIQUE(service, name)) STRICT"

pub instance_runs : (command_of (understood two_tables instance_text) ≡ CreateTable)
    × (statement_of instance_text (understood two_tables instance_text) ≡ instance_text)
unfolding understood everything
instance_runs = (refl, refl)

pub instance_plain : IsPlain (understood two_tables instance_text)
unfolding understood everything
instance_plain = (refl, refl)

pub instance_is : table_defined_by instance_text ≡ Ok (schema.instance_at 0)
unfolding understood everything
instance_is = refl

abbrev pub grp_text : List ℕ
grp_text = codes
    "CREATE TABLE grp (service TEXT NOT NULL, instance INTEGER NOT NULL, name TEXT NOT NULL, body BLOB NOT NULL, PRIMARY KEY(service, instance, name)) STRICT"

pub grp_runs : (command_of (understood three_tables grp_text) ≡ CreateTable)
    × (statement_of grp_text (understood three_tables grp_text) ≡ grp_text)
unfolding understood everything
grp_runs = (refl, refl)

pub grp_plain : IsPlain (understood three_tables grp_text)
unfolding understood everything
grp_plain = (refl, refl)

pub grp_is : table_defined_by grp_text ≡ Ok (schema.grp_at 0)
unfolding understood everything
grp_is = refl

abbrev pub snap_text : List ℕ
snap_text = codes "CREATE TABLE snap (id INTEGER PRIMARY KEY, instance INTEGER NOT NULL, body BLOB NOT NULL) STRICT"

pub snap_runs : (command_of (understood four_tables snap_text) ≡ CreateTable)
    × (statement_of snap_text (understood four_tables snap_text) ≡ snap_text)
unfolding understood everything
snap_runs = (refl, refl)

pub snap_plain : IsPlain (understood four_tables snap_text)
unfolding understood everything
snap_plain = (refl, refl)

pub snap_is : table_defined_by snap_text ≡ Ok (schema.snap_at 0)
unfolding understood everything
snap_is = refl

abbrev pub restarter_text : List ℕ
restarter_text = codes "CREATE TABLE restarter (name TEXT PRIMARY KEY, launch INTEGER NOT NULL) STRICT"

pub restarter_runs : (command_of (understood five_tables restarter_text) ≡ CreateTable)
    × (statement_of restarter_text (understood five_tables restarter_text) ≡ restarter_text)
unfolding understood everything
restarter_runs = (refl, refl)

pub restarter_plain : IsPlain (understood five_tables restarter_text)
unfolding understood everything
restarter_plain = (refl, refl)

pub restarter_is : table_defined_by restarter_text ≡ Ok (schema.restarter_at 0)
unfolding understood everything
restarter_is = refl
