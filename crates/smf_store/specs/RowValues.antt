-- The value that a row shows by its columns; none if it breaks the grammar of its table.
use Rattle.std.specs.Prelude.{ℕ, ℤ, pos, List, [], ◌∷◌, ◌++◌, nat_eq, nat_le, Bool, Option, Some, None, option_map, Result, Ok, Err, if◌then◌else◌}
use Rattle.std.specs.Cmp.Lexicographic.{pointwise}
use Rattle.std.specs.Str.{is_utf8}
use Rattle.smf_fmri.specs.declared.limits.TheConstants.{MAX_COUNT}
use Rattle.sqlite.specs.declared.types.Value.{Value}
use Rattle.sqlite.specs.declared.types.Value.TheVariants.{Null, Int, Text, Blob}
use Rattle.sqlite.specs.Order.{Row, column}
use Rattle.smf_fmri.specs.declared.fault.FmriFault.{FmriFault}
use Rattle.smf_fmri.specs.Patterns.{named_service, read_short, service_of}
use Rattle.smf_fmri.specs.Name.{name_of_text, short}
use Rattle.smf_state.specs.declared.row.Row.{Row as StateRow}
use Rattle.smf_state.specs.Texts.{read_row}
use Rattle.smf_value.specs.Groups.{GroupRecord}
use Rattle.smf_value.specs.Decoder.{groups_of_body}
use Rattle.smf_snap.specs.Body.{decoded_snapshot}
use Rattle.smf_snap.specs.declared.body.SnapshotBody.{SnapshotBody as Kept}
use Rattle.smf_model.specs.declared.held.Instance.{Instance}
use Rattle.smf_model.specs.declared.held.Launch.{Launch}
use Rattle.smf_model.specs.declared.held.Snapshot.{Snapshot}

infixl 10 ◌>>=◌
abbrev pub ◌>>=◌ : {A B : Type 0} → Option A → (A → Option B) → Option B
None >>= f = None
(Some x) >>= f = f x

-- the value, if the test passes
abbrev pub value_if : {A : Type 0} → Bool → A → Option A
value_if test x = if test then Some x else None

abbrev pub read_well : {A E : Type 0} → Result A E → Option A
read_well (Ok x) = Some x
read_well (Err e) = None

-- ---- a column

abbrev pub integer_in : Value → Option ℤ
integer_in (Int n) = Some n
integer_in _ = None

abbrev pub count_in : Value → Option ℕ
count_in (Int (pos n)) = Some n
count_in _ = None

abbrev pub text_in : Value → Option (List ℕ)
text_in (Text t) = value_if (is_utf8 t) t
text_in _ = None

abbrev pub bytes_in : Value → Option (List ℕ)
bytes_in (Blob b) = Some b
bytes_in _ = None

-- the greatest number that a store holds
abbrev pub greatest : ℕ
greatest = MAX_COUNT

-- a number, or NULL for none
abbrev pub optional_in : Value → Option (Option ℕ)
optional_in Null = Some None
optional_in (Int (pos n)) = option_map (λ m. Some m) (value_if (nat_le n greatest) n)
optional_in _ = None

abbrev pub number_in : Value → Option ℕ
number_in v = count_in v >>= (λ n. value_if (nat_le n greatest) n)

-- ---- names

-- a service, in the short form
abbrev pub short_by : List ℕ → Result (List ℕ) FmriFault → Option (List ℕ)
short_by text (Ok name) = if pointwise nat_eq name text then named_service name else None
short_by text (Err e) = None

unfoldable pub short_service : List ℕ → Option (List ℕ)
short_service text = short_by text (name_of_text text)

-- the name of an instance, of which the first part is its service
unfoldable pub joined_name : List ℕ → List ℕ → Option (List ℕ)
joined_name service name =
    read_short (service ++ 58 ∷ name) >>=
    (λ whole. value_if (pointwise nat_eq (short ++ service_of whole) service) whole)

-- ---- a row of each table

unfoldable pub service_said : Row → Option (List ℕ)
service_said r = text_in (column r 1) >>= (λ text. short_service text)

unfoldable pub name_said : Row → Option (List ℕ)
name_said r =
    text_in (column r 2) >>= (λ service.
    text_in (column r 3) >>= (λ name.
    joined_name service name))

unfoldable pub state_said : Row → Option StateRow
state_said r = text_in (column r 4) >>= (λ text. read_well (read_row text))

unfoldable pub instance_said : Row → Option Instance
instance_said r =
    number_in (column r 0) >>= (λ number.
    name_said r >>= (λ name.
    state_said r >>= (λ row.
    optional_in (column r 5) >>= (λ start.
    optional_in (column r 6) >>= (λ previous.
    Some (record { number = number; name = name; row = row; start = start; previous = previous }))))))

-- the only group of a body
abbrev pub only : List GroupRecord → Option GroupRecord
only (g ∷ []) = Some g
only _ = None

unfoldable pub group_said : Row → Option GroupRecord
group_said r =
    text_in (column r 3) >>= (λ name.
    bytes_in (column r 4) >>= (λ body.
    read_well (groups_of_body body) >>= (λ gs.
    only gs >>= (λ g.
    value_if (pointwise nat_eq g.name name) g))))

abbrev pub snapshot_of : ℕ → ℕ → Kept → Snapshot
snapshot_of number instance kept =
    record { number = number; instance = instance; service_groups = kept.service; instance_groups = kept.instance }

unfoldable pub snapshot_said : Row → Option Snapshot
snapshot_said r =
    number_in (column r 0) >>= (λ number.
    number_in (column r 2) >>= (λ instance.
    bytes_in (column r 3) >>= (λ body.
    read_well (decoded_snapshot body) >>= (λ kept.
    Some (snapshot_of number instance kept)))))

unfoldable pub launch_said : Row → Option Launch
launch_said r =
    text_in (column r 1) >>= (λ text.
    number_in (column r 2) >>= (λ count.
    read_short text >>= (λ name.
    Some (record { restarter = name; count = count }))))
