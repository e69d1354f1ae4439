-- The note of a contract: what is started, and what a later life has to know of it.
use Rattle.std.specs.Prelude.{◌≡◌, ℕ, List, [], ◌∷◌, ◌++◌, Bool, true, false, codes, string_bytes}
use Rattle.std.specs.Fmt.{decimal}
use Rattle.smf_contract.specs.declared.cookie.Method.{Method}
use Rattle.smf_contract.specs.declared.cookie.Method.TheVariants as methods
use Rattle.smf_contract.specs.Stated.{StatedTerms}
use Rattle.smf_edge.specs.declared.environment.Variable.{Variable}
use Rattle.smf_edge.specs.declared.environment.Variable.TheVariants.{Path, Fmri, Method as OfMethod, Restarter}
use Rattle.smf_edge.specs.declared.start.Start.{Start}
use Rattle.smf_edge.specs.Environment.{variable_name, variable_value}
use Rattle.smf_method.specs.Tokens.{method_text}
use Rattle.smf_room.specs.declared.note.Note.{Note}

-- a field of a note, with a byte 0 behind it
abbrev pub field : List ℕ → List ℕ → List ℕ
field name value = name ++ value ++ 0 ∷ []

abbrev pub bit : Bool → ℕ
bit true = 1
bit false = 0

abbrev pub terms_fields : StatedTerms → List ℕ
terms_fields t =
    field (codes "informative=") (decimal t.informative.0)
    ++ field (codes "critical=") (decimal t.critical.0)
    ++ field (codes "fatal=") (decimal t.fatal.0)
    ++ field (codes "inherit=") (decimal (bit t.inherit))
    ++ field (codes "noorphan=") (decimal (bit t.noorphan))

-- a variable of a method, as `env=NAME=VALUE`
abbrev pub variable_field : Start → Variable → List ℕ
variable_field start v = codes "env=" ++ variable_name v ++ field (codes "=") (variable_value start v)

-- the variables of a method, no other, and its words
abbrev pub method_fields : Start → List ℕ
method_fields start =
    field (codes "method=") (method_text start.method)
    ++ field (codes "fmri=") start.instance
    ++ variable_field start Path
    ++ variable_field start Fmri
    ++ variable_field start OfMethod
    ++ variable_field start Restarter
    ++ field (codes "arg=") (codes "/bin/sh")
    ++ field (codes "arg=") (codes "-c")
    ++ field (codes "arg=") start.command

abbrev pub rest_of : Start → List ℕ
rest_of start =
    field (codes "contract=") (decimal start.contract)
    ++ field (codes "cookie=") (decimal start.cookie)
    ++ terms_fields start.terms
    ++ method_fields start

-- Whose contract it is. No two of one key may run: that of a start is its instance, and any other has one of its own.
abbrev pub key_if : Bool → Start → List ℕ
key_if true start = start.instance
key_if false start = method_text start.method ++ 32 ∷ decimal start.contract ++ 32 ∷ start.instance

-- the method that starts an instance
abbrev pub is_start : Method → Bool
is_start methods.Start = true
is_start _ = false

pub record IsNoteOf (start : Start) (note : Note) : Type 0 where
  pub key : string_bytes note.instance ≡ key_if (is_start start.method) start
  pub rest : string_bytes note.rest ≡ rest_of start
