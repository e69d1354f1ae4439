-- The methods that the composed groups of an instance define.
use Rattle.std.specs.Prelude.{◌≡◌, ℕ, List, codes, Option, Some, None, Result, Ok, Err, if◌then◌else◌}
use Rattle.std.specs.Option.{ok_or}
use Rattle.smf_contract.specs.declared.cookie.Method.{Method}
use Rattle.smf_fmri.specs.ByKey.{lookup}
use Rattle.smf_state.specs.declared.state.Duration.{Duration}
use Rattle.smf_value.specs.Groups.{GroupRecord, by_group, property_of, text_in}
use Rattle.smf_method.specs.declared.call.MethodCall.{MethodCall}
use Rattle.smf_method.specs.declared.call.ReadMethod.{ReadMethod}
use Rattle.smf_method.specs.declared.fault.MethodFault.{MethodFault}
use Rattle.smf_method.specs.declared.fault.MethodFault.TheVariants.{NoExec, BadTimeout, BadToken, BadDuration, BadIgnore}
use Rattle.smf_method.specs.Faults.{◌>>=◌}
use Rattle.smf_method.specs.Properties.{timeout_in, duration_of, ignore_of}
use Rattle.smf_method.specs.Tokens.{Names, names_of, method_text, wrong_token, filled_text, is_refused}

-- the definition of a method by groups: its command still has its tokens
pub record Definition : Type 0 where
  pub method : Method
  pub exec : List ℕ
  pub timeout : Option ℕ
  pub duration : Duration
  pub ignore : ℕ

abbrev pub group_of : List ℕ → List GroupRecord → Option GroupRecord
group_of name gs = lookup by_group gs name

-- a text whose tokens are good
abbrev pub checked_by : List ℕ → Option ℕ → Result (List ℕ) MethodFault
checked_by exec None = Ok exec
checked_by exec (Some place) = Err (BadToken place)

abbrev pub checked_text : List ℕ → Result (List ℕ) MethodFault
checked_text exec = checked_by exec (wrong_token 0 exec)

-- the command that a text becomes, if the method may be that
abbrev pub command_in : Names → List ℕ → Option (List ℕ)
command_in names exec = if is_refused names.method (filled_text names exec) then None else Some (filled_text names exec)

-- ---- a definition

unfoldable pub define_by : Method → GroupRecord → Option GroupRecord → Result (Option Definition) MethodFault
define_by method g startd = do
  text ← ok_or (text_in (property_of (codes "exec") g)) NoExec
  timeout ← ok_or (timeout_in (property_of (codes "timeout_seconds") g)) BadTimeout
  exec ← checked_text text
  duration ← ok_or (duration_of startd) BadDuration
  ignore ← ok_or (ignore_of startd) BadIgnore
  Ok (Some (record { method = method; exec = exec; timeout = timeout; duration = duration; ignore = ignore }))

abbrev pub define_if : Method → Option GroupRecord → Option GroupRecord → Result (Option Definition) MethodFault
define_if method None startd = Ok None
define_if method (Some g) startd = define_by method g startd

-- the definition of a method by composed groups
unfoldable pub definition_of : List GroupRecord → Method → Result (Option Definition) MethodFault
definition_of gs method = define_if method (group_of (method_text method) gs) (group_of (codes "startd") gs)

abbrev pub call_with : Option ℕ → Option (List ℕ) → Result MethodCall MethodFault
call_with timeout None = Err (BadToken 0)
call_with timeout (Some command) = Ok (record { timeout = timeout; command = command })

-- the method as it is run by a restarter for an instance
abbrev pub call_of : Definition → List ℕ → List ℕ → Result MethodCall MethodFault
call_of d restarter instance = call_with d.timeout (command_in (names_of restarter d.method instance) d.exec)

-- ---- both in one

unfoldable pub read_group : Names → GroupRecord → Option GroupRecord → Result (Option ReadMethod) MethodFault
read_group names g startd = do
  text ← ok_or (text_in (property_of (codes "exec") g)) NoExec
  timeout ← ok_or (timeout_in (property_of (codes "timeout_seconds") g)) BadTimeout
  exec ← checked_text text
  command ← ok_or (command_in names exec) (BadToken 0)
  duration ← ok_or (duration_of startd) BadDuration
  ignore ← ok_or (ignore_of startd) BadIgnore
  Ok (Some (record { call = record { timeout = timeout; command = command }; duration = duration; ignore = ignore }))

abbrev pub read_if : Names → Option GroupRecord → Option GroupRecord → Result (Option ReadMethod) MethodFault
read_if names None startd = Ok None
read_if names (Some g) startd = read_group names g startd

-- the method of composed groups, for one restarter and one instance
unfoldable pub method_of : List GroupRecord → Names → Result (Option ReadMethod) MethodFault
method_of gs names = read_if names (group_of (method_text names.method) gs) (group_of (codes "startd") gs)

-- a method that was read is a definition, as it is called
pub record IsReadBy (gs : List GroupRecord) (names : Names) (read : ReadMethod) : Type 0 where
  pub definition : Definition
  pub defined : definition_of gs names.method ≡ Ok (Some definition)
  pub called : call_of definition names.restarter names.instance ≡ Ok read.call
  pub duration : read.duration ≡ definition.duration
  pub ignore : read.ignore ≡ definition.ignore
