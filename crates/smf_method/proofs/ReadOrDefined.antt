-- A method that is read in one call is one that is defined and then called.
use Rattle.std.proofs.Common.{◌≡◌, ℕ, List, Option, Some, None, Result, Ok, Err, IfOk, IfSome, refl, ap}
use Rattle.std.specs.Option.{ok_or}
use Rattle.std.specs.Prelude.{codes}
use Rattle.smf_contract.specs.declared.cookie.Method.{Method}
use Rattle.smf_state.specs.declared.state.Duration.{Duration}
use Rattle.smf_value.specs.Groups.{GroupRecord, property_of, text_in}
use Rattle.smf_method.specs.declared.call.ReadMethod.{ReadMethod}
use Rattle.smf_method.specs.declared.fault.MethodFault.{MethodFault}
use Rattle.smf_method.specs.declared.fault.MethodFault.TheVariants.{NoExec, BadTimeout, BadToken, BadDuration, BadIgnore}
use Rattle.smf_method.specs.Faults.{Gives, ◌>>=◌}
use Rattle.smf_method.specs.Methods.{Definition, IsReadBy, call_of, checked_text, checked_by, command_in, define_by, definition_of, group_of, method_of, read_group, read_if}
use Rattle.smf_method.specs.Properties.{timeout_in, duration_of, ignore_of}
use Rattle.smf_method.specs.Tokens.{Names, method_text, wrong_token}

-- both definitions, by what was found
abbrev defining : Option (List ℕ) → Option (Option ℕ) → Option Duration → Option ℕ → Method
    → Result (Option Definition) MethodFault
defining t o d i method = do
  text ← ok_or t NoExec
  timeout ← ok_or o BadTimeout
  exec ← checked_text text
  duration ← ok_or d BadDuration
  ignore ← ok_or i BadIgnore
  Ok (Some (record { method = method; exec = exec; timeout = timeout; duration = duration; ignore = ignore }))

abbrev last_read : Option Duration → Option ℕ → Option ℕ → List ℕ → Result (Option ReadMethod) MethodFault
last_read d i timeout command = do
  duration ← ok_or d BadDuration
  ignore ← ok_or i BadIgnore
  Ok (Some (record { call = record { timeout = timeout; command = command }; duration = duration; ignore = ignore }))

abbrev command_read : Option Duration → Option ℕ → Option ℕ → Option (List ℕ) → Result (Option ReadMethod) MethodFault
command_read d i timeout c = do
  command ← ok_or c (BadToken 0)
  last_read d i timeout command

abbrev exec_read : Option Duration → Option ℕ → Option ℕ → Names → Result (List ℕ) MethodFault
    → Result (Option ReadMethod) MethodFault
exec_read d i timeout names r = do
  exec ← r
  command_read d i timeout (command_in names exec)

abbrev reading : Option (List ℕ) → Option (Option ℕ) → Option Duration → Option ℕ → Names
    → Result (Option ReadMethod) MethodFault
reading t o d i names = do
  text ← ok_or t NoExec
  timeout ← ok_or o BadTimeout
  exec_read d i timeout names (checked_text text)

record IsFound (t : Option (List ℕ)) (o : Option (Option ℕ)) (d : Option Duration) (i : Option ℕ) (names : Names)
    (m : ReadMethod) : Type 0 where
  definition : Definition
  defined : defining t o d i names.method ≡ Ok (Some definition)
  called : call_of definition names.restarter names.instance ≡ Ok m.call
  duration : m.duration ≡ definition.duration
  ignore : m.ignore ≡ definition.ignore

found_command : (c : Option (List ℕ)) (d : Option Duration) (i : Option ℕ) (text : List ℕ) (timeout : Option ℕ)
    (names : Names) (m : ReadMethod)
    → wrong_token 0 text ≡ None → command_in names text ≡ c → command_read d i timeout c ≡ Ok (Some m)
    → IsFound (Some text) (Some timeout) d i names m
found_command None d i text timeout names m w e h = absurd cc
found_command (Some command) None i text timeout names m w e h = absurd cc
found_command (Some command) (Some duration) None text timeout names m w e h = absurd cc
found_command (Some command) (Some duration) (Some ignore) text timeout names m w e h =
    let made : ReadMethod =
    record { call = record { timeout = timeout; command = command }; duration = duration; ignore = ignore } in
    let same : m ≡ made = cc in
    record {
      definition = record {
        method = names.method;
        exec = text;
        timeout = timeout;
        duration = duration;
        ignore = ignore;
      };
      defined = rw w refl;
      called = rw (e, same) refl;
      duration = ap (λ (r : ReadMethod). r.duration) same;
      ignore = ap (λ (r : ReadMethod). r.ignore) same;
    }

found_text : (p : Option ℕ) (d : Option Duration) (i : Option ℕ) (text : List ℕ) (timeout : Option ℕ) (names : Names)
    (m : ReadMethod)
    → wrong_token 0 text ≡ p → exec_read d i timeout names (checked_by text p) ≡ Ok (Some m)
    → IsFound (Some text) (Some timeout) d i names m
found_text None d i text timeout names m w h = found_command (command_in names text) d i text timeout names m w refl h
found_text (Some place) d i text timeout names m w h = absurd cc

found : (t : Option (List ℕ)) (o : Option (Option ℕ)) (d : Option Duration) (i : Option ℕ) (names : Names)
    (m : ReadMethod) → reading t o d i names ≡ Ok (Some m) → IsFound t o d i names m
found None o d i names m h = absurd cc
found (Some text) None d i names m h = absurd cc
found (Some text) (Some timeout) d i names m h = found_text (wrong_token 0 text) d i text timeout names m refl h

group_found : (g startd : Option GroupRecord) (gs : List GroupRecord) (names : Names) (m : ReadMethod)
    → group_of (method_text names.method) gs ≡ g → group_of (codes "startd") gs ≡ startd
    → read_if names g startd ≡ Ok (Some m) → IsReadBy gs names m
unfolding read_group define_by definition_of
group_found None startd gs names m e s h = absurd cc
group_found (Some g) startd gs names m e s h =
    let f : IsFound (text_in (property_of (codes "exec") g)) (timeout_in (property_of (codes "timeout_seconds") g))
    (duration_of startd) (ignore_of startd) names m =
    found (text_in (property_of (codes "exec") g)) (timeout_in (property_of (codes "timeout_seconds") g))
    (duration_of startd) (ignore_of startd) names m h in
    record {
      definition = f.definition;
      defined = rw (e, s) f.defined;
      called = f.called;
      duration = f.duration;
      ignore = f.ignore;
    }

-- a method that is read is a definition, as it is called
pub read_found : (r : Result (Option ReadMethod) MethodFault) (gs : List GroupRecord) (names : Names)
    → Gives r (method_of gs names) → IfOk r (λ read. IfSome read (IsReadBy gs names))
unfolding method_of
read_found (Ok None) gs names h = tt
read_found (Ok (Some m)) gs names h =
    group_found (group_of (method_text names.method) gs) (group_of (codes "startd") gs) gs names m refl refl h
read_found (Err fault) gs names h = tt
