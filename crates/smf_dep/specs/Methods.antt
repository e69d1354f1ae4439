-- The methods of an instance, and if they let it be run.
use Rattle.std.specs.Prelude.{ℕ, List, Bool, true, false, ◌||◌, Option, Some, None, Result, Ok, Err}
use Rattle.smf_contract.specs.declared.cookie.Method.{Method}
use Rattle.smf_contract.specs.declared.cookie.Method.TheVariants as methods
use Rattle.smf_method.specs.declared.call.ReadMethod.{ReadMethod}
use Rattle.smf_method.specs.declared.fault.MethodFault.{MethodFault}
use Rattle.smf_method.specs.Methods.{method_of}
use Rattle.smf_method.specs.Tokens.{names_of}
use Rattle.smf_value.specs.Groups.{GroupRecord}

abbrev pub MethodRead : Type 0
MethodRead = Result (Option ReadMethod) MethodFault

-- one that can't be read
abbrev pub is_unreadable : MethodRead → Bool
is_unreadable (Err fault) = true
is_unreadable (Ok read) = false

-- one that is not there, or can't be read
abbrev pub is_lacking : MethodRead → Bool
is_lacking (Ok (Some read)) = false
is_lacking (Ok None) = true
is_lacking (Err fault) = true

-- a method of an instance of a restarter, by its groups
abbrev pub method_by : List ℕ → List ℕ → List GroupRecord → Method → MethodRead
method_by restarter instance groups method = method_of groups (names_of restarter method instance)

-- there is no start method, or one of the three can't be read
unfoldable pub has_unfit_methods : List ℕ → List ℕ → List GroupRecord → Bool
has_unfit_methods restarter instance groups =
    is_lacking (method_by restarter instance groups methods.Start)
    || is_unreadable (method_by restarter instance groups methods.Stop)
    || is_unreadable (method_by restarter instance groups methods.Refresh)
