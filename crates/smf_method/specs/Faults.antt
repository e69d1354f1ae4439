-- Answers that may be a fault.
use Rattle.std.specs.Prelude.{◌≡◌, Result, Ok, Err}
use Rattle.smf_method.specs.declared.fault.MethodFault.{MethodFault}
use Rattle.smf_method.specs.declared.fault.MethodFault.TheVariants.{Memory}

-- a call returned what the definition gives, unless memory ran out
abbrev pub Fails : {X : Type 0} → MethodFault → Result X MethodFault → Type 0
Fails Memory given = Unit {0}
Fails e given = given ≡ Err e

abbrev pub Gives : {X : Type 0} → Result X MethodFault → Result X MethodFault → Type 0
Gives (Ok x) given = given ≡ Ok x
Gives (Err e) given = Fails e given

infixl 10 ◌>>=◌
abbrev pub ◌>>=◌ : {A B : Type 0} → Result A MethodFault → (A → Result B MethodFault) → Result B MethodFault
(Ok x) >>= f = f x
(Err e) >>= f = Err e
