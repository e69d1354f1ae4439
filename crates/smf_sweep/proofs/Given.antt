-- What a system was given to start.
use Rattle.std.proofs.Common.{◌≡◌, ◌⊎◌, List, ℕ, Bool, true, MatchBool, IfErr, OnOk, Result, Ok, Err, inr, sym, subst}
use Rattle.std.specs.declared.alloc.Global.{Global}
use Rattle.std.specs.declared.process.Command.{Command}
use Rattle.smf_sweep.specs.Starts.{Gives, GivesListed, GivesOne, HasLine, Start, start_of}
use Rattle.smf_sweep.specs.Words.{is_method}
use Rattle.smf_sweep.specs.declared.lister.ListPlace.{ListPlace}

-- a method's program, with its line
pub gives_listed : {S B : Type 0} (gives : Gives S) (place : ListPlace) (boot : List ℕ) (start : Start B)
    (program : Command Global) (p q : S) → is_method start.command ≡ true → HasLine B place boot start.command program
    → gives Global p (start_of program start.stdin start.stdout start.stderr) q → GivesOne gives place boot start p q
gives_listed {S} {B} gives place boot start program p q method has given =
    let P : Bool → Type 0 = λ b. MatchBool b (GivesListed gives place boot start p q) (gives B p start q) in
    subst P (sym method) (program, has, given)

pub on_ok_given : {T E P : Type 0} (r : Result T E) → P → OnOk r P
on_ok_given (Ok x) p = p
on_ok_given (Err e) p = tt

pub if_err_given : {T E Q : Type 0} (r : Result T E) (P : E → Type 0) → Q → IfErr r (λ e. P e ⊎ Q)
if_err_given (Ok x) P q = tt
if_err_given (Err e) P q = inr q
