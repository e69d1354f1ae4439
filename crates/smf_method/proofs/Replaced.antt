-- A command is its text with each token replaced.
use Rattle.std.proofs.Common.{◌≡◌, ℕ, ◌+◌, List, [], ◌∷◌, ◌++◌, Bool, true, false, cond, Option, Some, None, Result, Ok, Err, IfOk, refl, sym, ap, subst, eqb, eqb-true}
use Rattle.smf_method.specs.declared.call.MethodCall.{MethodCall}
use Rattle.smf_method.specs.declared.fault.MethodFault.{MethodFault}
use Rattle.smf_method.specs.Faults.{Gives}
use Rattle.smf_method.specs.Methods.{Definition, call_of, call_with}
use Rattle.smf_method.specs.Tokens.{Names, Byte, Token, Replaces, filled_text, is_refused, is_token, names_of, token_text, wrong_token}

token_more : (names : Names) (b : ℕ) (text command : List ℕ) → is_token b ≡ true → Replaces names text command
    → Replaces names (37 ∷ b ∷ text) (token_text names b ++ command)
token_more names b text command e r = record {
  pieces = Token b ∷ r.pieces;
  formed = (e, r.formed);
  text_is = ap (λ (l : List ℕ). 37 ∷ b ∷ l) r.text_is;
  command_is = ap (λ (l : List ℕ). token_text names b ++ l) r.command_is;
}

byte_more : (names : Names) (b : ℕ) (text command : List ℕ) → eqb b 37 ≡ false → Replaces names text command
    → Replaces names (b ∷ text) (b ∷ command)
byte_more names b text command e r = record {
  pieces = Byte b ∷ r.pieces;
  formed = (e, r.formed);
  text_is = ap (λ (l : List ℕ). b ∷ l) r.text_is;
  command_is = ap (λ (l : List ℕ). b ∷ l) r.command_is;
}

nothing : (names : Names) → Replaces names [] []
nothing names = record { pieces = []; formed = tt; text_is = refl; command_is = refl }

last : (v : Bool) (names : Names) (at b : ℕ) → eqb b 37 ≡ v → cond {A = Option ℕ} v (Some at) None ≡ None
    → Replaces names (b ∷ []) (cond v [] (b ∷ []))
last true names at b e h = absurd cc
last false names at b e h = byte_more names b [] [] e (nothing names)

two : (v w : Bool) (names : Names) (at b c : ℕ) (cs : List ℕ) (x y : Option ℕ) → eqb b 37 ≡ v → is_token c ≡ w
    → cond v (cond w x (Some at)) y ≡ None
    → (x ≡ None → Replaces names cs (filled_text names cs))
    → (y ≡ None → Replaces names (c ∷ cs) (filled_text names (c ∷ cs)))
    → Replaces names (b ∷ c ∷ cs) (cond v (token_text names c ++ filled_text names cs) (b ∷ filled_text names (c ∷ cs)))
two true true names at b c cs x y e s h token byte =
    let P : ℕ → Type 0 = λ k. Replaces names (k ∷ c ∷ cs) (token_text names c ++ filled_text names cs) in
    subst P (sym (eqb-true b 37 e)) (token_more names c cs (filled_text names cs) s (token h))
two true false names at b c cs x y e s h token byte = absurd cc
two false w names at b c cs x y e s h token byte = byte_more names b (c ∷ cs) (filled_text names (c ∷ cs)) e (byte h)

replaces : (names : Names) (at : ℕ) (text : List ℕ) → wrong_token at text ≡ None
    → Replaces names text (filled_text names text)
unfolding wrong_token filled_text
replaces names at [] h = nothing names
replaces names at (b ∷ []) h = last (eqb b 37) names at b refl h
replaces names at (b ∷ c ∷ cs) h =
    two (eqb b 37) (is_token c) names at b c cs (wrong_token (at + 2) cs) (wrong_token (at + 1) (c ∷ cs)) refl refl h
    (λ x. replaces names (at + 2) cs x) (λ y. replaces names (at + 1) (c ∷ cs) y)

called_by : (v : Bool) (names : Names) (exec command : List ℕ) (timeout : Option ℕ) (call : MethodCall)
    → call_with timeout (cond {A = Option (List ℕ)} v None (Some command)) ≡ Ok call
    → Replaces names exec command → Replaces names exec call.command
called_by true names exec command timeout call h r = absurd cc
called_by false names exec command timeout call h r =
    let made : MethodCall = record { timeout = timeout; command = command } in
    let same : made ≡ call = cc in
    let P : MethodCall → Type 0 = λ m. Replaces names exec m.command in
    subst P same r

-- the call of a definition has its command with each token replaced
pub call_found : (r : Result MethodCall MethodFault) (d : Definition) (restarter instance : List ℕ)
    → wrong_token 0 d.exec ≡ None → Gives r (call_of d restarter instance)
    → IfOk r (λ call. Replaces (names_of restarter d.method instance) d.exec call.command)
call_found (Ok call) d restarter instance e h =
    let names = names_of restarter d.method instance in
    called_by (is_refused d.method (filled_text names d.exec)) names d.exec
    (filled_text names d.exec) d.timeout call h (replaces names 0 d.exec e)
call_found (Err fault) d restarter instance e h = tt
