-- Commands and tokens.
use Rattle.std.proofs.Common.{◌≡◌, ℕ, suc, ◌+◌, List, [], ◌∷◌, Bool, true, false, cond, Option, Some, None, Result, Ok, Err, refl, ap, ◌∙◌, subst, arith, eqb, eqb-true}
use Rattle.std.specs.Option.{ok_or}
use Rattle.std.specs.Prelude.{codes}
use Rattle.smf_state.specs.declared.state.Duration.{Duration}
use Rattle.smf_value.specs.Groups.{GroupRecord, property_of, text_in}
use Rattle.smf_method.specs.declared.call.MethodCall.{MethodCall}
use Rattle.smf_method.specs.declared.call.ReadMethod.{ReadMethod}
use Rattle.smf_method.specs.declared.fault.MethodFault.{MethodFault}
use Rattle.smf_method.specs.declared.fault.MethodFault.TheVariants.{NoExec, BadTimeout, BadToken, BadDuration, BadIgnore}
use Rattle.smf_method.specs.Faults.{◌>>=◌}
use Rattle.smf_method.specs.Methods.{Definition, call_with, checked_by, checked_text, command_in, group_of, method_of, read_group, read_if}
use Rattle.smf_method.specs.Properties.{duration_of, ignore_of, timeout_in}
use Rattle.smf_method.specs.Tokens.{Byte, Names, Replaces, Token, is_token, method_text, wrong_token}
use Rattle.smf_method.proofs.Replaced.{call_found}
use Rattle.smf_meaning.specs.Commands.{BeginsNoToken, IsCommandOf, IsWrongToken}

bind_ok : {A B : Type 0} (r : Result A MethodFault) (f : A → Result B MethodFault) (y : B) → (r >>= f) ≡ Ok y
    → (x : A) × (r ≡ Ok x) × (f x ≡ Ok y)
bind_ok (Ok x) f y e = (x, refl, e)
bind_ok (Err fault) f y e = absurd cc

found : {A : Type 0} (o : Option A) (fault : MethodFault) (x : A) → ok_or o fault ≡ Ok x → o ≡ Some x
found None fault x e = absurd cc
found (Some y) fault x e = let same : y ≡ x = cc in ap Some same

checked : (o : Option ℕ) (exec text : List ℕ) → wrong_token 0 exec ≡ o → checked_by exec o ≡ Ok text
    → (exec ≡ text) × (wrong_token 0 exec ≡ None)
checked None exec text w e = (cc, w)
checked (Some place) exec text w e = absurd cc

replaced : (names : Names) (text command : List ℕ) → wrong_token 0 text ≡ None → command_in names text ≡ Some command
    → Replaces names text command
replaced names text command w e =
    let d : Definition =
    record {
      method = names.method;
      exec = text;
      timeout = None;
      duration = Rattle.smf_state.specs.declared.state.Duration.TheVariants.Contract;
      ignore = 0;
    } in
    let call : MethodCall = record { timeout = None; command = command } in
    call_found (Ok call) d names.restarter names.instance w (ap (call_with None) e)

read_is : (gs : List GroupRecord) (names : Names) (g : GroupRecord) (startd : Option GroupRecord) (read : ReadMethod)
    → group_of (method_text names.method) gs ≡ Some g → read_group names g startd ≡ Ok (Some read)
    → IsCommandOf gs names read.call.command
unfolding read_group
read_is gs names g startd read there e =
    let a = bind_ok (ok_or (text_in (property_of (codes "exec") g)) NoExec) _ (Some read) e in
    let b = bind_ok (ok_or (timeout_in (property_of (codes "timeout_seconds") g)) BadTimeout) _ (Some read) a.2 in
    let c = bind_ok (checked_text a.0) _ (Some read) b.2 in
    let d = bind_ok (ok_or (command_in names c.0) (BadToken 0)) _ (Some read) c.2 in
    let f = bind_ok (ok_or (duration_of startd) BadDuration) _ (Some read) d.2 in
    let i = bind_ok (ok_or (ignore_of startd) BadIgnore) _ (Some read) f.2 in
    let text = found (text_in (property_of (codes "exec") g)) NoExec a.0 a.1 in
    let good = checked (wrong_token 0 a.0) a.0 c.0 refl c.1 in
    let command = found (command_in names c.0) (BadToken 0) d.0 d.1 in
    let made : ReadMethod = record { call = record { timeout = b.0; command = d.0 }; duration = f.0; ignore = i.0 } in
    let same : made ≡ read = given made read i.2 in
    subst (λ (r : ReadMethod). IsCommandOf gs names r.call.command) same
    (record {
      group = g;
      text = a.0;
      is_there = there;
      exec = text;
      replaced = replaced names a.0 d.0 good.1 (ap (command_in names) good.0 ∙ command);
    })
  where
    given : (x y : ReadMethod) → ◌≡◌ {A = Result (Option ReadMethod) MethodFault} (Ok (Some x)) (Ok (Some y)) → x ≡ y
    given x y e = cc

group_is : (o startd : Option GroupRecord) (gs : List GroupRecord) (names : Names) (read : ReadMethod)
    → group_of (method_text names.method) gs ≡ o
    → read_if names o startd ≡ Ok (Some read) → IsCommandOf gs names read.call.command
group_is None startd gs names read there e = absurd cc
group_is (Some g) startd gs names read there e = read_is gs names g startd read there e

pub command_is : (gs : List GroupRecord) (names : Names) (read : ReadMethod) → method_of gs names ≡ Ok (Some read)
    → IsCommandOf gs names read.call.command
unfolding method_of
command_is gs names read e =
    group_is (group_of (method_text names.method) gs) (group_of (codes "startd") gs) gs names read refl e

-- ---- tokens

record Told (at : ℕ) (text : List ℕ) (place : ℕ) : Type 0 where
  inside : ℕ
  wrong : IsWrongToken text inside
  place_is : place ≡ at + inside

here : (at place : ℕ) (b : ℕ) (rest : List ℕ) → eqb b 37 ≡ true → BeginsNoToken rest → at ≡ place
    → Told at (b ∷ rest) place
here at place b rest e none same =
    record {
      inside = 0;
      wrong = record {
        pieces = [];
        rest = rest;
        formed = tt;
        split = ap (λ (c : ℕ). c ∷ rest) (eqb-true b 37 e);
        none = none;
        place_is = refl;
      };
      place_is = omega arith;
    }

byte_more : (at b place : ℕ) (text : List ℕ) → eqb b 37 ≡ false → Told (at + 1) text place → Told at (b ∷ text) place
byte_more at b place text e t =
    record {
      inside = suc t.inside;
      wrong = record {
        pieces = Byte b ∷ t.wrong.pieces;
        rest = t.wrong.rest;
        formed = (e, t.wrong.formed);
        split = ap (λ (l : List ℕ). b ∷ l) t.wrong.split;
        none = t.wrong.none;
        place_is = ap suc t.wrong.place_is;
      };
      place_is = let p = t.place_is in omega arith;
    }

token_more : (at b c place : ℕ) (text : List ℕ) → eqb b 37 ≡ true → is_token c ≡ true → Told (at + 2) text place
    → Told at (b ∷ c ∷ text) place
token_more at b c place text e k t =
    record {
      inside = suc (suc t.inside);
      wrong = record {
        pieces = Token c ∷ t.wrong.pieces;
        rest = t.wrong.rest;
        formed = (k, t.wrong.formed);
        split = λ i. eqb-true b 37 e i ∷ c ∷ t.wrong.split i;
        none = t.wrong.none;
        place_is = ap (λ (n : ℕ). suc (suc n)) t.wrong.place_is;
      };
      place_is = let p = t.place_is in omega arith;
    }

last : (v : Bool) (at b place : ℕ) → eqb b 37 ≡ v → cond {A = Option ℕ} v (Some at) None ≡ Some place
    → Told at (b ∷ []) place
last true at b place e h = here at place b [] e tt cc
last false at b place e h = absurd cc

two : (v w : Bool) (at b c place : ℕ) (cs : List ℕ) (x y : Option ℕ) → eqb b 37 ≡ v → is_token c ≡ w
    → cond v (cond w x (Some at)) y ≡ Some place
    → (x ≡ Some place → Told (at + 2) cs place) → (y ≡ Some place → Told (at + 1) (c ∷ cs) place)
    → Told at (b ∷ c ∷ cs) place
two true true at b c place cs x y e k h token byte = token_more at b c place cs e k (token h)
two true false at b c place cs x y e k h token byte = here at place b (c ∷ cs) e k cc
two false w at b c place cs x y e k h token byte = byte_more at b place (c ∷ cs) e (byte h)

told : (at : ℕ) (text : List ℕ) (place : ℕ) → wrong_token at text ≡ Some place → Told at text place
unfolding wrong_token
told at [] place h = absurd cc
told at (b ∷ []) place h = last (eqb b 37) at b place refl h
told at (b ∷ c ∷ cs) place h =
    two (eqb b 37) (is_token c) at b c place cs (wrong_token (at + 2) cs) (wrong_token (at + 1) (c ∷ cs)) refl refl h
    (λ x. told (at + 2) cs place x) (λ y. told (at + 1) (c ∷ cs) place y)

pub token_wrong : (text : List ℕ) (place : ℕ) → wrong_token 0 text ≡ Some place → IsWrongToken text place
token_wrong text place h =
    let t = told 0 text place h in
    let same : t.inside ≡ place = let p = t.place_is in omega arith in
    subst (IsWrongToken text) same t.wrong
