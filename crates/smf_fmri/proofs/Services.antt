-- The name of an instance's service is a name.
use Rattle.std.proofs.Common.{◌≡◌, ℕ, zero, suc, ◌+◌, ◌≤◌, List, [], ◌∷◌, ◌++◌, length, drop, take, Bool, true, false, cond, nat_lt, Option, Some, None, is_some, Ok, refl, sym, ap, subst, arith, eqb-true, le-ltb, ltb-false, ◌∙◌}
use Rattle.std.specs.List.{position_or_len, before_first, after_first}
use Rattle.std.specs.Option.{option_map_or}
use Rattle.std.specs.Str.{IsAscii, IsCharBoundary, IsUtf8}
use Rattle.std.proofs.lemmas.Str.Ascii.{IsAscii-cons, IsAscii-nil}
use Rattle.std.proofs.lemmas.List.{append-nil, take-append-drop}
use Rattle.std.proofs.lemmas.Str.{IsCharBoundary-from_take, IsUtf8-append, IsUtf8-from_ascii}
use Rattle.std.proofs.Math.Seq.{take-append-add, take-append_seam}
use Rattle.smf_fmri.specs.declared.reader.Place.{Place}
use Rattle.smf_fmri.specs.declared.reader.Place.TheVariants.{Start, Begin, Service, BeginInstance, Instance}
use Rattle.smf_fmri.specs.Name.{next, wrong_at, end_wrong_at, short, name_of_text}
use Rattle.smf_fmri.specs.Patterns.{is_colon, parts_of, service_of, named_service, IsServiceName}
use Rattle.smf_fmri.proofs.Whole.{name_is_short, read_is_spelled, short_again}

-- a reader that has begun
abbrev HasBegun : Place → Type 0
HasBegun Start = ⊥
HasBegun p = Unit {0}

begun_by : (v w x : Bool) (q : Place) → cond v (Some Service) (cond w (Some Begin) (cond x (Some BeginInstance) None))
    ≡ Some q → HasBegun q
begun_by true w x q h = let at : Service ≡ q = cc in rw (← at) tt
begun_by false true x q h = let at : Begin ≡ q = cc in rw (← at) tt
begun_by false false true q h = let at : BeginInstance ≡ q = cc in rw (← at) tt
begun_by false false false q h = cc

begun_first : (v : Bool) (q : Place) → cond v (Some Service) None ≡ Some q → HasBegun q
begun_first true q h = let at : Service ≡ q = cc in rw (← at) tt
begun_first false q h = cc

begun_instance : (v : Bool) (n : ℕ) (q : Place) → cond v (Some (Instance n)) None ≡ Some q → HasBegun q
begun_instance true n q h = let at : Instance n ≡ q = cc in rw (← at) tt
begun_instance false n q h = cc

begun_next : (p q : Place) (b : ℕ) → HasBegun p → next p b ≡ Some q → HasBegun q
begun_next Start q b h e = absurd h
begun_next Begin q b h e = begun_first _ q e
begun_next Service q b h e = begun_by _ _ _ q e
begun_next BeginInstance q b h e = begun_instance _ 1 q e
begun_next (Instance n) q b h e = begun_instance _ (n + 1) q e

-- a service can end at any place at which a colon can stand
ends_before_colon : (p : Place) (o : Option Place) (at : ℕ) (bs : List ℕ) → HasBegun p → next p 58 ≡ o
    → option_map_or (λ q. wrong_at q (at + 1) bs) o (Some at) ≡ None → end_wrong_at p at ≡ None
ends_before_colon Start o at bs h e w = absurd h
ends_before_colon Begin o at bs h e w = let none : o ≡ None = sym e in let k = rw none at w in cc
ends_before_colon Service o at bs h e w = refl
ends_before_colon BeginInstance o at bs h e w = let none : o ≡ None = sym e in let k = rw none at w in cc
ends_before_colon (Instance n) o at bs h e w = refl

goes_on : (p : Place) (o : Option Place) (b at : ℕ) (bs cs : List ℕ) → HasBegun p → next p b ≡ o
    → option_map_or (λ q. wrong_at q (at + 1) bs) o (Some at) ≡ None
    → ((q : Place) → HasBegun q → wrong_at q (at + 1) bs ≡ None → wrong_at q (at + 1) cs ≡ None)
    → option_map_or (λ q. wrong_at q (at + 1) cs) o (Some at) ≡ None
goes_on p None b at bs cs h e w k = cc
goes_on p (Some q) b at bs cs h e w k = k q (begun_next p q b h e) w

cut_by : (v : Bool) (p : Place) (b at : ℕ) (bs : List ℕ) → HasBegun p → is_colon b ≡ v → wrong_at p at (b ∷ bs) ≡ None
    → ((q : Place) → HasBegun q → wrong_at q (at + 1) bs ≡ None
    → wrong_at q (at + 1) (before_first is_colon bs) ≡ None) → wrong_at p at (before_first is_colon (b ∷ bs)) ≡ None
cut_by true p b at bs h e w k =
    let is : b ≡ 58 = eqb-true b 58 e in
    let colon : wrong_at p at (58 ∷ bs) ≡ None = rw is at w in
    rw e (ends_before_colon p (next p 58) at bs h refl colon)
cut_by false p b at bs h e w k =
    let step : 1 + position_or_len is_colon bs ≡ suc (position_or_len is_colon bs) = omega arith in
    rw (e, step) (goes_on p (next p b) b at bs (before_first is_colon bs) h refl w k)

-- the text before the first colon is read too
cut : (p : Place) (at : ℕ) (bs : List ℕ) → HasBegun p → wrong_at p at bs ≡ None
    → wrong_at p at (before_first is_colon bs) ≡ None
cut p at [] h w = w
cut p at (b ∷ bs) h w = cut_by _ p b at bs h refl w (λ q g v. cut q (at + 1) bs g v)

-- no colon stands before the first one
no_colon_by : (v : Bool) (b : ℕ) (bs : List ℕ) → is_colon b ≡ v
    → length (before_first is_colon bs) ≤ position_or_len is_colon (before_first is_colon bs)
    → length (before_first is_colon (b ∷ bs)) ≤ position_or_len is_colon (before_first is_colon (b ∷ bs))
no_colon_by true b bs e h = rw e (omega arith)
no_colon_by false b bs e h =
    let step : 1 + position_or_len is_colon bs ≡ suc (position_or_len is_colon bs) = omega arith in
    rw (e, step, e) (omega arith)

no_colon : (bs : List ℕ) → length (before_first is_colon bs) ≤ position_or_len is_colon (before_first is_colon bs)
no_colon [] = omega arith
no_colon (b ∷ bs) = no_colon_by _ b bs refl (no_colon bs)

taken_is_shorter : (k : ℕ) (xs : List ℕ) → length (take k xs) ≤ length xs
taken_is_shorter zero xs = omega arith
taken_is_shorter (suc k) [] = omega arith
taken_is_shorter (suc k) (x ∷ xs) = let less = taken_is_shorter k xs in omega arith

small_short : (s rest : List ℕ) → length (short ++ rest) ≤ 512 → length s ≤ length rest → length (short ++ s) ≤ 512
small_short s rest low less = omega arith

-- the service in the part of a name after its scheme
record IsServiceIn (rest service : List ℕ) : Type 0 where
  reads : wrong_at Begin 0 service ≡ None
  bounded : length service ≤ length rest
  alone : length service ≤ position_or_len is_colon service

service_by : (v : Bool) (rest : List ℕ) → nat_lt (position_or_len is_colon rest) (length rest) ≡ v
    → wrong_at Begin 0 rest ≡ None
    → IsServiceIn rest
    (cond {A = List ℕ × Option (List ℕ)} v (before_first is_colon rest, Some (after_first is_colon rest))
    (rest, None)).0
service_by true rest e w =
    record {
      reads = cut Begin 0 rest tt w;
      bounded = taken_is_shorter (position_or_len is_colon rest) rest;
      alone = no_colon rest;
    }
service_by false rest e w =
    record { reads = w; bounded = omega arith; alone = ltb-false (position_or_len is_colon rest) (length rest) e }

alone_is_service : (s : List ℕ) → length s ≤ position_or_len is_colon s → is_some (parts_of s).1 ≡ false
alone_is_service s h = let none : nat_lt (position_or_len is_colon s) (length s) ≡ false =
    le-ltb (position_or_len is_colon s) (length s) h in rw none refl

-- the name of the service of a name
pub service_named : (name : List ℕ) → name_of_text name ≡ Ok name → IsServiceName (short ++ service_of name)
service_named name h =
    let s = name_is_short name h in
    let part : IsServiceIn s.rest (parts_of s.rest).0 = service_by _ s.rest refl s.body in
    let same : service_of name ≡ (parts_of s.rest).0 = ap (λ t. (parts_of (drop 5 t)).0) s.shown in
    let low : length name ≤ 512 = (read_is_spelled name name h).bounded in
    let small : length (short ++ (parts_of s.rest).0) ≤ 512 =
    small_short (parts_of s.rest).0 s.rest (subst (λ (t : List ℕ). length t ≤ 512) s.shown low) part.bounded in
    rw same (record {
      reads = short_again (parts_of s.rest).0 part.reads small;
      names = alone_is_service (parts_of s.rest).0 part.alone;
    })

-- the same of a copy of the name, as it is shown
pub shown_service : (inside shown : List ℕ) → name_of_text inside ≡ Ok inside → inside ≡ shown
    → IsServiceName (short ++ service_of shown)
shown_service inside shown h e =
    subst (λ (t : List ℕ). IsServiceName (short ++ service_of t)) e (service_named inside h)

pub is_named_service : (name : List ℕ) → IsServiceName name → named_service name ≡ Some name
is_named_service name h = rw h.names refl

-- ---- the text of the service stands in front of a name

record IsFront (whole front : List ℕ) : Type 0 where
  rest : List ℕ
  is : whole ≡ front ++ rest

front_by : (v : Bool) (rest : List ℕ)
    → IsFront rest
    (cond {A = List ℕ × Option (List ℕ)} v (before_first is_colon rest, Some (after_first is_colon rest))
    (rest, None)).0
front_by true rest =
    record {
      rest = drop (position_or_len is_colon rest) rest;
      is = sym (take-append-drop (position_or_len is_colon rest) rest);
    }
front_by false rest = record { rest = []; is = sym (append-nil rest) }

cut_front : (name : List ℕ) → name_of_text name ≡ Ok name
    → take (5 + length (service_of name)) name ≡ short ++ service_of name
cut_front name h =
    let s = name_is_short name h in
    let service : List ℕ = (parts_of s.rest).0 in
    let f : IsFront s.rest (parts_of s.rest).0 = front_by _ s.rest in
    let same : service_of name ≡ (parts_of s.rest).0 = ap (λ t. (parts_of (drop 5 t)).0) s.shown in
    let whole : name ≡ short ++ ((parts_of s.rest).0 ++ f.rest) = s.shown ∙ ap (λ (t : List ℕ). short ++ t) f.is in
    let step : take (5 + length (parts_of s.rest).0) (short ++ ((parts_of s.rest).0 ++ f.rest))
    ≡ short ++ (parts_of s.rest).0 =
    take-append-add short ((parts_of s.rest).0 ++ f.rest) (length (parts_of s.rest).0)
    ∙ ap (λ (t : List ℕ). short ++ t) (take-append_seam (parts_of s.rest).0 f.rest) in
    rw same (ap (take (5 + length (parts_of s.rest).0)) whole ∙ step)

cut_within : (name : List ℕ) → name_of_text name ≡ Ok name → 5 + length (service_of name) ≤ length name
cut_within name h =
    let s = name_is_short name h in
    let part : IsServiceIn s.rest (parts_of s.rest).0 = service_by _ s.rest refl s.body in
    let same : service_of name ≡ (parts_of s.rest).0 = ap (λ t. (parts_of (drop 5 t)).0) s.shown in
    let long : 5 + length (parts_of s.rest).0 ≤ length (short ++ s.rest) = let b = part.bounded in omega arith in
    rw same (subst (λ (t : List ℕ). 5 + length (parts_of s.rest).0 ≤ length t) (sym s.shown) long)

pub front_is : (name service : List ℕ) → name_of_text name ≡ Ok name → service ≡ service_of name
    → take (5 + length service) name ≡ short ++ service
front_is name service h e = rw e (cut_front name h)

short_is_ascii : IsAscii short
short_is_ascii =
    IsAscii-cons 115 (118 ∷ 99 ∷ 58 ∷ 47 ∷ []) (omega arith)
    (IsAscii-cons 118 (99 ∷ 58 ∷ 47 ∷ []) (omega arith)
    (IsAscii-cons 99 (58 ∷ 47 ∷ []) (omega arith)
    (IsAscii-cons 58 (47 ∷ []) (omega arith)
    (IsAscii-cons 47 [] (omega arith) IsAscii-nil))))

pub is_cut : (name service : List ℕ) → name_of_text name ≡ Ok name → service ≡ service_of name → IsUtf8 name
    → IsUtf8 service → IsCharBoundary name (5 + length service)
is_cut name service h e whole front =
    IsCharBoundary-from_take name (5 + length service) whole (rw e (cut_within name h))
    (subst IsUtf8 (sym (front_is name service h e))
    (IsUtf8-append short service (IsUtf8-from_ascii short short_is_ascii) front))
