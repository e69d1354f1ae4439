-- Names are plain texts, and so is a plain text with what stands for its tokens.
use Rattle.std.proofs.Common.{◌≡◌, ℕ, zero, suc, ◌+◌, ◌<◌, List, [], ◌∷◌, ◌++◌, length, take, drop, get_or, Bool, true, false, cond, ◌&&◌, Option, Some, None, Ok, refl, sym, subst, arith, eqb, eqb-true, nat_lt, unwrap_or}
use Rattle.std.proofs.lemmas.Bool.Decides.{nat_tests}
use Rattle.std.specs.Char.{is_ascii_alphanumeric}
use Rattle.std.specs.Cmp.Lexicographic.{pointwise}
use Rattle.std.specs.List.{list_all, position_or_len, before_first, after_first}
use Rattle.std.specs.Option.{option_map_or}
use Rattle.std.specs.Prelude.{nat_eq, codes}
use Rattle.smf_contract.specs.declared.cookie.Method.{Method}
use Rattle.smf_contract.specs.declared.cookie.Method.TheVariants.{Start as BeginsMethod, Stop, Refresh}
use Rattle.smf_fmri.specs.declared.reader.Place.{Place}
use Rattle.smf_fmri.specs.declared.reader.Place.TheVariants.{Start, Begin, Service, BeginInstance, Instance}
use Rattle.smf_fmri.specs.Name.{is_word_byte, next, wrong_at, name_of_text}
use Rattle.smf_fmri.specs.Patterns.{is_colon, service_of}
use Rattle.smf_fmri.proofs.Whole.{name_is_short}
use Rattle.smf_value.specs.Texts.{is_plain, is_astring}
use Rattle.smf_method.specs.Tokens.{Names, filled_text, token_text, restarter_text, method_text, instance_text}

-- ---- plain texts

both : (a b : Bool) → a ≡ true → b ≡ true → (a && b) ≡ true
both true b e f = f
both false b e f = e

first_holds : (a b : Bool) → (a && b) ≡ true → a ≡ true
first_holds true b e = refl
first_holds false b e = e

second_holds : (a b : Bool) → (a && b) ≡ true → b ≡ true
second_holds true b e = e
second_holds false b e = absurd cc

abbrev IsPlain : List ℕ → Type 0
IsPlain text = list_all is_plain text ≡ true

head_plain : (x : ℕ) (xs : List ℕ) → IsPlain (x ∷ xs) → is_plain x ≡ true
head_plain x xs h = first_holds (is_plain x) (list_all is_plain xs) h

tail_plain : (x : ℕ) (xs : List ℕ) → IsPlain (x ∷ xs) → IsPlain xs
tail_plain x xs h = second_holds (is_plain x) (list_all is_plain xs) h

cons_plain : (x : ℕ) (xs : List ℕ) → is_plain x ≡ true → IsPlain xs → IsPlain (x ∷ xs)
cons_plain x xs e h = both (is_plain x) (list_all is_plain xs) e h

append_plain : (xs ys : List ℕ) → IsPlain xs → IsPlain ys → IsPlain (xs ++ ys)
append_plain [] ys h k = k
append_plain (x ∷ xs) ys h k = cons_plain x (xs ++ ys) (head_plain x xs h) (append_plain xs ys (tail_plain x xs h) k)

take_plain : (k : ℕ) (xs : List ℕ) → IsPlain xs → IsPlain (take k xs)
take_plain zero xs h = refl
take_plain (suc k) [] h = refl
take_plain (suc k) (x ∷ xs) h = cons_plain x (take k xs) (head_plain x xs h) (take_plain k xs (tail_plain x xs h))

drop_plain : (k : ℕ) (xs : List ℕ) → IsPlain xs → IsPlain (drop k xs)
drop_plain zero xs h = h
drop_plain (suc k) [] h = h
drop_plain (suc k) (x ∷ xs) h = drop_plain k xs (tail_plain x xs h)

either_plain : (b : Bool) (xs ys : List ℕ) → IsPlain xs → IsPlain ys → IsPlain (cond b xs ys)
either_plain true xs ys h k = h
either_plain false xs ys h k = k

plain_is_ascii : (b : ℕ) → is_plain b ≡ true → b < 128
plain_is_ascii b h = grind (arith, nat_tests)

-- each byte of a plain text is of ASCII
pub byte_is_ascii : (xs : List ℕ) (i : ℕ) → IsPlain xs → i < length xs → get_or xs i 0 < 128
byte_is_ascii [] i h low = omega arith
byte_is_ascii (x ∷ xs) zero h low = plain_is_ascii x (head_plain x xs h)
byte_is_ascii (x ∷ xs) (suc i) h low = byte_is_ascii xs i (tail_plain x xs h) (omega arith)

-- an astring is plain
pub astring_is_plain : (text : List ℕ) → is_astring text ≡ true → list_all is_plain text ≡ true
astring_is_plain text h = second_holds _ (list_all is_plain text) h

-- ---- names

letter_plain : (b : ℕ) → is_ascii_alphanumeric b ≡ true → is_plain b ≡ true
letter_plain b h = grind (arith, nat_tests)

word_plain : (b : ℕ) → is_word_byte b ≡ true → is_plain b ≡ true
word_plain b h = grind (arith, nat_tests)

plain_begin : (v : Bool) (p q : Place) (b : ℕ) → is_ascii_alphanumeric b ≡ v → cond v (Some p) None ≡ Some q
    → is_plain b ≡ true
plain_begin true p q b e h = letter_plain b e
plain_begin false p q b e h = absurd cc

plain_start : (v w : Bool) (q : Place) (b : ℕ) → is_ascii_alphanumeric b ≡ v → eqb b 58 ≡ w
    → cond v (Some Service) (cond w (Some BeginInstance) None) ≡ Some q → is_plain b ≡ true
plain_start true w q b e s h = letter_plain b e
plain_start false true q b e s h = rw (eqb-true b 58 s) refl
plain_start false false q b e s h = absurd cc

plain_service : (u v w : Bool) (q : Place) (b : ℕ) → is_word_byte b ≡ u → eqb b 47 ≡ v → eqb b 58 ≡ w
    → cond u (Some Service) (cond v (Some Begin) (cond w (Some BeginInstance) None)) ≡ Some q → is_plain b ≡ true
plain_service true v w q b e s c h = word_plain b e
plain_service false true w q b e s c h = rw (eqb-true b 47 s) refl
plain_service false false true q b e s c h = rw (eqb-true b 58 c) refl
plain_service false false false q b e s c h = absurd cc

plain_instance : (v w : Bool) (n : ℕ) (q : Place) (b : ℕ) → is_word_byte b ≡ v
    → cond (v && w) (Some (Instance (n + 1))) None ≡ Some q → is_plain b ≡ true
plain_instance true w n q b e h = word_plain b e
plain_instance false w n q b e h = absurd cc

next_plain : (p q : Place) (b : ℕ) → next p b ≡ Some q → is_plain b ≡ true
next_plain Start q b h = plain_start _ _ q b refl refl h
next_plain Begin q b h = plain_begin _ Service q b refl h
next_plain BeginInstance q b h = plain_begin _ (Instance 1) q b refl h
next_plain Service q b h = plain_service _ _ _ q b refl refl refl h
next_plain (Instance n) q b h = plain_instance (is_word_byte b) (nat_lt n 255) n q b refl h

plain_by : (o : Option Place) (p : Place) (b at : ℕ) (bs : List ℕ) → next p b ≡ o
    → option_map_or (λ q. wrong_at q (at + 1) bs) o (Some at) ≡ None
    → ((q : Place) → wrong_at q (at + 1) bs ≡ None → IsPlain bs) → IsPlain (b ∷ bs)
plain_by None p b at bs e h k = absurd cc
plain_by (Some q) p b at bs e h k = cons_plain b bs (next_plain p q b e) (k q h)

reads_plain : (p : Place) (at : ℕ) (bs : List ℕ) → wrong_at p at bs ≡ None → IsPlain bs
reads_plain p at [] h = refl
reads_plain p at (b ∷ bs) h = plain_by (next p b) p b at bs refl h (λ q k. reads_plain q (at + 1) bs k)

-- a name is plain
pub name_plain : (name : List ℕ) → name_of_text name ≡ Ok name → IsPlain name
name_plain name h =
    let s = name_is_short name h in
    let P : List ℕ → Type 0 = λ t. IsPlain t in
    subst P (sym s.shown) (reads_plain Begin 0 s.rest s.body)

service_by : (v : Bool) (text : List ℕ) → IsPlain text
    → IsPlain (cond {A = List ℕ × Option (List ℕ)} v (before_first is_colon text, Some (after_first is_colon text))
    (text, None)).0
service_by true text h = take_plain (position_or_len is_colon text) text h
service_by false text h = h

service_plain : (name : List ℕ) → IsPlain name → IsPlain (service_of name)
service_plain name h =
    service_by (nat_lt (position_or_len is_colon (drop 5 name)) (length (drop 5 name))) (drop 5 name)
    (drop_plain 5 name h)

instance_by : (v : Bool) (text : List ℕ) → IsPlain text
    → IsPlain (unwrap_or
    (cond {A = List ℕ × Option (List ℕ)} v (before_first is_colon text, Some (after_first is_colon text))
    (text, None)).1 [])
instance_by true text h = drop_plain (position_or_len is_colon text + 1) text h
instance_by false text h = refl

instance_plain : (name : List ℕ) → IsPlain name → IsPlain (instance_text name)
instance_plain name h =
    instance_by (nat_lt (position_or_len is_colon (drop 5 name)) (length (drop 5 name))) (drop 5 name)
    (drop_plain 5 name h)

-- ---- tokens

restarter_plain : (name : List ℕ) → IsPlain name → IsPlain (restarter_text name)
restarter_plain name h =
    either_plain (pointwise nat_eq name (codes "svc:/system/svc/restarter:default")) (codes "svc.startd") name refl h

method_plain : (method : Method) → IsPlain (method_text method)
method_plain BeginsMethod = refl
method_plain Stop = refl
method_plain Refresh = refl

token_plain : (names : Names) (b : ℕ) → IsPlain names.restarter → IsPlain names.instance → IsPlain (token_text names b)
unfolding token_text
token_plain names b r i =
    either_plain (eqb b 37) _ _ refl
    (either_plain (eqb b 114) _ _ (restarter_plain names.restarter r)
    (either_plain (eqb b 109) _ _ (method_plain names.method)
    (either_plain (eqb b 115) _ _ (service_plain names.instance i)
    (either_plain (eqb b 105) _ _ (instance_plain names.instance i)
    (either_plain (eqb b 102) _ _ i refl)))))

filled_plain : (names : Names) (text : List ℕ) → IsPlain names.restarter → IsPlain names.instance → IsPlain text
    → IsPlain (filled_text names text)
unfolding filled_text
filled_plain names [] r i h = refl
filled_plain names (b ∷ []) r i h = either_plain (eqb b 37) [] (b ∷ []) refl h
filled_plain names (b ∷ c ∷ cs) r i h =
    let rest = tail_plain b (c ∷ cs) h in
    either_plain (eqb b 37) (token_text names c ++ filled_text names cs) (b ∷ filled_text names (c ∷ cs))
    (append_plain (token_text names c) (filled_text names cs) (token_plain names c r i)
    (filled_plain names cs r i (tail_plain c cs rest)))
    (cons_plain b (filled_text names (c ∷ cs)) (head_plain b (c ∷ cs) h) (filled_plain names (c ∷ cs) r i rest))

-- a plain text stays plain if its tokens are replaced by names
pub filled_is_plain : (names : Names) (text : List ℕ) → name_of_text names.restarter ≡ Ok names.restarter
    → name_of_text names.instance ≡ Ok names.instance → list_all is_plain text ≡ true
    → list_all is_plain (filled_text names text) ≡ true
filled_is_plain names text r i h =
    filled_plain names text (name_plain names.restarter r) (name_plain names.instance i) h
