-- The texts of a store are UTF-8: keys of counters, names, and rows of instances.
use Rattle.std.proofs.Common.{◌≡◌, ◌<◌, ◌^◌, ℕ, suc, ◌+◌, List, [], ◌∷◌, ◌++◌, ◌==◌, ◌&&◌, codes, length, nat_lt, Bool, true, false, cond, Option, Some, None, Result, Ok, Err, refl, sym, ap, subst, arith, eqb-true, ltb-true}
use Rattle.std.specs.Prelude.{IsAscii, IsUtf8}
use Rattle.std.specs.Char.{is_ascii_alphanumeric}
use Rattle.std.specs.Fmt.{decimal}
use Rattle.std.specs.List.{list_all}
use Rattle.std.specs.Option.{option_map_or}
use Rattle.std.proofs.lemmas.Bool.Decides.{nat_tests}
use Rattle.std.proofs.lemmas.Fmt.{IsAscii-decimal}
use Rattle.std.proofs.lemmas.Str.{IsUtf8-from_ascii}
use Rattle.std.proofs.lemmas.Str.Ascii.{IsAscii-cons, IsAscii-nil}
use Rattle.sqlite.specs.Order.{Row}
use Rattle.smf_fmri.specs.declared.reader.Place.{Place}
use Rattle.smf_fmri.specs.declared.reader.Place.TheVariants.{Start, Begin, Service, BeginInstance, Instance}
use Rattle.smf_fmri.specs.Counts.{read_count}
use Rattle.smf_fmri.specs.Patterns.{read_short}
use Rattle.smf_fmri.specs.Name.{is_word_byte, next, name_of_text, short, wrong_at}
use Rattle.smf_fmri.proofs.Whole.{name_is_short}
use Rattle.smf_state.specs.declared.row.Row.{Row as StateRow}
use Rattle.smf_state.specs.declared.state.Cause.{Cause}
use Rattle.smf_state.specs.declared.state.Cause.TheVariants.{Error, NonError, Admin, Config}
use Rattle.smf_state.specs.declared.state.Duration.{Duration}
use Rattle.smf_state.specs.declared.state.Duration.TheVariants.{Contract, Transient, Child}
use Rattle.smf_state.specs.declared.state.State.{State}
use Rattle.smf_state.specs.declared.state.State.TheVariants.{Uninitialized, Disabled, Offline, Online, Degraded, Maintenance}
use Rattle.smf_state.specs.Fields.{next_field, read_asks, read_ignore, read_optional, optional_text}
use Rattle.smf_state.specs.States.{state_text, cause_text, duration_text, read_state, read_cause, read_duration}
use Rattle.smf_state.specs.Texts.{first_at, second_at, third_at, row_at, whole_row, read_row}
use Rattle.smf_state.proofs.Lines.{behind, bind_ok, took}
use Rattle.smf_state.proofs.Words.{number, name, state, duration, asks, ignore, optional_number, optional_state, optional_cause}
use Rattle.smf_store.specs.Shown.{Counter, Version, Layout, Revision, NextInstance, NextSnapshot, Count, counter_text, ShowsCount, HasTextKey}

both_left : (a b : Bool) → (a && b) ≡ true → a ≡ true
both_left true b e = refl
both_left false b e = absurd cc

both_right : (a b : Bool) → (a && b) ≡ true → b ≡ true
both_right true b e = e
both_right false b e = absurd cc

-- ---- bytes below 128

abbrev is_low : ℕ → Bool
is_low b = nat_lt b 128

low_all : (bs : List ℕ) → list_all is_low bs ≡ true → IsAscii bs
low_all [] e = IsAscii-nil
low_all (b ∷ bs) e =
    IsAscii-cons b bs (ltb-true b 128 (both_left (is_low b) (list_all is_low bs) e))
    (low_all bs (both_right (is_low b) (list_all is_low bs) e))

pub low_append : (xs ys : List ℕ) → IsAscii xs → IsAscii ys → IsAscii (xs ++ ys)
low_append [] ys a b = b
low_append (x ∷ xs) ys a b = IsAscii-cons x (xs ++ ys) (a 0) (low_append xs ys (λ i. a (suc i)) b)

pub low_behind : (xs ys : List ℕ) → IsAscii (xs ++ ys) → IsAscii ys
low_behind [] ys a = a
low_behind (x ∷ xs) ys a = low_behind xs ys (λ i. a (suc i))

-- ---- keys of counters

counter_low : (c : Counter) → IsAscii (counter_text c)
counter_low Version = low_all (codes "version") refl
counter_low Layout = low_all (codes "layout") refl
counter_low Revision = low_all (codes "revision") refl
counter_low NextInstance = low_all (codes "next_instance") refl
counter_low NextSnapshot = low_all (codes "next_snapshot") refl

pub counter_utf8 : (c : Counter) → IsUtf8 (counter_text c)
counter_utf8 c = IsUtf8-from_ascii (counter_text c) (counter_low c)

pub text_key : (x : Count) (r : Row) → ShowsCount x r → HasTextKey r
text_key x r shows = (counter_text x.counter, shows.counter_is, counter_utf8 x.counter)

-- ---- names

low_letter : (b : ℕ) → is_ascii_alphanumeric b ≡ true → b < 128
low_letter b h = grind (arith, nat_tests)

low_word : (b : ℕ) → is_word_byte b ≡ true → b < 128
low_word b h = grind (arith, nat_tests)

low_one : (b n : ℕ) → n < 128 → (b == n) ≡ true → b < 128
low_one b n low e = let is = eqb-true b n e in omega (arith, is, low)

low_begin : (v : Bool) (b : ℕ) (s q : Place) → is_ascii_alphanumeric b ≡ v → cond v (Some s) None ≡ Some q → b < 128
low_begin true b s q e h = low_letter b e
low_begin false b s q e h = absurd cc

low_start : (v w : Bool) (b : ℕ) (q : Place) → is_ascii_alphanumeric b ≡ v → (b == 58) ≡ w
    → cond v (Some Service) (cond w (Some BeginInstance) None) ≡ Some q → b < 128
low_start true w b q e f h = low_letter b e
low_start false true b q e f h = low_one b 58 (omega arith) f
low_start false false b q e f h = absurd cc

low_service : (v w x : Bool) (b : ℕ) (q : Place) → is_word_byte b ≡ v → (b == 47) ≡ w → (b == 58) ≡ x
    → cond v (Some Service) (cond w (Some Begin) (cond x (Some BeginInstance) None)) ≡ Some q → b < 128
low_service true w x b q e f g h = low_word b e
low_service false true x b q e f g h = low_one b 47 (omega arith) f
low_service false false true b q e f g h = low_one b 58 (omega arith) g
low_service false false false b q e f g h = absurd cc

low_instance : (v w : Bool) (b : ℕ) (s q : Place) → is_word_byte b ≡ v → cond (v && w) (Some s) None ≡ Some q → b < 128
low_instance true w b s q e h = low_word b e
low_instance false w b s q e h = absurd cc

low_next : (p q : Place) (b : ℕ) → next p b ≡ Some q → b < 128
low_next Start q b h = low_start _ _ b q refl refl h
low_next Begin q b h = low_begin _ b Service q refl h
low_next BeginInstance q b h = low_begin _ b (Instance 1) q refl h
low_next Service q b h = low_service _ _ _ b q refl refl refl h
low_next (Instance n) q b h = low_instance _ (nat_lt n 255) b (Instance (n + 1)) q refl h

low_on : (p : Place) (o : Option Place) (b at : ℕ) (bs : List ℕ) → next p b ≡ o
    → option_map_or (λ q. wrong_at q (at + 1) bs) o (Some at) ≡ None
    → ((q : Place) → wrong_at q (at + 1) bs ≡ None → IsAscii bs) → IsAscii (b ∷ bs)
low_on p None b at bs e w behind = absurd cc
low_on p (Some q) b at bs e w behind = IsAscii-cons b bs (low_next p q b e) (behind q w)

low_from : (p : Place) (at : ℕ) (bs : List ℕ) → wrong_at p at bs ≡ None → IsAscii bs
low_from p at [] e = IsAscii-nil
low_from p at (b ∷ bs) e = low_on p (next p b) b at bs refl e (λ q w. low_from q (at + 1) bs w)

pub low_name : (t : List ℕ) → name_of_text t ≡ Ok t → IsAscii t
low_name t h = let s = name_is_short t h in
    subst IsAscii (sym s.shown) (low_append short s.rest (low_all short refl) (low_from Begin 0 s.rest s.body))

-- ---- the rows of instances

low_state : (s : State) → IsAscii (state_text s)
low_state Uninitialized = low_all (state_text Uninitialized) refl
low_state Disabled = low_all (state_text Disabled) refl
low_state Offline = low_all (state_text Offline) refl
low_state Online = low_all (state_text Online) refl
low_state Degraded = low_all (state_text Degraded) refl
low_state Maintenance = low_all (state_text Maintenance) refl

low_cause : (c : Cause) → IsAscii (cause_text c)
low_cause Error = low_all (cause_text Error) refl
low_cause NonError = low_all (cause_text NonError) refl
low_cause Admin = low_all (cause_text Admin) refl
low_cause Config = low_all (cause_text Config) refl

low_duration : (d : Duration) → IsAscii (duration_text d)
low_duration Contract = low_all (duration_text Contract) refl
low_duration Transient = low_all (duration_text Transient) refl
low_duration Child = low_all (duration_text Child) refl

dash : IsAscii (codes "-")
dash = low_all (codes "-") refl

low_optional_state : (o : Option State) → IsAscii (optional_text state_text o)
low_optional_state None = dash
low_optional_state (Some s) = low_state s

low_optional_cause : (o : Option Cause) → IsAscii (optional_text cause_text o)
low_optional_cause None = dash
low_optional_cause (Some c) = low_cause c

-- the rest of a line is ASCII
abbrev IsLow : Option (List ℕ) → Type 0
IsLow None = Unit {0}
IsLow (Some t) = IsAscii t

low_rest : (o : Option (List ℕ)) → IsLow o → IsAscii (behind o)
low_rest None h = IsAscii-nil
low_rest (Some t) h = IsAscii-cons 32 t (omega arith) h

low_taken : (s : Option (List ℕ)) (t : List ℕ) (rest : Option (List ℕ)) → s ≡ Some (t ++ behind rest) → IsAscii t
    → IsLow rest → IsLow s
low_taken s t rest is low left = subst IsLow (sym is) (low_append t (behind rest) low (low_rest rest left))

low_count : (s : Option (List ℕ)) (n : ℕ) (rest : Option (List ℕ)) → next_field read_count s ≡ Ok (n, rest)
    → IsLow rest → IsLow s
low_count s n rest h left = let t = took number s n rest h in
    low_taken s (decimal n) rest t.line (IsAscii-decimal n t.inside) left

low_counts_by : (o : Option ℕ) (s : Option (List ℕ)) (rest : Option (List ℕ))
    → next_field (read_optional read_count) s ≡ Ok (o, rest) → IsLow rest → IsLow s
low_counts_by None s rest h left = let t = took optional_number s None rest h in
    low_taken s (codes "-") rest t.line dash left
low_counts_by (Some n) s rest h left = let t = took optional_number s (Some n) rest h in
    low_taken s (decimal n) rest t.line (IsAscii-decimal n t.inside) left

low_counts : (s : Option (List ℕ)) (o : Option ℕ) (rest : Option (List ℕ))
    → next_field (read_optional read_count) s ≡ Ok (o, rest) → IsLow rest → IsLow s
low_counts s o rest h left = low_counts_by o s rest h left

ends : (x y : StateRow × Option (List ℕ)) → ◌≡◌ {A = Result (StateRow × Option (List ℕ)) ℕ} (Ok x) (Ok y) → x.1 ≡ y.1
ends x y e = let is : x ≡ y = cc in ap (λ (z : StateRow × Option (List ℕ)). z.1) is

first_low : (s : Option (List ℕ)) (r : StateRow) (rest : Option (List ℕ)) → first_at s ≡ Ok (r, rest) → IsLow rest
    → IsLow s
unfolding first_at
first_low s r rest h left =
    let a = bind_ok (next_field read_short s) _ _ h in
    let b = bind_ok (next_field read_count a.0.1) _ _ a.2 in
    let c = bind_ok (next_field read_state b.0.1) _ _ b.2 in
    let d = bind_ok (next_field (read_optional read_state) c.0.1) _ _ c.2 in
    let e = bind_ok (next_field (read_optional read_count) d.0.1) _ _ d.2 in
    let f = bind_ok (next_field (read_optional read_count) e.0.1) _ _ e.2 in
    let g = bind_ok (next_field read_count f.0.1) _ _ f.2 in
    let ta = took name s a.0.0 a.0.1 a.1 in
    let tc = took state b.0.1 c.0.0 c.0.1 c.1 in
    let td = took optional_state c.0.1 d.0.0 d.0.1 d.1 in
    let last : g.0.1 ≡ rest = ends _ _ g.2 in
    low_taken s a.0.0 a.0.1 ta.line (low_name a.0.0 ta.inside.reads)
    (low_count a.0.1 b.0.0 b.0.1 b.1
    (low_taken b.0.1 (state_text c.0.0) c.0.1 tc.line (low_state c.0.0)
    (low_taken c.0.1 (optional_text state_text d.0.0) d.0.1 td.line (low_optional_state d.0.0)
    (low_counts d.0.1 e.0.0 e.0.1 e.1
    (low_counts e.0.1 f.0.0 f.0.1 f.1
    (low_count f.0.1 g.0.0 g.0.1 g.1 (subst IsLow (sym last) left)))))))

second_low : (q : StateRow) (s : Option (List ℕ)) (r : StateRow) (rest : Option (List ℕ))
    → second_at q s ≡ Ok (r, rest) → IsLow rest → IsLow s
unfolding second_at
second_low q s r rest h left =
    let a = bind_ok (next_field read_count s) _ _ h in
    let b = bind_ok (next_field read_asks a.0.1) _ _ a.2 in
    let c = bind_ok (next_field (read_optional read_cause) b.0.1) _ _ b.2 in
    let d = bind_ok (next_field read_duration c.0.1) _ _ c.2 in
    let e = bind_ok (next_field read_ignore d.0.1) _ _ d.2 in
    let f = bind_ok (next_field read_count e.0.1) _ _ e.2 in
    let g = bind_ok (next_field read_count f.0.1) _ _ f.2 in
    let tb = took asks a.0.1 b.0.0 b.0.1 b.1 in
    let tc = took optional_cause b.0.1 c.0.0 c.0.1 c.1 in
    let td = took duration c.0.1 d.0.0 d.0.1 d.1 in
    let te = took ignore d.0.1 e.0.0 e.0.1 e.1 in
    let bits : b.0.0.0 < 2 ^ 64 = omega (arith, tb.inside) in
    let left_out : e.0.0 < 2 ^ 64 = omega (arith, te.inside) in
    let last : g.0.1 ≡ rest = ends _ _ g.2 in
    low_count s a.0.0 a.0.1 a.1
    (low_taken a.0.1 (decimal b.0.0.0) b.0.1 tb.line (IsAscii-decimal b.0.0.0 bits)
    (low_taken b.0.1 (optional_text cause_text c.0.0) c.0.1 tc.line (low_optional_cause c.0.0)
    (low_taken c.0.1 (duration_text d.0.0) d.0.1 td.line (low_duration d.0.0)
    (low_taken d.0.1 (decimal e.0.0) e.0.1 te.line (IsAscii-decimal e.0.0 left_out)
    (low_count e.0.1 f.0.0 f.0.1 f.1
    (low_count f.0.1 g.0.0 g.0.1 g.1 (subst IsLow (sym last) left)))))))

third_low : (q : StateRow) (s : Option (List ℕ)) (r : StateRow) (rest : Option (List ℕ)) → third_at q s ≡ Ok (r, rest)
    → IsLow rest → IsLow s
unfolding third_at
third_low q s r rest h left =
    let a = bind_ok (next_field read_count s) _ _ h in
    let b = bind_ok (next_field read_count a.0.1) _ _ a.2 in
    let c = bind_ok (next_field read_count b.0.1) _ _ b.2 in
    let d = bind_ok (next_field (read_optional read_count) c.0.1) _ _ c.2 in
    let e = bind_ok (next_field (read_optional read_count) d.0.1) _ _ d.2 in
    let f = bind_ok (next_field read_count e.0.1) _ _ e.2 in
    let g = bind_ok (next_field read_count f.0.1) _ _ f.2 in
    let last : g.0.1 ≡ rest = ends _ _ g.2 in
    low_count s a.0.0 a.0.1 a.1
    (low_count a.0.1 b.0.0 b.0.1 b.1
    (low_count b.0.1 c.0.0 c.0.1 c.1
    (low_counts c.0.1 d.0.0 d.0.1 d.1
    (low_counts d.0.1 e.0.0 e.0.1 e.1
    (low_count e.0.1 f.0.0 f.0.1 f.1
    (low_count f.0.1 g.0.0 g.0.1 g.1 (subst IsLow (sym last) left)))))))

rows_low : (s : Option (List ℕ)) (r : StateRow) → row_at s ≡ Ok (r, None) → IsLow s
unfolding row_at
rows_low s r h =
    let a = bind_ok (first_at s) _ _ h in
    let b = bind_ok (second_at a.0.0 a.0.1) _ _ a.2 in
    first_low s a.0.0 a.0.1 a.1 (second_low a.0.0 a.0.1 b.0.0 b.0.1 b.1 (third_low b.0.0 b.0.1 r None b.2 tt))

row_whole : (size : ℕ) (r : StateRow) (m : Result (StateRow × Option (List ℕ)) ℕ) → whole_row size m ≡ Ok r
    → m ≡ Ok (r, None)
row_whole size r (Ok (q, None)) h = let is : q ≡ r = cc in ap (λ x. Ok (x, None)) is
row_whole size r (Ok (q, Some rest)) h = absurd cc
row_whole size r (Err left) h = absurd cc

-- a text that is read as a row is ASCII
pub low_row : (text : List ℕ) (r : StateRow) → read_row text ≡ Ok r → IsAscii text
unfolding read_row
low_row text r h = rows_low (Some text) r (row_whole (length text) r (row_at (Some text)) h)
