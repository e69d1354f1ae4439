-- A time that is written is read as one.
use Rattle.std.proofs.Common.{◌≡◌, ℕ, ◌<◌, ◌^◌, ◌/◌, ◌%◌, List, [], ◌∷◌, ◌++◌, length, Bool, true, false, ◌&&◌, cond, nat_lt, Option, Some, None, refl, sym, ◌∙◌, ap, arith}
use Rattle.std.specs.Char.{is_ascii_digit}
use Rattle.std.specs.Fmt.{decimal}
use Rattle.std.specs.List.{list_all}
use Rattle.std.specs.Str.Parse.{digits_value}
use Rattle.std.proofs.lemmas.Fmt.{decimal_digit}
use Rattle.std.proofs.lemmas.List.Folds.{list_all-append}
use Rattle.smf_fmri.specs.Counts.{is_decimal, read_count}
use Rattle.smf_fmri.proofs.Counts.{printed_is_read}
use Rattle.smf_chronicle.specs.Lines.{are_seconds, clock_text, cut_at, is_clock}
use Rattle.smf_chronicle.proofs.Cuts.{cut_again}
use Rattle.smf_chronicle.proofs.Ends.{all_other, decimal_digits}

decimal_by : (v w : Bool) (x n : ℕ) → cond (v && w) (Some x) None ≡ Some n → v ≡ true
decimal_by true w x n h = refl
decimal_by false w x n h = cc

decimal_is : (n : ℕ) → n < 2 ^ 64 → is_decimal (decimal n) ≡ true
unfolding read_count
decimal_is n small =
    decimal_by (is_decimal (decimal n)) (nat_lt (digits_value 10 (decimal n)) (2 ^ 64)) (digits_value 10 (decimal n)) n
    (printed_is_read n small)

abbrev three : ℕ → ℕ → ℕ → List ℕ
three a b c = decimal a ++ decimal b ++ decimal c

three_long : (a b c : ℕ) → a < 10 → b < 10 → c < 10 → length (three a b c) ≡ 3
three_long a b c h k l = rw (decimal_digit a h, decimal_digit b k, decimal_digit c l) refl

three_digits : (a b c : ℕ) → a < 10 → b < 10 → c < 10 → list_all is_ascii_digit (three a b c) ≡ true
three_digits a b c h k l =
    list_all-append is_ascii_digit (decimal a ++ decimal b) (decimal c)
    ∙ rw (
      list_all-append is_ascii_digit (decimal a) (decimal b),
      decimal_digits a (omega arith),
      decimal_digits b (omega arith),
      decimal_digits c (omega arith),
    ) refl

clock_of : (n a b c : ℕ) → n < 2 ^ 64 → a < 10 → b < 10 → c < 10 → is_clock (decimal n ++ 46 ∷ three a b c) ≡ true
clock_of n a b c small h k l =
    ap are_seconds
    (cut_again 46 (decimal n) (three a b c) (all_other is_ascii_digit 46 refl (decimal n) (decimal_digits n small)))
    ∙ rw (decimal_is n small, three_long a b c h k l, three_digits a b c h k l) refl

pub time_is_clock : (m : ℕ) → m < 2 ^ 64 → is_clock (clock_text m) ≡ true
unfolding clock_text
time_is_clock m small =
    clock_of (m / 1000) (m / 100 % 10) (m / 10 % 10) (m % 10) (omega arith) (omega arith) (omega arith) (omega arith)
