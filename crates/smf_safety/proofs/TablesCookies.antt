-- A cookie is read back from its 64 bits.
use Rattle.std.proofs.Common.{◌≡◌, ℕ, ◌+◌, ◌*◌, ◌/◌, ◌%◌, ◌≤◌, ◌&&◌, nat_le, Bool, true, false, if◌then◌else◌, Some, Ok, Err, refl, ap, ◌∙◌, subst, arith}
use Rattle.std.proofs.lemmas.Bool.Decides.{nat_tests}
use Rattle.smf_contract.specs.declared.cookie.Cookie.{Cookie}
use Rattle.smf_contract.specs.declared.cookie.CookieFault.TheVariants.{Range}
use Rattle.smf_contract.specs.declared.cookie.Method.{Method}
use Rattle.smf_contract.specs.declared.cookie.Method.TheVariants.{Start, Stop, Refresh}
use Rattle.smf_contract.specs.Cookies.{method_bits, method_of, bits_of_cookie, cookie_of_bits, with_method}

abbrev bits_of : ℕ → ℕ → ℕ → ℕ
bits_of i run m = i * 1099511627776 + run * 4 + m

low_bits : (i run m : ℕ) → run ≤ 274877906943 → m ≤ 3 → bits_of i run m % 4 ≡ m
low_bits i run m r l = omega arith

high_bits : (i run m : ℕ) → run ≤ 274877906943 → m ≤ 3 → bits_of i run m / 1099511627776 ≡ i
high_bits i run m r l = omega arith

middle_bits : (i run m : ℕ) → run ≤ 274877906943 → m ≤ 3 → bits_of i run m % 1099511627776 / 4 ≡ run
middle_bits i run m r l = omega arith

method_back : (m : Method) → method_of (method_bits m) ≡ Some m
method_back Start = refl
method_back Stop = refl
method_back Refresh = refl

method_low : (m : Method) → method_bits m ≤ 3
method_low Start = omega arith
method_low Stop = omega arith
method_low Refresh = omega arith

unpacked_bits : (i run : ℕ) (m : Method) → run ≤ 274877906943
    → cookie_of_bits (bits_of i run (method_bits m)) ≡ Some (record { instance = i; run = run; method = m })
unpacked_bits i run m r =
    let low : bits_of i run (method_bits m) % 4 ≡ method_bits m = low_bits i run (method_bits m) r (method_low m) in
    let high : bits_of i run (method_bits m) / 1099511627776 ≡ i = high_bits i run (method_bits m) r (method_low m) in
    let middle : bits_of i run (method_bits m) % 1099511627776 / 4 ≡ run =
    middle_bits i run (method_bits m) r (method_low m) in
    ap (λ (b : ℕ). with_method (bits_of i run (method_bits m)) (method_of b)) low
    ∙ (ap (with_method (bits_of i run (method_bits m))) (method_back m)
    ∙ (λ j. Some (record { instance = high j; run = middle j; method = m })))

fits : (i run : ℕ) → (nat_le i 16777215 && nat_le run 274877906943) ≡ true → run ≤ 274877906943
fits i run e = grind (arith, nat_tests)

-- a packed cookie is read back
pub packed_back : (c : Cookie) (bits : ℕ) → bits_of_cookie c ≡ Ok bits → cookie_of_bits bits ≡ Some c
packed_back c bits e = by (nat_le c.instance 16777215 && nat_le c.run 274877906943) refl e
  where
    by : (b : Bool) → (nat_le c.instance 16777215 && nat_le c.run 274877906943) ≡ b
        → (if b then Ok (bits_of c.instance c.run (method_bits c.method)) else Err Range) ≡ Ok bits
        → cookie_of_bits bits ≡ Some c
    by true f g =
        let same : bits_of c.instance c.run (method_bits c.method) ≡ bits = cc in
        subst (λ (x : ℕ). cookie_of_bits x ≡ Some c) same
        (unpacked_bits c.instance c.run c.method (fits c.instance c.run f))
    by false f g = absurd cc
