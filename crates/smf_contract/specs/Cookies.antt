-- How a cookie stands in 64 bits.
use Rattle.std.specs.Prelude.{ℕ, ◌+◌, ◌*◌, ◌/◌, ◌%◌, ◌&&◌, ◌==◌, nat_le, if◌then◌else◌, Option, Some, None, Result, Ok, Err}
use Rattle.smf_fmri.specs.declared.limits.TheConstants.{MAX_INSTANCE, MAX_RUN}
use Rattle.smf_contract.specs.declared.cookie.Cookie.{Cookie}
use Rattle.smf_contract.specs.declared.cookie.Method.{Method}
use Rattle.smf_contract.specs.declared.cookie.Method.TheVariants.{Start, Stop, Refresh}
use Rattle.smf_contract.specs.declared.cookie.CookieFault.{CookieFault}
use Rattle.smf_contract.specs.declared.cookie.CookieFault.TheVariants.{Range}

abbrev pub method_bits : Method → ℕ
method_bits Start = 0
method_bits Stop = 1
method_bits Refresh = 2

-- the instance in bits 63 to 40, the run in 39 to 2, the method in 1 and 0
abbrev pub bits_of_cookie : Cookie → Result ℕ CookieFault
bits_of_cookie c =
    if nat_le c.instance MAX_INSTANCE && nat_le c.run MAX_RUN
    then Ok (c.instance * 1099511627776 + c.run * 4 + method_bits c.method)
    else Err Range

-- 3 is no method
abbrev pub method_of : ℕ → Option Method
method_of bits = if bits == 0 then Some Start else if bits == 1 then Some Stop else if bits == 2 then Some Refresh
    else None

abbrev pub with_method : ℕ → Option Method → Option Cookie
with_method bits None = None
with_method bits (Some m) =
    Some (record { instance = bits / 1099511627776; run = bits % 1099511627776 / 4; method = m })

abbrev pub cookie_of_bits : ℕ → Option Cookie
cookie_of_bits bits = with_method bits (method_of (bits % 4))
