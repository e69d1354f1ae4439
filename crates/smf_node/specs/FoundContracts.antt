-- The contracts with which a node goes on.
use Rattle.std.specs.Prelude.{ℕ, List, [], ◌∷◌, Bool, true, false, not, nat_le, nat_lt, ◌&&◌, Option, Some, None, if◌then◌else◌}
use Rattle.smf_contract.specs.declared.cookie.Cookie.{Cookie}
use Rattle.smf_contract.specs.declared.found.Found.{Found}
use Rattle.smf_contract.specs.Cookies.{cookie_of_bits}
use Rattle.smf_model.specs.declared.held.Instance.{Instance}
use Rattle.smf_model.specs.Contents.{Holdings}
use Rattle.smf_model.specs.Next.{current_instance}

-- their numbers rise above the first number and up to the last one, and each may be inherited
abbrev pub are_fit : ℕ → ℕ → List Found → Bool
are_fit low last [] = nat_le low last
are_fit low last (f ∷ fs) = nat_lt low f.id && (f.terms.inherit && are_fit f.id last fs)

-- a row has given this run
abbrev pub has_given : ℕ → Option Instance → Bool
has_given run None = false
has_given run (Some i) = nat_lt 0 run && nat_le run i.row.last

abbrev pub names_run : Holdings → Option Cookie → Bool
names_run h None = false
names_run h (Some c) = has_given c.run (current_instance h c.instance)

-- a cookie names a run that a held row has given
abbrev pub is_known : Holdings → ℕ → Bool
is_known h cookie = names_run h (cookie_of_bits cookie)

-- the number of the first contract of which no held row knows
abbrev pub first_foreign : Holdings → List Found → Option ℕ
first_foreign h [] = None
first_foreign h (f ∷ fs) = if is_known h f.cookie then first_foreign h fs else Some f.id
