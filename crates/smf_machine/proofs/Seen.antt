-- A name, as a look at it shows it.
use Rattle.std.proofs.Common.{◌≡◌, ℕ, List, Ok, refl}
use Rattle.std.specs.Str.{IsUtf8}
use Rattle.smf_fmri.specs.Name.{name_of_text}
use Rattle.smf_fmri.proofs.Patterns.{same_text}
use Rattle.smf_value.specs.Texts.{IsShort}
use Rattle.smf_value.proofs.Texts.{short_is}

-- a name that reads as itself is a short form
pub short_seen : (text : List ℕ) → IsUtf8 text → name_of_text text ≡ Ok text → IsShort text
short_seen text u r = short_is text text u r ((same_text text text).1 refl)
