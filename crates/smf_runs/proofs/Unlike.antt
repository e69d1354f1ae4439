-- Groups are told apart by their bytes.
use Rattle.std.proofs.Common.{◌≡◌, List, [], Bool, true, false, not, Result, Ok, Err, refl, ap, sym, ◌∙◌}
use Rattle.smf_fmri.proofs.Patterns.{same_text}
use Rattle.smf_value.specs.declared.fault.BodyFault.{BodyFault}
use Rattle.smf_value.specs.Body.{AreGroups, bytes_of_groups}
use Rattle.smf_value.specs.Decoder.{groups_of_body}
use Rattle.smf_value.specs.Groups.{GroupRecord}
use Rattle.smf_value.proofs.Wholes.{whole_again}
use Rattle.smf_runs.specs.Unrefreshed.{are_others}

abbrev groups_or_none : Result (List GroupRecord) BodyFault → List GroupRecord
groups_or_none (Ok gs) = gs
groups_or_none (Err fault) = []

not_false : (b : Bool) → not b ≡ false → b ≡ true
not_false true e = refl
not_false false e = sym e

-- those that are not told apart are the same
pub alike : (gs hs : List GroupRecord) → AreGroups gs → AreGroups hs → are_others gs hs ≡ false → gs ≡ hs
unfolding are_others
alike gs hs g h e =
    let same : bytes_of_groups gs ≡ bytes_of_groups hs =
    (same_text (bytes_of_groups gs) (bytes_of_groups hs)).0 (not_false _ e) in
    ap groups_or_none (sym (whole_again gs g) ∙ ap groups_of_body same ∙ whole_again hs h)

pub itself : (gs : List GroupRecord) → are_others gs gs ≡ false
unfolding are_others
itself gs = ap not ((same_text (bytes_of_groups gs) (bytes_of_groups gs)).1 refl)
