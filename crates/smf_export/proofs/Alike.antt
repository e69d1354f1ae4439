-- Groups are told apart by their bytes.
use Rattle.std.proofs.Common.{◌≡◌, ℕ, List, [], Bool, Result, Ok, Err, ap, sym, ◌∙◌, nat_eq}
use Rattle.std.specs.Prelude.{◌↔◌, IsTrue}
use Rattle.std.specs.Cmp.Lexicographic.{pointwise}
use Rattle.smf_fmri.proofs.Patterns.{same_text}
use Rattle.smf_value.specs.declared.fault.BodyFault.{BodyFault}
use Rattle.smf_value.specs.Body.{AreGroups, bytes_of_groups}
use Rattle.smf_value.specs.Decoder.{groups_of_body}
use Rattle.smf_value.specs.Groups.{GroupRecord}
use Rattle.smf_value.proofs.Wholes.{whole_again}

abbrev groups_or_none : Result (List GroupRecord) BodyFault → List GroupRecord
groups_or_none (Ok gs) = gs
groups_or_none (Err fault) = []

same_groups : (gs hs : List GroupRecord) → AreGroups gs → AreGroups hs → bytes_of_groups gs ≡ bytes_of_groups hs
    → gs ≡ hs
same_groups gs hs g h e = ap groups_or_none (sym (whole_again gs g) ∙ ap groups_of_body e ∙ whole_again hs h)

-- equal bytes are bytes of the same groups
pub told_by_bytes : (gs hs : List GroupRecord) (a b : List ℕ) (r : Bool) → AreGroups gs → AreGroups hs
    → a ≡ bytes_of_groups gs → b ≡ bytes_of_groups hs → r ≡ pointwise nat_eq a b → IsTrue r ↔ (gs ≡ hs)
told_by_bytes gs hs a b r g h of_a of_b e = (
  λ t. same_groups gs hs g h (sym of_a ∙ (same_text a b).0 (sym e ∙ t) ∙ of_b),
  λ same. e ∙ (same_text a b).1 (of_a ∙ ap bytes_of_groups same ∙ sym of_b),
)
