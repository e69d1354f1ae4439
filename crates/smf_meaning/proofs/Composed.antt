-- The groups that an instance has, by name.
use Rattle.std.proofs.Common.{◌≡◌, ℕ, List, Option, Some, None, refl, sym, ap, ◌∙◌}
use Rattle.smf_fmri.specs.ByKey.{Rises}
use Rattle.smf_fmri.proofs.SameLists.{same_lists}
use Rattle.smf_value.specs.Groups.{GroupRecord, by_group}
use Rattle.smf_snap.specs.Composed.{composed_group, composition, first_of, group_of}
use Rattle.smf_snap.proofs.ByName.{its_own, its_services, over}
use Rattle.smf_meaning.specs.Composition.{IsComposed, named_in}

pub put_over : (instance service : List GroupRecord) → Rises by_group instance
    → IsComposed instance service (named_in (composition instance service))
put_over instance service rises =
    record {
      own = λ name g e. over instance service name rises ∙ ap (λ o. first_of o (group_of name service)) e;
      services_own = λ name e. over instance service name rises ∙ ap (λ o. first_of o (group_of name service)) e;
    }

pub in_snapshot : (instance service : List GroupRecord) → IsComposed instance service (composed_group instance service)
in_snapshot instance service = record { own = its_own instance service; services_own = its_services instance service }

-- two that are composed of the same are the same
pub alike : (instance service some others : List GroupRecord) → Rises by_group some → Rises by_group others
    → IsComposed instance service (named_in some) → IsComposed instance service (named_in others) → some ≡ others
alike instance service some others r s a b =
    same_lists by_group some others r s (λ name. by name (named_in instance name) refl)
  where
    by : (name : List ℕ) (o : Option GroupRecord) → named_in instance name ≡ o
        → named_in some name ≡ named_in others name
    by name (Some g) e = a.own name g e ∙ sym (b.own name g e)
    by name None e = a.services_own name e ∙ sym (b.services_own name e)
