use Rattle.std.proofs.Common.{◌≡◌, ◌++◌, ◌∙◌}
use Rattle.std.specs.Rc.{rc_str_bytes}
use Rattle.smf_fmri.specs.Name.{short}
use Rattle.smf_fmri.specs.Patterns.{service_of, IsServiceName}
use Rattle.smf_fmri.proofs.Services.{shown_service}
use Rattle.smf_fmri.proofs.fmri.Fmri.service_fmri.Goals as goal

pub invariant_of-from_service_name : goal.invariant_of-from_service_name
invariant_of-from_service_name c =
    let made : rc_str_bytes c.in_ok-text.text ≡ short ++ service_of c.args.self.now =
    c.in_ok-text.ensures.ok ∙ c.service_text.ensures in
    let named : IsServiceName (short ++ service_of c.args.self.now) =
    shown_service _ _ c.self.invariant.reads c.self.view_is in
    rw made (record { reads = named.reads })

pub from_service_name-requires : goal.from_service_name-requires
from_service_name-requires c =
    let made : rc_str_bytes c.in_ok-text.text ≡ short ++ service_of c.args.self.now =
    c.in_ok-text.ensures.ok ∙ c.service_text.ensures in
    let named : IsServiceName (short ++ service_of c.args.self.now) =
    shown_service _ _ c.self.invariant.reads c.self.view_is in
    rw made named
