-- What lines lead to, once they were tried.
use Rattle.std.proofs.Common.{◌≡◌, ℕ, List, [], Bool, true, false, not, Option, Some, None, refl, sym, ap, subst, ◌∙◌, arith}
use Rattle.std.specs.Prelude.{IfSome}
use Rattle.smf_lines.specs.Lines.{lines_of}
use Rattle.smf_value.specs.Groups.{GroupRecord}
use Rattle.smf_model.specs.declared.held.Instance.{Instance}
use Rattle.smf_model.specs.Contents.{Holdings}
use Rattle.smf_model.specs.GeneralGroup.{service_fmri}
use Rattle.smf_model.specs.Look.{empty}
use Rattle.smf_script.specs.CfgRuns.{Ends, HasRun, lines_on, run, start_place, status_of}
use Rattle.smf_script.proofs.CfgProgress.{ends_of_all}
use Rattle.smf_export.specs.declared.comparison.Extent.{Extent}
use Rattle.smf_export.specs.declared.comparison.Extent.TheVariants.{Persistent, Every}
use Rattle.smf_export.specs.Configured.{AreSame, HoldSame, Services, groups_of_instance, groups_of_service, others}
use Rattle.smf_export.specs.Turns.{IsAsked, IsNotAsked, IsRun, IsTurned, Turns, effect_on}

-- ---- no lines

same_itself : (extent : Extent) (gs : Option (List GroupRecord)) → AreSame extent gs gs
same_itself extent None = tt
same_itself extent (Some gs) = refl

holds_itself : (extent : Extent) (meant : Services) (h : Holdings) → HoldSame extent meant h h
holds_itself extent meant h =
    record {
      services = λ name m. same_itself extent (groups_of_service h name);
      instances = λ name m. same_itself extent (groups_of_instance h name);
    }

one_number : (a : Option Instance) (i j : Instance) → a ≡ Some i → a ≡ Some j → i.number ≡ j.number
one_number a i j e f = let same : Some i ≡ Some j = sym e ∙ f in let one : i ≡ j = cc in ap (λ k. k.number) one

no_lines : (meant : Services) (before asked : Holdings) → HoldSame Persistent meant before asked
    → Turns meant before asked []
unfolding lines_of run lines_on
no_lines meant before asked same =
    record {
      fine = refl;
      turned = record {
        at_meant = same;
        at_others = holds_itself Every (others meant) before;
        kept = λ name i j e f. one_number _ i j e f;
      };
    }

pub none_needed : (meant : Services) (before asked : Holdings) (text : List ℕ) → text ≡ []
    → HoldSame Persistent meant before asked → Turns meant before asked text
none_needed meant before asked text none same =
    subst (Turns meant before asked) (sym none) (no_lines meant before asked same)

-- ---- lines

fine_by : (fine : Bool) (status : ℕ) → status ≡ status_of fine → status ≡ 0 → fine ≡ true
fine_by true status e zero_status = refl
fine_by false status e zero_status = absurd (omega arith)

run_fine : (before after stored : Holdings) (text : List ℕ) (out_old out_new errors_old errors_new : Option (List ℕ))
    (status : ℕ)
    → Ends (run (start_place before) (lines_of text)) after out_old out_new errors_old errors_new status
    → status ≡ 0 → stored ≡ after → IsRun before text stored
run_fine before after stored text out_old out_new errors_old errors_new status ends zero_status same =
    record {
      fine = fine_by (run (start_place before) (lines_of text)).end.is_fine status ends.exit zero_status;
      held = same ∙ ends.held;
    }

-- the same after a run over a copy
pub run_of : (before start after stored : Holdings) (text bytes : List ℕ)
    (out_old out_new errors_old errors_new : Option (List ℕ)) (status : ℕ) → start ≡ before → bytes ≡ text
    → HasRun (start_place start) (Some bytes) after out_old out_new errors_old errors_new status → status ≡ 0
    → stored ≡ after → IsRun before text stored
run_of before start after stored text bytes out_old out_new errors_old errors_new status e f h zero_status same =
    let ends = ends_of_all (start_place start) (Some bytes) after out_old out_new errors_old errors_new status h in
    let there : IsRun start bytes stored =
    run_fine start after stored bytes out_old out_new errors_old errors_new status ends zero_status same in
    subst (λ t. IsRun before t stored) f (subst (λ b. IsRun b bytes stored) e there)

-- ---- what lines alone ask for

pub asked_of : (input : Option (List ℕ)) (start after stored : Holdings)
    (out_old out_new errors_old errors_new : Option (List ℕ)) (status : ℕ) → start ≡ empty
    → IfSome input
    (λ bytes. Ends (run (start_place start) (lines_of bytes)) after out_old out_new errors_old errors_new status)
    → status ≡ 0 → stored ≡ after → IsAsked input stored
asked_of None start after stored out_old out_new errors_old errors_new status e ends zero_status same = tt
asked_of (Some bytes) start after stored out_old out_new errors_old errors_new status e ends zero_status same =
    let there : IsRun start bytes stored =
    run_fine start after stored bytes out_old out_new errors_old errors_new status ends zero_status same in
    subst (λ b. IsRun b bytes stored) e there

wrong_by : (fine : Bool) (status : ℕ) → status ≡ status_of fine → status ≡ 1 → fine ≡ false
wrong_by true status e one_status = absurd (omega arith)
wrong_by false status e one_status = refl

pub not_asked_of : (input : Option (List ℕ)) (start after : Holdings)
    (out_old out_new errors_old errors_new : Option (List ℕ)) (status : ℕ) → start ≡ empty
    → IfSome input
    (λ bytes. Ends (run (start_place start) (lines_of bytes)) after out_old out_new errors_old errors_new status)
    → status ≡ 1 → IsNotAsked input
not_asked_of None start after out_old out_new errors_old errors_new status e ends one_status = tt
not_asked_of (Some bytes) start after out_old out_new errors_old errors_new status e ends one_status =
    subst (λ b. (effect_on b bytes).end.is_fine ≡ false) e
    (wrong_by (run (start_place start) (lines_of bytes)).end.is_fine status ends.exit one_status)

-- ---- lines that were tried

pub turns_after : (meant : Services) (before asked after : Holdings) (text : List ℕ) → IsRun before text after
    → IsTurned meant before asked after → Turns meant before asked text
turns_after meant before asked after text r t =
    record { fine = r.fine; turned = subst (IsTurned meant before asked) r.held t }

-- ---- the same services by another test

pub holds_by : (extent : Extent) (p q : Services) (one other : Holdings) → ((name : List ℕ) → p name ≡ q name)
    → HoldSame extent p one other → HoldSame extent q one other
holds_by extent p q one other e h =
    record {
      services = λ name m. h.services name (e name ∙ m);
      instances = λ name m. h.instances name (e (service_fmri name) ∙ m);
    }

pub turns_by : (p q : Services) (before asked : Holdings) (text : List ℕ) → ((name : List ℕ) → p name ≡ q name)
    → Turns p before asked text → Turns q before asked text
turns_by p q before asked text e t =
    record {
      fine = t.fine;
      turned = record {
        at_meant = holds_by Persistent p q _ asked e t.turned.at_meant;
        at_others = holds_by Every (others p) (others q) _ before (λ name. ap not (e name)) t.turned.at_others;
        kept = t.turned.kept;
      };
    }
