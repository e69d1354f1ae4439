-- The small graphs are as they are said to be, by computation.
use Rattle.std.proofs.Common.{◌≡◌, inl, inr, false, refl, subst}
use Rattle.std.proofs.lemmas.Bool.{both_ways}
use Rattle.smf_dep.specs.declared.member.GraphMember.{GraphMember}
use Rattle.smf_dep.specs.Cycles.{IsAmong, leads, on_cycle}
use Rattle.smf_dep.specs.Verdicts.{all_met, parked_in}
use Rattle.smf_meaning.specs.QuietGraphs.{ExcludeEachOther, IsQuietMember, kept_out_by, WaitsForOthers}
use Rattle.smf_meaning.specs.QuietExamples.{day, night, one_is_off, ParksTwo, report, shop}

shop_waits : WaitsForOthers one_is_off shop
unfolding all_met on_cycle leads
shop_waits = record { readable = refl; unmet = refl; acyclic = refl }

report_waits : WaitsForOthers one_is_off report
unfolding all_met on_cycle leads
report_waits = record { readable = refl; unmet = refl; acyclic = refl }

each : (m : GraphMember) → IsAmong m one_is_off → IsQuietMember one_is_off m
each m (inl is) = subst (IsQuietMember one_is_off) is (record {
  still = refl;
  settled = refl;
  runs = λ e. refl;
  disabled = λ e. absurd (both_ways false refl e);
  waits = λ e. report_waits;
})
each m (inr (inl is)) = subst (IsQuietMember one_is_off) is (record {
  still = refl;
  settled = refl;
  runs = λ e. refl;
  disabled = λ e. absurd (both_ways false refl e);
  waits = λ e. shop_waits;
})
each m (inr (inr (inl is))) = subst (IsQuietMember one_is_off) is (record {
  still = refl;
  settled = refl;
  runs = λ e. absurd (both_ways false refl e);
  disabled = λ e. refl;
  waits = λ e. absurd (both_ways false refl e);
})
each m (inr (inr (inr among))) = absurd among

excludes_none : (m n : GraphMember) → IsAmong m one_is_off → kept_out_by m.dependencies n ≡ false
excludes_none m n (inl is) = subst (λ (x : GraphMember). kept_out_by x.dependencies n ≡ false) is refl
excludes_none m n (inr (inl is)) = subst (λ (x : GraphMember). kept_out_by x.dependencies n ≡ false) is refl
excludes_none m n (inr (inr (inl is))) = subst (λ (x : GraphMember). kept_out_by x.dependencies n ≡ false) is refl
excludes_none m n (inr (inr (inr among))) = absurd among

pub parks_two : ParksTwo
unfolding parked_in
parks_two = record {
  quiet = record { each = each };
  apart = λ m n among there waits also. excludes_none m n among;
  near = refl;
  far = refl;
}

pub both_wait : ExcludeEachOther day night
both_wait = record { first_waits = refl; second_waits = refl; first_excludes = refl; second_excludes = refl }
