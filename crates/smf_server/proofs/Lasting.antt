-- What a crash leaves at the moments of replies.
use Rattle.std.proofs.Common.{◌≡◌, inl, inr, Option, Some, sym, ◌∙◌, ap}
use Rattle.std.proofs.Math.Logic.{⊎_elim, ⊎_map}
use Rattle.smf_model.specs.Contents.{Holdings}
use Rattle.smf_watch.specs.Traffic.{LeavesAt, LeavesNoMore, Leavings, RepliesLast}

pub lasts_same : (a b : Leavings) → LeavesNoMore a b → RepliesLast a b
lasts_same a b none = λ held found may. inl (none held found may)

pub none_then : (a b c : Leavings) → LeavesNoMore a b → LeavesNoMore b c → LeavesNoMore a c
none_then a b c first second = λ held found may. first held found (second held found may)

pub lasts_then : (a b c : Leavings) → RepliesLast a b → RepliesLast b c → RepliesLast a c
lasts_then a b c first second = λ held found may. ⊎_elim (first held found) inr (second held found may)

-- a reply lasts if a crash at its moment leaves only what is held
pub reply_lasts : (a b : Leavings) (h : Holdings) (may : Option Holdings → Type 0) → LeavesAt h may a b
    → ((found : Option Holdings) → may found → found ≡ Some h) → RepliesLast a b
reply_lasts a b h may one only = λ held found left. ⊎_map (λ old. old)
    (λ new. only found new.1 ∙ sym (ap Some new.0)) (one held found left)
