-- Lists of one item at most, and restarters with names of their own.
use Rattle.std.specs.Prelude.{◌≡◌, ℕ, List, [], ◌∷◌, false, find, is_some}
use Rattle.smf_restarter.specs.Knowledge.{Knowledge}
use Rattle.smf_world.specs.declared.work.Becomes.{Becomes}
use Rattle.smf_world.specs.declared.work.Becomes.TheVariants.{Knows, Launched, Gone, NoneLeft}
use Rattle.smf_world.specs.Worked.{is_named}

abbrev pub AtMostOne : {X : Type 0} → List X → Type 0
AtMostOne [] = Unit {0}
AtMostOne (x ∷ []) = Unit {0}
AtMostOne (x ∷ y ∷ ys) = ⊥

-- no restarter has this name
abbrev pub NoneNamed : List ℕ → List Knowledge → Type 0
NoneNamed name [] = Unit {0}
NoneNamed name (k ∷ ks) = (is_named name k ≡ false) × NoneNamed name ks

-- no two have the same name
abbrev pub NoTwins : List Knowledge → Type 0
NoTwins [] = Unit {0}
NoTwins (k ∷ ks) = NoneNamed k.name ks × NoTwins ks

-- a restarter that is launched was not launched before
abbrev pub IsFresh : List Knowledge → Becomes → Type 0
IsFresh ks (Knows name c) = Unit {0}
IsFresh ks (Launched name actor launch) = is_some (find (is_named name) ks) ≡ false
IsFresh ks (Gone name) = Unit {0}
IsFresh ks NoneLeft = Unit {0}

abbrev pub AllFresh : List Knowledge → List Becomes → Type 0
AllFresh ks [] = Unit {0}
AllFresh ks (b ∷ bs) = IsFresh ks b × AllFresh ks bs
