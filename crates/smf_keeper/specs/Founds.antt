-- Contracts of an older life that a beginning finds.
use Rattle.std.specs.Prelude.{◌≡◌, ℕ, List, [], ◌∷◌, length}
use Rattle.smf_room.specs.declared.life.Found.{Found}
use Rattle.smf_room.specs.Beginnings.{IsBeginning}
use Rattle.smf_room.specs.Tellings.{Heard, Log, Tells}
use Rattle.smf_keeper.specs.Rooms.{HasGone}

-- nothing is left of any of these
abbrev pub HaveGone : {S : Type 0} → Tells S → Log S → List Found → Type 0
HaveGone tells did [] = Unit {0}
HaveGone tells did (f ∷ fs) = HasGone tells did f.id × HaveGone tells did fs

-- a life began, and nothing is left of any contract that it found and could not forget
pub record IsBooted {S : Type 0} (tells : Tells S) (did : Log S) (p : S) : Type 0 where
  pub found : List Found
  pub after : S
  pub begun : Heard tells did (IsBeginning found) p after
  pub gone : HaveGone tells did found

-- a life began, and found so many contracts that it could not forget
pub record HasFound {S : Type 0} (tells : Tells S) (did : Log S) (p q : S) (count : ℕ) : Type 0 where
  pub found : List Found
  pub begun : Heard tells did (IsBeginning found) p q
  pub all : length found ≡ count
