-- How an older run is ended: the system is in the first state, is asked and told so much, and then is in the second.
use Rattle.std.specs.Prelude.{◌≡◌, ◌≢◌, ◌⊎◌, ℕ, zero, suc, List, [], Option}
use Rattle.smf_sweep.specs.Children.{children_of}
use Rattle.smf_sweep.specs.Leftovers.{left_of}
use Rattle.smf_sweep.specs.Replies.{Telling, Booted, Listed, Looked, Ended, Emptied, Removed, NoAnswer}
use Rattle.smf_sweep.specs.declared.child.Child.{Child}
use Rattle.smf_sweep.specs.declared.fault.SweepFault.{SweepFault}
use Rattle.smf_sweep.specs.declared.fault.SweepFault.TheVariants.{Unread, Unwritten, Unanswered, Left, Memory}
use Rattle.smf_sweep.specs.declared.process.Process.{Process}

abbrev pub Tells : Type 0 → Type 1
Tells S = S → Telling → S → Type 0

-- a look found these left
abbrev pub FindsSome : {S : Type 0} → Tells S → List Child → List Process → S → S → Type 0
FindsSome tells children left p q =
    (processes : List Process) × (tells p (Looked children processes) q)
    × (left ≡ left_of children processes) × (left ≢ [])

-- a look found some left, and exactly these were ended
abbrev pub IsRound : {S : Type 0} → Tells S → List Child → S → S → Type 0
IsRound {S} tells children p q =
    (left : List Process) × (r : S) × FindsSome tells children left p r × tells r (Ended left) q

abbrev pub Rounds : {S : Type 0} → Tells S → List Child → ℕ → S → S → Type 0
Rounds tells children zero p q = p ≡ q
Rounds {S} tells children (suc n) p q = (r : S) × Rounds tells children n p r × IsRound tells children r q

-- a look found none left
abbrev pub FindsNone : {S : Type 0} → Tells S → List Child → S → S → Type 0
FindsNone tells children p q =
    (processes : List Process) × (tells p (Looked children processes) q) × (left_of children processes ≡ [])

-- there are no children, or a look found none left
abbrev pub HasNone : {S : Type 0} → Tells S → List Child → S → S → Type 0
HasNone tells children p q = ((children ≡ []) × (p ≡ q)) ⊎ FindsNone tells children p q

-- after some rounds none was left
abbrev pub IsSwept : {S : Type 0} → Tells S → List Child → S → S → Type 0
IsSwept {S} tells children p q = (n : ℕ) × (r : S) × Rounds tells children n p r × HasNone tells children r q

-- a look was not answered; or it found some left, and their end was not
abbrev pub IsUnanswered : {S : Type 0} → Tells S → List Child → S → Type 0
IsUnanswered {S} tells children p =
    ((q : S) × tells p NoAnswer q)
    ⊎ ((left : List Process) × (q : S) × (r : S) × FindsSome tells children left p q × tells q NoAnswer r)

-- why a round is not made
abbrev pub StopsRound : {S : Type 0} → Tells S → List Child → S → SweepFault → Type 0
StopsRound tells children p e = (e ≡ Memory) ⊎ ((e ≡ Unanswered) × IsUnanswered tells children p)

-- why a sweep ends before none is left: after so many rounds the system did not answer, or patience ended
abbrev pub StopsSweep : {S : Type 0} → Tells S → ℕ → List Child → S → SweepFault → Type 0
StopsSweep {S} tells most children p e =
    ((n : ℕ) × (q : S) × Rounds tells children n p q × StopsRound tells children q e)
    ⊎ ((e ≡ Left) × ((q : S) × Rounds tells children most p q))

-- the children that the list of this path names
abbrev pub IsAsked : {S : Type 0} → Tells S → List ℕ → List ℕ → List Child → S → S → Type 0
IsAsked {S} tells path boot children p q =
    (text : Option (List ℕ)) × (r : S) × (tells p (Booted boot) r) × (tells r (Listed path text) q)
    × (children ≡ children_of boot text)

-- nothing is left of the children that the list named, and the list is empty
abbrev pub IsCleared : {S : Type 0} → Tells S → List ℕ → List ℕ → S → S → Type 0
IsCleared {S} tells path boot p q =
    (children : List Child) × (r : S) × (s : S) × IsAsked tells path boot children p r
    × IsSwept tells children r s × tells s (Emptied path) q

-- that was so at some time
abbrev pub WasCleared : {S : Type 0} → Tells S → List ℕ → List ℕ → Type 0
WasCleared {S} tells path boot = (p : S) × (q : S) × IsCleared tells path boot p q

-- the boot was not told, or the list not read
abbrev pub IsUnread : {S : Type 0} → Tells S → S → Type 0
IsUnread {S} tells p =
    ((q : S) × tells p NoAnswer q)
    ⊎ ((boot : List ℕ) × (r : S) × (q : S) × (tells p (Booted boot) r) × tells r NoAnswer q)

-- the list was read, and a sweep of its children stopped
abbrev pub IsStuck : {S : Type 0} → Tells S → ℕ → List ℕ → S → SweepFault → Type 0
IsStuck {S} tells most path p e =
    (boot : List ℕ) × (children : List Child) × (q : S) × IsAsked tells path boot children p q
    × StopsSweep tells most children q e

-- none was left, and the list could not be written
abbrev pub IsUnwritten : {S : Type 0} → Tells S → List ℕ → S → Type 0
IsUnwritten {S} tells path p =
    (boot : List ℕ) × (children : List Child) × (q : S) × (r : S) × (s : S)
    × IsAsked tells path boot children p q × IsSwept tells children q r × tells r NoAnswer s

-- why a run does not begin
abbrev pub StopsRun : {S : Type 0} → Tells S → ℕ → List ℕ → S → SweepFault → Type 0
StopsRun tells most path p e =
    (e ≡ Memory) ⊎ (((e ≡ Unread) × IsUnread tells p)
    ⊎ (IsStuck tells most path p e ⊎ ((e ≡ Unwritten) × IsUnwritten tells path p)))

-- the list was removed, and before that none was left of the children that it named
abbrev pub IsClosed : {S : Type 0} → Tells S → List ℕ → List ℕ → S → S → Type 0
IsClosed {S} tells path boot p q =
    (text : Option (List ℕ)) × (r : S) × (s : S) × (tells p (Listed path text) r)
    × HasNone tells (children_of boot text) r s × tells s (Removed path) q
