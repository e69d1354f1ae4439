-- Changes of a group, of which a step may fail.
use Rattle.std.proofs.Common.{◌≡◌, Result, Ok, refl}
use Rattle.smf_value.specs.declared.fault.GroupFault.{GroupFault}
use Rattle.smf_value.specs.declared.fault.GroupFault.TheVariants.{Memory, NoSuch, NeedsKind, KindDiffers, TooLong, NotA, Range, Full}
use Rattle.smf_value.specs.Groups.{GroupRecord}
use Rattle.smf_value.specs.Edits.{◌>>=◌, Fails, Leaves}

pub fails_bind : {A B : Type 0} (e : GroupFault) (r : Result A GroupFault) (f : A → Result B GroupFault) → Fails e r
    → Fails e (r >>= f)
fails_bind Memory r f h = tt
fails_bind NoSuch r f h = rw h refl
fails_bind NeedsKind r f h = rw h refl
fails_bind KindDiffers r f h = rw h refl
fails_bind TooLong r f h = rw h refl
fails_bind (NotA k) r f h = rw h refl
fails_bind Range r f h = rw h refl
fails_bind Full r f h = rw h refl

pub leaves_bind : {A : Type 0} (r : Result (Unit {0}) GroupFault) (m : Result A GroupFault) (a : A)
    (f : A → Result GroupRecord GroupFault) (old new : GroupRecord) → m ≡ Ok a → Leaves r (f a) old new
    → Leaves r (m >>= f) old new
leaves_bind r m a f old new e h = rw e h
