-- What is asked of a room goes on, one call after the other.
use Rattle.std.proofs.Common.{◌≡◌, List, [], ◌∷◌, ◌++◌, refl, sym, subst}
use Rattle.smf_room.specs.declared.live_room.LiveRoom.{LiveRoom}
use Rattle.smf_room.specs.Lives.{AreCareful, Life, life_after, life_after_all}
use Rattle.smf_room.specs.LiveRooms.{BeginsWell, EndsWell, GoesOn, Knows, LeadsSomehow}
use Rattle.smf_room.specs.Tellings.{Log, Telling, Tells}
use Rattle.smf_room.proofs.Hearing.{calls_both}

after_both : (us vs : List Telling) (l : Life) → life_after_all (us ++ vs) l ≡ life_after_all vs (life_after_all us l)
after_both [] vs l = refl
after_both (u ∷ us) vs l = after_both us vs (life_after u l)

careful_both : (us vs : List Telling) (l : Life) → AreCareful l us → AreCareful (life_after_all us l) vs
    → AreCareful l (us ++ vs)
careful_both [] vs l a b = b
careful_both (u ∷ us) vs l a b = (a.0, careful_both us vs (life_after u l) a.1 b)

-- nothing was asked
pub goes_same : {S : Type 0} (tells : Tells S) (did : Log S) (a : LiveRoom S) → GoesOn tells did a a
goes_same tells did a = λ l k. ([], record { calls = refl; careful = tt; knows = k })

leads_then : {S : Type 0} (tells : Tells S) (did : Log S) (p : S) (b c : LiveRoom S) (l : Life)
    → LeadsSomehow tells did p b l → GoesOn tells did b c → LeadsSomehow tells did p c l
leads_then tells did p b c l x f =
    let y = f (life_after_all x.0 l) x.1.knows in (
      x.0 ++ y.0,
      record {
        calls = calls_both tells did x.0 y.0 p b.room c.room x.1.calls y.1.calls;
        careful = careful_both x.0 y.0 l x.1.careful y.1.careful;
        knows = subst (λ (m : Life). Knows c m) (sym (after_both x.0 y.0 l)) y.1.knows;
      },
    )

-- the room was the same before
pub goes_as : {S : Type 0} (tells : Tells S) (did : Log S) (a b c : LiveRoom S) → b ≡ a → GoesOn tells did b c
    → GoesOn tells did a c
goes_as {S = S} tells did a b c e f = subst (λ (x : LiveRoom S). GoesOn tells did x c) e f

pub goes_then : {S : Type 0} (tells : Tells S) (did : Log S) (a b c : LiveRoom S) → GoesOn tells did a b
    → GoesOn tells did b c → GoesOn tells did a c
goes_then tells did a b c f h = λ l k. leads_then tells did a.room b c l (f l k) h

pub begins_then : {S : Type 0} (tells : Tells S) (did : Log S) (p : S) (a b : LiveRoom S) → BeginsWell tells did p a
    → GoesOn tells did a b → BeginsWell tells did p b
begins_then tells did p a b f h = λ l. leads_then tells did p a b l (f l) h

-- a life that began, and then ended
pub begun_ends : {S : Type 0} (tells : Tells S) (did : Log S) (p : S) (a : LiveRoom S) → BeginsWell tells did p a
    → (q : S) × EndsWell tells did p q
begun_ends tells did p a f = (a.room, λ l. let x = f l in (x.0, x.1.calls, x.1.careful))

pub begins_as : {S : Type 0} (tells : Tells S) (did : Log S) (p : S) (a b : LiveRoom S) → b ≡ a
    → BeginsWell tells did p a → BeginsWell tells did p b
begins_as {S = S} tells did p a b e f = subst (λ (x : LiveRoom S). BeginsWell tells did p x) (sym e) f
