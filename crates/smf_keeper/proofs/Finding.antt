-- What was found of an older life, one after the other.
use Rattle.std.proofs.Common.{◌≡◌, ℕ, ◌+◌, ◌<◌, List, [], ◌∷◌, ◌++◌, length, map, take, get_or, sym, ◌∙◌, ap, subst}
use Rattle.std.proofs.lemmas.List.{map-append, take_more}
use Rattle.smf_contract.specs.declared.found.Found.{Found as FoundContract}
use Rattle.smf_contract.specs.Laws.{Ascends}
use Rattle.smf_contract.proofs.Ordered.{ascends_more}
use Rattle.smf_edge.specs.FollowedBeginnings.{found_post, found_posts}
use Rattle.smf_edge.specs.Phases.{Post}
use Rattle.smf_room.specs.declared.life.Found.{Found}
use Rattle.smf_room.specs.Tellings.{Log, Tells}
use Rattle.smf_keeper.specs.Founds.{HaveGone}
use Rattle.smf_keeper.specs.Rooms.{HasGone}

abbrev ids : List FoundContract → List ℕ
ids fs = map (λ f. f.id) fs

pub ascend_push : (old new : List FoundContract) (f : FoundContract) (last top : ℕ) → new ≡ old ++ f ∷ [] → top ≡ f.id
    → last < f.id → Ascends 0 (map (λ f. f.id) old) last → Ascends 0 (map (λ f. f.id) new) top
ascend_push old new f last top e t lt h =
    subst (λ (x : List FoundContract). Ascends 0 (ids x) top) (sym e)
    (subst (λ (x : ℕ). Ascends 0 (ids (old ++ f ∷ [])) x) (sym t)
    (subst (λ (x : List ℕ). Ascends 0 x f.id) (sym (map-append (λ (f : FoundContract). f.id) old (f ∷ [])))
    (ascends_more 0 (ids old) last f.id lt h)))

pub kids_push : (old new : List FoundContract) (f : FoundContract) (ps qs : List Post) → new ≡ old ++ f ∷ []
    → qs ≡ ps ++ found_post f ∷ [] → ps ≡ found_posts old → qs ≡ found_posts new
kids_push old new f ps qs e k h =
    k ∙ ap (λ (x : List Post). x ++ found_post f ∷ []) h ∙ sym (map-append found_post old (f ∷ []))
    ∙ ap (λ (x : List FoundContract). found_posts x) (sym e)

take_next : {A : Type 0} (xs : List A) (i : ℕ) (x : A) → i < length xs → x ≡ get_or xs i x
    → take (i + 1) xs ≡ take i xs ++ x ∷ []
take_next {A = A} xs i x lt e = take_more xs i x lt ∙ ap (λ (y : A). take i xs ++ y ∷ []) (sym e)

pub found_push : {A B : Type 0} (f : A → B) (xs : List A) (i : ℕ) (x : A) (old new : List B) → i < length xs
    → x ≡ get_or xs i x → old ≡ map f (take i xs) → new ≡ old ++ f x ∷ [] → new ≡ map f (take (i + 1) xs)
found_push {A = A} {B = B} f xs i x old new lt e h k =
    k ∙ ap (λ (y : List B). y ++ f x ∷ []) h
    ∙ sym (ap (λ (y : List A). map f y) (take_next xs i x lt e) ∙ map-append f (take i xs) (x ∷ []))

-- ---- nothing is left of them

gone_more : {S : Type 0} (tells : Tells S) (did : Log S) (fs : List Found) (f : Found) → HaveGone tells did fs
    → HasGone tells did f.id → HaveGone tells did (fs ++ f ∷ [])
gone_more tells did [] f a h = (h, tt)
gone_more tells did (x ∷ fs) f a h = (a.0, gone_more tells did fs f a.1 h)

pub gone_next : {S : Type 0} (tells : Tells S) (did : Log S) (fs : List Found) (i : ℕ) (f : Found) → i < length fs
    → f ≡ get_or fs i f → HaveGone tells did (take i fs) → HasGone tells did f.id → HaveGone tells did (take (i + 1) fs)
gone_next tells did fs i f lt e a h =
    subst (λ (x : List Found). HaveGone tells did x) (sym (take_next fs i f lt e)) (gone_more tells did (take i fs) f a h)
