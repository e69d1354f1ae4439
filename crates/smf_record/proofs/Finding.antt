-- Contracts that were found, one after the other.
use Rattle.std.proofs.Common.{◌≡◌, ℕ, ◌+◌, ◌<◌, List, [], ◌∷◌, ◌++◌, length, map, take, get_or, sym, ◌∙◌, ap, subst}
use Rattle.std.proofs.lemmas.List.{map-append, take_more}
use Rattle.smf_contract.specs.declared.found.Found.{Found}
use Rattle.smf_contract.specs.Laws.{Ascends}
use Rattle.smf_contract.proofs.Ordered.{ascends_more}
use Rattle.smf_edge.specs.FollowedBeginnings.{found_post, found_posts}
use Rattle.smf_edge.specs.Phases.{Post}

abbrev ids : List Found → List ℕ
ids fs = map (λ f. f.id) fs

pub ascend_push : (old new : List Found) (f : Found) (last top : ℕ) → new ≡ old ++ f ∷ [] → top ≡ f.id
    → last < f.id → Ascends 0 (map (λ f. f.id) old) last → Ascends 0 (map (λ f. f.id) new) top
ascend_push old new f last top e t lt h =
    subst (λ (x : List Found). Ascends 0 (ids x) top) (sym e)
    (subst (λ (x : ℕ). Ascends 0 (ids (old ++ f ∷ [])) x) (sym t)
    (subst (λ (x : List ℕ). Ascends 0 x f.id) (sym (map-append (λ (f : Found). f.id) old (f ∷ [])))
    (ascends_more 0 (ids old) last f.id lt h)))

pub kids_push : (old new : List Found) (f : Found) (ps qs : List Post) → new ≡ old ++ f ∷ []
    → qs ≡ ps ++ found_post f ∷ [] → ps ≡ found_posts old → qs ≡ found_posts new
kids_push old new f ps qs e k h =
    k ∙ ap (λ (x : List Post). x ++ found_post f ∷ []) h ∙ sym (map-append found_post old (f ∷ []))
    ∙ ap (λ (x : List Found). found_posts x) (sym e)

pub found_push : (xs : List Found) (i : ℕ) (x : Found) (old new : List Found) → i < length xs
    → x ≡ get_or xs i x → old ≡ take i xs → new ≡ old ++ x ∷ [] → new ≡ take (i + 1) xs
found_push xs i x old new lt e h k =
    k ∙ ap (λ (y : List Found). y ++ x ∷ []) h
    ∙ sym (take_more xs i x lt ∙ ap (λ (y : Found). take i xs ++ y ∷ []) (sym e))
