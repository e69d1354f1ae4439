-- Instances that are marked or cleared, one after another.
use Rattle.std.proofs.Common.{◌≡◌, ◌<◌, ◌+◌, ℕ, List, [], ◌∷◌, ◌++◌, length, get_or, drop, map, refl, sym, ap, ◌∙◌, subst, append_assoc}
use Rattle.smf_model.specs.Contents.{Holdings}
use Rattle.smf_model.specs.Next.{current_instance}
use Rattle.smf_model.specs.declared.journal.RepoFault.{RepoFault}
use Rattle.smf_node.specs.declared.fault.NodeFault.{NodeFault}
use Rattle.smf_node.specs.Faults.{IsLack}
use Rattle.smf_watch.specs.declared.remedies.Remedy.{Remedy}
use Rattle.smf_watch.specs.Loops.{line_of, lines_of}
use Rattle.smf_watch.specs.Remedies.{StopsAtOne, event_of, remedied}
use Rattle.smf_watch.proofs.Hasty.{left_from}
use Rattle.smf_world.specs.Reached.{IsLater}
use Rattle.smf_world.specs.Schedule.{Progress, on}
use Rattle.smf_world.proofs.LaterWorlds.{later_by, later_self, later_then}
use Rattle.smf_world.proofs.Scheduled.{on_world}

-- ---- lines

pub one_line : (h : Holdings) (ns : List ℕ) (i d : ℕ) (lines new all : List (List ℕ)) → i < length ns
    → new ≡ lines ++ line_of (current_instance h (get_or ns i d)) → lines ++ lines_of h (drop i ns) ≡ all
    → new ++ lines_of h (drop (i + 1) ns) ≡ all
one_line h ns i d lines new all low made so_far =
    ap (λ (xs : List (List ℕ)). xs ++ lines_of h (drop (i + 1) ns)) made
    ∙ append_assoc lines (line_of (current_instance h (get_or ns i d))) (lines_of h (drop (i + 1) ns))
    ∙ ap (λ (xs : List ℕ). lines ++ lines_of h xs) (sym (left_from ns i d low))
    ∙ so_far

-- ---- remedies

remedied_last : (rs : List Remedy) (r : Remedy) (p : Progress)
    → remedied (rs ++ r ∷ []) p ≡ on (remedied rs p) (event_of r)
remedied_last [] r p = refl
remedied_last (x ∷ rs) r p = remedied_last rs r (on p (event_of x))

-- the first were done, and these are left
pub record HaveDone (all left : List Remedy) (p q : Progress) : Type 0 where
  pub first : List Remedy
  pub whole : all ≡ first ++ left
  pub are : q ≡ remedied first p
  pub made : remedied left q ≡ remedied all p
  pub later : IsLater p.world q.world

pub none_done : (all : List Remedy) (p : Progress) → HaveDone all all p p
none_done all p = record { first = []; whole = refl; are = refl; made = refl; later = later_self p.world }

pub one_done : (all : List Remedy) (i : ℕ) (d : Remedy) (p q s : Progress) → i < length all
    → s ≡ on q (event_of (get_or all i d)) → HaveDone all (drop i all) p q → HaveDone all (drop (i + 1) all) p s
one_done all i d p q s low is h =
    let r : Remedy = get_or all i d in
    record {
      first = h.first ++ r ∷ [];
      whole = h.whole ∙ ap (λ (xs : List Remedy). h.first ++ xs) (left_from all i d low)
          ∙ sym (append_assoc h.first (r ∷ []) (drop (i + 1) all));
      are = is ∙ ap (λ (x : Progress). on x (event_of r)) h.are ∙ sym (remedied_last h.first r p);
      made = ap (remedied (drop (i + 1) all)) is
          ∙ ap (λ (xs : List Remedy). remedied xs q) (sym (left_from all i d low)) ∙ h.made;
      later = later_then p.world q.world s.world h.later
          (later_by q.world s.world (event_of r)
          (ap (λ (x : Progress). x.world) is ∙ on_world q (event_of r)));
    }

pub still_done : (all left : List Remedy) (p q s : Progress) → HaveDone all left p q → s ≡ q → IsLater p.world s.world
still_done all left p q s h is = subst (λ (x : Progress). IsLater p.world x.world) (sym is) h.later

pub some_done : (stores : RepoFault → Type 0) (all : List Remedy) (i : ℕ) (d : Remedy) (p q s : Progress) (e : NodeFault)
    → i < length all → HaveDone all (drop i all) p q → s ≡ q
    → IsLack stores q.world (event_of (get_or all i d)) e → StopsAtOne stores all p s e
some_done stores all i d p q s e low h is why =
    record {
      first = h.first;
      failed = get_or all i d;
      rest = drop (i + 1) all;
      whole = h.whole ∙ ap (λ (xs : List Remedy). h.first ++ xs) (left_from all i d low);
      are = is ∙ h.are;
      fault = subst (λ (x : Progress). IsLack stores x.world (event_of (get_or all i d)) e) (sym is) why;
    }

-- ---- what is to be done

pub one_more : (f : ℕ → Remedy) (ns : List ℕ) (i d : ℕ) (rs new all : List Remedy) → i < length ns
    → new ≡ rs ++ f (get_or ns i d) ∷ [] → rs ++ map f (drop i ns) ≡ all → new ++ map f (drop (i + 1) ns) ≡ all
one_more f ns i d rs new all low made so_far =
    ap (λ (xs : List Remedy). xs ++ map f (drop (i + 1) ns)) made
    ∙ append_assoc rs (f (get_or ns i d) ∷ []) (map f (drop (i + 1) ns))
    ∙ ap (λ (xs : List ℕ). rs ++ map f xs) (sym (left_from ns i d low))
    ∙ so_far
