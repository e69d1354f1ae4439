-- The requests of a line of svcadm are done one by one.
use Rattle.std.proofs.Common.{◌≡◌, ℕ, List, [], ◌∷◌, ◌++◌, ◌&&◌, ◌⊎◌, inl, inr, Bool, true, refl, sym, ap, ◌∙◌, append_assoc, append-nil}
use Rattle.smf_admin.specs.declared.requests.Asked.{Asked}
use Rattle.smf_script.specs.Failures.{AreDone}
use Rattle.smf_script.specs.Session.{Deed, IsDeed, deed_of_command, asked_all, behind, success_deed}
use Rattle.smf_world.specs.Schedule.{Progress}

asked_more : (d : Deed) (xs : List Asked) (x : Asked)
    → asked_all d (xs ++ x ∷ []) ≡ behind (asked_all d xs) (deed_of_command (asked_all d xs).progress x)
unfolding asked_all
asked_more d [] x = refl
asked_more d (y ∷ ys) x = asked_more (behind d (deed_of_command d.progress y)) ys x

pub deed_first : (p : Progress) (old : List ℕ) → IsDeed (asked_all (success_deed p []) []) p old old true
unfolding asked_all
deed_first p old = record { node = refl; texts = sym (append-nil old); flag = refl }

pub deed_more : (d : Deed) (xs : List Asked) (x : Asked) (p p' : Progress) (old mid new : List ℕ) (fine did : Bool)
    → IsDeed (asked_all d xs) p old mid fine → IsDeed (deed_of_command p x) p' mid new did
    → IsDeed (asked_all d (xs ++ x ∷ [])) p' old new (fine && did)
deed_more d xs x p p' old mid new fine did so_far more =
    let same : asked_all d (xs ++ x ∷ []) ≡ behind (asked_all d xs) (deed_of_command p x) =
    asked_more d xs x ∙ ap (λ q. behind (asked_all d xs) (deed_of_command q x)) (sym so_far.node) in
    record {
      node = more.node ∙ sym (ap (λ e. e.progress) same);
      texts = more.texts ∙ ap (λ l. l ++ (deed_of_command p x).text) so_far.texts
          ∙ append_assoc old (asked_all d xs).text (deed_of_command p x).text ∙ sym (ap (λ e. old ++ e.text) same);
      flag = rw (same, so_far.flag, more.flag) refl;
    }

-- those before the one that ended with a fault were done, or that one too
pub some_done : (p now after : Progress) (before : List Asked) (x : Asked) (rest all : List Asked) (old mid : List ℕ)
    (fine : Bool) → all ≡ before ++ x ∷ rest → IsDeed (asked_all (success_deed p []) before) now old mid fine
    → (after ≡ now) ⊎ (after ≡ (deed_of_command now x).progress) → AreDone p all after
some_done p now after before x rest all old mid fine is so_far (inl e) =
    record { first = before; rest = x ∷ rest; whole = is; left = e ∙ so_far.node }
some_done p now after before x rest all old mid fine is so_far (inr e) =
    record {
      first = before ++ x ∷ [];
      rest = rest;
      whole = is ∙ sym (append_assoc before (x ∷ []) rest);
      left = e ∙ ap (λ q. (deed_of_command q x).progress) so_far.node
          ∙ sym (ap (λ d. d.progress) (asked_more (success_deed p []) before x));
    }
