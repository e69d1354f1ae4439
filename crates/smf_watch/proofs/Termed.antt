-- What is told of instances, one after another.
use Rattle.std.proofs.Common.{◌≡◌, ◌<◌, ◌+◌, ℕ, List, ◌++◌, length, get_or, drop, sym, ap, ◌∙◌, append_assoc}
use Rattle.smf_model.specs.declared.held.InstanceEntry.{InstanceEntry}
use Rattle.smf_model.specs.Contents.{Holdings}
use Rattle.smf_model.specs.Next.{named_snapshot}
use Rattle.smf_watch.specs.declared.terms.Term.{Term}
use Rattle.smf_watch.specs.Terms.{terms_among, terms_by}
use Rattle.smf_watch.proofs.Hasty.{left_at}

pub one_entry : (h : Holdings) (es : List InstanceEntry) (i : ℕ) (e : InstanceEntry) (terms new all : List Term)
    → i < length es → e ≡ get_or es i e
    → new ≡ terms ++ terms_by e.instance (named_snapshot h e.instance.row.running)
    → terms ++ terms_among h (drop i es) ≡ all → new ++ terms_among h (drop (i + 1) es) ≡ all
one_entry h es i e terms new all low at made so_far =
    ap (λ (xs : List Term). xs ++ terms_among h (drop (i + 1) es)) made
    ∙ append_assoc terms (terms_by e.instance (named_snapshot h e.instance.row.running))
    (terms_among h (drop (i + 1) es))
    ∙ ap (λ (xs : List InstanceEntry). terms ++ terms_among h xs) (sym (left_at es i e low at))
    ∙ so_far
