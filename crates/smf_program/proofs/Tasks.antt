-- The task that was read, or why none was.
use Rattle.std.proofs.Common.{◌≡◌, ◌∙◌, inl, inr, ap, ℕ, List, [], ◌∷◌, Option, Some, None, refl, sym, subst}
use Rattle.std.specs.Prelude.{option_map}
use Rattle.clap.specs.Words.{App, HasKind, IsAmong, Kinds, fault_of, kind_of, subcommand_of}
use Rattle.clap.specs.declared.error.Error.{Error}
use Rattle.clap.specs.declared.error.kind.ErrorKind.{ErrorKind}
use Rattle.smf_program.specs.declared.refusal.Refusal.{Refusal}
use Rattle.smf_program.specs.declared.refusal.Refusal.TheVariants.{Help, Version, BadUsage, NoText, Memory}
use Rattle.smf_program.specs.declared.task.Task.{Task}
use Rattle.smf_program.specs.Refusals.{IsOfKind, IsUnread, IsWhy}
use Rattle.smf_program.specs.Tasks.{TaskTexts, task_in, task_of, texts_of, unless_refused}
use Rattle.smf_program.specs.Words.{smf_app}

-- clap took the words
reads : (a : App) (words : List (List ℕ)) (task : Option TaskTexts) → a ≡ smf_app → fault_of a words ≡ []
    → task ≡ task_in (subcommand_of a words) → task_of words ≡ task
unfolding task_of
reads a words task is taken found =
    let none : fault_of smf_app words ≡ [] = subst (λ (b : App). fault_of b words ≡ []) is taken in
    let same : task ≡ task_in (subcommand_of smf_app words) =
    subst (λ (b : App). task ≡ task_in (subcommand_of b words)) is found in
    ap (λ (kinds : Kinds). unless_refused kinds (task_in (subcommand_of smf_app words))) none ∙ sym same

pub reads_task : (a : App) (words : List (List ℕ)) (found : Option Task) (task : Task) → found ≡ Some task
    → a ≡ smf_app → fault_of a words ≡ []
    → option_map texts_of found ≡ task_in (subcommand_of a words) → task_of words ≡ Some (texts_of task)
reads_task a words found task some is taken same = reads a words (option_map texts_of found) is taken same
    ∙ ap (option_map texts_of) some

-- clap took the words, and no task is in them
pub reads_none : (a : App) (words : List (List ℕ)) (found : Option Task) → found ≡ None → a ≡ smf_app
    → fault_of a words ≡ []
    → option_map texts_of found ≡ task_in (subcommand_of a words) → IsUnread words
reads_none a words found none is taken same = (
  reads a words (option_map texts_of found) is taken same ∙ ap (option_map texts_of) none,
  inr (subst (λ (b : App). fault_of b words ≡ []) is taken),
)

refused : (kinds : Kinds) (kind : ErrorKind) (task : Option TaskTexts) → IsAmong kind kinds
    → unless_refused kinds task ≡ None
refused [] kind task among = absurd among
refused (k ∷ ks) kind task among = refl

-- clap refused the words
no_task : (words : List (List ℕ)) (kind : ErrorKind) → IsAmong kind (fault_of smf_app words) → task_of words ≡ None
unfolding task_of
no_task words kind among = refused (fault_of smf_app words) kind (task_in (subcommand_of smf_app words)) among

why : (words : List (List ℕ)) (e : Error) (r : Refusal) → HasKind (fault_of smf_app words) e → IsOfKind (kind_of e) r
    → IsWhy r words
why words e (Help text) (inl memory) of = absurd (of.1 memory)
why words e (Help text) (inr among) of = subst (λ (k : ErrorKind). IsAmong k (fault_of smf_app words)) of.0 among
why words e Version (inl memory) of = absurd (of.1 memory)
why words e Version (inr among) of = subst (λ (k : ErrorKind). IsAmong k (fault_of smf_app words)) of.0 among
why words e (BadUsage text) (inl memory) of = absurd (of.2 memory)
why words e (BadUsage text) (inr among) of = (no_task words (kind_of e) among, inl (kind_of e, of.0, of.1, among))
why words e NoText has of = absurd of
why words e Memory has of = tt

pub why_of : (a : App) (words : List (List ℕ)) (e : Error) (r : Refusal) → a ≡ smf_app → HasKind (fault_of a words) e
    → IsOfKind (kind_of e) r → IsWhy r words
why_of a words e r is has of = why words e r (subst (λ (b : App). HasKind (fault_of b words) e) is has) of
