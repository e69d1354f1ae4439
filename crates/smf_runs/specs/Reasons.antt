-- The texts that say why instances of a database do not run, and what is wrong of them.
use Rattle.std.specs.Prelude.{◌≡◌, ◌⊎◌, ◌==◌, ℕ, List, [], ◌∷◌, ◌++◌, Bool, true, false, codes, filter, flat_map, if◌then◌else◌, length, map, Option, option_map}
use Rattle.std.specs.Io.KnownBytes.{Appends}
use Rattle.std.specs.List.{AllZip}
use Rattle.std_io.specs.declared.io.error.Error.{Error}
use Rattle.sqlite.specs.Held.{Held}
use Rattle.sqlite.specs.Store.{Ghosts}
use Rattle.smf_admin.specs.Output.{is_named, patterns_of, unmatched_words}
use Rattle.smf_admin.specs.Messages.{no_match_text}
use Rattle.smf_lines.specs.Told.{IsTold as IsSaid}
use Rattle.smf_model.specs.declared.held.Instance.{Instance}
use Rattle.smf_model.specs.declared.held.Owner.TheVariants as owners
use Rattle.smf_model.specs.Contents.{Holdings}
use Rattle.smf_model.specs.Next.{current_instance}
use Rattle.smf_model.specs.GeneralGroup.{service_owner}
use Rattle.smf_model.specs.Shown.{view}
use Rattle.smf_dep.specs.Members.{members}
use Rattle.smf_reasons.specs.Flaws.{IsChecked}
use Rattle.smf_reasons.specs.Reasons.{IsTold}
use Rattle.smf_reasons.specs.Texts.{check_text_of, text_of}
use Rattle.smf_reasons.specs.ViewHints.{hint_text, programs_of}
use Rattle.smf_reasons.specs.declared.reason.Told.{Told}
use Rattle.smf_runs.specs.declared.questions.Answer.{Answer}
use Rattle.smf_runs.specs.declared.questions.Checked.{Checked}
use Rattle.smf_runs.specs.Unrefreshed.{noted_all, taken_of}
use Rattle.smf_snap.specs.Body.{spelled_both}
use Rattle.smf_state.specs.declared.view.View.{View}
use Rattle.smf_state.specs.declared.view.ViewItem.{ViewItem}
use Rattle.smf_store.specs.Opens.{IsOpenedAs}

-- ---- which instances words mean

abbrev pub reasons_by_patterns : List (List ℕ) → List Told → List Told
reasons_by_patterns patterns all = filter (λ t. is_named patterns t.name) all

-- without words all, else those that one of the words matches
unfoldable pub reasons_by_words : List (List ℕ) → List Told → List Told
reasons_by_words [] all = all
reasons_by_words (word ∷ words) all = reasons_by_patterns (patterns_of (word ∷ words)) all

abbrev pub missed_text : List ℕ → List ℕ
missed_text word = no_match_text (codes "smf") word

-- ---- why instances do not run

-- the reasons of the instances that are asked for, in number order, of all that svc.startd's graph sees, and what of them
-- is unrefreshed
pub record AreTold (h : Holdings) (words : List (List ℕ)) (text : List ℕ) : Type 0 where
  pub all : List Told
  pub told : AllZip (IsTold (view h)) (view h).items all
  pub printed : text ≡ text_of (reasons_by_words words (noted_all h (view h).items all))

-- those reasons, and the words that match no instance
pub record IsAnswer (h : Holdings) (words : List (List ℕ)) (answer : Answer) : Type 0 where
  pub reasons : AreTold h words answer.text
  pub missed : answer.missed ≡ flat_map missed_text (unmatched_words (view h).items words)
  pub all_matched : answer.all_matched ≡ (length (unmatched_words (view h).items words) == 0)

-- words without a match were told, as far as that could be written, and the status says so
abbrev pub IsNoted : (Error → Type 0) → Option (List ℕ) → Option (List ℕ) → List ℕ → Bool → ℕ → Type 0
IsNoted tells old new text true status = (status ≡ 0) × (new ≡ old)
IsNoted tells old new text false status = (status ≡ 1) × (Appends old new text ⊎ ((e : Error) × tells e))

-- an answer was written, and what it misses was told
pub record IsWritten (tells : Error → Type 0) (answer : Answer) (old new told_old told_new : Option (List ℕ))
    (status : ℕ) : Type 0 where
  pub written : Appends old new answer.text
  pub noted : IsNoted tells told_old told_new answer.missed answer.all_matched status

-- the answer of a value
pub record AreWritten (tells : Error → Type 0) (h : Holdings) (words : List (List ℕ))
    (old new told_old told_new : Option (List ℕ)) (status : ℕ) : Type 0 where
  pub answer : Answer
  pub is : IsAnswer h words answer
  pub said : IsWritten tells answer old new told_old told_new status

-- that of what a database was opened with
pub record IsAnswered {S : Type 0} (g : Ghosts S) (conn : Held S) (tells : Error → Type 0) (words : List (List ℕ))
    (old new told_old told_new : Option (List ℕ)) (status : ℕ) : Type 0 where
  pub held : Holdings
  pub opened : IsOpenedAs g conn held
  pub reasons : AreWritten tells held words old new told_old told_new status

-- a fault was told
pub record IsExcused (tells : Error → Type 0) (old new : Option (List ℕ)) : Type 0 where
  pub text : List ℕ
  pub said : IsSaid tells old new text

-- ---- what is wrong of instances

-- the bytes of a snapshot that an instance would have
abbrev pub body_of : Holdings → Instance → List ℕ
body_of h i = spelled_both (taken_of h (service_owner i)) (taken_of h (owners.Instance i.number))

-- an item with such a snapshot in place of `running`
abbrev pub item_after_refresh : Holdings → ViewItem → ViewItem
item_after_refresh h i = record i { body = option_map (body_of h) (current_instance h i.instance) }

-- the view that the graph would have if all instances were refreshed
unfoldable pub view_after_refresh : Holdings → View
view_after_refresh h = record { revision = (view h).revision; items = map (item_after_refresh h) (view h).items }

-- the flaws of each instance of a view were printed, in number order
pub record AreFound (v : View) (text : List ℕ) : Type 0 where
  pub all : List Told
  pub checked : AllZip (IsChecked v) v.items all
  pub printed : text ≡ check_text_of all

-- something was printed
abbrev pub status_of : List ℕ → ℕ
status_of text = if length text == 0 then 0 else 1

-- the flaws of a view, and behind them its hints if these programs are missing. The status says if there are flaws
pub record IsCheckText (v : View) (missing : List (List ℕ)) (c : Checked) : Type 0 where
  pub flaws : List ℕ
  pub found : AreFound v flaws
  pub text : c.text ≡ flaws ++ hint_text missing (members v.items)
  pub says : c.status ≡ status_of flaws

-- those of a value were written
pub record AreChecked (h : Holdings) (missing : List (List ℕ)) (old new : Option (List ℕ)) (status : ℕ) : Type 0 where
  pub checked : Checked
  pub is : IsCheckText (view_after_refresh h) missing checked
  pub written : Appends old new checked.text
  pub says : status ≡ checked.status

-- that of what a database was opened with
pub record IsInspected {S : Type 0} (g : Ghosts S) (conn : Held S) (missing : List (List ℕ)) (old new : Option (List ℕ))
    (status : ℕ) : Type 0 where
  pub held : Holdings
  pub opened : IsOpenedAs g conn held
  pub flaws : AreChecked held missing old new status

-- the programs of the methods of what a database was opened with
pub record ArePrograms {S : Type 0} (g : Ghosts S) (conn : Held S) (programs : List (List ℕ)) : Type 0 where
  pub held : Holdings
  pub opened : IsOpenedAs g conn held
  pub all : programs ≡ programs_of (members (view_after_refresh held).items)
