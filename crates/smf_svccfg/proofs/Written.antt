-- A line that is written is read again.
use Rattle.std.proofs.Common.{◌≡◌, ℕ, ◌+◌, List, [], ◌∷◌, ◌++◌, length, length-append, take, drop, Bool, true, false, nat_lt, lt-ltb, Option, Some, None, Result, Ok, refl, ◌∙◌, ap, subst, arith, codes}
use Rattle.std.proofs.Math.Seq.{drop-append-add, take-append_seam}
use Rattle.std.proofs.lemmas.Bool.Decides.{nat_tests}
use Rattle.std.specs.Char.{is_ascii_alphanumeric}
use Rattle.std.specs.List.{AllByRecursion, list_any, position_or_len}
use Rattle.smf_fmri.specs.Name.{is_word_byte}
use Rattle.smf_fmri.specs.Grammar.{AllWord, IsComponent}
use Rattle.smf_model.specs.declared.command.PropertyChange.{PropertyChange}
use Rattle.smf_model.specs.declared.command.PropertyChange.TheVariants as properties
use Rattle.smf_value.specs.declared.kind.Kind.{Kind}
use Rattle.smf_value.specs.declared.kind.Kind.TheVariants.{Boolean, Count, Integer, Time, Astring, Ustring, Fmri}
use Rattle.smf_value.specs.Kinds.{kind_text}
use Rattle.smf_value.specs.Names.{IsNameText, read_name}
use Rattle.smf_value.proofs.Names.{name_reads}
use Rattle.smf_svccfg.specs.declared.fault.LineFault.{LineFault}
use Rattle.smf_svccfg.specs.declared.line.Line.{Line}
use Rattle.smf_svccfg.specs.declared.line.Line.TheVariants as lines
use Rattle.smf_svccfg.specs.declared.token.Token.{Token}
use Rattle.smf_svccfg.specs.declared.token.Token.TheVariants as tokens
use Rattle.smf_svccfg.specs.Lines.{IsChange, IsWritable, change_tokens, flag_tokens, is_comment, is_slash, kind_and_values, kind_tokens, line_in, line_of, line_text, name_in, parts_at_slash, quoted_all, target_in, tokens_for, word_tokens, words_before_close}
use Rattle.smf_svccfg.specs.Tokens.{AreTokens, Gives, IsBare, is_special, tokens_of, text_of_tokens}
use Rattle.smf_svccfg.specs.Words.{is_word}
use Rattle.smf_svccfg.proofs.Spelled.{tokens_again}

-- ---- names have no slash

record IsFree (b : ℕ) : Type 0 where
  slash : is_slash b ≡ false

letter_slash : (b : ℕ) → is_ascii_alphanumeric b ≡ true → is_slash b ≡ false
letter_slash b h = grind (arith, nat_tests)

word_slash : (b : ℕ) → is_word_byte b ≡ true → is_slash b ≡ false
word_slash b h = grind (arith, nat_tests)

words_free : (bs : List ℕ) → AllWord bs → AllByRecursion IsFree bs
words_free [] h = tt
words_free (b ∷ bs) h = (record { slash = word_slash b h.0 }, words_free bs h.1)

component_free : (name : List ℕ) → IsComponent name → AllByRecursion IsFree name
component_free [] h = absurd h
component_free (b ∷ bs) h = (record { slash = letter_slash b h.0 }, words_free bs h.1)

name_again : (name : List ℕ) → IsNameText name → name_in name ≡ Some name
unfolding read_name
name_again name h = rw (name_reads name h) refl

-- ---- a group and a property

slash_at : (group property : List ℕ) → AllByRecursion IsFree group
    → position_or_len is_slash (group ++ 47 ∷ property) ≡ length group
slash_at [] property h = refl
slash_at (b ∷ bs) property h = let later : position_or_len is_slash (bs ++ 47 ∷ property) ≡ length bs =
    slash_at bs property h.1 in rw h.0.slash (omega (arith, later))

parts_by : (word group property : List ℕ) (at : ℕ) → position_or_len is_slash word ≡ at
    → nat_lt at (length word) ≡ true → take at word ≡ group → drop (at + 1) word ≡ property
    → parts_at_slash word ≡ Some (group, property)
parts_by word group property at e low front rest = rw (e, low, front, rest) refl

parts_again : (group property : List ℕ) → AllByRecursion IsFree group
    → parts_at_slash (group ++ 47 ∷ property) ≡ Some (group, property)
parts_again group property h =
    parts_by (group ++ 47 ∷ property) group property (length group) (slash_at group property h)
    (lt-ltb (length group) (length (group ++ 47 ∷ property)) (omega (arith, length-append group (47 ∷ property))))
    (take-append_seam group (47 ∷ property)) (drop-append-add group (47 ∷ property) 1)

target_by : (word group property : List ℕ) → parts_at_slash word ≡ Some (group, property) → name_in group ≡ Some group
    → name_in property ≡ Some property
    → target_in word ≡ Some (record { group = group; property = property })
target_by word group property e g p = rw (e, g, p) refl

target_again : (group property : List ℕ) → IsNameText group → IsNameText property
    → target_in (group ++ 47 ∷ property) ≡ Some (record { group = group; property = property })
target_again group property h k =
    target_by (group ++ 47 ∷ property) group property (parts_again group property (component_free group h.component))
    (name_again group h) (name_again property k)

-- ---- kinds and values

bare : (word : List ℕ) → is_word word ≡ true → list_any is_special word ≡ false → IsBare word
bare word some plain = record { some = some; plain = plain }

kind_bare : (kind : Kind) → IsBare (kind_text kind ++ 58 ∷ [])
kind_bare Boolean = bare (codes "boolean:") refl refl
kind_bare Count = bare (codes "count:") refl refl
kind_bare Integer = bare (codes "integer:") refl refl
kind_bare Time = bare (codes "time:") refl refl
kind_bare Astring = bare (codes "astring:") refl refl
kind_bare Ustring = bare (codes "ustring:") refl refl
kind_bare Fmri = bare (codes "fmri:") refl refl

kind_read : (kind : Kind) (t : Token) (ts : List Token)
    → kind_and_values (tokens.Bare (kind_text kind ++ 58 ∷ []) ∷ t ∷ ts) ≡ Some (Some kind, t ∷ ts)
kind_read Boolean t ts = refl
kind_read Count t ts = refl
kind_read Integer t ts = refl
kind_read Time t ts = refl
kind_read Astring t ts = refl
kind_read Ustring t ts = refl
kind_read Fmri t ts = refl

kind_behind : (kind : Option Kind) (ts rest : List Token) → AreTokens ts → AreTokens rest
    → AreTokens (kind_tokens kind ++ rest)
kind_behind None ts rest h k = k
kind_behind (Some kind) ts rest h k = (kind_bare kind, k)

listed_tokens : (values : List (List ℕ)) (rest : List Token) → AreTokens rest → AreTokens (quoted_all values ++ rest)
listed_tokens [] rest h = h
listed_tokens (value ∷ values) rest h = (tt, listed_tokens values rest h)

listed_again : (values : List (List ℕ)) → words_before_close (quoted_all values ++ tokens.Close ∷ []) ≡ Some values
listed_again [] = refl
listed_again (value ∷ values) = rw (listed_again values) refl

-- ---- lines

change_are : (group : List ℕ) (change : PropertyChange) → AreTokens (change_tokens group change)
change_are group (properties.Set name kind values) = (
  bare (codes "setprop") refl refl,
  (
    tt,
    (
      bare (codes "=") refl refl,
      kind_behind kind [] (tokens.Open ∷ (quoted_all values ++ tokens.Close ∷ [])) tt
          (tt, listed_tokens values (tokens.Close ∷ []) (tt, tt)),
    ),
  ),
)
change_are group (properties.AddValue name kind value) =
    (bare (codes "addpropvalue") refl refl, (tt, kind_behind kind [] (tokens.Quoted value ∷ []) tt (tt, tt)))
change_are group (properties.DeleteValue name value) = (bare (codes "delpropvalue") refl refl, (tt, (tt, tt)))
change_are group (properties.Delete name) = (bare (codes "delprop") refl refl, (tt, tt))

flag_are : (p : Bool) → AreTokens (flag_tokens p)
flag_are true = (bare (codes "P") refl refl, tt)
flag_are false = tt

word_are : (word : Option (List ℕ)) → AreTokens (word_tokens word)
word_are None = tt
word_are (Some word) = (tt, tt)

all_are : (l : Line) → AreTokens (tokens_for l)
all_are lines.Nothing = tt
all_are (lines.Select word) = (bare (codes "select") refl refl, (tt, tt))
all_are (lines.Delete word) = (bare (codes "delete") refl refl, (tt, tt))
all_are lines.Unselect = (bare (codes "unselect") refl refl, tt)
all_are lines.List = (bare (codes "list") refl refl, tt)
all_are lines.ListGroups = (bare (codes "listpg") refl refl, tt)
all_are lines.ListProperties = (bare (codes "listprop") refl refl, tt)
all_are lines.ListSnapshots = (bare (codes "listsnap") refl refl, tt)
all_are (lines.Add word) = (bare (codes "add") refl refl, (tt, tt))
all_are (lines.AddGroup name group_type p) = (bare (codes "addpg") refl refl, (tt, (tt, flag_are p)))
all_are (lines.DeleteGroup name) = (bare (codes "delpg") refl refl, (tt, tt))
all_are (lines.Property group change) = change_are group change
all_are (lines.SelectSnapshot word) = (bare (codes "selectsnap") refl refl, word_are word)
all_are (lines.Revert word) = (bare (codes "revert") refl refl, word_are word)
all_are lines.End = (bare (codes "end") refl refl, tt)

no_comment_change : (group : List ℕ) (change : PropertyChange)
    → is_comment (text_of_tokens (change_tokens group change)) ≡ false
unfolding text_of_tokens
no_comment_change group (properties.Set name kind values) = refl
no_comment_change group (properties.AddValue name kind value) = refl
no_comment_change group (properties.DeleteValue name value) = refl
no_comment_change group (properties.Delete name) = refl

no_comment : (l : Line) → is_comment (line_text l) ≡ false
unfolding text_of_tokens
no_comment lines.Nothing = refl
no_comment (lines.Select word) = refl
no_comment (lines.Delete word) = refl
no_comment lines.Unselect = refl
no_comment lines.List = refl
no_comment lines.ListGroups = refl
no_comment lines.ListProperties = refl
no_comment lines.ListSnapshots = refl
no_comment (lines.Add word) = refl
no_comment (lines.AddGroup name group_type p) = refl
no_comment (lines.DeleteGroup name) = refl
no_comment (lines.Property group change) = no_comment_change group change
no_comment (lines.SelectSnapshot word) = refl
no_comment (lines.Revert word) = refl
no_comment lines.End = refl

change_again : (group : List ℕ) (change : PropertyChange) → IsNameText group → IsChange change
    → line_in (change_tokens group change) ≡ Ok (lines.Property group change)
change_again group (properties.Set name None values) h k = rw (target_again group name h k, listed_again values) refl
change_again group (properties.Set name (Some kind) values) h k =
    rw (
      kind_read kind tokens.Open (quoted_all values ++ tokens.Close ∷ []),
      target_again group name h k,
      listed_again values,
    ) refl
change_again group (properties.AddValue name None value) h k = rw (target_again group name h k) refl
change_again group (properties.AddValue name (Some kind) value) h k =
    rw (kind_read kind (tokens.Quoted value) [], target_again group name h k) refl
change_again group (properties.DeleteValue name value) h k = rw (target_again group name h k) refl
change_again group (properties.Delete name) h k = rw (target_again group name h k) refl

group_again : (name group_type : List ℕ) (p : Bool) → IsNameText name → IsNameText group_type
    → line_in (tokens_for (lines.AddGroup name group_type p)) ≡ Ok (lines.AddGroup name group_type p)
group_again name group_type true h k = rw (name_again name h, name_again group_type k) refl
group_again name group_type false h k = rw (name_again name h, name_again group_type k) refl

snapshot_again : (word : Option (List ℕ))
    → line_in (tokens_for (lines.SelectSnapshot word)) ≡ Ok (lines.SelectSnapshot word)
snapshot_again None = refl
snapshot_again (Some word) = refl

revert_again : (word : Option (List ℕ)) → line_in (tokens_for (lines.Revert word)) ≡ Ok (lines.Revert word)
revert_again None = refl
revert_again (Some word) = refl

tokens_give : (l : Line) → IsWritable l → line_in (tokens_for l) ≡ Ok l
tokens_give lines.Nothing h = refl
tokens_give (lines.Select word) h = refl
tokens_give (lines.Delete word) h = refl
tokens_give lines.Unselect h = refl
tokens_give lines.List h = refl
tokens_give lines.ListGroups h = refl
tokens_give lines.ListProperties h = refl
tokens_give lines.ListSnapshots h = refl
tokens_give (lines.Add word) h = rw h refl
tokens_give (lines.AddGroup name group_type p) h = group_again name group_type p h.0 h.1
tokens_give (lines.DeleteGroup name) h = rw (name_again name h) refl
tokens_give (lines.Property group change) h = change_again group change h.0 h.1
tokens_give (lines.SelectSnapshot word) h = snapshot_again word
tokens_give (lines.Revert word) h = revert_again word
tokens_give lines.End h = refl

line_by_parts : (text : List ℕ) (ts : List Token) (l : Result Line LineFault) → is_comment text ≡ false
    → tokens_of text ≡ Ok ts → line_in ts ≡ l → line_of text ≡ l
unfolding line_of
line_by_parts text ts l comment read gives = rw (comment, read) gives

line_again : (l : Line) → IsWritable l → line_of (line_text l) ≡ Ok l
line_again l h =
    line_by_parts (line_text l) (tokens_for l) (Ok l) (no_comment l) (tokens_again (tokens_for l) (all_are l))
    (tokens_give l h)

pub read_again : (r : Result Line LineFault) (text : List ℕ) → Gives r (line_of text) → (l : Line) → IsWritable l
    → text ≡ line_text l → Gives r (Ok l)
read_again r text given l h e = let P : Result Line LineFault → Type 0 = λ x. Gives r x in
    subst P (ap line_of e ∙ line_again l h) given
