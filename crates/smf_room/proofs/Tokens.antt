-- A token is read from its name, and only from its name.
use Rattle.std.proofs.Common.{◌≡◌, ◌<◌, ◌^◌, ℕ, List, ◌++◌, length, drop, codes, Bool, true, false, cond, if◌then◌else◌, Option, Some, None, option_map, IfSome, refl, sym, ◌∙◌, ap}
use Rattle.std.specs.Prelude.{nat_eq}
use Rattle.std.specs.Cmp.Lexicographic.{pointwise}
use Rattle.std.specs.Fmt.{decimal}
use Rattle.std.specs.List.{starts_with}
use Rattle.std.proofs.lemmas.Slice.Eq.{starts_is}
use Rattle.std.proofs.lemmas.Bool.Decides.{Decides-eqb}
use Rattle.smf_fmri.specs.Counts.{read_count}
use Rattle.smf_fmri.specs.Name.{strip}
use Rattle.smf_fmri.proofs.Counts.{printed_is_read, read_is_printed}
use Rattle.smf_fmri.proofs.Patterns.{same_text}
use Rattle.smf_room.specs.declared.token.Token.{Token}
use Rattle.smf_room.specs.declared.token.Token.TheVariants.{Go, Void, Begun, Ended, Over}
use Rattle.smf_room.specs.Tokens.{IsReadable, read_rest, read_token, token_name}

strip_by : (v : Bool) (p text rest : List ℕ) → starts_with nat_eq text p ≡ v
    → cond v (Some (drop (length p) text)) None ≡ Some rest → text ≡ p ++ rest
strip_by true p text rest e h =
    let same : drop (length p) text ≡ rest = cc in
    (starts_is Decides-eqb text p _ refl).0 e ∙ ap (λ l. p ++ l) same
strip_by false p text rest e h = cc

-- the rest after a prefix
strip_splits : (p text rest : List ℕ) → strip p text ≡ Some rest → text ≡ p ++ rest
unfolding strip
strip_splits p text rest h = strip_by _ p text rest refl h

ended_named : (text : List ℕ) (o : Option ℕ) (t : Token) → read_count text ≡ o
    → option_map (λ status. Ended status) o ≡ Some t → codes "ended-" ++ text ≡ token_name t
ended_named text None t e h = absurd cc
ended_named text (Some status) t e h =
    let is : Ended status ≡ t = cc in
    ap (λ x. codes "ended-" ++ x) (read_is_printed text status e) ∙ ap token_name is

over_named : (text : List ℕ) (b : Bool) (o : Option ℕ) (t : Token) → pointwise nat_eq text (codes "x") ≡ b
    → read_count text ≡ o → (if b then Some (Over None) else option_map (λ status. Over (Some status)) o) ≡ Some t
    → codes "over-" ++ text ≡ token_name t
over_named text true o t x e h =
    let is : Over None ≡ t = cc in
    ap (λ y. codes "over-" ++ y) ((same_text text (codes "x")).0 x) ∙ ap token_name is
over_named text false None t x e h = absurd cc
over_named text false (Some status) t x e h =
    let is : Over (Some status) ≡ t = cc in
    ap (λ y. codes "over-" ++ y) (read_is_printed text status e) ∙ ap token_name is

rest_named : (name : List ℕ) (a b : Option (List ℕ)) (t : Token) → strip (codes "ended-") name ≡ a
    → strip (codes "over-") name ≡ b → read_rest a b ≡ Some t → name ≡ token_name t
rest_named name (Some text) b t e f h =
    strip_splits (codes "ended-") name text e ∙ ended_named text (read_count text) t refl h
rest_named name None (Some text) t e f h =
    strip_splits (codes "over-") name text f ∙ over_named text _ (read_count text) t refl refl h
rest_named name None None t e f h = absurd cc

named_by : (name : List ℕ) (g v b : Bool) (t : Token) → pointwise nat_eq name (codes "go") ≡ g
    → pointwise nat_eq name (codes "void") ≡ v → pointwise nat_eq name (codes "begun") ≡ b
    → (if g then Some Go else if v then Some Void else if b then Some Begun
    else read_rest (strip (codes "ended-") name) (strip (codes "over-") name)) ≡ Some t → name ≡ token_name t
named_by name true v b t e f d h =
    let is : Go ≡ t = cc in (same_text name (codes "go")).0 e ∙ ap token_name is
named_by name false true b t e f d h =
    let is : Void ≡ t = cc in (same_text name (codes "void")).0 f ∙ ap token_name is
named_by name false false true t e f d h =
    let is : Begun ≡ t = cc in (same_text name (codes "begun")).0 d ∙ ap token_name is
named_by name false false false t e f d h = rest_named name _ _ t refl refl h

-- a name that is read as a token is its name
pub named : (name : List ℕ) (t : Token) → read_token name ≡ Some t → name ≡ token_name t
named name t h = named_by name _ _ _ t refl refl refl h

pub printed : (name : List ℕ) (r : Option Token) → r ≡ read_token name → IfSome r (λ t. name ≡ token_name t)
printed name None e = tt
printed name (Some t) e = named name t (sym e)

-- no number is spelled x
x_is_none : read_count (codes "x") ≡ None
unfolding read_count
x_is_none = refl

no_x : (status : ℕ) (b : Bool) → status < 2 ^ 64 → pointwise nat_eq (decimal status) (codes "x") ≡ b
    → (if b then Some (Over None) else option_map (λ x. Over (Some x)) (read_count (decimal status)))
    ≡ Some (Over (Some status))
no_x status true h e =
    let is : decimal status ≡ codes "x" = (same_text (decimal status) (codes "x")).0 e in
    let none : read_count (decimal status) ≡ None = ap read_count is ∙ x_is_none in
    let some : read_count (decimal status) ≡ Some status = printed_is_read status h in
    absurd cc
no_x status false h e = ap (option_map (λ x. Over (Some x))) (printed_is_read status h)

named_again : (t : Token) → IsReadable t → read_token (token_name t) ≡ Some t
unfolding strip
named_again Go h = refl
named_again Void h = refl
named_again Begun h = refl
named_again (Ended status) h = ap (option_map (λ x. Ended x)) (printed_is_read status h)
named_again (Over (Some status)) h = no_x status _ h refl
named_again (Over None) h = refl

-- the name of a token is read as this
pub again : (name : List ℕ) (r : Option Token) (t : Token) → r ≡ read_token name → IsReadable t → name ≡ token_name t
    → r ≡ Some t
again name r t e h n = e ∙ ap read_token n ∙ named_again t h
