-- Items put on a trail, and those of them that are commits.
use Rattle.std.proofs.Common.{◌≡◌, Bool, true, false, cond, List, [], ◌∷◌, ◌++◌, map, reverse, filter, refl, sym, ap, ◌∙◌}
use Rattle.std.proofs.lemmas.Grind.{reverse_onto}
use Rattle.std.proofs.lemmas.List.{append_assoc}
use Rattle.smf_model.specs.declared.command.Command.{Command}
use Rattle.smf_model.specs.declared.command.Command.TheVariants as commands
use Rattle.smf_model.specs.declared.held.Instance.{Instance}
use Rattle.smf_model.specs.Contents.{Holdings}
use Rattle.smf_model.specs.Look.{instances}
use Rattle.smf_world.specs.declared.item.Item.{Item}
use Rattle.smf_world.specs.Items.{row_item}
use Rattle.smf_world.specs.Safe.{commits, is_commit, is_committed, made_items}

-- these items, in order, put on a trail
abbrev pub noted : List Item → List Item → List Item
noted items trail = reverse items ++ trail

pub noted_more : (x : Item) (xs trail : List Item) → noted (x ∷ xs) trail ≡ noted xs (x ∷ trail)
noted_more x xs trail = ap (λ (ys : List Item). ys ++ trail) (reverse_onto xs x [])
    ∙ append_assoc (reverse xs) (x ∷ []) trail

pub noted_both : (xs ys trail : List Item) → noted (xs ++ ys) trail ≡ noted ys (noted xs trail)
noted_both [] ys trail = refl
noted_both (x ∷ xs) ys trail =
    noted_more x (xs ++ ys) trail ∙ (noted_both xs ys (x ∷ trail) ∙ ap (noted ys) (sym (noted_more x xs trail)))

-- each of these is a commit, or none is
abbrev pub AllCommit : Bool → List Item → Type 0
AllCommit b [] = Unit {0}
AllCommit b (x ∷ xs) = (is_commit x ≡ b) × AllCommit b xs

pub both_commit : (b : Bool) (xs ys : List Item) → AllCommit b xs → AllCommit b ys → AllCommit b (xs ++ ys)
both_commit b [] ys a d = d
both_commit b (x ∷ xs) ys a d = (a.0, both_commit b xs ys a.1 d)

pub commits_noted : (xs trail : List Item) → AllCommit true xs → commits (noted xs trail) ≡ noted xs (commits trail)
commits_noted [] trail a = refl
commits_noted (x ∷ xs) trail a =
    ap commits (noted_more x xs trail)
    ∙ (commits_noted xs (x ∷ trail) a.1
    ∙ (ap (λ (b : Bool). noted xs (cond b (x ∷ commits trail) (commits trail))) a.0
    ∙ sym (noted_more x xs (commits trail))))

pub others_noted : (xs trail : List Item) → AllCommit false xs → commits (noted xs trail) ≡ commits trail
others_noted [] trail a = refl
others_noted (x ∷ xs) trail a =
    ap commits (noted_more x xs trail)
    ∙ (others_noted xs (x ∷ trail) a.1
    ∙ ap (λ (b : Bool). cond b (x ∷ commits trail) (commits trail)) a.0)

rows_commit : (is : List Instance) → AllCommit true (map row_item is)
rows_commit [] = tt
rows_commit (i ∷ is) = (refl, rows_commit is)

pub made_commit : (c : Command) (h k : Holdings) → AllCommit true (made_items c h k)
made_commit (commands.Edit e) h k = rows_commit (filter (is_committed h) (instances k))
made_commit (commands.Propose p) h k = rows_commit (filter (is_committed h) (instances k))
made_commit (commands.Launch name) h k = rows_commit (filter (is_committed h) (instances k))
made_commit commands.Boot h k = (refl, rows_commit (filter (is_committed h) (instances k)))
