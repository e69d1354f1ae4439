-- The repository's record stays that of the accepted commands.
use Rattle.std.proofs.Common.{◌≡◌, ◌+◌, ◌==◌, not, Bool, true, false, ℕ, List, [], ◌∷◌, ◌++◌, Option, Some, None, Result, Ok, Err, IfOk, OnErr, refl, sym, ap, ◌∙◌, subst, arith, eqb-true}
use Rattle.std.specs.Prelude.{reverse, take}
use Rattle.smf_model.specs.declared.change.Change.{Change}
use Rattle.smf_model.specs.declared.command.Command.{Command}
use Rattle.smf_model.specs.History.{History, is_revised, holdings_after_commands}
use Rattle.smf_model.specs.Contents.{Holdings}
use Rattle.smf_model.specs.Look.{holdings_after_changes}
use Rattle.smf_model.specs.Next.{next}
use Rattle.smf_changes.specs.Changes.{most_recent, recent, touched_numbers, with_newest}
use Rattle.smf_changes.specs.Recorded.{next_lists}
use Rattle.smf_world.specs.declared.work.Work.{Work}
use Rattle.smf_contract.specs.declared.event.ContractEvent.{ContractEvent}
use Rattle.smf_world.specs.Happens.{world_after, happens}
use Rattle.smf_world.specs.Worked.{work_of_call, work_of_event}
use Rattle.smf_world.specs.World.{World, initial_world}
use Rattle.smf_contract.specs.Entries.{Contracts}
use Rattle.smf_past.specs.Lived.{continued}
use Rattle.smf_past.specs.Remains.{remains}
use Rattle.smf_machine.specs.declared.polls.News.{News}
use Rattle.smf_machine.specs.Children.{done_if, world_after_news, world_after_poll, news_of}
use Rattle.smf_machine.proofs.Worlds.{behind, one_reversed}
use Rattle.smf_machine.specs.declared.parts.Parts.{Parts}
use Rattle.smf_machine.specs.Install.{AreOf, IsInstalled, IsSame, rest_of}
use Rattle.smf_machine.specs.Lists.{AtMostOne}
use Rattle.smf_machine.specs.Parts.{IsLinked, history_of, world_of}

is_next : (m n : ℕ) → m ≡ n + 1 → not (m == n) ≡ true
is_next m n e = by (m == n) refl
  where
    by : (b : Bool) → (m == n) ≡ b → not b ≡ true
    by true f = absurd (let same : m ≡ n = eqb-true m n f in omega arith)
    by false f = refl

-- one list more
one_more : (h : Holdings) (y : History) (nss : List (List ℕ)) (c : Command) → IsLinked h nss y
    → (next h c).0.revision ≡ h.revision + 1
    → take most_recent (touched_numbers h (next h c).0 ∷ nss) ≡ recent y.first (c ∷ y.past)
unfolding recent
one_more h y nss c l e =
    let m : Holdings = holdings_after_commands y.first y.past in
    let same : take most_recent (touched_numbers h (next h c).0 ∷ nss)
    ≡ take most_recent (touched_numbers m (next m c).0 ∷ recent y.first y.past)
    = λ j. take most_recent (touched_numbers (l.newest j) (next (l.newest j) c).0 ∷ l.lists j) in
    let revised : is_revised m (next m c).0 ≡ true =
    is_next (next m c).0.revision m.revision
    (subst (λ (k : Holdings). (next k c).0.revision ≡ k.revision + 1) l.newest e) in
    same ∙ sym (ap (λ (b : Bool). with_newest b (touched_numbers m (next m c).0) (recent y.first y.past)) revised)

as_it_was : (h : Holdings) (y : History) (nss : List (List ℕ)) → IsLinked h nss y
    → IsLinked (holdings_after_changes h []) (next_lists h [] nss) y
unfolding holdings_after_changes
as_it_was h y nss l = l

-- the changes of a command were made
pub linked_after : (h : Holdings) (y : History) (nss : List (List ℕ)) (cs : List Command) (xs : List Change)
    → IsLinked h nss y → AreOf h cs xs
    → IsLinked (holdings_after_changes h xs) (next_lists h xs nss) (record y { past = cs ++ y.past })
linked_after h y nss [] xs l e =
    subst (λ (zs : List Change). IsLinked (holdings_after_changes h zs) (next_lists h zs nss) y) (sym e)
    (as_it_was h y nss l)
linked_after h y nss (c ∷ []) [] l e = absurd e
linked_after h y nss (c ∷ []) (x ∷ xs) l e =
    record {
      newest = e.0 ∙ ap (λ (k : Holdings). (next k c).0) l.newest;
      lists = ap (λ (k : Holdings). take most_recent (touched_numbers h k ∷ nss)) e.0 ∙ one_more h y nss c l e.1;
    }
linked_after h y nss (c ∷ d ∷ cs) xs l e = absurd e

-- ---- parts

same_history : (p q : Parts) → IsSame p q → history_of q ≡ history_of p
same_history p q s = λ j. record { first = s.first j; past = reverse (s.commands j) }

pub linked_same : (h k : Holdings) (mss nss : List (List ℕ)) (p q : Parts) → IsLinked h mss (history_of p) → k ≡ h
    → nss ≡ mss → history_of q ≡ history_of p → IsLinked k nss (history_of q)
linked_same h k mss nss p q l a b c =
    subst (IsLinked k nss) (sym c)
    (subst (λ (ls : List (List ℕ)). IsLinked k ls (history_of p)) (sym b)
    (subst (λ (x : Holdings). IsLinked x mss (history_of p)) (sym a) l))

pub history_same : (p q : Parts) → IsSame p q → history_of q ≡ history_of p
history_same p q s = same_history p q s

-- room was made, the changes were made of what is held, and the rest was installed
pub linked_made : (h k : Holdings) (mss nss : List (List ℕ)) (p m q : Parts) (w : Work)
    → IsLinked h mss (history_of p) → IsSame p m → k ≡ holdings_after_changes h w.changes
    → nss ≡ next_lists h w.changes mss
    → IsInstalled m q (rest_of w) → AtMostOne w.command → AreOf h w.command w.changes → IsLinked k nss (history_of q)
linked_made h k mss nss p m q w l s e f i one of =
    let past : reverse q.commands.items ≡ w.command ++ reverse p.commands.items
    = behind m.commands.items w.command q.commands.items i.commands
    ∙ (λ j. one_reversed w.command one j ++ reverse (s.commands j)) in
    let first : q.first ≡ p.first = i.first ∙ s.first in
    let y : History = history_of p in
    let same : history_of q ≡ record y { past = w.command ++ y.past } =
    λ j. record { first = first j; past = past j } in
    subst (λ (z : History). IsLinked k nss z) (sym same)
    (subst (λ (ls : List (List ℕ)). IsLinked k ls (record y { past = w.command ++ y.past })) (sym f)
    (subst (λ (x : Holdings). IsLinked x (next_lists h w.changes mss) (record y { past = w.command ++ y.past }))
    (sym e) (linked_after h y mss w.command w.changes l of)))

-- ---- worlds

history_in : (h : Holdings) (p : Parts) → (world_of h p).history ≡ history_of p
unfolding world_of
history_in h p = refl

done_history : (w : World) (k : Work) → k.command ≡ [] → (world_after w k).history ≡ w.history
unfolding world_after
done_history w k none = ap (λ (cs : List Command). record w.history { past = cs ++ w.history.past }) none

-- a work of no command leaves the history
pub history_left : (h : Holdings) (p q : Parts) (k : Work) → world_of h q ≡ world_after (world_of h p) k
    → k.command ≡ [] → history_of q ≡ history_of p
history_left h p q k e none = sym (history_in h q) ∙ ap (λ (w : World). w.history) e
    ∙ done_history (world_of h p) k none ∙ history_in h p

pub history_kept : (h : Holdings) (p q : Parts) → world_of h q ≡ world_of h p → history_of q ≡ history_of p
history_kept h p q e = sym (history_in h q) ∙ ap (λ (w : World). w.history) e ∙ history_in h p

still_linked : (h : Holdings) (nss : List (List ℕ)) (p q : Parts) → IsLinked h nss (history_of p)
    → history_of q ≡ history_of p → IsLinked h nss (history_of q)
still_linked h nss p q l e = subst (IsLinked h nss) (sym e) l

-- a work of no command was made, or nothing was
pub linked_turned : {X E : Type 0} (h : Holdings) (nss : List (List ℕ)) (p q : Parts) (r : Result X E) (k : X → Work)
    → IsLinked h nss (history_of p) → ((x : X) → (k x).command ≡ [])
    → IfOk r (λ x. world_of h q ≡ world_after (world_of h p) (k x)) → OnErr r (world_of h q ≡ world_of h p)
    → IsLinked h nss (history_of q)
linked_turned h nss p q (Ok x) k l none holdings_after_commands same =
    still_linked h nss p q l (history_left h p q (k x) holdings_after_commands (none x))
linked_turned h nss p q (Err e) k l none holdings_after_commands same =
    still_linked h nss p q l (history_kept h p q same)

left_if : (b : Bool) (h : Holdings) (p q : Parts) (k : Work) → world_of h q ≡ done_if b (world_of h p) k
    → k.command ≡ [] → history_of q ≡ history_of p
left_if true h p q k e none = history_left h p q k e none
left_if false h p q k e none = history_kept h p q e

pub linked_turned_if : {E : Type 0} (h : Holdings) (nss : List (List ℕ)) (p q : Parts) (r : Result Bool E) (k : Work)
    → IsLinked h nss (history_of p) → k.command ≡ []
    → IfOk r (λ did. world_of h q ≡ done_if did (world_of h p) k) → OnErr r (world_of h q ≡ world_of h p)
    → IsLinked h nss (history_of q)
linked_turned_if h nss p q (Ok did) k l none holdings_after_commands same =
    still_linked h nss p q l (left_if did h p q k holdings_after_commands none)
linked_turned_if h nss p q (Err e) k l none holdings_after_commands same =
    still_linked h nss p q l (history_kept h p q same)

news_left : (w : World) (o : Option News) → (world_after_news o w).history ≡ w.history
unfolding happens work_of_event work_of_call world_after
news_left w None = refl
news_left w (Some n) = refl

heard_left : (w : World) (o : Option ContractEvent) → (world_after_poll o w).history ≡ w.history
heard_left w None = refl
heard_left w (Some e) = news_left w (news_of w.table e)

left_heard : (h : Holdings) (p q : Parts) (o : Option ContractEvent)
    → world_of h q ≡ world_after_poll o (world_of h p) → history_of q ≡ history_of p
left_heard h p q o e = sym (history_in h q) ∙ ap (λ (w : World). w.history) e ∙ heard_left (world_of h p) o
    ∙ history_in h p

-- an event was heard, or nothing was
pub linked_heard : {E : Type 0} (h : Holdings) (nss : List (List ℕ)) (p q : Parts)
    (r : Result (Option ContractEvent) E) → IsLinked h nss (history_of p)
    → IfOk r (λ event. world_of h q ≡ world_after_poll event (world_of h p)) → OnErr r (world_of h q ≡ world_of h p)
    → IsLinked h nss (history_of q)
linked_heard h nss p q (Ok o) l holdings_after_commands same =
    still_linked h nss p q l (left_heard h p q o holdings_after_commands)
linked_heard h nss p q (Err e) l holdings_after_commands same = still_linked h nss p q l (history_kept h p q same)

pub linked_left : (h : Holdings) (nss : List (List ℕ)) (p q : Parts) → IsLinked h nss (history_of p)
    → history_of q ≡ history_of p → IsLinked h nss (history_of q)
linked_left h nss p q l e = still_linked h nss p q l e

-- nothing was accepted yet
first_linked : (h : Holdings) → IsLinked h [] (record { first = h; past = [] })
unfolding recent
first_linked h = record { newest = refl; lists = refl }

pub linked_first : (h : Holdings) (nss : List (List ℕ)) (p : Parts) → world_of h p ≡ initial_world h → nss ≡ []
    → IsLinked h nss (history_of p)
linked_first h nss p e none =
    let y : history_of p ≡ record { first = h; past = [] } = sym (history_in h p) ∙ ap (λ (w : World). w.history) e in
    subst (IsLinked h nss) (sym y)
    (subst (λ (ls : List (List ℕ)). IsLinked h ls (record { first = h; past = [] })) (sym none) (first_linked h))

-- the same of a new process
pub linked_continued : (h : Holdings) (t : Contracts) (nss : List (List ℕ)) (p : Parts) → world_of h p ≡ continued h t
    → nss ≡ [] → IsLinked h nss (history_of p)
linked_continued h t nss p e none =
    let y : history_of p ≡ record { first = h; past = [] } = sym (history_in h p) ∙ ap (λ (w : World). w.history) e in
    subst (IsLinked h nss) (sym y)
    (subst (λ (ls : List (List ℕ)). IsLinked h ls (record { first = h; past = [] })) (sym none) (first_linked h))

now_of : (h : Holdings) (p : Parts) → (world_of h p).now ≡ h
unfolding world_of
now_of h p = refl

pub now_is : (h : Holdings) (p : Parts) (w : World) → world_of h p ≡ w → w.now ≡ h
now_is h p w e = ap (λ (x : World). x.now) (sym e) ∙ now_of h p

-- the same of what forgets its past
pub linked_remaining : (h : Holdings) (nss : List (List ℕ)) (p q : Parts) → world_of h q ≡ remains (world_of h p)
    → nss ≡ [] → IsLinked h nss (history_of q)
linked_remaining h nss p q e none =
    let begins : (remains (world_of h p)).history ≡ record { first = h; past = [] } =
    λ j. record { first = now_of h p j; past = [] } in
    let y : history_of q ≡ record { first = h; past = [] } =
    sym (history_in h q) ∙ ap (λ (w : World). w.history) e ∙ begins in
    subst (IsLinked h nss) (sym y)
    (subst (λ (ls : List (List ℕ)). IsLinked h ls (record { first = h; past = [] })) (sym none) (first_linked h))

pub world_remaining : (h k : Holdings) (p q : Parts) (w : World) → k ≡ h → world_of h p ≡ w
    → world_of k q ≡ remains (world_of k p) → world_of k q ≡ remains w
world_remaining h k p q w same is made = made ∙ ap (λ (x : Holdings). remains (world_of x p)) same ∙ ap remains is

pub table_is : (h : Holdings) (p : Parts) (w : World) → world_of h p ≡ w → w.table ≡ p.table.table
unfolding world_of
table_is h p w e = ap (λ (x : World). x.table) (sym e)
