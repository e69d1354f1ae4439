-- The parts of a machine, and the world that they are.
use Rattle.std.proofs.Common.{◌≡◌, ◌++◌, List, [], ◌∷◌, Option, refl, sym, ap, ◌∙◌, Result, Ok, Err, OnErr}
use Rattle.std.specs.Prelude.{reverse}
use Rattle.std.proofs.lemmas.List.{reverse-append}
use Rattle.smf_contract.specs.Entries.{Contracts}
use Rattle.smf_model.specs.declared.command.Command.{Command}
use Rattle.smf_state.specs.declared.view.View.{View}
use Rattle.smf_model.specs.Contents.{Holdings}
use Rattle.smf_model.specs.Look.{holdings_after_changes}
use Rattle.smf_restarter.specs.Knowledge.{Knowledge}
use Rattle.smf_wire.specs.declared.message.Message.{Message}
use Rattle.smf_world.specs.declared.item.Item.{Item}
use Rattle.smf_world.specs.declared.work.Work.{Work}
use Rattle.smf_world.specs.Happens.{world_after, seen_after, with_patches}
use Rattle.smf_world.specs.World.{World}
use Rattle.smf_machine.specs.declared.parts.Parts.{Parts}
use Rattle.smf_machine.specs.Install.{IsInstalled, IsSame, rest_of}
use Rattle.smf_machine.specs.Lists.{AtMostOne}
use Rattle.smf_machine.specs.Parts.{world_of}

-- two worlds that agree in each part are one
pub world_is : (first first2 : Holdings) (past past2 : List Command) (now now2 : Holdings) (ks ks2 : List Knowledge)
    (seen seen2 : Option View) (table table2 : Contracts) (sent sent2 : List Message) (trail trail2 : List Item)
    → first ≡ first2 → past ≡ past2 → now ≡ now2 → ks ≡ ks2 → seen ≡ seen2 → table ≡ table2 → sent ≡ sent2
    → trail ≡ trail2
    → (let w : World = record {
      history = record { first = first; past = past };
      now = now;
      restarters = ks;
      seen = seen;
      sent = sent;
      trail = trail;
      table = table;
    } in
    let v : World =
    record {
      history = record { first = first2; past = past2 };
      now = now2;
      restarters = ks2;
      seen = seen2;
      sent = sent2;
      trail = trail2;
      table = table2;
    } in w ≡ v)
world_is first first2 past past2 now now2 ks ks2 seen seen2 table table2 sent sent2 trail trail2 a b c d e f g h =
    λ j. record {
      history = record { first = a j; past = b j };
      now = c j;
      restarters = d j;
      seen = e j;
      sent = g j;
      trail = h j;
      table = f j;
    }

pub same_world : (h k : Holdings) (p q : Parts) → k ≡ h → IsSame p q → world_of k q ≡ world_of h p
unfolding world_of
same_world h k p q e s =
    world_is _ _ _ _ _ _ _
    _ _ _ _ _ _ _
    _ _ s.first (ap reverse s.commands) e s.restarters s.seen s.table
    (ap reverse s.messages) (ap reverse s.trail)

pub behind : {A : Type 0} (xs zs ys : List A) → ys ≡ xs ++ zs → reverse ys ≡ reverse zs ++ reverse xs
behind xs zs ys e = ap reverse e ∙ reverse-append xs zs

-- a list of one at most is itself turned round
pub one_reversed : {A : Type 0} (xs : List A) → AtMostOne xs → reverse xs ≡ xs
one_reversed [] h = refl
one_reversed (x ∷ []) h = refl
one_reversed (x ∷ y ∷ ys) h = absurd h

-- room was made, the changes were made of what is held, and the rest was installed
pub done_is : (h k : Holdings) (p m q : Parts) (w : Work) → IsSame p m → k ≡ holdings_after_changes h w.changes
    → IsInstalled m q (rest_of w) → AtMostOne w.command → w.patches ≡ [] → world_of k q ≡ world_after (world_of h p) w
unfolding world_of world_after
done_is h k p m q w s e i one none =
    let same : world_of h m ≡ world_of h p = same_world h h p m refl s in
    let past : reverse q.commands.items ≡ w.command ++ reverse m.commands.items =
    behind m.commands.items w.command q.commands.items i.commands
    ∙ ap (λ cs. cs ++ reverse m.commands.items) (one_reversed w.command one) in
    let step : world_of k q ≡ world_after (world_of h m) w =
    world_is _ _ _ _ _ _ _
    _ _ _ _ _ _ _
    _ _ i.first past e i.restarters
    (i.seen ∙ ap (with_patches (seen_after w.forgets m.engine w.seen)) (sym none)) i.table
    (behind m.messages.items w.messages q.messages.items i.messages)
    (behind m.trail.items w.items q.trail.items i.trail) in
    step ∙ ap (λ v. world_after v w) same

pub on_err : {X E A : Type 0} (r : Result X E) → A → OnErr r A
on_err (Ok x) a = tt
on_err (Err e) a = a
