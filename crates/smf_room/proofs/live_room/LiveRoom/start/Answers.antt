use Rattle.std.proofs.Common.{◌≡◌, ◌∙◌, List, ap, false, inr, string_bytes, subst, sym, ℕ}
use Rattle.std.specs.List.{list_any}
use Rattle.smf_room.specs.Clearings.{IsClearing, IsClearingLost}
use Rattle.smf_room.specs.Helds.{Held, held_may_be}
use Rattle.smf_room.specs.Starts.{IsMade, IsTried, IsUnmade}
use Rattle.smf_room.specs.Tellings.{Heard, Then}
use Rattle.smf_room.proofs.Hearing.{both, on_err}
use Rattle.smf_room.proofs.Living.{begun_leads, clearing_leads, clearing_lost_leads, goes, lost_leads}
use Rattle.smf_room.proofs.Starting.{tried_of}
use Rattle.smf_room.proofs.live_room.LiveRoom.start.Goals as goal

pub returns-in_err-clear-clause-careful : goal.returns-in_err-clear-clause-careful
returns-in_err-clear-clause-careful g c =
    goes c.args.self.now
    (record {
      alloc = c.args.self.now.alloc;
      room = c.clear.new.room;
      numbers = c.args.self.now.numbers;
      unsettled = c.clear.new.unsettled;
    })
    (IsClearingLost c.as_str-instance.result.now c.args.self.now.unsettled.items c.clear.new.unsettled.items)
    c.in_err-clear.ensures.lost
    (clearing_lost_leads c.args.self.now.numbers c.as_str-instance.result.now c.args.self.now.unsettled.items
    c.clear.new.unsettled.items)

pub returns-then-may_run-clause-careful : goal.returns-then-may_run-clause-careful
returns-then-may_run-clause-careful g c =
    goes c.args.self.now
    (record {
      alloc = c.args.self.now.alloc;
      room = c.clear.new.room;
      numbers = c.args.self.now.numbers;
      unsettled = c.clear.new.unsettled;
    })
    (IsClearing c.as_str-instance.result.now c.args.self.now.unsettled.items c.clear.new.unsettled.items)
    c.in_ok-clear.ensures.done
    (clearing_leads c.args.self.now.numbers c.as_str-instance.result.now c.args.self.now.unsettled.items
    c.clear.new.unsettled.items)

pub returns-in_err-id-clause-lost : goal.returns-in_err-id-clause-lost
returns-in_err-id-clause-lost g c =
    let text = c.as_str-instance.ensures.value in
    let none : list_any (held_may_be (string_bytes c.args.note.now.instance)) c.clear.new.unsettled.items ≡ false =
    ap (λ (x : List ℕ). list_any (held_may_be x) c.clear.new.unsettled.items) (sym text)
    ∙ ap (λ (x : List Held). list_any (held_may_be c.as_str-instance.result.now) x) (sym c.deref.ensures.value)
    ∙ sym c.may_run.ensures ∙ c.if-may_run.false in
    let cleared =
    subst
    (λ (x : List ℕ). Heard g.R.Room.tells g.R.Room.did
    (IsClearing x c.args.self.now.unsettled.items c.clear.new.unsettled.items) c.args.self.now.room c.clear.new.room)
    text c.in_ok-clear.ensures.done in
    on_err c.from_residual-in_err-id.result
    (inr (record { left = c.clear.new.unsettled.items; none = none; heard = both cleared c.in_err-id.ensures.lost }))

pub returns-in_err-id-clause-careful : goal.returns-in_err-id-clause-careful
returns-in_err-id-clause-careful g c =
    let text = c.as_str-instance.ensures.value in
    let none : list_any (held_may_be (string_bytes c.args.note.now.instance)) c.clear.new.unsettled.items ≡ false =
    ap (λ (x : List ℕ). list_any (held_may_be x) c.clear.new.unsettled.items) (sym text)
    ∙ ap (λ (x : List Held). list_any (held_may_be c.as_str-instance.result.now) x) (sym c.deref.ensures.value)
    ∙ sym c.may_run.ensures ∙ c.if-may_run.false in
    let cleared =
    subst
    (λ (x : List ℕ). Heard g.R.Room.tells g.R.Room.did
    (IsClearing x c.args.self.now.unsettled.items c.clear.new.unsettled.items) c.args.self.now.room c.clear.new.room)
    text c.in_ok-clear.ensures.done in
    goes c.args.self.now
    (record {
      alloc = c.args.self.now.alloc;
      room = c.make.new.room;
      numbers = c.make.new.numbers;
      unsettled = c.make.new.unsettled;
    })
    (Then (IsClearing (string_bytes c.args.note.now.instance) c.args.self.now.unsettled.items c.clear.new.unsettled.items)
    (IsUnmade c.args.self.now.numbers c.make.new.numbers c.clear.new.unsettled.items c.make.new.unsettled.items
    c.args.note.now))
    (both cleared c.in_err-id.ensures.lost)
    (lost_leads c.args.self.now.numbers c.make.new.numbers c.args.self.now.unsettled.items c.clear.new.unsettled.items
    c.make.new.unsettled.items c.args.note.now none)

pub returns-clause-started : goal.returns-clause-started
returns-clause-started g c =
    let text = c.as_str-instance.ensures.value in
    let none : list_any (held_may_be (string_bytes c.args.note.now.instance)) c.clear.new.unsettled.items ≡ false =
    ap (λ (x : List ℕ). list_any (held_may_be x) c.clear.new.unsettled.items) (sym text)
    ∙ ap (λ (x : List Held). list_any (held_may_be c.as_str-instance.result.now) x) (sym c.deref.ensures.value)
    ∙ sym c.may_run.ensures ∙ c.if-may_run.false in
    let cleared =
    subst
    (λ (x : List ℕ). Heard g.R.Room.tells g.R.Room.did
    (IsClearing x c.args.self.now.unsettled.items c.clear.new.unsettled.items) c.args.self.now.room c.clear.new.room)
    text c.in_ok-clear.ensures.done in
    let tried = tried_of c.in_ok-id.id c.ask-asked.result c.ask-asked.ensures.asked c.ask-asked.ensures.lost in
    record {
      left = c.clear.new.unsettled.items;
      none = none;
      heard = both (both cleared c.in_ok-id.ensures.made) tried;
    }

pub returns-clause-careful : goal.returns-clause-careful
returns-clause-careful g c =
    let text = c.as_str-instance.ensures.value in
    let none : list_any (held_may_be (string_bytes c.args.note.now.instance)) c.clear.new.unsettled.items ≡ false =
    ap (λ (x : List ℕ). list_any (held_may_be x) c.clear.new.unsettled.items) (sym text)
    ∙ ap (λ (x : List Held). list_any (held_may_be c.as_str-instance.result.now) x) (sym c.deref.ensures.value)
    ∙ sym c.may_run.ensures ∙ c.if-may_run.false in
    let cleared =
    subst
    (λ (x : List ℕ). Heard g.R.Room.tells g.R.Room.did
    (IsClearing x c.args.self.now.unsettled.items c.clear.new.unsettled.items) c.args.self.now.room c.clear.new.room)
    text c.in_ok-clear.ensures.done in
    let tried = tried_of c.in_ok-id.id c.ask-asked.result c.ask-asked.ensures.asked c.ask-asked.ensures.lost in
    goes c.args.self.now
    (record {
      alloc = c.args.self.now.alloc;
      room = c.ask-asked.new.room;
      numbers = c.make.new.numbers;
      unsettled = c.make.new.unsettled;
    })
    (Then
    (Then (IsClearing (string_bytes c.args.note.now.instance) c.args.self.now.unsettled.items c.clear.new.unsettled.items)
    (IsMade c.args.self.now.numbers c.make.new.numbers c.clear.new.unsettled.items c.make.new.unsettled.items
    c.args.note.now c.in_ok-id.id)) (IsTried c.in_ok-id.id))
    (both (both cleared c.in_ok-id.ensures.made) tried)
    (begun_leads c.args.self.now.numbers c.make.new.numbers c.args.self.now.unsettled.items c.clear.new.unsettled.items
    c.make.new.unsettled.items c.args.note.now c.in_ok-id.id none)
