-- A restarter says only messages that may be said, and hears only messages that it was told.
use Rattle.std.proofs.Common.{◌≡◌, ℕ, ◌≤◌, List, [], ◌∷◌, Option, Some, None, refl, sym, ap, ◌∙◌, subst, arith}
use Rattle.std.specs.Prelude.{find, unwrap_or}
use Rattle.smf_state.specs.declared.view.ViewItem.{ViewItem}
use Rattle.smf_model.specs.History.{History, holdings_after_commands}
use Rattle.smf_model.specs.Contents.{Holdings}
use Rattle.smf_model.specs.Laws.{IsNumbered}
use Rattle.smf_model.specs.Shown.{view}
use Rattle.smf_engine.specs.Orders.{is_about, order_in, order_to}
use Rattle.smf_engine.proofs.Shape.{order_shape}
use Rattle.smf_wire.specs.declared.message.Message.{Message}
use Rattle.smf_wire.specs.declared.message.Message.TheVariants as messages
use Rattle.smf_wire.specs.declared.order.Order.{Order}
use Rattle.smf_wire.specs.declared.order.What.{What}
use Rattle.smf_restarter.specs.Knowledge.{Knowledge}
use Rattle.smf_restarter.specs.Orders.{proposal}
use Rattle.smf_world.proofs.RowClauses.{WasProposed}
use Rattle.smf_safety.proofs.RowReady.{ready_past}
use Rattle.smf_safety.proofs.SaidClauses.{AllMayBeSaid, AreSaid, MayBeSaid}
use Rattle.smf_world.proofs.DecidedClauses.{IsOrderIn}
use Rattle.smf_world.proofs.DecidedOrders.{start_is_ready}
use Rattle.smf_safety.proofs.KnowClauses.{IsInformed}
use Rattle.smf_safety.proofs.KnowSteps.{Does, Doing, builds, forgets, granted, joins, learns, lists, proposes, refused, repeats, rests, spawns, turns}
use Rattle.smf_safety.proofs.KnowDone.{IsGiven, WasTold, awaited_at}
use Rattle.smf_safety.proofs.KnowProposed.{may_propose, proposable}
use Rattle.smf_safety.proofs.KnowLater.{proposal_is}

-- ---- orders

-- an order is of a row of the restarter that it is for
order_owner : (o : Order) (revision : ℕ) (items : List ViewItem) (x : Option ViewItem)
    → order_in revision items x ≡ Some o → o.row.owner ≡ o.restarter
order_owner o revision items None e = absurd cc
order_owner o revision items (Some i) e = order_shape revision items i Says none some e
  where
    Says : Option Order → Type 0
    Says a = a ≡ Some o → o.row.owner ≡ o.restarter

    none : Says None
    none f = absurd cc

    some : (what : What) → Says (order_to revision i (Some what))
    some what f =
        let same : record {
          restarter = i.row.owner;
          instance = i.instance;
          name = i.name;
          revision = revision;
          row = i.row;
          what = what;
        } ≡ o = cc in
        ap (λ (a : Order). a.row.owner) (sym same) ∙ ap (λ (a : Order). a.restarter) same

pub order_given : (y : History) (h : Holdings) (k : Knowledge) (o : Order) → IsNumbered y.first
    → h ≡ holdings_after_commands y.first y.past → IsOrderIn y o → o.restarter ≡ k.name → IsGiven y h k o
order_given y h k o numbered newest is to =
    record {
      owner = order_owner o (view is.value).revision (view is.value).items
          (find (is_about o.instance) (view is.value).items) is.given ∙ to;
      ready = λ call duration ignore what. start_is_ready y o call duration ignore is what;
      past = λ call duration ignore what.
          ready_past y h o.revision o.instance o.row.number (unwrap_or o.row.running 0)
          (record { call = call; duration = duration; ignore = ignore }) o.row numbered newest
          (start_is_ready y o call duration ignore is what);
    }

-- ---- what is said

pub may_does : (y : History) (h : Holdings) (ms : List Message) (B : ℕ → ℕ → Type 0) (k : Knowledge) (d : Doing)
    → AreSaid h ms → Does k (WasTold y h ms k) d → IsInformed y h ms B k → AllMayBeSaid h ms d.said
may_does y h ms B k d said does f = by does
  where
    silent : (e : Doing) → d ≡ e → e.said ≡ [] → AllMayBeSaid h ms d.said
    silent e same quiet = subst (AllMayBeSaid h ms) (sym (ap (λ (x : Doing). x.said) same ∙ quiet)) tt

    one : (e : Doing) (m : Message) → d ≡ e → e.said ≡ m ∷ [] → MayBeSaid h ms m → AllMayBeSaid h ms d.said
    one e m same says may = subst (AllMayBeSaid h ms) (sym (ap (λ (x : Doing). x.said) same ∙ says)) (may, tt)

    by : Does k (WasTold y h ms k) d → AllMayBeSaid h ms d.said
    by (rests run call e) = silent _ e refl
    by (joins stage e) =
        one _ (messages.Join k.name k.launch) e refl
        (record { is = subst (λ (x : ℕ). k.launch ≤ x) f.launch (omega arith); once = tt })
    by (repeats i p after at ph e) =
        let was : WasProposed p ms = (awaited_at y h ms B k i p after f at ph).said in
        one _ (messages.Propose p) e refl
        (record { is = proposal_is h ms p said was; once = λ q w. said.once p q was w })
    by (proposes i step after stage why e) =
        one _ (messages.Propose (proposal k i step)) e refl
        (may_propose y h ms B k i step after f (proposable y h ms B k i step after said f why))
    by (granted i p after name row at ph t e) = silent _ e refl
    by (refused i p after name why row at ph t differs e) = silent _ e refl
    by (forgets i p after name why row at ph t reason e) = silent _ e refl
    by (learns name rows stage t e) = silent _ e refl
    by (lists ss stage e) = silent _ e refl
    by (spawns i o c cookie at ph packs e) = silent _ e refl
    by (builds i o call at ph e) = silent _ e refl
    by (turns i method x run call at active is_end e) = silent _ e refl
