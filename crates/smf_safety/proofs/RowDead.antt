-- Proposals that can never be granted anew: they stay so, and each change of a row's number makes all others so.
use Rattle.std.proofs.Common.{◌≡◌, ◌⊎◌, inl, inr, ℕ, ◌+◌, ◌≤◌, ◌<◌, ◌==◌, Bool, true, false, not, is_none, ◌&&◌, List, Option, Some, None, refl, sym, ap, ◌∙◌, subst, arith, eqb-true}
use Rattle.std.proofs.lemmas.Bool.Decides.{nat_tests}
use Rattle.smf_state.specs.declared.fault.StepFault.{StepFault}
use Rattle.smf_state.specs.declared.flags.Asks.{Asks}
use Rattle.smf_state.specs.declared.row.Row.{Row}
use Rattle.smf_state.specs.declared.step.Proposal.{Proposal}
use Rattle.smf_state.specs.declared.step.Step.{Step}
use Rattle.smf_state.specs.declared.step.Step.TheVariants.{Move, Start, Stop, Refresh, End, Note}
use Rattle.smf_state.specs.Rows.{refusal}
use Rattle.smf_model.specs.declared.command.Command.{Command}
use Rattle.smf_state.specs.declared.refusal.Why.{Why}
use Rattle.smf_state.specs.declared.refusal.Why.TheVariants as whys
use Rattle.smf_model.specs.declared.held.Instance.{Instance}
use Rattle.smf_model.specs.Contents.{Holdings}
use Rattle.smf_model.specs.Laws.{Stays}
use Rattle.smf_model.specs.Look.{instance, launch_of}
use Rattle.smf_model.specs.Next.{is_other_snapshot}
use Rattle.smf_model.proofs.LawLists.{some_same}
use Rattle.smf_world.proofs.RowClauses.{AreFit, IsDead, fits}
use Rattle.smf_world.proofs.RowMoves.{IsGrant, IsRead, IsRefused, IsRowRead, Moves, Refuses, RowPut, TakesOrKeeps, granted, handed, quiet}
use Rattle.smf_world.proofs.RowGrants.{fits_as}
use Rattle.smf_safety.proofs.RowLater.{CameOf, aside, began, booted, came_of, changed, is_given}
use Rattle.smf_safety.proofs.SaidClauses.{IsPastStep, IsProposal}

-- ---- what does not fit stays so

fits_aside : (r : Row) (owner : List ℕ) (asks : Asks) (refresh : ℕ) (p : Step)
    → fits (aside r owner asks r.running refresh) p ≡ fits r p
fits_aside r owner asks refresh (Move to) = refl
fits_aside r owner asks refresh (Start run snapshot duration ignore base) = refl
fits_aside r owner asks refresh (Stop to cause run) = refl
fits_aside r owner asks refresh (Refresh run) = refl
fits_aside r owner asks refresh (End to keep failed cause) = refl
fits_aside r owner asks refresh (Note bits keep) = refl

other_number : (n m : ℕ) → n < m → not (m == n) ≡ true
other_number n m lt = grind (arith, nat_tests)

never_both : (a b : Bool) → b ≡ true → (a && not b) ≡ false
never_both true true e = refl
never_both false true e = refl
never_both a false e = absurd cc

-- a start of an older snapshot does not fit a row with a new one
fits_taken : (r : Row) (owner : List ℕ) (asks : Asks) (refresh n revision : ℕ) (p : Step) → IsPastStep n revision p
    → fits r p ≡ false → fits (aside r owner asks (Some n) refresh) p ≡ false
fits_taken r owner asks refresh n revision (Move to) past e = e
fits_taken r owner asks refresh n revision (Start run snapshot duration ignore base) past e =
    never_both _ (not (n == snapshot)) (other_number snapshot n past.0)
fits_taken r owner asks refresh n revision (Stop to cause run) past e = e
fits_taken r owner asks refresh n revision (Refresh run) past e = e
fits_taken r owner asks refresh n revision (End to keep failed cause) past e = e
fits_taken r owner asks refresh n revision (Note bits keep) past e = e

pub unfit_stays : (h : Holdings) (m : ℕ) (r s : Row) (p : Step) → Stays r s → TakesOrKeeps h m r s
    → IsPastStep h.next_snapshot h.revision p → fits r p ≡ false → fits s p ≡ false
unfit_stays h m r s p t (inl e) past f =
    ap (λ (x : Row). fits x p) t.same
    ∙ (ap (λ (o : Option ℕ). fits (aside r s.owner s.asks o s.refresh) p) e
    ∙ (fits_aside r s.owner s.asks s.refresh p ∙ f))
unfit_stays h m r s p t (inr e) past f =
    ap (λ (x : Row). fits x p) t.same
    ∙ (ap (λ (o : Option ℕ). fits (aside r s.owner s.asks o s.refresh) p) e.0
    ∙ fits_taken r s.owner s.asks s.refresh h.next_snapshot h.revision p past f)

-- ---- what is dead stays so

pub dead_later : (h : Holdings) (c : Command) (k : Holdings) (q : Proposal) → AreFit h → Moves h c k → IsProposal h q
    → IsDead h q → IsDead k q
dead_later h c k q fit m p d j there = by (came_of h c k q.instance j m there)
  where
    counted : (i : Instance) → instance h q.instance ≡ Some i → j.row.number ≡ i.row.number + 1
        → (q.number ≤ j.row.number) ⊎ (fits j.row q.step ≡ false)
    counted i at e = inl (let a = p.number i at in omega arith)

    put_by : (i : Instance) → instance h q.instance ≡ Some i → RowPut h k.next_snapshot c q.instance i.row j.row
        → (q.number ≤ j.row.number) ⊎ (fits j.row q.step ≡ false)
    put_by i at (quiet x) = elim (d i at) [
      | inl low ↦ inl (let e = ap (λ (r : Row). r.number) x.stays.same in omega arith)
      | inr unfit ↦ inr (unfit_stays h k.next_snapshot i.row j.row q.step x.stays x.running p.step unfit)
    ]
    put_by i at (granted x is of_n g) =
        counted i at (is_given h k.next_snapshot x i.row j.row g (fit q.instance i at).shape
        (fit q.instance i at).runs).counted
    put_by i at (handed is g) = counted i at (ap (λ (r : Row). r.number) g.left)

    by : CameOf h k.next_snapshot c q.instance (instance h q.instance) j.row
        → (q.number ≤ j.row.number) ⊎ (fits j.row q.step ≡ false)
    by (changed i at x) = put_by i at x
    by (began none is new) = absurd (let a = p.known in omega arith)
    by (booted i owner at is new) = counted i at (ap (λ (r : Row). r.number) new)

-- if the row's number rose, each proposal from before is dead
pub raised_dead : (h k : Holdings) (q : Proposal) (i j : Instance) → IsProposal h q → instance h q.instance ≡ Some i
    → instance k q.instance ≡ Some j → j.row.number ≡ i.row.number + 1 → IsDead k q
raised_dead h k q i j p at there e l f =
    let same : j ≡ l = some_same j l (sym there ∙ f) in
    inl (let a = p.number i at in let b : j.row.number ≡ l.row.number = ap (λ (x : Instance). x.row.number) same in
    omega arith)

-- a proposal that is granted anew was not dead
pub granted_alive : (h : Holdings) (m : ℕ) (p : Proposal) (i : Instance) (s : Row) → instance h p.instance ≡ Some i
    → IsGrant h m p i.row s → IsDead h p → ⊥
granted_alive h m p i s there g d = by (d i there)
  where
    clash : (b : Bool) → b ≡ true → b ≡ false → ⊥
    clash b e f = cc

    by : (p.number ≤ i.row.number) ⊎ (fits i.row p.step ≡ false) → ⊥
    by (inl low) = (let a = g.number in omega arith)
    by (inr unfit) = clash (fits i.row p.step) g.fits unfit

-- ---- what is refused is dead

unfit_other : (r : Row) (s : Step) → is_other_snapshot r s ≡ true → fits r s ≡ false
unfit_other r s e = never_both (is_none (refusal r s)) (is_other_snapshot r s) e

unfit_fault : (r : Row) (s : Step) (fault : StepFault) → refusal r s ≡ Some fault → fits r s ≡ false
unfit_fault r s fault e = rw e refl

below_next : (a b : ℕ) → a ≤ b + 1 → (a == b + 1) ≡ false → a ≤ b
below_next a b le e = grind (arith, nat_tests)

at_most : (a b : ℕ) → a ≤ b + 1 → (a ≡ b + 1 → ⊥) → a ≤ b
at_most a b le other = by (a == b + 1) refl
  where
    by : (d : Bool) → (a == b + 1) ≡ d → a ≤ b
    by true e = absurd (other (eqb-true a (b + 1) e))
    by false e = below_next a b le e

-- a refused proposal is dead, if the row is the restarter's own and the launch its present one
pub refused_dead : (h : Holdings) (p : Proposal) (why : Why) (r : Option Row) → IsProposal h p
    → p.launch ≡ launch_of h p.proposer → IsRefused h p why r
    → (i : Instance) → instance h p.instance ≡ Some i → i.row.owner ≡ p.proposer → 1 ≤ i.row.number → IsDead h p
refused_dead h p why r q launch x i there owner number = by why r x.row x.reason
  where
    none_some : None ≡ Some i → ⊥
    none_some e = cc

    read_owner : (s : Row) → IsRead i.row s → s.owner ≡ p.proposer
    read_owner s t = own t.owner
      where
        own : (i.row.number ≡ 0) ⊎ (s.owner ≡ i.row.owner) → s.owner ≡ p.proposer
        own (inl e) = absurd (omega arith)
        own (inr e) = e ∙ owner

    as_read : (s : Row) → IsRowRead h p.instance (Some s) → IsRead i.row s
    as_read s (j, at, t) = subst (λ (l : Instance). IsRead l.row s) (some_same j i (sym at ∙ there)) t

    dead_at : ((p.number ≤ i.row.number) ⊎ (fits i.row p.step ≡ false)) → IsDead h p
    dead_at d j at =
        subst (λ (l : Instance). (p.number ≤ l.row.number) ⊎ (fits l.row p.step ≡ false))
        (some_same i j (sym there ∙ at)) d

    unfit : (s : Row) → IsRead i.row s → fits s p.step ≡ false → IsDead h p
    unfit s t e = dead_at (inr (sym (fits_as i.row s p.step t) ∙ e))

    is_present : (p.launch ≡ 0) ⊎ (p.launch ≡ launch_of h p.proposer → ⊥) → ⊥
    is_present (inl zero) = let l = q.launched in omega arith
    is_present (inr other) = other launch

    by : (w : Why) (o : Option Row) → IsRowRead h p.instance o → Refuses h p w o → IsDead h p
    by whys.NoSuch None row e = absurd (none_some (sym e ∙ there))
    by whys.NoSuch (Some s) row e = absurd e
    by whys.Launch None row e = absurd e
    by whys.Launch (Some s) row e = absurd (is_present e)
    by whys.Owner None row e = absurd e
    by whys.Owner (Some s) row e = absurd (e (read_owner s (as_read s row)))
    by whys.Number None row e = absurd e
    by whys.Number (Some s) row e = dead_at (inl (low (ap (λ (x : Row). x.number) (as_read s row).same) e.1))
      where
        low : s.number ≡ i.row.number → (p.number ≡ s.number + 1 → ⊥) → p.number ≤ i.row.number
        low f apart =
            at_most p.number i.row.number (q.number i there)
            (λ (g : p.number ≡ i.row.number + 1). apart (g ∙ ap (λ (n : ℕ). n + 1) (sym f)))
    by whys.Snapshot None row e = absurd e
    by whys.Snapshot (Some s) row e = unfit s (as_read s row) (unfit_other s p.step e.1)
    by (whys.Step fault) None row e = absurd e
    by (whys.Step fault) (Some s) row e = unfit s (as_read s row) (unfit_fault s p.step fault e.1)
