-- A row that is ready in the history has a snapshot that was given, on a revision that was made.
use Rattle.std.proofs.Common.{◌≡◌, ◌⊎◌, inl, inr, ℕ, ◌≤◌, ◌<◌, ◌==◌, nat_lt, Bool, true, false, cond, List, [], ◌∷◌, map, Option, Some, None, option_map, Ok, refl, sym, ap, ◌∙◌, subst, arith}
use Rattle.std.specs.Prelude.{find}
use Rattle.std.proofs.lemmas.Bool.Decides.{nat_tests}
use Rattle.smf_contract.specs.declared.cookie.Method.TheVariants as methods
use Rattle.smf_state.specs.declared.row.Row.{Row}
use Rattle.smf_state.specs.declared.view.ViewItem.{ViewItem}
use Rattle.smf_method.specs.declared.call.ReadMethod.{ReadMethod}
use Rattle.smf_method.specs.Methods.{method_of}
use Rattle.smf_method.specs.Tokens.{names_of}
use Rattle.smf_dep.specs.Members.{composed_in, member_of, snapshot_in}
use Rattle.smf_engine.specs.Orders.{is_about, method_in}
use Rattle.smf_model.specs.declared.command.Command.{Command}
use Rattle.smf_model.specs.declared.held.Instance.{Instance}
use Rattle.smf_model.specs.declared.held.Snapshot.{Snapshot}
use Rattle.smf_model.specs.History.{History, holdings_after_commands, value_at}
use Rattle.smf_model.specs.Contents.{Holdings}
use Rattle.smf_model.specs.Laws.{IsNumbered}
use Rattle.smf_model.specs.Look.{groups_of, instances, snapshot}
use Rattle.smf_model.specs.Next.{named_snapshot}
use Rattle.smf_model.specs.Shown.{body_of, view, view_item}
use Rattle.smf_model.proofs.LawLists.{some_same}
use Rattle.smf_model.proofs.LawNumbers.{snapshots_rise}
use Rattle.smf_world.proofs.DecidedClauses.{IsReadyAt}
use Rattle.smf_world.proofs.DecidedHistory.{numbered_at, value_below}
use Rattle.smf_world.proofs.RowCommands.{read_as}

-- ---- numbers of snapshots along a history

value_by : (k v : Holdings) (o : Option Holdings) (b : Bool) → cond b (Some k) o ≡ Some v → (v ≡ k) ⊎ (o ≡ Some v)
value_by k v o true e = inl (some_same v k (sym e))
value_by k v o false e = inr e

same_below : (v k : Holdings) → v ≡ k → v.next_snapshot ≤ k.next_snapshot
same_below v k e = subst (λ (x : Holdings). v.next_snapshot ≤ x.next_snapshot) e (omega arith)

snapshots_below : (h : Holdings) (cs : List Command) (m : ℕ) (v : Holdings)
    → value_at (record { first = h; past = cs }) m ≡ Some v
    → v.next_snapshot ≤ (holdings_after_commands h cs).next_snapshot
snapshots_below h [] m v e = elim (value_by h v None (h.revision == m) e) [
  | inl is ↦ same_below v h is
  | inr none ↦ absurd (let f : None ≡ Some v = none in cc)
]
snapshots_below h (c ∷ cs) m v e =
    by (value_by (holdings_after_commands h (c ∷ cs)) v (value_at (record { first = h; past = cs }) m)
    ((holdings_after_commands h (c ∷ cs)).revision == m) e) (λ old. snapshots_below h cs m v old)
  where
    by : (v ≡ holdings_after_commands h (c ∷ cs)) ⊎ (value_at (record { first = h; past = cs }) m ≡ Some v)
        → (value_at (record { first = h; past = cs }) m ≡ Some v
        → v.next_snapshot ≤ (holdings_after_commands h cs).next_snapshot)
        → v.next_snapshot ≤ (holdings_after_commands h (c ∷ cs)).next_snapshot
    by (inl is) ih = same_below v (holdings_after_commands h (c ∷ cs)) is
    by (inr old) ih = (let low = ih old in let up = snapshots_rise (holdings_after_commands h cs) c in omega arith)

-- ---- the snapshot of an item

viewed : (v : Holdings) (test : ViewItem → Bool) (is : List Instance) (item : ViewItem)
    → find test (map (view_item v) is) ≡ Some item → (of : Instance) × (item ≡ view_item v of)
viewed v test [] item e = absurd cc
viewed v test (i ∷ is) item e = by (test (view_item v i)) e (viewed v test is item)
  where
    by : (b : Bool) → cond b (Some (view_item v i)) (find test (map (view_item v) is)) ≡ Some item
        → (find test (map (view_item v) is) ≡ Some item → (of : Instance) × (item ≡ view_item v of))
        → (of : Instance) × (item ≡ view_item v of)
    by true f ih = (i, some_same item (view_item v i) (sym f))
    by false f ih = ih f

viewed_item : (v : Holdings) (test : ViewItem → Bool) (item : ViewItem) → find test (view v).items ≡ Some item
    → (of : Instance) × (item ≡ view_item v of)
unfolding view
viewed_item v test item e = viewed v test (instances v) item e

-- without the bytes of a snapshot there is no method
bodiless : (i : ViewItem) (read : ReadMethod) → i.body ≡ None
    → method_in i (member_of i) methods.Start ≡ Ok (Some read) → ⊥
unfolding member_of method_of
bodiless i read e f =
    let g : method_of (composed_in (snapshot_in None)) (names_of i.row.owner methods.Start i.name) ≡ Ok (Some read) =
    subst (λ (o : Option (List ℕ)). method_of (composed_in (snapshot_in o))
    (names_of i.row.owner methods.Start i.name) ≡ Ok (Some read)) e f in
    cc

running_as : (v : Holdings) (of : Instance) → (view_item v of).row.running ≡ of.row.running
running_as v of = ap (λ (r : Row). r.running) (read_as (groups_of v) of).same

low : (m n : ℕ) → nat_lt m n ≡ true → m < n
low m n e = grind (arith, nat_tests)

high : (m n : ℕ) → nat_lt m n ≡ false → n ≤ m
high m n e = grind (arith, nat_tests)

-- a snapshot by which an instance can be started has a number that was given
given_snapshot : (v : Holdings) (of : Instance) (s : ℕ) (read : ReadMethod) → IsNumbered v → of.row.running ≡ Some s
    → method_in (view_item v of) (member_of (view_item v of)) methods.Start ≡ Ok (Some read) → s < v.next_snapshot
given_snapshot v of s read b running method = by (nat_lt s v.next_snapshot) refl
  where
    by : (d : Bool) → nat_lt s v.next_snapshot ≡ d → s < v.next_snapshot
    by true e = low s v.next_snapshot e
    by false e =
        let none : snapshot v s ≡ None = b.snapshots s (high s v.next_snapshot e) in
        let body : (view_item v of).body ≡ None =
        ap (λ (o : Option ℕ). option_map body_of (named_snapshot v o)) running
        ∙ ap (λ (o : Option Snapshot). option_map body_of o) none in
        absurd (bodiless (view_item v of) read body method)

-- ---- the whole

pub ready_past : (y : History) (h : Holdings) (revision n number taken : ℕ) (read : ReadMethod) (row : Row)
    → IsNumbered y.first → h ≡ holdings_after_commands y.first y.past → IsReadyAt y revision n number taken read row
    → (taken < h.next_snapshot) × (revision ≤ h.revision)
ready_past y h revision n number taken read row b e r =
    let v : Holdings = r.value in
    let at = viewed_item v (is_about n) r.item r.found in
    let of : Instance = at.0 in
    let method : method_in (view_item v of) (member_of (view_item v of)) methods.Start ≡ Ok (Some read) =
    subst (λ (i : ViewItem). method_in i (member_of i) methods.Start ≡ Ok (Some read)) at.1 r.method in
    let running : of.row.running ≡ Some taken = sym (running_as v of)
    ∙ (ap (λ (i : ViewItem). i.row.running) (sym at.1) ∙ (ap (λ (x : Row). x.running) r.row_is ∙ r.snapshot_is)) in
    let given : taken < v.next_snapshot =
    given_snapshot v of taken read (numbered_at y revision v b r.value_is) running method in
    let below : v.next_snapshot ≤ h.next_snapshot =
    subst (λ (k : Holdings). v.next_snapshot ≤ k.next_snapshot) (sym e)
    (snapshots_below y.first y.past revision v r.value_is) in
    (omega arith, value_below y h revision v e r.value_is)
