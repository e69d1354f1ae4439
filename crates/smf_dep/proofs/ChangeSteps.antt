-- Changes that are taken one after another: members in the places of others, and members after all.
use Rattle.std.proofs.Common.{◌≡◌, ℕ, zero, suc, ◌+◌, ◌<◌, ◌≤◌, List, [], ◌∷◌, ◌++◌, map, length, drop, get_or, Option, Some, None, refl, sym, ap, ◌∙◌, subst, arith}
use Rattle.std.specs.Cmp.{nat_cmp_is}
use Rattle.std.specs.Ordering.{nat_cmp}
use Rattle.std.specs.declared.cmp.Ordering.TheVariants.{Less}
use Rattle.std.proofs.lemmas.List.{append-nil, append_assoc, drop_all}
use Rattle.smf_fmri.specs.ByKey.{BelongsAt, By, IsAbove, Rises, list_with_item}
use Rattle.smf_fmri.proofs.KeyOrder.{put_last}
use Rattle.smf_links.proofs.Work.{left_at}
use Rattle.smf_state.specs.declared.view.ChangedItem.{ChangedItem}
use Rattle.smf_state.specs.declared.view.ViewItem.{ViewItem}
use Rattle.smf_dep.specs.declared.member.GraphMember.{GraphMember}
use Rattle.smf_dep.specs.declared.relink.PlacedMember.{PlacedMember}
use Rattle.smf_dep.specs.Departures.{AreChanges, leaver, leavers, with_departure, with_departures}
use Rattle.smf_dep.specs.Members.{by_member, member_of}
use Rattle.smf_dep.specs.Updates.{AreAbove, AreNamed, AreReady, IsNamedAt, number, with_placed}
use Rattle.smf_dep.proofs.Relinked.{more_named, named_after, numbers_of_all, placed_after, rises_of_all}
use Rattle.smf_dep.proofs.Updates.{set_at_key}

-- ---- a number above those of all

-- one more member, whose number is below it
pub above_more : (k i : ℕ) (ms : List GraphMember) (m seen : GraphMember) → i < length ms → m ≡ get_or ms i m
    → seen ≡ m → seen.instance < k → IsAbove by_member k (drop (i + 1) ms) → IsAbove by_member k (drop i ms)
above_more k i ms m seen lt at is below h =
    let P : List GraphMember → Type 0 = IsAbove by_member k in
    let first : nat_cmp m.instance k ≡ Less =
    ap (λ (z : GraphMember). nat_cmp z.instance k) (sym is) ∙ sym (nat_cmp_is seen.instance k Less below) in
    subst P (sym (left_at ms i m lt at)) (first, h)

-- none is left
pub above_none : (k i : ℕ) (ms : List GraphMember) → length ms ≤ i → IsAbove by_member k (drop i ms)
above_none k i ms le = let P : List GraphMember → Type 0 = IsAbove by_member k in subst P (sym (drop_all i ms le)) tt

-- it belongs after the last
pub above_last : {X K : Type 0} (o : By X K) (k : K) (i : ℕ) (xs : List X) → length xs ≤ i → BelongsAt o k i xs
    → IsAbove o k xs
above_last o k i [] le h = tt
above_last o k zero (y ∷ ys) le h = absurd (omega (arith, le))
above_last o k (suc i) (y ∷ ys) le h = (h.0, above_last o k i ys (omega (arith, le)) h.1)

above_both : {X K : Type 0} (o : By X K) (k : K) (xs ys : List X) → IsAbove o k xs → IsAbove o k ys
    → IsAbove o k (xs ++ ys)
above_both o k [] ys h g = g
above_both o k (x ∷ xs) ys h g = (h.0, above_both o k xs ys h.1 g)

above_same : (k : ℕ) (ms ks : List GraphMember) → map number ks ≡ map number ms → IsAbove by_member k ms
    → IsAbove by_member k ks
above_same k ms [] e h = tt
above_same k [] (y ∷ ks) e h = absurd cc
above_same k (x ∷ ms) (y ∷ ks) e h =
    let first : y.instance ≡ x.instance = cc in
    let rest : map number ks ≡ map number ms = cc in
    (ap (λ n. nat_cmp n k) first ∙ h.0, above_same k ms ks rest h.1)

above_placed : (k : ℕ) (ps : List PlacedMember) (ms : List GraphMember) → AreNamed ps ms → IsAbove by_member k ms
    → IsAbove by_member k (with_placed ps ms)
above_placed k ps ms named h = above_same k ms (with_placed ps ms) (numbers_of_all ps ms named) h

-- ---- one more member for the place of another

pub ready_placed : (ps qs : List PlacedMember) (p : PlacedMember) (arrivals ms : List GraphMember)
    → AreReady ps arrivals ms → arrivals ≡ [] → qs ≡ ps ++ p ∷ [] → IsNamedAt p.member ms p.place
    → AreReady qs arrivals ms
ready_placed ps qs p arrivals ms ready none e at =
    let P : List GraphMember → Type 0 = λ l. AreAbove l (with_placed qs ms) in
    record { named = more_named ps qs p ms e ready.named at; above = subst P (sym none) tt }

pub put_placed : (i : ViewItem) (ps qs : List PlacedMember) (p : PlacedMember) (arrivals ms : List GraphMember)
    → Rises by_member ms → AreNamed ps ms → arrivals ≡ [] → qs ≡ ps ++ p ∷ [] → p.member ≡ member_of i
    → IsNamedAt p.member ms p.place
    → with_placed qs ms ++ arrivals ≡ list_with_item by_member (member_of i) (with_placed ps ms ++ arrivals)
put_placed i ps qs p arrivals ms r named none e s at =
    let now = with_placed ps ms in
    let there = named_after ps p.member p.place ms named at in
    ap (λ l. with_placed qs ms ++ l) none ∙ append-nil (with_placed qs ms)
    ∙ ap (λ l. with_placed l ms) e ∙ placed_after ps p ms
    ∙ set_at_key p.member now p.place there.before (rises_of_all ps ms r named) there.at there.numbered
    ∙ (λ j. list_with_item by_member (s j) (sym (ap (λ l. now ++ l) none ∙ append-nil now) j))

-- ---- one more member after all

more_above : (m : GraphMember) (arrivals ms : List GraphMember) → AreAbove arrivals ms
    → IsAbove by_member m.instance ms → IsAbove by_member m.instance arrivals → AreAbove (arrivals ++ m ∷ []) ms
more_above m [] ms h f g = (f, tt)
more_above m (x ∷ arrivals) ms h f g =
    (h.0, more_above m arrivals (ms ++ x ∷ []) h.1 (above_both by_member m.instance ms (x ∷ []) f (g.0, tt)) g.1)

pub ready_arrived : (m : GraphMember) (ps : List PlacedMember) (arrivals after ms : List GraphMember)
    → AreReady ps arrivals ms → after ≡ arrivals ++ m ∷ [] → IsAbove by_member m.instance ms
    → IsAbove by_member m.instance arrivals → AreReady ps after ms
ready_arrived m ps arrivals after ms ready e f g =
    let P : List GraphMember → Type 0 = λ l. AreAbove l (with_placed ps ms) in
    record {
      named = ready.named;
      above = subst P (sym e)
          (more_above m arrivals (with_placed ps ms) ready.above (above_placed m.instance ps ms ready.named f) g);
    }

pub put_arrived : (i : ViewItem) (m : GraphMember) (ps : List PlacedMember) (arrivals after ms : List GraphMember)
    → AreNamed ps ms → after ≡ arrivals ++ m ∷ [] → m ≡ member_of i → IsAbove by_member m.instance ms
    → IsAbove by_member m.instance arrivals
    → with_placed ps ms ++ after ≡ list_with_item by_member (member_of i) (with_placed ps ms ++ arrivals)
put_arrived i m ps arrivals after ms named e s f g =
    let now = with_placed ps ms in
    let above = above_both by_member m.instance now arrivals (above_placed m.instance ps ms named f) g in
    ap (λ l. now ++ l) e ∙ sym (append_assoc now arrivals (m ∷ []))
    ∙ sym (put_last by_member m (now ++ arrivals) above) ∙ ap (λ x. list_with_item by_member x (now ++ arrivals)) s

-- ---- all changes, one after another

pub ready_first : (ps : List PlacedMember) (arrivals ms : List GraphMember) → ps ≡ [] → arrivals ≡ []
    → AreReady ps arrivals ms
ready_first ps arrivals ms e f =
    let P : List PlacedMember → Type 0 = λ l. AreNamed l ms in
    let Q : List GraphMember → Type 0 = λ l. AreAbove l (with_placed ps ms) in
    record { named = subst P (sym e) tt; above = subst Q (sym f) tt }

pub put_first : (cs : List ChangedItem) (ps : List PlacedMember) (arrivals ms : List GraphMember) → ps ≡ []
    → arrivals ≡ [] → with_departures cs (with_placed ps ms ++ arrivals) ≡ with_departures cs ms
put_first cs ps arrivals ms e f =
    ap (with_departures cs) ((λ i. with_placed (e i) ms ++ f i) ∙ append-nil ms)

pub put_next : (cs : List ChangedItem) (i : ℕ) (c : ChangedItem) (before after ms : List GraphMember) → i < length cs
    → c ≡ get_or cs i c → after ≡ with_departure c.instance c.item before
    → with_departures (drop i cs) before ≡ with_departures cs ms → with_departures (drop (i + 1) cs) after ≡ with_departures cs ms
put_next cs i c before after ms lt is e h =
    ap (with_departures (drop (i + 1) cs)) e ∙ ap (λ l. with_departures l before) (sym (left_at cs i c lt is)) ∙ h

pub leave_next : (cs : List ChangedItem) (i : ℕ) (c : ChangedItem) (before after : List ℕ) → i < length cs
    → c ≡ get_or cs i c → after ≡ before ++ leaver c.instance c.item [] → before ++ leavers (drop i cs) ≡ leavers cs
    → after ++ leavers (drop (i + 1) cs) ≡ leavers cs
leave_next cs i c before after lt is e h =
    ap (λ l. l ++ leavers (drop (i + 1) cs)) e ∙ append_assoc before (leaver c.instance c.item []) (leavers (drop (i + 1) cs))
    ∙ ap (λ l. before ++ l) (by c.item) ∙ ap (λ l. before ++ leavers l) (sym (left_at cs i c lt is)) ∙ h
  where
    by : (o : Option ViewItem) → leaver c.instance o [] ++ leavers (drop (i + 1) cs)
        ≡ leaver c.instance o (leavers (drop (i + 1) cs))
    by None = refl
    by (Some x) = refl

pub are_changes : (cs : List ChangedItem) (i : ℕ) (ps : List PlacedMember) (arrivals : List GraphMember)
    (gone : List ℕ) (ms : List GraphMember) → length cs ≤ i → AreReady ps arrivals ms
    → with_departures (drop i cs) (with_placed ps ms ++ arrivals) ≡ with_departures cs ms
    → gone ++ leavers (drop i cs) ≡ leavers cs → AreChanges cs ps arrivals gone ms
are_changes cs i ps arrivals gone ms le ready h k =
    let all = with_placed ps ms ++ arrivals in
    record {
      ready = ready;
      put = ap (λ l. with_departures l all) (sym (drop_all i cs le)) ∙ h;
      left = sym (append-nil gone) ∙ ap (λ l. gone ++ leavers l) (sym (drop_all i cs le)) ∙ k;
    }
