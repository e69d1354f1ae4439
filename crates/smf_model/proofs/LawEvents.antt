-- The revisions that rows keep tell the last events.
use Rattle.std.proofs.Common.{◌≡◌, inl, inr, ℕ, ◌≤◌, ◌<◌, nat_lt, Bool, true, false, List, [], ◌∷◌, Option, Some, None, refl, sym, ◌∙◌, subst, arith, ltb-true, ltb-false}
use Rattle.smf_model.specs.declared.command.Command.{Command}
use Rattle.smf_model.specs.declared.held.Instance.{Instance}
use Rattle.smf_model.specs.Dates.{EventKind, revision_of, IsDated}
use Rattle.smf_model.specs.Events.{Happened}
use Rattle.smf_model.specs.History.{holdings_after_commands}
use Rattle.smf_model.specs.Contents.{Holdings}
use Rattle.smf_model.specs.Laws.{IsNumbered}
use Rattle.smf_model.specs.Look.{instance}
use Rattle.smf_model.specs.Next.{next}
use Rattle.smf_model.proofs.LawDates.{dated_next, none_next, revision_rises, there_before, told_next}
use Rattle.smf_model.proofs.LawNumbers.{instance_gone, instances_rise, stays_numbered}

no_instance : (i : Instance) → None ≡ Some i → ⊥
no_instance i e = cc

-- ---- any commands

pub numbered_made : (h : Holdings) (cs : List Command) → IsNumbered h → IsNumbered (holdings_after_commands h cs)
numbered_made h [] numbered = numbered
numbered_made h (c ∷ cs) numbered = stays_numbered (holdings_after_commands h cs) c (numbered_made h cs numbered)

pub dated_made : (h : Holdings) (cs : List Command) → IsNumbered h → IsDated (holdings_after_commands h cs)
dated_made h cs numbered = (numbered_made h cs numbered).dated

past : (a b d : ℕ) → a ≤ b → b ≤ d → d < a → ⊥
past a b d low high more = omega arith

above_zero : (a base : ℕ) → a ≡ 0 → base < a → ⊥
above_zero a base e more = omega arith

pub event_told : (h : Holdings) (cs : List Command) (kind : EventKind) (n base : ℕ) (i : Instance) → IsNumbered h
    → h.revision ≤ base → instance (holdings_after_commands h cs) n ≡ Some i → base < revision_of kind i.row
    → Happened kind n base h cs
event_told h [] kind n base i numbered low is more =
    absurd (past (revision_of kind i.row) h.revision base (numbered.dated n i kind is) low more)
event_told h (c ∷ cs) kind n base j numbered low is more =
    by (instance (holdings_after_commands h cs) n) refl
    (λ (i : Instance) e m. event_told h cs kind n base i numbered low e m)
  where
    by : (o : Option Instance) → instance (holdings_after_commands h cs) n ≡ o
        → ((i : Instance) → instance (holdings_after_commands h cs) n ≡ Some i → base < revision_of kind i.row
        → Happened kind n base h cs) → Happened kind n base h (c ∷ cs)
    by None e ih =
        absurd (above_zero (revision_of kind j.row) base
        (none_next kind n (holdings_after_commands h cs) c j (numbered_made h cs numbered) e is) more)
    by (Some i) e ih = elim (told_next kind n (holdings_after_commands h cs) c i j (numbered_made h cs numbered) e is) [
      | inl q ↦ inr (ih i e (subst (λ (m : ℕ). base < m) q more))
      | inr q ↦ inl (q.0, subst (λ (m : ℕ). base < m) q.1 more)
    ]

-- an instance that is there has a number that was given
given_below : (k : Holdings) (n : ℕ) (i : Instance) → IsNumbered k → instance k n ≡ Some i → n < k.next_instance
given_below k n i numbered is = by (nat_lt n k.next_instance) refl
  where
    by : (b : Bool) → nat_lt n k.next_instance ≡ b → n < k.next_instance
    by true e = ltb-true n k.next_instance e
    by false e = absurd (no_instance i (sym (numbered.instances n (ltb-false n k.next_instance e)) ∙ is))

was_given : (h : Holdings) (cs : List Command) (kind : EventKind) (n base : ℕ) → IsNumbered h
    → Happened kind n base h cs → n < (holdings_after_commands h cs).next_instance
was_given h [] kind n base numbered v = absurd v
was_given h (c ∷ cs) kind n base numbered (inl v) =
    let there = there_before kind n (holdings_after_commands h cs) c (next (holdings_after_commands h cs) c).0
    (next (holdings_after_commands h cs) c).1 v.0 in
    let below : n < (holdings_after_commands h cs).next_instance =
    given_below (holdings_after_commands h cs) n there.0 (numbered_made h cs numbered) there.1 in
    let rises : (holdings_after_commands h cs).next_instance ≤
    (next (holdings_after_commands h cs) c).0.next_instance = instances_rise (holdings_after_commands h cs) c in
    omega arith
was_given h (c ∷ cs) kind n base numbered (inr v) =
    let below : n < (holdings_after_commands h cs).next_instance = was_given h cs kind n base numbered v in
    let rises : (holdings_after_commands h cs).next_instance ≤
    (next (holdings_after_commands h cs) c).0.next_instance = instances_rise (holdings_after_commands h cs) c in
    omega arith

pub event_dated : (h : Holdings) (cs : List Command) (kind : EventKind) (n base : ℕ) (i : Instance) → IsNumbered h
    → h.revision ≤ base → instance (holdings_after_commands h cs) n ≡ Some i → Happened kind n base h cs
    → base < revision_of kind i.row
event_dated h [] kind n base i numbered low is v = absurd v
event_dated h (c ∷ cs) kind n base j numbered low is (inl v) =
    subst (λ (m : ℕ). base < m)
    (sym (dated_next kind n (holdings_after_commands h cs) c j (numbered_made h cs numbered) is v.0)) v.1
event_dated h (c ∷ cs) kind n base j numbered low is (inr v) =
    by (instance (holdings_after_commands h cs) n) refl
    (λ (i : Instance) e. event_dated h cs kind n base i numbered low e v)
  where
    by : (o : Option Instance) → instance (holdings_after_commands h cs) n ≡ o
        → ((i : Instance) → instance (holdings_after_commands h cs) n ≡ Some i → base < revision_of kind i.row)
        → base < revision_of kind j.row
    by None e ih =
        absurd (no_instance j
        (sym (instance_gone (holdings_after_commands h cs) c n (was_given h cs kind n base numbered v) e) ∙ is))
    by (Some i) e ih =
        let more : base < revision_of kind i.row = ih i e in
        let low : revision_of kind i.row ≤ (holdings_after_commands h cs).revision =
        (numbered_made h cs numbered).dated n i kind e in
        let rises : (holdings_after_commands h cs).revision ≤ (next (holdings_after_commands h cs) c).0.revision =
        revision_rises (holdings_after_commands h cs) c in
        elim (told_next kind n (holdings_after_commands h cs) c i j (numbered_made h cs numbered) e is) [
          | inl q ↦ subst (λ (m : ℕ). base < m) (sym q) more
          | inr q ↦ subst (λ (m : ℕ). base < m) (sym q.1)
              (beyond base (revision_of kind i.row) (holdings_after_commands h cs).revision
              (next (holdings_after_commands h cs) c).0.revision more low rises)
        ]
      where
        beyond : (a b d f : ℕ) → a < b → b ≤ d → d ≤ f → a < f
        beyond a b d f more low high = omega arith
