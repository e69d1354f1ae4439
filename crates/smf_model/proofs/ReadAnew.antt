-- Each instance written as it is read makes the value that is read.
use Rattle.std.proofs.Common.{◌≡◌, ℕ, ◌==◌, List, [], ◌∷◌, Bool, true, false, cond, map, refl, sym, ap, ◌∙◌, subst}
use Rattle.std.specs.Ordering.{is_eq, nat_cmp}
use Rattle.std.specs.declared.cmp.Ordering.{Ordering}
use Rattle.std.specs.declared.cmp.Ordering.TheVariants.{Less, Equal}
use Rattle.smf_fmri.specs.ByKey.{IsBelowFirst, Rises, amend}
use Rattle.smf_fmri.proofs.Lookups.{same_key}
use Rattle.smf_fmri.proofs.Places.{amend_above}
use Rattle.smf_fmri.proofs.KeyOrder.{first_below}
use Rattle.smf_model.specs.declared.change.Change.{Change}
use Rattle.smf_model.specs.declared.held.Instance.{Instance}
use Rattle.smf_model.specs.declared.held.InstanceEntry.{InstanceEntry}
use Rattle.smf_model.specs.declared.general_group.Setting.{Setting}
use Rattle.smf_model.specs.Copied.{holdings_as_read, read_entry, reads_written}
use Rattle.smf_model.specs.Contents.{Holdings}
use Rattle.smf_model.specs.Look.{by_entry, groups_of, in_place, holdings_after_changes, with_instance}
use Rattle.smf_model.specs.GeneralGroup.{Groups, current, owned_by_setting, setting}

module _ (gs : Groups) where
  number_by : (b : Bool) (s : Setting) (i : Instance) → (owned_by_setting b s i).number ≡ i.number
  number_by true s i = refl
  number_by false s i = refl

  same_number : (i : Instance) → (current gs i).number ≡ i.number
  unfolding current
  same_number i = number_by (i.row.number == 0) (setting gs i) i

  in_place_by : (b : Bool) (s : Setting) (i : Instance) → in_place (owned_by_setting b s i) i ≡ owned_by_setting b s i
  in_place_by true s i = refl
  in_place_by false s i = refl

  in_its_place : (i : Instance) → in_place (current gs i) i ≡ current gs i
  unfolding current
  in_its_place i = in_place_by (i.row.number == 0) (setting gs i) i

  abbrev written : InstanceEntry → List InstanceEntry → List InstanceEntry
  written e xs = amend by_entry (current gs e.instance).number (with_instance (current gs e.instance)) xs

  -- one after another written
  abbrev all_written : List InstanceEntry → List InstanceEntry → List InstanceEntry
  all_written [] xs = xs
  all_written (e ∷ es) xs = all_written es (written e xs)

  first_by : (r : Ordering) (x y : InstanceEntry) (ys : List InstanceEntry) → r ≡ Less
      → (cond (is_eq r) x y) ∷ ys ≡ y ∷ ys
  first_by r x y ys h = rw h refl

  -- the first stays if others are written
  first_stays : (es : List InstanceEntry) (x : InstanceEntry) (xs : List InstanceEntry)
      → IsBelowFirst by_entry x.instance.number es → Rises by_entry es
      → all_written es (x ∷ xs) ≡ x ∷ all_written es xs
  first_stays [] x xs b r = refl
  first_stays (e ∷ es) x xs b r =
      let less : nat_cmp x.instance.number (current gs e.instance).number ≡ Less =
      ap (nat_cmp x.instance.number) (same_number e.instance) ∙ b in
      let step : written e (x ∷ xs) ≡ x ∷ written e xs =
      first_by (nat_cmp x.instance.number (current gs e.instance).number)
      (with_instance (current gs e.instance) x) x (written e xs) less in
      ap (all_written es) step
      ∙ first_stays es x (written e xs) (first_below by_entry x.instance.number e.instance.number es b r.0) r.1

  own_by : (r : Ordering) (x y z : InstanceEntry) (ys zs : List InstanceEntry) → r ≡ Equal → x ≡ z → ys ≡ zs
      → (cond (is_eq r) x y) ∷ ys ≡ z ∷ zs
  own_by r x y z ys zs h e f = rw h (ap (λ (k : InstanceEntry). k ∷ ys) e ∙ ap (λ (l : List InstanceEntry). z ∷ l) f)

  written_first : (e : InstanceEntry) (es : List InstanceEntry) → Rises by_entry (e ∷ es)
      → written e (e ∷ es) ≡ read_entry gs e ∷ es
  written_first e es r =
      let equal : nat_cmp e.instance.number (current gs e.instance).number ≡ Equal =
      ap (nat_cmp e.instance.number) (same_number e.instance) ∙ same_key by_entry e.instance.number in
      let entry : with_instance (current gs e.instance) e ≡ read_entry gs e =
      ap (λ (i : Instance). record e { instance = i }) (in_its_place e.instance) in
      let below : IsBelowFirst by_entry (current gs e.instance).number es =
      subst (λ (n : ℕ). IsBelowFirst by_entry n es) (sym (same_number e.instance)) r.0 in
      let behind : written e es ≡ es =
      amend_above by_entry (current gs e.instance).number (with_instance (current gs e.instance)) es below r.1 in
      own_by (nat_cmp e.instance.number (current gs e.instance).number) (with_instance (current gs e.instance) e) e
      (read_entry gs e) (written e es) es equal entry behind

  each_written : (es : List InstanceEntry) → Rises by_entry es → all_written es es ≡ map (read_entry gs) es
  each_written [] r = refl
  each_written (e ∷ es) r =
      let below : IsBelowFirst by_entry (read_entry gs e).instance.number es =
      subst (λ (n : ℕ). IsBelowFirst by_entry n es) (sym (same_number e.instance)) r.0 in
      ap (all_written es) (written_first e es r)
      ∙ first_stays es (read_entry gs e) es below r.1
      ∙ ap (λ (l : List InstanceEntry). read_entry gs e ∷ l) (each_written es r.1)

  written_is : (es : List InstanceEntry) (h : Holdings)
      → holdings_after_changes h (reads_written gs es) ≡ record h { instances = all_written es h.instances }
  unfolding holdings_after_changes
  written_is [] h = refl
  written_is (e ∷ es) h = written_is es (record h { instances = written e h.instances })

-- a copy is the held value, with each instance written as it is read
pub copied_is : (h now : Holdings) (changes : List Change) → Rises by_entry h.instances
    → changes ≡ reads_written (groups_of h) h.instances → now ≡ holdings_after_changes h changes
    → now ≡ holdings_as_read h
unfolding holdings_as_read
copied_is h now changes r e made =
    made
    ∙ ap (holdings_after_changes h) e
    ∙ written_is (groups_of h) h.instances h
    ∙ ap (λ (es : List InstanceEntry). record h { instances = es }) (each_written (groups_of h) h.instances r)
