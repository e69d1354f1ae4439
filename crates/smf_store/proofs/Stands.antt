-- The value that is read of the six tables stands in them.
use Rattle.std.proofs.Common.{◌≡◌, ◌⊎◌, inl, inr, ℕ, pos, codes, Some, None, false, List, [], ◌∷◌, Result, Ok, Err, IsTrue, refl, sym, ap, subst, ◌∙◌}
use Rattle.std.specs.Prelude.{IfErr}
use Rattle.std.specs.Result.{IsErrAnd}
use Rattle.sqlite.specs.Order.{Row}
use Rattle.sqlite.specs.Table.{Table}
use Rattle.sqlite.specs.Tree.{Trees}
use Rattle.sqlite.specs.Effect.{Database, IsDatabase}
use Rattle.sqlite.specs.State.{State, Shows, IsLive, Survives}
use Rattle.sqlite.proofs.StateLemmas.{survives_weaker}
use Rattle.smf_tables.specs.Layout.{IsStore, StandsSomewhere, rows_in}
use Rattle.smf_tables.specs.Scans.{AreShown, Looks, LooksAtMeta, LooksAtServices, LooksAtInstances, LooksAtGroups, LooksAtSnapshots, LooksAtLaunches, columns_at}
use Rattle.smf_tables.specs.Rows.{IsKeyed}
use Rattle.smf_tables.specs.Statements.{AddsMeta, DropsMeta}
use Rattle.smf_model.specs.declared.held.Instance.{Instance}
use Rattle.smf_model.specs.declared.held.Launch.{Launch}
use Rattle.smf_model.specs.declared.held.Snapshot.{Snapshot}
use Rattle.smf_model.specs.Contents.{Holdings}
use Rattle.smf_store.specs.declared.counter_rows.StoreVersion.{StoreVersion}
use Rattle.smf_store.specs.declared.counter_rows.StoreVersion.TheVariants as versions
use Rattle.smf_store.specs.declared.judgements.StoreRows.{StoreRows}
use Rattle.smf_store.specs.Creation.{MayMake}
use Rattle.smf_store.specs.Opens.{MayFailToOpen, MayOpen, of_empty, of_second, of_first}
use Rattle.smf_store.specs.Gathered.{Matches, AreRead, rows_of, AreCounted}
use Rattle.smf_store.specs.Holds.{Listed, Stands, StandsFirst, Counted}
use Rattle.smf_store.specs.declared.fault.WriteFault.{WriteFault}
use Rattle.smf_store.specs.declared.fault.WriteFault.TheVariants as write
use Rattle.smf_store.specs.Faults.{open_fault}
use Rattle.smf_store.specs.declared.refusal.OpenFault.{OpenFault}
use Rattle.smf_store.specs.declared.refusal.OpenFault.TheVariants.{Memory, Database as Failed, Version as OtherVersion, Damaged, TooManyInstances}
use Rattle.smf_store.specs.Judged.{IsJudged, verdict_on_rows}
use Rattle.smf_store.specs.Shown.{Counter, Version, Layout, Revision, NextInstance, NextSnapshot, Count, count_of, counter_text, first_count_of, HasCount, HasCountIn, ShowsCount, ShowsInstance, OwnedGroup, ShowsGroup, ShowsSnapshot, ShowsLaunch}
use Rattle.smf_store.specs.Stages.{AreAllKeyed, AreListed, IsFailure, IsRaised, IsSaid, Lists, MayFailToRead, MayRead, Opened, Raises, RaisesFrom, Reads, Says, raised, stayed}
use Rattle.smf_store.proofs.Begins.{stands_in}
use Rattle.smf_store.proofs.Makes.{shows_then}
use Rattle.smf_store.proofs.Six.{Six, Presents, holds, holds_own, six_of}
use Rattle.smf_store.proofs.Statements as step
use Rattle.smf_store.proofs.Tables.{counts_become}
use Rattle.smf_store.proofs.Tests.{text_apart}

listed : {X : Type 0} {M : X → Type 0} {S : X → Row → Type 0} (places : List ℕ) (all rows : List Row)
    → AreShown places all rows → IsKeyed rows → ((x : X) (r : Row) → S x r → S x (columns_at places r))
    → ((x : X) (r : Row) → S x (columns_at places r) → S x r) → Matches M S rows → Listed M S all
listed {S = S} places all rows seen keyed forth back m = record {
  there = λ x h.
      let r = m.there x h in
      let s = seen.sound r.0 r.1 in
      (s.0, s.1, back x s.0 (subst (S x) s.2 r.2));
  only = λ r h. let x = m.only (columns_at places r) (seen.complete r h) in (x.0, x.1, back x.0 r x.2);
  keyed = seen.keyed keyed;
}

count_back : (x : Count) (r : Row) → ShowsCount x (columns_at (0 ∷ 1 ∷ 2 ∷ []) r) → ShowsCount x r
count_back x r s = record { counter_is = s.counter_is; value_is = s.value_is }

counted : {M : Count → Type 0} (all rows : List Row) → AreShown (0 ∷ 1 ∷ 2 ∷ []) all rows → IsKeyed rows
    → AreCounted M rows → Counted M all
counted all rows seen keyed m = record {
  there = λ x h.
      let r = m.there x h in
      let s = seen.sound r.0 r.1 in
      (s.0, s.1, count_back x s.0 (subst (ShowsCount x) s.2 r.2));
  only = λ r h c key. let x = m.only (columns_at (0 ∷ 1 ∷ 2 ∷ []) r) (seen.complete r h) c key in
      (x.0, x.1, count_back x.0 r x.2);
  texts = λ r h. m.texts (columns_at (0 ∷ 1 ∷ 2 ∷ []) r) (seen.complete r h);
  keyed = seen.keyed keyed;
}

pub instance_forth : (x : Instance) (r : Row) → ShowsInstance x r
    → ShowsInstance x (columns_at (0 ∷ 0 ∷ 2 ∷ 3 ∷ 4 ∷ 5 ∷ 6 ∷ []) r)
instance_forth x r s =
    record {
      again = s.again;
      service = s.service;
      name = s.name;
      split = s.split;
      number_is = s.number_is;
      service_is = s.service_is;
      name_is = s.name_is;
      row_is = s.row_is;
      start_is = s.start_is;
      previous_is =
          s.previous_is;
    }

instance_back : (x : Instance) (r : Row) → ShowsInstance x (columns_at (0 ∷ 0 ∷ 2 ∷ 3 ∷ 4 ∷ 5 ∷ 6 ∷ []) r)
    → ShowsInstance x r
instance_back x r s =
    record {
      again = s.again;
      service = s.service;
      name = s.name;
      split = s.split;
      number_is = s.number_is;
      service_is = s.service_is;
      name_is = s.name_is;
      row_is = s.row_is;
      start_is = s.start_is;
      previous_is =
          s.previous_is;
    }

pub group_forth : (x : OwnedGroup) (r : Row) → ShowsGroup x r → ShowsGroup x (columns_at (0 ∷ 1 ∷ 2 ∷ 3 ∷ 4 ∷ []) r)
group_forth x r s =
    record {
      formed = s.formed;
      service_is = s.service_is;
      number_is = s.number_is;
      name_is = s.name_is;
      body_is = s.body_is;
    }

group_back : (x : OwnedGroup) (r : Row) → ShowsGroup x (columns_at (0 ∷ 1 ∷ 2 ∷ 3 ∷ 4 ∷ []) r) → ShowsGroup x r
group_back x r s =
    record {
      formed = s.formed;
      service_is = s.service_is;
      number_is = s.number_is;
      name_is = s.name_is;
      body_is = s.body_is;
    }

pub snapshot_forth : (x : Snapshot) (r : Row) → ShowsSnapshot x r → ShowsSnapshot x (columns_at (0 ∷ 0 ∷ 2 ∷ 3 ∷ []) r)
snapshot_forth x r s =
    record {
      service = s.service;
      instance = s.instance;
      number_is = s.number_is;
      instance_is = s.instance_is;
      body_is = s.body_is;
    }

snapshot_back : (x : Snapshot) (r : Row) → ShowsSnapshot x (columns_at (0 ∷ 0 ∷ 2 ∷ 3 ∷ []) r) → ShowsSnapshot x r
snapshot_back x r s =
    record {
      service = s.service;
      instance = s.instance;
      number_is = s.number_is;
      instance_is = s.instance_is;
      body_is = s.body_is;
    }

pub launch_forth : (x : Launch) (r : Row) → ShowsLaunch x r → ShowsLaunch x (columns_at (0 ∷ 1 ∷ 2 ∷ []) r)
launch_forth x r s = record { restarter_is = s.restarter_is; count_is = s.count_is }

launch_back : (x : Launch) (r : Row) → ShowsLaunch x (columns_at (0 ∷ 1 ∷ 2 ∷ []) r) → ShowsLaunch x r
launch_back x r s = record { restarter_is = s.restarter_is; count_is = s.count_is }

module _ (db : Database) (rows : StoreRows) (h : Holdings) (has : IsStore db.schema) (sound : IsDatabase db) (l : AreListed rows (rows_in db)) where
  pub stands_second : AreRead (rows_of versions.Second rows) h → Stands db h
  stands_second a = record {
    holds = record {
      schema = record { store = has; same = refl };
      sound = sound;
      show = record {
        counts = counted (rows_in db 0) rows.counts.items l.counts.shown l.counts.keyed.keyed a.counts;
        services = listed (0 ∷ 1 ∷ []) (rows_in db 2) rows.services.items l.services.shown l.services.keyed.keyed
            (λ x r s. s) (λ x r s. s) a.services;
        instances = listed (0 ∷ 0 ∷ 2 ∷ 3 ∷ 4 ∷ 5 ∷ 6 ∷ [])
            (rows_in db 4) rows.instances.items l.instances.shown l.instances.keyed.keyed instance_forth instance_back
            a.instances;
        groups = listed (0 ∷ 1 ∷ 2 ∷ 3 ∷ 4 ∷ []) (rows_in db 6) rows.groups.items l.groups.shown l.groups.keyed.keyed
            group_forth group_back a.groups;
        snapshots = listed (0 ∷ 0 ∷ 2 ∷ 3 ∷ []) (rows_in db 8) rows.snapshots.items l.snapshots.shown
            l.snapshots.keyed.keyed snapshot_forth snapshot_back a.snapshots;
        launches = listed (0 ∷ 1 ∷ 2 ∷ []) (rows_in db 9) rows.launches.items l.launches.shown l.launches.keyed.keyed
            launch_forth launch_back a.launches;
      };
      arranged = a.arranged;
    };
    numbered = a.numbered;
  }

  pub stands_first : AreRead (rows_of versions.First rows) h → StandsFirst db h
  stands_first a = record {
    schema = has;
    sound = sound;
    counts = counted (rows_in db 0) rows.counts.items l.counts.shown l.counts.keyed.keyed a.counts;
    services = listed (0 ∷ 1 ∷ []) (rows_in db 2) rows.services.items l.services.shown l.services.keyed.keyed
        (λ x r s. s) (λ x r s. s) a.services;
    instances = listed (0 ∷ 0 ∷ 2 ∷ 3 ∷ 4 ∷ 5 ∷ 6 ∷ [])
        (rows_in db 4) rows.instances.items l.instances.shown l.instances.keyed.keyed instance_forth instance_back
        a.instances;
    groups = listed (0 ∷ 1 ∷ 2 ∷ 3 ∷ 4 ∷ []) (rows_in db 6) rows.groups.items l.groups.shown l.groups.keyed.keyed
        group_forth group_back a.groups;
    snapshots = listed (0 ∷ 0 ∷ 2 ∷ 3 ∷ []) (rows_in db 8) rows.snapshots.items l.snapshots.shown
        l.snapshots.keyed.keyed snapshot_forth snapshot_back a.snapshots;
    launches = listed (0 ∷ 1 ∷ 2 ∷ []) (rows_in db 9) rows.launches.items l.launches.shown l.launches.keyed.keyed
        launch_forth launch_back a.launches;
    arranged = a.arranged;
    numbered = a.numbered;
  }

is_raised : (version : StoreVersion) (old mid new : Database) (rows : StoreRows) (h : Holdings)
    → IsStore old.schema → IsDatabase old → AreListed rows (rows_in old) → AreRead (rows_of version rows) h
    → mid ≡ old → RaisesFrom version mid new → IsRaised old new h
is_raised versions.First old mid new rows h has sound l a same r =
    let stands = stands_first old rows h has sound l a in
    let done = r h (subst (λ d. StandsFirst d h) (sym same) stands) in
    raised stands done.0 (done.1 ∙ ap (λ (d : Database). d.schema) same)
is_raised versions.Second old mid new rows h has sound l a same r =
    stayed (stands_second old rows h has sound l a) (r ∙ same)

pub reads_raised : (old mid new : State) (rows : StoreRows) (version : StoreVersion) (h : Holdings)
    → Lists old mid rows → verdict_on_rows rows ≡ Ok h → AreRead (rows_of version rows) h → Raises version mid new
    → Reads old new h
reads_raised old mid new rows version h l said a r =
    let live : IsTrue mid.is_open = l.shows.is_open in
    record {
      shows = shows_then old mid new l.shows (r.shows live);
      says = λ has sound. record { rows = rows; listed = l.listed has sound; said = said };
      raised = λ has sound. is_raised version old.now mid.now new.now rows h has sound (l.listed has sound) a
          (l.same has sound)
          (r.raised (subst (λ (d : Database). IsStore d.schema) (sym (l.same has sound)) has));
    }

-- ---- one look after another

looks_on : {kind : ℕ → Table} {tree : ℕ} {places : List ℕ} {rows : List Row} (a b c : State)
    → StandsSomewhere a.now.schema kind → b.now ≡ a.now → IsDatabase a.now → Looks kind tree places b c rows
    → AreShown places (rows_in a.now tree) rows
looks_on {kind} {tree} {places} {rows} a b c has is sound l =
    subst (λ (d : Database). AreShown places (rows_in d tree) rows) is
    (l.seen (subst (λ (d : Database). StandsSomewhere d.schema kind) (sym is) has) (subst IsDatabase (sym is) sound))

same_on : {kind : ℕ → Table} {tree : ℕ} {places : List ℕ} {rows : List Row} (a b c : State) → b.now ≡ a.now
    → Looks kind tree places b c rows → StandsSomewhere a.now.schema kind → IsDatabase a.now → c.now ≡ a.now
same_on {kind} a b c is l has sound =
    l.same (subst (λ (d : Database). StandsSomewhere d.schema kind) (sym is) has) (subst IsDatabase (sym is) sound) ∙ is

pub lists_all : (a b c d e f g : State) (rows : StoreRows) → AreAllKeyed rows → LooksAtMeta a b rows.counts.items
    → LooksAtServices b c rows.services.items
    → LooksAtInstances c d rows.instances.items → LooksAtGroups d e rows.groups.items
    → LooksAtSnapshots e f rows.snapshots.items → LooksAtLaunches f g rows.launches.items → Lists a g rows
lists_all a b c d e f g rows keyed one two three four five six =
    let sb : IsStore a.now.schema → IsDatabase a.now → b.now ≡ a.now = λ has ok. one.same has.meta ok in
    let sc : IsStore a.now.schema → IsDatabase a.now → c.now ≡ a.now =
    λ has ok. same_on a b c (sb has ok) two has.service ok in
    let sd : IsStore a.now.schema → IsDatabase a.now → d.now ≡ a.now =
    λ has ok. same_on a c d (sc has ok) three has.instance ok in
    let se : IsStore a.now.schema → IsDatabase a.now → e.now ≡ a.now =
    λ has ok. same_on a d e (sd has ok) four has.grp ok in
    let sf : IsStore a.now.schema → IsDatabase a.now → f.now ≡ a.now =
    λ has ok. same_on a e f (se has ok) five has.snap ok in
    record {
      shows = shows_then a f g
          (shows_then a e f
          (shows_then a d e (shows_then a c d (shows_then a b c one.shows two.shows) three.shows) four.shows)
          five.shows) six.shows;
      same = λ has ok. same_on a f g (sf has ok) six has.restarter ok;
      listed = λ has ok. record {
        counts = record { shown = one.seen has.meta ok; keyed = keyed.counts };
        services = record { shown = looks_on a b c has.service (sb has ok) ok two; keyed = keyed.services };
        instances = record { shown = looks_on a c d has.instance (sc has ok) ok three; keyed = keyed.instances };
        groups = record { shown = looks_on a d e has.grp (sd has ok) ok four; keyed = keyed.groups };
        snapshots = record { shown = looks_on a e f has.snap (se has ok) ok five; keyed = keyed.snapshots };
        launches = record { shown = looks_on a f g has.restarter (sf has ok) ok six; keyed = keyed.launches };
      };
    }

-- ---- a store of the first version

abbrev two : Counter → Count
two c = record { counter = c; value = 2 }

-- its counters in the second version
abbrev IsNext : Holdings → Count → Type 0
IsNext h x = (x ≡ two Layout)
    ⊎ ((x ≡ two Version) ⊎ (HasCountIn versions.First h x × (counter_text x.counter ≡ counter_text Version → ⊥)))

same_value : (a b : ℕ) → Some a ≡ Some b → a ≡ b
same_value a b e = cc

next_by : (h : Holdings) (c : Counter) (v : ℕ) → first_count_of h c ≡ Some v
    → (counter_text c ≡ counter_text Version → ⊥) → count_of h c ≡ v
next_by h Version v m apart = absurd (apart refl)
next_by h Layout v m apart = absurd (let clash : None ≡ Some v = m in cc)
next_by h Revision v m apart = same_value h.revision v m
next_by h NextInstance v m apart = same_value h.next_instance v m
next_by h NextSnapshot v m apart = same_value h.next_snapshot v m

next_forth : (h : Holdings) (x : Count) → IsNext h x → HasCount h x
next_forth h x (inl same) = ap (λ (z : Count). count_of h z.counter) same ∙ sym (ap (λ (z : Count). z.value) same)
next_forth h x (inr (inl same)) = ap (λ (z : Count). count_of h z.counter) same ∙ sym (ap (λ (z : Count). z.value) same)
next_forth h x (inr (inr before)) = next_by h x.counter x.value before.0 before.1

next_back_by : (h : Holdings) (c : Counter) (v : ℕ) → count_of h c ≡ v → IsNext h (record { counter = c; value = v })
next_back_by h Version v m = inr (inl (λ j. record { counter = Version; value = (sym m) j }))
next_back_by h Layout v m = inl (λ j. record { counter = Layout; value = (sym m) j })
next_back_by h Revision v m = inr (inr (ap Some m, text_apart (counter_text Revision) (counter_text Version) refl))
next_back_by h NextInstance v m =
    inr (inr (ap Some m, text_apart (counter_text NextInstance) (counter_text Version) refl))
next_back_by h NextSnapshot v m =
    inr (inr (ap Some m, text_apart (counter_text NextSnapshot) (counter_text Version) refl))

abbrev first_six : Holdings → Six
first_six h = record (six_of h) { counts = HasCountIn versions.First h }

first_presents : (db : Database) (h : Holdings) → StandsFirst db h → Presents db.schema db (first_six h)
first_presents db h p =
    record {
      schema = record { store = p.schema; same = refl };
      sound = p.sound;
      counts = p.counts;
      services = p.services;
      instances = p.instances;
      groups = p.groups;
      snapshots = p.snapshots;
      launches = p.launches;
    }

pub raises_first : (a b c d : State) → DropsMeta (codes "version") a b → AddsMeta (codes "version") (pos 2) b c
    → AddsMeta (codes "layout") (pos 2) c d → Raises versions.First a d
raises_first a b c d one more last = record {
  shows = λ live. shows_then a c d (shows_then a b c one.shows more.shows) last.shows;
  raised = λ has h p.
      let p1 = step.drop_count a b (first_six h) (first_presents a.now h p) (codes "version") one in
      let p2 = step.add_count b c _ p1 (two Version) more in
      let p3 = step.add_count c d _ p2 (two Layout) last in (
        record {
          holds = holds_own d.now h (holds d.now h (record {
            schema = p3.schema;
            sound = p3.sound;
            counts = counts_become p3.counts (next_forth h) (λ x m. next_back_by h x.counter x.value m);
            services = p3.services;
            instances = p3.instances;
            groups = p3.groups;
            snapshots = p3.snapshots;
            launches = p3.launches;
          }) p.arranged);
          numbered = p.numbered;
        },
        p3.schema.same,
      );
}

-- ---- faults

pub failure_said : (trees : Trees) (e : OpenFault) → IsFailure e → IsSaid trees e
failure_said trees Memory f = tt
failure_said trees Failed f = tt
failure_said trees (OtherVersion n) f = absurd f
failure_said trees (Damaged table) f = absurd f
failure_said trees TooManyInstances f = absurd f

pub failure_of : (w : WriteFault) → IsFailure (open_fault w)
failure_of write.Memory = tt
failure_of write.Database = tt

-- the fault of a write, as an open tells it, is a failure
pub told_failure : {X : Type 0} (r : Result X OpenFault) (w : WriteFault) → IsErrAnd r (λ e. e ≡ open_fault w)
    → IsErrAnd r IsFailure
told_failure (Ok x) w p = p
told_failure (Err e) w p = subst IsFailure (sym p) (failure_of w)

pub failing_said : {X : Type 0} (trees : Trees) (r : Result X OpenFault) → IsErrAnd r IsFailure → IfErr r (IsSaid trees)
failing_said trees (Ok x) p = tt
failing_said trees (Err e) p = failure_said trees e p

pub judged_said : (trees : Trees) (rows : StoreRows) (e : OpenFault) → AreListed rows trees
    → IsJudged (Err e) (verdict_on_rows rows) → IsSaid trees e
judged_said trees rows Memory l j = tt
judged_said trees rows Failed l j = tt
judged_said trees rows (OtherVersion n) l j = record { rows = rows; listed = l; said = j }
judged_said trees rows (Damaged table) l j = record { rows = rows; listed = l; said = j }
judged_said trees rows TooManyInstances l j = record { rows = rows; listed = l; said = j }

-- ---- the store behind its opening

raised_stands : (old new : Database) (h : Holdings) → IsRaised old new h → Stands new h
raised_stands old new h (stayed stands same) = subst (λ d. Stands d h) (sym same) stands
raised_stands old new h (raised before stands same) = stands

module _ (old begun last : State) (h : Holdings) (now : begun.now ≡ old.now) (live : begun.is_open ≡ old.is_open) (has : IsStore old.now.schema) (sound : IsLive old) (r : Reads begun last h) where
  has_six : IsStore begun.now.schema
  has_six = subst (λ (d : Database). IsStore d.schema) (sym now) has

  is_sound : IsDatabase begun.now
  is_sound = subst IsDatabase (sym now) (sound (subst IsTrue live r.shows.was_open)).0

  was_raised : IsRaised old.now last.now h
  was_raised = subst (λ d. IsRaised d last.now h) now (r.raised has_six is_sound)

  pub opened : (end : State) → Shows last end last.now last.now false → Opened old end h
  opened end s =
      let it = subst (λ d. IsRaised old.now d h) (sym s.now_is) was_raised in
      record {
        is_open = s.is_open;
        says = subst (λ (d : Database). Says (rows_in d) (Ok h)) now (r.says has_six is_sound);
        raised = it;
        keeps = record { stands = raised_stands old.now end.now h it; settled = s.committed_is ∙ sym s.now_is };
      }

  pub may_read : (db : Trees) → db ≡ last.now.trees → MayRead old db
  may_read db is = (last.now, h, was_raised, is)

pub leaves_made : (a b : State) → Survives a b (MayMake a) → Survives a b (MayOpen a)
leaves_made a b s = survives_weaker a b (MayMake a) (MayOpen a) (λ clean db it. of_empty it.was_empty it.stands) s

may_open : (a : State) (db : Database) (trees : Trees) (h : Holdings) → IsRaised a.now db h → trees ≡ db.trees
    → MayOpen a trees
may_open a db trees h (stayed stands same) is = of_second h stands (is ∙ ap (λ (d : Database). d.trees) same)
may_open a db trees h (raised before stands same) is =
    of_first h before (stands_in db a.now.schema trees h stands same is)

-- if the database is not opened
pub leaves_failing : (e : OpenFault) (a b : State) → Survives a b (MayFailToRead e a) → Survives a b (MayFailToOpen e a)
leaves_failing e a b s =
    survives_weaker a b (MayFailToRead e a) (MayFailToOpen e a)
    (λ clean db it. (it.0, may_open a it.1.0 db it.1.1 it.1.2 it.1.3)) s

pub leaves_failed_make : (e : OpenFault) (a b : State) → IsFailure e → Survives a b (MayMake a)
    → Survives a b (MayFailToOpen e a)
leaves_failed_make e a b fails s =
    survives_weaker a b (MayMake a) (MayFailToOpen e a) (λ clean db it. (fails, of_empty it.was_empty it.stands)) s

-- if a failure ended the reading
pub failed_leaves : {X : Type 0} (r : Result X OpenFault) (a b : State) → IsErrAnd r IsFailure
    → Survives a b (MayRead a) → IfErr r (λ e. Survives a b (MayFailToRead e a))
failed_leaves (Ok x) a b p s = tt
failed_leaves (Err e) a b p s = survives_weaker a b (MayRead a) (MayFailToRead e a) (λ clean db it. (p, it)) s

-- if nothing was left
pub nothing_left : {X : Type 0} (r : Result X OpenFault) (a b : State) → Survives a b (λ _. ⊥)
    → IfErr r (λ e. Survives a b (MayFailToRead e a))
nothing_left (Ok x) a b s = tt
nothing_left (Err e) a b s = survives_weaker a b (λ _. ⊥) (MayFailToRead e a) (λ clean db none. absurd none) s

pub leaves_read : (a b : State) → Survives a b (MayRead a) → Survives a b (MayOpen a)
leaves_read a b s = survives_weaker a b (MayRead a) (MayOpen a) (λ clean db it. may_open a it.0 db it.1 it.2 it.3) s
