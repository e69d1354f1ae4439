-- The rows of a store of a value that commands make say this value.
use Rattle.std.proofs.Common.{◌≡◌, ◌≤◌, ◌+◌, List, [], ◌∷◌, Ok, refl, sym, ap, subst, ◌∙◌}
use Rattle.sqlite.specs.Order.{Row, column}
use Rattle.sqlite.specs.Effect.{Database}
use Rattle.smf_model.specs.Contents.{Holdings}
use Rattle.smf_model.specs.Next.{greatest_instance}
use Rattle.smf_laws.specs.Consistent.{IsConsistent}
use Rattle.smf_store.specs.declared.counter_rows.StoreVersion.{StoreVersion}
use Rattle.smf_store.specs.declared.counter_rows.StoreVersion.TheVariants as versions
use Rattle.smf_store.specs.declared.judgements.StoreRows.{StoreRows}
use Rattle.smf_store.specs.Begun.{empty_with_counters}
use Rattle.smf_store.specs.Gathered.{AreCounted, AreRead, first_of, rows_of}
use Rattle.smf_store.specs.Holds.{Counted, Stands, StandsFirst}
use Rattle.smf_store.specs.Judged.{holdings_within_limit, verdict_on_rows, tables_said}
use Rattle.smf_store.specs.Shown.{Count, NextInstance}
use Rattle.smf_store.specs.Stages.{AreListed}
use Rattle.smf_store.specs.Unique.{unique}
use Rattle.smf_tables.specs.Layout.{rows_in}
use Rattle.smf_tables.specs.Scans.{AreShown, columns_at}
use Rattle.smf_store.proofs.Counts.{first_read}
use Rattle.smf_store.proofs.Recount.{are_counters, counters_again, own_counters, next_instance_in, same_count, version_again}
use Rattle.smf_store.proofs.Sole.{AreSole, are_sole, matches_of}
use Rattle.smf_store.proofs.Stands.{group_forth, instance_forth, launch_forth, snapshot_forth, stands_second}
use Rattle.smf_store.proofs.TakenGroups.{groups_taken}
use Rattle.smf_store.proofs.TakenRows.{at_most, instances_taken, launches_taken, services_taken, snapshots_taken}

-- ---- the rows that are read of a store show its value

count_forth : {M : Count → Type 0} (all rows : List Row) → AreShown (0 ∷ 1 ∷ 2 ∷ []) all rows → Counted M all
    → AreCounted M rows
count_forth all rows seen l = record {
  there = λ x m. let r = l.there x m in (
    columns_at (0 ∷ 1 ∷ 2 ∷ []) r.0,
    seen.complete r.0 r.1,
    record { counter_is = r.2.counter_is; value_is = r.2.value_is },
  );
  only = λ q h c key.
      let s = seen.sound q h in
      let x = l.only s.0 s.1 c (sym (ap (λ z. column z 1) s.2) ∙ key) in (
        x.0,
        x.1,
        record {
          counter_is = ap (λ z. column z 1) s.2 ∙ x.2.counter_is;
          value_is = ap (λ z. column z 2) s.2 ∙ x.2.value_is;
        },
      );
  texts = λ q h.
      let s = seen.sound q h in
      let t = l.texts s.0 s.1 in
      (t.0, ap (λ z. column z 1) s.2 ∙ t.1, t.2);
}

pub read_second : (db : Database) (rows : StoreRows) (h : Holdings) → AreListed rows (rows_in db) → Stands db h
    → AreRead (rows_of versions.Second rows) h
read_second db rows h l s = record {
  counts = count_forth (rows_in db 0) rows.counts.items l.counts.shown s.holds.show.counts;
  services = matches_of (0 ∷ 1 ∷ []) (rows_in db 2) rows.services.items l.services.shown
      (λ x r e. e) s.holds.show.services;
  instances = matches_of (0 ∷ 0 ∷ 2 ∷ 3 ∷ 4 ∷ 5 ∷ 6 ∷ [])
      (rows_in db 4) rows.instances.items l.instances.shown instance_forth s.holds.show.instances;
  groups = matches_of (0 ∷ 1 ∷ 2 ∷ 3 ∷ 4 ∷ []) (rows_in db 6) rows.groups.items l.groups.shown group_forth
      s.holds.show.groups;
  snapshots = matches_of (0 ∷ 0 ∷ 2 ∷ 3 ∷ []) (rows_in db 8) rows.snapshots.items l.snapshots.shown snapshot_forth
      s.holds.show.snapshots;
  launches = matches_of (0 ∷ 1 ∷ 2 ∷ []) (rows_in db 9) rows.launches.items l.launches.shown launch_forth
      s.holds.show.launches;
  arranged = s.holds.arranged;
  numbered = s.numbered;
}

pub read_first : (db : Database) (rows : StoreRows) (h : Holdings) → AreListed rows (rows_in db) → StandsFirst db h
    → AreRead (rows_of versions.First rows) h
read_first db rows h l s = record {
  counts = count_forth (rows_in db 0) rows.counts.items l.counts.shown s.counts;
  services = matches_of (0 ∷ 1 ∷ []) (rows_in db 2) rows.services.items l.services.shown (λ x r e. e) s.services;
  instances = matches_of (0 ∷ 0 ∷ 2 ∷ 3 ∷ 4 ∷ 5 ∷ 6 ∷ [])
      (rows_in db 4) rows.instances.items l.instances.shown instance_forth s.instances;
  groups = matches_of (0 ∷ 1 ∷ 2 ∷ 3 ∷ 4 ∷ []) (rows_in db 6) rows.groups.items l.groups.shown group_forth s.groups;
  snapshots = matches_of (0 ∷ 0 ∷ 2 ∷ 3 ∷ []) (rows_in db 8) rows.snapshots.items l.snapshots.shown snapshot_forth
      s.snapshots;
  launches = matches_of (0 ∷ 1 ∷ 2 ∷ []) (rows_in db 9) rows.launches.items l.launches.shown launch_forth s.launches;
  arranged = s.arranged;
  numbered = s.numbered;
}

-- ---- and is taken

fits : (version : StoreVersion) (k : Holdings) → k.next_instance ≤ greatest_instance + 1
    → holdings_within_limit version k ≡ Ok k
fits versions.First k low = rw (at_most k.next_instance (greatest_instance + 1) low) refl
fits versions.Second k low = refl

module _ (version : StoreVersion) (h : Holdings) (rows : StoreRows) (a : AreRead (rows_of version rows) h) (sole : AreSole rows) (c : IsConsistent h) where
  tables_taken : (k : Holdings) → AreRead (first_of version rows) k
      → (next : Holdings) × (tables_said rows k ≡ Ok next) × AreRead (rows_of version rows) next
  unfolding tables_said
  tables_taken k p =
      let one = services_taken version h rows a sole c k p in
      let two = instances_taken version h rows a sole c one.0 one.2 in
      let three = groups_taken version h rows a sole c two.0 two.2 in
      let four = snapshots_taken version h rows a sole c three.0 three.2 in
      let five = launches_taken version h rows a sole c four.0 four.2 in
      (five.0, rw (one.1, two.1, three.1, four.1, five.1) refl, five.2)

  pub judged_again : (k : Holdings) × (verdict_on_rows rows ≡ Ok k) × AreRead (rows_of version rows) k
  unfolding verdict_on_rows
  judged_again =
      let counters = are_counters version h rows.counts.items a.counts sole.counts_apart sole.counts a.numbered.first in
      let start = own_counters version h rows.counts.items a.counts sole.counts_apart sole.counts in
      let k = tables_taken (empty_with_counters start) (first_read version start rows.counts.items counters) in
      let said = version_again version h rows.counts.items a.counts sole.counts_apart sole.counts in
      let count = counters_again version h rows.counts.items a.counts sole.counts_apart sole.counts c.counted.revision
      a.numbered.first c.counted.next_instance c.counted.first_snapshot c.counted.next_snapshot in
      let same : h.next_instance ≡ k.0.next_instance =
      same_count version h k.0 rows.counts.items a.counts k.2.counts NextInstance h.next_instance
      k.0.next_instance (next_instance_in version h) (next_instance_in version k.0) in (
        k.0,
        rw (said, count, k.1)
            (fits version k.0 (subst (λ n. n ≤ greatest_instance + 1) same c.counted.next_instance)),
        k.2,
      )

-- ---- a store opens again

-- a store of a value that commands make says this value, whatever the order of its rows
pub stands_again : (db : Database) (rows : StoreRows) (h : Holdings) → AreListed rows (rows_in db) → Stands db h
    → IsConsistent h → verdict_on_rows rows ≡ Ok h
stands_again db rows h l s c =
    let has = s.holds.schema.store in
    let sound = s.holds.sound in
    let k = judged_again versions.Second h rows (read_second db rows h l s) (are_sole db rows has sound l) c in
    k.1 ∙ ap Ok (unique db k.0 h (stands_second db rows k.0 has sound l k.2) s)

-- and so does one of the first version
pub first_again : (db : Database) (rows : StoreRows) (h : Holdings) → AreListed rows (rows_in db) → StandsFirst db h
    → IsConsistent h → (k : Holdings) × (verdict_on_rows rows ≡ Ok k)
first_again db rows h l s c =
    let k = judged_again versions.First h rows (read_first db rows h l s) (are_sole db rows s.schema s.sound l) c in
    (k.0, k.1)
