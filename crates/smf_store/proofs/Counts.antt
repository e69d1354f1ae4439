-- The values read of the counters.
use Rattle.std.proofs.Common.{◌≡◌, inl, inr, ℕ, ℤ, pos, List, [], ◌∷◌, ◌++◌, codes, Option, Some, None, refl, sym, ap, subst, ◌∙◌}
use Rattle.sqlite.specs.declared.types.Value.TheVariants.{Int, Text}
use Rattle.sqlite.specs.Order.{Row, column}
use Rattle.sqlite_rules.specs.Lists.{Has}
use Rattle.sqlite_rules.proofs.ListLemmas.{has_left, has_right, has_either}
use Rattle.smf_model.proofs.LawNumbers.{first_numbers}
use Rattle.smf_store.specs.declared.counter_rows.Counters.{Counters}
use Rattle.smf_store.specs.declared.counter_rows.StoreVersion.{StoreVersion}
use Rattle.smf_store.specs.declared.counter_rows.StoreVersion.TheVariants as versions
use Rattle.smf_store.specs.Begun.{empty_with_counters}
use Rattle.smf_store.specs.CounterRows.{AreCounters, Finds, IsCounterOf, LooksAt, other, has, SoFar}
use Rattle.smf_store.specs.Gathered.{Rows, AreRead, AreCounted}
use Rattle.smf_store.proofs.Makes.{some_is}
use Rattle.smf_store.specs.Shown.{Counter, Version, Layout, Revision, NextInstance, NextSnapshot, Count, count_of, counter_text, first_count_of, HasCountIn, ShowsCount, HasGroup, of_service, of_instance, OwnedGroup}

pub so_far_more : (key : List ℕ) (row : Row) (old new : Option ℤ) (rows : List Row) → LooksAt key row old new
    → SoFar key old rows → SoFar key new (rows ++ row ∷ [])
so_far_more key row old new rows (other apart same) before =
    subst (λ o. SoFar key o (rows ++ row ∷ [])) (sym same) (by old before)
  where
    by : (o : Option ℤ) → SoFar key o rows → SoFar key o (rows ++ row ∷ [])
    by None none = λ r h is. elim (has_either rows (row ∷ []) r h) [
      | inl early ↦ none r early is
      | inr (inl one) ↦ apart (ap (λ z. column z 1) (sym one) ∙ is)
      | inr (inr nothing) ↦ absurd nothing
    ]
    by (Some v) f = record {
      row = f.row;
      there = has_left rows (row ∷ []) f.row f.there;
      key_is = f.key_is;
      value_is = f.value_is;
      only = λ r h is. elim (has_either rows (row ∷ []) r h) [
        | inl early ↦ f.only r early is
        | inr (inl one) ↦ absurd (apart (ap (λ z. column z 1) (sym one) ∙ is))
        | inr (inr nothing) ↦ absurd nothing
      ];
    }
so_far_more key row old new rows (has v key_is value_is same none) before =
    let nothing : SoFar key None rows = subst (λ o. SoFar key o rows) none before in
    subst (λ o. SoFar key o (rows ++ row ∷ [])) (sym same) (record {
      row = row;
      there = has_right rows (row ∷ []) row (inl refl);
      key_is = key_is;
      value_is = value_is;
      only = λ r h is. elim (has_either rows (row ∷ []) r h) [
        | inl early ↦ absurd (nothing r early is)
        | inr (inl one) ↦ ap (λ z. column z 2) one ∙ value_is
        | inr (inr none_more) ↦ absurd none_more
      ];
    })

-- ---- the value with which reading begins

module _ (version : StoreVersion) (c : Counters) (rows : List Row) (a : AreCounters version c rows) where
  abbrev first_rows : Rows
  first_rows = record {
    version = version;
    counts = rows;
    services = [];
    instances = [];
    groups = [];
    snapshots = [];
    launches = [];
  }

  clash : {X : Type 0} (x : X) → None ≡ Some x → ⊥
  clash x e = cc

  no_group : (x : OwnedGroup) → HasGroup (empty_with_counters c) x → ⊥
  no_group x (of_service nought s e m) = clash s e
  no_group x (of_instance above e f d m) = clash e f

first_finds : (c : Counters) (rows : List Row) → AreCounters versions.First c rows → (k : Counter) (n : ℕ)
    → first_count_of (empty_with_counters c) k ≡ Some n → Finds (counter_text k) (pos n) rows
first_finds c rows a Version n e = subst (λ z. Finds (codes "version") (pos z) rows) (some_is 1 n e) a.version_is
first_finds c rows a Layout n e = absurd (let none : None ≡ Some n = e in cc)
first_finds c rows a Revision n e =
    subst (λ z. Finds (codes "revision") (pos z) rows) (some_is c.revision n e) a.revision
first_finds c rows a NextInstance n e =
    subst (λ z. Finds (codes "next_instance") (pos z) rows) (some_is c.next_instance n e) a.next_instance
first_finds c rows a NextSnapshot n e =
    subst (λ z. Finds (codes "next_snapshot") (pos z) rows) (some_is c.next_snapshot n e) a.next_snapshot

first_shown : (c : Counters) (rows : List Row) → AreCounters versions.First c rows → (r : Row) → Has rows r
    → (k : Counter) → IsCounterOf versions.First k → column r 1 ≡ Text (counter_text k)
    → (x : Count) × HasCountIn versions.First (empty_with_counters c) x × ShowsCount x r
first_shown c rows a r h Version of key =
    (record { counter = Version; value = 1 }, refl, record { counter_is = key; value_is = a.version_is.only r h key })
first_shown c rows a r h Layout of key = absurd of
first_shown c rows a r h Revision of key = (
  record { counter = Revision; value = c.revision },
  refl,
  record { counter_is = key; value_is = a.revision.only r h key },
)
first_shown c rows a r h NextInstance of key = (
  record { counter = NextInstance; value = c.next_instance },
  refl,
  record { counter_is = key; value_is = a.next_instance.only r h key },
)
first_shown c rows a r h NextSnapshot of key = (
  record { counter = NextSnapshot; value = c.next_snapshot },
  refl,
  record { counter_is = key; value_is = a.next_snapshot.only r h key },
)

second_finds : (c : Counters) (rows : List Row) → AreCounters versions.Second c rows → (k : Counter)
    → Finds (counter_text k) (pos (count_of (empty_with_counters c) k)) rows
second_finds c rows a Version = a.version_is
second_finds c rows a Layout = a.layout
second_finds c rows a Revision = a.revision
second_finds c rows a NextInstance = a.next_instance
second_finds c rows a NextSnapshot = a.next_snapshot

counts_in : (version : StoreVersion) (c : Counters) (rows : List Row) → AreCounters version c rows
    → AreCounted (HasCountIn version (empty_with_counters c)) rows
counts_in versions.First c rows a = record {
  there = λ x m. let f = first_finds c rows a x.counter x.value m in
      (f.row, f.there, record { counter_is = f.key_is; value_is = f.value_is });
  only = λ r h k key. first_shown c rows a r h k ((a.known r h).counter k key) key;
  texts = λ r h. (a.known r h).text;
}
counts_in versions.Second c rows a = record {
  there = λ x m. let f = second_finds c rows a x.counter in
      (f.row, f.there, record { counter_is = f.key_is; value_is = f.value_is ∙ ap (λ n. Int (pos n)) m });
  only = λ r h k key. (
    record { counter = k; value = count_of (empty_with_counters c) k },
    refl,
    record { counter_is = key; value_is = (second_finds c rows a k).only r h key },
  );
  texts = λ r h. (a.known r h).text;
}

module _ (version : StoreVersion) (c : Counters) (rows : List Row) (a : AreCounters version c rows) where
  pub first_read : AreRead (first_rows version c rows a) (empty_with_counters c)
  first_read = record {
    counts = counts_in version c rows a;
    services = record { there = λ x m. absurd (clash version c rows a m.0 m.1); only = λ r h. absurd h };
    instances = record { there = λ x m. absurd (clash version c rows a m.0 m.1); only = λ r h. absurd h };
    groups = record { there = λ x m. absurd (no_group version c rows a x m); only = λ r h. absurd h };
    snapshots = record { there = λ x m. absurd (clash version c rows a x m); only = λ r h. absurd h };
    launches = record { there = λ x m. absurd (clash version c rows a x m); only = λ r h. absurd h };
    arranged = record {
      ordered = record { services = tt; instances = tt; names = tt; snapshots = tt; launches = tt };
      service_groups = λ name s e. absurd (clash version c rows a s e);
      instance_groups =
          λ n x e. absurd (clash version c rows a x e);
      none_at_zero = refl;
    };
    numbered = record {
      ordered = record { services = tt; instances = tt; names = tt; snapshots = tt; launches = tt };
      first = a.first;
      none_at_zero = refl;
      instances = λ n past. refl;
      snapshots = λ n past. refl;
      dated = λ n i kind e. absurd (clash version c rows a i e);
      indexed = first_numbers.indexed;
    };
  }
