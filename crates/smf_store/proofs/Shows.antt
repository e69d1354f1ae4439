-- Rows that are put in show what they are made of.
use Rattle.std.proofs.Common.{◌≡◌, inl, inr, ℕ, ℤ, pos, List, [], ◌∷◌, ◌++◌, Option, option_map, Ok, IsTrue, refl, sym, ap, subst, ◌∙◌}
use Rattle.sqlite.specs.declared.types.Value.TheVariants.{Null, Int, Text, Blob}
use Rattle.sqlite.specs.Edit.{next_rowid}
use Rattle.sqlite.specs.Order.{Row}
use Rattle.sqlite.specs.State.{State, KeepsCommit}
use Rattle.sqlite.specs.Table.{Table}
use Rattle.sqlite.specs.Values.{or_null}
use Rattle.sqlite_rules.proofs.ListLemmas.{has_left, has_right, has_either}
use Rattle.smf_state.specs.Texts.{read_row, row_text}
use Rattle.smf_value.specs.Body.{AreGroups, bytes_of_groups}
use Rattle.smf_value.specs.Groups.{GroupRecord}
use Rattle.smf_snap.specs.Body.{spelled_both}
use Rattle.smf_tables.specs.Layout.{IsStore, rows_in}
use Rattle.smf_tables.specs.Rows.{Alters, Gains}
use Rattle.smf_tables.specs.Schema.{grp, instance, snap}
use Rattle.smf_tables.specs.Statements.{AddsGroup, AddsSnapshot}
use Rattle.smf_model.specs.declared.held.Instance.{Instance}
use Rattle.smf_model.specs.declared.held.Snapshot.{Snapshot}
use Rattle.smf_store.specs.Shown.{IsSplit, ShowsGroup, ShowsInstance, ShowsSnapshot}
use Rattle.smf_store.specs.Steps.{AddsRow, GrowsAll, GrowsBy, owned_by}
use Rattle.smf_store.proofs.Makes.{shows_then}

pub adds_row : (S : Row → Type 0) (table : Table) (row : Row) (old new : State) → S row
    → Alters (Gains row) table old new → AddsRow S table old new
adds_row S table row old new shows a = record {
  shows = a.shows;
  turns = λ has sound keyed. let t = a.turns has sound keyed in
      record {
        schema = t.schema;
        sound = t.sound;
        rows = record { row = row; shows = shows; gains = t.rows };
        spares = t.spares;
      };
}

pub adds_instance : (i : Instance) (id : ℤ) (front behind text : List ℕ) (start previous : Option ℤ) (old new : State)
    → read_row (row_text i.row) ≡ Ok i.row → IsSplit i.name front behind → id ≡ pos i.number
    → text ≡ row_text i.row → start ≡ option_map pos i.start → previous ≡ option_map pos i.previous
    → Alters (Gains
    (Int id ∷ Null ∷ Text front ∷ Text behind ∷ Text text ∷ or_null Int start ∷ or_null Int previous ∷ []))
    instance old new → AddsRow (ShowsInstance i) instance old new
adds_instance i id front behind text start previous old new again split number row first last a =
    adds_row (ShowsInstance i) instance
    (Int id ∷ Null ∷ Text front ∷ Text behind ∷ Text text ∷ or_null Int start ∷ or_null Int previous ∷ []) old new
    (record {
      again = again;
      service = front;
      name = behind;
      split = split;
      number_is = ap Int number;
      service_is = refl;
      name_is = refl;
      row_is = ap Text row;
      start_is = ap (or_null Int) first;
      previous_is = ap (or_null Int) last;
    }) a

pub adds_snapshot : (s : Snapshot) (id owner : ℤ) (body : List ℕ) (old new : State) → AreGroups s.service_groups
    → AreGroups s.instance_groups → id ≡ pos s.number → owner ≡ pos s.instance
    → body ≡ spelled_both s.service_groups s.instance_groups → AddsSnapshot id owner body old new
    → AddsRow (ShowsSnapshot s) snap old new
adds_snapshot s id owner body old new service its number of is a =
    adds_row (ShowsSnapshot s) snap (Int id ∷ Null ∷ Int owner ∷ Blob body ∷ []) old new
    (record {
      service = service;
      instance = its;
      number_is = ap Int number;
      instance_is = ap Int of;
      body_is = ap Blob is;
    }) a

pub adds_group : (service : List ℕ) (number : ℕ) (g : GroupRecord) (id : ℤ) (body : List ℕ) (old new : State)
    → AreGroups (g ∷ []) → id ≡ pos number → body ≡ bytes_of_groups (g ∷ [])
    → AddsGroup service id g.name body old new → AddsRow (ShowsGroup (owned_by service number g)) grp old new
adds_group service number g id body old new formed is bytes a =
    let rowid = next_rowid (rows_in old.now 6) in
    adds_row (ShowsGroup (owned_by service number g)) grp
    (Int rowid ∷ Text service ∷ Int id ∷ Text g.name ∷ Blob body ∷ []) old new
    (record { formed = formed; service_is = refl; number_is = ap Int is; name_is = refl; body_is = ap Blob bytes }) a

-- ---- the groups of a list, one after another

pub grows_none : (service : List ℕ) (number : ℕ) (a : State) → IsTrue a.is_open → IsTrue a.in_transaction
    → GrowsAll service number [] a a
grows_none service number a is_open inside = record {
  shows = record { was_open = is_open; is_open = is_open; now_is = refl; committed_is = refl; mode = inside };
  turns = λ has sound keyed. record {
    schema = refl;
    sound = sound;
    rows = record { there = λ g h. absurd h; was = λ r h. inr h; stays = λ r h. h; keyed = keyed };
    spares = ((λ e. refl), ((λ e. refl), ((λ e. refl), ((λ e. refl), ((λ e. refl), ((λ e. refl), tt))))));
  };
}

pub grows_more : (service : List ℕ) (number : ℕ) (g : GroupRecord) (gs : List GroupRecord) (a b c : State)
    → GrowsAll service number gs a b → AddsRow (ShowsGroup (owned_by service number g)) grp b c
    → GrowsAll service number (gs ++ g ∷ []) a c
grows_more service number g gs a b c before one = record {
  shows = shows_then a b c before.shows one.shows;
  turns = λ has sound keyed.
      let t = before.turns has sound keyed in
      let u = one.turns (subst IsStore (sym t.schema) has) t.sound t.rows.keyed in
      record {
        schema = u.schema ∙ t.schema;
        sound = u.sound;
        rows = record {
          there = λ x h. elim (has_either gs (g ∷ []) x h) [
            | inl early ↦ let r = t.rows.there x early in (r.0, u.rows.gains.stays r.0 r.1, r.2)
            | inr (inl same) ↦ (
              u.rows.row,
              u.rows.gains.there,
              subst (λ z. ShowsGroup (owned_by service number z) u.rows.row) (sym same) u.rows.shows,
            )
            | inr (inr nothing) ↦ absurd nothing
          ];
          was = λ r h. elim (u.rows.gains.was r h) [
            | inl same ↦ inl (
              g,
              has_right gs (g ∷ []) g (inl refl),
              subst (ShowsGroup (owned_by service number g)) (sym same) u.rows.shows,
            )
            | inr mid ↦ elim (t.rows.was r mid) [
              | inl new ↦ inl (new.0, has_left gs (g ∷ []) new.0 new.1, new.2)
              | inr old ↦ inr old
            ]
          ];
          stays = λ r h. u.rows.gains.stays r (t.rows.stays r h);
          keyed = u.rows.gains.keyed;
        };
        spares = (
          (λ e. u.spares.0 e ∙ t.spares.0 e),
          (
            (λ e. u.spares.1.0 e ∙ t.spares.1.0 e),
            (
              (λ e. u.spares.1.1.0 e ∙ t.spares.1.1.0 e),
              (
                (λ e. u.spares.1.1.1.0 e ∙ t.spares.1.1.1.0 e),
                (
                  (λ e. u.spares.1.1.1.1.0 e ∙ t.spares.1.1.1.1.0 e),
                  ((λ e. u.spares.1.1.1.1.1.0 e ∙ t.spares.1.1.1.1.1.0 e), tt),
                ),
              ),
            ),
          ),
        );
      };
}

-- the rows of some are put in
pub record Growing (service : List ℕ) (number : ℕ) (done : List GroupRecord) (old now : State) : Type 0 where
  pub kept : KeepsCommit old now
  pub grows : GrowsBy service number done old now

pub growing_none : (service : List ℕ) (number : ℕ) (a : State) → IsTrue a.in_transaction → Growing service number [] a a
growing_none service number a inside =
    record {
      kept = record { was_open = λ o. o; committed = λ o. refl };
      grows = λ o. grows_none service number a o inside;
    }

pub growing_more : (service : List ℕ) (number : ℕ) (done : List GroupRecord) (g : GroupRecord)
    (now : List GroupRecord) (a b c : State) → Growing service number done a b → now ≡ done ++ g ∷ []
    → AddsRow (ShowsGroup (owned_by service number g)) grp b c → Growing service number now a c
growing_more service number done g now a b c grows is one = record {
  kept = record {
    was_open = λ o. grows.kept.was_open one.shows.was_open;
    committed = λ o. one.shows.committed_is ∙ grows.kept.committed one.shows.was_open;
  };
  grows = λ o. subst (λ gs. GrowsAll service number gs a c) (sym is)
      (grows_more service number g done a b c (grows.grows o) one);
}
