-- The facts of runs that a change of a restarter's knowledge brings, and the starts that live after it.
use Rattle.std.proofs.Common.{◌≡◌, ◌⊎◌, ◌==◌, not, ℕ, true, List, [], ◌∷◌, ◌++◌, Option, Some, None, inl, inr, refl, sym, ap, ◌∙◌, subst}
use Rattle.std.specs.Prelude.{IsSome, flat_map, option_to_list, unwrap_or}
use Rattle.smf_fmri.specs.ByKey.{has_key}
use Rattle.smf_contract.specs.Entries.{statuses}
use Rattle.smf_model.specs.declared.held.Instance.{Instance}
use Rattle.smf_model.specs.Contents.{Holdings}
use Rattle.smf_model.specs.Look.{instance}
use Rattle.smf_restarter.specs.declared.known.KnownInstance.{KnownInstance}
use Rattle.smf_restarter.specs.declared.known.KnownRun.{KnownRun}
use Rattle.smf_restarter.specs.declared.known.Owed.{Owed}
use Rattle.smf_restarter.specs.declared.known.Phase.TheVariants.{Owes}
use Rattle.smf_restarter.specs.declared.known.Stage.{Stage}
use Rattle.smf_restarter.specs.declared.known.Stage.TheVariants.{Joining, Listing, Up}
use Rattle.smf_restarter.specs.declared.reply.KnowledgeChange.{KnowledgeChange}
use Rattle.smf_restarter.specs.Answers.{run_begun}
use Rattle.smf_restarter.specs.Changes.{knowledge_after, no_change}
use Rattle.smf_restarter.specs.Knowledge.{Knowledge, at_first, by_run}
use Rattle.smf_restarter.specs.Runs.{known_run, listed_run, run_at}
use Rattle.smf_restarter.specs.Ticks.{begun_of}
use Rattle.smf_world.specs.declared.item.Item.{Item}
use Rattle.smf_world.specs.declared.item.Item.TheVariants.{Boot, Committed, Held, Spawned, Emptied}
use Rattle.smf_world.specs.Safe.{WasSpawned, is_start}
use Rattle.smf_world.specs.Worked.{begun_item}
use Rattle.smf_world.specs.World.{World}
use Rattle.smf_safety.proofs.LiveClauses.{IsAmong, KnowsLive, LiveRun, Lives, Once, live_runs}
use Rattle.smf_safety.proofs.LiveEvents.{begun_noted}
use Rattle.smf_safety.proofs.LiveKnown.{GoesOn, IsTrue, RunsAreTrue, each_found, knows_listed, knows_noted, listed_true, true_changed, true_later}
use Rattle.smf_world.proofs.LiveLists.{Each}
use Rattle.smf_safety.proofs.LiveStarts.{among_begun, among_others}
use Rattle.smf_safety.proofs.KnowClauses.{IsInformed, IsOwing}
use Rattle.smf_safety.proofs.KnowEvery.{owing_at}
use Rattle.smf_safety.proofs.KnowSteps.{IsAt}
use Rattle.smf_safety.proofs.KnowWalked.{begun_on}
use Rattle.smf_world.proofs.TrailItems.{noted, noted_both, noted_more}
use Rattle.smf_safety.proofs.RowWorld.{NoneBegun}
use Rattle.smf_safety.proofs.TablesClauses.{IsTable}

-- a restarter's knowledge of runs is true, and it knows the starts that live
abbrev pub KnowsWell : Holdings → List Item → Knowledge → Type 0
KnowsWell h trail k = RunsAreTrue trail k × KnowsLive h trail k

-- ---- changes that note what is true

-- who is not up does not come up by this
abbrev pub NotUp : Option Stage → Type 0
NotUp None = Unit {0}
NotUp (Some Joining) = Unit {0}
NotUp (Some Listing) = Unit {0}
NotUp (Some Up) = ⊥

-- nothing is listed, and what is noted of a run is true
pub record IsNoting (trail : List Item) (c : KnowledgeChange) : Type 0 where
  pub listed : c.listed ≡ []
  pub stage : NotUp c.stage
  pub run : Each (IsTrue trail) (option_to_list c.run)

pub unchanged_notes : (trail : List Item) → IsNoting trail no_change
unchanged_notes trail = record { listed = refl; stage = tt; run = tt }

found_true : (trail : List Item) (k : Knowledge) (n run : ℕ) (o : Option KnownRun) → run_at k n run ≡ o
    → RunsAreTrue trail k → Each (IsTrue trail) (option_to_list o)
found_true trail k n run None e a = tt
found_true trail k n run (Some r) e a =
    (each_found (IsTrue trail) (has_key by_run (record { instance = n; run = run })) k.runs r a e, tt)

-- the run that a row names
pub known_true : (trail : List Item) (k : Knowledge) (n : ℕ) (o : Option ℕ) → RunsAreTrue trail k
    → Each (IsTrue trail) (option_to_list (known_run k n o))
known_true trail k n None a = tt
known_true trail k n (Some run) a = found_true trail k n run (run_at k n run) refl a

-- ---- items behind which no further start lives

abbrev pub AddsNone : List Item → Type 0
AddsNone items = (t : List Item) (n run : ℕ) → Lives n run (noted items t) → Lives n run t

others_live : (n run c : ℕ) (t : List Item) → Lives n run (Emptied c ∷ t) → Lives n run t
others_live n run c t l = among_others n run (λ (x : LiveRun). not (x.contract == c)) (live_runs t) l

more_none : (x : Item) (xs : List Item) → ((t : List Item) (n run : ℕ) → Lives n run (x ∷ t) → Lives n run t)
    → AddsNone xs → AddsNone (x ∷ xs)
more_none x xs one more t n run l = one t n run (more (x ∷ t) n run (subst (Lives n run) (noted_more x xs t) l))

pub none_lives : (xs : List Item) → NoneBegun xs → AddsNone xs
none_lives [] b = λ t n run l. l
none_lives (Committed i m s next ∷ xs) b = more_none (Committed i m s next) xs (λ t n run l. l) (none_lives xs b)
none_lives (Held name launch i m s ∷ xs) b = more_none (Held name launch i m s) xs (λ t n run l. l) (none_lives xs b)
none_lives (Spawned c i r method revision command ∷ xs) b = absurd b
none_lives (Emptied c ∷ xs) b = more_none (Emptied c) xs (λ t n run l. others_live n run c t l) (none_lives xs b)
none_lives (Boot ∷ xs) b = more_none Boot xs (λ t n run l. absurd l) (none_lives xs b)

pub both_none : (xs ys : List Item) → AddsNone xs → AddsNone ys → AddsNone (xs ++ ys)
both_none xs ys a b t n run l = a t n run (b (noted xs t) n run (subst (Lives n run) (noted_both xs ys t) l))

-- ---- what a change leaves known

-- a restarter of a world, after these items: its knowledge of runs is true. If it is up then, it knows the starts that
-- come to live. These starts are of its instances
pub record Brings (w : World) (l : Knowledge) (c : KnowledgeChange) (items : List Item) : Type 0 where
  pub trues : GoesOn w.trail (noted items w.trail) → RunsAreTrue (noted items w.trail) (knowledge_after l c)
  pub own : (knowledge_after l c).stage ≡ Up → (n run : ℕ) → Lives n run (noted items w.trail)
      → (Lives n run w.trail × (l.stage ≡ Up)) ⊎ IsSome (run_at (knowledge_after l c) n run)
  pub others : (n run : ℕ) → Lives n run (noted items w.trail)
      → Lives n run w.trail ⊎ ((i : Instance) → instance w.now n ≡ Some i → i.row.owner ≡ l.name)

trues_later : (t u : List Item) (rs : List KnownRun) → GoesOn t u → Each (IsTrue t) rs → Each (IsTrue u) rs
trues_later t u rs g a = true_later t u (record (at_first [] 0 0) { runs = rs }) g a

up_before : (l : Knowledge) (c : KnowledgeChange) → NotUp c.stage → (knowledge_after l c).stage ≡ Up → l.stage ≡ Up
unfolding knowledge_after
up_before l c not_up e = by c.stage not_up e
  where
    by : (o : Option Stage) → NotUp o → unwrap_or o l.stage ≡ Up → l.stage ≡ Up
    by None p f = f
    by (Some Joining) p f = absurd cc
    by (Some Listing) p f = absurd cc
    by (Some Up) p f = absurd p

-- `Brings` holds if no start comes to live
pub brings_true : (w : World) (l : Knowledge) (c : KnowledgeChange) (items : List Item) → NotUp c.stage
    → (GoesOn w.trail (noted items w.trail) → RunsAreTrue (noted items w.trail) (knowledge_after l c))
    → AddsNone items → Brings w l c items
brings_true w l c items not_up trues none =
    record {
      trues = trues;
      own = λ up n run lives. inl (none w.trail n run lives, up_before l c not_up up);
      others = λ n run lives. inl (none w.trail n run lives);
    }

pub brings_noted : (w : World) (l : Knowledge) (c : KnowledgeChange) (items : List Item) → RunsAreTrue w.trail l
    → IsNoting w.trail c → AddsNone items → Brings w l c items
brings_noted w l c items a is none =
    brings_true w l c items is.stage
    (λ g. true_changed (noted items w.trail) l c (true_later w.trail (noted items w.trail) l g a)
    (subst (Each (IsTrue (noted items w.trail))) (sym is.listed) tt)
    (trues_later w.trail (noted items w.trail) (option_to_list c.run) g is.run)) none

-- ---- the contracts are listed

pub brings_listed : (w : World) (l : Knowledge) (c : KnowledgeChange) (items : List Item) → IsTable w.table w.trail
    → Once w.trail → RunsAreTrue w.trail l → c.listed ≡ flat_map (listed_run l) (statuses w.table) → c.run ≡ None
    → AddsNone items → Brings w l c items
brings_listed w l c items is once a lists none_run none =
    let u : List Item = noted items w.trail in
    record {
      trues = λ g.
          true_changed u l c (true_later w.trail u l g a)
          (trues_later w.trail u c.listed g
          (subst (Each (IsTrue w.trail)) (sym lists) (listed_true w.table w.trail l is once)))
          (subst (λ (o : Option KnownRun). Each (IsTrue u) (option_to_list o)) (sym none_run) tt);
      own = λ up n run lives. inr (knows_listed w.table w.trail l c n run is lists (none w.trail n run lives));
      others = λ n run lives. inl (none w.trail n run lives);
    }

-- ---- a method is begun in a contract

one_instance : (o : Option Instance) (i j : Instance) → o ≡ Some i → o ≡ Some j → i ≡ j
one_instance o i j e f = let same : Some i ≡ Some j = sym e ∙ f in cc

-- the items of a turn: rows that are taken, a method that is begun, contracts that are emptied
pub record IsTurn (rows begun emptied items : List Item) : Type 0 where
  pub rows_none : NoneBegun rows
  pub emptied_none : NoneBegun emptied
  pub are : items ≡ rows ++ begun ++ emptied

in_turn : (rows begun emptied items t : List Item) → IsTurn rows begun emptied items
    → noted items t ≡ noted emptied (noted begun (noted rows t))
in_turn rows begun emptied items t is = ap (λ (zs : List Item). noted zs t) is.are
    ∙ (noted_both (rows ++ begun) emptied t ∙ ap (noted emptied) (noted_both rows begun t))

pub turn_none : (rows begun emptied items : List Item) → IsTurn rows begun emptied items → AddsNone begun
    → AddsNone items
turn_none rows begun emptied items is none t n run l =
    none_lives rows is.rows_none t n run
    (none (noted rows t) n run
    (none_lives emptied is.emptied_none (noted begun (noted rows t)) n run
    (subst (Lives n run) (in_turn rows begun emptied items t is) l)))

-- the item of one method that is begun
abbrev pub begun_alone : ℕ → KnownInstance → Owed → List Item
begun_alone c i o = begun_item c (begun_of i o) ∷ []

turn_lives : (rows emptied items t : List Item) (c : ℕ) (i : KnownInstance) (o : Owed) (n run : ℕ)
    → IsTurn rows (begun_alone c i o) emptied items → Lives n run (noted items t)
    → Lives n run t ⊎ ((i.instance ≡ n) × (o.run ≡ run))
turn_lives rows emptied items t c i o n run is l =
    let u : List Item = noted rows t in
    let there : Lives n run (begun_item c (begun_of i o) ∷ u) =
    none_lives emptied is.emptied_none (noted (begun_alone c i o) u) n run
    (subst (Lives n run) (in_turn rows (begun_alone c i o) emptied items t is) l) in
    by (among_begun n run c i.instance o.run (is_start o.method) (live_runs u) there)
  where
    by : ((is_start o.method ≡ true) × (i.instance ≡ n) × (o.run ≡ run)) ⊎ IsAmong n run (live_runs (noted rows t))
        → Lives n run t ⊎ ((i.instance ≡ n) × (o.run ≡ run))
    by (inl (e, f, g)) = inr (f, g)
    by (inr x) = inl (none_lives rows is.rows_none t n run x)

turn_begun : (rows emptied items t : List Item) (c : ℕ) (i : KnownInstance) (o : Owed)
    → IsTurn rows (begun_alone c i o) emptied items → WasSpawned i.instance o.run (noted items t)
turn_begun rows emptied items t c i o is =
    subst (WasSpawned i.instance o.run) (sym (in_turn rows (begun_alone c i o) emptied items t is))
    (begun_noted i.instance o.run emptied (begun_item c (begun_of i o) ∷ noted rows t) (inl (refl, refl)))

-- `Brings` holds if this restarter owed the method and notes its run
pub brings_begun : (w : World) (l : Knowledge) (c : KnowledgeChange) (rows emptied items : List Item)
    (i : KnownInstance) (o : Owed) (contract : ℕ) → RunsAreTrue w.trail l
    → IsInformed w.history w.now w.sent (begun_on w.trail) l
    → IsAt l i → i.phase ≡ Owes o → l.stage ≡ Up → c.listed ≡ [] → c.run ≡ Some (run_begun i.instance o contract)
    → IsTurn rows (begun_alone contract i o) emptied items → Brings w l c items
brings_begun w l c rows emptied items i o contract a f at ph up lists notes is =
    record {
      trues = λ g.
          true_changed u l c (true_later w.trail u l g a) (subst (Each (IsTrue u)) (sym lists) tt)
          (subst (λ (x : Option KnownRun). Each (IsTrue u) (option_to_list x)) (sym notes) (
            record { begun = turn_begun rows emptied items w.trail contract i o is; dead = λ e lives. absurd cc },
            tt,
          ));
      own = λ now n run lives. own_by n run (turn_lives rows emptied items w.trail contract i o n run is lives);
      others = λ n run lives. others_by n run (turn_lives rows emptied items w.trail contract i o n run is lives);
    }
  where
    u : List Item
    u = noted items w.trail

    own_by : (n run : ℕ) → Lives n run w.trail ⊎ ((i.instance ≡ n) × (o.run ≡ run))
        → (Lives n run w.trail × (l.stage ≡ Up)) ⊎ IsSome (run_at (knowledge_after l c) n run)
    own_by n run (inl x) = inl (x, up)
    own_by n run (inr (e, g)) =
        inr (subst (λ (m : ℕ). IsSome (run_at (knowledge_after l c) m run)) e
        (subst (λ (m : ℕ). IsSome (run_at (knowledge_after l c) i.instance m)) g
        (knows_noted l c (run_begun i.instance o contract) notes)))

    owing : IsOwing w.history w.now (begun_on w.trail) l i.instance i.row o
    owing = owing_at w.history w.now w.sent (begun_on w.trail) l i o f at ph

    others_by : (n run : ℕ) → Lives n run w.trail ⊎ ((i.instance ≡ n) × (o.run ≡ run))
        → Lives n run w.trail ⊎ ((j : Instance) → instance w.now n ≡ Some j → j.row.owner ≡ l.name)
    others_by n run (inl x) = inl x
    others_by n run (inr (e, g)) =
        inr (λ j there. ap (λ (x : Instance). x.row.owner)
        (one_instance (instance w.now n) j owing.of there
        (subst (λ (m : ℕ). instance w.now m ≡ Some owing.of) e owing.there)) ∙ owing.owner)
