-- What is lost of a world leaves all that its trail is safe by.
use Rattle.std.proofs.Common.{◌≡◌, ◌⊎◌, inl, inr, ℕ, Bool, true, false, cond, IsSome, List, [], ◌∷◌, Option, Some, None, refl, sym, ap, ◌∙◌, subst}
use Rattle.std.specs.Prelude.{find}
use Rattle.std.specs.List.{AllByRecursion}
use Rattle.smf_contract.specs.declared.contract.Contract.{Contract}
use Rattle.smf_contract.specs.declared.event.ContractEvent.{ContractEvent}
use Rattle.smf_contract.specs.Entries.{Contracts, has_members}
use Rattle.smf_state.specs.declared.view.View.{View}
use Rattle.smf_model.specs.declared.command.Command.TheVariants as commands
use Rattle.smf_model.specs.declared.command.CommandReply.TheVariants as answers
use Rattle.smf_model.specs.Contents.{Holdings}
use Rattle.smf_model.specs.History.{History}
use Rattle.smf_model.specs.Laws.{IsNumbered}
use Rattle.smf_model.specs.Next.{next}
use Rattle.smf_restarter.specs.declared.known.KnownRun.{KnownRun}
use Rattle.smf_restarter.specs.Knowledge.{Knowledge, by_instance, by_run}
use Rattle.smf_restarter.specs.Runs.{run_at}
use Rattle.smf_fmri.specs.ByKey.{has_key, lookup}
use Rattle.smf_wire.specs.declared.message.Message.{Message}
use Rattle.smf_wire.specs.declared.message.Message.TheVariants as messages
use Rattle.smf_world.specs.declared.event.Event.{Event}
use Rattle.smf_world.specs.declared.event.Event.TheVariants as events
use Rattle.smf_world.specs.declared.item.Item.{Item}
use Rattle.smf_world.specs.Happens.{happens}
use Rattle.smf_world.specs.Runs.{run}
use Rattle.smf_world.specs.Safe.{CommitsFollowHistory, IsSafe}
use Rattle.smf_world.specs.World.{World, initial_world}
use Rattle.smf_world.proofs.LiveLists.{Each, IsIn}
use Rattle.smf_world.proofs.Logged.{event_follows, run_follows}
use Rattle.smf_world.proofs.Once.{once}
use Rattle.smf_world.proofs.Pushed.{along_commits}
use Rattle.smf_world.proofs.TablesInherit.{AllInherit, happens_inherits}
use Rattle.smf_safety.proofs.KnowStarts.{Stands}
use Rattle.smf_safety.proofs.KnowWalked.{begun_on}
use Rattle.smf_safety.proofs.LiveAll.{LivesWell, lives_well_event, lives_well_first}
use Rattle.smf_safety.proofs.LiveClauses.{AllFreeTheOver, EmptyIsDead, FreesTheOver, KnowsLive, IsOwed, LiveRun, live_runs}
use Rattle.smf_safety.proofs.KnowApart.{AreApart, IsApartFrom, found_in}
use Rattle.smf_safety.proofs.KnowClauses.{IsInformed}
use Rattle.smf_safety.proofs.KnowStaged.{IsAlike, informed_alike}
use Rattle.smf_safety.proofs.LiveKnown.{IsTrue, empty_is_dead}
use Rattle.smf_safety.proofs.LiveTrue.{KnowsWell}
use Rattle.smf_safety.proofs.TablesClauses.{EmptyIsEmpty, IsHeldLive, IsSpawned, IsTable, Tag, tag_of, tags}
use Rattle.smf_restarter.specs.Forgotten.{IsRun}
use Rattle.smf_past.specs.Losses.{AllKnowLess, AreLess, IsAmong, IsLess, IsStillThere, IsThere, KeepsTable, KnowsLess, SaysEmpty, as_before, know_less, none_left}
use Rattle.smf_past.proofs.ThinTables.{thinned_still}
use Rattle.smf_world.proofs.Honest.{Honest, first_honest, honest_event}

-- ---- all that stands

pub record IsGood (w : World) : Type 0 where
  pub lives : LivesWell w
  pub honest : Honest w
  pub follows : CommitsFollowHistory w
  pub inherit : AllInherit w.table

pub good_safe : (w : World) → IsGood w → IsSafe w
good_safe w g =
    record {
      recorded = record {
        history = g.follows;
        diagram = along_commits w.trail g.honest.tracked.along;
        once = once w.trail (along_commits w.trail g.honest.tracked.along);
        held = g.honest.held;
      };
      one = g.lives.one;
      decided = g.lives.stands.starts;
    }

pub good_event : (w : World) (e : Event) → IsGood w → IsGood (happens w e)
good_event w e g =
    record {
      lives = lives_well_event w e g.lives;
      honest = honest_event w e g.honest;
      follows = event_follows w e g.honest.tracked.numbered g.follows;
      inherit = happens_inherits w e g.inherit;
    }

pub good_first : (h : Holdings) → IsNumbered h → (next h commands.Boot).1 ≡ answers.Done
    → IsGood (happens (initial_world h) events.Boot)
good_first h n done =
    record {
      lives = lives_well_first h n done;
      honest = first_honest h n done;
      follows = run_follows h (events.Boot ∷ []) n;
      inherit = happens_inherits (initial_world h) events.Boot tt;
    }

-- ---- contracts

abbrev tag : ℕ → ℕ → Tag
tag id cookie = record { id = id; cookie = cookie }

among_tag : (id cookie : ℕ) (cs : List Contract) → IsAmong id cookie cs
    → IsIn (tag id cookie) (tags cs)
among_tag id cookie [] a = absurd a
among_tag id cookie (c ∷ cs) (inl e) = inl (λ j. record { id = e.0 j; cookie = e.1 j })
among_tag id cookie (c ∷ cs) (inr a) = inr (among_tag id cookie cs a)

each_tag : (P : Tag → Type 0) (g : Tag) (gs : List Tag) → Each P gs → IsIn g gs → P g
each_tag P g [] a i = absurd i
each_tag P g (x ∷ xs) a (inl e) = subst P e a.0
each_tag P g (x ∷ xs) a (inr i) = each_tag P g xs a.1 i

fewer_spawned : (us : List Contract) (trail : List Item) (ts : List Contract)
    → AllByRecursion (λ c. IsAmong c.id c.cookie us) ts → Each (IsSpawned trail) (tags us)
    → Each (IsSpawned trail) (tags ts)
fewer_spawned us trail [] a s = tt
fewer_spawned us trail (c ∷ cs) a s =
    (each_tag (IsSpawned trail) (tag_of c) (tags us) s (among_tag c.id c.cookie us a.0), fewer_spawned us trail cs a.1 s)

-- a contract with members, by its number and its cookie
still_there : (t u : Contracts) (id cookie : ℕ) (cs : List Contract) → AllByRecursion (IsThere t u) cs
    → IsIn (tag id cookie) (tags cs) → has_members id u.members ≡ true
    → IsAmong id cookie t.contracts × (has_members id t.members ≡ true)
still_there t u id cookie [] a i m = absurd i
still_there t u id cookie (c ∷ cs) a (inl e) m =
    let same : c.id ≡ id = ap (λ (g : Tag). g.id) e in
    let alike : c.cookie ≡ cookie = ap (λ (g : Tag). g.cookie) e in
    let found = a.0 (subst (λ (n : ℕ). has_members n u.members ≡ true) (sym same) m) in (
      subst (λ (n : ℕ). IsAmong n cookie t.contracts) same
          (subst (λ (k : ℕ). IsAmong c.id k t.contracts) alike found.0),
      subst (λ (n : ℕ). has_members n t.members ≡ true) same found.1,
    )
still_there t u id cookie (c ∷ cs) a (inr i) m = still_there t u id cookie cs a.1 i m

live_still : (t u : Contracts) → IsStillThere t u → (ls : List LiveRun) → Each (IsHeldLive u) ls → Each (IsHeldLive t) ls
live_still t u s [] a = tt
live_still t u s (l ∷ ls) a =
    let found = still_there t u l.contract a.0.cookie u.contracts s.living a.0.is_there a.0.members in (
      record {
        cookie = a.0.cookie;
        is_there = among_tag l.contract a.0.cookie t.contracts found.0;
        unpacks = a.0.unpacks;
        members = found.1;
      },
      live_still t u s ls a.1,
    )

empty_still : (t : Contracts) (es : List ContractEvent) → AllByRecursion (SaysEmpty t) es → Each (EmptyIsEmpty t) es
empty_still t [] a = tt
empty_still t (e ∷ es) a = (record { given = a.0.0; empty = a.0.1 }, empty_still t es a.1)

table_still : (t u : Contracts) (trail : List Item) → IsStillThere t u → IsTable u trail → IsTable t trail
table_still t u trail s is =
    record {
      ordered = s.ordered;
      spawned = fewer_spawned u.contracts trail t.contracts s.contracts is.spawned;
      live = live_still t u s (live_runs trail) is.live;
      empty = empty_still t t.events s.events;
    }

inherits_still : (cs : List Contract) → AllByRecursion (λ c. c.terms.inherit ≡ true) cs
    → Each (λ (c : Contract). c.terms.inherit ≡ true) cs
inherits_still [] a = tt
inherits_still (c ∷ cs) a = (a.0, inherits_still cs a.1)

-- ---- restarters

none_owed : (n run : ℕ) → IsOwed [] n run → ⊥
none_owed n run o = o.is_launched

frees_still : (h : Holdings) (ks : List Knowledge) (t : List Item) (m : Message) → FreesTheOver h ks t m
    → FreesTheOver h [] t m
frees_still h ks t (messages.Propose q) f =
    λ o run free live. record { dead = (f o run free live).dead; unowed = none_owed q.instance run }
frees_still h ks t (messages.Join name launch) f = tt
frees_still h ks t (messages.Rows name launch rows) f = tt
frees_still h ks t (messages.Ack name launch serial n row) f = tt
frees_still h ks t (messages.Nack name launch serial n why row) f = tt
frees_still h ks t messages.AskView f = tt
frees_still h ks t (messages.AskChange since) f = tt
frees_still h ks t (messages.View v) f = tt
frees_still h ks t (messages.Changes news) f = tt
frees_still h ks t (messages.Order o) f = tt

all_free_still : (h : Holdings) (ks : List Knowledge) (t : List Item) (ms : List Message) → AllFreeTheOver h ks t ms
    → AllFreeTheOver h [] t ms
all_free_still h ks t [] a = tt
all_free_still h ks t (m ∷ ms) a = (frees_still h ks t m a.0, all_free_still h ks t ms a.1)

-- ---- known runs

each_run : (P : KnownRun → Type 0) (r : KnownRun) (rs : List KnownRun) → Each P rs → IsRun r rs → P r
each_run P r [] a i = absurd i
each_run P r (x ∷ xs) a (inl e) = subst P e a.0
each_run P r (x ∷ xs) a (inr i) = each_run P r xs a.1 i

each_fewer : (P : KnownRun → Type 0) (rs xs : List KnownRun) → Each P rs → AllByRecursion (λ r. IsRun r rs) xs
    → Each P xs
each_fewer P rs [] a f = tt
each_fewer P rs (x ∷ xs) a f = (each_run P x rs a f.0, each_fewer P rs xs a f.1)

run_in : (P : KnownRun → Type 0) (rs : List KnownRun) (r : KnownRun) → AllByRecursion P rs → IsIn r rs → P r
run_in P [] r a i = absurd i
run_in P (x ∷ xs) r a (inl e) = subst P e a.0
run_in P (x ∷ xs) r a (inr i) = run_in P xs r a.1 i

-- a run that is among them is found by its key
found_run : (test : KnownRun → Bool) (rs : List KnownRun) (r : KnownRun) → IsRun r rs → test r ≡ true
    → IsSome (find test rs)
found_run test [] r i e = absurd i
found_run test (x ∷ xs) r i e = by (test x) refl i (found_run test xs r)
  where
    clash : (b : Bool) → b ≡ true → b ≡ false → ⊥
    clash b p q = cc

    by : (b : Bool) → test x ≡ b → (x ≡ r) ⊎ IsRun r xs → (IsRun r xs → test r ≡ true → IsSome (find test xs))
        → IsSome (cond b (Some x) (find test xs))
    by true t j ih = refl
    by false t (inl same) ih =
        absurd (clash (test x) (subst (λ (z : KnownRun). test z ≡ true) (sym same) e) t)
    by false t (inr j) ih = ih j e

some_is : {X : Type 0} (o : Option X) → IsSome o → (x : X) × (o ≡ Some x)
some_is None s = absurd cc
some_is (Some x) s = (x, refl)

knows_less_live : (h : Holdings) (t : List Item) (l k : Knowledge) → KnowsLess l k → EmptyIsDead t k → KnowsLive h t k
    → KnowsLive h t l
knows_less_live h t l k f dead live up n run i there owner lives =
    let some : IsSome (run_at k n run) =
    live (sym f.stage ∙ up) n run i there (owner ∙ f.name) lives in
    let found = some_is (run_at k n run) some in
    let r : KnownRun = found.0 in
    let at = found_in (has_key by_run (record { instance = n; run = run })) k.runs r found.1 in
    let full : r.empty ≡ false = not_empty r.empty (λ e. dead n run r found.1 e lives) in
    found_run (has_key by_run (record { instance = n; run = run })) l.runs r
    (run_in (λ x. x.empty ≡ false → IsRun x l.runs) k.runs r f.living at.0 full) at.1
  where
    not_empty : (b : Bool) → (b ≡ true → ⊥) → b ≡ false
    not_empty true apart = absurd (apart refl)
    not_empty false apart = refl

knows_less_well : (h : Holdings) (t : List Item) (l k : Knowledge) → KnowsLess l k → KnowsWell h t k → KnowsWell h t l
knows_less_well h t l k f a = (
  each_fewer (IsTrue t) k.runs l.runs a.0 f.runs,
  knows_less_live h t l k f (empty_is_dead t k a.0) a.1,
)

all_less_well : (h : Holdings) (t : List Item) (ls ks : List Knowledge) → AllKnowLess ls ks → Each (KnowsWell h t) ks
    → Each (KnowsWell h t) ls
all_less_well h t [] [] f a = tt
all_less_well h t [] (k ∷ ks) f a = absurd f
all_less_well h t (l ∷ ls) [] f a = absurd f
all_less_well h t (l ∷ ls) (k ∷ ks) f a = (knows_less_well h t l k f.0 a.0, all_less_well h t ls ks f.1 a.1)

less_alike : (l k : Knowledge) → KnowsLess l k → IsAlike k l
less_alike l k f =
    record { name = f.name; launch = f.launch; serial = f.serial; stage = f.stage; instances = f.instances }

all_less_informed : (y : History) (h : Holdings) (ms : List Message) (B : ℕ → ℕ → Type 0) (ls ks : List Knowledge)
    → AllKnowLess ls ks → Each (IsInformed y h ms B) ks → Each (IsInformed y h ms B) ls
all_less_informed y h ms B [] [] f a = tt
all_less_informed y h ms B [] (k ∷ ks) f a = absurd f
all_less_informed y h ms B (l ∷ ls) [] f a = absurd f
all_less_informed y h ms B (l ∷ ls) (k ∷ ks) f a =
    (informed_alike y h ms B k l (less_alike l k f.0) a.0, all_less_informed y h ms B ls ks f.1 a.1)

less_apart_from : (l k : Knowledge) (ls ks : List Knowledge) → l.name ≡ k.name → AllKnowLess ls ks
    → Each (IsApartFrom k) ks → Each (IsApartFrom l) ls
less_apart_from l k [] [] e f a = tt
less_apart_from l k [] (y ∷ ys) e f a = absurd f
less_apart_from l k (x ∷ xs) [] e f a = absurd f
less_apart_from l k (x ∷ xs) (y ∷ ys) e f a =
    (λ same. a.0 (sym e ∙ same ∙ f.0.name), less_apart_from l k xs ys e f.1 a.1)

less_apart : (ls ks : List Knowledge) → AllKnowLess ls ks → AreApart ks → AreApart ls
less_apart [] [] f a = tt
less_apart [] (k ∷ ks) f a = absurd f
less_apart (l ∷ ls) [] f a = absurd f
less_apart (l ∷ ls) (k ∷ ks) f a =
    (less_apart_from l k ls ks f.0.name f.1 a.0, less_apart ls ks f.1 a.1)

-- the one that knows more
pub record KnewMore (l : Knowledge) (ks : List Knowledge) : Type 0 where
  pub of : Knowledge
  pub is_in : IsIn of ks
  pub instances : l.instances ≡ of.instances

knew_more : (l : Knowledge) (ls ks : List Knowledge) → AllKnowLess ls ks → IsIn l ls → KnewMore l ks
knew_more l [] ks f i = absurd i
knew_more l (x ∷ xs) [] f i = absurd f
knew_more l (x ∷ xs) (y ∷ ys) f (inl e) =
    record { of = y; is_in = inl refl; instances = ap (λ (z : Knowledge). z.instances) (sym e) ∙ f.0.instances }
knew_more l (x ∷ xs) (y ∷ ys) f (inr i) =
    let more = knew_more l xs ys f.1 i in
    record { of = more.of; is_in = inr more.is_in; instances = more.instances }

less_owed : (ls ks : List Knowledge) (n run : ℕ) → AllKnowLess ls ks → IsOwed ls n run → IsOwed ks n run
less_owed ls ks n run f o =
    let more = knew_more o.restarter ls ks f o.is_launched in
    record {
      restarter = more.of;
      of = o.of;
      owed = o.owed;
      is_launched = more.is_in;
      is_known = ap (λ is. lookup by_instance is n) (sym more.instances) ∙ o.is_known;
      owes = o.owes;
      start = o.start;
      live = o.live;
    }

less_frees : (h : Holdings) (ls ks : List Knowledge) (t : List Item) (m : Message) → AllKnowLess ls ks
    → FreesTheOver h ks t m → FreesTheOver h ls t m
less_frees h ls ks t (messages.Propose q) f a =
    λ o run free live. record {
      dead = (a o run free live).dead;
      unowed = λ owed. (a o run free live).unowed (less_owed ls ks q.instance run f owed);
    }
less_frees h ls ks t (messages.Join name launch) f a = tt
less_frees h ls ks t (messages.Rows name launch rows) f a = tt
less_frees h ls ks t (messages.Ack name launch serial n row) f a = tt
less_frees h ls ks t (messages.Nack name launch serial n why row) f a = tt
less_frees h ls ks t messages.AskView f a = tt
less_frees h ls ks t (messages.AskChange since) f a = tt
less_frees h ls ks t (messages.View v) f a = tt
less_frees h ls ks t (messages.Changes news) f a = tt
less_frees h ls ks t (messages.Order o) f a = tt

all_less_free : (h : Holdings) (ls ks : List Knowledge) (t : List Item) (ms : List Message) → AllKnowLess ls ks
    → AllFreeTheOver h ks t ms → AllFreeTheOver h ls t ms
all_less_free h ls ks t [] f a = tt
all_less_free h ls ks t (m ∷ ms) f a = (less_frees h ls ks t m f a.0, all_less_free h ls ks t ms f a.1)

-- ---- worlds, part by part

-- without its restarters
alone_good : (w : World) → IsGood w → IsGood (record w { restarters = [] })
alone_good w g =
    let s : Stands w = g.lives.stands in
    record {
      lives = record {
        stands = record {
          first = s.first;
          rows = s.rows;
          shown = s.shown;
          informed = record { informed = tt; apart = tt };
          last = s.last;
          once = s.once;
          starts = s.starts;
        };
        table = g.lives.table;
        live = g.lives.live;
        frees = all_free_still w.now w.restarters w.trail w.sent g.lives.frees;
        knows = tt;
        one = g.lives.one;
      };
      honest = g.honest;
      follows = record { newest = g.follows.newest; commits = g.follows.commits };
      inherit = g.inherit;
    }

-- with restarters that know less
less_good : (w : World) (ls : List Knowledge) → AllKnowLess ls w.restarters → IsGood w
    → IsGood (record w { restarters = ls })
less_good w ls f g =
    let s : Stands w = g.lives.stands in
    record {
      lives = record {
        stands = record {
          first = s.first;
          rows = s.rows;
          shown = s.shown;
          informed = record {
            informed = all_less_informed w.history w.now w.sent (begun_on w.trail) ls w.restarters f s.informed.informed;
            apart = less_apart ls w.restarters f s.informed.apart;
          };
          last = s.last;
          once = s.once;
          starts = s.starts;
        };
        table = g.lives.table;
        live = g.lives.live;
        frees = all_less_free w.now ls w.restarters w.trail w.sent f g.lives.frees;
        knows = all_less_well w.now w.trail ls w.restarters f g.lives.knows;
        one = g.lives.one;
      };
      honest = g.honest;
      follows = record { newest = g.follows.newest; commits = g.follows.commits };
      inherit = g.inherit;
    }

-- without the view
blind_good : (w : World) → IsGood w → IsGood (record w { seen = None })
blind_good w g =
    let s : Stands w = g.lives.stands in
    record {
      lives = record {
        stands = record {
          first = s.first;
          rows = s.rows;
          shown = record {
            first = s.shown.first;
            numbered = s.shown.numbered;
            newest = s.shown.newest;
            views = s.shown.views;
            engine = tt;
            orders = s.shown.orders;
          };
          informed = s.informed;
          last = s.last;
          once = s.once;
          starts = s.starts;
        };
        table = g.lives.table;
        live = g.lives.live;
        frees = g.lives.frees;
        knows = g.lives.knows;
        one = g.lives.one;
      };
      honest = record { tracked = g.honest.tracked; seen = tt; sent = g.honest.sent; held = g.honest.held };
      follows = record { newest = g.follows.newest; commits = g.follows.commits };
      inherit = g.inherit;
    }

-- with another table
tabled_good : (w : World) (t : Contracts) → IsStillThere t w.table → IsGood w → IsGood (record w { table = t })
tabled_good w t still g =
    let s : Stands w = g.lives.stands in
    record {
      lives = record {
        stands = record {
          first = s.first;
          rows = s.rows;
          shown = s.shown;
          informed = s.informed;
          last = s.last;
          once = s.once;
          starts = s.starts;
        };
        table = table_still t w.table w.trail still g.lives.table;
        live = g.lives.live;
        frees = g.lives.frees;
        knows = g.lives.knows;
        one = g.lives.one;
      };
      honest = g.honest;
      follows = record { newest = g.follows.newest; commits = g.follows.commits };
      inherit = inherits_still t.contracts still.inherit;
    }

-- ---- all of it

pub parts_as : (v w : World) (ks : List Knowledge) (o : Option View) (t : Contracts) → v.history ≡ w.history
    → v.now ≡ w.now → v.sent ≡ w.sent → v.trail ≡ w.trail → v.restarters ≡ ks → v.seen ≡ o → v.table ≡ t
    → v ≡ record w { restarters = ks; seen = o; table = t }
parts_as v w ks o t a b c d e f g =
    λ j. record {
      history = a j;
      now = b j;
      restarters = e j;
      seen = f j;
      sent = c j;
      trail = d j;
      table = g j;
    }

pub good_less : (w v : World) → IsLess v w → IsGood w → IsGood v
good_less w v l g =
    subst IsGood
    (sym (parts_as v w v.restarters v.seen v.table l.history l.now l.sent l.trail refl refl refl))
    (with_table (record w { restarters = v.restarters; seen = v.seen }) l.table
    (with_seen (record w { restarters = v.restarters }) l.seen (with_restarters l.restarters)))
  where
    with_restarters : AreLess v.restarters w.restarters → IsGood (record w { restarters = v.restarters })
    with_restarters (know_less f) = less_good w v.restarters f g
    with_restarters (as_before e) = subst (λ (ks : List Knowledge). IsGood (record w { restarters = ks })) (sym e) g
    with_restarters (none_left e) =
        subst (λ (ks : List Knowledge). IsGood (record w { restarters = ks })) (sym e) (alone_good w g)

    with_seen : (u : World) → (v.seen ≡ u.seen) ⊎ (v.seen ≡ None) → IsGood u → IsGood (record u { seen = v.seen })
    with_seen u (inl e) is = subst (λ (o : Option View). IsGood (record u { seen = o })) (sym e) is
    with_seen u (inr e) is = subst (λ (o : Option View). IsGood (record u { seen = o })) (sym e) (blind_good u is)

    with_table : (u : World) → KeepsTable v.table u.table → IsGood u → IsGood (record u { table = v.table })
    with_table u (inl e) is = subst (λ (t : Contracts). IsGood (record u { table = t })) (sym e) is
    with_table u (inr (inl e)) is =
        tabled_good u v.table
        (subst (λ (t : Contracts). IsStillThere t u.table) (sym e)
        (thinned_still u.table is.lives.table.ordered is.lives.table.empty is.inherit)) is
    with_table u (inr (inr s)) is = tabled_good u v.table s is
