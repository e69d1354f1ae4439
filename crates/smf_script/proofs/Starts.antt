-- The runs that the trail shows, event by event.
use Rattle.std.proofs.Common.{◌≡◌, ℕ, ◌+◌, ◌==◌, nat_lt, Bool, true, false, cond, List, [], ◌∷◌, ◌++◌, map, reverse, Option, Some, None, Ok, refl, sym, ap, ◌∙◌, subst, arith}
use Rattle.std.specs.Prelude.{flat_map}
use Rattle.std.proofs.lemmas.Grind.{flat_map-append}
use Rattle.std.proofs.lemmas.List.Concat.{flat_map-cons}
use Rattle.std.proofs.lemmas.List.{append-nil, reverse-append, reverse-reverse}
use Rattle.std.proofs.lemmas.Bool.{ne_eqb}
use Rattle.smf_contract.specs.declared.call.ContractCall.{ContractCall}
use Rattle.smf_contract.specs.declared.call.ContractCall.TheVariants as calls
use Rattle.smf_contract.specs.declared.terms.Terms.{Terms}
use Rattle.smf_contract.specs.Called.{emptied_by}
use Rattle.smf_contract.specs.Calls.{next_contract, next_number, next_of}
use Rattle.smf_contract.specs.Cookies.{bits_of_cookie}
use Rattle.smf_contract.specs.Entries.{Contracts}
use Rattle.smf_method.specs.declared.command.CommandText.{CommandText}
use Rattle.smf_restarter.specs.declared.reply.Begun.{Begun}
use Rattle.smf_restarter.specs.Knowledge.{Knowledge}
use Rattle.smf_wire.specs.declared.message.Known.{Known}
use Rattle.smf_world.specs.declared.event.Event.{Event}
use Rattle.smf_world.specs.declared.item.Item.{Item}
use Rattle.smf_world.specs.declared.item.Item.TheVariants.{Boot, Committed, Held, Spawned, Emptied}
use Rattle.smf_world.specs.Happens.{world_after, happens}
use Rattle.smf_world.specs.Worked.{emptied_items, held_item, held_items, work_of_event}
use Rattle.smf_world.specs.World.{World}
use Rattle.smf_world.proofs.LiveLists.{Each}
use Rattle.smf_world.proofs.TablesWalked.{IsBegun, IsHeld, IsRow, IsTabled, acts, at_once, begun_as, boots, nothing, passes, spawned as spawned_in, tabled}
use Rattle.smf_script.specs.Agrees.{Start, start_if, starts_of}

abbrev pub starts : List Item → List Start
starts xs = flat_map starts_of xs

both : (xs ys : List Item) → starts (xs ++ ys) ≡ starts xs ++ starts ys
both xs ys = flat_map-append starts_of xs ys

-- items after a trail
pub starts_behind : (items trail : List Item)
    → starts (reverse (reverse items ++ trail)) ≡ starts (reverse trail) ++ starts items
starts_behind items trail =
    ap starts (reverse-append (reverse items) trail ∙ ap (λ xs. reverse trail ++ xs) (reverse-reverse items))
    ∙ both (reverse trail) items

pub trail_of : (w : World) (e : Event) → (happens w e).trail ≡ reverse (work_of_event w e).items ++ w.trail
unfolding happens world_after
trail_of w e = refl

pub starts_after : (w : World) (e : Event)
    → starts (reverse (happens w e).trail) ≡ starts (reverse w.trail) ++ starts (work_of_event w e).items
starts_after w e = ap (λ t. starts (reverse t)) (trail_of w e) ∙ starts_behind (work_of_event w e).items w.trail

-- ---- items that are no runs

one_row : (x : Item) → IsRow x → starts_of x ≡ []
one_row (Committed n number state next) q = refl
one_row (Held name launch n number state) q = refl
one_row (Spawned c n run method revision command) q = absurd q
one_row (Emptied c) q = absurd q
one_row Boot q = absurd q

behind_none : (x : Item) (xs : List Item) → starts_of x ≡ [] → starts xs ≡ [] → starts (x ∷ xs) ≡ []
behind_none x xs none rest = flat_map-cons starts_of x xs ∙ ap (λ ys. ys ++ starts xs) none ∙ rest

rows_none : (xs : List Item) → Each IsRow xs → starts xs ≡ []
rows_none [] q = refl
rows_none (x ∷ xs) q = behind_none x xs (one_row x q.0) (rows_none xs q.1)

one_held : (x : Item) → IsHeld x → IsRow x
one_held (Held name launch n number state) q = tt
one_held (Committed n number state next) q = tt
one_held (Spawned c n run method revision command) q = q
one_held (Emptied c) q = q
one_held Boot q = q

helds_none : (xs : List Item) → Each IsHeld xs → starts xs ≡ []
helds_none [] q = refl
helds_none (x ∷ xs) q = behind_none x xs (one_row x (one_held x q.0)) (helds_none xs q.1)

emptieds_none : (cs : List ℕ) → starts (map (λ c. Emptied c) cs) ≡ []
emptieds_none [] = refl
emptieds_none (c ∷ cs) = behind_none (Emptied c) (map (λ c. Emptied c) cs) refl (emptieds_none cs)

pub held_none : (k : Knowledge) (xs : List Known) → starts (held_items k xs) ≡ []
held_none k [] = refl
held_none k (x ∷ xs) = behind_none (held_item k x) (held_items k xs) refl (held_none k xs)

-- the runs of a list between two lists without runs
pub between : (a b c : List Item) → starts a ≡ [] → starts c ≡ [] → starts (a ++ b ++ c) ≡ starts b
between a b c none last =
    both (a ++ b) c
    ∙ ap (λ xs. xs ++ starts c) (both a b)
    ∙ ap (λ xs. xs ++ starts b ++ starts c) none
    ∙ ap (λ xs. starts b ++ xs) last
    ∙ append-nil (starts b)

pub emptied_none : (t : Contracts) (call : ContractCall) → starts (emptied_items t call) ≡ []
emptied_none t call = emptieds_none (emptied_by t call)

-- ---- numbers

not_none : (b : Bool) (n c : ℕ) → cond b (Some (n + 1)) None ≡ Some c → c == 0 ≡ false
not_none true n c h = let P : Option ℕ → Type 0 = above in subst P h (ne_eqb (n + 1) 0 (λ same. omega (arith, same)))
  where
    above : Option ℕ → Type 0
    above None = Unit {0}
    above (Some x) = x == 0 ≡ false
not_none false n c h = absurd cc

next_not_zero : (a b : Option ℕ) (n c : ℕ) → a ≡ next_number n → next_of a b ≡ Some c → c == 0 ≡ false
next_not_zero None b n c e h = absurd cc
next_not_zero (Some x) None n c e h = absurd cc
next_not_zero (Some x) (Some y) n c e h = not_none (nat_lt n 0x7fff_ffff_ffff_ffff) n c (sym e ∙ h)

pub numbered : (t : Contracts) (c : ℕ) → next_contract t ≡ Some c → c == 0 ≡ false
unfolding next_contract
numbered t c h = next_not_zero (next_number t.last_contract) (next_number t.last_process) t.last_contract c refl h

-- ---- an event

-- no run is shown, and none was asked of the table; or one was
pub data Shows (call : ContractCall) (items : List Item) : Type 0 where
  shows_none : starts items ≡ [] → Shows call items
  shows_one : (actor c cookie : ℕ) (terms : Terms) (command : CommandText) → call ≡ calls.Spawn actor cookie terms
      → starts items ≡ record { contract = c; cookie = Ok cookie; command = command } ∷ [] → Shows call items

start_of : (b : Bool) (s r : Start) → b ≡ false → s ≡ r → start_if b s ≡ r ∷ []
start_of true s r e same = absurd cc
start_of false s r e same = ap (λ x. x ∷ []) same

begun_shows : (ks : List Knowledge) (t : Contracts) (call : ContractCall) (items begun rows : List Item)
    → IsBegun ks t call begun → items ≡ rows ++ begun ++ emptied_items t call → starts rows ≡ [] → Shows call items
begun_shows ks t call items begun rows (nothing plain is) all none =
    shows_none (ap starts all ∙ between rows begun (emptied_items t call) none (emptied_none t call) ∙ ap starts is)
begun_shows ks t call items begun rows (at_once s plain is) all none =
    shows_none (ap starts all ∙ between rows begun (emptied_items t call) none (emptied_none t call) ∙ ap starts is
    ∙ behind_none (begun_as 0 s.of s.owed) [] refl refl)
begun_shows ks t call items begun rows (spawned_in s c cookie terms next cookie_is call_is is) all none =
    let start : Start =
    record {
      contract = c;
      cookie = bits_of_cookie (record { instance = s.of.instance; run = s.owed.run; method = s.owed.method });
      command = s.owed.call.command;
    } in
    shows_one s.restarter.actor c cookie terms s.owed.call.command call_is (
    ap starts all ∙ between rows begun (emptied_items t call) none (emptied_none t call) ∙ ap starts is
    ∙ append-nil (start_if (c == 0) start)
    ∙ start_of (c == 0) start _ (numbered t c next)
    (ap (λ x. record { contract = c; cookie = x; command = s.owed.call.command }) cookie_is)
    )

tabled_shows : (ks : List Knowledge) (t : Contracts) (items : List Item) (call : ContractCall)
    → IsTabled ks t items call → Shows call items
tabled_shows ks t items call (passes none rows) = shows_none (rows_none items rows)
tabled_shows ks t items call (acts rows begun helds b all) =
    begun_shows ks t call items begun rows b all (helds_none rows helds)
tabled_shows ks t items call (boots rows each all is) =
    shows_none (ap starts all ∙ behind_none Boot rows refl (rows_none rows each))

pub shows : (w : World) (e : Event) → Shows (work_of_event w e).call (work_of_event w e).items
shows w e = tabled_shows w.restarters w.table (work_of_event w e).items (work_of_event w e).call (tabled w e)

none_by : (call : ContractCall) (items : List Item) → Shows call items
    → ((actor cookie : ℕ) (terms : Terms) → call ≡ calls.Spawn actor cookie terms → ⊥) → starts items ≡ []
none_by call items (shows_none none) other = none
none_by call items (shows_one actor c cookie terms command is all) other = absurd (other actor cookie terms is)

-- the trail shows no new run if none is asked of the table
pub no_starts : (w : World) (e : Event)
    → ((actor cookie : ℕ) (terms : Terms) → (work_of_event w e).call ≡ calls.Spawn actor cookie terms → ⊥)
    → starts (reverse (happens w e).trail) ≡ starts (reverse w.trail)
no_starts w e other =
    starts_after w e ∙ ap (λ xs. starts (reverse w.trail) ++ xs)
    (none_by (work_of_event w e).call (work_of_event w e).items (shows w e) other)
    ∙ append-nil (starts (reverse w.trail))

-- the trail shows one run if one was asked of the table, and this was begun first
spawn_cookie : (actor other cookie last : ℕ) (terms more : Terms)
    → calls.Spawn actor cookie terms ≡ calls.Spawn other last more → cookie ≡ last
spawn_cookie actor other cookie last terms more h = cc

one_start : (call : ContractCall) (items : List Item) (b : Begun) (c actor cookie : ℕ) (terms : Terms)
    (rest : List Start) → Shows call items → call ≡ calls.Spawn actor cookie terms
    → starts items
    ≡ start_if (c == 0)
    (record {
      contract = c;
      cookie = bits_of_cookie (record { instance = b.instance; run = b.run; method = b.method });
      command =
          b.command;
    }) ++ rest
    → c == 0 ≡ false
    → starts items ≡ record { contract = c; cookie = Ok cookie; command = b.command } ∷ []
one_start call items b c actor cookie terms rest s asked all some =
    by s (all ∙ ap (λ (x : Bool). start_if x first ++ rest) some)
  where
    first : Start
    first = record {
      contract = c;
      cookie = bits_of_cookie (record { instance = b.instance; run = b.run; method = b.method });
      command =
          b.command;
    }

    by : Shows call items → starts items ≡ first ∷ rest
        → starts items ≡ record { contract = c; cookie = Ok cookie; command = b.command } ∷ []
    by (shows_none none) is = let no : [] ≡ first ∷ rest = sym none ∙ is in absurd cc
    by (shows_one a d k more command is one) shown =
        let same : record { contract = d; cookie = Ok k; command = command } ∷ [] ≡ first ∷ rest = sym one ∙ shown in
        let head : record { contract = d; cookie = Ok k; command = command } ≡ first = cc in
        let numbers : cookie ≡ k = spawn_cookie actor a cookie k terms more (sym asked ∙ is) in
        one
        ∙ ap (λ x. record { contract = x; cookie = Ok k; command = command } ∷ []) (ap (λ (x : Start). x.contract) head)
        ∙ ap (λ x. record { contract = c; cookie = Ok k; command = x } ∷ []) (ap (λ (x : Start). x.command) head)
        ∙ ap (λ x. record { contract = c; cookie = Ok x; command = b.command } ∷ []) (sym numbers)

pub first_starts : (w : World) (e : Event) (b : Begun) (c actor cookie : ℕ) (terms : Terms) (rest : List Start)
    → (work_of_event w e).call ≡ calls.Spawn actor cookie terms
    → starts (work_of_event w e).items
    ≡ start_if (c == 0)
    (record {
      contract = c;
      cookie = bits_of_cookie (record { instance = b.instance; run = b.run; method = b.method });
      command =
          b.command;
    }) ++ rest
    → c == 0 ≡ false
    → starts (reverse (happens w e).trail)
    ≡ starts (reverse w.trail) ++ record { contract = c; cookie = Ok cookie; command = b.command } ∷ []
first_starts w e b c actor cookie terms rest asked all some =
    starts_after w e ∙ ap (λ xs. starts (reverse w.trail) ++ xs)
    (one_start (work_of_event w e).call (work_of_event w e).items b c actor cookie terms rest
    (shows w e) asked all some)
