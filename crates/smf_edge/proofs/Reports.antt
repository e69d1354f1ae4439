-- Children tell of a happening the events that the table makes of it.
use Rattle.std.proofs.Common.{◌≡◌, ℕ, ◌+◌, ◌<◌, ◌≤◌, List, [], ◌∷◌, ◌++◌, length, length-append, drop, Bool, true, false, cond, nat_lt, map, Option, Some, None, IsSome, ◌≢◌, option_map, slice_get, ◌==◌, refl, sym, ap, subst, arith, ◌∙◌}
use Rattle.std.proofs.Math.Seq.{drop-append_seam}
use Rattle.smf_contract.specs.declared.event.ContractEvent.{ContractEvent}
use Rattle.smf_contract.specs.Entries.{Contracts, contract, first_member, home, is_in, processes}
use Rattle.smf_contract.specs.Calls.{next_number}
use Rattle.smf_contract.specs.Called.{table_after_contract_call}
use Rattle.std.specs.Prelude.{find}
use Rattle.smf_contract.specs.declared.contract.Member.{Member}
use Rattle.smf_edge.specs.declared.deed.MemberEvent.{MemberEvent}
use Rattle.smf_edge.specs.declared.deed.Happening.{Happening}
use Rattle.smf_edge.specs.declared.note.Note.TheVariants.{Found}
use Rattle.smf_edge.specs.Books.{IsTold}
use Rattle.smf_edge.specs.Ledgers.{Ledger, call_of}
use Rattle.smf_edge.specs.Sound.{IsSound, lasts}
use Rattle.smf_edge.specs.Steps.{IsFound, IsTaken}
use Rattle.smf_edge.proofs.Firsts.{found_is}
use Rattle.smf_edge.proofs.MemberEvents.{lasts_head}
use Rattle.smf_edge.proofs.Sounds.{sound_found}
use Rattle.smf_edge.proofs.Calls.{Brings, call_brings}

next_by : (b : Bool) (n : ℕ) → b ≡ true → cond b (Some (n + 1)) None ≡ Some (n + 1)
next_by b n h = rw h refl

pub next_there : (n : ℕ) → n < 0x7fff_ffff_ffff_ffff → next_number n ≡ Some (n + 1)
next_there n h = next_by (nat_lt n 0x7fff_ffff_ffff_ffff) n (grind (arith, h))

-- the first event is of the contract, and so many more follow
pub record IsBrought (id : ℕ) (old new : Contracts) : Type 0 where
  pub first : ContractEvent
  pub more : List ContractEvent
  pub of : first.contract ≡ id
  pub brought : drop (length old.events) new.events ≡ first ∷ more
  pub bound : length more ≤ length old.members + 2
  pub within : length old.events ≤ length new.events

pub brought_by : (l : Ledger) (id p : ℕ) (h : Happening) (u : Contracts) → IsSound l
    → l.table.last_process < 0x7fff_ffff_ffff_ffff → home l.table.members p ≡ Some id
    → u ≡ table_after_contract_call l.table (call_of p h) → IsBrought id l.table u
brought_by l id p h u s low member is =
    let next = next_there l.table.last_process low in
    let P : Contracts → Type 0 = Brings id h l.table in
    let b : Brings id h l.table u =
    subst P (sym is) (call_brings l.table id p h next s.ordered.members_ascend member) in
    let events : u.events ≡ l.table.events ++ b.events.first ∷ b.events.more = b.events.is in
    record {
      first = b.events.first;
      more = b.events.more;
      of = b.events.of;
      brought = ap (drop (length l.table.events)) events
          ∙ drop-append_seam l.table.events (b.events.first ∷ b.events.more);
      bound = b.events.bound;
      within = rw events (omega (arith, length-append l.table.events (b.events.first ∷ b.events.more)));
    }

pub brought_is : (id : ℕ) (t u : Contracts) (before after got : List ContractEvent) (b : IsBrought id t u)
    → before ≡ t.events → after ≡ u.events → got ≡ drop (length before) after → got ≡ b.first ∷ b.more
brought_is id t u before after got b is_before is_after is_got = is_got ∙ rw (is_before, is_after) b.brought

-- the first of the new events is told, and the others are due
pub told_by : (id p : ℕ) (h : Happening) (e : ContractEvent) (got : List ContractEvent) (old new : Ledger)
    (b : IsBrought id old.table new.table) → new.table ≡ table_after_contract_call old.table (call_of p h)
    → got ≡ b.first ∷ b.more → got ≡ e ∷ new.due
    → new ≡ record old { notes = old.notes ++ map Found got; table = new.table; due = new.due }
    → IsTold id p h e old new
told_by id p h e got old new b is brought given same =
    let both : e ∷ new.due ≡ b.first ∷ b.more = sym given ∙ brought in
    let first : e ≡ b.first = cc in
    record {
      of = ap (λ x. x.contract) first ∙ b.of;
      table = is;
      brought = b.brought ∙ sym both;
      is = same ∙ ap (λ es. record old { notes = old.notes ++ map Found es; table = new.table; due = new.due }) given;
    }

pub brought_count : (got more : List ContractEvent) (first : ContractEvent) (k n : ℕ) → got ≡ first ∷ more
    → length more ≤ k + 2 → n ≡ k → (length got ≤ n + 3) × (0 < length got)
brought_count got more first k n is low same = rw (is, same) (omega (arith, low), omega arith)

with_pending : (ps : List MemberEvent) {k l : Ledger} → k ≡ l → record k { pending = ps } ≡ record l { pending = ps }
with_pending ps h = let f : Ledger → Ledger = λ l. record l { pending = ps } in ap f h

pub found_by : (id p : ℕ) (h : Happening) (e : ContractEvent) (ps : List MemberEvent) (old mid new : Ledger)
    → IsTold id p h e old mid → home old.table.members p ≡ Some id → old.due ≡ []
    → new ≡ record mid { pending = ps } → IsTaken (record { contract = id; happening = h }) p old new
    → IsFound e old new
found_by id p h e ps old mid new told member none_due is taken =
    let table : new.table ≡ mid.table = ap (λ l. l.table) is in
    let due : new.due ≡ mid.due = ap (λ l. l.due) is in
    let P : ℕ → Type 0 = λ n. IsTaken (record { contract = n; happening = h }) p old new in
    record {
      happening = h;
      process = p;
      member = member ∙ ap Some (sym told.of);
      none_due = none_due;
      table = table ∙ told.table;
      brought = ap (λ t. drop (length old.table.events) t.events) table ∙ told.brought ∙ ap (λ es. e ∷ es) (sym due);
      taken = subst P (sym told.of) taken;
      is =
          let Q : Ledger → Type 0 =
          λ n. n ≡ record old {
            notes = old.notes ++ map Found (e ∷ n.due);
            table = n.table;
            due = n.due;
            pending = n.pending;
          } in
          subst Q (sym is) (with_pending ps told.is);
    }

-- the first that is pending, by its place
pub first_is : (ds rest : List MemberEvent) (d r : MemberEvent) → slice_get ds 0 ≡ Some d → ds ≡ r ∷ rest
    → ds ≡ d ∷ rest
first_is ds rest d r h e =
    let same : Some r ≡ Some d = ap (λ xs. slice_get xs 0) (sym e) ∙ h in
    let at : r ≡ d = cc in
    e ∙ ap (λ x. x ∷ rest) at

-- a contract whose first deed is pending has a first member
some_first : (id : ℕ) (ms : List Member) → 0 < length (processes id ms)
    → IsSome (option_map (λ m. m.process) (find (is_in id) ms))
some_first id [] h = absurd (omega (arith, h))
some_first id (m ∷ ms) h = by (m.contract == id) refl (some_first id ms)
  where
    by : (b : Bool) → (m.contract == id) ≡ b
        → (0 < length (processes id ms) → IsSome (option_map (λ m. m.process) (find (is_in id) ms)))
        → IsSome (option_map (λ m. m.process) (cond b (Some m) (find (is_in id) ms)))
    by true e deeper = refl
    by false e deeper =
        deeper (let less : length (processes id (m ∷ ms)) ≡ length (processes id ms) = rw e refl in rw less at h)

pub pending_member : (l : Ledger) (d : MemberEvent) (rest : List MemberEvent) → IsSound l → l.pending ≡ d ∷ rest
    → IsSome (first_member d.contract l.table.members)
pending_member l d rest s e =
    let id = d.contract in
    let lasting : lasts (contract l.table id) id (d ∷ rest) (length (processes id l.table.members)) ≡ true =
    rw e at (s.lasting id) in
    let some = lasts_head (contract l.table id) id d rest _ lasting refl in
    rw (found_is (is_in id) l.table.members) (some_first id l.table.members some)

-- an event that was told and one that was found keep the ledger sound
pub sound_told : (e : ContractEvent) (old new : Ledger) → old.table.last_process < 0x7fff_ffff_ffff_ffff → IsSound old
    → IsFound e old new → IsSound new
sound_told e old new low s h =
    sound_found e old new (next_there old.table.last_process low) s h

pub head_is : (ds : List MemberEvent) (d : MemberEvent) → slice_get ds 0 ≡ Some d
    → (rest : List MemberEvent) × (ds ≡ d ∷ rest)
head_is [] d h = absurd cc
head_is (x ∷ xs) d h = let at : x ≡ d = cc in (xs, ap (λ y. y ∷ xs) at)

pub no_head : (ds : List MemberEvent) → slice_get ds 0 ≡ None → ds ≡ []
no_head [] h = refl
no_head (x ∷ xs) h = absurd cc

pub is_there : {X : Type 0} (o : Option X) → o ≢ None → IsSome o
is_there None h = absurd (h refl)
is_there (Some x) h = refl
