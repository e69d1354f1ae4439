-- Contracts that are found have as many members as was told of them.
use Rattle.std.proofs.Common.{◌≡◌, ℕ, ◌+◌, ◌==◌, List, [], ◌∷◌, ◌++◌, length, map, Bool, true, false, cond, Option, Some, None, refl, sym, ap, subst, arith, ◌∙◌}
use Rattle.std.specs.List.{AllByRecursion}
use Rattle.smf_contract.specs.declared.contract.Holder.{Holder}
use Rattle.smf_contract.specs.declared.contract.Holder.TheVariants.{Held}
use Rattle.smf_contract.specs.declared.contract.Member.{Member}
use Rattle.smf_contract.specs.declared.event.Exit.{Exit}
use Rattle.smf_contract.specs.declared.found.Found.{Found}
use Rattle.smf_contract.specs.Begun.{found_member, table_of_found, with_all_found, with_found}
use Rattle.smf_contract.specs.Entries.{Contracts, empty, processes as processes_of}
use Rattle.smf_contract.specs.Laws.{Ascends, IsOrdered}
use Rattle.smf_edge.specs.Ledgers.{Ledger, ledger_over}
use Rattle.smf_edge.proofs.Members.{count_more, one_at}
use Rattle.smf_edge.proofs.Sounds.{sound_over}
use Rattle.smf_edge.specs.FollowedBeginnings.{found_post, found_posts, has_ended}
use Rattle.smf_edge.specs.Followed.{IsFollowed, IsKept}
use Rattle.smf_edge.specs.Phases.{Post, ids_of, phase_after, size, size_in, size_of}

one_size : (b : Bool) (n : ℕ) → n + one_at b ≡ n + cond b 1 0
one_size true n = refl
one_size false n = refl

one_found : (last at id : ℕ) (end : Option Exit) (ms : List Member)
    → length (processes_of at (ms ++ found_member last id end ∷ []))
    ≡ length (processes_of at ms) + cond (id == at) (size (phase_after (has_ended end))) 0
one_found last at id None ms = count_more at ms (found_member last id None) ∙ one_size (id == at) _
one_found last at id (Some exit) ms = count_more at ms (found_member last id (Some exit)) ∙ one_size (id == at) _

counts_found : (who : Holder) (at : ℕ) (t : Contracts) (fs : List Found)
    → length (processes_of at (with_all_found who t fs).members)
    ≡ length (processes_of at t.members) + size_of at (found_posts fs)
unfolding with_found
counts_found who at t [] = omega arith
counts_found who at t (f ∷ fs) =
    let here = one_found t.last_process at f.id f.end t.members in
    let rest = counts_found who at (with_found who t f) fs in
    rest ∙ ap (λ n. n + size_of at (found_posts fs)) here
    ∙ sums (length (processes_of at t.members)) (size_in at (found_post f)) (size_of at (found_posts fs))
  where
    sums : (a b c : ℕ) → a + b + c ≡ a + (b + c)
    sums a b c = omega arith

ids_found : (fs : List Found) → map (λ (f : Found). f.id) fs ≡ ids_of (found_posts fs)
ids_found [] = refl
ids_found (f ∷ fs) = ap (λ ns. f.id ∷ ns) (ids_found fs)

pub found_followed : (who : Holder) (last : ℕ) (fs : List Found)
    → Ascends 0 (map (λ (f : Found). f.id) fs) last
    → IsFollowed (ledger_over (table_of_found who last fs)) (found_posts fs)
found_followed who last fs up =
    record {
      counts = λ id. counts_found who id empty fs ∙ plain (size_of id (found_posts fs));
      once = subst (λ (ns : List ℕ). Ascends 0 ns last) (ids_found fs) up;
      pending = refl;
    }
  where
    plain : (n : ℕ) → 0 + n ≡ n
    plain n = omega arith

pub kept_over : (l : Ledger) (t : Contracts) (ps : List Post) → l ≡ ledger_over t → IsOrdered t
    → AllByRecursion (λ c. c.holder ≡ Held 0) t.contracts → IsFollowed (ledger_over t) ps → IsKept l ps
kept_over l t ps e o h f =
    subst (λ (k : Ledger). IsKept k ps) (sym e) (record { sound = sound_over t o h; followed = f })
