-- Runs and forks that children note, against the contracts and the last number of the table.
use Rattle.std.proofs.Common.{◌≡◌, ℕ, ◌+◌, List, [], ◌∷◌, ◌++◌, length, length-append, map, refl, sym, ap, ◌∙◌, arith, append_assoc}
use Rattle.std.specs.Prelude.{flat_map}
use Rattle.std.proofs.lemmas.Grind.{flat_map-append}
use Rattle.std.proofs.lemmas.List.{append-nil, map_push}
use Rattle.smf_contract.specs.declared.contract.Contract.{Contract}
use Rattle.smf_contract.specs.declared.event.ContractEvent.{ContractEvent}
use Rattle.smf_contract.specs.declared.event.EventKind.{EventKind}
use Rattle.smf_contract.specs.declared.event.EventKind.TheVariants as kinds
use Rattle.smf_contract.specs.Entries.{Contracts}
use Rattle.smf_edge.specs.declared.note.Note.{Note}
use Rattle.smf_edge.specs.declared.note.Note.TheVariants as notes
use Rattle.smf_edge.specs.declared.note.Run.{Run}
use Rattle.smf_edge.specs.Ledgers.{forks_by, forks_of, record_of, runs_of}
use Rattle.smf_script.specs.Agrees.{AreAlike, AreMade, ArePast, IsPast, bond_by, bond_of, contract_without_holder}

-- ---- runs and contracts

bonds_unheld : (cs : List Contract) → map bond_of cs ≡ map bond_of (map contract_without_holder cs)
bonds_unheld [] = refl
bonds_unheld (c ∷ cs) = ap (λ xs. bond_of c ∷ xs) (bonds_unheld cs)

bonds_same : (cs ds : List Contract) → map contract_without_holder cs ≡ map contract_without_holder ds
    → map bond_of cs ≡ map bond_of ds
bonds_same cs ds e = bonds_unheld cs ∙ ap (map bond_of) e ∙ sym (bonds_unheld ds)

pub made_alike : (fs : List Contract) (runs : List Run) (t u : Contracts) → AreAlike t u → AreMade fs runs t.contracts
    → AreMade fs runs u.contracts
made_alike fs runs t u a h = (h.0, h.1 ∙ ap (λ xs. h.0 ++ xs) (bonds_same t.contracts u.contracts a.contracts))

pub made_to : (fs : List Contract) (runs more : List Run) (cs ds : List Contract) → more ≡ runs → ds ≡ cs
    → AreMade fs runs cs → AreMade fs more ds
made_to fs runs more cs ds same is h =
    (h.0, ap (λ rs. map bond_of fs ++ map bond_by rs) same ∙ h.1 ∙ ap (λ xs. h.0 ++ map bond_of xs) (sym is))

pub made_more : (fs : List Contract) (runs : List Run) (run : Run) (cs : List Contract) (c : Contract)
    → bond_by run ≡ bond_of c → AreMade fs runs cs → AreMade fs (runs ++ run ∷ []) (cs ++ c ∷ [])
made_more fs runs run cs c e h = (
  h.0,
  ap (λ xs. map bond_of fs ++ xs) (map_push bond_by runs run)
      ∙ sym (append_assoc (map bond_of fs) (map bond_by runs) (bond_by run ∷ []))
      ∙ ap (λ xs. xs ++ bond_by run ∷ []) h.1
      ∙ append_assoc h.0 (map bond_of cs) (bond_by run ∷ [])
      ∙ ap (λ xs. h.0 ++ xs) (ap (λ b. map bond_of cs ++ b ∷ []) e ∙ sym (map_push bond_of cs c)),
)

-- ---- what is noted

pub runs_made : (ns : List Note) (run : Run)
    → (record_of (ns ++ notes.Made run ∷ [])).runs ≡ (record_of ns).runs ++ run ∷ []
runs_made ns run = flat_map-append runs_of ns (notes.Made run ∷ [])

pub runs_stay : (ns ms : List Note) → flat_map runs_of ms ≡ [] → (record_of (ns ++ ms)).runs ≡ (record_of ns).runs
runs_stay ns ms none = flat_map-append runs_of ns ms ∙ ap (λ xs. flat_map runs_of ns ++ xs) none
    ∙ append-nil (flat_map runs_of ns)

abbrev pub given : List Note → ℕ
given ns = length (record_of ns).runs + length (record_of ns).forks

given_more : (ns ms : List Note) → given (ns ++ ms) ≡ given ns + given ms
given_more ns ms =
    let runs : length (record_of (ns ++ ms)).runs ≡ length (record_of ns).runs + length (record_of ms).runs =
    ap length (flat_map-append runs_of ns ms) ∙ length-append (record_of ns).runs (record_of ms).runs in
    let forks : length (record_of (ns ++ ms)).forks ≡ length (record_of ns).forks + length (record_of ms).forks =
    ap length (flat_map-append forks_of ns ms) ∙ length-append (record_of ns).forks (record_of ms).forks in
    omega (arith, runs, forks)

-- so many numbers were given, and so many more are
pub counted_more : (base : ℕ) (ns ms : List Note) (last next n : ℕ) → last ≡ base + given ns → next ≡ last + n
    → n ≡ given ms → next ≡ base + given (ns ++ ms)
counted_more base ns ms last next n a b c = let all = given_more ns ms in omega (arith, a, b, c, all)

past_kind : (t : Contracts) (id : ℕ) (kind : EventKind) → IsPast t kind → forks_by id kind ≡ []
past_kind t id kinds.Empty h = refl
past_kind t id (kinds.Exit p exit) h = refl
past_kind t id (kinds.Fork p) h = absurd h
past_kind t id (kinds.Core p) h = refl
past_kind t id (kinds.Signal p) h = refl
past_kind t id (kinds.Hwerr p) h = refl

past_forks : (t : Contracts) (es : List ContractEvent) → ArePast t es → flat_map forks_of (map notes.Found es) ≡ []
past_forks t [] h = refl
past_forks t (e ∷ es) h = ap (λ xs. xs ++ flat_map forks_of (map notes.Found es)) (past_kind t e.contract e.kind h.0)
    ∙ past_forks t es h.1

found_runs : (es : List ContractEvent) → flat_map runs_of (map notes.Found es) ≡ []
found_runs [] = refl
found_runs (e ∷ es) = found_runs es

-- events that are found give as many numbers as the first of them
pub found_given : (t : Contracts) (e : ContractEvent) (due : List ContractEvent) → ArePast t due
    → length (forks_by e.contract e.kind) ≡ given (map notes.Found (e ∷ due))
found_given t e due h =
    let runs : length (record_of (map notes.Found (e ∷ due))).runs ≡ 0 = ap length (found_runs (e ∷ due)) in
    let forks : length (record_of (map notes.Found (e ∷ due))).forks ≡ length (forks_by e.contract e.kind) =
    ap (λ xs. length (forks_by e.contract e.kind ++ xs)) (past_forks t due h)
    ∙ ap length (append-nil (forks_by e.contract e.kind)) in
    omega (arith, runs, forks)
