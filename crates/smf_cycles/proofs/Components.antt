-- The flags of places stay true as more of them are set.
use Rattle.std.proofs.Common.{◌≡◌, ◌==◌, ◌&&◌, inl, inr, ℕ, Bool, true, false, List, [], ◌∷◌, ◌++◌, set, slice_index, replicate, eqb-true, refl, sym, subst}
use Rattle.std.specs.List.{list_any}
use Rattle.smf_cycles.specs.Paths.{IsOnCycle, Leads, cites, edges_at, flag_at, is_among}
use Rattle.smf_cycles.specs.Components.{Comes, FlagsSay, IsSpread, is_way, is_way_back}
use Rattle.smf_cycles.proofs.Flags.{none_flagged, set_cases}
use Rattle.smf_cycles.proofs.Membership.{among_head, among_left, among_right, both_true, or_either, leads_edge, leads_on, some_passes}

pub says_none : (P : ℕ → Type 0) (flags : List Bool) (n : ℕ) → flags ≡ replicate n false → FlagsSay P flags
says_none P flags n e =
    let F : ℕ → List Bool → Type 0 = λ a l. flag_at l a ≡ true in
    record { says = λ a h. absurd (none_flagged n a (subst (λ (l : List Bool). F a l) e h)) }

pub says_set : (P : ℕ → Type 0) (flags : List Bool) (p : ℕ) → FlagsSay P flags → P p → FlagsSay P (set flags p true)
says_set P flags p f here =
    record { says = λ a h. elim (set_cases flags p a h) [ inl k ↦ f.says a k | inr e ↦ subst P e here ] }

-- ---- to a place

pub edge_then : (edges : List (List ℕ)) (a b c : ℕ) → cites edges a b ≡ true → Comes edges b c → Leads edges a c
edge_then edges a b c h way =
    let P : ℕ → Type 0 = λ n. Leads edges a n in
    elim way [ inl e ↦ subst P e (leads_edge edges a b h) | inr k ↦ leads_on edges a b c (leads_edge edges a b h) k ]

comes_on : (edges : List (List ℕ)) (a b c : ℕ) → Comes edges a b → Comes edges b c → Comes edges a c
comes_on edges a b c p q =
    let P : ℕ → Type 0 = λ n. Comes edges a n in
    elim q [
      | inl e ↦ subst P e p
      | inr k ↦ let Q : ℕ → Type 0 = λ n. Comes edges n c in
          elim p [ inl e ↦ subst Q (sym e) (inr k) | inr l ↦ inr (leads_on edges a b c l k) ]
    ]

way_comes : (edges : List (List ℕ)) (flags : List Bool) (targets : List ℕ) (target q : ℕ)
    → FlagsSay (λ a. Comes edges a (slice_index targets a)) flags → is_way flags targets target q ≡ true
    → Comes edges q target
unfolding is_way
way_comes edges flags targets target q f h =
    let P : ℕ → Type 0 = λ n. Comes edges q n in
    elim (or_either (q == target) (flag_at flags q && (slice_index targets q == target)) h) [
      | inl e ↦ inl (eqb-true q target e)
      | inr k ↦
          let both = both_true (flag_at flags q) (slice_index targets q == target) k in
          subst P (eqb-true (slice_index targets q) target both.1) (f.says q both.0)
    ]

-- by an edge, to what it leads to
pub way_leads : (edges : List (List ℕ)) (flags : List Bool) (targets : List ℕ) (target a : ℕ)
    → FlagsSay (λ x. Comes edges x (slice_index targets x)) flags
    → list_any (λ q. is_way flags targets target q) (edges_at edges a) ≡ true → Leads edges a target
way_leads edges flags targets target a f h =
    let found = some_passes (λ q. is_way flags targets target q) (edges_at edges a) h in
    edge_then edges a found.0 target found.1 (way_comes edges flags targets target found.0 f found.2)

pub way_back_comes : (edges : List (List ℕ)) (is_led : Bool) (flags : List Bool) (roots : List ℕ) (root a target : ℕ)
    → (is_led ≡ true → Comes edges a target) → FlagsSay (λ x. Comes edges x (slice_index roots x)) flags
    → is_way_back is_led flags roots root a target ≡ true → Comes edges a root
unfolding is_way_back
way_back_comes edges is_led flags roots root a target led f h =
    elim (or_either (a == root) (is_led && is_way flags roots root target) h) [
      | inl e ↦ inl (eqb-true a root e)
      | inr k ↦
          let both = both_true is_led (is_way flags roots root target) k in
          comes_on edges a target root (led both.0) (way_comes edges flags roots root target f both.1)
    ]

-- ---- from a place

pub spread_none : (roots : List ℕ) (root : ℕ) (flags : List Bool) → IsSpread roots root [] flags flags
spread_none roots root flags = record { only = λ a h. inl h }

pub spread_more : (roots : List ℕ) (root p : ℕ) (places : List ℕ) (before after : List Bool)
    → slice_index roots p ≡ root
    → IsSpread roots root places before after → IsSpread roots root (places ++ p ∷ []) before (set after p true)
spread_more roots root p places before after same s =
    let P : ℕ → Type 0 = λ n. (is_among (places ++ p ∷ []) n ≡ true) × (slice_index roots n ≡ root) in
    record {
      only = λ a h. elim (set_cases after p a h) [
        | inl k ↦ elim (s.only a k) [ inl j ↦ inl j | inr j ↦ inr (among_left places (p ∷ []) a j.0, j.1) ]
        | inr e ↦ inr (subst P e (among_right places (p ∷ []) p (among_head p p [] refl), same))
      ];
    }

pub spread_same : (roots : List ℕ) (root p : ℕ) (places : List ℕ) (before after : List Bool)
    → IsSpread roots root places before after → IsSpread roots root (places ++ p ∷ []) before after
spread_same roots root p places before after s = record {
  only = λ a h. elim (s.only a h) [ inl j ↦ inl j | inr j ↦ inr (among_left places (p ∷ []) a j.0, j.1) ];
}

pub says_alone : (edges : List (List ℕ)) (roots : List ℕ) (flags : List Bool)
    → FlagsSay (λ a. slice_index roots a ≡ a) flags
    → FlagsSay (λ a. Comes edges (slice_index roots a) a) flags
says_alone edges roots flags f = record { says = λ a h. inl (f.says a h) }

pub says_spread : (edges : List (List ℕ)) (roots : List ℕ) (p : ℕ) (before after : List Bool)
    → FlagsSay (λ a. Comes edges (slice_index roots a) a) before → flag_at before p ≡ true
    → IsSpread roots (slice_index roots p) (edges_at edges p) before after
    → FlagsSay (λ a. Comes edges (slice_index roots a) a) after
says_spread edges roots p before after f h s = record {
  says = λ a k. elim (s.only a k) [
    | inl j ↦ f.says a j
    | inr j ↦
        let P : ℕ → Type 0 = λ n. Comes edges n a in
        subst P (sym j.1) (comes_on edges (slice_index roots p) p a (f.says p h) (inr (leads_edge edges p a j.0)))
  ];
}

-- ---- round

pub round : (edges : List (List ℕ)) (a root : ℕ) → Leads edges a root → Comes edges root a → IsOnCycle edges a
round edges a root there back =
    let P : ℕ → Type 0 = λ n. Leads edges a n in
    let way = elim back as (λ _. Leads edges a a) [
      | inl e ↦ subst P e there
      | inr k ↦ leads_on edges a root a there k
    ] in
    (way.between, way.path)
