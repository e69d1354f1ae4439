-- Instances that go: what stays at their places, and changes by which they go.
use Rattle.std.proofs.Common.{◌≡◌, ℕ, List, [], ◌∷◌, ◌++◌, map, get_or, Bool, true, false, cond, if◌then◌else◌, Some, None, refl, sym, ap, ◌∙◌, subst}
use Rattle.std.specs.Prelude.{slice_set}
use Rattle.std.proofs.lemmas.List.{append-nil}
use Rattle.std.proofs.lemmas.Option.{get_or_from_slice_get}
use Rattle.smf_fmri.specs.ByKey.{Rises, StandsAt, amend, has_key, lookup}
use Rattle.smf_fmri.proofs.Places.{amend_at}
use Rattle.smf_links.specs.Blockage.{IsOut}
use Rattle.smf_links.proofs.Work.{out_left, out_right}
use Rattle.smf_state.specs.OwnName.{startd}
use Rattle.smf_dep.specs.declared.member.GraphMember.{GraphMember}
use Rattle.smf_dep.specs.declared.relink.PlacedMember.{PlacedMember}
use Rattle.smf_dep.specs.Departures.{IsDeparture, gone_named, gone_of, with_departure}
use Rattle.smf_dep.specs.Members.{IsReadFrom, by_member, dependencies_in, snapshot_in}
use Rattle.smf_dep.specs.Methods.{has_unfit_methods}
use Rattle.smf_dep.specs.Requirements.{read_groups}
use Rattle.smf_dep.specs.Updates.{AreNamed, number, with_placed}
use Rattle.smf_dep.proofs.ByNumber.{stands, stood}
use Rattle.smf_dep.proofs.Relinked.{named_after, numbers_of_all, placed_after, rises_of_all}

-- ---- one that went

none_asked : Some [] ≡ dependencies_in startd (snapshot_in None)
unfolding read_groups
none_asked = refl

pub read_gone : (owner : List ℕ) (unfit : Bool) (m g : GraphMember) → g ≡ gone_of m → owner ≡ startd
    → unfit ≡ has_unfit_methods owner g.name g.composed → IsReadFrom owner None unfit g
read_gone owner unfit m g e o u =
    record {
      groups = ap (λ (x : GraphMember). x.composed) e;
      needs = ap (λ (x : GraphMember). x.dependencies) e ∙ none_asked ∙ ap (λ x. dependencies_in x (snapshot_in None)) (sym o);
      methods = u;
    }

pub departure_at : (n : ℕ) (g r : GraphMember) (ms : List GraphMember) (p : ℕ) → StandsAt by_member n p ms
    → r ≡ get_or ms p r → g ≡ gone_of r → IsDeparture n g ms p
departure_at n g r ms p s is e =
    let at = stood by_member n p ms s in
    let here : r ≡ at.0 = is ∙ get_or_from_slice_get ms p at.0 r at.1 in
    let numbers : g.instance ≡ r.instance = ap (λ (x : GraphMember). x.instance) e in
    let names : g.name ≡ r.name = ap (λ (x : GraphMember). x.name) e in
    let number_is : r.instance ≡ n = ap (λ (x : GraphMember). x.instance) here ∙ at.2 in
    record {
      numbered = numbers ∙ number_is;
      same = e ∙ (λ i. gone_named (sym numbers i) (sym names i));
      named =
          record {
            before = at.0;
            at = at.1;
            numbered = at.2 ∙ sym (numbers ∙ number_is);
            named = names ∙ ap (λ (x : GraphMember). x.name) here;
          };
    }

-- ---- an instance that is not there

amend_absent : (n : ℕ) (f : GraphMember → GraphMember) (ms : List GraphMember) → lookup by_member ms n ≡ None
    → amend by_member n f ms ≡ ms
amend_absent n f [] e = refl
amend_absent n f (x ∷ xs) e = by (has_key by_member n x) e (amend_absent n f xs)
  where
    by : (b : Bool) → cond b (Some x) (lookup by_member xs n) ≡ None
        → (lookup by_member xs n ≡ None → amend by_member n f xs ≡ xs)
        → (if b then f x else x) ∷ amend by_member n f xs ≡ x ∷ xs
    by true g rest = absurd cc
    by false g rest = ap (λ l. x ∷ l) (rest g)

absent_still : (n : ℕ) (ms ks : List GraphMember) → map number ks ≡ map number ms → lookup by_member ms n ≡ None
    → lookup by_member ks n ≡ None
absent_still n ms [] same e = refl
absent_still n [] (k ∷ ks) same e = absurd cc
absent_still n (m ∷ ms) (k ∷ ks) same e =
    let first : k.instance ≡ m.instance = cc in
    let rest : map number ks ≡ map number ms = cc in
    by (has_key by_member n m) (has_key by_member n k) (ap (λ j. has_key by_member n (gone_named j [])) first) e
    (absent_still n ms ks rest)
  where
    by : (b c : Bool) → c ≡ b → cond b (Some m) (lookup by_member ms n) ≡ None
        → (lookup by_member ms n ≡ None → lookup by_member ks n ≡ None)
        → cond c (Some k) (lookup by_member ks n) ≡ None
    by true c d g more = absurd cc
    by false c d g more = ap (λ t. cond t (Some k) (lookup by_member ks n)) d ∙ more g

pub put_absent : (n : ℕ) (ps : List PlacedMember) (arrivals ms : List GraphMember) → AreNamed ps ms → arrivals ≡ []
    → lookup by_member ms n ≡ None
    → with_placed ps ms ++ arrivals ≡ with_departure n None (with_placed ps ms ++ arrivals)
put_absent n ps arrivals ms named none e =
    let now = with_placed ps ms in
    let all : now ++ arrivals ≡ now = ap (λ l. now ++ l) none ∙ append-nil now in
    all ∙ sym (amend_absent n gone_of now (absent_still n ms now (numbers_of_all ps ms named) e))
    ∙ ap (with_departure n None) (sym all)

-- ---- an instance that is there

pub put_departed : (n : ℕ) (ps qs : List PlacedMember) (p : PlacedMember) (arrivals ms : List GraphMember)
    → Rises by_member ms → AreNamed ps ms → arrivals ≡ [] → qs ≡ ps ++ p ∷ [] → IsDeparture n p.member ms p.place
    → with_placed qs ms ++ arrivals ≡ with_departure n None (with_placed ps ms ++ arrivals)
put_departed n ps qs p arrivals ms r named none e h =
    let now = with_placed ps ms in
    let all : now ++ arrivals ≡ now = ap (λ l. now ++ l) none ∙ append-nil now in
    let there = named_after ps p.member p.place ms named h.named in
    let rises = rises_of_all ps ms r named in
    let P : ℕ → Type 0 = λ j. StandsAt by_member j p.place now in
    let at = subst P (there.numbered ∙ h.numbered) (stands by_member now p.place there.before rises there.at) in
    let kept : gone_of (get_or now p.place p.member) ≡ p.member =
    ap gone_of (get_or_from_slice_get now p.place there.before p.member there.at)
    ∙ (λ i. gone_named (there.numbered i) (sym there.named i)) ∙ sym h.same in
    ap (λ l. with_placed qs ms ++ l) none ∙ append-nil (with_placed qs ms)
    ∙ ap (λ l. with_placed l ms) e ∙ placed_after ps p ms
    ∙ ap (slice_set now p.place) (sym kept)
    ∙ sym (amend_at by_member n gone_of p.place now p.member rises at)
    ∙ ap (with_departure n None) (sym all)

-- ---- numbers after others

pub out_before : (a : ℕ) (xs ys zs : List ℕ) → zs ≡ xs ++ ys → IsOut a zs → IsOut a xs
out_before a xs ys zs e out = let P : List ℕ → Type 0 = IsOut a in out_left a xs ys (subst P e out)

pub out_after : (a : ℕ) (xs ys zs : List ℕ) → zs ≡ xs ++ ys → IsOut a zs → IsOut a ys
out_after a xs ys zs e out = let P : List ℕ → Type 0 = IsOut a in out_right a xs ys (subst P e out)
