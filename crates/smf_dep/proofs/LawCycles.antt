-- The test of a cycle finds a list of instances from the one to itself, and every such list.
use Rattle.std.proofs.Common.{◌≡◌, ◌⊎◌, inl, inr, List, [], ◌∷◌, ◌++◌, true, ◌||◌, ◌&&◌, refl, subst, sym}
use Rattle.std.proofs.lemmas.Bool.{and_from, and_parts, or_cases, or_left, or_right}
use Rattle.smf_dep.specs.declared.member.GraphMember.{GraphMember}
use Rattle.smf_dep.specs.Cycles.{cites, IsAmong, IsPath, IsCycle, leads, on_cycle}

-- ---- a path if the test says so

-- two paths meet at an instance that is there
joined : (ms p q : List GraphMember) (a x b : GraphMember) → IsAmong x ms → IsPath ms a p x → IsPath ms x q b
    → IsPath ms a (p ++ x ∷ q) b
joined ms [] q a x b there u v = (there, u, v)
joined ms (m ∷ p) q a x b there u v = (u.0, u.1, joined ms p q m x b there u.2 v)

path_of : (ms xs : List GraphMember) (a b : GraphMember) → ((m : GraphMember) → IsAmong m xs → IsAmong m ms)
    → leads xs a b ≡ true → (path : List GraphMember) × IsPath ms a path b
unfolding leads
path_of ms [] a b within e = ([], e)
path_of ms (x ∷ xs) a b within e =
    by (or_cases (leads xs a b) (leads xs a x && leads xs x b) e) (path_of ms xs a b fewer) (path_of ms xs a x fewer)
    (path_of ms xs x b fewer)
  where
    fewer : (m : GraphMember) → IsAmong m xs → IsAmong m ms
    fewer m among = within m (inr among)

    by : (leads xs a b ≡ true) ⊎ ((leads xs a x && leads xs x b) ≡ true)
        → (leads xs a b ≡ true → (path : List GraphMember) × IsPath ms a path b)
        → (leads xs a x ≡ true → (path : List GraphMember) × IsPath ms a path x)
        → (leads xs x b ≡ true → (path : List GraphMember) × IsPath ms x path b)
        → (path : List GraphMember) × IsPath ms a path b
    by (inl e) straight first second = straight e
    by (inr e) straight first second =
        let parts = and_parts (leads xs a x) (leads xs x b) e in
        let p = first parts.0 in
        let q = second parts.1 in
        (p.0 ++ x ∷ q.0, joined ms p.0 q.0 a x b (within x (inl refl)) p.1 q.1)

pub listed : (ms : List GraphMember) (m : GraphMember) → on_cycle ms m ≡ true
    → (path : List GraphMember) × IsCycle ms m path
unfolding on_cycle
listed ms m e = path_of ms ms m m (λ n among. among) e

-- ---- the test for a path

straight : (xs : List GraphMember) (a b : GraphMember) → cites a b ≡ true → leads xs a b ≡ true
unfolding leads
straight [] a b e = e
straight (x ∷ xs) a b e = or_left (leads xs a b) (leads xs a x && leads xs x b) (straight xs a b e)

-- if the head leads to an instance, it does so by way of the others
from_head : (x : GraphMember) (xs : List GraphMember) (b : GraphMember) → leads (x ∷ xs) x b ≡ true
    → leads xs x b ≡ true
unfolding leads
from_head x xs b e = by (or_cases (leads xs x b) (leads xs x x && leads xs x b) e)
  where
    by : (leads xs x b ≡ true) ⊎ ((leads xs x x && leads xs x b) ≡ true) → leads xs x b ≡ true
    by (inl e) = e
    by (inr e) = (and_parts (leads xs x x) (leads xs x b) e).1

-- one instance more in front
extends : (xs : List GraphMember) (a c b : GraphMember) → IsAmong c xs → cites a c ≡ true → leads xs c b ≡ true
    → leads xs a b ≡ true
unfolding leads
extends [] a c b among e f = absurd among
extends (x ∷ xs) a c b (inl same) e f =
    let on : leads xs x b ≡ true =
    from_head x xs b (subst (λ (m : GraphMember). leads (x ∷ xs) m b ≡ true) (sym same) f) in
    let to : leads xs a x ≡ true = straight xs a x (subst (λ (m : GraphMember). cites a m ≡ true) (sym same) e) in
    or_right (leads xs a b) (leads xs a x && leads xs x b) (and_from (leads xs a x) (leads xs x b) to on)
extends (x ∷ xs) a c b (inr among) e f =
    by (or_cases (leads xs c b) (leads xs c x && leads xs x b) f) (extends xs a c b among e) (extends xs a c x among e)
  where
    by : (leads xs c b ≡ true) ⊎ ((leads xs c x && leads xs x b) ≡ true)
        → (leads xs c b ≡ true → leads xs a b ≡ true)
        → (leads xs c x ≡ true → leads xs a x ≡ true)
        → (leads xs a b || (leads xs a x && leads xs x b)) ≡ true
    by (inl g) past to = or_left (leads xs a b) (leads xs a x && leads xs x b) (past g)
    by (inr g) past to =
        let parts = and_parts (leads xs c x) (leads xs x b) g in
        or_right (leads xs a b) (leads xs a x && leads xs x b)
        (and_from (leads xs a x) (leads xs x b) (to parts.0) parts.1)

led : (ms path : List GraphMember) (a b : GraphMember) → IsPath ms a path b → leads ms a b ≡ true
led ms [] a b e = straight ms a b e
led ms (m ∷ path) a b p = extends ms a m b p.0 p.1 (led ms path m b p.2)

pub found : (ms : List GraphMember) (m : GraphMember) (path : List GraphMember) → IsCycle ms m path
    → on_cycle ms m ≡ true
unfolding on_cycle
found ms m path p = led ms path m m p
