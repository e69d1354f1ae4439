-- Values of a history: one more command leaves them, and the numbers of rows rise along them.
use Rattle.std.proofs.Common.{◌≡◌, ◌⊎◌, ℕ, ◌+◌, ◌<◌, ◌≤◌, ◌==◌, nat_lt, Bool, true, false, cond, List, [], ◌∷◌, ◌++◌, Option, Some, None, inl, inr, refl, sym, ap, ◌∙◌, subst, arith, eqb-true}
use Rattle.std.proofs.lemmas.Bool.Decides.{nat_tests}
use Rattle.smf_model.specs.declared.command.Command.{Command}
use Rattle.smf_model.specs.declared.held.Instance.{Instance}
use Rattle.smf_model.specs.Contents.{Holdings}
use Rattle.smf_model.specs.History.{History, holdings_after_commands, value_at}
use Rattle.smf_model.specs.Laws.{IsNumbered}
use Rattle.smf_model.specs.Look.{instance}
use Rattle.smf_model.specs.Next.{next}
use Rattle.smf_model.proofs.LawDates.{revision_rises}
use Rattle.smf_model.proofs.LawEvents.{numbered_made}
use Rattle.smf_model.proofs.LawNumbers.{instance_gone, instances_rise}
use Rattle.smf_model.proofs.LawOutcomes.{one_revision}
use Rattle.smf_model.proofs.LawRows.{row_rises}

-- each value of the first is the second's at its revision
abbrev pub Grew : History → History → Type 0
Grew y z = (n : ℕ) (v : Holdings) → value_at y n ≡ Some v → value_at z n ≡ Some v

abbrev at : Holdings → List Command → ℕ → Option Holdings
at h cs n = value_at (record { first = h; past = cs }) n

same : (n : ℕ) → (n == n) ≡ true
same n = grind (arith, nat_tests)

-- ---- the newest value

newest_at : (h : Holdings) (cs : List Command)
    → at h cs (holdings_after_commands h cs).revision ≡ Some (holdings_after_commands h cs)
newest_at h [] = ap (λ (b : Bool). cond b (Some h) None) (same h.revision)
newest_at h (c ∷ cs) =
    ap (λ (b : Bool). cond b (Some (holdings_after_commands h (c ∷ cs)))
    (at h cs (holdings_after_commands h (c ∷ cs)).revision)) (same (holdings_after_commands h (c ∷ cs)).revision)

pub newest_value : (y : History) (h : Holdings) → h ≡ holdings_after_commands y.first y.past
    → value_at y h.revision ≡ Some h
newest_value y h e = subst (λ (k : Holdings). value_at y k.revision ≡ Some k) (sym e) (newest_at y.first y.past)

one_value : (v h : Holdings) (n : ℕ) (b : Bool) → (h.revision == n) ≡ b → cond b (Some h) None ≡ Some v → n ≤ h.revision
one_value v h n true e f = let s : h.revision ≡ n = eqb-true h.revision n e in omega arith
one_value v h n false e f = absurd cc

one_below : (k v : Holdings) (n low : ℕ) (o : Option Holdings) (b : Bool) → (k.revision == n) ≡ b → low ≤ k.revision
    → (o ≡ Some v → n ≤ low) → cond b (Some k) o ≡ Some v → n ≤ k.revision
one_below k v n low o true e up ih f = let s : k.revision ≡ n = eqb-true k.revision n e in omega arith
one_below k v n low o false e up ih f = let le : n ≤ low = ih f in omega arith

below : (h : Holdings) (cs : List Command) (n : ℕ) (v : Holdings) → at h cs n ≡ Some v
    → n ≤ (holdings_after_commands h cs).revision
below h [] n v e = one_value v h n (h.revision == n) refl e
below h (c ∷ cs) n v e =
    let k : Holdings = holdings_after_commands h (c ∷ cs) in
    one_below k v n (holdings_after_commands h cs).revision (at h cs n) (k.revision == n) refl
    (revision_rises (holdings_after_commands h cs) c) (below h cs n v) e

-- no value has a greater revision than the newest
pub value_below : (y : History) (h : Holdings) (n : ℕ) (v : Holdings) → h ≡ holdings_after_commands y.first y.past
    → value_at y n ≡ Some v → n ≤ h.revision
value_below y h n v e f = subst (λ (k : Holdings). n ≤ k.revision) (sym e) (below y.first y.past n v f)

-- ---- one command more

past : (m n : ℕ) → (m == n) ≡ false → n ≤ m → n < m
past m n e le = grind (arith, nat_tests)

above : (m n l : ℕ) → m ≡ l + 1 → n ≤ l → m ≡ n → ⊥
above m n l e le f = omega arith

stays : (m k v : Holdings) (n : ℕ) (o : Option Holdings) → (k ≡ m) ⊎ (k.revision ≡ m.revision + 1)
    → (k.revision == n) ≡ true → (m.revision ≡ n → o ≡ Some m) → n ≤ m.revision → o ≡ Some v → Some k ≡ Some v
stays m k v n o (inl e) t here le f = ap (λ (x : Holdings). Some x) e
    ∙ (sym (here (ap (λ (x : Holdings). x.revision) (sym e) ∙ eqb-true k.revision n t)) ∙ f)
stays m k v n o (inr e) t here le f = absurd (above k.revision n m.revision e le (eqb-true k.revision n t))

stays_at : (m k v : Holdings) (n : ℕ) (o : Option Holdings) (b : Bool) → (k.revision == n) ≡ b
    → (k ≡ m) ⊎ (k.revision ≡ m.revision + 1) → (m.revision ≡ n → o ≡ Some m) → n ≤ m.revision → o ≡ Some v
    → cond b (Some k) o ≡ Some v
stays_at m k v n o true t e here le f = stays m k v n o e t here le f
stays_at m k v n o false t e here le f = f

grew_at : (h : Holdings) (cs : List Command) (c : Command) (n : ℕ) (v : Holdings) → at h cs n ≡ Some v
    → at h (c ∷ cs) n ≡ Some v
grew_at h cs c n v e =
    let m : Holdings = holdings_after_commands h cs in
    let k : Holdings = holdings_after_commands h (c ∷ cs) in
    stays_at m k v n (at h cs n) (k.revision == n) refl (one_revision m c)
    (λ f. subst (λ (l : ℕ). at h cs l ≡ Some m) f (newest_at h cs)) (below h cs n v e) e

pub grew_by : (h : Holdings) (ds cs : List Command)
    → Grew (record { first = h; past = cs }) (record { first = h; past = ds ++ cs })
grew_by h [] cs n v e = e
grew_by h (d ∷ ds) cs n v e = grew_at h (ds ++ cs) d n v (grew_by h ds cs n v e)

-- ---- numbers of rows

-- an instance of an earlier value: its number was given before, and its row's number is not greater than now
record IsEarlier (n number : ℕ) (m : Holdings) : Type 0 where
  given : n < m.next_instance
  low : (a : Instance) → instance m n ≡ Some a → number ≤ a.row.number

no_such : (h : Holdings) (n : ℕ) (a : Instance) → instance h n ≡ None → instance h n ≡ Some a → ⊥
no_such h n a e f = cc

-- the number of an instance that is there was given before
pub was_given : (h : Holdings) (n : ℕ) (a : Instance) → IsNumbered h → instance h n ≡ Some a → n < h.next_instance
was_given h n a b e = by (nat_lt n h.next_instance) refl
  where
    low : (m l : ℕ) → nat_lt m l ≡ true → m < l
    low m l f = grind (arith, nat_tests)

    high : (m l : ℕ) → nat_lt m l ≡ false → l ≤ m
    high m l f = grind (arith, nat_tests)

    by : (b : Bool) → nat_lt n h.next_instance ≡ b → n < h.next_instance
    by true f = low n h.next_instance f
    by false f = absurd (no_such h n a (b.instances n (high n h.next_instance f)) e)

some_one : (a b : Instance) → Some a ≡ Some b → a ≡ b
some_one a b e = cc

earlier_now : (k : Holdings) (n : ℕ) (b : Instance) → IsNumbered k → instance k n ≡ Some b → IsEarlier n b.row.number k
earlier_now k n b numbered e =
    record {
      given = was_given k n b numbered e;
      low = λ a f. let s : b ≡ a = some_one b a (sym e ∙ f) in
          subst (λ (x : Instance). b.row.number ≤ x.row.number) s (omega arith);
    }

earlier_next : (m : Holdings) (c : Command) (n number : ℕ) → IsNumbered m → IsEarlier n number m
    → IsEarlier n number (next m c).0
earlier_next m c n number numbered e =
    record {
      given = let up : m.next_instance ≤ (next m c).0.next_instance = instances_rise m c in
          let lt : n < m.next_instance = e.given in omega arith;
      low = λ a f. by (instance m n) refl a f;
    }
  where
    up : (x a : Instance) → instance m n ≡ Some x → instance (next m c).0 n ≡ Some a → number ≤ a.row.number
    up x a g f = let rises : x.row.number ≤ a.row.number = (row_rises m c n x a numbered g f).0 in
        let le : number ≤ x.row.number = e.low x g in omega arith

    by : (o : Option Instance) → instance m n ≡ o → (a : Instance) → instance (next m c).0 n ≡ Some a
        → number ≤ a.row.number
    by None g a f = absurd (no_such (next m c).0 n a (instance_gone m c n e.given g) f)
    by (Some x) g a f = up x a g f

earlier_one : (k v : Holdings) (n r : ℕ) (b : Instance) (o : Option Holdings) (t : Bool) → IsNumbered k
    → instance v n ≡ Some b → cond t (Some k) o ≡ Some v → (o ≡ Some v → IsEarlier n b.row.number k)
    → IsEarlier n b.row.number k
earlier_one k v n r b o true numbered e f ih =
    let s : v ≡ k = let g : Some k ≡ Some v = f in cc in
    earlier_now k n b numbered (subst (λ (x : Holdings). instance x n ≡ Some b) s e)
earlier_one k v n r b o false numbered e f ih = ih f

-- a value's row against the newest
earlier : (h : Holdings) (cs : List Command) (r : ℕ) (v : Holdings) (n : ℕ) (b : Instance) → IsNumbered h
    → at h cs r ≡ Some v → instance v n ≡ Some b → IsEarlier n b.row.number (holdings_after_commands h cs)
earlier h [] r v n b numbered e f = earlier_one h v n r b None (h.revision == r) numbered f e (λ g. absurd cc)
earlier h (c ∷ cs) r v n b numbered e f =
    let k : Holdings = holdings_after_commands h (c ∷ cs) in
    earlier_one k v n r b (at h cs r) (k.revision == r) (numbered_made h (c ∷ cs) numbered) f e
    (λ g. earlier_next (holdings_after_commands h cs) c n b.row.number (numbered_made h cs numbered)
    (earlier h cs r v n b numbered g f))

too_low : (m n : ℕ) → m < n → n ≤ m → ⊥
too_low m n lt le = omega arith

a_value : (k v : Holdings) → Some k ≡ Some v → k ≡ v
a_value k v e = cc

-- a row under a greater number is of a later value: one more value
later_one : (k u v : Holdings) (n r s low : ℕ) (a b : Instance) (o p : Option Holdings) (t d : Bool)
    → (k.revision == r) ≡ t → (k.revision == s) ≡ d → cond t (Some k) o ≡ Some u → cond d (Some k) p ≡ Some v
    → instance u n ≡ Some a → instance v n ≡ Some b → a.row.number < b.row.number
    → low ≤ k.revision → (o ≡ Some u → r ≤ low) → (p ≡ Some v → IsEarlier n b.row.number k)
    → (o ≡ Some u → p ≡ Some v → r < s) → r < s
later_one k u v n r s low a b o p true true e f g h ia ib lt up below earlier ih =
    let same : u ≡ v = sym (a_value k u g) ∙ a_value k v h in
    let one : a ≡ b = some_one a b (sym ia ∙ subst (λ (x : Holdings). instance x n ≡ Some b) (sym same) ib) in
    absurd (too_low a.row.number b.row.number lt
    (subst (λ (x : Instance). b.row.number ≤ x.row.number) (sym one) (omega arith)))
later_one k u v n r s low a b o p true false e f g h ia ib lt up below earlier ih =
    let x : IsEarlier n b.row.number k = earlier h in
    let there : instance k n ≡ Some a = subst (λ (x : Holdings). instance x n ≡ Some a) (sym (a_value k u g)) ia in
    absurd (too_low a.row.number b.row.number lt (x.low a there))
later_one k u v n r s low a b o p false true e f g h ia ib lt up below earlier ih =
    let le : r ≤ low = below g in
    let s_is : k.revision ≡ s = eqb-true k.revision s f in
    let less : r < k.revision = past k.revision r e (omega arith) in
    omega arith
later_one k u v n r s low a b o p false false e f g h ia ib lt up below earlier ih = ih g h

later : (h : Holdings) (cs : List Command) (r s : ℕ) (u v : Holdings) (n : ℕ) (a b : Instance) → IsNumbered h
    → at h cs r ≡ Some u → at h cs s ≡ Some v
    → instance u n ≡ Some a → instance v n ≡ Some b → a.row.number < b.row.number → r < s
later h [] r s u v n a b numbered e f ia ib lt =
    later_one h u v n r s h.revision a b None None (h.revision == r) (h.revision == s) refl refl e f ia ib lt
    (omega arith) (λ g. absurd cc) (λ g. absurd cc) (λ g. absurd cc)
later h (c ∷ cs) r s u v n a b numbered e f ia ib lt =
    let k : Holdings = holdings_after_commands h (c ∷ cs) in
    later_one k u v n r s (holdings_after_commands h cs).revision a b (at h cs r) (at h cs s) (k.revision == r)
    (k.revision == s) refl refl e f ia ib lt
    (revision_rises (holdings_after_commands h cs) c) (below h cs r u)
    (λ g. earlier_next (holdings_after_commands h cs) c n b.row.number (numbered_made h cs numbered)
    (earlier h cs s v n b numbered g ib))
    (λ g d. later h cs r s u v n a b numbered g d ia ib lt)

-- a row under a greater number is of a later value
pub later_by_number : (y : History) (r s : ℕ) (u v : Holdings) (n : ℕ) (a b : Instance) → IsNumbered y.first
    → value_at y r ≡ Some u → value_at y s ≡ Some v
    → instance u n ≡ Some a → instance v n ≡ Some b → a.row.number < b.row.number → r < s
later_by_number y r s u v n a b numbered e f ia ib lt = later y.first y.past r s u v n a b numbered e f ia ib lt

-- a value of a history is numbered
value_numbered : (h : Holdings) (cs : List Command) (n : ℕ) (v : Holdings) → IsNumbered h → at h cs n ≡ Some v
    → IsNumbered v
value_numbered h [] n v numbered e = by (h.revision == n) e
  where
    by : (b : Bool) → cond b (Some h) None ≡ Some v → IsNumbered v
    by true f = subst IsNumbered (a_value h v f) numbered
    by false f = absurd cc
value_numbered h (c ∷ cs) n v numbered e =
    by ((holdings_after_commands h (c ∷ cs)).revision == n) e (value_numbered h cs n v numbered)
  where
    by : (b : Bool) → cond b (Some (holdings_after_commands h (c ∷ cs))) (at h cs n) ≡ Some v
        → (at h cs n ≡ Some v → IsNumbered v) → IsNumbered v
    by true f ih =
        subst IsNumbered (a_value (holdings_after_commands h (c ∷ cs)) v f) (numbered_made h (c ∷ cs) numbered)
    by false f ih = ih f

pub numbered_at : (y : History) (n : ℕ) (v : Holdings) → IsNumbered y.first → value_at y n ≡ Some v → IsNumbered v
numbered_at y n v numbered e = value_numbered y.first y.past n v numbered e
