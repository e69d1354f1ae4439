-- The words of entries: what is written is read, and what is read was written so.
use Rattle.std.proofs.Common.{◌≡◌, ℕ, List, Bool, true, false, cond, Option, Some, None, refl, ◌∙◌, ap, codes, option_map}
use Rattle.std.specs.Cmp.Lexicographic.{pointwise}
use Rattle.std.specs.Prelude.{nat_eq}
use Rattle.smf_fmri.specs.Counts.{no_space}
use Rattle.smf_fmri.proofs.Patterns.{same_text}
use Rattle.smf_contract.specs.declared.cookie.Method.{Method}
use Rattle.smf_contract.specs.declared.cookie.Method.TheVariants.{Start, Stop, Refresh}
use Rattle.smf_state.specs.declared.state.State.{State}
use Rattle.smf_state.specs.declared.state.State.TheVariants as states
use Rattle.smf_state.specs.States.{read_state, state_text}
use Rattle.smf_state.proofs.Lines.{IsSpelling}
use Rattle.smf_state.proofs.Words.{Any, state}
use Rattle.smf_chronicle.specs.Words.{read_method, read_next, read_word, word_text}
use Rattle.smf_method.specs.Tokens.{method_text}
use Rattle.smf_world.specs.TrailText.{next_text}
use Rattle.smf_chronicle.specs.declared.word.Word.{Word}
use Rattle.smf_chronicle.specs.declared.word.Word.TheVariants as words

-- ---- the word that an entry begins with

word_reads : (w : Word) → read_word (word_text w) ≡ Some w
word_reads words.Boot = refl
word_reads words.Committed = refl
word_reads words.Held = refl
word_reads words.Spawned = refl
word_reads words.Emptied = refl
word_reads words.Life = refl
word_reads words.Row = refl
word_reads words.Living = refl

word_is : (p0 p1 p2 p3 p4 p5 p6 p7 : Bool) (t : List ℕ) (w : Word)
    → pointwise nat_eq t (codes "boot") ≡ p0 → pointwise nat_eq t (codes "committed") ≡ p1
    → pointwise nat_eq t (codes "held") ≡ p2 → pointwise nat_eq t (codes "spawned") ≡ p3
    → pointwise nat_eq t (codes "emptied") ≡ p4 → pointwise nat_eq t (codes "life") ≡ p5
    → pointwise nat_eq t (codes "row") ≡ p6 → pointwise nat_eq t (codes "living") ≡ p7
    → cond p0 (Some words.Boot)
    (cond p1 (Some words.Committed)
    (cond p2 (Some words.Held)
    (cond p3 (Some words.Spawned)
    (cond p4 (Some words.Emptied)
    (cond p5 (Some words.Life) (cond p6 (Some words.Row) (cond p7 (Some words.Living) None)))))))
    ≡ Some w → t ≡ word_text w
word_is true p1 p2 p3 p4 p5 p6 p7 t w e0 e1 e2 e3 e4 e5 e6 e7 h = let is : words.Boot ≡ w = cc in
    (same_text t _).0 e0 ∙ ap word_text is
word_is false true p2 p3 p4 p5 p6 p7 t w e0 e1 e2 e3 e4 e5 e6 e7 h = let is : words.Committed ≡ w = cc in
    (same_text t _).0 e1 ∙ ap word_text is
word_is false false true p3 p4 p5 p6 p7 t w e0 e1 e2 e3 e4 e5 e6 e7 h = let is : words.Held ≡ w = cc in
    (same_text t _).0 e2 ∙ ap word_text is
word_is false false false true p4 p5 p6 p7 t w e0 e1 e2 e3 e4 e5 e6 e7 h = let is : words.Spawned ≡ w = cc in
    (same_text t _).0 e3 ∙ ap word_text is
word_is false false false false true p5 p6 p7 t w e0 e1 e2 e3 e4 e5 e6 e7 h = let is : words.Emptied ≡ w = cc in
    (same_text t _).0 e4 ∙ ap word_text is
word_is false false false false false true p6 p7 t w e0 e1 e2 e3 e4 e5 e6 e7 h = let is : words.Life ≡ w = cc in
    (same_text t _).0 e5 ∙ ap word_text is
word_is false false false false false false true p7 t w e0 e1 e2 e3 e4 e5 e6 e7 h = let is : words.Row ≡ w = cc in
    (same_text t _).0 e6 ∙ ap word_text is
word_is false false false false false false false true t w e0 e1 e2 e3 e4 e5 e6 e7 h = let is : words.Living ≡ w =
    cc in (same_text t _).0 e7 ∙ ap word_text is
word_is false false false false false false false false t w e0 e1 e2 e3 e4 e5 e6 e7 h = cc

word_spaceless : (w : Word) → no_space (word_text w) ≡ true
word_spaceless words.Boot = refl
word_spaceless words.Committed = refl
word_spaceless words.Held = refl
word_spaceless words.Spawned = refl
word_spaceless words.Emptied = refl
word_spaceless words.Life = refl
word_spaceless words.Row = refl
word_spaceless words.Living = refl

pub word : IsSpelling read_word word_text Any
word = record {
  reads = λ w h. word_reads w;
  spelled = λ t w h. (word_is _ _ _ _ _ _ _ _ t w refl refl refl refl refl refl refl refl h, tt);
  spaceless = λ w h. word_spaceless w;
}

-- ---- methods

method_reads : (m : Method) → read_method (method_text m) ≡ Some m
method_reads Start = refl
method_reads Stop = refl
method_reads Refresh = refl

method_is : (p0 p1 p2 : Bool) (t : List ℕ) (m : Method)
    → pointwise nat_eq t (codes "start") ≡ p0 → pointwise nat_eq t (codes "stop") ≡ p1
    → pointwise nat_eq t (codes "refresh") ≡ p2
    → cond p0 (Some Start) (cond p1 (Some Stop) (cond p2 (Some Refresh) None)) ≡ Some m → t ≡ method_text m
method_is true p1 p2 t m e0 e1 e2 h = let is : Start ≡ m = cc in (same_text t _).0 e0 ∙ ap method_text is
method_is false true p2 t m e0 e1 e2 h = let is : Stop ≡ m = cc in (same_text t _).0 e1 ∙ ap method_text is
method_is false false true t m e0 e1 e2 h = let is : Refresh ≡ m = cc in (same_text t _).0 e2 ∙ ap method_text is
method_is false false false t m e0 e1 e2 h = cc

method_spaceless : (m : Method) → no_space (method_text m) ≡ true
method_spaceless Start = refl
method_spaceless Stop = refl
method_spaceless Refresh = refl

pub method : IsSpelling read_method method_text Any
method = record {
  reads = λ m h. method_reads m;
  spelled = λ t m h. (method_is _ _ _ t m refl refl refl h, tt);
  spaceless = λ m h. method_spaceless m;
}

-- ---- the state to which a transition leads

next_reads : (next : Option State) → read_next (next_text next) ≡ Some next
next_reads None = refl
next_reads (Some states.Uninitialized) = refl
next_reads (Some states.Disabled) = refl
next_reads (Some states.Offline) = refl
next_reads (Some states.Online) = refl
next_reads (Some states.Degraded) = refl
next_reads (Some states.Maintenance) = refl

some_next : (o : Option State) (t : List ℕ) (next : Option State) → read_state t ≡ o → option_map Some o ≡ Some next
    → t ≡ next_text next
some_next None t next e h = cc
some_next (Some s) t None e h = cc
some_next (Some s) t (Some x) e h = let is : s ≡ x = cc in (state.spelled t x (e ∙ ap Some is)).0

next_is : (p : Bool) (t : List ℕ) (next : Option State) → pointwise nat_eq t (codes "none") ≡ p
    → cond p (Some None) (option_map Some (read_state t)) ≡ Some next → t ≡ next_text next
next_is true t next e h = let is : None ≡ next = cc in (same_text t _).0 e ∙ ap next_text is
next_is false t next e h = some_next (read_state t) t next refl h

next_spaceless : (next : Option State) → no_space (next_text next) ≡ true
next_spaceless None = refl
next_spaceless (Some s) = state.spaceless s tt

pub next : IsSpelling read_next next_text Any
next = record {
  reads = λ n h. next_reads n;
  spelled = λ t n h. (next_is _ t n refl h, tt);
  spaceless = λ n h. next_spaceless n;
}
