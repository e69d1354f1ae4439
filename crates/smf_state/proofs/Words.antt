-- Each kind of field: its reader and its text say the same.
use Rattle.std.proofs.Common.{◌≡◌, ℕ, ◌<◌, ◌≤◌, List, Bool, true, false, cond, Option, Some, None, refl, ◌∙◌, ap, arith, codes, nat_lt, nat_le, ltb-true, lt-ltb}
use Rattle.std.specs.Cmp.Lexicographic.{pointwise}
use Rattle.std.specs.Fmt.{decimal}
use Rattle.std.specs.Prelude.{nat_eq}
use Rattle.std.proofs.lemmas.Bool.Decides.{nat_tests}
use Rattle.smf_fmri.specs.Counts.{read_count, no_space}
use Rattle.smf_fmri.specs.Patterns.{IsInstanceName, read_short}
use Rattle.smf_fmri.proofs.Counts.{printed_is_read, read_is_printed, read_is_small, decimal_spaceless}
use Rattle.smf_fmri.proofs.Patterns.{same_text}
use Rattle.smf_fmri.proofs.Short.{short_again, short_is_name, name_spaceless}
use Rattle.smf_state.specs.declared.flags.Asks.{Asks}
use Rattle.smf_state.specs.declared.state.State.{State}
use Rattle.smf_state.specs.declared.state.State.TheVariants.{Uninitialized, Disabled, Offline, Online, Degraded, Maintenance}
use Rattle.smf_state.specs.declared.state.Cause.{Cause}
use Rattle.smf_state.specs.declared.state.Cause.TheVariants.{Error, NonError, Admin, Config}
use Rattle.smf_state.specs.declared.state.Duration.{Duration}
use Rattle.smf_state.specs.declared.state.Duration.TheVariants.{Contract, Transient, Child}
use Rattle.smf_state.specs.declared.step.Verb.{Verb}
use Rattle.smf_state.specs.declared.step.Verb.TheVariants as verbs
use Rattle.smf_state.specs.States.{state_text, read_state, cause_text, read_cause, duration_text, read_duration}
use Rattle.smf_state.specs.Fields.{asks_of, read_asks, ignore_of, read_ignore, read_flag, flag_text, read_optional, optional_text}
use Rattle.smf_state.specs.Texts.{IsSmall, verb_text, read_verb}
use Rattle.smf_state.proofs.Lines.{IsSpelling, OptionalIn, optional}

abbrev pub Any : {X : Type 0} → X → Type 0
Any x = Unit {0}

pub anything : {X : Type 0} (o : Option X) → OptionalIn Any o
anything None = tt
anything (Some x) = tt

-- a word that was tested is that word
word : (t w : List ℕ) → pointwise nat_eq t w ≡ true → t ≡ w
word t w h = (same_text t w).0 h

pub number : IsSpelling read_count decimal IsSmall
number = record {
  reads = printed_is_read;
  spelled = λ t n h. (read_is_printed t n h, read_is_small t n h);
  spaceless = decimal_spaceless;
}

pub name : IsSpelling read_short (λ (n : List ℕ). n) IsInstanceName
name = record {
  reads = short_again;
  spelled = short_is_name;
  spaceless = λ n h. name_spaceless n h.reads;
}

state_reads : (s : State) → read_state (state_text s) ≡ Some s
state_reads Uninitialized = refl
state_reads Disabled = refl
state_reads Offline = refl
state_reads Online = refl
state_reads Degraded = refl
state_reads Maintenance = refl

state_is : (a b c d e f : Bool) (t : List ℕ) (s : State)
    → pointwise nat_eq t (codes "uninitialized") ≡ a → pointwise nat_eq t (codes "disabled") ≡ b
    → pointwise nat_eq t (codes "offline") ≡ c → pointwise nat_eq t (codes "online") ≡ d
    → pointwise nat_eq t (codes "degraded") ≡ e → pointwise nat_eq t (codes "maintenance") ≡ f
    → cond a (Some Uninitialized)
    (cond b (Some Disabled)
    (cond c (Some Offline) (cond d (Some Online) (cond e (Some Degraded) (cond f (Some Maintenance) None)))))
    ≡ Some s → t ≡ state_text s
state_is true b c d e f t s p q u v w x h = let is : Uninitialized ≡ s = cc in word t _ p ∙ ap state_text is
state_is false true c d e f t s p q u v w x h = let is : Disabled ≡ s = cc in word t _ q ∙ ap state_text is
state_is false false true d e f t s p q u v w x h = let is : Offline ≡ s = cc in word t _ u ∙ ap state_text is
state_is false false false true e f t s p q u v w x h = let is : Online ≡ s = cc in word t _ v ∙ ap state_text is
state_is false false false false true f t s p q u v w x h = let is : Degraded ≡ s = cc in word t _ w ∙ ap state_text is
state_is false false false false false true t s p q u v w x h = let is : Maintenance ≡ s = cc in
    word t _ x ∙ ap state_text is
state_is false false false false false false t s p q u v w x h = cc

state_spaceless : (s : State) → no_space (state_text s) ≡ true
state_spaceless Uninitialized = refl
state_spaceless Disabled = refl
state_spaceless Offline = refl
state_spaceless Online = refl
state_spaceless Degraded = refl
state_spaceless Maintenance = refl

pub state : IsSpelling read_state state_text Any
state = record {
  reads = λ s h. state_reads s;
  spelled = λ t s h. (state_is _ _ _ _ _ _ t s refl refl refl refl refl refl h, tt);
  spaceless = λ s h. state_spaceless s;
}

cause_reads : (s : Cause) → read_cause (cause_text s) ≡ Some s
cause_reads Error = refl
cause_reads NonError = refl
cause_reads Admin = refl
cause_reads Config = refl

cause_is : (a b c d : Bool) (t : List ℕ) (s : Cause)
    → pointwise nat_eq t (codes "error") ≡ a → pointwise nat_eq t (codes "nonerror") ≡ b
    → pointwise nat_eq t (codes "admin") ≡ c → pointwise nat_eq t (codes "config") ≡ d
    → cond a (Some Error) (cond b (Some NonError) (cond c (Some Admin) (cond d (Some Config) None))) ≡ Some s
    → t ≡ cause_text s
cause_is true b c d t s p q u v h = let is : Error ≡ s = cc in word t _ p ∙ ap cause_text is
cause_is false true c d t s p q u v h = let is : NonError ≡ s = cc in word t _ q ∙ ap cause_text is
cause_is false false true d t s p q u v h = let is : Admin ≡ s = cc in word t _ u ∙ ap cause_text is
cause_is false false false true t s p q u v h = let is : Config ≡ s = cc in word t _ v ∙ ap cause_text is
cause_is false false false false t s p q u v h = cc

cause_spaceless : (s : Cause) → no_space (cause_text s) ≡ true
cause_spaceless Error = refl
cause_spaceless NonError = refl
cause_spaceless Admin = refl
cause_spaceless Config = refl

pub cause : IsSpelling read_cause cause_text Any
cause = record {
  reads = λ s h. cause_reads s;
  spelled = λ t s h. (cause_is _ _ _ _ t s refl refl refl refl h, tt);
  spaceless = λ s h. cause_spaceless s;
}

duration_reads : (s : Duration) → read_duration (duration_text s) ≡ Some s
duration_reads Contract = refl
duration_reads Transient = refl
duration_reads Child = refl

duration_is : (a b c : Bool) (t : List ℕ) (s : Duration)
    → pointwise nat_eq t (codes "contract") ≡ a → pointwise nat_eq t (codes "transient") ≡ b
    → pointwise nat_eq t (codes "child") ≡ c
    → cond a (Some Contract) (cond b (Some Transient) (cond c (Some Child) None)) ≡ Some s → t ≡ duration_text s
duration_is true b c t s p q u h = let is : Contract ≡ s = cc in word t _ p ∙ ap duration_text is
duration_is false true c t s p q u h = let is : Transient ≡ s = cc in word t _ q ∙ ap duration_text is
duration_is false false true t s p q u h = let is : Child ≡ s = cc in word t _ u ∙ ap duration_text is
duration_is false false false t s p q u h = cc

duration_spaceless : (s : Duration) → no_space (duration_text s) ≡ true
duration_spaceless Contract = refl
duration_spaceless Transient = refl
duration_spaceless Child = refl

pub duration : IsSpelling read_duration duration_text Any
duration = record {
  reads = λ s h. duration_reads s;
  spelled = λ t s h. (duration_is _ _ _ t s refl refl refl h, tt);
  spaceless = λ s h. duration_spaceless s;
}

verb_reads : (s : Verb) → read_verb (verb_text s) ≡ Some s
verb_reads verbs.Move = refl
verb_reads verbs.Start = refl
verb_reads verbs.Stop = refl
verb_reads verbs.Refresh = refl
verb_reads verbs.End = refl
verb_reads verbs.Note = refl

verb_is : (a b c d e f : Bool) (t : List ℕ) (s : Verb)
    → pointwise nat_eq t (codes "move") ≡ a → pointwise nat_eq t (codes "start") ≡ b
    → pointwise nat_eq t (codes "stop") ≡ c → pointwise nat_eq t (codes "refresh") ≡ d
    → pointwise nat_eq t (codes "end") ≡ e → pointwise nat_eq t (codes "note") ≡ f
    → cond a (Some verbs.Move)
    (cond b (Some verbs.Start)
    (cond c (Some verbs.Stop)
    (cond d (Some verbs.Refresh) (cond e (Some verbs.End) (cond f (Some verbs.Note) None))))) ≡ Some s
    → t ≡ verb_text s
verb_is true b c d e f t s p q u v w x h = let is : verbs.Move ≡ s = cc in word t _ p ∙ ap verb_text is
verb_is false true c d e f t s p q u v w x h = let is : verbs.Start ≡ s = cc in word t _ q ∙ ap verb_text is
verb_is false false true d e f t s p q u v w x h = let is : verbs.Stop ≡ s = cc in word t _ u ∙ ap verb_text is
verb_is false false false true e f t s p q u v w x h = let is : verbs.Refresh ≡ s = cc in word t _ v ∙ ap verb_text is
verb_is false false false false true f t s p q u v w x h = let is : verbs.End ≡ s = cc in word t _ w ∙ ap verb_text is
verb_is false false false false false true t s p q u v w x h = let is : verbs.Note ≡ s = cc in
    word t _ x ∙ ap verb_text is
verb_is false false false false false false t s p q u v w x h = cc

verb_spaceless : (s : Verb) → no_space (verb_text s) ≡ true
verb_spaceless verbs.Move = refl
verb_spaceless verbs.Start = refl
verb_spaceless verbs.Stop = refl
verb_spaceless verbs.Refresh = refl
verb_spaceless verbs.End = refl
verb_spaceless verbs.Note = refl

pub verb : IsSpelling read_verb verb_text Any
verb = record {
  reads = λ s h. verb_reads s;
  spelled = λ t s h. (verb_is _ _ _ _ _ _ t s refl refl refl refl refl refl h, tt);
  spaceless = λ s h. verb_spaceless s;
}

flag_reads : (b : Bool) → read_flag (flag_text b) ≡ Some b
flag_reads false = refl
flag_reads true = refl

flag_is : (a b : Bool) (t : List ℕ) (s : Bool) → pointwise nat_eq t (codes "0") ≡ a
    → pointwise nat_eq t (codes "1") ≡ b → cond a (Some false) (cond b (Some true) None) ≡ Some s → t ≡ flag_text s
flag_is true b t s p q h = let is : false ≡ s = cc in word t _ p ∙ ap flag_text is
flag_is false true t s p q h = let is : true ≡ s = cc in word t _ q ∙ ap flag_text is
flag_is false false t s p q h = cc

flag_spaceless : (b : Bool) → no_space (flag_text b) ≡ true
flag_spaceless false = refl
flag_spaceless true = refl

pub flag : IsSpelling read_flag flag_text Any
flag = record {
  reads = λ s h. flag_reads s;
  spelled = λ t s h. (flag_is _ _ t s refl refl h, tt);
  spaceless = λ s h. flag_spaceless s;
}

-- asks are a number up to 255
asks_read : (n : ℕ) → n < 256 → asks_of (Some n) ≡ Some (record { 0 = n })
asks_read n h = let low : nat_lt n 256 ≡ true = lt-ltb n 256 h in rw low refl

asks_by : (v : Bool) (n : ℕ) (a : Asks) → nat_lt n 256 ≡ v → cond v (Some (record { 0 = n })) None ≡ Some a
    → (n ≡ a.0) × (a.0 < 256)
asks_by true n a e h = let is : ◌≡◌ {A = Asks} (record { 0 = n }) a = cc in let same : n ≡ a.0 =
    ap (λ (x : Asks). x.0) is in (same, rw (← same) (ltb-true n 256 e))
asks_by false n a e h = cc

asks_is : (o : Option ℕ) (t : List ℕ) (a : Asks) → read_count t ≡ o → asks_of o ≡ Some a
    → (t ≡ decimal a.0) × (a.0 < 256)
asks_is None t a e h = cc
asks_is (Some n) t a e h = let found = asks_by _ n a refl h in (read_is_printed t n e ∙ ap decimal found.0, found.1)

pub asks : IsSpelling read_asks (λ (a : Asks). decimal a.0) (λ a. a.0 < 256)
asks = record {
  reads = λ a h. ap asks_of (printed_is_read a.0 (omega arith)) ∙ asks_read a.0 h;
  spelled = λ t a h. asks_is (read_count t) t a refl h;
  spaceless = λ a h. decimal_spaceless a.0 (omega arith);
}

-- failures left out are a number up to 3
ignore_read : (n : ℕ) → n ≤ 3 → ignore_of (Some n) ≡ Some n
ignore_read n h = let low : nat_le n 3 ≡ true = grind (arith, nat_tests) in rw low refl

ignore_by : (v : Bool) (n m : ℕ) → nat_le n 3 ≡ v → cond v (Some n) None ≡ Some m → (n ≡ m) × (m ≤ 3)
ignore_by true n m e h = let is : n ≡ m = cc in let low : n ≤ 3 = grind (arith, nat_tests) in (is, rw (← is) low)
ignore_by false n m e h = cc

ignore_is : (o : Option ℕ) (t : List ℕ) (m : ℕ) → read_count t ≡ o → ignore_of o ≡ Some m → (t ≡ decimal m) × (m ≤ 3)
ignore_is None t m e h = cc
ignore_is (Some n) t m e h = let found = ignore_by _ n m refl h in (read_is_printed t n e ∙ ap decimal found.0, found.1)

pub ignore : IsSpelling read_ignore decimal (λ n. n ≤ 3)
ignore = record {
  reads = λ n h. ap ignore_of (printed_is_read n (omega arith)) ∙ ignore_read n h;
  spelled = λ t n h. ignore_is (read_count t) t n refl h;
  spaceless = λ n h. decimal_spaceless n (omega arith);
}

no_dash_number : read_count (codes "-") ≡ None
unfolding read_count
no_dash_number = refl

pub optional_number : IsSpelling (read_optional read_count) (optional_text decimal) (OptionalIn IsSmall)
optional_number = optional number no_dash_number

pub optional_state : IsSpelling (read_optional read_state) (optional_text state_text) (OptionalIn Any)
optional_state = optional state refl

pub optional_cause : IsSpelling (read_optional read_cause) (optional_text cause_text) (OptionalIn Any)
optional_cause = optional cause refl
