-- The words of answers: what is written is read, and what is read was written so.
use Rattle.std.proofs.Common.{◌≡◌, ℕ, ◌<◌, ◌^◌, List, Bool, true, false, cond, Option, Some, None, refl, sym, subst, ◌∙◌, ap, arith, codes, nat_lt, ltb-true, lt-ltb}
use Rattle.std.specs.Cmp.Lexicographic.{pointwise}
use Rattle.std.specs.Fmt.{decimal}
use Rattle.std.specs.Prelude.{nat_eq}
use Rattle.smf_fmri.specs.Counts.{no_space, read_count}
use Rattle.smf_fmri.proofs.Counts.{decimal_spaceless, printed_is_read, read_is_printed}
use Rattle.smf_fmri.proofs.Patterns.{same_text}
use Rattle.smf_edge.specs.declared.stand.FirstEnd.{FirstEnd}
use Rattle.smf_edge.specs.declared.stand.FirstEnd.TheVariants.{Code, Signal, Core}
use Rattle.smf_state.proofs.Lines.{IsSpelling}
use Rattle.smf_state.proofs.Words.{Any}
use Rattle.smf_record.specs.declared.answer.EndAnswer.{EndAnswer}
use Rattle.smf_record.specs.declared.answer.EndAnswer.TheVariants.{Ended, Lives, Failed}
use Rattle.smf_record.specs.declared.answer.StartEnd.{StartEnd}
use Rattle.smf_record.specs.declared.answer.StartEnd.TheVariants.{Made, Refused, NoMemory}
use Rattle.smf_record.specs.declared.word.Word.{Word}
use Rattle.smf_record.specs.declared.word.Word.TheVariants as words
use Rattle.smf_record.specs.Words.{IsEnd, end_answer_text, end_of_count, end_text, nanoseconds_of, read_end, read_end_answer, read_nanoseconds, read_start_end, read_word, start_end_text, word_text}

-- ---- the word that an answer begins with

word_reads : (w : Word) → read_word (word_text w) ≡ Some w
word_reads words.Tick = refl
word_reads words.Request = refl
word_reads words.End = refl
word_reads words.Leave = refl
word_reads words.Replied = refl
word_reads words.Time = refl
word_reads words.Start = refl
word_reads words.Runs = refl
word_reads words.Left = refl
word_reads words.Gone = refl
word_reads words.Lost = refl
word_reads words.Ends = refl

word_is : (p0 p1 p2 p3 p4 p5 p6 p7 p8 p9 p10 p11 : Bool) (t : List ℕ) (w : Word)
    → pointwise nat_eq t (codes "tick") ≡ p0
    → pointwise nat_eq t (codes "request") ≡ p1
    → pointwise nat_eq t (codes "end") ≡ p2
    → pointwise nat_eq t (codes "leave") ≡ p3
    → pointwise nat_eq t (codes "replied") ≡ p4
    → pointwise nat_eq t (codes "time") ≡ p5
    → pointwise nat_eq t (codes "start") ≡ p6
    → pointwise nat_eq t (codes "runs") ≡ p7
    → pointwise nat_eq t (codes "left") ≡ p8
    → pointwise nat_eq t (codes "gone") ≡ p9
    → pointwise nat_eq t (codes "lost") ≡ p10
    → pointwise nat_eq t (codes "ends") ≡ p11
    → cond p0 (Some words.Tick)
    (cond p1 (Some words.Request)
    (cond p2 (Some words.End)
    (cond p3 (Some words.Leave)
    (cond p4 (Some words.Replied)
    (cond p5 (Some words.Time)
    (cond p6 (Some words.Start)
    (cond p7 (Some words.Runs)
    (cond p8 (Some words.Left)
    (cond p9 (Some words.Gone)
    (cond p10 (Some words.Lost)
    (cond p11 (Some words.Ends)
    None)))))))))))
    ≡ Some w → t ≡ word_text w
word_is true p1 p2 p3 p4 p5 p6 p7 p8 p9 p10 p11 t w e0 e1 e2 e3 e4 e5 e6 e7 e8 e9 e10 e11 h = let is : words.Tick ≡ w = cc in
    (same_text t _).0 e0 ∙ ap word_text is
word_is false true p2 p3 p4 p5 p6 p7 p8 p9 p10 p11 t w e0 e1 e2 e3 e4 e5 e6 e7 e8 e9 e10 e11 h = let is : words.Request ≡ w = cc in
    (same_text t _).0 e1 ∙ ap word_text is
word_is false false true p3 p4 p5 p6 p7 p8 p9 p10 p11 t w e0 e1 e2 e3 e4 e5 e6 e7 e8 e9 e10 e11 h = let is : words.End ≡ w = cc in
    (same_text t _).0 e2 ∙ ap word_text is
word_is false false false true p4 p5 p6 p7 p8 p9 p10 p11 t w e0 e1 e2 e3 e4 e5 e6 e7 e8 e9 e10 e11 h = let is : words.Leave ≡ w = cc in
    (same_text t _).0 e3 ∙ ap word_text is
word_is false false false false true p5 p6 p7 p8 p9 p10 p11 t w e0 e1 e2 e3 e4 e5 e6 e7 e8 e9 e10 e11 h = let is : words.Replied ≡ w = cc in
    (same_text t _).0 e4 ∙ ap word_text is
word_is false false false false false true p6 p7 p8 p9 p10 p11 t w e0 e1 e2 e3 e4 e5 e6 e7 e8 e9 e10 e11 h = let is : words.Time ≡ w = cc in
    (same_text t _).0 e5 ∙ ap word_text is
word_is false false false false false false true p7 p8 p9 p10 p11 t w e0 e1 e2 e3 e4 e5 e6 e7 e8 e9 e10 e11 h = let is : words.Start ≡ w = cc in
    (same_text t _).0 e6 ∙ ap word_text is
word_is false false false false false false false true p8 p9 p10 p11 t w e0 e1 e2 e3 e4 e5 e6 e7 e8 e9 e10 e11 h = let is : words.Runs ≡ w = cc in
    (same_text t _).0 e7 ∙ ap word_text is
word_is false false false false false false false false true p9 p10 p11 t w e0 e1 e2 e3 e4 e5 e6 e7 e8 e9 e10 e11 h = let is : words.Left ≡ w = cc in
    (same_text t _).0 e8 ∙ ap word_text is
word_is false false false false false false false false false true p10 p11 t w e0 e1 e2 e3 e4 e5 e6 e7 e8 e9 e10 e11 h = let is : words.Gone ≡ w = cc in
    (same_text t _).0 e9 ∙ ap word_text is
word_is false false false false false false false false false false true p11 t w e0 e1 e2 e3 e4 e5 e6 e7 e8 e9 e10 e11 h = let is : words.Lost ≡ w = cc in
    (same_text t _).0 e10 ∙ ap word_text is
word_is false false false false false false false false false false false true t w e0 e1 e2 e3 e4 e5 e6 e7 e8 e9 e10 e11 h = let is : words.Ends ≡ w = cc in
    (same_text t _).0 e11 ∙ ap word_text is
word_is false false false false false false false false false false false false t w e0 e1 e2 e3 e4 e5 e6 e7 e8 e9 e10 e11 h = cc

word_spaceless : (w : Word) → no_space (word_text w) ≡ true
word_spaceless words.Tick = refl
word_spaceless words.Request = refl
word_spaceless words.End = refl
word_spaceless words.Leave = refl
word_spaceless words.Replied = refl
word_spaceless words.Time = refl
word_spaceless words.Start = refl
word_spaceless words.Runs = refl
word_spaceless words.Left = refl
word_spaceless words.Gone = refl
word_spaceless words.Lost = refl
word_spaceless words.Ends = refl

pub word : IsSpelling read_word word_text Any
word = record {
  reads = λ w h. word_reads w;
  spelled = λ t w h. (word_is _ _ _ _ _ _ _ _ _ _ _ _ t w refl refl refl refl refl refl refl refl refl refl refl refl h, tt);
  spaceless = λ w h. word_spaceless w;
}

-- ---- how a start ended

start_end_reads : (w : StartEnd) → read_start_end (start_end_text w) ≡ Some w
start_end_reads Made = refl
start_end_reads Refused = refl
start_end_reads NoMemory = refl

start_end_is : (p0 p1 p2 : Bool) (t : List ℕ) (w : StartEnd)
    → pointwise nat_eq t (codes "made") ≡ p0
    → pointwise nat_eq t (codes "refused") ≡ p1
    → pointwise nat_eq t (codes "memory") ≡ p2
    → cond p0 (Some Made)
    (cond p1 (Some Refused)
    (cond p2 (Some NoMemory)
    None))
    ≡ Some w → t ≡ start_end_text w
start_end_is true p1 p2 t w e0 e1 e2 h = let is : Made ≡ w = cc in
    (same_text t _).0 e0 ∙ ap start_end_text is
start_end_is false true p2 t w e0 e1 e2 h = let is : Refused ≡ w = cc in
    (same_text t _).0 e1 ∙ ap start_end_text is
start_end_is false false true t w e0 e1 e2 h = let is : NoMemory ≡ w = cc in
    (same_text t _).0 e2 ∙ ap start_end_text is
start_end_is false false false t w e0 e1 e2 h = cc

start_end_spaceless : (w : StartEnd) → no_space (start_end_text w) ≡ true
start_end_spaceless Made = refl
start_end_spaceless Refused = refl
start_end_spaceless NoMemory = refl

pub start_end : IsSpelling read_start_end start_end_text Any
start_end = record {
  reads = λ w h. start_end_reads w;
  spelled = λ t w h. (start_end_is _ _ _ t w refl refl refl h, tt);
  spaceless = λ w h. start_end_spaceless w;
}

-- ---- whether a contract ended

end_answer_reads : (w : EndAnswer) → read_end_answer (end_answer_text w) ≡ Some w
end_answer_reads Ended = refl
end_answer_reads Lives = refl
end_answer_reads Failed = refl

end_answer_is : (p0 p1 p2 : Bool) (t : List ℕ) (w : EndAnswer)
    → pointwise nat_eq t (codes "ended") ≡ p0
    → pointwise nat_eq t (codes "lives") ≡ p1
    → pointwise nat_eq t (codes "failed") ≡ p2
    → cond p0 (Some Ended)
    (cond p1 (Some Lives)
    (cond p2 (Some Failed)
    None))
    ≡ Some w → t ≡ end_answer_text w
end_answer_is true p1 p2 t w e0 e1 e2 h = let is : Ended ≡ w = cc in
    (same_text t _).0 e0 ∙ ap end_answer_text is
end_answer_is false true p2 t w e0 e1 e2 h = let is : Lives ≡ w = cc in
    (same_text t _).0 e1 ∙ ap end_answer_text is
end_answer_is false false true t w e0 e1 e2 h = let is : Failed ≡ w = cc in
    (same_text t _).0 e2 ∙ ap end_answer_text is
end_answer_is false false false t w e0 e1 e2 h = cc

end_answer_spaceless : (w : EndAnswer) → no_space (end_answer_text w) ≡ true
end_answer_spaceless Ended = refl
end_answer_spaceless Lives = refl
end_answer_spaceless Failed = refl

pub end_answer : IsSpelling read_end_answer end_answer_text Any
end_answer = record {
  reads = λ w h. end_answer_reads w;
  spelled = λ t w h. (end_answer_is _ _ _ t w refl refl refl h, tt);
  spaceless = λ w h. end_answer_spaceless w;
}

-- ---- how a first process ended

-- a text that is read by a reader is no word that it does not read
other_word : {X : Type 0} (v : Bool) (read : List ℕ → Option X) (t w : List ℕ) (x : X) → pointwise nat_eq t w ≡ v
    → read t ≡ Some x → read w ≡ None → v ≡ false
other_word true read t w x e h none =
    let is : t ≡ w = (same_text t w).0 e in
    let k : read w ≡ Some x = rw is at h in
    cc
other_word false read t w x e h none = refl

signal_is_no_count : read_count (codes "signal") ≡ None
unfolding read_count
signal_is_no_count = refl

core_is_no_count : read_count (codes "core") ≡ None
unfolding read_count
core_is_no_count = refl

code_read : (n : ℕ) → n < 256 → end_of_count (Some n) ≡ Some (Code n)
code_read n h = let low : nat_lt n 256 ≡ true = lt-ltb n 256 h in rw low refl

code_reads : (n : ℕ) → n < 256 → read_end (decimal n) ≡ Some (Code n)
code_reads n h =
    let again : read_count (decimal n) ≡ Some n = printed_is_read n (omega arith) in
    let signal : pointwise nat_eq (decimal n) (codes "signal") ≡ false =
    other_word _ read_count (decimal n) (codes "signal") n refl again signal_is_no_count in
    let core : pointwise nat_eq (decimal n) (codes "core") ≡ false =
    other_word _ read_count (decimal n) (codes "core") n refl again core_is_no_count in
    rw (signal, core, again) (code_read n h)

end_reads : (e : FirstEnd) → IsEnd e → read_end (end_text e) ≡ Some e
end_reads (Code n) h = code_reads n h
end_reads Signal h = refl
end_reads Core h = refl

code_by : (v : Bool) (n : ℕ) (e : FirstEnd) → nat_lt n 256 ≡ v → cond v (Some (Code n)) None ≡ Some e
    → (e ≡ Code n) × (n < 256)
code_by true n e low h = let is : e ≡ Code n = cc in (is, ltb-true n 256 low)
code_by false n e low h = cc

code_is : (o : Option ℕ) (t : List ℕ) (e : FirstEnd) → read_count t ≡ o → end_of_count o ≡ Some e
    → (t ≡ end_text e) × IsEnd e
code_is None t e is h = cc
code_is (Some n) t e is h =
    let found = code_by _ n e refl h in
    let P : FirstEnd → Type 0 = λ x. (t ≡ end_text x) × IsEnd x in
    subst P (sym found.0) (read_is_printed t n is, found.1)

end_is : (a b : Bool) (t : List ℕ) (e : FirstEnd)
    → pointwise nat_eq t (codes "signal") ≡ a → pointwise nat_eq t (codes "core") ≡ b
    → cond a (Some Signal) (cond b (Some Core) (end_of_count (read_count t))) ≡ Some e → (t ≡ end_text e) × IsEnd e
end_is true b t e p q h =
    let is : Signal ≡ e = cc in
    let P : FirstEnd → Type 0 = λ x. (t ≡ end_text x) × IsEnd x in
    subst P is ((same_text t _).0 p, tt)
end_is false true t e p q h =
    let is : Core ≡ e = cc in
    let P : FirstEnd → Type 0 = λ x. (t ≡ end_text x) × IsEnd x in
    subst P is ((same_text t _).0 q, tt)
end_is false false t e p q h = code_is (read_count t) t e refl h

end_spaceless : (e : FirstEnd) → IsEnd e → no_space (end_text e) ≡ true
end_spaceless (Code n) h = decimal_spaceless n (omega arith)
end_spaceless Signal h = refl
end_spaceless Core h = refl

pub first_end : IsSpelling read_end end_text IsEnd
first_end = record {
  reads = end_reads;
  spelled = λ t e h. end_is _ _ t e refl refl h;
  spaceless = end_spaceless;
}

-- ---- nanoseconds

few_read : (n : ℕ) → n < 1000000000 → nanoseconds_of (Some n) ≡ Some n
few_read n h = let low : nat_lt n 1000000000 ≡ true = lt-ltb n 1000000000 h in rw low refl

few_by : (v : Bool) (n m : ℕ) → nat_lt n 1000000000 ≡ v → cond v (Some n) None ≡ Some m
    → (n ≡ m) × (m < 1000000000)
few_by true n m e h = let is : n ≡ m = cc in let low : n < 1000000000 = ltb-true n 1000000000 e in (is, rw (← is) low)
few_by false n m e h = cc

few_is : (o : Option ℕ) (t : List ℕ) (m : ℕ) → read_count t ≡ o → nanoseconds_of o ≡ Some m
    → (t ≡ decimal m) × (m < 1000000000)
few_is None t m e h = cc
few_is (Some n) t m e h = let found = few_by _ n m refl h in (read_is_printed t n e ∙ ap decimal found.0, found.1)

pub nanoseconds : IsSpelling read_nanoseconds decimal (λ n. n < 1000000000)
nanoseconds = record {
  reads = λ n h. ap nanoseconds_of (printed_is_read n (omega arith)) ∙ few_read n h;
  spelled = λ t n h. few_is (read_count t) t n refl h;
  spaceless = λ n h. decimal_spaceless n (omega arith);
}
