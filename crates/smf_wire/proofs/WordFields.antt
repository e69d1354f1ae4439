-- The words of messages: what is written is read, and what is read was written so.
use Rattle.std.proofs.Common.{◌≡◌, ℕ, List, Bool, true, false, cond, Some, None, refl, ◌∙◌, ap, codes}
use Rattle.std.specs.Cmp.Lexicographic.{pointwise}
use Rattle.std.specs.Prelude.{nat_eq}
use Rattle.smf_fmri.specs.Counts.{no_space}
use Rattle.smf_fmri.proofs.Patterns.{same_text}
use Rattle.smf_state.specs.declared.refusal.Why.{Why}
use Rattle.smf_state.specs.declared.refusal.Why.TheVariants as reasons
use Rattle.smf_state.specs.declared.fault.StepFault.TheVariants.{Exhausted, StillLive, NotLive, NoEdge}
use Rattle.smf_state.proofs.Lines.{IsSpelling}
use Rattle.smf_state.proofs.Words.{Any}
use Rattle.smf_wire.specs.Grammar.{read_close}
use Rattle.smf_wire.specs.Words.{message_word_text, order_word_text, read_message_word, read_order_word, read_why, why_text}
use Rattle.smf_wire.specs.declared.word.MessageWord.{MessageWord}
use Rattle.smf_wire.specs.declared.word.MessageWord.TheVariants as words
use Rattle.smf_wire.specs.declared.word.OrderWord.{OrderWord}
use Rattle.smf_wire.specs.declared.word.OrderWord.TheVariants as order_words

message_word_reads : (s : MessageWord) → read_message_word (message_word_text s) ≡ Some s
message_word_reads words.Join = refl
message_word_reads words.Rows = refl
message_word_reads words.Propose = refl
message_word_reads words.Ack = refl
message_word_reads words.Nack = refl
message_word_reads words.AskView = refl
message_word_reads words.View = refl
message_word_reads words.AskChange = refl
message_word_reads words.Changes = refl
message_word_reads words.Order = refl

message_word_is : (p0 p1 p2 p3 p4 p5 p6 p7 p8 p9 : Bool) (t : List ℕ) (s : MessageWord)
    → pointwise nat_eq t (codes "join") ≡ p0 → pointwise nat_eq t (codes "rows") ≡ p1
    → pointwise nat_eq t (codes "propose") ≡ p2 → pointwise nat_eq t (codes "ack") ≡ p3
    → pointwise nat_eq t (codes "nack") ≡ p4 → pointwise nat_eq t (codes "askview") ≡ p5
    → pointwise nat_eq t (codes "view") ≡ p6 → pointwise nat_eq t (codes "order") ≡ p7
    → pointwise nat_eq t (codes "askchange") ≡ p8 → pointwise nat_eq t (codes "changes") ≡ p9
    → cond p0 (Some words.Join)
    (cond p1 (Some words.Rows)
    (cond p2 (Some words.Propose)
    (cond p3 (Some words.Ack)
    (cond p4 (Some words.Nack)
    (cond p5 (Some words.AskView)
    (cond p6 (Some words.View)
    (cond p7 (Some words.Order) (cond p8 (Some words.AskChange) (cond p9 (Some words.Changes) None)))))))))
    ≡ Some s → t ≡ message_word_text s
message_word_is true p1 p2 p3 p4 p5 p6 p7 p8 p9 t s e0 e1 e2 e3 e4 e5 e6 e7 e8 e9 h = let is : words.Join ≡ s = cc in
    (same_text t _).0 e0 ∙ ap message_word_text is
message_word_is false true p2 p3 p4 p5 p6 p7 p8 p9 t s e0 e1 e2 e3 e4 e5 e6 e7 e8 e9 h = let is : words.Rows ≡ s =
    cc in (same_text t _).0 e1 ∙ ap message_word_text is
message_word_is false false true p3 p4 p5 p6 p7 p8 p9 t s e0 e1 e2 e3 e4 e5 e6 e7 e8 e9 h =
    let is : words.Propose ≡ s = cc in (same_text t _).0 e2 ∙ ap message_word_text is
message_word_is false false false true p4 p5 p6 p7 p8 p9 t s e0 e1 e2 e3 e4 e5 e6 e7 e8 e9 h =
    let is : words.Ack ≡ s = cc in (same_text t _).0 e3 ∙ ap message_word_text is
message_word_is false false false false true p5 p6 p7 p8 p9 t s e0 e1 e2 e3 e4 e5 e6 e7 e8 e9 h =
    let is : words.Nack ≡ s = cc in (same_text t _).0 e4 ∙ ap message_word_text is
message_word_is false false false false false true p6 p7 p8 p9 t s e0 e1 e2 e3 e4 e5 e6 e7 e8 e9 h =
    let is : words.AskView ≡ s = cc in (same_text t _).0 e5 ∙ ap message_word_text is
message_word_is false false false false false false true p7 p8 p9 t s e0 e1 e2 e3 e4 e5 e6 e7 e8 e9 h =
    let is : words.View ≡ s = cc in (same_text t _).0 e6 ∙ ap message_word_text is
message_word_is false false false false false false false true p8 p9 t s e0 e1 e2 e3 e4 e5 e6 e7 e8 e9 h =
    let is : words.Order ≡ s = cc in (same_text t _).0 e7 ∙ ap message_word_text is
message_word_is false false false false false false false false true p9 t s e0 e1 e2 e3 e4 e5 e6 e7 e8 e9 h =
    let is : words.AskChange ≡ s = cc in (same_text t _).0 e8 ∙ ap message_word_text is
message_word_is false false false false false false false false false true t s e0 e1 e2 e3 e4 e5 e6 e7 e8 e9 h =
    let is : words.Changes ≡ s = cc in (same_text t _).0 e9 ∙ ap message_word_text is
message_word_is false false false false false false false false false false t s e0 e1 e2 e3 e4 e5 e6 e7 e8 e9 h = cc

message_word_spaceless : (s : MessageWord) → no_space (message_word_text s) ≡ true
message_word_spaceless words.Join = refl
message_word_spaceless words.Rows = refl
message_word_spaceless words.Propose = refl
message_word_spaceless words.Ack = refl
message_word_spaceless words.Nack = refl
message_word_spaceless words.AskView = refl
message_word_spaceless words.View = refl
message_word_spaceless words.AskChange = refl
message_word_spaceless words.Changes = refl
message_word_spaceless words.Order = refl

pub message_word : IsSpelling read_message_word message_word_text Any
message_word = record {
  reads = λ s h. message_word_reads s;
  spelled = λ t s h. (
    message_word_is _ _ _ _ _ _ _
        _ _ _ t s refl refl refl refl refl refl refl refl refl refl h,
    tt,
  );
  spaceless = λ s h. message_word_spaceless s;
}

order_word_reads : (s : OrderWord) → read_order_word (order_word_text s) ≡ Some s
order_word_reads order_words.To = refl
order_word_reads order_words.Start = refl
order_word_reads order_words.Stop = refl
order_word_reads order_words.Refresh = refl

order_word_is : (p0 p1 p2 p3 : Bool) (t : List ℕ) (s : OrderWord)
    → pointwise nat_eq t (codes "to") ≡ p0 → pointwise nat_eq t (codes "start") ≡ p1
    → pointwise nat_eq t (codes "stop") ≡ p2 → pointwise nat_eq t (codes "refresh") ≡ p3
    → cond p0 (Some order_words.To)
    (cond p1 (Some order_words.Start) (cond p2 (Some order_words.Stop) (cond p3 (Some order_words.Refresh) None)))
    ≡ Some s → t ≡ order_word_text s
order_word_is true p1 p2 p3 t s e0 e1 e2 e3 h = let is : order_words.To ≡ s = cc in
    (same_text t _).0 e0 ∙ ap order_word_text is
order_word_is false true p2 p3 t s e0 e1 e2 e3 h = let is : order_words.Start ≡ s = cc in
    (same_text t _).0 e1 ∙ ap order_word_text is
order_word_is false false true p3 t s e0 e1 e2 e3 h = let is : order_words.Stop ≡ s = cc in
    (same_text t _).0 e2 ∙ ap order_word_text is
order_word_is false false false true t s e0 e1 e2 e3 h = let is : order_words.Refresh ≡ s = cc in
    (same_text t _).0 e3 ∙ ap order_word_text is
order_word_is false false false false t s e0 e1 e2 e3 h = cc

order_word_spaceless : (s : OrderWord) → no_space (order_word_text s) ≡ true
order_word_spaceless order_words.To = refl
order_word_spaceless order_words.Start = refl
order_word_spaceless order_words.Stop = refl
order_word_spaceless order_words.Refresh = refl

pub order_word : IsSpelling read_order_word order_word_text Any
order_word = record {
  reads = λ s h. order_word_reads s;
  spelled = λ t s h. (order_word_is _ _ _ _ t s refl refl refl refl h, tt);
  spaceless = λ s h. order_word_spaceless s;
}

why_reads : (s : Why) → read_why (why_text s) ≡ Some s
why_reads reasons.NoSuch = refl
why_reads reasons.Launch = refl
why_reads reasons.Owner = refl
why_reads reasons.Number = refl
why_reads reasons.Snapshot = refl
why_reads (reasons.Step Exhausted) = refl
why_reads (reasons.Step StillLive) = refl
why_reads (reasons.Step NotLive) = refl
why_reads (reasons.Step NoEdge) = refl

why_is : (p0 p1 p2 p3 p4 p5 p6 p7 p8 : Bool) (t : List ℕ) (s : Why)
    → pointwise nat_eq t (codes "nosuch") ≡ p0 → pointwise nat_eq t (codes "launch") ≡ p1
    → pointwise nat_eq t (codes "owner") ≡ p2 → pointwise nat_eq t (codes "number") ≡ p3
    → pointwise nat_eq t (codes "snapshot") ≡ p4 → pointwise nat_eq t (codes "exhausted") ≡ p5
    → pointwise nat_eq t (codes "live") ≡ p6 → pointwise nat_eq t (codes "notlive") ≡ p7
    → pointwise nat_eq t (codes "edge") ≡ p8
    → cond p0 (Some reasons.NoSuch)
    (cond p1 (Some reasons.Launch)
    (cond p2 (Some reasons.Owner)
    (cond p3 (Some reasons.Number)
    (cond p4 (Some reasons.Snapshot)
    (cond p5 (Some (reasons.Step Exhausted))
    (cond p6 (Some (reasons.Step StillLive))
    (cond p7 (Some (reasons.Step NotLive)) (cond p8 (Some (reasons.Step NoEdge)) None)))))))) ≡ Some s
    → t ≡ why_text s
why_is true p1 p2 p3 p4 p5 p6 p7 p8 t s e0 e1 e2 e3 e4 e5 e6 e7 e8 h = let is : reasons.NoSuch ≡ s = cc in
    (same_text t _).0 e0 ∙ ap why_text is
why_is false true p2 p3 p4 p5 p6 p7 p8 t s e0 e1 e2 e3 e4 e5 e6 e7 e8 h = let is : reasons.Launch ≡ s = cc in
    (same_text t _).0 e1 ∙ ap why_text is
why_is false false true p3 p4 p5 p6 p7 p8 t s e0 e1 e2 e3 e4 e5 e6 e7 e8 h = let is : reasons.Owner ≡ s = cc in
    (same_text t _).0 e2 ∙ ap why_text is
why_is false false false true p4 p5 p6 p7 p8 t s e0 e1 e2 e3 e4 e5 e6 e7 e8 h = let is : reasons.Number ≡ s = cc in
    (same_text t _).0 e3 ∙ ap why_text is
why_is false false false false true p5 p6 p7 p8 t s e0 e1 e2 e3 e4 e5 e6 e7 e8 h = let is : reasons.Snapshot ≡ s =
    cc in (same_text t _).0 e4 ∙ ap why_text is
why_is false false false false false true p6 p7 p8 t s e0 e1 e2 e3 e4 e5 e6 e7 e8 h =
    let is : (reasons.Step Exhausted) ≡ s = cc in (same_text t _).0 e5 ∙ ap why_text is
why_is false false false false false false true p7 p8 t s e0 e1 e2 e3 e4 e5 e6 e7 e8 h =
    let is : (reasons.Step StillLive) ≡ s = cc in (same_text t _).0 e6 ∙ ap why_text is
why_is false false false false false false false true p8 t s e0 e1 e2 e3 e4 e5 e6 e7 e8 h =
    let is : (reasons.Step NotLive) ≡ s = cc in (same_text t _).0 e7 ∙ ap why_text is
why_is false false false false false false false false true t s e0 e1 e2 e3 e4 e5 e6 e7 e8 h =
    let is : (reasons.Step NoEdge) ≡ s = cc in (same_text t _).0 e8 ∙ ap why_text is
why_is false false false false false false false false false t s e0 e1 e2 e3 e4 e5 e6 e7 e8 h = cc

why_spaceless : (s : Why) → no_space (why_text s) ≡ true
why_spaceless reasons.NoSuch = refl
why_spaceless reasons.Launch = refl
why_spaceless reasons.Owner = refl
why_spaceless reasons.Number = refl
why_spaceless reasons.Snapshot = refl
why_spaceless (reasons.Step Exhausted) = refl
why_spaceless (reasons.Step StillLive) = refl
why_spaceless (reasons.Step NotLive) = refl
why_spaceless (reasons.Step NoEdge) = refl

pub why : IsSpelling read_why why_text Any
why = record {
  reads = λ s h. why_reads s;
  spelled = λ t s h. (
    why_is _ _ _ _ _ _ _
        _ _ t s refl refl refl refl refl refl refl refl refl h,
    tt,
  );
  spaceless = λ s h. why_spaceless s;
}

close_by : (v : Bool) (t : List ℕ) (x : Unit {0}) → pointwise nat_eq t (codes ".") ≡ v
    → cond v (Some tt) None ≡ Some x → t ≡ codes "."
close_by true t x e h = (same_text t _).0 e
close_by false t x e h = cc

abbrev pub close_text : Unit {0} → List ℕ
close_text x = codes "."

-- the field that closes a line
pub close : IsSpelling read_close close_text Any
close = record {
  reads = λ x h. refl;
  spelled = λ t x h. (close_by _ t x refl h, tt);
  spaceless = λ x h. refl;
}
