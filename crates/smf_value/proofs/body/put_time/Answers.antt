use Rattle.std.proofs.Common.{◌≡◌, ◌∙◌, ◌++◌, List, ℕ, ap, append_assoc}
use Rattle.std.specs.Int.{to_be_bytes, w32, w64}
use Rattle.smf_value.proofs.body.put_time.Goals as goal

pub returns-clause-put : goal.returns-clause-put
returns-clause-put c =
    let s : c.to_be_bytes.result ≡ to_be_bytes w64 c.args.time.seconds =
    c.to_be_bytes.ensures ∙ ap (to_be_bytes w64) c.seconds-seconds.ensures.value in
    let n : c.to_be_bytes-2.result ≡ to_be_bytes w32 c.args.time.nanoseconds =
    c.to_be_bytes-2.ensures ∙ ap (to_be_bytes w32) c.nanoseconds-nanoseconds.ensures.value in
    rw (c.in_ok-extend_from_slice-2.ensures.items, c.in_ok-extend_from_slice.ensures.items)
    (append_assoc c.args.out.now.items c.to_be_bytes.result c.to_be_bytes-2.result
    ∙ ap (λ (l : List ℕ). c.args.out.now.items ++ (l ++ c.to_be_bytes-2.result)) s
    ∙ ap (λ (l : List ℕ). c.args.out.now.items ++ (to_be_bytes w64 c.args.time.seconds ++ l)) n)
