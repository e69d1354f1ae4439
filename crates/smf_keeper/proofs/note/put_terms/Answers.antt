use Rattle.std.proofs.Common.{◌≡◌, ◌++◌, List, ℕ, ap, codes, rules, string_bytes}
use Rattle.std.specs.Fmt.{decimal}
use Rattle.smf_keeper.specs.Notes.{bit, field}
use Rattle.smf_keeper.proofs.Noting.{map_ok, put_last, put_more}
use Rattle.smf_keeper.proofs.note.put_terms.Goals as goal

pub returns : goal.returns
returns c =
    let f0 : List ℕ = field (codes "informative=") (decimal c.args.terms.informative.0) in
    let f1 : List ℕ = field (codes "critical=") (decimal c.args.terms.critical.0) in
    let f2 : List ℕ = field (codes "fatal=") (decimal c.args.terms.fatal.0) in
    let f3 : List ℕ = field (codes "inherit=") (decimal (bit c.args.terms.inherit)) in
    let f4 : List ℕ = field (codes "noorphan=") (decimal (bit c.args.terms.noorphan)) in
    let e0 : c.from.result ≡ c.args.terms.informative.0 = search rules in
    let e1 : c.from-2.result ≡ c.args.terms.critical.0 = search rules in
    let e2 : c.from-3.result ≡ c.args.terms.fatal.0 = search rules in
    let e3 : c.bit.result ≡ (bit c.args.terms.inherit) = search rules in
    let e4 : c.bit-2.result ≡ (bit c.args.terms.noorphan) = search rules in
    let s0 = put_last (string_bytes c.args.text.now) (string_bytes c.put_number.new.text) f0 (field (codes "informative=") (decimal c.from.result)) (ap (λ (x : ℕ). field (codes "informative=") (decimal x)) e0) c.in_ok-put_number.ensures in
    let s1 = put_more (string_bytes c.args.text.now) (string_bytes c.put_number.new.text) (string_bytes c.put_number-2.new.text) f0 f1 (field (codes "critical=") (decimal c.from-2.result))
    (ap (λ (x : ℕ). field (codes "critical=") (decimal x)) e1) s0 c.in_ok-put_number-2.ensures in
    let s2 = put_more (string_bytes c.args.text.now) (string_bytes c.put_number-2.new.text) (string_bytes c.put_number-3.new.text) (f0 ++ f1) f2 (field (codes "fatal=") (decimal c.from-3.result))
    (ap (λ (x : ℕ). field (codes "fatal=") (decimal x)) e2) s1 c.in_ok-put_number-3.ensures in
    let s3 = put_more (string_bytes c.args.text.now) (string_bytes c.put_number-3.new.text) (string_bytes c.put_number-4.new.text) ((f0 ++ f1) ++ f2) f3 (field (codes "inherit=") (decimal c.bit.result))
    (ap (λ (x : ℕ). field (codes "inherit=") (decimal x)) e3) s2 c.in_ok-put_number-4.ensures in
    map_ok c.put_number-5.result (string_bytes c.put_number-5.new.text ≡ string_bytes c.put_number-4.new.text ++ (field (codes "noorphan=") (decimal c.bit-2.result)))
    (string_bytes c.put_number-5.new.text ≡ string_bytes c.args.text.now ++ ((((f0 ++ f1) ++ f2) ++ f3) ++ f4))
    (put_more (string_bytes c.args.text.now) (string_bytes c.put_number-4.new.text) (string_bytes c.put_number-5.new.text) (((f0 ++ f1) ++ f2) ++ f3) f4 (field (codes "noorphan=") (decimal c.bit-2.result))
    (ap (λ (x : ℕ). field (codes "noorphan=") (decimal x)) e4) s3)
    c.put_number-5.ensures
