use Rattle.std.proofs.Common.{◌≡◌, ◌++◌, List, ℕ, ap, codes, refl, string_bytes}
use Rattle.smf_edge.specs.declared.environment.Variable.TheVariants.{Path, Fmri, Method, Restarter}
use Rattle.smf_method.specs.Tokens.{method_text}
use Rattle.smf_keeper.specs.Notes.{field, variable_field}
use Rattle.smf_keeper.proofs.Noting.{map_ok, put_last, put_more}
use Rattle.smf_keeper.proofs.note.put_method.Goals as goal

pub returns : goal.returns
returns c =
    let start = c.args.start.now in
    let old = string_bytes c.args.text.now in
    let f0 : List ℕ = field (codes "method=") (method_text start.method) in
    let f1 : List ℕ = field (codes "fmri=") start.instance in
    let f2 : List ℕ = variable_field start Path in
    let f3 : List ℕ = variable_field start Fmri in
    let f4 : List ℕ = variable_field start Method in
    let f5 : List ℕ = variable_field start Restarter in
    let f6 : List ℕ = field (codes "arg=") (codes "/bin/sh") in
    let f7 : List ℕ = field (codes "arg=") (codes "-c") in
    let f8 : List ℕ = field (codes "arg=") start.command in
    let s0 = put_last old (string_bytes c.put.new.text) f0 (field (codes "method=") c.method_text.result.now)
    (ap (λ (x : List ℕ). field (codes "method=") x) c.method_text.ensures) c.in_ok-put.ensures in
    let s1 = put_more old (string_bytes c.put.new.text) (string_bytes c.put-2.new.text) f0 f1
    (field (codes "fmri=") c.print.result.now) (ap (λ (x : List ℕ). field (codes "fmri=") x) c.print.ensures.text) s0
    c.in_ok-put-2.ensures in
    let s2 = put_more old (string_bytes c.put-2.new.text) (string_bytes c.put_variable.new.text) (f0 ++ f1) f2 f2 refl s1
    c.in_ok-put_variable.ensures in
    let s3 = put_more old (string_bytes c.put_variable.new.text) (string_bytes c.put_variable-2.new.text)
    ((f0 ++ f1) ++ f2) f3 f3 refl s2 c.in_ok-put_variable-2.ensures in
    let s4 = put_more old (string_bytes c.put_variable-2.new.text) (string_bytes c.put_variable-3.new.text)
    (((f0 ++ f1) ++ f2) ++ f3) f4 f4 refl s3 c.in_ok-put_variable-3.ensures in
    let s5 = put_more old (string_bytes c.put_variable-3.new.text) (string_bytes c.put_variable-4.new.text)
    ((((f0 ++ f1) ++ f2) ++ f3) ++ f4) f5 f5 refl s4 c.in_ok-put_variable-4.ensures in
    let s6 = put_more old (string_bytes c.put_variable-4.new.text) (string_bytes c.put-3.new.text)
    (((((f0 ++ f1) ++ f2) ++ f3) ++ f4) ++ f5) f6 f6 refl s5 c.in_ok-put-3.ensures in
    let s7 = put_more old (string_bytes c.put-3.new.text) (string_bytes c.put-4.new.text)
    ((((((f0 ++ f1) ++ f2) ++ f3) ++ f4) ++ f5) ++ f6) f7 f7 refl s6 c.in_ok-put-4.ensures in
    map_ok c.put-5.result
    (string_bytes c.put-5.new.text ≡ string_bytes c.put-4.new.text ++ field (codes "arg=") c.as_str.result.now)
    (string_bytes c.put-5.new.text ≡ old ++ ((((((((f0 ++ f1) ++ f2) ++ f3) ++ f4) ++ f5) ++ f6) ++ f7) ++ f8))
    (put_more old (string_bytes c.put-4.new.text) (string_bytes c.put-5.new.text)
    (((((((f0 ++ f1) ++ f2) ++ f3) ++ f4) ++ f5) ++ f6) ++ f7) f8 (field (codes "arg=") c.as_str.result.now)
    (ap (λ (x : List ℕ). field (codes "arg=") x) c.as_str.ensures.value) s7)
    c.put-5.ensures
