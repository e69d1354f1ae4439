use Rattle.std.proofs.Common.{◌≡◌, ◌++◌, ◌∷◌, [], ◌<◌, List, ℕ, ap, arith, ne_eqb, string_bytes, ◌∙◌}
use Rattle.smf_method.specs.Tokens.{names_of}
use Rattle.smf_method.proofs.TokenSteps.{puts_bare, puts_token}
use Rattle.smf_method.proofs.tokens.put_byte.Goals as goal

pub returns-then-is_behind_percent : goal.returns-then-is_behind_percent
returns-then-is_behind_percent c =
    let names = names_of c.args.restarter.now c.args.method c.args.instance.now in
    let old = string_bytes c.args.text.now in
    rw c.if-is_behind_percent.true
    (puts_token names c.args.b old (string_bytes c.push_str.new.self)
    (c.in_ok-push_str.ensures.bytes ∙ ap (λ (l : List ℕ). old ++ l) c.token_text.ensures))

pub returns : goal.returns
returns c =
    let names = names_of c.args.restarter.now c.args.method c.args.instance.now in
    let old = string_bytes c.args.text.now in
    let same : c.from.result ≡ c.args.b = c.from.ensures in
    let low : c.from.result < 128 = omega arith in
    rw c.if-is_behind_percent.false
    (puts_bare names c.args.b old (string_bytes c.push.new.self) (ne_eqb c.args.b 37 c.if-b-eq37.false)
    (c.in_ok-push.ensures.bytes
    ∙ ap (λ (l : List ℕ). old ++ l) (c.in_ok-push.ensures.ascii low ∙ ap (λ (k : ℕ). k ∷ []) same)))
