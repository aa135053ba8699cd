use Rattle.std.proofs.Common.{◌≡◌, not, ◌∙◌, ap, length, arith}
use Rattle.std.proofs.lemmas.List.Sums.{prefix_len-le-length}
use Rattle.std.specs.List.{position_or_len}
use Rattle.std.specs.Option.{unwrap_or}
use Rattle.kt_base.specs.Literals.{is_escaped}
use Rattle.kt_base.proofs.Strings.{front_is}
use Rattle.kt_base.proofs.plain.plain_tail.Goals as goal

pub returns-clause-first : goal.returns-clause-first
returns-clause-first c =
    c.unwrap_or.ensures ∙ (ap (λ o. unwrap_or o (length c.args.bytes.now)) c.escaped_at.ensures ∙ front_is is_escaped c.args.bytes.now)

pub returns-clause-within : goal.returns-clause-within
returns-clause-within c =
    let first : c.unwrap_or.result ≡ position_or_len is_escaped c.args.bytes.now = c.unwrap_or.ensures ∙ (ap (λ o. unwrap_or o (length c.args.bytes.now)) c.escaped_at.ensures ∙ front_is is_escaped c.args.bytes.now) in
    omega (arith, first, prefix_len-le-length (λ b. not (is_escaped b)) c.args.bytes.now)
