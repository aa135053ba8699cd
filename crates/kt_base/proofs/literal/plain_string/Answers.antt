use Rattle.std.proofs.Common.{sym, ◌∙◌}
use Rattle.kt_base.proofs.Decimals.{same_text}
use Rattle.kt_base.proofs.Unquoting.{run_quoted}
use Rattle.kt_base.proofs.literal.plain_string.Goals as goal

pub returns-then-eq : goal.returns-then-eq
returns-then-eq c =
    run_quoted c.args.inside.now c.cut_plain.result.0.now c.cut_plain.result.1.now c.cut_plain.ensures.cut c.cut_plain.ensures.plain (same_text c.cut_plain.result.1.now c.as_slice.result.now (sym c.if-eq.ensures) ∙ c.as_slice.ensures)
