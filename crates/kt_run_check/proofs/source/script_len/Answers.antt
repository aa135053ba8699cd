use Rattle.std.proofs.Common.{◌∙◌, ◌∷◌, sym, ap, arith, length, length-append}
use Rattle.std.specs.Prelude.{if◌then◌else◌}
use Rattle.kt_run_check.proofs.Parts.{len_here, len_step, len_end}
use Rattle.kt_run_check.proofs.source.script_len.Goals as goal

pub returns-then-begins_opening-clause-len : goal.returns-then-begins_opening-clause-len
returns-then-begins_opening-clause-len c =
    let here = len_here c.lines.rest.now c.in-Some.line.now c.in-Some.behind.now c.in-Some.ensures.cut c.in-Some.ensures.first (sym c.begins_opening.ensures ∙ c.if-begins_opening.true) in
    omega (arith, c.lines.invariant.len, here)

pub lines-preserved : goal.lines-preserved
lines-preserved c =
    let step = len_step c.lines.rest.now c.in-Some.line.now c.in-Some.behind.now c.in-Some.ensures.cut c.in-Some.ensures.first (sym c.begins_opening.ensures ∙ c.if-begins_opening.false) in
    record {
      len = omega (arith, c.lines.invariant.len, step);
      size = omega (arith, c.lines.invariant.size, ap length c.in-Some.ensures.cut, length-append c.in-Some.line.now (10 ∷ c.in-Some.behind.now));
    }

pub returns-then-begins_opening-2-clause-len : goal.returns-then-begins_opening-2-clause-len
returns-then-begins_opening-2-clause-len c =
    let end = len_end c.lines.rest.now c.in_default.ensures.none in
    let here = ap (λ b. if b then 0 else length c.lines.rest.now) (sym c.begins_opening-2.ensures ∙ c.if-begins_opening-2.true) in
    omega (arith, c.lines.invariant.len, end, here)

pub returns-else-begins_opening-2-clause-len : goal.returns-else-begins_opening-2-clause-len
returns-else-begins_opening-2-clause-len c =
    let end = len_end c.lines.rest.now c.in_default.ensures.none in
    let here = ap (λ b. if b then 0 else length c.lines.rest.now) (sym c.begins_opening-2.ensures ∙ c.if-begins_opening-2.false) in
    omega (arith, c.lines.invariant.len, c.lines.invariant.size, end, here)
