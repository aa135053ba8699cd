use Rattle.std.proofs.Common.{◌∙◌, sym, subst, arith, length, List, ℕ, ℤ, All, ap}
use Rattle.kt_plain.specs.Widths.{IsInWidth}
use Rattle.kt_rle.specs.Spelling.{Spells}
use Rattle.kt_rle.proofs.Held.{are_runs, held_spells, length-numbers_of}
use Rattle.kt_rle.proofs.encoding.encode.Goals as goal

pub spelled-requires-clause-are : goal.spelled-requires-clause-are
spelled-requires-clause-are c =
    let held = c.runs.ensures.held in
    are_runs c.args.width 0 c.runs.result.now held.rise held.differ (subst (All (IsInWidth c.args.width)) (sym c.runs.ensures.same) c.requires.1)

pub spelled-requires-clause-few : goal.spelled-requires-clause-few
spelled-requires-clause-few c =
    let same = ap (λ (zs : List ℤ). length zs) c.runs.ensures.same in
    let few = c.requires.0 in
    omega (arith, length-numbers_of c.runs.result.now c.runs.ensures.held.rise, same, few)

pub returns-clause-ok : goal.returns-clause-ok
returns-clause-ok c =
    subst (λ (bytes : List ℕ). Spells c.args.width (length c.args.cells.now) c.args.cells.now bytes) (sym (c.of.ensures ∙ c.in_ok-bytes.ensures))
    (held_spells c.args.width c.runs.result.now c.args.cells.now c.runs.ensures.held c.runs.ensures.same c.requires.0 c.requires.1)
