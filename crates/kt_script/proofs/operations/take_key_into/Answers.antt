use Rattle.std.proofs.Common.{◌∙◌, sym, ap, arith}
use Rattle.kt_key.specs.Fit.{is_key}
use Rattle.kt_schema.specs.Columns.{key_kinds}
use Rattle.kt_script.specs.Writes.{op_in}
use Rattle.kt_script.proofs.KeyCells.{key_fits}
use Rattle.kt_script.proofs.operations.take_key_into.Goals as goal

pub spell_key-requires : goal.spell_key-requires
spell_key-requires c = λ h.
    let cells = rw c.key_columns-columns.ensures.value at c.in-Some.ensures.cells in
    let sound = rw c.key_columns-columns.ensures.value at c.in-Some.ensures.sound in
    ap (is_key (key_kinds c.args.schema.now)) (sym cells) ∙ key_fits c.args.schema.now (op_in c.args.rest) c.key_columns-columns.ensures.fit (omega (arith, sound))

pub spell_key-requires-2 : goal.spell_key-requires-2
spell_key-requires-2 c = λ h.
    let least = rw c.key_columns-columns.ensures.value at c.in_ok-left.ensures.least in
    let cells = rw c.key_columns-columns.ensures.value at c.in_ok-left.ensures.cells in
    ap (is_key (key_kinds c.args.schema.now)) (c.deref.ensures.value ∙ cells) ∙ key_fits c.args.schema.now (op_in c.args.rest) c.key_columns-columns.ensures.fit (omega (arith, h, least))
