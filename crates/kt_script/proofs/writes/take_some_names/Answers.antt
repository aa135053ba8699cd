use Rattle.std.proofs.Common.{◌∙◌, [], sym, ap, subst, arith}
use Rattle.kt_cells.specs.Rules.{CellListFits}
use Rattle.kt_script.specs.declared.forms.OpForm.TheVariants as form
use Rattle.kt_script.specs.Writes.{all_named, all_named_no, op_in}
use Rattle.kt_script.proofs.OpSpelled.{rest_spelled}
use Rattle.kt_script.proofs.writes.take_some_names.Goals as goal

pub put_named-requires : goal.put_named-requires
put_named-requires c = λ h.
    let words = op_in c.args.rest in
    let named = ap (λ cs. all_named_no cs [] words) c.other_columns.ensures in
    let cells = c.in_ok-cells.ensures.cells (omega (arith, h)) ∙ ap (λ cs. all_named cs [] words) c.other_columns.ensures in
    subst CellListFits (sym cells) (rest_spelled c.args.schema.now form.Names words c.requires (omega (arith, h, named, c.in_ok-cells.ensures.least, c.note.ensures, c.missing_no.ensures)))
