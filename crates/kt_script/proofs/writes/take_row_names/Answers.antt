use Rattle.std.proofs.Common.{◌∙◌, [], min, sym, ap, subst, arith}
use Rattle.std.specs.List.{list_any}
use Rattle.kt_cells.specs.Rules.{CellListFits}
use Rattle.kt_script.specs.declared.forms.OpForm.TheVariants as form
use Rattle.kt_script.specs.Reasons.{reason_if}
use Rattle.kt_script.specs.Writes.{names_now, must_be_named, all_named, rest_no, op_in}
use Rattle.kt_script.proofs.OpSpelled.{rest_spelled}
use Rattle.kt_script.proofs.OpWords.{row_names_least}
use Rattle.kt_script.proofs.writes.take_row_names.Goals as goal

pub put_named-requires : goal.put_named-requires
put_named-requires c = λ h.
    let others = c.other_columns-others.result.now in
    let words = op_in c.args.rest in
    let b = c.take_names.new.no in
    let last = c.note.ensures ∙ ap (min b) (c.left_out_no.ensures ∙ ap (λ ns. reason_if (list_any (must_be_named (names_now ns)) others) 15) c.deref.ensures.value) in
    let least = row_names_least others words (names_now c.in_ok-names.field-0.names.items) c.args.no.now b c.note.new.self c.in_ok-names.ensures.least c.in_ok-names.ensures.names last ∙ ap (λ cs. min c.args.no.now (rest_no cs form.RowNames words)) c.other_columns-others.ensures in
    let cells = c.in_ok-names.ensures.cells (omega (arith, h, last)) ∙ ap (λ cs. all_named cs [] words) c.other_columns-others.ensures in
    subst CellListFits (sym cells) (rest_spelled c.args.schema.now form.RowNames words c.requires (omega (arith, h, least)))

pub returns-clause-least : goal.returns-clause-least
returns-clause-least c =
    let others = c.other_columns-others.result.now in
    let words = op_in c.args.rest in
    let b = c.take_names.new.no in
    let last = c.note.ensures ∙ ap (min b) (c.left_out_no.ensures ∙ ap (λ ns. reason_if (list_any (must_be_named (names_now ns)) others) 15) c.deref.ensures.value) in
    row_names_least others words (names_now c.in_ok-names.field-0.names.items) c.args.no.now b c.note.new.self c.in_ok-names.ensures.least c.in_ok-names.ensures.names last ∙ ap (λ cs. min c.args.no.now (rest_no cs form.RowNames words)) c.other_columns-others.ensures
