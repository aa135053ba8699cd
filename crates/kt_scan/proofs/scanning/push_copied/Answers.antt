use Rattle.std.proofs.Common.{◌≡◌, ◌++◌, Option, Some, None, List, cond, map, sym, ap, ◌∙◌, subst}
use Rattle.std.specs.Prelude.{OnOk}
use Rattle.std.specs.Option.{option_to_list}
use Rattle.kt_base.specs.declared.cell.Cell.{Cell}
use Rattle.kt_base.specs.declared.cell_ref.CellRef.{CellRef}
use Rattle.kt_base.specs.Borrowed.{cell_in}
use Rattle.kt_base.specs.Keys.{key_cells}
use Rattle.kt_schema.specs.Columns.{key_kinds}
use Rattle.kt_scan.specs.Encoded.{keys_of}
use Rattle.kt_scan.specs.Live.{row_in}
use Rattle.kt_scan.specs.Lines.{line_of}
use Rattle.kt_scan.proofs.Named.{cut_read}
use Rattle.kt_scan.proofs.scanning.push_copied.Goals as goal

pub returns : goal.returns
returns g c =
    let schema = c.args.asked.now.schema.now in
    let scan = c.args.asked.now.scan.now in
    let key = c.args.key.now in
    let told : row_in g.V.View.row_of c.args.views.now key c.args.t ≡ Some c.row_into.new.row =
    c.in_ok-row_into.ensures ∙ ap (λ b. cond b (Some c.row_into.new.row) None) c.if-not-branch.false in
    let read : map cell_in c.push_borrowed.new.refs.items ≡ key_cells (key_kinds schema) key =
    c.in_ok-push_borrowed.ensures ∙ ap (λ (refs : List CellRef). map cell_in refs ++ c.deref.result.now) c.new-row.ensures ∙ c.deref.ensures.value ∙ c.in_ok-read_key.ensures ∙ ap (λ kinds. key_cells kinds key) c.key_kinds.ensures in
    subst (λ (line : Option (List Cell)). OnOk c.push_cut.result (c.push_cut.new.rows ≡ c.args.rows.now ++ option_to_list line))
    (cut_read schema scan key (map cell_in c.push_borrowed.new.refs.items) c.row_into.new.row read ∙ ap (line_of (keys_of schema) scan key) (sym told))
    c.push_cut.ensures
