use Rattle.std.proofs.Common.{◌≡◌, ◌<◌, ◌++◌, ℕ, List, ◌∙◌, sym, ap, length, arith}
use Rattle.std.proofs.lemmas.List.Elements.{All-same}
use Rattle.std.proofs.lemmas.Result.{on_ok_weaker}
use Rattle.kt_base.specs.declared.cell.Cell.{Cell}
use Rattle.kt_baseset.specs.declared.held.HeldColumn.{HeldColumn}
use Rattle.kt_baseset.specs.Asked.{cells_asked}
use Rattle.kt_baseset.specs.Tables.{BaseValue, keys_of, cells_in, row_at, HasCells}
use Rattle.kt_baseset.proofs.Found.{rows_count, have_cells, cells_there}
use Rattle.kt_baseset.proofs.baseset.BaseSet.push_asked.Goals as goal

pub push_asked-requires : goal.push_asked-requires
push_asked-requires c =
    let inside = c.self.inside in
    let keys = keys_of inside.keys.cells in
    let lt : c.args.ordinal < length keys = omega (arith, c.requires, rows_count keys inside.columns.items, ap (λ (v : BaseValue). length v.rows) c.self.view_is) in
    All-same (HasCells c.args.ordinal) c.deref.result.now inside.columns.items c.deref.ensures.value (have_cells (length keys) inside.columns.items c.args.ordinal c.self.invariant.each lt)

pub returns : goal.returns
returns c =
    let inside = c.self.inside in
    let keys = keys_of inside.keys.cells in
    let i = c.args.ordinal in
    let lt : i < length keys = omega (arith, c.requires, rows_count keys inside.columns.items, ap (λ (v : BaseValue). length v.rows) c.self.view_is) in
    let is : row_at c.deref.result.now i ≡ cells_in c.args.self.now.rows i = ap (λ (cs : List HeldColumn). row_at cs i) c.deref.ensures.value ∙ sym (cells_there keys inside.columns.items i lt) ∙ ap (λ (v : BaseValue). cells_in v.rows i) c.self.view_is in
    on_ok_weaker c.push_asked.result (λ e. e ∙ ap (λ (row : List (ℕ × Cell)). c.args.cells.now.items ++ cells_asked c.args.columns.now row) is) c.push_asked.ensures
