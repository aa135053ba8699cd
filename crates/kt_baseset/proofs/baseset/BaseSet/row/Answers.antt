use Rattle.std.proofs.Common.{◌≡◌, ◌<◌, ℕ, List, ◌∙◌, sym, ap, length, arith}
use Rattle.std.proofs.lemmas.List.Elements.{All-same}
use Rattle.kt_base.specs.declared.cell.Cell.{Cell}
use Rattle.kt_baseset.specs.declared.held.HeldColumn.{HeldColumn}
use Rattle.kt_baseset.specs.Tables.{BaseValue, keys_of, cells_in, row_at, HasCells}
use Rattle.kt_baseset.proofs.Found.{rows_count, have_cells, cells_there}
use Rattle.kt_baseset.proofs.Whole.{if_ok}
use Rattle.kt_baseset.proofs.baseset.BaseSet.row.Goals as goal

pub row_of-requires : goal.row_of-requires
row_of-requires c =
    let inside = c.self.inside in
    let keys = keys_of inside.keys.cells in
    let lt : c.args.ordinal < length keys = omega (arith, c.requires, rows_count keys inside.columns.items, ap (λ (v : BaseValue). length v.rows) c.self.view_is) in
    All-same (HasCells c.args.ordinal) c.deref.result.now inside.columns.items c.deref.ensures.value (have_cells (length keys) inside.columns.items c.args.ordinal c.self.invariant.each lt)

pub returns : goal.returns
returns c =
    let inside = c.self.inside in
    let keys = keys_of inside.keys.cells in
    let i = c.args.ordinal in
    let lt : i < length keys = omega (arith, c.requires, rows_count keys inside.columns.items, ap (λ (v : BaseValue). length v.rows) c.self.view_is) in
    let P : List (ℕ × Cell) → Type 0 = λ row. row ≡ row_at c.deref.result.now i in
    let Q : List (ℕ × Cell) → Type 0 = λ row. row ≡ cells_in c.args.self.now.rows i in
    if_ok P Q c.row_of.result (λ row e. e ∙ ap (λ (cs : List HeldColumn). row_at cs i) c.deref.ensures.value ∙ sym (cells_there keys inside.columns.items i lt) ∙ ap (λ (v : BaseValue). cells_in v.rows i) c.self.view_is) c.row_of.ensures
