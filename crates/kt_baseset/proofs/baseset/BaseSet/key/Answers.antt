use Rattle.std.proofs.Common.{◌<◌, ◌∙◌, sym, ap, length, arith}
use Rattle.kt_baseset.specs.Tables.{BaseValue, keys_of, bytes_of, key_at}
use Rattle.kt_baseset.proofs.Found.{rows_count, count_keys, key_bytes, key_there}
use Rattle.kt_baseset.proofs.baseset.BaseSet.key.Goals as goal

pub cell-requires : goal.cell-requires
cell-requires c =
    let inside = c.self.inside in
    omega (arith, c.requires, count_keys inside.keys.cells, rows_count (keys_of inside.keys.cells) inside.columns.items, ap (λ (v : BaseValue). length v.rows) c.self.view_is)

pub returns : goal.returns
returns c =
    let inside = c.self.inside in
    let keys = keys_of inside.keys.cells in
    let n = count_keys inside.keys.cells in
    let lt : c.args.ordinal < length keys = omega (arith, c.requires, rows_count keys inside.columns.items, ap (λ (v : BaseValue). length v.rows) c.self.view_is) in
    c.bytes_in.ensures ∙ ap bytes_of c.in_ok-cell.ensures ∙ key_bytes inside.keys.cells c.args.ordinal (omega (arith, lt, n)) ∙ sym (key_there keys inside.columns.items c.args.ordinal lt) ∙ ap (λ (v : BaseValue). key_at v.rows c.args.ordinal) c.self.view_is
