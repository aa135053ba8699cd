use Rattle.std.proofs.Common.{◌≡◌, length, get_or, ◌∙◌, arith, ap, refl}
use Rattle.std.specs.List.{between}
use Rattle.std.proofs.lemmas.List.{get_or_read}
use Rattle.kt_bytes.specs.Cuts.{start_at}
use Rattle.kt_bytes.proofs.Cuts.{cut_start, cut_end}
use Rattle.kt_history.proofs.Flat.{rows_are, row_is}
use Rattle.kt_history.proofs.row_list.RowList.at.Goals as goal

pub start_at-start-requires : goal.start_at-start-requires
start_at-start-requires c = omega (arith, rows_are c.self.inside.ends.items c.self.inside.cells.items c.self.inside.texts c.args.self.now c.self.view_is)

pub index-requires : goal.index-requires
index-requires c = omega (arith, rows_are c.self.inside.ends.items c.self.inside.cells.items c.self.inside.texts c.args.self.now c.self.view_is)

pub part-cells-requires-clause-in_order : goal.part-cells-requires-clause-in_order
part-cells-requires-clause-in_order c =
    let n = rows_are c.self.inside.ends.items c.self.inside.cells.items c.self.inside.texts c.args.self.now c.self.view_is in
    let stop : c.index.result.now ≡ get_or c.self.inside.ends.items c.args.at 0 = get_or_read c.self.inside.ends.items c.args.at c.index.result.now (omega arith) c.index.ensures 0 in
    let start : c.start_at-start.result ≡ start_at 0 c.self.inside.ends.items c.args.at = c.start_at-start.ensures ∙ ap (λ xs. start_at 0 xs c.args.at) c.deref.ensures.value in
    omega (arith, cut_start 0 c.self.inside.ends.items (length c.self.inside.cells.items) c.args.at c.self.invariant.0 (omega arith))

pub part-cells-requires-clause-inside : goal.part-cells-requires-clause-inside
part-cells-requires-clause-inside c =
    let n = rows_are c.self.inside.ends.items c.self.inside.cells.items c.self.inside.texts c.args.self.now c.self.view_is in
    let stop : c.index.result.now ≡ get_or c.self.inside.ends.items c.args.at 0 = get_or_read c.self.inside.ends.items c.args.at c.index.result.now (omega arith) c.index.ensures 0 in
    omega (arith, cut_end 0 c.self.inside.ends.items (length c.self.inside.cells.items) c.args.at c.self.invariant.0 (omega arith))

pub returns : goal.returns
returns c =
    let n = rows_are c.self.inside.ends.items c.self.inside.cells.items c.self.inside.texts c.args.self.now c.self.view_is in
    let stop : c.index.result.now ≡ get_or c.self.inside.ends.items c.args.at 0 = get_or_read c.self.inside.ends.items c.args.at c.index.result.now (omega arith) c.index.ensures 0 in
    let start : c.start_at-start.result ≡ start_at 0 c.self.inside.ends.items c.args.at = c.start_at-start.ensures ∙ ap (λ xs. start_at 0 xs c.args.at) c.deref.ensures.value in
    let part : c.part-cells.result.now ≡ between (start_at 0 c.self.inside.ends.items c.args.at) (get_or c.self.inside.ends.items c.args.at 0) c.self.inside.cells.items = rw (c.part-cells.ensures, stop, start, c.deref-2.ensures.value) refl in
    row_is c.self.inside.ends.items c.self.inside.cells.items c.self.inside.texts c.args.self.now c.args.at c.part-cells.result.now c.self.view_is c.requires part
