use Rattle.std.proofs.Common.{◌≡◌, map, take}
use Rattle.kt_tablet.specs.Copies.{mark_of, copied_rows, read_mark, read_rows}
use Rattle.kt_tablet.proofs.snap.read_all.Given as goal

abbrev pub invariant-copies : goal.invariant-copies
invariant-copies g l = record {
  marks : map read_mark l.views.items ≡ map mark_of (take l.copy-index l.copies);
  rows : map (read_rows l.t) l.views.items ≡ map (copied_rows g.V.StoreRows.row_of l.t) (take l.copy-index l.copies);
}
