-- Bytes written over others, and a change that is placed.
use Rattle.std.proofs.Common.{◌≡◌, ◌≢◌, ℕ, ◌+◌, ◌-◌, ◌<◌, ◌≤◌, List, ◌++◌, length, take, drop, Some, None, ap, ◌∙◌, arith, length-append, length-drop}
use Rattle.std.proofs.lemmas.List.{length-take-le}
use Rattle.kt_pool.specs.Contents.{Contents, Stands, at_cell, bytes_at, cells_of, cells_for, with_place, overwritten}
use Rattle.kt_pool.proofs.Callers.{at_same, at_other, size_same, reserved_after, bytes_placed, stands_placed}
use Rattle.kt_tree.proofs.Places.{stands_inside, some_bytes, used_after}
use Rattle.kt_history.specs.Rows.{Row}
use Rattle.kt_cells.specs.Rules.{CellListFits}
use Rattle.kt_cells.specs.Spelling.{cell_list}
use Rattle.kt_memrowset.specs.declared.link.Head.{Head}
use Rattle.kt_memrowset.specs.Links.{nothing, front, spelling, HeadFits, IsLink}
use Rattle.kt_memrowset.specs.Stores.{link_need}
use Rattle.kt_tree.specs.Takes.{Takes}
use Rattle.kt_memrowset.specs.Writes.{Keeps}
use Rattle.kt_memrowset.proofs.Links.{length-spelling, length-cells}

-- bytes that are written over others of a place
module _ (old new : Contents) (cell at : ℕ) (piece : List ℕ) (e : new ≡ with_place old cell (Some (overwritten at piece (bytes_at old cell))) old.reserved) (s : Stands old cell) (room : at + length piece ≤ length (bytes_at old cell)) where
  over_is : bytes_at new cell ≡ overwritten at piece (bytes_at old cell)
  over_is = bytes_placed old new cell (overwritten at piece (bytes_at old cell)) old.reserved e (stands_inside old cell s)

  front_long : length (take at (bytes_at old cell) ++ piece) ≡ at + length piece
  front_long = omega (arith, length-append (take at (bytes_at old cell)) piece, length-take-le at (bytes_at old cell) (omega arith))

  over_long : length (overwritten at piece (bytes_at old cell)) ≡ length (bytes_at old cell)
  over_long = let f = front_long in omega (arith, length-append (take at (bytes_at old cell) ++ piece) (drop (at + length piece) (bytes_at old cell)), length-drop (at + length piece) (bytes_at old cell))

  pub set_keeps : Keeps old new cell
  set_keeps = record {
    long = ap length over_is ∙ over_long;
    stands = stands_placed old new cell (overwritten at piece (bytes_at old cell)) old.reserved e (stands_inside old cell s);
    others = at_other old new cell (Some (overwritten at piece (bytes_at old cell))) old.reserved e;
    size = size_same old new cell (Some (overwritten at piece (bytes_at old cell))) old.reserved e;
    reserved = reserved_after old new cell (Some (overwritten at piece (bytes_at old cell))) old.reserved e;
    used =
        let u = used_after old new cell (Some (overwritten at piece (bytes_at old cell))) old.reserved e (stands_inside old cell s) in
        let now : cells_of (Some (overwritten at piece (bytes_at old cell))) ≡ cells_for (length (bytes_at old cell)) = ap cells_for over_long in
        let was : cells_of (at_cell old cell) ≡ cells_for (length (bytes_at old cell)) = ap cells_of (some_bytes old cell s) in
        omega arith;
  }

-- a change that is placed, with its cells as they are spelled
module _ (h : Head) (cells : Row) (first spelled : List ℕ) (is : first ≡ front h) (spells : spelled ≡ cell_list cells) where
  bytes_are : first ++ spelled ≡ spelling h cells
  bytes_are = ap (λ xs. xs ++ spelled) is ∙ ap (λ xs. front h ++ xs) spells

  pub placed_need : cells_for (length (first ++ spelled)) ≡ link_need cells
  placed_need = let b = ap length bytes_are in let n = length-spelling h cells in let s = length-cells cells in ap cells_for (omega arith)

  module _ (old new : Contents) (cell : ℕ) (vacant : at_cell old cell ≡ None) (inside : cell < length old.places) (e : new ≡ with_place old cell (Some (first ++ spelled)) (old.reserved - cells_for (length (first ++ spelled)))) where
    pub placed_others : (k : ℕ) → k ≢ cell → at_cell new k ≡ at_cell old k
    placed_others = at_other old new cell (Some (first ++ spelled)) (old.reserved - cells_for (length (first ++ spelled))) e

    pub placed_takes : Takes old new (link_need cells)
    placed_takes =
        let need = placed_need in
        record {
          size = size_same old new cell (Some (first ++ spelled)) (old.reserved - cells_for (length (first ++ spelled))) e;
          reserved = reserved_after old new cell (Some (first ++ spelled)) (old.reserved - cells_for (length (first ++ spelled))) e ∙ ap (λ n. old.reserved - n) need;
          used =
              let u = used_after old new cell (Some (first ++ spelled)) (old.reserved - cells_for (length (first ++ spelled))) e inside in
              let none : cells_of (at_cell old cell) ≡ 0 = ap cells_of vacant in
              omega arith;
        }

    pub placed_link : cell < nothing → HeadFits h → CellListFits cells → IsLink new (record { cell = cell; head = h; cells = cells })
    placed_link small head fits = record {
      inside = small;
      bytes = at_same old new cell (Some (first ++ spelled)) (old.reserved - cells_for (length (first ++ spelled))) e inside ∙ ap (λ xs. Some xs) bytes_are;
      head = head;
      cells = record { count = fits.count; each = fits.each };
    }
