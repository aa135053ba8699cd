-- A change that is placed, and its bytes.
use Rattle.std.proofs.Common.{◌≡◌, ◌≢◌, ℕ, ◌-◌, ◌<◌, ◌≤◌, List, [], ◌∷◌, ◌++◌, length, Result, Ok, Err, Some, None, refl, ap, ◌∙◌, arith}
use Rattle.kt_cells.specs.Spelling.{cell_list}
use Rattle.kt_cells.specs.Rules.{CellListFits}
use Rattle.kt_cells.specs.Reading.{cells_at, cells_behind}
use Rattle.kt_cells.specs.Spelled.{SpellsCells}
use Rattle.kt_cells.proofs.Cells.{cells_again}
use Rattle.kt_cells.proofs.Spelled.{read_back, spelled}
use Rattle.kt_history.specs.declared.operation.OpKind.TheVariants.{Delete}
use Rattle.kt_history.specs.declared.target.Kindly.{Kindly}
use Rattle.kt_history.specs.declared.target.Kindly.TheVariants.{Ins, Upd, Del}
use Rattle.kt_history.specs.Rows.{Row}
use Rattle.kt_history.specs.Stores.{change_of}
use Rattle.kt_history.proofs.Lengths.{length-operation}
use Rattle.kt_pool.specs.Contents.{Contents, Stands, at_cell, bytes_at, cells_of, cells_for, with_place}
use Rattle.kt_pool.proofs.Callers.{at_other, size_same, reserved_after, bytes_placed}
use Rattle.kt_pool.proofs.Standing.{stands_there}
use Rattle.kt_tree.specs.Takes.{Takes}
use Rattle.kt_tree.proofs.Places.{used_after}
use Rattle.kt_dms.specs.Changes.{kind_byte, kind_of, spelling, change_len, change_in, SpellsChange}

kind_again : (k : Kindly) → kind_of (kind_byte k) ≡ k
kind_again Ins = refl
kind_again Upd = refl
kind_again Del = refl

pub length-spelling : (kind : Kindly) (cells : Row) → length (spelling kind cells) ≡ change_len cells
length-spelling kind cells = let n = length-operation (record { kind = Delete; key = []; cells = cells }) in omega arith

-- what some bytes spell is read back
pub change_again : (kind : Kindly) (cells : Row) → CellListFits cells → change_in (spelling kind cells) ≡ change_of kind cells
change_again kind cells fits = ap (λ k. change_of k (cells_behind (cell_list cells))) (kind_again kind) ∙ ap (change_of kind) (read_back cells fits)

pub spelling_spells : (kind : Kindly) (cells : Row) → CellListFits cells → SpellsChange (spelling kind cells)
spelling_spells kind cells fits = spelled cells fits

-- a change has bytes
pub cells_long : (bytes : List ℕ) → SpellsCells bytes → 2 ≤ length bytes
cells_long bytes s =
    let e = ap length s.is in
    let n = length-operation (record { kind = Delete; key = []; cells = cells_behind bytes }) in
    omega arith

pub change_long : (bytes : List ℕ) → SpellsChange bytes → 3 ≤ length bytes
change_long [] s = let l = cells_long [] s in absurd (omega arith)
change_long (b ∷ bytes) s = let l = cells_long bytes s in omega arith

pub change_stands : (pool : Contents) (cell : ℕ) → SpellsChange (bytes_at pool cell) → Stands pool cell
change_stands pool cell s = let l = change_long (bytes_at pool cell) s in stands_there pool cell 0 (omega arith)

-- cells that have a spelling are read
pub cells_read : (bytes : List ℕ) → SpellsCells bytes → cells_at bytes ≡ Ok (cells_behind bytes, [])
cells_read bytes s =
    let again = cells_again (cells_behind bytes) [] s.fits in
    ap cells_at s.is ∙ ap cells_at (nil_behind (cell_list (cells_behind bytes))) ∙ again
  where
    nil_behind : (xs : List ℕ) → xs ≡ xs ++ []
    nil_behind [] = refl
    nil_behind (x ∷ xs) = ap (λ ys. x ∷ ys) (nil_behind xs)

pub not_refused : (bytes : List ℕ) (left : ℕ) → SpellsCells bytes → cells_at bytes ≡ Err left → ⊥
not_refused bytes left s e = differ (cells_at bytes) (cells_behind bytes, []) left (cells_read bytes s) e
  where
    differ : (r : Result (Row × List ℕ) ℕ) (x : Row × List ℕ) (left : ℕ) → r ≡ Ok x → r ≡ Err left → ⊥
    differ r x left a b = cc

pub cells_are : (bytes : List ℕ) (x : Row × List ℕ) → SpellsCells bytes → cells_at bytes ≡ Ok x → x.0 ≡ cells_behind bytes
cells_are bytes x s e = same (cells_at bytes) (cells_behind bytes, []) x (cells_read bytes s) e
  where
    same : (r : Result (Row × List ℕ) ℕ) (a b : Row × List ℕ) → r ≡ Ok a → r ≡ Ok b → b.0 ≡ a.0
    same r a b e f = let h : b ≡ a = cc in ap (λ (p : Row × List ℕ). p.0) h

-- ---- a change that is placed

module _ (kind : Kindly) (cells : Row) (first behind : List ℕ) (is : first ≡ kind_byte kind ∷ []) (spells : behind ≡ cell_list cells) where
  bytes_are : first ++ behind ≡ spelling kind cells
  bytes_are = ap (λ xs. xs ++ behind) is ∙ ap (λ xs. kind_byte kind ∷ xs) spells

  pub placed_need : cells_for (length (first ++ behind)) ≡ cells_for (change_len cells)
  placed_need = ap cells_for (ap length bytes_are ∙ length-spelling kind cells)

  module _ (old new : Contents) (cell : ℕ) (vacant : at_cell old cell ≡ None) (inside : cell < length old.places) (e : new ≡ with_place old cell (Some (first ++ behind)) (old.reserved - cells_for (length (first ++ behind)))) where
    pub placed_bytes : bytes_at new cell ≡ spelling kind cells
    placed_bytes = bytes_placed old new cell (first ++ behind) (old.reserved - cells_for (length (first ++ behind))) e inside ∙ bytes_are

    pub placed_others : (k : ℕ) → k ≢ cell → at_cell new k ≡ at_cell old k
    placed_others = at_other old new cell (Some (first ++ behind)) (old.reserved - cells_for (length (first ++ behind))) e

    pub placed_takes : Takes old new (cells_for (change_len cells))
    placed_takes =
        let need = placed_need in
        record {
          size = size_same old new cell (Some (first ++ behind)) (old.reserved - cells_for (length (first ++ behind))) e;
          reserved = reserved_after old new cell (Some (first ++ behind)) (old.reserved - cells_for (length (first ++ behind))) e ∙ ap (λ n. old.reserved - n) need;
          used =
              let u = used_after old new cell (Some (first ++ behind)) (old.reserved - cells_for (length (first ++ behind))) e inside in
              let none : cells_of (at_cell old cell) ≡ 0 = ap cells_of vacant in
              omega arith;
        }
