-- The order of keys, column by column.
use Rattle.std.specs.Prelude.{◌≡◌, List, true}
use Rattle.std.specs.declared.cmp.Ordering.{Ordering}
use Rattle.std.specs.declared.cmp.Ordering.TheVariants.{Equal}
use Rattle.std.specs.Ordering.{nat_cmp, int_cmp}
use Rattle.std.specs.Cmp.Lexicographic.{slice_cmp}
use Rattle.kt_base.specs.declared.cell.Kind.{Kind}
use Rattle.kt_base.specs.declared.cell.Cell.{Cell}
use Rattle.kt_base.specs.declared.cell.Cell.TheVariants as cell
use Rattle.kt_key.specs.Fit.{is_key}
use Rattle.kt_key.specs.Spelling.{spelling}

-- how two key cells of one kind compare: numbers as numbers, texts by their bytes
abbrev pub cell_cmp : Cell → Cell → Ordering
cell_cmp (cell.Int m) (cell.Int n) = int_cmp m n
cell_cmp (cell.Bytes xs) (cell.Bytes ys) = slice_cmp nat_cmp xs ys
cell_cmp _ _ = Equal

-- how two keys compare: the first cells that differ decide
abbrev pub cells_cmp : List Cell → List Cell → Ordering
cells_cmp = slice_cmp cell_cmp

-- encoded keys compare by bytes as the keys do
abbrev pub order_is_kept : Type 0
order_is_kept = (kinds : List Kind) (a b : List Cell) → is_key kinds a ≡ true → is_key kinds b ≡ true → slice_cmp nat_cmp (spelling kinds a) (spelling kinds b) ≡ cells_cmp a b

-- no two keys have one spelling
abbrev pub spellings_differ : Type 0
spellings_differ = (kinds : List Kind) (a b : List Cell) → is_key kinds a ≡ true → is_key kinds b ≡ true → spelling kinds a ≡ spelling kinds b → a ≡ b
