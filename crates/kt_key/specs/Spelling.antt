-- The encoded key of key cells: their spellings in order.
use Rattle.std.specs.Prelude.{ℕ, List, [], ◌∷◌, ◌++◌}
use Rattle.kt_base.specs.declared.cell.Kind.{Kind}
use Rattle.kt_base.specs.declared.cell.Cell.{Cell}
use Rattle.kt_base.specs.declared.cell.Cell.TheVariants as cell
use Rattle.kt_base.specs.Keys.{width_of, number_key, escaped}

-- the last cell of a key: a text stands as it is
abbrev pub last_spelling : Kind → Cell → List ℕ
last_spelling kind (cell.Int n) = number_key (width_of kind) n
last_spelling kind (cell.Bytes bytes) = bytes
last_spelling kind _ = []

-- a cell with others behind it: a text is escaped, and ends with 00 00
abbrev pub inner_spelling : Kind → Cell → List ℕ
inner_spelling kind (cell.Int n) = number_key (width_of kind) n
inner_spelling kind (cell.Bytes bytes) = escaped bytes
inner_spelling kind _ = []

abbrev pub spelling : List Kind → List Cell → List ℕ
spelling [] cells = []
spelling (kind ∷ kinds) [] = []
spelling (kind ∷ []) (c ∷ cells) = last_spelling kind c
spelling (kind ∷ next ∷ kinds) (c ∷ cells) = inner_spelling kind c ++ spelling (next ∷ kinds) cells
