-- The keys of a schema, as bytes.
use Rattle.std.specs.Prelude.{◌≡◌, ℕ, List, map}
use Rattle.std.specs.List.{zip}
use Rattle.kt_base.specs.declared.cell.Kind.{Kind}
use Rattle.kt_base.specs.declared.cell.Cell.{Cell}
use Rattle.kt_base.specs.Keys.{key_cells}
use Rattle.kt_key.specs.Reading.{Spells}
use Rattle.kt_schema.specs.declared.column.Column.{Column}
use Rattle.kt_schema.specs.Columns.{key_columns, other_columns}

-- the ids and kinds of the key columns
abbrev pub keys_of : List Column → List (ℕ × Kind)
keys_of columns = map (λ c. (c.id, c.kind)) (key_columns columns)

-- the ids and kinds of the other columns
abbrev pub others_of : List Column → List (ℕ × Kind)
others_of columns = map (λ c. (c.id, c.kind)) (other_columns columns)

-- what key cells are spelled as, they are read from
abbrev pub keys_are_read : Type 0
keys_are_read = (kinds : List Kind) (cells : List Cell) (bytes : List ℕ) → Spells kinds cells bytes → key_cells kinds bytes ≡ cells

-- cells under the ids of columns
abbrev pub ids_with : List Column → List Cell → List (ℕ × Cell)
ids_with columns cells = map (λ p. (p.0.id, p.1)) (zip columns cells)
