-- What a base file can hold: columns, and rows that fit them.
use Rattle.std.specs.Prelude.{◌≡◌, ℕ, ◌+◌, ◌^◌, ◌<◌, ◌≤◌, List, [], ◌∷◌, length, map, All}
use Rattle.kt_base.specs.declared.cell.Cell.{Cell}
use Rattle.kt_column.specs.declared.form.Form.{Form}
use Rattle.kt_column.specs.declared.form.Form.TheVariants.{Cells}
use Rattle.kt_column.specs.Blocks.{IsCell}
use Rattle.kt_lookup.specs.Index.{Rises}
use Rattle.kt_baseset.specs.declared.schema.ColumnShape.{ColumnShape}
use Rattle.kt_baseset.specs.declared.rows.KeyedRow.{KeyedRow}

-- the keys of rows
abbrev pub keys_in : List KeyedRow → List (List ℕ)
keys_in rows = map (λ (row : KeyedRow). row.key) rows

-- one key or more, and no more than a filter's length can say, which strictly rise and are not too long
pub record AreKeys (keys : List (List ℕ)) : Type 0 where
  pub some : 0 < length keys
  pub few : length keys ≤ 3435973836
  pub rise : Rises keys
  pub short : All (λ key. length key ≤ 16384) keys

-- ids that rise from a number on
abbrev pub IdsRise : ℕ → List ColumnShape → Type 0
IdsRise least [] = Unit {0}
IdsRise least (c ∷ cs) = (least ≤ c.id) × IdsRise (c.id + 1) cs

-- ids that fit their field
abbrev pub HaveIds : List ColumnShape → Type 0
HaveIds schema = All (λ (c : ColumnShape). c.id < 2 ^ 16) schema

-- columns by rising id, fewer than their count can say
pub record AreShapes (schema : List ColumnShape) : Type 0 where
  pub few : length schema < 2 ^ 16
  pub rise : IdsRise 0 schema
  pub fit : HaveIds schema

-- what a column holds
abbrev pub form_of : ColumnShape → Form
form_of c = Cells c.kind c.nullable

-- a row has one cell under each column's id, in the columns' order, and each is one that its column may hold
abbrev pub RowFits : List ColumnShape → List (ℕ × Cell) → Type 0
RowFits [] [] = Unit {0}
RowFits [] (x ∷ row) = ⊥
RowFits (c ∷ schema) [] = ⊥
RowFits (c ∷ schema) (x ∷ row) = (x.0 ≡ c.id) × IsCell (form_of c) x.1 × RowFits schema row

abbrev pub AllFit : List ColumnShape → List KeyedRow → Type 0
AllFit schema rows = All (λ (row : KeyedRow). RowFits schema row.cells) rows

-- rows with these columns, and so what a base file can hold
pub record IsBase (schema : List ColumnShape) (rows : List KeyedRow) : Type 0 where
  pub keys : AreKeys (keys_in rows)
  pub columns : AreShapes schema
  pub cells : AllFit schema rows
