-- The values of a block as they are held: those of cells as plain values, those of bytes as their encoding has them.
use Rattle.std.specs.Prelude.{ℕ, Bool, List}
use Rattle.kt_base.specs.declared.cell.Cell.{Cell}
use Rattle.kt_plain.specs.declared.items.Items.{Items}
use Rattle.kt_plain.specs.declared.items.Items.TheVariants.{Numbers, Texts}
use Rattle.kt_column.specs.declared.form.Form.{Form}
use Rattle.kt_column.specs.declared.form.Encoding.{Encoding}
use Rattle.kt_column.specs.declared.form.Encoding.TheVariants.{Plain, RunLength, Dictionary, Prefix}
use Rattle.kt_column.specs.declared.held.Values.{Values}
use Rattle.kt_column.specs.declared.held.Values.TheVariants as held
use Rattle.kt_column.specs.Forms.{width}
use Rattle.kt_column.specs.Values.{IsShortest}
use Rattle.kt_column.specs.Blocks.{value_cells, weave}

-- the values
abbrev pub items_of : Values → Items
items_of (held.Plain items) = items
items_of (held.Runs zs) = Numbers zs
items_of (held.Dictionary ts) = Texts ts
items_of (held.Prefixes ts) = Texts ts

-- the encoding that they are held in
abbrev pub encoding_of : Values → Encoding
encoding_of (held.Plain items) = Plain
encoding_of (held.Runs zs) = RunLength
encoding_of (held.Dictionary ts) = Dictionary
encoding_of (held.Prefixes ts) = Prefix

-- the cells of nulls and values
abbrev pub cells_of : Form → List Bool → Values → List Cell
cells_of form nulls values = weave nulls (value_cells (width form) (items_of values))

-- their encoding is the shortest, unless they are plain values
abbrev pub IsChosen : Form → Values → Type 0
IsChosen form (held.Plain items) = Unit {0}
IsChosen form (held.Runs zs) = (bytes : List ℕ) × IsShortest form (Numbers zs) RunLength bytes
IsChosen form (held.Dictionary ts) = (bytes : List ℕ) × IsShortest form (Texts ts) Dictionary bytes
IsChosen form (held.Prefixes ts) = (bytes : List ℕ) × IsShortest form (Texts ts) Prefix bytes
