-- The items of a block, and one of them.
use Rattle.std.specs.Prelude.{◌≡◌, ℕ, length, Some, slice_get}
use Rattle.kt_plain.specs.declared.items.Items.{Items}
use Rattle.kt_plain.specs.declared.items.Items.TheVariants.{Numbers, Texts}
use Rattle.kt_plain.specs.declared.items.Item.{Item}
use Rattle.kt_plain.specs.declared.items.Item.TheVariants.{Number, Bytes}

-- how many items there are
abbrev pub count : Items → ℕ
count (Numbers zs) = length zs
count (Texts ts) = length ts

-- the item is the one at a place
abbrev pub IsItemAt : Items → ℕ → Item → Type 0
IsItemAt (Numbers zs) i (Number z) = slice_get zs i ≡ Some z
IsItemAt (Numbers zs) i (Bytes bytes) = ⊥
IsItemAt (Texts ts) i (Number z) = ⊥
IsItemAt (Texts ts) i (Bytes bytes) = slice_get ts i ≡ Some bytes.now
