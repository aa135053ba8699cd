-- What was read.
use Rattle.std.specs.Prelude.{◌≡◌, ℕ, List, [], map}
use Rattle.kt_super.specs.declared.meta.MetaRowset.{MetaRowset}
use Rattle.std.specs.List.{AllByRecursion}
use Rattle.kt_baseset.specs.Tables.{BaseValue}
use Rattle.kt_diskrowset.specs.declared.base.BaseHeld.{BaseHeld}
use Rattle.kt_diskrowset.specs.declared.data.RowSetData.{RowSetData}

-- a base file, whoever owns it
abbrev pub base_in : BaseHeld → ℕ × ℕ × BaseValue
base_in b = (b.file, b.len, b.set.value)

-- no change stands in memory
abbrev pub AreFresh : List RowSetData → Type 0
AreFresh rowsets = AllByRecursion (λ (d : RowSetData). d.fresh ≡ []) rowsets

-- the numbers of rowsets that were read, and of those that a superblock names
abbrev pub numbers_in : List RowSetData → List ℕ
numbers_in rowsets = map (λ (d : RowSetData). d.number) rowsets

abbrev pub numbers_named : List MetaRowset → List ℕ
numbers_named rowsets = map (λ (r : MetaRowset). r.rowset) rowsets
