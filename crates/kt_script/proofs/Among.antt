-- Columns among columns, and their ids.
use Rattle.std.proofs.Common.{◌≡◌, ℕ, ◌<◌, Bool, true, false, List, [], ◌∷◌, Some, inl, inr, subst, arith}
use Rattle.std.specs.Prelude.{◌⊎◌, if◌then◌else◌, ◌==◌}
use Rattle.std.specs.List.{AllByRecursion}
use Rattle.std.proofs.lemmas.Bool.Decides.{nat_tests}
use Rattle.kt_base.specs.Literals.{same}
use Rattle.kt_schema.specs.declared.column.Column.{Column}
use Rattle.kt_script.specs.Writes.{column_named}

pub same_id : (n : ℕ) → (n == n) ≡ true
same_id n = grind (arith, nat_tests)

pub other_id : (m n : ℕ) → m < n → (m == n) ≡ false
other_id m n h = grind (arith, nat_tests)

-- a column is among some columns
abbrev pub Has : List Column → Column → Type 0
Has [] c = ⊥
Has (d ∷ columns) c = (d ≡ c) ⊎ Has columns c

-- what holds of each holds of one
pub each : (P : Column → Type 0) (columns : List Column) (c : Column) → AllByRecursion P columns → Has columns c → P c
each P [] c all h = absurd h
each P (d ∷ columns) c all (inl e) = subst P e all.0
each P (d ∷ columns) c all (inr h) = each P columns c all.1 h

-- the column that a name finds is there, and has the name
pub found_has : (columns : List Column) (name : List ℕ) (c : Column) → column_named columns name ≡ Some c → Has columns c
found_has [] name c h = absurd cc
found_has (d ∷ columns) name c h = by (same d.name name) (found_has columns name c) h
  where
    by : (t : Bool) → (column_named columns name ≡ Some c → Has columns c) → (if t then Some d else column_named columns name) ≡ Some c → Has (d ∷ columns) c
    by true more g = inl cc
    by false more g = inr (more g)
