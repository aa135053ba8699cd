-- Columns that are alike have no first that differs.
use Rattle.std.proofs.Common.{ℕ, zero, suc, List, [], ◌∷◌}
use Rattle.std.specs.Prelude.{slice_get}
use Rattle.kt_schema.specs.declared.column.Column.{Column}
use Rattle.kt_reopen.specs.Tables.{AllAreLike, Differ, DifferFirst}

like_at : (columns others : List Column) → AllAreLike columns others → (k : ℕ) → Differ (slice_get columns k) (slice_get others k) → ⊥
like_at [] [] all k differ = differ
like_at [] (d ∷ others) all k differ = all
like_at (c ∷ columns) [] all k differ = all
like_at (c ∷ columns) (d ∷ others) all zero differ = differ all.0
like_at (c ∷ columns) (d ∷ others) all (suc k) differ = like_at columns others all.1 k differ

pub no_other : (columns others : List Column) (at : ℕ) → AllAreLike columns others → DifferFirst columns others at → ⊥
no_other columns others at all differ = like_at columns others all differ.before differ.here
