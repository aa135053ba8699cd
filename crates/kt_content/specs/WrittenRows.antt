-- What a job writes of a history that passes.
use Rattle.std.specs.Prelude.{◌≡◌, ℕ, true, Some}
use Rattle.kt_history.specs.Rows.{Row}
use Rattle.kt_history.specs.Stores.{Hist}
use Rattle.kt_rowfiles.specs.Flushing.{after_all, written}
use Rattle.kt_content.specs.Rules.{Rules, AreRules, RowPasses, StepsPass}

-- a row that is written passes, and so do its UNDO records
abbrev pub a_written_row_passes : Type 0
a_written_row_passes = (rules : Rules) (j : ℕ) (h : Hist) (base : Row) → AreRules rules → RowPasses rules h.first → StepsPass rules h.steps
    → after_all h.steps h.first ≡ Some base → (rules.row base ≡ true) × StepsPass rules (written j h base).undos
