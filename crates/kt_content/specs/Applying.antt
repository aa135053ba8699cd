-- A row of a flying write is applied.
use Rattle.std.specs.Prelude.{◌≡◌, ◌<◌, ◌-◌, ◌⊎◌, ℕ, true, is_some, map, Some, None}
use Rattle.kt_history.specs.declared.change.Change.{Change}
use Rattle.kt_history.specs.declared.operation.RowOp.{RowOp}
use Rattle.kt_history.specs.Rows.{Row}
use Rattle.kt_history.specs.Operations.{effect}
use Rattle.kt_histlaws.specs.Histories.{AtMostOne}
use Rattle.kt_history.specs.Stores.{Hist, row_of, Under}
use Rattle.kt_content.specs.Places.{Super, Place, memory, Held, standing, live_in, row_before, moved}
use Rattle.kt_content.specs.KeyOps.{to_live}
use Rattle.kt_content.specs.Content.{Shown}
use Rattle.kt_content.specs.MoreOps.{PlacesDiffer, BeginsInMemory}
use Rattle.kt_content.specs.InMemory.{Name, Stores, stands_for, group, hist_of_name, joined_name, Mirrors}

-- The store that takes the change has the key live, or the key is live nowhere and it is a MemRowSet. Then the stores in memory with the
-- change mirror the content with the operation, which was pending until then.
abbrev pub an_applied_change_mirrors : Type 0
an_applied_change_mirrors = (fill : Row) (a ts : ℕ) (super : Super) (stores : Stores) (held : Held) (whole : Hist) (n : Name) (h : Hist) (p : Place)
    (op : RowOp) (c : Change)
    → PlacesDiffer held → BeginsInMemory held → Mirrors a super stores held → Shown a held whole → Under ts whole.steps → a < ts
    → hist_of_name n stores ≡ Some h → stands_for super n ≡ Some p → AtMostOne (map (row_of (ts - 1)) (group super p stores))
    → ((is_some (row_before ts h) ≡ true) ⊎ ((row_before ts whole ≡ None) × (p ≡ memory))) → (effect fill op.kind op.cells (row_before ts whole)).0 ≡ Some c
    → Mirrors a super (joined_name n ts c stores) (moved ts (to_live fill op (live_in (standing ts held))) held)

-- an operation that makes no change leaves both
abbrev pub an_operation_without_a_change_mirrors : Type 0
an_operation_without_a_change_mirrors = (fill : Row) (a ts : ℕ) (super : Super) (stores : Stores) (held : Held) (whole : Hist) (op : RowOp)
    → PlacesDiffer held → BeginsInMemory held → Mirrors a super stores held → Shown a held whole → Under ts whole.steps → a < ts
    → (effect fill op.kind op.cells (row_before ts whole)).0 ≡ None
    → Mirrors a super stores (moved ts (to_live fill op (live_in (standing ts held))) held)
