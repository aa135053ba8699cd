use Rattle.std.proofs.Common.{◌<◌, ◌≤◌}
use Rattle.std.specs.Option.{option_map}
use Rattle.kt_history.specs.Rows.{with_cells, AgreeOn}
use Rattle.kt_tablet.specs.Bases.{row_by}
use Rattle.kt_tablet.proofs.reading.columns_upon.Given as goal

-- in the columns that are asked for, the row lies over what the changes before this place tell
abbrev pub invariant-changes : goal.invariant-changes
invariant-changes l = record {
  low : l.base < l.at;
  high : l.at ≤ l.end;
  rows : AgreeOn l.ids (row_by l.fill l.changes l.key l.t l.end) (option_map (with_cells l.row) (row_by l.fill l.changes l.key l.t l.at));
}

abbrev pub decreases-changes : goal.decreases-changes
decreases-changes l = l.at
