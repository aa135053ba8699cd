use Rattle.std.proofs.Common.{◌≡◌, ◌≤◌, length, take, None}
use Rattle.std.specs.Prelude.{is_some}
use Rattle.kt_judge.specs.Tables.{row_after_all}
use Rattle.kt_judge.proofs.versions.base_of.Given as goal

-- those that are passed are updates, which leave no row where none was, and else one
abbrev pub invariant-versions : goal.invariant-versions
invariant-versions l = record {
  within : l.at ≤ length l.list;
  there : is_some (row_after_all None (take l.at l.list)) ≡ is_some (row_after_all None l.list);
}

abbrev pub decreases-versions : goal.decreases-versions
decreases-versions l = l.at
