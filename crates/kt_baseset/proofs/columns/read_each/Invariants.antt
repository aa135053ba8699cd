use Rattle.std.proofs.Common.{◌≡◌, ◌+◌, ◌-◌, ◌^◌, ◌≤◌, ℕ, List}
use Rattle.kt_baseset.specs.declared.held.HeldColumn.{HeldColumn}
use Rattle.kt_baseset.specs.Tables.{shapes_of}
use Rattle.kt_baseset.specs.Reading.{next_id, ReadsEach}
use Rattle.kt_baseset.proofs.Each.{Remains}
use Rattle.kt_baseset.proofs.columns.read_each.Given as goal

abbrev pub invariant-columns : goal.invariant-columns
invariant-columns l = record {
  least : l.least ≡ next_id 0 (shapes_of l.columns.items);
  read : ReadsEach l.rows l.i l.bytes l.columns.items l.rest;
  room : next_id 0 (shapes_of l.columns.items) + (l.n - l.i) ≤ 2 ^ 16;
  only : (all : List HeldColumn) (last : List ℕ) → ReadsEach l.rows l.n l.bytes all last → Remains l.columns.items l.rest all last;
}
