use Rattle.std.proofs.Common.{◌≡◌, ◌≤◌, take, map, length}
use Rattle.std.specs.Vec.{vec_len, vec_capacity}
use Rattle.kt_schema.specs.Columns.{other_columns}
use Rattle.kt_engine.specs.Columns.{shape_of}
use Rattle.kt_engine.proofs.job.columns_of.Given as goal

abbrev pub invariant-columns : goal.invariant-columns
invariant-columns l = record {
  others : l.others ≡ other_columns l.meta.schema;
  long : vec_len l.shapes ≡ l.column-index;
  room : length l.others ≤ vec_capacity l.shapes;
  made : l.shapes.items ≡ map shape_of (take l.column-index l.others);
}
