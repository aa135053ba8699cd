-- The superblock that comes behind the published one where no job has changed a store.
use Rattle.std.specs.Prelude.{ℕ, ◌+◌}
use Rattle.kt_super.specs.declared.meta.Meta.{Meta}
use Rattle.kt_storeside.specs.Sides.{StoreView}

-- the same rowsets and columns, under the next number, with this mark, last timestamp and count of records, and with the numbers that are given next
abbrev pub next_meta : {D : Type 0} → StoreView D → ℕ → ℕ → ℕ → Meta
next_meta v a c need = record {
  number = v.meta.number + 1;
  a = a;
  c = c;
  need = need;
  last_mem = v.meta.last_mem;
  next_rowset = v.next_rowset;
  next_file = v.next_file;
  next_column = v.meta.next_column;
  schema = v.meta.schema;
  rowsets = v.meta.rowsets;
}
