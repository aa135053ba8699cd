-- The stores of a tablet that is opened, before the log.
use Rattle.std.specs.Prelude.{◌≡◌, ◌+◌, ◌<◌, ◌^◌, ℕ, false, List, [], length, replicate, None}
use Rattle.kt_records.specs.declared.entry.Entry.{Entry}
use Rattle.kt_pool.specs.Contents.{Contents}
use Rattle.kt_memrowset.specs.Stores as mem
use Rattle.kt_super.specs.declared.meta.Meta.{Meta}
use Rattle.kt_diskrowset.specs.declared.data.RowSetData.{RowSetData}
use Rattle.kt_reopen.specs.declared.stores.Opening.{Opening}
use Rattle.kt_reopen.specs.Bare.{bare}
use Rattle.kt_reopen.specs.Needed.{needs_of}
use Rattle.kt_reopen.specs.Numbers.{named_by, mem_number}
use Rattle.kt_reopen.specs.Opened.{AreRowsetsOf}

-- They are what was read under a superblock, in a pool of so many cells beside those that the log needs, which are promised. The MemRowSet has
-- nothing, and its number is the next one behind those that are named
pub record IsBegun (m : Meta) (records : List Entry) (ds : List RowSetData) (cells needs : ℕ) (o : Opening) : Type 0 where
  pub mem_stands : (pool : Contents) → mem.IsStore o.mem pool
  pub mem_empty : (pool : Contents) → mem.store_of o.mem pool ≡ []
  pub mem_bare : (pool : Contents) (k : ℕ) → ¬ mem.Owns o.mem pool k
  pub mem_none : (pool : Contents) → mem.cells_had o.mem pool ≡ 0
  pub mem_open : mem.is_frozen o.mem ≡ false
  pub mem_number : mem.number_of o.mem ≡ mem_number m.last_mem records
  pub rowsets : AreRowsetsOf (named_by records) m.rowsets ds o.rowsets.items
  pub places : o.pool.places ≡ replicate (cells + needs) None
  pub promised : o.pool.reserved ≡ needs
  pub needs_are : needs ≡ needs_of (bare m) records records
  pub few : length o.rowsets.items < 2 ^ 32
