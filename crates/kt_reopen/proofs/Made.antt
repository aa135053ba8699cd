-- The stores of a superblock and a log, as an opened tablet has them.
use Rattle.std.proofs.Common.{◌≡◌, ◌+◌, ◌<◌, ◌^◌, ℕ, List, [], ◌∷◌, map, max, length, Option, Some, None, Result, Ok, Err, cond, refl, sym, ap, ◌∙◌, arith}
use Rattle.std.proofs.lemmas.List.{length-map, length-replicate}
use Rattle.kt_history.specs.declared.target.Target.{Target}
use Rattle.kt_history.specs.declared.operation.RowOp.{RowOp}
use Rattle.kt_history.specs.Rows.{Row}
use Rattle.kt_history.specs.Operations.{need}
use Rattle.kt_records.specs.declared.entry.CommitRow.{CommitRow}
use Rattle.kt_records.specs.declared.entry.Entry.{Entry}
use Rattle.kt_records.specs.declared.entry.Entry.TheVariants.{Replicate, Commit}
use Rattle.kt_journal.specs.Log.{IsLog}
use Rattle.kt_loglaws.specs.Replay.{commit_of, last_of}
use Rattle.kt_pool.specs.Contents.{Contents, with_reserved}
use Rattle.kt_schema.specs.declared.column.Column.{Column}
use Rattle.kt_schema.specs.Columns.{fill_of}
use Rattle.kt_super.specs.declared.meta.Meta.{Meta}
use Rattle.kt_super.specs.Body.{IsMeta}
use Rattle.kt_diskrowset.specs.declared.data.RowSetData.{RowSetData}
use Rattle.kt_diskrowset.specs.declared.rowset.DiskRowSet.{DiskRowSet}
use Rattle.kt_diskrowset.specs.Data.{held_in}
use Rattle.kt_diskrowset.specs.Rowset as rowset
use Rattle.kt_files.specs.Held.{numbers_in, numbers_named}
use Rattle.kt_stores.specs.Shelf.{StoresView}
use Rattle.kt_stores.specs.Parts.{kept, shelf_of}
use Rattle.kt_content.specs.Places.{Super, Place, disk}
use Rattle.kt_content.specs.Opening.{Placed, names_at, rows_behind, opened}
use Rattle.kt_reopen.specs.declared.opened.Made.{Made as Parts}
use Rattle.kt_reopen.specs.declared.stores.Opening.{Opening}
use Rattle.kt_reopen.specs.declared.why.Why.{Why}
use Rattle.kt_reopen.specs.declared.why.Why.TheVariants.{B3}
use Rattle.kt_reopen.specs.Bare.{bare}
use Rattle.kt_reopen.specs.Naming.{NameTheSame}
use Rattle.kt_reopen.specs.Both.{super_in, first_stores, stores_after}
use Rattle.kt_reopen.specs.Needed.{is_any, is_replayed, replayed, needs_of}
use Rattle.kt_reopen.specs.Numbers.{next_rowset}
use Rattle.kt_reopen.specs.Opened.{found_of, IsOpened, HasRoom}
use Rattle.kt_reopen.specs.Owed.{owed}
use Rattle.kt_reopen.specs.Standing.{placed, places_in}
use Rattle.kt_reopen.specs.Steps.{DoesLog}
use Rattle.kt_reopen.specs.Walks.{NamesEach}
use Rattle.kt_reopen.specs.Begun.{IsBegun}
use Rattle.kt_reopen.proofs.Begun.{begun_same, begun_places, begun_apart, begun_first, begun_named, mem_fits, all_fit}
use Rattle.kt_reopen.proofs.Finished.{all_opened}
use Rattle.kt_reopen.proofs.Firsts.{same_needed, same_opened}
use Rattle.kt_reopen.proofs.Making.{read, none_used, still_free}

-- superblocks that name the same need the same of the pool
replayed_same : (one other : Super) → NameTheSame one other → (ops : List RowOp) (told : Option (List CommitRow)) → replayed one ops told ≡ replayed other ops told
replayed_same one other same [] told = refl
replayed_same one other same (op ∷ ops) told = λ i. cond (tests (names_at told) i) (op ∷ replayed_same one other same ops (rows_behind told) i) (replayed_same one other same ops (rows_behind told) i)
  where
    tests : (t : Option (List Target)) → is_replayed one t ≡ is_replayed other t
    tests None = refl
    tests (Some targets) = ap is_any (same_needed one other same targets)

needs_same : (one other : Super) → NameTheSame one other → (all records : List Entry) → needs_of one all records ≡ needs_of other all records
needs_same one other same all [] = refl
needs_same one other same all (Replicate ts ops ∷ records) = λ i. need (replayed_same one other same ops (commit_of ts all) i) + needs_same one other same all records i
needs_same one other same all (Commit ts rows ∷ records) = needs_same one other same all records

module _ (m : Meta) (is : IsMeta m) (records : List Entry) (log : IsLog records) (ds : List RowSetData) (numbers : numbers_in ds ≡ numbers_named m.rowsets) (cells needs : ℕ) (o : Opening) (b : IsBegun m records ds cells needs o) where
  abbrev super : Super
  super = super_in m (map held_in ds)

  -- the stores of a superblock are those of its names
  after_is : (fill : Row) → stores_after fill super records ≡ opened fill (bare m) records (placed fill o) records
  after_is fill =
      sym (same_opened (bare m) super fill records (first_stores super) records (begun_same m is records log ds numbers))
      ∙ ap (λ (stores : Placed). opened fill (bare m) records stores records) (sym (begun_first m is records log ds numbers cells needs o b fill))

  module _ (n : Opening) (done : DoesLog o n m records records) where
    pub made_fits : (fill : Row) → (stores : Placed) × (stores_after fill super records ≡ Ok stores)
    made_fits fill = (placed fill n, after_is fill ∙ done.opened_is fill)

    pub made_few : length n.rowsets.items < 2 ^ 32
    made_few =
        let same : length (places_in n) ≡ length (places_in o) = ap (λ (ps : List Place). length ps) done.ends.places in
        let many = length-map n.rowsets.items (λ (d : DiskRowSet). disk (rowset.held_of d).number) in
        let were = length-map o.rowsets.items (λ (d : DiskRowSet). disk (rowset.held_of d).number) in
        let low = b.few in
        omega arith

    module _ (view : StoresView) (pool : view.pool ≡ with_reserved n.pool 0) (shelf : view.shelf ≡ shelf_of read n.pool (kept n.mem [] n.rowsets.items)) (none : view.frozen ≡ 0) where
      pub made_opened : (columns : List Column) (stores : Placed) (queued : List Entry) (next : ℕ) → stores_after (fill_of columns) super records ≡ Ok stores
          → ((fill : Row) (name : Place → Target) → NamesEach name o → queued ≡ owed fill (bare m) name records (placed fill o) records)
          → next ≡ next_rowset m.next_rowset records → IsOpened columns (found_of super records stores) m records queued view (max m.c (last_of records)) next
      made_opened columns stores queued next here owes next_is =
          all_opened columns (found_of super records stores) m (map held_in ds) o n refl (begun_same m is records log ds numbers) (begun_first m is records log ds numbers cells needs o b) (begun_places m is records log ds numbers cells needs o b)
          (begun_apart m is records log ds numbers cells needs o b) (omega arith) (omega arith) done here (begun_named m is records log ds numbers cells needs o b) queued view next log (mem_fits m is records log ds numbers) (all_fit m is records log ds numbers) owes shelf none next_is

      pub made_room : (stores : Placed) → HasRoom cells (found_of super records stores) view
      made_room stores =
          let long : length o.pool.places ≡ cells + needs = ap (λ l. length l) b.places ∙ length-replicate (cells + needs) None in
          let same : length view.pool.places ≡ length n.pool.places = ap (λ (p : Contents). length p.places) pool in
          let due : needs_of (bare m) records records ≡ needs_of super records records = needs_same (bare m) super (begun_same m is records log ds numbers) records records in
          let size = done.ends.size in
          let needs_are = b.needs_are in
          record {
            size = omega arith;
            unpromised = ap (λ (p : Contents). p.reserved) pool;
            enough = still_free o.pool n.pool view.pool 0 cells needs (none_used (cells + needs) o.pool b.places) pool long b.promised done.ends.size done.ends.even;
          }

  -- or an operation of this timestamp does not fit
  pub made_late : (ts : ℕ) → ((fill : Row) → opened fill (bare m) records (placed fill o) records ≡ Err ts) → (fill : Row) → stores_after fill super records ≡ Err ts
  made_late ts late fill = after_is fill ∙ late fill

-- the reason that is told of it
pub late_why : (why : Why) (offset gate : ℕ) → ◌≡◌ {A = Result Parts Why} (Err (B3 offset)) (Err why) → offset ≡ gate → why ≡ B3 gate
late_why why offset gate is e = (let same : B3 offset ≡ why = cc in sym same ∙ ap (λ (n : ℕ). B3 n) e)
