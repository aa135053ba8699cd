-- Operations of a log, each on the rows just before it.
use Rattle.std.specs.Prelude.{◌≡◌, ℕ, Bool, true, false, is_some, List, [], ◌∷◌, map, Option, Some, None, Ok, slice_get}
use Rattle.std.specs.Option.{option_map}
use Rattle.kt_history.specs.declared.operation.RowOp.{RowOp}
use Rattle.kt_history.specs.declared.target.Kindly.{Kindly}
use Rattle.kt_history.specs.declared.target.Kindly.TheVariants.{Ins, Upd, Del}
use Rattle.kt_history.specs.declared.target.Target.{Target}
use Rattle.kt_history.specs.Rows.{Row}
use Rattle.kt_history.specs.Operations.{need}
use Rattle.kt_history.specs.Stores.{Store, hist_in}
use Rattle.kt_records.specs.declared.entry.CommitRow.{CommitRow}
use Rattle.kt_records.specs.declared.entry.Entry.{Entry}
use Rattle.kt_super.specs.declared.meta.Meta.{Meta}
use Rattle.kt_content.specs.Places.{Place, Moves, row_before, standing}
use Rattle.kt_content.specs.KeyOps.{decided}
use Rattle.kt_content.specs.Opening.{Placed, held_of, moved_stores, write_opened, opened}
use Rattle.kt_reopen.specs.declared.stores.Opening.{Opening}
use Rattle.kt_reopen.specs.Standing.{placed, Goes, Ends}
use Rattle.kt_reopen.specs.Bare.{bare}
use Rattle.kt_reopen.specs.Needed.{replayed, is_replayed, need_if}

-- whether a store had the row of a key just before a time
abbrev pub had_in : ℕ → List ℕ → Place × Store → Bool
had_in ts q s = is_some (row_before ts (hist_in q s.1))

-- the same of the store at a place
abbrev pub had_at : ℕ → List ℕ → ℕ → Placed → Option Bool
had_at ts q at stores = option_map (had_in ts q) (slice_get stores at)

-- a change of this kind may join the store at a place: an insert the MemRowSet where it had no row, and another one a store that had one
abbrev pub MayJoin : ℕ → List ℕ → ℕ → Kindly → Placed → Type 0
MayJoin ts q at Ins stores = (at ≡ 0) × (had_at ts q at stores ≡ Some false)
MayJoin ts q at Upd stores = had_at ts q at stores ≡ Some true
MayJoin ts q at Del stores = had_at ts q at stores ≡ Some true

-- What is decided of an operation, by the names of its COMMIT or by the rows of all stores, has been done
pub record Does (o n : Opening) (m : Meta) (ts : ℕ) (op : RowOp) (told : Option (List Target)) : Type 0 where
  pub goes : Goes o n ts (need_if (is_replayed (bare m) told) op) (op.key ∷ [])
  pub moves : Row → Moves
  pub decided_is : (fill : Row) → decided fill (bare m) (standing ts (held_of op.key (placed fill o))) op told ≡ Some (moves fill)
  pub moved : (fill : Row) → placed fill n ≡ moved_stores ts op.key (moves fill) (placed fill o)

-- it does not fit a store that needs it
abbrev pub DoesNotFit : Opening → Meta → ℕ → RowOp → Option (List Target) → Type 0
DoesNotFit o m ts op told = (fill : Row) → decided fill (bare m) (standing ts (held_of op.key (placed fill o))) op told ≡ None

-- the operations of a write have been done
pub record DoesAll (o n : Opening) (m : Meta) (ts : ℕ) (ops : List RowOp) (told : Option (List CommitRow)) : Type 0 where
  pub goes : Goes o n ts (need (replayed (bare m) ops told)) (map (λ (op : RowOp). op.key) ops)
  pub opened_is : (fill : Row) → write_opened fill (bare m) ts ops told (placed fill o) ≡ Ok (placed fill n)

-- the writes of a log have been done, in the log that holds all
pub record DoesLog (o n : Opening) (m : Meta) (all records : List Entry) : Type 0 where
  pub ends : Ends o n
  pub opened_is : (fill : Row) → opened fill (bare m) all (placed fill o) records ≡ Ok (placed fill n)
