-- What a maintenance policy asks of a disk rowset. Changes are counted up to 2^31.
use Rattle.std.specs.Prelude.{◌≡◌, ◌<◌, ◌-◌, ◌^◌, ℕ, Bool, true, false, List, length, min}
use Rattle.std.specs.List.{sum_by, count_by}
use Rattle.kt_baseset.specs.Tables.{key_at}
use Rattle.kt_deltafile.specs.File.{FileView}
use Rattle.kt_dms.specs.declared.store.DeltaMem.{DeltaMem}
use Rattle.kt_dms.specs.Stores.{deltas_of}
use Rattle.kt_history.specs.declared.change.Change.{Change}
use Rattle.kt_history.specs.declared.change.Change.TheVariants.{Ins, Upd, Del}
use Rattle.kt_history.specs.declared.changes.Delta.{Delta}
use Rattle.kt_pick.specs.declared.stats.RowSetStat.{RowSetStat}
use Rattle.kt_pool.specs.Contents.{Contents}
use Rattle.kt_diskrowset.specs.Rowset.{HeldFiles}

-- a change that leaves a row there
abbrev pub leaves_row : Change → Bool
leaves_row (Ins cells) = true
leaves_row (Upd cells) = true
leaves_row Del = false

-- how many records are no deletes
abbrev pub leaving_row : List Delta → ℕ
leaving_row list = count_by (λ (d : Delta). leaves_row d.change) list

abbrev pub leaving_row_in : List (ℕ × ℕ × FileView) → ℕ
leaving_row_in files = sum_by (λ (f : ℕ × ℕ × FileView). leaving_row f.2.list) files

-- how many changes DeltaMemStores have
abbrev pub changes_had : Contents → List DeltaMem → ℕ
changes_had pool mems = sum_by (λ (m : DeltaMem). length (deltas_of m pool)) mems

-- What its files and so many changes in memory tell
pub record IsStat (h : HeldFiles) (fresh : ℕ) (s : RowSetStat) : Type 0 where
  pub number : s.rowset ≡ h.number
  pub rows : s.rows ≡ length h.base.2.rows
  pub fresh_is : s.fresh ≡ min fresh (2 ^ 31)
  pub files : s.redo_files ≡ min (length h.redos) (2 ^ 31)
  pub changes : s.redo_changes ≡ min (leaving_row_in h.redos) (2 ^ 31)
  pub base : s.base_len ≡ h.base.1
  pub least : 0 < length h.base.2.rows → s.least ≡ key_at h.base.2.rows 0
  pub greatest : 0 < length h.base.2.rows → s.greatest ≡ key_at h.base.2.rows (length h.base.2.rows - 1)
  pub held : s.held ≡ false
