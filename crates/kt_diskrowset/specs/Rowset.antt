-- What a disk rowset is to its callers, read with the pool in which its DeltaMemStores stand.
use Rattle.std.specs.Prelude.{ℕ, List, [], ◌∷◌, ◌++◌}
use Rattle.kt_history.specs.declared.target.Target.{Target}
use Rattle.kt_history.specs.declared.target.Target.TheVariants.{Delta}
use Rattle.kt_history.specs.Stores.{Store}
use Rattle.kt_pool.specs.Contents.{Contents}
use Rattle.kt_dms.specs.declared.store.DeltaMem.{DeltaMem}
use Rattle.kt_dms.specs.Stores.{number_of}
use Rattle.kt_deltafile.specs.File.{FileView}
use Rattle.kt_baseset.specs.Tables.{BaseValue}
use Rattle.kt_rowfiles.specs.Files.{DiskRowset}
use Rattle.kt_diskrowset.specs.declared.base.BaseHeld.{BaseHeld}
use Rattle.kt_diskrowset.specs.declared.files.FileHeld.{FileHeld}
use Rattle.kt_diskrowset.specs.declared.rowset.DiskRowSet.{DiskRowSet}
use Rattle.kt_diskrowset.specs.Files.{lists_of, as_files}
use Rattle.kt_diskrowset.specs.Mems.{AllStand, AreApart, OwnedBy, cells_in, steps_in_mems}
use Rattle.kt_diskrowset.specs.Rows.{Fresh, rows_of, store_with, UndosLeadBack}

-- its frozen DeltaMemStores, and all of them, the oldest first
abbrev pub frozen_of : DiskRowSet → List DeltaMem
frozen_of s = s.frozen.items

abbrev pub mems_of : DiskRowSet → List DeltaMem
mems_of s = frozen_of s ++ s.active ∷ []

-- the files of a disk rowset, whoever owns them
pub record HeldFiles : Type 0 where
  pub number : ℕ
  pub base : ℕ × ℕ × BaseValue
  pub undos : List (ℕ × ℕ × FileView)
  pub redos : List (ℕ × ℕ × FileView)

abbrev pub held_with : ℕ → BaseHeld → List FileHeld → List FileHeld → HeldFiles
held_with number base undo redo = record { number = number; base = (base.file, base.len, base.set.value); undos = as_files undo; redos = as_files redo }

abbrev pub held_of : DiskRowSet → HeldFiles
held_of s = held_with s.number s.base s.undo s.redo

-- what its files tell
abbrev pub files_with : ℕ → BaseHeld → List FileHeld → List FileHeld → DiskRowset
files_with number base undo redo = record { rowset = number; last_dms = 0; base = rows_of base.set.value.rows; undos = lists_of undo; redos = lists_of redo }

abbrev pub files_of : DiskRowSet → DiskRowset
files_of s = files_with s.number s.base s.undo s.redo

-- the changes in memory of each row
abbrev pub fresh_of : DiskRowSet → Contents → Fresh
fresh_of s pool n = steps_in_mems pool n (mems_of s)

-- the store: the history of each of its keys
abbrev pub store_of : DiskRowSet → Contents → Store
store_of s pool = store_with (files_of s) (fresh_of s pool)

-- it stands in this pool
pub record IsStore (s : DiskRowSet) (pool : Contents) : Type 0 where
  pub stand : AllStand pool (mems_of s)
  pub apart : AreApart pool (mems_of s)
  pub lead : UndosLeadBack (files_of s)

-- this cell begins a place of the store
abbrev pub Owns : DiskRowSet → Contents → ℕ → Type 0
Owns s pool k = OwnedBy pool (mems_of s) k

-- the cells of the pool that it has
abbrev pub cells_had : DiskRowSet → Contents → ℕ
cells_had s pool = cells_in pool (mems_of s)

-- the number of the DeltaMemStore that takes its changes
abbrev pub dms_of : DiskRowSet → ℕ
dms_of s = number_of s.active

-- the names of the rowset and of the DeltaMemStore that takes its changes
abbrev pub name_of : DiskRowSet → Target
name_of s = Delta s.number (dms_of s)
