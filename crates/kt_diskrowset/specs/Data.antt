-- A disk rowset as plain data.
use Rattle.std.specs.Prelude.{ℕ, List}
use Rattle.kt_baseset.specs.Rows.{keys_in}
use Rattle.kt_history.specs.Stores.{Store}
use Rattle.kt_rowfiles.specs.Files.{DiskRowset, records_for}
use Rattle.kt_diskrowset.specs.declared.data.RowSetData.{RowSetData}
use Rattle.kt_diskrowset.specs.Rows.{Fresh, store_with}
use Rattle.kt_diskrowset.specs.Rowset.{HeldFiles, held_with, files_with}

-- its files, whoever owns them
abbrev pub held_in : RowSetData → HeldFiles
held_in d = held_with d.number d.base d.undo d.redo

-- what they tell
abbrev pub files_in : RowSetData → DiskRowset
files_in d = files_with d.number d.base d.undo d.redo

-- its changes in memory
abbrev pub fresh_in : RowSetData → Fresh
fresh_in d n = records_for n d.fresh

-- the history of each of its keys
abbrev pub store_in : RowSetData → Store
store_in d = store_with (files_in d) (fresh_in d)

-- its keys, those of deleted rows too
abbrev pub keys_of : RowSetData → List (List ℕ)
keys_of d = keys_in d.base.set.value.rows
