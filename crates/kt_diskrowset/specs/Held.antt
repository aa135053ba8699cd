-- Files, whoever owns them: what they tell, and what can be read of them.
use Rattle.std.specs.Prelude.{◌≡◌, ◌⊎◌, ◌-◌, ℕ, List, [], length, map, if◌then◌else◌}
use Rattle.kt_baseset.specs.Rows.{keys_in}
use Rattle.kt_baseset.specs.Tables.{key_at}
use Rattle.kt_deltafile.specs.File.{FileView}
use Rattle.kt_history.specs.Stores.{Store}
use Rattle.kt_rowfiles.specs.Files.{DiskRowset}
use Rattle.kt_rowfiles.specs.Fitting.{undos_fit}
use Rattle.kt_diskrowset.specs.Rows.{rows_of, store_with}
use Rattle.kt_diskrowset.specs.Rowset.{HeldFiles}

-- what files tell
abbrev pub files_told : HeldFiles → DiskRowset
files_told h = record { rowset = h.number; last_dms = 0; base = rows_of h.base.2.rows; undos = map (λ (f : ℕ × ℕ × FileView). f.2.list) h.undos; redos = map (λ (f : ℕ × ℕ × FileView). f.2.list) h.redos }

-- and what a disk rowset keeps that has no change in memory
abbrev pub store_told : HeldFiles → Store
store_told h = store_with (files_told h) (λ n. [])

-- what can be read of files: all of them, but for the UNDO files where one of their records does not fit
abbrev pub readable_held : HeldFiles → HeldFiles
readable_held h = if undos_fit (files_told h) then h else record h { undos = [] }

-- a rowset in memory has these files, or what can be read of them
abbrev pub IsReadOf : HeldFiles → HeldFiles → Type 0
IsReadOf h read = (read ≡ h) ⊎ (read ≡ readable_held h)

-- the keys of the base file, those of deleted rows too
abbrev pub keys_held : HeldFiles → List (List ℕ)
keys_held h = keys_in h.base.2.rows

-- the least of them and the greatest; where there is none, both are empty
abbrev pub ends_held : HeldFiles → List ℕ × List ℕ
ends_held h = (key_at h.base.2.rows 0, key_at h.base.2.rows (length h.base.2.rows - 1))
