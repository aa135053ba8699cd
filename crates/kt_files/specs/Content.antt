-- What a superblock and its files say of disk rowsets.
use Rattle.std.specs.Prelude.{ℕ, List, [], ◌∷◌, map}
use Rattle.kt_super.specs.declared.meta.MetaRowset.{MetaRowset}
use Rattle.kt_deltafile.specs.File.{FileView}
use Rattle.kt_history.specs.declared.changes.Delta.{Delta}
use Rattle.kt_rowfiles.specs.Files.{DiskRowset}
use Rattle.kt_diskrowset.specs.Rows.{rows_of}
use Rattle.kt_diskrowset.specs.Rowset.{HeldFiles}

-- the records of a file
abbrev pub records_of : ℕ × ℕ × FileView → List Delta
records_of f = f.2.list

-- a disk rowset, of which the superblock says the last DeltaMemStore that the files hold
abbrev pub rowset_in : MetaRowset → HeldFiles → DiskRowset
rowset_in r h = record { rowset = h.number; last_dms = r.last_dms; base = rows_of h.base.2.rows; undos = map records_of h.undos; redos = map records_of h.redos }

-- each disk rowset of a superblock with what its files hold
abbrev pub rowsets_in : List MetaRowset → List HeldFiles → List DiskRowset
rowsets_in [] hs = []
rowsets_in (r ∷ rs) [] = []
rowsets_in (r ∷ rs) (h ∷ hs) = rowset_in r h ∷ rowsets_in rs hs
