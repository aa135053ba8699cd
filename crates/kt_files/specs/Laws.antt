-- What the definitions keep to.
use Rattle.std.specs.Prelude.{◌≡◌, List}
use Rattle.kt_disk.specs.Disk.{Files}
use Rattle.kt_diskrowset.specs.Rowset.{HeldFiles}
use Rattle.kt_files.specs.Reading.{HoldAll}
use Rattle.kt_files.specs.Named.{HasNamed}
use Rattle.kt_super.specs.declared.meta.MetaRowset.{MetaRowset}
use Rattle.kt_diskrowset.specs.declared.data.RowSetData.{RowSetData}
use Rattle.kt_diskrowset.specs.Data.{held_in, files_in}
use Rattle.kt_files.specs.Content.{rowset_in}

-- what a superblock and its files say of a rowset is what these files tell, behind the last DeltaMemStore that they hold
abbrev pub rowsets_tell_their_files : Type 0
rowsets_tell_their_files = (r : MetaRowset) (d : RowSetData) → rowset_in r (held_in d) ≡ record (files_in d) { last_dms = r.last_dms }

-- the files of a superblock hold one thing
abbrev pub files_hold_one : Type 0
files_hold_one = (files : Files) (rowsets : List MetaRowset) (some others : List HeldFiles) → HoldAll files rowsets some → HoldAll files rowsets others → some ≡ others

-- and where others have each of them as these do, they hold it too
abbrev pub same_files_hold_the_same : Type 0
same_files_hold_the_same = (files others : Files) (rowsets : List MetaRowset) (some : List HeldFiles) → HasNamed rowsets files others → HoldAll files rowsets some → HoldAll others rowsets some
