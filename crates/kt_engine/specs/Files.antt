-- The files of the disk rowsets in memory, beside those that a superblock names.
use Rattle.std.specs.Prelude.{◌≡◌, ℕ, nat_le, Bool, IsTrue, List, ◌++◌, Option, Some, None, if◌then◌else◌}
use Rattle.kt_disk.specs.Disk.{Files}
use Rattle.kt_super.specs.declared.meta.MetaRowset.{MetaRowset}
use Rattle.kt_diskrowset.specs.declared.data.RowSetData.{RowSetData}
use Rattle.kt_diskrowset.specs.Data.{held_in}
use Rattle.kt_diskrowset.specs.Held.{IsReadOf}
use Rattle.kt_diskrowset.specs.Rowset.{HeldFiles}
use Rattle.kt_files.specs.Named.{Names}
use Rattle.kt_files.specs.Reading.{HoldsRowset}
use Rattle.kt_outputs.specs.InPlace.{entry_of}
use Rattle.kt_stores.specs.Takes.{Takes, files_left}
use Rattle.kt_tablet.specs.Jobs.{files_of, with_files}
use Rattle.kt_engine.specs.Jobs.{JobView, UpkeepsView, job_of, takes_of}

-- ---- those of memory

-- the job whose superblock is lent or published and that is not over
abbrev pub publisher_by : Option ℕ → UpkeepsView → Option JobView
publisher_by None v = None
publisher_by (Some n) v = job_of n v

abbrev pub publisher : UpkeepsView → Option JobView
publisher v = publisher_by v.publishing v

-- where a superblock of this number is the job's own or a later one
abbrev pub job_at : ℕ → Option JobView → Option JobView
job_at number None = None
job_at number (Some job) = if nat_le job.super number then Some job else None

-- what memory has once a job is over: its outputs behind the files that it leaves, or what it wrote in the place of the files of its rowset
abbrev pub files_by : Option RowSetData → Takes → List HeldFiles → List HeldFiles → List HeldFiles
files_by None t outputs files = files_left t files ++ outputs
files_by (Some d) t outputs files = with_files (held_in d) files

abbrev pub files_over : Option JobView → List HeldFiles → List HeldFiles
files_over None files = files
files_over (Some job) files = files_by job.output (takes_of job) job.held files

-- ---- and those of a superblock

-- A rowset has the files that its entry names, or what can be read of them, and the device holds them
pub record IsFiled (tells : Bool) (seen : Files) (rowsets : List MetaRowset) (r : ℕ) (has : HeldFiles) : Type 0 where
  pub entry : MetaRowset
  pub there : entry_of r rowsets ≡ Some entry
  pub held : HeldFiles
  pub names : Names entry held
  pub holds : IsTrue tells → HoldsRowset seen entry held
  pub is : IsReadOf held has

-- each of these
abbrev pub AreFiled : Bool → Files → List MetaRowset → List HeldFiles → Type 0
AreFiled tells seen rowsets files = (r : ℕ) (has : HeldFiles) → files_of r files ≡ Some has → IsFiled tells seen rowsets r has
