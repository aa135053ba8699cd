-- A superblock with the outputs of a job, and without what it takes.
use Rattle.std.specs.Prelude.{◌==◌, ℕ, not, List, ◌++◌, Option, Some, None}
use Rattle.std.specs.List.{filter, list_any}
use Rattle.kt_super.specs.declared.meta.Meta.{Meta}
use Rattle.kt_super.specs.declared.meta.MetaRowset.{MetaRowset}
use Rattle.kt_stores.specs.Takes.{Takes, mems, rowsets}
use Rattle.kt_engine.specs.Jobs.{JobView, takes_of}

-- the disk rowsets of other numbers
abbrev pub left_metas : List ℕ → List MetaRowset → List MetaRowset
left_metas taken named = filter (λ (m : MetaRowset). not (list_any (λ (s : ℕ). s == m.rowset) taken)) named

-- those that a job leaves: a flush takes none
abbrev pub metas_left : Takes → List MetaRowset → List MetaRowset
metas_left (mems last) named = named
metas_left (rowsets taken) named = left_metas taken named

-- the last MemRowSet in files: that of a flush, or the one that was
abbrev pub last_by : Takes → ℕ → ℕ
last_by (mems last) was = last
last_by (rowsets taken) was = was

-- a flush makes its MemRowSets durable, and the disk rowsets of a compaction are named no more
abbrev pub with_takes : Takes → List MetaRowset → Meta → Meta
with_takes t metas next = record next { last_mem = last_by t next.last_mem; rowsets = metas_left t next.rowsets ++ metas }

abbrev pub with_outputs : Option JobView → Meta → Meta
with_outputs None next = next
with_outputs (Some job) next = with_takes (takes_of job) job.metas next
