use Rattle.std.proofs.Common.{◌≡◌, ◌++◌, take}
use Rattle.kt_engine.specs.JobMeta.{left_metas}
use Rattle.kt_engine.proofs.job_meta.push_copies.Given as goal

abbrev pub invariant-rowsets : goal.invariant-rowsets
invariant-rowsets l = l.out.items ≡ l.initial.out.items ++ left_metas l.taken (take l.rowset-index l.rowsets)
