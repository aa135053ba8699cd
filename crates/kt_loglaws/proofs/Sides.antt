-- What a crash leaves of the log of an engine.
use Rattle.std.proofs.Common.{◌≡◌, List, ◌++◌, subst, ap, ◌∙◌, append_assoc}
use Rattle.kt_disk.specs.Disk.{Files}
use Rattle.kt_records.specs.declared.entry.Entry.{Entry}
use Rattle.kt_journal.specs.Log.{IsLog, IsOldOrBoth}
use Rattle.kt_loglaws.specs.Side.{all_of, a_crash_keeps_each_durable_write}
use Rattle.kt_loglaws.proofs.Fronts.{crash_leaves}

pub crash_keeps : (L : Type 0) (seen : L → Files) → a_crash_keeps_each_durable_write L seen
crash_keeps L seen side fill opened durable past file are is holds told left =
    let run = side.out ++ side.queued in
    let whole : all_of seen side ≡ opened ++ (durable ++ run) = ap (λ (l : List Entry). l ++ run) are ∙ append_assoc opened durable run in
    crash_leaves fill opened durable side.out side.queued past file (subst (λ (l : List Entry). IsLog l) whole is) holds told (subst (λ (l : List Entry). IsOldOrBoth l side.out file) are left)
