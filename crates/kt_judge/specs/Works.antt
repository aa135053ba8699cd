-- The run that a script asks for, in a pool of so many cells.
use Rattle.std.specs.Prelude.{ℕ}
use Rattle.kt_history.specs.Machine.{Workload}
use Rattle.kt_script.specs.declared.script.Script.{Script}
use Rattle.kt_script.specs.Scripts.{workload}

abbrev pub work_of : ℕ → Script → Workload
work_of cells script = workload cells (record { columns = script.schema; plan = script.plan })
