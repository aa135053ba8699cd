-- The commands of a session as they are read. The operations of small writes stand in one list.
use Rattle.std.specs.Prelude.{◌+◌, ◌≤◌, List, length}
use Rattle.std.specs.List.{between}
use Rattle.kt_history.specs.declared.command.Command.{Command}
use Rattle.kt_history.specs.declared.command.Command.TheVariants as command
use Rattle.kt_history.specs.declared.operation.RowOp.{RowOp}
use Rattle.kt_script.specs.declared.draft.Entry.{Entry}
use Rattle.kt_script.specs.declared.draft.Entry.TheVariants.{Few, Other}

-- the command of an entry, over these operations
abbrev pub command_in : List RowOp → Entry → Command
command_in ops (Few part) = command.Write (record { ops = between part.first (part.first + part.len) ops })
command_in ops (Other c) = c.value

-- its operations are among these
abbrev pub IsInside : List RowOp → Entry → Type 0
IsInside ops (Few part) = part.first + part.len ≤ length ops
IsInside ops (Other c) = Unit {0}
