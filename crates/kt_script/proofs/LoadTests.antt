-- Loads worked out: what a load line says, and the reasons for which it and the lines below it are refused.
use Rattle.std.proofs.Common.{◌≡◌, ℕ, List, [], ◌∷◌, map, pos, refl}
use Rattle.std.specs.Prelude.{None, Some, codes}
use Rattle.std.specs.Int.{w64}
use Rattle.kt_base.specs.Keys.{number_key}
use Rattle.kt_base.specs.declared.cell.Cell.TheVariants as cell
use Rattle.kt_history.specs.declared.command.Command.{Command}
use Rattle.kt_history.specs.declared.command.Command.TheVariants as command
use Rattle.kt_history.specs.declared.operation.OpKind.TheVariants as op
use Rattle.kt_history.specs.declared.operation.RowOp.{RowOp}
use Rattle.kt_script.specs.Loads.{load_columns, load_plan}
use Rattle.kt_script.specs.Scripts.{fault_of, script_of, load_of}
use Rattle.kt_script.proofs.ScriptTests.{Refused}

abbrev alone : RowOp → List Command
alone o = command.Write (record { ops = o ∷ [] }) ∷ []

abbrev keyed : ℕ → List ℕ
keyed id = number_key w64 (pos id)

-- update 980 v=533, insert 493 52, delete 2, and update 539 v=937
pub of_one : load_plan 1 ≡ alone (record { kind = op.Update; key = keyed 980; cells = (2, cell.Int (pos 533)) ∷ [] })
    ∷ alone (record { kind = op.Insert; key = keyed 493; cells = (2, cell.Int (pos 52)) ∷ [] })
    ∷ alone (record { kind = op.Delete; key = keyed 2; cells = [] })
    ∷ alone (record { kind = op.Update; key = keyed 539; cells = (2, cell.Int (pos 937)) ∷ [] }) ∷ []
of_one = refl

pub said_one : script_of (codes "table\ncolumn id int64 key\ncolumn v int64\nload 1\n") ≡ Some (record { columns = load_columns; plan = load_plan 1 })
said_one = refl

pub counted : map load_of (codes "table\ncolumn id int64 key\ncolumn v int64\nload 64000\n" ∷ codes "table\ncolumn id int64 key\ncolumn v int64\nsession\n" ∷ []) ≡ Some 64000 ∷ None ∷ []
counted = refl

pub taken : fault_of (codes "table\ncolumn id int64 key\ncolumn v int64\nload 64000\n") ≡ None
taken = refl

abbrev refused_load_texts : List (ℕ × List ℕ)
refused_load_texts =
    (4, codes "table\ncolumn id int64 key\ncolumn v int64\nload\n")
    ∷ (4, codes "table\ncolumn id int64 key\ncolumn v int64\nload 0\n")
    ∷ (4, codes "table\ncolumn id int64 key\ncolumn v int64\nload 01\n")
    ∷ (4, codes "table\ncolumn id int64 key\ncolumn v int64\nload 64001\n")
    ∷ (4, codes "table\ncolumn id int64 key\ncolumn v int64\nload 1 2\n")
    ∷ (4, codes "table\ncolumn id int64 key\ncolumn v int64\nload \n")
    ∷ (4, codes "table\ncolumn id int64 key\ncolumn v string\nload 1\n")
    ∷ (3, codes "table\ncolumn id int64 key\nload 1\n")
    ∷ (5, codes "table\ncolumn id int64 key\ncolumn v int64\ncolumn w int64\nload 1\n")
    ∷ (4, codes "table\ncolumn id int64 key\ncolumn v int64 nullable\nload 1\n")
    ∷ (4, codes "table\ncolumn id int64 key\ncolumn v int64 default 1\nload 1\n")
    ∷ (4, codes "table\ncolumn id int64 key\ncolumn w int64\nload 1\n")
    ∷ (4, codes "table\ncolumn id int64 key\ncolumn v int64 key\nload 1\n")
    ∷ (5, codes "table\ncolumn id int64 key\ncolumn v int64\nsession\nload 1\n")
    ∷ (5, codes "table\ncolumn id int64 key\ncolumn v int64\nload 1\nload 1\n")
    ∷ (5, codes "table\ncolumn id int64 key\ncolumn v int64\nload 1\nsession\n")
    ∷ []

pub refused_loads : Refused 12 refused_load_texts
refused_loads = refl

abbrev below_load_texts : List (ℕ × List ℕ)
below_load_texts =
    (5, codes "table\ncolumn id int64 key\ncolumn v int64\nload 1\nscan now\n")
    ∷ (5, codes "table\ncolumn id int64 key\ncolumn v int64\nload 1\ninsert 1 1\n")
    ∷ (5, codes "table\ncolumn id int64 key\ncolumn v int64\nload 1\nmark 1\n")
    ∷ (5, codes "table\ncolumn id int64 key\ncolumn v int64\nload 1\nflush\n")
    ∷ (5, codes "table\ncolumn id int64 key\ncolumn v int64\nload 1\ncolumn w int64\n")
    ∷ (5, codes "table\ncolumn id int64 key\ncolumn v int64\nload 1\n\n")
    ∷ (4, codes "table\ncolumn id int64 key\ncolumn v int64\nloads 1\n")
    ∷ []

pub below_loads : Refused 11 below_load_texts
below_loads = refl
