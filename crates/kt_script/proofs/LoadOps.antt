-- The operations and commands of a load, as they are made.
use Rattle.std.proofs.Common.{◌≡◌, ℕ, zero, suc, ◌+◌, ◌<◌, ◌≤◌, List, [], ◌∷◌, ◌++◌, take, map, refl, arith}
use Rattle.std.specs.Prelude.{codes}
use Rattle.kt_history.specs.declared.command.Command.{Command}
use Rattle.kt_history.specs.Spelled.{OpFits}
use Rattle.kt_script.specs.declared.writes.SpelledOp.{SpelledOp}
use Rattle.kt_script.specs.Columns.{IsTable}
use Rattle.kt_script.specs.Buffers.{Spells, HasSpelling, spelled_op}
use Rattle.kt_script.specs.Loads.{load_columns, load_op, load_session}
use Rattle.kt_script.proofs.Loads.{drawn_op_fits}
use Rattle.kt_script.proofs.Buffers.{is_spelled, read_again}
use Rattle.kt_script.proofs.OpSpelled.{has_spelling}
use Rattle.kt_script.proofs.Spelling.{scripts_are_fit}

-- the table of a load is that of a script
pub load_is_table : IsTable load_columns
load_is_table = (scripts_are_fit (codes "table\ncolumn id int64 key\ncolumn v int64\n") (record { columns = load_columns; plan = [] }) refl).table

-- an operation of a load has a spelling
drawn_op_spelled : (s y : ℕ) → s ≤ 4 → OpFits (load_op s y)
drawn_op_spelled s y few = has_spelling load_columns (load_op s y) load_is_table (drawn_op_fits s y few)

pub op_kept : (b : SpelledOp) (s y : ℕ) → s ≤ 4 → Spells b (load_op s y) → HasSpelling b
op_kept b s y few is = is_spelled b (load_op s y) (drawn_op_spelled s y few) is

pub op_is : (b : SpelledOp) (s y : ℕ) → s ≤ 4 → Spells b (load_op s y) → spelled_op b ≡ load_op s y
op_is b s y few is = read_again b (load_op s y) (drawn_op_spelled s y few) is

-- one session more of the plan
abbrev pub sessions_to : ℕ → ℕ → List (List Command)
sessions_to n k = map (load_session n) (take k (1 ∷ 2 ∷ 3 ∷ 4 ∷ []))

pub session_more : (n k : ℕ) → k < 4 → sessions_to n k ++ load_session n (k + 1) ∷ [] ≡ sessions_to n (k + 1)
session_more n zero low = refl
session_more n (suc zero) low = refl
session_more n (suc (suc zero)) low = refl
session_more n (suc (suc (suc zero))) low = refl
session_more n (suc (suc (suc (suc k)))) low = absurd (omega (arith, low))
