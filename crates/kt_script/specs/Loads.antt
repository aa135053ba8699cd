-- What a `load` line stands for: four sessions, whose writes a generator of numbers draws.
use Rattle.std.specs.Prelude.{◌≡◌, ◌≤◌, ℕ, zero, suc, ◌+◌, ◌-◌, ◌*◌, ◌/◌, ◌%◌, ◌^◌, pos, Bool, true, false, not, ◌&&◌, List, [], ◌∷◌, ◌++◌, map, drop, length, get_or, Option, Some, None, is_some, if◌then◌else◌, ◌==◌, nat_lt, nat_le, codes}
use Rattle.std.specs.Int.{w64}
use Rattle.kt_base.specs.declared.cell.Kind.{Kind}
use Rattle.kt_base.specs.declared.cell.Kind.TheVariants as kind
use Rattle.kt_base.specs.declared.cell.Cell.{Cell}
use Rattle.kt_base.specs.declared.cell.Cell.TheVariants as cell
use Rattle.kt_base.specs.declared.chore.Chore.{Chore}
use Rattle.kt_base.specs.declared.chore.Chore.TheVariants as chore
use Rattle.kt_base.specs.Keys.{number_key}
use Rattle.kt_base.specs.Literals.{same}
use Rattle.kt_schema.specs.declared.column.Column.{Column}
use Rattle.kt_history.specs.declared.command.Command.{Command}
use Rattle.kt_history.specs.declared.command.Command.TheVariants as command
use Rattle.kt_history.specs.declared.operation.OpKind.{OpKind}
use Rattle.kt_history.specs.declared.operation.OpKind.TheVariants as op
use Rattle.kt_history.specs.declared.operation.RowOp.{RowOp}
use Rattle.kt_script.specs.declared.forms.OpForm.{OpForm}
use Rattle.kt_script.specs.declared.forms.OpForm.TheVariants as form
use Rattle.kt_script.specs.Reasons.{reason_if}
use Rattle.kt_script.specs.Writes.{op_form}
use Rattle.kt_script.specs.Times.{mark_in, time_or_zero}
use Rattle.kt_script.specs.Leads.{chores}

-- the most writes of a session
abbrev pub most_load : ℕ
most_load = 64000

-- ---- the table

-- a column of 64-bit numbers, which is never null and has no default
abbrev pub number_column : ℕ → List ℕ → Bool → Column
number_column id name key = record { id = id; name = name; kind = kind.Int64; key = key; nullable = false; default = None }

-- `column id int64 key` and `column v int64`
abbrev pub load_columns : List Column
load_columns = number_column 1 (codes "id") true ∷ number_column 2 (codes "v") false ∷ []

abbrev pub is_int64 : Kind → Bool
is_int64 kind.Int64 = true
is_int64 _ = false

-- whether a column is such a column, whatever its id, which is its place
abbrev pub is_number_column : List ℕ → Column → Bool
is_number_column name c = (same c.name name && is_int64 c.kind) && (not c.nullable && not (is_some c.default))

-- whether the columns are those of a load
abbrev pub is_load_table : List Column → Bool
is_load_table (c ∷ d ∷ []) = (is_number_column (codes "id") c && c.key) && (is_number_column (codes "v") d && not d.key)
is_load_table _ = false

-- ---- the commands

-- the k-th number that session s draws
abbrev pub drawn : ℕ → ℕ → ℕ
drawn s zero = s
drawn s (suc k) = (drawn s k * 6364136223846793005 + 1442695040888963407) % 2 ^ 64

-- what a write may ask for
abbrev pub load_kinds : List OpKind
load_kinds = op.Insert ∷ op.Upsert ∷ op.Update ∷ op.Delete ∷ []

abbrev pub load_kind : ℕ → OpKind
load_kind y = get_or load_kinds (y % 4) op.Delete

-- the cells of an operation that gives v this value
abbrev pub load_cells : OpForm → ℕ → List (ℕ × Cell)
load_cells form.Key v = []
load_cells _ v = (2, cell.Int (pos v)) ∷ []

-- an operation of a kind on the row of this id
abbrev pub row_op : OpKind → ℕ → ℕ → RowOp
row_op kind id v = record { kind = kind; key = number_key w64 (pos id); cells = load_cells (op_form kind) v }

-- the operation of session s for the upper bits of a drawn number. No two sessions have an id in common
abbrev pub load_op : ℕ → ℕ → RowOp
load_op s y = row_op (load_kind y) (4 * ((y / 4) % 256) + s - 1) ((y / 1024) % 1000)

-- the k-th write of session s
abbrev pub load_write : ℕ → ℕ → Command
load_write s k = command.Write (record { ops = load_op s (drawn s k / 2 ^ 33) ∷ [] })

-- the chore of session s behind its 64 j-th write
abbrev pub load_chore : ℕ → ℕ → Chore
load_chore s j = get_or chores ((j + s) % 5) chore.Flush

-- the k-th write of session s, and behind each 64th a chore
abbrev pub load_step : ℕ → ℕ → List Command
load_step s k = load_write s k ∷ (if k % 64 == 0 then command.Chore (load_chore s (k / 64)) ∷ [] else [])

-- the commands of session s up to its n-th write
abbrev pub load_session : ℕ → ℕ → List Command
load_session zero s = []
load_session (suc n) s = load_session n s ++ load_step s (suc n)

-- the commands of the four sessions
abbrev pub load_plan : ℕ → List (List Command)
load_plan n = map (load_session n) (1 ∷ 2 ∷ 3 ∷ 4 ∷ [])

-- ---- the line

-- how many writes each session has, from the words behind `load`: a number alone, as the time behind `mark`
abbrev pub load_number : List (List ℕ) → Option ℕ
load_number words = mark_in words

abbrev pub may_load : Option ℕ → Bool
may_load None = false
may_load (Some n) = nat_lt 0 n && nat_le n most_load

-- why a load line is refused: its number, the columns, or a session that stands above
abbrev pub load_no : List Column → List (List Command) → List (List ℕ) → ℕ
load_no columns plan words = reason_if (not ((may_load (load_number (drop 1 words)) && is_load_table columns) && not (nat_lt 0 (length plan)))) 12

-- how many writes each session of a load line has
abbrev pub load_size : List (List ℕ) → ℕ
load_size words = time_or_zero (load_number (drop 1 words))

-- such a number of writes, unless no load may be so long
abbrev pub IsLoadSize : List (List ℕ) → Option ℕ → Type 0
IsLoadSize words None = may_load (load_number words) ≡ false
IsLoadSize words (Some n) = (load_number words ≡ Some n) × (1 ≤ n) × (n ≤ most_load)

-- so many writes of each session over these columns, unless the line is refused below them
abbrev pub IsLoadTaken : List Column → List (List ℕ) → Option ℕ → Type 0
IsLoadTaken columns words None = (may_load (load_number words) && is_load_table columns) ≡ false
IsLoadTaken columns words (Some n) = (is_load_table columns ≡ true) × (load_number words ≡ Some n) × (1 ≤ n) × (n ≤ most_load)

-- Such a number of writes, over the columns of a load, and the plan of that number.
pub record IsLoad (columns : List Column) (plan : List (List Command)) (n : ℕ) : Type 0 where
  pub some : 1 ≤ n
  pub few : n ≤ most_load
  pub table : columns ≡ load_columns
  pub plan_is : plan ≡ load_plan n
