-- What the keys of some operations tell of a key behind them.
use Rattle.std.specs.Prelude.{◌≡◌, ◌-◌, ℕ, List, length, get_or}
use Rattle.std.specs.List.{All}
use Rattle.std.specs.declared.cmp.Ordering.TheVariants.{Less}
use Rattle.kt_history.specs.Rows.{key_cmp}
use Rattle.kt_history.specs.declared.operation.RowOp.{RowOp}

-- the key is above all of theirs
abbrev pub AreBelow : List RowOp → List ℕ → Type 0
AreBelow ops key = All (λ (op : RowOp). key_cmp op.key key ≡ Less) ops

-- a key above the last one's is above all of theirs
abbrev pub LastIsTop : List RowOp → Type 0
LastIsTop ops = (last : RowOp) (key : List ℕ) → last ≡ get_or ops (length ops - 1) last → key_cmp last.key key ≡ Less → AreBelow ops key
