-- What a run keeps of the writes that fly.
use Rattle.std.specs.Prelude.{◌≡◌, ◌<◌, ◌≤◌, ℕ, ◌-◌, false, List, [], ◌∷◌}
use Rattle.kt_history.specs.declared.operation.RowOp.{RowOp}
use Rattle.kt_history.specs.Rows.{Row}
use Rattle.kt_history.specs.History.{Past, rows_at}
use Rattle.kt_history.specs.Operations.{effect_on, share_key, DifferentKeys}
use Rattle.kt_history.specs.Machine.{Flying}
use Rattle.kt_histlaws.specs.Histories.{timeline}
use Rattle.kt_history.specs.Stores.{Steps, Hist, step_at, Under}

-- nothing above u
abbrev pub UpTo : ℕ → Steps → Type 0
UpTo u [] = Unit {0}
UpTo u (c ∷ steps) = (c.0 ≤ u) × UpTo u steps

abbrev pub AllUnder : ℕ → List Hist → Type 0
AllUnder ts [] = Unit {0}
AllUnder ts (h ∷ hs) = Under ts h.steps × AllUnder ts hs

-- an operation of a write that flies: the past has its change, and no later one of its key
pub record OpFlies (fill : Row) (past : Past) (ts : ℕ) (op : RowOp) : Type 0 where
  pub change : step_at ts (timeline op.key past.writes) ≡ (effect_on fill (rows_at past (ts - 1)) op).0
  pub last : UpTo ts (timeline op.key past.writes)

-- each operation
abbrev pub AllOps : (RowOp → Type 0) → List RowOp → Type 0
AllOps P [] = Unit {0}
AllOps P (op ∷ ops) = P op × AllOps P ops

-- each write that flies lies between the marks, is on different keys, and its operations fly
abbrev pub AllFly : Row → Past → ℕ → ℕ → List Flying → Type 0
AllFly fill past a c [] = Unit {0}
AllFly fill past a c (w ∷ flying) = (a < w.ts) × (w.ts ≤ c) × DifferentKeys w.ops × AllOps (OpFlies fill past w.ts) w.ops × AllFly fill past a c flying

-- none of these writes has a key of the operations
abbrev pub SharesNone : List RowOp → List Flying → Type 0
SharesNone ops [] = Unit {0}
SharesNone ops (w ∷ flying) = (share_key ops w.ops ≡ false) × SharesNone ops flying

-- no two share a key
abbrev pub AreDisjoint : List Flying → Type 0
AreDisjoint [] = Unit {0}
AreDisjoint (w ∷ flying) = SharesNone w.ops flying × AreDisjoint flying
