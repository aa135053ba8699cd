-- The engine after each event.
use Rattle.std.specs.Prelude.{◌≡◌, ℕ, zero, suc, ◌+◌, true, not, List, [], ◌∷◌, ◌++◌, map, Option, Some, None, slice_get, drop, max, min, ◌==◌}
use Rattle.std.specs.List.{filter}
use Rattle.kt_history.specs.declared.change.Change.{Change}
use Rattle.kt_history.specs.declared.operation.RowOp.{RowOp}
use Rattle.kt_history.specs.declared.event.Event.{Event}
use Rattle.kt_history.specs.declared.event.Event.TheVariants as event
use Rattle.kt_history.specs.Operations.{effect}
use Rattle.kt_history.specs.Machine.{Turn, set_nth, least, clean_below}
use Rattle.kt_histlaws.specs.Histories.{pushed, on_nth}
use Rattle.kt_history.specs.Stores.{Store}
use Rattle.kt_histlaws.specs.Pending.{Aloft}
use Rattle.kt_histlaws.specs.Core.{Core, flown_by, live}

-- session s goes on to the command after i
abbrev pub next_turn : List Turn → ℕ → ℕ → List Turn
next_turn turns s i = set_nth turns s (record { next = i + 1; look = None })

-- a write begins
abbrev pub begun : Core → ℕ → ℕ → ℕ → ℕ → List RowOp → Core
begun core s i ts m ops = record core { trail = core.trail ++ event.Begin s i ts m ∷ []; c = ts; aloft = core.aloft ++ record { s = s; i = i; ts = ts; ops = ops; applied = 0 } ∷ [] }

-- operation number `applied` of flying write j is this
abbrev pub IsNextOp : ℕ → List Aloft → ℕ → RowOp → Type 0
IsNextOp j [] ts op = ⊥
IsNextOp zero (w ∷ aloft) ts op = (w.ts ≡ ts) × (slice_get w.ops w.applied ≡ Some op)
IsNextOp (suc j) (w ∷ aloft) ts op = IsNextOp j aloft ts op

abbrev pub advance : Aloft → Aloft
advance w = record w { applied = w.applied + 1 }

-- a change joins store i, where there is one
abbrev pub pushed_if : ℕ → List ℕ → ℕ → Option Change → List Store → List Store
pushed_if i q ts None stores = stores
pushed_if i q ts (Some x) stores = pushed i q ts x stores

-- the next row of flying write j is applied, its change if any in store i
abbrev pub applied : Core → ℕ → ℕ → ℕ → RowOp → Core
applied core j i ts op = record core { aloft = on_nth j advance core.aloft; stores = pushed_if i op.key ts (effect core.work.fill op.kind op.cells (live core.stores op.key ts)).0 core.stores }

-- all rows of the flying write of s are applied
abbrev pub IsOver : ℕ → List Aloft → Type 0
IsOver s [] = Unit {0}
IsOver s (w ∷ aloft) = (w.s == s ≡ true → drop w.applied w.ops ≡ []) × IsOver s aloft

-- a write ends
abbrev pub ended : Core → ℕ → ℕ → ℕ → Core
ended core s i ts = record core { trail = core.trail ++ event.End s i ts ∷ []; aloft = filter (λ w. not (w.s == s)) core.aloft; turns = next_turn core.turns s i }

-- a scan of the present draws its time
abbrev pub looked : Core → ℕ → ℕ → ℕ → ℕ → Core
looked core s i t m = record core { trail = core.trail ++ event.Look s i t m ∷ []; c = t; turns = set_nth core.turns s (record { next = i; look = Some t }) }

-- a scan is answered
abbrev pub answered_rows : Core → ℕ → ℕ → ℕ → Core
answered_rows core s i t = record core { trail = core.trail ++ event.Rows s i t ∷ []; c = max core.c t; turns = next_turn core.turns s i }

-- the mark rises as far as is asked, below each write that flies
abbrev pub raised : Core → ℕ → ℕ
raised core t = max core.a (min t (clean_below (least (map flown_by core.aloft)) core.c))

abbrev pub marked : Core → ℕ → ℕ → ℕ → Core
marked core s i a = record core { trail = core.trail ++ event.Mark s i a ∷ []; a = a; turns = next_turn core.turns s i }

-- a line answers a command and changes nothing else
abbrev pub answered : Core → ℕ → ℕ → Event → Core
answered core s i e = record core { trail = core.trail ++ e ∷ []; turns = next_turn core.turns s i }

-- the engine stops
abbrev pub halted : Core → Core
halted core = record core { trail = core.trail ++ event.Stop ∷ []; stopped = true }
