-- A job's outputs take the place of its inputs, in what a superblock and the records of a log hold of one key.
use Rattle.std.specs.Prelude.{◌≡◌, ◌≤◌, ◌⊎◌, ℕ, Bool, true, false, not, List, [], ◌∷◌, Option, Some, None, Ok}
use Rattle.std.specs.List.{filter}
use Rattle.kt_history.specs.declared.change.Change.{Change}
use Rattle.kt_history.specs.declared.target.Target.{Target}
use Rattle.kt_history.specs.Rows.{Row}
use Rattle.kt_history.specs.Operations.{effect}
use Rattle.kt_history.specs.Stores.{Hist}
use Rattle.kt_histlaws.specs.Fitting.{AreSound}
use Rattle.kt_histlaws.specs.Jobs.{AreAlike}
use Rattle.kt_content.specs.Places.{Super, Place, Held, Moves, held_in, standing, row_there, live_in, needed_in}
use Rattle.kt_content.specs.KeyOps.{KeyOp, to_live, may_join, played}
use Rattle.kt_content.specs.Content.{Shown}
use Rattle.kt_content.specs.Agreement.{OpsRise, all_moved, Agree}

-- the stores that a job leaves as they are, and the others: its inputs with the old superblock, its outputs with the new one
abbrev pub kept : (Place → Bool) → Held → Held
kept keep held = filter (λ h. keep h.0) held

abbrev pub gone : (Place → Bool) → Held → Held
gone keep held = filter (λ h. not (keep h.0)) held

abbrev pub AllKept : (Place → Bool) → List Place → Type 0
AllKept keep [] = Unit {0}
AllKept keep (p ∷ places) = (keep p ≡ true) × AllKept keep places

-- The COMMIT of an operation names stores that the job leaves, and the new superblock needs it where the old one does; or none
-- of those, and the new superblock needs it nowhere: what it did stands in the files of the outputs.
abbrev pub AllGone : (Place → Bool) → List Place → Type 0
AllGone keep [] = Unit {0}
AllGone keep (p ∷ places) = (keep p ≡ false) × AllGone keep places

abbrev pub IsCarried : (Place → Bool) → Super → Super → Option (List Target) → Type 0
IsCarried keep old new None = ⊥
IsCarried keep old new (Some targets) = (AllKept keep (needed_in old targets) × (needed_in new targets ≡ needed_in old targets)) ⊎ (AllGone keep (needed_in old targets) × (needed_in new targets ≡ []))

abbrev pub AllCarried : (Place → Bool) → Super → Super → List KeyOp → Type 0
AllCarried keep old new [] = Unit {0}
AllCarried keep old new (x ∷ xs) = IsCarried keep old new x.told × AllCarried keep old new xs

-- what the stores that a job leaves have stays as it is, and its outputs have what their files have
pub record CarriedOver (fill : Row) (keep : Place → Bool) (new : Super) (held final : Held) (xs : List KeyOp) : Type 0 where
  pub next : Held
  pub is : played fill new held xs ≡ Ok next
  pub rest : kept keep next ≡ kept keep final
  pub outputs : gone keep next ≡ gone keep held

-- A job in one step: each write has its COMMIT. The other stores are the same under both superblocks.
abbrev pub a_job_in_one_step_carries_over : Type 0
a_job_in_one_step_carries_over = (fill : Row) (keep : Place → Bool) (old new : Super) (held final outputs : Held) (xs : List KeyOp)
    → AllCarried keep old new xs → kept keep outputs ≡ kept keep held → played fill old held xs ≡ Ok final → CarriedOver fill keep new outputs final xs

-- where the outputs are alike to the inputs from a mark on, the stores show the same from there on
abbrev pub outputs_show_what_inputs_showed : Type 0
outputs_show_what_inputs_showed = (keep : Place → Bool) (a b j : ℕ) (final next : Held) (whole : Hist)
    → Shown a final whole → kept keep next ≡ kept keep final → AreAlike j (held_in (gone keep final)) (held_in (gone keep next))
    → AreSound b (held_in (gone keep next)) → a ≤ b → j ≤ b
    → Shown b next whole

-- A job in two phases: what becomes of one operation under the new superblock, told by the stores in the end.
pub data Carries (fill : Row) (keep : Place → Bool) (old new : Super) (next : Held) (x : KeyOp) (was now : Moves) : Type 0 where
  -- it is needed by stores that the job leaves
  left_alone : (targets : List Target) → x.told ≡ Some targets → AllKept keep (needed_in old targets) → needed_in new targets ≡ needed_in old targets
      → now ≡ was → Carries fill keep old new next x was now
  -- the files of the outputs have it, written as of the bound or missed
  covered : (targets : List Target) → x.told ≡ Some targets → needed_in new targets ≡ [] → now ≡ [] → Carries fill keep old new next x was now
  -- it went to an output too
  doubled : (targets : List Target) (p : Place) (c : Change) → x.told ≡ Some targets → needed_in new targets ≡ p ∷ []
      → may_join p (effect fill x.op.kind x.op.cells (row_there p (standing x.ts next))).0 ≡ Some c
      → now ≡ (p, c) ∷ [] → Carries fill keep old new next x was now
  -- it has no COMMIT yet, and goes where the key is live
  flies : x.told ≡ None → now ≡ to_live fill x.op (live_in (standing x.ts next)) → Carries fill keep old new next x was now

abbrev pub AllCarry : Row → (Place → Bool) → Super → Super → Held → List KeyOp → List Moves → List Moves → Type 0
AllCarry fill keep old new next [] [] [] = Unit {0}
AllCarry fill keep old new next (x ∷ xs) (m ∷ ms) (n ∷ ns) = Carries fill keep old new next x m n × AllCarry fill keep old new next xs ms ns
AllCarry fill keep old new next _ _ _ = ⊥

-- Where the other stores end alike under both superblocks, and each operation carries over, the new superblock and the log make these stores.
abbrev pub a_job_in_two_phases_carries_over : Type 0
a_job_in_two_phases_carries_over = (fill : Row) (keep : Place → Bool) (old new : Super) (low : ℕ) (held final outputs : Held) (xs : List KeyOp)
    (ms ns : List Moves)
    → OpsRise low xs → Agree fill old final xs ms → AllCarry fill keep old new (all_moved xs ns outputs) xs ms ns
    → kept keep (all_moved xs ns outputs) ≡ kept keep final
    → played fill new outputs xs ≡ Ok (all_moved xs ns outputs)
