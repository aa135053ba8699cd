-- A job in two phases, for one key: what each COMMIT names is enough.
use Rattle.std.specs.Prelude.{◌≡◌, ◌<◌, ◌≤◌, ℕ, Bool, false, List, [], ◌∷◌, Some, None}
use Rattle.kt_history.specs.declared.change.Change.{Change}
use Rattle.kt_history.specs.declared.target.Target.{Target}
use Rattle.kt_history.specs.Rows.{Row}
use Rattle.kt_history.specs.Operations.{effect}
use Rattle.kt_records.specs.declared.entry.Entry.{Entry}
use Rattle.kt_journal.specs.Log.{IsLog}
use Rattle.kt_histlaws.specs.Fitting.{AreSound}
use Rattle.kt_histlaws.specs.Jobs.{AreAlike}
use Rattle.kt_content.specs.Places.{Super, Place, Held, Moves, held_in, at_first, standing, row_there, live_in, needed_in, OneLive}
use Rattle.kt_content.specs.KeyOps.{KeyOp, seen, may_join, to_live}
use Rattle.kt_content.specs.Agreement.{Agree, all_moved}
use Rattle.kt_content.specs.Publishing.{kept, gone, AllKept, AllGone}
use Rattle.kt_content.specs.Replacing.{ReplacesKey}
use Rattle.kt_content.specs.InMemory.{HasPlace}
use Rattle.kt_content.specs.StoreChanges.{kept_moves}
use Rattle.kt_content.specs.Content.{AboveFiles}

-- How an operation goes over from the old superblock to the new one. The job's mark is j, and next is what the new stores have in the end.
pub data Way (fill : Row) (keep : Place → Bool) (old new : Super) (j : ℕ) (next : Held) (x : KeyOp) (was now : Moves) : Type 0 where
  -- its COMMIT names stores that the job leaves
  left : (targets : List Target) → x.told ≡ Some targets → AllKept keep (needed_in old targets) → needed_in new targets ≡ needed_in old targets → now ≡ was
      → Way fill keep old new j next x was now
  -- or inputs alone: the outputs' files have it
  covered : (targets : List Target) → x.told ≡ Some targets → AllGone keep (needed_in old targets) → needed_in new targets ≡ [] → now ≡ []
      → Way fill keep old new j next x was now
  -- or an input and an output, above the mark and on a row that was there
  doubled : (targets : List Target) (p : Place) (c : Change) (row : Row) → x.told ≡ Some targets → AllGone keep (needed_in old targets)
      → needed_in new targets ≡ p ∷ [] → keep p ≡ false → j < x.ts
      → (effect fill x.op.kind x.op.cells (Some row)).0 ≡ Some c → now ≡ (p, c) ∷ [] → Way fill keep old new j next x was now
  -- or the MemRowSet or DeltaMemStore that took writes since the job froze others: there it makes this change under the new superblock too
  stays : (targets : List Target) (p : Place) (c : Change) → x.told ≡ Some targets → AllGone keep (needed_in old targets) → needed_in new targets ≡ p ∷ []
      → keep p ≡ false
      → may_join p (effect fill x.op.kind x.op.cells (row_there p (standing x.ts next))).0 ≡ Some c → now ≡ (p, c) ∷ [] → Way fill keep old new j next x was now
  -- or it flies: it goes to the store that has the key live, which is one, and to one that the job leaves in both cases or in none
  flies : x.told ≡ None → now ≡ to_live fill x.op (live_in (standing x.ts next)) → kept_moves keep now ≡ kept_moves keep was → OneLive (standing x.ts next)
      → Way fill keep old new j next x was now

abbrev pub AllWays : Row → (Place → Bool) → Super → Super → ℕ → Held → List KeyOp → List Moves → List Moves → Type 0
AllWays fill keep old new j next [] [] [] = Unit {0}
AllWays fill keep old new j next (x ∷ xs) (m ∷ ms) (n ∷ ns) = Way fill keep old new j next x m n × AllWays fill keep old new j next xs ms ns
AllWays fill keep old new j next _ _ _ = ⊥

-- each output has its place in the new superblock
abbrev pub HasOutputs : (Place → Bool) → List Moves → Held → Type 0
HasOutputs keep [] held = Unit {0}
HasOutputs keep ([] ∷ ns) held = HasOutputs keep ns held
HasOutputs keep ((n ∷ more) ∷ ns) held = HasPlace n.0 held × HasOutputs keep ns held

-- With these ways, and outputs that are sound from the job's mark on and alike to the inputs from a later one on, the new superblock holds of the
-- key what the old one holds.
abbrev pub ways_replace_a_key : Type 0
ways_replace_a_key = (fill : Row) (keep : Place → Bool) (old new : Super) (records : List Entry) (j b : ℕ) (q : List ℕ) (held : Held) (ms ns : List Moves)
    → IsLog records → kept keep (at_first q new) ≡ kept keep (at_first q old) → held ≡ all_moved (seen q records records) ms (at_first q old)
    → Agree fill old held (seen q records records) ms
    → AllWays fill keep old new j (all_moved (seen q records records) ns (at_first q new)) (seen q records records) ms ns → HasOutputs keep ns (at_first q new)
    → AreAlike b (held_in (gone keep held)) (held_in (gone keep (all_moved (seen q records records) ns (at_first q new))))
    → AreSound j (held_in (gone keep (all_moved (seen q records records) ns (at_first q new)))) → j ≤ new.a
    → AboveFiles fill q new (all_moved (seen q records records) ns (at_first q new)) (seen q records records)
    → ReplacesKey fill keep old new records b q held
