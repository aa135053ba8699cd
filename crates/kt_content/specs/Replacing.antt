-- One superblock in place of another, over the same records.
use Rattle.std.specs.Prelude.{◌≡◌, ◌≤◌, ◌<◌, ℕ, Bool, max, List, [], ◌∷◌, ◌++◌, Ok, length}
use Rattle.kt_history.specs.Rows.{Row}
use Rattle.kt_history.specs.History.{Past, IsPast, IsPastUpTo, raise}
use Rattle.kt_records.specs.declared.entry.Entry.{Entry}
use Rattle.kt_histlaws.specs.Histories.{past_hist, ShowsKey}
use Rattle.kt_history.specs.Stores.{Hist, Under}
use Rattle.kt_histlaws.specs.Fitting.{AreSound}
use Rattle.kt_histlaws.specs.Jobs.{AreAlike}
use Rattle.kt_journal.specs.Log.{IsLog}
use Rattle.kt_loglaws.specs.Replay.{last_of}
use Rattle.kt_loglaws.specs.Fronts.{with_records}
use Rattle.kt_content.specs.Places.{Super, Place, Held, Moves, held_in, at_first}
use Rattle.kt_content.specs.KeyOps.{KeyOp, seen, played}
use Rattle.kt_content.specs.Content.{Shown, HoldsKey, content_at, IsContent, NumbersDiffer, UntoldLiveOnce, AboveFiles}
use Rattle.kt_content.specs.Agreement.{Agree, all_moved}
use Rattle.kt_content.specs.Publishing.{kept, gone, AllCarried, AllCarry}
use Rattle.kt_content.specs.Records.{AllTold}
use Rattle.kt_content.specs.MoreOps.{PlacesDiffer, BeginsInMemory, untold, with_op}
use Rattle.kt_history.specs.declared.operation.RowOp.{RowOp}
use Rattle.kt_content.specs.Rules.{Rules, RowsetsPass}

-- what stores show of a past from a later mark on, they show of that past as it is told from there on
abbrev pub a_raised_past_is_shown : Type 0
a_raised_past_is_shown = (past : Past) (mark : ℕ) (q : List ℕ) (hs : List Hist) → IsPast past → past.mark ≤ mark → ShowsKey mark hs (past_hist q past)
    → ShowsKey mark hs (past_hist q (raise past mark))

abbrev pub a_raised_past_is_one : Type 0
a_raised_past_is_one = (past : Past) (c mark : ℕ) → IsPastUpTo c past → past.mark ≤ mark → mark ≤ c → IsPastUpTo c (raise past mark)

-- records more and a later mark come in either order
abbrev pub records_and_marks_change_places : Type 0
records_and_marks_change_places = (fill : Row) (super : Super) (low : ℕ) (log : List Entry) (past : Past) (mark : ℕ) (run : List Entry)
    → AllTold fill super low log run → IsPastUpTo low past → past.mark ≤ mark → mark ≤ low
    → with_records fill (raise past mark) run ≡ raise (with_records fill past run) mark

-- A job in one step, over whole contents: its superblock leaves the other stores as they are, each operation carries over, and of each
-- key the files of the outputs are alike to the inputs from the job's mark on.
pub record ReplacesAtOnce (rules : Rules) (fill : Row) (keep : Place → Bool) (old new : Super) (records : List Entry) (j : ℕ) : Type 0 where
  pub numbers : NumbersDiffer new.rowsets
  pub files : RowsetsPass rules new.rowsets
  pub rest : (q : List ℕ) → kept keep (at_first q new) ≡ kept keep (at_first q old)
  pub carried : (q : List ℕ) → AllCarried keep old new (seen q records records)
  pub alike : (q : List ℕ) (held : Held) → content_at fill old records q ≡ Ok held
      → AreAlike j (held_in (gone keep held)) (held_in (gone keep (at_first q new)))
  pub sound : (q : List ℕ) → AreSound new.a (held_in (gone keep (at_first q new)))
  pub above : (q : List ℕ) (held : Held) → AboveFiles fill q new held (seen q records records)

-- A job in two phases: of each key the outputs with what was duplicated, and what flies, are alike to the inputs with it.
pub record ReplacesKey (fill : Row) (keep : Place → Bool) (old new : Super) (records : List Entry) (j : ℕ) (q : List ℕ) (held : Held) : Type 0 where
  pub moves : List Moves
  pub carry : (ms : List Moves) → Agree fill old held (seen q records records) ms
      → AllCarry fill keep old new (all_moved (seen q records records) moves (at_first q new)) (seen q records records) ms moves
  pub rest : kept keep (all_moved (seen q records records) moves (at_first q new)) ≡ kept keep held
  pub alike : AreAlike j (held_in (gone keep held)) (held_in (gone keep (all_moved (seen q records records) moves (at_first q new))))
  pub sound : AreSound new.a (held_in (gone keep (all_moved (seen q records records) moves (at_first q new))))
  pub once : UntoldLiveOnce (all_moved (seen q records records) moves (at_first q new)) (seen q records records)
  pub above : AboveFiles fill q new (all_moved (seen q records records) moves (at_first q new)) (seen q records records)

pub record Replaces (rules : Rules) (fill : Row) (keep : Place → Bool) (old new : Super) (records : List Entry) (j : ℕ) : Type 0 where
  pub numbers : NumbersDiffer new.rowsets
  pub files : RowsetsPass rules new.rowsets
  pub keys : (q : List ℕ) (held : Held) → content_at fill old records q ≡ Ok held → ReplacesKey fill keep old new records j q held

-- the marks of a superblock that replaces another, and that it needs no more records than there are
pub record Follows (old new : Super) (records : List Entry) (c d j : ℕ) : Type 0 where
  pub enough : new.need ≤ length records
  pub mark : old.a ≤ new.a
  pub job : j ≤ new.a
  pub last : d ≡ max new.c (last_of records)
  pub up : c ≤ d
  pub marked : new.a ≤ d

-- with the new superblock the same records hold the same past, told from its mark on
abbrev pub a_job_in_one_step_publishes_the_same : Type 0
a_job_in_one_step_publishes_the_same = (rules : Rules) (fill : Row) (keep : Place → Bool) (old new : Super) (records : List Entry) (c d j : ℕ) (past : Past)
    → IsContent rules fill old records c past → ReplacesAtOnce rules fill keep old new records j → Follows old new records c d j
    → IsContent rules fill new records d (raise past new.a)

abbrev pub a_job_in_two_phases_publishes_the_same : Type 0
a_job_in_two_phases_publishes_the_same = (rules : Rules) (fill : Row) (keep : Place → Bool) (old new : Super) (records : List Entry) (c d j : ℕ) (past : Past)
    → IsContent rules fill old records c past → Replaces rules fill keep old new records j → Follows old new records c d j → IsLog records
    → IsContent rules fill new records d (raise past new.a)

-- a superblock that holds of each key what the past has holds the past, told from its mark on
abbrev pub each_key_held_is_a_content : Type 0
each_key_held_is_a_content = (rules : Rules) (fill : Row) (old new : Super) (records : List Entry) (c d j : ℕ) (past : Past) → IsContent rules fill old records c past
    → Follows old new records c d j
    → NumbersDiffer new.rowsets → RowsetsPass rules new.rowsets → ((q : List ℕ) → HoldsKey fill new records q (past_hist q past)) → IsContent rules fill new records d (raise past new.a)

-- Where the last operation of a key flies, above both marks, it is enough that the new superblock holds the others as the old one does.
abbrev pub a_flying_operation_is_held_too : Type 0
a_flying_operation_is_held_too = (fill : Row) (old new : Super) (ts : ℕ) (was now later : Held) (whole : Hist) (xs : List KeyOp) (op : RowOp)
    → PlacesDiffer was → BeginsInMemory was → PlacesDiffer now → BeginsInMemory now → played fill old was (xs ++ untold ts op ∷ []) ≡ Ok later
    → Shown old.a later (with_op fill ts op whole) → Under ts whole.steps → old.a < ts → new.a < ts
    → ((held : Held) → played fill old was xs ≡ Ok held → Shown old.a held whole → (next : Held) × (played fill new now xs ≡ Ok next) × Shown new.a next whole)
    → (next : Held) × (played fill new now (xs ++ untold ts op ∷ []) ≡ Ok next) × Shown new.a next (with_op fill ts op whole)
