-- A log without a superblock has the content that it has under the superblock of a fresh tablet.
use Rattle.std.specs.Prelude.{ℕ, List}
use Rattle.kt_history.specs.Rows.{Row}
use Rattle.kt_history.specs.History.{Past, raise}
use Rattle.kt_records.specs.declared.entry.Entry.{Entry}
use Rattle.kt_journal.specs.Log.{IsLog}
use Rattle.kt_loglaws.specs.Replay.{last_of}
use Rattle.kt_loglaws.specs.Laws.{LogHolds}
use Rattle.kt_content.specs.Places.{fresh}
use Rattle.kt_content.specs.Content.{IsContent, SameFrom}
use Rattle.kt_histlaws.specs.Histories.{past_hist}
use Rattle.kt_content.specs.Rules.{Rules, RecordsPass}

-- what the replay of a log alone makes of an empty table is its content under the superblock of a fresh tablet, told from the mark 0 on
abbrev pub the_bare_log_is_the_empty_superblock : Type 0
the_bare_log_is_the_empty_superblock = (rules : Rules) (fill : Row) (records : List Entry) (past : Past) → IsLog records → RecordsPass rules fill records
    → LogHolds fill records past → IsContent rules fill fresh records (last_of records) (raise past 0)

-- and a log with a content under it is replayed alone, to a past of which each key has the same history from there on
abbrev pub the_empty_superblock_is_the_bare_log : Type 0
the_empty_superblock_is_the_bare_log = (rules : Rules) (fill : Row) (records : List Entry) (c : ℕ) (past : Past) → IsLog records
    → IsContent rules fill fresh records c past
    → (found : Past) × LogHolds fill records found × ((q : List ℕ) → SameFrom 0 (past_hist q (raise found 0)) (past_hist q past))
