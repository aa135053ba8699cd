-- What the order of a log keeps of the records before.
use Rattle.std.specs.Prelude.{◌≡◌, ℕ, List}
use Rattle.kt_records.specs.declared.entry.Entry.{Entry}
use Rattle.kt_journal.specs.declared.order.Order.{Order}
use Rattle.kt_journal.specs.Order.{last_ts, waiting}
use Rattle.kt_journal.specs.Waiting.{number_of}

-- the order of these records, from the newest
pub record Tracks (order : Order) (before : List Entry) : Type 0 where
  pub last : order.waiting.last ≡ last_ts before
  pub waits : (ts : ℕ) → number_of ts order.waiting ≡ waiting ts before
