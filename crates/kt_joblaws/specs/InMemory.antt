-- What the MemRowSets in memory have of a key passes the rules of a table, joined to one history.
use Rattle.std.specs.Prelude.{◌≡◌, ◌≤◌, ℕ, List, ◌++◌}
use Rattle.kt_history.specs.History.{Past}
use Rattle.kt_history.specs.Rows.{Row}
use Rattle.kt_history.specs.Stores.{Hist}
use Rattle.kt_records.specs.declared.entry.Entry.{Entry}
use Rattle.kt_journal.specs.Log.{IsLog}
use Rattle.kt_rowfiles.specs.Merging.{joined_history}
use Rattle.kt_content.specs.Rules.{Rules, AreRules, HistPasses}
use Rattle.kt_content.specs.Places.{Super, memory}
use Rattle.kt_content.specs.InMemory.{group}
use Rattle.kt_content.specs.Recoverable.{Resident, SuperStands}
use Rattle.kt_content.specs.Flushes.{EachTold}
use Rattle.kt_joblaws.specs.Apart.{AreApart}

-- While each write has its COMMIT: from a mark on that is not below the superblock's, where the MemRowSets are apart
abbrev pub what_memory_has_passes : Type 0
what_memory_has_passes = (rules : Rules) (fill : Row) (super : Super) (durable run : List Entry) (past : Past) (live : Resident) (q : List ℕ) (hs : List Hist) (a : ℕ) → AreRules rules
    → IsLog (durable ++ run) → SuperStands rules fill super durable run past live → EachTold (durable ++ run) (durable ++ run)
    → group super memory (live.stores q) ≡ hs → AreApart a hs → super.a ≤ a → HistPasses rules q (joined_history a hs)
