-- A superblock with the data files that it names, and a log, make the pair that holds what both do.
use Rattle.std.proofs.Common.{◌≡◌, ◌≤◌, ℕ, List, [], Bool, true, false, Option, Some, None, Result, Ok, Err, refl, ap, ◌∙◌, arith, length}
use Rattle.std.specs.Prelude.{nat_lt}
use Rattle.std.proofs.lemmas.Bool.Decides.{nat_tests}
use Rattle.kt_disk.specs.Disk.{Files}
use Rattle.kt_history.specs.History.{Past}
use Rattle.kt_records.specs.declared.entry.Entry.{Entry}
use Rattle.kt_journal.specs.Log.{log_of}
use Rattle.kt_schema.specs.declared.column.Column.{Column}
use Rattle.kt_schema.specs.Columns.{fill_of}
use Rattle.kt_super.specs.declared.meta.Meta.{Meta}
use Rattle.kt_super.specs.declared.refusal.Place.{Place}
use Rattle.kt_super.specs.Slots.{super_of}
use Rattle.kt_diskrowset.specs.Rowset.{HeldFiles}
use Rattle.kt_files.specs.Reading.{HoldAll}
use Rattle.kt_content.specs.Rules.{Rules}
use Rattle.kt_content.specs.Content.{IsContent}
use Rattle.kt_reopen.specs.declared.why.Why.{Why}
use Rattle.kt_reopen.specs.Both.{read_both, with_log, count_why, unless, super_in}
use Rattle.kt_reopen.specs.Holding.{HoldBoth}
use Rattle.kt_reopen.specs.Holding.HoldBoth.{later as both_there}

-- a superblock and as many records as it needs are read
enough : (m : Meta) (found : ℕ) → m.need ≤ found → count_why (Some m) found ≡ None
enough m found le = by (nat_lt found m.need) refl
  where
    by : (b : Bool) → nat_lt found m.need ≡ b → count_why (Some m) found ≡ None
    by true h = absurd (grind (arith, nat_tests))
    by false h = rw h refl

pub both_read : (log store : Files) (m : Meta) (records : List Entry) → super_of store ≡ Ok (Some m) → log_of log ≡ Ok records → m.need ≤ length records → read_both (super_of store) (log_of log) ≡ Ok (Some m, records)
both_read log store m records slots reads le =
    ap (λ s. read_both s (log_of log)) slots ∙ (ap (λ l. read_both (Ok (Some m)) l) reads ∙ ap (unless (Some m) records) (enough m (length records) le))

-- So a superblock with the data files that it names and a log hold each past that these make.
pub pair_holds : (rules : Rules) (columns : List Column) (log store : Files) (m : Meta) (held : List HeldFiles) (records : List Entry) (c : ℕ) (past : Past)
    → super_of store ≡ Ok (Some m) → log_of log ≡ Ok records → HoldAll store m.rowsets held → m.schema ≡ columns → IsContent rules (fill_of columns) (super_in m held) records c past
    → HoldBoth rules columns log store c past
pair_holds rules columns log store m held records c past slots reads hold same is = both_there m records held (both_read log store m records slots reads is.enough) hold same is

-- ---- back

abbrev records_in : Result (Option Meta × List Entry) Why → List Entry
records_in (Ok read) = read.1
records_in (Err why) = []

-- where nothing speaks against them, the records are those of the log
unless_read : (meta : Option Meta) (found : List Entry) (why : Option Why) (m : Meta) (records : List Entry) → unless meta found why ≡ Ok (Some m, records) → found ≡ records
unless_read meta found None m records e = ap records_in e
unless_read meta found (Some why) m records e = absurd cc

log_of_read : (meta : Option Meta) (l : Result (List Entry) ℕ) (m : Meta) (records : List Entry) → with_log meta l ≡ Ok (Some m, records) → l ≡ Ok records
log_of_read meta (Err offset) m records e = absurd cc
log_of_read meta (Ok found) m records e = ap Ok (unless_read meta found (count_why meta (length found)) m records e)

-- what was read of the log
pub log_read : (s : Result (Option Meta) Place) (l : Result (List Entry) ℕ) (m : Meta) (records : List Entry) → read_both s l ≡ Ok (Some m, records) → l ≡ Ok records
log_read (Err place) l m records e = absurd cc
log_read (Ok meta) l m records e = log_of_read meta l m records e
