-- Worked cases: what two images are refused for, the stores that are opened, the COMMITs that are owed and the numbers.
use Rattle.std.proofs.Common.{◌≡◌, List, [], ◌∷◌, Some, None, Ok, Err, refl, true, false}
use Rattle.kt_history.specs.declared.change.Change.TheVariants.{Ins, Upd, Del}
use Rattle.kt_history.specs.declared.operation.OpKind.TheVariants.{Update}
use Rattle.kt_history.specs.declared.operation.RowOp.{RowOp}
use Rattle.kt_history.specs.declared.target.Target.TheVariants.{Mem, Delta}
use Rattle.kt_history.specs.Operations.{need}
use Rattle.kt_history.specs.Rows.{Row}
use Rattle.kt_records.specs.declared.entry.Entry.{Entry}
use Rattle.kt_records.specs.declared.entry.Entry.TheVariants.{Replicate}
use Rattle.kt_loglaws.specs.Replay.{gate_of}
use Rattle.kt_super.specs.declared.meta.Meta.{Meta}
use Rattle.kt_rowfiles.specs.Files.{DiskRowset}
use Rattle.kt_rowfiles.specs.Fitting.{undos_fit, readable}
use Rattle.kt_content.specs.Places.{memory, disk, fresh}
use Rattle.kt_content.specs.Opening.{Placed}
use Rattle.kt_content.proofs.Worked.{k, a, b, insert, commit, rowset_flushed, super_flushed, log_updated}
use Rattle.kt_reopen.specs.declared.why.Why.TheVariants.{B1, B3, B4}
use Rattle.kt_reopen.specs.Both.{read_both, first_stores, stores_after, found_or_late}
use Rattle.kt_reopen.specs.Needed.{needs_of}
use Rattle.kt_reopen.specs.Numbers.{mem_number, dms_number, next_rowset, name_of}
use Rattle.kt_reopen.specs.Owed.{owed}

-- ---- slots and log

abbrev meta : Meta
meta = record { number = 2; a = 0; c = 4096; need = 2; last_mem = 1; next_rowset = 2; next_file = 6; next_column = 3; schema = []; rowsets = [] }

abbrev one_record : List Entry
one_record = Replicate 4096 (insert a) ∷ []

abbrev two_records : List Entry
two_records = Replicate 4096 (insert a) ∷ commit 4096 (Mem 1 ∷ []) ∷ []

-- nothing yet
nothing_yet : read_both (Ok None) (Ok []) ≡ Ok (None, [])
nothing_yet = refl

-- a log without a superblock, whole or with a fault behind its first frame, and a first frame that is at fault
no_superblock : (read_both (Ok None) (Ok one_record) ≡ Err (B1 1 0)) × (read_both (Ok None) (Err 57) ≡ Err (B1 1 0)) × (read_both (Ok None) (Err 0) ≡ Err (B3 0))
no_superblock = (refl, refl, refl)

-- a superblock and its log, which may have too few records, or a fault
with_superblock : (read_both (Ok (Some meta)) (Ok two_records) ≡ Ok (Some meta, two_records)) × (read_both (Ok (Some meta)) (Ok one_record) ≡ Err (B4 2 1)) × (read_both (Ok (Some meta)) (Err 57) ≡ Err (B3 57))
with_superblock = (refl, refl, refl)

-- a slot at fault comes before all faults of the log
slot_first : read_both (Err (record { slot = 2; offset = 8 })) (Err 0) ≡ Err (B1 2 8)
slot_first = refl

-- ---- the stores

abbrev update : Row → List RowOp
update row = record { kind = Update; key = k; cells = row } ∷ []

-- insert, flush, update: the insert is in the files, and the update is done again
abbrev updated : Placed
updated = (memory, []) ∷ (disk 1, (k, record { first = None; steps = (4096, Ins a) ∷ (8192, Upd b) ∷ [] }) ∷ []) ∷ []

update_again : stores_after [] super_flushed log_updated ≡ Ok updated
update_again = refl

-- the same without the COMMIT of the update, which is owed then
abbrev log_untold : List Entry
log_untold = Replicate 4096 (insert a) ∷ commit 4096 (Mem 1 ∷ []) ∷ Replicate 8192 (update b) ∷ []

untold_again : stores_after [] super_flushed log_untold ≡ Ok updated
untold_again = refl

its_commit : owed [] super_flushed (name_of super_flushed log_untold) log_untold (first_stores super_flushed) log_untold ≡ commit 8192 (Delta 1 1 ∷ []) ∷ []
its_commit = refl

-- an update of a row that is not there does not fit the MemRowSet that its COMMIT names: a fault at the gate of that COMMIT
abbrev log_late : List Entry
log_late = Replicate 4096 (update b) ∷ commit 4096 (Mem 1 ∷ []) ∷ []

late : (stores_after [] fresh log_late ≡ Err 4096) × (found_or_late fresh log_late (stores_after [] fresh log_late) ≡ Err (B3 (gate_of 4096 log_late)))
late = (refl, refl)

-- under a superblock that has the named store in its files it is not done again
not_again : stores_after [] (record { a = 0; c = 4096; need = 2; last_mem = 1; rowsets = [] }) log_late ≡ Ok ((memory, []) ∷ [])
not_again = refl

-- a disk rowset takes no insert
abbrev log_misplaced : List Entry
log_misplaced = Replicate 8192 (insert b) ∷ commit 8192 (Delta 1 1 ∷ []) ∷ []

misplaced : stores_after [] super_flushed log_misplaced ≡ Err 8192
misplaced = refl

-- UNDO records that do not fit: the row goes by the first of them, and the second one finds none
abbrev unfit : DiskRowset
unfit = record { rowset = 1; last_dms = 0; base = (k, a) ∷ []; undos = (record { ordinal = 0; ts = 4096; change = Del } ∷ record { ordinal = 0; ts = 2048; change = Upd b } ∷ []) ∷ []; redos = [] }

its_undos : (undos_fit rowset_flushed ≡ true) × (undos_fit unfit ≡ false) × (readable unfit ≡ record { rowset = 1; last_dms = 0; base = (k, a) ∷ []; undos = []; redos = [] })
its_undos = (refl, refl, refl)

-- ---- numbers

-- one above what is durable, or what a COMMIT has named
its_numbers : (mem_number 1 log_updated ≡ 2) × (mem_number 0 log_updated ≡ 1) × (dms_number 1 0 log_updated ≡ 1) × (dms_number 1 1 log_updated ≡ 2) × (next_rowset 2 log_updated ≡ 2)
its_numbers = (refl, refl, refl, refl, refl)

its_names : (name_of super_flushed log_updated memory ≡ Mem 2) × (name_of super_flushed log_updated (disk 1) ≡ Delta 1 1)
its_names = (refl, refl)

-- only the update needs room
its_needs : needs_of super_flushed log_updated log_updated ≡ need (update b)
its_needs = refl
