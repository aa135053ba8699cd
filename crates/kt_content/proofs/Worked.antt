-- Worked cases: one key, the superblocks and logs of short scripts.
use Rattle.std.proofs.Common.{◌≡◌, ℕ, List, [], ◌∷◌, Some, None, Option, Ok, Err, refl, map, true, false, sym, subst, arith, ◌<◌, Bool, length}
use Rattle.std.specs.Prelude.{◌==◌, nat_le}
use Rattle.std.specs.List.{list_all}
use Rattle.kt_base.specs.declared.cell.Cell.{Cell}
use Rattle.kt_base.specs.declared.cell.Cell.TheVariants.{Bytes}
use Rattle.kt_history.specs.declared.change.Change.TheVariants.{Ins, Upd, Del}
use Rattle.kt_history.specs.declared.change.Outcome.TheVariants.{Done}
use Rattle.kt_history.specs.declared.changes.Delta.{Delta as Kept}
use Rattle.kt_history.specs.declared.operation.OpKind.TheVariants.{Insert, Update, Delete}
use Rattle.kt_history.specs.declared.operation.RowOp.{RowOp}
use Rattle.kt_history.specs.declared.target.Target.{Target}
use Rattle.kt_history.specs.declared.target.Target.TheVariants.{Mem, Delta}
use Rattle.kt_history.specs.Rows.{Row}
use Rattle.kt_records.specs.declared.entry.Entry.{Entry}
use Rattle.kt_records.specs.declared.entry.Entry.TheVariants.{Replicate, Commit}
use Rattle.kt_histlaws.specs.Histories.{first_some}
use Rattle.kt_history.specs.Stores.{row_of}
use Rattle.kt_rowfiles.specs.Files.{DiskRowset}
use Rattle.kt_content.specs.Places.{Super, memory, disk, Held, fresh, held_in, OneLive, standing}
use Rattle.kt_history.specs.History.{Past}
use Rattle.kt_content.specs.Content.{content_at, IsContent}
use Rattle.kt_content.specs.Rules.{Rules, no_rules}
use Rattle.kt_content.proofs.Options.{two_oks}

abbrev pub k : List ℕ
k = 1 ∷ []

abbrev pub a : Row
a = (2, Bytes (97 ∷ [])) ∷ []

abbrev pub b : Row
b = (2, Bytes (98 ∷ [])) ∷ []

abbrev pub c : Row
c = (2, Bytes (99 ∷ [])) ∷ []

abbrev pub insert : Row → List RowOp
insert row = record { kind = Insert; key = k; cells = row } ∷ []

abbrev update : Row → List RowOp
update row = record { kind = Update; key = k; cells = row } ∷ []

abbrev pub delete : List RowOp
delete = record { kind = Delete; key = k; cells = [] } ∷ []

-- the COMMIT of a write of one operation that is done
abbrev pub commit : ℕ → List Target → Entry
commit ts targets = Commit ts (record { outcome = Done; targets = targets } ∷ [])

-- the row of the key at t, in the stores of an opening
abbrev shown : ℕ → Held → Option Row
shown t held = first_some (map (row_of t) (held_in held))

-- One insert, with its COMMIT durable and before any COMMIT. The content is one
abbrev one_insert : Held
one_insert = (memory, record { first = None; steps = (4096, Ins a) ∷ [] }) ∷ []

with_commit : content_at [] fresh (Replicate 4096 (insert a) ∷ commit 4096 (Mem 1 ∷ []) ∷ []) k ≡ Ok one_insert
with_commit = refl

without_commit : content_at [] fresh (Replicate 4096 (insert a) ∷ []) k ≡ Ok one_insert
without_commit = refl

its_rows : (shown 4095 one_insert ≡ None) × (shown 4096 one_insert ≡ Some a)
its_rows = (refl, refl)

-- insert, flush, update
abbrev pub rowset_flushed : DiskRowset
rowset_flushed = record { rowset = 1; last_dms = 0; base = (k, a) ∷ []; undos = (record { ordinal = 0; ts = 4096; change = Del } ∷ []) ∷ []; redos = [] }

abbrev pub super_flushed : Super
super_flushed = record { a = 0; c = 4096; need = 2; last_mem = 1; rowsets = rowset_flushed ∷ [] }

abbrev pub log_updated : List Entry
log_updated = Replicate 4096 (insert a) ∷ commit 4096 (Mem 1 ∷ []) ∷ Replicate 8192 (update b) ∷ commit 8192 (Delta 1 1 ∷ []) ∷ []

abbrev pub held_updated : Held
held_updated = (memory, record { first = None; steps = [] }) ∷ (disk 1, record { first = None; steps = (4096, Ins a) ∷ (8192, Upd b) ∷ [] }) ∷ []

update_in_a_delta_store : content_at [] super_flushed log_updated k ≡ Ok held_updated
update_in_a_delta_store = refl

its_rows_updated : (shown 4095 held_updated ≡ None) × (shown 4096 held_updated ≡ Some a) × (shown 8191 held_updated ≡ Some a) × (shown 8192 held_updated ≡ Some b)
its_rows_updated = (refl, refl, refl, refl)

-- with the superblock before the flush the same log shows nothing of the rowset that the last COMMIT names
with_the_old_superblock : content_at [] fresh (Replicate 4096 (insert a) ∷ commit 4096 (Mem 1 ∷ []) ∷ []) k ≡ Ok one_insert
with_the_old_superblock = refl

-- Insert, update, flush. The base row is the last, and UNDO records lead back
abbrev rowset_undo : DiskRowset
rowset_undo = record { rowset = 1; last_dms = 0; base = (k, b) ∷ []; undos = (record { ordinal = 0; ts = 8192; change = Upd a } ∷ record { ordinal = 0; ts = 4096; change = Del } ∷ []) ∷ []; redos = [] }

abbrev super_undo : Super
super_undo = record { a = 0; c = 8192; need = 4; last_mem = 1; rowsets = rowset_undo ∷ [] }

abbrev held_undo : Held
held_undo = (memory, record { first = None; steps = [] }) ∷ (disk 1, record { first = None; steps = (4096, Ins a) ∷ (8192, Upd b) ∷ [] }) ∷ []

through_undo : content_at [] super_undo (Replicate 4096 (insert a) ∷ commit 4096 (Mem 1 ∷ []) ∷ Replicate 8192 (update b) ∷ commit 8192 (Mem 1 ∷ []) ∷ []) k ≡ Ok held_undo
through_undo = refl

its_rows_undo : shown 4096 held_undo ≡ Some a
its_rows_undo = refl

-- insert, flush, delete, insert, flush, compact
abbrev pub log_anew : List Entry
log_anew = Replicate 4096 (insert a) ∷ commit 4096 (Mem 1 ∷ []) ∷ Replicate 8192 delete ∷ commit 8192 (Delta 1 1 ∷ []) ∷ Replicate 12288 (insert b) ∷ commit 12288 (Mem 2 ∷ []) ∷ []

abbrev rowset_anew : DiskRowset
rowset_anew = record { rowset = 2; last_dms = 0; base = (k, b) ∷ []; undos = (record { ordinal = 0; ts = 12288; change = Del } ∷ []) ∷ []; redos = [] }

abbrev pub flushed : Super
flushed = record { a = 0; c = 12288; need = 6; last_mem = 2; rowsets = rowset_flushed ∷ rowset_anew ∷ [] }

abbrev pub held_anew : Held
held_anew = (memory, record { first = None; steps = [] }) ∷ (disk 1, record { first = None; steps = (4096, Ins a) ∷ (8192, Del) ∷ [] })
    ∷ (disk 2, record { first = None; steps = (12288, Ins b) ∷ [] }) ∷ []

before_the_compaction : content_at [] flushed log_anew k ≡ Ok held_anew
before_the_compaction = refl

-- the compaction joins both histories: its UNDO records lead back over the second insert, the delete and the first insert
abbrev rowset_joined : DiskRowset
rowset_joined = record {
  rowset = 3;
  last_dms = 0;
  base = (k, b) ∷ [];
  undos = (record { ordinal = 0; ts = 12288; change = Del } ∷ record { ordinal = 0; ts = 8192; change = Ins a } ∷ record { ordinal = 0; ts = 4096; change = Del } ∷ []) ∷ [];
  redos = [];
}

abbrev pub compacted : Super
compacted = record { a = 0; c = 12288; need = 6; last_mem = 2; rowsets = rowset_joined ∷ [] }

abbrev held_joined : Held
held_joined = (memory, record { first = None; steps = [] }) ∷ (disk 3, record { first = None; steps = (4096, Ins a) ∷ (8192, Del) ∷ (12288, Ins b) ∷ [] }) ∷ []

-- the delete names a DeltaMemStore of a rowset that is gone, and is not replayed
after_the_compaction : content_at [] compacted log_anew k ≡ Ok held_joined
after_the_compaction = refl

both_show : (shown 4096 held_joined ≡ Some a) × (shown 8192 held_joined ≡ None) × (shown 12288 held_joined ≡ Some b) × (shown 4096 held_anew ≡ Some a) × (shown 8192 held_anew ≡ None) × (shown 12288 held_anew ≡ Some b)
both_show = (refl, refl, refl, refl, refl, refl)

-- An update while the compaction runs. Missed: it went to the input alone, and a REDO file of the output has it.
-- Duplicated: it went to both
abbrev pub log_of : List Target → List Entry
log_of targets = Replicate 4096 (insert a) ∷ commit 4096 (Mem 1 ∷ []) ∷ Replicate 8192 (update b) ∷ commit 8192 targets ∷ []

abbrev pub output : List DiskRowset
output = record { rowset = 2; last_dms = 0; base = (k, a) ∷ []; undos = (record { ordinal = 0; ts = 4096; change = Del } ∷ []) ∷ []; redos = [] } ∷ []

abbrev pub output_with_missed : List DiskRowset
output_with_missed = record { rowset = 2; last_dms = 0; base = (k, a) ∷ []; undos = (record { ordinal = 0; ts = 4096; change = Del } ∷ []) ∷ []; redos = (record { ordinal = 0; ts = 8192; change = Upd b } ∷ []) ∷ [] } ∷ []

abbrev pub published : List DiskRowset → Super
published rowsets = record { a = 0; c = 4096; need = 4; last_mem = 1; rowsets = rowsets }

abbrev pub in_the_output : Held
in_the_output = (memory, record { first = None; steps = [] }) ∷ (disk 2, record { first = None; steps = (4096, Ins a) ∷ (8192, Upd b) ∷ [] }) ∷ []

missed_with_the_old : content_at [] super_flushed (log_of (Delta 1 1 ∷ [])) k ≡ Ok held_updated
missed_with_the_old = refl

missed_with_the_new : content_at [] (published output_with_missed) (log_of (Delta 1 1 ∷ [])) k ≡ Ok in_the_output
missed_with_the_new = refl

doubled_with_the_old : content_at [] super_flushed (log_of (Delta 1 1 ∷ Delta 2 1 ∷ [])) k ≡ Ok held_updated
doubled_with_the_old = refl

doubled_with_the_new : content_at [] (published output) (log_of (Delta 1 1 ∷ Delta 2 1 ∷ [])) k ≡ Ok in_the_output
doubled_with_the_new = refl

-- the missed change is not written: the update is lost
missed_not_written : content_at [] (published output) (log_of (Delta 1 1 ∷ [])) k ≡ Ok ((memory, record { first = None; steps = [] }) ∷ (disk 2, record { first = None; steps = (4096, Ins a) ∷ [] }) ∷ [])
missed_not_written = refl

-- the superblock is published before the COMMIT of a missed write is durable: the change stands twice
commit_not_durable : content_at [] (published output_with_missed) (Replicate 4096 (insert a) ∷ commit 4096 (Mem 1 ∷ []) ∷ Replicate 8192 (update b) ∷ []) k
    ≡ Ok ((memory, record { first = None; steps = [] }) ∷ (disk 2, record { first = None; steps = (4096, Ins a) ∷ (8192, Upd b) ∷ (8192, Upd b) ∷ [] }) ∷ [])
commit_not_durable = refl

-- a needed operation that does not fit is the late fault
does_not_fit : content_at [] super_flushed (Replicate 4096 (insert a) ∷ commit 4096 (Mem 1 ∷ []) ∷ Replicate 8192 (insert b) ∷ commit 8192 (Delta 1 1 ∷ []) ∷ []) k ≡ Err 8192
does_not_fit = refl

-- A log that this engine never writes: the delete at 8192 has no COMMIT, and a later write has its key. With a superblock from before a
-- major of rowset 1 all is well; with the one after it, whose mark has risen and whose rowset 1 has dropped its UNDO record, that
-- rowset seems to have the key live at 8191, takes the delete, and rowset 2 shows its row again.
abbrev odd_log : List Entry
odd_log = Replicate 4096 (insert a) ∷ commit 4096 (Mem 1 ∷ []) ∷ Replicate 8192 delete ∷ Replicate 12288 (insert b) ∷ commit 12288 (Mem 2 ∷ []) ∷ Replicate 16384 delete ∷ commit 16384 (Delta 1 1 ∷ []) ∷ []

abbrev odd_rest : DiskRowset
odd_rest = record { rowset = 2; last_dms = 0; base = (k, a) ∷ []; undos = (record { ordinal = 0; ts = 4096; change = Del } ∷ []) ∷ []; redos = [] }

abbrev odd_super : List (List Kept) → ℕ → Super
odd_super undos mark = record {
  a = mark;
  c = 16384;
  need = 7;
  last_mem = 2;
  rowsets = record { rowset = 1; last_dms = 1; base = (k, b) ∷ []; undos = undos; redos = (record { ordinal = 0; ts = 16384; change = Del } ∷ []) ∷ [] } ∷ odd_rest ∷ [];
}

odd_before : content_at [] (odd_super ((record { ordinal = 0; ts = 12288; change = Del } ∷ []) ∷ []) 0) odd_log k
    ≡ Ok ((memory, record { first = None; steps = [] }) ∷ (disk 1, record { first = None; steps = (12288, Ins b) ∷ (16384, Del) ∷ [] }) ∷ (disk 2, record { first = None; steps = (4096, Ins a) ∷ (8192, Del) ∷ [] }) ∷ [])
odd_before = refl

abbrev odd_held : Held
odd_held = (memory, record { first = None; steps = [] }) ∷ (disk 1, record { first = Some b; steps = (16384, Del) ∷ (8192, Del) ∷ [] }) ∷ (disk 2, record { first = None; steps = (4096, Ins a) ∷ [] }) ∷ []

odd_after : content_at [] (odd_super [] 16384) odd_log k ≡ Ok odd_held
odd_after = refl

shows_a_deleted_row : shown 16384 odd_held ≡ Some a
shows_a_deleted_row = refl

-- insert, flush, update, flush-deltas, update, flush-deltas, minor, major: the superblock after each job, over the whole log
abbrev pub deltas_log : List Entry
deltas_log = Replicate 4096 (insert a) ∷ commit 4096 (Mem 1 ∷ []) ∷ Replicate 8192 (update b) ∷ commit 8192 (Delta 1 1 ∷ []) ∷ Replicate 12288 (update c) ∷ commit 12288 (Delta 1 2 ∷ []) ∷ []

abbrev pub redo : ℕ → Row → Kept
redo ts row = record { ordinal = 0; ts = ts; change = Upd row }

abbrev pub inserted : Kept
inserted = record { ordinal = 0; ts = 4096; change = Del }

abbrev pub with_files : ℕ → Row → List (List Kept) → List (List Kept) → Super
with_files dms base undos redos = record { a = 0; c = 12288; need = 6; last_mem = 1; rowsets = record { rowset = 1; last_dms = dms; base = (k, base) ∷ []; undos = undos; redos = redos } ∷ [] }

abbrev all_changes : Held
all_changes = (memory, record { first = None; steps = [] }) ∷ (disk 1, record { first = None; steps = (4096, Ins a) ∷ (8192, Upd b) ∷ (12288, Upd c) ∷ [] }) ∷ []

nothing_flushed : content_at [] (with_files 0 a ((inserted ∷ []) ∷ []) []) deltas_log k ≡ Ok all_changes
nothing_flushed = refl

once_flushed : content_at [] (with_files 1 a ((inserted ∷ []) ∷ []) ((redo 8192 b ∷ []) ∷ [])) deltas_log k ≡ Ok all_changes
once_flushed = refl

twice_flushed : content_at [] (with_files 2 a ((inserted ∷ []) ∷ []) ((redo 8192 b ∷ []) ∷ (redo 12288 c ∷ []) ∷ [])) deltas_log k ≡ Ok all_changes
twice_flushed = refl

minor : content_at [] (with_files 2 a ((inserted ∷ []) ∷ []) ((redo 8192 b ∷ redo 12288 c ∷ []) ∷ [])) deltas_log k ≡ Ok all_changes
minor = refl

-- a major's UNDO file beside the older one, in either order
major : content_at [] (with_files 2 c ((inserted ∷ []) ∷ (redo 12288 b ∷ redo 8192 a ∷ []) ∷ []) []) deltas_log k ≡ Ok all_changes
major = refl

major_newest_first : content_at [] (with_files 2 c ((redo 12288 b ∷ redo 8192 a ∷ []) ∷ (inserted ∷ []) ∷ []) []) deltas_log k ≡ Ok all_changes
major_newest_first = refl

-- a delta flush whose superblock forgets to raise the last DeltaMemStore: the update is replayed over the REDO file that has it
not_raised : content_at [] (with_files 0 a ((inserted ∷ []) ∷ []) ((redo 8192 b ∷ []) ∷ [])) (Replicate 4096 (insert a) ∷ commit 4096 (Mem 1 ∷ []) ∷ Replicate 8192 (update b) ∷ commit 8192 (Delta 1 1 ∷ []) ∷ []) k
    ≡ Ok ((memory, record { first = None; steps = [] }) ∷ (disk 1, record { first = None; steps = (4096, Ins a) ∷ (8192, Upd b) ∷ (8192, Upd b) ∷ [] }) ∷ [])
not_raised = refl

-- The same with an insert without COMMIT, to a MemRowSet: with the superblock after the major the insert finds the key present, and the
-- delete behind it, which its COMMIT calls needed, does not fit. There is no content.
abbrev faulty_log : List Entry
faulty_log = Replicate 8192 (insert a) ∷ Replicate 9000 delete ∷ commit 9000 (Mem 3 ∷ []) ∷ Replicate 12288 (insert b) ∷ commit 12288 (Mem 2 ∷ []) ∷ Replicate 16384 delete ∷ commit 16384 (Delta 1 1 ∷ []) ∷ []

abbrev faulty_super : List (List Kept) → ℕ → Super
faulty_super undos mark = record {
  a = mark;
  c = 16384;
  need = 7;
  last_mem = 2;
  rowsets = record { rowset = 1; last_dms = 1; base = (k, b) ∷ []; undos = undos; redos = (record { ordinal = 0; ts = 16384; change = Del } ∷ []) ∷ [] } ∷ [];
}

faulty_before : content_at [] (faulty_super ((record { ordinal = 0; ts = 12288; change = Del } ∷ []) ∷ []) 0) faulty_log k
    ≡ Ok ((memory, record { first = None; steps = (8192, Ins a) ∷ (9000, Del) ∷ [] }) ∷ (disk 1, record { first = None; steps = (12288, Ins b) ∷ (16384, Del) ∷ [] }) ∷ [])
faulty_before = refl

faulty_after : content_at [] (faulty_super [] 16384) faulty_log k ≡ Err 9000
faulty_after = refl

-- An operation without COMMIT at or below the mark, before which two rowsets have the key live: rowset 2 deletes it later. To which of them it goes
-- is told by their order in the superblock alone, and so is the content.
abbrev first_live : DiskRowset
first_live = record { rowset = 1; last_dms = 0; base = (k, a) ∷ []; undos = []; redos = [] }

abbrev second_live : DiskRowset
second_live = record { rowset = 2; last_dms = 0; base = (k, c) ∷ []; undos = []; redos = (record { ordinal = 0; ts = 9000; change = Del } ∷ []) ∷ [] }

abbrev two_live : List DiskRowset → Super
two_live rowsets = record { a = 10000; c = 10000; need = 0; last_mem = 1; rowsets = rowsets }

abbrev with_first : Held
with_first = (memory, record { first = None; steps = [] }) ∷ (disk 1, record { first = Some a; steps = (8192, Upd b) ∷ [] }) ∷ (disk 2, record { first = Some c; steps = (9000, Del) ∷ [] }) ∷ []

abbrev with_second : Held
with_second = (memory, record { first = None; steps = [] }) ∷ (disk 2, record { first = Some c; steps = (9000, Del) ∷ (8192, Upd b) ∷ [] }) ∷ (disk 1, record { first = Some a; steps = [] }) ∷ []

two_live_first : (content_at [] (two_live (first_live ∷ second_live ∷ [])) (Replicate 8192 (update b) ∷ []) k ≡ Ok with_first) × (shown 10000 with_first ≡ Some b)
two_live_first = (refl, refl)

two_live_second : (content_at [] (two_live (second_live ∷ first_live ∷ [])) (Replicate 8192 (update b) ∷ []) k ≡ Ok with_second) × (shown 10000 with_second ≡ Some a)
two_live_second = (refl, refl)

-- so it has no content in either order
two_live_has_none : (last : ℕ) (past : Past) → IsContent no_rules [] (two_live (first_live ∷ second_live ∷ [])) (Replicate 8192 (update b) ∷ []) last past → ⊥
two_live_has_none last past is =
    let key = is.keys k in
    let same : with_first ≡ key.held = two_oks (content_at [] (two_live (first_live ∷ second_live ∷ [])) (Replicate 8192 (update b) ∷ []) k) with_first key.held refl key.is in
    let live : OneLive (standing 8192 with_first) = subst (λ (h : Held). OneLive (standing 8192 h)) (sym same) (key.once.0 refl) in
    let f : Some c ≡ None = live in
    cc

-- and a log that lacks a record which its superblock needs has none
too_short_has_none : (last : ℕ) (past : Past) → IsContent no_rules [] super_flushed (Replicate 4096 (insert a) ∷ []) last past → ⊥
too_short_has_none last past is = omega (arith, is.enough)

-- nor has one whose DeltaMemStore has a change below a REDO record of its row, though its mark is above both
abbrev below_redo : Super
below_redo = record { a = 12288; c = 12288; need = 0; last_mem = 1; rowsets = record { rowset = 1; last_dms = 0; base = (k, a) ∷ []; undos = []; redos = (redo 12288 c ∷ []) ∷ [] } ∷ [] }

below_redo_has_none : (last : ℕ) (past : Past) → IsContent no_rules [] below_redo (Replicate 8192 (update b) ∷ commit 8192 (Delta 1 1 ∷ []) ∷ []) last past → ⊥
below_redo_has_none last past is = let above : 12288 < 8192 = (is.keys k).above.0.0.0 in omega arith

-- Rules that take keys of one byte and cells of at most one byte. An update with a longer cell has no content, though its COMMIT names a store that
-- is durable; nor has a rowset with such a cell in its base row, though the row is deleted, or in an UNDO record below the mark, nor one with a longer key.
abbrev is_short : Cell → Bool
is_short (Bytes bytes) = nat_le (length bytes) 1
is_short _ = true

abbrev are_short : Row → Bool
are_short row = list_all (λ (x : ℕ × Cell). is_short x.1) row

abbrev short : Rules
short = record { key = λ q. length q == 1; row = are_short; cells = are_short }

abbrev long : Row
long = (2, Bytes (97 ∷ 98 ∷ [])) ∷ []

long_cell_has_none : (last : ℕ) (past : Past) → IsContent short [] super_flushed (Replicate 8192 (update long) ∷ commit 8192 (Mem 1 ∷ []) ∷ []) last past → ⊥
long_cell_has_none last past is = let h : false ≡ true = is.passes.0.0.1 (Some []) in cc

abbrev with_rowset : List ℕ → Row → Row → Super
with_rowset key base before = record {
  a = 12288;
  c = 12288;
  need = 0;
  last_mem = 1;
  rowsets = record { rowset = 1; last_dms = 1; base = (key, base) ∷ []; undos = (record { ordinal = 0; ts = 8192; change = Upd before } ∷ []) ∷ []; redos = (record { ordinal = 0; ts = 10000; change = Del } ∷ []) ∷ [] } ∷ [];
}

long_base_has_none : (last : ℕ) (past : Past) → IsContent short [] (with_rowset k long a) [] last past → ⊥
long_base_has_none last past is = let h : false ≡ true = is.files.0.base.1 in cc

long_undo_has_none : (last : ℕ) (past : Past) → IsContent short [] (with_rowset k a long) [] last past → ⊥
long_undo_has_none last past is = let h : false ≡ true = is.files.0.undos.0.0 in cc

long_key_has_none : (last : ℕ) (past : Past) → IsContent short [] (with_rowset (1 ∷ 2 ∷ []) a a) [] last past → ⊥
long_key_has_none last past is = let h : false ≡ true = is.files.0.base.0 in cc
