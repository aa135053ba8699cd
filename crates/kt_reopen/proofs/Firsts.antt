-- Stores before a log is replayed, and superblocks that name the same.
use Rattle.std.proofs.Common.{◌≡◌, ℕ, List, [], ◌∷◌, map, Option, Some, None, Ok, Err, Result, refl, sym, ap, ◌∙◌, cond, true}
use Rattle.std.specs.Prelude.{◌==◌}
use Rattle.std.proofs.lemmas.List.{append-nil}
use Rattle.kt_history.specs.declared.operation.RowOp.{RowOp}
use Rattle.kt_history.specs.declared.target.Target.{Target}
use Rattle.kt_history.specs.declared.target.Target.TheVariants.{Mem, Delta}
use Rattle.kt_history.specs.Rows.{Row}
use Rattle.kt_history.specs.Stores.{hist_in, never}
use Rattle.kt_records.specs.declared.entry.CommitRow.{CommitRow}
use Rattle.kt_records.specs.declared.entry.Entry.TheVariants.{Replicate, Commit}
use Rattle.kt_loglaws.specs.Replay.{commit_of}
use Rattle.kt_rowfiles.specs.Files.{DiskRowset, row_under, row_with, hist_in_files}
use Rattle.kt_rowfiles.specs.Fitting.{undos_fit, readable}
use Rattle.kt_diskrowset.specs.Rows.{hist_found, store_with}
use Rattle.kt_diskrowset.proofs.Histories.{hist_is}
use Rattle.kt_content.specs.Places.{Super, memory, disk, Standing, Moves, in_files, last_dms_of, newer, needs, and_place, needed_in, standing}
use Rattle.kt_content.specs.KeyOps.{decided, to_each}
use Rattle.kt_content.specs.Opening.{Placed, held_of, moved_stores, if_it_fits, names_at, rows_behind, write_opened, then_opened, opened}
use Rattle.kt_content.specs.Rules.{Rules, RowsetsPass}
use Rattle.kt_reopen.specs.Naming.{numbered, NameTheSame}
use Rattle.kt_reopen.specs.Laws.{files_are_the_first_stores, superblocks_that_name_the_same_open_the_same}

-- ---- stores that begin with their files

found_is : (d : DiskRowset) (o : Option (ℕ × Row)) → hist_found d (λ n. []) o ≡ row_with d o
found_is d None = refl
found_is d (Some found) = ap (λ steps. record { first = (row_with d (Some found)).first; steps = steps }) (append-nil (row_with d (Some found)).steps)

-- what can be read of a rowset, where its UNDO records fit, is what its files have
file_is : (q : List ℕ) (d : DiskRowset) → undos_fit d ≡ true → hist_in q (store_with (readable d) (λ n. [])) ≡ hist_in_files q d
file_is q d fit =
    ap (λ b. hist_in q (store_with (cond b d (record d { undos = [] })) (λ n. []))) fit
    ∙ hist_is d (λ n. []) q ∙ found_is d (row_under q 0 d.base)

rowsets_are : (rules : Rules) (q : List ℕ) (rowsets : List DiskRowset) → RowsetsPass rules rowsets
    → held_of q (map (λ (d : DiskRowset). (disk d.rowset, store_with (readable d) (λ n. []))) rowsets) ≡ in_files q rowsets
rowsets_are rules q [] h = refl
rowsets_are rules q (d ∷ rowsets) h =
    let here = file_is q d h.0.fits in
    let rest = rowsets_are rules q rowsets h.1 in
    λ k. (disk d.rowset, here k) ∷ rest k

pub firsts_are : files_are_the_first_stores
firsts_are rules super q h = ap (λ l. (memory, never) ∷ l) (rowsets_are rules q super.rowsets h)

-- ---- superblocks that name the same

abbrev look : ℕ → List (ℕ × ℕ) → Option ℕ
look r [] = None
look r (p ∷ ps) = cond (p.0 == r) (Some p.1) (look r ps)

last_is : (r : ℕ) (rowsets : List DiskRowset) → last_dms_of r rowsets ≡ look r (numbered rowsets)
last_is r [] = refl
last_is r (d ∷ rowsets) = ap (λ o. cond (d.rowset == r) (Some d.last_dms) o) (last_is r rowsets)

pub same_last : (r : ℕ) (one other : Super) → NameTheSame one other → last_dms_of r one.rowsets ≡ last_dms_of r other.rowsets
same_last r one other same = last_is r one.rowsets ∙ ap (look r) same.rowsets ∙ sym (last_is r other.rowsets)

same_need : (one other : Super) → NameTheSame one other → (t : Target) → needs one t ≡ needs other t
same_need one other same (Mem n) = ap (λ last. newer memory n (Some last)) same.mem
same_need one other same (Delta r n) = ap (newer (disk r) n) (same_last r one other same)

pub same_needed : (one other : Super) → NameTheSame one other → (targets : List Target) → needed_in one targets ≡ needed_in other targets
same_needed one other same [] = refl
same_needed one other same (t ∷ targets) =
    let here = same_need one other same t in
    let rest = same_needed one other same targets in
    λ k. and_place (here k) (rest k)

pub same_decided : (one other : Super) → NameTheSame one other → (fill : Row) (rows : Standing) (op : RowOp) (told : Option (List Target)) → decided fill one rows op told ≡ decided fill other rows op told
same_decided one other same fill rows op None = refl
same_decided one other same fill rows op (Some targets) = ap (to_each fill op rows) (same_needed one other same targets)

pub same_write : (one other : Super) → NameTheSame one other → (fill : Row) (ts : ℕ) (ops : List RowOp) (told : Option (List CommitRow)) (stores : Placed) → write_opened fill one ts ops told stores ≡ write_opened fill other ts ops told stores
same_write one other same fill ts [] told stores = refl
same_write one other same fill ts (op ∷ ops) told stores =
    ap (if_it_fits ts (λ moves. write_opened fill one ts ops (rows_behind told) (moved_stores ts op.key moves stores))) (same_decided one other same fill (standing ts (held_of op.key stores)) op (names_at told))
    ∙ by (decided fill other (standing ts (held_of op.key stores)) op (names_at told)) (λ moves. same_write one other same fill ts ops (rows_behind told) (moved_stores ts op.key moves stores))
  where
    by : (o : Option Moves) → ((moves : Moves) → write_opened fill one ts ops (rows_behind told) (moved_stores ts op.key moves stores) ≡ write_opened fill other ts ops (rows_behind told) (moved_stores ts op.key moves stores))
        → if_it_fits ts (λ moves. write_opened fill one ts ops (rows_behind told) (moved_stores ts op.key moves stores)) o ≡ if_it_fits ts (λ moves. write_opened fill other ts ops (rows_behind told) (moved_stores ts op.key moves stores)) o
    by None more = refl
    by (Some moves) more = more moves

pub same_opened : superblocks_that_name_the_same_open_the_same
same_opened one other fill all stores [] same = refl
same_opened one other fill all stores (Commit ts rows ∷ records) same = same_opened one other fill all stores records same
same_opened one other fill all stores (Replicate ts ops ∷ records) same =
    ap (then_opened (λ stores. opened fill one all stores records)) (same_write one other same fill ts ops (commit_of ts all) stores)
    ∙ by (write_opened fill other ts ops (commit_of ts all) stores) (λ mid. same_opened one other fill all mid records same)
  where
    by : (r : Result Placed ℕ) → ((mid : Placed) → opened fill one all mid records ≡ opened fill other all mid records)
        → then_opened (λ stores. opened fill one all stores records) r ≡ then_opened (λ stores. opened fill other all stores records) r
    by (Ok mid) more = more mid
    by (Err t) more = refl
