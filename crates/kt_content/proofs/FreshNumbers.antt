-- Numbers stay fresh.
use Rattle.std.proofs.Common.{◌≡◌, ◌≤◌, ◌<◌, ℕ, suc, List, [], ◌∷◌, ◌++◌, Some, None, refl, sym, ap, ◌∙◌, subst, arith, cond, true, false, Bool}
use Rattle.std.specs.Prelude.{◌==◌, not}
use Rattle.std.specs.List.{filter}
use Rattle.kt_history.specs.declared.target.Target.{Target}
use Rattle.kt_history.specs.declared.target.Target.TheVariants.{Mem, Delta}
use Rattle.kt_records.specs.declared.entry.Entry.{Entry}
use Rattle.kt_records.specs.declared.entry.Entry.TheVariants.{Replicate, Commit}
use Rattle.kt_records.specs.declared.entry.CommitRow.{CommitRow}
use Rattle.kt_rowfiles.specs.Files.{DiskRowset}
use Rattle.kt_content.specs.Places.{Super, Place, memory, disk, last_dms_of}
use Rattle.kt_content.specs.InMemory.{Name, mem_rows, rowset}
use Rattle.kt_content.specs.Successors.{kept_rowsets}
use Rattle.kt_content.specs.RunEvents.{Numbers, IsBelow, TargetsBelow, RowsBelow, RecordsBelow, StoresBelow, RowsetsBelow, DeltasAbove, NumbersAreFresh}
use Rattle.kt_content.specs.Keeping.{a_frozen_memrowset_keeps_numbers_fresh, next_delta, a_frozen_deltamemstore_keeps_numbers_fresh, AreFrom, rowset_names, outputs_keep_numbers_fresh, stores_that_go_keep_numbers_fresh, gone_rowsets, gone_deltas, a_job_keeps_numbers_fresh}
use Rattle.kt_content.proofs.RunEvents.{none_named}
use Rattle.kt_content.proofs.Successors.{last_kept}

-- greater numbers
record Rose (was now : Numbers) : Type 0 where
  next : was.next ≤ now.next
  active : was.active ≤ now.active

below_later : (was now : Numbers) → Rose was now → (t : Target) → IsBelow was t → IsBelow now t
below_later was now r (Mem n) h = let a = r.active in omega arith
below_later was now r (Delta s n) h = let a = r.next in omega arith

targets_later : (was now : Numbers) → Rose was now → (targets : List Target) → TargetsBelow was targets → TargetsBelow now targets
targets_later was now r [] h = tt
targets_later was now r (t ∷ targets) h = (below_later was now r t h.0, targets_later was now r targets h.1)

rows_later : (was now : Numbers) → Rose was now → (rows : List CommitRow) → RowsBelow was rows → RowsBelow now rows
rows_later was now r [] h = tt
rows_later was now r (row ∷ rows) h = (targets_later was now r row.targets h.0, rows_later was now r rows h.1)

records_later : (was now : Numbers) → Rose was now → (records : List Entry) → RecordsBelow was records → RecordsBelow now records
records_later was now r [] h = tt
records_later was now r (Replicate ts ops ∷ records) h = records_later was now r records h
records_later was now r (Commit ts rows ∷ records) h = (rows_later was now r rows h.0, records_later was now r records h.1)

stores_later : (was now : Numbers) → Rose was now → (names : List Name) → StoresBelow was names → StoresBelow now names
stores_later was now r [] h = tt
stores_later was now r (mem_rows n ∷ names) h = (let a = r.active in let b = h.0 in omega arith, stores_later was now r names h.1)
stores_later was now r (rowset s ∷ names) h = (let a = r.next in let b = h.0 in omega arith, stores_later was now r names h.1)

rowsets_later : (was now : Numbers) → Rose was now → (rowsets : List DiskRowset) → RowsetsBelow was rowsets → RowsetsBelow now rowsets
rowsets_later was now r [] h = tt
rowsets_later was now r (d ∷ rowsets) h = (let a = r.next in let b = h.0 in omega arith, rowsets_later was now r rowsets h.1)

-- records more
pub records_below_join : (numbers : Numbers) (xs ys : List Entry) → RecordsBelow numbers xs → RecordsBelow numbers ys → RecordsBelow numbers (xs ++ ys)
records_below_join numbers [] ys p q = q
records_below_join numbers (Replicate ts ops ∷ xs) ys p q = records_below_join numbers xs ys p q
records_below_join numbers (Commit ts rows ∷ xs) ys p q = (p.0, records_below_join numbers xs ys p.1 q)

pub fresh_with_records : (super : Super) (xs ys : List Entry) (names : List Name) (numbers : Numbers) → RecordsBelow numbers ys → NumbersAreFresh super xs names numbers → NumbersAreFresh super (xs ++ ys) names numbers
fresh_with_records super xs ys names numbers below f = record { rowsets = f.rowsets; records_below = records_below_join numbers xs ys f.records_below below; stores = f.stores; mem = f.mem; deltas = f.deltas }

-- freezes

pub memrowset_frozen : a_frozen_memrowset_keeps_numbers_fresh
memrowset_frozen super records names numbers f =
    let now : Numbers = record numbers { active = suc numbers.active } in
    let rose : Rose numbers now = record { next = omega arith; active = omega arith } in
    record {
      rowsets = rowsets_later numbers now rose super.rowsets f.rowsets;
      records_below = records_later numbers now rose records f.records_below;
      stores = (omega arith, stores_later numbers now rose names f.stores);
      mem = let m = f.mem in omega arith;
      deltas = f.deltas;
    }

deltas_rise : (rowsets : List DiskRowset) (r : ℕ) (deltas : List (ℕ × ℕ)) → DeltasAbove rowsets deltas → DeltasAbove rowsets (next_delta r deltas)
deltas_rise rowsets r [] h = tt
deltas_rise rowsets r (d ∷ deltas) h = (either (d.0 == r), deltas_rise rowsets r deltas h.1)
  where
    either : (b : Bool) (last : ℕ) → last_dms_of (cond b (d.0, suc d.1) d).0 rowsets ≡ Some last → last < (cond b (d.0, suc d.1) d).1
    either true last e = let lt = h.0 last e in omega arith
    either false last e = h.0 last e

pub deltamemstore_frozen : a_frozen_deltamemstore_keeps_numbers_fresh
deltamemstore_frozen super records names numbers r f =
    let now : Numbers = record numbers { deltas = next_delta r numbers.deltas } in
    let rose : Rose numbers now = record { next = omega arith; active = omega arith } in
    record {
      rowsets = rowsets_later numbers now rose super.rowsets f.rowsets;
      records_below = records_later numbers now rose records f.records_below;
      stores = stores_later numbers now rose names f.stores;
      mem = f.mem;
      deltas = deltas_rise super.rowsets r numbers.deltas f.deltas;
    }

-- outputs

outs_below : (numbers : Numbers) (low : ℕ) (outs : List (ℕ × ℕ)) (names : List Name) → AreFrom low numbers.next outs → StoresBelow numbers names → StoresBelow numbers (rowset_names outs ++ names)
outs_below numbers low [] names h s = s
outs_below numbers low (d ∷ outs) names h s = (h.1, outs_below numbers low outs names h.2 s)

outs_above : (was : Numbers) (rowsets : List DiskRowset) (next : ℕ) (outs deltas : List (ℕ × ℕ)) → RowsetsBelow was rowsets → AreFrom was.next next outs → DeltasAbove rowsets deltas → DeltasAbove rowsets (outs ++ deltas)
outs_above was rowsets next [] deltas b h d = d
outs_above was rowsets next (x ∷ outs) deltas b h d = (λ last e. absurd (let f : None ≡ Some last = sym (none_named was rowsets x.0 b h.0) ∙ e in cc), outs_above was rowsets next outs deltas b h.2 d)

pub outputs_fresh : outputs_keep_numbers_fresh
outputs_fresh super records names numbers next outs f le from =
    let now : Numbers = record numbers { next = next; deltas = outs ++ numbers.deltas } in
    let rose : Rose numbers now = record { next = le; active = omega arith } in
    record {
      rowsets = rowsets_later numbers now rose super.rowsets f.rowsets;
      records_below = records_later numbers now rose records f.records_below;
      stores = outs_below now numbers.next outs names from (stores_later numbers now rose names f.stores);
      mem = f.mem;
      deltas = outs_above numbers super.rowsets next outs numbers.deltas f.rowsets from f.deltas;
    }

-- stores that go

some_below : (numbers : Numbers) (stay : Name → Bool) (names : List Name) → StoresBelow numbers names → StoresBelow numbers (filter stay names)
some_below numbers stay [] h = tt
some_below numbers stay (mem_rows n ∷ names) h = either (stay (mem_rows n)) (some_below numbers stay names h.1)
  where
    either : (b : Bool) → StoresBelow numbers (filter stay names) → StoresBelow numbers (cond b (mem_rows n ∷ filter stay names) (filter stay names))
    either true rest = (h.0, rest)
    either false rest = rest
some_below numbers stay (rowset r ∷ names) h = either (stay (rowset r)) (some_below numbers stay names h.1)
  where
    either : (b : Bool) → StoresBelow numbers (filter stay names) → StoresBelow numbers (cond b (rowset r ∷ filter stay names) (filter stay names))
    either true rest = (h.0, rest)
    either false rest = rest

some_above : (rowsets : List DiskRowset) (take : ℕ × ℕ → Bool) (deltas : List (ℕ × ℕ)) → DeltasAbove rowsets deltas → DeltasAbove rowsets (filter take deltas)
some_above rowsets take [] h = tt
some_above rowsets take (d ∷ deltas) h = either (take d) (some_above rowsets take deltas h.1)
  where
    either : (b : Bool) → DeltasAbove rowsets (filter take deltas) → DeltasAbove rowsets (cond b (d ∷ filter take deltas) (filter take deltas))
    either true rest = (h.0, rest)
    either false rest = rest

pub gone_fresh : stores_that_go_keep_numbers_fresh
gone_fresh super records names numbers stay take f =
    let now : Numbers = record numbers { deltas = filter take numbers.deltas } in
    let rose : Rose numbers now = record { next = omega arith; active = omega arith } in
    record {
      rowsets = rowsets_later numbers now rose super.rowsets f.rowsets;
      records_below = records_later numbers now rose records f.records_below;
      stores = some_below now stay names (stores_later numbers now rose names f.stores);
      mem = f.mem;
      deltas = some_above super.rowsets take numbers.deltas f.deltas;
    }

-- another superblock

kept_below : (keep : Place → Bool) (numbers : Numbers) (rowsets : List DiskRowset) → RowsetsBelow numbers rowsets → RowsetsBelow numbers (kept_rowsets keep rowsets)
kept_below keep numbers [] h = tt
kept_below keep numbers (d ∷ rowsets) h = either (keep (disk d.rowset)) (kept_below keep numbers rowsets h.1)
  where
    either : (b : Bool) → RowsetsBelow numbers (kept_rowsets keep rowsets) → RowsetsBelow numbers (cond b (d ∷ kept_rowsets keep rowsets) (kept_rowsets keep rowsets))
    either true rest = (h.0, rest)
    either false rest = rest

both_below : (keep : Place → Bool) (numbers : Numbers) (rowsets : List DiskRowset) → RowsetsBelow numbers (kept_rowsets keep rowsets) → RowsetsBelow numbers (gone_rowsets keep rowsets) → RowsetsBelow numbers rowsets
both_below keep numbers [] h g = tt
both_below keep numbers (d ∷ rowsets) h g = either (keep (disk d.rowset)) (λ k l. both_below keep numbers rowsets k l) h g
  where
    either : (b : Bool) → (RowsetsBelow numbers (kept_rowsets keep rowsets) → RowsetsBelow numbers (gone_rowsets keep rowsets) → RowsetsBelow numbers rowsets)
        → RowsetsBelow numbers (cond b (d ∷ kept_rowsets keep rowsets) (kept_rowsets keep rowsets)) → RowsetsBelow numbers (cond (not b) (d ∷ gone_rowsets keep rowsets) (gone_rowsets keep rowsets))
        → RowsetsBelow numbers (d ∷ rowsets)
    either true more k l = (k.0, more k.1 l)
    either false more k l = (l.0, more k l.1)

both_above : (keep : Place → Bool) (old new : Super) (deltas : List (ℕ × ℕ)) → kept_rowsets keep new.rowsets ≡ kept_rowsets keep old.rowsets → DeltasAbove old.rowsets deltas → DeltasAbove new.rowsets (gone_deltas keep deltas)
    → DeltasAbove new.rowsets deltas
both_above keep old new [] same h g = tt
both_above keep old new (d ∷ deltas) same h g = either (keep (disk d.0)) refl (λ l. both_above keep old new deltas same h.1 l) g
  where
    either : (b : Bool) → keep (disk d.0) ≡ b → (DeltasAbove new.rowsets (gone_deltas keep deltas) → DeltasAbove new.rowsets deltas)
        → DeltasAbove new.rowsets (cond (not b) (d ∷ gone_deltas keep deltas) (gone_deltas keep deltas)) → DeltasAbove new.rowsets (d ∷ deltas)
    either true k more l = (λ last e. h.0 last (last_kept keep d.0 old.rowsets k ∙ ap (last_dms_of d.0) (sym same) ∙ sym (last_kept keep d.0 new.rowsets k) ∙ e), more l)
    either false k more l = (l.0, more l.1)

pub job_fresh : a_job_keeps_numbers_fresh
job_fresh keep old new records names numbers f s gone deltas mem = record {
  rowsets = both_below keep numbers new.rowsets (subst (RowsetsBelow numbers) (sym s.rowsets) (kept_below keep numbers old.rowsets f.rowsets)) gone;
  records_below = f.records_below;
  stores = f.stores;
  mem = either (keep memory) refl;
  deltas = both_above keep old new numbers.deltas s.rowsets f.deltas deltas;
}
  where
    either : (b : Bool) → keep memory ≡ b → new.last_mem < numbers.active
    either true k = subst (λ n. n < numbers.active) (sym (s.mem k)) f.mem
    either false k = mem k
