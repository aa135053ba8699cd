use Rattle.std.proofs.Common.{◌+◌, ◌^◌, ℕ, min, sym, ap, ◌∙◌, arith}
use Rattle.std.specs.Prelude.{nat_le}
use Rattle.std.specs.List.{sum_by}
use Rattle.std.proofs.lemmas.List.{take_all}
use Rattle.kt_engine.proofs.Entries.{told_count, told_more, entries_all, capped_test}
use Rattle.kt_engine.proofs.telling.tell_many.Goals as goal

pub returns : goal.returns
returns c =
    ap (nat_le (2 ^ 31)) c.rowsets.invariant ∙ capped_test (2 ^ 31) _ ∙ ap (λ l. nat_le (2 ^ 31) (sum_by told_count l)) (take_all c.rowsets.rowset-index c.args.rowsets.now (omega arith)) ∙ sym (ap (nat_le (2 ^ 31)) (entries_all c.args.rowsets.now))

pub rowsets-preserved : goal.rowsets-preserved
rowsets-preserved c =
    told_more c.args.rowsets.now c.rowsets.rowset-index c.rowset-item.result _ _ _ c.rows-rows.result c.rowsets.count c.told_in_files-undo.result c.told_in_files-redo.result c.told_in-fresh.result c.capped-count.result c.rowsets-test.true c.rowset-item.is
    c.rows-rows.ensures c.as_slice.ensures c.as_slice-in-rowsets.ensures c.as_slice-in-rowsets-2.ensures c.rowsets.invariant c.told_in_files-undo.ensures c.told_in_files-redo.ensures c.told_in-fresh.ensures
    (c.capped-count.ensures ∙ ap (λ (n : ℕ). min (c.rowsets.count + n + c.told_in_files-undo.result + c.told_in_files-redo.result + c.told_in-fresh.result) (2 ^ 31)) c.from.ensures)
