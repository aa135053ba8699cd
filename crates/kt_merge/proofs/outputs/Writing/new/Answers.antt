use Rattle.std.proofs.Common.{◌≡◌, ◌++◌, ◌∙◌, ℕ, List, true, map, sym, ap, subst}
use Rattle.std.specs.List.{AllByRecursion}
use Rattle.kt_history.specs.Views.{AreRising}
use Rattle.kt_histlaws.specs.Disks.{DiskRow}
use Rattle.kt_diskrowset.specs.declared.data.RowSetData.{RowSetData}
use Rattle.kt_merge.specs.Told.{told_by_all, told_so_far, is_full, rows_in, AreOutputs}
use Rattle.kt_merge.proofs.outputs.Writing.new.Goals as goal

pub returns-clause-writes : goal.returns-clause-writes
returns-clause-writes c = λ columns.
    let none = sym c.new.ensures.items in
    let told = ap (λ (ds : List RowSetData). told_by_all ds ++ told_so_far c.new-2.result) c.new.ensures.items ∙ c.new-2.ensures.told in
    record {
      done = subst (AreOutputs columns) none (record { each = tt; rise = tt; cut = tt });
      full = subst (AllByRecursion (λ (d : RowSetData). is_full (rows_in d) ≡ true)) none tt;
      rise = subst AreRising (sym (ap (map (λ (r : List ℕ × DiskRow). r.0)) told)) tt;
      grows = c.new-2.ensures.grows columns;
    }
