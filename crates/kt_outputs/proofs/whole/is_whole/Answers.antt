use Rattle.std.proofs.Common.{ℕ, List, length, subst}
use Rattle.std.proofs.lemmas.Bool.{OnTrue_at, OnTrue_from}
use Rattle.kt_deltafile.specs.declared.file.Way.TheVariants.{Redo, Undo}
use Rattle.kt_diskrowset.specs.declared.files.FileHeld.{FileHeld}
use Rattle.kt_outputs.specs.Outputs.{AreOfWay, IsWhole}
use Rattle.kt_outputs.proofs.whole.is_whole.Goals as goal

pub returns : goal.returns
returns c =
    let d = c.args.rowset.now in
    let rows = length d.base.set.value.rows in
    let undo = subst (λ (n : ℕ). AreOfWay Undo n c.as_slice.result.now) c.rows-rows.ensures (OnTrue_at c.if-not-are_of_way.false c.are_of_way.ensures) in
    OnTrue_from c.are_of_way-2.result (IsWhole d) (λ yes. record {
      undo = subst (λ (fs : List FileHeld). AreOfWay Undo rows fs) c.as_slice.ensures undo;
      redo = subst (λ (fs : List FileHeld). AreOfWay Redo rows fs) c.as_slice-2.ensures (subst (λ (n : ℕ). AreOfWay Redo n c.as_slice-2.result.now) c.rows-rows.ensures (OnTrue_at yes c.are_of_way-2.ensures));
    })
