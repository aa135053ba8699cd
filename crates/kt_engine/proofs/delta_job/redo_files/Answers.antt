use Rattle.std.proofs.Common.{length, sym, ap, ◌∙◌, arith}
use Rattle.std.proofs.lemmas.Bool.{ne_eqb, eq-eqb}
use Rattle.std.proofs.lemmas.List.{drop_all}
use Rattle.kt_engine.specs.DeltaJobs.{redo_files}
use Rattle.kt_engine.proofs.RedoFiles.{redo_here, redo_other}
use Rattle.kt_engine.proofs.delta_job.redo_files.Goals as goal

pub returns-then-named-rowset : goal.returns-then-named-rowset
returns-then-named-rowset c =
    let same = eq-eqb c.named-item.result.rowset c.args.rowset c.if-named-rowset.true in
    ap length c.as_slice.ensures ∙ sym (c.rowsets.invariant ∙ redo_here c.args.rowset c.rowsets.named-index c.args.rowsets.now c.named-item.result c.rowsets-test.true c.named-item.is same)

pub rowsets-preserved : goal.rowsets-preserved
rowsets-preserved c =
    let other = ne_eqb c.named-item.result.rowset c.args.rowset c.if-named-rowset.false in
    c.rowsets.invariant ∙ redo_other c.args.rowset c.rowsets.named-index c.args.rowsets.now c.named-item.result c.rowsets-test.true c.named-item.is other

pub returns : goal.returns
returns c = sym (c.rowsets.invariant ∙ ap (redo_files c.args.rowset) (drop_all c.rowsets.named-index c.args.rowsets.now (omega arith)))
