use Rattle.std.proofs.Common.{None, drop}
use Rattle.kt_merge.specs.Fitting.{AreFalling}
use Rattle.kt_merge.proofs.fitting.are_falling.Given as goal

-- the lemmas of proofs/FitFiles keep both, and end each way out of the loop
abbrev pub invariant-undos : goal.invariant-undos
invariant-undos l = record {
  on : AreFalling l.top (drop l.undo-index l.undos) → AreFalling None l.undos;
  back : AreFalling None l.undos → AreFalling l.top (drop l.undo-index l.undos);
}
