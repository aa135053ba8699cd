use Rattle.std.proofs.Common.{◌≡◌, ◌++◌, ◌∷◌, take, map}
use Rattle.std.specs.Prelude.{codes}
use Rattle.std.specs.List.{flat_map}
use Rattle.kt_script.specs.Texts.{spaced}
use Rattle.kt_script.specs.Print.{pred_words}
use Rattle.kt_script.proofs.print.print_more_preds.Given as goal

abbrev pub invariant-loop-pred : goal.invariant-loop-pred
invariant-loop-pred l = l.out ≡ l.fn.out ++ flat_map spaced (flat_map (λ vs. codes "and" ∷ vs) (map (pred_words l.columns) (take l.pred-index l.preds)))
