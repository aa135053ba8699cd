use Rattle.std.proofs.Common.{◌≡◌, ◌++◌, ◌∷◌, drop, map}
use Rattle.std.specs.Prelude.{codes}
use Rattle.std.specs.List.{flat_map}
use Rattle.kt_script.specs.Texts.{spaced}
use Rattle.kt_script.specs.Print.{op_words}
use Rattle.kt_script.proofs.print.print_more_ops.Given as goal

abbrev pub invariant-ops : goal.invariant-ops
invariant-ops l = l.out ++ flat_map spaced (flat_map (λ vs. codes ";" ∷ vs) (map (op_words l.schema) (drop l.at l.ops))) ≡ l.fn.out ++ flat_map spaced (flat_map (λ vs. codes ";" ∷ vs) (map (op_words l.schema) (drop 1 l.ops)))
