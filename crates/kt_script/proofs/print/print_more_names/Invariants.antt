use Rattle.std.proofs.Common.{◌≡◌, ◌++◌, take, map}
use Rattle.std.specs.Prelude.{codes}
use Rattle.std.specs.List.{flat_map}
use Rattle.kt_script.specs.Fit.{column_of}
use Rattle.kt_script.specs.Print.{name_of}
use Rattle.kt_script.proofs.print.print_more_names.Given as goal

abbrev pub invariant-loop-id : goal.invariant-loop-id
invariant-loop-id l = l.out ≡ l.fn.out ++ flat_map (λ t. codes "," ++ t) (map (λ id. name_of (column_of l.columns id)) (take l.id-index l.ids))
