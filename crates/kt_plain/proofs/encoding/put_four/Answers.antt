use Rattle.std.proofs.Common.{◌++◌, List, ℕ, take, ap}
use Rattle.std.specs.Prelude.{FitsSigned}
use Rattle.std.specs.Int.{w32}
use Rattle.std.proofs.lemmas.Int.{to_z-of_z}
use Rattle.kt_plain.specs.declared.widths.NumberWidth.TheVariants.{Four}
use Rattle.kt_plain.specs.Widths.{number}
use Rattle.kt_plain.proofs.Steps.{behind_written}
use Rattle.kt_plain.proofs.encoding.put_four.Goals as goal

pub returns : goal.returns
returns c =
    let fits : FitsSigned w32 c.args.value = c.ranges.value in
    rw (c.write_i32.ensures, to_z-of_z w32 c.args.value fits)
    (ap (λ (rest : List ℕ). take c.args.at c.args.out.now ++ (number Four c.args.value ++ rest)) (behind_written c.args.at 4 c.args.out.now c.requires))
