use Rattle.std.proofs.Common.{◌≡◌, ◌++◌, map, take}
use Rattle.std.specs.List.{flat_map}
use Rattle.kt_script.specs.Texts.{line, row_text}
use Rattle.kt_script.proofs.output.print_rows.Given as goal

abbrev pub invariant-rows : goal.invariant-rows
invariant-rows l = l.out ≡ l.fn.out ++ flat_map line (map (row_text l.kinds) (take l.at l.rows))
