use Rattle.std.proofs.Common.{◌≡◌, map, take}
use Rattle.kt_script.specs.Texts.{row_text}
use Rattle.kt_judge.proofs.rows.rows_stand.Given as goal

-- the lines so far are those of the rows so far
abbrev pub invariant-rows : goal.invariant-rows
invariant-rows l = take l.at l.lines ≡ map (row_text l.kinds) (take l.at l.rows)
