use Rattle.std.proofs.Common.{◌≡◌, ◌+◌, ◌*◌, ◌≤◌, ◌++◌, length, drop, map}
use Rattle.std.specs.Fmt.{decimal}
use Rattle.std.specs.List.{flat_map}
use Rattle.kt_script.specs.Texts.{spaced}
use Rattle.kt_script.proofs.number.write_numbers.Given as goal

-- the numbers from here on are written
abbrev pub invariant-numbers : goal.invariant-numbers
invariant-numbers l = record {
  few : l.left ≤ length l.numbers;
  room : 21 * l.left ≤ l.at;
  within : l.at ≤ l.end;
  start : l.at + length (flat_map spaced (map decimal (drop l.left l.numbers))) ≡ l.end;
  written : drop l.at l.text ≡ flat_map spaced (map decimal (drop l.left l.numbers)) ++ drop l.end l.fn.text;
}

abbrev pub decreases-numbers : goal.decreases-numbers
decreases-numbers l = l.left
