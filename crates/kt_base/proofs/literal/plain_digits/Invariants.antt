use Rattle.std.proofs.Common.{◌≡◌, length}
use Rattle.std.specs.List.{list_all}
use Rattle.kt_base.specs.Literals.{is_digit, count_on}
use Rattle.kt_base.proofs.literal.plain_digits.Given as goal

-- the digits so far are read, and those that are left are digits if all are
abbrev pub invariant-loop-digit : goal.invariant-loop-digit
invariant-loop-digit l = record {
  digits : list_all is_digit l.digits ≡ list_all is_digit l.left;
  value : count_on l.number l.left ≡ count_on 0 l.digits;
}

abbrev pub decreases-loop-digit : goal.decreases-loop-digit
decreases-loop-digit l = length l.left
