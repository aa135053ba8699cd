use Rattle.std.proofs.Common.{◌≡◌, ◌≤◌, drop}
use Rattle.std.specs.Option.{option_and_then}
use Rattle.kt_words.specs.Numbers.{digits_from, between}
use Rattle.kt_words.proofs.number.number_said.Given as goal

abbrev pub invariant-loop-digit : goal.invariant-loop-digit
invariant-loop-digit l = record {
  said : option_and_then (between l.least l.most) (digits_from 0 l.digits) ≡ option_and_then (between l.least l.most) (digits_from l.number (drop l.digit-index l.digits));
  bound : l.number ≤ 41943049;
}
