use Rattle.std.proofs.Common.{◌≡◌, take}
use Rattle.kt_engine.proofs.telling.are_same.Given as goal

abbrev pub invariant-columns : goal.invariant-columns
invariant-columns l = take l.at l.one ≡ take l.at l.other
