use Rattle.std.proofs.Common.{◌≡◌, take}
use Rattle.kt_maint.proofs.changes.same_parts.Given as goal

abbrev pub invariant-parts : goal.invariant-parts
invariant-parts l = take l.at l.one ≡ take l.at l.other
