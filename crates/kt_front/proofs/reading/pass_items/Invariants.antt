use Rattle.std.proofs.Common.{◌≡◌, ◌-◌, []}
use Rattle.kt_front.specs.Walk.{items_at, behind_of}
use Rattle.kt_front.proofs.reading.pass_items.Given as goal

abbrev pub invariant-loop-i : goal.invariant-loop-i
invariant-loop-i l = behind_of (items_at l.most (l.n - l.i) l.i l.item l.rest) ≡ behind_of (items_at l.most l.n 0 [] l.bytes)
