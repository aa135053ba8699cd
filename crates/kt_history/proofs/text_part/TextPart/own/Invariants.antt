use Rattle.std.proofs.Common.{◌≡◌, take}
use Rattle.kt_history.proofs.text_part.TextPart.own.Given as goal

-- the strings before here are copied
abbrev pub invariant-texts : goal.invariant-texts
invariant-texts l = l.own ≡ take l.at l.self
