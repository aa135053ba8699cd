use Rattle.std.proofs.Common.{◌≡◌}
use Rattle.std.specs.List.{between}
use Rattle.kt_history.proofs.shared_texts.copied.Given as goal

-- the strings before here are copied
abbrev pub invariant-texts : goal.invariant-texts
invariant-texts l = l.own ≡ between l.first l.at l.texts
