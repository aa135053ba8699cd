use Rattle.std.proofs.Common.{◌-◌, length, ap, sym, ◌∙◌}
use Rattle.kt_baseset.proofs.OnePlace.{fault_once, none_refused}
use Rattle.kt_baseset.proofs.laws.place_law.Goals as goal

pub returns-clause-one : goal.returns-clause-one
returns-clause-one c = λ bytes a b fits p q. p.2 ∙ (ap (λ k. length bytes - k) (fault_once bytes p.0 q.0 fits p.1 q.1) ∙ sym q.2)

pub returns-clause-none : goal.returns-clause-none
returns-clause-none c = λ bytes at schema rows fits p s. none_refused bytes p.0 schema rows fits p.1 s
