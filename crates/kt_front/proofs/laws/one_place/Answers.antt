use Rattle.std.proofs.Common.{lit≤}
use Rattle.kt_front.proofs.Faults.{one_place}
use Rattle.kt_front.proofs.laws.one_place.Goals as goal

pub returns-clause-any : goal.returns-clause-any
returns-clause-any c = λ bytes n a b p q. one_place bytes 4294967295 n a b (lit≤ tt) p q

pub returns-clause-within : goal.returns-clause-within
returns-clause-within c = one_place
