use Rattle.std.proofs.Common.{lit≤}
use Rattle.kt_dict.proofs.Faults.{one_list}
use Rattle.kt_dict.proofs.laws.one_value.Goals as goal

pub returns : goal.returns
returns c = λ bytes n a b p q. one_list 4294967295 bytes n a b (lit≤ tt) p q
