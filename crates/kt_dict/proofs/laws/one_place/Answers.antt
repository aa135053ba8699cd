use Rattle.kt_bytes.proofs.Places.{one_place}
use Rattle.std.proofs.Common.{lit≤}
use Rattle.kt_dict.specs.Spelling.{SpelledWithin}
use Rattle.kt_dict.proofs.Places.{delimited}
use Rattle.kt_dict.proofs.laws.one_place.Goals as goal

pub returns-clause-any : goal.returns-clause-any
returns-clause-any c = λ bytes n a b p q. one_place (SpelledWithin 4294967295 n) bytes a b (delimited 4294967295 n (lit≤ tt)) p q

pub returns-clause-within : goal.returns-clause-within
returns-clause-within c = λ bytes most n a b room p q. one_place (SpelledWithin most n) bytes a b (delimited most n room) p q
