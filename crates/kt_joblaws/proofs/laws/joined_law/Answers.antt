use Rattle.kt_joblaws.proofs.Joined.{shown}
use Rattle.kt_joblaws.proofs.Read.{some_apart, those_apart}
use Rattle.kt_joblaws.proofs.laws.joined_law.Goals as goal

pub returns : goal.returns
returns c = record { shown = shown; some = some_apart; those = those_apart }
