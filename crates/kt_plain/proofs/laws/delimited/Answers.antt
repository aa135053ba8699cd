use Rattle.kt_plain.proofs.Decoded.{joined, spelled_delimited, within_delimited}
use Rattle.kt_plain.proofs.laws.delimited.Goals as goal

pub returns-clause-joined : goal.returns-clause-joined
returns-clause-joined c = joined

pub returns-clause-delimited : goal.returns-clause-delimited
returns-clause-delimited c = spelled_delimited

pub returns-clause-within : goal.returns-clause-within
returns-clause-within c = within_delimited
