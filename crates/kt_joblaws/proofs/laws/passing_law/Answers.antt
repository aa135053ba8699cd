use Rattle.kt_joblaws.proofs.Passed.{hists_pass}
use Rattle.kt_joblaws.proofs.PassingHistories.{rowset_passes}
use Rattle.kt_joblaws.proofs.laws.passing_law.Goals as goal

pub returns : goal.returns
returns c = record { passes = rowset_passes; back = hists_pass }
