use Rattle.kt_joblaws.proofs.WrittenSame.{same_hists, still_pass, they_tell_so}
use Rattle.kt_joblaws.proofs.laws.written_law.Goals as goal

pub returns : goal.returns
returns c = record { same = same_hists; pass = still_pass; told = they_tell_so }
