use Rattle.kt_content.proofs.Flushes.{differ_both, pass_both}
use Rattle.kt_joblaws.proofs.Beside.{beside, in_turn, sound, each_apart, parts_pass}
use Rattle.kt_joblaws.proofs.laws.beside_law.Goals as goal

pub returns : goal.returns
returns c = record { alike = beside; turned = in_turn; sound = sound; differ = differ_both; pass = pass_both; apart = each_apart; parts = parts_pass }
