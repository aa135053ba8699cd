use Rattle.kt_joblaws.proofs.Late.{nothing_later, comes_later, late_apart, late_alike, late_pass, outputs_alike, output_passes}
use Rattle.kt_joblaws.proofs.OnceEach.{once_each}
use Rattle.kt_joblaws.proofs.laws.late_law.Goals as goal

pub returns : goal.returns
returns c = record { read = nothing_later; more = comes_later; apart = late_apart; alike = late_alike; pass = late_pass; outputs = outputs_alike; passes = output_passes; once = once_each }
