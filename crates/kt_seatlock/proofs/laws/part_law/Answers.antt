use Rattle.kt_seatlock.proofs.laws.part_law.Goals as goal

pub returns : goal.returns
returns g c = λ n k before after ne differ keeps. differ (keeps k ne)
