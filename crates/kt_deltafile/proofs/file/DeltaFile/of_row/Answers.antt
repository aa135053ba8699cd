use Rattle.kt_deltafile.proofs.Sorted.{ordinals_rise}
use Rattle.kt_deltafile.proofs.file.DeltaFile.of_row.Goals as goal

pub first_near-start-requires : goal.first_near-start-requires
first_near-start-requires c = rw c.as_slice-records.ensures (ordinals_rise c.self.inside.way 4294967296 c.self.inside.list c.self.invariant.0.each)

pub first_near-end-requires : goal.first_near-end-requires
first_near-end-requires c = rw c.as_slice-records.ensures (ordinals_rise c.self.inside.way 4294967296 c.self.inside.list c.self.invariant.0.each)
