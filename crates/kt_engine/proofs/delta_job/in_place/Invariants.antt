use Rattle.std.proofs.Common.{◌≡◌, take}
use Rattle.kt_outputs.specs.InPlace.{in_place}
use Rattle.kt_engine.proofs.delta_job.in_place.Given as goal

abbrev pub invariant-rowsets : goal.invariant-rowsets
invariant-rowsets l = l.list.items ≡ in_place l.rowset (take l.named-index l.rowsets)
