use Rattle.std.proofs.Common.{◌≡◌, take}
use Rattle.kt_storeside.proofs.copies.rowsets_of.Given as goal

abbrev pub invariant-rowsets : goal.invariant-rowsets
invariant-rowsets l = l.copies.items ≡ take l.rowset-index l.rowsets
