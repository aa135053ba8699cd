use Rattle.std.proofs.Common.{◌≡◌, suc, map, take}
use Rattle.kt_history.specs.Stores.{changes_upto}
use Rattle.kt_stores.specs.Shelf.{stores_of}
use Rattle.kt_tablet.proofs.tablet.job.lists_of.Given as goal

abbrev pub invariant-frozen : goal.invariant-frozen
invariant-frozen g l = l.lists.items ≡ map (changes_upto l.upto) (take (suc l.at) (stores_of l.stores))
