use Rattle.std.proofs.Common.{length}
use Rattle.kt_script.specs.Pieces.{cut}
use Rattle.kt_script.specs.Writes.{names_now}
use Rattle.kt_script.specs.Scans.{names_in}
use Rattle.kt_script.proofs.Selections.{Chosen}
use Rattle.kt_script.proofs.scans.read_names.Given as goal

abbrev pub invariant-names : goal.invariant-names
invariant-names l = Chosen l.columns (cut 44 l.text) (names_in l.rest) l.initial.no l.no (names_now l.seen.items) l.ids.items

abbrev pub decreases-names : goal.decreases-names
decreases-names l = length (names_in l.rest)
