use Rattle.std.proofs.Common.{◌-◌, length}
use Rattle.std.specs.List.{flat_map, AllByRecursion}
use Rattle.kt_script.specs.Texts.{event_line}
use Rattle.kt_script.specs.Outputs.{EventHolds}
use Rattle.kt_script.specs.Stages.{history}
use Rattle.kt_script.specs.Reread.{Moves}
use Rattle.kt_script.proofs.reread.read_ending.Given as goal

abbrev pub invariant-lines : goal.invariant-lines
invariant-lines l = record {
  moves : Moves l.text history l.start history l.at (flat_map event_line l.events.items);
  events : AllByRecursion EventHolds l.events.items;
}

abbrev pub decreases-lines : goal.decreases-lines
decreases-lines l = length l.text - l.at
