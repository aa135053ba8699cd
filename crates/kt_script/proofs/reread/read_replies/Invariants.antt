use Rattle.std.proofs.Common.{ℕ, suc, ◌-◌, length}
use Rattle.std.specs.List.{flat_map, AllByRecursion}
use Rattle.kt_script.specs.Texts.{lines_text}
use Rattle.kt_script.specs.Outputs.{LineHolds}
use Rattle.kt_script.specs.Stages.{sessions}
use Rattle.kt_script.specs.Reread.{Moves}
use Rattle.kt_script.proofs.reread.read_replies.Given as goal

abbrev pub invariant-replies : goal.invariant-replies
invariant-replies l = record {
  moves : (n : ℕ) → Moves l.text (sessions (suc n) 0) l.start (sessions (suc n) 0) l.at (flat_map lines_text l.replies.items);
  replies : AllByRecursion LineHolds l.replies.items;
}

abbrev pub decreases-replies : goal.decreases-replies
decreases-replies l = length l.text - l.at
