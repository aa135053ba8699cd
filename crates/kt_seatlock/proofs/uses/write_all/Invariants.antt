use Rattle.std.proofs.Common.{◌≡◌, ◌++◌, take}
use Rattle.kt_seatlock.specs.Trails.{own}
use Rattle.kt_seatlock.specs.Passes.{number, seen, IsOutside, IsSamePass, IsAsFull}
use Rattle.kt_seatlock.specs.Journal.{all_lines, writer}
use Rattle.kt_seatlock.proofs.uses.write_all.Given as goal

abbrev pub invariant-loop-text : goal.invariant-loop-text
invariant-loop-text g l =
    IsSamePass l.initial.pass l.pass × IsAsFull l.initial.pass l.pass × IsOutside l.pass
    × (own writer (number l.initial.pass) (seen l.pass) ≡ own writer (number l.initial.pass) (seen l.initial.pass) ++ all_lines (number l.initial.pass) (take l.text-index l.texts))
