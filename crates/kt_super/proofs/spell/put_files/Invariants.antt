use Rattle.std.proofs.Common.{◌≡◌, ◌++◌, length, take}
use Rattle.std.specs.Int.{w32, to_le_bytes}
use Rattle.std.specs.List.{flat_map}
use Rattle.kt_super.specs.Rowsets.{spelled_file}
use Rattle.kt_super.proofs.spell.put_files.Given as goal

abbrev pub invariant-loop-file : goal.invariant-loop-file
invariant-loop-file l = l.out ≡ l.fn.out ++ (to_le_bytes w32 (length l.files) ++ flat_map spelled_file (take l.file-index l.files))
