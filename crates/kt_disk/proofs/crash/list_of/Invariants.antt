use Rattle.std.proofs.Common.{◌≡◌, ◌++◌, map}
use Rattle.kt_disk.proofs.crash.list_of.Given as goal

abbrev pub invariant-loop-file : goal.invariant-loop-file
invariant-loop-file l = map (λ f. (f.file, f.bytes)) l.list.items ++ l.file-iterator ≡ l.fn.files.entries
