use Rattle.std.proofs.Common.{◌≡◌, ◌+◌, length}
use Rattle.kt_script.specs.Pieces.{cut}
use Rattle.kt_run_check.specs.Sources.{script_len, len_before}
use Rattle.kt_run_check.proofs.source.script_len.Given as goal

-- the lines so far begin no opening
abbrev pub invariant-lines : goal.invariant-lines
invariant-lines l = record {
  len : script_len l.text ≡ l.at + len_before (cut 10 l.rest);
  size : l.at + length l.rest ≡ length l.text;
}

abbrev pub decreases-lines : goal.decreases-lines
decreases-lines l = length l.rest
