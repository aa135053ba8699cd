use Rattle.std.proofs.Common.{◌≡◌, drop}
use Rattle.kt_script.specs.declared.lex.Lex.TheVariants.{Start}
use Rattle.kt_script.specs.Lex.{next_in_row}
use Rattle.kt_script.proofs.LiteralBytes.{accepts}
use Rattle.kt_script.proofs.fronts.is_row.Given as goal

abbrev pub invariant-loop-byte : goal.invariant-loop-byte
invariant-loop-byte l = accepts next_in_row Start l.line ≡ accepts next_in_row l.state (drop l.byte-index l.line)
