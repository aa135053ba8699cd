use Rattle.std.proofs.Common.{◌≡◌, drop}
use Rattle.kt_base.specs.Literals.{same}
use Rattle.kt_script.proofs.word.is_word.Given as goal

-- the bytes before here are the same
abbrev pub invariant-bytes : goal.invariant-bytes
invariant-bytes l = same l.word l.text ≡ same (drop l.at l.word) (drop l.at l.text)
