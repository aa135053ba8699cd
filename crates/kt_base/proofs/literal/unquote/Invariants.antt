use Rattle.std.proofs.Common.{◌≡◌, length}
use Rattle.kt_base.specs.Literals.{unquoted, among}
use Rattle.kt_base.proofs.Unquoting.{after_bytes}
use Rattle.kt_base.proofs.literal.unquote.Given as goal

-- what is read so far, and the rest read, are the whole
abbrev pub invariant-parts : goal.invariant-parts
invariant-parts l = unquoted among l.inside ≡ after_bytes l.bytes (unquoted among l.rest)

abbrev pub decreases-parts : goal.decreases-parts
decreases-parts l = length l.rest
