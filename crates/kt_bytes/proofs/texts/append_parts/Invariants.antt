use Rattle.std.proofs.Common.{◌≡◌, ◌++◌, take}
use Rattle.std.specs.List.{flat_map}
use Rattle.kt_bytes.proofs.texts.append_parts.Given as goal

abbrev pub invariant-parts : goal.invariant-parts
invariant-parts l = l.bytes.items ≡ l.initial.bytes.items ++ flat_map (λ p. p.now) (take l.part-index l.parts)
