use Rattle.std.proofs.Common.{ap, ◌∙◌}
use Rattle.std.specs.Prelude.{nat_eq}
use Rattle.std.specs.Cmp.Lexicographic.{pointwise}
use Rattle.kt_engine.proofs.upkeep.is_same.Goals as goal

pub returns-in-Compact-Compact : goal.returns-in-Compact-Compact
returns-in-Compact-Compact c =
    rw (c.in-Compact-Compact.is-0, c.in-Compact-Compact.is-1)
    (c.eq.ensures ∙ ap (λ l. pointwise nat_eq l c.as_slice-in-Compact-Compact.result.now) c.as_slice.ensures ∙ ap (pointwise nat_eq c.in-Compact-Compact.some) c.as_slice-in-Compact-Compact.ensures)
