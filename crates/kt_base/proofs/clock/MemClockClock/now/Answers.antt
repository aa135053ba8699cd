use Rattle.std.proofs.Common.{ap, ◌∙◌}
use Rattle.kt_base.specs.Readings.{reading}
use Rattle.kt_base.proofs.Doubles.{one_more}
use Rattle.kt_base.proofs.clock.MemClockClock.now.Goals as goal

pub returns-clause-told : goal.returns-clause-told
returns-clause-told c = one_more c.args.self.now.readings _ _ _ c.saturating_add-self.ensures (c.reading_of-reading.ensures ∙ ap (λ l. reading l c.args.self.now.given) c.as_slice.ensures)
