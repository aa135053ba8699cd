use Rattle.std.proofs.Common.{subst}
use Rattle.std.specs.Prelude.{All}
use Rattle.std.proofs.lemmas.List.{take_all}
use Rattle.kt_script.specs.Laws.{EventFits}
use Rattle.kt_app.proofs.Texts.{all_more}
use Rattle.kt_app.proofs.text.events_fit.Goals as goal

pub loop-event-preserved : goal.loop-event-preserved
loop-event-preserved c = all_more EventFits c.args.events.now c.loop-event.event-index _ c.loop-event-test.true c.loop-event.invariant c.event_fits.ensures

pub returns : goal.returns
returns c = subst (All EventFits) (take_all c.loop-event.event-index c.args.events.now c.loop-event-test.false) c.loop-event.invariant
