use Rattle.std.proofs.Common.{◌≡◌, sym, ap, ◌∙◌}
use Rattle.kt_engine.proofs.engine.boxed_log.Goals as goal

pub take_apart-journal-requires : goal.take_apart-journal-requires
take_apart-journal-requires g c = record { home = ap (λ l. l.holder) (c.in-Err-new.ensures.value_returned ∙ c.in-Ok.ensures.side) }

pub returns-in-Err-new : goal.returns-in-Err-new
returns-in-Err-new g c =
    let home = sym (ap (λ l. l.home) (c.in-Err-new.ensures.value_returned ∙ c.in-Ok.ensures.side)) ∙ c.take_apart-journal.ensures.journal in
    let same : c.take_apart-journal.result.0 ≡ c.args.journal = cc in
    record { side = tt; back = same }
