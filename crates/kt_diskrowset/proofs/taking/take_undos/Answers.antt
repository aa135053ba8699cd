use Rattle.std.proofs.Common.{◌∙◌, ◌++◌, ap, reverse}
use Rattle.kt_history.specs.Stores.{Steps}
use Rattle.kt_histlaws.specs.Disks.{back}
use Rattle.kt_rowfiles.specs.Files.{records_in, falling}
use Rattle.kt_rowfiles.specs.Reading.{steps_in}
use Rattle.kt_rowfiles.specs.Taking.{led_in}
use Rattle.kt_diskrowset.specs.Files.{lists_of}
use Rattle.kt_diskrowset.proofs.TakenRows.{turned_behind}
use Rattle.kt_diskrowset.proofs.taking.take_undos.Goals as goal

pub returns-clause-row : goal.returns-clause-row
returns-clause-row c = c.in_ok-take_back.ensures.row ∙ ap (λ (s : Steps). back c.args.span.mark s c.args.row.now) c.in_ok-undos_of.ensures

pub returns-clause-steps : goal.returns-clause-steps
returns-clause-steps c =
    turned_behind c.new-led.result.items c.take_back-2.new.led.items c.reverse.new.self.items c.args.steps.now.items c.append.new.self.items
    (led_in c.args.span (falling (records_in c.args.ordinal (lists_of c.args.files.now))) c.args.row.now) c.new-led.ensures.items
    (c.in_ok-take_back.ensures.led ∙ ap (λ (s : Steps). led_in c.args.span s c.args.row.now ++ reverse (steps_in c.new-led.result.items)) c.in_ok-undos_of.ensures)
    c.reverse.ensures.items c.in_ok-append.ensures.items
