use Rattle.std.proofs.Common.{ap, ◌∙◌, subst}
use Rattle.kt_script.specs.Pieces.{cut}
use Rattle.kt_script.specs.Writes.{names_now}
use Rattle.kt_script.specs.Scans.{names_in}
use Rattle.kt_script.proofs.Selections.{Chosen, none_chosen, one_chosen, all_chosen}
use Rattle.kt_script.proofs.scans.read_names.Goals as goal

pub names-init : goal.names-init
names-init c = rw (c.new-seen.ensures.items, c.new-ids.ensures.items) (none_chosen c.args.columns.now (cut 44 c.args.text.now) c.args.no.now c.requires)

pub names-preserved : goal.names-preserved
names-preserved c =
    one_chosen (names_in c.names.rest) c.cut_name.result.0.now (names_in c.cut_name.result.1) c.read_name.new.no (names_now c.read_name.new.seen.items) c.read_name.new.ids.items c.names.invariant
    (ap names_in c.in-Some.is ∙ c.cut_name.ensures) c.in_ok-read_name.ensures.least c.in_ok-read_name.ensures.seen c.in_ok-read_name.ensures.ids

pub returns-clause-least : goal.returns-clause-least
returns-clause-least c =
    (all_chosen (subst (λ names. Chosen c.args.columns.now (cut 44 c.args.text.now) names c.args.no.now c.names.no (names_now c.names.seen.items) c.names.ids.items) (ap names_in c.in_default.is) c.names.invariant)).0
