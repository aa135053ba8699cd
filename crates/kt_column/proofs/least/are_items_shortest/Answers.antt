use Rattle.std.proofs.Common.{◌∙◌, sym}
use Rattle.kt_column.proofs.Chosen.{shortest_of_code, not_of_code, if_same, if_not_same}
use Rattle.kt_column.proofs.least.are_items_shortest.Goals as goal

pub returns-clause-yes : goal.returns-clause-yes
returns-clause-yes c = if_same _ c.code.result c.code-2.result (λ e bytes stands. shortest_of_code c.args.form c.args.items.now c.in-Ok.value c.args.encoding bytes c.in-Ok.ensures (sym c.code.ensures ∙ (e ∙ c.code-2.ensures)) stands)

pub returns-clause-no : goal.returns-clause-no
returns-clause-no c = if_not_same _ c.code.result c.code-2.result (λ no bytes. not_of_code c.args.form c.args.items.now c.in-Ok.value c.args.encoding bytes c.in-Ok.ensures (λ e. no (c.code.ensures ∙ (e ∙ sym c.code-2.ensures))))
