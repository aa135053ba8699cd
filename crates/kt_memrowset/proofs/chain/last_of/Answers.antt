use Rattle.std.proofs.Common.{◌∙◌, sym, ap, subst}
use Rattle.kt_memrowset.specs.Stores.{RowStands}
use Rattle.kt_memrowset.specs.declared.link.Head.{Head}
use Rattle.kt_memrowset.proofs.Rows.{last_alone}
use Rattle.kt_memrowset.proofs.chain.last_of.Goals as goal

pub returns-then-head : goal.returns-then-head
returns-then-head c = λ l links e.
    last_alone c.args.pool.now c.args.first l links (subst (RowStands c.args.pool.now c.args.first) e c.requires) (ap (λ (h : Head). h.last) (sym c.head_in-head.ensures) ∙ c.if-head.true)
