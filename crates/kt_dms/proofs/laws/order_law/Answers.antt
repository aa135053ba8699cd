use Rattle.kt_tree.specs.Trees.{entries}
use Rattle.kt_dms.proofs.OneRow.{are_sorted}
use Rattle.kt_dms.proofs.laws.order_law.Goals as goal

pub returns : goal.returns
returns c = λ s pool st. are_sorted pool (entries s.tree pool) st.tree.rising st.each
