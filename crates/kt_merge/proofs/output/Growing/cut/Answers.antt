use Rattle.std.proofs.Common.{◌≡◌, [], sym, subst}
use Rattle.kt_baseset.specs.Tables.{BaseValue}
use Rattle.kt_merge.specs.Told.{Grows, IsOutput}
use Rattle.kt_merge.specs.declared.output.Growing.{Growing}
use Rattle.kt_merge.proofs.output.Growing.cut.Goals as goal

pub returns-clause-left : goal.returns-clause-left
returns-clause-left c =
    subst (λ (g : Growing). Grows c.args.columns.now g × (g.rows.items ≡ []) × (g.undos.items ≡ [])) (sym c.replace-full.ensures.after) (c.new.ensures.grows c.args.columns.now, c.new.ensures.none.0, c.new.ensures.none.1)

pub returns-clause-output : goal.returns-clause-output
returns-clause-output c = subst (λ (s : BaseValue). IsOutput s.schema c.in_ok-rowset.rowset) c.in_ok-set.ensures.base c.in_ok-rowset.ensures.output
