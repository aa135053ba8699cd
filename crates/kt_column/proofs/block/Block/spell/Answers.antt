use Rattle.std.proofs.Common.{ℕ, List, sym, subst}
use Rattle.kt_column.specs.Blocks.{BlockValue, SpellsBlock}
use Rattle.kt_column.specs.Held.{items_of, cells_of}
use Rattle.kt_column.proofs.Weaving.{held_values, held_block}
use Rattle.kt_column.proofs.block.Block.spell.Goals as goal

pub spelled-requires-clause-values : goal.spelled-requires-clause-values
spelled-requires-clause-values c = held_values c.self.inside.form c.self.inside.nulls (items_of c.self.inside.values) _ c.self.invariant.0

pub returns : goal.returns
returns c =
    let block : SpellsBlock c.self.inside.form (cells_of c.self.inside.form c.self.inside.nulls c.self.inside.values) c.in-Ok.value.items = held_block c.self.inside.form c.self.inside.nulls (items_of c.self.inside.values) _ _ c.self.invariant.0 c.in-Ok.ensures in
    subst (λ (b : List ℕ). SpellsBlock c.args.self.now.form c.args.self.now.cells b) (sym c.of.ensures)
    (subst (λ (v : BlockValue). SpellsBlock v.form v.cells c.in-Ok.value.items) c.self.view_is block)
