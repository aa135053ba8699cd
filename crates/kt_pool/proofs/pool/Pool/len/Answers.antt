use Rattle.std.proofs.Common.{sym, ap, ◌∙◌, ◌-◌, length}
use Rattle.kt_pool.proofs.Standing.{standing}
use Rattle.kt_pool.specs.Cells.{len_at}
use Rattle.kt_pool.proofs.pool.Pool.len.Goals as goal

pub len_of-requires : goal.len_of-requires
len_of-requires c = let i = c.self.inside in let st = standing i.cells.items i.first i.spare c.self.invariant.sound c.args.place.cell (i.size - length i.cells.items) i.reserved c.args.self.now c.self.view_is c.requires in rw c.deref.ensures.value st.inside

pub returns : goal.returns
returns c = let i = c.self.inside in let st = standing i.cells.items i.first i.spare c.self.invariant.sound c.args.place.cell (i.size - length i.cells.items) i.reserved c.args.self.now c.self.view_is c.requires in c.len_of.ensures ∙ ap (λ xs. len_at xs c.args.place.cell) c.deref.ensures.value ∙ sym st.long
