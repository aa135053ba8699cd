use Rattle.std.proofs.Common.{◌∙◌, ℕ, [], get_or, length, ap, sym, arith}
use Rattle.kt_front.specs.Spelling.{base}
use Rattle.kt_front.specs.Walking.{Fields, before_at}
use Rattle.kt_front.proofs.Walk.{block_step, no_cell, fields_are}
use Rattle.kt_front.proofs.Blocks.{item_is, item_len}
use Rattle.kt_front.proofs.items.Item.len.Goals as goal

pub unreachable-requires : goal.unreachable-requires
unreachable-requires c =
    let i = c.self.invariant in
    no_cell c.behind.result.now _ c.in-None.ensures.read (block_step i.items c.self.inside.place c.behind.result.now i.block.fits i.there (c.behind.ensures.there i.items i.block (omega arith)))

pub returns : goal.returns
returns c =
    let i = c.self.invariant in
    let k : ℕ = c.self.inside.place in
    let read = fields_are c.behind.result.now _ _ c.in-Some.ensures.read (block_step i.items k c.behind.result.now i.block.fits i.there (c.behind.ensures.there i.items i.block (omega arith))) in
    item_len (base k (before_at k [] i.items)) (get_or i.items k []) c.in-Some.cell.rest.now c.in-Some.cell.shared (ap (λ (x : Fields). x.shared) read) (ap (λ (x : Fields). x.rest) read)
    ∙ ap length (sym (item_is i.items k c.self.inside.stretch.now i.block i.there) ∙ c.self.view_is)
