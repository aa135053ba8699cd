use Rattle.std.proofs.Common.{◌∙◌, sym}
use Rattle.kt_front.proofs.Blocks.{item_is}
use Rattle.kt_front.proofs.items.Item.copy_into.Goals as goal

pub returns : goal.returns
returns c =
    let i = c.self.invariant in
    c.in_ok-copy_in.ensures i.items i.block i.there ∙ (sym (item_is i.items c.self.inside.place c.self.inside.stretch.now i.block i.there) ∙ c.self.view_is)
