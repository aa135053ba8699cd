use Rattle.std.proofs.Common.{◌∙◌, List, ℕ, ap, sym}
use Rattle.kt_front.specs.Walking.{order}
use Rattle.kt_front.proofs.Blocks.{item_is}
use Rattle.kt_front.proofs.items.Item.compare.Goals as goal

pub returns : goal.returns
returns c =
    let i = c.self.invariant in
    c.order_in.ensures i.items i.block i.there ∙ ap (λ (t : List ℕ). order t c.args.key.now) (sym (item_is i.items c.self.inside.place c.self.inside.stretch.now i.block i.there) ∙ c.self.view_is)
