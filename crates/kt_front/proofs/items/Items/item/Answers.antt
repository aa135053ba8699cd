use Rattle.std.proofs.Common.{◌∙◌, ◌<◌, List, ℕ, [], get_or, length, ap, arith}
use Rattle.kt_front.specs.Items.{items_in}
use Rattle.kt_front.specs.Walking.{IsBlock}
use Rattle.kt_front.proofs.Blocks.{stretch_stands, stretch_item}
use Rattle.kt_front.proofs.items.Items.item.Goals as goal

pub invariant_of-result : goal.invariant_of-result
invariant_of-result c =
    let items : List (List ℕ) = items_in c.self.inside.count c.self.inside.bytes in
    let s = c.self.invariant.spells in
    let lt : c.args.i < length items = omega (arith, ap length c.self.view_is, c.requires) in
    let block : IsBlock c.as_slice.result.now items = record { fits = s.fits; parts = c.as_slice.ensures ∙ s.parts } in
    stretch_stands items c.args.i c.stretch_of.result.now s.fits lt (c.stretch_of.ensures items block c.self.invariant.starts_are lt)

pub returns : goal.returns
returns c =
    let items : List (List ℕ) = items_in c.self.inside.count c.self.inside.bytes in
    let s = c.self.invariant.spells in
    let lt : c.args.i < length items = omega (arith, ap length c.self.view_is, c.requires) in
    let block : IsBlock c.as_slice.result.now items = record { fits = s.fits; parts = c.as_slice.ensures ∙ s.parts } in
    stretch_item items c.args.i c.stretch_of.result.now s.fits lt (c.stretch_of.ensures items block c.self.invariant.starts_are lt)
    ∙ ap (λ (xs : List (List ℕ)). get_or xs c.args.i []) c.self.view_is
