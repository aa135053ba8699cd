use Rattle.std.proofs.Common.{◌≡◌, ◌∙◌, ◌++◌, List, ℕ, take, ap, arith}
use Rattle.std.proofs.lemmas.List.{take_all}
use Rattle.kt_front.specs.Items.{items_in}
use Rattle.kt_front.specs.Walking.{IsBlock}
use Rattle.kt_front.proofs.items.Items.push_to.Goals as goal

pub returns : goal.returns
returns c =
    let items : List (List ℕ) = items_in c.self.inside.count c.self.inside.bytes in
    let s = c.self.invariant.spells in
    let block : IsBlock c.as_slice.result.now items = record { fits = s.fits; parts = c.as_slice.ensures ∙ s.parts } in
    let all : take c.self.inside.count items ≡ items = take_all c.self.inside.count items (omega (arith, s.count)) in
    c.in_ok-push_items.ensures items block (omega (arith, s.count)) ∙ ap (λ (xs : List (List ℕ)). c.args.out.now ++ xs) (all ∙ c.self.view_is)
