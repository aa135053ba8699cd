use Rattle.std.proofs.Common.{◌<◌, ◌∙◌, List, ℕ, length, get_or, [], sym, ap, arith}
use Rattle.std.proofs.lemmas.List.{length-map, get_or-map, get_or_read}
use Rattle.kt_dict.proofs.items.Items.item.Goals as goal

pub get-requires : goal.get-requires
get-requires c =
    let codes : List ℕ = c.self.inside.codes.items in
    let lt : c.args.i < length codes = omega (arith, c.requires, ap length c.self.view_is, length-map codes (λ k. get_or c.self.inside.entries k [])) in
    omega (arith, c.self.invariant.within c.args.i lt, get_or_read codes c.args.i c.index.result.now lt c.index.ensures 0)

pub returns : goal.returns
returns c =
    let codes : List ℕ = c.self.inside.codes.items in
    let lt : c.args.i < length codes = omega (arith, c.requires, ap length c.self.view_is, length-map codes (λ k. get_or c.self.inside.entries k [])) in
    let entry : ℕ → List ℕ = λ k. get_or c.self.inside.entries k [] in
    c.get.ensures ∙ (ap entry (get_or_read codes c.args.i c.index.result.now lt c.index.ensures 0) ∙ (sym (get_or-map entry codes c.args.i 0 [] lt) ∙ ap (λ (xs : List (List ℕ)). get_or xs c.args.i []) c.self.view_is))
