use Rattle.std.proofs.Common.{◌≡◌, ℕ, suc, ◌+◌, ◌-◌, ◌<◌, List, [], ◌∷◌, length, get_or, refl, sym, ap, ◌∙◌, arith, rules}
use Rattle.kt_base.specs.declared.cell.Cell.{Cell}
use Rattle.kt_cells.specs.Rules.{next_id}
use Rattle.kt_cells.proofs.lists.least_id.Goals as goal

next_id-last : (cells : List (ℕ × Cell)) (d : ℕ × Cell) → 0 < length cells → next_id cells ≡ (get_or cells (length cells - 1) d).0 + 1
next_id-last [] d h = absurd (omega arith)
next_id-last (c ∷ []) d h = refl
next_id-last (c ∷ e ∷ cells) d h =
    let i : length (c ∷ e ∷ cells) - 1 ≡ suc (length (e ∷ cells) - 1) = omega arith in
    next_id-last (e ∷ cells) d (omega arith) ∙ ap (λ (i : ℕ). (get_or (c ∷ e ∷ cells) i d).0 + 1) (sym i)

pub returns-in-len1-up : goal.returns-in-len1-up
returns-in-len1-up c =
    let last = next_id-last c.args.cells.now c.index-cells-cells.result (omega (arith, c.in-len1-up.len_at_least)) in
    let here : c.index-cells-cells.result.0 + 1 ≡ (get_or c.args.cells.now (length c.args.cells.now - 1) c.index-cells-cells.result).0 + 1 = ap (λ (p : ℕ × Cell). p.0 + 1) c.index-cells-cells.is in
    let from : c.from.result ≡ c.index-cells-cells.result.0 = search (rules, c.from.ensures) in
    ap (λ (n : ℕ). n + 1) from ∙ here ∙ sym last
