use Rattle.std.proofs.Common.{◌≡◌, ℕ, zero, suc, ◌+◌, ◌<◌, List, [], ◌∷◌, length, get_or, drop, ap, ◌∙◌, ◌+ℤ◌, arith}
use Rattle.std.proofs.lemmas.Int.{ints}
use Rattle.kt_base.specs.declared.cell.Cell.{Cell}
use Rattle.kt_app.specs.Loaded.{number_shown, sum_shown}
use Rattle.kt_app.proofs.load.sum_shown.Goals as goal

same_row : (row r : List Cell) → row ≡ r → r ≡ row
same_row row r e = cc

-- the sum of the rows from one on is its number and the sum of those behind it
one_less : (rows : List (List Cell)) (at : ℕ) (row : List Cell) → at < length rows → row ≡ get_or rows at row → sum_shown (drop at rows) ≡ number_shown row +ℤ sum_shown (drop (suc at) rows)
one_less [] at row less is = absurd (omega arith)
one_less (r ∷ rows) zero row less is = ap (λ (x : List Cell). number_shown x +ℤ sum_shown rows) (same_row row r is)
one_less (r ∷ rows) (suc at) row less is = one_less rows at row (omega (arith, less)) is

pub rows-preserved : goal.rows-preserved
rows-preserved c =
    let within : c.rows.at < length c.args.rows.now = omega (arith, c.rows-test.true, c.len-at-end.ensures) in
    let suc_is : suc c.rows.at ≡ c.rows.at + 1 = omega arith in
    let next = one_less c.args.rows.now c.rows.at c.at.result within c.at.ensures ∙ ap (λ (k : ℕ). number_shown c.at.result +ℤ sum_shown (drop k c.args.rows.now)) suc_is in
    let so_far = c.rows.invariant.sum in
    let low = c.rows.invariant.low in
    let high = c.rows.invariant.high in
    let number = c.number_shown.ensures in
    let wide = c.from-sum.ensures in
    record { sum = omega (arith, ints); low = omega (arith, ints); high = omega (arith, ints) }
