use Rattle.std.proofs.Common.{◌<◌, ◌≤◌, ℕ, ap, subst, length, arith}
use Rattle.kt_lookup.specs.Index.{IsBelow}
use Rattle.kt_baseset.specs.Tables.{BaseValue, keys_of, key_at}
use Rattle.kt_baseset.proofs.Found.{rows_count, count_keys}
use Rattle.kt_baseset.proofs.Above.{before_rows, above_rows}
use Rattle.kt_baseset.proofs.baseset.BaseSet.first_above.Goals as goal

pub returns-clause-within : goal.returns-clause-within
returns-clause-within c =
    let inside = c.self.inside in
    omega (arith, c.first_above.ensures.within, count_keys inside.keys.cells, rows_count (keys_of inside.keys.cells) inside.columns.items, ap (λ (v : BaseValue). length v.rows) c.self.view_is)

pub returns-clause-before : goal.returns-clause-before
returns-clause-before c =
    let inside = c.self.inside in
    let P : BaseValue → Type 0 = λ v. (i : ℕ) → i < c.first_above.result → ¬ IsBelow c.args.key.now (key_at v.rows i) in
    subst P c.self.view_is (before_rows inside.keys.cells inside.columns.items c.args.key.now c.first_above.result c.first_above.ensures.within c.first_above.ensures.before)

pub returns-clause-above : goal.returns-clause-above
returns-clause-above c =
    let inside = c.self.inside in
    let P : BaseValue → Type 0 = λ v. (i : ℕ) → c.first_above.result ≤ i → i < length v.rows → IsBelow c.args.key.now (key_at v.rows i) in
    subst P c.self.view_is (above_rows inside.keys.cells inside.columns.items c.args.key.now c.first_above.result c.first_above.ensures.above)
