use Rattle.std.proofs.Common.{◌∙◌, sym, ap, subst, length}
use Rattle.kt_baseset.specs.Rows.{IsBase}
use Rattle.kt_baseset.specs.Tables.{BaseValue, keys_of}
use Rattle.kt_baseset.proofs.Transposed.{base_of}
use Rattle.kt_baseset.proofs.Found.{rows_count, count_keys}
use Rattle.kt_baseset.proofs.baseset.BaseSet.rows.Goals as goal

pub returns-clause-count : goal.returns-clause-count
returns-clause-count c =
    let inside = c.self.inside in
    c.len.ensures ∙ sym (count_keys inside.keys.cells) ∙ sym (rows_count (keys_of inside.keys.cells) inside.columns.items) ∙ ap (λ (v : BaseValue). length v.rows) c.self.view_is

pub returns-clause-base : goal.returns-clause-base
returns-clause-base c =
    let inside = c.self.inside in
    let P : BaseValue → Type 0 = λ v. IsBase v.schema v.rows in
    subst P c.self.view_is (base_of (keys_of inside.keys.cells) inside.columns.items c.self.invariant.keys c.self.invariant.each)
