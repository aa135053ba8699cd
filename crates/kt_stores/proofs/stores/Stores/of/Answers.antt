use Rattle.std.proofs.Common.{◌≡◌, [], List, map, length, sym, ap, subst, arith}
use Rattle.kt_stores.specs.Parts.{kept, shelved, stands_by, owns_by, read_by, AreKept}
use Rattle.kt_stores.specs.Ranges.{AreRanged}
use Rattle.kt_stores.proofs.stores.Stores.of.Goals as goal

pub invariant_of-result : goal.invariant_of-result
invariant_of-result g c =
    let r = g.R.RowStore in
    let parts = c.into_parts-rowsets in
    let same : kept c.args.active [] c.args.rowsets.items ≡ kept c.args.active c.new.result.items c.into_parts-rowsets.result.0.items = λ k. kept c.args.active (sym c.new.ensures.items k) (sym c.into_parts-rowsets.ensures.rowsets k) in (
      subst (λ xs. AreKept (stands_by r.stands) (owns_by r.owns) (read_by (shelved r.target r.store r.is_closed r.cells)) xs c.args.pool) same c.requires.kept,
      (let long = ap length parts.ensures.rowsets in let few = c.requires.few in omega arith),
      subst (λ (rs : List g.row.R.Denot). AreRanged (map g.R.FileStore.files rs) parts.result.1) (sym parts.ensures.rowsets) parts.ensures.ranged,
    )
