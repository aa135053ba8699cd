use Rattle.std.proofs.Common.{subst}
use Rattle.kt_baseset.specs.Tables.{BaseValue, keys_of}
use Rattle.kt_baseset.specs.Spelling.{SpellsBase}
use Rattle.kt_baseset.proofs.Whole.{table_spelled, base_spelled}
use Rattle.kt_baseset.proofs.baseset.BaseSet.spell.Goals as goal

pub returns : goal.returns
returns c =
    let inside = c.self.inside in
    let inv = c.self.invariant in
    let P : BaseValue → Type 0 = λ v. SpellsBase v.schema v.rows c.put_lookup.new.out in
    let added = rw c.deref.ensures.value at c.in_ok-put_columns.ensures in
    subst P c.self.view_is (base_spelled (keys_of inside.keys.cells) inside.columns.items c.put_lookup.new.out inv.keys inv.each
    (table_spelled inside.keys inside.columns.items inside.lookup c.in_ok-out.out c.put_columns.new.out c.put_lookup.new.out inv c.in_ok-out.ensures added c.in_ok-put_lookup.ensures))
