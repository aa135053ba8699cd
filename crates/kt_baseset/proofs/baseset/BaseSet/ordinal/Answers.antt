use Rattle.std.proofs.Common.{subst, length}
use Rattle.kt_baseset.specs.Tables.{BaseValue, key_at}
use Rattle.kt_baseset.proofs.Found.{Tells, told_of_rows}
use Rattle.kt_baseset.proofs.baseset.BaseSet.ordinal.Goals as goal

pub returns-clause-found : goal.returns-clause-found
returns-clause-found c =
    let inside = c.self.inside in
    let P : BaseValue → Type 0 = λ v. Tells c.search.result (length v.rows) (key_at v.rows) c.args.key.now in
    (subst P c.self.view_is (told_of_rows c.search.result inside.keys.cells inside.columns.items c.args.key.now (c.search.ensures.found, c.search.ensures.none))).0

pub returns-clause-none : goal.returns-clause-none
returns-clause-none c =
    let inside = c.self.inside in
    let P : BaseValue → Type 0 = λ v. Tells c.search.result (length v.rows) (key_at v.rows) c.args.key.now in
    (subst P c.self.view_is (told_of_rows c.search.result inside.keys.cells inside.columns.items c.args.key.now (c.search.ensures.found, c.search.ensures.none))).1
