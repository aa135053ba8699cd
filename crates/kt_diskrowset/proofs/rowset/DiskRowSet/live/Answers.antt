use Rattle.std.proofs.Common.{◌∙◌, is_some, refl, sym, ap}
use Rattle.kt_baseset.specs.Tables.{cells_in}
use Rattle.kt_history.specs.Stores.{Hist, last_row}
use Rattle.kt_diskrowset.specs.Rows.{hist_found}
use Rattle.kt_diskrowset.specs.Rowset.{files_of, fresh_of}
use Rattle.kt_diskrowset.proofs.Histories.{hist_is, nothing_there}
use Rattle.kt_diskrowset.proofs.rowset.DiskRowSet.live.Goals as goal

pub returns-in-Some : goal.returns-in-Some
returns-in-Some c =
    let s = c.args.self.now in
    let files = files_of s in
    let fresh = fresh_of s c.args.pool.now in
    c.is_live.ensures c.args.key.now (c.in-Some.ordinal, cells_in s.base.set.value.rows c.in-Some.ordinal) c.in-Some.ensures.row.1 refl
    ∙ ap (λ (h : Hist). is_some (last_row h)) (sym (hist_is files fresh c.args.key.now ∙ ap (hist_found files fresh) c.in-Some.ensures.row.1))

pub returns-in-None : goal.returns-in-None
returns-in-None c = sym (ap is_some (nothing_there (files_of c.args.self.now) (fresh_of c.args.self.now c.args.pool.now) c.args.key.now c.in-None.ensures.row))
