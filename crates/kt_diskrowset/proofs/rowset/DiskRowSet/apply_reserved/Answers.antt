use Rattle.std.proofs.Common.{◌∙◌, ℕ, List, Option, is_some, sym, ap, subst}
use Rattle.std.proofs.lemmas.Bool.{false≢true}
use Rattle.kt_baseset.specs.Tables.{cells_in}
use Rattle.kt_history.specs.Rows.{Row}
use Rattle.kt_history.specs.Stores.{hist_in, last_row}
use Rattle.kt_history.specs.Views.{AreRising}
use Rattle.kt_rowfiles.specs.Files.{row_under}
use Rattle.kt_diskrowset.specs.Rowset.{files_of, fresh_of, store_of}
use Rattle.kt_diskrowset.proofs.Histories.{keys_are, nothing_there}
use Rattle.kt_diskrowset.proofs.Rowsets.{fits_there, store_joined}
use Rattle.kt_diskrowset.proofs.rowset.DiskRowSet.apply_reserved.Goals as goal

pub unreachable-requires : goal.unreachable-requires
unreachable-requires c =
    let s = c.args.self.now in
    let key = c.args.op.now.key in
    let none = ap (λ (k : List ℕ). row_under k 0 (files_of s).base) (sym c.key.ensures) ∙ c.in_default.ensures.row in
    false≢true (sym (ap (λ (row : Option Row). is_some row) (nothing_there (files_of s) (fresh_of s c.args.pool.now) key none)) ∙ fits_there c.args.change c.args.op.now.cells (last_row (hist_in key (store_of s c.args.pool.now))) c.requires.thawed c.requires.fits)

pub returns-clause-pushed : goal.returns-clause-pushed
returns-clause-pushed c = λ under.
    let s = c.args.self.now in
    let at = ap (λ (k : List ℕ). row_under k 0 (files_of s).base) (sym c.key.ensures) ∙ c.in-Some.ensures.row.1 in
    store_joined s c.join.new.self c.args.pool.now c.join.new.pool c.in-Some.ordinal c.args.ts c.args.op.now c.args.change (cells_in s.base.set.value.rows c.in-Some.ordinal) c.join.ensures
    (subst AreRising (sym (keys_are s.base.set.value.rows)) c.in-Some.ensures.rise) at under
