use Rattle.std.proofs.Common.{◌∙◌, List, ℕ, sym, ap, subst}
use Rattle.kt_baseset.specs.Tables.{cells_in}
use Rattle.kt_history.specs.Views.{AreRising}
use Rattle.kt_rowfiles.specs.Files.{row_under}
use Rattle.kt_diskrowset.specs.Rowset.{files_of, fresh_of}
use Rattle.kt_diskrowset.proofs.Histories.{keys_are}
use Rattle.kt_diskrowset.proofs.Replaying.{never_there, rejoined}
use Rattle.kt_diskrowset.proofs.rowset.DiskRowSet.rejoin.Goals as goal

pub unreachable-requires : goal.unreachable-requires
unreachable-requires c =
    let s = c.args.self.now in
    let none = ap (λ (k : List ℕ). row_under k 0 (files_of s).base) (sym c.key.ensures) ∙ c.in_default.ensures.row in
    c.requires.there (never_there (files_of s) (fresh_of s c.args.pool.now) c.args.op.now.key none)

pub returns-clause-joined : goal.returns-clause-joined
returns-clause-joined c =
    let s = c.args.self.now in
    let at = ap (λ (k : List ℕ). row_under k 0 (files_of s).base) (sym c.key.ensures) ∙ c.in-Some.ensures.row.1 in
    let row = cells_in s.base.set.value.rows c.in-Some.ordinal in
    rejoined s c.join.new.self c.args.pool.now c.join.new.pool c.in-Some.ordinal c.args.ts c.args.op.now c.args.change row c.join.ensures at (c.requires.under (c.in-Some.ordinal, row) at)
    (subst AreRising (sym (keys_are s.base.set.value.rows)) c.in-Some.ensures.rise)
