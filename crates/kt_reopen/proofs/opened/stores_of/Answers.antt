use Rattle.std.proofs.Common.{List, [], map, sym, ap, subst, ◌∙◌, arith}
use Rattle.kt_diskrowset.specs.declared.rowset.DiskRowSet.{DiskRowSet}
use Rattle.kt_diskrowset.specs.Rowset.{held_of}
use Rattle.kt_pool.specs.Contents.{Contents, with_reserved}
use Rattle.kt_stores.specs.Parts.{kept, shelf_of, AreKept}
use Rattle.kt_stores.proofs.Beside.{kept_same}
use Rattle.kt_reopen.proofs.Growing.{their_stays, their_placed}
use Rattle.kt_reopen.proofs.Making.{stands, owns, read}
use Rattle.kt_reopen.proofs.opened.stores_of.Goals as goal

pub of-requires-2-clause-kept : goal.of-requires-2-clause-kept
of-requires-2-clause-kept c =
    let o = c.args.stores in
    subst (λ (rs : List DiskRowSet). AreKept stands owns read (kept o.mem [] rs) c.release.new.self) (sym c.in_ok-rowsets.ensures)
    (kept_same stands owns read their_stays their_placed o.pool c.release.new.self (kept o.mem [] o.rowsets.items) c.requires.kept (ap (λ (p : Contents). p.places) c.release.ensures)).0

pub returns-clause-pool : goal.returns-clause-pool
returns-clause-pool c =
    let o = c.args.stores in
    c.of-2.ensures.pool ∙ c.release.ensures ∙ ap (with_reserved o.pool) (let all = c.reserved.ensures in omega arith)

pub returns-clause-shelf : goal.returns-clause-shelf
returns-clause-shelf c =
    let o = c.args.stores in
    c.of-2.ensures.shelf ∙ ap (λ (rs : List DiskRowSet). shelf_of read c.release.new.self (kept o.mem [] rs)) c.in_ok-rowsets.ensures
    ∙ (kept_same stands owns read their_stays their_placed o.pool c.release.new.self (kept o.mem [] o.rowsets.items) c.requires.kept (ap (λ (p : Contents). p.places) c.release.ensures)).1

pub returns-clause-files : goal.returns-clause-files
returns-clause-files c = c.of-2.ensures.files ∙ ap (map held_of) c.in_ok-rowsets.ensures
