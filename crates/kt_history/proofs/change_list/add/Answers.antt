use Rattle.std.proofs.Common.{◌++◌, length, refl, arith}
use Rattle.kt_history.proofs.AsBytes.{added, inside_added, told_more, told_added, next_more}
use Rattle.kt_history.proofs.change_list.add.Goals as goal

pub returns-clause-ok : goal.returns-clause-ok
returns-clause-ok c = rw (c.push_reserved.ensures.items, c.reserve.ensures.items, c.in_ok-extend_from_slice.ensures.items) (added c.args.bytes.now.items c.args.cells.now c.args.key c.len-from.result (length c.args.cells.now) c.args.ts c.args.kind c.requires.known (omega arith) refl c.args.heads.now.items c.requires.inside)

pub returns-clause-inside : goal.returns-clause-inside
returns-clause-inside c = rw (c.push_reserved.ensures.items, c.reserve.ensures.items, c.in_ok-extend_from_slice.ensures.items) (inside_added c.args.bytes.now.items c.args.cells.now c.args.key c.len-from.result (length c.args.cells.now) c.args.ts c.args.kind c.requires.known (omega arith) refl c.args.heads.now.items c.requires.inside)

pub returns-clause-told : goal.returns-clause-told
returns-clause-told c =
    rw (c.push_reserved.ensures.items, c.reserve.ensures.items, c.in_ok-extend_from_slice.ensures.items) (told_added (c.args.bytes.now.items ++ c.args.cells.now) c.args.heads.now.items _ (told_more c.args.bytes.now.items c.args.cells.now c.args.heads.now.items c.requires.inside c.requires.told) (next_more c.args.bytes.now.items c.args.cells.now c.args.heads.now.items c.requires.inside c.args.key c.requires.known c.requires.next))
