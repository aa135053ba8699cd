use Rattle.std.proofs.Common.{length, refl, arith}
use Rattle.kt_history.proofs.AsBytes.{inside_more, kept_more, is_last, told_more, next_new}
use Rattle.kt_history.proofs.change_list.place_of.Goals as goal

pub returns-clause-same : goal.returns-clause-same
returns-clause-same c = rw c.in_ok-extend_from_slice.ensures.items (kept_more c.args.bytes.now.items c.args.key.now c.args.heads.now c.requires.inside)

pub returns-clause-inside : goal.returns-clause-inside
returns-clause-inside c = rw c.in_ok-extend_from_slice.ensures.items (inside_more c.args.bytes.now.items c.args.key.now c.args.heads.now c.requires.inside)

pub returns-clause-known : goal.returns-clause-known
returns-clause-known c = rw c.in_ok-extend_from_slice.ensures.items (is_last c.args.bytes.now.items c.args.key.now c.len-from.result (length c.args.key.now) (omega arith) refl)

pub returns-clause-told : goal.returns-clause-told
returns-clause-told c = rw c.in_ok-extend_from_slice.ensures.items (told_more c.args.bytes.now.items c.args.key.now c.args.heads.now c.requires.inside c.requires.told)

pub returns-clause-next : goal.returns-clause-next
returns-clause-next c =
    rw c.in_ok-extend_from_slice.ensures.items (next_new c.args.bytes.now.items c.args.key.now c.args.heads.now c.requires.inside c.last_key-last.result c.len-from.result (length c.args.key.now) (omega arith) refl c.last_key-last.ensures.number (rw c.deref.ensures.value at (c.is_at.ensures.is_not c.if-is_at.false)))

pub returns-then-is_at-clause-known : goal.returns-then-is_at-clause-known
returns-then-is_at-clause-known c = rw c.deref.ensures.value at (c.is_at.ensures.is c.if-is_at.true)
