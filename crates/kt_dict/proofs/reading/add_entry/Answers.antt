use Rattle.std.proofs.Common.{◌≡◌, ◌++◌, ◌∷◌, [], ◌∙◌}
use Rattle.kt_dict.proofs.Words.{nows}
use Rattle.kt_dict.proofs.Loop.{entry_is, entry_stops, entry_repeats, not_false, not_true, with_new}
use Rattle.kt_dict.proofs.reading.add_entry.Goals as goal

pub returns-in-Err : goal.returns-in-Err
returns-in-Err c = entry_stops c.args.most c.in-Err.error (nows c.args.entries.now.keys) c.args.bytes.now c.in-Err.ensures

pub returns-then-not-branch : goal.returns-then-not-branch
returns-then-not-branch c =
    let old = not_false c.in_ok-use_item.field-0 _ c.in_ok-use_item.ensures.new c.if-not-branch.true in
    entry_repeats c.args.most (nows c.args.entries.now.keys) c.args.bytes.now c.in-Ok.value.0.now c.in-Ok.value.1.now c.in-Ok.ensures old

pub returns : goal.returns
returns c =
    let known = nows c.args.entries.now.keys in
    let new = not_true c.in_ok-use_item.field-0 _ c.in_ok-use_item.ensures.new c.if-not-branch.false in
    let keys : nows c.use_item.new.entries.keys ≡ known ++ c.in-Ok.value.0.now ∷ [] = c.in_ok-use_item.ensures.entries ∙ with_new known c.in-Ok.value.0.now new in
    rw keys (entry_is c.args.most known c.args.bytes.now c.in-Ok.value.0.now c.in-Ok.value.1.now c.in-Ok.ensures new)
