use Rattle.std.proofs.Common.{arith}
use Rattle.kt_judge.specs.Tables.{AreOrdered, AreUpTo}
use Rattle.kt_judge.proofs.Placed.{within_there, within_gap, entry_at, puts_there, puts_new}
use Rattle.kt_judge.proofs.table.put_change.Goals as goal

pub index_mut-requires : goal.index_mut-requires
index_mut-requires c =
    let within = within_there c.args.key.now c.args.entries.now.items c.deref.result.now c.place.result c.in-Ok.at c.deref.ensures.value c.place.ensures c.in-Ok.is in
    omega (arith, c.args.entries.now.ok.0)

pub put-requires : goal.put-requires
put-requires c =
    let within = within_there c.args.key.now c.args.entries.now.items c.deref.result.now c.place.result c.in-Ok.at c.deref.ensures.value c.place.ensures c.in-Ok.is in
    record {
      ordered = entry_at AreOrdered c.args.entries.now.items c.in-Ok.at c.index_mut.result.now c.requires.table.ordered within c.index_mut.ensures.value;
      later = entry_at (AreUpTo c.args.ts) c.args.entries.now.items c.in-Ok.at c.index_mut.result.now c.requires.later within c.index_mut.ensures.value;
    }

pub insert-requires : goal.insert-requires
insert-requires c =
    let within = within_gap c.args.key.now c.args.entries.now.items c.deref.result.now c.place.result c.in-Err.at c.deref.ensures.value c.place.ensures c.in-Err.is in
    omega (arith, c.args.entries.now.ok.0)

pub returns-in_ok-put-in-Ok : goal.returns-in_ok-put-in-Ok
returns-in_ok-put-in-Ok c =
    puts_there c.args.ts c.args.change.now c.args.key.now c.put.new.self c.args.entries.now.items c.deref.result.now c.place.result c.in-Ok.at c.index_mut.result.now c.deref.ensures.value c.place.ensures c.in-Ok.is c.index_mut.ensures.value
    c.requires.table c.requires.later c.in_ok-put-in-Ok.ensures.ordered c.in_ok-put-in-Ok.ensures.up_to c.in_ok-put-in-Ok.ensures.rows

pub returns-in_ok-insert-in-Err : goal.returns-in_ok-insert-in-Err
returns-in_ok-insert-in-Err c =
    let put = c.in_ok-put-in-Err.ensures in
    puts_new c.args.ts c.args.change.now c.args.key.now c.in_ok-from_slice-in-Err.field-0 c.new-versions.result c.put-in-Err.new.self c.args.entries.now.items c.deref.result.now c.insert.new.self.items c.place.result c.in-Err.at
    c.deref.ensures.value c.place.ensures c.in-Err.is c.in_ok-from_slice-in-Err.ensures c.new-versions.ensures c.in_ok-insert-in-Err.ensures.items
    c.requires.table c.requires.later put.ordered put.up_to put.rows
