use Rattle.std.proofs.Common.{arith}
use Rattle.std.specs.List.{flat_map}
use Rattle.kt_lookup.specs.Tail.{key_fields, fields_at}
use Rattle.kt_lookup.proofs.FieldsAt.{key_read, key_failed, keys_done}
use Rattle.kt_lookup.proofs.tails.behind_keys.Goals as goal

pub returns-in-Err : goal.returns-in-Err
returns-in-Err c = key_failed c.args.index.now c.loop-i.i c.get.result.now c.loop-i.rest.now c.in-Err.left (fields_at (flat_map key_fields c.args.index.now) c.args.bytes.now) (omega arith) c.get.ensures c.in-Err.ensures c.loop-i.invariant

pub loop-i-preserved : goal.loop-i-preserved
loop-i-preserved c = key_read c.args.index.now c.loop-i.i c.get.result.now c.loop-i.rest.now c.in-Ok.after.now (fields_at (flat_map key_fields c.args.index.now) c.args.bytes.now) (omega arith) c.get.ensures c.in-Ok.ensures c.loop-i.invariant

pub returns : goal.returns
returns c = keys_done c.args.index.now c.loop-i.i c.loop-i.rest.now (fields_at (flat_map key_fields c.args.index.now) c.args.bytes.now) (omega arith) c.loop-i.invariant
