use Rattle.std.proofs.Common.{arith}
use Rattle.kt_baseset.proofs.Fronts.{no_rows, no_keys, no_front, front_found, front_column, front_only}
use Rattle.kt_baseset.specs.Tables.{keys_of}
use Rattle.kt_baseset.proofs.Whole.{texts_of}
use Rattle.kt_baseset.proofs.keys.front_of.Goals as goal

pub returns-in-Err-clause-only : goal.returns-in-Err-clause-only
returns-in-Err-clause-only c = no_rows c.in-Err.stop c.args.bytes.now c.in-Err.ensures

pub returns-in-Err-keys_at-clause-only : goal.returns-in-Err-keys_at-clause-only
returns-in-Err-keys_at-clause-only c = no_front c.in-Err-keys_at.stop c.args.bytes.now c.in-Ok.read.0 c.in-Ok.read.1.now c.in-Ok.ensures c.in-Err-keys_at.ensures.only

pub returns-in-Err-keys_at-clause-stop : goal.returns-in-Err-keys_at-clause-stop
returns-in-Err-keys_at-clause-stop c = no_keys c.in-Err-keys_at.stop c.args.bytes.now c.in-Ok.read.0 c.in-Ok.read.1.now c.in-Ok.ensures c.in-Err-keys_at.ensures.stop

pub list_of-requires : goal.list_of-requires
list_of-requires c =
    texts_of (keys_of c.in-Ok-keys_at.read.0.cells) c.in-Ok-keys_at.read.0 (front_column c.in-Ok-keys_at.read.0 c.in-Ok.read.0 c.in-Ok.read.1.now c.in-Ok-keys_at.read.1 c.in-Ok-keys_at.ensures.found.0 c.in-Ok-keys_at.ensures.found.1)

pub after-requires : goal.after-requires
after-requires c = c.in-Ok-keys_at.ensures.found.1.within

pub returns-clause-column : goal.returns-clause-column
returns-clause-column c = rw c.in-Ok-list_of.ensures (front_column c.in-Ok-keys_at.read.0 c.in-Ok.read.0 c.in-Ok.read.1.now c.in-Ok-keys_at.read.1 c.in-Ok-keys_at.ensures.found.0 c.in-Ok-keys_at.ensures.found.1)

pub returns-clause-found : goal.returns-clause-found
returns-clause-found c =
    rw (c.after.ensures, c.in-Ok-list_of.ensures) (front_found c.args.bytes.now c.in-Ok.read.0 c.in-Ok.read.1.now c.in-Ok-keys_at.read.0.cells c.in-Ok-keys_at.read.1 (λ i. omega (arith, c.type_inv.bytes i)) c.in-Ok.ensures c.in-Ok-keys_at.ensures.found.1 c.in-Ok-keys_at.ensures.found.2)

pub returns-clause-only : goal.returns-clause-only
returns-clause-only c = rw (c.after.ensures, c.in-Ok-list_of.ensures) (front_only c.args.bytes.now c.in-Ok.read.0 c.in-Ok.read.1.now c.in-Ok-keys_at.read.0 c.in-Ok-keys_at.read.1 c.in-Ok.ensures c.in-Ok-keys_at.ensures.only)
