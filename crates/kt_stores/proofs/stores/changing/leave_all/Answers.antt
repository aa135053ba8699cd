use Rattle.std.proofs.Common.{arith}
use Rattle.kt_diskrowset.specs.Rowset.{IsStore, Owns}
use Rattle.kt_stores.specs.Leaving.{shelved_rowset, stays_beside}
use Rattle.kt_stores.proofs.Departing.{none_passed, all_passed}
use Rattle.kt_stores.proofs.stores.changing.leave_all.Goals as goal

pub stores-init : goal.stores-init
stores-init c = record { within = omega arith; passed = none_passed IsStore Owns shelved_rowset (stays_beside c.args.numbers.now) c.args.stores.now.items c.args.pool.now c.requires.stand c.requires.apart }

pub leave_at-at-requires-clause-stand : goal.leave_at-at-requires-clause-stand
leave_at-at-requires-clause-stand c = c.stores.invariant.passed.gone.stand

pub stores-preserved : goal.stores-preserved
stores-preserved c = record { within = c.leave_at-at.ensures.within; passed = c.leave_at-at.ensures.going _ _ c.stores.invariant.passed }

pub returns-clause-left : goal.returns-clause-left
returns-clause-left c = all_passed IsStore Owns shelved_rowset (stays_beside c.args.numbers.now) c.args.stores.now.items c.stores.stores.items c.stores.at c.args.pool.now c.stores.pool c.stores.invariant.passed (omega arith)

pub returns-clause-gone : goal.returns-clause-gone
returns-clause-gone c = c.stores.invariant.passed.gone
