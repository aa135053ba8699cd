use Rattle.std.proofs.Common.{arith}
use Rattle.kt_memrowset.specs.Stores.{IsStore, Owns}
use Rattle.kt_stores.specs.Leaving.{stays_behind}
use Rattle.kt_stores.specs.Parts.{shelved_mem}
use Rattle.kt_stores.proofs.Departing.{none_passed, all_passed}
use Rattle.kt_stores.proofs.stores.changing.empty_upto.Goals as goal

pub stores-init : goal.stores-init
stores-init c = record { within = omega arith; passed = none_passed IsStore Owns shelved_mem (stays_behind c.args.last) c.args.stores.now.items c.args.pool.now c.requires.stand c.requires.apart }

pub empty_at-at-requires-clause-stand : goal.empty_at-at-requires-clause-stand
empty_at-at-requires-clause-stand c = c.stores.invariant.passed.gone.stand

pub stores-preserved : goal.stores-preserved
stores-preserved c = record { within = c.empty_at-at.ensures.within; passed = c.empty_at-at.ensures.going _ _ c.stores.invariant.passed }

pub returns-clause-left : goal.returns-clause-left
returns-clause-left c = all_passed IsStore Owns shelved_mem (stays_behind c.args.last) c.args.stores.now.items c.stores.stores.items c.stores.at c.args.pool.now c.stores.pool c.stores.invariant.passed (omega arith)

pub returns-clause-gone : goal.returns-clause-gone
returns-clause-gone c = c.stores.invariant.passed.gone
