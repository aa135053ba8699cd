use Rattle.std.proofs.Common.{◌∙◌, sym, ap, true, false}
use Rattle.std.specs.Prelude.{not}
use Rattle.kt_diskrowset.specs.declared.rowset.DiskRowSet.{DiskRowSet}
use Rattle.kt_diskrowset.specs.Rowset.{IsStore, Owns, name_of, store_of, cells_had}
use Rattle.kt_diskrowset.proofs.Rowsets.{stays}
use Rattle.kt_stores.specs.Leaving.{shelved_rowset, stays_beside}
use Rattle.kt_stores.specs.Takes.{rowsets, takes}
use Rattle.kt_stores.proofs.Departing.{one_stays, one_goes, stand_at, same_at}
use Rattle.kt_stores.proofs.Either.{stays_of}
use Rattle.kt_stores.proofs.stores.changing.leave_at.Goals as goal

pub leave-requires : goal.leave-requires
leave-requires c = stand_at IsStore c.args.pool.now c.args.stores.now.items c.args.at c.remove.result c.requires.stand c.requires.within c.remove.ensures.value

pub returns-then-not-is_among-clause-going : goal.returns-then-not-is_among-clause-going
returns-then-not-is_among-clause-going c = λ all old so.
    one_stays IsStore Owns shelved_rowset (stays_beside c.args.numbers.now) all c.args.stores.now.items c.args.at old c.args.pool.now c.index.result.now so c.requires.within c.index.ensures (ap not (sym c.is_among.ensures ∙ c.if-not-is_among.true))

pub returns-clause-going : goal.returns-clause-going
returns-clause-going c = λ all old so.
    let same = same_at c.args.stores.now.items c.args.at c.remove.result c.index.result.now c.requires.within c.remove.ensures.value c.index.ensures in
    one_goes IsStore Owns shelved_rowset (stays_beside c.args.numbers.now) all c.args.stores.now.items c.args.at old c.args.pool.now c.remove.result (stays_of IsStore Owns name_of store_of (λ s. true) cells_had stays) c.remove.new.self.items c.leave.new.pool so c.requires.within
    c.remove.ensures.value (ap (λ (r : DiskRowSet). not (takes (rowsets c.args.numbers.now) (name_of r))) same ∙ ap not (sym c.is_among.ensures ∙ c.if-not-is_among.false)) c.remove.ensures.items c.leave.ensures.frame c.leave.ensures.fewer c.leave.ensures.reserved c.leave.ensures.size
