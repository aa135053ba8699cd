use Rattle.std.proofs.Common.{◌≤◌, ◌<◌, ap, arith}
use Rattle.std.specs.Prelude.{not}
use Rattle.std.proofs.lemmas.Bool.{le-leb, lt-leb}
use Rattle.kt_memrowset.specs.Stores.{IsStore, Owns, number_of}
use Rattle.kt_stores.specs.Leaving.{stays_behind}
use Rattle.kt_stores.specs.Parts.{shelved_mem}
use Rattle.kt_stores.proofs.Departing.{one_stays, one_goes, stand_at, same_at}
use Rattle.kt_stores.proofs.Either.{mem_stays}
use Rattle.kt_stores.proofs.stores.changing.empty_at.Goals as goal

pub empty_into-requires : goal.empty_into-requires
empty_into-requires c = stand_at IsStore c.args.pool.now c.args.stores.now.items c.args.at c.remove-store.result c.requires.stand c.requires.within c.remove-store.ensures.value

pub returns-then-id-last-clause-going : goal.returns-then-id-last-clause-going
returns-then-id-last-clause-going c = λ all old so.
    let above : c.args.last < number_of c.index.result.now = omega (arith, c.id.ensures) in
    one_stays IsStore Owns shelved_mem (stays_behind c.args.last) all c.args.stores.now.items c.args.at old c.args.pool.now c.index.result.now so c.requires.within c.index.ensures (ap not (lt-leb (number_of c.index.result.now) c.args.last above))

pub returns-clause-going : goal.returns-clause-going
returns-clause-going c = λ all old so.
    let same = ap number_of (same_at c.args.stores.now.items c.args.at c.remove-store.result c.index.result.now c.requires.within c.remove-store.ensures.value c.index.ensures) in
    let below : number_of c.remove-store.result ≤ c.args.last = omega (arith, c.id.ensures, same) in
    one_goes IsStore Owns shelved_mem (stays_behind c.args.last) all c.args.stores.now.items c.args.at old c.args.pool.now c.remove-store.result mem_stays c.remove-store.new.self.items c.empty_into.new.pool so c.requires.within c.remove-store.ensures.value
    (ap not (le-leb (number_of c.remove-store.result) c.args.last below)) c.remove-store.ensures.items c.empty_into.ensures.frame c.empty_into.ensures.fewer c.empty_into.ensures.reserved c.empty_into.ensures.size
