use Rattle.std.proofs.Common.{arith, ◌-◌, length}
use Rattle.kt_pool.proofs.Standing.{standing}
use Rattle.kt_pool.proofs.Methods.{given_sound, given_long, given_fits, given_view}
use Rattle.kt_pool.proofs.pool.Pool.give_back.Goals as goal

pub release-taken-requires : goal.release-taken-requires
release-taken-requires c =
    let i = c.self.inside in
    let st = standing i.cells.items i.first i.spare c.self.invariant.sound c.args.place.cell (i.size - length i.cells.items) i.reserved c.args.self.now c.self.view_is c.requires in
    rw c.deref_mut.ensures.value st.chain

pub overflow_add-self : goal.overflow_add-self
overflow_add-self c = let i = c.self.inside in let f = given_fits i.cells.items i.cells.len i.first i.spare i.size i.reserved c.self.invariant.sound (omega (arith, i.cells.ok)) c.args.self.now c.self.view_is c.deref_mut.result.now c.deref_mut.ensures.value c.release-taken.new.cells c.args.place.cell c.release-taken.result c.requires c.release-taken.ensures.count c.release-taken.ensures.frees in let u = c.self.invariant.used in let m = c.self.invariant.small in omega arith

pub invariant_of-self : goal.invariant_of-self
invariant_of-self c =
    let i = c.self.inside in
    let v = c.self.invariant in
    let l = given_long i.cells.items i.cells.len i.first i.spare i.size i.reserved c.self.invariant.sound (omega (arith, i.cells.ok)) c.args.self.now c.self.view_is c.deref_mut.result.now c.deref_mut.ensures.value c.release-taken.new.cells c.args.place.cell c.release-taken.result c.requires c.release-taken.ensures.count c.release-taken.ensures.frees in
    record {
      sound = given_sound i.cells.items i.cells.len i.first i.spare i.size i.reserved c.self.invariant.sound (omega (arith, i.cells.ok)) c.args.self.now c.self.view_is c.deref_mut.result.now c.deref_mut.ensures.value c.release-taken.new.cells c.args.place.cell c.release-taken.result c.requires c.release-taken.ensures.count c.release-taken.ensures.frees;
      used = let u = v.used in omega arith;
      room = v.room;
      small = v.small;
      promised = let q = v.promised in omega arith;
    }

pub returns : goal.returns
returns c = let i = c.self.inside in given_view i.cells.items i.cells.len i.first i.spare i.size i.reserved c.self.invariant.sound (omega (arith, i.cells.ok)) c.args.self.now c.self.view_is c.deref_mut.result.now c.deref_mut.ensures.value c.release-taken.new.cells c.args.place.cell c.release-taken.result c.requires c.release-taken.ensures.count c.release-taken.ensures.frees
