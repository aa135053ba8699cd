use Rattle.std.proofs.Common.{arith, ◌+◌, length, ◌-◌}
use Rattle.kt_pool.specs.Contents.{cells_for}
use Rattle.kt_pool.specs.Cells.{IsChain}
use Rattle.kt_pool.proofs.Standing.{standing}
use Rattle.kt_pool.proofs.Methods.{over_sound, over_long, over_view, nothing_written}
use Rattle.std.proofs.lemmas.Bool.Decides.{nat_tests}
use Rattle.kt_pool.proofs.pool.Pool.set.Goals as goal

pub write-requires-clause-chain : goal.write-requires-clause-chain
write-requires-clause-chain c =
    let i = c.self.inside in
    let st = standing i.cells.items i.first i.spare c.self.invariant.sound c.args.place.cell (i.size - length i.cells.items) i.reserved c.args.self.now c.self.view_is c.requires.stands in
    let l = st.long in
    let w = c.requires.within in
    let shorter : IsChain i.cells.items c.args.place.cell (cells_for (c.args.at + length c.args.bytes.now)) = record { inside = λ j low. st.chain.inside j (omega arith); apart = λ j k a b e. st.chain.apart j k (omega arith) (omega arith) e } in
    rw c.deref_mut.ensures.value shorter

pub write-requires-clause-full : goal.write-requires-clause-full
write-requires-clause-full c = rw c.deref_mut.ensures.value c.self.invariant.sound.full

pub invariant_of-self : goal.invariant_of-self
invariant_of-self c =
    let i = c.self.inside in
    let v = c.self.invariant in
    let l = over_long i.cells.items i.cells.len i.first i.spare i.size i.reserved c.self.invariant.sound (omega (arith, i.cells.ok)) c.args.self.now c.self.view_is c.deref_mut.result.now c.deref_mut.ensures.value c.write.new.cells c.args.place.cell c.args.at c.args.bytes.now c.requires.stands c.requires.within c.write.ensures.kept c.write.ensures.bytes c.write.ensures.frame in
    record {
      sound = over_sound i.cells.items i.cells.len i.first i.spare i.size i.reserved c.self.invariant.sound (omega (arith, i.cells.ok)) c.args.self.now c.self.view_is c.deref_mut.result.now c.deref_mut.ensures.value c.write.new.cells c.args.place.cell c.args.at c.args.bytes.now c.requires.stands c.requires.within c.write.ensures.kept c.write.ensures.bytes c.write.ensures.frame;
      used = let u = v.used in omega arith;
      room = v.room;
      small = v.small;
      promised = let q = v.promised in omega arith;
    }

pub returns-then-not-is_empty : goal.returns-then-not-is_empty
returns-then-not-is_empty c = let i = c.self.inside in over_view i.cells.items i.cells.len i.first i.spare i.size i.reserved c.self.invariant.sound (omega (arith, i.cells.ok)) c.args.self.now c.self.view_is c.deref_mut.result.now c.deref_mut.ensures.value c.write.new.cells c.args.place.cell c.args.at c.args.bytes.now c.requires.stands c.requires.within c.write.ensures.kept c.write.ensures.bytes c.write.ensures.frame

pub returns-else-not-is_empty : goal.returns-else-not-is_empty
returns-else-not-is_empty c = nothing_written c.args.self.now c.args.place.cell c.args.at c.args.bytes.now c.requires.stands (grind (arith, nat_tests))
