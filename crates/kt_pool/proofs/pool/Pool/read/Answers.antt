use Rattle.std.proofs.Common.{arith, sym, ap, ◌∙◌, ◌+◌, ◌/◌, ◌-◌, length}
use Rattle.kt_pool.specs.Cells.{len_at, byte_at, IsChain}
use Rattle.kt_pool.proofs.Standing.{standing, stands_there}
use Rattle.kt_pool.proofs.Views.{get_or-content}
use Rattle.std.proofs.Common.{get_or}
use Rattle.kt_pool.proofs.pool.Pool.read.Goals as goal

pub byte-requires-clause-chain : goal.byte-requires-clause-chain
byte-requires-clause-chain c =
    let i = c.self.inside in
    let st = standing i.cells.items i.first i.spare c.self.invariant.sound c.args.place.cell (i.size - length i.cells.items) i.reserved c.args.self.now c.self.view_is (stands_there c.args.self.now c.args.place.cell c.args.at c.requires) in
    let l = st.long in
    let r = c.requires in
    let shorter : IsChain i.cells.items c.args.place.cell (c.args.at / 56 + 1) = record { inside = λ j low. st.chain.inside j (omega arith); apart = λ j k a b e. st.chain.apart j k (omega arith) (omega arith) e } in
    rw c.deref.ensures.value shorter

pub byte-requires-clause-full : goal.byte-requires-clause-full
byte-requires-clause-full c = rw c.deref.ensures.value c.self.invariant.sound.full

pub returns : goal.returns
returns c =
    let i = c.self.inside in
    let st = standing i.cells.items i.first i.spare c.self.invariant.sound c.args.place.cell (i.size - length i.cells.items) i.reserved c.args.self.now c.self.view_is (stands_there c.args.self.now c.args.place.cell c.args.at c.requires) in
    let l = st.long in
    let r = c.requires in
    c.byte.ensures ∙ ap (λ xs. byte_at xs c.args.place.cell c.args.at) c.deref.ensures.value ∙ sym (ap (λ xs. get_or xs c.args.at 0) st.is ∙ get_or-content i.cells.items c.args.place.cell (len_at i.cells.items c.args.place.cell) c.args.at (omega arith))
