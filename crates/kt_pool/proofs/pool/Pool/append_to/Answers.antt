use Rattle.std.proofs.Common.{arith, sym, ap, ◌∙◌, ◌++◌, ℕ, ◌+◌, ◌<◌, length, subst, ◌-◌}
use Rattle.kt_pool.specs.Contents.{cells_for, bytes_at}
use Rattle.kt_pool.specs.Cells.{len_at, content, IsChain}
use Rattle.kt_pool.proofs.Standing.{standing}
use Rattle.std.proofs.Common.{vec_len}
use Rattle.std.specs.Vec.{vec_capacity}
use Rattle.kt_pool.proofs.pool.Pool.append_to.Goals as goal

pub len_of-len-requires : goal.len_of-len-requires
len_of-len-requires c =
    let i = c.self.inside in
    let st = standing i.cells.items i.first i.spare c.self.invariant.sound c.args.place.cell (i.size - length i.cells.items) i.reserved c.args.self.now c.self.view_is c.requires in
    rw c.deref.ensures.value st.inside

pub append-requires-clause-chain : goal.append-requires-clause-chain
append-requires-clause-chain c =
    let i = c.self.inside in
    let st = standing i.cells.items i.first i.spare c.self.invariant.sound c.args.place.cell (i.size - length i.cells.items) i.reserved c.args.self.now c.self.view_is c.requires in
    let P : ℕ → Type 0 = λ n. IsChain i.cells.items c.args.place.cell (cells_for n) in
    rw c.deref-2.ensures.value (subst P (sym (c.len_of-len.ensures ∙ ap (λ xs. len_at xs c.args.place.cell) c.deref.ensures.value)) st.chain)

pub append-requires-clause-full : goal.append-requires-clause-full
append-requires-clause-full c = rw c.deref-2.ensures.value c.self.invariant.sound.full

pub returns-in_err-append-clause-room : goal.returns-in_err-append-clause-room
returns-in_err-append-clause-room c =
    let i = c.self.inside in
    let st = standing i.cells.items i.first i.spare c.self.invariant.sound c.args.place.cell (i.size - length i.cells.items) i.reserved c.args.self.now c.self.view_is c.requires in
    let n = c.len_of-len.ensures ∙ ap (λ xs. len_at xs c.args.place.cell) c.deref.ensures.value in
    let l = st.long in
    let r : vec_capacity c.args.out.now < vec_len c.args.out.now + length (bytes_at c.args.self.now c.args.place.cell) = omega (arith, c.in_err-append.ensures.room) in
    grind (arith, r)

pub returns-clause-items : goal.returns-clause-items
returns-clause-items c =
    let i = c.self.inside in
    let st = standing i.cells.items i.first i.spare c.self.invariant.sound c.args.place.cell (i.size - length i.cells.items) i.reserved c.args.self.now c.self.view_is c.requires in
    let n = c.len_of-len.ensures ∙ ap (λ xs. len_at xs c.args.place.cell) c.deref.ensures.value in
    let o = c.args.out.now.items in
    c.in_ok-append.ensures.items ∙ ap (λ xs. o ++ content xs c.args.place.cell c.len_of-len.result) c.deref-2.ensures.value ∙ ap (λ n. o ++ content i.cells.items c.args.place.cell n) n ∙ ap (λ xs. o ++ xs) (sym st.is)
