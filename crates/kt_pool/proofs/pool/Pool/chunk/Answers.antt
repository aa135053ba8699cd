use Rattle.std.proofs.Common.{arith, sym, ap, ap₂, ◌∙◌, ℕ, ◌+◌, ◌*◌, ◌/◌, subst, List, ◌-◌, length}
use Rattle.kt_pool.specs.Contents.{cells_for}
use Rattle.kt_pool.specs.Cells.{len_at, content, IsChain}
use Rattle.kt_pool.proofs.Standing.{standing, stands_there}
use Rattle.std.specs.Prelude.{min}
use Rattle.std.specs.List.{between}
use Rattle.kt_pool.proofs.pool.Pool.chunk.Goals as goal

pub len_of-len-requires : goal.len_of-len-requires
len_of-len-requires c =
    let i = c.self.inside in
    let st = standing i.cells.items i.first i.spare c.self.invariant.sound c.args.place.cell (i.size - length i.cells.items) i.reserved c.args.self.now c.self.view_is (stands_there c.args.self.now c.args.place.cell c.args.at c.requires) in
    rw c.deref.ensures.value st.inside

pub chunk-requires-clause-chain : goal.chunk-requires-clause-chain
chunk-requires-clause-chain c =
    let i = c.self.inside in
    let st = standing i.cells.items i.first i.spare c.self.invariant.sound c.args.place.cell (i.size - length i.cells.items) i.reserved c.args.self.now c.self.view_is (stands_there c.args.self.now c.args.place.cell c.args.at c.requires) in
    let P : ℕ → Type 0 = λ n. IsChain i.cells.items c.args.place.cell (cells_for n) in
    rw c.deref-2.ensures.value (subst P (sym (c.len_of-len.ensures ∙ ap (λ xs. len_at xs c.args.place.cell) c.deref.ensures.value)) st.chain)

pub chunk-requires-clause-full : goal.chunk-requires-clause-full
chunk-requires-clause-full c = rw c.deref-2.ensures.value c.self.invariant.sound.full

pub chunk-requires-clause-inside : goal.chunk-requires-clause-inside
chunk-requires-clause-inside c =
    let i = c.self.inside in
    let st = standing i.cells.items i.first i.spare c.self.invariant.sound c.args.place.cell (i.size - length i.cells.items) i.reserved c.args.self.now c.self.view_is (stands_there c.args.self.now c.args.place.cell c.args.at c.requires) in
    let n = c.len_of-len.ensures ∙ ap (λ xs. len_at xs c.args.place.cell) c.deref.ensures.value in
    let l = st.long in
    let r = c.requires in
    omega arith

pub returns : goal.returns
returns c =
    let i = c.self.inside in
    let st = standing i.cells.items i.first i.spare c.self.invariant.sound c.args.place.cell (i.size - length i.cells.items) i.reserved c.args.self.now c.self.view_is (stands_there c.args.self.now c.args.place.cell c.args.at c.requires) in
    let n = c.len_of-len.ensures ∙ ap (λ xs. len_at xs c.args.place.cell) c.deref.ensures.value in
    let F : List ℕ → ℕ → List ℕ = λ xs len. between c.args.at (min len (56 * (c.args.at / 56) + 56)) xs in
    c.chunk.ensures ∙ ap (λ xs. F (content xs c.args.place.cell c.len_of-len.result) c.len_of-len.result) c.deref-2.ensures.value ∙ ap (λ n. F (content i.cells.items c.args.place.cell n) n) n ∙ ap₂ F (sym st.is) (sym st.long)
