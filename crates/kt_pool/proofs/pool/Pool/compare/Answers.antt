use Rattle.std.proofs.Common.{sym, ap, ◌∙◌, nat_cmp, ℕ, subst, ◌-◌, length}
use Rattle.kt_pool.specs.Contents.{cells_for}
use Rattle.kt_pool.specs.Cells.{len_at, content, IsChain}
use Rattle.kt_pool.proofs.Standing.{standing}
use Rattle.std.specs.Cmp.Lexicographic.{slice_cmp}
use Rattle.kt_pool.proofs.pool.Pool.compare.Goals as goal

pub len_of-len-requires : goal.len_of-len-requires
len_of-len-requires c =
    let i = c.self.inside in
    let st = standing i.cells.items i.first i.spare c.self.invariant.sound c.args.place.cell (i.size - length i.cells.items) i.reserved c.args.self.now c.self.view_is c.requires in
    rw c.deref.ensures.value st.inside

pub compare-requires-clause-chain : goal.compare-requires-clause-chain
compare-requires-clause-chain c =
    let i = c.self.inside in
    let st = standing i.cells.items i.first i.spare c.self.invariant.sound c.args.place.cell (i.size - length i.cells.items) i.reserved c.args.self.now c.self.view_is c.requires in
    let P : ℕ → Type 0 = λ n. IsChain i.cells.items c.args.place.cell (cells_for n) in
    rw c.deref-2.ensures.value (subst P (sym (c.len_of-len.ensures ∙ ap (λ xs. len_at xs c.args.place.cell) c.deref.ensures.value)) st.chain)

pub compare-requires-clause-full : goal.compare-requires-clause-full
compare-requires-clause-full c = rw c.deref-2.ensures.value c.self.invariant.sound.full

pub returns : goal.returns
returns c =
    let i = c.self.inside in
    let st = standing i.cells.items i.first i.spare c.self.invariant.sound c.args.place.cell (i.size - length i.cells.items) i.reserved c.args.self.now c.self.view_is c.requires in
    let n = c.len_of-len.ensures ∙ ap (λ xs. len_at xs c.args.place.cell) c.deref.ensures.value in
    c.compare.ensures ∙ ap (λ xs. slice_cmp nat_cmp (content xs c.args.place.cell c.len_of-len.result) c.args.key.now) c.deref-2.ensures.value ∙ ap (λ n. slice_cmp nat_cmp (content i.cells.items c.args.place.cell n) c.args.key.now) n ∙ ap (λ xs. slice_cmp nat_cmp xs c.args.key.now) (sym st.is)
