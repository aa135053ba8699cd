use Rattle.std.proofs.Common.{arith, sym, ap, ◌∙◌, ◌-◌, length}
use Rattle.std.specs.Prelude.{take}
use Rattle.kt_pool.specs.Cells.{len_at, content}
use Rattle.kt_pool.proofs.Standing.{standing, stands_there}
use Rattle.kt_pool.proofs.Views.{take_content}
use Rattle.kt_pool.proofs.pool.Pool.front.Goals as goal

pub front-requires-clause-inside : goal.front-requires-clause-inside
front-requires-clause-inside c =
    let i = c.self.inside in
    let r = c.requires in
    let more = r.some in
    let within = r.inside in
    let st = standing i.cells.items i.first i.spare c.self.invariant.sound c.args.place.cell (i.size - length i.cells.items) i.reserved c.args.self.now c.self.view_is (stands_there c.args.self.now c.args.place.cell 0 (omega arith)) in
    rw c.deref.ensures.value st.inside

pub front-requires-clause-full : goal.front-requires-clause-full
front-requires-clause-full c = rw c.deref.ensures.value c.self.invariant.sound.full

pub returns : goal.returns
returns c =
    let i = c.self.inside in
    let r = c.requires in
    let more = r.some in
    let within = r.inside in
    let st = standing i.cells.items i.first i.spare c.self.invariant.sound c.args.place.cell (i.size - length i.cells.items) i.reserved c.args.self.now c.self.view_is (stands_there c.args.self.now c.args.place.cell 0 (omega arith)) in
    let long = st.long in
    c.front.ensures ∙ ap (λ xs. content xs c.args.place.cell c.args.len) c.deref.ensures.value
    ∙ take_content i.cells.items c.args.place.cell c.args.len (len_at i.cells.items c.args.place.cell) (omega arith) ∙ ap (take c.args.len) (sym st.is)
