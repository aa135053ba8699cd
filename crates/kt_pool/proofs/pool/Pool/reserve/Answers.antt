use Rattle.std.proofs.Common.{arith, ◌≡◌, ◌+◌, ◌-◌, length, sym, ap, ◌∙◌}
use Rattle.kt_pool.specs.Contents.{Contents, free}
use Rattle.kt_pool.proofs.Padded.{free_is}
use Rattle.kt_pool.proofs.pool.Pool.reserve.Goals as goal

pub overflow_sub-left : goal.overflow_sub-left
overflow_sub-left c =
    let i = c.self.inside in
    let f : i.spare + (i.size - length i.cells.items) ≡ c.free.result = free_is _ _ _ _ _ _ c.self.invariant ∙ ap (λ (p : Contents). free p) c.self.view_is ∙ sym c.free.ensures.free in
    let p = c.self.invariant.promised in
    omega arith

pub invariant_of-self : goal.invariant_of-self
invariant_of-self c =
    let i = c.self.inside in
    let f : i.spare + (i.size - length i.cells.items) ≡ c.free.result = free_is _ _ _ _ _ _ c.self.invariant ∙ ap (λ (p : Contents). free p) c.self.view_is ∙ sym c.free.ensures.free in
    let v = c.self.invariant in
    record { sound = v.sound; used = v.used; room = v.room; small = v.small; promised = omega arith }
