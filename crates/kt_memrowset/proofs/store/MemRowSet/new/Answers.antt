use Rattle.std.proofs.Common.{inl, inr, ap, refl, arith, []}
use Rattle.kt_memrowset.specs.Links.{nothing, times}
use Rattle.kt_memrowset.proofs.Trails.{trail_is}
use Rattle.kt_memrowset.proofs.store.MemRowSet.new.Goals as goal

pub returns-clause-bare : goal.returns-clause-bare
returns-clause-bare c = λ pool k o. elim o [
  | inl t ↦ c.new.ensures.bare pool k t
  | inr low ↦ let e = ap (λ cells. times cells k) (trail_is pool nothing [] refl (λ k. omega arith)) in absurd (omega arith)
]
