use Rattle.std.proofs.Common.{◌∙◌, sym, inl, inr, arith}
use Rattle.kt_run_check.proofs.Answered.{one_status_of, yes_of}
use Rattle.kt_run_check.proofs.check.check_main.Goals as goal

pub returns-in-Ok-clause-exact : goal.returns-in-Ok-clause-exact
returns-in-Ok-clause-exact g c = λ cells text answer pool left is calm still. elim c.tell.ensures.told [
  | inl told ↦ inl (told.0 ∙ one_status_of c.in-Some.cells cells c.pool_in.result (g.S.Source.left c.args.source.now) text c.in-Ok.answer answer c.in-Some.is (c.pool_in.ensures ∙ pool) left c.in-Ok.ensures.answered is)
  | inr (inl cut) ↦ absurd (still cut.1)
  | inr (inr none) ↦ inr none.0
]

pub returns-in-Ok-clause-yes : goal.returns-in-Ok-clause-yes
returns-in-Ok-clause-yes g c = λ cells text said found output pool left spells gives. elim c.tell.ensures.told [
  | inl told ↦ yes_of c.in-Some.cells cells c.pool_in.result (g.S.Source.left c.args.source.now) text said found output c.in-Ok.answer c.in-Some.is (c.pool_in.ensures ∙ pool) left c.in-Ok.ensures.answered (sym told.0 ∙ gives) spells
  | inr (inl cut) ↦ absurd (let six = cut.0 in omega arith)
  | inr (inr none) ↦ absurd (let seven = none.0 in omega arith)
]
