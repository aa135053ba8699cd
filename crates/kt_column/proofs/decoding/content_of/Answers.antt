use Rattle.std.proofs.Common.{sym, subst, inl, inr, refl, arith}
use Rattle.kt_column.specs.Held.{cells_of}
use Rattle.kt_column.specs.Faults.{ReadsContent}
use Rattle.kt_column.proofs.Faulty.{short_content}
use Rattle.kt_column.proofs.decoding.content_of.Goals as goal

pub content_stop-stop-requires-clause-none : goal.content_stop-stop-requires-clause-none
content_stop-stop-requires-clause-none c cs content =
    let r : ReadsContent c.args.form c.args.head.encoding c.args.n c.front_of.result.now cs = subst (λ p. ReadsContent c.args.form c.args.head.encoding c.args.n p cs) (sym c.front_of.ensures) content in
    let never = c.in-Err-Fault.ensures.only cs r in
    cc

pub returns-in-Err-Fault-clause-only : goal.returns-in-Err-Fault-clause-only
returns-in-Err-Fault-clause-only c cs within content =
    let r : ReadsContent c.args.form c.args.head.encoding c.args.n c.front_of.result.now cs = subst (λ p. ReadsContent c.args.form c.args.head.encoding c.args.n p cs) (sym c.front_of.ensures) content in
    let never = c.in-Err-Fault.ensures.only cs r in
    absurd (cc)

pub returns-then-head-clause-stop : goal.returns-then-head-clause-stop
returns-then-head-clause-stop c =
    let cs = cells_of c.args.form c.in-Ok.read.nulls c.in-Ok.read.values in
    inr (inl (short_content c.args.form c.args.head.encoding c.args.n c.args.head.len c.args.head.rest.now cs (omega arith) (subst (λ p. ReadsContent c.args.form c.args.head.encoding c.args.n p cs) c.front_of.ensures c.in-Ok.ensures.found), refl))

pub returns-clause-found : goal.returns-clause-found
returns-clause-found c = subst (λ p. ReadsContent c.args.form c.args.head.encoding c.args.n p (cells_of c.args.form c.in-Ok.read.nulls c.in-Ok.read.values)) c.front_of.ensures c.in-Ok.ensures.found

pub returns-clause-only : goal.returns-clause-only
returns-clause-only c cs within content = c.in-Ok.ensures.only cs (subst (λ p. ReadsContent c.args.form c.args.head.encoding c.args.n p cs) (sym c.front_of.ensures) content)
