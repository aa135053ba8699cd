use Rattle.std.proofs.Common.{◌∙◌, List, ℕ, true, false, ap, sym}
use Rattle.std.proofs.lemmas.List.{take_rest}
use Rattle.std.proofs.lemmas.Result.{err_from_is_err_and}
use Rattle.kt_front.specs.Walk.{begin_alike}
use Rattle.kt_front.proofs.Steps.{first_stops, second_stops, third_stops, is_tail}
use Rattle.kt_front.proofs.reading.cell_of.Goals as goal

pub returns-in_err-shared-clause-read : goal.returns-in_err-shared-clause-read
returns-in_err-shared-clause-read c =
    let p = err_from_is_err_and c.from_residual.result c.from_residual.ensures.1 in
    rw (p.1, p.2) (first_stops c.in_err-shared.field-0.0 c.args.most c.args.with.now c.args.bytes.now c.in_err-shared.ensures.read)

pub returns-in_err-len-clause-read : goal.returns-in_err-len-clause-read
returns-in_err-len-clause-read c =
    let p = err_from_is_err_and c.from_residual-in_err-len.result c.from_residual-in_err-len.ensures.1 in
    rw (p.1, p.2) (second_stops c.in_err-len.field-0.0 c.args.most c.args.with.now c.args.bytes.now (c.in_ok-shared.shared, c.in_ok-shared.behind.now) c.in_ok-shared.ensures.read c.in_err-len.ensures)

pub returns-in_err-rest-clause-read : goal.returns-in_err-rest-clause-read
returns-in_err-rest-clause-read c =
    let p = err_from_is_err_and c.from_residual-in_err-rest.result c.from_residual-in_err-rest.ensures.1 in
    rw (p.1, p.2) (third_stops c.in_err-rest.field-0.0 c.args.most c.args.with.now c.args.bytes.now (c.in_ok-shared.shared, c.in_ok-shared.behind.now) (c.in_ok-len.len, c.in_ok-len.behind.now) c.in_ok-shared.ensures.read c.in_ok-len.ensures c.in_err-rest.ensures)

pub returns-then-begin_alike-clause-read : goal.returns-then-begin_alike-clause-read
returns-then-begin_alike-clause-read c = is_tail c.args.most c.args.with.now c.args.bytes.now (c.in_ok-shared.shared, c.in_ok-shared.behind.now) (c.in_ok-len.len, c.in_ok-len.behind.now) (c.in_ok-rest.rest.now, c.in_ok-rest.after.now) true
    c.in_ok-shared.ensures.read c.in_ok-len.ensures c.in_ok-rest.ensures (ap (λ (w : List ℕ). begin_alike w c.in_ok-rest.rest.now) (sym (take_rest c.args.with.now c.in_ok-shared.shared)) ∙ (sym c.begin_alike.ensures ∙ c.if-begin_alike.true))

pub returns-clause-read : goal.returns-clause-read
returns-clause-read c = is_tail c.args.most c.args.with.now c.args.bytes.now (c.in_ok-shared.shared, c.in_ok-shared.behind.now) (c.in_ok-len.len, c.in_ok-len.behind.now) (c.in_ok-rest.rest.now, c.in_ok-rest.after.now) false
    c.in_ok-shared.ensures.read c.in_ok-len.ensures c.in_ok-rest.ensures (ap (λ (w : List ℕ). begin_alike w c.in_ok-rest.rest.now) (sym (take_rest c.args.with.now c.in_ok-shared.shared)) ∙ (sym c.begin_alike.ensures ∙ c.if-begin_alike.false))
