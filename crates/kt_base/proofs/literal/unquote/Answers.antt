use Rattle.std.proofs.Common.{sym, ◌∙◌, ap, [], Some}
use mathlib.Core.List.{append-nil}
use Rattle.kt_base.proofs.Unquoting.{run_step, run_end}
use Rattle.kt_base.proofs.literal.unquote.Goals as goal

pub returns-in-End : goal.returns-in-End
returns-in-End c =
    sym (run_end c.args.inside.now c.parts.rest.now c.cut_plain.result.0.now c.cut_plain.result.1.now c.parts.bytes c.extend.new.self (Some []) c.parts.invariant c.cut_plain.ensures.cut c.cut_plain.ensures.plain c.in-End.ensures c.in_ok-extend.ensures.ok ∙ ap Some (append-nil c.extend.new.self))

pub returns-in-Bad : goal.returns-in-Bad
returns-in-Bad c =
    sym (run_end c.args.inside.now c.parts.rest.now c.cut_plain.result.0.now c.cut_plain.result.1.now c.parts.bytes c.extend.new.self _ c.parts.invariant c.cut_plain.ensures.cut c.cut_plain.ensures.plain c.in-Bad.ensures c.in_ok-extend.ensures.ok)

pub parts-preserved : goal.parts-preserved
parts-preserved c =
    run_step c.args.inside.now c.parts.rest.now c.cut_plain.result.0.now c.cut_plain.result.1.now c.in-Byte.behind.now c.parts.bytes c.extend.new.self c.push.new.self c.in-Byte.byte c.parts.invariant c.cut_plain.ensures.cut c.cut_plain.ensures.plain c.in-Byte.ensures.0 c.in_ok-extend.ensures.ok c.in_ok-push-in-Byte.ensures.ok
