use Rattle.std.proofs.Common.{◌∙◌, ap, ◌++◌, ◌∷◌, [], append_assoc}
use Rattle.std.specs.List.{flat_map}
use Rattle.kt_base.specs.Literals.{string_byte}
use Rattle.kt_base.proofs.Strings.{plain_step, byte_step}
use Rattle.kt_base.proofs.literal.print_string.Goals as goal

pub loop-rest-init : goal.loop-rest-init
loop-rest-init c = ap (λ x. x ++ flat_map string_byte c.args.bytes.now) c.in_ok-push.ensures.ok ∙ append_assoc c.args.out.now (34 ∷ []) (flat_map string_byte c.args.bytes.now)

pub loop-rest-preserved : goal.loop-rest-preserved
loop-rest-preserved c =
    plain_step c.loop-rest.out c.extend.new.self c.loop-rest.rest.now c.cut_plain.result.0.now c.cut_plain.result.1.now _ c.cut_plain.ensures.cut c.cut_plain.ensures.plain c.in_ok-extend.ensures.ok c.loop-rest.invariant

pub loop-rest-preserved-in-Some : goal.loop-rest-preserved-in-Some
loop-rest-preserved-in-Some c =
    let here = plain_step c.loop-rest.out c.extend.new.self c.loop-rest.rest.now c.cut_plain.result.0.now c.cut_plain.result.1.now (c.args.out.now ++ (34 ∷ flat_map string_byte c.args.bytes.now)) c.cut_plain.ensures.cut c.cut_plain.ensures.plain c.in_ok-extend.ensures.ok c.loop-rest.invariant in
    byte_step c.extend.new.self c.print_byte.new.out c.cut_plain.result.1.now c.in-Some.after.now _ c.in-Some.byte.now c.in-Some.ensures.cases.0 c.in_ok-print_byte.ensures.ok here
