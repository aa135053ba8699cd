use Rattle.std.proofs.Common.{◌∙◌, arith}
use Rattle.kt_plain.proofs.Decoded.{texts_len, read_cut, read_pieces}
use Rattle.kt_plain.proofs.decoding.texts.Goals as goal

pub ends-requires : goal.ends-requires
ends-requires c = omega (arith, texts_len c.args.n c.requires.0 c.args.bytes.now c.requires.1)

pub overflow_mul-n : goal.overflow_mul-n
overflow_mul-n c = omega (arith, texts_len c.args.n c.requires.0 c.args.bytes.now c.requires.1)

pub split_at-requires : goal.split_at-requires
split_at-requires c = omega (arith, texts_len c.args.n c.requires.0 c.args.bytes.now c.requires.1)

pub cut-requires : goal.cut-requires
cut-requires c =
    let rest = c.in_ok-body.ensures.items ∙ c.split_at.ensures.back in
    read_cut c.args.n c.requires.0 c.args.bytes.now c.in_ok-ends.ends.items c.in_ok-body.body.items c.requires.1 c.in_ok-ends.ensures rest

pub returns : goal.returns
returns c =
    let rest = c.in_ok-body.ensures.items ∙ c.split_at.ensures.back in
    λ ts are. c.cut.ensures ∙ read_pieces c.args.n ts c.args.bytes.now c.in_ok-ends.ends.items c.in_ok-body.body.items are c.in_ok-ends.ensures rest
