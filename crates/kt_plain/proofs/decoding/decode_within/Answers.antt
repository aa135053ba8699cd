use Rattle.std.proofs.Common.{sym, ◌∙◌, ap, subst}
use Rattle.kt_plain.specs.declared.items.Items.TheVariants.{Numbers}
use Rattle.kt_plain.specs.declared.widths.Width.{Width}
use Rattle.kt_plain.specs.Spelling.{Spells}
use Rattle.kt_plain.proofs.Decoded.{as_numbers, none_spelled}
use Rattle.kt_plain.proofs.decoding.decode_within.Goals as goal

pub returns-in-Some-clause-only : goal.returns-in-Some-clause-only
returns-in-Some-clause-only c = λ items s. absurd (none_spelled c.args.most c.args.width c.args.n c.args.bytes.now c.in-Some.place c.in-Some.ensures items s)

pub returns-in_ok-read-in-Numbers-clause-only : goal.returns-in_ok-read-in-Numbers-clause-only
returns-in_ok-read-in-Numbers-clause-only c = λ items s.
    let x = as_numbers c.in-Numbers.width c.args.n items c.args.bytes.now (subst (λ (w : Width). Spells w c.args.n items c.args.bytes.now) c.in-Numbers.is s.spells) in
    ap Numbers (c.in_ok-read-in-Numbers.ensures x.0 x.2) ∙ sym x.1
