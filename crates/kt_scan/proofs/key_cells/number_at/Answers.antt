use mir.Val.{SFits}
use mir.Syntax.{w64}
use Rattle.std.proofs.Common.{◌≡◌, ◌^◌, pos, ◌-ℤ◌, ap, ◌∙◌, rules}
use Rattle.std.specs.Int.{from_be_bytes}
use Rattle.std.proofs.lemmas.Int.{to_z-of_z}
use Rattle.kt_base.specs.Keys.{width_of, number_of_key}
use Rattle.kt_scan.proofs.KeyWidths.{wide}
use Rattle.kt_scan.proofs.key_cells.number_at.Goals as goal

pub returns-in_default : goal.returns-in_default
returns-in_default c =
    let fits : SFits w64 c.lowered_8.result = search rules in
    let width : width_of c.args.kind ≡ w64 = wide c.args.kind c.in_default.not-Int8 c.in_default.not-Int16 c.in_default.not-Int32 in
    let is : c.lowered_8.result ≡ number_of_key w64 c.args.bytes.now = c.lowered_8.ensures ∙ ap (λ n. pos n -ℤ pos (2 ^ 63)) (c.raised_8.ensures ∙ ap (from_be_bytes w64) c.front-in_default.ensures) in
    rw (width, to_z-of_z w64 c.lowered_8.result fits) is
