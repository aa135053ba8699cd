use Rattle.std.proofs.Common.{◌∙◌, ◌*◌, ap, sym, drop, List, ℕ, rules}
use Rattle.std.specs.Prelude.{Some, FitsSigned}
use Rattle.std.specs.Int.{w64}
use Rattle.std.proofs.lemmas.Int.{to_z-of_z}
use Rattle.kt_plain.specs.Widths.{field_len, value}
use Rattle.kt_plain.proofs.Fields.{held_at, held_is}
use Rattle.kt_plain.proofs.numbers.Numbers.get.Goals as goal

pub number_in-requires : goal.number_in-requires
number_in-requires c =
    rw c.deref.ensures.value (held_at c.self.inside.width c.self.inside.bytes.items c.args.self.now c.args.i c.self.invariant c.self.view_is c.requires)

pub returns : goal.returns
returns c =
    let wide : FitsSigned w64 c.number_in.result = search rules in
    held_is c.self.inside.width c.self.inside.bytes.items c.args.self.now c.args.i c.self.invariant c.self.view_is c.requires
    ∙ ap Some (sym (to_z-of_z w64 c.number_in.result wide ∙ c.number_in.ensures ∙ ap (λ (xs : List ℕ). value c.self.inside.width (drop (field_len c.self.inside.width * c.args.i) xs)) c.deref.ensures.value))
