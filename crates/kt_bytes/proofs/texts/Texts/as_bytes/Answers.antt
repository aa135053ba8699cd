use Rattle.std.proofs.Common.{◌∙◌, ap, sym, List, ℕ}
use Rattle.std.specs.List.{concat}
use Rattle.kt_bytes.proofs.Cuts.{concat-all}
use Rattle.kt_bytes.proofs.texts.Texts.as_bytes.Goals as goal

pub returns : goal.returns
returns c =
    c.deref.ensures.value ∙ sym (concat-all c.self.inside.ends.items c.self.inside.bytes.items c.self.invariant) ∙ ap (λ (ts : List (List ℕ)). concat ts) c.self.view_is
