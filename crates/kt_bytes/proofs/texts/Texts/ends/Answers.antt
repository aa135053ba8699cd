use Rattle.std.proofs.Common.{◌∙◌, ap, sym, List, ℕ}
use Rattle.kt_bytes.specs.Cuts.{ends_of}
use Rattle.kt_bytes.proofs.Cuts.{ends_of-pieces}
use Rattle.kt_bytes.proofs.texts.Texts.ends.Goals as goal

pub returns : goal.returns
returns c =
    c.deref.ensures.value ∙ sym (ends_of-pieces 0 c.self.inside.ends.items c.self.inside.bytes.items c.self.invariant) ∙ ap (λ (ts : List (List ℕ)). ends_of 0 ts) c.self.view_is
