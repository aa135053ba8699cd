use Rattle.std.proofs.Common.{length, ap, arith, List, ℕ}
use Rattle.std.specs.List.{concat}
use Rattle.kt_bytes.proofs.Cuts.{concat-all}
use Rattle.kt_bytes.proofs.texts.Texts.byte_len.Goals as goal

pub returns : goal.returns
returns c =
    let all = ap (λ (xs : List ℕ). length xs) (concat-all c.self.inside.ends.items c.self.inside.bytes.items c.self.invariant) in
    let seen = ap (λ (ts : List (List ℕ)). length (concat ts)) c.self.view_is in
    omega (arith, all, seen)
