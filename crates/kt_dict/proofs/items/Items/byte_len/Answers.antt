use Rattle.std.proofs.Common.{◌≡◌, ◌<◌, ◌∙◌, List, ℕ, length, get_or, take, ap, arith, []}
use Rattle.std.specs.List.{sum_by}
use Rattle.std.proofs.lemmas.List.{take_all}
use Rattle.kt_dict.specs.Items.{items_of}
use Rattle.kt_dict.proofs.Sums.{sum_more, entry_short}
use Rattle.kt_dict.proofs.items.Items.byte_len.Goals as goal

pub overflow_add-sum : goal.overflow_add-sum
overflow_add-sum c =
    let codes : List ℕ = c.self.inside.codes.items in
    let same : get_or c.deref-code-items.result.now c.loop-code.code-index 0 ≡ get_or codes c.loop-code.code-index 0 = ap (λ (xs : List ℕ). get_or xs c.loop-code.code-index 0) c.deref-code-items.ensures.value in
    let len : length c.deref-code-items.result.now ≡ length codes = ap length c.deref-code-items.ensures.value in
    let below = c.self.invariant.within c.loop-code.code-index (omega arith) in
    let short = entry_short c.self.inside.entries (get_or codes c.loop-code.code-index 0) c.self.invariant.short below in
    let got : length c.get.result.now ≡ length (get_or c.self.inside.entries (get_or codes c.loop-code.code-index 0) []) = ap length (c.get.ensures ∙ ap (λ (k : ℕ). get_or c.self.inside.entries k []) same) in
    omega (arith, c.self.invariant.few)

pub loop-code-preserved : goal.loop-code-preserved
loop-code-preserved c =
    let codes : List ℕ = c.self.inside.codes.items in
    let same : get_or c.deref-code-items.result.now c.loop-code.code-index 0 ≡ get_or codes c.loop-code.code-index 0 = ap (λ (xs : List ℕ). get_or xs c.loop-code.code-index 0) c.deref-code-items.ensures.value in
    let len : length c.deref-code-items.result.now ≡ length codes = ap length c.deref-code-items.ensures.value in
    let place : c.loop-code.code-index < length codes = omega arith in
    let below = c.self.invariant.within c.loop-code.code-index place in
    let short = entry_short c.self.inside.entries (get_or codes c.loop-code.code-index 0) c.self.invariant.short below in
    let got : length c.get.result.now ≡ length (get_or c.self.inside.entries (get_or codes c.loop-code.code-index 0) []) = ap length (c.get.ensures ∙ ap (λ (k : ℕ). get_or c.self.inside.entries k []) same) in
    let more = sum_more c.self.inside.entries codes c.loop-code.code-index place in
    record { so_far = omega arith; most = omega arith }

pub returns : goal.returns
returns c =
    let codes : List ℕ = c.self.inside.codes.items in
    let len : length c.deref-code-items.result.now ≡ length codes = ap length c.deref-code-items.ensures.value in
    let all : take c.loop-code.code-index codes ≡ codes = take_all c.loop-code.code-index codes (omega arith) in
    c.loop-code.invariant.so_far ∙ (ap (λ (cs : List ℕ). sum_by length (items_of c.self.inside.entries cs)) all ∙ ap (sum_by length) c.self.view_is)
