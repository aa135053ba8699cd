use Rattle.std.proofs.Common.{◌≡◌, ◌∙◌, ◌+◌, ◌-◌, ◌*◌, ◌/◌, ap, subst, arith, rules, length, drop, List, ℕ, ℤ}
use Rattle.std.specs.Prelude.{FitsSigned}
use Rattle.std.specs.Int.{w64}
use Rattle.std.proofs.lemmas.Int.{to_z-of_z}
use Rattle.kt_rle.specs.declared.runs.Run.{Run}
use Rattle.kt_rle.specs.Runs.{run_len, run_at}
use Rattle.kt_rle.specs.Reading.{MayFollow, IsBehind}
use Rattle.kt_rle.proofs.FirstFault.{HasRead}
use Rattle.kt_rle.proofs.Told.{told_missing, told_wrong, told_follows}
use Rattle.kt_rle.proofs.Held.{whole_runs}
use Rattle.kt_rle.proofs.Decoded.{HoldsRead, holds_more, holds_all}
use Rattle.kt_rle.proofs.decoding.read.Goals as goal

pub returns-then-not-may_follow-clause-place : goal.returns-then-not-may_follow-clause-place
returns-then-not-may_follow-clause-place c =
    let w = c.args.width in
    let bytes : List ℕ = c.args.bytes.now in
    let from = c.from_run.ensures in
    let is : c.run_at-run.result ≡ run_at w (drop (run_len w * c.runs.i) bytes) = c.run_at-run.ensures ∙ ap (run_at w) from.from in
    let wrong = subst (λ (r : Run). ¬ MayFollow w (c.args.n - c.runs.end) c.runs.last r) is c.if-not-may_follow.ensures.no in
    let behind = subst (λ (r : Run). IsBehind w (c.args.n - c.runs.end) r c.fault_in.result) is c.fault_in.ensures.behind in
    rw c.field_len-step.ensures
    (told_wrong w c.args.n bytes c.runs.i (c.args.n - c.runs.end) c.runs.last c.fault_in.result (λ k. omega (arith, c.type_inv.bytes k)) (omega (arith, from.long, from.within)) c.runs.invariant.read wrong behind)

pub runs-preserved : goal.runs-preserved
runs-preserved c =
    let w = c.args.width in
    let bytes : List ℕ = c.args.bytes.now in
    let is : c.run_at-run.result ≡ run_at w (drop (run_len w * c.runs.i) bytes) = c.run_at-run.ensures ∙ ap (run_at w) c.from_run.ensures.from in
    let z : ℤ = c.run_at-run.result.value in
    let wide : FitsSigned w64 z = search rules in
    rw (c.in_ok-push.ensures.items, to_z-of_z w64 z wide)
    (holds_more w c.args.n bytes c.runs.i c.runs.end c.runs.last c.runs.runs.items c.run_at-run.result c.runs.invariant is c.if-not-may_follow.ensures.yes)

pub returns-then-end-n-clause-place : goal.returns-then-end-n-clause-place
returns-then-end-n-clause-place c =
    let w = c.args.width in
    let bytes : List ℕ = c.args.bytes.now in
    let i : ℕ = length bytes / run_len w in
    let div : length bytes / (4 + c.field_len-step.result) ≡ i = ap (λ (k : ℕ). length bytes / (4 + k)) c.field_len-step.ensures in
    let all : c.runs.i ≡ i = omega (arith, div) in
    let whole = whole_runs w (length bytes) in
    told_missing w c.args.n bytes i (c.args.n - c.runs.end) c.runs.last (λ k. omega (arith, c.type_inv.bytes k)) whole.0 whole.1 (omega arith)
    (subst (λ (k : ℕ). HasRead w c.args.n bytes k (c.args.n - c.runs.end) c.runs.last) all c.runs.invariant.read)

pub returns-then-step-count-clause-place : goal.returns-then-step-count-clause-place
returns-then-step-count-clause-place c =
    let w = c.args.width in
    let bytes : List ℕ = c.args.bytes.now in
    let i : ℕ = length bytes / run_len w in
    let div : length bytes / (4 + c.field_len-step.result) ≡ i = ap (λ (k : ℕ). length bytes / (4 + k)) c.field_len-step.ensures in
    let all : c.runs.i ≡ i = omega (arith, div) in
    let none : c.args.n - c.runs.end ≡ 0 = omega arith in
    let read = subst (λ (k : ℕ). HasRead w c.args.n bytes i k c.runs.last) none (subst (λ (k : ℕ). HasRead w c.args.n bytes k (c.args.n - c.runs.end) c.runs.last) all c.runs.invariant.read) in
    let more = rw c.field_len-step.ensures at c.if-step-count.true in
    rw c.field_len-step.ensures (told_follows w c.args.n bytes i c.runs.last (λ k. omega (arith, c.type_inv.bytes k)) more read)

pub returns-clause-read : goal.returns-clause-read
returns-clause-read c =
    let w = c.args.width in
    let bytes : List ℕ = c.args.bytes.now in
    let i : ℕ = length bytes / run_len w in
    let div : length bytes / (4 + c.field_len-step.result) ≡ i = ap (λ (k : ℕ). length bytes / (4 + k)) c.field_len-step.ensures in
    let all : c.runs.i ≡ i = omega (arith, div) in
    let whole = whole_runs w (length bytes) in
    let no_more = rw c.field_len-step.ensures at c.if-step-count.false in
    holds_all w c.args.n bytes i c.runs.end c.runs.last c.runs.runs.items (subst (λ (k : ℕ). HoldsRead w c.args.n bytes k c.runs.end c.runs.last c.runs.runs.items) all c.runs.invariant)
    (λ k. omega (arith, c.type_inv.bytes k)) (omega arith) (omega (arith, whole.0, no_more))
