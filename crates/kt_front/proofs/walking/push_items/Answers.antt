use Rattle.std.proofs.Common.{◌≡◌, ◌∙◌, ◌<◌, ◌++◌, ℕ, [], length, take, get_or, ap, sym, arith, refl}
use Rattle.std.proofs.lemmas.List.{append-nil}
use Rattle.kt_front.specs.Spelling.{base, shared}
use Rattle.kt_front.specs.Walking.{Fields, before_at}
use Rattle.kt_front.proofs.All.{shares, pushed}
use Rattle.kt_front.proofs.Walk.{block_start, block_step, no_cell, fields_are}
use Rattle.kt_front.proofs.Blocks.{item_step}
use Rattle.kt_front.proofs.walking.push_items.Goals as goal

pub loop-init : goal.loop-init
loop-init c = λ items block le. (block_start c.args.bytes.now items block, sym (append-nil c.args.out.now))

pub returns-in_default : goal.returns-in_default
returns-in_default c = λ items block le.
    absurd (no_cell c.loop.rest.now _ c.in_default.ensures.read (block_step items c.loop.counter c.loop.rest.now block.fits (omega (arith, c.loop-test.true)) (c.loop.invariant items block le).0))

pub returns-then-cell-last : goal.returns-then-cell-last
returns-then-cell-last c = λ items block le.
    let so_far = c.loop.invariant items block le in
    let j : ℕ = c.loop.counter in
    let lt : j < length items = omega (arith, c.loop-test.true) in
    let read = fields_are c.loop.rest.now _ _ c.in-Some.ensures.read (block_step items j c.loop.rest.now block.fits lt so_far.0) in
    let fits = shares c.args.out.now items c.loop.out j c.in-Some.cell.shared so_far.1 (ap (λ (x : Fields). x.shared) read) lt in
    absurd (omega (arith, fits, c.if-cell-last.true, ap length c.last.ensures))

pub loop-preserved : goal.loop-preserved
loop-preserved c = λ items block le.
    let so_far = c.loop.invariant items block le in
    let j : ℕ = c.loop.counter in
    let lt : j < length items = omega (arith, c.loop-test.true) in
    let s : ℕ = c.in-Some.cell.shared in
    let read = fields_are c.loop.rest.now _ _ c.in-Some.ensures.read (block_step items j c.loop.rest.now block.fits lt so_far.0) in
    let is : s ≡ shared (base j (before_at j [] items)) (get_or items j []) = ap (λ (x : Fields). x.shared) read in
    let item = item_step items j s c.in-Some.cell.rest.now (before_at j [] items) is (ap (λ (x : Fields). x.rest) read) refl in
    (ap (λ (x : Fields). x.after) read, pushed c.args.out.now items c.loop.out c.push_behind.new.self j s c.in-Some.cell.rest.now so_far.1 is lt c.in_ok-push_behind.ensures.ok item)

pub returns : goal.returns
returns c = λ items block le.
    let at : c.loop.counter ≡ c.args.n = omega arith in
    (c.loop.invariant items block le).1 ∙ ap (λ (j : ℕ). c.args.out.now ++ take j items) at
