use Rattle.std.proofs.Common.{◌≡◌, ◌-◌, ◌∙◌, List, ℕ, length, Ok, sym, ap, subst, arith}
use Rattle.kt_bytes.proofs.Numbers.{IsBytes}
use Rattle.kt_front.specs.Spelling.{base}
use Rattle.kt_front.specs.Walk.{cell_at}
use Rattle.kt_front.specs.Order.{bound, IsAbove}
use Rattle.kt_front.proofs.Falls.{reached_none, reached_more, rest_bytes, rest_within, fall_here, none_left, none_there}
use Rattle.kt_front.proofs.rising.fall_among.Goals as goal

pub items-init : goal.items-init
items-init c = reached_none c.args.most c.args.bytes.now c.args.last.now c.args.some

pub returns-in_default : goal.returns-in_default
returns-in_default c =
    let w : c.base_of-base.result.now ≡ base c.items.i c.items.last = c.base_of-base.ensures ∙ ap (base c.items.i) c.as_slice.ensures in
    let none = rw c.in_default.is at c.in_ok-after.ensures in
    none_there c.args.most c.items.i c.args.n (bound c.args.some c.args.last.now) c.args.bytes.now c.items.last c.items.rest.now c.items.known none.0 (omega arith) c.items.invariant (rw (← w) none.1)

pub returns-then-not-is_above : goal.returns-then-not-is_above
returns-then-not-is_above c =
    let fits : IsBytes c.args.bytes.now = λ i. omega (arith, c.type_inv.bytes i) in
    let rest_fits = rest_bytes c.args.most c.items.i (bound c.args.some c.args.last.now) c.args.bytes.now c.items.last c.items.rest.now c.items.known fits c.items.invariant in
    let w : c.base_of-base.result.now ≡ base c.items.i c.items.last = c.base_of-base.ensures ∙ ap (base c.items.i) c.as_slice.ensures in
    let read : cell_at c.args.most (base c.items.i c.items.last) c.items.rest.now ≡ Ok (c.next_item.new.out, c.in-Some.after.now) = rw (← w) (rw c.in-Some.is at c.in_ok-after.ensures) in
    let not_above : IsAbove (bound c.items.known c.items.last) c.next_item.new.out → ⊥ = λ above. c.if-not-is_above.ensures.no (subst (λ (l : List ℕ). IsAbove (bound c.items.known l) c.as_slice-in-items-2.result.now) (sym c.as_slice-in-items.ensures) (subst (IsAbove (bound c.items.known c.items.last)) (sym c.as_slice-in-items-2.ensures) above)) in
    fall_here c.args.most c.items.i c.args.n (bound c.args.some c.args.last.now) c.args.bytes.now c.items.last c.items.rest.now c.next_item.new.out c.in-Some.after.now c.items.known (length c.args.bytes.now - length c.items.rest.now) c.items-test.true rest_fits c.items.invariant read not_above
    (omega (arith, rest_within c.args.most c.items.i (bound c.args.some c.args.last.now) c.args.bytes.now c.items.last c.items.rest.now c.items.known c.items.invariant))

pub items-preserved : goal.items-preserved
items-preserved c =
    let fits : IsBytes c.args.bytes.now = λ i. omega (arith, c.type_inv.bytes i) in
    let rest_fits = rest_bytes c.args.most c.items.i (bound c.args.some c.args.last.now) c.args.bytes.now c.items.last c.items.rest.now c.items.known fits c.items.invariant in
    let w : c.base_of-base.result.now ≡ base c.items.i c.items.last = c.base_of-base.ensures ∙ ap (base c.items.i) c.as_slice.ensures in
    let read : cell_at c.args.most (base c.items.i c.items.last) c.items.rest.now ≡ Ok (c.next_item.new.out, c.in-Some.after.now) = rw (← w) (rw c.in-Some.is at c.in_ok-after.ensures) in
    let above : IsAbove (bound c.items.known c.items.last) c.next_item.new.out = subst (IsAbove (bound c.items.known c.items.last)) c.as_slice-in-items-2.ensures (subst (λ (l : List ℕ). IsAbove (bound c.items.known l) c.as_slice-in-items-2.result.now) c.as_slice-in-items.ensures c.if-not-is_above.ensures.yes) in
    rw c.swap.ensures.x_after (reached_more c.args.most c.items.i (bound c.args.some c.args.last.now) c.args.bytes.now c.items.last c.items.rest.now c.next_item.new.out c.in-Some.after.now c.items.known rest_fits c.items.invariant read above)

pub returns : goal.returns
returns c = none_left c.args.most c.items.i c.args.n (bound c.args.some c.args.last.now) c.args.bytes.now c.items.last c.items.rest.now c.items.known (omega arith) c.items-test.false c.items.invariant
