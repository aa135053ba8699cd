use Rattle.std.proofs.Common.{◌≡◌, ◌≤◌, ◌<◌, ◌+◌, ◌∙◌, [], inl, inr, ap, length, get_or, drop, arith, List, ℕ, true, false}
use Rattle.std.specs.Prelude.{nat_le}
use Rattle.std.specs.List.{flat_map}
use Rattle.std.proofs.lemmas.Bool.{OnTrue_from, OnFalse_from, leb-true, leb-false}
use Rattle.kt_dict.specs.Spelling.{entries_after, dictionary, spelling, Fits}
use Rattle.kt_dict.specs.Writing.{text}
use Rattle.kt_column.proofs.ShortestHeld.{used_more, used_next, used_too_much, used_up, used_end, few_bytes}
use Rattle.kt_column.proofs.least.are_within.Goals as goal

pub items-init : goal.items-init
items-init c = record { so_far = ap (λ es. entries_after es c.args.items.now) c.requires.none; few = rw c.requires.none (omega arith); small = rw c.requires.none (omega arith) }

pub use_item-requires-clause-small : goal.use_item-requires-clause-small
use_item-requires-clause-small c =
    let short : length (get_or c.args.items.now c.items.i []) ≤ 65536 = c.requires.short c.items.i [] (omega arith) in
    omega (arith, short, c.items.invariant.small, c.requires.few, c.len-n.ensures, c.items-test.true)

pub are_over-requires : goal.are_over-requires
are_over-requires c =
    let item : List ℕ = get_or c.args.items.now c.items.i [] in
    let short : length item ≤ 65536 = c.requires.short c.items.i [] (omega arith) in
    omega (arith, ap (λ (es : List (List ℕ)). length (flat_map text es)) c.in-Ok.ensures, used_more c.items.entries item, short, c.items.invariant.small, c.requires.few, c.len-n.ensures, c.items-test.true)

pub returns-then-are_over-clause-no : goal.returns-then-are_over-clause-no
returns-then-are_over-clause-no c = λ fits.
    let items : List (List ℕ) = c.args.items.now in
    let so_far : entries_after c.use_item.new.entries (drop (c.items.i + 1) items) ≡ dictionary items = ap (λ es. entries_after es (drop (c.items.i + 1) items)) c.in-Ok.ensures ∙ used_next items c.items.entries c.items.i (omega arith) c.items.invariant.so_far in
    elim c.if-are_over.ensures.yes [
      | inl many ↦ used_too_much items c.use_item.new.entries (drop (c.items.i + 1) items) c.args.most so_far (inl (λ le. omega arith)) fits
      | inr long ↦ used_too_much items c.use_item.new.entries (drop (c.items.i + 1) items) c.args.most so_far (inr (omega (arith, long, c.len-n.ensures))) fits
    ]

pub items-preserved : goal.items-preserved
items-preserved c =
    let items : List (List ℕ) = c.args.items.now in
    let item : List ℕ = get_or items c.items.i [] in
    let short : length item ≤ 65536 = c.requires.short c.items.i [] (omega arith) in
    record {
      so_far = ap (λ es. entries_after es (drop (c.items.i + 1) items)) c.in-Ok.ensures ∙ used_next items c.items.entries c.items.i (omega arith) c.items.invariant.so_far;
      few = c.if-are_over.ensures.no;
      small = omega (arith, ap (λ (es : List (List ℕ)). length (flat_map text es)) c.in-Ok.ensures, used_more c.items.entries item, short, c.items.invariant.small);
    }

pub returns-clause-yes : goal.returns-clause-yes
returns-clause-yes c =
    let items : List (List ℕ) = c.args.items.now in
    let is = used_end items c.items.entries c.items.i (omega (arith, c.items-test.false, c.len-n.ensures)) c.items.invariant.so_far in
    let u = used_up items c.items.entries c.items.invariant.few (few_bytes items c.requires.few c.requires.short) is in
    let h : nat_le c.spelled_len.result c.args.most ≡ true → Fits items × (length (spelling items) ≤ c.args.most) = λ e. (let le = leb-true _ _ e in (u.0, omega (arith, le, u.1, c.spelled_len.ensures, c.len-n.ensures))) in
    OnTrue_from _ _ h

pub returns-clause-no : goal.returns-clause-no
returns-clause-no c =
    let items : List (List ℕ) = c.args.items.now in
    let is = used_end items c.items.entries c.items.i (omega (arith, c.items-test.false, c.len-n.ensures)) c.items.invariant.so_far in
    let u = used_up items c.items.entries c.items.invariant.few (few_bytes items c.requires.few c.requires.short) is in
    let h : nat_le c.spelled_len.result c.args.most ≡ false → Fits items → c.args.most < length (spelling items) = λ e fits. (let lt = leb-false _ _ e in omega (arith, lt, u.1, c.spelled_len.ensures, c.len-n.ensures)) in
    OnFalse_from _ _ h
