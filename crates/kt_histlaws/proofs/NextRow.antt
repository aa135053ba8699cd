-- The next row of a flying write: what its place tells.
use Rattle.std.proofs.Common.{◌≡◌, ℕ, zero, suc, ◌<◌, List, [], ◌∷◌, Some, refl, true, false, Bool, ◌||◌, sym, ap, ◌∙◌, subst, map, drop, add-one}
use Rattle.std.specs.Prelude.{◌==◌, ◌&&◌, slice_get}
use Rattle.std.specs.Ordering.{eq_by_cmp}
use Rattle.kt_history.specs.declared.operation.RowOp.{RowOp}
use Rattle.kt_history.specs.Rows.{Row, key_cmp}
use Rattle.kt_history.specs.History.{Past}
use Rattle.kt_history.specs.Operations.{DifferentKeys}
use Rattle.kt_histlaws.specs.Histories.{on_nth}
use Rattle.kt_histlaws.specs.Pending.{Aloft, has_key, is_pending}
use Rattle.kt_histlaws.specs.Flights.{AllOps, AllFly, AreDisjoint, SharesNone, OpFlies}
use Rattle.kt_histlaws.specs.Core.{flown_by}
use Rattle.kt_histlaws.specs.Events.{IsNextOp, advance}
use Rattle.kt_histlaws.proofs.Pending.{itself}
use Rattle.kt_histlaws.proofs.Applying.{GoesOn}
use Rattle.kt_histlaws.proofs.Flown.{shares_none, share_symm}

or_left : (x y : Bool) → (x || y) ≡ false → x ≡ false
or_left true y h = h
or_left false y h = refl

or_right : (x y : Bool) → (x || y) ≡ false → y ≡ false
or_right true y h = cc
or_right false y h = h

the_op : (x y : RowOp) → Some x ≡ Some y → x ≡ y
the_op x y e = cc

drop_key : (q : List ℕ) (n : ℕ) (ops : List RowOp) → has_key q ops ≡ false → has_key q (drop n ops) ≡ false
drop_key q zero ops h = h
drop_key q (suc n) [] h = h
drop_key q (suc n) (op ∷ ops) h = drop_key q n ops (or_right _ _ h)

drop_next : (q : List ℕ) (n : ℕ) (ops : List RowOp) (op : RowOp) → slice_get ops n ≡ Some op → has_key q (drop n ops) ≡ (eq_by_cmp key_cmp q op.key || has_key q (drop (suc n) ops))
drop_next q n [] op h = cc
drop_next q zero (o ∷ ops) op h = ap (λ x. eq_by_cmp key_cmp q x.key || has_key q ops) (the_op o op h)
drop_next q (suc n) (o ∷ ops) op h = drop_next q n ops op h

key_there : (n : ℕ) (ops : List RowOp) (op : RowOp) → slice_get ops n ≡ Some op → has_key op.key ops ≡ true
key_there n [] op h = cc
key_there zero (o ∷ ops) op h = ap (λ x. eq_by_cmp key_cmp op.key x.key || has_key op.key ops) (the_op o op h) ∙ ap (λ b. b || has_key op.key ops) (itself op.key)
key_there (suc n) (o ∷ ops) op h = later (eq_by_cmp key_cmp op.key o.key) (key_there n ops op h)
  where
    later : (b : Bool) {x : Bool} → x ≡ true → (b || x) ≡ true
    later true g = refl
    later false g = g

key_over : (n : ℕ) (ops : List RowOp) (op : RowOp) → DifferentKeys ops → slice_get ops n ≡ Some op → has_key op.key (drop (suc n) ops) ≡ false
key_over n [] op d h = cc
key_over zero (o ∷ ops) op d h = subst (λ x. has_key x.key ops ≡ false) (the_op o op h) d.0
key_over (suc n) (o ∷ ops) op d h = key_over n ops op d.1 h

pick : (P : RowOp → Type 0) (n : ℕ) (ops : List RowOp) (op : RowOp) → AllOps P ops → slice_get ops n ≡ Some op → P op
pick P n [] op all h = cc
pick P zero (o ∷ ops) op all h = subst P (the_op o op h) all.0
pick P (suc n) (o ∷ ops) op all h = pick P n ops op all.1 h

-- no other flying write has the key
not_pending : (aloft : List Aloft) (ops : List RowOp) (n : ℕ) (op : RowOp) (t : ℕ) → slice_get ops n ≡ Some op → SharesNone ops (map flown_by aloft) → is_pending aloft op.key t ≡ false
not_pending [] ops n op t h none = refl
not_pending (v ∷ aloft) ops n op t h none =
    let free : has_key op.key v.ops ≡ false = pick (λ o. has_key o.key v.ops ≡ false) n ops op (shares_none v.ops ops (share_symm ops v.ops none.0)) h in
    ap (λ b. (v.ts == t) && b || is_pending aloft op.key t) (drop_key op.key v.applied v.ops free) ∙ skip (v.ts == t) ∙ not_pending aloft ops n op t h none.1
  where
    skip : (b : Bool) → (b && false || is_pending aloft op.key t) ≡ is_pending aloft op.key t
    skip true = refl
    skip false = refl

kept : (b : Bool) (c : Bool) → c ≡ false → ((b && true) || c) ≡ b
kept true c e = refl
kept false c e = e

all_false : (b c : Bool) → c ≡ false → ((b && false) || c) ≡ false
all_false true c e = e
all_false false c e = e

pub skipped : (b c : Bool) → ((b && false) || c) ≡ c
skipped true c = refl
skipped false c = refl

head_free : (j : ℕ) (aloft : List Aloft) (ts : ℕ) (op : RowOp) (ops : List RowOp) → IsNextOp j aloft ts op → SharesNone ops (map flown_by aloft) → has_key op.key ops ≡ false
head_free j [] ts op ops h none = absurd h
head_free zero (v ∷ aloft) ts op ops h none = pick (λ o. has_key o.key ops ≡ false) v.applied v.ops op (shares_none ops v.ops none.0) h.1
head_free (suc j) (v ∷ aloft) ts op ops h none = head_free j aloft ts op ops h none.1

-- one operation goes from pending to applied, and nothing else changes
pub goes_on : (j : ℕ) (aloft : List Aloft) (ts : ℕ) (op : RowOp) (fill : Row) (past : Past) (a c : ℕ) → IsNextOp j aloft ts op → AreDisjoint (map flown_by aloft) → AllFly fill past a c (map flown_by aloft)
    → GoesOn aloft (on_nth j advance aloft) op.key ts
goes_on j [] ts op fill past a c h d f = absurd h
goes_on zero (w ∷ aloft) ts op fill past a c h d f = record {
  before = λ t. ap (λ b. ((w.ts == t) && b) || is_pending aloft op.key t) (drop_next op.key w.applied w.ops op h.1 ∙ ap (λ b. b || has_key op.key (drop (suc w.applied) w.ops)) (itself op.key))
      ∙ kept (w.ts == t) (is_pending aloft op.key t) (not_pending aloft w.ops w.applied op t h.1 d.0) ∙ ap (λ n. n == t) h.0;
  after = λ t. ap (λ b. ((w.ts == t) && b) || is_pending aloft op.key t) (ap (λ n. has_key op.key (drop n w.ops)) (add-one w.applied) ∙ key_over w.applied w.ops op f.2 h.1)
      ∙ all_false (w.ts == t) (is_pending aloft op.key t) (not_pending aloft w.ops w.applied op t h.1 d.0);
  others = λ k t ne. ap (λ b. ((w.ts == t) && b) || is_pending aloft k t) (ap (λ n. has_key k (drop n w.ops)) (add-one w.applied) ∙ sym (drop_next k w.applied w.ops op h.1 ∙ ap (λ b. b || has_key k (drop (suc w.applied) w.ops)) ne));
}
goes_on (suc j) (w ∷ aloft) ts op fill past a c h d f =
    let free : has_key op.key (drop w.applied w.ops) ≡ false = drop_key op.key w.applied w.ops (head_free j aloft ts op w.ops h d.0) in
    let rest : GoesOn aloft (on_nth j advance aloft) op.key ts = goes_on j aloft ts op fill past a c h d.1 f.4 in
    record {
      before = λ t. ap (λ b. ((w.ts == t) && b) || is_pending aloft op.key t) free ∙ skipped (w.ts == t) (is_pending aloft op.key t) ∙ rest.before t;
      after = λ t. ap (λ b. ((w.ts == t) && b) || is_pending (on_nth j advance aloft) op.key t) free ∙ skipped (w.ts == t) (is_pending (on_nth j advance aloft) op.key t) ∙ rest.after t;
      others = λ k t ne. ap (λ r. ((w.ts == t) && has_key k (drop w.applied w.ops)) || r) (rest.others k t ne);
    }

pub flies_at : (j : ℕ) (aloft : List Aloft) (ts : ℕ) (op : RowOp) (fill : Row) (past : Past) (a c : ℕ) → IsNextOp j aloft ts op → AllFly fill past a c (map flown_by aloft) → (a < ts) × OpFlies fill past ts op
flies_at j [] ts op fill past a c h f = absurd h
flies_at zero (w ∷ aloft) ts op fill past a c h f = (subst (λ n. a < n) h.0 f.0, subst (λ n. OpFlies fill past n op) h.0 (pick (OpFlies fill past w.ts) w.applied w.ops op f.3 h.1))
flies_at (suc j) (w ∷ aloft) ts op fill past a c h f = flies_at j aloft ts op fill past a c h f.4
