-- How a run of calls goes on, as its caller sees it.
use Rattle.std.proofs.Common.{◌≡◌, ℕ, List, Option, inl, inr, subst, sym, arith}
use Rattle.std.proofs.lemmas.Bool.{cases_lt}
use Rattle.kt_disk.specs.Disk.{Files, On, Same, Turns, LeavesOnly, Stable}

module _ {D : Type 0} (seen : D → Files) (now : D → ℕ) (leaves : D → ℕ → Files → Type 0) (P : Files → Type 0) where
  -- before the first call
  pub started : (old : D) → ((c : Files) → leaves old (now old) c → P c) → LeavesOnly now leaves P old old
  started old here = record {
    later = omega arith;
    each = λ m c lo hi left. here c (subst (λ (k : ℕ). leaves old k c) (let e : m ≡ now old = omega arith in e) left);
    past = λ m c le left. left;
    keeps = λ m c le left. left;
  }

  -- one call more, after whose move P holds
  pub goes_on : (old mid new : D) (Moves : Files → Files → Type 0) → LeavesOnly now leaves P old mid → Turns now leaves Moves mid new
      → ((d c : Files) → leaves mid (now mid) d → P d → Moves d c → P c) → LeavesOnly now leaves P old new
  goes_on old mid new Moves so_far turn here = record {
    later = omega (arith, so_far.later, turn.later);
    each = λ m c lo hi left. elim (cases_lt (now mid) m) [
      | inl gt ↦ let from = turn.each m c gt hi left in here from.0 c from.1 (so_far.each (now mid) from.0 so_far.later (omega arith) from.1) from.2
      | inr le ↦ so_far.each m c lo le (turn.past m c le left)
    ];
    past = λ m c le left. so_far.past m c le (turn.past m c (omega (arith, so_far.later)) left);
    keeps = λ m c le left. turn.keeps m c (omega (arith, so_far.later)) (so_far.keeps m c le left);
  }

  -- a call that only takes outcomes away: a read, a length or a sync
  pub goes_on_same : (old mid new : D) → LeavesOnly now leaves P old mid → Turns now leaves Same mid new → LeavesOnly now leaves P old new
  goes_on_same old mid new so_far turn = goes_on old mid new Same so_far turn (λ d c left has same. subst P (sym same) has)

-- a call that moves one file, of which nothing is pending, where P speaks of that file alone
module _ {D : Type 0} (seen : D → Files) (now : D → ℕ) (leaves : D → ℕ → Files → Type 0) (file : ℕ) (Q : Option (List ℕ) → Type 0) where
  pub goes_on_at : (old mid new : D) (step : Option (List ℕ) → Option (List ℕ) → Type 0) → LeavesOnly now leaves (λ c. Q (c file)) old mid → Turns now leaves (On file step) mid new
      → Stable seen now leaves file mid → ((x : Option (List ℕ)) → step (seen mid file) x → Q x) → LeavesOnly now leaves (λ c. Q (c file)) old new
  goes_on_at old mid new step so_far turn stable here =
      goes_on seen now leaves (λ c. Q (c file)) old mid new (On file step) so_far turn (λ d c left has on. here (c file) (subst (λ (x : Option (List ℕ)). step x (c file)) (stable d left) on.here))

-- two calls of which neither moves a file are as one
pub turns_then : {D : Type 0} (now : D → ℕ) (leaves : D → ℕ → Files → Type 0) (old mid new : D) → Turns now leaves Same old mid → Turns now leaves Same mid new → Turns now leaves Same old new
turns_then now leaves old mid new first second = record {
  later = omega (arith, first.later, second.later);
  past = λ m c le left. first.past m c le (second.past m c (omega (arith, first.later)) left);
  keeps = λ m c le left. second.keeps m c (omega (arith, first.later)) (first.keeps m c le left);
  each = λ m c gt le left. elim (cases_lt (now mid) m) [
    | inr before ↦ first.each m c gt before (second.past m c before left)
    | inl behind ↦
        let from = second.each m c behind le left in
        elim (cases_lt (now old) (now mid)) [
          | inl moved ↦ subst (λ (x : Files). (d : Files) × leaves old (now old) d × (x ≡ d)) (sym from.2) (first.each (now mid) from.0 moved (omega arith) from.1)
          | inr still ↦
              let same : now mid ≡ now old = omega (arith, first.later) in
              (from.0, subst (λ (k : ℕ). leaves old k from.0) same (first.past (now mid) from.0 still from.1), from.2)
        ]
  ];
}

-- one run after another
pub joined : {D : Type 0} (now : D → ℕ) (leaves : D → ℕ → Files → Type 0) (P : Files → Type 0) (old mid new : D) → LeavesOnly now leaves P old mid → LeavesOnly now leaves P mid new → LeavesOnly now leaves P old new
joined now leaves P old mid new first second = record {
  later = omega (arith, first.later, second.later);
  each = λ m c lo hi left. elim (cases_lt m (now mid)) [
    | inl before ↦ first.each m c lo (omega arith) (second.past m c (omega arith) left)
    | inr behind ↦ second.each m c behind hi left
  ];
  past = λ m c le left. first.past m c le (second.past m c (omega (arith, first.later)) left);
  keeps = λ m c le left. second.keeps m c (omega (arith, first.later)) (first.keeps m c le left);
}

pub weaker : {D : Type 0} (now : D → ℕ) (leaves : D → ℕ → Files → Type 0) (P Q : Files → Type 0) (old new : D) → ((c : Files) → P c → Q c) → LeavesOnly now leaves P old new → LeavesOnly now leaves Q old new
weaker now leaves P Q old new more run = record { later = run.later; each = λ m c lo hi left. more c (run.each m c lo hi left); past = run.past; keeps = run.keeps }

-- what such a call leaves, it found
pub same_left : {D : Type 0} (now : D → ℕ) (leaves : D → ℕ → Files → Type 0) (old new : D) → Turns now leaves Same old new → (c : Files) → leaves new (now new) c → leaves old (now old) c
same_left now leaves old new turn c left = elim (cases_lt (now old) (now new)) [
  | inl moved ↦ let from = turn.each (now new) c moved (omega arith) left in subst (λ (x : Files). leaves old (now old) x) (sym from.2) from.1
  | inr still ↦
      let same : now new ≡ now old = omega (arith, turn.later) in
      subst (λ (k : ℕ). leaves old k c) same (turn.past (now new) c still left)
]
