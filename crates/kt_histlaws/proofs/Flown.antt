-- What a run keeps of the writes that fly, as one more begins.
use Rattle.std.proofs.Common.{◌≡◌, ℕ, ◌-◌, ◌<◌, ◌≤◌, List, [], ◌∷◌, ◌++◌, Some, None, Option, refl, true, false, Bool, ◌||◌, cond, sym, ap, ◌∙◌, subst, arith, inl, inr, min, max}
use Rattle.std.specs.Prelude.{is_some}
use Rattle.std.specs.List.{list_any, filter, cons_option}
use Rattle.std.specs.Ordering.{eq_by_cmp}
use Rattle.std.specs.FinMap.Entries.{find}
use Rattle.std.proofs.lemmas.Cmp.{nat_list_cmp_total, eq_by_cmp_equiv}
use Rattle.std.proofs.lemmas.Bool.{cases_Bool, or_parts, eq-eqb, ne_eqb}
use Rattle.std.proofs.lemmas.List.{append-nil}
use Rattle.kt_history.specs.declared.change.Change.{Change}
use Rattle.kt_history.specs.declared.operation.RowOp.{RowOp}
use Rattle.kt_history.specs.Rows.{Row, Rows, Changes, key_cmp}
use Rattle.kt_history.specs.History.{Past, IsUpTo, rows_at, with_write}
use Rattle.kt_history.specs.Operations.{effect_on, changes_on, share_key, keyed, DifferentKeys}
use Rattle.kt_history.specs.Machine.{Flying, least, clean_below}
use Rattle.kt_history.proofs.RowLaws.{rows_at-with_write_below}
use Rattle.kt_histlaws.specs.Histories.{joined, timeline, or_else}
use Rattle.kt_history.specs.Stores.{Steps, step_at}
use Rattle.kt_histlaws.specs.Pending.{has_key}
use Rattle.kt_histlaws.specs.Flights.{UpTo, OpFlies, AllOps, AllFly, SharesNone, AreDisjoint}
use Rattle.kt_histlaws.proofs.OneKey.{step_at-append}
use Rattle.kt_histlaws.proofs.Pending.{same_key, itself, timeline-append, timeline-up_to, Covers}

-- the changes of a write are of its keys

none_of : (b : Bool) → b ≡ false → b ≡ true → ⊥
none_of true e f = cc
none_of false e f = cc

pub covers_changes : (fill : Row) (rows : Rows) (ops : List RowOp) → Covers (changes_on fill rows ops) ops
covers_changes fill rows [] q h = cc
covers_changes fill rows (op ∷ ops) q h = one (effect_on fill rows op).0 (λ g. covers_changes fill rows ops q g) h
  where
    both : (b : Bool) (rest : Option Change) (c : Change) → (is_some rest ≡ true → has_key q ops ≡ true) → is_some (cond b (Some c) rest) ≡ true → (b || has_key q ops) ≡ true
    both true rest c f g = refl
    both false rest c f g = f g

    later : (b : Bool) → has_key q ops ≡ true → (b || has_key q ops) ≡ true
    later true g = refl
    later false g = g

    one : (o : Option Change) → (is_some (find key_cmp q (changes_on fill rows ops)) ≡ true → has_key q ops ≡ true)
        → is_some (find key_cmp q (cons_option (keyed op.key o) (changes_on fill rows ops))) ≡ true → (eq_by_cmp key_cmp q op.key || has_key q ops) ≡ true
    one None f g = later (eq_by_cmp key_cmp q op.key) (f g)
    one (Some c) f g = both (eq_by_cmp key_cmp q op.key) (find key_cmp q (changes_on fill rows ops)) c f g

not_some : (o : Option Change) (b : Bool) → b ≡ false → (is_some o ≡ true → b ≡ true) → o ≡ None
not_some None b e f = refl
not_some (Some c) b e f = absurd (none_of b e (f refl))

pub find-none : (fill : Row) (rows : Rows) (ops : List RowOp) (q : List ℕ) → has_key q ops ≡ false → find key_cmp q (changes_on fill rows ops) ≡ None
find-none fill rows ops q h = not_some (find key_cmp q (changes_on fill rows ops)) (has_key q ops) h (covers_changes fill rows ops q)

-- the change of each operation stands under its key
pub each_op : (fill : Row) (rows : Rows) (ops : List RowOp) (changes : Changes) → DifferentKeys ops
    → ((q : List ℕ) → has_key q ops ≡ true → find key_cmp q changes ≡ find key_cmp q (changes_on fill rows ops))
    → AllOps (λ op. find key_cmp op.key changes ≡ (effect_on fill rows op).0) ops
each_op fill rows [] changes d h = tt
each_op fill rows (op ∷ ops) changes d h = (
  h op.key (ap (λ b. b || has_key op.key ops) (itself op.key)) ∙ here (effect_on fill rows op).0,
  each_op fill rows ops changes d.1 (λ q g. h q (later (eq_by_cmp key_cmp q op.key) g) ∙ there q g (effect_on fill rows op).0),
)
  where
    later : (b : Bool) {x : Bool} → x ≡ true → (b || x) ≡ true
    later true g = refl
    later false g = g

    here : (o : Option Change) → find key_cmp op.key (cons_option (keyed op.key o) (changes_on fill rows ops)) ≡ o
    here None = find-none fill rows ops op.key d.0
    here (Some c) = ap (λ b. cond b (Some c) (find key_cmp op.key (changes_on fill rows ops))) (itself op.key)

    there : (q : List ℕ) → has_key q ops ≡ true → (o : Option Change) → find key_cmp q (cons_option (keyed op.key o) (changes_on fill rows ops)) ≡ find key_cmp q (changes_on fill rows ops)
    there q g None = refl
    there q g (Some c) = elim (cases_Bool (eq_by_cmp key_cmp q op.key)) [
      | inl tied ↦ absurd (none_of (has_key op.key ops) d.0 (subst (λ k. has_key k ops ≡ true) (same_key q op.key tied) g))
      | inr other ↦ ap (λ b. cond b (Some c) (find key_cmp q (changes_on fill rows ops))) other
    ]

-- a write that shares no key shows nothing of it
turned : (k q : List ℕ) → eq_by_cmp key_cmp k q ≡ false → eq_by_cmp key_cmp q k ≡ false
turned k q h = (eq_by_cmp_equiv nat_list_cmp_total).symm q k ∙ h

-- no key of others is one of ops
pub shares_none : (ops others : List RowOp) → share_key ops others ≡ false → AllOps (λ other. has_key other.key ops ≡ false) others
shares_none ops [] h = tt
shares_none ops (o ∷ others) h = (first ops h, shares_none ops others (rest ops h))
  where
    first : (ops : List RowOp) → share_key ops (o ∷ others) ≡ false → has_key o.key ops ≡ false
    first [] g = refl
    first (op ∷ ops) g =
        let p = or_parts _ _ g in
        let e = or_parts _ _ p.0 in
        ap (λ b. b || has_key o.key ops) (turned op.key o.key e.0) ∙ first ops p.1

    rest : (ops : List RowOp) → share_key ops (o ∷ others) ≡ false → share_key ops others ≡ false
    rest [] g = refl
    rest (op ∷ ops) g =
        let p = or_parts _ _ g in
        let e = or_parts _ _ p.0 in
        ap (λ b. b || share_key ops others) e.1 ∙ rest ops p.1

share_from : (ops others : List RowOp) → AllOps (λ other. has_key other.key ops ≡ false) others → share_key others ops ≡ false
share_from ops [] h = refl
share_from ops (o ∷ others) h = ap (λ b. b || share_key others ops) h.0 ∙ share_from ops others h.1

pub share_symm : (ops others : List RowOp) → share_key ops others ≡ false → share_key others ops ≡ false
share_symm ops others h = share_from ops others (shares_none ops others h)

pub timeline-with_write : (q : List ℕ) (past : Past) (ts : ℕ) (changes : Changes) → timeline q (with_write past ts changes).writes ≡ timeline q past.writes ++ joined ts (find key_cmp q changes) []
timeline-with_write q past ts [] = sym (append-nil (timeline q past.writes))
timeline-with_write q past ts (c ∷ changes) = timeline-append q past.writes (record { ts = ts; changes = c ∷ changes })

none_above : (c ts : ℕ) (steps : Steps) → UpTo c steps → c < ts → step_at ts steps ≡ None
none_above c ts [] up lt = refl
none_above c ts (x ∷ steps) up lt = rw (ne_eqb x.0 ts (λ e. omega (arith, up.0))) (none_above c ts steps up.1 lt)

at_joined : (ts : ℕ) (o : Option Change) → step_at ts (joined ts o []) ≡ o
at_joined ts None = refl
at_joined ts (Some c) = ap (λ b. cond b (Some c) None) (eq-eqb ts ts refl)

up_to_joined : (c ts : ℕ) (o : Option Change) (steps : Steps) → UpTo c steps → c < ts → UpTo ts (steps ++ joined ts o [])
up_to_joined c ts None [] up lt = tt
up_to_joined c ts (Some x) [] up lt = (omega arith, tt)
up_to_joined c ts o (x ∷ steps) up lt = (omega (arith, up.0), up_to_joined c ts o steps up.1 lt)

-- an operation that flies still does once another write has begun
op_stays : (fill : Row) (past : Past) (rows : Rows) (at c ts : ℕ) (ops : List RowOp) (op : RowOp) → OpFlies fill past at op → at ≤ c → c < ts → has_key op.key ops ≡ false
    → OpFlies fill (with_write past ts (changes_on fill rows ops)) at op
op_stays fill past rows at c ts ops op o le lt apart = record {
  change = ap (step_at at) same ∙ o.change ∙ ap (λ r. (effect_on fill r op).0) (sym (rows_at-with_write_below past ts (changes_on fill rows ops) (at - 1) (omega arith)));
  last = subst (UpTo at) (sym same) o.last;
}
  where
    same : timeline op.key (with_write past ts (changes_on fill rows ops)).writes ≡ timeline op.key past.writes
    same = timeline-with_write op.key past ts (changes_on fill rows ops) ∙ ap (λ x. timeline op.key past.writes ++ joined ts x []) (find-none fill rows ops op.key apart) ∙ append-nil (timeline op.key past.writes)

-- an operation of the write that begins
op_begins : (fill : Row) (past : Past) (c ts : ℕ) (changes : Changes) (op : RowOp) → IsUpTo c past.writes → c < ts → find key_cmp op.key changes ≡ (effect_on fill (rows_at past (ts - 1)) op).0
    → OpFlies fill (with_write past ts changes) ts op
op_begins fill past c ts changes op up lt is = record {
  change = ap (step_at ts) (timeline-with_write op.key past ts changes) ∙ step_at-append ts (timeline op.key past.writes) (joined ts (find key_cmp op.key changes) [])
      ∙ ap (λ o. or_else o (step_at ts (joined ts (find key_cmp op.key changes) []))) (none_above c ts (timeline op.key past.writes) (timeline-up_to op.key c past.writes up) lt)
      ∙ at_joined ts (find key_cmp op.key changes) ∙ is
      ∙ ap (λ r. (effect_on fill r op).0) (sym (rows_at-with_write_below past ts changes (ts - 1) (omega arith)));
  last = subst (UpTo ts) (sym (timeline-with_write op.key past ts changes)) (up_to_joined c ts (find key_cmp op.key changes) (timeline op.key past.writes) (timeline-up_to op.key c past.writes up) lt);
}

ops_stay : (fill : Row) (past : Past) (rows : Rows) (at c ts : ℕ) (ops others : List RowOp) → AllOps (OpFlies fill past at) others → at ≤ c → c < ts → AllOps (λ other. has_key other.key ops ≡ false) others
    → AllOps (OpFlies fill (with_write past ts (changes_on fill rows ops)) at) others
ops_stay fill past rows at c ts ops [] h le lt apart = tt
ops_stay fill past rows at c ts ops (o ∷ others) h le lt apart = (op_stays fill past rows at c ts ops o h.0 le lt apart.0, ops_stay fill past rows at c ts ops others h.1 le lt apart.1)

ops_begin : (fill : Row) (past : Past) (c ts : ℕ) (changes : Changes) (ops : List RowOp) → IsUpTo c past.writes → c < ts → AllOps (λ op. find key_cmp op.key changes ≡ (effect_on fill (rows_at past (ts - 1)) op).0) ops
    → AllOps (OpFlies fill (with_write past ts changes) ts) ops
ops_begin fill past c ts changes [] up lt h = tt
ops_begin fill past c ts changes (op ∷ ops) up lt h = (op_begins fill past c ts changes op up lt h.0, ops_begin fill past c ts changes ops up lt h.1)

all_stay : (fill : Row) (past : Past) (rows : Rows) (a c ts : ℕ) (ops : List RowOp) (flying : List Flying) → AllFly fill past a c flying → c < ts → SharesNone ops flying
    → AllFly fill (with_write past ts (changes_on fill rows ops)) a ts flying
all_stay fill past rows a c ts ops [] h lt none = tt
all_stay fill past rows a c ts ops (w ∷ flying) h lt none =
    (h.0, omega (arith, h.1), h.2, ops_stay fill past rows w.ts c ts ops w.ops h.3 h.1 lt (shares_none ops w.ops none.0), all_stay fill past rows a c ts ops flying h.4 lt none.1)

all_push : (fill : Row) (past : Past) (a c : ℕ) (w : Flying) (flying : List Flying) → AllFly fill past a c flying → AllFly fill past a c (w ∷ []) → AllFly fill past a c (flying ++ w ∷ [])
all_push fill past a c w [] h new = new
all_push fill past a c w (v ∷ flying) h new = (h.0, h.1, h.2, h.3, all_push fill past a c w flying h.4 new)

-- the writes that fly, and the new one
pub fly_begun : (fill : Row) (past : Past) (a c s i ts : ℕ) (ops : List RowOp) (flying : List Flying) → AllFly fill past a c flying → IsUpTo c past.writes → a < ts → c < ts → SharesNone ops flying → DifferentKeys ops
    → AllFly fill (with_write past ts (changes_on fill (rows_at past (ts - 1)) ops)) a ts (flying ++ record { s = s; i = i; ts = ts; ops = ops } ∷ [])
fly_begun fill past a c s i ts ops flying h up above lt none differ =
    all_push fill _ a ts (record { s = s; i = i; ts = ts; ops = ops }) flying (all_stay fill past (rows_at past (ts - 1)) a c ts ops flying h lt none)
    (above, omega arith, differ, ops_begin fill past c ts (changes_on fill (rows_at past (ts - 1)) ops) ops up lt (each_op fill (rows_at past (ts - 1)) ops (changes_on fill (rows_at past (ts - 1)) ops) differ (λ q g. refl)), tt)

pub none_shared : (ops : List RowOp) (flying : List Flying) → list_any (λ w. share_key ops w.ops) flying ≡ false → SharesNone ops flying
none_shared ops [] h = tt
none_shared ops (w ∷ flying) h = let p = or_parts (share_key ops w.ops) (list_any (λ v. share_key ops v.ops) flying) h in (p.0, none_shared ops flying p.1)

shares_push : (ops : List RowOp) (w : Flying) (flying : List Flying) → SharesNone ops flying → share_key ops w.ops ≡ false → SharesNone ops (flying ++ w ∷ [])
shares_push ops w [] h new = (new, tt)
shares_push ops w (v ∷ flying) h new = (h.0, shares_push ops w flying h.1 new)

pub disjoint_push : (w : Flying) (flying : List Flying) → AreDisjoint flying → SharesNone w.ops flying → AreDisjoint (flying ++ w ∷ [])
disjoint_push w [] d none = (tt, tt)
disjoint_push w (v ∷ flying) d none = (shares_push v.ops w flying d.0 (share_symm w.ops v.ops none.0), disjoint_push w flying d.1 none.1)

-- a write that ends
pub fly_filter : (fill : Row) (past : Past) (a c : ℕ) (p : Flying → Bool) (flying : List Flying) → AllFly fill past a c flying → AllFly fill past a c (filter p flying)
fly_filter fill past a c p [] h = tt
fly_filter fill past a c p (w ∷ flying) h = elim (p w) as (λ b. AllFly fill past a c (cond b (w ∷ filter p flying) (filter p flying))) [
  | true ↦ (h.0, h.1, h.2, h.3, fly_filter fill past a c p flying h.4)
  | false ↦ fly_filter fill past a c p flying h.4
]

none_filter : (ops : List RowOp) (p : Flying → Bool) (flying : List Flying) → SharesNone ops flying → SharesNone ops (filter p flying)
none_filter ops p [] h = tt
none_filter ops p (w ∷ flying) h = elim (p w) as (λ b. SharesNone ops (cond b (w ∷ filter p flying) (filter p flying))) [
  | true ↦ (h.0, none_filter ops p flying h.1)
  | false ↦ none_filter ops p flying h.1
]

pub disjoint_filter : (p : Flying → Bool) (flying : List Flying) → AreDisjoint flying → AreDisjoint (filter p flying)
disjoint_filter p [] h = tt
disjoint_filter p (w ∷ flying) h = elim (p w) as (λ b. AreDisjoint (cond b (w ∷ filter p flying) (filter p flying))) [
  | true ↦ (none_filter w.ops p flying h.0, disjoint_filter p flying h.1)
  | false ↦ disjoint_filter p flying h.1
]

-- c and the mark go on
pub fly_later : (fill : Row) (past : Past) (a c d : ℕ) (flying : List Flying) → c ≤ d → AllFly fill past a c flying → AllFly fill past a d flying
fly_later fill past a c d [] le h = tt
fly_later fill past a c d (w ∷ flying) le h = (h.0, omega (arith, h.1), h.2, h.3, fly_later fill past a c d flying le h.4)

-- a later mark is below each write that flies
abbrev pub AllAfter : ℕ → List Flying → Type 0
AllAfter x [] = Unit {0}
AllAfter x (w ∷ flying) = (x < w.ts) × AllAfter x flying

after_lower : (x y : ℕ) (flying : List Flying) → x ≤ y → AllAfter y flying → AllAfter x flying
after_lower x y [] le h = tt
after_lower x y (w ∷ flying) le h = (omega (arith, h.0), after_lower x y flying le h.1)

none_flying : (x : ℕ) (flying : List Flying) → least flying ≡ None → AllAfter x flying
none_flying x [] h = tt
none_flying x (w ∷ flying) h = cc

-- the least of a list, by the least of its rest
least_alone : (w : Flying) (flying : List Flying) → least flying ≡ None → least (w ∷ flying) ≡ Some w.ts
least_alone w flying e = rw e refl

least_of : (w : Flying) (flying : List Flying) (m : ℕ) → least flying ≡ Some m → least (w ∷ flying) ≡ Some (min m w.ts)
least_of w flying m e = rw e refl

the_number : (x y : ℕ) → Some x ≡ Some y → x ≡ y
the_number x y k = cc

below_least : (a c f : ℕ) (fill : Row) (past : Past) (flying : List Flying) → AllFly fill past a c flying → least flying ≡ Some f → AllAfter (f - 1) flying
below_least a c f fill past [] h e = cc
below_least a c f fill past (w ∷ flying) h e = one (least flying) refl (λ m k. below_least a c m fill past flying h.4 k)
  where
    one : (o : Option ℕ) → least flying ≡ o → ((m : ℕ) → least flying ≡ Some m → AllAfter (m - 1) flying) → (f - 1 < w.ts) × AllAfter (f - 1) flying
    one None k rest = let l = the_number w.ts f (sym (least_alone w flying k) ∙ e) in (omega (arith, l, h.0), none_flying (f - 1) flying k)
    one (Some m) k rest = let l = the_number (min m w.ts) f (sym (least_of w flying m k) ∙ e) in (omega (arith, l, h.0), after_lower (f - 1) (m - 1) flying (omega (arith, l)) (rest m k))

pub below_clean : (a c : ℕ) (fill : Row) (past : Past) (flying : List Flying) (x : ℕ) → AllFly fill past a c flying → x ≤ clean_below (least flying) c → AllAfter x flying
below_clean a c fill past flying x h le = one (least flying) refl le
  where
    one : (o : Option ℕ) → least flying ≡ o → x ≤ clean_below o c → AllAfter x flying
    one None k l = none_flying x flying k
    one (Some f) k l = after_lower x (f - 1) flying l (below_least a c f fill past flying h k)

pub clean_le : (a c : ℕ) (fill : Row) (past : Past) (flying : List Flying) → AllFly fill past a c flying → clean_below (least flying) c ≤ c
clean_le a c fill past [] h = omega arith
clean_le a c fill past (w ∷ flying) h = one (least flying) refl
  where
    one : (o : Option ℕ) → least flying ≡ o → clean_below (least (w ∷ flying)) c ≤ c
    one None k = subst (λ o. clean_below o c ≤ c) (sym (least_alone w flying k)) (omega (arith, h.1))
    one (Some m) k = subst (λ o. clean_below o c ≤ c) (sym (least_of w flying m k)) (omega (arith, h.1))

pub fly_marked : (fill : Row) (past : Past) (a b c : ℕ) (flying : List Flying) → AllFly fill past a c flying → AllAfter b flying → AllFly fill past (max a b) c flying
fly_marked fill past a b c [] h after = tt
fly_marked fill past a b c (w ∷ flying) h after = (omega (arith, h.0, after.0), h.1, h.2, h.3, fly_marked fill past a b c flying h.4 after.1)
