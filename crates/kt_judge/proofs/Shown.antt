-- The rows of each time, as changes are put.
use Rattle.std.proofs.Common.{◌≡◌, ℕ, ◌+◌, ◌-◌, ◌<◌, List, [], ◌∷◌, ◌++◌, Some, None, Option, refl, true, false, Bool, ◌&&◌, cond, sym, ap, ◌∙◌, subst, arith, length, take, get_or}
use Rattle.std.specs.Prelude.{nat_le, is_some}
use Rattle.std.specs.List.{cons_option}
use Rattle.std.specs.Ordering.{eq_by_cmp}
use Rattle.std.specs.FinMap.Entries.{find}
use Rattle.std.proofs.lemmas.Bool.Decides.{nat_tests}
use Rattle.std.proofs.lemmas.List.{take_more}
use Rattle.kt_history.specs.declared.change.Change.{Change}
use Rattle.kt_history.specs.declared.operation.RowOp.{RowOp}
use Rattle.kt_history.specs.Rows.{Row, Rows, Changes, apply, set_row, changed, key_cmp}
use Rattle.kt_history.specs.Operations.{effect, effect_on, keyed, changes_on}
use Rattle.kt_history.proofs.KeyLaws.{find-set_row}
use Rattle.kt_judge.specs.Tables.{Entries, row_of, IsPut, Shows, with_changes}

and_true : (b : Bool) → (b && true) ≡ b
and_true true = refl
and_true false = refl

and_false : (b : Bool) → (b && false) ≡ false
and_false true = refl
and_false false = refl

-- one change more
pub shows_put : (ts : ℕ) (change : Change) (k : List ℕ) (es new : Entries) (rows : ℕ → Rows) → IsPut ts change k es new → Shows es rows → Shows new (with_changes ts ((k, change) ∷ []) rows)
shows_put ts change k es new rows put shows q t =
    put.rows q t
    ∙ elim (nat_le ts t) as (λ b. cond (eq_by_cmp key_cmp q k && b) (apply change (row_of es k t)) (row_of es q t) ≡ find key_cmp q (cond b (set_row k (apply change (find key_cmp k (rows t))) (rows t)) (rows t))) [
      | true ↦ ap (λ b. cond b (apply change (row_of es k t)) (row_of es q t)) (and_true (eq_by_cmp key_cmp q k))
          ∙ ap (λ r. cond (eq_by_cmp key_cmp q k) (apply change r) (row_of es q t)) (shows k t)
          ∙ ap (λ r. cond (eq_by_cmp key_cmp q k) (apply change (find key_cmp k (rows t))) r) (shows q t)
          ∙ sym (find-set_row q k (apply change (find key_cmp k (rows t))) (rows t))
      | false ↦ ap (λ b. cond b (apply change (row_of es k t)) (row_of es q t)) (and_false (eq_by_cmp key_cmp q k)) ∙ shows q t
    ]

pub shows_same : (es : Entries) (rows others : ℕ → Rows) → ((t : ℕ) → rows t ≡ others t) → Shows es rows → Shows es others
shows_same es rows others same shows q t = shows q t ∙ ap (find key_cmp q) (same t)

changed-append : (cs ds : Changes) (rows : Rows) → changed (cs ++ ds) rows ≡ changed ds (changed cs rows)
changed-append [] ds rows = refl
changed-append (c ∷ cs) ds rows = changed-append cs ds (set_row c.0 (apply c.1 (find key_cmp c.0 rows)) rows)

pub changes-append : (ts : ℕ) (cs ds : Changes) (rows : ℕ → Rows) (t : ℕ) → with_changes ts ds (with_changes ts cs rows) t ≡ with_changes ts (cs ++ ds) rows t
changes-append ts cs ds rows t = elim (nat_le ts t) as (λ b. cond b (changed ds (cond b (changed cs (rows t)) (rows t))) (cond b (changed cs (rows t)) (rows t)) ≡ cond b (changed (cs ++ ds) (rows t)) (rows t)) [
  | true ↦ sym (changed-append cs ds (rows t))
  | false ↦ refl
]

-- no change, or those before and one more
pub shows_none : (ts : ℕ) (es : Entries) (rows : ℕ → Rows) → Shows es rows → Shows es (with_changes ts [] rows)
shows_none ts es rows shows = shows_same es rows (with_changes ts [] rows) (λ t. elim (nat_le ts t) as (λ b. rows t ≡ cond b (rows t) (rows t)) [ true ↦ refl | false ↦ refl ]) shows

pub shows_more : (ts : ℕ) (es new : Entries) (changes : Changes) (k : ℕ) (c d : List ℕ × Change) (key : List ℕ) (rows : ℕ → Rows) → k < length changes → c ≡ get_or changes k d → key ≡ c.0 → IsPut ts c.1 key es new
    → Shows es (with_changes ts (take k changes) rows) → Shows new (with_changes ts (take (k + 1) changes) rows)
shows_more ts es new changes k c d key rows below is same put shows =
    let one = shows_put ts c.1 c.0 es new (with_changes ts (take k changes) rows) (subst (λ (q : List ℕ). IsPut ts c.1 q es new) same put) shows in
    subst (λ (cs : Changes). Shows new (with_changes ts cs rows)) (ap (λ (x : List ℕ × Change). take k changes ++ x ∷ []) is ∙ sym (take_more changes k d below))
    (shows_same new (with_changes ts (c ∷ []) (with_changes ts (take k changes) rows)) (with_changes ts (take k changes ++ c ∷ []) rows) (changes-append ts (take k changes) (c ∷ []) rows) one)

not_le_before : (ts : ℕ) → 0 < ts → nat_le ts (ts - 1) ≡ false
not_le_before ts h = grind (arith, nat_tests)

-- just before their timestamp changes do nothing
pub before : (ts : ℕ) (changes : Changes) (rows : ℕ → Rows) → 0 < ts → with_changes ts changes rows (ts - 1) ≡ rows (ts - 1)
before ts changes rows some = ap (λ b. cond b (changed changes (rows (ts - 1))) (rows (ts - 1))) (not_le_before ts some)

changes_on-append : (fill : Row) (rows : Rows) (ops more : List RowOp) → changes_on fill rows (ops ++ more) ≡ changes_on fill rows ops ++ changes_on fill rows more
changes_on-append fill rows [] more = refl
changes_on-append fill rows (op ∷ ops) more = elim (effect_on fill rows op).0 as (λ o. cons_option (keyed op.key o) (changes_on fill rows (ops ++ more)) ≡ cons_option (keyed op.key o) (changes_on fill rows ops) ++ changes_on fill rows more) [
  | None ↦ changes_on-append fill rows ops more
  | Some change ↦ ap (λ cs. (op.key, change) ∷ cs) (changes_on-append fill rows ops more)
]

-- one operation more
pub shows_more_ops : (fill : Row) (ts : ℕ) (es new : Entries) (ops : List RowOp) (k : ℕ) (op d : RowOp) (rows : ℕ → Rows) → 0 < ts → k < length ops → op ≡ get_or ops k d
    → ((others : ℕ → Rows) → Shows es others → Shows new (with_changes ts (changes_on fill (others (ts - 1)) (op ∷ [])) others))
    → Shows es (with_changes ts (changes_on fill (rows (ts - 1)) (take k ops)) rows) → Shows new (with_changes ts (changes_on fill (rows (ts - 1)) (take (k + 1) ops)) rows)
shows_more_ops fill ts es new ops k op d rows some below is step shows =
    let done : Changes = changes_on fill (rows (ts - 1)) (take k ops) in
    let one = step (with_changes ts done rows) shows in
    let same = subst (λ (before : Rows). Shows new (with_changes ts (changes_on fill before (op ∷ [])) (with_changes ts done rows))) (before ts done rows some) one in
    let both = shows_same new (with_changes ts (changes_on fill (rows (ts - 1)) (op ∷ [])) (with_changes ts done rows)) (with_changes ts (done ++ changes_on fill (rows (ts - 1)) (op ∷ [])) rows) (changes-append ts done (changes_on fill (rows (ts - 1)) (op ∷ [])) rows) same in
    subst (λ (cs : Changes). Shows new (with_changes ts cs rows))
    (sym (changes_on-append fill (rows (ts - 1)) (take k ops) (op ∷ [])) ∙ ap (changes_on fill (rows (ts - 1))) (ap (λ (x : RowOp). take k ops ++ x ∷ []) is ∙ sym (take_more ops k d below)))
    both

-- the change of one operation, or none
pub shows_op : (fill : Row) (ts : ℕ) (op : RowOp) (es new : Entries) (change : Change) → ((row : Option Row) → is_some row ≡ is_some (row_of es op.key (ts - 1)) → Some change ≡ (effect fill op.kind op.cells row).0) → IsPut ts change op.key es new
    → (rows : ℕ → Rows) → Shows es rows → Shows new (with_changes ts (changes_on fill (rows (ts - 1)) (op ∷ [])) rows)
shows_op fill ts op es new change is put rows shows =
    let made = is (find key_cmp op.key (rows (ts - 1))) (ap is_some (sym (shows op.key (ts - 1)))) in
    subst (λ o. Shows new (with_changes ts (cons_option (keyed op.key o) []) rows)) made (shows_put ts change op.key es new rows put shows)

pub shows_no_op : (fill : Row) (ts : ℕ) (op : RowOp) (es : Entries) → ((row : Option Row) → is_some row ≡ is_some (row_of es op.key (ts - 1)) → None ≡ (effect fill op.kind op.cells row).0)
    → (rows : ℕ → Rows) → Shows es rows → Shows es (with_changes ts (changes_on fill (rows (ts - 1)) (op ∷ [])) rows)
shows_no_op fill ts op es is rows shows =
    let made = is (find key_cmp op.key (rows (ts - 1))) (ap is_some (sym (shows op.key (ts - 1)))) in
    subst (λ o. Shows es (with_changes ts (cons_option (keyed op.key o) []) rows)) made (shows_none ts es rows shows)
