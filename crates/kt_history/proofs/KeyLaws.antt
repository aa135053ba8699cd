-- The row of one key: it depends on the changes of that key alone.
use Rattle.std.proofs.Common.{◌≡◌, ℕ, List, [], ◌∷◌, Some, None, Option, refl, true, false, Bool, cond, sym, ap, ◌∙◌}
use Rattle.std.specs.Prelude.{not, nat_le}
use Rattle.std.specs.Ordering.{is_eq, eq_by_cmp}
use Rattle.std.specs.declared.cmp.Ordering.{Ordering}
use Rattle.std.specs.declared.cmp.Ordering.TheVariants.{Less, Equal, Greater}
use Rattle.std.proofs.lemmas.Cmp.{nat_list_cmp_total, alike_right, eq_by_cmp_equiv}
use Rattle.std.specs.FinMap.Entries.{find, find-put, find-where_key, find_tied}
use Rattle.kt_history.specs.Rows.{Row, Rows, Changes, AreApart, apply, set_row, changed, key_cmp}
use Rattle.kt_history.specs.History.{PastWrite, Rise, replay, replay_row, row_after, each_key_for_itself}

is_equal : (o : Ordering) → is_eq o ≡ true → o ≡ Equal
is_equal Less h = cc
is_equal Equal h = refl
is_equal Greater h = cc

turned : {A : Type 0} (b : Bool) (x y : A) → cond (not b) x y ≡ cond b y x
turned true x y = refl
turned false x y = refl

pub find-set_row : (q k : List ℕ) (o : Option Row) (rows : Rows) → find key_cmp q (set_row k o rows) ≡ cond (eq_by_cmp key_cmp q k) o (find key_cmp q rows)
find-set_row q k (Some row) rows = find-put key_cmp nat_list_cmp_total q k row rows
find-set_row q k None rows =
    find-where_key key_cmp (λ x. not (eq_by_cmp key_cmp k x)) q (λ x h. ap (λ r. not (is_eq r)) (sym (alike_right nat_list_cmp_total q x k h))) rows
    ∙ turned (eq_by_cmp key_cmp k q) (find key_cmp q rows) None
    ∙ ap (λ b. cond b None (find key_cmp q rows)) ((eq_by_cmp_equiv nat_list_cmp_total).symm k q)

pub find-changed : (q : List ℕ) (changes : Changes) (rows : Rows) → AreApart changes → find key_cmp q (changed changes rows) ≡ row_after (find key_cmp q changes) (find key_cmp q rows)
find-changed q [] rows h = refl
find-changed q (c ∷ changes) rows h =
    find-changed q changes (set_row c.0 (apply c.1 (find key_cmp c.0 rows)) rows) h.1
    ∙ ap (row_after (find key_cmp q changes)) (find-set_row q c.0 (apply c.1 (find key_cmp c.0 rows)) rows)
    ∙ elim (eq_by_cmp key_cmp q c.0) as (λ b. eq_by_cmp key_cmp q c.0 ≡ b → row_after (find key_cmp q changes) (cond b (apply c.1 (find key_cmp c.0 rows)) (find key_cmp q rows)) ≡ row_after (cond b (Some c.1) (find key_cmp q changes)) (find key_cmp q rows)) [
      | true ↦ λ same.
          let tied = is_equal _ same in
          let none : find key_cmp q changes ≡ None = sym (find_tied key_cmp nat_list_cmp_total q c.0 tied changes) ∙ h.0 in
          rw none (ap (apply c.1) (find_tied key_cmp nat_list_cmp_total q c.0 tied rows))
      | false ↦ λ _. refl
    ] refl

pub find-replay : (low t : ℕ) (q : List ℕ) (writes : List PastWrite) (rows : Rows) → Rise low writes → find key_cmp q (replay t writes rows) ≡ replay_row t q writes (find key_cmp q rows)
find-replay low t q [] rows h = refl
find-replay low t q (w ∷ writes) rows h =
    find-replay w.ts t q writes (cond (nat_le w.ts t) (changed w.changes rows) rows) h.3
    ∙ ap (replay_row t q writes) (elim (nat_le w.ts t) as (λ b. find key_cmp q (cond b (changed w.changes rows) rows) ≡ cond b (row_after (find key_cmp q w.changes) (find key_cmp q rows)) (find key_cmp q rows)) [
      | true ↦ find-changed q w.changes rows h.2
      | false ↦ refl
    ])

-- the row of a key in the rows at t is its own history up to t
pub find-rows_at : each_key_for_itself
find-rows_at past t q is = find-replay past.mark t q past.writes past.base is.writes
