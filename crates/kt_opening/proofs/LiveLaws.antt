-- Which keys have rows after a change, and the rows after some writes.
use Rattle.std.proofs.Common.{◌≡◌, ℕ, ◌+◌, ◌<◌, Bool, true, false, cond, List, [], ◌∷◌, ◌++◌, length, take, get_or, Option, Some, None, Result, Ok, Err, refl, sym, ap, ◌∙◌, subst, add-one}
use Rattle.std.specs.Prelude.{◌||◌, is_some, if◌then◌else◌, OnOk}
use Rattle.std.specs.List.{list_any}
use Rattle.std.specs.Ordering.{is_eq, eq_by_cmp}
use Rattle.std.specs.declared.cmp.Ordering.TheVariants.{Equal}
use Rattle.std.specs.BTreeSet.{BTreeSet, UpdatesBy}
use Rattle.std.specs.Map.{IsKeyTest, AreApart}
use Rattle.std.specs.Set.{KeepsOthers}
use Rattle.std.specs.FinMap.Entries.{find, find_tied}
use Rattle.std.proofs.Math.Seq.{take-suc}
use Rattle.std.proofs.lemmas.Cmp.{nat_list_cmp_total, alike_right, eq_by_cmp_equiv}
use Rattle.kt_history.specs.declared.change.Change.{Change}
use Rattle.kt_history.specs.declared.change.Change.TheVariants.{Ins, Upd, Del}
use Rattle.kt_history.specs.Rows.{Row, Rows, Changes, fits, apply, set_row, changed, key_cmp}
use Rattle.kt_history.specs.History.{PastWrite}
use Rattle.kt_history.proofs.KeyLaws.{find-set_row}
use Rattle.kt_opening.specs.declared.live.Live.{Live}
use Rattle.kt_opening.specs.OpeningTexts.{written, fitting}
use Rattle.kt_opening.specs.Live.{has, IsLive}
use Rattle.kt_opening.proofs.Rising.{equal}

-- ---- a set of keys, by their bytes

module _ {K : Type 0} (eq : K → K → Bool) (test : K → Bool) where
  others_stay : (old new : List K) → KeepsOthers eq test old new → (other : K → Bool) → IsKeyTest eq other → AreApart test other → list_any other new ≡ list_any other old
  unfolding KeepsOthers
  others_stay old new h = h

module _ {K : Type 0} (bytes : K → List ℕ) where
  abbrev pub among : List ℕ → BTreeSet K → Bool
  among key s = list_any (λ k. is_eq (key_cmp key (bytes k))) s.keys

  -- equal keys are among the same
  same_among : (p q : List ℕ) → key_cmp p q ≡ Equal → (ks : List K) → list_any (λ k. is_eq (key_cmp p (bytes k))) ks ≡ list_any (λ k. is_eq (key_cmp q (bytes k))) ks
  same_among p q tied [] = refl
  same_among p q tied (k ∷ ks) =
      ap (λ o. is_eq o || list_any (λ k. is_eq (key_cmp p (bytes k))) ks) (nat_list_cmp_total.congr p q (bytes k) tied)
      ∙ ap (λ b. is_eq (key_cmp q (bytes k)) || b) (same_among p q tied ks)

  -- once a key is put in or taken out, the others are as before
  pub among_after : (k : List ℕ) (b : Bool) (s n : BTreeSet K) → UpdatesBy (λ x y. key_cmp (bytes x) (bytes y)) (λ x. key_cmp k (bytes x)) s n b
      → (q : List ℕ) → among q n ≡ cond (eq_by_cmp key_cmp q k) b (among q s)
  among_after k b s n h q = by (eq_by_cmp key_cmp q k) refl
    where
      by : (t : Bool) → eq_by_cmp key_cmp q k ≡ t → among q n ≡ cond t b (among q s)
      by true same = same_among q k (equal _ same) n.keys ∙ h.1
      by false differs =
          others_stay (λ x y. is_eq (key_cmp (bytes x) (bytes y))) (λ x. is_eq (key_cmp k (bytes x))) s.keys n.keys h.3 (λ x. is_eq (key_cmp q (bytes x)))
          (λ x y. (eq_by_cmp_equiv nat_list_cmp_total).congr q (bytes x) (bytes y))
          (λ x tied. ap is_eq (sym (alike_right nat_list_cmp_total k (bytes x) q (equal _ tied))) ∙ differs)

-- ---- one change

module _ (k : List ℕ) (rows : Rows) (old new : Live) (live : IsLive old rows) where
  chosen : (t : Bool) (o p : Option Row) → cond t (is_some o) (is_some p) ≡ is_some (cond t o p)
  chosen true o p = refl
  chosen false o p = refl

  -- a key that is put in or taken out has a row or none
  pub live_set : (o : Option Row) (b : Bool) → b ≡ is_some o → ((q : List ℕ) → has new q ≡ cond (eq_by_cmp key_cmp q k) b (has old q)) → IsLive new (set_row k o rows)
  live_set o b is h q =
      h q ∙ ap (λ t. cond (eq_by_cmp key_cmp q k) t (has old q)) is ∙ ap (λ t. cond (eq_by_cmp key_cmp q k) (is_some o) t) (live q)
      ∙ chosen (eq_by_cmp key_cmp q k) o (find key_cmp q rows) ∙ ap is_some (sym (find-set_row q k o rows))

-- after an insertion there is a row
pub some_inserted : (row : Row) (old : Option Row) → true ≡ is_some (apply (Ins row) old)
some_inserted row None = refl
some_inserted row (Some old) = refl

as_before : (cells : Row) (old : Option Row) → is_some old ≡ is_some (apply (Upd cells) old)
as_before cells None = refl
as_before cells (Some old) = refl

-- a change of one key
module _ (k : List ℕ) (cells : Row) (change : Change) (rows : Rows) where
  pub live_inserted : (old new : Live) → change ≡ Ins cells → ((q : List ℕ) → has new q ≡ cond (eq_by_cmp key_cmp q k) true (has old q)) → IsLive old rows → IsLive new (set_row k (apply change (find key_cmp k rows)) rows)
  live_inserted old new is h live =
      subst (λ (ch : Change). IsLive new (set_row k (apply ch (find key_cmp k rows)) rows)) (sym is) (live_set k rows old new live (apply (Ins cells) (find key_cmp k rows)) true (some_inserted cells (find key_cmp k rows)) h)

  pub live_deleted : (old new : Live) → change ≡ Del → ((q : List ℕ) → has new q ≡ cond (eq_by_cmp key_cmp q k) false (has old q)) → IsLive old rows → IsLive new (set_row k (apply change (find key_cmp k rows)) rows)
  live_deleted old new is h live = subst (λ (ch : Change). IsLive new (set_row k (apply ch (find key_cmp k rows)) rows)) (sym is) (live_set k rows old new live None false refl h)

  -- an update leaves which keys have rows
  pub live_updated : (live : Live) → change ≡ Upd cells → IsLive live rows → IsLive live (set_row k (apply change (find key_cmp k rows)) rows)
  live_updated live is h = subst (λ (ch : Change). IsLive live (set_row k (apply ch (find key_cmp k rows)) rows)) (sym is) kept
    where
      by : (q : List ℕ) (t : Bool) → eq_by_cmp key_cmp q k ≡ t → is_some (find key_cmp q rows) ≡ is_some (cond t (apply (Upd cells) (find key_cmp k rows)) (find key_cmp q rows))
      by q true same = ap is_some (sym (find_tied key_cmp nat_list_cmp_total q k (equal _ same) rows)) ∙ as_before cells (find key_cmp k rows)
      by q false differs = refl

      kept : IsLive live (set_row k (apply (Upd cells) (find key_cmp k rows)) rows)
      kept q = h q ∙ by q (eq_by_cmp key_cmp q k) refl ∙ ap is_some (sym (find-set_row q k (apply (Upd cells) (find key_cmp k rows)) rows))

-- what comes with an answer that is Ok
pub on_ok : {T E : Type 0} (r : Result T E) (P Q : Type 0) → (P → Q) → OnOk r P → OnOk r Q
on_ok (Ok x) P Q f h = f h
on_ok (Err e) P Q f h = h

-- ---- whether a change fits

pub fitting_none : (rows : Rows) (change : Option (List ℕ × Change)) → change ≡ None → None ≡ fitting rows change
fitting_none rows change is = ap (fitting rows) (sym is)

module _ (rows : Rows) (change : Option (List ℕ × Change)) (key : List ℕ) (c : Change) (b : Bool) (is : change ≡ Some (key, c)) (test : b ≡ fits c (find key_cmp key rows)) where
  pub fitting_taken : b ≡ true → Some (key, c) ≡ fitting rows change
  fitting_taken holds = ap (λ t. if t then Some (key, c) else None) (sym holds ∙ test) ∙ ap (fitting rows) (sym is)

  pub fitting_not : b ≡ false → None ≡ fitting rows change
  fitting_not holds = ap (λ t. if t then Some (key, c) else None) (sym holds ∙ test) ∙ ap (fitting rows) (sym is)

-- ---- many

changed_then : (xs ys : Changes) (rows : Rows) → changed (xs ++ ys) rows ≡ changed ys (changed xs rows)
changed_then [] ys rows = refl
changed_then (x ∷ xs) ys rows = changed_then xs ys (set_row x.0 (apply x.1 (find key_cmp x.0 rows)) rows)

-- the rows after one change more
pub changed_more : (cs : Changes) (i : ℕ) (d : List ℕ × Change) (rows : Rows) → i < length cs
    → changed (take (i + 1) cs) rows ≡ set_row (get_or cs i d).0 (apply (get_or cs i d).1 (find key_cmp (get_or cs i d).0 (changed (take i cs) rows))) (changed (take i cs) rows)
changed_more cs i d rows lt = ap (λ n. changed (take n cs) rows) (add-one i) ∙ ap (λ (xs : Changes). changed xs rows) (take-suc cs i d lt) ∙ changed_then (take i cs) (get_or cs i d ∷ []) rows

-- the keys of rows with one more behind them
found_more : (q : List ℕ) (rows : Rows) (e : List ℕ × Row) → is_some (find key_cmp q (rows ++ e ∷ [])) ≡ cond (eq_by_cmp key_cmp q e.0) true (is_some (find key_cmp q rows))
found_more q [] e = by (eq_by_cmp key_cmp q e.0)
  where
    by : (t : Bool) → is_some (cond t (Some e.1) None) ≡ cond t true false
    by true = refl
    by false = refl
found_more q (r ∷ rows) e = by (eq_by_cmp key_cmp q r.0) (found_more q rows e)
  where
    all_true : (t : Bool) → true ≡ cond t true true
    all_true true = refl
    all_true false = refl

    by : (t : Bool) → is_some (find key_cmp q (rows ++ e ∷ [])) ≡ cond (eq_by_cmp key_cmp q e.0) true (is_some (find key_cmp q rows))
        → is_some (cond t (Some r.1) (find key_cmp q (rows ++ e ∷ []))) ≡ cond (eq_by_cmp key_cmp q e.0) true (is_some (cond t (Some r.1) (find key_cmp q rows)))
    by true later = all_true (eq_by_cmp key_cmp q e.0)
    by false later = later

pub live_more : (rows : Rows) (i : ℕ) (d : List ℕ × Row) (old new : Live) → i < length rows → IsLive old (take i rows)
    → ((q : List ℕ) → has new q ≡ cond (eq_by_cmp key_cmp q (get_or rows i d).0) true (has old q)) → IsLive new (take (i + 1) rows)
live_more rows i d old new lt live h q =
    h q ∙ ap (λ t. cond (eq_by_cmp key_cmp q (get_or rows i d).0) true t) (live q) ∙ sym (found_more q (take i rows) (get_or rows i d))
    ∙ ap (λ (xs : Rows). is_some (find key_cmp q xs)) (sym (take-suc rows i d lt)) ∙ ap (λ n. is_some (find key_cmp q (take n rows))) (sym (add-one i))

-- the rows after one write more
pub written_more : (ws : List PastWrite) (w : PastWrite) (rows : Rows) → written (ws ++ w ∷ []) rows ≡ changed w.changes (written ws rows)
written_more [] w rows = refl
written_more (v ∷ ws) w rows = written_more ws w (changed v.changes rows)
