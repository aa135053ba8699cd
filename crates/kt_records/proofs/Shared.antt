-- Records that share the lists of what they list.
use Rattle.std.proofs.Common.{◌≡◌, ℕ, ◌+◌, ◌-◌, ◌≤◌, List, [], ◌∷◌, ◌++◌, length, map, drop, Err, refl, sym, ap, ◌∙◌, subst, arith, append_assoc, length-append}
use Rattle.std.specs.List.{All, AllByRecursion, between}
use Rattle.std.proofs.lemmas.List.{drop-append-le, take-append-le, length-drop, map-append}
use Rattle.std.proofs.lemmas.List.Elements.{All-head, All-tail, All-push, All-from_recursion}
use Rattle.std.proofs.lemmas.Slice.{between_to_end}
use Rattle.kt_history.specs.declared.operation.RowOp.{RowOp}
use Rattle.kt_records.specs.declared.entry.CommitRow.{CommitRow}
use Rattle.kt_records.specs.declared.entry.Entry.{Entry}
use Rattle.kt_records.specs.declared.entry.Entry.TheVariants.{Replicate, Commit}
use Rattle.kt_records.specs.declared.log_records.Head.{Head}
use Rattle.kt_records.specs.declared.log_records.Head.TheVariants as heads
use Rattle.kt_records.specs.declared.log_records.Kept.{Kept}
use Rattle.kt_records.specs.Spelling.{spelling}
use Rattle.kt_records.specs.Shared.{entry_in, entry_kept, IsWithin, IsKept, IsNewest, Tells, Adds}
use Rattle.kt_records.specs.Reading.{record_of}
use Rattle.kt_bytes.specs.declared.fault.CodecNo.{CodecNo}
use Rattle.kt_bytes.specs.declared.fault.CodecNo.TheVariants as answers

-- ---- a part of a list that grows

still_between : {A : Type 0} (i j : ℕ) (xs ys : List A) → i ≤ j → j ≤ length xs → between i j (xs ++ ys) ≡ between i j xs
still_between i j xs ys le fits =
    let front : i ≤ length xs = omega arith in
    let room : j - i ≤ length (drop i xs) = omega (arith, length-drop i xs) in
    rw (drop-append-le i xs ys front) (take-append-le (j - i) (drop i xs) ys room)

-- one item more of those behind a place
pub one_more : {A : Type 0} (xs ys front : List A) (x : A) (n : ℕ) → xs ≡ front ++ drop n xs → n ≡ length front → ys ≡ xs ++ x ∷ [] → drop n ys ≡ drop n xs ++ x ∷ []
one_more xs ys front x n is n_is more =
    let low : n ≤ length xs = omega (arith, ap length is, length-append front (drop n xs)) in
    ap (drop n) more ∙ drop-append-le n xs (x ∷ []) low

-- and those in front stay
pub front_stays : {A : Type 0} (xs ys front : List A) (x : A) (n : ℕ) → xs ≡ front ++ drop n xs → n ≡ length front → ys ≡ xs ++ x ∷ [] → ys ≡ front ++ drop n ys
front_stays xs ys front x n is n_is more =
    more ∙ ap (λ l. l ++ x ∷ []) is ∙ append_assoc front (drop n xs) (x ∷ []) ∙ ap (λ l. front ++ l) (sym (one_more xs ys front x n is n_is more))

pub front_low : {A : Type 0} (xs front : List A) (n : ℕ) → xs ≡ front ++ drop n xs → n ≡ length front → n ≤ length xs
front_low xs front n is n_is = omega (arith, ap length is, length-append front (drop n xs))

-- the part up to the end
pub covered : {A : Type 0} (xs : List A) (first count : ℕ) → first + count ≡ length xs → between first (first + count) xs ≡ drop first xs
covered xs first count all = between_to_end xs first (first + count) (omega arith)

-- ---- heads

entry_still : (ops more : List RowOp) (rows more_rows : List CommitRow) (h : Head) → IsWithin ops rows h → entry_in (ops ++ more) (rows ++ more_rows) h ≡ entry_in ops rows h
entry_still ops more rows more_rows (heads.Replicate ts first count) within = ap (λ l. Replicate ts l) (still_between first (first + count) ops more (omega arith) within.0)
entry_still ops more rows more_rows (heads.Commit ts first count) within = ap (λ l. Commit ts l) (still_between first (first + count) rows more_rows (omega arith) within.0)

within_still : (ops more : List RowOp) (rows more_rows : List CommitRow) (h : Head) → IsWithin ops rows h → IsWithin (ops ++ more) (rows ++ more_rows) h
within_still ops more rows more_rows (heads.Replicate ts first count) within = let n = length-append ops more in let low = within.0 in (omega arith, within.1)
within_still ops more rows more_rows (heads.Commit ts first count) within = let n = length-append rows more_rows in let low = within.0 in (omega arith, within.1)

kept_still : (ops more : List RowOp) (rows more_rows : List CommitRow) (k : Kept) → IsKept ops rows k → IsKept (ops ++ more) (rows ++ more_rows) k
kept_still ops more rows more_rows k is = record {
  within = within_still ops more rows more_rows k.head is.within;
  long = is.long ∙ ap (λ e. length (spelling e)) (sym (entry_still ops more rows more_rows k.head is.within));
}

-- the records stay as the lists grow
entries_grow : (ops more : List RowOp) (rows more_rows : List CommitRow) (ks : List Kept) → All (IsKept ops rows) ks → map (entry_kept (ops ++ more) (rows ++ more_rows)) ks ≡ map (entry_kept ops rows) ks
entries_grow ops more rows more_rows [] within = refl
entries_grow ops more rows more_rows (k ∷ ks) within =
    rw (entry_still ops more rows more_rows k.head (All-head (IsKept ops rows) k ks within).within, entries_grow ops more rows more_rows ks (All-tail (IsKept ops rows) k ks within)) refl

all_kept : (ops more : List RowOp) (rows more_rows : List CommitRow) (ks : List Kept) → All (IsKept ops rows) ks → AllByRecursion (IsKept (ops ++ more) (rows ++ more_rows)) ks
all_kept ops more rows more_rows [] within = tt
all_kept ops more rows more_rows (k ∷ ks) within =
    (kept_still ops more rows more_rows k (All-head (IsKept ops rows) k ks within), all_kept ops more rows more_rows ks (All-tail (IsKept ops rows) k ks within))

newest_within : (n m : ℕ) (ops : List RowOp) (rows : List CommitRow) (h : Head) → IsNewest n m ops rows h → IsWithin ops rows h
newest_within n m ops rows (heads.Replicate ts first count) is = let all = is.1 in let fits = is.2 in (omega arith, omega arith)
newest_within n m ops rows (heads.Commit ts first count) is = let all = is.1 in let fits = is.2 in (omega arith, omega arith)

-- what was kept, once the lists have grown
module _ (ops new_ops : List RowOp) (rows new_rows : List CommitRow) (ks : List Kept) (within : All (IsKept ops rows) ks) (ops_is : new_ops ≡ ops ++ drop (length ops) new_ops) (rows_is : new_rows ≡ rows ++ drop (length rows) new_rows) where
  pub still_kept : All (IsKept new_ops new_rows) ks
  still_kept =
      subst (λ (os : List RowOp). All (IsKept os new_rows) ks) (sym ops_is) (subst (λ (rs : List CommitRow). All (IsKept (ops ++ drop (length ops) new_ops) rs) ks) (sym rows_is)
      (All-from_recursion (IsKept (ops ++ drop (length ops) new_ops) (rows ++ drop (length rows) new_rows)) ks (all_kept ops (drop (length ops) new_ops) rows (drop (length rows) new_rows) ks within)))

  pub still_there : map (entry_kept new_ops new_rows) ks ≡ map (entry_kept ops rows) ks
  still_there =
      ap (λ (os : List RowOp). map (entry_kept os new_rows) ks) ops_is ∙ ap (λ (rs : List CommitRow). map (entry_kept (ops ++ drop (length ops) new_ops) rs) ks) rows_is
      ∙ entries_grow ops (drop (length ops) new_ops) rows (drop (length rows) new_rows) ks within

  -- and one more
  module _ (n m : ℕ) (k : Kept) (new_ks : List Kept) (newest : IsNewest n m new_ops new_rows k.head) (long : k.len ≡ length (spelling (entry_kept new_ops new_rows k))) (more : new_ks ≡ ks ++ k ∷ []) where
    pub one_kept : All (IsKept new_ops new_rows) new_ks
    one_kept =
        subst (λ (l : List Kept). All (IsKept new_ops new_rows) l) (sym more)
        (All-push (IsKept new_ops new_rows) ks k still_kept (record { within = newest_within n m new_ops new_rows k.head newest; long = long }))

    pub one_there : map (entry_kept new_ops new_rows) new_ks ≡ map (entry_kept ops rows) ks ++ entry_kept new_ops new_rows k ∷ []
    one_there = ap (map (entry_kept new_ops new_rows)) more ∙ map-append (entry_kept new_ops new_rows) ks (k ∷ []) ∙ ap (λ (l : List Entry). l ++ entry_kept new_ops new_rows k ∷ []) still_there

-- what was not read was not added
pub not_added : {X : Type 0} (Y : Type 0) (bytes : List ℕ) (old new : List Entry) (entry : X → Entry) (no : CodecNo) → Tells {X = X} entry (Err no) (record_of bytes) → new ≡ old → Adds {X = Y} bytes old new (Err no)
not_added Y bytes old new entry (answers.Place offset) told same = (told, same)
not_added Y bytes old new entry answers.Memory told same = same
