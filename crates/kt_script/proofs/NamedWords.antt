-- What the named cells of an operation say, a word at a time.
use Rattle.std.proofs.Common.{◌≡◌, ℕ, ◌<◌, ◌≤◌, min, Bool, true, false, List, [], ◌∷◌, ◌++◌, map, inl, inr, refl, sym, ap, ◌∙◌, arith, append_assoc, drop}
use Rattle.std.specs.List.{list_any}
use Rattle.std.proofs.lemmas.Bool.{cases_lt}
use Rattle.kt_base.specs.declared.cell.Cell.{Cell}
use Rattle.kt_base.specs.Literals.{same}
use Rattle.kt_schema.specs.declared.column.Column.{Column}
use Rattle.kt_script.specs.Reasons.{reason_if}
use Rattle.kt_script.specs.Writes.{name_in, behind_name, column_named, with_named, all_named, named_no, all_named_no, again_no}

late_again : (seen : List (List ℕ)) (name : List ℕ) → 13 ≤ again_no seen name
late_again seen name = by (list_any (λ n. same n name) seen)
  where
    by : (t : Bool) → 13 ≤ reason_if t 13
    by true = omega arith
    by false = omega arith

-- once a reason up to 13 holds, the names before do not matter
seen_free : (others : List Column) (words : List (List ℕ)) (n : ℕ) → n ≤ 13 → (seen other : List (List ℕ)) → min n (all_named_no others seen words) ≡ min n (all_named_no others other words)
seen_free others [] n h seen other = refl
seen_free others (w ∷ words) n h seen other =
    let more = seen_free others words n h (seen ++ name_in w ∷ []) (other ++ name_in w ∷ []) in
    let a = late_again seen (name_in w) in
    let b = late_again other (name_in w) in
    swap n (named_no others w) (again_no seen (name_in w)) (again_no other (name_in w)) (all_named_no others (seen ++ name_in w ∷ []) words) (all_named_no others (other ++ name_in w ∷ []) words) h a b more
  where
    swap : (m a r s x y : ℕ) → m ≤ 13 → 13 ≤ r → 13 ≤ s → min m x ≡ min m y → min m (min a (min r x)) ≡ min m (min a (min s y))
    swap m a r s x y g p q e = omega arith

-- one more named cell
pub least_named : (others : List Column) (seen new : List (List ℕ)) (left : List (List ℕ)) (word : List ℕ) (words : List (List ℕ)) (n m : ℕ) → left ≡ word ∷ words
    → m ≡ min n (min (named_no others word) (again_no seen (name_in word))) → (13 < m → new ≡ seen ++ name_in word ∷ []) → min m (all_named_no others new words) ≡ min n (all_named_no others seen left)
least_named others seen new left word words n m is least kept = rw is (elim (cases_lt 13 m) [
  | inl lt ↦ rw (kept lt) (joined (all_named_no others (seen ++ name_in word ∷ []) words))
  | inr past ↦ seen_free others words m past new (seen ++ name_in word ∷ []) ∙ joined (all_named_no others (seen ++ name_in word ∷ []) words)
])
  where
    joined : (x : ℕ) → min m x ≡ min n (min (named_no others word) (min (again_no seen (name_in word)) x))
    joined x = omega arith

pub names_more : (seen new : List (List ℕ)) (left all : List (List ℕ)) (word : List ℕ) (words : List (List ℕ)) → left ≡ word ∷ words → new ≡ seen ++ name_in word ∷ []
    → seen ++ map name_in left ≡ all → new ++ map name_in words ≡ all
names_more seen new left all word words is next so =
    ap (λ xs. xs ++ map name_in words) next ∙ (append_assoc seen (name_in word ∷ []) (map name_in words) ∙ (ap (λ ws. seen ++ map name_in ws) (sym is) ∙ so))

pub cells_more : (others : List Column) (cells new : List (ℕ × Cell)) (left : List (List ℕ)) (all : List (ℕ × Cell)) (word : List ℕ) (words : List (List ℕ)) → left ≡ word ∷ words
    → new ≡ with_named (column_named others (name_in word)) (drop 1 (behind_name word)) cells → all_named others cells left ≡ all → all_named others new words ≡ all
cells_more others cells new left all word words is next so = ap (λ x. all_named others x words) next ∙ (ap (all_named others cells) (sym is) ∙ so)
