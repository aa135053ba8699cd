-- Names that are free: while fewer names of some length are taken than there are, one is free, and where one is free, fewer are taken.
use Rattle.std.proofs.Common.{◌≡◌, ℕ, zero, suc, ◌+◌, ◌*◌, ◌/◌, ◌%◌, ◌<◌, Bool, true, false, cond, ◌||◌, eqb, leb, ltb, List, [], ◌∷◌, ◌++◌, length, refl, sym, ap, subst, ◌∙◌, append_assoc, arith, inl, inr}
use Rattle.std.specs.Prelude.{replicate}
use Rattle.std.specs.List.{filter}
use Rattle.std.specs.Ordering.{nat_cmp, is_eq}
use Rattle.std.specs.Cmp.Lexicographic.{slice_cmp}
use Rattle.std.proofs.lemmas.Bool.{eqb-true, eq-eqb, ne_eqb, cases_Bool, ltb-true, lt-ltb, leb-false}
use Rattle.std.proofs.lemmas.List.{length-replicate, append-nil, length_push}
use Rattle.std.proofs.lemmas.List.Sums.{length-filter, count_by-le-length}
use Rattle.std.proofs.lemmas.Map.Text.{is_eq-slice_cmp}
use Rattle.std.proofs.lemmas.Slice.Eq.{bytes_eq-Decides}
use Rattle.kt_schema.specs.declared.column.Column.{Column}
use Rattle.kt_bytes.specs.Reading.{EachAfter}
use Rattle.kt_bytes.proofs.Numbers.{IsBytes}
use Rattle.kt_bytes.proofs.Leaves.{zero_bytes}
use Rattle.kt_super.specs.Columns.{has_name, names_of, has_free_name}
use Rattle.kt_super.proofs.Apart.{taken, Apart, none_apart, push_apart, few_apart, free_number}

-- ---- the same name

abbrev same : List ℕ → List ℕ → Bool
same xs ys = is_eq (slice_cmp nat_cmp xs ys)

pub same_is : (xs ys : List ℕ) → same xs ys ≡ true → xs ≡ ys
same_is xs ys e = (bytes_eq-Decides xs ys).0 (sym (is_eq-slice_cmp xs ys) ∙ e)

pub is_same : (xs ys : List ℕ) → xs ≡ ys → same xs ys ≡ true
is_same xs ys e = is_eq-slice_cmp xs ys ∙ (bytes_eq-Decides xs ys).1 e

other : (xs ys : List ℕ) → (xs ≡ ys → ⊥) → same xs ys ≡ false
other xs ys apart = elim (cases_Bool (same xs ys)) [ inl e ↦ absurd (apart (same_is xs ys e)) | inr e ↦ e ]

no_left : (a b : Bool) → a ≡ false → b ≡ false → (a || b) ≡ false
no_left a b p q = ap (λ (x : Bool). x || b) p ∙ q

pub neither : (a b : Bool) → (a || b) ≡ false → (a ≡ false) × (b ≡ false)
neither true b e = absurd cc
neither false b e = (refl, e)

-- ---- names as numbers

-- the number that the first two bytes of a name are
code : List ℕ → ℕ
code [] = 0
code (b ∷ []) = b
code (b ∷ c ∷ rest) = b + 256 * c

-- there are so many names of a length, or more
limit : ℕ → ℕ
limit zero = 1
limit (suc zero) = 256
limit (suc (suc n)) = 65536

-- the name of a number
text : ℕ → ℕ → List ℕ
text zero p = []
text (suc zero) p = p ∷ []
text (suc (suc n)) p = p % 256 ∷ p / 256 ∷ replicate n 0

code_text : (n p : ℕ) → p < limit n → code (text n p) ≡ p
unfolding code limit text
code_text zero p lt = omega (arith, lt)
code_text (suc zero) p lt = refl
code_text (suc (suc n)) p lt = omega arith

length_text : (n p : ℕ) → length (text n p) ≡ n
unfolding text
length_text zero p = refl
length_text (suc zero) p = refl
length_text (suc (suc n)) p = ap (λ (k : ℕ). suc (suc k)) (length-replicate n 0)

text_bytes : (n p : ℕ) → p < limit n → IsBytes (text n p)
unfolding limit text
text_bytes zero p lt i = omega arith
text_bytes (suc zero) p lt zero = lt
text_bytes (suc zero) p lt (suc i) = omega arith
text_bytes (suc (suc n)) p lt zero = omega arith
text_bytes (suc (suc n)) p lt (suc zero) = omega (arith, lt)
text_bytes (suc (suc n)) p lt (suc (suc i)) = zero_bytes n i

-- ---- a free name

abbrev named : ℕ → List Column → List Column
named n earlier = filter (λ d. eqb (length d.name) n) earlier

abbrev column_code : Column → ℕ
column_code d = code d.name

no_name : (n p : ℕ) (earlier : List Column) → taken column_code (named n earlier) p ≡ false → (name : List ℕ) → code name ≡ p → length name ≡ n → has_name earlier name ≡ false
no_name n p [] free name is len = refl
no_name n p (d ∷ earlier) free name is len = step (λ none. no_name n p earlier none name is len) (eqb (length d.name) n) refl free
  where
    step : (taken column_code (named n earlier) p ≡ false → has_name earlier name ≡ false) → (b : Bool) → eqb (length d.name) n ≡ b → taken column_code (cond b (d ∷ named n earlier) (named n earlier)) p ≡ false → has_name (d ∷ earlier) name ≡ false
    step more true here none =
        let two = neither (eqb (code d.name) p) (taken column_code (named n earlier) p) none in
        no_left (same name d.name) (has_name earlier name) (other name d.name (λ e. not_this two.0 (ap code (sym e) ∙ is))) (more two.1)
      where
        not_this : eqb (code d.name) p ≡ false → code d.name ≡ p → ⊥
        not_this un e = let bad : true ≡ false = sym (eq-eqb (code d.name) p e) ∙ un in absurd cc
    step more false gone none =
        no_left (same name d.name) (has_name earlier name) (other name d.name (λ e. not_long gone (ap (λ (l : List ℕ). length l) (sym e) ∙ len))) (more none)
      where
        not_long : eqb (length d.name) n ≡ false → length d.name ≡ n → ⊥
        not_long un e = let bad : true ≡ false = sym (eq-eqb (length d.name) n e) ∙ un in absurd cc

few_named : (n : ℕ) (earlier : List Column) → length earlier < 65536 → has_free_name earlier n ≡ true → length (named n earlier) < limit n
unfolding limit
few_named zero earlier few e = omega (arith, length-filter (λ (d : Column). eqb (length d.name) 0) earlier, ltb-true (names_of earlier 0) 1 e)
few_named (suc zero) earlier few e = omega (arith, length-filter (λ (d : Column). eqb (length d.name) 1) earlier, ltb-true (names_of earlier 1) 256 e)
few_named (suc (suc n)) earlier few e = omega (arith, few, length-filter (λ (d : Column). eqb (length d.name) (suc (suc n))) earlier, count_by-le-length (λ (d : Column). eqb (length d.name) (suc (suc n))) earlier)

-- a name of so many bytes is free
pub free_name : (n : ℕ) (earlier : List Column) → length earlier < 65536 → has_free_name earlier n ≡ true → (name : List ℕ) × (has_name earlier name ≡ false) × (length name ≡ n) × IsBytes name
free_name n earlier few e =
    let p = free_number column_code (limit n) (named n earlier) (few_named n earlier few e) in
    (text n p.0, no_name n p.0 earlier p.2 (text n p.0) (code_text n p.0 p.1) (length_text n p.0), length_text n p.0, text_bytes n p.0 p.1)

-- ---- where a name is free

-- names of at most one byte are told by their numbers
one_code : (xs ys : List ℕ) → length xs ≡ length ys → length xs < 2 → code xs ≡ code ys → xs ≡ ys
unfolding code
one_code [] [] len few e = refl
one_code [] (y ∷ ys) len few e = absurd (omega (arith, len))
one_code (x ∷ xs) [] len few e = absurd (omega (arith, len))
one_code (x ∷ []) (y ∷ []) len few e = ap (λ (b : ℕ). b ∷ []) e
one_code (x ∷ []) (y ∷ z ∷ ys) len few e = absurd (omega (arith, len))
one_code (x ∷ z ∷ xs) ys len few e = absurd (omega (arith, few))

code_fits : (name : List ℕ) → length name < 2 → IsBytes name → code name < limit (length name)
unfolding code limit
code_fits [] few fits = omega arith
code_fits (b ∷ []) few fits = fits 0
code_fits (b ∷ c ∷ rest) few fits = absurd (omega (arith, few))

-- no column of these has the number of a name that is free
code_free : (n : ℕ) (earlier : List Column) (name : List ℕ) → n < 2 → length name ≡ n → has_name earlier name ≡ false → taken column_code (named n earlier) (code name) ≡ false
code_free n [] name lt len free = refl
code_free n (d ∷ earlier) name lt len free = step (code_free n earlier name lt len two.1) (eqb (length d.name) n) refl
  where
    two : (same name d.name ≡ false) × (has_name earlier name ≡ false)
    two = neither (same name d.name) (has_name earlier name) free

    step : taken column_code (named n earlier) (code name) ≡ false → (b : Bool) → eqb (length d.name) n ≡ b → taken column_code (cond b (d ∷ named n earlier) (named n earlier)) (code name) ≡ false
    step rest false gone = rest
    step rest true here =
        let long : length d.name ≡ n = eqb-true (length d.name) n here in
        no_left (eqb (code d.name) (code name)) (taken column_code (named n earlier) (code name)) (ne_eqb (code d.name) (code name) (λ e. not_same two.0 (one_code name d.name (len ∙ sym long) (omega (arith, len, lt)) (sym e)))) rest
      where
        not_same : same name d.name ≡ false → name ≡ d.name → ⊥
        not_same un e = let bad : true ≡ false = sym (is_same name d.name e) ∙ un in absurd cc

-- each column has a name of its own, in bytes
abbrev pub OwnName : List Column → Column → Type 0
OwnName earlier c = (has_name earlier c.name ≡ false) × IsBytes c.name

named_push : (n : ℕ) (front : List Column) (c : Column) → named n (front ++ c ∷ []) ≡ named n front ++ cond (eqb (length c.name) n) (c ∷ []) []
named_push n [] c = last (eqb (length c.name) n)
  where
    last : (b : Bool) → cond b (c ∷ []) [] ≡ [] ++ cond b (c ∷ []) []
    last true = refl
    last false = refl
named_push n (d ∷ front) c = step (named_push n front c) (eqb (length d.name) n)
  where
    step : named n (front ++ c ∷ []) ≡ named n front ++ cond (eqb (length c.name) n) (c ∷ []) [] → (b : Bool) → cond b (d ∷ named n (front ++ c ∷ [])) (named n (front ++ c ∷ [])) ≡ cond b (d ∷ named n front) (named n front) ++ cond (eqb (length c.name) n) (c ∷ []) []
    step more true = ap (λ (l : List Column). d ∷ l) more
    step more false = more

push_named : (n : ℕ) → n < 2 → (front : List Column) (c : Column) → Apart column_code (limit n) (named n front) → OwnName front c → Apart column_code (limit n) (named n (front ++ c ∷ []))
push_named n lt front c a own = subst (Apart column_code (limit n)) (sym (named_push n front c)) (step (eqb (length c.name) n) refl)
  where
    step : (b : Bool) → eqb (length c.name) n ≡ b → Apart column_code (limit n) (named n front ++ cond b (c ∷ []) [])
    step false gone = subst (Apart column_code (limit n)) (sym (append-nil (named n front))) a
    step true here =
        let long : length c.name ≡ n = eqb-true (length c.name) n here in
        push_apart column_code (limit n) (named n front) c a (subst (λ (k : ℕ). code c.name < limit k) long (code_fits c.name (omega (arith, long, lt)) own.1)) (code_free n front c.name lt long own.0)

all_named : (n : ℕ) → n < 2 → (front columns : List Column) → Apart column_code (limit n) (named n front) → EachAfter OwnName front columns → Apart column_code (limit n) (named n (front ++ columns))
all_named n lt front [] a own = subst (λ (l : List Column). Apart column_code (limit n) (named n l)) (sym (append-nil front)) a
all_named n lt front (c ∷ columns) a own =
    subst (λ (l : List Column). Apart column_code (limit n) (named n l)) (append_assoc front (c ∷ []) columns) (all_named n lt (front ++ c ∷ []) columns (push_named n lt front c a own.0) own.1)

limit_is : (n : ℕ) → n < 2 → limit n ≡ cond (eqb n 0) 1 256
unfolding limit
limit_is zero lt = refl
limit_is (suc zero) lt = refl
limit_is (suc (suc n)) lt = absurd (omega (arith, lt))

-- the length of a free name passes
pub name_passes : (earlier : List Column) (c : Column) → EachAfter OwnName [] earlier → OwnName earlier c → has_free_name earlier (length c.name) ≡ true
name_passes earlier c own it = step (leb 2 (length c.name)) refl
  where
    n : ℕ
    n = length c.name

    step : (b : Bool) → leb 2 (length c.name) ≡ b → (b || ltb (names_of earlier (length c.name)) (cond (eqb (length c.name) 0) 1 256)) ≡ true
    step true long = refl
    step false short =
        let lt : length c.name < 2 = omega (arith, leb-false 2 (length c.name) short) in
        let a = push_named (length c.name) lt earlier c (all_named (length c.name) lt [] earlier (none_apart column_code (limit (length c.name))) own) it in
        let few = few_apart column_code (limit (length c.name)) (named (length c.name) (earlier ++ c ∷ [])) a in
        let one : named (length c.name) (earlier ++ c ∷ []) ≡ named (length c.name) earlier ++ c ∷ [] = named_push (length c.name) earlier c ∙ ap (λ (b : Bool). named (length c.name) earlier ++ cond b (c ∷ []) []) (eq-eqb (length c.name) (length c.name) refl) in
        let longer = length_push (named (length c.name) earlier) c in
        lt-ltb (names_of earlier (length c.name)) (cond (eqb (length c.name) 0) 1 256)
        (omega (arith, few, ap (λ (l : List Column). length l) one, longer, limit_is (length c.name) lt, length-filter (λ (d : Column). eqb (length d.name) (length c.name)) earlier))
