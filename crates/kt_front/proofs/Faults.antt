-- Where a block can't be read, the bytes have their first fault.
use Rattle.std.proofs.Common.{◌≡◌, ℕ, zero, suc, ◌+◌, ◌*◌, ◌-◌, ◌%◌, ◌^◌, ◌<◌, ◌≤◌, Bool, true, false, cond, List, [], ◌∷◌, ◌++◌, length, take, drop, Result, Ok, Err, refl, sym, ap, subst, ◌∙◌, append_assoc, arith, inl, inr, length-append}
use Rattle.std.specs.Prelude.{nat_lt, ◌==◌, ◌&&◌}
use Rattle.std.specs.Int.{w32}
use Rattle.std.specs.List.{AllByRecursion, concat}
use Rattle.std.proofs.lemmas.Bool.{leb-true, le-ltb, lt-ltb}
use Rattle.std.proofs.lemmas.List.{append-nil, take_at, length-drop, length_push, take-append-drop, drop_at}
use Rattle.std.proofs.lemmas.List.Folds.{concat-append}
use Rattle.kt_bytes.specs.Places.{Begins, GoesOn, Stands, Delimited}
use Rattle.kt_bytes.specs.declared.fault.CodecNo.{CodecNo}
use Rattle.kt_bytes.specs.declared.fault.Stop.{Stop}
use Rattle.kt_bytes.specs.declared.fault.Stop.TheVariants as stops
use Rattle.kt_bytes.specs.Reading.{◌>>=◌, Fails, IsAmong, number_at, checked_at, bytes_at}
use Rattle.kt_bytes.proofs.Numbers.{IsBytes, IsBytes-take, IsBytes-drop, ok_is, bytes_takes}
use Rattle.kt_bytes.proofs.Places.{goes_on, one_front, one_place as places_one}
use Rattle.kt_bytes.proofs.Faults.{FaultLeft, bind_err, guard_err, pass_err, checked_fails, bytes_fail, number_long, is_missing, begins_of, never_err}
use Rattle.kt_bytes.proofs.Fronts.{parts_push, no_bool}
use Rattle.kt_front.specs.Spelling.{AreBytes, base, shared, number, cell, cells, cell_fields, fields, spelling, SpelledWithin}
use Rattle.kt_front.specs.Reading.{IsFaultWithin, IsCauseWithin, IsItems, is_rest, SpellsWithin}
use Rattle.kt_front.specs.Walk.{begin_alike, is_shared, is_more, cell_at, items_at, behind_of, ended_of}
use Rattle.kt_front.proofs.Shared.{shared-le, shared_apart, shared_front}
use Rattle.kt_front.proofs.Fields.{length-number, number_one, number_again, shared_takes, upto_test, cell_takes, bytes_front, bytes_both}
use Rattle.kt_front.proofs.Blocks.{spelled_behind}
use Rattle.kt_front.proofs.Cells.{last_or, AllShort, shared_small, rest_small}
use Rattle.kt_front.proofs.Places.{fields_spell, fields_append, Sofar, sofar_push, begins, made, next, delimited, length-fields, whole_ends}

-- what stands there is no field that can follow, and these are the fields in front of it
is_wrong_here : (S : List (List ℕ) → Type 0) (front : List (List ℕ)) (bytes rest : List ℕ) (left : ℕ) → bytes ≡ concat front ++ rest → left ≡ length rest
    → Begins S front → ((field : List ℕ) → GoesOn S front field → length field ≤ length rest) → ((field : List ℕ) → GoesOn S front field → ¬ Stands field rest) → 0 < length rest → (fault : FaultLeft S bytes left) × (fault.front ≡ front)
is_wrong_here S front bytes rest left parts at begins fits ends some = (
  record {
    front = front;
    rest = rest;
    parts = parts;
    begins = begins;
    ends = ends;
    more = λ whole. some;
    at = inr (fits, omega (arith, ap length parts, length-append (concat front) rest));
  },
  refl,
)

is_wrong_there : (S : List (List ℕ) → Type 0) (front : List (List ℕ)) (bytes rest w : List ℕ) (left : ℕ) → Delimited S → bytes ≡ concat front ++ rest → left ≡ length rest
    → GoesOn S front w → length w ≤ length rest → ((field : List ℕ) → GoesOn S front field → ¬ Stands field rest) → 0 < length rest → (fault : FaultLeft S bytes left) × (fault.front ≡ front)
is_wrong_there S front bytes rest w left d parts at on le ends some = is_wrong_here S front bytes rest left parts at (begins_of S front w on) (λ field goes. omega (arith, d front field w goes on)) ends some

-- ---- where a fault is told

-- bytes are missing: at their end
told_missing : (most n : ℕ) (bytes : List ℕ) (left : ℕ) → left ≡ 0 → FaultLeft (SpelledWithin most n) bytes left → IsFaultWithin most n bytes (length bytes - left)
told_missing most n bytes left none f = record { field = length bytes - left; fault = f; told = at (is_rest f.front) (length bytes) (length bytes - left) (omega arith) }
  where
    at : (b : Bool) (total field : ℕ) → total ≤ field → field ≡ cond (b && nat_lt field total) (field - 8) field
    at b total field le = rw (le-ltb field total le) (never b field)
      where
        never : (b : Bool) (field : ℕ) → field ≡ cond (b && false) (field - 8) field
        never true field = refl
        never false field = refl

-- a field is wrong, and not what a cell doesn't share: there
told_there : (most n : ℕ) (bytes : List ℕ) (left : ℕ) (front : List (List ℕ)) (f : FaultLeft (SpelledWithin most n) bytes left) → f.front ≡ front → is_rest front ≡ false → IsFaultWithin most n bytes (length bytes - left)
told_there most n bytes left front f is no_rest = record { field = length bytes - left; fault = f; told = rw (is, no_rest) refl }

-- what a cell doesn't share is wrong: where the cell begins
told_before : (most n : ℕ) (bytes : List ℕ) (left more : ℕ) (front : List (List ℕ)) (f : FaultLeft (SpelledWithin most n) bytes left) → f.front ≡ front → is_rest front ≡ true → 0 < left → left ≤ length bytes → more ≡ 8 + left → IsFaultWithin most n bytes (length bytes - more)
told_before most n bytes left more front f is rest some within at = record { field = length bytes - left; fault = f; told = rw (is, rest, lt-ltb (length bytes - left) (length bytes) (omega arith)) (omega arith) }

-- ---- what can follow the cells that were read

base_at : List (List ℕ) → List ℕ
base_at xs = base (0 + length xs) (last_or [] xs)

all_last : (b : List ℕ) (xs : List (List ℕ)) → AreBytes b → AllByRecursion AreBytes xs → AreBytes (last_or b xs)
unfolding last_or
all_last b [] here all = here
all_last b (x ∷ xs) here all = all_last x xs all.0 all.1

base_bytes : (xs : List (List ℕ)) → AllByRecursion AreBytes xs → AreBytes (base_at xs)
unfolding base_at
base_bytes xs all = either (0 + length xs) (last_or [] xs) (all_last [] xs (λ i. omega arith) all)
  where
    either : (i : ℕ) (b : List ℕ) → AreBytes b → AreBytes (base i b)
    either i b h = elim (i % 16 == 0) as (λ t. AreBytes (cond t [] b)) [ true ↦ λ k. omega arith | false ↦ h ]

last_short : (most : ℕ) (b : List ℕ) (xs : List (List ℕ)) → length b ≤ most → AllShort most xs → length (last_or b xs) ≤ most
unfolding last_or
last_short most b [] here all = here
last_short most b (x ∷ xs) here all = last_short most x xs all.0 all.1

-- what the next cell may share is an item that was read
base_short : (most : ℕ) (xs : List (List ℕ)) → AllShort most xs → length (base_at xs) ≤ most
unfolding base_at
base_short most xs all = either (0 + length xs) (last_or [] xs) (last_short most [] xs (omega arith) all)
  where
    either : (i : ℕ) (b : List ℕ) → length b ≤ most → length (base i b) ≤ most
    either i b h = elim (i % 16 == 0) as (λ t. length (cond t [] b) ≤ most) [ true ↦ omega arith | false ↦ h ]

cell_goes : (most n m : ℕ) (xs : List (List ℕ)) (y : List ℕ) → Sofar most n (suc m) xs → length y ≤ most → AreBytes y → Begins (SpelledWithin most n) (fields xs ++ cell_fields (base_at xs) y)
unfolding base_at
cell_goes most n m xs y s fits bytes =
    let is : fields (xs ++ y ∷ []) ≡ fields xs ++ cell_fields (base (0 + length xs) (last_or [] xs)) y = fields_append 0 [] xs (y ∷ []) in
    subst (Begins (SpelledWithin most n)) is (begins most n m (xs ++ y ∷ []) (sofar_push most n m xs y s fits bytes))

-- a cell with these numbers
record Cell (most n : ℕ) (xs : List (List ℕ)) (s r : ℕ) : Type 0 where
  pub rest : List ℕ
  pub len : length rest ≡ r
  pub goes : Begins (SpelledWithin most n) (fields xs ++ number s ∷ number r ∷ rest ∷ [])

some_cell : (most n m : ℕ) (xs : List (List ℕ)) (s r : ℕ) → Sofar most n (suc m) xs → s ≤ length (base_at xs) → s + r ≤ most → Cell most n xs s r
some_cell most n m xs s r f le within =
    let y = made (base_at xs) s r (base_bytes xs f.bytes) le in
    let fits : length y.0 ≤ most = omega (arith, y.1.left) in
    let is : cell_fields (base_at xs) y.0 ≡ number s ∷ number r ∷ drop s y.0 ∷ [] = ap (λ (k : ℕ). number k ∷ number (length y.0 - k) ∷ drop k y.0 ∷ []) y.1.shares ∙ ap (λ (k : ℕ). number s ∷ number k ∷ drop s y.0 ∷ []) y.1.left in
    record { rest = drop s y.0; len = y.1.tail; goes = subst (λ (t : List (List ℕ)). Begins (SpelledWithin most n) (fields xs ++ t)) is (cell_goes most n m xs y.0 f fits y.1.bytes) }

-- each field in its turn
first_goes : (most n : ℕ) (xs : List (List ℕ)) (s r : ℕ) (c : Cell most n xs s r) → GoesOn (SpelledWithin most n) (fields xs) (number s)
first_goes most n xs s r c = goes_on (SpelledWithin most n) (fields xs) (number s) (number r ∷ c.rest ∷ []) c.goes

second_goes : (most n : ℕ) (xs : List (List ℕ)) (s r : ℕ) (c : Cell most n xs s r) → GoesOn (SpelledWithin most n) (fields xs ++ number s ∷ []) (number r)
second_goes most n xs s r c = goes_on (SpelledWithin most n) (fields xs ++ number s ∷ []) (number r) (c.rest ∷ []) (subst (Begins (SpelledWithin most n)) (sym (append_assoc (fields xs) (number s ∷ []) (number r ∷ c.rest ∷ []))) c.goes)

third_goes : (most n : ℕ) (xs : List (List ℕ)) (s r : ℕ) (c : Cell most n xs s r) → GoesOn (SpelledWithin most n) ((fields xs ++ number s ∷ []) ++ number r ∷ []) c.rest
third_goes most n xs s r c = goes_on (SpelledWithin most n) ((fields xs ++ number s ∷ []) ++ number r ∷ []) c.rest []
    (subst (Begins (SpelledWithin most n)) (sym (append_assoc (fields xs ++ number s ∷ []) (number r ∷ []) (c.rest ∷ []) ∙ append_assoc (fields xs) (number s ∷ []) (number r ∷ c.rest ∷ []))) c.goes)

-- ---- a cell

number_stands : (n : ℕ) (bytes : List ℕ) (x : ℕ × List ℕ) → n < 2 ^ 32 → number_at w32 bytes ≡ Ok x → Stands (number n) bytes → x.0 ≡ n
number_stands n bytes x lt read s =
    let again : number_at w32 bytes ≡ Ok (n, s.0) = ap (number_at w32) s.1 ∙ number_again n s.0 lt in
    ap (λ (y : ℕ × List ℕ). y.0) (ok_is x (n, s.0) (sym read ∙ again))

shared_test : (w x : List ℕ) → is_shared w (shared w x) ≡ true
shared_test w x = upto_test (shared w x) (length w) (shared-le w x).0

three_times : (k m : ℕ) → k ≡ 3 * m → (k % 3 == 2) ≡ false
three_times k m e = not_two (k % 3) (omega arith)
  where
    not_two : (a : ℕ) → a ≡ 0 → (a == 2) ≡ false
    not_two a e = rw e refl

two_more : (k m : ℕ) → k ≡ 3 * m + 2 → (k % 3 == 2) ≡ true
two_more k m e = two (k % 3) (omega arith)
  where
    two : (a : ℕ) → a ≡ 2 → (a == 2) ≡ true
    two a e = rw e refl

one_more : (k m : ℕ) → k ≡ 3 * m + 1 → (k % 3 == 2) ≡ false
one_more k m e = not_two (k % 3) (omega arith)
  where
    not_two : (a : ℕ) → a ≡ 1 → (a == 2) ≡ false
    not_two a e = rw e refl

pub whole_cells : (xs : List (List ℕ)) → is_rest (fields xs) ≡ false
whole_cells xs = three_times (length (fields xs)) (length xs) (length-fields 0 [] xs)

-- where a cell is read
record AtCell (most n m : ℕ) (xs : List (List ℕ)) (bytes rest : List ℕ) : Type 0 where
  pub sofar : Sofar most n (suc m) xs
  pub parts : bytes ≡ concat (fields xs) ++ rest
  pub rest_fits : IsBytes rest

shared_fault : (most n m : ℕ) (xs : List (List ℕ)) (bytes rest : List ℕ) (left : ℕ) → AtCell most n m xs bytes rest → checked_at w32 (is_shared (base_at xs)) rest ≡ Err left → IsFaultWithin most n bytes (length bytes - left)
unfolding base_at
shared_fault most n m xs bytes rest left s e =
    let c = some_cell most n m xs 0 0 s.sofar (omega arith) (omega arith) in
    let goes = first_goes most n xs 0 0 c in
    let four = length-number 0 in
    elim (checked_fails w32 (is_shared (base_at xs)) rest left e) [
      | inl short ↦ told_missing most n bytes left short.1 (is_missing (SpelledWithin most n) (fields xs) bytes rest (number 0) left (delimited most n s.sofar.room) s.parts short.1 goes (omega (arith, short.0)) (whole_ends most n (fields xs) (number 0) goes))
      | inr got ↦
          let long : 4 ≤ length rest = number_long w32 rest got.0 got.1 in
          let f = is_wrong_there (SpelledWithin most n) (fields xs) bytes rest (number 0) left (delimited most n s.sofar.room) s.parts got.3 goes (omega arith) (λ field on stands.
          let t : SpelledWithin most n (fields xs ++ field ∷ on.0) = subst (SpelledWithin most n) (append_assoc (fields xs) (field ∷ []) on.0) on.1 in
          let x = next most n (suc m) xs (field ∷ on.0) s.sofar t (omega arith) in
          let w : List ℕ = base (0 + length xs) (last_or [] xs) in
          let is : field ≡ number (shared w x.item) = head_is x.tail_is in
          let same : got.0.0 ≡ shared w x.item = number_stands (shared w x.item) rest got.0 (shared_small most w x.item s.sofar.room x.fits) got.1 (stands.0, stands.1 ∙ ap (λ (t : List ℕ). t ++ stands.0) is) in
          no_bool (is_shared w got.0.0) got.2 (ap (is_shared w) same ∙ shared_test w x.item)) (omega arith) in
          told_there most n bytes left (fields xs) f.0 f.1 (whole_cells xs)
    ]
  where
    head_is : {x y : List ℕ} {xs ys : List (List ℕ)} → x ∷ xs ≡ y ∷ ys → x ≡ y
    head_is e = cc

-- a list whose cells go on with this number of shared bytes, and so many more
second_is : (most n m s : ℕ) (xs : List (List ℕ)) (f : List ℕ) → Sofar most n (suc m) xs → s < 2 ^ 32 → GoesOn (SpelledWithin most n) (fields xs ++ number s ∷ []) f → (r : ℕ) × (r < 2 ^ 32) × (s + r ≤ most) × (f ≡ number r)
second_is most n m s xs f sofar ls on =
    let group : ((fields xs ++ number s ∷ []) ++ f ∷ []) ++ on.0 ≡ fields xs ++ number s ∷ f ∷ on.0 = append_assoc (fields xs ++ number s ∷ []) (f ∷ []) on.0 ∙ append_assoc (fields xs) (number s ∷ []) (f ∷ on.0) in
    let x = next most n (suc m) xs (number s ∷ f ∷ on.0) sofar (subst (SpelledWithin most n) group on.1) (omega arith) in
    let w : List ℕ = base (0 + length xs) (last_or [] xs) in
    let p = parts_of (number s) f on.0 (number (shared w x.item)) (number (length x.item - shared w x.item)) (drop (shared w x.item) x.item ∷ x.others) x.tail_is in
    let a : shared w x.item ≡ s = sym (number_one s (shared w x.item) ls (shared_small most w x.item sofar.room x.fits) p.0) in
    (length x.item - shared w x.item, rest_small most w x.item sofar.room x.fits, omega (arith, x.fits, shared-le w x.item), p.1)
  where
    parts_of : (a b : List ℕ) (us : List (List ℕ)) (x y : List ℕ) (vs : List (List ℕ)) → a ∷ b ∷ us ≡ x ∷ y ∷ vs → (a ≡ x) × (b ≡ y)
    parts_of a b us x y vs e = (cc, cc)

length_fault : (most n m s : ℕ) (xs : List (List ℕ)) (bytes rest : List ℕ) (left : ℕ) → AtCell most n m xs bytes (number s ++ rest) → s ≤ length (base_at xs) → s ≤ most → checked_at w32 (is_more most s) rest ≡ Err left → IsFaultWithin most n bytes (length bytes - left)
length_fault most n m s xs bytes rest left at le within failed =
    let c = some_cell most n m xs s 0 at.sofar le (omega arith) in
    let goes = second_goes most n xs s 0 c in
    let front : List (List ℕ) = fields xs ++ number s ∷ [] in
    let parts = parts_push (fields xs) (number s) bytes (number s ++ rest) rest at.parts refl in
    let four = length-number 0 in
    let count : length front ≡ 3 * length xs + 1 = omega (arith, length-append (fields xs) (number s ∷ []), length-fields 0 [] xs) in
    elim (checked_fails w32 (is_more most s) rest left failed) [
      | inl short ↦ told_missing most n bytes left short.1 (is_missing (SpelledWithin most n) front bytes rest (number 0) left (delimited most n at.sofar.room) parts short.1 goes (omega (arith, short.0)) (whole_ends most n front (number 0) goes))
      | inr got ↦
          let long : 4 ≤ length rest = number_long w32 rest got.0 got.1 in
          let f = is_wrong_there (SpelledWithin most n) front bytes rest (number 0) left (delimited most n at.sofar.room) parts got.3 goes (omega arith) (λ field on stands.
          let r = second_is most n m s xs field at.sofar (omega (arith, at.sofar.room)) on in
          let same : got.0.0 ≡ r.0 = number_stands r.0 rest got.0 r.1 got.1 (stands.0, stands.1 ∙ ap (λ (t : List ℕ). t ++ stands.0) r.3) in
          no_bool (is_more most s got.0.0) got.2 (ap (is_more most s) same ∙ upto_test (s + r.0) most r.2)) (omega arith) in
          told_there most n bytes left front f.0 f.1 (one_more (length front) (length xs) count)
    ]

two_parts : (xs : List (List ℕ)) (a b bytes rest : List ℕ) → bytes ≡ concat (fields xs) ++ (a ++ (b ++ rest)) → bytes ≡ concat ((fields xs ++ a ∷ []) ++ b ∷ []) ++ rest
two_parts xs a b bytes rest parts = parts_push (fields xs ++ a ∷ []) b bytes (b ++ rest) rest (parts_push (fields xs) a bytes (a ++ (b ++ rest)) (b ++ rest) parts refl) refl

rest_missing : (most n m s r : ℕ) (xs : List (List ℕ)) (bytes rest : List ℕ) (left : ℕ) → AtCell most n m xs bytes (number s ++ (number r ++ rest)) → s ≤ length (base_at xs) → s + r ≤ most → length rest < r → left ≡ 0 → IsFaultWithin most n bytes (length bytes - left)
rest_missing most n m s r xs bytes rest left at le within lt none =
    let c = some_cell most n m xs s r at.sofar le within in
    let goes = third_goes most n xs s r c in
    let front : List (List ℕ) = (fields xs ++ number s ∷ []) ++ number r ∷ [] in
    told_missing most n bytes left none (is_missing (SpelledWithin most n) front bytes rest c.rest left (delimited most n at.sofar.room) (two_parts xs (number s) (number r) bytes rest at.parts) none goes (omega (arith, c.len)) (whole_ends most n front c.rest goes))

-- a list whose cells go on with these numbers and this rest
third_is : (most n m s r : ℕ) (xs : List (List ℕ)) (f : List ℕ) → Sofar most n (suc m) xs → s < 2 ^ 32 → r < 2 ^ 32 → GoesOn (SpelledWithin most n) ((fields xs ++ number s ∷ []) ++ number r ∷ []) f → (length f ≡ r) × (begin_alike (drop s (base_at xs)) f ≡ false)
unfolding base_at
third_is most n m s r xs f sofar ls lr on =
    let group : (((fields xs ++ number s ∷ []) ++ number r ∷ []) ++ f ∷ []) ++ on.0 ≡ fields xs ++ number s ∷ number r ∷ f ∷ on.0 =
    append_assoc ((fields xs ++ number s ∷ []) ++ number r ∷ []) (f ∷ []) on.0 ∙ (append_assoc (fields xs ++ number s ∷ []) (number r ∷ []) (f ∷ on.0) ∙ append_assoc (fields xs) (number s ∷ []) (number r ∷ f ∷ on.0)) in
    let x = next most n (suc m) xs (number s ∷ number r ∷ f ∷ on.0) sofar (subst (SpelledWithin most n) group on.1) (omega arith) in
    let w : List ℕ = base (0 + length xs) (last_or [] xs) in
    let p = parts_of (number s) (number r) f on.0 (number (shared w x.item)) (number (length x.item - shared w x.item)) (drop (shared w x.item) x.item) x.others x.tail_is in
    let a : shared w x.item ≡ s = sym (number_one s (shared w x.item) ls (shared_small most w x.item sofar.room x.fits) p.0) in
    let b : length x.item - shared w x.item ≡ r = sym (number_one r (length x.item - shared w x.item) lr (rest_small most w x.item sofar.room x.fits) p.1) in
    let len : length (drop (shared w x.item) x.item) ≡ length x.item - shared w x.item = length-drop (shared w x.item) x.item in
    (ap length p.2 ∙ (len ∙ b), ap (λ (k : ℕ). begin_alike (drop k w) f) (sym a) ∙ (ap (begin_alike (drop (shared w x.item) w)) p.2 ∙ shared_apart w x.item))
  where
    parts_of : (a b c : List ℕ) (us : List (List ℕ)) (x y z : List ℕ) (vs : List (List ℕ)) → a ∷ b ∷ c ∷ us ≡ x ∷ y ∷ z ∷ vs → (a ≡ x) × (b ≡ y) × (c ≡ z)
    parts_of a b c us x y z vs e = (cc, cc, cc)

alike_some : (u x : List ℕ) → begin_alike u x ≡ true → 0 < length x
alike_some [] x e = absurd cc
alike_some (a ∷ u) [] e = absurd cc
alike_some (a ∷ u) (b ∷ x) e = omega arith

rest_wrong : (most n m s r : ℕ) (xs : List (List ℕ)) (bytes x after : List ℕ) (left : ℕ) → AtCell most n m xs bytes (number s ++ (number r ++ (x ++ after))) → s ≤ length (base_at xs) → s + r ≤ most → length x ≡ r → begin_alike (drop s (base_at xs)) x ≡ true
    → left ≡ length (number s ++ (number r ++ (x ++ after))) → IsFaultWithin most n bytes (length bytes - left)
rest_wrong most n m s r xs bytes x after left at le within size alike is =
    let c = some_cell most n m xs s r at.sofar le within in
    let goes = third_goes most n xs s r c in
    let front : List (List ℕ) = (fields xs ++ number s ∷ []) ++ number r ∷ [] in
    let parts = two_parts xs (number s) (number r) bytes (x ++ after) at.parts in
    let here : length (x ++ after) ≡ length x + length after = length-append x after in
    let some = alike_some (drop s (base_at xs)) x alike in
    let f = is_wrong_there (SpelledWithin most n) front bytes (x ++ after) c.rest (length (x ++ after)) (delimited most n at.sofar.room) parts refl goes (omega (arith, c.len, here)) (λ field on stands.
    let t = third_is most n m s r xs field at.sofar (omega (arith, at.sofar.room)) (omega (arith, at.sofar.room)) on in
    let same : field ≡ x = sym (take_at field stands.0 r t.0) ∙ (ap (take r) (sym stands.1) ∙ take_at x after r size) in
    no_bool (begin_alike (drop s (base_at xs)) field) t.1 (ap (begin_alike (drop s (base_at xs))) same ∙ alike)) (omega (arith, here)) in
    let count : length front ≡ 3 * length xs + 2 = omega (arith, length-append (fields xs ++ number s ∷ []) (number r ∷ []), length-append (fields xs) (number s ∷ []), length-fields 0 [] xs) in
    told_before most n bytes (length (x ++ after)) left front f.0 f.1 (two_more (length front) (length xs) count) (omega (arith, here)) (omega (arith, ap length parts, length-append (concat front) (x ++ after)))
    (omega (arith, is, length-append (number s) (number r ++ (x ++ after)), length-append (number r) (x ++ after), length-number s, length-number r))

abbrev Read : Type 0
Read = Result (List ℕ × List ℕ) ℕ

cell_fault : (most n m : ℕ) (xs : List (List ℕ)) (bytes rest : List ℕ) (left : ℕ) → AtCell most n m xs bytes rest → cell_at most (base_at xs) rest ≡ Err left → IsFaultWithin most n bytes (length bytes - left)
unfolding cell_at
cell_fault most n m xs bytes rest left s e =
    let w : List ℕ = base_at xs in
    elim (bind_err (checked_at w32 (is_shared w) rest) (λ n. checked_at w32 (is_more most n.0) n.1 >>= λ m. bytes_at m.0 m.1 >>= λ x. cond {A = Read} (begin_alike (drop n.0 w) x.0) (Err (length rest)) (Ok (take n.0 w ++ x.0, x.1))) left e) [
      | inl failed ↦ shared_fault most n m xs bytes rest left s failed
      | inr got ↦
          let a = got.0 in
          let t = shared_takes (is_shared w) rest a s.rest_fits got.1 in
          let le : a.0 ≤ length w = leb-true a.0 (length w) t.1 in
          let here : AtCell most n m xs bytes (number a.0 ++ a.1) = moved rest (number a.0 ++ a.1) t.0.parts s in
          elim (bind_err (checked_at w32 (is_more most a.0) a.1) (λ m. bytes_at m.0 m.1 >>= λ x. cond {A = Read} (begin_alike (drop a.0 w) x.0) (Err (length rest)) (Ok (take a.0 w ++ x.0, x.1))) left got.2) [
            | inl failed ↦ length_fault most n m a.0 xs bytes a.1 left here le (omega (arith, le, base_short most xs s.sofar.fits)) failed
            | inr more ↦
                let b = more.0 in
                let u = shared_takes (is_more most a.0) a.1 b t.0.rest_fits more.1 in
                let within : a.0 + b.0 ≤ most = leb-true (a.0 + b.0) most u.1 in
                let there : AtCell most n m xs bytes (number a.0 ++ (number b.0 ++ b.1)) = moved (number a.0 ++ a.1) (number a.0 ++ (number b.0 ++ b.1)) (ap (λ (r : List ℕ). number a.0 ++ r) u.0.parts) here in
                elim (bind_err (bytes_at b.0 b.1) (λ x. cond {A = Read} (begin_alike (drop a.0 w) x.0) (Err (length rest)) (Ok (take a.0 w ++ x.0, x.1))) left more.2) [
                  | inl failed ↦ let short = bytes_fail b.0 b.1 left failed in rest_missing most n m a.0 b.0 xs bytes b.1 left there le within short.0 short.1
                  | inr all ↦
                      let x = all.0 in
                      let v = bytes_takes b.0 b.1 x u.0.rest_fits all.1 in
                      let whole : rest ≡ number a.0 ++ (number b.0 ++ (x.0 ++ x.1)) = t.0.parts ∙ (ap (λ (r : List ℕ). number a.0 ++ r) u.0.parts ∙ ap (λ (r : List ℕ). number a.0 ++ (number b.0 ++ r)) v.0.parts) in
                      elim (guard_err (begin_alike (drop a.0 w) x.0) (length rest) left (Ok (take a.0 w ++ x.0, x.1)) all.2) [
                        | inl bad ↦ rest_wrong most n m a.0 b.0 xs bytes x.0 x.1 left (moved rest (number a.0 ++ (number b.0 ++ (x.0 ++ x.1))) whole s) le within v.1 bad.0 (sym bad.1 ∙ ap length whole)
                        | inr fine ↦ absurd (never_err (take a.0 w ++ x.0, x.1) left fine.1)
                      ]
                ]
          ]
    ]
  where
    moved : (a b : List ℕ) → a ≡ b → AtCell most n m xs bytes a → AtCell most n m xs bytes b
    moved a b e s = subst (AtCell most n m xs bytes) e s

-- ---- the cells, one after the other

abbrev Fault : ℕ → ℕ → List ℕ → ℕ → Type 0
Fault most n bytes left = IsFaultWithin most n bytes (length bytes - left)

last_cell : (i : ℕ) (b : List ℕ) (xs : List (List ℕ)) (x : List ℕ) → last_or b (xs ++ x ∷ []) ≡ x
unfolding last_or
last_cell i b [] x = refl
last_cell i b (y ∷ xs) x = last_cell i y xs x

cell_push : (xs : List (List ℕ)) (x bytes rest after : List ℕ) → bytes ≡ concat (fields xs) ++ rest → rest ≡ cell (base_at xs) x ++ after → bytes ≡ concat (fields (xs ++ x ∷ [])) ++ after
unfolding base_at cell
cell_push xs x bytes rest after p q =
    let w : List ℕ = base (0 + length xs) (last_or [] xs) in
    let one : concat (cell_fields w x) ≡ (number (shared w x) ++ number (length x - shared w x)) ++ drop (shared w x) x = ap (λ (t : List ℕ). number (shared w x) ++ (number (length x - shared w x) ++ t)) (append-nil (drop (shared w x) x)) ∙ sym (append_assoc (number (shared w x)) (number (length x - shared w x)) (drop (shared w x) x)) in
    let all : concat (fields (xs ++ x ∷ [])) ≡ concat (fields xs) ++ ((number (shared w x) ++ number (length x - shared w x)) ++ drop (shared w x) x) = ap concat (fields_append 0 [] xs (x ∷ [])) ∙ (concat-append (fields xs) (cell_fields w x) ∙ ap (λ (t : List ℕ). concat (fields xs) ++ t) one) in
    p ∙ (ap (λ (t : List ℕ). concat (fields xs) ++ t) q ∙ (sym (append_assoc (concat (fields xs)) ((number (shared w x) ++ number (length x - shared w x)) ++ drop (shared w x) x) after) ∙ ap (λ (t : List ℕ). t ++ after) (sym all)))

trailing_fault : (most n : ℕ) (xs : List (List ℕ)) (bytes rest : List ℕ) (left : ℕ) → Sofar most n 0 xs → bytes ≡ concat (fields xs) ++ rest → 0 < length rest → left ≡ length rest → Fault most n bytes left
trailing_fault most n xs bytes rest left s parts some at =
    let none : (field : List ℕ) → GoesOn (SpelledWithin most n) (fields xs) field → ⊥ = λ field on.
    let x = next most n 0 xs (field ∷ on.0) s (subst (SpelledWithin most n) (append_assoc (fields xs) (field ∷ []) on.0) on.1) (omega arith) in omega (arith, x.some) in
    let f = is_wrong_here (SpelledWithin most n) (fields xs) bytes rest left parts at (begins most n 0 xs s) (λ field on. absurd (none field on)) (λ field on stands. none field on) some in
    told_there most n bytes left (fields xs) f.0 f.1 (whole_cells xs)

some_left : (k : ℕ) → (k == 0) ≡ false → 0 < k
some_left zero e = absurd cc
some_left (suc k) e = omega arith

ended : (most n : ℕ) (xs : List (List ℕ)) (bytes rest : List ℕ) (left : ℕ) → Sofar most n 0 xs → bytes ≡ concat (fields xs) ++ rest → ended_of (Ok rest) ≡ Err left → Fault most n bytes left
ended most n xs bytes rest left s parts e =
    let g = pass_err (length rest == 0) (length rest) left 0 e in
    trailing_fault most n xs bytes rest left s parts (some_left (length rest) g.0) (sym g.1)

-- what was read before does not change what is behind
behind_more : (item : List ℕ) (r : Result (List (List ℕ) × List ℕ) ℕ) → behind_of (r >>= λ x. Ok (item ∷ x.0, x.1)) ≡ behind_of r
behind_more item (Ok x) = refl
behind_more item (Err left) = refl

items_fault : (most m n i : ℕ) (xs : List (List ℕ)) (before bytes rest : List ℕ) (left : ℕ) → Sofar most n m xs → i ≡ 0 + length xs → before ≡ last_or [] xs → IsBytes rest → bytes ≡ concat (fields xs) ++ rest
    → ended_of (behind_of (items_at most m i before rest)) ≡ Err left → Fault most n bytes left
unfolding items_at base_at
items_fault most zero n i xs before bytes rest left s at is fits parts e = ended most n xs bytes rest left s parts e
items_fault most (suc m) n i xs before bytes rest left s at is fits parts e = go (λ x t u v f p h. items_fault most m n (suc i) (xs ++ x.0 ∷ []) x.0 bytes x.1 left t u v f p h) (cell_at most (base i before) rest) refl e
  where
    same : base i before ≡ base (0 + length xs) (last_or [] xs)
    same = ap (λ (k : ℕ). base k before) at ∙ ap (base (0 + length xs)) is

    go : ((x : List ℕ × List ℕ) → Sofar most n m (xs ++ x.0 ∷ []) → suc i ≡ 0 + length (xs ++ x.0 ∷ []) → x.0 ≡ last_or [] (xs ++ x.0 ∷ []) → IsBytes x.1 → bytes ≡ concat (fields (xs ++ x.0 ∷ [])) ++ x.1
        → ended_of (behind_of (items_at most m (suc i) x.0 x.1)) ≡ Err left → Fault most n bytes left) → (r : Result (List ℕ × List ℕ) ℕ) → cell_at most (base i before) rest ≡ r → ended_of (behind_of (r >>= λ first. items_at most m (suc i) first.0 first.1 >>= λ others. Ok (first.0 ∷ others.0, others.1))) ≡ Err left → Fault most n bytes left
    go again (Err d) read e =
        let d_is : d ≡ left = cc in
        cell_fault most n m xs bytes rest left (record { sofar = s; parts = parts; rest_fits = fits }) (ap (λ (w : List ℕ). cell_at most w rest) (sym same) ∙ (read ∙ ap (λ (k : ℕ). Err k) d_is))
    go again (Ok x) read e =
        let t = cell_takes most (base (0 + length xs) (last_or [] xs)) rest x fits (ap (λ (w : List ℕ). cell_at most w rest) (sym same) ∙ read) in
        let bytes_of : AreBytes x.0 = t.bytes_fit (base_bytes xs s.bytes) in
        let further : ended_of (behind_of (items_at most m (suc i) x.0 x.1)) ≡ Err left = ap ended_of (sym (behind_more x.0 (items_at most m (suc i) x.0 x.1))) ∙ e in
        again x (sofar_push most n m xs x.0 s t.fits bytes_of) (omega (arith, at, length_push xs x.0)) (sym (last_cell 0 [] xs x.0)) t.takes.rest_fits (cell_push xs x.0 bytes rest x.1 parts t.takes.parts) further

pub block_fault : (most n : ℕ) (bytes : List ℕ) (left : ℕ) → most < 2 ^ 32 → IsBytes bytes → ended_of (behind_of (items_at most n 0 [] bytes)) ≡ Err left → IsFaultWithin most n bytes (length bytes - left)
unfolding last_or
block_fault most n bytes left room fits e = items_fault most n n 0 [] [] bytes bytes left (record { room = room; total = all_left n; fits = tt; bytes = tt }) refl refl fits refl e
  where
    all_left : (n : ℕ) → 0 + n ≡ n
    all_left n = omega arith

-- ---- a list's fields are those of its block

cells_bytes : (i : ℕ) (b : List ℕ) (xs : List (List ℕ)) → IsBytes b → IsBytes (cells i b xs) → AllByRecursion AreBytes xs
unfolding cell
cells_bytes i b [] before fits = tt
cells_bytes i b (x ∷ xs) before fits =
    let w : List ℕ = base i b in
    let n : ℕ = shared w x in
    let m : ℕ = length x - n in
    let tail : List ℕ = cells (suc i) x xs in
    let split : ((number n ++ number m) ++ drop n x) ++ tail ≡ number n ++ (number m ++ (drop n x ++ tail)) = append_assoc (number n ++ number m) (drop n x) tail ∙ append_assoc (number n) (number m) (drop n x ++ tail) in
    let first : IsBytes (number m ++ (drop n x ++ tail)) = behind_bytes (number n) (number m ++ (drop n x ++ tail)) (subst IsBytes split fits) in
    let second : IsBytes (drop n x ++ tail) = behind_bytes (number m) (drop n x ++ tail) first in
    let front : IsBytes (take n x) = subst IsBytes (shared_front w x) (IsBytes-take n w (either i b before)) in
    let whole : IsBytes x = subst IsBytes (take-append-drop n x) (bytes_both (take n x) (drop n x) front (bytes_front (drop n x) tail second)) in
    (whole, cells_bytes (suc i) x xs whole (behind_bytes (drop n x) tail second))
  where
    behind_bytes : (xs ys : List ℕ) → IsBytes (xs ++ ys) → IsBytes ys
    behind_bytes xs ys h = subst IsBytes (drop_at xs ys (length xs) refl) (IsBytes-drop (length xs) (xs ++ ys) h)

    either : (i : ℕ) (b : List ℕ) → IsBytes b → IsBytes (base i b)
    either i b h = elim (i % 16 == 0) as (λ t. IsBytes (cond t [] b)) [ true ↦ λ k. omega arith | false ↦ h ]

pub spelled_whole : (most : ℕ) (bytes : List ℕ) (n : ℕ) (items : List (List ℕ)) → IsBytes bytes → SpellsWithin most bytes n items → SpelledWithin most n (fields items) × (bytes ≡ concat (fields items))
unfolding spelling
spelled_whole most bytes n items fits s = (
  record { items = items; count = s.count; fits = s.fits; bytes = cells_bytes 0 [] items (λ k. omega arith) (subst IsBytes s.parts fits); is = refl },
  s.parts ∙ sym (fields_spell items),
)

-- ---- one place

pub one_place : (bytes : List ℕ) (most n a b : ℕ) → most < 2 ^ 32 → IsFaultWithin most n bytes a → IsFaultWithin most n bytes b → a ≡ b
one_place bytes most n a b room p q =
    let f = p.fault in
    let g = q.fault in
    let same = one_front (SpelledWithin most n) [] f.front g.front f.rest g.rest (delimited most n room) (record { begins_f = f.begins; begins_g = g.begins; ends_f = f.ends; ends_g = g.ends; same = sym f.parts ∙ g.parts }) in
    let at : p.field ≡ q.field = places_one (SpelledWithin most n) bytes p.field q.field (delimited most n room) f g in
    p.told ∙ (ap (λ (k : ℕ). cond (is_rest f.front && nat_lt k (length bytes)) (k - 8) k) at ∙ (ap (λ (l : List (List ℕ)). cond (is_rest l && nat_lt q.field (length bytes)) (q.field - 8) q.field) same.0 ∙ sym q.told))

pub no_fault : (most : ℕ) (bytes : List ℕ) (n : ℕ) (items : List (List ℕ)) (left : ℕ) → most < 2 ^ 32 → SpellsWithin most bytes n items → ended_of (behind_of (items_at most n 0 [] bytes)) ≡ Err left → ⊥
no_fault most bytes n items left room s e = never_err 0 left (sym (spelled_behind most n bytes items room s) ∙ e)

-- ---- the answer of a decoder whose reader stopped

pub cause_among : (most n : ℕ) (bytes : List ℕ) (stop : Stop) (answer : CodecNo) → most < 2 ^ 32 → IsBytes bytes → Fails stop (ended_of (behind_of (items_at most n 0 [] bytes))) → IsAmong (length bytes) stop answer → IsCauseWithin most bytes n answer
cause_among most n bytes stops.Memory answer room fits read is = subst (IsCauseWithin most bytes n) (sym is) tt
cause_among most n bytes (stops.Left left) answer room fits read is = subst (IsCauseWithin most bytes n) (sym is) (block_fault most n bytes left room fits read)

pub not_among : (most n : ℕ) (bytes : List ℕ) (items : List (List ℕ)) (stop : Stop) (answer : CodecNo) → most < 2 ^ 32 → SpellsWithin most bytes n items → Fails stop (ended_of (behind_of (items_at most n 0 [] bytes))) → IsAmong (length bytes) stop answer → IsItems (Err answer) items
not_among most n bytes items stops.Memory answer room s read is = subst (λ (a : CodecNo). IsItems (Err a) items) (sym is) tt
not_among most n bytes items (stops.Left left) answer room s read is = absurd (no_fault most bytes n items left room s read)
