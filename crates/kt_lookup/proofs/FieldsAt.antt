-- The fields behind a base file's columns, written and read.
use Rattle.std.proofs.Common.{◌≡◌, ℕ, suc, ◌+◌, ◌-◌, ◌<◌, ◌≤◌, Bool, true, false, cond, ltb, List, [], ◌∷◌, ◌++◌, length, get_or, take, drop, Result, Ok, Err, refl, sym, ap, subst, ◌∙◌, append_assoc, arith}
use Rattle.std.specs.Prelude.{IfOk, MatchResult}
use Rattle.std.specs.List.{flat_map}
use Rattle.std.specs.Str.{bytes_eq}
use Rattle.std.proofs.Math.Seq.{drop-cons}
use Rattle.std.proofs.lemmas.Bool.{le-ltb}
use Rattle.std.proofs.lemmas.List.{drop_all, drop_at, length-append, take-append-drop, take_at}
use Rattle.std.proofs.lemmas.Slice.Eq.{bytes_eq-Decides}
use Rattle.kt_lookup.specs.declared.tails.Differs.{Differs}
use Rattle.kt_lookup.specs.Tail.{and_then, key_fields, fields, joined, spelling, field_at, fields_at, with_offset, used_of}

-- ---- one field

passed : {A : Type 0} (b : Bool) (left : ℕ) (r : Result A ℕ) (x : A) → cond b (Err left) r ≡ Ok x → (b ≡ false) × (r ≡ Ok x)
passed true left r x e = absurd cc
passed false left r x e = (refl, e)

allowed : {A : Type 0} (b : Bool) (left : ℕ) (r : Result A ℕ) (x : A) → cond b r (Err left) ≡ Ok x → (b ≡ true) × (r ≡ Ok x)
allowed true left r x e = (refl, e)
allowed false left r x e = absurd cc

ok_is : {A : Type 0} (x y : A) (r : Result A ℕ) → r ≡ Ok x → r ≡ Ok y → x ≡ y
ok_is x y r p q = cc

field_takes : (field bytes rest : List ℕ) → field_at field bytes ≡ Ok rest → bytes ≡ field ++ rest
unfolding field_at
field_takes field bytes rest e =
    let n = length field in
    let g = passed (ltb (length bytes) n) 0 (cond (bytes_eq (take n bytes) field) (Ok (drop n bytes)) (Err (length bytes))) rest e in
    let h = allowed (bytes_eq (take n bytes) field) (length bytes) (Ok (drop n bytes)) rest g.1 in
    let front : take n bytes ≡ field = (bytes_eq-Decides (take n bytes) field).0 h.0 in
    let behind : drop n bytes ≡ rest = ok_is (drop n bytes) rest (Ok (drop n bytes)) refl h.1 in
    sym (take-append-drop n bytes) ∙ ap (λ (r : List ℕ). r ++ drop n bytes) front ∙ ap (λ (r : List ℕ). field ++ r) behind

field_again : (field rest : List ℕ) → field_at field (field ++ rest) ≡ Ok rest
unfolding field_at
field_again field rest =
    let long : ltb (length (field ++ rest)) (length field) ≡ false = le-ltb _ _ (omega (arith, length-append field rest)) in
    let front = take_at field rest (length field) refl in
    let same : bytes_eq field field ≡ true = (bytes_eq-Decides field field).1 refl in
    rw (long, front, same, drop_at field rest (length field) refl) refl

-- ---- several

behind : (r : Result (List ℕ) ℕ) (f : List ℕ → Result (List ℕ) ℕ) (rest : List ℕ) → and_then r f ≡ Ok rest → (x : List ℕ) × (r ≡ Ok x) × (f x ≡ Ok rest)
behind (Ok x) f rest e = (x, refl, e)
behind (Err left) f rest e = absurd cc

fields_take : (fs : List (List ℕ)) (bytes rest : List ℕ) → fields_at fs bytes ≡ Ok rest → bytes ≡ joined fs ++ rest
unfolding fields_at
fields_take [] bytes rest e = ok_is bytes rest (Ok bytes) refl e
fields_take (f ∷ fs) bytes rest e =
    let a = behind (field_at f bytes) (fields_at fs) rest e in
    field_takes f bytes a.0 a.1 ∙ ap (λ (r : List ℕ). f ++ r) (fields_take fs a.0 rest a.2) ∙ sym (append_assoc f (joined fs) rest)

fields_again : (fs : List (List ℕ)) (rest : List ℕ) → fields_at fs (joined fs ++ rest) ≡ Ok rest
unfolding fields_at
fields_again [] rest = refl
fields_again (f ∷ fs) rest =
    let regrouped : joined (f ∷ fs) ++ rest ≡ f ++ (joined fs ++ rest) = append_assoc f (joined fs) rest in
    ap (λ (b : List ℕ). and_then (field_at f b) (fields_at fs)) regrouped ∙ ap (λ (r : Result (List ℕ) ℕ). and_then r (fields_at fs)) (field_again f (joined fs ++ rest)) ∙ fields_again fs rest

then-assoc : (r : Result (List ℕ) ℕ) (f g : List ℕ → Result (List ℕ) ℕ) → and_then (and_then r f) g ≡ and_then r (λ x. and_then (f x) g)
then-assoc (Ok x) f g = refl
then-assoc (Err left) f g = refl

-- the fields of a key, and then others
pub fields-key : (key : List ℕ) (fs : List (List ℕ)) (bytes : List ℕ) → fields_at (key_fields key ++ fs) bytes ≡ and_then (fields_at (key_fields key) bytes) (fields_at fs)
unfolding fields_at
fields-key key fs bytes = two (field_at _ bytes) (field_at key) (fields_at fs)
  where
    two : (r : Result (List ℕ) ℕ) (f g : List ℕ → Result (List ℕ) ℕ) → and_then r (λ x. and_then (f x) g) ≡ and_then (and_then r (λ x. and_then (f x) (λ y. Ok y))) g
    two (Err left) f g = refl
    two (Ok x) f g = one (f x) g
      where
        one : (r : Result (List ℕ) ℕ) (g : List ℕ → Result (List ℕ) ℕ) → and_then r g ≡ and_then (and_then r (λ y. Ok y)) g
        one (Ok y) g = refl
        one (Err left) g = refl

-- ---- a loop over the keys

keys_from : (index : List (List ℕ)) (i : ℕ) → i < length index → flat_map key_fields (drop i index) ≡ key_fields (get_or index i []) ++ flat_map key_fields (drop (i + 1) index)
keys_from index i lt =
    let more : suc i ≡ i + 1 = omega arith in
    ap (flat_map key_fields) (drop-cons index i [] lt ∙ ap (λ (k : ℕ). get_or index i [] ∷ drop k index) more)

pub key_read : (index : List (List ℕ)) (i : ℕ) (key bytes after : List ℕ) (total : Result (List ℕ) ℕ) → i < length index → key ≡ get_or index i [] → fields_at (key_fields key) bytes ≡ Ok after
    → fields_at (flat_map key_fields (drop i index)) bytes ≡ total → fields_at (flat_map key_fields (drop (i + 1) index)) after ≡ total
key_read index i key bytes after total lt is e so_far =
    let here : fields_at (key_fields (get_or index i [])) bytes ≡ Ok after = ap (λ (k : List ℕ). fields_at (key_fields k) bytes) (sym is) ∙ e in
    let step = ap (λ (fs : List (List ℕ)). fields_at fs bytes) (keys_from index i lt) ∙ fields-key (get_or index i []) (flat_map key_fields (drop (i + 1) index)) bytes in
    sym (ap (λ (r : Result (List ℕ) ℕ). and_then r (fields_at (flat_map key_fields (drop (i + 1) index)))) here) ∙ sym step ∙ so_far

pub key_failed : (index : List (List ℕ)) (i : ℕ) (key bytes : List ℕ) (left : ℕ) (total : Result (List ℕ) ℕ) → i < length index → key ≡ get_or index i [] → fields_at (key_fields key) bytes ≡ Err left
    → fields_at (flat_map key_fields (drop i index)) bytes ≡ total → total ≡ Err left
key_failed index i key bytes left total lt is e so_far =
    let here : fields_at (key_fields (get_or index i [])) bytes ≡ Err left = ap (λ (k : List ℕ). fields_at (key_fields k) bytes) (sym is) ∙ e in
    let step = ap (λ (fs : List (List ℕ)). fields_at fs bytes) (keys_from index i lt) ∙ fields-key (get_or index i []) (flat_map key_fields (drop (i + 1) index)) bytes in
    sym so_far ∙ step ∙ ap (λ (r : Result (List ℕ) ℕ). and_then r (fields_at (flat_map key_fields (drop (i + 1) index)))) here

pub keys_done : (index : List (List ℕ)) (i : ℕ) (bytes : List ℕ) (total : Result (List ℕ) ℕ) → length index ≤ i → fields_at (flat_map key_fields (drop i index)) bytes ≡ total → total ≡ Ok bytes
unfolding fields_at
keys_done index i bytes total le so_far =
    let none : drop i index ≡ [] = drop_all i index le in
    sym so_far ∙ ap (λ (ks : List (List ℕ)). fields_at (flat_map key_fields ks) bytes) none

-- ---- what was used

offset_ok : (total used : ℕ) (r : Result (List ℕ) ℕ) → with_offset total r ≡ Ok used → (rest : List ℕ) × (r ≡ Ok rest) × (total - length rest ≡ used)
offset_ok total used (Ok rest) e = (rest, refl, ok_is (total - length rest) used (Ok (total - length rest)) refl e)
offset_ok total used (Err left) e = absurd cc

pub used_are : (filter : List ℕ) (index : List (List ℕ)) (bytes : List ℕ) (used : ℕ) → used_of filter index bytes ≡ Ok used → bytes ≡ spelling filter index ++ drop used bytes
used_are filter index bytes used e =
    let a = offset_ok (length bytes) used (fields_at (fields filter index) bytes) e in
    let parts : bytes ≡ spelling filter index ++ a.0 = fields_take (fields filter index) bytes a.0 a.1 in
    let n : length bytes ≡ length (spelling filter index) + length a.0 = ap length parts ∙ length-append (spelling filter index) a.0 in
    let k : length (spelling filter index) ≡ used = omega (arith, n, a.2) in
    let rest : drop used bytes ≡ a.0 = ap (drop used) parts ∙ drop_at (spelling filter index) a.0 used k in
    parts ∙ ap (λ (r : List ℕ). spelling filter index ++ r) (sym rest)

pub all_used : (filter : List ℕ) (index : List (List ℕ)) (bytes rest : List ℕ) → bytes ≡ spelling filter index ++ rest → used_of filter index bytes ≡ Ok (length (spelling filter index))
all_used filter index bytes rest e =
    let read : fields_at (fields filter index) bytes ≡ Ok rest = ap (fields_at (fields filter index)) e ∙ fields_again (fields filter index) rest in
    let n : length bytes ≡ length (spelling filter index) + length rest = ap length e ∙ length-append (spelling filter index) rest in
    let k : length bytes - length rest ≡ length (spelling filter index) = omega (arith, n) in
    ap (with_offset (length bytes)) read ∙ ap (λ (n : ℕ). Ok n) k

-- what a check answered
abbrev pub Told : List ℕ → List (List ℕ) → List ℕ → Result ℕ Differs → Type 0
Told filter index bytes r = MatchResult r (λ used. used_of filter index bytes ≡ Ok used) (λ e. used_of filter index bytes ≡ Err e.offset)

pub told_of : (f g : List ℕ) (x y : List (List ℕ)) (bytes : List ℕ) (r : Result ℕ Differs) → f ≡ g → x ≡ y → Told f x bytes r → Told g y bytes r
told_of f g x y bytes r p q told = subst (λ (h : List ℕ). Told h y bytes r) p (subst (λ (z : List (List ℕ)). Told f z bytes r) q told)

pub found_by : (filter : List ℕ) (index : List (List ℕ)) (bytes : List ℕ) (r : Result ℕ Differs) → Told filter index bytes r → IfOk r (λ used. bytes ≡ spelling filter index ++ drop used bytes)
found_by filter index bytes (Ok used) e = used_are filter index bytes used e
found_by filter index bytes (Err d) e = tt

not_both : (r : Result ℕ ℕ) (n m : ℕ) → r ≡ Ok n → r ≡ Err m → ⊥
not_both r n m p q = absurd cc

pub only_by : (filter : List ℕ) (index : List (List ℕ)) (bytes rest : List ℕ) (r : Result ℕ Differs) → Told filter index bytes r → bytes ≡ spelling filter index ++ rest → r ≡ Ok (length (spelling filter index))
only_by filter index bytes rest (Ok used) e is = ap (λ (n : ℕ). Ok n) (ok_is used (length (spelling filter index)) (used_of filter index bytes) e (all_used filter index bytes rest is))
only_by filter index bytes rest (Err d) e is = absurd (not_both (used_of filter index bytes) (length (spelling filter index)) d.offset (all_used filter index bytes rest is) e)
