-- Where a block can't be read, the bytes have their first fault.
use Rattle.std.proofs.Common.{◌≡◌, ℕ, zero, suc, ◌+◌, ◌^◌, ◌<◌, ◌≤◌, true, false, cond, eqb, List, [], ◌∷◌, ◌++◌, length, get_or, take, map, Result, Ok, Err, refl, sym, ap, subst, ◌∙◌, append_assoc, arith, inl, inr, length-append}
use Rattle.std.specs.Int.{w16, w32}
use Rattle.std.specs.List.{flat_map, concat, AllByRecursion}
use Rattle.std.proofs.lemmas.List.{append-nil, drop_at, take_at, length_push, nil_from_length}
use Rattle.std.proofs.lemmas.Grind.{flat_map-append}
use Rattle.std.proofs.lemmas.List.Folds.{concat-append}
use Rattle.kt_bytes.specs.Places.{Begins, GoesOn, Stands}
use Rattle.kt_bytes.specs.Reading.{◌>>=◌, number_at, checked_at, bytes_at}
use Rattle.kt_bytes.proofs.Numbers.{IsBytes, bind_ok, ok_is, IsBytes-drop, bytes_takes}
use Rattle.kt_bytes.proofs.Places.{goes_on}
use Rattle.kt_bytes.proofs.Faults.{FaultLeft, bind_err, guard_err, pass_err, checked_fails, bytes_fail, is_missing, is_wrong, is_wrong_field, never_err, number_long}
use Rattle.kt_bytes.proofs.Fronts.{parts_push, no_bool}
use Rattle.kt_dict.specs.Spelling.{AreBytes, has, place, dictionary, short, number, entry, code, fields, spelling, SpelledWithin}
use Rattle.kt_dict.specs.Writing.{text}
use Rattle.kt_dict.specs.Reading.{SpellsWithin}
use Rattle.kt_dict.specs.Items.{items_of}
use Rattle.kt_dict.specs.Walk.{text_at, entry_at, is_count, count_at, entries_at, is_code, code_at, used_with, codes_at, block_at, is_length}
use Rattle.kt_dict.proofs.Words.{has_place}
use Rattle.kt_dict.proofs.Fields.{length-short, length-number, number_is, number_reads, short_takes, short_again, bytes_front, spelling_is, concat_entries}
use Rattle.kt_dict.proofs.Fresh.{upto_test, within_length, can_length, Limit, Good, good_nil, good_push, fresh, fresh_length, two_bytes}
use Rattle.kt_dict.proofs.Places.{entries_front, codes_front, counted, begins_entries, begins_codes, Coded, coded_step, code_step, code_goes_on, codes_push, next_length, next_bytes, next_code, no_more, delimited, whole_ends, all_had, one_spelling}
use Rattle.kt_dict.proofs.Blocks.{entry_takes, entries_take, counts, block_again}

abbrev Fault : ℕ → ℕ → List ℕ → ℕ → Type 0
Fault most n bytes left = FaultLeft (SpelledWithin most n) bytes left

abbrev Read : Type 0
Read = Result (List (List ℕ) × List ℕ) ℕ

-- ---- the number of entries

nothing_before : (n : ℕ) → 0 + n ≡ n
nothing_before n = omega arith

-- a list of n items has some number of entries
some_count : (n : ℕ) → (d : ℕ) × (is_count n d ≡ true)
some_count zero = (0, refl)
some_count (suc n) = (1, one_count (suc n) (omega arith))
  where
    one_count : (m : ℕ) → 1 ≤ m → is_count m 1 ≡ true
    one_count m le = rw (upto_test 1 m le) refl

-- the number of entries of a list that goes on
first_field : (most n : ℕ) (f : List ℕ) → GoesOn (SpelledWithin most n) [] f → (d : ℕ) × (d < 2 ^ 16) × (is_count n d ≡ true) × (f ≡ short d)
first_field most n f on =
    let s = on.1 in
    let d : ℕ = length (dictionary s.items) in
    (d, omega (arith, s.fits.few), subst (λ (k : ℕ). is_count k d ≡ true) s.count (counts s.items s.fits.few), head_is s.is)
  where
    head_is : {x y : List ℕ} {xs ys : List (List ℕ)} → x ∷ xs ≡ y ∷ ys → x ≡ y
    head_is e = cc

entries_go_on : (most n m : ℕ) (known : List (List ℕ)) (x : List ℕ) → Good most known → has known x ≡ false → length x ≤ most → AreBytes x → is_count n (length known + suc m) ≡ true
    → Begins (SpelledWithin most n) (entries_front (length known + suc m) known ++ number (length x) ∷ x ∷ [])
entries_go_on most n m known x good new lt bytes e =
    let more : List (List ℕ) = known ++ x ∷ [] in
    let size : length known + suc m ≡ length more + m = omega (arith, length_push known x) in
    let b = begins_entries most n m more (good_push known x good new lt bytes) (subst (λ (k : ℕ). is_count n k ≡ true) size e) in
    let is : entries_front (length more + m) more ≡ entries_front (length known + suc m) known ++ number (length x) ∷ x ∷ [] = ap (λ (k : ℕ). short k ∷ flat_map entry more) (sym size) ∙ ap (λ (t : List (List ℕ)). short (length known + suc m) ∷ t) (flat_map-append entry known (x ∷ [])) in
    subst (Begins (SpelledWithin most n)) is b

length_goes : (most n m : ℕ) (known : List (List ℕ)) (x : List ℕ) → Good most known → has known x ≡ false → length x ≤ most → AreBytes x → is_count n (length known + suc m) ≡ true → GoesOn (SpelledWithin most n) (entries_front (length known + suc m) known) (number (length x))
length_goes most n m known x good new lt bytes e = goes_on (SpelledWithin most n) (entries_front (length known + suc m) known) (number (length x)) (x ∷ []) (entries_go_on most n m known x good new lt bytes e)

bytes_go : (most n m : ℕ) (known : List (List ℕ)) (x : List ℕ) → Good most known → has known x ≡ false → length x ≤ most → AreBytes x → is_count n (length known + suc m) ≡ true
    → GoesOn (SpelledWithin most n) (entries_front (length known + suc m) known ++ number (length x) ∷ []) x
bytes_go most n m known x good new lt bytes e =
    let front : List (List ℕ) = entries_front (length known + suc m) known in
    subst (Begins (SpelledWithin most n)) (sym (append_assoc front (number (length x) ∷ []) (x ∷ []))) (entries_go_on most n m known x good new lt bytes e)

-- ---- what stands at the front of bytes

number_stands : (n : ℕ) (bytes : List ℕ) (x : ℕ × List ℕ) → n < 2 ^ 32 → number_at w32 bytes ≡ Ok x → Stands (number n) bytes → x.0 ≡ n
number_stands n bytes x lt read s =
    let again : number_at w32 bytes ≡ Ok (n, s.0) = ap (number_at w32) s.1 ∙ number_reads n s.0 lt in
    ap (λ (y : ℕ × List ℕ). y.0) (ok_is x (n, s.0) (sym read ∙ again))

short_stands : (n : ℕ) (bytes : List ℕ) (x : ℕ × List ℕ) → n < 2 ^ 16 → number_at w16 bytes ≡ Ok x → Stands (short n) bytes → x.0 ≡ n
short_stands n bytes x lt read s =
    let again : number_at w16 bytes ≡ Ok (n, s.0) = ap (number_at w16) s.1 ∙ short_again n s.0 lt in
    ap (λ (y : ℕ × List ℕ). y.0) (ok_is x (n, s.0) (sym read ∙ again))

-- ---- an entry

-- what is known where an entry is read
record AtEntry (most n m : ℕ) (known : List (List ℕ)) (bytes rest : List ℕ) : Type 0 where
  pub good : Good most known
  pub counts : is_count n (length known + suc m) ≡ true
  pub parts : bytes ≡ concat (entries_front (length known + suc m) known) ++ rest
  pub rest_fits : IsBytes rest

few_known : (n m : ℕ) (known : List (List ℕ)) → is_count n (length known + suc m) ≡ true → length known < 4096
few_known n m known e = omega (arith, (counted n (length known + suc m) e).few)

length_fault : (most n m : ℕ) (known : List (List ℕ)) (bytes rest : List ℕ) (left : ℕ) → AtEntry most n m known bytes rest → checked_at w32 (is_length most known) rest ≡ Err left → Fault most n bytes left
length_fault most n m known bytes rest left s e =
    let d : ℕ = length known + suc m in
    let front : List (List ℕ) = entries_front d known in
    let few = few_known n m known s.counts in
    let x = two_bytes known (omega arith) in
    let w : List ℕ = number (length x.0) in
    let wide : length w ≡ 4 = length-number (length x.0) in
    let goes = length_goes most n m known x.0 s.good x.1.is_new (omega (arith, x.1.length_is, s.good.limit.two)) x.1.bytes s.counts in
    elim (checked_fails w32 (is_length most known) rest left e) [
      | inl short ↦ is_missing (SpelledWithin most n) front bytes rest w left (delimited most n s.good.limit.room) s.parts short.1 goes (omega (arith, short.0)) (whole_ends most n front w goes)
      | inr got ↦
          let long : 4 ≤ length rest = number_long w32 rest got.0 got.1 in
          is_wrong_field (SpelledWithin most n) front bytes rest w left (delimited most n s.good.limit.room) s.parts got.3 goes (omega arith) (λ field on stands.
          let next = next_length most n d known field (counted n d s.counts).few (omega arith) on in
          let same : got.0.0 ≡ length next.x = number_stands (length next.x) rest got.0 (omega (arith, next.small, s.good.limit.room)) got.1 (stands.0, stands.1 ∙ ap (λ (t : List ℕ). t ++ stands.0) next.field) in
          no_bool (is_length most known got.0.0) got.2 (ap (is_length most known) same ∙ can_length most known (length next.x) next.small (fresh_length known next.x next.fresh.bytes next.fresh.is_new))) (omega arith)
    ]

bytes_fault : (most n m len : ℕ) (known : List (List ℕ)) (bytes rest : List ℕ) (left : ℕ) → AtEntry most n m known bytes (number len ++ rest) → len < 2 ^ 32 → is_length most known len ≡ true → length rest < len → left ≡ 0 → Fault most n bytes left
bytes_fault most n m len known bytes rest left s small stands lt none =
    let d : ℕ = length known + suc m in
    let front : List (List ℕ) = entries_front d known ++ number len ∷ [] in
    let few = few_known n m known s.counts in
    let open_ = within_length most known len stands in
    let x = fresh known len (omega arith) open_.1 in
    let goes : GoesOn (SpelledWithin most n) front x.0 = subst (λ (k : ℕ). GoesOn (SpelledWithin most n) (entries_front d known ++ number k ∷ []) x.0) x.1.length_is (bytes_go most n m known x.0 s.good x.1.is_new (omega (arith, x.1.length_is, open_.0)) x.1.bytes s.counts) in
    is_missing (SpelledWithin most n) front bytes rest x.0 left (delimited most n s.good.limit.room) (parts_push (entries_front d known) (number len) bytes (number len ++ rest) rest s.parts refl) none goes (omega (arith, x.1.length_is)) (whole_ends most n front x.0 goes)

some_bytes : (known : List (List ℕ)) (x w after : List ℕ) → length w ≡ length x → has known x ≡ true → has known w ≡ false → 0 < length (x ++ after)
some_bytes known [] w after len old new = absurd (no_bool (has known w) new (ap (has known) (nil_from_length w len) ∙ old))
some_bytes known (b ∷ x) w after len old new = omega arith

repeat_fault : (most n m len : ℕ) (known : List (List ℕ)) (bytes x after : List ℕ) (left : ℕ) → AtEntry most n m known bytes (number len ++ (x ++ after)) → len < 2 ^ 32 → is_length most known len ≡ true → length x ≡ len → AreBytes x → has known x ≡ true
    → left ≡ length x + length after → Fault most n bytes left
repeat_fault most n m len known bytes x after left s small stands size fits old at =
    let d : ℕ = length known + suc m in
    let front : List (List ℕ) = entries_front d known ++ number len ∷ [] in
    let few = few_known n m known s.counts in
    let open_ = within_length most known len stands in
    let w = fresh known len (omega arith) open_.1 in
    let goes : GoesOn (SpelledWithin most n) front w.0 = subst (λ (k : ℕ). GoesOn (SpelledWithin most n) (entries_front d known ++ number k ∷ []) w.0) w.1.length_is (bytes_go most n m known w.0 s.good w.1.is_new (omega (arith, w.1.length_is, open_.0)) w.1.bytes s.counts) in
    is_wrong_field (SpelledWithin most n) front bytes (x ++ after) w.0 left (delimited most n s.good.limit.room) (parts_push (entries_front d known) (number len) bytes (number len ++ (x ++ after)) (x ++ after) s.parts refl) (omega (arith, length-append x after)) goes (omega (arith, w.1.length_is, length-append x after)) (λ field on there.
    let next = next_bytes most n d len known field (counted n d s.counts).few (omega arith) s.good.limit.room small on in
    let whole : x ++ after ≡ field ++ there.0 = there.1 in
    let same : field ≡ x = sym (take_at field there.0 len next.length_is) ∙ (ap (take len) (sym whole) ∙ take_at x after len size) in
    no_bool (has known field) next.is_new (ap (has known) same ∙ old)) (some_bytes known x w.0 after (w.1.length_is ∙ sym size) old w.1.is_new)

entry_fault : (most n m : ℕ) (known : List (List ℕ)) (bytes rest : List ℕ) (left : ℕ) → AtEntry most n m known bytes rest → entry_at most known rest ≡ Err left → Fault most n bytes left
unfolding entry_at text_at
entry_fault most n m known bytes rest left s e =
    elim (bind_err (checked_at w32 (is_length most known) rest >>= λ len. bytes_at len.0 len.1) (λ x. cond (has known x.0) (Err (length x.0 + length x.1)) (Ok x)) left e) [
      | inl text_failed ↦ elim (bind_err (checked_at w32 (is_length most known) rest) (λ len. bytes_at len.0 len.1) left text_failed) [
        | inl length_failed ↦ length_fault most n m known bytes rest left s length_failed
        | inr got ↦
            let len = got.0 in
            let t = number_is (is_length most known) rest len s.rest_fits got.1 in
            let short = bytes_fail len.0 len.1 left got.2 in
            bytes_fault most n m len.0 known bytes len.1 left (record { good = s.good; counts = s.counts; parts = s.parts ∙ ap (λ (r : List ℕ). concat (entries_front (length known + suc m) known) ++ r) t.0.parts; rest_fits = subst IsBytes t.0.parts s.rest_fits }) t.2 t.1 short.0 short.1
      ]
      | inr got ↦
          let x = got.0 in
          let a = bind_ok (checked_at w32 (is_length most known) rest) (λ len. bytes_at len.0 len.1) x got.1 in
          let len = a.0 in
          let t = number_is (is_length most known) rest len s.rest_fits a.1 in
          let b = bytes_takes len.0 len.1 x t.0.rest_fits a.2 in
          let whole : rest ≡ number len.0 ++ (x.0 ++ x.1) = t.0.parts ∙ ap (λ (r : List ℕ). number len.0 ++ r) b.0.parts in
          let g = guard_err (has known x.0) (length x.0 + length x.1) left (Ok x) got.2 in
          elim g [
            | inl old ↦ repeat_fault most n m len.0 known bytes x.0 x.1 left (record { good = s.good; counts = s.counts; parts = s.parts ∙ ap (λ (r : List ℕ). concat (entries_front (length known + suc m) known) ++ r) whole; rest_fits = subst IsBytes whole s.rest_fits })
                t.2 t.1 b.1 (bytes_front x.0 x.1 (subst IsBytes b.0.parts t.0.rest_fits)) old.0 (sym old.1)
            | inr fine ↦ absurd (never_err x left fine.1)
          ]
    ]

-- one entry more
front_push : (n d : ℕ) (known : List (List ℕ)) (x bytes rest after : List ℕ) → bytes ≡ concat (entries_front d known) ++ rest → rest ≡ text x ++ after → bytes ≡ concat (entries_front d (known ++ x ∷ [])) ++ after
unfolding text
front_push n d known x bytes rest after p q =
    let more : entries_front d (known ++ x ∷ []) ≡ entries_front d known ++ entry x = ap (λ (t : List (List ℕ)). short d ∷ t) (flat_map-append entry known (x ∷ [])) in
    let two : concat (entry x) ≡ number (length x) ++ x = ap (λ (t : List ℕ). number (length x) ++ t) (append-nil x) in
    let all : concat (entries_front d (known ++ x ∷ [])) ≡ concat (entries_front d known) ++ (number (length x) ++ x) = ap concat more ∙ (concat-append (entries_front d known) (entry x) ∙ ap (λ (t : List ℕ). concat (entries_front d known) ++ t) two) in
    p ∙ (ap (λ (t : List ℕ). concat (entries_front d known) ++ t) q ∙ (sym (append_assoc (concat (entries_front d known)) (number (length x) ++ x) after) ∙ ap (λ (t : List ℕ). t ++ after) (sym all)))

entries_fault : (most m n : ℕ) (known : List (List ℕ)) (bytes rest : List ℕ) (left : ℕ) → Good most known → is_count n (length known + m) ≡ true → IsBytes rest → bytes ≡ concat (entries_front (length known + m) known) ++ rest
    → entries_at most m known rest ≡ Err left → Fault most n bytes left
unfolding entries_at
entries_fault most zero n known bytes rest left good counts fits parts e = absurd (never_err (known, rest) left e)
entries_fault most (suc m) n known bytes rest left good counts fits parts e =
    elim (bind_err (entry_at most known rest) (λ x. entries_at most m (known ++ x.0 ∷ []) x.1) left e) [
      | inl failed ↦ entry_fault most n m known bytes rest left (record { good = good; counts = counts; parts = parts; rest_fits = fits }) failed
      | inr got ↦
          let x = got.0 in
          let t = entry_takes most known rest x fits got.1 in
          let size : length known + suc m ≡ length (known ++ x.0 ∷ []) + m = omega (arith, length_push known x.0) in
          entries_fault most m n (known ++ x.0 ∷ []) bytes x.1 left (good_push known x.0 good t.is_new t.taken.short t.taken.bytes_fit) (subst (λ (k : ℕ). is_count n k ≡ true) size counts) t.taken.takes.rest_fits
          (subst (λ (k : ℕ). bytes ≡ concat (entries_front k (known ++ x.0 ∷ [])) ++ x.1) size (front_push n (length known + suc m) known x.0 bytes rest x.1 parts t.taken.takes.parts)) got.2
    ]

-- ---- a code

code_fault : (most n m used : ℕ) (known items : List (List ℕ)) (bytes rest : List ℕ) (left : ℕ) → Coded most n (suc m) used known items → bytes ≡ concat (codes_front known items) ++ rest → checked_at w16 (is_code m (length known) used) rest ≡ Err left → Fault most n bytes left
code_fault most n m used known items bytes rest left s parts e =
    let front : List (List ℕ) = codes_front known items in
    let w = code_goes_on most n m used known items s in
    elim (checked_fails w16 (is_code m (length known) used) rest left e) [
      | inl short ↦ is_missing (SpelledWithin most n) front bytes rest w.0 left (delimited most n s.good.limit.room) parts short.1 w.2 (omega (arith, short.0, w.1)) (whole_ends most n front w.0 w.2)
      | inr got ↦
          let long : 2 ≤ length rest = number_long w16 rest got.0 got.1 in
          is_wrong_field (SpelledWithin most n) front bytes rest w.0 left (delimited most n s.good.limit.room) parts got.3 w.2 (omega (arith, w.1)) (λ field on stands.
          let next = next_code most n m used known items field s on in
          let same : got.0.0 ≡ next.code = short_stands next.code rest got.0 next.small got.1 (stands.0, stands.1 ∙ ap (λ (t : List ℕ). t ++ stands.0) next.field) in
          no_bool (is_code m (length known) used got.0.0) got.2 (ap (is_code m (length known) used) same ∙ next.stands)) (omega arith)
    ]

codes_fault : (most m n used : ℕ) (known items : List (List ℕ)) (codes bytes rest : List ℕ) (left : ℕ) → Coded most n m used known items → IsBytes rest → bytes ≡ concat (codes_front known items) ++ rest → codes_at m (length known) used codes rest ≡ Err left → Fault most n bytes left
unfolding codes_at code_at
codes_fault most zero n used known items codes bytes rest left s fits parts e = absurd (never_err (codes, rest) left e)
codes_fault most (suc m) n used known items codes bytes rest left s fits parts e =
    elim (bind_err (checked_at w16 (is_code m (length known) used) rest) (λ c. codes_at m (length known) (used_with used c.0) (codes ++ c.0 ∷ []) c.1) left e) [
      | inl failed ↦ code_fault most n m used known items bytes rest left s parts failed
      | inr got ↦
          let c = got.0 in
          let t = short_takes (is_code m (length known) used) rest c fits got.1 in
          let step = code_step m known used c.0 s.good.own s.within s.enough t.1 in
          let next = parts_push (codes_front known items) (short c.0) bytes rest c.1 parts t.0.parts in
          codes_fault most m n (used_with used c.0) known (items ++ get_or known c.0 [] ∷ []) (codes ++ c.0 ∷ []) bytes c.1 left (coded_step most n m used c.0 known items s t.1) t.0.rest_fits
          (subst (λ (f : List (List ℕ)). bytes ≡ concat f ++ c.1) (sym (codes_push known items c.0 s.good.own step.there)) next) got.2
    ]

-- the items whose codes were read
record Ends (most n : ℕ) (known : List (List ℕ)) (bytes rest : List ℕ) : Type 0 where
  pub items : List (List ℕ)
  pub used : ℕ
  pub coded : Coded most n 0 used known items
  pub parts : bytes ≡ concat (codes_front known items) ++ rest

codes_end : (most m n used : ℕ) (known items : List (List ℕ)) (codes bytes rest : List ℕ) (x : List ℕ × List ℕ) → Coded most n m used known items → IsBytes rest → bytes ≡ concat (codes_front known items) ++ rest → codes_at m (length known) used codes rest ≡ Ok x → Ends most n known bytes x.1
unfolding codes_at code_at
codes_end most zero n used known items codes bytes rest x s fits parts e =
    subst (λ (y : List ℕ × List ℕ). Ends most n known bytes y.1) (ok_is (codes, rest) x e) (record { items = items; used = used; coded = s; parts = parts })
codes_end most (suc m) n used known items codes bytes rest x s fits parts e =
    let a = bind_ok (checked_at w16 (is_code m (length known) used) rest) (λ c. codes_at m (length known) (used_with used c.0) (codes ++ c.0 ∷ []) c.1) x e in
    let c = a.0 in
    let t = short_takes (is_code m (length known) used) rest c fits a.1 in
    let step = code_step m known used c.0 s.good.own s.within s.enough t.1 in
    let next = parts_push (codes_front known items) (short c.0) bytes rest c.1 parts t.0.parts in
    codes_end most m n (used_with used c.0) known (items ++ get_or known c.0 [] ∷ []) (codes ++ c.0 ∷ []) bytes c.1 x (coded_step most n m used c.0 known items s t.1) t.0.rest_fits
    (subst (λ (f : List (List ℕ)). bytes ≡ concat f ++ c.1) (sym (codes_push known items c.0 s.good.own step.there)) next) a.2

trailing_fault : (most n : ℕ) (known : List (List ℕ)) (bytes rest : List ℕ) (left : ℕ) → Ends most n known bytes rest → 0 < length rest → left ≡ length rest → Fault most n bytes left
trailing_fault most n known bytes rest left s some at =
    is_wrong (SpelledWithin most n) (codes_front known s.items) bytes rest left s.parts at (begins_codes most n 0 s.used known s.items s.coded)
    (λ field on. absurd (no_more most n s.used known s.items field s.coded on)) (λ field on stands. no_more most n s.used known s.items field s.coded on) some

-- ---- the whole block

count_fault : (most n : ℕ) (bytes : List ℕ) (left : ℕ) → Limit most → checked_at w16 (is_count n) bytes ≡ Err left → Fault most n bytes left
count_fault most n bytes left limit e =
    let d = some_count n in
    let b = begins_entries most n d.0 [] (good_nil limit) (subst (λ (k : ℕ). is_count n k ≡ true) (sym (nothing_before d.0)) d.1) in
    let w : List ℕ = short (0 + d.0) in
    let goes : GoesOn (SpelledWithin most n) [] w = b in
    let two = length-short (0 + d.0) in
    elim (checked_fails w16 (is_count n) bytes left e) [
      | inl missing ↦ is_missing (SpelledWithin most n) [] bytes bytes w left (delimited most n limit.room) refl missing.1 goes (omega (arith, missing.0)) (whole_ends most n [] w goes)
      | inr got ↦
          let long : 2 ≤ length bytes = number_long w16 bytes got.0 got.1 in
          is_wrong_field (SpelledWithin most n) [] bytes bytes w left (delimited most n limit.room) refl got.3 goes (omega arith) (λ field on stands.
          let next = first_field most n field on in
          let same : got.0.0 ≡ next.0 = short_stands next.0 bytes got.0 next.1 got.1 (stands.0, stands.1 ∙ ap (λ (t : List ℕ). t ++ stands.0) next.3) in
          no_bool (is_count n got.0.0) got.2 (ap (is_count n) same ∙ next.2)) (omega arith)
    ]

pub block_fault : (most n : ℕ) (bytes : List ℕ) (left : ℕ) → Limit most → IsBytes bytes → block_at most n bytes ≡ Err left → Fault most n bytes left
unfolding block_at count_at
block_fault most n bytes left limit fits e =
    elim (bind_err (checked_at w16 (is_count n) bytes) (λ d. entries_at most d.0 [] d.1 >>= λ known. codes_at n (length known.0) 0 [] known.1 >>= λ all. cond {A = Read} (eqb (length all.1) 0) (Ok (known.0, all.0)) (Err (length all.1))) left e) [
      | inl failed ↦ count_fault most n bytes left limit failed
      | inr got ↦ behind_count got.0 got.1 got.2
    ]
  where
    at_end : (known : List (List ℕ)) (codes rest : List ℕ) → Ends most n known bytes rest → cond {A = Read} (eqb (length rest) 0) (Ok (known, codes)) (Err (length rest)) ≡ Err left → Fault most n bytes left
    at_end known codes rest s e =
        let g = pass_err (eqb (length rest) 0) (length rest) left (known, codes) e in
        trailing_fault most n known bytes rest left s (above_zero (length rest) g.0) (sym g.1)
      where
        above_zero : (k : ℕ) → eqb k 0 ≡ false → 0 < k
        above_zero zero e = absurd cc
        above_zero (suc k) e = omega arith

    behind_entries : (known : List (List ℕ)) (rest : List ℕ) → Good most known → is_count n (length known) ≡ true → IsBytes rest → bytes ≡ concat (codes_front known []) ++ rest
        → (codes_at n (length known) 0 [] rest >>= λ all. cond {A = Read} (eqb (length all.1) 0) (Ok (known, all.0)) (Err (length all.1))) ≡ Err left → Fault most n bytes left
    behind_entries known rest good counts fits parts e =
        let s : Coded most n n 0 known [] = record { good = good; counts = counts; total = nothing_before n; within = omega arith; enough = omega (arith, (counted n (length known) counts).room); so_far = refl } in
        elim (bind_err (codes_at n (length known) 0 [] rest) (λ all. cond {A = Read} (eqb (length all.1) 0) (Ok (known, all.0)) (Err (length all.1))) left e) [
          | inl failed ↦ codes_fault most n n 0 known [] [] bytes rest left s fits parts failed
          | inr got ↦ at_end known got.0.0 got.0.1 (codes_end most n n 0 known [] [] bytes rest got.0 s fits parts got.1) got.2
        ]

    behind_count : (d : ℕ × List ℕ) → checked_at w16 (is_count n) bytes ≡ Ok d → (entries_at most d.0 [] d.1 >>= λ known. codes_at n (length known.0) 0 [] known.1 >>= λ all. cond {A = Read} (eqb (length all.1) 0) (Ok (known.0, all.0)) (Err (length all.1))) ≡ Err left → Fault most n bytes left
    behind_count d read e =
        let t = short_takes (is_count n) bytes d fits read in
        let zero_more : d.0 ≡ 0 + d.0 = sym (nothing_before d.0) in
        let first : concat (entries_front d.0 []) ≡ short d.0 = append-nil (short d.0) in
        let parts : bytes ≡ concat (entries_front d.0 []) ++ d.1 = t.0.parts ∙ ap (λ (r : List ℕ). r ++ d.1) (sym first) in
        elim (bind_err (entries_at most d.0 [] d.1) (λ known. codes_at n (length known.0) 0 [] known.1 >>= λ all. cond {A = Read} (eqb (length all.1) 0) (Ok (known.0, all.0)) (Err (length all.1))) left e) [
          | inl failed ↦ entries_fault most d.0 n [] bytes d.1 left (good_nil limit) (subst (λ (k : ℕ). is_count n k ≡ true) zero_more t.1) t.0.rest_fits (subst (λ (k : ℕ). bytes ≡ concat (entries_front k []) ++ d.1) zero_more parts) failed
          | inr got ↦
              let known : List (List ℕ) = got.0.0 in
              let r = entries_take most d.0 [] d.1 got.0 t.0.rest_fits (good_nil limit) got.1 in
              let size : length known ≡ d.0 = ap length r.is ∙ r.count in
              let all : bytes ≡ (short d.0 ++ flat_map text known) ++ got.0.1 = t.0.parts ∙ (ap (λ (z : List ℕ). short d.0 ++ z) (r.takes.parts ∙ ap (λ (z : List (List ℕ)). flat_map text z ++ got.0.1) (sym r.is)) ∙ sym (append_assoc (short d.0) (flat_map text known) got.0.1)) in
              let front : concat (codes_front known []) ≡ short (length known) ++ (flat_map text known ++ []) = ap (λ (t : List ℕ). short (length known) ++ t) (concat_entries known []) in
              let bare : concat (codes_front known []) ≡ short d.0 ++ flat_map text known = front ∙ (ap (λ (t : List ℕ). short (length known) ++ t) (append-nil (flat_map text known)) ∙ ap (λ (k : ℕ). short k ++ flat_map text known) size) in
              behind_entries known got.0.1 r.good (subst (λ (k : ℕ). is_count n k ≡ true) (sym size) t.1) r.takes.rest_fits (all ∙ ap (λ (z : List ℕ). z ++ got.0.1) (sym bare)) got.2
        ]

-- ---- what the answer says

entries_bytes : (ds : List (List ℕ)) (rest : List ℕ) → IsBytes (flat_map text ds ++ rest) → AllByRecursion AreBytes ds
unfolding text
entries_bytes [] rest h = tt
entries_bytes (d ∷ ds) rest h =
    let split : flat_map text (d ∷ ds) ++ rest ≡ number (length d) ++ (d ++ (flat_map text ds ++ rest)) =
    append_assoc (number (length d) ++ d) (flat_map text ds) rest ∙ append_assoc (number (length d)) d (flat_map text ds ++ rest) in
    let behind = bytes_behind (number (length d)) (d ++ (flat_map text ds ++ rest)) (subst IsBytes split h) in
    (bytes_front d (flat_map text ds ++ rest) behind, entries_bytes ds rest (bytes_behind d (flat_map text ds ++ rest) behind))
  where
    bytes_behind : (xs ys : List ℕ) → IsBytes (xs ++ ys) → IsBytes ys
    bytes_behind xs ys h = subst IsBytes (drop_at xs ys (length xs) refl) (IsBytes-drop (length xs) (xs ++ ys) h)

spelled_bytes : (items : List (List ℕ)) (bytes : List ℕ) → IsBytes bytes → bytes ≡ spelling items → AllByRecursion AreBytes (dictionary items)
spelled_bytes items bytes fits e =
    let ds : List (List ℕ) = dictionary items in
    let codes : List ℕ = flat_map (code ds) items in
    let is : bytes ≡ short (length ds) ++ (flat_map text ds ++ codes) = e ∙ (spelling_is items ∙ append_assoc (short (length ds)) (flat_map text ds) codes) in
    entries_bytes ds codes (subst IsBytes (drop_at (short (length ds)) (flat_map text ds ++ codes) 2 (length-short (length ds))) (IsBytes-drop 2 (short (length ds) ++ (flat_map text ds ++ codes)) (subst IsBytes is fits)))

-- a list's fields are those of its block
pub spelled_whole : (most : ℕ) (bytes : List ℕ) (n : ℕ) (items : List (List ℕ)) → IsBytes bytes → SpellsWithin most bytes n items → SpelledWithin most n (fields items) × (bytes ≡ concat (fields items))
unfolding spelling
spelled_whole most bytes n items fits s = (record { items = items; count = s.count; fits = s.fits; bytes = spelled_bytes items bytes fits s.parts; is = refl }, s.parts)

spelled_read : (most : ℕ) (bytes : List ℕ) (n : ℕ) (items : List (List ℕ)) → most < 2 ^ 32 → IsBytes bytes → SpellsWithin most bytes n items → block_at most n bytes ≡ Ok (dictionary items, map (place (dictionary items)) items)
spelled_read most bytes n items room fits s =
    ap (λ (b : List ℕ). block_at most n b) s.parts ∙ (ap (λ (k : ℕ). block_at most k (spelling items)) (sym s.count) ∙ block_again most items room s.fits (spelled_bytes items bytes fits s.parts))

-- the entries of its codes are the items
items_again : (known items : List (List ℕ)) → AllByRecursion (λ x. has known x ≡ true) items → items_of known (map (place known) items) ≡ items
items_again known [] all = refl
items_again known (x ∷ items) all = let p = has_place known x all.0 in ap (λ (y : List ℕ). y ∷ items_of known (map (place known) items)) p.1 ∙ ap (λ (t : List (List ℕ)). x ∷ t) (items_again known items all.1)

pub read_items : (most : ℕ) (bytes : List ℕ) (n : ℕ) (items : List (List ℕ)) (x : List (List ℕ) × List ℕ) → most < 2 ^ 32 → IsBytes bytes → SpellsWithin most bytes n items → block_at most n bytes ≡ Ok x → items_of x.0 x.1 ≡ items
read_items most bytes n items x room fits s e =
    ap (λ (y : List (List ℕ) × List ℕ). items_of y.0 y.1) (ok_is x (dictionary items, map (place (dictionary items)) items) (sym e ∙ spelled_read most bytes n items room fits s))
    ∙ items_again (dictionary items) items (all_had [] items)

pub no_fault : (most : ℕ) (bytes : List ℕ) (n : ℕ) (items : List (List ℕ)) (left : ℕ) → most < 2 ^ 32 → IsBytes bytes → SpellsWithin most bytes n items → block_at most n bytes ≡ Err left → ⊥
no_fault most bytes n items left room fits s e = never_err (dictionary items, map (place (dictionary items)) items) left (sym (spelled_read most bytes n items room fits s) ∙ e)

pub one_list : (most : ℕ) (bytes : List ℕ) (n : ℕ) (a b : List (List ℕ)) → most < 2 ^ 32 → SpellsWithin most bytes n a → SpellsWithin most bytes n b → a ≡ b
unfolding spelling
one_list most bytes n a b room p q = one_spelling most n a b room p.fits q.fits p.count q.count (sym p.parts ∙ q.parts)
