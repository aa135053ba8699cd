-- Where the digits of a number stop being the front of one.
use Rattle.std.proofs.Common.{◌≡◌, ℕ, zero, suc, ◌+◌, ◌*◌, ◌-◌, ◌/◌, ◌%◌, ◌^◌, ◌<◌, ◌≤◌, Bool, true, false, ◌&&◌, List, [], ◌∷◌, ◌++◌, length, take, drop, get_or, Option, Some, None, refl, sym, ap, subst, ◌∙◌, inl, inr, ◌⊎◌, arith, append_assoc, length-append}
use Rattle.std.specs.Prelude.{nat_le, if◌then◌else◌}
use Rattle.std.specs.Fmt.{decimal}
use Rattle.std.proofs.lemmas.Bool.{cases_lt, le-leb, leb-true}
use Rattle.std.proofs.lemmas.Bool.Decides.{nat_tests}
use Rattle.std.proofs.lemmas.List.{append-nil, take-append-le, take_all, take_at, drop_more, drop_all, length-take-le, same_from_push}
use Rattle.std.proofs.lemmas.Fmt.{decimal_digit, decimal_step, decimal_by_steps, decimal_nonempty, first_decimal, decimal_injective}
use Rattle.std.proofs.Math.Seq.{take-append-add}
use Rattle.kt_base.specs.Literals.{is_digit}
use Rattle.kt_script.specs.Places.{IsFault}
use Rattle.kt_script.specs.Fronts.{IsNumber, IsBehind, longer}
use Rattle.kt_script.proofs.Places.{byte_on, byte_off, no_bytes}

-- ---- the front of a number is a number, and no greater

abbrev Fronts : ℕ → List ℕ → Type 0
Fronts n ds = n < 2 ^ 64 → ds ≡ decimal n → (k : ℕ) → 0 < k → k ≤ length ds → (m : ℕ) × (m ≤ n) × (take k ds ≡ decimal m)

pub fronts : (n : ℕ) → n < 2 ^ 64 → (k : ℕ) → 0 < k → k ≤ length (decimal n) → (m : ℕ) × (m ≤ n) × (take k (decimal n) ≡ decimal m)
fronts n h = decimal_by_steps Fronts one more n h h refl
  where
    one : (n : ℕ) → n < 10 → Fronts n ((48 + n) ∷ [])
    one n lt h e k lo hi = (n, omega arith, take_all k ((48 + n) ∷ []) (omega arith) ∙ e)

    more : (n : ℕ) (ds : List ℕ) → 10 ≤ n → Fronts (n / 10) ds → Fronts n (ds ++ ((48 + n % 10) ∷ []))
    more n ds ten ih h e k lo hi = by (cases_lt (length ds) k)
      where
        size : length (ds ++ ((48 + n % 10) ∷ [])) ≡ length ds + 1
        size = length-append ds ((48 + n % 10) ∷ [])

        tail : ds ≡ decimal (n / 10)
        tail = (same_from_push ds (decimal (n / 10)) (48 + n % 10) (48 + n % 10) (e ∙ decimal_step n ten h)).0

        by : (length ds < k) ⊎ (k ≤ length ds) → (m : ℕ) × (m ≤ n) × (take k (ds ++ ((48 + n % 10) ∷ [])) ≡ decimal m)
        by (inl lt) = (n, omega arith, take_all k (ds ++ ((48 + n % 10) ∷ [])) (omega (arith, size)) ∙ e)
        by (inr le) = let r = ih (omega arith) tail k lo le in (r.0, (let less = r.1 in omega arith), take-append-le k ds ((48 + n % 10) ∷ []) le ∙ r.2)

-- what stands behind the digits of a number
pub one_more : (most v : ℕ) (b : ℕ) (y : List ℕ) → most < 2 ^ 64 → IsBehind most v (b ∷ y) → (m : ℕ) × (m ≤ most) × (decimal v ++ b ∷ [] ≡ decimal m)
one_more most v b y h p =
    let k : ℕ = length (decimal v) + 1 in
    let size : length (decimal p.0) ≡ length (decimal v) + suc (length y) = ap length (sym p.2) ∙ length-append (decimal v) (b ∷ y) in
    let le = p.1 in
    let r = fronts p.0 (omega arith) k (omega arith) (omega (arith, size)) in
    let less = r.1 in
    (r.0, omega arith, sym (take-append-add (decimal v) (b ∷ y) 1) ∙ ap (take k) p.2 ∙ r.2)

digit_range : (b : ℕ) → is_digit b ≡ true → (48 ≤ b) × (b ≤ 57)
digit_range b h = (grind (arith, nat_tests), grind (arith, nat_tests))

range_digit : (b : ℕ) → 48 ≤ b → b ≤ 57 → is_digit b ≡ true
range_digit b g h = ap (λ t. t && nat_le b 57) (le-leb 48 b g) ∙ le-leb b 57 h

pub longer_is : (v b : ℕ) → 0 < v → is_digit b ≡ true → v * 10 + (b - 48) < 2 ^ 64 → decimal (v * 10 + (b - 48)) ≡ decimal v ++ b ∷ []
longer_is v b some d fits =
    let r = digit_range b d in
    let lo = r.0 in
    let hi = r.1 in
    let n : ℕ = v * 10 + (b - 48) in
    let tens : n / 10 ≡ v = omega arith in
    let ones : 48 + n % 10 ≡ b = omega arith in
    decimal_step n (omega arith) fits ∙ ap (λ m. decimal m ++ ((48 + n % 10) ∷ [])) tens ∙ ap (λ c. decimal v ++ c ∷ []) ones

-- a number of two digits and more
two_digits : (v b m : ℕ) → v < 2 ^ 64 → m < 2 ^ 64 → decimal v ++ b ∷ [] ≡ decimal m → (10 ≤ m) × (v ≡ m / 10) × (b ≡ 48 + m % 10)
two_digits v b m hv hm e = by (cases_lt m 10)
  where
    size : length (decimal v) + 1 ≡ length (decimal m)
    size = sym (length-append (decimal v) (b ∷ [])) ∙ ap length e

    by : (m < 10) ⊎ (10 ≤ m) → (10 ≤ m) × (v ≡ m / 10) × (b ≡ 48 + m % 10)
    by (inl lt) = let one : length (decimal m) ≡ 1 = ap length (decimal_digit m lt) in let some = decimal_nonempty v hv in absurd (omega (arith, size))
    by (inr le) = let p = same_from_push (decimal v) (decimal (m / 10)) b (48 + m % 10) (e ∙ decimal_step m le hm) in (le, decimal_injective v (m / 10) hv (omega arith) p.0, p.1)

abbrev Goes : ℕ → ℕ → ℕ → Type 0
Goes most v b = (is_digit b && nat_le (v * 10 + (b - 48)) most) ≡ true

pub goes_on : (most v b : ℕ) (y : List ℕ) → v ≤ most → most < 2 ^ 64 → IsBehind most v (b ∷ y) → Goes most v b
goes_on most v b y le h p =
    let r = one_more most v b y h p in
    let less = r.1 in
    let t = two_digits v b r.0 (omega arith) (omega arith) r.2 in
    let ten = t.0 in
    let tens = t.1 in
    let ones = t.2 in
    let value : v * 10 + (b - 48) ≡ r.0 = omega arith in
    ap (λ s. s && nat_le (v * 10 + (b - 48)) most) (range_digit b (omega arith) (omega arith)) ∙ le-leb (v * 10 + (b - 48)) most (omega arith)

-- ---- how far the digits go on

abbrev pub some_more : Option ℕ → (ℕ → ℕ) → ℕ
some_more None f = 0
some_more (Some n) f = suc (f n)

-- how many of these bytes a number goes on with
abbrev pub digits_on : ℕ → ℕ → List ℕ → ℕ
digits_on most v [] = 0
digits_on most v (b ∷ bs) = some_more (longer most v b) (λ n. digits_on most n bs)

left_true : (a b : Bool) → (a && b) ≡ true → (a ≡ true) × (b ≡ true)
left_true true b h = (refl, h)
left_true false b h = absurd cc

pub digits_fault : (most : ℕ) → most < 2 ^ 64 → (bs : List ℕ) (v : ℕ) → 0 < v → v ≤ most → IsFault (IsBehind most v) bs (digits_on most v bs)
digits_fault most h [] v some le = no_bytes (IsBehind most v) [] (v, le, append-nil (decimal v))
digits_fault most h (b ∷ bs) v some le = by (is_digit b && nat_le (v * 10 + (b - 48)) most) refl (digits_fault most h bs (v * 10 + (b - 48)))
  where
    by : (t : Bool) → (is_digit b && nat_le (v * 10 + (b - 48)) most) ≡ t → (0 < v * 10 + (b - 48) → v * 10 + (b - 48) ≤ most → IsFault (IsBehind most (v * 10 + (b - 48))) bs (digits_on most (v * 10 + (b - 48)) bs))
        → IsFault (IsBehind most v) (b ∷ bs) (some_more (if t then Some (v * 10 + (b - 48)) else None) (λ n. digits_on most n bs))
    by true e more =
        let two = left_true (is_digit b) (nat_le (v * 10 + (b - 48)) most) e in
        let fits = leb-true (v * 10 + (b - 48)) most two.1 in
        let is = longer_is v b some two.0 (omega arith) in
        let same : (x : List ℕ) → decimal (v * 10 + (b - 48)) ++ x ≡ decimal v ++ b ∷ x = λ x. ap (λ (l : List ℕ). l ++ x) is ∙ append_assoc (decimal v) (b ∷ []) x in
        byte_on (IsBehind most v) (IsBehind most (v * 10 + (b - 48))) b bs (digits_on most (v * 10 + (b - 48)) bs) (λ x m. (m.0, m.1, sym (same x) ∙ m.2)) (λ x m. (m.0, m.1, same x ∙ m.2)) (more (omega arith) fits)
    by false e more = byte_off (IsBehind most v) b bs [] (v, le, append-nil (decimal v)) (λ y p. let g : false ≡ true = sym e ∙ goes_on most v b y le h p in cc)

-- ---- a number from its first digit on

pub alone : (bs : List ℕ) → IsFault (λ x. x ≡ []) bs 0
alone [] = no_bytes (λ x. x ≡ []) [] refl
alone (b ∷ bs) = byte_off (λ x. x ≡ []) b bs [] refl (λ y e. cc)

-- what a number begins with
first_digit : (most b : ℕ) (y : List ℕ) → most < 2 ^ 64 → IsNumber most (b ∷ y) → (is_digit b ≡ true) × (b - 48 ≤ most)
first_digit most b y h p =
    let size : length (decimal p.0) ≡ suc (length y) = ap length (sym p.2) in
    let le = p.1 in
    let r = fronts p.0 (omega arith) 1 (omega arith) (omega (arith, size)) in
    let less = r.1 in
    let is : b ∷ [] ≡ decimal r.0 = ap (take 1) p.2 ∙ r.2 in
    by r.0 (omega arith) is (cases_lt r.0 10)
  where
    by : (m : ℕ) → m ≤ most → b ∷ [] ≡ decimal m → (m < 10) ⊎ (10 ≤ m) → (is_digit b ≡ true) × (b - 48 ≤ most)
    by m fits is (inl lt) = let same : b ∷ [] ≡ (48 + m) ∷ [] = is ∙ decimal_digit m lt in let e : b ≡ 48 + m = cc in (range_digit b (omega arith) (omega arith), omega arith)
    by m fits is (inr le) = let some = decimal_nonempty (m / 10) (omega arith) in absurd (omega (arith, ap length (is ∙ decimal_step m le (omega arith)), length-append (decimal (m / 10)) ((48 + m % 10) ∷ [])))

-- the number of a first digit
first_is : (most b d : ℕ) → longer most 0 b ≡ Some d → (is_digit b ≡ true) × (d ≡ b - 48) × (d ≤ most)
first_is most b d e = by (is_digit b && nat_le (0 * 10 + (b - 48)) most) refl e
  where
    by : (t : Bool) → (is_digit b && nat_le (0 * 10 + (b - 48)) most) ≡ t → (if t then Some (0 * 10 + (b - 48)) else None) ≡ Some d → (is_digit b ≡ true) × (d ≡ b - 48) × (d ≤ most)
    by true f g =
        let two = left_true (is_digit b) (nat_le (0 * 10 + (b - 48)) most) f in
        let le = leb-true (0 * 10 + (b - 48)) most two.1 in
        let same : 0 * 10 + (b - 48) ≡ d = cc in
        (two.0, omega arith, omega arith)
    by false f g = absurd cc

first_none : (most b : ℕ) → longer most 0 b ≡ None → (is_digit b ≡ true) × (b - 48 ≤ most) → ⊥
first_none most b e p =
    let less = p.1 in
    let t : (is_digit b && nat_le (0 * 10 + (b - 48)) most) ≡ true = ap (λ s. s && nat_le (0 * 10 + (b - 48)) most) p.0 ∙ le-leb (0 * 10 + (b - 48)) most (omega arith) in
    let f : ◌≡◌ {A = Option ℕ} (Some (0 * 10 + (b - 48))) None = sym (ap (λ s. if s then Some (0 * 10 + (b - 48)) else None) t) ∙ e in
    cc

module _ (most b : ℕ) (text bs : List ℕ) (h : most < 2 ^ 64) (parts : text ≡ b ∷ bs) where
  pub no_digit : longer most 0 b ≡ None → IsFault (IsNumber most) text 0
  no_digit e = subst (λ (x : List ℕ). IsFault (IsNumber most) x 0) (sym parts) (byte_off (IsNumber most) b bs (decimal 0) (0, omega arith, refl) (λ y p. first_none most b e (first_digit most b y h p)))

  pub zero_fault : (d : ℕ) → longer most 0 b ≡ Some d → d ≡ 0 → IsFault (IsNumber most) text 1
  zero_fault d e zero_is =
      let two = first_is most b d e in
      let r = digit_range b two.0 in
      let lo = r.0 in
      let value = two.1 in
      let is : b ≡ 48 = omega arith in
      subst (λ (x : List ℕ). IsFault (IsNumber most) x 1) (sym (parts ∙ ap (λ c. c ∷ bs) is))
      (byte_on (IsNumber most) (λ x. x ≡ []) 48 bs 0 (λ x e. (0, omega arith, ap (λ (l : List ℕ). 48 ∷ l) e ∙ sym (decimal_digit 0 (omega arith)))) (λ x p. none x p.0 (let le = p.1 in omega arith) p.2) (alone bs))
    where
      none : (x : List ℕ) (n : ℕ) → n < 2 ^ 64 → 48 ∷ x ≡ decimal n → x ≡ []
      none x zero lt e = let one : 48 ∷ x ≡ 48 ∷ [] = e ∙ decimal_digit 0 (omega arith) in cc
      none x (suc n) lt e = let first = first_decimal (suc n) (omega arith) lt in let is : 48 ≡ get_or (decimal (suc n)) 0 0 = ap (λ (l : List ℕ). get_or l 0 0) e in absurd (omega (arith, first, is))

  pub digit_fault : (d n : ℕ) → longer most 0 b ≡ Some d → IsFault (IsBehind most d) bs n → IsFault (IsNumber most) text (1 + n)
  digit_fault d n e rest =
      let two = first_is most b d e in
      let r = digit_range b two.0 in
      let lo = r.0 in
      let hi = r.1 in
      let value = two.1 in
      let back : 48 + d ≡ b = omega arith in
      let is : decimal d ≡ b ∷ [] = decimal_digit d (omega arith) ∙ ap (λ c. c ∷ []) back in
      let same : (x : List ℕ) → decimal d ++ x ≡ b ∷ x = λ x. ap (λ (l : List ℕ). l ++ x) is in
      let one : suc n ≡ 1 + n = omega arith in
      subst (λ (x : List ℕ). IsFault (IsNumber most) x (1 + n)) (sym parts)
      (subst (λ k. IsFault (IsNumber most) (b ∷ bs) k) one (byte_on (IsNumber most) (IsBehind most d) b bs n (λ x m. (m.0, m.1, sym (same x) ∙ m.2)) (λ x m. (m.0, m.1, same x ∙ m.2)) rest))

  pub digit_fits : (d : ℕ) → longer most 0 b ≡ Some d → d ≤ most
  digit_fits d e = (first_is most b d e).2

-- what stands before the fault is a number, unless it is nothing
pub number_whole : (most : ℕ) (text : List ℕ) (place : ℕ) → most < 2 ^ 64 → IsFault (IsNumber most) text place → 0 < place → IsNumber most (take place text)
number_whole most text place h p some =
    let c = p.front in
    let le = c.1.1 in
    let within = p.within in
    let size : length (take place text) ≡ place = length-take-le place text within in
    let whole : length (decimal c.1.0) ≡ length (take place text) + length c.0 = ap length (sym c.1.2) ∙ length-append (take place text) c.0 in
    let r = fronts c.1.0 (omega arith) place some (omega (arith, size, whole)) in
    let less = r.1 in
    (r.0, omega arith, sym (take_at (take place text) c.0 place size) ∙ ap (take place) c.1.2 ∙ r.2)

-- ---- one digit more of a loop

module _ (most start : ℕ) (text : List ℕ) (at v : ℕ) where
  pub digits_more : (n : ℕ) → at < length text → longer most v (get_or text at 0) ≡ Some n → digits_on most start text ≡ at + digits_on most v (drop at text) → digits_on most start text ≡ (at + 1) + digits_on most n (drop (at + 1) text)
  digits_more n lt is so = let e = ap (digits_on most v) (drop_more text at 0 lt) ∙ ap (λ o. some_more o (λ m. digits_on most m (drop (at + 1) text))) is in omega (arith, so, e)

  pub digits_stop : at < length text → longer most v (get_or text at 0) ≡ None → digits_on most start text ≡ at + digits_on most v (drop at text) → digits_on most start text ≡ at
  digits_stop lt is so = let e = ap (digits_on most v) (drop_more text at 0 lt) ∙ ap (λ o. some_more o (λ m. digits_on most m (drop (at + 1) text))) is in omega (arith, so, e)

  pub digits_all : length text ≤ at → digits_on most start text ≡ at + digits_on most v (drop at text) → digits_on most start text ≡ at
  digits_all le so = let e = ap (digits_on most v) (drop_all at text le) in omega (arith, so, e)
