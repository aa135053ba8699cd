-- The least parts of a format: a number, so many bytes, a byte that says which.
use Rattle.std.proofs.Common.{◌≡◌, ℕ, zero, suc, ◌+◌, ◌<◌, Bool, true, false, cond, List, [], ◌∷◌, ◌++◌, length, Option, Some, None, Result, Ok, Err, refl, sym, ap, subst, ◌∙◌, length-append, arith, inl, inr}
use Rattle.std.specs.Prelude.{replicate}
use Rattle.std.specs.List.{concat}
use Rattle.std.proofs.lemmas.Bool.{cases_lt}
use Rattle.std.specs.Int.{Width, byte_len, from_le_bytes, to_le_bytes, bytes_low_first, byte_at}
use Rattle.std.proofs.lemmas.List.{append-nil, length-replicate, nil_from_length}
use Rattle.kt_bytes.specs.Places.{Delimited}
use Rattle.kt_bytes.specs.Reading.{◌>>=◌, number_at, checked_at, bytes_at}
use Rattle.kt_bytes.proofs.Numbers.{IsBytes, IsWide, IsBytes-rest, bind_ok, ok_is, then_is, number_again, checked_takes, checked_again, bytes_takes, bytes_again, passed}
use Rattle.kt_bytes.proofs.Taken.{Took}
use Rattle.kt_bytes.proofs.Faults.{bind_err, guard_err, never_err, checked_fails, bytes_fail, number_long}
use Rattle.kt_bytes.proofs.Formats.{FaultAt, FirstIs, missing, wrong, Follows, Then, Known, Live, Part}

-- ---- what one field is

head_is : {x y : List ℕ} {xs ys : List (List ℕ)} → x ∷ xs ≡ y ∷ ys → x ≡ y
head_is e = cc

tail_is : {x y : List ℕ} {xs ys : List (List ℕ)} → x ∷ xs ≡ y ∷ ys → xs ≡ ys
tail_is e = cc

byte_small : (i n : ℕ) → byte_at i n < 256
byte_small zero n = omega arith
byte_small (suc i) n = omega arith

low_bytes_fit : (i k n : ℕ) → IsBytes (bytes_low_first i k n)
low_bytes_fit i zero n j = omega arith
low_bytes_fit i (suc k) n zero = byte_small i n
low_bytes_fit i (suc k) n (suc j) = low_bytes_fit (suc i) k n j

pub number_bytes : (w : Width) (n : ℕ) → IsBytes (to_le_bytes w n)
number_bytes w n = low_bytes_fit 0 (byte_len w) n

one_bytes : (field : List ℕ) → IsBytes field → IsBytes (concat (field ∷ []))
one_bytes field h = rw (append-nil field) h

-- what stands behind one field is told by what stands in front of it
one_field_tells : {X : Type 0} (field : X → List ℕ) (Fits : X → Type 0) (Next : X → List (List ℕ) → Type 0) (n : ℕ) → ((v : X) → Fits v → length (field v) ≡ n) → ((v u : X) → Fits v → Fits u → field v ≡ field u → v ≡ u)
    → ((v : X) → Fits v → Delimited (Next v)) → Delimited (Then (λ v. field v ∷ []) Fits Next)
one_field_tells field Fits Next n len one next [] a b p q =
    let v = p.1 in
    let u = q.1 in
    (ap (λ (l : List ℕ). length l) (head_is v.is) ∙ len v.value v.fits) ∙ sym (ap (λ (l : List ℕ). length l) (head_is u.is) ∙ len u.value u.fits)
one_field_tells {X} field Fits Next n len one next (f ∷ front) a b p q =
    let v = p.1 in
    let u = q.1 in
    let same : v.value ≡ u.value = one v.value u.value v.fits u.fits (sym (head_is v.is) ∙ head_is u.is) in
    next u.value u.fits front a b (p.0, subst (λ (x : X). Next x ((front ++ a ∷ []) ++ p.0)) same (subst (Next v.value) (sym (tail_is v.is)) v.follows)) (q.0, subst (Next u.value) (sym (tail_is u.is)) u.follows)

-- a reader that gives the same is as good
pub same_reader : {X : Type 0} (reads others : List ℕ → Result (X × List ℕ) ℕ) (fields : X → List (List ℕ)) (Fits : X → Type 0) → ((bytes : List ℕ) → others bytes ≡ reads bytes) → Part reads fields Fits → Part others fields Fits
same_reader reads others fields Fits same p = record {
  took = λ bytes x fits e. p.took bytes x fits (sym (same bytes) ∙ e);
  again = λ v rest f. same (concat (fields v) ++ rest) ∙ p.again v rest f;
  some = p.some;
  fails = λ Next live bytes left fits e. p.fails Next live bytes left fits (sym (same bytes) ∙ e);
  tells = p.tells;
}

-- ---- a number

-- it passes, and has room in its field
abbrev pub Passes : (ℕ → Bool) → ℕ → ℕ → Type 0
Passes passes limit n = (passes n ≡ true) × (n < limit)

abbrev pub number_fields : Width → ℕ → List (List ℕ)
number_fields w n = to_le_bytes w n ∷ []

module _ (w : Width) (limit : ℕ) (wide : IsWide w limit) (passes : ℕ → Bool) where
  number_took : (bytes : List ℕ) (x : ℕ × List ℕ) → IsBytes bytes → checked_at w passes bytes ≡ Ok x → Took (λ v. concat (number_fields w v)) (Passes passes limit) bytes x
  number_took bytes x fits e =
      let t = checked_takes w limit wide passes bytes x fits e in
      record { parts = t.0.parts ∙ ap (λ (l : List ℕ). l ++ x.1) (sym (append-nil (to_le_bytes w x.0))); rest_fits = t.0.rest_fits; fits = (t.1, t.2) }

  number_reads : (n : ℕ) (rest : List ℕ) → Passes passes limit n → checked_at w passes (concat (number_fields w n) ++ rest) ≡ Ok (n, rest)
  number_reads n rest f = ap (λ (l : List ℕ). checked_at w passes (l ++ rest)) (append-nil (to_le_bytes w n)) ∙ checked_again w limit wide passes n rest f.1 f.0

  number_fails : 0 < byte_len w → Known (number_fields w) (Passes passes limit) → (Next : ℕ → List (List ℕ) → Type 0) → Live (number_fields w) (Passes passes limit) Next → (bytes : List ℕ) (left : ℕ) → IsBytes bytes
      → checked_at w passes bytes ≡ Err left → FaultAt (Then (number_fields w) (Passes passes limit) Next) bytes left
  number_fails pos known Next live bytes left fits e =
      elim (checked_fails w passes bytes left e) [
        | inl short ↦ subst (λ (k : ℕ). FaultAt S bytes k) (sym short.1) (missing S bytes (byte_len w) (to_le_bytes w known.value) next.0 stands first not_whole short.0)
        | inr got ↦ subst (λ (k : ℕ). FaultAt S bytes k) (sym got.3) (wrong S bytes (byte_len w) (to_le_bytes w known.value) next.0 stands first (number_long w bytes got.0 got.1) (omega (arith, pos, number_long w bytes got.0 got.1)) (none got.0 got.1 got.2))
      ]
    where
      S : List (List ℕ) → Type 0
      S = Then (number_fields w) (Passes passes limit) Next

      next : Follows (Next known.value)
      next = live known.value known.fits known.bytes

      stands : S (to_le_bytes w known.value ∷ next.0)
      stands = record { value = known.value; fits = known.fits; bytes = known.bytes; more = next.0; follows = next.1; is = refl }

      first : FirstIs S (byte_len w)
      first field more s = ap (λ (l : List ℕ). length l) (head_is s.is) ∙ wide.len s.value

      not_whole : ¬ S []
      not_whole s = let bad : [] ≡ to_le_bytes w s.value ∷ s.more = s.is in absurd cc

      none : (x : ℕ × List ℕ) → number_at w bytes ≡ Ok x → passes x.0 ≡ false → (f : List ℕ) (others : List (List ℕ)) (rest : List ℕ) → S (f ∷ others) → bytes ≡ f ++ rest → ⊥
      none x read fails f others rest s e =
          let text : bytes ≡ to_le_bytes w s.value ++ rest = e ∙ ap (λ (l : List ℕ). l ++ rest) (head_is s.is) in
          let again : Ok x ≡ Ok (s.value, rest) = sym read ∙ ap (number_at w) text ∙ number_again w limit wide s.value rest s.fits.1 in
          let same : x.0 ≡ s.value = ap (λ (p : ℕ × List ℕ). p.0) (ok_is x (s.value, rest) again) in
          let both : false ≡ true = sym fails ∙ ap passes same ∙ s.fits.0 in
          absurd cc

  number_one : (n m : ℕ) → Passes passes limit n → Passes passes limit m → to_le_bytes w n ≡ to_le_bytes w m → n ≡ m
  number_one n m f g e = sym (wide.again n f.1) ∙ ap (from_le_bytes w) e ∙ wide.again m g.1

  -- a number that passes, where some number does
  pub number_part : 0 < byte_len w → (n : ℕ) → passes n ≡ true → n < limit → Part (checked_at w passes) (number_fields w) (Passes passes limit)
  number_part pos n ok lt =
      let known : Known (number_fields w) (Passes passes limit) = record { value = n; fits = (ok, lt); bytes = one_bytes (to_le_bytes w n) (number_bytes w n) } in
      record { took = number_took; again = number_reads; some = known; fails = number_fails pos known; tells = λ Next next. one_field_tells (to_le_bytes w) (Passes passes limit) Next (byte_len w) (λ v f. wide.len v) number_one next }

pub bind_same : {A : Type 0} (r : Result A ℕ) → r ≡ (r >>= λ x. Ok x)
bind_same (Ok x) = refl
bind_same (Err left) = refl

-- any number with room in its field
pub any_number : (w : Width) (limit : ℕ) (wide : IsWide w limit) → 0 < byte_len w → 0 < limit → Part (number_at w) (number_fields w) (Passes (λ n. true) limit)
any_number w limit wide pos some = same_reader (checked_at w (λ n. true)) (number_at w) (number_fields w) (Passes (λ n. true) limit) (λ bytes. bind_same (number_at w bytes)) (number_part w limit wide (λ n. true) pos 0 refl some)

-- ---- so many bytes

-- bytes of this number that are not refused
abbrev pub IsText : ℕ → (List ℕ → Bool) → List ℕ → Type 0
IsText n bad text = (bad text ≡ false) × (length text ≡ n)

-- so many bytes; where they are refused, the fault is where they begin
abbrev pub text_at : ℕ → (List ℕ → Bool) → List ℕ → Result (List ℕ × List ℕ) ℕ
text_at n bad bytes = bytes_at n bytes >>= λ x. cond (bad x.0) (Err (length bytes)) (Ok x)

abbrev pub text_fields : List ℕ → List (List ℕ)
text_fields text = text ∷ []

module _ (n : ℕ) (bad : List ℕ → Bool) where
  text_took : (bytes : List ℕ) (x : List ℕ × List ℕ) → IsBytes bytes → text_at n bad bytes ≡ Ok x → Took (λ v. concat (text_fields v)) (IsText n bad) bytes x
  text_took bytes x fits e =
      let a = bind_ok (bytes_at n bytes) (λ y. cond (bad y.0) (Err (length bytes)) (Ok y)) x e in
      let g = passed (bad a.0.0) (length bytes) (Ok a.0) x a.2 in
      let t = bytes_takes n bytes a.0 fits a.1 in
      subst (λ (y : List ℕ × List ℕ). Took (λ v. concat (text_fields v)) (IsText n bad) bytes y) (ok_is a.0 x g.1)
      (record { parts = t.0.parts ∙ ap (λ (l : List ℕ). l ++ a.0.1) (sym (append-nil a.0.0)); rest_fits = t.0.rest_fits; fits = (g.0, t.1) })

  text_reads : (text rest : List ℕ) → IsText n bad text → text_at n bad (concat (text_fields text) ++ rest) ≡ Ok (text, rest)
  text_reads text rest f =
      let whole : concat (text_fields text) ++ rest ≡ text ++ rest = ap (λ (l : List ℕ). l ++ rest) (append-nil text) in
      let read : bytes_at n (text ++ rest) ≡ Ok (text, rest) = ap (λ (k : ℕ). bytes_at k (text ++ rest)) (sym f.1) ∙ bytes_again text rest in
      ap (text_at n bad) whole ∙ then_is (bytes_at n (text ++ rest)) (λ y. cond (bad y.0) (Err (length (text ++ rest))) (Ok y)) (text, rest) read
      ∙ ap (λ (b : Bool). cond b (Err (length (text ++ rest))) (Ok (text, rest))) f.0

  text_fails : Known text_fields (IsText n bad) → (Next : List ℕ → List (List ℕ) → Type 0) → Live text_fields (IsText n bad) Next → (bytes : List ℕ) (left : ℕ) → IsBytes bytes
      → text_at n bad bytes ≡ Err left → FaultAt (Then text_fields (IsText n bad) Next) bytes left
  text_fails known Next live bytes left fits e =
      elim (bind_err (bytes_at n bytes) (λ y. cond (bad y.0) (Err (length bytes)) (Ok y)) left e) [
        | inl short ↦
            let s = bytes_fail n bytes left short in
            subst (λ (k : ℕ). FaultAt S bytes k) (sym s.1) (missing S bytes n known.value next.0 stands first not_whole s.0)
        | inr got ↦
            elim (guard_err (bad got.0.0) (length bytes) left (Ok got.0) got.2) [
              | inl refused ↦ subst (λ (k : ℕ). FaultAt S bytes k) refused.1 (refuse got.0 got.1 refused.0)
              | inr none ↦ absurd (never_err got.0 left none.1)
            ]
      ]
    where
      S : List (List ℕ) → Type 0
      S = Then text_fields (IsText n bad) Next

      next : Follows (Next known.value)
      next = live known.value known.fits known.bytes

      stands : S (known.value ∷ next.0)
      stands = record { value = known.value; fits = known.fits; bytes = known.bytes; more = next.0; follows = next.1; is = refl }

      first : FirstIs S n
      first field more s = ap (λ (l : List ℕ). length l) (head_is s.is) ∙ s.fits.1

      not_whole : ¬ S []
      not_whole s = let no : [] ≡ s.value ∷ s.more = s.is in absurd cc

      same_text : (x : List ℕ × List ℕ) → bytes_at n bytes ≡ Ok x → (text rest : List ℕ) → length text ≡ n → bytes ≡ text ++ rest → x.0 ≡ text
      same_text x read text rest len e =
          let again : Ok x ≡ Ok (text, rest) = sym read ∙ ap (bytes_at n) e ∙ ap (λ (k : ℕ). bytes_at k (text ++ rest)) (sym len) ∙ bytes_again text rest in
          ap (λ (p : List ℕ × List ℕ). p.0) (ok_is x (text, rest) again)

      none : (x : List ℕ × List ℕ) → bytes_at n bytes ≡ Ok x → bad x.0 ≡ true → (f : List ℕ) (others : List (List ℕ)) (rest : List ℕ) → S (f ∷ others) → bytes ≡ f ++ rest → ⊥
      none x read refused f others rest s e =
          let text : bytes ≡ s.value ++ rest = e ∙ ap (λ (l : List ℕ). l ++ rest) (head_is s.is) in
          let both : true ≡ false = sym refused ∙ ap bad (same_text x read s.value rest s.fits.1 text) ∙ s.fits.0 in
          absurd cc

      some_bytes : (x : List ℕ × List ℕ) → bytes_at n bytes ≡ Ok x → bad x.0 ≡ true → 0 < length bytes
      some_bytes x read refused = elim (cases_lt 0 (length bytes)) [
        | inl lt ↦ lt
        | inr le ↦
            let t = bytes_takes n bytes x fits read in
            let long : length bytes ≡ length x.0 + length x.1 = ap (λ (l : List ℕ). length l) t.0.parts ∙ length-append x.0 x.1 in
            let empty : x.0 ≡ [] = nil_from_length x.0 (omega (arith, long, le)) in
            let own : known.value ≡ [] = nil_from_length known.value (omega (arith, known.fits.1, long, le, t.1)) in
            let both : true ≡ false = sym refused ∙ ap bad (empty ∙ sym own) ∙ known.fits.0 in
            absurd cc
      ]

      -- the bytes that are refused are some
      refuse : (x : List ℕ × List ℕ) → bytes_at n bytes ≡ Ok x → bad x.0 ≡ true → FaultAt S bytes (length bytes)
      refuse x read refused =
          let t = bytes_takes n bytes x fits read in
          let long : length bytes ≡ length x.0 + length x.1 = ap (λ (l : List ℕ). length l) t.0.parts ∙ length-append x.0 x.1 in
          wrong S bytes n known.value next.0 stands first (omega (arith, long, t.1)) (some_bytes x read refused) (none x read refused)

  -- so many bytes that are not refused, where some are not
  pub text_part : (text : List ℕ) → bad text ≡ false → length text ≡ n → IsBytes text → Part (text_at n bad) text_fields (IsText n bad)
  text_part text ok len fits =
      let known : Known text_fields (IsText n bad) = record { value = text; fits = (ok, len); bytes = one_bytes text fits } in
      record { took = text_took; again = text_reads; some = known; fails = text_fails known; tells = λ Next next. one_field_tells (λ t. t) (IsText n bad) Next n (λ t f. f.1) (λ t u f g e. e) next }

pub zero_bytes : (n : ℕ) → IsBytes (replicate n 0)
zero_bytes zero i = omega arith
zero_bytes (suc n) zero = omega arith
zero_bytes (suc n) (suc i) = zero_bytes n i

-- any so many bytes
pub any_text : (n : ℕ) → Part (bytes_at n) text_fields (IsText n (λ t. false))
any_text n = same_reader (text_at n (λ t. false)) (bytes_at n) text_fields (IsText n (λ t. false)) (λ bytes. bind_same (bytes_at n bytes)) (text_part n (λ t. false) (replicate n 0) refl (length-replicate n 0) (zero_bytes n))

-- ---- a byte that says which

-- a byte that stands for a value
abbrev pub chosen : {V : Type 0} → List ℕ → Option V → Result (V × List ℕ) ℕ
chosen rest None = Err (suc (length rest))
chosen rest (Some v) = Ok (v, rest)

abbrev pub byte_at_front : {V : Type 0} → (ℕ → Option V) → List ℕ → Result (V × List ℕ) ℕ
byte_at_front meaning [] = Err 0
byte_at_front meaning (b ∷ rest) = chosen rest (meaning b)

abbrev pub code_fields : {V : Type 0} → (V → ℕ) → V → List (List ℕ)
code_fields code v = (code v ∷ []) ∷ []

module _ {V : Type 0} (meaning : ℕ → Option V) (code : V → ℕ) (Fits : V → Type 0) where
  chosen_ok : (rest : List ℕ) (o : Option V) (x : V × List ℕ) → chosen rest o ≡ Ok x → (o ≡ Some x.0) × (rest ≡ x.1)
  chosen_ok rest None x e = absurd cc
  chosen_ok rest (Some v) x e = let same : (v, rest) ≡ x = ok_is (v, rest) x e in (ap (λ (p : V × List ℕ). Some p.0) same, ap (λ (p : V × List ℕ). p.1) same)

  chosen_err : (rest : List ℕ) (o : Option V) (left : ℕ) → chosen rest o ≡ Err left → (o ≡ None) × (left ≡ suc (length rest))
  chosen_err rest None left e = (refl, cc)
  chosen_err rest (Some v) left e = absurd (never_err (v, rest) left e)

  code_took : ((b : ℕ) (v : V) → meaning b ≡ Some v → (code v ≡ b) × Fits v) → (bytes : List ℕ) (x : V × List ℕ) → IsBytes bytes → byte_at_front meaning bytes ≡ Ok x → Took (λ v. concat (code_fields code v)) Fits bytes x
  code_took back [] x fits e = absurd cc
  code_took back (b ∷ rest) x fits e =
      let c = chosen_ok rest (meaning b) x e in
      record {
        parts = ap (λ (k : ℕ). k ∷ rest) (sym (back b x.0 c.0).0) ∙ ap (λ (r : List ℕ). code x.0 ∷ r) c.1;
        rest_fits = subst IsBytes c.1 (IsBytes-rest b rest fits);
        fits = (back b x.0 c.0).1;
      }

  code_fails : ((v : V) → Fits v → meaning (code v) ≡ Some v) → Known (code_fields code) Fits → (Next : V → List (List ℕ) → Type 0) → Live (code_fields code) Fits Next → (bytes : List ℕ) (left : ℕ) → IsBytes bytes
      → byte_at_front meaning bytes ≡ Err left → FaultAt (Then (code_fields code) Fits Next) bytes left
  code_fails there known Next live bytes left fits e = which bytes e
    where
      S : List (List ℕ) → Type 0
      S = Then (code_fields code) Fits Next

      next : Follows (Next known.value)
      next = live known.value known.fits known.bytes

      stands : S ((code known.value ∷ []) ∷ next.0)
      stands = record { value = known.value; fits = known.fits; bytes = known.bytes; more = next.0; follows = next.1; is = refl }

      first : FirstIs S 1
      first field more s = ap (λ (l : List ℕ). length l) (head_is s.is)

      not_whole : ¬ S []
      not_whole s = let no : [] ≡ (code s.value ∷ []) ∷ s.more = s.is in absurd cc

      none : (b : ℕ) (tail : List ℕ) → meaning b ≡ None → (f : List ℕ) (others : List (List ℕ)) (rest : List ℕ) → S (f ∷ others) → b ∷ tail ≡ f ++ rest → ⊥
      none b tail nothing f others rest s e =
          let text : b ∷ tail ≡ code s.value ∷ rest = e ∙ ap (λ (l : List ℕ). l ++ rest) (head_is s.is) in
          let same : b ≡ code s.value = cc in
          let both : None ≡ Some s.value = sym nothing ∙ ap meaning same ∙ there s.value s.fits in
          absurd cc

      which : (all : List ℕ) → byte_at_front meaning all ≡ Err left → FaultAt S all left
      which [] e = let zero_left : 0 ≡ left = cc in subst (λ (k : ℕ). FaultAt S [] k) zero_left (missing S [] 1 (code known.value ∷ []) next.0 stands first not_whole (omega arith))
      which (b ∷ tail) e =
          let c = chosen_err tail (meaning b) left e in
          subst (λ (k : ℕ). FaultAt S (b ∷ tail) k) (sym c.1) (wrong S (b ∷ tail) 1 (code known.value ∷ []) next.0 stands first (omega arith) (omega arith) (none b tail c.0))

  one_byte : (b : ℕ) → b < 256 → IsBytes (b ∷ [])
  one_byte b lt zero = lt
  one_byte b lt (suc i) = omega arith

  -- a byte for each value, where there is a value
  pub code_part : ((b : ℕ) (v : V) → meaning b ≡ Some v → (code v ≡ b) × Fits v) → ((v : V) → Fits v → meaning (code v) ≡ Some v) → (v : V) → Fits v → code v < 256 → Part (byte_at_front meaning) (code_fields code) Fits
  code_part back there v own lt =
      let known : Known (code_fields code) Fits = record { value = v; fits = own; bytes = one_byte (code v) lt } in
      record { took = code_took back; again = λ u rest f. ap (λ (o : Option V). chosen rest o) (there u f); some = known; fails = code_fails there known; tells = λ Next next. one_field_tells (λ u. code u ∷ []) Fits Next 1 (λ u f. refl) one_code next }
    where
      one_code : (u v : V) → Fits u → Fits v → code u ∷ [] ≡ code v ∷ [] → u ≡ v
      one_code u v f g e = let same : code u ≡ code v = cc in let both : Some u ≡ Some v = sym (there u f) ∙ ap meaning same ∙ there v g in cc
