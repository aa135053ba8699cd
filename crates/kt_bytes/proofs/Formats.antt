-- A format put together from parts: a reader, the fields that it takes, and what may follow them. A fault that the reader
-- of a part tells is one of the format, whatever may follow.
use Rattle.std.proofs.Common.{◌≡◌, ℕ, zero, suc, ◌-◌, ◌<◌, ◌≤◌, List, [], ◌∷◌, ◌++◌, length, Result, Ok, Err, refl, sym, ap, subst, ◌∙◌, append_assoc, length-append, arith, inl, inr}
use Rattle.std.specs.List.{concat}
use Rattle.std.proofs.lemmas.Bool.{cases_lt}
use Rattle.std.proofs.lemmas.List.{append_cancel_left, get_or_append_left, get_or_past}
use Rattle.std.proofs.lemmas.List.Folds.{concat-append}
use Rattle.kt_bytes.specs.Places.{IsPlace, IsFault, Delimited}
use Rattle.kt_bytes.specs.Reading.{◌>>=◌}
use Rattle.kt_bytes.proofs.Numbers.{IsBytes, ok_is}
use Rattle.kt_bytes.proofs.Taken.{Took}
use Rattle.kt_bytes.proofs.Faults.{bind_err}

-- ---- bytes

pub bytes_front : (xs ys : List ℕ) → IsBytes (xs ++ ys) → IsBytes xs
bytes_front xs ys h i =
    elim (cases_lt i (length xs)) [
      | inl lt ↦ subst (λ (b : ℕ). b < 256) (get_or_append_left xs ys 0 i lt) (h i)
      | inr le ↦ rw (get_or_past xs i 0 le) (omega arith)
    ]

pub bytes_back : (xs ys : List ℕ) → IsBytes (xs ++ ys) → IsBytes ys
bytes_back [] ys h i = h i
bytes_back (x ∷ xs) ys h i = bytes_back xs ys (λ k. h (suc k)) i

pub bytes_join : (xs ys : List ℕ) → IsBytes xs → IsBytes ys → IsBytes (xs ++ ys)
bytes_join [] ys h k i = k i
bytes_join (x ∷ xs) ys h k zero = h 0
bytes_join (x ∷ xs) ys h k (suc i) = bytes_join xs ys (λ j. h (suc j)) k i

-- ---- faults, told by how many bytes stand from the place to the end

pub record FaultAt (S : List (List ℕ) → Type 0) (bytes : List ℕ) (left : ℕ) : Type 0 where
  pub within : left ≤ length bytes
  pub fault : IsFault S bytes (length bytes - left)

place_behind : (S : List (List ℕ) → Type 0) (field rest : List ℕ) (front : List (List ℕ)) (tail : List ℕ) (left : ℕ) → left ≤ length rest
    → IsPlace (λ more. S (field ∷ more)) front tail (length rest - left) → IsPlace S (field ∷ front) tail (length (field ++ rest) - left)
place_behind S field rest front tail left le (inl p) = inl (p.0, p.1, p.2, omega (arith, p.3, le, length-append field rest, length-append field (concat front)))
place_behind S field rest front tail left le (inr p) = inr (p.0, omega (arith, p.1, le, length-append field rest, length-append field (concat front)))

-- a fault behind one field more
pub behind_field : (S : List (List ℕ) → Type 0) (field rest : List ℕ) (left : ℕ) → FaultAt (λ more. S (field ∷ more)) rest left → FaultAt S (field ++ rest) left
behind_field S field rest left p =
    let f = p.fault in
    record {
      within = omega (arith, p.within, length-append field rest);
      fault = record {
        front = field ∷ f.front;
        rest = f.rest;
        parts = ap (λ (l : List ℕ). field ++ l) f.parts ∙ sym (append_assoc field (concat f.front) f.rest);
        begins = f.begins;
        ends = f.ends;
        more = f.more;
        at = place_behind S field rest f.front f.rest left p.within f.at;
      };
    }

pub behind_fields : (S : List (List ℕ) → Type 0) (fields : List (List ℕ)) (rest : List ℕ) (left : ℕ) → FaultAt (λ more. S (fields ++ more)) rest left → FaultAt S (concat fields ++ rest) left
behind_fields S [] rest left p = p
behind_fields S (f ∷ fields) rest left p =
    subst (λ (b : List ℕ). FaultAt S b left) (sym (append_assoc f (concat fields) rest)) (behind_field S f (concat fields ++ rest) left (behind_fields (λ more. S (f ∷ more)) fields rest left p))

same_place : (S T : List (List ℕ) → Type 0) (front : List (List ℕ)) (tail : List ℕ) (place : ℕ) → ((all : List (List ℕ)) → S all → T all) → ((all : List (List ℕ)) → T all → S all)
    → IsPlace S front tail place → IsPlace T front tail place
same_place S T front tail place to from (inl p) = inl (p.0, (p.1.0, to _ p.1.1), p.2, p.3)
same_place S T front tail place to from (inr p) = inr (λ field on. p.0 field (on.0, from _ on.1), p.1)

-- two formats with the same lists of fields have the same faults
pub same_format : (S T : List (List ℕ) → Type 0) (bytes : List ℕ) (left : ℕ) → ((all : List (List ℕ)) → S all → T all) → ((all : List (List ℕ)) → T all → S all) → FaultAt S bytes left → FaultAt T bytes left
same_format S T bytes left to from p =
    let f = p.fault in
    record {
      within = p.within;
      fault = record {
        front = f.front;
        rest = f.rest;
        parts = f.parts;
        begins = (f.begins.0, to _ f.begins.1);
        ends = λ field on. f.ends field (on.0, from _ on.1);
        more = λ whole. f.more (from _ whole);
        at = same_place S T f.front f.rest _ to from f.at;
      };
    }

-- ---- faults at the front

-- all fields that may come first have this length
abbrev pub FirstIs : (List (List ℕ) → Type 0) → ℕ → Type 0
FirstIs S n = (field : List ℕ) (more : List (List ℕ)) → S (field ∷ more) → length field ≡ n

-- bytes of the first field are missing
pub missing : (S : List (List ℕ) → Type 0) (bytes : List ℕ) (n : ℕ) (field : List ℕ) (more : List (List ℕ)) → S (field ∷ more) → FirstIs S n → ¬ S [] → length bytes < n → FaultAt S bytes 0
missing S bytes n field more s len not_whole lt = record {
  within = omega arith;
  fault = record {
    front = [];
    rest = bytes;
    parts = refl;
    begins = (field ∷ more, s);
    ends = λ f on stands. absurd (omega (arith, lt, len f on.0 on.1, ap length stands.1, length-append f stands.0));
    more = λ whole. absurd (not_whole whole);
    at = inl (field, (more, s), omega (arith, lt, len field more s), omega arith);
  };
}

-- the first field is wrong
pub wrong : (S : List (List ℕ) → Type 0) (bytes : List ℕ) (n : ℕ) (field : List ℕ) (more : List (List ℕ)) → S (field ∷ more) → FirstIs S n → n ≤ length bytes → 0 < length bytes
    → ((f : List ℕ) (others : List (List ℕ)) (rest : List ℕ) → S (f ∷ others) → bytes ≡ f ++ rest → ⊥) → FaultAt S bytes (length bytes)
wrong S bytes n field more s len le some none = record {
  within = omega arith;
  fault = record {
    front = [];
    rest = bytes;
    parts = refl;
    begins = (field ∷ more, s);
    ends = λ f on stands. none f on.0 stands.0 on.1 stands.1;
    more = λ whole. some;
    at = inr (λ f on. omega (arith, le, len f on.0 on.1), omega arith);
  };
}

-- bytes stand behind what is whole
pub left_over : (S : List (List ℕ) → Type 0) (bytes : List ℕ) → S [] → ((f : List ℕ) (others : List (List ℕ)) → ¬ S (f ∷ others)) → 0 < length bytes → FaultAt S bytes (length bytes)
left_over S bytes s none some = record {
  within = omega arith;
  fault = record {
    front = [];
    rest = bytes;
    parts = refl;
    begins = ([], s);
    ends = λ f on stands. none f on.0 on.1;
    more = λ whole. some;
    at = inr (λ f on. absurd (none f on.0 on.1), omega arith);
  };
}

-- ---- parts of a format

-- something of the format follows
abbrev pub Follows : (List (List ℕ) → Type 0) → Type 0
Follows S = (more : List (List ℕ)) × S more

-- the fields of a value that fits, and what may follow it
pub record Then {X : Type 0} (fields : X → List (List ℕ)) (Fits : X → Type 0) (Next : X → List (List ℕ) → Type 0) (all : List (List ℕ)) : Type 0 where
  pub value : X
  pub fits : Fits value
  pub bytes : IsBytes (concat (fields value))
  pub more : List (List ℕ)
  pub follows : Next value more
  pub is : all ≡ fields value ++ more

-- a value that fits, in bytes
pub record Known {X : Type 0} (fields : X → List (List ℕ)) (Fits : X → Type 0) : Type 0 where
  pub value : X
  pub fits : Fits value
  pub bytes : IsBytes (concat (fields value))

-- what may follow each value that fits
abbrev pub Live : {X : Type 0} → (X → List (List ℕ)) → (X → Type 0) → (X → List (List ℕ) → Type 0) → Type 0
Live {X} fields Fits Next = (v : X) → Fits v → IsBytes (concat (fields v)) → Follows (Next v)

-- A reader of such fields: it takes those of a value from the front, reads again what is spelled, and tells the fault;
-- and what stands before a field tells how long it is.
pub record Part {X : Type 0} (reads : List ℕ → Result (X × List ℕ) ℕ) (fields : X → List (List ℕ)) (Fits : X → Type 0) : Type 1 where
  pub took : (bytes : List ℕ) (x : X × List ℕ) → IsBytes bytes → reads bytes ≡ Ok x → Took (λ v. concat (fields v)) Fits bytes x
  pub again : (v : X) (rest : List ℕ) → Fits v → reads (concat (fields v) ++ rest) ≡ Ok (v, rest)
  pub some : Known fields Fits
  pub fails : (Next : X → List (List ℕ) → Type 0) → Live fields Fits Next → (bytes : List ℕ) (left : ℕ) → IsBytes bytes → reads bytes ≡ Err left → FaultAt (Then fields Fits Next) bytes left
  pub tells : (Next : X → List (List ℕ) → Type 0) → ((v : X) → Fits v → Delimited (Next v)) → Delimited (Then fields Fits Next)

pub same_delimited : (S T : List (List ℕ) → Type 0) → ((all : List (List ℕ)) → T all → S all) → Delimited S → Delimited T
same_delimited S T from d front a b p q = d front a b (p.0, from _ p.1) (q.0, from _ q.1)

pub follows_known : {X : Type 0} (fields : X → List (List ℕ)) (Fits : X → Type 0) (Next : X → List (List ℕ) → Type 0) → Known fields Fits → Live fields Fits Next → Follows (Then fields Fits Next)
follows_known fields Fits Next k live =
    let next = live k.value k.fits k.bytes in
    (fields k.value ++ next.0, record { value = k.value; fits = k.fits; bytes = k.bytes; more = next.0; follows = next.1; is = refl })

-- what was taken is in bytes
pub took_bytes : (text bytes rest : List ℕ) → bytes ≡ text ++ rest → IsBytes bytes → IsBytes text
took_bytes text bytes rest e fits = bytes_front text rest (subst IsBytes e fits)

-- fields of two values that fit begin the same list: they are one
pub one_value : {X : Type 0} (reads : List ℕ → Result (X × List ℕ) ℕ) (fields : X → List (List ℕ)) (Fits : X → Type 0) (v u : X) (more others : List (List ℕ)) → Part reads fields Fits → Fits v → Fits u
    → fields v ++ more ≡ fields u ++ others → v ≡ u
one_value {X} reads fields Fits v u more others part f g e =
    let bytes : concat (fields v) ++ concat more ≡ concat (fields u) ++ concat others = sym (concat-append (fields v) more) ∙ ap concat e ∙ concat-append (fields u) others in
    let both : Ok (v, concat more) ≡ Ok (u, concat others) = sym (part.again v (concat more) f) ∙ ap reads bytes ∙ part.again u (concat others) g in
    ap (λ (p : X × List ℕ). p.0) (ok_is (v, concat more) (u, concat others) both)

-- behind the fields of a value stands what may follow it
pub behind_value : {X : Type 0} (reads : List ℕ → Result (X × List ℕ) ℕ) (fields : X → List (List ℕ)) (Fits : X → Type 0) (Next : X → List (List ℕ) → Type 0) (v : X) (rest : List ℕ) (left : ℕ)
    → Part reads fields Fits → Fits v → IsBytes (concat (fields v)) → FaultAt (Next v) rest left → FaultAt (Then fields Fits Next) (concat (fields v) ++ rest) left
behind_value {X} reads fields Fits Next v rest left part fits bytes p =
    behind_fields (Then fields Fits Next) (fields v) rest left (same_format (Next v) (λ more. Then fields Fits Next (fields v ++ more)) rest left to from p)
  where
    to : (all : List (List ℕ)) → Next v all → Then fields Fits Next (fields v ++ all)
    to all next = record { value = v; fits = fits; bytes = bytes; more = all; follows = next; is = refl }

    from : (all : List (List ℕ)) → Then fields Fits Next (fields v ++ all) → Next v all
    from all t =
        let one : v ≡ t.value = one_value reads fields Fits v t.value all t.more part fits t.fits t.is in
        let tail : all ≡ t.more = append_cancel_left (fields v) all t.more (t.is ∙ ap (λ (u : X). fields u ++ t.more) (sym one)) in
        subst (λ (u : X). Next u all) (sym one) (subst (Next t.value) (sym tail) t.follows)

-- a part, and a reader of what follows it
pub first : {X B : Type 0} (reads : List ℕ → Result (X × List ℕ) ℕ) (fields : X → List (List ℕ)) (Fits : X → Type 0) (Next : X → List (List ℕ) → Type 0) (f : X × List ℕ → Result B ℕ) (bytes : List ℕ) (left : ℕ)
    → Part reads fields Fits → Live fields Fits Next → IsBytes bytes → (reads bytes >>= f) ≡ Err left
    → ((x : X × List ℕ) → Fits x.0 → IsBytes (concat (fields x.0)) → IsBytes x.1 → f x ≡ Err left → FaultAt (Next x.0) x.1 left) → FaultAt (Then fields Fits Next) bytes left
first reads fields Fits Next f bytes left part live fits e behind =
    elim (bind_err (reads bytes) f left e) [
      | inl own ↦ part.fails Next live bytes left fits own
      | inr got ↦
          let x = got.0 in
          let t = part.took bytes x fits got.1 in
          let own : IsBytes (concat (fields x.0)) = took_bytes (concat (fields x.0)) bytes x.1 t.parts fits in
          subst (λ (b : List ℕ). FaultAt (Then fields Fits Next) b left) (sym t.parts)
          (behind_value reads fields Fits Next x.0 x.1 left part t.fits own (behind x t.fits own t.rest_fits got.2))
    ]
