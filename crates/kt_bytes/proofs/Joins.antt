-- Parts of a format joined: one behind the other, so many, and what they make.
use Rattle.std.proofs.Common.{◌≡◌, ℕ, zero, suc, List, [], ◌∷◌, ◌++◌, length, Result, Ok, Err, refl, sym, ap, subst, ◌∙◌, append_assoc, arith}
use Rattle.std.specs.List.{concat, flat_map}
use Rattle.std.proofs.lemmas.List.{append-nil, nil_from_length}
use Rattle.std.proofs.lemmas.List.Folds.{concat-append}
use Rattle.std.proofs.lemmas.List.Concat.{flat_map-cons}
use Rattle.kt_bytes.specs.Places.{Delimited}
use Rattle.kt_bytes.specs.Reading.{◌>>=◌, many_at}
use Rattle.kt_bytes.proofs.Numbers.{IsBytes, bind_ok, ok_is, then_is}
use Rattle.kt_bytes.proofs.Taken.{Took, joined}
use Rattle.kt_bytes.proofs.Faults.{never_err}
use Rattle.kt_bytes.specs.Reading.{EachAfter}
use Rattle.kt_bytes.proofs.Formats.{FaultAt, same_format, same_delimited, Then, Known, Live, Part, follows_known, first, bytes_front, bytes_back, bytes_join}
use Rattle.kt_bytes.proofs.Leaves.{same_reader, bind_same}

concat_bytes : (xs ys : List (List ℕ)) → IsBytes (concat xs) → IsBytes (concat ys) → IsBytes (concat (xs ++ ys))
concat_bytes xs ys f g = rw (concat-append xs ys) (bytes_join (concat xs) (concat ys) f g)

front_bytes : (xs ys : List (List ℕ)) → IsBytes (concat (xs ++ ys)) → IsBytes (concat xs)
front_bytes xs ys h = bytes_front (concat xs) (concat ys) (subst IsBytes (concat-append xs ys) h)

back_bytes : (xs ys : List (List ℕ)) → IsBytes (concat (xs ++ ys)) → IsBytes (concat ys)
back_bytes xs ys h = bytes_back (concat xs) (concat ys) (subst IsBytes (concat-append xs ys) h)

-- ---- one part behind the other

-- the second part reads a value of which the first is told by head
module _ {A X : Type 0} (one : List ℕ → Result (A × List ℕ) ℕ) (fields : A → List (List ℕ)) (Fits : A → Type 0)
    (two : A → List ℕ → Result (X × List ℕ) ℕ) (others : X → List (List ℕ)) (Goes : A → X → Type 0) (head : X → A) where
  abbrev pub both_at : List ℕ → Result (X × List ℕ) ℕ
  both_at bytes = one bytes >>= λ a. two a.0 a.1

  abbrev pub both_fields : X → List (List ℕ)
  both_fields x = fields (head x) ++ others x

  abbrev pub BothFit : X → Type 0
  BothFit x = Fits (head x) × Goes (head x) x

  module _ (is_head : (a : A) (x : X) → Goes a x → head x ≡ a) (p : Part one fields Fits) (q : (a : A) → Fits a → Part (two a) others (Goes a)) where
    both_took : (bytes : List ℕ) (x : X × List ℕ) → IsBytes bytes → both_at bytes ≡ Ok x → Took (λ v. concat (both_fields v)) BothFit bytes x
    both_took bytes x fits e =
        let a = bind_ok (one bytes) (λ a. two a.0 a.1) x e in
        let t = p.took bytes a.0 fits a.1 in
        let u = (q a.0.0 t.fits).took a.0.1 x t.rest_fits a.2 in
        let same : a.0.0 ≡ head x.0 = sym (is_head a.0.0 x.0 u.fits) in
        let whole : bytes ≡ (concat (fields a.0.0) ++ concat (others x.0)) ++ x.1 = joined bytes (concat (fields a.0.0)) a.0.1 (concat (others x.0)) x.1 t.parts u.parts in
        record {
          parts = subst (λ (h : A). bytes ≡ concat (fields h ++ others x.0) ++ x.1) same (whole ∙ ap (λ (l : List ℕ). l ++ x.1) (sym (concat-append (fields a.0.0) (others x.0))));
          rest_fits = u.rest_fits;
          fits = subst (λ (h : A). Fits h × Goes h x.0) same (t.fits, u.fits);
        }

    both_again : (x : X) (rest : List ℕ) → BothFit x → both_at (concat (both_fields x) ++ rest) ≡ Ok (x, rest)
    both_again x rest f =
        let parts : concat (both_fields x) ++ rest ≡ concat (fields (head x)) ++ (concat (others x) ++ rest)
        = ap (λ (l : List ℕ). l ++ rest) (concat-append (fields (head x)) (others x)) ∙ append_assoc (concat (fields (head x))) (concat (others x)) rest in
        ap both_at parts ∙ then_is (one (concat (fields (head x)) ++ (concat (others x) ++ rest))) (λ a. two a.0 a.1) (head x, concat (others x) ++ rest) (p.again (head x) (concat (others x) ++ rest) f.0)
        ∙ (q (head x) f.0).again x rest f.1

    both_some : Known both_fields BothFit
    both_some =
        let a = p.some in
        let x = (q a.value a.fits).some in
        let same : a.value ≡ head x.value = sym (is_head a.value x.value x.fits) in
        record {
          value = x.value;
          fits = subst (λ (h : A). Fits h × Goes h x.value) same (a.fits, x.fits);
          bytes = subst (λ (h : A). IsBytes (concat (fields h ++ others x.value))) same (concat_bytes (fields a.value) (others x.value) a.bytes x.bytes);
        }

    abbrev Rest : (X → List (List ℕ) → Type 0) → A → List (List ℕ) → Type 0
    Rest Next a = Then others (Goes a) Next

    both_to : (Next : X → List (List ℕ) → Type 0) (all : List (List ℕ)) → Then fields Fits (Rest Next) all → Then both_fields BothFit Next all
    both_to Next all t =
        let u = t.follows in
        let same : t.value ≡ head u.value = sym (is_head t.value u.value u.fits) in
        record {
          value = u.value;
          fits = subst (λ (h : A). Fits h × Goes h u.value) same (t.fits, u.fits);
          bytes = subst (λ (h : A). IsBytes (concat (fields h ++ others u.value))) same (concat_bytes (fields t.value) (others u.value) t.bytes u.bytes);
          more = u.more;
          follows = u.follows;
          is = subst (λ (h : A). all ≡ (fields h ++ others u.value) ++ u.more) same (t.is ∙ ap (λ (l : List (List ℕ)). fields t.value ++ l) u.is ∙ sym (append_assoc (fields t.value) (others u.value) u.more));
        }

    both_from : (Next : X → List (List ℕ) → Type 0) (all : List (List ℕ)) → Then both_fields BothFit Next all → Then fields Fits (Rest Next) all
    both_from Next all t = record {
      value = head t.value;
      fits = t.fits.0;
      bytes = front_bytes (fields (head t.value)) (others t.value) t.bytes;
      more = others t.value ++ t.more;
      follows = record { value = t.value; fits = t.fits.1; bytes = back_bytes (fields (head t.value)) (others t.value) t.bytes; more = t.more; follows = t.follows; is = refl };
      is = t.is ∙ append_assoc (fields (head t.value)) (others t.value) t.more;
    }

    both_fails : (Next : X → List (List ℕ) → Type 0) → Live both_fields BothFit Next → (bytes : List ℕ) (left : ℕ) → IsBytes bytes → both_at bytes ≡ Err left → FaultAt (Then both_fields BothFit Next) bytes left
    both_fails Next live bytes left fits e =
        same_format (Then fields Fits (Rest Next)) (Then both_fields BothFit Next) bytes left (both_to Next) (both_from Next)
        (first one fields Fits (Rest Next) (λ a. two a.0 a.1) bytes left p some fits e (λ x f own after g. (q x.0 f).fails Next (goes x.0 f own) x.1 left after g))
      where
        goes : (a : A) → Fits a → IsBytes (concat (fields a)) → Live others (Goes a) Next
        goes a f own x g bytes =
            let same : a ≡ head x = sym (is_head a x g) in
            live x (subst (λ (h : A). Fits h × Goes h x) same (f, g)) (subst (λ (h : A). IsBytes (concat (fields h ++ others x))) same (concat_bytes (fields a) (others x) own bytes))

        some : Live fields Fits (Rest Next)
        some a f own = follows_known others (Goes a) Next (q a f).some (goes a f own)

    both_tells : (Next : X → List (List ℕ) → Type 0) → ((v : X) → BothFit v → Delimited (Next v)) → Delimited (Then both_fields BothFit Next)
    both_tells Next next =
        same_delimited (Then fields Fits (Rest Next)) (Then both_fields BothFit Next) (both_from Next)
        (p.tells (Rest Next) (λ a f. (q a f).tells Next (λ x g. next x (subst (λ (h : A). Fits h × Goes h x) (sym (is_head a x g)) (f, g)))))

    pub both_part : Part both_at both_fields BothFit
    both_part = record { took = both_took; again = both_again; some = both_some; fails = both_fails; tells = both_tells }

-- ---- what a part makes

-- the same part, with other words for what fits and for its fields
module _ {X : Type 0} (reads : List ℕ → Result (X × List ℕ) ℕ) (fields others : X → List (List ℕ)) (Fits Goes : X → Type 0) (to : (x : X) → Fits x → Goes x) (from : (x : X) → Goes x → Fits x) (same : (x : X) → Fits x → others x ≡ fields x) (p : Part reads fields Fits) where
  pub same_part : Part reads others Goes
  same_part = record {
    took = λ bytes x fits e. let t = p.took bytes x fits e in record { parts = t.parts ∙ ap (λ (l : List (List ℕ)). concat l ++ x.1) (sym (same x.0 t.fits)); rest_fits = t.rest_fits; fits = to x.0 t.fits };
    again = λ x rest g. ap (λ (l : List (List ℕ)). reads (concat l ++ rest)) (same x (from x g)) ∙ p.again x rest (from x g);
    some = let k = p.some in record { value = k.value; fits = to k.value k.fits; bytes = subst (λ (l : List (List ℕ)). IsBytes (concat l)) (sym (same k.value k.fits)) k.bytes };
    fails = λ Next live bytes left fits e. same_format (Then fields Fits Next) (Then others Goes Next) bytes left (there Next) (back Next)
        (p.fails Next (λ x f own. live x (to x f) (subst (λ (l : List (List ℕ)). IsBytes (concat l)) (sym (same x f)) own)) bytes left fits e);
    tells = λ Next next. same_delimited (Then fields Fits Next) (Then others Goes Next) (back Next) (p.tells Next (λ v f. next v (to v f)));
  }
    where
      there : (Next : X → List (List ℕ) → Type 0) (all : List (List ℕ)) → Then fields Fits Next all → Then others Goes Next all
      there Next all t = let own = sym (same t.value t.fits) in record {
        value = t.value;
        fits = to t.value t.fits;
        bytes = subst (λ (l : List (List ℕ)). IsBytes (concat l)) own t.bytes;
        more = t.more;
        follows = t.follows;
        is = t.is ∙ ap (λ (l : List (List ℕ)). l ++ t.more) own;
      }

      back : (Next : X → List (List ℕ) → Type 0) (all : List (List ℕ)) → Then others Goes Next all → Then fields Fits Next all
      back Next all t = let own = same t.value (from t.value t.fits) in record {
        value = t.value;
        fits = from t.value t.fits;
        bytes = subst (λ (l : List (List ℕ)). IsBytes (concat l)) own t.bytes;
        more = t.more;
        follows = t.follows;
        is = t.is ∙ ap (λ (l : List (List ℕ)). l ++ t.more) own;
      }

abbrev pub give : {A X : Type 0} → (A → X) → A × List ℕ → Result (X × List ℕ) ℕ
give made a = Ok (made a.0, a.1)

abbrev pub made_at : {A X : Type 0} → (List ℕ → Result (A × List ℕ) ℕ) → (A → X) → List ℕ → Result (X × List ℕ) ℕ
made_at reads made bytes = reads bytes >>= give made

-- another value made of what is read, from which that can be told
module _ {A X : Type 0} (reads : List ℕ → Result (A × List ℕ) ℕ) (fields : A → List (List ℕ)) (Fits : A → Type 0) (made : A → X) (source : X → A) (back : (a : A) → Fits a → source (made a) ≡ a) (p : Part reads fields Fits) where
  abbrev pub IsMade : X → Type 0
  IsMade x = Fits (source x) × (made (source x) ≡ x)

  is_made : (a : A) → Fits a → IsMade (made a)
  is_made a f = (subst Fits (sym (back a f)) f, ap made (back a f))

  pub made_part : Part (made_at reads made) (λ x. fields (source x)) IsMade
  made_part = record {
    took = λ bytes x fits e.
        let a = bind_ok (reads bytes) (give made) x e in
        let t = p.took bytes a.0 fits a.1 in
        subst (λ (y : X × List ℕ). Took (λ v. concat (fields (source v))) IsMade bytes y) (ok_is (made a.0.0, a.0.1) x a.2)
        (record { parts = t.parts ∙ ap (λ (b : A). concat (fields b) ++ a.0.1) (sym (back a.0.0 t.fits)); rest_fits = t.rest_fits; fits = is_made a.0.0 t.fits });
    again = λ x rest f. then_is (reads (concat (fields (source x)) ++ rest)) (give made) (source x, rest) (p.again (source x) rest f.0) ∙ ap (λ (y : X). Ok (y, rest)) f.1;
    some = let k = p.some in record { value = made k.value; fits = is_made k.value k.fits; bytes = subst (λ (b : A). IsBytes (concat (fields b))) (sym (back k.value k.fits)) k.bytes };
    fails = λ Next live bytes left fits e. same_format (Then fields Fits (λ a. Next (made a))) (Then (λ x. fields (source x)) IsMade Next) bytes left (there Next) (from Next)
        (p.fails (λ a. Next (made a)) (λ a f own. live (made a) (is_made a f) (subst (λ (b : A). IsBytes (concat (fields b))) (sym (back a f)) own)) bytes left fits (own_err (reads bytes) left e));
    tells = λ Next next. same_delimited (Then fields Fits (λ a. Next (made a))) (Then (λ x. fields (source x)) IsMade Next) (from Next) (p.tells (λ a. Next (made a)) (λ a f. next (made a) (is_made a f)));
  }
    where
      own_err : (r : Result (A × List ℕ) ℕ) (left : ℕ) → (r >>= give made) ≡ Err left → r ≡ Err left
      own_err (Ok a) left e = absurd (never_err (made a.0, a.1) left e)
      own_err (Err l) left e = cc

      there : (Next : X → List (List ℕ) → Type 0) (all : List (List ℕ)) → Then fields Fits (λ a. Next (made a)) all → Then (λ x. fields (source x)) IsMade Next all
      there Next all t = record {
        value = made t.value;
        fits = is_made t.value t.fits;
        bytes = subst (λ (b : A). IsBytes (concat (fields b))) (sym (back t.value t.fits)) t.bytes;
        more = t.more;
        follows = t.follows;
        is = t.is ∙ ap (λ (b : A). fields b ++ t.more) (sym (back t.value t.fits));
      }

      from : (Next : X → List (List ℕ) → Type 0) (all : List (List ℕ)) → Then (λ x. fields (source x)) IsMade Next all → Then fields Fits (λ a. Next (made a)) all
      from Next all t = record {
        value = source t.value;
        fits = t.fits.0;
        bytes = t.bytes;
        more = t.more;
        follows = subst (λ (x : X). Next x t.more) (sym t.fits.1) t.follows;
        is = t.is;
      }

-- the same, where it is said of what is made what fits and which fields it has
pub made_as : {A X : Type 0} (reads : List ℕ → Result (A × List ℕ) ℕ) (fields : A → List (List ℕ)) (Fits : A → Type 0) (made : A → X) (source : X → A) (others : X → List (List ℕ)) (Goes : X → Type 0)
    → ((a : A) → Fits a → source (made a) ≡ a) → ((a : A) → Fits a → Goes (made a)) → ((x : X) → Goes x → Fits (source x) × (made (source x) ≡ x)) → ((a : A) → Fits a → others (made a) ≡ fields a)
    → Part reads fields Fits → Part (made_at reads made) others Goes
made_as {A} {X} reads fields Fits made source others Goes back goes from same p =
    same_part (made_at reads made) (λ x. fields (source x)) others (λ x. Fits (source x) × (made (source x) ≡ x)) Goes
    (λ x f. subst Goes f.1 (goes (source x) f.0)) from
    (λ x f. ap others (sym f.1) ∙ same (source x) f.0) (made_part reads fields Fits made source back p)

-- a value that takes no bytes
pub given_part : {X : Type 0} (v : X) (fields : X → List (List ℕ)) (Fits : X → Type 0) → Fits v → ((x : X) → Fits x → v ≡ x) → fields v ≡ [] → Part (λ bytes. Ok (v, bytes)) fields Fits
given_part {X} v fields Fits fits only none = record {
  took = λ bytes x own e. subst (λ (y : X × List ℕ). Took (λ u. concat (fields u)) Fits bytes y) (ok_is (v, bytes) x e) (record { parts = ap (λ (l : List (List ℕ)). concat l ++ bytes) (sym none); rest_fits = own; fits = fits });
  again = λ x rest f. ap (λ (l : List (List ℕ)). Ok (v, concat l ++ rest)) (ap fields (sym (only x f)) ∙ none) ∙ ap (λ (u : X). Ok (u, rest)) (only x f);
  some = record { value = v; fits = fits; bytes = subst (λ (l : List (List ℕ)). IsBytes (concat l)) (sym none) (λ i. omega arith) };
  fails = λ Next live bytes left own e. absurd (never_err (v, bytes) left e);
  tells = λ Next next. same_delimited (Next v) (Then fields Fits Next) (behind Next) (next v fits);
}
  where
    behind : (Next : X → List (List ℕ) → Type 0) (all : List (List ℕ)) → Then fields Fits Next all → Next v all
    behind Next all t =
        let same : v ≡ t.value = only t.value t.fits in
        let is : all ≡ t.more = t.is ∙ ap (λ (u : X). fields u ++ t.more) (sym same) ∙ ap (λ (l : List (List ℕ)). l ++ t.more) none in
        subst (λ (u : X). Next u all) (sym same) (subst (Next t.value) (sym is) t.follows)

-- ---- so many items, each behind those before it

-- Left n front: n more items can stand behind these
module _ {X : Type 0} (item : List X → List ℕ → Result (X × List ℕ) ℕ) (fields : X → List (List ℕ)) (Keeps : List X → X → Type 0) (Left : ℕ → List X → Type 0) where
  abbrev pub AreItems : ℕ → List X → List X → Type 0
  AreItems n front xs = (length xs ≡ n) × EachAfter Keeps front xs

  -- the items behind one, or behind a front
  abbrev with_one : X → List X × List ℕ → Result (List X × List ℕ) ℕ
  with_one x xs = Ok (x ∷ xs.0, xs.1)

  abbrev with_front : List X → List X × List ℕ → Result (List X × List ℕ) ℕ
  with_front front xs = Ok (front ++ xs.0, xs.1)

  -- the items that are read, without those in front
  unfoldable items_at : ℕ → List X → List ℕ → Result (List X × List ℕ) ℕ
  items_at zero front bytes = Ok ([], bytes)
  items_at (suc n) front bytes = item front bytes >>= λ x. (items_at n (front ++ x.0 ∷ []) x.1 >>= with_one x.0)

  put_in_front : (front : List X) (x : X) (r : Result (List X × List ℕ) ℕ) → (r >>= with_front (front ++ x ∷ [])) ≡ ((r >>= with_one x) >>= with_front front)
  put_in_front front x (Err left) = refl
  put_in_front front x (Ok xs) = ap (λ (l : List X). Ok (l, xs.1)) (append_assoc front (x ∷ []) xs.0)

  behind : (n : ℕ) (front : List X) (r : Result (X × List ℕ) ℕ) → ((x : X × List ℕ) → many_at item n (front ++ x.0 ∷ []) x.1 ≡ (items_at n (front ++ x.0 ∷ []) x.1 >>= with_front (front ++ x.0 ∷ [])))
      → (r >>= λ x. many_at item n (front ++ x.0 ∷ []) x.1) ≡ ((r >>= λ x. (items_at n (front ++ x.0 ∷ []) x.1 >>= with_one x.0)) >>= with_front front)
  behind n front (Err left) rest = refl
  behind n front (Ok x) rest = rest x ∙ put_in_front front x.0 (items_at n (front ++ x.0 ∷ []) x.1)

  many_is : (n : ℕ) (front : List X) (bytes : List ℕ) → many_at item n front bytes ≡ (items_at n front bytes >>= with_front front)
  unfolding many_at items_at
  many_is zero front bytes = ap (λ (l : List X). Ok (l, bytes)) (sym (append-nil front))
  many_is (suc n) front bytes = behind n front (item front bytes) (λ x. many_is n (front ++ x.0 ∷ []) x.1)

  abbrev head_or : X → List X → X
  head_or d [] = d
  head_or d (x ∷ xs) = x

  abbrev tail_of : List X → List X
  tail_of [] = []
  tail_of (x ∷ xs) = xs

  module _ (part : (n : ℕ) (front : List X) → Left (suc n) front → Part (item front) fields (Keeps front)) (next : (n : ℕ) (front : List X) (x : X) → Left (suc n) front → Keeps front x → Left n (front ++ x ∷ [])) where
    none_part : (front : List X) → Part (items_at zero front) (flat_map fields) (AreItems 0 front)
    unfolding items_at
    none_part front = record {
      took = λ bytes x fits e. subst (λ (y : List X × List ℕ). Took (λ v. concat (flat_map fields v)) (AreItems 0 front) bytes y) (ok_is ([], bytes) x e) (record { parts = refl; rest_fits = fits; fits = (refl, tt) });
      again = λ xs rest f. ap (λ (l : List X). Ok (l, concat (flat_map fields xs) ++ rest)) (sym (nil_from_length xs f.0)) ∙ ap (λ (l : List X). Ok (xs, concat (flat_map fields l) ++ rest)) (nil_from_length xs f.0);
      some = record { value = []; fits = (refl, tt); bytes = λ i. omega arith };
      fails = λ Next live bytes left fits e. absurd (never_err ([], bytes) left e);
      tells = λ Next next. same_delimited (Next []) (Then (flat_map fields) (AreItems 0 front) Next) (whole Next) (next [] (refl, tt));
    }
      where
        whole : (Next : List X → List (List ℕ) → Type 0) (all : List (List ℕ)) → Then (flat_map fields) (AreItems 0 front) Next all → Next [] all
        whole Next all t =
            let none : t.value ≡ [] = nil_from_length t.value t.fits.0 in
            subst (λ (l : List X). Next l all) none (subst (Next t.value) (sym (t.is ∙ ap (λ (l : List X). flat_map fields l ++ t.more) none)) t.follows)

    items_part : (n : ℕ) (front : List X) → Left n front → Part (items_at n front) (flat_map fields) (AreItems n front)
    unfolding items_at
    items_part zero front left = none_part front
    items_part (suc n) front left =
        same_part (items_at (suc n) front) (λ xs. fields (head xs) ++ flat_map fields (tail_of xs)) (flat_map fields) (λ xs. Keeps front (head xs) × Goes (head xs) xs) (AreItems (suc n) front) to from same
        (both_part (item front) fields (Keeps front) (λ x bytes. items_at n (front ++ x ∷ []) bytes >>= with_one x) (λ xs. flat_map fields (tail_of xs)) Goes head is_head (part n front left)
        (λ x f. made_part (items_at n (front ++ x ∷ [])) (flat_map fields) (AreItems n (front ++ x ∷ [])) (λ xs. x ∷ xs) tail_of (λ xs f. refl) (items_part n (front ++ x ∷ []) (next n front x left f))))
      where
        head : List X → X
        head xs = head_or (part n front left).some.value xs

        Goes : X → List X → Type 0
        Goes x xs = AreItems n (front ++ x ∷ []) (tail_of xs) × (x ∷ tail_of xs ≡ xs)

        is_head : (x : X) (xs : List X) → Goes x xs → head xs ≡ x
        is_head x xs g = sym (ap head g.1)

        to : (xs : List X) → Keeps front (head xs) × Goes (head xs) xs → AreItems (suc n) front xs
        to [] f = let bad : head [] ∷ [] ≡ [] = f.1.1 in absurd cc
        to (x ∷ xs) f = (ap suc f.1.0.0, (f.0, f.1.0.1))

        from : (xs : List X) → AreItems (suc n) front xs → Keeps front (head xs) × Goes (head xs) xs
        from [] f = absurd (omega (arith, f.0))
        from (x ∷ xs) f = (f.1.0, ((omega (arith, f.0), f.1.1), refl))

        same : (xs : List X) → Keeps front (head xs) × Goes (head xs) xs → flat_map fields xs ≡ fields (head xs) ++ flat_map fields (tail_of xs)
        same [] f = let bad : head [] ∷ [] ≡ [] = f.1.1 in absurd cc
        same (x ∷ xs) f = flat_map-cons fields x xs

    -- so many items, none in front
    pub many_part : (n : ℕ) → Left n [] → Part (many_at item n []) (flat_map fields) (AreItems n [])
    many_part n left = same_reader (items_at n []) (many_at item n []) (flat_map fields) (AreItems n []) (λ bytes. many_is n [] bytes ∙ sym (bind_same (items_at n [] bytes))) (items_part n [] left)

-- ---- the bytes of items

-- the bytes of the fields of items are those of each, one behind the other
pub concat_items : {X : Type 0} (fields : X → List (List ℕ)) (spelled : X → List ℕ) → ((x : X) → concat (fields x) ≡ spelled x) → (xs : List X) → concat (flat_map fields xs) ≡ flat_map spelled xs
concat_items fields spelled one [] = refl
concat_items fields spelled one (x ∷ xs) =
    ap concat (flat_map-cons fields x xs) ∙ concat-append (fields x) (flat_map fields xs)
    ∙ ap (λ (l : List ℕ). l ++ concat (flat_map fields xs)) (one x) ∙ ap (λ (l : List ℕ). spelled x ++ l) (concat_items fields spelled one xs)
    ∙ sym (flat_map-cons spelled x xs)
