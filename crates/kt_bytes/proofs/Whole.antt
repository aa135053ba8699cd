-- All of the bytes: a part of a format with nothing behind it.
use Rattle.std.proofs.Common.{◌≡◌, ℕ, ◌-◌, cond, eqb, List, [], ◌∷◌, ◌++◌, length, Result, Ok, Err, refl, sym, ap, subst, ◌∙◌, append_assoc, arith}
use Rattle.std.specs.List.{concat}
use Rattle.std.proofs.lemmas.List.{append-nil, append_cancel_left, nil_from_length}
use Rattle.std.proofs.lemmas.Bool.{eqb-true, eqb-false}
use Rattle.kt_bytes.specs.Places.{IsFault, Delimited}
use Rattle.kt_bytes.specs.Reading.{◌>>=◌, with_offset}
use Rattle.kt_bytes.proofs.Numbers.{IsBytes, bind_ok, then_is, ok_is, allowed}
use Rattle.kt_bytes.proofs.Faults.{never_err, pass_err}
use Rattle.kt_bytes.proofs.Places.{one_place}
use Rattle.kt_bytes.proofs.Fronts.{IsWhole, refused}
use Rattle.kt_bytes.specs.Places.{IsSpelled}
use Rattle.kt_bytes.proofs.Formats.{FaultAt, same_format, same_delimited, left_over, Then, Part, first, one_value}

module _ {X : Type 0} (reads : List ℕ → Result (X × List ℕ) ℕ) (fields : X → List (List ℕ)) (Fits : X → Type 0) (p : Part reads fields Fits) where
  -- what is read, where nothing stands behind it
  abbrev pub ended : X × List ℕ → Result X ℕ
  ended x = cond (eqb (length x.1) 0) (Ok x.0) (Err (length x.1))

  abbrev pub all_at : List ℕ → Result X ℕ
  all_at bytes = reads bytes >>= ended

  abbrev Last : X → List (List ℕ) → Type 0
  Last v more = more ≡ []

  to_spelled : (all : List (List ℕ)) → Then fields Fits Last all → IsSpelled fields Fits all
  to_spelled all t =
      let is : all ≡ fields t.value = t.is ∙ ap (λ (l : List (List ℕ)). fields t.value ++ l) t.follows ∙ append-nil (fields t.value) in
      record { value = t.value; keeps = t.fits; bytes = subst (λ (l : List (List ℕ)). IsBytes (concat l)) (sym is) t.bytes; is = is }

  from_spelled : (all : List (List ℕ)) → IsSpelled fields Fits all → Then fields Fits Last all
  from_spelled all s = record { value = s.value; fits = s.keeps; bytes = subst (λ (l : List (List ℕ)). IsBytes (concat l)) s.is s.bytes; more = []; follows = refl; is = s.is ∙ sym (append-nil (fields s.value)) }

  nothing_tells : (v : X) → Delimited (Last v)
  nothing_tells v front a b on other = absurd (none front a on.0 on.1)
    where
      none : (front : List (List ℕ)) (a : List ℕ) (more : List (List ℕ)) → (front ++ a ∷ []) ++ more ≡ [] → ⊥
      none [] a more e = absurd cc
      none (x ∷ front) a more e = absurd cc

  -- what stands before a field tells how long it is
  pub delimited : Delimited (IsSpelled fields Fits)
  delimited = same_delimited (Then fields Fits Last) (IsSpelled fields Fits) from_spelled (p.tells Last (λ v f. nothing_tells v))

  -- no spelling goes on behind another
  pub whole : IsWhole (IsSpelled fields Fits)
  whole front field s on =
      let longer = on.1 in
      let text : fields s.value ++ (field ∷ on.0) ≡ fields longer.value ++ [] = ap (λ (l : List (List ℕ)). l ++ (field ∷ on.0)) (sym s.is) ∙ sym (append_assoc front (field ∷ []) on.0) ∙ longer.is ∙ sym (append-nil (fields longer.value)) in
      let same : s.value ≡ longer.value = one_value reads fields Fits s.value longer.value (field ∷ on.0) [] p s.keeps longer.keeps text in
      let more : field ∷ on.0 ≡ [] = append_cancel_left (fields s.value) (field ∷ on.0) [] (text ∙ ap (λ (v : X). fields v ++ []) (sym same)) in
      absurd cc

  end_fails : (v : X) (rest : List ℕ) (left : ℕ) → ended (v, rest) ≡ Err left → FaultAt (Last v) rest left
  end_fails v rest left e =
      let g = pass_err (eqb (length rest) 0) (length rest) left v e in
      subst (λ (k : ℕ). FaultAt (Last v) rest k) g.1 (left_over (Last v) rest refl no_field (omega (arith, eqb-false _ _ g.0)))
    where
      no_field : (f : List ℕ) (others : List (List ℕ)) → f ∷ others ≡ [] → ⊥
      no_field f others is = absurd cc

  -- where the bytes cannot be read, their first fault
  pub fault : (bytes : List ℕ) (left : ℕ) → IsBytes bytes → all_at bytes ≡ Err left → FaultAt (IsSpelled fields Fits) bytes left
  fault bytes left fits e =
      same_format (Then fields Fits Last) (IsSpelled fields Fits) bytes left to_spelled from_spelled
      (first reads fields Fits Last ended bytes left p (λ v f own. ([], refl)) fits e (λ x f own after g. end_fails x.0 x.1 left g))

  end_reads : (v u : X) (rest : List ℕ) → ended (v, rest) ≡ Ok u → (v ≡ u) × (rest ≡ [])
  end_reads v u rest e =
      let g = allowed (eqb (length rest) 0) (length rest) (Ok v) u e in
      (ok_is v u g.1, nil_from_length rest (eqb-true _ _ g.0))

  -- what is read fits, and is spelled so
  pub found : (bytes : List ℕ) (v : X) → IsBytes bytes → all_at bytes ≡ Ok v → Fits v × (bytes ≡ concat (fields v))
  found bytes v fits e =
      let a = bind_ok (reads bytes) ended v e in
      let t = p.took bytes a.0 fits a.1 in
      let n = end_reads a.0.0 v a.0.1 a.2 in
      subst (λ (u : X). Fits u × (bytes ≡ concat (fields u))) n.0 (t.fits, t.parts ∙ ap (λ (l : List ℕ). concat (fields a.0.0) ++ l) n.1 ∙ append-nil (concat (fields a.0.0)))

  -- what is spelled so is read
  pub again : (v : X) → Fits v → all_at (concat (fields v)) ≡ Ok v
  again v f =
      ap all_at (sym (append-nil (concat (fields v)))) ∙ then_is (reads (concat (fields v) ++ [])) ended (v, []) (p.again v [] f)

  -- the place that is told is the first fault
  pub place : (bytes : List ℕ) (offset : ℕ) → IsBytes bytes → with_offset (length bytes) (all_at bytes) ≡ Err offset → IsFault (IsSpelled fields Fits) bytes offset
  place bytes offset fits e = told (all_at bytes) refl e
    where
      told : (r : Result X ℕ) → all_at bytes ≡ r → with_offset (length bytes) r ≡ Err offset → IsFault (IsSpelled fields Fits) bytes offset
      told (Ok v) is e = absurd (never_err v offset e)
      told (Err left) is e = let same : length bytes - left ≡ offset = cc in subst (IsFault (IsSpelled fields Fits) bytes) same (fault bytes left fits is).fault

  -- and the first fault is told
  pub told_place : (bytes : List ℕ) (offset : ℕ) → IsBytes bytes → IsFault (IsSpelled fields Fits) bytes offset → with_offset (length bytes) (all_at bytes) ≡ Err offset
  told_place bytes offset fits f = told (all_at bytes) refl
    where
      told : (r : Result X ℕ) → all_at bytes ≡ r → with_offset (length bytes) r ≡ Err offset
      told (Ok v) is =
          let t = found bytes v fits is in
          absurd (refused (IsSpelled fields Fits) bytes offset delimited whole f (fields v) (record { value = v; keeps = t.0; bytes = subst IsBytes t.1 fits; is = refl }) t.1)
      told (Err left) is = ap (λ (k : ℕ). Err k) (one_place (IsSpelled fields Fits) bytes (length bytes - left) offset delimited (fault bytes left fits is).fault f)
