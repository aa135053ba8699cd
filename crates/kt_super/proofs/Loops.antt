-- Reading items one after the other, as a loop does.
use Rattle.std.proofs.Common.{◌≡◌, ℕ, suc, ◌-◌, ◌+◌, ◌≤◌, ◌<◌, List, [], ◌∷◌, ◌++◌, Result, Ok, Err, refl, sym, ◌∙◌, arith}
use Rattle.kt_bytes.specs.declared.fault.Stop.{Stop}
use Rattle.kt_bytes.specs.declared.fault.Stop.TheVariants as no
use Rattle.kt_bytes.specs.Reading.{Fails, many_at}

-- items that are read behind those in front of them, so many still to come
module _ {X : Type 0} (item : List X → List ℕ → Result (X × List ℕ) ℕ) (count i : ℕ) (front : List X) (bytes : List ℕ) (total : Result (List X × List ℕ) ℕ) (so_far : many_at item (count - i) front bytes ≡ total) where
  pub goes_on : (x : X) (behind : List ℕ) → i < count → item front bytes ≡ Ok (x, behind) → many_at item (count - (i + 1)) (front ++ x ∷ []) behind ≡ total
  unfolding many_at
  goes_on x behind lt read =
      let k : count - i ≡ suc (count - (i + 1)) = omega arith in
      let one : many_at item (count - i) front bytes ≡ many_at item (count - (i + 1)) (front ++ x ∷ []) behind = rw (k, read) refl in
      sym one ∙ so_far

  pub ends : (e : Stop) → i < count → Fails e (item front bytes) → Fails e total
  unfolding many_at
  ends no.Memory lt read = tt
  ends (no.Left f) lt read =
      let k : count - i ≡ suc (count - (i + 1)) = omega arith in
      let one : many_at item (count - i) front bytes ≡ Err f = rw (k, read) refl in
      sym so_far ∙ one

  pub is_done : count ≤ i → total ≡ Ok (front, bytes)
  unfolding many_at
  is_done le =
      let k : count - i ≡ 0 = omega arith in
      let one : many_at item (count - i) front bytes ≡ Ok (front, bytes) = rw k refl in
      sym so_far ∙ one
