-- Timestamps that no record is above.
use Rattle.std.proofs.Common.{◌≡◌, ◌≤◌, ◌+◌, ◌<◌, ℕ, List, [], ◌∷◌, ◌++◌, length, take, get_or, sym, subst, arith}
use Rattle.std.proofs.lemmas.List.{take_more}
use Rattle.kt_history.specs.declared.changes.Delta.{Delta}
use Rattle.kt_deltafile.specs.Order.{AreUpTo}

pushed : (a b : ℕ) (list : List Delta) (d : Delta) → a ≤ b → d.ts ≤ b → AreUpTo a list → AreUpTo b (list ++ d ∷ [])
pushed a b [] d le at h = (at, tt)
pushed a b (x ∷ list) d le at h = ((let x_at = h.0 in omega arith), pushed a b list d le at h.1)

-- those up to one more
pub one_more : (a b i : ℕ) (list : List Delta) (d : Delta) → i < length list → d ≡ get_or list i d → a ≤ b → d.ts ≤ b → AreUpTo a (take i list) → AreUpTo b (take (i + 1) list)
one_more a b i list d lt is le at h = subst (AreUpTo b) (sym (take_more list i d lt)) (subst (λ (x : Delta). AreUpTo b (take i list ++ x ∷ [])) is (pushed a b (take i list) d le at h))
