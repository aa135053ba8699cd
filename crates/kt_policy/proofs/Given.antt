-- Candidates that are given one after the other.
use Rattle.std.proofs.Common.{◌≡◌, ◌≢◌, ℕ, ◌+◌, ◌<◌, ◌≤◌, List, true, false, sym, ◌∙◌, subst, length, get_or, take}
use Rattle.std.specs.List.{All, AllPairs}
use Rattle.std.proofs.lemmas.List.{take_more}
use Rattle.std.proofs.lemmas.List.Elements.{All-more}
use Rattle.std.proofs.lemmas.List.Quantifiers.{all_pairs_push}
use Rattle.kt_policy.specs.declared.candidate.Candidate.{Candidate}
use Rattle.kt_policy.specs.Gain.{IsCandidate, is_known}
use Rattle.kt_policy.proofs.Sets.{in_at, known_of}

pub each_more : (list : List Candidate) (k : ℕ) (d : Candidate) → k < length list → (get_or list k d).least ≤ (get_or list k d).greatest → (get_or list k d).greatest < 128 → All IsCandidate (take k list) → All IsCandidate (take (k + 1) list)
each_more list k d lt rises ranks h = All-more IsCandidate list k d lt h (record { rises = rises; ranks = ranks })

pub different_more : (list : List Candidate) (k : ℕ) (d : Candidate) → k < length list → is_known (take k list) (get_or list k d).rowset ≡ false → AllPairs (λ (c e : Candidate). c.rowset ≢ e.rowset) (take k list)
    → AllPairs (λ (c e : Candidate). c.rowset ≢ e.rowset) (take (k + 1) list)
different_more list k d lt new h = subst (AllPairs (λ (c e : Candidate). c.rowset ≢ e.rowset)) (sym (take_more list k d lt))
    (all_pairs_push (λ (c e : Candidate). c.rowset ≢ e.rowset) (take k list) (get_or list k d) h (λ i e il same.
    let found : is_known (take k list) (get_or list k d).rowset ≡ true = subst (λ n. is_known (take k list) n ≡ true) same (known_of (take k list) (get_or (take k list) i e) (in_at (take k list) i e il)) in
    let both : true ≡ false = sym found ∙ new in cc))
