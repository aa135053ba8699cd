-- Reading a block, field after field.
use Rattle.std.proofs.Common.{◌≡◌, ℕ, Bool, cond, eqb, List, [], length, Result, Ok, Err, ap, ◌∙◌}
use Rattle.kt_bytes.specs.declared.fault.Stop.{Stop}
use Rattle.kt_bytes.specs.declared.fault.Stop.TheVariants as stops
use Rattle.kt_bytes.specs.Reading.{◌>>=◌, Fails}
use Rattle.kt_bytes.proofs.Numbers.{then_is}
use Rattle.kt_dict.specs.Walk.{count_at, entries_at, codes_at, block_at}

abbrev Parts : Type 0
Parts = Result (List (List ℕ) × List ℕ) ℕ

-- a step that failed is all that is read
pub stopped : {A B : Type 0} (r : Result A ℕ) (f : A → Result B ℕ) (left : ℕ) → r ≡ Err left → (r >>= f) ≡ Err left
stopped r f left e = ap (λ (s : Result _ ℕ). s >>= f) e

-- what is read behind the codes, behind the entries and behind their number
abbrev behind_codes : List (List ℕ) → List ℕ × List ℕ → Parts
behind_codes known codes = cond (eqb (length codes.1) 0) (Ok (known, codes.0)) (Err (length codes.1))

abbrev behind_entries : ℕ → List (List ℕ) × List ℕ → Parts
behind_entries n known = codes_at n (length known.0) 0 [] known.1 >>= behind_codes known.0

abbrev behind_count : ℕ → ℕ → ℕ × List ℕ → Parts
behind_count most n d = entries_at most d.0 [] d.1 >>= behind_entries n

pub count_stops : (e : Stop) (most n : ℕ) (bytes : List ℕ) → Fails e (count_at n bytes) → Fails e (block_at most n bytes)
unfolding block_at
count_stops stops.Memory most n bytes h = tt
count_stops (stops.Left left) most n bytes h = stopped (count_at n bytes) (behind_count most n) left h

counted : (most n : ℕ) (bytes : List ℕ) (d : ℕ × List ℕ) → count_at n bytes ≡ Ok d → block_at most n bytes ≡ behind_count most n d
unfolding block_at
counted most n bytes d h = then_is (count_at n bytes) (behind_count most n) d h

pub entries_stops : (e : Stop) (most n : ℕ) (bytes : List ℕ) (d : ℕ × List ℕ) → count_at n bytes ≡ Ok d → Fails e (entries_at most d.0 [] d.1) → Fails e (block_at most n bytes)
entries_stops stops.Memory most n bytes d first h = tt
entries_stops (stops.Left left) most n bytes d first h = counted most n bytes d first ∙ stopped (entries_at most d.0 [] d.1) (behind_entries n) left h

entered : (most n : ℕ) (bytes : List ℕ) (d : ℕ × List ℕ) (known : List (List ℕ) × List ℕ) → count_at n bytes ≡ Ok d → entries_at most d.0 [] d.1 ≡ Ok known → block_at most n bytes ≡ behind_entries n known
entered most n bytes d known first second = counted most n bytes d first ∙ then_is (entries_at most d.0 [] d.1) (behind_entries n) known second

pub codes_stop : (e : Stop) (most n : ℕ) (bytes : List ℕ) (d : ℕ × List ℕ) (known : List (List ℕ) × List ℕ) → count_at n bytes ≡ Ok d → entries_at most d.0 [] d.1 ≡ Ok known → Fails e (codes_at n (length known.0) 0 [] known.1) → Fails e (block_at most n bytes)
codes_stop stops.Memory most n bytes d known first second h = tt
codes_stop (stops.Left left) most n bytes d known first second h = entered most n bytes d known first second ∙ stopped (codes_at n (length known.0) 0 [] known.1) (behind_codes known.0) left h

-- all was read, and there are bytes behind it, or none
pub block_is : (most n : ℕ) (bytes : List ℕ) (d : ℕ × List ℕ) (known : List (List ℕ) × List ℕ) (codes : List ℕ × List ℕ) (whole : Bool) → count_at n bytes ≡ Ok d → entries_at most d.0 [] d.1 ≡ Ok known → codes_at n (length known.0) 0 [] known.1 ≡ Ok codes → eqb (length codes.1) 0 ≡ whole
    → block_at most n bytes ≡ cond whole (Ok (known.0, codes.0)) (Err (length codes.1))
block_is most n bytes d known codes whole first second third test = entered most n bytes d known first second ∙ (then_is (codes_at n (length known.0) 0 [] known.1) (behind_codes known.0) codes third ∙ ap (λ (b : Bool). cond {A = Parts} b (Ok (known.0, codes.0)) (Err (length codes.1))) test)
