-- A search by halves among keys that rise.
use Rattle.std.proofs.Common.{◌≡◌, ℕ, ◌+◌, ◌*◌, ◌/◌, ◌<◌, ◌≤◌, List, [], length, get_or, sym, ap, subst, ◌∙◌, zero-add, arith, inl, inr}
use Rattle.std.specs.Cmp.Lexicographic.{nat_list_cmp_total}
use Rattle.std.proofs.lemmas.Bool.{cases_lt}
use Rattle.std.proofs.lemmas.List.FromFn.{fill_by_all, length-map-range_with_len, get_or-map-range_with_len}
use Rattle.kt_lookup.specs.Filter.{filter_len, filter_of}
use Rattle.kt_lookup.specs.Index.{IsBelow, Rises, index_of}
use Rattle.kt_lookup.specs.Tables.{AreTables}
use Rattle.kt_lookup.proofs.OneFilter.{len_filter}

pub below_trans : (a b c : List ℕ) → IsBelow a b → IsBelow b c → IsBelow a c
below_trans a b c h k = nat_list_cmp_total.trans a b c h k

-- where an entry is below the key, so is each one before it
pub all_below : (index : List (List ℕ)) (key : List ℕ) (mid j : ℕ) → Rises index → mid < length index → IsBelow (get_or index mid []) key → j < mid + 1 → IsBelow (get_or index j []) key
all_below index key mid j rises within below lt =
    elim (cases_lt j mid) [
      | inl less ↦ below_trans (get_or index j []) (get_or index mid []) key (rises j mid less within) below
      | inr le ↦
          let same : mid ≡ j = omega arith in
          subst (λ (i : ℕ). IsBelow (get_or index i []) key) same below
    ]

-- ---- the index

pub is_index : (keys index : List (List ℕ)) → length index ≡ (length keys + 15) / 16 → ((k : ℕ) → k < length index → get_or index k [] ≡ get_or keys (16 * k) []) → index ≡ index_of keys
unfolding index_of
is_index keys index len each = fill_by_all (λ j. get_or keys (16 * j) []) index ((length keys + 15) / 16) [] len (λ k lt. each k (omega (arith, len)))

length-index : (keys : List (List ℕ)) → length (index_of keys) ≡ (length keys + 15) / 16
unfolding index_of
length-index keys = length-map-range_with_len _ 0 ((length keys + 15) / 16)

get_or-index : (keys : List (List ℕ)) (j : ℕ) → j < (length keys + 15) / 16 → get_or (index_of keys) j [] ≡ get_or keys (16 * j) []
unfolding index_of
get_or-index keys j lt = get_or-map-range_with_len (λ (j : ℕ). get_or keys (16 * j) []) 0 ((length keys + 15) / 16) j j [] lt (zero-add j)

pub index_rises : (keys : List (List ℕ)) → Rises keys → Rises (index_of keys)
index_rises keys rises i j lt less =
    let n = length-index keys in
    let last : 16 * j < length keys = omega (arith, n) in
    rw (get_or-index keys i (omega (arith, n)), get_or-index keys j (omega (arith, n))) (rises (16 * i) (16 * j) (omega arith) last)

index_short : (keys : List (List ℕ)) → ((j : ℕ) → j < length keys → length (get_or keys j []) ≤ 65535) → (j : ℕ) → j < length (index_of keys) → length (get_or (index_of keys) j []) ≤ 65535
index_short keys short j less =
    let n = length-index keys in
    rw (get_or-index keys j (omega (arith, n))) (short (16 * j) (omega (arith, n)))

pub are_tables : (keys : List (List ℕ)) (filter : List ℕ) (index : List (List ℕ)) → 0 < length keys → length keys ≤ 3435973836 → Rises keys → ((j : ℕ) → j < length keys → length (get_or keys j []) ≤ 65535) → filter ≡ filter_of keys → index ≡ index_of keys → AreTables filter index
are_tables keys filter index some few rises short made is =
    let n : length filter ≡ filter_len keys = ap length made ∙ len_filter keys in
    let m : length index ≡ (length keys + 15) / 16 = ap length is ∙ length-index keys in
    record {
      some = omega (arith, n);
      small = omega (arith, n);
      few = omega (arith, m);
      rises = subst (λ (x : List (List ℕ)). Rises x) (sym is) (index_rises keys rises);
      short = subst (λ (x : List (List ℕ)). (j : ℕ) → j < length x → length (get_or x j []) ≤ 65535) (sym is) (index_short keys short);
    }
