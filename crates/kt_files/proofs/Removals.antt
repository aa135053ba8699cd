-- What a crash leaves while files are removed.
use Rattle.std.proofs.Common.{◌≡◌, ◌≢◌, ◌<◌, ◌+◌, ℕ, List, Option, Some, None, IsSome, true, false, length, get_or, inl, inr, refl, sym, ◌∙◌, ap, subst, arith}
use Rattle.std.specs.List.{Contains}
use Rattle.std.proofs.lemmas.Bool.{cases_eq}
use Rattle.std.proofs.lemmas.List.{get_or_default}
use Rattle.kt_disk.specs.Disk.{Files, AreFiles, Gone, On, Same, Turns, LeavesOnly}
use Rattle.kt_disk.proofs.Moments.{started, goes_on, goes_on_same, joined, weaker, same_left}
use Rattle.kt_super.specs.Rowsets.{HaveTheSame}
use Rattle.kt_files.specs.Named.{is_kept, Spares}
use Rattle.kt_files.proofs.Names.{kept_same}

pub gone_then : (a b c : Option (List ℕ)) → Gone a b → Gone b c → Gone a c
gone_then a b c first (inr none) = inr none
gone_then a b c (inl same) (inl e) = inl (e ∙ same)
gone_then a b c (inr none) (inl e) = inr (e ∙ none)

-- a file that is kept is not one that is not
pub apart : (named : List ℕ) (file n : ℕ) → is_kept named file ≡ false → is_kept named n ≡ true → n ≢ file
apart named file n removed kept e =
    let both : true ≡ false = sym kept ∙ ap (λ (k : ℕ). is_kept named k) e ∙ removed in
    absurd cc

-- files of which one is gone
gone_on : (file : ℕ) (image d c : Files) → ((n : ℕ) → Gone (image n) (d n)) → On file Gone d c → (n : ℕ) → Gone (image n) (c n)
gone_on file image d c so_far on n = elim (cases_eq n file) [
  | inl e ↦ gone_then (image n) (d n) (c n) (so_far n) (subst (λ (k : ℕ). Gone (d k) (c k)) (sym e) on.here)
  | inr ne ↦ gone_then (image n) (d n) (c n) (so_far n) (inl (on.others n ne))
]

module _ {D : Type 0} (seen : D → Files) (now : D → ℕ) (leaves : D → ℕ → Files → Type 0) where
  -- before the first call
  pub spares_none : (old : D) (named : List ℕ) → LeavesOnly now leaves (Spares now leaves old named) old old
  spares_none old named = started seen now leaves (Spares now leaves old named) old (λ c left. record { image = c; was_left = left; kept = λ n k. refl; others = λ n. inl refl })

  -- a file is removed
  pub spares_one : (old new : D) (named : List ℕ) (file : ℕ) → is_kept named file ≡ false → Turns now leaves (On file Gone) old new → LeavesOnly now leaves (Spares now leaves old named) old new
  spares_one old new named file removed turn = goes_on seen now leaves (Spares now leaves old named) old old new (On file Gone) (spares_none old named) turn (λ d c left has on. record {
    image = has.image;
    was_left = has.was_left;
    kept = λ n k. on.others n (apart named file n removed k) ∙ has.kept n k;
    others = gone_on file has.image d c has.others on;
  })

  -- one run after another
  pub spares_joined : (old mid new : D) (named : List ℕ) → LeavesOnly now leaves (Spares now leaves old named) old mid → LeavesOnly now leaves (Spares now leaves mid named) mid new
      → LeavesOnly now leaves (Spares now leaves old named) old new
  spares_joined old mid new named first second =
      joined now leaves (Spares now leaves old named) old mid new first (record {
        later = second.later;
        each = λ m c lo hi left.
            let from = second.each m c lo hi left in
            let was = first.each (now mid) from.image first.later (omega arith) from.was_left in
            record {
              image = was.image;
              was_left = was.was_left;
              kept = λ n k. from.kept n k ∙ was.kept n k;
              others = λ n. gone_then (was.image n) (from.image n) (c n) (was.others n) (from.others n);
            };
        past = second.past;
        keeps = second.keeps;
      })

  -- behind a call that only looks, and with the same names in another list
  pub spares_begun : (old mid new : D) (keys named : List ℕ) → HaveTheSame keys named → Turns now leaves Same old mid → LeavesOnly now leaves (Spares now leaves mid keys) mid new
      → LeavesOnly now leaves (Spares now leaves old named) old new
  spares_begun old mid new keys named same turn run =
      joined now leaves (Spares now leaves old named) old mid new (goes_on_same seen now leaves (Spares now leaves old named) old old mid (spares_none old named) turn)
      (weaker now leaves (Spares now leaves mid keys) (Spares now leaves old named) mid new (λ c has. record {
        image = has.image;
        was_left = same_left now leaves old mid turn has.image has.was_left;
        kept = λ n k. has.kept n (kept_same keys named same n ∙ k);
        others = has.others;
      }) run)

  pub spares_looked : (old mid : D) (named : List ℕ) → Turns now leaves Same old mid → LeavesOnly now leaves (Spares now leaves old named) old mid
  spares_looked old mid named turn = goes_on_same seen now leaves (Spares now leaves old named) old old mid (spares_none old named) turn

-- ---- as the disk reads

-- one file is gone
pub gone_one : (file : ℕ) (old new : Files) → new file ≡ None → ((n : ℕ) → n ≢ file → new n ≡ old n) → (n : ℕ) → Gone (old n) (new n)
gone_one file old new none others n = elim (cases_eq n file) [
  | inl e ↦ inr (ap (λ (k : ℕ). new k) e ∙ none)
  | inr ne ↦ inl (others n ne)
]

-- one file more, of some that are gone
pub gone_more : (named found : List ℕ) (i file : ℕ) (mid new : Files) → get_or found i 0 ≡ file → ((k : ℕ) → k < i → is_kept named (get_or found k 0) ≡ false → mid (get_or found k 0) ≡ None) → (is_kept named file ≡ false → new file ≡ None)
    → ((n : ℕ) → Gone (mid n) (new n)) → (k : ℕ) → k < i + 1 → is_kept named (get_or found k 0) ≡ false → new (get_or found k 0) ≡ None
gone_more named found i file mid new is so_far one change k lt removed = elim (cases_eq k i) [
  | inl e ↦
      let here : get_or found k 0 ≡ file = ap (λ (j : ℕ). get_or found j 0) e ∙ is in
      ap new here ∙ one (sym (ap (λ (j : ℕ). is_kept named j) here) ∙ removed)
  | inr ne ↦
      let before : mid (get_or found k 0) ≡ None = so_far k (omega arith) removed in
      elim (change (get_or found k 0)) [ inl same ↦ same ∙ before | inr none ↦ none ]
]

-- a file that is listed
pub gone_found : (named found : List ℕ) (i : ℕ) (new : Files) → length found ≡ i → ((k : ℕ) → k < i → is_kept named (get_or found k 0) ≡ false → new (get_or found k 0) ≡ None)
    → (n : ℕ) → Contains found n → is_kept named n ≡ false → new n ≡ None
gone_found named found i new end all n (k, lt, is) removed =
    let here : get_or found k 0 ≡ n = get_or_default found k 0 n lt ∙ is in
    ap new (sym here) ∙ all k (omega (arith, end)) (ap (λ (j : ℕ). is_kept named j) here ∙ removed)

-- a file that is listed is removed, and one that is not was not there
pub all_gone : (found : List ℕ) (files gone : Files) (n : ℕ) → AreFiles found files → (Contains found n → gone n ≡ None) → Gone (files n) (gone n) → gone n ≡ None
all_gone found files gone n are listed change = pick (files n) refl
  where
    pick : (x : Option (List ℕ)) → files n ≡ x → gone n ≡ None
    pick None e = elim change [ inl same ↦ same ∙ e | inr none ↦ none ]
    pick (Some b) e = listed ((are.each n).1 (subst IsSome (sym e) refl))
