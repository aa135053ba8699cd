-- A log gone through: where the COMMIT of each write stands.
use Rattle.std.proofs.Common.{◌≡◌, ℕ, zero, suc, ◌+◌, ◌<◌, ◌≤◌, List, [], ◌∷◌, ◌++◌, length, take, drop, replicate, get_or, set, Option, Some, None, Bool, true, false, cond, inl, inr, refl, sym, ap, ◌∙◌, subst, arith, length-set}
use Rattle.std.specs.Prelude.{◌==◌, slice_get}
use Rattle.std.specs.Ordering.{nat_cmp}
use Rattle.std.specs.BTreeMap.{is_at}
use Rattle.std.proofs.lemmas.Bool.Decides.{nat_tests}
use Rattle.std.proofs.lemmas.Bool.{cases_eq, cases_lt}
use Rattle.std.proofs.lemmas.List.{take_all, take-append-drop, get_or-set_same, get_or-set_other}
use Rattle.std.proofs.lemmas.Option.{slice_get_within}
use Rattle.kt_history.specs.declared.operation.RowOp.{RowOp}
use Rattle.kt_records.specs.declared.entry.Entry.{Entry}
use Rattle.kt_records.specs.declared.entry.Entry.TheVariants.{Replicate, Commit}
use Rattle.kt_records.specs.declared.entry.CommitRow.{CommitRow}
use Rattle.kt_journal.specs.Order.{last_ts, waiting, is_above, is_count, follows, InOrder, newest_first}
use Rattle.kt_journal.proofs.Framed.{newest_push}
use Rattle.kt_loglaws.specs.Replay.{commit_of}
use Rattle.kt_loglaws.proofs.LogOrder.{no_commit_yet, commit_of-append, commit_of-after, from_test, equal, same}
use Rattle.kt_reopen.specs.Commits.{rows_in, commit_at, HasPlaces}

-- a key of a map is found by its number
pub at_is : (a b : ℕ) → is_at (nat_cmp a) b ≡ (a == b)
at_is a b = grind (arith, nat_tests)

-- ---- the order of a log

-- a record may follow those before it
follows_here : (before xs : List Entry) (r : Entry) (ys : List Entry) → InOrder before (xs ++ r ∷ ys) → follows (newest_first before xs) r ≡ true
follows_here before [] r ys h = h.1
follows_here before (x ∷ xs) r ys h = follows_here (x ∷ before) xs r ys h.2

above_through : (last : Option ℕ) (t ts : ℕ) → is_above last t ≡ true → t < ts → is_above last ts ≡ true
above_through None t ts h lt = refl
above_through (Some last) t ts h lt = let up = from_test last t h in grind (arith, nat_tests)

above_last : (before rest : List Entry) (i ts : ℕ) (ops : List RowOp) → InOrder before rest → slice_get rest i ≡ Some (Replicate ts ops) → is_above (last_ts before) ts ≡ true
above_last before [] i ts ops h is = absurd cc
above_last before (r ∷ rest) zero ts ops h is = subst (λ (x : Entry). follows before x ≡ true) (let e : r ≡ Replicate ts ops = cc in e) h.1
above_last before (Replicate t o ∷ rest) (suc i) ts ops h is =
    above_through (last_ts before) t ts h.1 (from_test t ts (above_last (Replicate t o ∷ before) rest i ts ops h.2 is))
above_last before (Commit t rows ∷ rest) (suc i) ts ops h is = above_last (Commit t rows ∷ before) rest i ts ops h.2 is

-- of two writes the first has the lower timestamp
rises : (before records : List Entry) (i j t ts : ℕ) (o ops : List RowOp) → InOrder before records → i < j → slice_get records i ≡ Some (Replicate t o) → slice_get records j ≡ Some (Replicate ts ops) → t < ts
rises before [] i j t ts o ops h lt is at = absurd cc
rises before (r ∷ rest) i zero t ts o ops h lt is at = absurd (omega arith)
rises before (r ∷ rest) zero (suc j) t ts o ops h lt is at =
    let e : r ≡ Replicate t o = cc in
    from_test t ts (above_last (Replicate t o ∷ before) rest j ts ops (subst (λ (x : Entry). InOrder (x ∷ before) rest) e h.2) at)
rises before (r ∷ rest) (suc i) (suc j) t ts o ops h lt is at = rises (r ∷ before) rest i j t ts o ops h.2 (omega arith) is at

-- a timestamp is of one write
one_write : (records : List Entry) (i j t : ℕ) (o ops : List RowOp) → InOrder [] records → slice_get records i ≡ Some (Replicate t o) → slice_get records j ≡ Some (Replicate t ops) → i ≡ j
one_write records i j t o ops h is at = elim (cases_eq i j) [
  | inl same ↦ same
  | inr other ↦ elim (cases_lt i j) [
    | inl lt ↦ absurd (let up = rises [] records i j t t o ops h lt is at in omega arith)
    | inr le ↦ absurd (let up = rises [] records j i t t ops o h (omega (arith, other)) at is in omega arith)
  ]
]

none_counts : (o : Option ℕ) (n : ℕ) → o ≡ None → is_count o n ≡ true → ⊥
none_counts None n e h = cc
none_counts (Some k) n e h = cc

-- ---- the walk

-- a write waits for its COMMIT: it stands before this place, and its COMMIT does not
pub record Waits (records : List Entry) (at ts i : ℕ) : Type 0 where
  pub low : i < at
  pub ops : List RowOp
  pub is : slice_get records i ≡ Some (Replicate ts ops)
  pub waits_still : commit_of ts (take at records) ≡ None

-- before a place: the writes that wait for their COMMIT by the numbers of their places, and where that of each other stands
pub record Placing (records : List Entry) (at : ℕ) (last : Option ℕ) (number : ℕ → Option ℕ) (places : List (Option ℕ)) : Type 0 where
  pub within : at ≤ length records
  pub long : length places ≡ length records
  pub newest : last ≡ last_ts (newest_first [] (take at records))
  pub waits : (ts i : ℕ) → number ts ≡ Some i → Waits records at ts i
  pub others : (ts : ℕ) → number ts ≡ None → waiting ts (newest_first [] (take at records)) ≡ None
  pub each : (i ts : ℕ) (ops : List RowOp) → i < at → slice_get records i ≡ Some (Replicate ts ops) → commit_at records (get_or places i None) ≡ commit_of ts (take at records)
  pub free : (i : ℕ) → at ≤ i → get_or places i None ≡ None

pub placing_first : (records : List Entry) (last : Option ℕ) (number : ℕ → Option ℕ) (places : List (Option ℕ)) → last ≡ None → ((ts : ℕ) → number ts ≡ None) → length places ≡ length records → ((i : ℕ) → get_or places i None ≡ None) → Placing records 0 last number places
placing_first records last number places newest none long free = record {
  within = omega arith;
  long = long;
  newest = newest;
  waits = λ ts i is. let e : number ts ≡ None = none ts in absurd cc;
  others = λ ts e. refl;
  each = λ i ts ops lt is. absurd (omega arith);
  free = λ i le. free i;
}

pub placing_last : (records : List Entry) (at : ℕ) (last : Option ℕ) (number : ℕ → Option ℕ) (places : List (Option ℕ)) → length records ≤ at → Placing records at last number places → HasPlaces records places
placing_last records at last number places end p = record {
  long = p.long;
  each = λ i ts ops is.
      let lt : i < length records = slice_get_within records i (Replicate ts ops) is in
      p.each i ts ops (omega arith) is ∙ ap (commit_of ts) (take_all at records end);
}

module _ (records : List Entry) (k : ℕ) (r : Entry) (last : Option ℕ) (number : ℕ → Option ℕ) (places : List (Option ℕ)) (log : InOrder [] records) (lt : k < length records) (here : slice_get records k ≡ Some r)
    (more : take (k + 1) records ≡ take k records ++ r ∷ []) (behind : drop k records ≡ r ∷ drop (k + 1) records) (p : Placing records k last number places) where
  abbrev before : List Entry
  before = newest_first [] (take k records)

  whole : records ≡ take k records ++ r ∷ drop (k + 1) records
  whole = sym (take-append-drop k records) ∙ ap (λ l. take k records ++ l) behind

  log_here : InOrder [] (take k records ++ r ∷ drop (k + 1) records)
  log_here = subst (λ (l : List Entry). InOrder [] l) whole log

  may : follows before r ≡ true
  may = follows_here [] (take k records) r (drop (k + 1) records) log_here

  newer : newest_first [] (take (k + 1) records) ≡ r ∷ before
  newer = ap (newest_first []) more ∙ newest_push [] (take k records) r

  module _ (t : ℕ) (ops : List RowOp) (is : r ≡ Replicate t ops) where
    not_yet : commit_of t (take k records) ≡ None
    not_yet = no_commit_yet [] (take k records) t ops (drop (k + 1) records) refl (subst (λ (x : Entry). InOrder [] (take k records ++ x ∷ drop (k + 1) records)) is log_here)

    same_commit : (ts : ℕ) → commit_of ts (take (k + 1) records) ≡ commit_of ts (take k records)
    same_commit ts = ap (commit_of ts) (more ∙ ap (λ (x : Entry). take k records ++ x ∷ []) is) ∙ commit_of-append ts (take k records) (Replicate t ops ∷ []) refl

    pub is_newer : is_above last t ≡ true
    is_newer = ap (λ (o : Option ℕ). is_above o t) p.newest ∙ subst (λ (x : Entry). follows before x ≡ true) is may

    pub placing_write : (last_new : Option ℕ) (new : ℕ → Option ℕ) → last_new ≡ Some t → ((ts : ℕ) → new ts ≡ cond (t == ts) (Some k) (number ts)) → Placing records (k + 1) last_new new places
    placing_write last_new new newest_is adds = record {
      within = omega arith;
      long = p.long;
      newest = newest_is ∙ sym (ap last_ts (newer ∙ ap (λ (x : Entry). x ∷ before) is));
      waits = λ ts i e. elim (t == ts) as (λ (b : Bool). (t == ts) ≡ b → cond b (Some k) (number ts) ≡ Some i → Waits records (k + 1) ts i) [
        | true ↦ λ tie f.
            let at : k ≡ i = cc in
            let ts_is : t ≡ ts = equal t ts tie in
            record {
              low = omega arith;
              ops = ops;
              is = ap (slice_get records) (sym at) ∙ here ∙ ap (λ (x : Entry). Some x) is ∙ ap (λ (n : ℕ). Some (Replicate n ops)) ts_is;
              waits_still = same_commit ts ∙ ap (λ (n : ℕ). commit_of n (take k records)) (sym ts_is) ∙ not_yet;
            }
        | false ↦ λ tie f.
            let w : Waits records k ts i = p.waits ts i f in
            record { low = omega (arith, w.low); ops = w.ops; is = w.is; waits_still = same_commit ts ∙ w.waits_still }
      ] refl (sym (adds ts) ∙ e);
      others = λ ts e.
          ap (waiting ts) (newer ∙ ap (λ (x : Entry). x ∷ before) is)
          ∙ elim (t == ts) as (λ (b : Bool). cond b (Some k) (number ts) ≡ None → cond b (Some (length ops)) (waiting ts before) ≡ None) [ true ↦ λ f. absurd cc | false ↦ λ f. p.others ts f ] (sym (adds ts) ∙ e);
      each = λ i ts o low at. elim (cases_eq i k) [
        | inl tie ↦
            let two : Some (Replicate t ops) ≡ Some (Replicate ts o) = ap (λ (x : Entry). Some x) (sym is) ∙ sym here ∙ ap (slice_get records) (sym tie) ∙ at in
            let ts_is : t ≡ ts = cc in
            ap (commit_at records) (ap (λ (n : ℕ). get_or places n None) tie ∙ p.free k (omega arith)) ∙ sym (same_commit ts ∙ ap (λ (n : ℕ). commit_of n (take k records)) (sym ts_is) ∙ not_yet)
        | inr other ↦ p.each i ts o (omega (arith, low, other)) at ∙ sym (same_commit ts)
      ];
      free = λ i le. p.free i (omega (arith, le));
    }

  module _ (t : ℕ) (rows : List CommitRow) (is : r ≡ Commit t rows) where
    -- a COMMIT's write waits for it
    pub waits_for : number t ≡ None → ⊥
    waits_for none = none_counts (waiting t before) (length rows) (p.others t none) (subst (λ (x : Entry). follows before x ≡ true) is may)

    is_read : take (k + 1) records ≡ take k records ++ Commit t rows ∷ []
    is_read = more ∙ ap (λ (x : Entry). take k records ++ x ∷ []) is

    other_commit : (ts : ℕ) → (t == ts) ≡ false → commit_of ts (take (k + 1) records) ≡ commit_of ts (take k records)
    other_commit ts apart = ap (commit_of ts) is_read ∙ commit_of-append ts (take k records) (Commit t rows ∷ []) (ap (λ (b : Bool). cond b (Some rows) None) apart)

    own_commit : commit_of t (take k records) ≡ None → commit_of t (take (k + 1) records) ≡ Some rows
    own_commit none = ap (commit_of t) is_read ∙ commit_of-after t (take k records) (Commit t rows ∷ []) none ∙ ap (λ (b : Bool). cond b (Some rows) None) (same t)

    module _ (i : ℕ) (own : number t ≡ Some i) where
      w : Waits records k t i
      w = p.waits t i own

      pub is_place : i < length places
      is_place = let long = p.long in let low = w.low in omega arith

      other_write : (j ts : ℕ) (o : List RowOp) → slice_get records j ≡ Some (Replicate ts o) → (j ≡ i → ⊥) → (t == ts) ≡ false
      other_write j ts o at apart = elim (t == ts) as (λ (b : Bool). (t == ts) ≡ b → (t == ts) ≡ false) [
        | true ↦ λ e. absurd (apart (sym (one_write records i j t w.ops o log w.is (at ∙ ap (λ (n : ℕ). Some (Replicate n o)) (sym (equal t ts e))))))
        | false ↦ λ e. e
      ] refl

      pub placing_commit : (last_new : Option ℕ) (new : ℕ → Option ℕ) (more_places : List (Option ℕ)) → last_new ≡ last → more_places ≡ set places i (Some k) → ((ts : ℕ) → new ts ≡ cond (t == ts) None (number ts)) → Placing records (k + 1) last_new new more_places
      placing_commit last_new new more_places same_last puts takes = record {
        within = omega arith;
        long = ap length puts ∙ length-set places i (Some k) ∙ p.long;
        newest = same_last ∙ p.newest ∙ sym (ap last_ts (newer ∙ ap (λ (x : Entry). x ∷ before) is));
        waits = λ ts j e. elim (t == ts) as (λ (b : Bool). (t == ts) ≡ b → cond b None (number ts) ≡ Some j → Waits records (k + 1) ts j) [
          | true ↦ λ tie f. absurd cc
          | false ↦ λ tie f.
              let v : Waits records k ts j = p.waits ts j f in
              record { low = omega (arith, v.low); ops = v.ops; is = v.is; waits_still = other_commit ts tie ∙ v.waits_still }
        ] refl (sym (takes ts) ∙ e);
        others = λ ts e.
            ap (waiting ts) (newer ∙ ap (λ (x : Entry). x ∷ before) is)
            ∙ elim (t == ts) as (λ (b : Bool). cond b None (number ts) ≡ None → cond b None (waiting ts before) ≡ None) [ true ↦ λ f. refl | false ↦ λ f. p.others ts f ] (sym (takes ts) ∙ e);
        each = λ j ts o low at. elim (cases_eq j k) [
          | inl tie ↦ let two : Some (Commit t rows) ≡ Some (Replicate ts o) = ap (λ (x : Entry). Some x) (sym is) ∙ sym here ∙ ap (slice_get records) (sym tie) ∙ at in absurd cc
          | inr other ↦ elim (cases_eq j i) [
            | inl tie ↦
                let two : Some (Replicate t w.ops) ≡ Some (Replicate ts o) = sym w.is ∙ ap (slice_get records) (sym tie) ∙ at in
                let ts_is : t ≡ ts = cc in
                let found : get_or more_places j None ≡ Some k = ap (λ (l : List (Option ℕ)). get_or l j None) puts ∙ ap (λ (n : ℕ). get_or (set places i (Some k)) n None) tie ∙ get_or-set_same places i (Some k) None is_place in
                ap (commit_at records) found ∙ ap rows_in (here ∙ ap (λ (x : Entry). Some x) is) ∙ sym (ap (λ (n : ℕ). commit_of n (take (k + 1) records)) (sym ts_is) ∙ own_commit w.waits_still)
            | inr apart ↦
                ap (commit_at records) (ap (λ (l : List (Option ℕ)). get_or l j None) puts ∙ get_or-set_other places i j (Some k) None apart) ∙ p.each j ts o (omega (arith, low, other)) at
                ∙ sym (other_commit ts (other_write j ts o at apart))
          ]
        ];
        free = λ j le.
            ap (λ (l : List (Option ℕ)). get_or l j None) puts ∙ get_or-set_other places i j (Some k) None (λ (tie : j ≡ i). let low = w.low in omega (arith, le, tie)) ∙ p.free j (omega (arith, le));
      }

-- a list of no places has none
pub no_place : (n i : ℕ) → get_or {A = Option ℕ} (replicate n None) i None ≡ None
no_place zero i = refl
no_place (suc n) zero = refl
no_place (suc n) (suc i) = no_place n i
