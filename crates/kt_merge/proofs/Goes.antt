-- A merge goes on key by key: what is written of each key up to the last one is what its histories join to.
use Rattle.std.proofs.Common.{◌≡◌, ◌≤◌, ◌<◌, ◌+◌, ◌-◌, ◌^◌, ℕ, zero, suc, inl, inr, Bool, true, false, cond, ◌&&◌, List, [], ◌∷◌, ◌++◌, map, length, take, Option, Some, None, refl, sym, ap, ◌∙◌, subst, arith}
use Rattle.std.specs.Prelude.{nat_lt, nat_le, not}
use Rattle.std.specs.List.{AllByRecursion, filter, find as find_in}
use Rattle.std.specs.Option.{option_map}
use Rattle.std.specs.Cmp.{tied_itself}
use Rattle.std.specs.Ordering.{is_lt, is_eq, eq_by_cmp}
use Rattle.std.specs.FinMap.Entries.{find}
use Rattle.std.proofs.lemmas.Bool.{cases_lt, lt-leb, le-leb}
use Rattle.std.proofs.lemmas.List.{length-map}
use Rattle.kt_history.specs.declared.change.Change.{Change}
use Rattle.kt_history.specs.declared.changes.Delta.{Delta}
use Rattle.kt_history.specs.declared.changes.KeyChange.{KeyChange}
use Rattle.kt_history.specs.AsBytes.{step_of}
use Rattle.std.specs.declared.cmp.Ordering.TheVariants.{Less}
use Rattle.kt_history.specs.Rows.{Row, apply, undo, key_cmp}
use Rattle.kt_history.specs.Stores.{Steps, Hist, never, after_steps, row_of}
use Rattle.kt_history.specs.Views.{is_above, key_above}
use Rattle.kt_histlaws.specs.Disks.{DiskRow, AreUndos}
use Rattle.kt_histlaws.specs.Fitting.{Rises, steps_above}
use Rattle.kt_histlaws.specs.Histories.{first_some, or_else}
use Rattle.kt_baseset.specs.declared.rows.KeyedRow.{KeyedRow}
use Rattle.kt_baseset.specs.declared.schema.ColumnShape.{ColumnShape}
use Rattle.kt_baseset.specs.Rows.{keys_in as base_keys}
use Rattle.kt_rowfiles.specs.Files.{row_under, put_rising, rising}
use Rattle.kt_rowfiles.specs.Flushing.{after_all, undone, written, written_deleted}
use Rattle.kt_rowfiles.proofs.Merging.{joined_steps}
use Rattle.kt_rowfiles.specs.Merging.{all_above, joined_history}
use Rattle.kt_rowfiles.specs.Reading.{step_in, steps_in}
use Rattle.kt_rowfiles.specs.Taking.{spanned}
use Rattle.kt_rowfiles.specs.declared.taking.Span.{Span}
use Rattle.kt_diskrowset.specs.declared.inputs.Inputs.{Inputs}
use Rattle.kt_diskrowset.specs.Data.{files_in, fresh_in}
use Rattle.kt_diskrowset.specs.Rows.{rows_of, hist_found}
use Rattle.kt_diskrowset.proofs.Histories.{hist_is}
use Rattle.kt_merge.specs.Changes.{keys_in, changes_of}
use Rattle.kt_merge.specs.Heads.{source_keys, source_hist, lesser, least_in, keys_next, is_next, hist_next, row_next, steps_next, passed, keys_left, hist_upto, Stands, AllStand, AreAbove}
use Rattle.kt_merge.specs.Merge.{hists_of, hists_upto, keys_at, told_of, with_row, AllShort, AreFaultless, CanHold, GoesOn, HasRoom, HaveEach, IsWritten, MayBeWritten, NoneAbove}
use Rattle.kt_merge.specs.Fitting.{IsUnder, AreFalling, FitsFiles}
use Rattle.kt_merge.specs.OneKey.{UndosFitFile, key_written}
use Rattle.kt_merge.specs.Rows.{deleted_at, but_last, before_last, written_by, disk_row_of, row_written}
use Rattle.kt_merge.specs.declared.row.RowWritten.{RowWritten}
use Rattle.kt_merge.specs.Told.{Told}
use Rattle.kt_merge.specs.declared.heads.Source.{Source}
use Rattle.kt_merge.specs.declared.heads.Source.TheVariants.{Mem, Rowset}
use Rattle.kt_merge.specs.declared.heads.Head.{Head}
use Rattle.kt_merge.specs.declared.outputs.Writing.{Writing}
use Rattle.kt_merge.proofs.FirstHeads.{next_own, no_other_more}
use Rattle.kt_merge.proofs.KeyChanges.{order, same_key, by_bool}
use Rattle.kt_merge.proofs.KeysLeft.{keys_fewer, room_left}
use Rattle.kt_merge.proofs.KeysNext.{AtOrBelow, Lacks, least_below, least_has, found_passes, lacks_next, stays_next, not_above_more, not_itself, not_both, is_behind, below_next, not_below_too}
use Rattle.kt_merge.proofs.OneKey.{key_fits, key_leads}
use Rattle.kt_merge.proofs.ToldRows.{find-append}
use Rattle.kt_merge.proofs.Written.{came_from}

-- ---- a key that an input lacks

lacks_rest : (q key : List ℕ) (keys : List (List ℕ)) → eq_by_cmp key_cmp q key ≡ false → Lacks q (filter (λ (k : List ℕ). not (eq_by_cmp key_cmp key k)) keys) → Lacks q keys
lacks_rest q key [] ne h = tt
lacks_rest q key (k ∷ keys) ne h = by (eq_by_cmp key_cmp key k) refl h (λ rest. lacks_rest q key keys ne rest)
  where
    by : (b : Bool) → eq_by_cmp key_cmp key k ≡ b → Lacks q (cond (not b) (k ∷ filter (λ (x : List ℕ). not (eq_by_cmp key_cmp key x)) keys) (filter (λ (x : List ℕ). not (eq_by_cmp key_cmp key x)) keys))
        → (Lacks q (filter (λ (x : List ℕ). not (eq_by_cmp key_cmp key x)) keys) → Lacks q keys) → Lacks q (k ∷ keys)
    by true e g more = (subst (λ (x : List ℕ). eq_by_cmp key_cmp q x ≡ false) (same_key key k e) ne, more g)
    by false e g more = (g.0, more g.1)

pub no_changes : (q : List ℕ) (cs : List KeyChange) → Lacks q (keys_in cs) → changes_of q cs ≡ []
no_changes q [] h = refl
no_changes q (c ∷ cs) h = ap (λ (b : Bool). cond b (c ∷ changes_of q cs) (changes_of q cs)) h.0 ∙ no_changes q cs (lacks_rest q c.key (keys_in cs) h.0 h.1)

no_row : (q : List ℕ) (n : ℕ) (rows : List KeyedRow) → Lacks q (base_keys rows) → row_under q n (rows_of rows) ≡ None
no_row q n [] h = refl
no_row q n (r ∷ rows) h = ap (λ (b : Bool). cond b (Some (n, r.cells)) (row_under q (suc n) (rows_of rows))) h.0 ∙ no_row q (suc n) rows h.1

pub nothing_of : (q : List ℕ) (s : Source) → Lacks q (source_keys s) → source_hist q s ≡ never
nothing_of q (Mem changes) h = ap (λ (cs : List KeyChange). record { first = None; steps = map step_of cs }) (no_changes q changes.now h)
nothing_of q (Rowset d) h = hist_is (files_in d.now) (fresh_in d.now) q ∙ ap (hist_found (files_in d.now) (fresh_in d.now)) (no_row q 0 d.now.base.set.value.rows h)

-- ---- what is taken of a key

upto_spanned : (span : Span) (steps : Steps) → steps_above span.mark (filter (λ (c : ℕ × Change). nat_le c.0 span.bound) steps) ≡ spanned span steps
upto_spanned span [] = refl
upto_spanned span (c ∷ steps) = by (nat_le c.0 span.bound) (upto_spanned span steps)
  where
    some : Steps
    some = filter (λ (x : ℕ × Change). nat_le x.0 span.bound) steps

    only_lt : (b : Bool) → steps_above span.mark some ≡ spanned span steps → cond b (c ∷ steps_above span.mark some) (steps_above span.mark some) ≡ cond (b && true) (c ∷ spanned span steps) (spanned span steps)
    only_lt true h = ap (λ (l : Steps). c ∷ l) h
    only_lt false h = h

    neither : (b : Bool) → steps_above span.mark some ≡ spanned span steps → steps_above span.mark some ≡ cond (b && false) (c ∷ spanned span steps) (spanned span steps)
    neither true h = h
    neither false h = h

    by : (le : Bool) → steps_above span.mark some ≡ spanned span steps → steps_above span.mark (cond le (c ∷ some) some) ≡ cond (nat_lt span.mark c.0 && le) (c ∷ spanned span steps) (spanned span steps)
    by true h = only_lt (nat_lt span.mark c.0) h
    by false h = neither (nat_lt span.mark c.0) h

row_upto : (mark bound : ℕ) (steps : Steps) (row : Option Row) → mark ≤ bound → after_steps mark (filter (λ (c : ℕ × Change). nat_le c.0 bound) steps) row ≡ after_steps mark steps row
row_upto mark bound [] row le = refl
row_upto mark bound (c ∷ steps) row le = elim (cases_lt bound c.0) [
  | inl lt ↦
      let some = filter (λ (x : ℕ × Change). nat_le x.0 bound) steps in
      ap (λ (b : Bool). after_steps mark (cond b (c ∷ some) some) row) (lt-leb c.0 bound lt) ∙ row_upto mark bound steps row le
      ∙ sym (ap (λ (b : Bool). after_steps mark steps (cond b (apply c.1 row) row)) (lt-leb c.0 mark (omega (arith, lt, le))))
  | inr low ↦
      let some = filter (λ (x : ℕ × Change). nat_le x.0 bound) steps in
      ap (λ (b : Bool). after_steps mark (cond b (c ∷ some) some) row) (le-leb c.0 bound low) ∙ row_upto mark bound steps (cond (nat_le c.0 mark) (apply c.1 row) row) le
]

abbrev hists_at : List ℕ → List Head → List Hist
hists_at q heads = map (λ (h : Head). source_hist q h.source) heads

-- where what comes next in each head is all that its input has of a key
abbrev AllNext : List ℕ → List Head → Type 0
AllNext q heads = AllByRecursion (λ (h : Head). hist_next q h ≡ source_hist q h.source) heads

rows_are : (span : Span) (q : List ℕ) (heads : List Head) → span.mark ≤ span.bound → AllNext q heads → first_some (map (row_of span.mark) (map (hist_upto span.bound) (hists_at q heads))) ≡ row_next span q heads
rows_are span q [] le all = refl
rows_are span q (h ∷ heads) le all =
    let own = source_hist q h.source in
    ap (λ (o : Option Row). or_else o (first_some (map (row_of span.mark) (map (hist_upto span.bound) (hists_at q heads))))) (row_upto span.mark span.bound own.steps own.first le ∙ ap (row_of span.mark) (sym all.0))
    ∙ ap (or_else (row_of span.mark (hist_next q h))) (rows_are span q heads le all.1)

steps_are : (span : Span) (q : List ℕ) (heads : List Head) → AllNext q heads → all_above span.mark (map (hist_upto span.bound) (hists_at q heads)) ≡ steps_next span q heads
steps_are span q [] all = refl
steps_are span q (h ∷ heads) all =
    ap (λ (l : Steps). l ++ all_above span.mark (map (hist_upto span.bound) (hists_at q heads))) (upto_spanned span (source_hist q h.source).steps ∙ ap (λ (g : Hist). spanned span g.steps) (sym all.0))
    ∙ ap (λ (l : Steps). spanned span (hist_next q h).steps ++ l) (steps_are span q heads all.1)

-- ---- heads that are at a key, or behind it

next_of : (after : Option (List ℕ)) (q : List ℕ) (h : Head) → Stands h.source → h.key ≡ key_above after (source_keys h.source) → is_above after q ≡ true → AtOrBelow q h.key → hist_next q h ≡ source_hist q h.source
next_of after q h st at up le = by_bool (is_next h.key q)
    (λ so_. ap (λ (b : Bool). cond b (source_hist q h.source) never) so_)
    (λ no_. ap (λ (b : Bool). cond b (source_hist q h.source) never) no_
    ∙ sym (nothing_of q h.source (lacks_next after q (source_keys h.source) st.rise up (subst (AtOrBelow q) at le) (sym (ap (λ (o : Option (List ℕ)). is_next o q) at) ∙ no_))))

all_next : (after : Option (List ℕ)) (q : List ℕ) (heads : List Head) → AllStand heads → AreAbove after heads → is_above after q ≡ true → AllByRecursion (AtOrBelow q) (keys_next heads) → AllNext q heads
all_next after q [] st at up le = tt
all_next after q (h ∷ heads) st at up le = (next_of after q h st.0 at.0 up le.0, all_next after q heads st.1 at.1 up le.1)

-- the key that comes next is above the last one
above_each : (after : Option (List ℕ)) (heads : List Head) → AreAbove after heads → AllByRecursion (λ (o : Option (List ℕ)). (k : List ℕ) → o ≡ Some k → is_above after k ≡ true) (keys_next heads)
above_each after [] at = tt
above_each after (h ∷ heads) at = (λ k is. found_passes (is_above after) (source_keys h.source) k (sym at.0 ∙ is), above_each after heads at.1)

pub next_is_above : (after : Option (List ℕ)) (heads : List Head) (key : List ℕ) → AreAbove after heads → least_in (keys_next heads) ≡ Some key → is_above after key ≡ true
next_is_above after heads key at is = least_has (λ (k : List ℕ). is_above after k ≡ true) (keys_next heads) key (above_each after heads at) is

-- each head is passed
passed_one : (after : Option (List ℕ)) (q : List ℕ) (h : Head) → h.key ≡ key_above after (source_keys h.source) → is_above after q ≡ true → AtOrBelow q h.key → (passed q h).key ≡ key_above (Some q) (source_keys h.source)
passed_one after q h at up le = by_bool (is_next h.key q)
    (λ so_. ap (λ (b : Bool). cond b (key_above (Some q) (source_keys h.source)) h.key) so_)
    (λ no_. ap (λ (b : Bool). cond b (key_above (Some q) (source_keys h.source)) h.key) no_ ∙ at
    ∙ sym (stays_next after q (source_keys h.source) up (λ k is. is_behind k q (subst (AtOrBelow q) (at ∙ is) le) (sym (ap (λ (o : Option (List ℕ)). is_next o q) (at ∙ is)) ∙ no_))))

pub passed_above : (after : Option (List ℕ)) (q : List ℕ) (heads : List Head) → AreAbove after heads → is_above after q ≡ true → AllByRecursion (AtOrBelow q) (keys_next heads) → AreAbove (Some q) (map (passed q) heads)
passed_above after q [] at up le = tt
passed_above after q (h ∷ heads) at up le = (passed_one after q h at.0 up le.0, passed_above after q heads at.1 up le.1)

pub passed_stand : (q : List ℕ) (heads : List Head) → AllStand heads → AllStand (map (passed q) heads)
passed_stand q [] st = tt
passed_stand q (h ∷ heads) st = (st.0, passed_stand q heads st.1)

passed_keys : (q : List ℕ) (heads : List Head) → keys_at (map (passed q) heads) ≡ keys_at heads
passed_keys q [] = refl
passed_keys q (h ∷ heads) = ap (λ (l : List (List (List ℕ))). source_keys h.source ∷ l) (passed_keys q heads)

passed_short : (q : List ℕ) (heads : List Head) → AllShort heads → AllShort (map (passed q) heads)
passed_short q [] short = tt
passed_short q (h ∷ heads) short = (short.0, passed_short q heads short.1)

pub passed_hists : (q p : List ℕ) (heads : List Head) → hists_at p (map (passed q) heads) ≡ hists_at p heads
passed_hists q p [] = refl
passed_hists q p (h ∷ heads) = ap (λ (l : List Hist). source_hist p h.source ∷ l) (passed_hists q p heads)

-- ---- a key that no input has

behind_too : (q key : List ℕ) (os : List (Option (List ℕ))) → is_lt (key_cmp q key) ≡ true → AllByRecursion (AtOrBelow key) os → AllByRecursion (AtOrBelow q) os
behind_too q key [] lt h = tt
behind_too q key (None ∷ os) lt h = (tt, behind_too q key os lt h.1)
behind_too q key (Some k ∷ os) lt h = (not_below_too k key q h.0 (not_both q key lt), behind_too q key os lt h.1)

not_next : (q key : List ℕ) (o : Option (List ℕ)) → is_lt (key_cmp q key) ≡ true → AtOrBelow key o → is_next o q ≡ false
not_next q key None lt h = refl
not_next q key (Some k) lt h = by_bool (eq_by_cmp key_cmp k q)
    (λ same. absurd (let below : is_lt (key_cmp k key) ≡ true = subst (λ (x : List ℕ). is_lt (key_cmp x key) ≡ true) (sym (same_key k q same)) lt in let f : true ≡ false = sym below ∙ h in cc))
    (λ other. other)

-- the row and the changes of a key that comes next nowhere
none_next : (span : Span) (q : List ℕ) (heads : List Head) → AllByRecursion (λ (h : Head). is_next h.key q ≡ false) heads → (row_next span q heads ≡ None) × (steps_next span q heads ≡ [])
none_next span q [] h = (refl, refl)
none_next span q (x ∷ heads) h =
    let rest = none_next span q heads h.1 in
    let here : hist_next q x ≡ never = ap (λ (b : Bool). cond b (source_hist q x.source) never) h.0 in (
      ap (λ (g : Hist). or_else (row_of span.mark g) (row_next span q heads)) here ∙ rest.0,
      ap (λ (g : Hist). spanned span g.steps ++ steps_next span q heads) here ∙ rest.1,
    )

none_at : (q key : List ℕ) (heads : List Head) → is_lt (key_cmp q key) ≡ true → AllByRecursion (AtOrBelow key) (keys_next heads) → AllByRecursion (λ (h : Head). is_next h.key q ≡ false) heads
none_at q key [] lt h = tt
none_at q key (x ∷ heads) lt h = (not_next q key x.key lt h.0, none_at q key heads lt h.1)

-- where none is left at all
some_left : (a : List ℕ) (b : Option (List ℕ)) → lesser (Some a) b ≡ None → ⊥
some_left a None e = cc
some_left a (Some b) e = by_bool (is_lt (key_cmp b a))
    (λ low. let f : Some b ≡ None = sym (ap (λ (x : Bool). cond x (Some b) (Some a)) low) ∙ e in cc)
    (λ high. let f : Some a ≡ None = sym (ap (λ (x : Bool). cond x (Some b) (Some a)) high) ∙ e in cc)

none_left : (q : List ℕ) (heads : List Head) → least_in (keys_next heads) ≡ None → AllByRecursion (AtOrBelow q) (keys_next heads) × AllByRecursion (λ (h : Head). is_next h.key q ≡ false) heads
none_left q [] e = (tt, tt)
none_left q (h ∷ heads) e = by h.key refl e (λ f. none_left q heads f)
  where
    by : (o : Option (List ℕ)) → h.key ≡ o → lesser h.key (least_in (keys_next heads)) ≡ None
        → (least_in (keys_next heads) ≡ None → AllByRecursion (AtOrBelow q) (keys_next heads) × AllByRecursion (λ (x : Head). is_next x.key q ≡ false) heads)
        → AllByRecursion (AtOrBelow q) (keys_next (h ∷ heads)) × AllByRecursion (λ (x : Head). is_next x.key q ≡ false) (h ∷ heads)
    by None is f more =
        let rest = more (sym (ap (λ (k : Option (List ℕ)). lesser k (least_in (keys_next heads))) is) ∙ f) in
        ((subst (AtOrBelow q) (sym is) tt, rest.0), (ap (λ (k : Option (List ℕ)). is_next k q) is, rest.1))
    by (Some a) is f more = absurd (some_left a (least_in (keys_next heads)) (sym (ap (λ (k : Option (List ℕ)). lesser k (least_in (keys_next heads))) is) ∙ f))

-- ---- the merge

-- two keys that differ do so both ways
other_back : (q key : List ℕ) → eq_by_cmp key_cmp q key ≡ false → eq_by_cmp key_cmp key q ≡ false
other_back q key ne = by_bool (eq_by_cmp key_cmp key q) (λ same. absurd (let f : true ≡ false = sym (subst (λ (x : List ℕ). eq_by_cmp key_cmp q x ≡ true) (sym (same_key key q same)) (ap is_eq (tied_itself order q))) ∙ ne in cc)) (λ other. other)

-- what is written of a key is made of what is taken of it
joined_next : (span : Span) (inputs : Inputs) (q : List ℕ) (heads : List Head) → span.mark ≤ span.bound → hists_at q heads ≡ hists_of q inputs → AllNext q heads
    → joined_history span.mark (hists_upto span.bound q inputs) ≡ record { first = row_next span q heads; steps = rising (steps_next span q heads) }
joined_next span inputs q heads le are all =
    ap (λ (hs : List Hist). joined_history span.mark (map (hist_upto span.bound) hs)) (sym are)
    ∙ ap (λ (first : Option Row). record { first = first; steps = rising (all_above span.mark (map (hist_upto span.bound) (hists_at q heads))) }) (rows_are span q heads le all)
    ∙ ap (λ (steps : Steps). record { first = row_next span q heads; steps = rising steps }) (steps_are span q heads all)

-- nothing is written of a key that comes next nowhere
none_written : (span : Span) (inputs : Inputs) (q : List ℕ) (heads : List Head) → span.mark ≤ span.bound → hists_at q heads ≡ hists_of q inputs → AllNext q heads → AllByRecursion (λ (h : Head). is_next h.key q ≡ false) heads
    → key_written span.mark (hists_upto span.bound q inputs) ≡ None
none_written span inputs q heads le are all none =
    let no_ = none_next span q heads none in
    ap (row_written span.mark) (joined_next span inputs q heads le are all
    ∙ ap (λ (first : Option Row). record { first = first; steps = rising (steps_next span q heads) }) no_.0
    ∙ ap (λ (steps : Steps). record { first = None; steps = rising steps }) no_.1)

none_found : (after : Option (List ℕ)) (q : List ℕ) (told : Told) → is_above after q ≡ true → NoneAbove after told → find key_cmp q told ≡ None
none_found after q [] up h = refl
none_found after q (r ∷ told) up h =
    ap (λ (b : Bool). cond b (Some r.1) (find key_cmp q told))
    (by_bool (eq_by_cmp key_cmp q r.0) (λ same. absurd (let f : true ≡ false = sym up ∙ subst (λ (x : List ℕ). is_above after x ≡ false) (sym (same_key q r.0 same)) h.0 in cc)) (λ other. other))
    ∙ none_found after q told up h.1

-- at the end all keys are written
pub all_written : (span : Span) (inputs : Inputs) (heads : List Head) (told : Told) (after : Option (List ℕ)) → span.mark ≤ span.bound → GoesOn span inputs heads told after → least_in (keys_next heads) ≡ None
    → AreFaultless span inputs → HaveEach span inputs told
all_written span inputs heads told after le g none sound q = by_bool (is_above after q)
    (λ up.
    let left = none_left q heads none in
    none_found after q told up g.upto_ ∙ sym (none_written span inputs q heads le (g.hists q) (all_next after q heads g.stand g.above up left.0) left.1))
    (λ low. g.have sound q low)

pub all_told : (span other : Span) (inputs : Inputs) (heads : List Head) (told new : Told) (after : Option (List ℕ)) → span ≡ other → other.mark ≤ other.bound → GoesOn span inputs heads told after → least_in (keys_next heads) ≡ None → new ≡ told
    → AreFaultless other inputs → HaveEach other inputs new
all_told span other inputs heads told new after same le g none is sound q =
    ap (find key_cmp q) is ∙ all_written other inputs heads told after le (subst (λ (s : Span). GoesOn s inputs heads told after) same g) none sound q

-- rows of lesser keys, and one more
still_none_above : (after : Option (List ℕ)) (key : List ℕ) (told : Told) → is_above after key ≡ true → NoneAbove after told → NoneAbove (Some key) told
still_none_above after key [] up h = tt
still_none_above after key (r ∷ told) up h = (not_above_more after key r.0 up h.0, still_none_above after key told up h.1)

one_more_above : (key : List ℕ) (row : DiskRow) (told : Told) → NoneAbove (Some key) told → NoneAbove (Some key) (told ++ (key, row) ∷ [])
one_more_above key row [] h = (not_itself key, tt)
one_more_above key row (r ∷ told) h = (h.0, one_more_above key row told h.1)

none_above_by : (key : List ℕ) (old new : Told) → NoneAbove (Some key) old → MayBeWritten key old new → NoneAbove (Some key) new
none_above_by key old new h (inl same) = subst (NoneAbove (Some key)) (sym same) h
none_above_by key old new h (inr more) = subst (NoneAbove (Some key)) (sym more.1) (one_more_above key more.0 old h)

-- another key's row is found as before
found_as_before : (q key : List ℕ) (old new : Told) → eq_by_cmp key_cmp q key ≡ false → MayBeWritten key old new → find key_cmp q new ≡ find key_cmp q old
found_as_before q key old new ne (inl same) = ap (find key_cmp q) same
found_as_before q key old new ne (inr more) =
    ap (find key_cmp q) more.1 ∙ find-append q old ((key, more.0) ∷ [])
    ∙ ap (λ (b : Bool). or_else (find key_cmp q old) (cond b (Some more.0) None)) ne ∙ or_nothing (find key_cmp q old)
  where
    or_nothing : (o : Option DiskRow) → or_else o None ≡ o
    or_nothing None = refl
    or_nothing (Some x) = refl

-- and the key's own, which was not there, is what is written
found_written : (key : List ℕ) (row : Option DiskRow) (old : Told) → eq_by_cmp key_cmp key key ≡ true → find key_cmp key old ≡ None → find key_cmp key (with_row key row old) ≡ row
found_written key None old same none = none
found_written key (Some row) old same none =
    find-append key old ((key, row) ∷ []) ∙ ap (λ (o : Option DiskRow). or_else o (cond (eq_by_cmp key_cmp key key) (Some row) None)) none
    ∙ ap (λ (b : Bool). cond b (Some row) None) same

-- One key more: it is the least that comes next, what is written of it is made of what is taken of it, and each input in which it comes
-- next goes on behind it.
pub goes_on : (span : Span) (inputs : Inputs) (heads : List Head) (old new : Told) (after : Option (List ℕ)) (key : List ℕ) → span.mark ≤ span.bound → GoesOn span inputs heads old after → least_in (keys_next heads) ≡ Some key
    → MayBeWritten key old new → (AreFaultless span inputs → new ≡ with_row key (row_written span.mark (record { first = row_next span key heads; steps = rising (steps_next span key heads) })) old)
    → GoesOn span inputs (map (passed key) heads) new (Some key)
goes_on span inputs heads old new after key le g next may written =
    let up = next_is_above after heads key g.above next in
    let low = least_below (keys_next heads) key next in
    let old_low = still_none_above after key old up g.upto_ in
    record {
      stand = passed_stand key heads g.stand;
      above = passed_above after key heads g.above up low;
      hists = λ q. passed_hists key q heads ∙ g.hists q;
      keys = passed_keys key heads ∙ g.keys;
      own = no_other_more inputs key old new (next_own inputs after heads key g.above g.keys next) g.own may;
      short = λ sound. passed_short key heads (g.short sound);
      upto_ = none_above_by key old new old_low may;
      have = λ sound q not_above. by_bool (eq_by_cmp key_cmp q key)
          (λ same.
          let is = same_key q key same in
          let all = all_next after key heads g.stand g.above up low in
          subst (λ (x : List ℕ). find key_cmp x new ≡ key_written span.mark (hists_upto span.bound x inputs)) (sym is)
          (ap (find key_cmp key) (written sound)
          ∙ found_written key (row_written span.mark (record { first = row_next span key heads; steps = rising (steps_next span key heads) })) old (subst (λ (x : List ℕ). eq_by_cmp key_cmp x key ≡ true) is same) (none_found after key old up g.upto_)
          ∙ sym (ap (row_written span.mark) (joined_next span inputs key heads le (g.hists key) all))))
          (λ other. found_as_before q key old new other may ∙ by_bool (is_above after q)
          (λ still.
          let behind = is_behind key q not_above (other_back q key other) in
          none_found after q old still g.upto_
          ∙ sym (none_written span inputs q heads le (g.hists q) (all_next after q heads g.stand g.above still (behind_too q key (keys_next heads) behind low)) (none_at q key heads behind low)))
          (λ earlier. g.have sound q earlier));
    }

-- a key that comes next is above all that are written
pub above_all : (after : Option (List ℕ)) (key : List ℕ) (told : Told) → is_above after key ≡ true → NoneAbove after told → AllByRecursion (λ (r : List ℕ × DiskRow). key_cmp r.0 key ≡ Less) told
above_all after key [] up h = tt
above_all after key (r ∷ told) up h = (below_next after key r.0 up h.0, above_all after key told up h.1)

-- ---- files can hold what is written of it

found_has : (P : List ℕ → Type 0) (p : List ℕ → Bool) (keys : List (List ℕ)) (q : List ℕ) → AllByRecursion P keys → find_in p keys ≡ Some q → P q
found_has P p [] q h e = cc
found_has P p (k ∷ keys) q h e = by (p k) e (λ f. found_has P p keys q h.1 f)
  where
    some_is : (a b : List ℕ) → Some a ≡ Some b → a ≡ b
    some_is a b f = cc

    by : (b : Bool) → cond b (Some k) (find_in p keys) ≡ Some q → (find_in p keys ≡ Some q → P q) → P q
    by true f more = subst P (some_is k q f) h.0
    by false f more = more f

short_each : (after : Option (List ℕ)) (heads : List Head) → AreAbove after heads → AllShort heads → AllByRecursion (λ (o : Option (List ℕ)). (k : List ℕ) → o ≡ Some k → length k ≤ 16384) (keys_next heads)
short_each after [] at short = tt
short_each after (h ∷ heads) at short = (λ k is. found_has (λ (x : List ℕ). length x ≤ 16384) (is_above after) (source_keys h.source) k short.0 (sym at.0 ∙ is), short_each after heads at.1 short.1)

-- the records of a row are no more than the changes that it is made of
pub few_undone : (j : ℕ) (steps : Steps) (row : Option Row) (made : Steps) → length (undone j steps row made) ≤ length steps + length made
few_undone j [] row made = omega arith
few_undone j (c ∷ steps) row made =
    let rest = few_undone j steps (apply c.1 row) (cond (nat_lt j c.0) ((c.0, undo c.1 row) ∷ made) made) in
    let one = one_more (nat_lt j c.0) in
    omega (arith, rest, one)
  where
    one_more : (b : Bool) → length (cond b ((c.0, undo c.1 row) ∷ made) made) ≤ suc (length made)
    one_more true = omega arith
    one_more false = omega arith

pub few_front : (n : ℕ) (steps : Steps) → length (take n steps) ≤ length steps
few_front zero steps = omega arith
few_front (suc n) [] = omega arith
few_front (suc n) (c ∷ steps) = let rest = few_front n steps in omega (arith, rest)

few_put : (c : ℕ × Change) (steps : Steps) → length (put_rising c steps) ≡ suc (length steps)
few_put c [] = refl
few_put c (d ∷ steps) = by (nat_lt d.0 c.0) (few_put c steps)
  where
    by : (b : Bool) → length (put_rising c steps) ≡ suc (length steps) → length (cond b (d ∷ put_rising c steps) (c ∷ d ∷ steps)) ≡ suc (suc (length steps))
    by true h = ap suc h
    by false h = refl

pub few_rising : (steps : Steps) → length (rising steps) ≡ length steps
few_rising [] = refl
few_rising (c ∷ steps) = few_put c (rising steps) ∙ ap suc (few_rising steps)

few_written : (j : ℕ) (h : Hist) (d : DiskRow) (o : Option ℕ) → written_by j h o ≡ Some d → length d.undos ≤ length h.steps
few_written j h d None e =
    let from = came_from (written j h) (after_all h.steps h.first) d e in
    let few = few_undone j h.steps h.first [] in
    subst (λ (x : DiskRow). length x.undos ≤ length h.steps) from.2 (omega (arith, few))
few_written j h d (Some ts) e = by (nat_lt j ts) e
  where
    by : (b : Bool) → cond b (option_map (written_deleted j (before_last h) ts) (after_all (but_last h.steps) h.first)) None ≡ Some d → length d.undos ≤ length h.steps
    by true f =
        let from = came_from (written_deleted j (before_last h) ts) (after_all (but_last h.steps) h.first) d f in
        let few = few_undone j (but_last h.steps) h.first [] in
        let front = few_front (length h.steps - 1) h.steps in
        subst (λ (x : DiskRow). length x.undos ≤ length h.steps) from.2 (omega (arith, few, front))
    by false f = cc

-- So in a merge without faults each row that is to be written is one that files can hold, if there is room for its changes
pub can_hold : (span : Span) (inputs : Inputs) (heads : List Head) (w : Writing) (after : Option (List ℕ)) (key : List ℕ) → span.mark < 2 ^ 64 → span.mark ≤ span.bound → GoesOn span inputs heads (told_of w) after → least_in (keys_next heads) ≡ Some key
    → AreFaultless span inputs → length w.growing.undos.items + length (steps_next span key heads) < 2 ^ 32
    → CanHold inputs.columns key (row_written span.mark (record { first = row_next span key heads; steps = rising (steps_next span key heads) })) w
can_hold span inputs heads w after key in_time le g next sound room =
    let up = next_is_above after heads key g.above next in
    let all = all_next after key heads g.stand g.above up (least_below (keys_next heads) key next) in
    let is = joined_next span inputs key heads le (g.hists key) all in
    by (row_written span.mark taken) refl (ap (row_written span.mark) is)
  where
    taken : Hist
    taken = record { first = row_next span key heads; steps = rising (steps_next span key heads) }

    by : (o : Option DiskRow) → row_written span.mark taken ≡ o → key_written span.mark (hists_upto span.bound key inputs) ≡ row_written span.mark taken → CanHold inputs.columns key o w
    by None e same = tt
    by (Some d) e same =
        let hs = hists_upto span.bound key inputs in
        let fits = key_fits inputs.columns span.mark (2 ^ 64) hs d (sound.each key) (same ∙ e) in
        let few = few_written span.mark taken d (deleted_at taken.steps) e in
        let count = few_rising (steps_next span key heads) in (
          least_has (λ (k : List ℕ). length k ≤ 16384) (keys_next heads) key (short_each after heads g.above (g.short sound)) next,
          fits.0,
          fits.1,
          key_leads inputs.columns span.mark (2 ^ 64) hs d in_time (sound.each key) (same ∙ e),
          omega (arith, room, few, count),
        )

-- and the changes that are taken rise
pub taken_rise : (span : Span) (inputs : Inputs) (heads : List Head) (told : Told) (after : Option (List ℕ)) (key : List ℕ) → span.mark ≤ span.bound → GoesOn span inputs heads told after → least_in (keys_next heads) ≡ Some key → AreFaultless span inputs
    → Rises span.mark (rising (steps_next span key heads))
taken_rise span inputs heads told after key le g next sound =
    let up = next_is_above after heads key g.above next in
    let all = all_next after key heads g.stand g.above up (least_below (keys_next heads) key next) in
    let p = sound.each key in
    subst (Rises span.mark)
    (sym (joined_steps span.mark (hists_upto span.bound key inputs) p.whole p.shows p.rise p.rises)
    ∙ ap (λ (h : Hist). h.steps) (joined_next span inputs key heads le (g.hists key) all))
    p.rises.0

-- what can be held passes the test of it
falls_from : (top : Option ℕ) (b : ℕ) (undos : List Delta) (row : Option Row) → b ≤ 2 ^ 64 → ((t : ℕ) → t < b → IsUnder top t) → AreUndos b (steps_in undos) row → UndosFitFile (steps_in undos) → AreFalling top undos
falls_from top b [] row le so h fit = tt
falls_from top b (d ∷ undos) row le so h fit = (so d.ts h.0, omega (arith, h.0, le), fit.0, falls_from (Some d.ts) d.ts undos (apply d.change row) (omega (arith, h.0, le)) (λ t lt. lt) h.2 fit.1)

pub fits_from : (columns : List ColumnShape) (key : List ℕ) (row : RowWritten) (w : Writing) → CanHold columns key (Some (disk_row_of row)) w → FitsFiles columns key row
fits_from columns key row w h = record { short = h.0; cells = h.1.cells; undos = falls_from None (2 ^ 64) row.undos.items (Some row.base) (omega arith) (λ t lt. tt) h.3 h.2 }

-- ---- a key is written

-- what is put behind the rows, if files can hold it, is what was to be written; ys are the changes xs put in order
pub written_some : (columns : List ColumnShape) (key : List ℕ) (mark : ℕ) (first : Option Row) (xs ys : Steps) (row : RowWritten) (old new : Writing) → Some (disk_row_of row) ≡ row_written mark (record { first = first; steps = ys }) → ys ≡ rising xs
    → (FitsFiles columns key row → length old.growing.undos.items + length row.undos.items < 2 ^ 32 → told_of new ≡ told_of old ++ (key, disk_row_of row) ∷ [])
    → IsWritten columns key (row_written mark (record { first = first; steps = rising xs })) old new
written_some columns key mark first xs ys row old new is order put =
    subst (λ (o : Option DiskRow). IsWritten columns key o old new) (is ∙ ap (λ (s : Steps). row_written mark (record { first = first; steps = s })) order)
    (λ can. let long = length-map row.undos.items step_in in put (fits_from columns key row old can) (omega (arith, can.4, long)))

pub written_none : (columns : List ColumnShape) (key : List ℕ) (mark : ℕ) (first : Option Row) (xs ys : Steps) (old : Writing) → None ≡ row_written mark (record { first = first; steps = ys }) → ys ≡ rising xs
    → IsWritten columns key (row_written mark (record { first = first; steps = rising xs })) old old
written_none columns key mark first xs ys old is order =
    subst (λ (o : Option DiskRow). IsWritten columns key o old old) (is ∙ ap (λ (s : Steps). row_written mark (record { first = first; steps = s })) order) (λ can. refl)

-- it has no more records than changes
pub few_row : (mark : ℕ) (first : Option Row) (list : List Delta) (row : RowWritten) → Some (disk_row_of row) ≡ row_written mark (record { first = first; steps = steps_in list }) → length row.undos.items ≤ length list
few_row mark first list row is =
    let h : Hist = record { first = first; steps = steps_in list } in
    let few = few_written mark h (disk_row_of row) (deleted_at h.steps) (sym is) in
    let a = length-map row.undos.items step_in in
    let b = length-map list step_in in
    omega (arith, few, a, b)

-- ---- one key of a merge, as the code takes it: first is its row at the mark, and steps are its changes
module _ (span : Span) (inputs : Inputs) (hs moved : List Head) (w v : Writing) (after : Option (List ℕ)) (key : List ℕ) (first : Option Row) (steps : Steps)
    (in_time : span.mark < 2 ^ 64) (order_ : span.mark ≤ span.bound) (g : GoesOn span inputs hs (told_of w) after) (next : least_in (keys_next hs) ≡ Some key) (room : HasRoom span inputs hs w)
    (first_is : first ≡ row_next span key hs) (steps_are_ : steps ≡ steps_next span key hs) (moved_is : moved ≡ map (passed key) hs) where
  abbrev Told_so : Option Row → Steps → Type 0
  Told_so f s = (low : ℕ) → Rises low (rising s) → IsWritten inputs.columns key (row_written span.mark (record { first = f; steps = rising s })) w v

  pub merged_one : MayBeWritten key (told_of w) (told_of v) → Told_so first steps → GoesOn span inputs moved (told_of v) (Some key)
  merged_one may told =
      let so : Told_so (row_next span key hs) (steps_next span key hs) = subst (λ (f : Option Row). Told_so f (steps_next span key hs)) first_is (subst (Told_so first) steps_are_ told) in
      let left = room_left span after key hs g.above in
      subst (λ (m : List Head). GoesOn span inputs m (told_of v) (Some key)) (sym moved_is)
      (goes_on span inputs hs (told_of w) (told_of v) after key order_ g next may
      (λ sound. so span.mark (taken_rise span inputs hs (told_of w) after key order_ g next sound) (can_hold span inputs hs w after key in_time order_ g next sound (omega (arith, left, room)))))

  pub room_after : length v.growing.undos.items ≤ length w.growing.undos.items + length steps → HasRoom span inputs moved v
  room_after few =
      let left = room_left span after key hs g.above in
      let taken = ap length steps_are_ in
      subst (λ (m : List Head). HasRoom span inputs m v) (sym moved_is) (omega (arith, few, left, taken, room))

  pub fewer_after : keys_left moved < keys_left hs
  fewer_after = subst (λ (m : List Head). keys_left m < keys_left hs) (sym moved_is) (keys_fewer after key hs g.above next)
