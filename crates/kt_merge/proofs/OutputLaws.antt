-- Disk rowsets that have of each key what is written of it.
use Rattle.std.proofs.Common.{◌≡◌, ◌<◌, ◌^◌, ◌⊎◌, ℕ, inl, inr, Bool, true, false, cond, List, [], ◌∷◌, ◌++◌, map, Option, Some, None, refl, sym, ap, ◌∙◌, subst, arith}
use Rattle.std.specs.Prelude.{nat_lt}
use Rattle.std.specs.List.{AllByRecursion, flat_map}
use Rattle.std.specs.Option.{option_map}
use Rattle.std.specs.Ordering.{is_eq, eq_by_cmp}
use Rattle.std.specs.FinMap.Entries.{find}
use Rattle.std.specs.declared.cmp.Ordering.TheVariants.{Less}
use Rattle.std.proofs.lemmas.Bool.{le-ltb}
use Rattle.std.proofs.lemmas.List.{map-append}
use Rattle.kt_history.specs.Rows.{Row, apply, key_cmp}
use Rattle.kt_history.specs.Stores.{Steps, Hist, never, row_of, step_of}
use Rattle.kt_history.specs.Views.{AreRising}
use Rattle.kt_histlaws.specs.Disks.{DiskRow, AreUndos, hist_of}
use Rattle.kt_histlaws.specs.Fitting.{AreSound, AllFit, RiseAbove}
use Rattle.kt_histlaws.specs.Histories.{first_some, or_else, AtMostOne}
use Rattle.kt_histlaws.specs.Jobs.{AreAlike}
use Rattle.kt_baseset.specs.Rows.{keys_in}
use Rattle.kt_rowfiles.specs.Files.{row_under, records_for, records_in, put_falling, falling, rising, row_with, hist_in_files}
use Rattle.kt_rowfiles.specs.Flushing.{after_all, written, written_deleted}
use Rattle.kt_rowfiles.specs.Merging.{joined_history}
use Rattle.kt_rowfiles.specs.declared.taking.Span.{Span}
use Rattle.kt_diskrowset.specs.declared.data.RowSetData.{RowSetData}
use Rattle.kt_diskrowset.specs.declared.inputs.Inputs.{Inputs}
use Rattle.kt_diskrowset.specs.Data.{files_in}
use Rattle.kt_diskrowset.specs.Files.{lists_of}
use Rattle.kt_diskrowset.specs.Rows.{UndosLeadBack}
use Rattle.kt_merge.specs.Merge.{hists_upto, hists_written, HaveEach, AreFaultless, outputs_are_alike, outputs_are_sound, outputs_lead_back}
use Rattle.kt_merge.specs.Minor.{held_records}
use Rattle.kt_merge.specs.OneKey.{key_written, hist_written}
use Rattle.kt_merge.specs.Rows.{deleted_at, but_last, before_last, written_by}
use Rattle.kt_merge.specs.Told.{Told, told_in, told_by_all, rows_in, AreOutputs}
use Rattle.kt_merge.proofs.KeyChanges.{same_key, by_bool}
use Rattle.kt_merge.proofs.OneKey.{key_alike, key_sound, key_leads}
use Rattle.kt_merge.proofs.ToldRows.{row_found, find_told, in_files, find-append, told_keys}
use Rattle.kt_merge.proofs.Written.{came_from}

-- ---- what an output has of a key

-- a row that is told, with its records put in order
abbrev hist_sorted : Option DiskRow → Hist
hist_sorted None = never
hist_sorted (Some e) = hist_of (record { base = e.base; undos = falling e.undos; redos = rising e.redos })

hist_is_told : (q : List ℕ) (d : RowSetData) → hist_in_files q (files_in d) ≡ hist_sorted (find key_cmp q (told_in d))
hist_is_told q d = by (row_under q 0 (files_in d).base) ∙ ap hist_sorted (sym (find_told q 0 (rows_in d) (held_records d.undo) (held_records d.redo)))
  where
    by : (o : Option (ℕ × Row)) → row_with (files_in d) o ≡ hist_sorted (option_map (row_found (held_records d.undo) (held_records d.redo)) o)
    by None = refl
    by (Some found) =
        ap (λ (s : Steps). hist_of (record { base = found.1; undos = falling s; redos = rising (records_in found.0 (lists_of d.redo)) })) (sym (in_files found.0 d.undo))
        ∙ ap (λ (s : Steps). hist_of (record { base = found.1; undos = falling (records_for found.0 (held_records d.undo)); redos = rising s })) (sym (in_files found.0 d.redo))

-- timestamps that fall are in order already
falls_same : (top : ℕ) (undos : Steps) (row : Option Row) → AreUndos top undos row → falling undos ≡ undos
falls_same top [] row h = refl
falls_same top (u ∷ []) row h = refl
falls_same top (u ∷ v ∷ undos) row h =
    ap (put_falling u) (falls_same u.0 (v ∷ undos) (apply u.1 row) h.2)
    ∙ ap (λ (b : Bool). cond b (v ∷ put_falling u undos) (u ∷ v ∷ undos)) (le-ltb u.0 v.0 (omega (arith, h.2.0)))

-- of a row that is written there is one REDO record at most
redos_by : (j : ℕ) (h : Hist) (d : DiskRow) (o : Option ℕ) → written_by j h o ≡ Some d → rising d.redos ≡ d.redos
redos_by j h d None e =
    let from = came_from (written j h) (after_all h.steps h.first) d e in
    subst (λ (x : DiskRow). rising x.redos ≡ x.redos) from.2 refl
redos_by j h d (Some ts) e = by (nat_lt j ts) e
  where
    by : (b : Bool) → cond b (option_map (written_deleted j (before_last h) ts) (after_all (but_last h.steps) h.first)) None ≡ Some d → rising d.redos ≡ d.redos
    by true f =
        let from = came_from (written_deleted j (before_last h) ts) (after_all (but_last h.steps) h.first) d f in
        subst (λ (x : DiskRow). rising x.redos ≡ x.redos) from.2 refl
    by false f = cc

sorted_same : (j top : ℕ) (hs : List Hist) (d : DiskRow) → key_written j hs ≡ Some d → AreUndos top d.undos (Some d.base) → hist_sorted (Some d) ≡ hist_of d
sorted_same j top hs d is lead =
    ap (λ (s : Steps). hist_of (record { base = d.base; undos = s; redos = rising d.redos })) (falls_same top d.undos (Some d.base) lead)
    ∙ ap (λ (s : Steps). hist_of (record { base = d.base; undos = d.undos; redos = s })) (redos_by j (joined_history j hs) d (deleted_at (joined_history j hs).steps) is)

-- ---- histories of which one at most is that of a row

abbrev AllNever : List Hist → Type 0
AllNever [] = Unit {0}
AllNever (z ∷ zs) = (z ≡ never) × AllNever zs

abbrev OnlyOne : Hist → List Hist → Type 0
OnlyOne h [] = ⊥
OnlyOne h (z ∷ zs) = ((z ≡ h) × AllNever zs) ⊎ ((z ≡ never) × OnlyOne h zs)

at_most : {A : Type 0} (o : Option A) (xs : List (Option A)) → first_some xs ≡ None → AtMostOne xs → AtMostOne (o ∷ xs)
at_most None xs none one = one
at_most (Some x) xs none one = none

module _ {A : Type 0} (f : Hist → Option A) (nothing : f never ≡ None) where
  nevers : (zs : List Hist) → AllNever zs → first_some (map f zs) ≡ None
  nevers [] h = refl
  nevers (z ∷ zs) h = ap (λ (o : Option A). or_else o (first_some (map f zs))) (ap f h.0 ∙ nothing) ∙ nevers zs h.1

  nevers_one : (zs : List Hist) → AllNever zs → AtMostOne (map f zs)
  nevers_one [] h = tt
  nevers_one (z ∷ zs) h = at_most (f z) (map f zs) (nevers zs h.1) (nevers_one zs h.1)

  only : (h : Hist) (zs : List Hist) → OnlyOne h zs → first_some (map f zs) ≡ or_else (f h) None
  only h [] k = absurd k
  only h (z ∷ zs) (inl k) = ap (λ (x : Hist). or_else (f x) (first_some (map f zs))) k.0 ∙ ap (or_else (f h)) (nevers zs k.1)
  only h (z ∷ zs) (inr k) = ap (λ (o : Option A). or_else o (first_some (map f zs))) (ap f k.0 ∙ nothing) ∙ only h zs k.1

  only_one : (h : Hist) (zs : List Hist) → OnlyOne h zs → AtMostOne (map f zs)
  only_one h [] k = absurd k
  only_one h (z ∷ zs) (inl k) = at_most (f z) (map f zs) (nevers zs k.1) (nevers_one zs k.1)
  only_one h (z ∷ zs) (inr k) = subst (λ (o : Option A). AtMostOne (o ∷ map f zs)) (sym (ap f k.0 ∙ nothing)) (only_one h zs k.1)

alike_only : (j : ℕ) (hs : List Hist) (h : Hist) (zs : List Hist) → AreAlike j hs (h ∷ []) → OnlyOne h zs → AreAlike j hs zs
alike_only j hs h zs a k = record {
  rows = λ t le. a.rows t le ∙ sym (only (row_of t) refl h zs k);
  steps = λ t lt. a.steps t lt ∙ sym (only (step_of t) refl h zs k);
  one_row = λ t le. only_one (row_of t) refl h zs k;
  one_step = λ t lt. only_one (step_of t) refl h zs k;
}

alike_never : (j : ℕ) (hs zs : List Hist) → AreAlike j hs (never ∷ []) → AllNever zs → AreAlike j hs zs
alike_never j hs zs a k = record {
  rows = λ t le. a.rows t le ∙ sym (nevers (row_of t) refl zs k);
  steps = λ t lt. a.steps t lt ∙ sym (nevers (step_of t) refl zs k);
  one_row = λ t le. nevers_one (row_of t) refl zs k;
  one_step = λ t lt. nevers_one (step_of t) refl zs k;
}

fit_never : (t : ℕ) (zs : List Hist) → AllNever zs → AllFit t zs
fit_never t [] k = tt
fit_never t (z ∷ zs) k = ((subst (λ (x : Hist). AllFit t (x ∷ [])) (sym k.0) (tt, tt)).0, fit_never t zs k.1)

rise_never : (j : ℕ) (zs : List Hist) → AllNever zs → RiseAbove j zs
rise_never j [] k = tt
rise_never j (z ∷ zs) k = ((subst (λ (x : Hist). RiseAbove j (x ∷ [])) (sym k.0) (tt, tt)).0, rise_never j zs k.1)

fit_only : (t : ℕ) (h : Hist) (zs : List Hist) → AllFit t (h ∷ []) → OnlyOne h zs → AllFit t zs
fit_only t h [] s k = absurd k
fit_only t h (z ∷ zs) s (inl k) = ((subst (λ (x : Hist). AllFit t (x ∷ [])) (sym k.0) s).0, fit_never t zs k.1)
fit_only t h (z ∷ zs) s (inr k) = ((subst (λ (x : Hist). AllFit t (x ∷ [])) (sym k.0) (tt, tt)).0, fit_only t h zs s k.1)

rise_only : (j : ℕ) (h : Hist) (zs : List Hist) → RiseAbove j (h ∷ []) → OnlyOne h zs → RiseAbove j zs
rise_only j h [] s k = absurd k
rise_only j h (z ∷ zs) s (inl k) = ((subst (λ (x : Hist). RiseAbove j (x ∷ [])) (sym k.0) s).0, rise_never j zs k.1)
rise_only j h (z ∷ zs) s (inr k) = ((subst (λ (x : Hist). RiseAbove j (x ∷ [])) (sym k.0) (tt, tt)).0, rise_only j h zs s k.1)

-- ---- a key has a row in one output at most

abbrev keys_told : Told → List (List ℕ)
keys_told told = map (λ (r : List ℕ × DiskRow). r.0) told

some_or : {A : Type 0} (a b : Option A) → or_else a b ≡ None → (a ≡ None) × (b ≡ None)
some_or None b e = (refl, e)
some_or (Some x) b e = cc

above_none : (q : List ℕ) (ys : Told) → AllByRecursion (λ (other : List ℕ). key_cmp q other ≡ Less) (keys_told ys) → find key_cmp q ys ≡ None
above_none q [] h = refl
above_none q (y ∷ ys) h = ap (λ (b : Bool). cond b (Some y.1) (find key_cmp q ys)) (ap is_eq h.0) ∙ above_none q ys h.1

behind : (P : List ℕ → Type 0) (xs ys : Told) → AllByRecursion P (keys_told (xs ++ ys)) → AllByRecursion P (keys_told ys)
behind P [] ys h = h
behind P (x ∷ xs) ys h = behind P xs ys h.1

rise_behind : (xs ys : Told) → AreRising (keys_told (xs ++ ys)) → AreRising (keys_told ys)
rise_behind [] ys h = h
rise_behind (x ∷ xs) ys h = rise_behind xs ys h.1

-- where the keys rise, one that is found in front is not found behind
apart : (q : List ℕ) (xs ys : Told) (e : DiskRow) → AreRising (keys_told (xs ++ ys)) → find key_cmp q xs ≡ Some e → find key_cmp q ys ≡ None
apart q [] ys e rise is = cc
apart q (x ∷ xs) ys e rise is = by_bool (eq_by_cmp key_cmp q x.0)
    (λ tied. above_none q ys (subst (λ (k : List ℕ). AllByRecursion (λ (other : List ℕ). key_cmp k other ≡ Less) (keys_told ys)) (sym (same_key q x.0 tied)) (behind (λ (other : List ℕ). key_cmp x.0 other ≡ Less) xs ys rise.0)))
    (λ other. apart q xs ys e rise.1 (sym (ap (λ (b : Bool). cond b (Some x.1) (find key_cmp q xs)) other) ∙ is))

keys_of_all : (rowsets : List RowSetData) → keys_told (told_by_all rowsets) ≡ flat_map (λ (d : RowSetData). keys_in (rows_in d)) rowsets
keys_of_all [] = refl
keys_of_all (d ∷ rowsets) =
    map-append (λ (r : List ℕ × DiskRow). r.0) (told_in d) (told_by_all rowsets)
    ∙ ap (λ (l : List (List ℕ)). l ++ keys_told (told_by_all rowsets)) (told_keys 0 (rows_in d) (held_records d.undo) (held_records d.redo))
    ∙ ap (λ (l : List (List ℕ)). keys_in (rows_in d) ++ l) (keys_of_all rowsets)

none_told : (q : List ℕ) (rowsets : List RowSetData) → find key_cmp q (told_by_all rowsets) ≡ None → AllNever (hists_written q rowsets)
none_told q [] is = tt
none_told q (d ∷ rowsets) is =
    let both = some_or (find key_cmp q (told_in d)) (find key_cmp q (told_by_all rowsets)) (sym (find-append q (told_in d) (told_by_all rowsets)) ∙ is) in
    (hist_is_told q d ∙ ap hist_sorted both.0, none_told q rowsets both.1)

one_told : (q : List ℕ) (rowsets : List RowSetData) (e : DiskRow) → AreRising (keys_told (told_by_all rowsets)) → find key_cmp q (told_by_all rowsets) ≡ Some e → OnlyOne (hist_sorted (Some e)) (hists_written q rowsets)
one_told q [] e rise is = cc
one_told q (d ∷ rowsets) e rise is = by (find key_cmp q (told_in d)) refl (one_told q rowsets e (rise_behind (told_in d) (told_by_all rowsets) rise))
  where
    whole : or_else (find key_cmp q (told_in d)) (find key_cmp q (told_by_all rowsets)) ≡ Some e
    whole = sym (find-append q (told_in d) (told_by_all rowsets)) ∙ is

    by : (o : Option DiskRow) → find key_cmp q (told_in d) ≡ o → (find key_cmp q (told_by_all rowsets) ≡ Some e → OnlyOne (hist_sorted (Some e)) (hists_written q rowsets)) → OnlyOne (hist_sorted (Some e)) (hists_written q (d ∷ rowsets))
    by (Some x) here more =
        let same : Some x ≡ Some e = sym (ap (λ (o : Option DiskRow). or_else o (find key_cmp q (told_by_all rowsets))) here) ∙ whole in
        inl (hist_is_told q d ∙ ap hist_sorted (here ∙ same), none_told q rowsets (apart q (told_in d) (told_by_all rowsets) x rise here))
    by None here more = inr (hist_is_told q d ∙ ap hist_sorted here, more (sym (ap (λ (o : Option DiskRow). or_else o (find key_cmp q (told_by_all rowsets))) here) ∙ whole))

-- ---- the laws

module _ (span : Span) (inputs : Inputs) (rowsets : List RowSetData) (low : span.mark < 2 ^ 64) (sound : AreFaultless span inputs) (are : AreOutputs inputs.columns rowsets) (have : HaveEach span inputs (told_by_all rowsets)) where
  rises_told : AreRising (keys_told (told_by_all rowsets))
  rises_told = subst AreRising (sym (keys_of_all rowsets)) are.rise

  module _ (q : List ℕ) where
    abbrev hs : List Hist
    hs = hists_upto span.bound q inputs

    leads_at : (e : DiskRow) → key_written span.mark hs ≡ Some e → AreUndos (2 ^ 64) e.undos (Some e.base)
    leads_at e is = key_leads inputs.columns span.mark (2 ^ 64) hs e low (sound.each q) is

    only_at : (e : DiskRow) → key_written span.mark hs ≡ Some e → OnlyOne (hist_of e) (hists_written q rowsets)
    only_at e is = subst (λ (h : Hist). OnlyOne h (hists_written q rowsets)) (sorted_same span.mark (2 ^ 64) hs e is (leads_at e is)) (one_told q rowsets e rises_told (have q ∙ is))

    alike_by : (o : Option DiskRow) → key_written span.mark hs ≡ o → AreAlike span.mark hs (hist_written o ∷ []) → AreAlike span.mark hs (hists_written q rowsets)
    alike_by None is a = alike_never span.mark hs (hists_written q rowsets) a (none_told q rowsets (have q ∙ is))
    alike_by (Some e) is a = alike_only span.mark hs (hist_of e) (hists_written q rowsets) a (only_at e is)

    sound_by : (o : Option DiskRow) → key_written span.mark hs ≡ o → AreSound span.mark (hist_written o ∷ []) → AreSound span.mark (hists_written q rowsets)
    sound_by None is a =
        let none = none_told q rowsets (have q ∙ is) in
        record { fit = λ t lt. fit_never t (hists_written q rowsets) none; rise = rise_never span.mark (hists_written q rowsets) none }
    sound_by (Some e) is a =
        let one = only_at e is in
        record { fit = λ t lt. fit_only t (hist_of e) (hists_written q rowsets) (a.fit t lt) one; rise = rise_only span.mark (hist_of e) (hists_written q rowsets) a.rise one }

    alike_at : AreAlike span.mark hs (hists_written q rowsets)
    alike_at = alike_by (key_written span.mark hs) refl (key_alike inputs.columns span.mark (2 ^ 64) hs (sound.each q))

    sound_at : AreSound span.mark (hists_written q rowsets)
    sound_at = sound_by (key_written span.mark hs) refl (key_sound inputs.columns span.mark (2 ^ 64) hs (sound.each q))

pub are_alike : outputs_are_alike
are_alike span inputs rowsets low sound are have q = alike_at span inputs rowsets low sound are have q

pub are_sound : outputs_are_sound
are_sound span inputs rowsets low sound are have q = sound_at span inputs rowsets low sound are have q

-- each row that is told leads back, and so each row of each rowset

leads_in : (d : RowSetData) → ((q : List ℕ) (e : DiskRow) → find key_cmp q (told_in d) ≡ Some e → AreUndos (2 ^ 64) e.undos (Some e.base)) → UndosLeadBack (files_in d)
leads_in d each q found at =
    let e = row_found (held_records d.undo) (held_records d.redo) found in
    let lead = each q e (find_told q 0 (rows_in d) (held_records d.undo) (held_records d.redo) ∙ ap (option_map (row_found (held_records d.undo) (held_records d.redo))) at) in
    subst (λ (s : Steps). AreUndos (2 ^ 64) s (Some found.1)) (sym (falls_same (2 ^ 64) e.undos (Some found.1) lead) ∙ ap falling (in_files found.0 d.undo)) lead

leads_all : (rowsets : List RowSetData) → AreRising (keys_told (told_by_all rowsets)) → ((q : List ℕ) (e : DiskRow) → find key_cmp q (told_by_all rowsets) ≡ Some e → AreUndos (2 ^ 64) e.undos (Some e.base))
    → AllByRecursion (λ (d : RowSetData). UndosLeadBack (files_in d)) rowsets
leads_all [] rise each = tt
leads_all (d ∷ rowsets) rise each = (
  leads_in d (λ q e is. each q e (find-append q (told_in d) (told_by_all rowsets) ∙ ap (λ (o : Option DiskRow). or_else o (find key_cmp q (told_by_all rowsets))) is)),
  leads_all rowsets (rise_behind (told_in d) (told_by_all rowsets) rise) (λ q e is. each q e (find-append q (told_in d) (told_by_all rowsets) ∙ in_front q e is (find key_cmp q (told_in d)) refl)),
)
  where
    in_front : (q : List ℕ) (e : DiskRow) → find key_cmp q (told_by_all rowsets) ≡ Some e → (o : Option DiskRow) → find key_cmp q (told_in d) ≡ o → or_else (find key_cmp q (told_in d)) (find key_cmp q (told_by_all rowsets)) ≡ Some e
    in_front q e is None here = ap (λ (o : Option DiskRow). or_else o (find key_cmp q (told_by_all rowsets))) here ∙ is
    in_front q e is (Some x) here = absurd (let none = apart q (told_in d) (told_by_all rowsets) x rise here in let f : None ≡ Some e = sym none ∙ is in cc)

pub lead_back : outputs_lead_back
lead_back span inputs rowsets low sound are have =
    leads_all rowsets (rises_told span inputs rowsets low sound are have)
    (λ q e is. leads_at span inputs rowsets low sound are have q e (sym (have q) ∙ is))
