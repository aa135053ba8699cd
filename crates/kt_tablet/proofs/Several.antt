-- What an operation does to one of several stores is what the engine's event says.
use Rattle.std.proofs.Common.{◌≡◌, ℕ, zero, suc, ◌<◌, ◌≤◌, ◌-◌, List, [], ◌∷◌, map, length, Option, Some, None, true, false, Bool, cond, is_some, refl, sym, ap, subst, ◌∙◌, arith}
use Rattle.std.specs.Prelude.{slice_get, unwrap_or, if◌then◌else◌}
use Rattle.std.specs.List.{Contains}
use Rattle.std.specs.Option.{option_map, option_to_list}
use Rattle.std.specs.FinMap.Entries.{put}
use Rattle.std.proofs.lemmas.List.{length-map}
use Rattle.kt_history.specs.declared.change.Change.{Change}
use Rattle.kt_history.specs.declared.operation.OpKind.{OpKind}
use Rattle.kt_history.specs.declared.operation.OpKind.TheVariants.{Insert, Upsert, Update, Delete, InsertIgnore, UpdateIgnore, DeleteIgnore}
use Rattle.kt_history.specs.declared.operation.RowOp.{RowOp}
use Rattle.kt_history.specs.declared.row_store.Taken.{Taken}
use Rattle.kt_history.specs.declared.target.Target.{Target}
use Rattle.kt_history.specs.Operations.{effect, outcome_of}
use Rattle.kt_history.specs.Rows.{Row, key_cmp}
use Rattle.kt_history.specs.Stores.{Store, Under, hist_in, push, row_of, last_row, kind_made, change_of, change_by, with_change}
use Rattle.kt_history.proofs.Effects.{outcomes}
use Rattle.kt_histlaws.specs.Core.{live}
use Rattle.kt_histlaws.specs.Events.{pushed_if}
use Rattle.kt_histlaws.specs.Flights.{AllUnder}
use Rattle.kt_histlaws.specs.Histories.{hists, on_nth, or_else, AtMostOne, Alone, nth_option}
use Rattle.kt_histlaws.proofs.OneKey.{map-on_nth_still, alone_of_one, alone_of_none}
use Rattle.kt_memrowset.proofs.Last.{last_under}
use Rattle.kt_records.specs.declared.entry.CommitRow.{CommitRow}
use Rattle.kt_stores.specs.Shelf.{Shelved, FirstIsOpen, has_live, last_live, place_of, names_of, name_at, holding}
use Rattle.kt_stores.proofs.Beside.{some_is, none_some}
use Rattle.kt_stores.proofs.Seeking.{seek, seek_at, seek_low}
use Rattle.kt_stores.proofs.Taking.{live_some, place_is}
use Rattle.kt_tablet.specs.Filling.{filled, filled_change, as_told, all_told}
use Rattle.kt_tablet.specs.Rows.{targets_of, commit_row, recorded}
use Rattle.kt_tablet.proofs.Applying.{change_alike}
use Rattle.kt_tablet.proofs.Filling.{last_alike, find-filled, push-filled, put-filled, under-filled}

-- where a store's changes of a key lie below a time, its row is there then as it is after all of them
alive : (fill : Row) (memory : ℕ) (q : List ℕ) (ts : ℕ) (store : Store) → Under ts (hist_in q (as_told memory fill store)).steps → has_live q store ≡ is_some (row_of ts (hist_in q (as_told memory fill store)))
alive fill zero q ts store under = ap is_some (last_under ts (hist_in q store) under)
alive fill (suc memory) q ts store under =
    sym (last_alike fill (hist_in q store)) ∙ ap (λ h. is_some (last_row h)) (sym (find-filled fill q store)) ∙ ap is_some (last_under ts (hist_in q (filled fill store)) under)

either_alike : {A : Type 0} (x y o p : Option A) → is_some x ≡ is_some y → is_some o ≡ is_some p → is_some (or_else x o) ≡ is_some (or_else y p)
either_alike None None o p e f = f
either_alike (Some x) (Some y) o p e f = refl
either_alike None (Some y) o p e f = cc
either_alike (Some x) None o p e f = cc

-- so some store has the row after all changes where some store has it at that time
pub live_several : (fill : Row) (memory : ℕ) (q : List ℕ) (ts : ℕ) (stores : List Store) → AllUnder ts (hists q (all_told fill memory stores)) → is_some (last_live q stores) ≡ is_some (live (all_told fill memory stores) q ts)
live_several fill memory q ts [] under = refl
live_several fill memory q ts (s ∷ stores) under =
    either_alike (last_row (hist_in q s)) (row_of ts (hist_in q (as_told memory fill s))) (last_live q stores) (live (all_told fill (memory - 1) stores) q ts) (alive fill memory q ts s under.0) (live_several fill (memory - 1) q ts stores under.1)

under_told : (fill : Row) (memory : ℕ) (q : List ℕ) (ts : ℕ) (s : Store) → Under ts (hist_in q (as_told memory fill s)).steps → Under ts (hist_in q s).steps
under_told fill zero q ts s under = under
under_told fill (suc memory) q ts s under = under-filled fill ts (hist_in q s).steps (subst (λ h. Under ts h.steps) (find-filled fill q s) under)

under_several : (fill : Row) (memory : ℕ) (q : List ℕ) (ts : ℕ) (stores : List Store) → AllUnder ts (hists q (all_told fill memory stores)) → AllUnder ts (hists q stores)
under_several fill memory q ts [] under = tt
under_several fill memory q ts (s ∷ stores) under = (under_told fill memory q ts s under.0, under_several fill (memory - 1) q ts stores under.1)

put_filled : (fill : Row) (q : List ℕ) (ts : ℕ) (c : Change) (store : Store) → filled fill (put key_cmp q (push ts c (hist_in q store)) store) ≡ put key_cmp q (push ts (filled_change fill c) (hist_in q (filled fill store))) (filled fill store)
put_filled fill q ts c store =
    sym (put-filled fill q (push ts c (hist_in q store)) store)
    ∙ ap (λ h. put key_cmp q h (filled fill store)) (sym (push-filled fill ts c (hist_in q store)))
    ∙ ap (λ h. put key_cmp q (push ts (filled_change fill c) h) (filled fill store)) (sym (find-filled fill q store))

on_none : (i : ℕ) (q : List ℕ) (ts : ℕ) (stores : List Store) → on_nth i (with_change q ts None) stores ≡ stores
on_none i q ts [] = refl
on_none zero q ts (s ∷ stores) = refl
on_none (suc i) q ts (s ∷ stores) = ap (λ ss. s ∷ ss) (on_none i q ts stores)

-- a change that is no insert is the same where it is filled
put_told : (fill : Row) (memory : ℕ) (q : List ℕ) (ts : ℕ) (c : Change) (store : Store) → (memory ≡ 0 → filled_change fill c ≡ c)
    → as_told memory fill (put key_cmp q (push ts c (hist_in q store)) store) ≡ put key_cmp q (push ts (filled_change fill c) (hist_in q (as_told memory fill store))) (as_told memory fill store)
put_told fill zero q ts c store plain = ap (λ x. put key_cmp q (push ts x (hist_in q store)) store) (sym (plain refl))
put_told fill (suc memory) q ts c store plain = put_filled fill q ts c store

pushed_told : (fill : Row) (memory i : ℕ) (q : List ℕ) (ts : ℕ) (c : Change) (stores : List Store) → (memory ≤ i → filled_change fill c ≡ c)
    → all_told fill memory (on_nth i (with_change q ts (Some c)) stores) ≡ on_nth i (λ s. put key_cmp q (push ts (filled_change fill c) (hist_in q s)) s) (all_told fill memory stores)
pushed_told fill memory i q ts c [] plain = refl
pushed_told fill memory zero q ts c (s ∷ stores) plain = ap (λ x. x ∷ all_told fill (memory - 1) stores) (put_told fill memory q ts c s (λ none. plain (omega (arith, none))))
pushed_told fill memory (suc i) q ts c (s ∷ stores) plain = ap (λ ss. as_told memory fill s ∷ ss) (pushed_told fill (memory - 1) i q ts c stores (λ le. plain (omega (arith, le))))

changed_several : (fill : Row) (memory i : ℕ) (q : List ℕ) (ts : ℕ) (o : Option Change) (stores : List Store) → (memory ≤ i → option_map (filled_change fill) o ≡ o)
    → all_told fill memory (on_nth i (with_change q ts o) stores) ≡ pushed_if i q ts (option_map (filled_change fill) o) (all_told fill memory stores)
changed_several fill memory i q ts None stores plain = ap (all_told fill memory) (on_none i q ts stores)
changed_several fill memory i q ts (Some c) stores plain = pushed_told fill memory i q ts c stores (λ le. some_is (filled_change fill c) c (plain le))

-- behind the first store a change goes to a row that is there, and is no insert
there_behind : (q : List ℕ) (stores : List Store) → 0 < place_of q stores → is_some (last_live q stores) ≡ true
there_behind q stores behind = by (seek (has_live q) stores) refl
  where
    by : (o : Option ℕ) → seek (has_live q) stores ≡ o → is_some (last_live q stores) ≡ true
    by None found = let first : place_of q stores ≡ 0 = place_is q stores ∙ ap (λ o. unwrap_or o 0) found in absurd (omega (arith, behind, first))
    by (Some i) found = live_some q stores ∙ ap is_some found

plain_change : (fill : Row) (op : RowOp) → option_map (filled_change fill) (change_by op true) ≡ change_by op true
plain_change fill op = by op.kind
  where
    by : (k : OpKind) → option_map (filled_change fill) (option_map (λ kind. change_of kind op.cells) (kind_made k true)) ≡ option_map (λ kind. change_of kind op.cells) (kind_made k true)
    by Insert = refl
    by Upsert = refl
    by Update = refl
    by Delete = refl
    by InsertIgnore = refl
    by UpdateIgnore = refl
    by DeleteIgnore = refl

pub stores_applied : (fill : Row) (memory : ℕ) (op : RowOp) (ts i : ℕ) (stores new : List Store) (there : Bool) → 0 < memory → i ≡ place_of op.key stores → AllUnder ts (hists op.key (all_told fill memory stores)) → there ≡ is_some (last_live op.key stores)
    → (AllUnder ts (hists op.key stores) → new ≡ on_nth i (with_change op.key ts (change_by op there)) stores)
    → all_told fill memory new ≡ pushed_if i op.key ts (effect fill op.kind op.cells (live (all_told fill memory stores) op.key ts)).0 (all_told fill memory stores)
stores_applied fill memory op ts i stores new there some place under is changed =
    ap (all_told fill memory) (changed (under_several fill memory op.key ts stores under)) ∙ changed_several fill memory i op.key ts (change_by op there) stores plain
    ∙ ap (λ o. pushed_if i op.key ts o (all_told fill memory stores)) (ap (λ b. option_map (filled_change fill) (change_by op b)) (is ∙ live_several fill memory op.key ts stores under) ∙ change_alike fill op (live (all_told fill memory stores) op.key ts))
  where
    plain : memory ≤ i → option_map (filled_change fill) (change_by op there) ≡ change_by op there
    plain le =
        let t : there ≡ true = is ∙ there_behind op.key stores (omega (arith, some, place, le)) in
        ap (λ b. option_map (filled_change fill) (change_by op b)) t ∙ plain_change fill op ∙ ap (change_by op) (sym t)

-- and no other store has the row
row_at : (fill : Row) (memory : ℕ) (q : List ℕ) (ts i : ℕ) (stores : List Store) (s : Store) → AllUnder ts (hists q (all_told fill memory stores)) → slice_get stores i ≡ Some s → has_live q s ≡ is_some (nth_option i (map (row_of ts) (hists q (all_told fill memory stores))))
row_at fill memory q ts i [] s under at = none_some s at
row_at fill memory q ts zero (r ∷ stores) s under at = ap (has_live q) (sym (some_is r s at)) ∙ alive fill memory q ts r under.0
row_at fill memory q ts (suc i) (r ∷ stores) s under at = row_at fill (memory - 1) q ts i stores s under.1 at

pub get_there : {X : Type 0} (xs : List X) (i : ℕ) → i < length xs → (x : X) × (slice_get xs i ≡ Some x)
get_there [] i low = absurd (omega arith)
get_there (x ∷ xs) zero low = (x, refl)
get_there (x ∷ xs) (suc i) low = get_there xs i (omega arith)

not_there : {A : Type 0} (o : Option A) → is_some o ≡ false → o ≡ None
not_there None e = refl
not_there (Some x) e = cc

length-rows : (fill : Row) (memory : ℕ) (q : List ℕ) (ts : ℕ) (stores : List Store) → length (map (row_of ts) (hists q (all_told fill memory stores))) ≡ length stores
length-rows fill memory q ts [] = refl
length-rows fill memory q ts (s ∷ stores) = ap suc (length-rows fill (memory - 1) q ts stores)

pub length-told : (fill : Row) (memory : ℕ) (stores : List Store) → length (all_told fill memory stores) ≡ length stores
length-told fill memory [] = refl
length-told fill memory (s ∷ stores) = ap suc (length-told fill (memory - 1) stores)

pub alone_at_place : (fill : Row) (memory : ℕ) (q : List ℕ) (ts : ℕ) (stores : List Store) → AllUnder ts (hists q (all_told fill memory stores)) → 0 < length stores → AtMostOne (map (row_of ts) (hists q (all_told fill memory stores)))
    → Alone (place_of q stores) (map (row_of ts) (hists q (all_told fill memory stores)))
alone_at_place fill memory q ts stores under some one = subst (λ i. Alone i (map (row_of ts) (hists q (all_told fill memory stores)))) (sym (place_is q stores)) (by (seek (has_live q) stores) refl)
  where
    by : (o : Option ℕ) → seek (has_live q) stores ≡ o → Alone (unwrap_or o 0) (map (row_of ts) (hists q (all_told fill memory stores)))
    by None found =
        let none = not_there (live (all_told fill memory stores) q ts) (sym (live_several fill memory q ts stores under) ∙ live_some q stores ∙ ap is_some found) in
        let n = length-rows fill memory q ts stores in
        alone_of_none 0 (map (row_of ts) (hists q (all_told fill memory stores))) (omega arith) none
    by (Some i) found =
        let s = get_there stores i (seek_low (has_live q) stores i found) in
        alone_of_one i (map (row_of ts) (hists q (all_told fill memory stores))) one (sym (row_at fill memory q ts i stores s.0 under s.1) ∙ seek_at (has_live q) stores i s.0 found s.1)

-- ---- where it goes, and what is told of it

has_told : (fill : Row) (memory : ℕ) (q : List ℕ) (store : Store) → has_live q (as_told memory fill store) ≡ has_live q store
has_told fill zero q store = refl
has_told fill (suc memory) q store = ap (λ h. is_some (last_row h)) (find-filled fill q store) ∙ last_alike fill (hist_in q store)

seek_told : (fill : Row) (memory : ℕ) (q : List ℕ) (stores : List Store) → seek (has_live q) (all_told fill memory stores) ≡ seek (has_live q) stores
seek_told fill memory q [] = refl
seek_told fill memory q (s ∷ stores) =
    let here = has_told fill memory q s in
    let rest = seek_told fill (memory - 1) q stores in
    λ k. cond (here k) (Some 0) (option_map (λ n. suc n) (rest k))

pub place_told : (fill : Row) (memory : ℕ) (q : List ℕ) (stores : List Store) → place_of q (all_told fill memory stores) ≡ place_of q stores
place_told fill memory q stores = place_is q (all_told fill memory stores) ∙ ap (λ o. unwrap_or o 0) (seek_told fill memory q stores) ∙ sym (place_is q stores)

pub outcome_several : (fill : Row) (memory : ℕ) (op : RowOp) (ts : ℕ) (stores : List Store) → AllUnder ts (hists op.key (all_told fill memory stores)) → outcome_of op.kind (is_some (last_live op.key stores)) ≡ (effect fill op.kind op.cells (live (all_told fill memory stores) op.key ts)).1
outcome_several fill memory op ts stores under = ap (outcome_of op.kind) (live_several fill memory op.key ts stores under) ∙ sym (outcomes fill op.kind op.cells (live (all_told fill memory stores) op.key ts))

-- it goes to one of them
pub place_low : (q : List ℕ) (shelf : List Shelved) → FirstIsOpen shelf → place_of q (map (λ (s : Shelved). s.store) shelf) < length (map (λ (s : Shelved). s.store) shelf)
place_low q [] first = absurd first
place_low q (s ∷ shelf) first = subst (λ n. n < length (map (λ (s : Shelved). s.store) (s ∷ shelf))) (sym (place_is q (map (λ (s : Shelved). s.store) (s ∷ shelf)))) (by (seek (has_live q) (map (λ (s : Shelved). s.store) (s ∷ shelf))) refl)
  where
    by : (o : Option ℕ) → seek (has_live q) (map (λ (s : Shelved). s.store) (s ∷ shelf)) ≡ o → unwrap_or o 0 < length (map (λ (s : Shelved). s.store) (s ∷ shelf))
    by None found = omega arith
    by (Some i) found = seek_low (has_live q) (map (λ (s : Shelved). s.store) (s ∷ shelf)) i found

-- and that one is named
name_there : (i : ℕ) (shelf : List Shelved) → i < length (map (λ (s : Shelved). s.store) shelf) → (name : Target) × (slice_get (names_of shelf) i ≡ Some name) × (name_at i shelf ≡ Some name)
name_there i [] low = absurd (omega (arith, low))
name_there zero (s ∷ shelf) low = (s.name, refl, refl)
name_there (suc i) (s ∷ shelf) low = name_there i shelf (omega (arith, low))

told_targets : (k : OpKind) (there : Bool) (name : Target) (o : Option Target) → o ≡ (if is_some (kind_made k there) then Some name else None) → option_to_list o ≡ targets_of name (outcome_of k there)
told_targets Insert false name o e = ap option_to_list e
told_targets Insert true name o e = ap option_to_list e
told_targets Upsert false name o e = ap option_to_list e
told_targets Upsert true name o e = ap option_to_list e
told_targets Update false name o e = ap option_to_list e
told_targets Update true name o e = ap option_to_list e
told_targets Delete false name o e = ap option_to_list e
told_targets Delete true name o e = ap option_to_list e
told_targets InsertIgnore false name o e = ap option_to_list e
told_targets InsertIgnore true name o e = ap option_to_list e
told_targets UpdateIgnore false name o e = ap option_to_list e
told_targets UpdateIgnore true name o e = ap option_to_list e
told_targets DeleteIgnore false name o e = ap option_to_list e
told_targets DeleteIgnore true name o e = ap option_to_list e

pub recorded_of : (k : OpKind) (taken : Taken) (row : CommitRow) (i : ℕ) (shelf : List Shelved) → row ≡ recorded k taken → i < length (map (λ (s : Shelved). s.store) shelf) → taken.target ≡ (if is_some (kind_made k taken.there) then name_at i shelf else None)
    → (name : Target) × (slice_get (names_of shelf) i ≡ Some name) × (row ≡ commit_row name row.outcome)
recorded_of k taken row i shelf is low named =
    let at = name_there i shelf low in
    let told = told_targets k taken.there at.0 taken.target (named ∙ ap (λ o. if is_some (kind_made k taken.there) then o else None) at.2) in
    (at.0, at.1, subst (λ (r : CommitRow). r ≡ commit_row at.0 r.outcome) (sym is) (λ n. record { outcome = outcome_of k taken.there; targets = told n }))

-- a store that stands there is one of them
pub one_of_names : (names : List Target) (i : ℕ) (name : Target) → slice_get names i ≡ Some name → Contains names name
one_of_names [] i name at = none_some name at
one_of_names (x ∷ names) zero name at = (0, omega arith, some_is x name at)
one_of_names (x ∷ names) (suc i) name at = let rest = one_of_names names i name at in let low = rest.1 in (suc rest.0, omega (arith, low), rest.2)

-- no name changes
pub same_names : (i : ℕ) (store : Store) (more : ℕ) (old new : List Shelved) → new ≡ on_nth i (holding store more) old → names_of new ≡ names_of old
same_names i store more old new e = ap names_of e ∙ map-on_nth_still i (holding store more) (λ (s : Shelved). s.name) (λ s. refl) old

pub same_count : (old new : List Shelved) → names_of new ≡ names_of old → length (map (λ (s : Shelved). s.store) new) ≡ length (map (λ (s : Shelved). s.store) old)
same_count old new e =
    length-map new (λ (s : Shelved). s.store) ∙ sym (length-map new (λ (s : Shelved). s.name)) ∙ ap length e ∙ length-map old (λ (s : Shelved). s.name) ∙ sym (length-map old (λ (s : Shelved). s.store))
