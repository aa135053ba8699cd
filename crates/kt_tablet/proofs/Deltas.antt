-- One disk rowset of a tablet, by its number.
use Rattle.std.proofs.Common.{◌≡◌, ◌≤◌, ◌+◌, ◌-◌, ℕ, zero, suc, Bool, true, false, cond, List, [], ◌∷◌, map, Option, Some, None, refl, sym, ap, subst, ◌∙◌, arith}
use Rattle.std.specs.Prelude.{slice_get, ◌==◌}
use Rattle.std.specs.List.{position}
use Rattle.std.specs.Option.{option_map}
use Rattle.std.proofs.lemmas.Bool.{eqb-true}
use Rattle.kt_history.specs.declared.target.Target.{Target}
use Rattle.kt_history.specs.declared.target.Target.TheVariants.{Mem, Delta}
use Rattle.kt_history.specs.Rows.{Row}
use Rattle.kt_history.specs.Stores.{Store}
use Rattle.kt_histlaws.specs.Histories.{on_nth}
use Rattle.kt_diskrowset.specs.Rowset.{HeldFiles}
use Rattle.kt_pool.specs.Contents.{Contents}
use Rattle.kt_stores.specs.Shelf.{Shelved, is_rowset, taken_by, renamed, names_of}
use Rattle.kt_stores.proofs.Seeking.{seek, position_is, seek-map}
use Rattle.kt_tablet.specs.Filling.{all_told}
use Rattle.kt_tablet.specs.Jobs.{dms_in, store_in_names, next_dms, files_of, with_files}
use Rattle.kt_tablet.specs.Views.{View}

pub same_some : {X : Type 0} (x y : X) → Some x ≡ Some y → x ≡ y
same_some x y e = cc

some_is : {X : Type 0} (x y : X) → Some x ≡ Some y → x ≡ y
some_is x y e = cc

pub none_some : {X G : Type 0} (y : X) → None ≡ Some y → G
none_some y e = cc

-- a place behind the first one
pub record Behind (o : Option ℕ) (at : ℕ) : Type 0 where
  pub rest : ℕ
  pub is : at ≡ suc rest
  pub here : o ≡ Some rest

behind : (o : Option ℕ) (at : ℕ) → option_map (λ n. suc n) o ≡ Some at → Behind o at
behind None at e = none_some at e
behind (Some n) at e = record { rest = n; is = sym (some_is (suc n) at e); here = refl }

none_behind : (o : Option ℕ) → option_map (λ n. suc n) o ≡ None → o ≡ None
none_behind None e = refl
none_behind (Some n) e = cc

-- ---- by their names

pub dms_none : (number : ℕ) (names : List Target) → seek (is_rowset number) names ≡ None → dms_in number names ≡ None
dms_none number [] e = refl
dms_none number (Mem n ∷ names) e = dms_none number names (none_behind (seek (is_rowset number) names) e)
dms_none number (Delta r dms ∷ names) e = by (r == number) e (λ f. dms_none number names f)
  where
    by : (b : Bool) → cond b (Some 0) (option_map (λ n. suc n) (seek (is_rowset number) names)) ≡ None → (seek (is_rowset number) names ≡ None → dms_in number names ≡ None) → cond b (Some dms) (dms_in number names) ≡ None
    by true f more = cc
    by false f more = more (none_behind (seek (is_rowset number) names) f)

-- the rowset at a place is the first of the number
pub record IsFirst (number at : ℕ) (names : List Target) : Type 0 where
  pub dms : ℕ
  pub named : slice_get names at ≡ Some (Delta number dms)
  pub first : dms_in number names ≡ Some dms
  pub next : (n : ℕ) → on_nth at (taken_by n) names ≡ on_nth at (λ t. Delta number n) names
  pub later : next_dms number names ≡ on_nth at (taken_by (dms + 1)) names
  pub store : (stores : List Store) (store : Store) → slice_get stores at ≡ Some store → store_in_names number names stores ≡ store

pub is_first : (number : ℕ) (names : List Target) (at : ℕ) → seek (is_rowset number) names ≡ Some at → IsFirst number at names
is_first number [] at e = none_some at e
is_first number (Mem n ∷ names) at e =
    let b = behind (seek (is_rowset number) names) at e in
    let more = is_first number names b.rest b.here in
    subst (λ at. IsFirst number at (Mem n ∷ names)) (sym b.is) (record {
      dms = more.dms;
      named = more.named;
      first = more.first;
      next = λ k. ap (λ ts. Mem n ∷ ts) (more.next k);
      later = ap (λ ts. Mem n ∷ ts) more.later;
      store = λ stores store is. stored stores store b.rest names more is;
    })
  where
    stored : (stores : List Store) (store : Store) (rest : ℕ) (names : List Target) → IsFirst number rest names → slice_get stores (suc rest) ≡ Some store → store_in_names number (Mem n ∷ names) stores ≡ store
    stored [] store rest names more is = none_some store is
    stored (s ∷ stores) store rest names more is = more.store stores store is
is_first number (Delta r dms ∷ names) at e = by (r == number) refl e (λ rest f. is_first number names rest f)
  where
    left : (stores : List Store) (store : Store) (rest : ℕ) → (r == number) ≡ false → IsFirst number rest names → slice_get stores (suc rest) ≡ Some store → store_in_names number (Delta r dms ∷ names) stores ≡ store
    left [] store rest other more is = none_some store is
    left (s ∷ stores) store rest other more is = ap (λ b. cond b s (store_in_names number names stores)) other ∙ more.store stores store is

    own : (stores : List Store) (store : Store) → (r == number) ≡ true → slice_get stores 0 ≡ Some store → store_in_names number (Delta r dms ∷ names) stores ≡ store
    own [] store same is = none_some store is
    own (s ∷ stores) store same is = ap (λ b. cond b s (store_in_names number names stores)) same ∙ some_is s store is

    by : (b : Bool) → (r == number) ≡ b → cond b (Some 0) (option_map (λ n. suc n) (seek (is_rowset number) names)) ≡ Some at → ((rest : ℕ) → seek (is_rowset number) names ≡ Some rest → IsFirst number rest names) → IsFirst number at (Delta r dms ∷ names)
    by true same f more =
        let is : r ≡ number = eqb-true r number same in
        subst (λ at. IsFirst number at (Delta r dms ∷ names)) (some_is 0 at f) (record {
          dms = dms;
          named = ap (λ r. Some (Delta r dms)) is;
          first = ap (λ b. cond b (Some dms) (dms_in number names)) same;
          next = λ k. ap (λ r. Delta r k ∷ names) is;
          later = ap (λ b. cond b (Delta r (dms + 1) ∷ names) (Delta r dms ∷ next_dms number names)) same;
          store = λ stores store here. own stores store same here;
        })
    by false other f more =
        let b = behind (seek (is_rowset number) names) at f in
        let rest = more b.rest b.here in
        subst (λ at. IsFirst number at (Delta r dms ∷ names)) (sym b.is) (record {
          dms = rest.dms;
          named = rest.named;
          first = ap (λ b. cond b (Some dms) (dms_in number names)) other ∙ rest.first;
          next = λ k. ap (λ ts. Delta r dms ∷ ts) (rest.next k);
          later = ap (λ b. cond b (Delta r (dms + 1) ∷ names) (Delta r dms ∷ next_dms number names)) other ∙ ap (λ ts. Delta r dms ∷ ts) rest.later;
          store = λ stores store is. left stores store b.rest other rest is;
        })

-- ---- by the stores

pub placed : (number : ℕ) (shelf : List Shelved) → position (λ (s : Shelved). is_rowset number s.name) shelf ≡ seek (is_rowset number) (names_of shelf)
placed number shelf = position_is (λ (s : Shelved). is_rowset number s.name) shelf ∙ sym (seek-map (is_rowset number) (λ (s : Shelved). s.name) shelf)

pub first_placed : (number : ℕ) (shelf : List Shelved) (at : ℕ) → Some at ≡ position (λ (s : Shelved). is_rowset number s.name) shelf → IsFirst number at (names_of shelf)
first_placed number shelf at e = is_first number (names_of shelf) at (sym (placed number shelf) ∙ sym e)

pub none_placed : (number : ℕ) (shelf : List Shelved) → None ≡ position (λ (s : Shelved). is_rowset number s.name) shelf → dms_in number (names_of shelf) ≡ None
none_placed number shelf e = dms_none number (names_of shelf) (sym (placed number shelf) ∙ sym e)

pub names_renamed : (n at : ℕ) (shelf : List Shelved) → names_of (on_nth at (renamed n) shelf) ≡ on_nth at (taken_by n) (names_of shelf)
names_renamed n at [] = refl
names_renamed n zero (s ∷ shelf) = refl
names_renamed n (suc at) (s ∷ shelf) = ap (λ ts. s.name ∷ ts) (names_renamed n at shelf)

pub stores_renamed : (n at : ℕ) (shelf : List Shelved) → map (λ (s : Shelved). s.store) (on_nth at (renamed n) shelf) ≡ map (λ (s : Shelved). s.store) shelf
stores_renamed n at [] = refl
stores_renamed n zero (s ∷ shelf) = refl
stores_renamed n (suc at) (s ∷ shelf) = ap (λ ss. s.store ∷ ss) (stores_renamed n at shelf)

-- a disk rowset is told as it is
pub told_at : (fill : Row) (memory at : ℕ) (stores : List Store) (store : Store) → memory ≤ at → slice_get stores at ≡ Some store → slice_get (all_told fill memory stores) at ≡ Some store
told_at fill memory at [] store low is = none_some store is
told_at fill zero zero (s ∷ stores) store low is = is
told_at fill (suc memory) zero (s ∷ stores) store low is = absurd (omega (arith, low))
told_at fill zero (suc at) (s ∷ stores) store low is = told_at fill (0 - 1) at stores store (omega arith) is
told_at fill (suc memory) (suc at) (s ∷ stores) store low is = told_at fill (suc memory - 1) at stores store (omega (arith, low)) is

pub told_back : (fill : Row) (memory at : ℕ) (stores : List Store) (store : Store) → memory ≤ at → slice_get (all_told fill memory stores) at ≡ Some store → slice_get stores at ≡ Some store
told_back fill memory at [] store low is = none_some store is
told_back fill zero zero (s ∷ stores) store low is = is
told_back fill (suc memory) zero (s ∷ stores) store low is = absurd (omega (arith, low))
told_back fill zero (suc at) (s ∷ stores) store low is = told_back fill (0 - 1) at stores store (omega arith) is
told_back fill (suc memory) (suc at) (s ∷ stores) store low is = told_back fill (suc memory - 1) at stores store (omega (arith, low)) is

pub name_is : (at : ℕ) (shelf : List Shelved) (t : Target) → slice_get (names_of shelf) at ≡ Some t → option_map (λ (s : Shelved). s.name) (slice_get shelf at) ≡ Some t
name_is at [] t is = is
name_is zero (s ∷ shelf) t is = is
name_is (suc at) (s ∷ shelf) t is = name_is at shelf t is

-- ---- as a tablet is seen

pub has_put : {C : Type 0} (view old : View C) (stores : List Store) (names : List Target) (pool : Contents) (frozen : ℕ) (files : List HeldFiles) (h : HeldFiles) → view ≡ old → stores ≡ view.core.stores → names ≡ view.names → frozen ≡ view.frozen
    → files ≡ with_files h view.files
    → record view { core = record view.core { stores = stores }; names = names; pool = pool; frozen = frozen; files = files } ≡ record old { pool = pool; files = with_files h old.files }
has_put view old stores names pool frozen files h e s n f fs =
    subst (λ v. record view { core = record view.core { stores = stores }; names = names; pool = pool; frozen = frozen; files = files } ≡ record v { pool = pool; files = with_files h v.files }) e
    (λ k. record view { core = record view.core { stores = s k }; names = n k; pool = pool; frozen = f k; files = fs k })

pub has_renamed : {C : Type 0} (view old : View C) (stores : List Store) (names : List Target) (pool : Contents) (frozen : ℕ) (files : List HeldFiles) (number : ℕ) → view ≡ old → stores ≡ view.core.stores → names ≡ next_dms number view.names → pool ≡ view.pool
    → frozen ≡ view.frozen → files ≡ view.files
    → record view { core = record view.core { stores = stores }; names = names; pool = pool; frozen = frozen; files = files } ≡ record old { names = next_dms number old.names }
has_renamed view old stores names pool frozen files number e s n p f fs =
    subst (λ v. record view { core = record view.core { stores = stores }; names = names; pool = pool; frozen = frozen; files = files } ≡ record v { names = next_dms number v.names }) e
    (λ k. record view { core = record view.core { stores = s k }; names = n k; pool = p k; frozen = f k; files = fs k })

-- ---- the files of a number

found_there : (number : ℕ) (files : List HeldFiles) (j : ℕ) → seek (λ (h : HeldFiles). h.number == number) files ≡ Some j → files_of number files ≡ slice_get files j
found_there number [] j e = absurd cc
found_there number (x ∷ files) j e = by (x.number == number) (seek (λ (h : HeldFiles). h.number == number) files) (found_there number files) j e
  where
    by : (b : Bool) (o : Option ℕ) → ((j : ℕ) → o ≡ Some j → files_of number files ≡ slice_get files j) → (j : ℕ) → cond b (Some 0) (option_map (λ n. suc n) o) ≡ Some j → cond b (Some x) (files_of number files) ≡ slice_get (x ∷ files) j
    by true o more zero e = refl
    by true o more (suc j) e = absurd cc
    by false None more j e = absurd cc
    by false (Some n) more zero e = absurd cc
    by false (Some n) more (suc j) e = more j (let same : n ≡ j = cc in ap (λ (k : ℕ). Some k) same)

put_there : (h : HeldFiles) (files : List HeldFiles) (j : ℕ) → seek (λ (x : HeldFiles). x.number == h.number) files ≡ Some j → with_files h files ≡ on_nth j (λ _. h) files
put_there h [] j e = refl
put_there h (x ∷ files) j e = by (x.number == h.number) (seek (λ (x : HeldFiles). x.number == h.number) files) (put_there h files) j e
  where
    by : (b : Bool) (o : Option ℕ) → ((j : ℕ) → o ≡ Some j → with_files h files ≡ on_nth j (λ _. h) files) → (j : ℕ) → cond b (Some 0) (option_map (λ n. suc n) o) ≡ Some j → cond b (h ∷ files) (x ∷ with_files h files) ≡ on_nth j (λ _. h) (x ∷ files)
    by true o more zero e = refl
    by true o more (suc j) e = absurd cc
    by false None more j e = absurd cc
    by false (Some n) more zero e = absurd cc
    by false (Some n) more (suc j) e = ap (λ fs. x ∷ fs) (more j (let same : n ≡ j = cc in ap (λ (k : ℕ). Some k) same))

pub filed_at : (number : ℕ) (files : List HeldFiles) (j : ℕ) → position (λ (h : HeldFiles). h.number == number) files ≡ Some j → files_of number files ≡ slice_get files j
filed_at number files j e = found_there number files j (sym (position_is (λ (h : HeldFiles). h.number == number) files) ∙ e)

pub filed_put : (h : HeldFiles) (files : List HeldFiles) (j : ℕ) → position (λ (x : HeldFiles). x.number == h.number) files ≡ Some j → with_files h files ≡ on_nth j (λ _. h) files
filed_put h files j e = put_there h files j (sym (position_is (λ (x : HeldFiles). x.number == h.number) files) ∙ e)

got_there : (t : HeldFiles → Bool) (files : List HeldFiles) (j : ℕ) → seek t files ≡ Some j → (h : HeldFiles) × (slice_get files j ≡ Some h)
got_there t [] j e = none_some j e
got_there t (x ∷ files) j e = by (t x) (seek t files) (got_there t files) j e
  where
    by : (b : Bool) (o : Option ℕ) → ((j : ℕ) → o ≡ Some j → (h : HeldFiles) × (slice_get files j ≡ Some h)) → (j : ℕ) → cond b (Some 0) (option_map (λ n. suc n) o) ≡ Some j → (h : HeldFiles) × (slice_get (x ∷ files) j ≡ Some h)
    by true o more zero e = (x, refl)
    by true o more (suc j) e = absurd cc
    by false None more j e = absurd cc
    by false (Some n) more zero e = absurd cc
    by false (Some n) more (suc j) e = more j (let same : n ≡ j = cc in ap (λ (k : ℕ). Some k) same)

pub filed_there : (number : ℕ) (files : List HeldFiles) (j : ℕ) → position (λ (h : HeldFiles). h.number == number) files ≡ Some j → (h : HeldFiles) × (slice_get files j ≡ Some h)
filed_there number files j e = got_there (λ (h : HeldFiles). h.number == number) files j (sym (position_is (λ (h : HeldFiles). h.number == number) files) ∙ e)
