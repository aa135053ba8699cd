-- NAME=LIT in any order: what is read of a column is what stands behind its name.
use Rattle.std.proofs.Common.{◌≡◌, ℕ, ◌<◌, ◌≤◌, Bool, true, false, not, cond, ◌&&◌, ◌||◌, List, [], ◌∷◌, ◌++◌, length, map, drop, Option, Some, None, refl, sym, ap, subst, ◌∙◌, arith, append_assoc, length-append}
use mathlib.Core.List.{append-nil}
use Rattle.std.specs.Prelude.{if◌then◌else◌, ◌==◌, is_some}
use Rattle.std.specs.List.{list_any, list_all, flat_map, AllByRecursion}
use Rattle.std.specs.Ordering.{nat_cmp}
use Rattle.std.specs.FinMap.Entries.{find}
use Rattle.std.proofs.lemmas.Bool.{false≢true, eqb-true}
use Rattle.std.proofs.lemmas.List.{map-append}
use Rattle.std.proofs.lemmas.List.Elements.{filter-append}
use Rattle.kt_base.specs.declared.cell.Cell.{Cell}
use Rattle.kt_base.specs.Literals.{same, literal}
use Rattle.kt_base.proofs.Decimals.{same_text}
use Rattle.kt_base.proofs.Values.{both_true}
use Rattle.kt_schema.specs.Names.{is_name}
use Rattle.kt_schema.specs.declared.column.Column.{Column}
use Rattle.kt_script.specs.Reasons.{sound, reason_if, cell_no, cell_value}
use Rattle.kt_script.specs.Writes.{name_in, behind_name, column_named, under_no, given_no, named_no, all_named_no, must_be_named, is_empty, with_named, all_named}
use Rattle.kt_script.specs.Fit.{is_given}
use Rattle.kt_script.specs.Print.{cell_word, cell_words}
use Rattle.kt_script.specs.Alike.{of_name, renamed}
use Rattle.kt_script.proofs.InLine.{join}
use Rattle.kt_script.proofs.PrintedWords.{name_is as named_is}
use Rattle.kt_script.proofs.PrintedCells.{cell_ok}
use Rattle.kt_script.proofs.PrintedTables.{same_self, names_differ, IsNamed, Apart, Rising, all_named_in}
use Rattle.kt_script.proofs.PrintedNames.{name_before, behind_sign, sign_plain}
use Rattle.kt_script.proofs.Among.{found_has}
use Rattle.kt_script.proofs.ScanFit.{name_is}
use Rattle.kt_script.proofs.WordForms.{Form}
use Rattle.kt_script.proofs.FormLaws.{Plain, Lawful, all_of, zip_all}
use Rattle.kt_script.proofs.Cells.{literal_again, cell_taken, name_behind}
use Rattle.kt_script.proofs.Packed.{packed, same_packed, none_packed, Taken, Packed, packed_find, set, put_packed, word_of, packed_words}
use Rattle.kt_script.proofs.ByName.{has, in_name, named_there, Owned, of_column, owned_words, of_both, renamed_permutes, permuted_each}

-- named cells by rising id
abbrev pub named : List Column → Form (List (ℕ × Cell))
named others = record { no = all_named_no others []; value = all_named others []; words = cell_words true others; keeps = Packed others; alike = renamed }

-- ---- one word

abbrev lit : List ℕ → List ℕ
lit w = drop 1 (behind_name w)

-- the column of a word that is taken
record Says (others : List Column) (w : List ℕ) : Type 0 where
  column : Column
  found : column_named others (name_in w) ≡ Some column
  taken : 17 < cell_no column (lit w)
  sign : behind_name w ≡ 61 ∷ lit w
  good : is_name (name_in w) ≡ true

says : (others : List Column) (w : List ℕ) → sound ≤ named_no others w → Says others w
says others w h = by (behind_name w) refl h
  where
    of : (b : ℕ) (text : List ℕ) → behind_name w ≡ b ∷ text → b ≡ 61 → is_name (name_in w) ≡ true → (o : Option Column) → column_named others (name_in w) ≡ o → sound ≤ under_no o text → Says others w
    of b text is sign good None e g = absurd (omega arith)
    of b text is sign good (Some c) e g =
        let same_lit : lit w ≡ text = ap (drop 1) is in
        record { column = c; found = e; taken = subst (λ x. 17 < cell_no c x) (sym same_lit) (omega (arith, g)); sign = is ∙ (ap (λ x. x ∷ text) sign ∙ ap (λ x. 61 ∷ x) (sym same_lit)); good = good }

    by : (behind : List ℕ) → behind_name w ≡ behind → sound ≤ given_no others (name_in w) behind → Says others w
    by [] is g = absurd (omega arith)
    by (b ∷ text) is g = if_good (is_name (name_in w) && (b == 61)) refl g
      where
        if_good : (t : Bool) → (is_name (name_in w) && (b == 61)) ≡ t → sound ≤ (if t then under_no (column_named others (name_in w)) text else 12) → Says others w
        if_good true t k = let two = both_true (is_name (name_in w)) (b == 61) t in of b text is (eqb-true b 61 two.1) two.0 (column_named others (name_in w)) refl k
        if_good false t k = absurd (omega arith)

just : {A : Type 0} (x y : A) → Some x ≡ Some y → x ≡ y
just x y g = cc

-- the last cell that words of a column say
abbrev last_cell : Column → List (List ℕ) → Option Cell → Option Cell
last_cell d [] o = o
last_cell d (w ∷ ws) o = last_cell d ws (Some (cell_value d.kind (lit w)))

-- the cell of each column that words say
abbrev said : List (List ℕ) → (Column → Option Cell) → Column → Option Cell
said ws g d = last_cell d (of_name d.name ws) (g d)

module _ (others : List Column) (rising : Rising others) (apart : Apart others) where
  abbrev Fine : List ℕ → Type 0
  Fine w = sound ≤ named_no others w

  known : AllByRecursion (IsNamed others) others
  known = all_named_in others apart

  -- a word is the one that is printed of its cell
  one_word : (d : Column) → IsNamed others d → (w : List ℕ) → Fine w → has d.name w ≡ true → (cell_word true d (cell_value d.kind (lit w)) ≡ w) × Taken d (Some (cell_value d.kind (lit w)))
  one_word d known w h e =
      let s = says others w h in
      let name : d.name ≡ name_in w = same_text d.name (name_in w) e in
      let taken = subst (λ (c : Column). 17 < cell_no c (lit w)) (just s.column d (sym s.found ∙ (ap (column_named others) (sym name) ∙ known))) s.taken in
      let fit = cell_taken d (lit w) taken in (
        ap (λ x. d.name ++ 61 ∷ x) (sym (literal_again d (lit w) taken)) ∙ (ap (λ n. n ++ 61 ∷ lit w) name ∙ (ap (λ b. name_in w ++ b) (sym s.sign) ∙ sym (name_behind w))),
        (fit.0, fit.1, ap is_name name ∙ s.good),
      )

  -- words put each column's last cell among the cells
  all_packed : (ws : List (List ℕ)) (g : Column → Option Cell) → AllByRecursion Fine ws → all_named others (packed g others) ws ≡ packed (said ws g) others
  all_packed [] g fine = refl
  all_packed (w ∷ ws) g fine =
      let s = says others w fine.0 in
      let v : Cell = cell_value s.column.kind (lit w) in
      let now : Column → Option Cell = set s.column.name v g in
      ap (λ o. all_named others (with_named o (lit w) (packed g others)) ws) s.found
      ∙ (ap (λ cells. all_named others cells ws) (put_packed others s.column v g rising apart (found_has others (name_in w) s.column s.found))
      ∙ (all_packed ws now fine.1 ∙ same_packed (said ws now) (said (w ∷ ws) g) others (all_of (IsNamed others) (λ d. said ws now d ≡ said (w ∷ ws) g d) others (λ d named. by d named (has d.name w) refl) known)))
    where
      by : (d : Column) → IsNamed others d → (t : Bool) → has d.name w ≡ t → said ws (set (says others w fine.0).column.name (cell_value (says others w fine.0).column.kind (lit w)) g) d ≡ last_cell d (cond t (w ∷ of_name d.name ws) (of_name d.name ws)) (g d)
      by d named t e =
          let s = says others w fine.0 in
          let name : s.column.name ≡ name_in w = name_is others (name_in w) s.column s.found in
          ap (λ n. last_cell d (of_name d.name ws) (if same d.name n then Some (cell_value s.column.kind (lit w)) else g d)) name ∙ (ap (λ b. last_cell d (of_name d.name ws) (if b then Some (cell_value s.column.kind (lit w)) else g d)) e ∙ at s t e)
        where
          at : (s : Says others w) (b : Bool) → has d.name w ≡ b → last_cell d (of_name d.name ws) (if b then Some (cell_value s.column.kind (lit w)) else g d) ≡ last_cell d (cond b (w ∷ of_name d.name ws) (of_name d.name ws)) (g d)
          at s true q = ap (λ (c : Column). last_cell d (of_name d.name ws) (Some (cell_value c.kind (lit w)))) (just s.column d (sym s.found ∙ (ap (column_named others) (sym (same_text d.name (name_in w) q)) ∙ named)))
          at s false q = refl

  pub all_said : (ws : List (List ℕ)) → AllByRecursion Fine ws → all_named others [] ws ≡ packed (said ws (λ d. None)) others
  all_said ws fine = ap (λ cells. all_named others cells ws) (sym (none_packed others)) ∙ all_packed ws (λ d. None) fine

  -- ---- no name stands twice

  abbrev Few : List (List ℕ) → Type 0
  Few ws = (n : List ℕ) → length (of_name n ws) ≤ 1

  unseen : (n : List ℕ) (done : List (List ℕ)) → list_any (λ m. same m n) (map name_in done) ≡ false → of_name n done ≡ []
  unseen n done h = by (of_name n done) (sym (named_there n done) ∙ h)
    where
      by : (xs : List (List ℕ)) → not (is_empty xs) ≡ false → xs ≡ []
      by [] e = refl
      by (x ∷ xs) e = absurd (false≢true (sym e))

  free : (t : Bool) → sound ≤ reason_if t 13 → t ≡ false
  free true h = absurd (omega arith)
  free false h = refl

  one_more : (done : List (List ℕ)) (w : List ℕ) → Few done → of_name (name_in w) done ≡ [] → Few (done ++ w ∷ [])
  one_more done w few none n = subst (λ xs. length xs ≤ 1) (sym (filter-append (has n) done (w ∷ []))) (by (has n w) refl)
    where
      by : (t : Bool) → has n w ≡ t → length (of_name n done ++ cond t (w ∷ []) []) ≤ 1
      by true e = subst (λ xs. length (xs ++ w ∷ []) ≤ 1) (sym (ap (λ m. of_name m done) (same_text n (name_in w) e) ∙ none)) (omega arith)
      by false e = subst (λ xs. length xs ≤ 1) (sym (append-nil (of_name n done))) (few n)

  once_of : (done ws : List (List ℕ)) → Few done → sound ≤ all_named_no others (map name_in done) ws → AllByRecursion Fine ws × Few (done ++ ws)
  once_of done [] few h = (tt, subst Few (sym (append-nil done)) few)
  once_of done (w ∷ ws) few h =
      let none = unseen (name_in w) done (free (list_any (λ m. same m (name_in w)) (map name_in done)) (omega (arith, h))) in
      let more = once_of (done ++ w ∷ []) ws (one_more done w few none) (subst (λ seen. sound ≤ all_named_no others seen ws) (sym (map-append name_in done (w ∷ []))) (omega (arith, h))) in
      ((omega (arith, h), more.0), subst Few (append_assoc done (w ∷ []) ws) more.1)

  no_of : (done ws : List (List ℕ)) → AllByRecursion Fine ws → Few (done ++ ws) → sound ≤ all_named_no others (map name_in done) ws
  no_of done [] fine few = omega arith
  no_of done (w ∷ ws) fine few =
      let here = fine.0 in
      let clear : list_any (λ m. same m (name_in w)) (map name_in done) ≡ false = named_there (name_in w) done ∙ ap (λ xs. not (is_empty xs)) (none (of_name (name_in w) done) (subst (λ xs. length xs ≤ 1) (filter-append (has (name_in w)) done (w ∷ ws)) (few (name_in w)))) in
      let first : reason_if (list_any (λ m. same m (name_in w)) (map name_in done)) 13 ≡ sound = ap (λ t. reason_if t 13) clear in
      let more = subst (λ seen. sound ≤ all_named_no others seen ws) (map-append name_in done (w ∷ [])) (no_of (done ++ w ∷ []) ws fine.1 (subst Few (sym (append_assoc done (w ∷ []) ws)) few)) in
      omega (arith, here, first, more)
    where
      none : (xs : List (List ℕ)) → length (xs ++ cond (has (name_in w) w) (w ∷ of_name (name_in w) ws) (of_name (name_in w) ws)) ≤ 1 → xs ≡ []
      none [] g = refl
      none (x ∷ xs) g =
          let own : length (xs ++ w ∷ of_name (name_in w) ws) ≤ 0 = subst (λ t. length (xs ++ cond t (w ∷ of_name (name_in w) ws) (of_name (name_in w) ws)) ≤ 0) (same_self (name_in w)) (omega (arith, g)) in
          let sum = length-append xs (w ∷ of_name (name_in w) ws) in
          absurd (omega (arith, own, sum))

  pub fine_of : (ws : List (List ℕ)) → sound ≤ all_named_no others [] ws → AllByRecursion Fine ws × Few ws
  fine_of ws h = once_of [] ws (λ n. omega arith) h

  -- ---- the form

  -- the words of a column are those of its cell
  own_words : (d : Column) → IsNamed others d → (xs : List (List ℕ)) → AllByRecursion (λ w. Fine w × (has d.name w ≡ true)) xs → length xs ≤ 1 → (word_of d (last_cell d xs None) ≡ xs) × Taken d (last_cell d xs None)
  own_words d named [] all few = (refl, tt)
  own_words d named (w ∷ []) all few = let one = one_word d named w all.0.0 all.0.1 in (ap (λ v. v ∷ []) one.0, one.1)
  own_words d named (w ∷ v ∷ xs) all few = absurd (omega (arith, few))

  named_said : (ws : List (List ℕ)) → sound ≤ (named others).no ws → Packed others (all_named others [] ws) × renamed ws (cell_words true others (all_named others [] ws))
  named_said ws h =
      let once = fine_of ws h in
      let g : Column → Option Cell = said ws (λ d. None) in
      let f : Column → List (List ℕ) = λ (c : Column). of_name c.name ws in
      let own : AllByRecursion (λ d. (word_of d (g d) ≡ f d) × Taken d (g d)) others = all_of (IsNamed others) (λ d. (word_of d (g d) ≡ f d) × Taken d (g d)) others (λ d k. own_words d k (of_name d.name ws) (in_name Fine d.name ws once.0) (once.1 d.name)) known in
      let is = all_said ws once.0 in
      let words : cell_words true others (all_named others [] ws) ≡ flat_map f others = ap (cell_words true others) is ∙ (packed_words g others rising ∙ alike others (λ d. word_of d (g d)) f (all_of (λ d. (word_of d (g d) ≡ f d) × Taken d (g d)) (λ d. word_of d (g d) ≡ f d) others (λ d o. o.0) own)) in (
        record { at = g; is = is; each = all_of (λ d. (word_of d (g d) ≡ f d) × Taken d (g d)) (λ d. Taken d (g d)) others (λ d o. o.1) own },
        λ n. column n (column_named others n) refl (in_name Fine n ws once.0) ∙ (sym (owned_words f n others apart (all_of (IsNamed others) (Owned f) others (λ d k m. of_both m d.name ws) known)) ∙ ap (of_name n) (sym words)),
      )
    where
      alike : (cs : List Column) (f g : Column → List (List ℕ)) → AllByRecursion (λ c. f c ≡ g c) cs → flat_map f cs ≡ flat_map g cs
      alike [] f g e = refl
      alike (c ∷ cs) f g e = ap (λ x. x ++ flat_map f cs) e.0 ∙ ap (λ x. g c ++ x) (alike cs f g e.1)

      none : (n : List ℕ) → column_named others n ≡ None → (vs : List (List ℕ)) → AllByRecursion (λ w. Fine w × (has n w ≡ true)) vs → vs ≡ []
      none n e [] all = refl
      none n e (w ∷ vs) all =
          let s = says others w all.0.0 in
          let clash : None ≡ Some s.column = sym e ∙ (ap (column_named others) (same_text n (name_in w) all.0.1) ∙ s.found) in
          absurd cc

      column : (n : List ℕ) (o : Option Column) → column_named others n ≡ o → AllByRecursion (λ w. Fine w × (has n w ≡ true)) (of_name n ws) → of_name n ws ≡ of_column (λ (c : Column). of_name c.name ws) (column_named others n)
      column n (Some c) e all = ap (λ m. of_name m ws) (sym (name_is others n c e)) ∙ ap (of_column (λ (d : Column). of_name d.name ws)) (sym e)
      column n None e all = none n e (of_name n ws) all ∙ ap (of_column (λ (d : Column). of_name d.name ws)) (sym e)

  -- what is printed of a column's cell
  record Printed (c : Column) (o : Option Cell) : Type 0 where
    each : AllByRecursion (λ w. Fine w × Plain w) (word_of c o)
    owned : (n : List ℕ) → of_name n (word_of c o) ≡ (if same c.name n then word_of c o else [])
    last : last_cell c (word_of c o) None ≡ o

  printed : (c : Column) → IsNamed others c → (o : Option Cell) → Taken c o → Printed c o
  printed c known None t = record { each = tt; owned = λ n. none (same c.name n); last = refl }
    where
      none : (b : Bool) → ◌≡◌ {A = List (List ℕ)} [] (if b then [] else [])
      none true = refl
      none false = refl
  printed c known (Some x) t =
      let ok = cell_ok c x t.0 t.1 in
      let n = named_is c.name t.2 in
      let text : List ℕ = literal c.kind x in
      let w : List ℕ = c.name ++ 61 ∷ text in
      let name : name_in w ≡ c.name = name_before c.name 61 text n refl in
      let behind : behind_name w ≡ 61 ∷ text = behind_sign c.name 61 text n refl in
      let no : named_no others w ≡ sound = ap (λ m. given_no others m (behind_name w)) name ∙ (ap (given_no others c.name) behind ∙ (ap (λ b. if b && true then under_no (column_named others c.name) text else 12) t.2 ∙ (ap (λ o. under_no o text) known ∙ ok.taken))) in
      record {
        each = ((omega (arith, no), sign_plain c.name (61 ∷ []) text n (omega arith, tt) ok.plain), tt);
        owned = λ m. ap (λ k. cond (same m k) (w ∷ []) []) name ∙ by m (same m c.name) (same c.name m) refl refl w;
        last = ap (λ b. Some (cell_value c.kind (drop 1 b))) behind ∙ ap Some ok.value;
      }
    where
      by : (m : List ℕ) (a b : Bool) → same m c.name ≡ a → same c.name m ≡ b → (w : List ℕ) → cond a (w ∷ []) [] ≡ (if b then w ∷ [] else [])
      by m true true p q w = refl
      by m false false p q w = refl
      by m true false p q w = absurd (names_differ c.name m q (sym (same_text m c.name p)))
      by m false true p q w = absurd (names_differ m c.name p (sym (same_text c.name m q)))

  named_read : (cells : List (ℕ × Cell)) → Packed others cells → (sound ≤ (named others).no (cell_words true others cells)) × (all_named others [] (cell_words true others cells) ≡ cells) × AllByRecursion Plain (cell_words true others cells)
  named_read cells p =
      let f : Column → List (List ℕ) = λ c. word_of c (p.at c) in
      let ws : List (List ℕ) = flat_map f others in
      let each : AllByRecursion (λ c. IsNamed others c × Printed c (p.at c)) others = zip_all (IsNamed others) (λ c. Taken c (p.at c)) (λ c. IsNamed others c × Printed c (p.at c)) others (λ c k t. (k, printed c k (p.at c) t)) known p.each in
      let good = all_mapped (λ w. Fine w × Plain w) f others (all_of (λ c. IsNamed others c × Printed c (p.at c)) (λ c. AllByRecursion (λ w. Fine w × Plain w) (f c)) others (λ c e. e.1.each) each) in
      let own : (n : List ℕ) → of_name n ws ≡ of_column f (column_named others n) = λ n. owned_words f n others apart (all_of (λ c. IsNamed others c × Printed c (p.at c)) (Owned f) others (λ c e. e.1.owned) each) in
      let fine = all_of (λ w. Fine w × Plain w) Fine ws (λ w g. g.0) good in
      let value : all_named others [] ws ≡ cells = all_said ws fine ∙ (same_packed (said ws (λ d. None)) p.at others (all_of (λ c. IsNamed others c × Printed c (p.at c)) (λ c. said ws (λ d. None) c ≡ p.at c) others (λ c e. ap (λ us. last_cell c us None) (own c.name ∙ ap (of_column f) e.0) ∙ e.1.last) each) ∙ sym p.is) in
      let is : cell_words true others cells ≡ ws = ap (cell_words true others) p.is ∙ packed_words p.at others rising in
      subst (λ us. (sound ≤ all_named_no others [] us) × (all_named others [] us ≡ cells) × AllByRecursion Plain us) (sym is) (no_of [] ws fine (λ n. subst (λ us. length us ≤ 1) (sym (own n)) (short n (column_named others n))), value, all_of (λ w. Fine w × Plain w) Plain ws (λ w g. g.1) good)
    where
      all_mapped : (P : List ℕ → Type 0) (f : Column → List (List ℕ)) (cs : List Column) → AllByRecursion (λ c. AllByRecursion P (f c)) cs → AllByRecursion P (flat_map f cs)
      all_mapped P f [] h = tt
      all_mapped P f (c ∷ cs) h = join P (f c) (flat_map f cs) h.0 (all_mapped P f cs h.1)

      one : (c : Column) (o : Option Cell) → length (word_of c o) ≤ 1
      one c None = omega arith
      one c (Some x) = omega arith

      short : (n : List ℕ) (o : Option Column) → length (of_column (λ c. word_of c (p.at c)) o) ≤ 1
      short n None = omega arith
      short n (Some c) = one c (p.at c)

  named_moved : (ws vs : List (List ℕ)) → sound ≤ (named others).no ws → renamed ws vs → (sound ≤ (named others).no vs) × (all_named others [] vs ≡ all_named others [] ws)
  named_moved ws vs h e =
      let once = fine_of ws h in
      let fine = permuted_each Fine ws vs (renamed_permutes ws vs e) once.0 in (
        no_of [] vs fine (λ n. subst (λ us. length us ≤ 1) (e n) (once.1 n)),
        all_said vs fine ∙ (same_packed (said vs (λ d. None)) (said ws (λ d. None)) others (all_of (IsNamed others) (λ d. said vs (λ x. None) d ≡ said ws (λ x. None) d) others (λ d k. ap (λ us. last_cell d us None) (sym (e d.name))) known) ∙ sym (all_said ws once.0)),
      )

  pub named_law : Lawful (named others)
  named_law = record { said = named_said; read = named_read; moved = named_moved; self = λ ws n. refl; back = λ ws vs e n. sym (e n) }

  -- ---- columns that have to be named

  -- a column has a cell exactly where it is named
  pub given_named : (ws : List (List ℕ)) → sound ≤ (named others).no ws → list_all (is_given (all_named others [] ws)) others ≡ not (list_any (must_be_named (map name_in ws)) others)
  given_named ws h =
      let is = all_said ws (fine_of ws h).0 in
      all others (all_of (λ (c : Column). find nat_cmp c.id (packed (said ws (λ d. None)) others) ≡ said ws (λ d. None) c) (λ (c : Column). is_some (find nat_cmp c.id (all_named others [] ws)) ≡ list_any (λ n. same n c.name) (map name_in ws)) others
      (λ c e. ap is_some (ap (find nat_cmp c.id) is ∙ e) ∙ (some c (of_name c.name ws) ∙ sym (named_there c.name ws))) (packed_find (said ws (λ d. None)) others rising))
    where
      still : (c : Column) (us : List (List ℕ)) (x : Cell) → is_some (last_cell c us (Some x)) ≡ true
      still c [] x = refl
      still c (u ∷ us) x = still c us (cell_value c.kind (lit u))

      some : (c : Column) (us : List (List ℕ)) → is_some (last_cell c us None) ≡ not (is_empty us)
      some c [] = refl
      some c (u ∷ us) = still c us (cell_value c.kind (lit u))

      one : (a b f : Bool) (more given : Bool) → given ≡ not more → (((a || b) || f) && given) ≡ not (((not a && not b) && not f) || more)
      one true b f more given e = e
      one false true f more given e = e
      one false false true more given e = e
      one false false false more given e = refl

      all : (cs : List Column) → AllByRecursion (λ (c : Column). is_some (find nat_cmp c.id (all_named others [] ws)) ≡ list_any (λ n. same n c.name) (map name_in ws)) cs → list_all (is_given (all_named others [] ws)) cs ≡ not (list_any (must_be_named (map name_in ws)) cs)
      all [] e = refl
      all (c ∷ cs) e =
          ap (λ t. ((c.nullable || is_some c.default) || t) && list_all (is_given (all_named others [] ws)) cs) e.0
          ∙ one c.nullable (is_some c.default) (list_any (λ n. same n c.name) (map name_in ws)) (list_any (must_be_named (map name_in ws)) cs) (list_all (is_given (all_named others [] ws)) cs) (all cs e.1)
