-- Cells by their columns: each column has one, or none.
use Rattle.std.proofs.Common.{◌≡◌, ℕ, ◌<◌, Bool, true, false, ◌&&◌, cond, List, [], ◌∷◌, ◌++◌, Option, Some, None, inl, inr, refl, sym, ap, subst, ◌∙◌, arith}
use Rattle.std.specs.Prelude.{if◌then◌else◌, ◌==◌}
use Rattle.std.specs.List.{flat_map, AllByRecursion}
use Rattle.std.specs.Ordering.{nat_cmp, eq_by_cmp, is_eq}
use Rattle.std.specs.declared.cmp.Ordering.TheVariants.{Less, Equal, Greater}
use Rattle.std.specs.Cmp.{nat_cmp_is}
use Rattle.std.specs.FinMap.Entries.{put, find, by_order}
use Rattle.std.proofs.lemmas.Bool.{false≢true, cases_lt, eqb-true}
use Rattle.kt_base.specs.declared.cell.Cell.{Cell}
use Rattle.kt_base.specs.Literals.{same, CellBytes}
use Rattle.kt_base.proofs.Values.{both, both_true}
use Rattle.kt_key.proofs.Numbers.{nat_cmp-by}
use Rattle.kt_schema.specs.Names.{is_name}
use Rattle.kt_schema.specs.declared.column.Column.{Column}
use Rattle.kt_script.specs.Fit.{fits_column, is_part}
use Rattle.kt_script.specs.Print.{cell_word, cell_words}
use Rattle.kt_script.proofs.Among.{same_id, other_id, Has, each}
use Rattle.kt_script.proofs.PrintedTables.{same_self, turned, Other, Apart, Above, Rising}
use Rattle.kt_script.proofs.FormLaws.{all_of, zip_all}

-- a cell, if there is one, before others
abbrev pub onto : ℕ → Option Cell → List (ℕ × Cell) → List (ℕ × Cell)
onto id None cells = cells
onto id (Some x) cells = (id, x) ∷ cells

-- the cells that columns have
abbrev pub packed : (Column → Option Cell) → List Column → List (ℕ × Cell)
packed g [] = []
packed g (c ∷ cs) = onto c.id (g c) (packed g cs)

pub same_packed : (g h : Column → Option Cell) (cs : List Column) → AllByRecursion (λ (c : Column). g c ≡ h c) cs → packed g cs ≡ packed h cs
same_packed g h [] e = refl
same_packed g h (c ∷ cs) e = ap (λ o. onto c.id o (packed g cs)) e.0 ∙ ap (onto c.id (h c)) (same_packed g h cs e.1)

pub none_packed : (cs : List Column) → packed (λ c. None) cs ≡ []
none_packed [] = refl
none_packed (c ∷ cs) = none_packed cs

-- a cell that its column takes, under a name that can be written
abbrev pub Taken : Column → Option Cell → Type 0
Taken c None = Unit {0}
Taken c (Some x) = (fits_column c x ≡ true) × CellBytes x × (is_name c.name ≡ true)

-- cells that the columns have, each of which takes its own
pub record Packed (cs : List Column) (cells : List (ℕ × Cell)) : Type 0 where
  pub at : Column → Option Cell
  pub is : cells ≡ packed at cs
  pub each : AllByRecursion (λ c. Taken c (at c)) cs

-- ---- ids rise

-- the first of these cells, if there is one, has a greater id
abbrev Behind : ℕ → List (ℕ × Cell) → Type 0
Behind k [] = Unit {0}
Behind k (x ∷ cells) = k < x.0

packed_behind : (k : ℕ) (g : Column → Option Cell) (cs : List Column) → AllByRecursion (λ (c : Column). k < c.id) cs → Behind k (packed g cs)
packed_behind k g [] h = tt
packed_behind k g (c ∷ cs) h = by (g c) (packed_behind k g cs h.1)
  where
    by : (o : Option Cell) → Behind k (packed g cs) → Behind k (onto c.id o (packed g cs))
    by None more = more
    by (Some x) more = h.0

pub no_part : (cs : List Column) → is_part cs [] ≡ true
no_part [] = refl
no_part (c ∷ cs) = refl

pub no_words : (named : Bool) (cs : List Column) → cell_words named cs [] ≡ []
no_words named [] = refl
no_words named (c ∷ cs) = refl

part_behind : (c : Column) (cs : List Column) (cells : List (ℕ × Cell)) → Behind c.id cells → is_part (c ∷ cs) cells ≡ is_part cs cells
part_behind c cs [] h = sym (no_part cs)
part_behind c cs (x ∷ cells) h = ap (λ t. if t then fits_column c x.1 && is_part cs cells else is_part cs (x ∷ cells)) (other_id c.id x.0 h)

words_behind : (c : Column) (cs : List Column) (cells : List (ℕ × Cell)) → Behind c.id cells → cell_words true (c ∷ cs) cells ≡ cell_words true cs cells
words_behind c cs [] h = sym (no_words true cs)
words_behind c cs (x ∷ cells) h = ap (λ t. if t then cell_word true c x.1 ∷ cell_words true cs cells else cell_words true cs (x ∷ cells)) (other_id c.id x.0 h)

-- ---- what a column has is some of the columns' cells, and the other way round

pub packed_part : (g : Column → Option Cell) (cs : List Column) → Rising cs → AllByRecursion (λ c. Taken c (g c)) cs → is_part cs (packed g cs) ≡ true
packed_part g [] r h = refl
packed_part g (c ∷ cs) r h = by (g c) h.0 (packed_part g cs r.1 h.1)
  where
    by : (o : Option Cell) → Taken c o → is_part cs (packed g cs) ≡ true → is_part (c ∷ cs) (onto c.id o (packed g cs)) ≡ true
    by None t more = part_behind c cs (packed g cs) (packed_behind c.id g cs r.0) ∙ more
    by (Some x) t more = ap (λ b. if b then fits_column c x && is_part cs (packed g cs) else is_part cs ((c.id, x) ∷ packed g cs)) (same_id c.id) ∙ both _ _ t.0 more

-- what the first column has, before the others
abbrev first : ℕ → Option Cell → (Column → Option Cell) → Column → Option Cell
first id o g d = if id == d.id then o else g d

behind_first : (c : Column) (o : Option Cell) (g : Column → Option Cell) (cs : List Column) → AllByRecursion (Above c) cs → Taken c o → AllByRecursion (λ d. Taken d (g d)) cs
    → (onto c.id o (packed g cs) ≡ packed (first c.id o g) (c ∷ cs)) × AllByRecursion (λ d. Taken d (first c.id o g d)) (c ∷ cs)
behind_first c o g cs above t all =
    let others : AllByRecursion (λ (d : Column). g d ≡ first c.id o g d) cs = all_of (Above c) (λ (d : Column). g d ≡ first c.id o g d) cs (λ d lt. ap (λ b. if b then o else g d) (sym (other_id c.id d.id lt))) above in (
      ap (onto c.id o) (same_packed g (first c.id o g) cs others) ∙ ap (λ b. onto c.id (if b then o else g c) (packed (first c.id o g) cs)) (sym (same_id c.id)),
      (subst (λ b. Taken c (if b then o else g c)) (sym (same_id c.id)) t, zip_all (λ (d : Column). g d ≡ first c.id o g d) (λ d. Taken d (g d)) (λ d. Taken d (first c.id o g d)) cs (λ d e u. subst (Taken d) e u) others all),
    )

pub part_packed : (cs : List Column) (cells : List (ℕ × Cell)) → Rising cs → AllByRecursion (λ (c : Column). is_name c.name ≡ true) cs → is_part cs cells ≡ true → AllByRecursion (λ (x : ℕ × Cell). CellBytes x.1) cells → Packed cs cells
part_packed cs [] r names p bytes = record { at = λ c. None; is = sym (none_packed cs); each = all_none cs }
  where
    all_none : (ds : List Column) → AllByRecursion (λ (d : Column). Taken d None) ds
    all_none [] = tt
    all_none (d ∷ ds) = (tt, all_none ds)
part_packed [] (x ∷ cells) r names p bytes = absurd (false≢true p)
part_packed (c ∷ cs) (x ∷ cells) r names p bytes = by (c.id == x.0) refl p (λ q. part_packed cs cells r.1 names.1 q bytes.1) (λ q. part_packed cs (x ∷ cells) r.1 names.1 q bytes)
  where
    by : (t : Bool) → (c.id == x.0) ≡ t → (if t then fits_column c x.1 && is_part cs cells else is_part cs (x ∷ cells)) ≡ true → (is_part cs cells ≡ true → Packed cs cells) → (is_part cs (x ∷ cells) ≡ true → Packed cs (x ∷ cells)) → Packed (c ∷ cs) (x ∷ cells)
    by true e q here later =
        let parts = both_true (fits_column c x.1) (is_part cs cells) q in
        let more = here parts.1 in
        let with_it = behind_first c (Some x.1) more.at cs r.0 (parts.0, bytes.0, names.0) more.each in
        record { at = first c.id (Some x.1) more.at; is = ap (λ k. (k, x.1) ∷ cells) (sym (eqb-true c.id x.0 e)) ∙ (ap (λ xs. (c.id, x.1) ∷ xs) more.is ∙ with_it.0); each = with_it.1 }
    by false e q here later =
        let more = later q in
        let with_it = behind_first c None more.at cs r.0 tt more.each in
        record { at = first c.id None more.at; is = more.is ∙ with_it.0; each = with_it.1 }

-- ---- the cell of a column

tied : (q k : ℕ) → q ≡ k → eq_by_cmp nat_cmp q k ≡ true
tied q k e = ap is_eq (nat_cmp-by q k Equal (λ lt. absurd (omega arith)) (λ is. refl) (λ gt. absurd (omega arith)))

untied : (q k : ℕ) → (q ≡ k → ⊥) → eq_by_cmp nat_cmp q k ≡ false
untied q k other = elim (cases_lt q k) [
  | inl lt ↦ ap is_eq (nat_cmp-by q k Less (λ l. refl) (λ e. absurd (other e)) (λ g. absurd (omega arith)))
  | inr past ↦ ap is_eq (nat_cmp-by q k Greater (λ l. absurd (omega arith)) (λ e. absurd (other e)) (λ g. refl))
]

none_found : (k : ℕ) (g : Column → Option Cell) (cs : List Column) → AllByRecursion (λ (c : Column). k < c.id) cs → find nat_cmp k (packed g cs) ≡ None
none_found k g [] h = refl
none_found k g (c ∷ cs) h = by (g c) (none_found k g cs h.1)
  where
    by : (o : Option Cell) → find nat_cmp k (packed g cs) ≡ None → find nat_cmp k (onto c.id o (packed g cs)) ≡ None
    by None e = e
    by (Some x) e = let low = h.0 in ap (λ t. cond t (Some x) (find nat_cmp k (packed g cs))) (untied k c.id (λ q. omega arith)) ∙ e

pub packed_find : (g : Column → Option Cell) (cs : List Column) → Rising cs → AllByRecursion (λ (c : Column). find nat_cmp c.id (packed g cs) ≡ g c) cs
packed_find g [] r = tt
packed_find g (c ∷ cs) r = (own (g c), zip_all (Above c) (λ (d : Column). find nat_cmp d.id (packed g cs) ≡ g d) (λ (d : Column). find nat_cmp d.id (packed g (c ∷ cs)) ≡ g d) cs (λ d lt e. later d.id (g c) lt ∙ e) r.0 (packed_find g cs r.1))
  where
    own : (o : Option Cell) → find nat_cmp c.id (onto c.id o (packed g cs)) ≡ o
    own None = none_found c.id g cs r.0
    own (Some x) = ap (λ t. cond t (Some x) (find nat_cmp c.id (packed g cs))) (tied c.id c.id refl)

    later : (k : ℕ) (o : Option Cell) → c.id < k → find nat_cmp k (onto c.id o (packed g cs)) ≡ find nat_cmp k (packed g cs)
    later k None lt = refl
    later k (Some x) lt = ap (λ t. cond t (Some x) (find nat_cmp k (packed g cs))) (untied k c.id (λ q. omega arith))

-- what the columns have with the cell of one name more
abbrev pub set : List ℕ → Cell → (Column → Option Cell) → Column → Option Cell
set name v g d = if same d.name name then Some v else g d

pub put_packed : (cs : List Column) (c : Column) (v : Cell) (g : Column → Option Cell) → Rising cs → Apart cs → Has cs c → put nat_cmp c.id v (packed g cs) ≡ packed (set c.name v g) cs
put_packed [] c v g r a h = absurd h
put_packed (d ∷ cs) c v g r a (inl e) = subst (λ x. put nat_cmp x.id v (packed g (d ∷ cs)) ≡ packed (set x.name v g) (d ∷ cs)) e (
    here (g d)
    ∙ (ap (λ xs. (d.id, v) ∷ xs) (same_packed g (set d.name v g) cs (all_of (Other d) (λ (x : Column). g x ≡ set d.name v g x) cs (λ x o. ap (λ t. if t then Some v else g x) (sym (turned d.name x.name o))) a.0))
    ∙ ap (λ t. onto d.id (if t then Some v else g d) (packed (set d.name v g) cs)) (sym (same_self d.name)))
    )
  where
    front : (cells : List (ℕ × Cell)) → Behind d.id cells → put nat_cmp d.id v cells ≡ (d.id, v) ∷ cells
    front [] b = refl
    front (x ∷ cells) b = ap (λ o. by_order o ((d.id, v) ∷ x ∷ cells) ((x.0, v) ∷ cells) (x ∷ put nat_cmp d.id v cells)) (sym (nat_cmp_is d.id x.0 Less b))

    here : (o : Option Cell) → put nat_cmp d.id v (onto d.id o (packed g cs)) ≡ (d.id, v) ∷ packed g cs
    here None = front (packed g cs) (packed_behind d.id g cs r.0)
    here (Some x) = ap (λ o. by_order o ((d.id, v) ∷ (d.id, x) ∷ packed g cs) ((d.id, v) ∷ packed g cs) ((d.id, x) ∷ put nat_cmp d.id v (packed g cs))) (sym (nat_cmp_is d.id d.id Equal refl))
put_packed (d ∷ cs) c v g r a (inr h) = later (g d) (put_packed cs c v g r.1 a.1 h) ∙ ap (λ t. onto d.id (if t then Some v else g d) (packed (set c.name v g) cs)) (sym (each (Other d) cs c a.0 h))
  where
    later : (o : Option Cell) → put nat_cmp c.id v (packed g cs) ≡ packed (set c.name v g) cs → put nat_cmp c.id v (onto d.id o (packed g cs)) ≡ onto d.id o (packed (set c.name v g) cs)
    later None more = more
    later (Some x) more =
        let above = each (Above d) cs c r.0 h in
        ap (λ o. by_order o ((c.id, v) ∷ (d.id, x) ∷ packed g cs) ((d.id, v) ∷ packed g cs) ((d.id, x) ∷ put nat_cmp c.id v (packed g cs))) (sym (nat_cmp_is c.id d.id Greater above)) ∙ ap (λ xs. (d.id, x) ∷ xs) more

-- ---- the words

-- a cell's word, if there is one
abbrev pub word_of : Column → Option Cell → List (List ℕ)
word_of c None = []
word_of c (Some x) = cell_word true c x ∷ []

pub packed_words : (g : Column → Option Cell) (cs : List Column) → Rising cs → cell_words true cs (packed g cs) ≡ flat_map (λ c. word_of c (g c)) cs
packed_words g [] r = refl
packed_words g (c ∷ cs) r = by (g c) (packed_words g cs r.1)
  where
    by : (o : Option Cell) → cell_words true cs (packed g cs) ≡ flat_map (λ d. word_of d (g d)) cs → cell_words true (c ∷ cs) (onto c.id o (packed g cs)) ≡ word_of c o ++ flat_map (λ d. word_of d (g d)) cs
    by None more = words_behind c cs (packed g cs) (packed_behind c.id g cs r.0) ∙ more
    by (Some x) more = ap (λ t. if t then cell_word true c x ∷ cell_words true cs (packed g cs) else cell_words true cs ((c.id, x) ∷ packed g cs)) (same_id c.id) ∙ ap (λ ws. cell_word true c x ∷ ws) more
