-- The names that a scan selects, one after another.
use Rattle.std.proofs.Common.{◌≡◌, ℕ, ◌<◌, ◌≤◌, Bool, true, false, List, [], ◌∷◌, ◌++◌, map, ◌||◌, Option, Some, None, inl, inr, min, refl, sym, ap, ◌∙◌, arith, append_assoc}
use Rattle.std.specs.List.{filter_map, list_any}
use Rattle.std.specs.Option.{option_to_list}
use Rattle.std.proofs.lemmas.Bool.{cases_lt}
use Rattle.std.proofs.lemmas.List.Elements.{filter_map-append}
use Rattle.kt_base.specs.Literals.{same}
use Rattle.kt_schema.specs.declared.column.Column.{Column}
use Rattle.kt_script.specs.Reasons.{sound, reason_if}
use Rattle.kt_script.specs.Writes.{column_named, again_no}
use Rattle.kt_script.specs.Scans.{name_no, names_no, id_of, ids_of}

one_kept : (o : Option ℕ) → filter_map (λ (x : Option ℕ). x) (o ∷ []) ≡ option_to_list o
one_kept None = refl
one_kept (Some x) = refl

ids_more : (columns : List Column) (names : List (List ℕ)) (name : List ℕ) → ids_of columns (names ++ name ∷ []) ≡ ids_of columns names ++ option_to_list (id_of (column_named columns name))
ids_more columns names name =
    filter_map-append (λ n. id_of (column_named columns n)) names (name ∷ []) ∙ ap (λ xs. ids_of columns names ++ xs) (one_kept (id_of (column_named columns name)))

pub any_map : {A B : Type 0} (p : B → Bool) (f : A → B) (xs : List A) → list_any p (map f xs) ≡ list_any (λ x. p (f x)) xs
any_map p f [] = refl
any_map p f (x ∷ xs) = ap (λ b. p (f x) || b) (any_map p f xs)

pub again_high : (seen : List (List ℕ)) (name : List ℕ) → 13 ≤ again_no seen name
again_high seen name = by (list_any (λ n. same n name) seen)
  where
    by : (b : Bool) → 13 ≤ reason_if b 13
    by true = omega arith
    by false = omega arith

pub names_low : (columns : List Column) (seen names : List (List ℕ)) → names_no columns seen names ≤ sound
names_low columns seen [] = omega arith
names_low columns seen (name ∷ names) = let later = names_low columns (seen ++ name ∷ []) names in omega (arith, later)

-- the names so far, of all of them. What is kept counts only while no reason up to 13 holds
pub record Chosen (columns : List Column) (all rest : List (List ℕ)) (old now : ℕ) (seen : List (List ℕ)) (ids : List ℕ) : Type 0 where
  pub done : List (List ℕ)
  pub whole : all ≡ done ++ rest
  pub least : min old (names_no columns [] all) ≡ min now (names_no columns done rest)
  pub kept : 13 < now → seen ≡ done
  pub ids_kept : 13 < now → ids ≡ ids_of columns done
  pub low : now ≤ sound

pub none_chosen : (columns : List Column) (all : List (List ℕ)) (old : ℕ) → old ≤ sound → Chosen columns all all old old [] []
none_chosen columns all old low = record { done = []; whole = refl; least = refl; kept = λ _. refl; ids_kept = λ _. refl; low = low }

pub one_chosen : {columns : List Column} {all : List (List ℕ)} {old now : ℕ} {seen : List (List ℕ)} {ids : List ℕ} (rest : List (List ℕ)) (name : List ℕ) (more : List (List ℕ)) (new : ℕ) (seen_new : List (List ℕ)) (ids_new : List ℕ)
    → Chosen columns all rest old now seen ids → rest ≡ name ∷ more → new ≡ min now (min (name_no columns name) (again_no seen name)) → (13 < new → seen_new ≡ seen ++ name ∷ [])
    → (13 < new → ids_new ≡ ids ++ option_to_list (id_of (column_named columns name))) → Chosen columns all more old new seen_new ids_new
one_chosen {columns} {all} {old} {now} {seen} {ids} rest name more new seen_new ids_new r front least kept ids_kept = record {
  done = r.done ++ name ∷ [];
  whole = r.whole ∙ (ap (λ xs. r.done ++ xs) front ∙ sym (append_assoc r.done (name ∷ []) more));
  least =
      let a = again_high seen name in
      let b = again_high r.done name in
      let step : min old (names_no columns [] all) ≡ min now (min (name_no columns name) (min (again_no r.done name) (names_no columns (r.done ++ name ∷ []) more))) = r.least ∙ ap (λ xs. min now (names_no columns r.done xs)) front in
      elim (cases_lt 13 now) [
        | inl lt ↦ let alike : again_no seen name ≡ again_no r.done name = ap (λ xs. again_no xs name) (r.kept lt) in omega (arith, step, alike, least)
        | inr le ↦ omega (arith, step, a, b, least, le)
      ];
  kept = λ h. kept h ∙ ap (λ xs. xs ++ name ∷ []) (r.kept (omega (arith, least)));
  ids_kept = λ h. ids_kept h ∙ (ap (λ xs. xs ++ option_to_list (id_of (column_named columns name))) (r.ids_kept (omega (arith, least))) ∙ sym (ids_more columns r.done name));
  low = omega (arith, least, r.low);
}

pub all_chosen : {columns : List Column} {all : List (List ℕ)} {old now : ℕ} {seen : List (List ℕ)} {ids : List ℕ} → Chosen columns all [] old now seen ids
    → (now ≡ min old (names_no columns [] all)) × (now ≡ sound → ids ≡ ids_of columns all)
all_chosen {columns} {all} r = (
  omega (arith, r.least, r.low),
  λ e. r.ids_kept (omega (arith, e)) ∙ ap (ids_of columns) (sym (r.whole ∙ end r.done)),
)
  where
    end : (xs : List (List ℕ)) → xs ++ [] ≡ xs
    end [] = refl
    end (x ∷ xs) = ap (λ ys. x ∷ ys) (end xs)
