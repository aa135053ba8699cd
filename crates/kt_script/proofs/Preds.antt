-- The tests of a scan line, one after another.
use Rattle.std.proofs.Common.{◌≡◌, ℕ, zero, suc, ◌<◌, ◌≤◌, Bool, true, false, List, [], ◌∷◌, ◌++◌, length, Option, Some, None, Result, Ok, Err, min, refl, sym, ap, subst, ◌∙◌, arith, append_assoc}
use Rattle.std.specs.Prelude.{if◌then◌else◌, codes}
use Rattle.std.specs.List.{filter_map}
use Rattle.std.specs.Option.{option_map, option_or, option_and_then, option_map_or, option_to_list}
use Rattle.std.proofs.lemmas.Option.{option_and_then_some}
use Rattle.std.proofs.lemmas.List.Elements.{filter_map-append}
use Rattle.kt_base.specs.Literals.{same}
use Rattle.kt_base.proofs.Decimals.{same_text}
use Rattle.kt_schema.specs.Names.{is_name}
use Rattle.kt_schema.specs.declared.column.Column.{Column}
use Rattle.kt_history.specs.declared.scan.At.{At}
use Rattle.kt_history.specs.declared.scan.Pred.{Pred}
use Rattle.kt_history.specs.declared.scan.Scan.{Scan}
use Rattle.kt_script.specs.declared.columns.LineNo.{LineNo}
use Rattle.kt_script.specs.declared.columns.LineNo.TheVariants as line
use Rattle.kt_script.specs.Reasons.{sound}
use Rattle.kt_script.specs.Writes.{name_in, behind_name, column_named}
use Rattle.kt_script.specs.Scans.{Asked, null, not_null, PredLine, Taken, signed, behind_word, Asking, is_asked, null_asked, asked_at, taken_of, pred_at, behind_pred, preds_after, preds_in, asked_no, preds_no, pred_of, preds_of, select_no, ids_of, with_preds, IsMade, ReadsPreds, ReadsLine}

-- the tests that some words say
abbrev pub preds_from : List (List ℕ) → Option (List PredLine)
preds_from words = preds_in (length words) words

-- the word that stands first
word_is : (x : List ℕ) (words behind : List (List ℕ)) → behind_word x words ≡ Some behind → words ≡ x ∷ behind
word_is x [] behind e = absurd cc
word_is x (w ∷ words) behind e = by (same w x) refl e
  where
    by : (b : Bool) → same w x ≡ b → (if b then Some words else None) ≡ Some behind → w ∷ words ≡ x ∷ behind
    by true s g = let is : words ≡ behind = cc in ap (λ y. y ∷ words) (same_text w x s) ∙ ap (λ ys. x ∷ ys) is
    by false s g = absurd cc

-- what asks whether a column is null are the words "is null" or "is not null"
pub null_is : (P : List (List ℕ) → Asking → Type 0) (words : List (List ℕ)) (x : Asking) → ((ws : List (List ℕ)) → P (codes "is" ∷ codes "null" ∷ ws) (null, ws)) → ((ws : List (List ℕ)) → P (codes "is" ∷ codes "not" ∷ codes "null" ∷ ws) (not_null, ws))
    → null_asked words ≡ Some x → P words x
null_is P words x first second e = option_and_then_some is_asked (behind_word (codes "is") words) x e (λ ws i f. by ws (word_is _ words ws i) (behind_word (codes "null") ws) (option_and_then (behind_word (codes "null")) (behind_word (codes "not") ws)) refl refl f)
  where
    made : (y : Asking) (vs : List (List ℕ)) → words ≡ vs → ◌≡◌ {A = Option Asking} (Some y) (Some x) → P vs y → P words x
    made y vs i g p = let is : y ≡ x = cc in subst (P words) is (subst (λ us. P us y) (sym i) p)

    by : (ws : List (List ℕ)) → words ≡ codes "is" ∷ ws → (o p : Option (List (List ℕ))) → behind_word (codes "null") ws ≡ o → option_and_then (behind_word (codes "null")) (behind_word (codes "not") ws) ≡ p
        → option_or (option_map (λ vs. (null, vs)) o) (option_map (λ vs. (not_null, vs)) p) ≡ Some x → P words x
    by ws is (Some vs) p i j g = made (null, vs) _ (is ∙ ap (λ us. codes "is" ∷ us) (word_is _ ws vs i)) g (first vs)
    by ws is None (Some vs) i j g = option_and_then_some (behind_word (codes "null")) (behind_word (codes "not") ws) vs j (λ us k l.
        made (not_null, vs) _ (is ∙ (ap (λ us. codes "is" ∷ us) (word_is _ ws us k) ∙ ap (λ us. codes "is" ∷ codes "not" ∷ us) (word_is _ us vs l))) g (second vs))
    by ws is None None i j g = absurd cc

-- a test takes a word at least
pub taken_shorter : (words : List (List ℕ)) (t : Taken) → pred_at words ≡ Some t → length t.1 < length words
taken_shorter [] t e = absurd cc
taken_shorter (word ∷ words) t e = by (is_name (name_in word)) (signed (behind_name word)) e
  where
    made : (o : Option Asking) → asked_at None words ≡ o → option_map (taken_of (name_in word)) o ≡ Some t → length t.1 < length (word ∷ words)
    made None i g = absurd cc
    made (Some x) i g =
        let shorter : length x.1 ≤ length words = null_is (λ ws y. length y.1 ≤ length ws) words x (λ ws. omega arith) (λ ws. omega arith) i in
        let is : x.1 ≡ t.1 = ap (λ o. option_map_or (λ (y : Taken). y.1) o []) g in
        omega (arith, shorter, ap length is)

    by : (b : Bool) (o : Option Asked) → (if b then option_map (taken_of (name_in word)) (asked_at o words) else None) ≡ Some t → length t.1 < length (word ∷ words)
    by true None g = made (null_asked words) refl g
    by true (Some asked) g = let is : words ≡ t.1 = ap (λ o. option_map_or (λ (x : Taken). x.1) o []) g in omega (arith, ap length is)
    by false o g = absurd cc

-- tests are no more than their words, so that a larger count changes nothing
pub preds_alike : (n m : ℕ) (words : List (List ℕ)) → length words ≤ n → length words ≤ m → preds_in n words ≡ preds_in m words
preds_alike zero zero words h k = refl
preds_alike zero (suc m) [] h k = refl
preds_alike zero (suc m) (w ∷ ws) h k = absurd (omega arith)
preds_alike (suc n) zero [] h k = refl
preds_alike (suc n) zero (w ∷ ws) h k = absurd (omega arith)
preds_alike (suc n) (suc m) words h k = by (preds_alike n m) (pred_at words) (taken_shorter words)
  where
    behind : ((ws : List (List ℕ)) → length ws ≤ n → length ws ≤ m → preds_in n ws ≡ preds_in m ws) → (p : PredLine) (ws : List (List ℕ)) → length ws < length words → behind_pred (preds_in n) p ws ≡ behind_pred (preds_in m) p ws
    behind later p [] g = refl
    behind later p (w ∷ ws) g = ap (λ o. if same w (codes "and") then option_map (λ preds. p ∷ preds) o else None) (later ws (omega arith) (omega arith))

    by : ((ws : List (List ℕ)) → length ws ≤ n → length ws ≤ m → preds_in n ws ≡ preds_in m ws) → (o : Option Taken) → ((t : Taken) → o ≡ Some t → length t.1 < length words)
        → preds_after (preds_in n) o ≡ preds_after (preds_in m) o
    by later None shorter = refl
    by later (Some t) shorter = behind later t.0 t.1 (shorter t refl)

-- the tests by the first of them
pub preds_step : (words : List (List ℕ)) (t : Taken) → pred_at words ≡ Some t → preds_from words ≡ behind_pred preds_from t.0 t.1
preds_step [] t e = absurd cc
preds_step (word ∷ words) t e = ap (preds_after (preds_in (length words))) e ∙ behind t.1 (taken_shorter (word ∷ words) t e)
  where
    behind : (ws : List (List ℕ)) → length ws < length (word ∷ words) → behind_pred (preds_in (length words)) t.0 ws ≡ behind_pred preds_from t.0 ws
    behind [] g = refl
    behind (w ∷ ws) g = ap (λ o. if same w (codes "and") then option_map (λ preds. t.0 ∷ preds) o else None) (preds_alike (length words) (length ws) ws (omega arith) (omega arith))

pub preds_none : (words : List (List ℕ)) → pred_at words ≡ None → preds_from words ≡ None
preds_none [] e = refl
preds_none (word ∷ words) e = ap (preds_after (preds_in (length words))) e

one_kept : (o : Option Pred) → filter_map (λ (x : Option Pred). x) (o ∷ []) ≡ option_to_list o
one_kept None = refl
one_kept (Some x) = refl

-- the reason of one test more
no_more : (columns : List Column) (ps : List PredLine) (p : PredLine) → preds_no columns (ps ++ p ∷ []) ≡ min (preds_no columns ps) (asked_no (column_named columns p.name) p.asked)
no_more columns [] p = omega arith
no_more columns (q ∷ ps) p = let more = no_more columns ps p in omega (arith, more)

kept_more : (columns : List Column) (ps : List PredLine) (p : PredLine) → preds_of columns (ps ++ p ∷ []) ≡ preds_of columns ps ++ option_to_list (pred_of (column_named columns p.name) p.asked)
kept_more columns ps p =
    filter_map-append (λ (q : PredLine). pred_of (column_named columns q.name) q.asked) ps (p ∷ []) ∙ ap (λ xs. preds_of columns ps ++ xs) (one_kept (pred_of (column_named columns p.name) p.asked))

-- the tests so far, of all of the words
pub record Read (columns : List Column) (all rest : List (List ℕ)) (old now : ℕ) (preds : List Pred) : Type 0 where
  pub done : List PredLine
  pub so_far : preds_from all ≡ option_map (λ ps. done ++ ps) (preds_from rest)
  pub kept : preds ≡ preds_of columns done
  pub least : now ≡ min old (preds_no columns done)

pub none_read : (columns : List Column) (all : List (List ℕ)) (old : ℕ) → old ≤ sound → Read columns all all old old []
none_read columns all old low = record { done = []; so_far = same_option (preds_from all); kept = refl; least = omega arith }
  where
    same_option : (o : Option (List PredLine)) → o ≡ option_map (λ ps. [] ++ ps) o
    same_option None = refl
    same_option (Some ps) = refl

-- the words end in no test
pub not_read : {columns : List Column} {all rest : List (List ℕ)} {old now : ℕ} {preds : List Pred} (new : ℕ) → Read columns all rest old now preds → preds_from rest ≡ None → ReadsPreds columns old new (preds_from all) None
not_read {columns} {all} {rest} {old} new r none = subst (λ o. ReadsPreds columns old new o None) (sym (r.so_far ∙ ap (option_map (λ ps. r.done ++ ps)) none)) tt

other_word : (columns : List Column) (rest : List (List ℕ)) (t : Taken) (word : List ℕ) (ws : List (List ℕ)) → pred_at rest ≡ Some t → t.1 ≡ word ∷ ws → same word (codes "and") ≡ false → preds_from rest ≡ None
other_word columns rest t word ws e behind other =
    preds_step rest t e ∙ (ap (behind_pred preds_from t.0) behind ∙ ap (λ b. if b then option_map (λ preds. t.0 ∷ preds) (preds_from ws) else None) other)

-- a test, and another word behind it
pub not_joined : {columns : List Column} {all rest : List (List ℕ)} {old now : ℕ} {preds : List Pred} (new : ℕ) (t : Taken) (word : List ℕ) (ws : List (List ℕ)) → Read columns all rest old now preds
    → pred_at rest ≡ Some t → t.1 ≡ word ∷ ws → same word (codes "and") ≡ false → ReadsPreds columns old new (preds_from all) None
not_joined {columns} {all} {rest} new t word ws r e behind other = not_read new r (other_word columns rest t word ws e behind other)

-- the last test
pub all_read : {columns : List Column} {all rest : List (List ℕ)} {old now new : ℕ} {preds more : List Pred} (t : Taken) → Read columns all rest old now preds → pred_at rest ≡ Some t → t.1 ≡ []
    → more ≡ preds ++ option_to_list (pred_of (column_named columns t.0.name) t.0.asked) → new ≡ min now (asked_no (column_named columns t.0.name) t.0.asked) → ReadsPreds columns old new (preds_from all) (Some more)
all_read {columns} {all} {rest} {old} {now} {new} {preds} {more} t r e behind kept least =
    let last : preds_from rest ≡ Some (t.0 ∷ []) = preds_step rest t e ∙ ap (behind_pred preds_from t.0) behind in
    let whole : preds_from all ≡ Some (r.done ++ t.0 ∷ []) = r.so_far ∙ ap (option_map (λ ps. r.done ++ ps)) last in
    subst (λ o. ReadsPreds columns old new o (Some more)) (sym whole) (
      kept ∙ (ap (λ xs. xs ++ option_to_list (pred_of (column_named columns t.0.name) t.0.asked)) r.kept ∙ sym (kept_more columns r.done t.0)),
      let sum = no_more columns r.done t.0 in omega (arith, least, r.least, sum),
    )

-- a test, and `and` behind it
pub more_read : {columns : List Column} {all rest : List (List ℕ)} {old now new : ℕ} {preds more : List Pred} (t : Taken) (word : List ℕ) (ws : List (List ℕ)) → Read columns all rest old now preds → pred_at rest ≡ Some t
    → t.1 ≡ word ∷ ws → same word (codes "and") ≡ true → more ≡ preds ++ option_to_list (pred_of (column_named columns t.0.name) t.0.asked) → new ≡ min now (asked_no (column_named columns t.0.name) t.0.asked)
    → Read columns all ws old new more
more_read {columns} {all} {rest} {old} {now} {new} {preds} {more} t word ws r e behind joined kept least =
    let next : preds_from rest ≡ option_map (λ preds. t.0 ∷ preds) (preds_from ws) = preds_step rest t e ∙ (ap (behind_pred preds_from t.0) behind ∙ ap (λ b. if b then option_map (λ preds. t.0 ∷ preds) (preds_from ws) else None) joined) in
    record {
      done = r.done ++ t.0 ∷ [];
      so_far = r.so_far ∙ (ap (option_map (λ ps. r.done ++ ps)) next ∙ onto (preds_from ws));
      kept = kept ∙ (ap (λ xs. xs ++ option_to_list (pred_of (column_named columns t.0.name) t.0.asked)) r.kept ∙ sym (kept_more columns r.done t.0));
      least = let sum = no_more columns r.done t.0 in omega (arith, least, r.least, sum);
    }
  where
    onto : (o : Option (List PredLine)) → option_map (λ ps. r.done ++ ps) (option_map (λ ps. t.0 ∷ ps) o) ≡ option_map (λ ps. (r.done ++ t.0 ∷ []) ++ ps) o
    onto None = refl
    onto (Some ps) = ap Some (sym (append_assoc r.done (t.0 ∷ []) ps))

-- a scan of a selection and tests is the one that the line says
pub scan_made : (columns : List Column) (at : At) (names : Option (List (List ℕ))) (said : Option (List PredLine)) (ids : Option (List ℕ)) (preds : List Pred) (old new : ℕ) (result : Result Scan LineNo) → ReadsPreds columns old new said (Some preds)
    → old ≡ select_no columns names → old ≤ sound → (old ≡ sound → ids ≡ option_map (ids_of columns) names) → IsMade at ids preds new result → ReadsLine columns at (with_preds names said) result
scan_made columns at names None ids preds old new result reads is low kept made = absurd reads
scan_made columns at names (Some lines) ids preds old new (Ok scan) reads is low kept made = (
  omega (arith, reads.1, made.0, is),
  let chosen : ids ≡ option_map (ids_of columns) names = kept (omega (arith, reads.1, made.0, low)) in
      made.1 ∙ (ap (λ xs. record { at = at; columns = xs; preds = preds }) chosen ∙ ap (λ ps. record { at = at; columns = option_map (ids_of columns) names; preds = ps }) reads.0),
)
scan_made columns at names (Some lines) ids preds old new (Err (line.Reason r)) reads is low kept made = (omega (arith, reads.1, made.0, is), made.1)
scan_made columns at names (Some lines) ids preds old new (Err line.Memory) reads is low kept made = absurd made
