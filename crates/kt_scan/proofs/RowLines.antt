-- The lines of a scan, key by key.
use Rattle.std.proofs.Common.{◌≡◌, ℕ, Bool, true, false, cond, List, [], ◌∷◌, ◌++◌, map, Option, Some, None, refl, sym, ap, ◌∙◌, append_assoc}
use Rattle.std.specs.List.{filter, cons_option}
use Rattle.std.specs.Option.{option_map, option_to_list}
use Rattle.std.proofs.lemmas.List.{append-nil}
use Rattle.kt_base.specs.declared.cell.Kind.{Kind}
use Rattle.kt_base.specs.declared.cell.Cell.{Cell}
use Rattle.kt_history.specs.declared.scan.Scan.{Scan}
use Rattle.kt_history.specs.Rows.{Row}
use Rattle.kt_history.specs.Replies.{whole_row, kept, selected, shown}
use Rattle.kt_scan.specs.Live.{row_in, rows_of}
use Rattle.kt_scan.specs.Lines.{line_of}

joined : (line : Option (List Cell)) (lines : List (List Cell)) → option_to_list line ++ lines ≡ cons_option line lines
joined None lines = refl
joined (Some l) lines = refl

module _ {V : Type 0} (row : V → List ℕ → ℕ → Option Row) (views : List V) (t : ℕ) (ids : List (ℕ × Kind)) (scan : Scan) where
  -- what is shown of these keys
  abbrev pub shown_of : List (List ℕ) → List (List Cell)
  shown_of keys = shown ids scan (rows_of row views t keys)

  pub shown_more : (key : List ℕ) (keys : List (List ℕ)) → shown_of (key ∷ keys) ≡ cons_option (line_of ids scan key (row_in row views key t)) (shown_of keys)
  shown_more key keys = by (row_in row views key t)
    where
      cut_more : (whole : Row) (b : Bool) → kept scan.preds whole ≡ b → map (selected scan.columns) (cond b (whole ∷ filter (kept scan.preds) (map (whole_row ids) (rows_of row views t keys))) (filter (kept scan.preds) (map (whole_row ids) (rows_of row views t keys))))
          ≡ cons_option (cond b (Some (selected scan.columns whole)) None) (shown_of keys)
      cut_more whole true is = refl
      cut_more whole false is = refl

      by : (found : Option Row) → shown ids scan (cons_option (option_map (λ r. (key, r)) found) (rows_of row views t keys)) ≡ cons_option (line_of ids scan key found) (shown_of keys)
      by None = refl
      by (Some r) = cut_more (whole_row ids (key, r)) (kept scan.preds (whole_row ids (key, r))) refl

  pub shown_then : (lines whole : List (List Cell)) (line : Option (List Cell)) (key : List ℕ) (rest behind : List (List ℕ)) → rest ≡ key ∷ behind → line ≡ line_of ids scan key (row_in row views key t)
      → lines ++ shown_of rest ≡ whole → (lines ++ option_to_list line) ++ shown_of behind ≡ whole
  shown_then lines whole line key rest behind parts is so_far =
      append_assoc lines (option_to_list line) (shown_of behind)
      ∙ ap (λ xs. lines ++ xs) (joined line (shown_of behind) ∙ ap (λ l. cons_option l (shown_of behind)) is ∙ sym (shown_more key behind) ∙ ap shown_of (sym parts)) ∙ so_far

  pub shown_all : (lines whole : List (List Cell)) (rest : List (List ℕ)) → rest ≡ [] → lines ++ shown_of rest ≡ whole → lines ≡ whole
  shown_all lines whole rest none so_far = sym (append-nil lines) ∙ ap (λ keys. lines ++ shown_of keys) (sym none) ∙ so_far
