-- The rows of a printed output are row lines.
use Rattle.std.proofs.Common.{◌≡◌, ℕ, true, ◌&&◌, List, [], ◌∷◌, map, Option, Some, None, refl, sym, ap, ◌∙◌, subst}
use Rattle.std.specs.Prelude.{All, is_some, Ok}
use Rattle.std.specs.List.{list_all, AllByRecursion}
use Rattle.std.proofs.lemmas.List.{length-map}
use Rattle.std.proofs.lemmas.List.Elements.{All-from_recursion, recursion_from_All}
use Rattle.kt_base.specs.declared.cell.Kind.{Kind}
use Rattle.kt_base.specs.declared.cell.Cell.{Cell}
use Rattle.kt_base.specs.declared.cell.Cell.TheVariants as cell
use Rattle.kt_base.specs.Literals.{Value, value_in, cell_in, cell_or, literal}
use Rattle.kt_base.proofs.Literals.{all_read}
use Rattle.kt_history.specs.declared.reply.Reply.{Reply}
use Rattle.kt_history.specs.declared.reply.Reply.TheVariants as reply
use Rattle.kt_script.specs.declared.lists.ShownReply.{ShownReply}
use Rattle.kt_script.specs.Texts.{literals, row_text, rows_in, seen_of, seen}
use Rattle.kt_script.specs.Laws.{Fits64, ReplyFits, EventFits}
use Rattle.kt_script.specs.Outputs.{IsRowLine, LineHolds, CellHolds, CellsHold, RowHolds, rows_told, RowsHold, printed_hold}
use Rattle.kt_script.proofs.InLine.{row_in_line}
use Rattle.kt_script.proofs.PrintedWords.{IsWord, literal_word, words_alone}
use Rattle.kt_script.proofs.Outputs.{numbers_fit, events_hold}

-- a literal, and a word of its own
record Said (w : List ℕ) : Type 0 where
  says : is_some (value_in w) ≡ true
  word : IsWord w

value_some : (k : Kind) (w : List ℕ) (c : Cell) → cell_in k w ≡ Ok c → is_some (value_in w) ≡ true
value_some k w c e = by (value_in w) e
  where
    by : (o : Option Value) → cell_or k o ≡ Ok c → is_some o ≡ true
    by None f = absurd cc
    by (Some v) f = refl

literal_said : (k : Kind) (c : Cell) → CellHolds k c → Said (literal k c)
literal_said k cell.Null h = record { says = refl; word = literal_word k cell.Null tt }
literal_said k (cell.Int n) h = record { says = value_some k (literal k (cell.Int n)) (cell.Int n) (all_read k (cell.Int n) (literal k (cell.Int n)) (record { fit = h.0; of_bytes = h.1; spelled = refl })); word = literal_word k (cell.Int n) h.0 }
literal_said k (cell.Bool b) h = record { says = value_some k (literal k (cell.Bool b)) (cell.Bool b) (all_read k (cell.Bool b) (literal k (cell.Bool b)) (record { fit = h.0; of_bytes = h.1; spelled = refl })); word = literal_word k (cell.Bool b) tt }
literal_said k (cell.Bytes b) h = record { says = value_some k (literal k (cell.Bytes b)) (cell.Bytes b) (all_read k (cell.Bytes b) (literal k (cell.Bytes b)) (record { fit = h.0; of_bytes = h.1; spelled = refl })); word = literal_word k (cell.Bytes b) tt }

literals_said : (kinds : List Kind) (cells : List Cell) → CellsHold kinds cells → AllByRecursion Said (literals kinds cells)
literals_said kinds [] h = tt
literals_said [] (c ∷ cells) h = tt
literals_said (k ∷ kinds) (c ∷ cells) h = (literal_said k c h.0, literals_said kinds cells h.1)

all_say : (ws : List (List ℕ)) → AllByRecursion Said ws → list_all (λ word. is_some (value_in word)) ws ≡ true
all_say [] h = refl
all_say (w ∷ ws) h = ap (λ b. b && list_all (λ word. is_some (value_in word)) ws) h.0.says ∙ all_say ws h.1

all_words : (ws : List (List ℕ)) → AllByRecursion Said ws → AllByRecursion IsWord ws
all_words [] h = tt
all_words (w ∷ ws) h = (h.0.word, all_words ws h.1)

row_held : (kinds : List Kind) (cells : List Cell) → RowHolds kinds cells → IsRowLine (row_text kinds cells)
row_held [] [] h = absurd h
row_held [] (c ∷ cells) h = absurd h
row_held (k ∷ kinds) [] h = absurd h
row_held (k ∷ kinds) (c ∷ cells) h =
    let ws : List (List ℕ) = literals kinds cells in
    let said : AllByRecursion Said (literal k c ∷ ws) = (literal_said k c h.0, literals_said kinds cells h.1) in
    let parted = words_alone (literal k c) ws said.0.word (all_words ws said.1) in
    (All-from_recursion (λ b. ¬ (b ≡ 10)) (row_text (k ∷ kinds) (c ∷ cells)) (row_in_line (k ∷ kinds) (c ∷ cells)), ap (list_all (λ word. is_some (value_in word))) parted ∙ all_say (literal k c ∷ ws) said)

rows_held : (kinds : List Kind) (rows : List (List Cell)) → AllByRecursion (RowHolds kinds) rows → AllByRecursion IsRowLine (map (row_text kinds) rows)
rows_held kinds [] h = tt
rows_held kinds (row ∷ rows) h = (row_held kinds row h.0, rows_held kinds rows h.1)

texts_held : (kinds : List Kind) (r : Reply) → AllByRecursion (RowHolds kinds) (rows_told r) → AllByRecursion IsRowLine (rows_in (seen_of kinds r))
texts_held kinds (reply.At ts os) h = tt
texts_held kinds (reply.Rows t rows) h = rows_held kinds rows h
texts_held kinds (reply.Ancient t a) h = tt
texts_held kinds (reply.Busy t f) h = tt
texts_held kinds (reply.Ahm a) h = tt
texts_held kinds reply.Done h = tt
texts_held kinds (reply.Large n) h = tt
texts_held kinds reply.Stopped h = tt

reply_held : (r : ShownReply) → ReplyFits r → RowsHold r → LineHolds (seen r)
reply_held r fits rows = let n = numbers_fit r fits in record { numbers = n.0; short = n.1; rows = texts_held r.kinds r.reply rows }

replies_held : (rs : List ShownReply) → AllByRecursion ReplyFits rs → AllByRecursion RowsHold rs → AllByRecursion LineHolds (map seen rs)
replies_held [] fits rows = tt
replies_held (r ∷ rs) fits rows = (reply_held r fits.0 rows.0, replies_held rs fits.1 rows.1)

sessions_held : (xs : List (List ShownReply)) → AllByRecursion (All ReplyFits) xs → AllByRecursion (AllByRecursion RowsHold) xs → AllByRecursion (AllByRecursion LineHolds) (map (map seen) xs)
sessions_held [] fits rows = tt
sessions_held (rs ∷ xs) fits rows = (replies_held rs (recursion_from_All ReplyFits rs fits.0) rows.0, sessions_held xs fits.1 rows.1)

pub printed_held : printed_hold
printed_held xs es end h = record {
  holds = record {
    count = subst Fits64 (sym (length-map xs (map seen))) h.fits.count;
    replies = sessions_held xs (recursion_from_All (All ReplyFits) xs h.fits.replies_fit) h.rows;
    events = events_hold es (recursion_from_All EventFits es h.fits.events_fit);
    last = h.fits.end_fits;
  };
  text_is = refl;
}
