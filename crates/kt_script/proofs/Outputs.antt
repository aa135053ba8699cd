-- A text is that of one output.
use Rattle.std.proofs.Common.{◌≡◌, ℕ, suc, ◌+◌, ◌<◌, ◌≤◌, ◌^◌, List, [], ◌∷◌, ◌++◌, Option, Some, None, refl, sym, ap, ◌∙◌, subst, arith, length, map, get_or, append_assoc}
use Rattle.std.specs.Prelude.{codes, All}
use Rattle.std.specs.List.{flat_map, AllByRecursion}
use Rattle.std.specs.Fmt.{decimal}
use Rattle.std.proofs.lemmas.List.{append-nil, length-map}
use Rattle.std.proofs.lemmas.List.Elements.{recursion_from_All}
use Rattle.kt_base.specs.declared.cell.Kind.{Kind}
use Rattle.kt_base.specs.declared.cell.Cell.{Cell}
use Rattle.kt_history.specs.declared.event.Event.{Event}
use Rattle.kt_history.specs.declared.reply.Reply.{Reply}
use Rattle.kt_history.specs.declared.reply.Reply.TheVariants as told
use Rattle.kt_script.specs.declared.output.LastLine.{LastLine}
use Rattle.kt_script.specs.declared.lists.ShownReply.{ShownReply}
use Rattle.kt_script.specs.declared.out_lines.FirstLine.{FirstLine}
use Rattle.kt_script.specs.declared.replies.ReplyLine.{ReplyLine}
use Rattle.kt_script.specs.declared.replies.ReplyLine.TheVariants as reply
use Rattle.kt_script.specs.declared.reread.Output.{Output}
use Rattle.kt_script.specs.Texts.{line, words, row_text, line_numbers, line_words, rows_in, lines_text, session_line, told_sessions, told_text, reply_numbers, event_words, event_line, last_words, last_text, seen_of, seen}
use Rattle.kt_script.specs.Laws.{Fits64, Fits32, short_of_reply, ReplyFits, EventFits, LastFits, OutputFits, texts_give_back}
use Rattle.kt_script.specs.Outputs.{first_in, event_in, last_in, IsRowLine, LineHolds, EventHolds, OutputHolds, outputs_are_one, outputs_give_back}
use Rattle.kt_script.specs.Reread.{with_rows}
use Rattle.kt_script.proofs.Cuts.{Without}
use Rattle.kt_script.proofs.InLine.{line_ink, event_ink, session_ink, ink_in_line, row_in_line}
use Rattle.kt_script.proofs.ToldLines.{first_line}
use Rattle.kt_script.proofs.ToldTexts.{first_back, no_reply, event_back, last_told, last_clean, none_last, history_word}

-- ---- one line at the front of two texts

line_front : (l m t u : List ℕ) → Without 10 l → Without 10 m → line l ++ t ≡ line m ++ u → (l ≡ m) × (t ≡ u)
line_front [] [] t u p q e = (refl, cc)
line_front [] (c ∷ m) t u p q e = let head : 10 ≡ c = cc in absurd (q.0 (sym head))
line_front (b ∷ l) [] t u p q e = let head : b ≡ 10 = cc in absurd (p.0 head)
line_front (b ∷ l) (c ∷ m) t u p q e =
    let head : b ≡ c = cc in
    let tail : line l ++ t ≡ line m ++ u = cc in
    let more = line_front l m t u p.1 q.1 tail in
    (ap (λ x. x ∷ l) head ∙ ap (λ x. c ∷ x) more.0, more.1)

rows_front : (rs ss : List (List ℕ)) (t u : List ℕ) → length rs ≡ length ss → AllByRecursion (Without 10) rs → AllByRecursion (Without 10) ss → flat_map line rs ++ t ≡ flat_map line ss ++ u → (rs ≡ ss) × (t ≡ u)
rows_front [] [] t u n p q e = (refl, e)
rows_front [] (s ∷ ss) t u n p q e = absurd (omega (arith, n))
rows_front (r ∷ rs) [] t u n p q e = absurd (omega (arith, n))
rows_front (r ∷ rs) (s ∷ ss) t u n p q e =
    let first = line_front r s (flat_map line rs ++ t) (flat_map line ss ++ u) p.0 q.0 (sym (append_assoc (line r) (flat_map line rs) t) ∙ e ∙ append_assoc (line s) (flat_map line ss) u) in
    let more = rows_front rs ss t u (omega (arith, n)) p.1 q.1 first.1 in
    (ap (λ x. x ∷ rs) first.0 ∙ ap (λ x. s ∷ x) more.0, more.1)

-- ---- one reply, and several

-- a reply that a text tells, whatever its rows say
record Clear (r : ReplyLine) : Type 0 where
  numbers : AllByRecursion Fits64 (line_numbers r)
  short : AllByRecursion Fits32 (short_of_reply r)
  rows : AllByRecursion (Without 10) (rows_in r)

rows_back : (r : ReplyLine) → with_rows (with_rows r []) (rows_in r) ≡ r
rows_back (reply.At ts os) = refl
rows_back (reply.Rows t lines) = refl
rows_back (reply.Ancient t a) = refl
rows_back (reply.Busy t f) = refl
rows_back (reply.Ahm a) = refl
rows_back reply.Done = refl
rows_back (reply.Large n) = refl
rows_back reply.Stopped = refl

same_some : {A : Type 0} (a b : A) → Some a ≡ Some b → a ≡ b
same_some a b e = cc

none_some : {A : Type 0} (o : Option A) (a : A) → o ≡ None → o ≡ Some a → ⊥
none_some o a e f = let both : ◌≡◌ {A = Option _} None (Some a) = sym e ∙ f in cc

-- the first line of a reply, and what stands behind it
parted : (r : ReplyLine) (t : List ℕ) → lines_text r ++ t ≡ line (words (line_words r)) ++ (flat_map line (rows_in r) ++ t)
parted r t = append_assoc (line (words (line_words r))) (flat_map line (rows_in r)) t

in_line : (r : ReplyLine) → Clear r → Without 10 (words (line_words r))
in_line r p = ink_in_line (line_words r) (line_ink r p.numbers)

reply_front : (r s : ReplyLine) (t u : List ℕ) → Clear r → Clear s → lines_text r ++ t ≡ lines_text s ++ u → (r ≡ s) × (t ≡ u)
reply_front r s t u p q e =
    let first = line_front (words (line_words r)) (words (line_words s)) (flat_map line (rows_in r) ++ t) (flat_map line (rows_in s) ++ u) (in_line r p) (in_line s q) (sym (parted r t) ∙ e ∙ parted s u) in
    let alike : first_line r ≡ first_line s = same_some _ _ (sym (first_back r p.numbers p.short) ∙ ap first_in first.0 ∙ first_back s q.numbers q.short) in
    let more = rows_front (rows_in r) (rows_in s) t u (ap (λ (f : FirstLine). f.due) alike) p.rows q.rows first.1 in
    (sym (rows_back r) ∙ ap (λ (f : FirstLine). with_rows f.reply (rows_in r)) alike ∙ ap (with_rows (with_rows s [])) more.0 ∙ rows_back s, more.1)

-- a text that no reply begins
record Stops (t : List ℕ) : Type 0 where
  first : List ℕ
  rest : List ℕ
  text : t ≡ line first ++ rest
  clean : Without 10 first
  none : first_in first ≡ None

stopped : (r : ReplyLine) (t u : List ℕ) → Clear r → Stops u → lines_text r ++ t ≡ u → ⊥
stopped r t u p stop e =
    let first = line_front (words (line_words r)) stop.first (flat_map line (rows_in r) ++ t) stop.rest (in_line r p) stop.clean (sym (parted r t) ∙ e ∙ stop.text) in
    none_some (first_in (words (line_words r))) (first_line r) (ap first_in first.0 ∙ stop.none) (first_back r p.numbers p.short)

replies_front : (rs ss : List ReplyLine) (t u : List ℕ) → AllByRecursion Clear rs → AllByRecursion Clear ss → Stops t → Stops u → flat_map lines_text rs ++ t ≡ flat_map lines_text ss ++ u → (rs ≡ ss) × (t ≡ u)
replies_front [] [] t u p q x y e = (refl, e)
replies_front [] (s ∷ ss) t u p q x y e = absurd (stopped s (flat_map lines_text ss ++ u) t q.0 x (sym (append_assoc (lines_text s) (flat_map lines_text ss) u) ∙ sym e))
replies_front (r ∷ rs) [] t u p q x y e = absurd (stopped r (flat_map lines_text rs ++ t) u p.0 y (sym (append_assoc (lines_text r) (flat_map lines_text rs) t) ∙ e))
replies_front (r ∷ rs) (s ∷ ss) t u p q x y e =
    let first = reply_front r s (flat_map lines_text rs ++ t) (flat_map lines_text ss ++ u) p.0 q.0 (sym (append_assoc (lines_text r) (flat_map lines_text rs) t) ∙ e ∙ append_assoc (lines_text s) (flat_map lines_text ss) u) in
    let more = replies_front rs ss t u p.1 q.1 x y first.1 in
    (ap (λ x. x ∷ rs) first.0 ∙ ap (λ x. s ∷ x) more.0, more.1)

-- ---- sessions

abbrev behind : List ℕ → List ℕ
behind t = line (codes "history") ++ t

session_clean : (k : ℕ) → Fits64 k → Without 10 (session_line k)
session_clean k fits = ink_in_line (codes "session" ∷ decimal k ∷ []) (session_ink k fits)

session_first : (k : ℕ) (rs : List ReplyLine) (xs : List (List ReplyLine)) (t : List ℕ) → told_sessions k (rs ∷ xs) ++ behind t ≡ line (session_line k) ++ (flat_map lines_text rs ++ (told_sessions (suc k) xs ++ behind t))
session_first k rs xs t = append_assoc (line (session_line k) ++ flat_map lines_text rs) (told_sessions (suc k) xs) (behind t) ∙ append_assoc (line (session_line k)) (flat_map lines_text rs) (told_sessions (suc k) xs ++ behind t)

sessions_stop : (k : ℕ) (xs : List (List ReplyLine)) (t : List ℕ) → k + length xs ≤ 2 ^ 64 → Stops (told_sessions k xs ++ behind t)
sessions_stop k [] t h = record { first = codes "history"; rest = t; text = refl; clean = history_word; none = refl }
sessions_stop k (rs ∷ xs) t h = record {
  first = session_line k;
  rest = flat_map lines_text rs ++ (told_sessions (suc k) xs ++ behind t);
  text = session_first k rs xs t;
  clean = session_clean k (omega (arith, h));
  none = no_reply k (omega (arith, h));
}

sessions_front : (k : ℕ) (xs ys : List (List ReplyLine)) (t u : List ℕ) → k + length xs ≤ 2 ^ 64 → k + length ys ≤ 2 ^ 64 → AllByRecursion (AllByRecursion Clear) xs → AllByRecursion (AllByRecursion Clear) ys
    → told_sessions k xs ++ behind t ≡ told_sessions k ys ++ behind u → (xs ≡ ys) × (t ≡ u)
sessions_front k [] [] t u g h p q e = (refl, (line_front (codes "history") (codes "history") t u history_word history_word e).1)
sessions_front k [] (ss ∷ ys) t u g h p q e = let first : 104 ≡ 115 = ap (λ bytes. get_or bytes 0 0) e in absurd (omega (arith, first))
sessions_front k (rs ∷ xs) [] t u g h p q e = let first : 115 ≡ 104 = ap (λ bytes. get_or bytes 0 0) e in absurd (omega (arith, first))
sessions_front k (rs ∷ xs) (ss ∷ ys) t u g h p q e =
    let x = told_sessions (suc k) xs ++ behind t in
    let y = told_sessions (suc k) ys ++ behind u in
    let first = line_front (session_line k) (session_line k) (flat_map lines_text rs ++ x) (flat_map lines_text ss ++ y) (session_clean k (omega (arith, g))) (session_clean k (omega (arith, g)))
    (sym (session_first k rs xs t) ∙ e ∙ session_first k ss ys u) in
    let replies = replies_front rs ss x y p.0 q.0 (sessions_stop (suc k) xs t (omega (arith, g))) (sessions_stop (suc k) ys u (omega (arith, h))) first.1 in
    let more = sessions_front (suc k) xs ys t u (omega (arith, g)) (omega (arith, h)) p.1 q.1 replies.1 in
    (ap (λ z. z ∷ xs) replies.0 ∙ ap (λ z. ss ∷ z) more.0, more.1)

-- ---- the history and the last line

event_clean : (e : Event) → EventHolds e → Without 10 (words (event_words e))
event_clean e holds = ink_in_line (event_words e) (event_ink e holds.numbers)

alone : (end : LastLine) → last_text end ≡ line (words (last_words end)) ++ []
alone end = sym (append-nil (last_text end))

no_last : (e : Event) (end : LastLine) (t : List ℕ) → EventHolds e → LastFits end → event_line e ++ t ≡ last_text end → ⊥
no_last e end t p q is =
    let first = line_front (words (event_words e)) (words (last_words end)) t [] (event_clean e p) (last_clean end q) (is ∙ alone end) in
    none_some (event_in (words (event_words e))) e (ap event_in first.0 ∙ none_last end q) (event_back e p)

events_front : (es fs : List Event) (a b : LastLine) → AllByRecursion EventHolds es → AllByRecursion EventHolds fs → LastFits a → LastFits b → flat_map event_line es ++ last_text a ≡ flat_map event_line fs ++ last_text b → (es ≡ fs) × (a ≡ b)
events_front [] [] a b p q x y e =
    let first = line_front (words (last_words a)) (words (last_words b)) [] [] (last_clean a x) (last_clean b y) (sym (alone a) ∙ e ∙ alone b) in
    (refl, same_some a b (sym (last_told a x) ∙ ap last_in first.0 ∙ last_told b y))
events_front [] (f ∷ fs) a b p q x y e = absurd (no_last f a (flat_map event_line fs ++ last_text b) q.0 x (sym (append_assoc (event_line f) (flat_map event_line fs) (last_text b)) ∙ sym e))
events_front (g ∷ es) [] a b p q x y e = absurd (no_last g b (flat_map event_line es ++ last_text a) p.0 y (sym (append_assoc (event_line g) (flat_map event_line es) (last_text a)) ∙ e))
events_front (g ∷ es) (f ∷ fs) a b p q x y e =
    let first = line_front (words (event_words g)) (words (event_words f)) (flat_map event_line es ++ last_text a) (flat_map event_line fs ++ last_text b) (event_clean g p.0) (event_clean f q.0) (sym (append_assoc (event_line g) (flat_map event_line es) (last_text a)) ∙ e ∙ append_assoc (event_line f) (flat_map event_line fs) (last_text b)) in
    let here : g ≡ f = same_some g f (sym (event_back g p.0) ∙ ap event_in first.0 ∙ event_back f q.0) in
    let more = events_front es fs a b p.1 q.1 x y first.1 in
    (ap (λ z. z ∷ es) here ∙ ap (λ z. f ∷ z) more.0, more.1)

-- ---- outputs

-- what a text tells, whatever the rows say
record Told (xs : List (List ReplyLine)) (es : List Event) (end : LastLine) : Type 0 where
  count : length xs < 2 ^ 64
  replies : AllByRecursion (AllByRecursion Clear) xs
  events : AllByRecursion EventHolds es
  last : LastFits end

one_text : (xs ys : List (List ReplyLine)) (es fs : List Event) (a b : LastLine) → Told xs es a → Told ys fs b → told_text xs es a ≡ told_text ys fs b → (xs ≡ ys) × (es ≡ fs) × (a ≡ b)
one_text xs ys es fs a b p q e =
    let flat : (zs : List (List ReplyLine)) (gs : List Event) (c : LastLine) → told_text zs gs c ≡ told_sessions 1 zs ++ behind (flat_map event_line gs ++ last_text c) = λ zs gs c. simp append_assoc in
    let p_count = p.count in
    let q_count = q.count in
    let first = sessions_front 1 xs ys (flat_map event_line es ++ last_text a) (flat_map event_line fs ++ last_text b) (omega (arith, p_count)) (omega (arith, q_count)) p.replies q.replies (sym (flat xs es a) ∙ e ∙ flat ys fs b) in
    let more = events_front es fs a b p.events q.events p.last q.last first.1 in
    (first.0, more.0, more.1)

-- outputs that can be read again
held_rows : (rows : List (List ℕ)) → AllByRecursion IsRowLine rows → AllByRecursion (Without 10) rows
held_rows [] p = tt
held_rows (r ∷ rows) p = (recursion_from_All (λ b. ¬ (b ≡ 10)) r p.0.0, held_rows rows p.1)

held_replies : (rs : List ReplyLine) → AllByRecursion LineHolds rs → AllByRecursion Clear rs
held_replies [] p = tt
held_replies (r ∷ rs) p = (record { numbers = p.0.numbers; short = p.0.short; rows = held_rows (rows_in r) p.0.rows }, held_replies rs p.1)

held_sessions : (xs : List (List ReplyLine)) → AllByRecursion (AllByRecursion LineHolds) xs → AllByRecursion (AllByRecursion Clear) xs
held_sessions [] p = tt
held_sessions (rs ∷ xs) p = (held_replies rs p.0, held_sessions xs p.1)

held : (out : Output) → OutputHolds out → Told out.replies out.events out.last
held out holds = record { count = holds.count; replies = held_sessions out.replies holds.replies; events = holds.events; last = holds.last }

pub one_output : outputs_are_one
one_output text a b p q =
    let same = one_text a.replies b.replies a.events b.events a.last b.last (held a p.holds) (held b q.holds) (sym p.text_is ∙ q.text_is) in
    λ i. record { replies = same.0 i; events = same.1 i; last = same.2 i }

-- outputs that are printed
rows_clean : (kinds : List Kind) (rows : List (List Cell)) → AllByRecursion (Without 10) (map (row_text kinds) rows)
rows_clean kinds [] = tt
rows_clean kinds (cells ∷ rows) = (row_in_line kinds cells, rows_clean kinds rows)

seen_rows : (kinds : List Kind) (r : Reply) → AllByRecursion (Without 10) (rows_in (seen_of kinds r))
seen_rows kinds (told.At ts os) = tt
seen_rows kinds (told.Rows t rows) = rows_clean kinds rows
seen_rows kinds (told.Ancient t a) = tt
seen_rows kinds (told.Busy t f) = tt
seen_rows kinds (told.Ahm a) = tt
seen_rows kinds told.Done = tt
seen_rows kinds (told.Large n) = tt
seen_rows kinds told.Stopped = tt

seen_numbers : (kinds : List Kind) (r : Reply) → reply_numbers r ≡ line_numbers (seen_of kinds r)
seen_numbers kinds (told.At ts os) = refl
seen_numbers kinds (told.Rows t rows) = ap (λ n. t ∷ n ∷ []) (sym (length-map rows (row_text kinds)))
seen_numbers kinds (told.Ancient t a) = refl
seen_numbers kinds (told.Busy t f) = refl
seen_numbers kinds (told.Ahm a) = refl
seen_numbers kinds told.Done = refl
seen_numbers kinds (told.Large n) = refl
seen_numbers kinds told.Stopped = refl

pub numbers_fit : (r : ShownReply) → ReplyFits r → AllByRecursion Fits64 (line_numbers (seen r)) × AllByRecursion Fits32 (short_of_reply (seen r))
numbers_fit r p = (subst (AllByRecursion Fits64) (seen_numbers r.kinds r.reply) (recursion_from_All Fits64 (reply_numbers r.reply) p.0), recursion_from_All Fits32 (short_of_reply (seen r)) p.1)

clear_replies : (rs : List ShownReply) → AllByRecursion ReplyFits rs → AllByRecursion Clear (map seen rs)
clear_replies [] p = tt
clear_replies (r ∷ rs) p = let n = numbers_fit r p.0 in (record { numbers = n.0; short = n.1; rows = seen_rows r.kinds r.reply }, clear_replies rs p.1)

clear_sessions : (xs : List (List ShownReply)) → AllByRecursion (All ReplyFits) xs → AllByRecursion (AllByRecursion Clear) (map (map seen) xs)
clear_sessions [] p = tt
clear_sessions (rs ∷ xs) p = (clear_replies rs (recursion_from_All ReplyFits rs p.0), clear_sessions xs p.1)

pub events_hold : (es : List Event) → AllByRecursion EventFits es → AllByRecursion EventHolds es
events_hold [] p = tt
events_hold (e ∷ es) p = (record { numbers = recursion_from_All Fits64 _ p.0.0; short = recursion_from_All Fits32 _ p.0.1 }, events_hold es p.1)

printed : (xs : List (List ShownReply)) (es : List Event) (end : LastLine) → OutputFits xs es end → Told (map (map seen) xs) es end
printed xs es end fits = record {
  count = subst Fits64 (sym (length-map xs (map seen))) fits.count;
  replies = clear_sessions xs (recursion_from_All (All ReplyFits) xs fits.replies_fit);
  events = events_hold es (recursion_from_All EventFits es fits.events_fit);
  last = fits.end_fits;
}

pub read_alike : texts_give_back
read_alike xs ys es fs a b p q e = one_text (map (map seen) xs) (map (map seen) ys) es fs a b (printed xs es a p) (printed ys fs b q) e

pub given_again : outputs_give_back
given_again xs es end out fits p =
    let same = one_text out.replies (map (map seen) xs) out.events es out.last end (held out p.holds) (printed xs es end fits) (sym p.text_is) in
    λ i. record { replies = same.0 i; events = same.1 i; last = same.2 i }
