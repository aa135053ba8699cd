-- The text of an output goes on to its end.
use Rattle.std.proofs.Common.{◌≡◌, ℕ, zero, suc, ◌+◌, ◌<◌, ◌^◌, Bool, true, false, ◌&&◌, ◌||◌, cond, List, [], ◌∷◌, ◌++◌, length, Option, Some, None, refl, sym, ap, ◌∙◌, subst, arith, append_assoc}
use Rattle.std.specs.Prelude.{codes, is_some, nat_lt}
use Rattle.std.specs.List.{flat_map, AllByRecursion}
use Rattle.std.specs.Option.{option_and_then, option_map}
use Rattle.std.specs.Fmt.{decimal, digits}
use Rattle.std.proofs.lemmas.Bool.{lt-ltb}
use Rattle.std.proofs.lemmas.List.{append-nil}
use Rattle.std.proofs.lemmas.List.Elements.{recursion_from_All}
use Rattle.kt_base.specs.Literals.{same}
use Rattle.kt_history.specs.declared.event.Event.{Event}
use Rattle.kt_script.specs.declared.output.LastLine.{LastLine}
use Rattle.kt_script.specs.declared.output.LastLine.TheVariants as last
use Rattle.kt_script.specs.declared.replies.ReplyLine.{ReplyLine}
use Rattle.kt_script.specs.declared.out_lines.FirstLine.{FirstLine}
use Rattle.kt_script.specs.declared.reread.Output.{Output}
use Rattle.kt_script.specs.Texts.{line, words, line_numbers, line_words, rows_in, lines_text, session_line, told_sessions, event_words, event_line, last_words, last_text}
use Rattle.kt_script.specs.Pieces.{cut}
use Rattle.kt_script.specs.Laws.{Fits64, Fits32, LastFits, short_of_reply}
use Rattle.kt_script.specs.Stages.{Stage, sessions, history, ended, stands, after, goes, may_reply, begins_session, rows_due, Goes}
use Rattle.kt_script.specs.Outputs.{text_of, number_in, onto, numbers_in, event_from, first_from, first_of_words, first_in, event_in, event_of_words, counted, unless_more, last_in, last_of_words, is_short, IsRowLine, LineHolds, EventHolds, OutputHolds}
use Rattle.kt_script.proofs.Cuts.{Without, cut_line, cut_words, some_piece}
use Rattle.kt_script.proofs.InLine.{line_ink, event_ink, last_ink, session_ink, without, ink_in_line, Ink}
use Rattle.kt_script.proofs.ToldLines.{number_told, numbers_told, event_told, first_line, first_told, same-self}

-- the next line, if it may stand
pub goes_line : (stage : Stage) (l t : List ℕ) → Without 10 l → goes stage (cut 10 (line l ++ t)) ≡ cond (stands stage l) (goes (after stage l) (cut 10 t)) false
goes_line stage l t clean =
    let some = some_piece 10 t in
    ap (goes stage) (cut_line l t clean ∙ ap (λ ps. l ∷ ps) some.2) ∙ ap (λ ps. cond (stands stage l) (goes (after stage l) ps) false) (sym some.2)

a_line : (stage next : Stage) (l text : List ℕ) → Without 10 l → stands stage l ≡ true → after stage l ≡ next → Goes next text → Goes stage (line l ++ text)
a_line stage next l text clean may is ends =
    goes_line stage l text clean ∙ ap (λ b. cond b (goes (after stage l) (cut 10 text)) false) may ∙ ap (λ s. goes s (cut 10 text)) is ∙ ends

-- ---- replies

pub rows_end : (n : ℕ) (rows : List (List ℕ)) (text : List ℕ) → AllByRecursion IsRowLine rows → Goes (sessions n 0) text → Goes (sessions n (length rows)) (flat_map line rows ++ text)
rows_end n [] text all ends = ends
rows_end n (row ∷ rows) text all ends =
    subst (Goes (sessions n (suc (length rows)))) (sym (append_assoc (line row) (flat_map line rows) text))
    (a_line (sessions n (suc (length rows))) (sessions n (length rows)) row (flat_map line rows ++ text) (recursion_from_All (λ b. ¬ (b ≡ 10)) row all.0.0) all.0.1 refl (rows_end n rows text all.1 ends))

pub cut_again : (w : List ℕ) (ws : List (List ℕ)) → AllByRecursion Ink (w ∷ ws) → cut 32 (words (w ∷ ws)) ≡ w ∷ ws
cut_again w ws ink = let p = without 32 (omega arith) (w ∷ ws) ink in cut_words w ws p.0 p.1

pub first_back : (r : ReplyLine) → AllByRecursion Fits64 (line_numbers r) → AllByRecursion Fits32 (short_of_reply r) → first_in (words (line_words r)) ≡ Some (first_line r)
first_back r fits short = ap first_of_words (cut_again _ _ (line_ink r fits)) ∙ first_told r fits short

reply_end : (n : ℕ) (r : ReplyLine) (text : List ℕ) → LineHolds r → Goes (sessions (suc n) 0) text → Goes (sessions (suc n) 0) (lines_text r ++ text)
reply_end n r text holds ends =
    let l : List ℕ = words (line_words r) in
    let is : first_in l ≡ Some (first_line r) = first_back r holds.numbers holds.short in
    subst (Goes (sessions (suc n) 0)) (sym (append_assoc (line l) (flat_map line (rows_in r)) text))
    (a_line (sessions (suc n) 0) (sessions (suc n) (length (rows_in r))) l (flat_map line (rows_in r) ++ text) (ink_in_line (line_words r) (line_ink r holds.numbers))
    (ap (λ o. may_reply (suc n) o || (begins_session (suc n) l || same l (codes "history"))) is)
    (ap (λ o. cond (may_reply (suc n) o) (sessions (suc n) (rows_due o)) (cond (begins_session (suc n) l) (sessions (suc (suc n)) 0) history)) is)
    (rows_end (suc n) (rows_in r) text holds.rows ends))

replies_end : (n : ℕ) (rs : List ReplyLine) (text : List ℕ) → AllByRecursion LineHolds rs → Goes (sessions (suc n) 0) text → Goes (sessions (suc n) 0) (flat_map lines_text rs ++ text)
replies_end n [] text all ends = ends
replies_end n (r ∷ rs) text all ends =
    subst (Goes (sessions (suc n) 0)) (sym (append_assoc (lines_text r) (flat_map lines_text rs) text)) (reply_end n r (flat_map lines_text rs ++ text) all.0 (replies_end n rs text all.1 ends))

-- ---- sessions

pub no_reply : (number : ℕ) → Fits64 number → first_in (session_line number) ≡ None
no_reply number fits =
    ap first_of_words (cut_again (codes "session") (decimal number ∷ []) (session_ink number fits)) ∙ ap (option_and_then (first_from (codes "session"))) (numbers_told (number ∷ []) (fits, tt)) ∙ neither (is_short number)
  where
    neither : (t : Bool) → ◌≡◌ {A = Option FirstLine} (cond t None None) None
    neither true = refl
    neither false = refl

none_first : (n : ℕ) (l : List ℕ) → first_in l ≡ None → may_reply n (first_in l) ≡ false
none_first zero l e = refl
none_first (suc n) l e = ap is_some e

pub begins_own : (n : ℕ) (l : List ℕ) (b : Bool) → Fits64 (suc n) → same l (session_line (suc n)) ≡ b → begins_session n l ≡ b
begins_own n l b fits is = ap (λ t. t && same l (session_line (suc n))) (lt-ltb (suc n) (2 ^ 64) fits) ∙ is

session_end : (n : ℕ) (text : List ℕ) → Fits64 (suc n) → Goes (sessions (suc n) 0) text → Goes (sessions n 0) (line (session_line (suc n)) ++ text)
session_end n text fits ends =
    let l : List ℕ = session_line (suc n) in
    let none : may_reply n (first_in l) ≡ false = none_first n l (no_reply (suc n) fits) in
    let own : begins_session n l ≡ true = begins_own n l true fits (same-self l) in
    a_line (sessions n 0) (sessions (suc n) 0) l text (ink_in_line (codes "session" ∷ decimal (suc n) ∷ []) (session_ink (suc n) fits))
    (ap (λ b. b || (begins_session n l || same l (codes "history"))) none ∙ ap (λ b. b || same l (codes "history")) own)
    (ap (λ b. cond b (sessions n (rows_due (first_in l))) (cond (begins_session n l) (sessions (suc n) 0) history)) none ∙ ap (λ b. cond b (sessions (suc n) 0) history) own)
    ends

pub history_word : Without 10 (codes "history")
history_word = ink_in_line (codes "history" ∷ []) ((omega arith, (omega arith, (omega arith, (omega arith, (omega arith, (omega arith, (omega arith, tt))))))), tt)

other_word : (n : ℕ) → begins_session n (codes "history") ≡ false
other_word n = by (nat_lt (suc n) (2 ^ 64))
  where
    by : (t : Bool) → (t && false) ≡ false
    by true = refl
    by false = refl

pub history_end : (n : ℕ) (text : List ℕ) → Goes history text → Goes (sessions n 0) (line (codes "history") ++ text)
history_end n text ends = by n (other_word n)
  where
    by : (n : ℕ) → begins_session n (codes "history") ≡ false → Goes (sessions n 0) (line (codes "history") ++ text)
    by zero other = a_line (sessions 0 0) history (codes "history") text history_word (ap (λ b. b || true) other) (ap (λ b. cond b (sessions 1 0) history) other) ends
    by (suc k) other = a_line (sessions (suc k) 0) history (codes "history") text history_word (ap (λ b. b || true) other) (ap (λ b. cond b (sessions (suc (suc k)) 0) history) other) ends

sessions_end : (n : ℕ) (xs : List (List ReplyLine)) (text : List ℕ) → n + length xs < 2 ^ 64 → AllByRecursion (AllByRecursion LineHolds) xs → Goes history text → Goes (sessions n 0) (told_sessions (suc n) xs ++ (line (codes "history") ++ text))
sessions_end n [] text count all ends = history_end n text ends
sessions_end n (rs ∷ xs) text count all ends =
    let behind : List ℕ = line (codes "history") ++ text in
    let first : List ℕ = line (session_line (suc n)) in
    let later : List ℕ = told_sessions (suc (suc n)) xs in
    let flat : ((first ++ flat_map lines_text rs) ++ later) ++ behind ≡ first ++ (flat_map lines_text rs ++ (later ++ behind)) = append_assoc (first ++ flat_map lines_text rs) later behind ∙ append_assoc first (flat_map lines_text rs) (later ++ behind) in
    subst (Goes (sessions n 0)) (sym flat) (session_end n (flat_map lines_text rs ++ (later ++ behind)) (omega (arith, count)) (replies_end n rs (later ++ behind) all.0 (sessions_end (suc n) xs text (omega (arith, count)) all.1 ends)))

-- ---- the history and the last line

pub event_back : (e : Event) → EventHolds e → event_in (words (event_words e)) ≡ Some e
event_back e holds = ap event_of_words (cut_again _ _ (event_ink e holds.numbers)) ∙ event_told e holds

event_end : (e : Event) (text : List ℕ) → EventHolds e → Goes history text → Goes history (event_line e ++ text)
event_end e text holds ends =
    let l : List ℕ = words (event_words e) in
    let is : event_in l ≡ Some e = event_back e holds in
    a_line history history l text (ink_in_line (event_words e) (event_ink e holds.numbers)) (ap (λ o. is_some o || is_some (last_in l)) is) (ap (λ o. cond (is_some o) history ended) is) ends

events_end : (es : List Event) (text : List ℕ) → AllByRecursion EventHolds es → Goes history text → Goes history (flat_map event_line es ++ text)
events_end [] text all ends = ends
events_end (e ∷ es) text all ends = subst (Goes history) (sym (append_assoc (event_line e) (flat_map event_line es) text)) (event_end e (flat_map event_line es ++ text) all.0 (events_end es text all.1 ends))

no_number : (number_in (codes "ahm") ≡ None) × (number_in (codes "stopped") ≡ None)
unfolding digits
no_number = (refl, refl)

no_event : (end : LastLine) → event_of_words (last_words end) ≡ None
no_event (last.Numbers a c rowsets) =
    ap (λ o. option_and_then (event_from (codes "tablet")) (option_and_then (λ (n : ℕ). onto n (numbers_in (decimal a ∷ codes "last" ∷ decimal c ∷ codes "rowsets" ∷ decimal rowsets ∷ []))) o)) no_number.0
no_event last.Stopped = ap (λ o. option_and_then (event_from (codes "tablet")) (option_and_then (λ (n : ℕ). onto n (Some [])) o)) no_number.1

last_cut : (end : LastLine) → LastFits end → cut 32 (words (last_words end)) ≡ last_words end
last_cut (last.Numbers a c rowsets) fits = cut_again _ _ (last_ink (last.Numbers a c rowsets) fits)
last_cut last.Stopped fits = refl

pub last_told : (end : LastLine) → LastFits end → last_in (words (last_words end)) ≡ Some end
last_told (last.Numbers a c rowsets) fits =
    ap last_of_words (last_cut (last.Numbers a c rowsets) fits)
    ∙ ap (λ o. option_and_then (λ (x : ℕ × List (List ℕ)). option_and_then (λ (y : ℕ × List (List ℕ)). option_and_then (λ (n : ℕ × List (List ℕ)). unless_more (last.Numbers x.0 y.0 n.0) n.1) (counted (codes "rowsets") y.1)) (counted (codes "last") x.1)) (option_map (λ n. (n, codes "last" ∷ decimal c ∷ codes "rowsets" ∷ decimal rowsets ∷ [])) o)) (number_told a fits.0)
    ∙ ap (λ o. option_and_then (λ (y : ℕ × List (List ℕ)). option_and_then (λ (n : ℕ × List (List ℕ)). unless_more (last.Numbers a y.0 n.0) n.1) (counted (codes "rowsets") y.1)) (option_map (λ n. (n, codes "rowsets" ∷ decimal rowsets ∷ [])) o)) (number_told c fits.1)
    ∙ ap (λ o. option_and_then (λ (n : ℕ × List (List ℕ)). unless_more (last.Numbers a c n.0) n.1) (option_map (λ n. (n, [])) o)) (number_told rowsets fits.2)
last_told last.Stopped fits = refl

pub last_clean : (end : LastLine) → LastFits end → Without 10 (words (last_words end))
last_clean end fits = ink_in_line (last_words end) (last_ink end fits)

pub none_last : (end : LastLine) → LastFits end → event_in (words (last_words end)) ≡ None
none_last end fits = ap event_of_words (last_cut end fits) ∙ no_event end

pub last_end : (end : LastLine) → LastFits end → Goes history (last_text end)
last_end end fits =
    let l : List ℕ = words (last_words end) in
    let none : event_in l ≡ None = none_last end fits in
    subst (Goes history) (append-nil (line l))
    (a_line history ended l [] (last_clean end fits) (ap (λ o. is_some o || is_some (last_in l)) none ∙ ap is_some (last_told end fits)) (ap (λ o. cond (is_some o) history ended) none) refl)

pub told_goes : (out : Output) → OutputHolds out → Goes (sessions 0 0) (text_of out)
told_goes out holds =
    let first : List ℕ = told_sessions 1 out.replies in
    let word : List ℕ = line (codes "history") in
    let events : List ℕ = flat_map event_line out.events in
    let flat : ((first ++ word) ++ events) ++ last_text out.last ≡ first ++ (word ++ (events ++ last_text out.last)) = append_assoc (first ++ word) events (last_text out.last) ∙ append_assoc first word (events ++ last_text out.last) in
    subst (Goes (sessions 0 0)) (sym flat) (sessions_end 0 out.replies (events ++ last_text out.last) (omega (arith, holds.count)) holds.replies (events_end out.events (last_text out.last) holds.events (last_end out.last holds.last)))
