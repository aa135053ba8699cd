-- The loops that read an output text: what one line more adds.
use Rattle.std.proofs.Common.{◌≡◌, ℕ, zero, suc, ◌+◌, ◌-◌, ◌<◌, true, false, ◌||◌, cond, List, [], ◌∷◌, ◌++◌, length, drop, Some, None, Err, refl, sym, ap, ◌∙◌, subst, arith, append_assoc, length-append}
use Rattle.std.specs.Prelude.{◌≢◌, codes, is_some, All}
use Rattle.std.specs.List.{flat_map, AllByRecursion}
use Rattle.std.proofs.lemmas.List.{append-nil}
use Rattle.std.proofs.lemmas.List.Elements.{recursion_from_All}
use Rattle.std.proofs.lemmas.Grind.{flat_map-append}
use Rattle.kt_base.specs.Literals.{same}
use Rattle.kt_history.specs.declared.event.Event.{Event}
use Rattle.kt_script.specs.declared.output.LastLine.{LastLine}
use Rattle.kt_script.specs.declared.replies.ReplyLine.{ReplyLine}
use Rattle.kt_script.specs.declared.out_lines.FirstLine.{FirstLine}
use Rattle.kt_script.specs.declared.reread.CodecNo.{CodecNo}
use Rattle.kt_script.specs.declared.reread.CodecNo.TheVariants as no
use Rattle.kt_script.specs.Texts.{line, words, lines_text, line_words, session_line, told_session, told_sessions, event_line, last_text}
use Rattle.kt_script.specs.Pieces.{cut}
use Rattle.kt_script.specs.Outputs.{first_in, event_in, last_in, is_row, IsRowLine, HasOutput, IsPlace, IsNoOutput}
use Rattle.kt_script.specs.Stages.{Stage, sessions, history, ended, stands, after, may_reply, begins_session, rows_due, MayStand, Goes}
use Rattle.kt_script.specs.Places.{IsFault}
use Rattle.kt_script.specs.Laws.{Fits64}
use Rattle.kt_script.specs.Reread.{IsFaultFrom, StandsAt, Moves, NoReply, AreRowsRead, AreRepliesRead, AreSessionsRead, IsEndingRead}
use Rattle.kt_script.proofs.Words.{told_more}
use Rattle.kt_script.proofs.InLine.{join}
use Rattle.kt_script.proofs.Moves.{then, line_more, fault_behind, line_refused, rest_refused}
use Rattle.kt_script.proofs.Cuts.{cut_end, some_piece}
use Rattle.kt_script.proofs.Places.{same_kind}
use Rattle.kt_script.proofs.Stages.{goes_has, has_goes}
use Rattle.kt_script.proofs.StageLines.{fault_row}
use Rattle.kt_script.proofs.ToldLines.{IsFirstOf, event_is, last_is}
use Rattle.kt_script.proofs.ToldTexts.{begins_own}

-- one more at the end of a text of parts
pub one_part : {A : Type 0} (f : A → List ℕ) (xs : List A) (x : A) → flat_map f xs ++ f x ≡ flat_map f (xs ++ x ∷ [])
one_part f xs x = ap (λ ys. flat_map f xs ++ ys) (sym (append-nil (f x))) ∙ sym (flat_map-append f xs (x ∷ []))

pub all_more : {A : Type 0} (P : A → Type 0) (xs : List A) (x : A) (new : List A) → new ≡ xs ++ x ∷ [] → AllByRecursion P xs → P x → AllByRecursion P new
all_more P xs x new is all here = subst (AllByRecursion P) (sym is) (join P xs (x ∷ []) all (here, tt))

pub in_front : (text : List ℕ) (from to : Stage) (start at : ℕ) (front new : List ℕ) → front ≡ new → Moves text from start to at front → Moves text from start to at new
in_front text from to start at front new is moves = subst (Moves text from start to at) is moves

module _ (text : List ℕ) where
  -- ---- rows

  module _ (n due start left at : ℕ) (lines : List (List ℕ)) (moves : Moves text (sessions n due) start (sessions n left) at (flat_map line lines)) where
    pub row_more : (l : List ℕ) (new : List (List ℕ)) → StandsAt text at l → 0 < left → is_row l ≡ true → new ≡ lines ++ l ∷ [] → Moves text (sessions n due) start (sessions n (left - 1)) (at + length l + 1) (flat_map line new)
    row_more l new here some row is =
        let e : left ≡ suc (left - 1) = omega (arith, some) in
        in_front text (sessions n due) (sessions n (left - 1)) start (at + length l + 1) (flat_map line lines ++ line l) (flat_map line new) (one_part line lines l ∙ ap (flat_map line) (sym is))
        (line_more text (sessions n due) (sessions n left) start at (flat_map line lines) moves l (sessions n (left - 1)) here (ap (λ k. stands (sessions n k) l) e ∙ row) (ap (λ k. after (sessions n k) l) e))

    row_due : (l : List ℕ) (m : ℕ) → 0 < left → IsFault IsRowLine l m → IsFault (MayStand (sessions n left)) l m
    row_due l m some fault = let e : left ≡ suc (left - 1) = omega (arith, some) in subst (λ k. IsFault (MayStand (sessions n k)) l m) (sym e) (fault_row n (left - 1) l m fault)

    pub row_refused : (l : List ℕ) (m : ℕ) → StandsAt text at l → 0 < left → is_row l ≡ false → IsFault IsRowLine l m → IsFaultFrom text (sessions n due) start (at + m)
    row_refused l m here some row fault =
        let e : left ≡ suc (left - 1) = omega (arith, some) in
        line_refused text (sessions n due) (sessions n left) start at (flat_map line lines) moves l m here (λ rest. refl) (ap (λ k. stands (sessions n k) l) e ∙ row) (row_due l m some fault)

    pub row_missing : (rest : List ℕ) (m : ℕ) → rest ≡ drop at text → All (λ b. b ≢ 10) (drop at text) → 0 < left → IsFault IsRowLine rest m → IsFaultFrom text (sessions n due) start (at + m)
    row_missing rest m is none some fault = rest_refused text (sessions n due) (sessions n left) start at (flat_map line lines) moves rest m is none (λ rest. refl) (row_due rest m some fault)

  -- ---- replies

  module _ (n start at : ℕ) (replies : List ReplyLine) (moves : Moves text (sessions (suc n) 0) start (sessions (suc n) 0) at (flat_map lines_text replies)) (l : List ℕ) (here : StandsAt text at l) (f : FirstLine) (is : first_in l ≡ Some f) where
    pub first_more : Moves text (sessions (suc n) 0) start (sessions (suc n) f.due) (at + length l + 1) (flat_map lines_text replies ++ line l)
    first_more =
        line_more text (sessions (suc n) 0) (sessions (suc n) 0) start at (flat_map lines_text replies) moves l (sessions (suc n) f.due) here
        (ap (λ o. may_reply (suc n) o || (begins_session (suc n) l || same l (codes "history"))) is)
        (ap (λ o. cond (may_reply (suc n) o) (sessions (suc n) (rows_due o)) (cond (begins_session (suc n) l) (sessions (suc (suc n)) 0) history)) is)

    pub reply_more : (next : ℕ) (lines : List (List ℕ)) (r : ReplyLine) (new : List ReplyLine) → Moves text (sessions (suc n) f.due) (at + length l + 1) (sessions (suc n) 0) next (flat_map line lines)
        → IsFirstOf l r lines → new ≡ replies ++ r ∷ [] → Moves text (sessions (suc n) 0) start (sessions (suc n) 0) next (flat_map lines_text new)
    reply_more next lines r new later first new-is =
        let whole : line l ++ flat_map line lines ≡ lines_text r = ap (λ x. line x ++ flat_map line lines) first.text_is ∙ ap (λ xs. line (words (line_words r)) ++ flat_map line xs) (sym first.rows) in
        in_front text (sessions (suc n) 0) (sessions (suc n) 0) start next ((flat_map lines_text replies ++ line l) ++ flat_map line lines) (flat_map lines_text new)
        (append_assoc (flat_map lines_text replies) (line l) (flat_map line lines) ∙ ap (λ xs. flat_map lines_text replies ++ xs) whole ∙ one_part lines_text replies r ∙ ap (flat_map lines_text) (sym new-is))
        (then text (sessions (suc n) 0) (sessions (suc n) f.due) start (at + length l + 1) (flat_map lines_text replies ++ line l) first_more (sessions (suc n) 0) next (flat_map line lines) later)

    pub rows_refused : (offset : ℕ) → IsFaultFrom text (sessions (suc n) f.due) (at + length l + 1) offset → IsFaultFrom text (sessions (suc n) 0) start offset
    rows_refused offset e = fault_behind text (sessions (suc n) 0) (sessions (suc n) f.due) start (at + length l + 1) (flat_map lines_text replies ++ line l) first_more offset e

  pub no_reply_here : (n at : ℕ) (l : List ℕ) → StandsAt text at l → first_in l ≡ None → NoReply text n at
  no_reply_here n at l here none other there = by n
    where
      same_line : l ≡ other
      same_line = let both : l ∷ cut 10 (drop (at + length l + 1) text) ≡ other ∷ cut 10 (drop (at + length other + 1) text) = sym here.parted ∙ there.parted in cc

      by : (n : ℕ) → may_reply n (first_in other) ≡ false
      by zero = refl
      by (suc n) = ap is_some (ap first_in (sym same_line) ∙ none)

  pub no_reply_end : (n at : ℕ) → All (λ b. b ≢ 10) (drop at text) → NoReply text n at
  no_reply_end n at none l here =
      let some = some_piece 10 (drop (at + length l + 1) text) in
      let both : drop at text ∷ [] ≡ l ∷ some.0 ∷ some.1 = sym (cut_end 10 (drop at text) (recursion_from_All (λ b. b ≢ 10) (drop at text) none)) ∙ here.parted ∙ ap (λ ps. l ∷ ps) some.2 in
      absurd cc

  -- ---- sessions

  module _ (n at : ℕ) (xs : List (List ReplyLine)) (count : length xs ≡ n) (moves : Moves text (sessions 0 0) 0 (sessions n 0) at (told_sessions 1 xs)) (none : NoReply text n at) (l : List ℕ) (here : StandsAt text at l) where
    no_first : may_reply n (first_in l) ≡ false
    no_first = none l here

    session_first : Fits64 (suc n) → same l (session_line (suc n)) ≡ true → Moves text (sessions 0 0) 0 (sessions (suc n) 0) (at + length l + 1) (told_sessions 1 xs ++ line l)
    session_first fits is =
        line_more text (sessions 0 0) (sessions n 0) 0 at (told_sessions 1 xs) moves l (sessions (suc n) 0) here
        (ap (λ b. b || (begins_session n l || same l (codes "history"))) no_first ∙ ap (λ b. b || same l (codes "history")) (begins_own n l true fits is))
        (ap (λ b. cond b (sessions n (rows_due (first_in l))) (cond (begins_session n l) (sessions (suc n) 0) history)) no_first ∙ ap (λ b. cond b (sessions (suc n) 0) history) (begins_own n l true fits is))

    pub session_more : (next : ℕ) (rs : List ReplyLine) (new : List (List ReplyLine)) → Fits64 (suc n) → same l (session_line (suc n)) ≡ true → l ≡ session_line (suc n)
        → Moves text (sessions (suc n) 0) (at + length l + 1) (sessions (suc n) 0) next (flat_map lines_text rs) → new ≡ xs ++ rs ∷ [] → Moves text (sessions 0 0) 0 (sessions (length new) 0) next (told_sessions 1 new)
    session_more next rs new fits is l-is later new-is =
        let longer : suc n ≡ length new = omega (arith, count, ap length new-is ∙ length-append xs (rs ∷ [])) in
        let number : suc n ≡ 1 + length xs = omega (arith, count) in
        let whole : line l ++ flat_map lines_text rs ≡ told_session (1 + length xs) rs = ap (λ x. line x ++ flat_map lines_text rs) (l-is ∙ ap session_line number) in
        subst (λ k. Moves text (sessions 0 0) 0 (sessions k 0) next (told_sessions 1 new)) longer
        (in_front text (sessions 0 0) (sessions (suc n) 0) 0 next ((told_sessions 1 xs ++ line l) ++ flat_map lines_text rs) (told_sessions 1 new)
        (append_assoc (told_sessions 1 xs) (line l) (flat_map lines_text rs) ∙ ap (λ ys. told_sessions 1 xs ++ ys) whole ∙ sym (told_more 1 xs rs) ∙ ap (told_sessions 1) (sym new-is))
        (then text (sessions 0 0) (sessions (suc n) 0) 0 (at + length l + 1) (told_sessions 1 xs ++ line l) (session_first fits is) (sessions (suc n) 0) next (flat_map lines_text rs) later))

    pub session_refused : (offset : ℕ) → Fits64 (suc n) → same l (session_line (suc n)) ≡ true → IsFaultFrom text (sessions (suc n) 0) (at + length l + 1) offset → IsFaultFrom text (sessions 0 0) 0 offset
    session_refused offset fits is e = fault_behind text (sessions 0 0) (sessions (suc n) 0) 0 (at + length l + 1) (told_sessions 1 xs ++ line l) (session_first fits is) offset e

    pub history_first : Fits64 (suc n) → same l (session_line (suc n)) ≡ false → same l (codes "history") ≡ true → l ≡ codes "history" → Moves text (sessions 0 0) 0 history (at + length l + 1) (told_sessions 1 xs ++ line (codes "history"))
    history_first fits other is l-is =
        in_front text (sessions 0 0) history 0 (at + length l + 1) (told_sessions 1 xs ++ line l) (told_sessions 1 xs ++ line (codes "history")) (ap (λ x. told_sessions 1 xs ++ line x) l-is)
        (line_more text (sessions 0 0) (sessions n 0) 0 at (told_sessions 1 xs) moves l history here
        (ap (λ b. b || (begins_session n l || same l (codes "history"))) no_first ∙ ap (λ b. b || same l (codes "history")) (begins_own n l false fits other) ∙ is)
        (ap (λ b. cond b (sessions n (rows_due (first_in l))) (cond (begins_session n l) (sessions (suc n) 0) history)) no_first ∙ ap (λ b. cond b (sessions (suc n) 0) history) (begins_own n l false fits other)))

    pub neither_refused : (m : ℕ) → Fits64 (suc n) → same l (session_line (suc n)) ≡ false → same l (codes "history") ≡ false → IsFault (MayStand (sessions n 0)) l m → IsFaultFrom text (sessions 0 0) 0 (at + m)
    neither_refused m fits other is fault =
        line_refused text (sessions 0 0) (sessions n 0) 0 at (told_sessions 1 xs) moves l m here (λ rest. refl)
        (ap (λ b. b || (begins_session n l || same l (codes "history"))) no_first ∙ ap (λ b. b || same l (codes "history")) (begins_own n l false fits other) ∙ is) fault

  -- ---- the history and the last line

  module _ (start at : ℕ) (events : List Event) (moves : Moves text history start history at (flat_map event_line events)) (l : List ℕ) (here : StandsAt text at l) where
    pub event_more : (e : Event) (new : List Event) → event_in l ≡ Some e → new ≡ events ++ e ∷ [] → Moves text history start history (at + length l + 1) (flat_map event_line new)
    event_more e new is new-is =
        in_front text history history start (at + length l + 1) (flat_map event_line events ++ line l) (flat_map event_line new)
        (ap (λ x. flat_map event_line events ++ line x) (event_is l e is).0 ∙ one_part event_line events e ∙ ap (flat_map event_line) (sym new-is))
        (line_more text history history start at (flat_map event_line events) moves l history here (ap (λ o. is_some o || is_some (last_in l)) is) (ap (λ o. cond (is_some o) history ended) is))

    pub last_more : (end : LastLine) → event_in l ≡ None → last_in l ≡ Some end → Moves text history start ended (at + length l + 1) (flat_map event_line events ++ last_text end)
    last_more end none is =
        in_front text history ended start (at + length l + 1) (flat_map event_line events ++ line l) (flat_map event_line events ++ last_text end) (ap (λ x. flat_map event_line events ++ line x) (last_is l end is).0)
        (line_more text history history start at (flat_map event_line events) moves l ended here (ap (λ o. is_some o || is_some (last_in l)) none ∙ ap is_some is) (ap (λ o. cond (is_some o) history ended) none))

    pub ending_refused : (m : ℕ) → event_in l ≡ None → last_in l ≡ None → IsFault (MayStand history) l m → IsFaultFrom text history start (at + m)
    ending_refused m none is fault = line_refused text history history start at (flat_map event_line events) moves l m here (λ rest. refl) (ap (λ o. is_some o || is_some (last_in l)) none ∙ ap is_some is) fault

  -- ---- refusals that are handed on

  pub rows_err : (start at : ℕ) (replies : List ReplyLine) → ((n : ℕ) → Moves text (sessions (suc n) 0) start (sessions (suc n) 0) at (flat_map lines_text replies)) → (l : List ℕ) → StandsAt text at l → (f : FirstLine) → first_in l ≡ Some f
      → (e : CodecNo) → AreRowsRead text (at + length l + 1) f.due (Err e) → AreRepliesRead text start (Err e)
  rows_err start at replies moves l here f is (no.Place offset) e = λ n. rows_refused n start at replies (moves n) l here f is offset (e (suc n))
  rows_err start at replies moves l here f is no.Memory e = tt

  pub replies_err : (n at : ℕ) (xs : List (List ReplyLine)) → length xs ≡ n → Moves text (sessions 0 0) 0 (sessions n 0) at (told_sessions 1 xs) → NoReply text n at → (l : List ℕ) → StandsAt text at l → Fits64 (suc n) → same l (session_line (suc n)) ≡ true
      → (e : CodecNo) → AreRepliesRead text (at + length l + 1) (Err e) → AreSessionsRead text (Err e)
  replies_err n at xs count moves none l here fits is (no.Place offset) e = session_refused n at xs count moves none l here offset fits is (e n)
  replies_err n at xs count moves none l here fits is no.Memory e = tt

  pub ending_err : (at : ℕ) (front : List ℕ) → Moves text (sessions 0 0) 0 history at front → (e : CodecNo) → IsEndingRead text at (Err e) → AreSessionsRead text (Err e)
  ending_err at front moves (no.Place offset) h = fault_behind text (sessions 0 0) history 0 at front moves offset h
  ending_err at front moves no.Memory h = tt

  -- ---- what is told of the whole text

  pub place_told : (e : CodecNo) → AreSessionsRead text (Err e) → IsPlace text e
  place_told (no.Place offset) h =
      let far : h.far ≡ offset = omega (arith, h.offset_is) in
      same_kind (Goes (sessions 0 0)) HasOutput text offset goes_has has_goes (subst (λ k. IsFault (Goes (sessions 0 0)) text k) far h.fault)
  place_told no.Memory h = tt

  -- where a line is at fault, no output has the text
  pub no_output : (e : CodecNo) → AreSessionsRead text (Err e) → IsNoOutput text e
  no_output (no.Place offset) h = λ out p. let all = has_goes text (out, p) in let none = h.none in absurd cc
  no_output no.Memory h = tt
