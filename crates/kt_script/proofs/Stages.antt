-- What may stand from a stage on: the text of an output, and nothing else; and where a text stops being the front of one.
use Rattle.std.proofs.Common.{◌≡◌, ◌≢◌, ℕ, zero, suc, ◌+◌, ◌<◌, ◌^◌, Bool, true, false, ◌||◌, cond, eqb, List, [], ◌∷◌, ◌++◌, length, take, replicate, Option, Some, None, refl, sym, ap, subst, ◌∙◌, inl, inr, ◌⊎◌, arith, append_assoc, length-append}
use Rattle.std.specs.Prelude.{codes, is_some, nat_lt}
use Rattle.std.specs.List.{flat_map, onto_first, AllByRecursion}
use Rattle.std.proofs.lemmas.Bool.{and_parts, ltb-true, eqb-true, cases_order}
use Rattle.std.proofs.lemmas.List.{append-nil, length-replicate, nil_from_length, take-append-le}
use Rattle.std.proofs.Math.Seq.{take-append_seam}
use Rattle.std.specs.Fmt.{decimal}
use Rattle.std.proofs.lemmas.List.Elements.{recursion_from_All}
use Rattle.kt_base.specs.Literals.{same}
use Rattle.kt_base.proofs.Decimals.{same_text}
use Rattle.kt_history.specs.declared.event.Event.{Event}
use Rattle.kt_script.specs.declared.output.LastLine.{LastLine}
use Rattle.kt_script.specs.declared.output.LastLine.TheVariants as last
use Rattle.kt_script.specs.declared.replies.ReplyLine.{ReplyLine}
use Rattle.kt_script.specs.declared.out_lines.FirstLine.{FirstLine}
use Rattle.kt_script.specs.declared.reread.Output.{Output}
use Rattle.kt_script.specs.Texts.{line, words, line_words, lines_text, session_line, told_sessions, event_words, event_line, last_text}
use Rattle.kt_script.specs.Pieces.{cut}
use Rattle.kt_script.specs.Laws.{LastFits}
use Rattle.kt_script.specs.Places.{CanGoOn, IsFault}
use Rattle.kt_script.specs.Outputs.{first_in, event_in, last_in, is_row, IsRowLine, LineHolds, EventHolds, HasOutput}
use Rattle.kt_script.specs.Stages.{Stage, sessions, history, ended, stands, after, may_end, goes, may_reply, begins_session, rows_due, MayStand, Goes}
use Rattle.kt_script.specs.Reread.{with_rows}
use Rattle.kt_script.proofs.Cuts.{Without, cut_end, cut_onto, some_piece}
use Rattle.kt_script.proofs.InLine.{line_ink, event_ink, session_ink, ink_in_line}
use Rattle.kt_script.proofs.ToldLines.{first_is, event_is, last_is}
use Rattle.kt_script.proofs.ToldTexts.{goes_line, rows_end, history_end, last_end, last_clean, history_word, told_goes}
use Rattle.kt_script.proofs.RowBytes.{row_line}
use Rattle.kt_script.proofs.LineForms.{zeros}

-- ---- what goes on from a stage is spelled there

-- Events and a last line.
record AreEvents (t : List ℕ) : Type 0 where
  events : List Event
  end : LastLine
  hold : AllByRecursion EventHolds events
  fits : LastFits end
  is : t ≡ flat_map event_line events ++ last_text end

-- So many rows, replies, the later sessions, the history and the last line.
record AreSessions (n due : ℕ) (t : List ℕ) : Type 0 where
  rows : List (List ℕ)
  replies : List ReplyLine
  later : List (List ReplyLine)
  behind : List ℕ
  count : length rows ≡ due
  rows_hold : AllByRecursion IsRowLine rows
  above : n ≡ 0 → replies ≡ []
  replies_hold : AllByRecursion LineHolds replies
  fits : n < 2 ^ 64 → n + length later < 2 ^ 64
  later_hold : AllByRecursion (AllByRecursion LineHolds) later
  ending : AreEvents behind
  is : t ≡ flat_map line rows ++ (flat_map lines_text replies ++ (told_sessions (suc n) later ++ (line (codes "history") ++ behind)))

abbrev Rest : Stage → List ℕ → Type 0
Rest (sessions n due) t = AreSessions n due t
Rest history t = AreEvents t
Rest ended t = t ≡ []

-- a row
row_on : (n due : ℕ) (l t : List ℕ) → is_row l ≡ true → AreSessions n due t → AreSessions n (suc due) (line l ++ t)
row_on n due l t row r = record {
  rows = l ∷ r.rows;
  replies = r.replies;
  later = r.later;
  behind = r.behind;
  count = ap suc r.count;
  rows_hold = (row_line l row, r.rows_hold);
  above = r.above;
  replies_hold = r.replies_hold;
  fits = r.fits;
  later_hold = r.later_hold;
  ending = r.ending;
  is = ap (λ x. line l ++ x) r.is ∙ sym (append_assoc (line l) (flat_map line r.rows) (flat_map lines_text r.replies ++ (told_sessions (suc n) r.later ++ (line (codes "history") ++ r.behind))));
}

-- the first line of a reply
reply_on : (n : ℕ) (l t : List ℕ) (o : Option FirstLine) → first_in l ≡ o → may_reply n o ≡ true → AreSessions n (rows_due o) t → AreSessions n 0 (line l ++ t)
reply_on zero l t o e may r = absurd cc
reply_on (suc k) l t None e may r = absurd cc
reply_on (suc k) l t (Some f) e may r =
    let reply : ReplyLine = with_rows f.reply r.rows in
    let p = first_is l f e r.rows r.count r.rows_hold in
    let tail : List ℕ = told_sessions (suc (suc k)) r.later ++ (line (codes "history") ++ r.behind) in
    let first : line l ++ flat_map line r.rows ≡ lines_text reply = ap (λ x. line x ++ flat_map line r.rows) p.text_is ∙ ap (λ xs. line (words (line_words reply)) ++ flat_map line xs) (sym p.rows) in
    record {
      rows = [];
      replies = reply ∷ r.replies;
      later = r.later;
      behind = r.behind;
      count = refl;
      rows_hold = tt;
      above = λ e. absurd (omega (arith, e));
      replies_hold = (p.holds, r.replies_hold);
      fits = r.fits;
      later_hold = r.later_hold;
      ending = r.ending;
      is = ap (λ x. line l ++ x) r.is ∙ sym (append_assoc (line l) (flat_map line r.rows) (flat_map lines_text r.replies ++ tail)) ∙ ap (λ x. x ++ (flat_map lines_text r.replies ++ tail)) first ∙ sym (append_assoc (lines_text reply) (flat_map lines_text r.replies) tail);
    }

-- the first line of a session
session_on : (n : ℕ) (l t : List ℕ) → begins_session n l ≡ true → AreSessions (suc n) 0 t → AreSessions n 0 (line l ++ t)
session_on n l t begins r =
    let p = and_parts (nat_lt (suc n) (2 ^ 64)) (same l (session_line (suc n))) begins in
    let bound : suc n < 2 ^ 64 = ltb-true (suc n) (2 ^ 64) p.0 in
    let more = r.fits bound in
    let first : List ℕ = line (session_line (suc n)) in
    let told : List ℕ = flat_map lines_text r.replies in
    let later : List ℕ = told_sessions (suc (suc n)) r.later in
    let behind : List ℕ = line (codes "history") ++ r.behind in
    record {
      rows = [];
      replies = [];
      later = r.replies ∷ r.later;
      behind = r.behind;
      count = refl;
      rows_hold = tt;
      above = λ e. refl;
      replies_hold = tt;
      fits = λ h. omega (arith, more);
      later_hold = (r.replies_hold, r.later_hold);
      ending = r.ending;
      is =
          ap (λ x. line l ++ x) (r.is ∙ ap (λ rows. flat_map line rows ++ (told ++ (later ++ behind))) (nil_from_length r.rows r.count)) ∙ ap (λ x. line x ++ (told ++ (later ++ behind))) (same_text l (session_line (suc n)) p.1)
          ∙ sym (append_assoc first told (later ++ behind)) ∙ sym (append_assoc (first ++ told) later behind);
    }

history_on : (n : ℕ) (l t : List ℕ) → same l (codes "history") ≡ true → AreEvents t → AreSessions n 0 (line l ++ t)
history_on n l t is r = record {
  rows = [];
  replies = [];
  later = [];
  behind = t;
  count = refl;
  rows_hold = tt;
  above = λ e. refl;
  replies_hold = tt;
  fits = λ h. omega arith;
  later_hold = tt;
  ending = r;
  is = ap (λ x. line x ++ t) (same_text l (codes "history") is);
}

sessions_on : (n : ℕ) (l t : List ℕ) (reply begins : Bool) → may_reply n (first_in l) ≡ reply → begins_session n l ≡ begins → reply || (begins || same l (codes "history")) ≡ true
    → Rest (cond reply (sessions n (rows_due (first_in l))) (cond begins (sessions (suc n) 0) history)) t → AreSessions n 0 (line l ++ t)
sessions_on n l t true begins e f may r = reply_on n l t (first_in l) refl e r
sessions_on n l t false true e f may r = session_on n l t f r
sessions_on n l t false false e f may r = history_on n l t may r

history_more : (l t : List ℕ) (event : Option Event) (end : Option LastLine) → event_in l ≡ event → last_in l ≡ end → is_some event || is_some end ≡ true → Rest (cond (is_some event) history ended) t → AreEvents (line l ++ t)
history_more l t (Some e) end is last may r =
    let p = event_is l e is in
    record {
      events = e ∷ r.events;
      end = r.end;
      hold = (p.1, r.hold);
      fits = r.fits;
      is = ap (λ x. line x ++ t) p.0 ∙ ap (λ x. event_line e ++ x) r.is ∙ sym (append_assoc (event_line e) (flat_map event_line r.events) (last_text r.end));
    }
history_more l t None (Some end) none is may r =
    let p = last_is l end is in
    record { events = []; end = end; hold = tt; fits = p.1; is = ap (λ x. line x ++ t) p.0 ∙ ap (λ x. last_text end ++ x) r ∙ append-nil (last_text end) }
history_more l t None None none is may r = absurd cc

line_on : (stage : Stage) (l t : List ℕ) → stands stage l ≡ true → Rest (after stage l) t → Rest stage (line l ++ t)
line_on (sessions n zero) l t may r = sessions_on n l t (may_reply n (first_in l)) (begins_session n l) refl refl may r
line_on (sessions n (suc due)) l t may r = row_on n due l t may r
line_on history l t may r = history_more l t (event_in l) (last_in l) refl refl may r
line_on ended l t may r = absurd cc

-- lines put together again
joined : List (List ℕ) → List ℕ
joined [] = []
joined (l ∷ []) = l
joined (l ∷ m ∷ more) = line l ++ joined (m ∷ more)

joined_cut : (text : List ℕ) → joined (cut 10 text) ≡ text
unfolding joined
joined_cut [] = refl
joined_cut (b ∷ bytes) = by (eqb b 10) refl (some_piece 10 bytes) (joined_cut bytes)
  where
    on : (p : List ℕ) (ps : List (List ℕ)) → joined ((b ∷ p) ∷ ps) ≡ b ∷ joined (p ∷ ps)
    on p [] = refl
    on p (q ∷ ps) = refl

    by : (t : Bool) → eqb b 10 ≡ t → (p : List ℕ) × (ps : List (List ℕ)) × (cut 10 bytes ≡ p ∷ ps) → joined (cut 10 bytes) ≡ bytes → joined (cond t ([] ∷ cut 10 bytes) (onto_first b (cut 10 bytes))) ≡ b ∷ bytes
    by true is some more = ap (λ ps. joined ([] ∷ ps)) some.2 ∙ ap (λ n. n ∷ joined (some.0 ∷ some.1)) (sym (eqb-true b 10 is)) ∙ ap (λ ps. b ∷ joined ps) (sym some.2) ∙ ap (λ xs. b ∷ xs) more
    by false is some more = ap (λ ps. joined (onto_first b ps)) some.2 ∙ on some.0 some.1 ∙ ap (λ ps. b ∷ joined ps) (sym some.2) ∙ ap (λ xs. b ∷ xs) more

at_end : (stage : Stage) (rest : List ℕ) → may_end stage rest ≡ true → Rest stage rest
at_end ended [] g = refl
at_end ended (b ∷ rest) g = absurd cc
at_end history rest g = absurd cc
at_end (sessions n due) rest g = absurd cc

spelled : (stage : Stage) (pieces : List (List ℕ)) → goes stage pieces ≡ true → Rest stage (joined pieces)
unfolding joined
spelled stage [] g = absurd cc
spelled stage (rest ∷ []) g = at_end stage rest g
spelled stage (l ∷ m ∷ more) g = by (stands stage l) refl g (spelled (after stage l) (m ∷ more))
  where
    by : (t : Bool) → stands stage l ≡ t → cond t (goes (after stage l) (m ∷ more)) false ≡ true → (goes (after stage l) (m ∷ more) ≡ true → Rest (after stage l) (joined (m ∷ more))) → Rest stage (line l ++ joined (m ∷ more))
    by true may g next = line_on stage l (joined (m ∷ more)) may (next g)
    by false may g next = absurd cc

pub goes_has : (text : List ℕ) → Goes (sessions 0 0) text → HasOutput text
goes_has text g =
    let r : AreSessions 0 0 (joined (cut 10 text)) = spelled (sessions 0 0) (cut 10 text) g in
    let count = r.fits (omega arith) in
    let head : List ℕ = told_sessions 1 r.later in
    let word : List ℕ = line (codes "history") in
    let events : List ℕ = flat_map event_line r.ending.events in
    let out : Output = record { replies = r.later; events = r.ending.events; last = r.ending.end } in
    let e : text ≡ head ++ (word ++ (events ++ last_text r.ending.end)) =
    sym (joined_cut text) ∙ r.is
    ∙ ap (λ rows. flat_map line rows ++ (flat_map lines_text r.replies ++ (head ++ (word ++ r.behind)))) (nil_from_length r.rows r.count)
    ∙ ap (λ rs. flat_map lines_text rs ++ (head ++ (word ++ r.behind))) (r.above refl)
    ∙ ap (λ x. head ++ (word ++ x)) r.ending.is in (
      out,
      record {
        holds = record { count = omega (arith, count); replies = r.later_hold; events = r.ending.hold; last = r.ending.fits };
        text_is = e ∙ sym (append_assoc (head ++ word) events (last_text r.ending.end) ∙ append_assoc head word (events ++ last_text r.ending.end));
      },
    )

pub has_goes : (text : List ℕ) → HasOutput text → Goes (sessions 0 0) text
has_goes text h = subst (Goes (sessions 0 0)) (sym h.1.text_is) (told_goes h.0 h.1.holds)

-- ---- from each stage on some text goes

alive : (stage : Stage) → (t : List ℕ) × Goes stage t
alive ended = ([], refl)
alive history = (last_text last.Stopped, last_end last.Stopped tt)
alive (sessions n due) =
    let rows : List (List ℕ) = replicate due (codes "0") in
    let behind : List ℕ = line (codes "history") ++ last_text last.Stopped in
    (flat_map line rows ++ behind, subst (λ k. Goes (sessions n k) (flat_map line rows ++ behind)) (length-replicate due (codes "0")) (rows_end n rows behind (zeros due) (history_end n (last_text last.Stopped) (last_end last.Stopped tt))))

-- a line that may stand has no newline
stands_clean : (stage : Stage) (l : List ℕ) → stands stage l ≡ true → Without 10 l
stands_clean (sessions n (suc due)) l may = let p = row_line l may in recursion_from_All (λ b. b ≢ 10) l p.0
stands_clean (sessions n zero) l may = by n (first_in l) refl (begins_session n l) refl may
  where
    by : (n : ℕ) (o : Option FirstLine) → first_in l ≡ o → (b : Bool) → begins_session n l ≡ b → may_reply n o || (b || same l (codes "history")) ≡ true → Without 10 l
    by (suc k) (Some f) e b g may =
        let rows : List (List ℕ) = replicate f.due (codes "0") in
        let p = first_is l f e rows (length-replicate f.due (codes "0")) (zeros f.due) in
        subst (Without 10) (sym p.text_is) (ink_in_line (line_words (with_rows f.reply rows)) (line_ink (with_rows f.reply rows) p.holds.numbers))
    by n o e true g may =
        let p = and_parts (nat_lt (suc n) (2 ^ 64)) (same l (session_line (suc n))) g in
        subst (Without 10) (sym (same_text l (session_line (suc n)) p.1)) (ink_in_line (codes "session" ∷ decimal (suc n) ∷ []) (session_ink (suc n) (ltb-true (suc n) (2 ^ 64) p.0)))
    by zero o e false g may = subst (Without 10) (sym (same_text l (codes "history") may)) history_word
    by (suc k) None e false g may = subst (Without 10) (sym (same_text l (codes "history") may)) history_word
stands_clean history l may = by (event_in l) refl (last_in l) refl may
  where
    by : (event : Option Event) → event_in l ≡ event → (end : Option LastLine) → last_in l ≡ end → is_some event || is_some end ≡ true → Without 10 l
    by (Some e) is end f may = let p = event_is l e is in subst (Without 10) (sym p.0) (ink_in_line (event_words e) (event_ink e p.1.numbers))
    by None none (Some end) is may = let p = last_is l end is in subst (Without 10) (sym p.0) (last_clean end p.1)
    by None none None is may = absurd cc
stands_clean ended l may = absurd cc

-- ---- where a line is at fault

-- more has to stand there
abbrev pub Open : Stage → Type 0
Open stage = (rest : List ℕ) → may_end stage rest ≡ false

-- what goes on begins with the front of a line
first_piece : (stage : Stage) (k r : List ℕ) → Open stage → Without 10 k → Goes stage (k ++ r) → CanGoOn (MayStand stage) k
first_piece stage k r more clean g =
    let some = some_piece 10 r in
    by some.1 (sym (ap (goes stage) (cut_onto 10 k r some.0 some.1 clean some.2)) ∙ g)
  where
    line_first : (p : List ℕ) (t : Bool) (later : Bool) → stands stage (k ++ p) ≡ t → cond t later false ≡ true → CanGoOn (MayStand stage) k
    line_first p true later may g = (p, may)
    line_first p false later may g = absurd cc

    by : (ps : List (List ℕ)) → goes stage ((k ++ (some_piece 10 r).0) ∷ ps) ≡ true → CanGoOn (MayStand stage) k
    by [] g = absurd (let none = more (k ++ (some_piece 10 r).0) in cc)
    by (q ∷ qs) g = line_first (some_piece 10 r).0 (stands stage (k ++ (some_piece 10 r).0)) (goes (after stage (k ++ (some_piece 10 r).0)) (q ∷ qs)) refl g

clean_front : (l : List ℕ) (n : ℕ) → Without 10 l → Without 10 (take n l)
clean_front [] zero p = tt
clean_front [] (suc n) p = tt
clean_front (b ∷ l) zero p = tt
clean_front (b ∷ l) (suc n) p = (p.0, clean_front l n p.1)

module _ (stage : Stage) (l tail : List ℕ) (m : ℕ) (more : Open stage) (clean : Without 10 l) (fault : IsFault (MayStand stage) l m) where
  -- the fault of a line is that of the text, if nothing goes on behind the whole line
  pub piece_fault : (length l < length (l ++ tail) → ¬ CanGoOn (Goes stage) (take (suc (length l)) (l ++ tail))) → IsFault (Goes stage) (l ++ tail) m
  piece_fault stop = record {
    within = omega (arith, fault.within, length-append l tail);
    front = (c.0 ++ 10 ∷ behind.0, subst (Goes stage) flat (goes_line stage (take m l ++ c.0) behind.0 (stands_clean stage (take m l ++ c.0) c.1) ∙ ap (λ b. cond b (goes (after stage (take m l ++ c.0)) (cut 10 behind.0)) false) c.1 ∙ behind.1));
    ends = λ lt g. by (cases_order m (length l)) lt g;
  }
    where
      c : CanGoOn (MayStand stage) (take m l)
      c = fault.front

      behind : (t : List ℕ) × Goes (after stage (take m l ++ c.0)) t
      behind = alive (after stage (take m l ++ c.0))

      flat : line (take m l ++ c.0) ++ behind.0 ≡ take m (l ++ tail) ++ (c.0 ++ 10 ∷ behind.0)
      flat =
          append_assoc (take m l ++ c.0) (10 ∷ []) behind.0 ∙ append_assoc (take m l) c.0 (10 ∷ behind.0)
          ∙ ap (λ (x : List ℕ). x ++ (c.0 ++ 10 ∷ behind.0)) (sym (take-append-le m l tail fault.within))

      short : m < length l → CanGoOn (Goes stage) (take (suc m) (l ++ tail)) → ⊥
      short lt g =
          let here : take (suc m) (l ++ tail) ≡ take (suc m) l = take-append-le (suc m) l tail lt in
          fault.ends lt (first_piece stage (take (suc m) l) g.0 more (clean_front l (suc m) clean) (subst (λ (x : List ℕ). Goes stage (x ++ g.0)) here g.1))

      by : (m ≡ length l) ⊎ ((m < length l) ⊎ (length l < m)) → m < length (l ++ tail) → CanGoOn (Goes stage) (take (suc m) (l ++ tail)) → ⊥
      by (inl e) lt g = stop (omega (arith, e, lt)) (subst (λ n. CanGoOn (Goes stage) (take (suc n) (l ++ tail))) e g)
      by (inr (inl short_of)) lt g = short short_of g
      by (inr (inr past)) lt g = absurd (omega (arith, past, fault.within))

-- a line that may not stand
pub line_fault : (stage : Stage) (l behind : List ℕ) (m : ℕ) → Open stage → Without 10 l → stands stage l ≡ false → IsFault (MayStand stage) l m → IsFault (Goes stage) (line l ++ behind) m
line_fault stage l behind m more clean bad fault =
    subst (λ (x : List ℕ). IsFault (Goes stage) x m) (sym (append_assoc l (10 ∷ []) behind)) (piece_fault stage l (10 ∷ behind) m more clean fault stop)
  where
    here : take (suc (length l)) (l ++ 10 ∷ behind) ≡ line l
    here =
        let size : suc (length l) ≡ length (line l) = omega (arith, length-append l (10 ∷ [])) in
        ap (λ (x : List ℕ). take (suc (length l)) x) (sym (append_assoc l (10 ∷ []) behind)) ∙ ap (λ n. take n (line l ++ behind)) size ∙ take-append_seam (line l) behind

    stop : length l < length (l ++ 10 ∷ behind) → ¬ CanGoOn (Goes stage) (take (suc (length l)) (l ++ 10 ∷ behind))
    stop lt g =
        let on : Goes stage (line l ++ g.0) = subst (λ (x : List ℕ). Goes stage (x ++ g.0)) here g.1 in
        let none : goes stage (cut 10 (line l ++ g.0)) ≡ false = goes_line stage l g.0 clean ∙ ap (λ b. cond b (goes (after stage l) (cut 10 g.0)) false) bad in
        absurd cc

-- the bytes behind the last newline
pub rest_fault : (stage : Stage) (rest : List ℕ) (m : ℕ) → Open stage → Without 10 rest → IsFault (MayStand stage) rest m → IsFault (Goes stage) rest m
rest_fault stage rest m more clean fault =
    subst (λ (x : List ℕ). IsFault (Goes stage) x m) (append-nil rest) (piece_fault stage rest [] m more clean fault (λ lt. absurd (omega (arith, lt, length-append rest []))))

pub rest_none : (stage : Stage) (rest : List ℕ) → Open stage → Without 10 rest → goes stage (cut 10 rest) ≡ false
rest_none stage rest more clean = ap (goes stage) (cut_end 10 rest clean) ∙ more rest
