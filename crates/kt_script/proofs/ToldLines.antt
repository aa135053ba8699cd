-- A line of an output text says what it is the line of.
use Rattle.std.proofs.Common.{◌≡◌, ℕ, ◌^◌, Bool, true, false, cond, List, [], ◌∷◌, ◌++◌, length, map, Option, Some, None, refl, sym, ap, ◌∙◌, subst, arith, eqb, nat_lt}
use Rattle.std.specs.Prelude.{codes, Result, Ok}
use Rattle.std.specs.List.{onto_first, AllByRecursion}
use Rattle.std.specs.Option.{option_map, option_and_then}
use Rattle.std.specs.Fmt.{decimal}
use Rattle.std.specs.Str.Parse.{digits_value}
use Rattle.std.proofs.lemmas.Bool.{ltb-true, lt-ltb, eqb-true}
use Rattle.std.proofs.lemmas.Fmt.{decimal_is_IsNumeral}
use Rattle.std.proofs.lemmas.List.{append-nil}
use Rattle.std.specs.Cmp.Lexicographic.{nat_list_eq_equiv}
use Rattle.kt_base.specs.Literals.{same}
use Rattle.kt_history.specs.declared.change.Outcome.{Outcome}
use Rattle.kt_history.specs.declared.change.Outcome.TheVariants.{Done, Present, Absent, Ignored}
use Rattle.kt_history.specs.declared.event.Event.{Event}
use Rattle.kt_history.specs.declared.event.Event.TheVariants as event
use Rattle.kt_script.specs.declared.output.LastLine.{LastLine}
use Rattle.kt_script.specs.declared.output.LastLine.TheVariants as last
use Rattle.kt_script.specs.declared.replies.ReplyLine.{ReplyLine}
use Rattle.kt_script.specs.declared.replies.ReplyLine.TheVariants as reply
use Rattle.kt_script.specs.declared.out_lines.FirstLine.{FirstLine}
use Rattle.kt_script.specs.Texts.{words, outcome_word, line_word, line_numbers, line_outcomes, line_words, rows_in, event_word, event_numbers, event_words, last_words}
use Rattle.kt_script.specs.Pieces.{cut}
use Rattle.kt_script.specs.Laws.{Fits64, Fits32, LastFits, short_of_reply, short_of_event}
use Rattle.kt_script.specs.Outputs.{number_in, onto, numbers_in, if_word, outcome_in, outcomes_in, is_short, first, first_from, at_in, first_of_words, first_in, event_at, event_from, event_of_words, event_in, counted, unless_more, last_numbers, last_of_words, last_in, IsRowLine, LineHolds, EventHolds}
use Rattle.kt_script.specs.Reread.{with_rows}
use Rattle.kt_base.proofs.Decimals.{same_text}
use Rattle.kt_script.proofs.Cuts.{some_piece}

-- ---- words

pub words_first : (b : ℕ) (w : List ℕ) (ws : List (List ℕ)) → words (onto_first b (w ∷ ws)) ≡ b ∷ words (w ∷ ws)
words_first b w ws = refl

-- the words of a line, put together again
pub words_cut : (text : List ℕ) → words (cut 32 text) ≡ text
words_cut [] = refl
words_cut (b ∷ bytes) = by (eqb b 32) refl (some_piece 32 bytes) (words_cut bytes)
  where
    by : (t : Bool) → eqb b 32 ≡ t → (w : List ℕ) × (ws : List (List ℕ)) × (cut 32 bytes ≡ w ∷ ws) → words (cut 32 bytes) ≡ bytes → words (cond t ([] ∷ cut 32 bytes) (onto_first b (cut 32 bytes))) ≡ b ∷ bytes
    by true is some more = ap (λ ws. words ([] ∷ ws)) some.2 ∙ ap (λ n. n ∷ words (some.0 ∷ some.1)) (sym (eqb-true b 32 is)) ∙ ap (λ ws. b ∷ words ws) (sym some.2) ∙ ap (λ xs. b ∷ xs) more
    by false is some more = ap (λ ws. words (onto_first b ws)) some.2 ∙ ap (λ ws. b ∷ words ws) (sym some.2) ∙ ap (λ xs. b ∷ xs) more

pub same-self : (w : List ℕ) → same w w ≡ true
same-self w = nat_list_eq_equiv.refl w

-- a value by its word
word_case : {A : Type 0} (P : A → Type 0) (w name : List ℕ) (a : A) (later : Option A) (x : A) → if_word w name a later ≡ Some x → (w ≡ name → P a) → (later ≡ Some x → P x) → P x
word_case P w name a later x = by (same w name) refl
  where
    by : (t : Bool) → same w name ≡ t → cond t (Some a) later ≡ Some x → (w ≡ name → P a) → (later ≡ Some x → P x) → P x
    by true is e here there = let e' : a ≡ x = cc in subst P e' (here (same_text w name is))
    by false is e here there = there e

if_case : {A : Type 0} (P : Type 0) (t : Bool) (o : Option A) (x : A) → cond t o None ≡ Some x → (t ≡ true → o ≡ Some x → P) → P
if_case P true o x e next = next refl e
if_case P false o x e next = absurd cc

then_case : {A B : Type 0} (P : Type 0) (f : A → Option B) (o : Option A) (x : B) → option_and_then f o ≡ Some x → ((a : A) → o ≡ Some a → f a ≡ Some x → P) → P
then_case P f None x e next = absurd cc
then_case P f (Some a) x e next = next a refl e

map_case : {A B : Type 0} (P : Type 0) (f : A → B) (o : Option A) (x : B) → option_map f o ≡ Some x → ((a : A) → o ≡ Some a → f a ≡ x → P) → P
map_case P f None x e next = absurd cc
map_case P f (Some a) x e next = let e' : f a ≡ x = cc in next a refl e'

-- ---- numbers

pub number_is : (w : List ℕ) (n : ℕ) → number_in w ≡ Some n → (w ≡ decimal n) × Fits64 n
number_is w n e =
    let m : ℕ = digits_value 10 w in
    if_case ((w ≡ decimal n) × Fits64 n) (same (decimal m) w) (cond (nat_lt m (2 ^ 64)) (Some m) None) n e
    (λ is f. if_case ((w ≡ decimal n) × Fits64 n) (nat_lt m (2 ^ 64)) (Some m) n f
    (λ lt g. let e' : m ≡ n = cc in (subst (λ k. w ≡ decimal k) e' (sym (same_text (decimal m) w is)), subst Fits64 e' (ltb-true m (2 ^ 64) lt))))

pub number_told : (n : ℕ) → Fits64 n → number_in (decimal n) ≡ Some n
number_told n fits =
    let back : digits_value 10 (decimal n) ≡ n = (decimal_is_IsNumeral n fits).1 in
    ap (λ m. cond (same (decimal m) (decimal n)) (cond (nat_lt m (2 ^ 64)) (Some m) None) None) back
    ∙ ap (λ t. cond t (cond (nat_lt n (2 ^ 64)) (Some n) None) None) (same-self (decimal n)) ∙ ap (λ t. cond t (Some n) None) (lt-ltb n (2 ^ 64) fits)

pub number_none : (w : List ℕ) → ((n : ℕ) → Fits64 n → w ≡ decimal n → ⊥) → number_in w ≡ None
number_none w never = by (number_in w) refl
  where
    by : (o : Option ℕ) → number_in w ≡ o → o ≡ None
    by None e = refl
    by (Some n) e = let p = number_is w n e in absurd (never n p.1 p.0)

pub numbers_are : (ws : List (List ℕ)) (ns : List ℕ) → numbers_in ws ≡ Some ns → (ws ≡ map decimal ns) × AllByRecursion Fits64 ns
numbers_are [] ns e = let e' : [] ≡ ns = cc in (ap (map decimal) e', subst (AllByRecursion Fits64) e' tt)
numbers_are (w ∷ ws) ns e =
    then_case ((w ∷ ws ≡ map decimal ns) × AllByRecursion Fits64 ns) (λ n. onto n (numbers_in ws)) (number_in w) ns e
    (λ n is f. map_case ((w ∷ ws ≡ map decimal ns) × AllByRecursion Fits64 ns) (λ more. n ∷ more) (numbers_in ws) ns f
    (λ more rest g.
    let h = number_is w n is in
    let k = numbers_are ws more rest in
    (ap (λ x. x ∷ ws) h.0 ∙ ap (λ xs. decimal n ∷ xs) k.0 ∙ ap (map decimal) g, subst (AllByRecursion Fits64) g (h.1, k.1))))

pub numbers_told : (ns : List ℕ) → AllByRecursion Fits64 ns → numbers_in (map decimal ns) ≡ Some ns
numbers_told [] all = refl
numbers_told (n ∷ ns) all = ap (option_and_then (λ m. onto m (numbers_in (map decimal ns)))) (number_told n all.0) ∙ ap (onto n) (numbers_told ns all.1)

-- ---- outcomes

pub outcome_is : (w : List ℕ) (o : Outcome) → outcome_in w ≡ Some o → w ≡ outcome_word o
outcome_is w o e =
    word_case (λ x. w ≡ outcome_word x) w (codes "ok") Done _ o e (λ h. h)
    (λ f. word_case (λ x. w ≡ outcome_word x) w (codes "present") Present _ o f (λ h. h)
    (λ g. word_case (λ x. w ≡ outcome_word x) w (codes "absent") Absent _ o g (λ h. h)
    (λ k. word_case (λ x. w ≡ outcome_word x) w (codes "ignored") Ignored None o k (λ h. h) (λ h. absurd cc))))

outcome_told : (o : Outcome) → outcome_in (outcome_word o) ≡ Some o
outcome_told Done = refl
outcome_told Present = refl
outcome_told Absent = refl
outcome_told Ignored = refl

pub outcomes_are : (ws : List (List ℕ)) (os : List Outcome) → outcomes_in ws ≡ Some os → ws ≡ map outcome_word os
outcomes_are [] os e = let e' : [] ≡ os = cc in ap (map outcome_word) e'
outcomes_are (w ∷ ws) os e =
    then_case (w ∷ ws ≡ map outcome_word os) (λ o. onto o (outcomes_in ws)) (outcome_in w) os e
    (λ o is f. map_case (w ∷ ws ≡ map outcome_word os) (λ more. o ∷ more) (outcomes_in ws) os f
    (λ more rest g. ap (λ x. x ∷ ws) (outcome_is w o is) ∙ ap (λ xs. outcome_word o ∷ xs) (outcomes_are ws more rest) ∙ ap (map outcome_word) g))

pub outcomes_told : (os : List Outcome) → outcomes_in (map outcome_word os) ≡ Some os
outcomes_told [] = refl
outcomes_told (o ∷ os) = ap (option_and_then (λ x. onto x (outcomes_in (map outcome_word os)))) (outcome_told o) ∙ ap (onto o) (outcomes_told os)

-- ---- events

-- the event of a word and numbers
record Tells (w : List ℕ) (ns : List ℕ) (e : Event) : Type 0 where
  word : w ≡ event_word e
  numbers : ns ≡ event_numbers e
  short : AllByRecursion Fits32 (short_of_event e)

event_at_is : (w : List ℕ) (s i : ℕ) (ns : List ℕ) (e : Event) → Fits32 s → Fits32 i → event_at w s i ns ≡ Some e → Tells w (s ∷ i ∷ ns) e
event_at_is w s i [] e p q h = word_case (Tells w (s ∷ i ∷ [])) w (codes "chore") (event.Chore s i) None e h (λ is. record { word = is; numbers = refl; short = (p, (q, tt)) }) (λ f. absurd cc)
event_at_is w s i (a ∷ []) e p q h =
    let T : Event → Type 0 = Tells w (s ∷ i ∷ a ∷ []) in
    word_case T w (codes "end") (event.End s i a) _ e h (λ is. record { word = is; numbers = refl; short = (p, (q, tt)) })
    (λ f. word_case T w (codes "rows") (event.Rows s i a) _ e f (λ is. record { word = is; numbers = refl; short = (p, (q, tt)) })
    (λ g. word_case T w (codes "mark") (event.Mark s i a) _ e g (λ is. record { word = is; numbers = refl; short = (p, (q, tt)) })
    (λ k. if_case (T e) (is_short a) (if_word w (codes "large") (event.Large s i a) None) e k
    (λ lt l. word_case T w (codes "large") (event.Large s i a) None e l (λ is. record { word = is; numbers = refl; short = (p, (q, (ltb-true a (2 ^ 32) lt, tt))) }) (λ f. absurd cc)))))
event_at_is w s i (a ∷ b ∷ []) e p q h =
    let T : Event → Type 0 = Tells w (s ∷ i ∷ a ∷ b ∷ []) in
    word_case T w (codes "begin") (event.Begin s i a b) _ e h (λ is. record { word = is; numbers = refl; short = (p, (q, tt)) })
    (λ f. word_case T w (codes "look") (event.Look s i a b) _ e f (λ is. record { word = is; numbers = refl; short = (p, (q, tt)) })
    (λ g. word_case T w (codes "ancient") (event.Ancient s i a b) _ e g (λ is. record { word = is; numbers = refl; short = (p, (q, tt)) })
    (λ k. word_case T w (codes "busy") (event.Busy s i a b) None e k (λ is. record { word = is; numbers = refl; short = (p, (q, tt)) }) (λ l. absurd cc))))
event_at_is w s i (a ∷ b ∷ c ∷ ns) e p q h = absurd cc

event_from_is : (w : List ℕ) (ns : List ℕ) (e : Event) → event_from w ns ≡ Some e → Tells w ns e
event_from_is w [] e h = word_case (Tells w []) w (codes "stop") event.Stop None e h (λ is. record { word = is; numbers = refl; short = tt }) (λ f. absurd cc)
event_from_is w (s ∷ []) e h = absurd cc
event_from_is w (s ∷ i ∷ ns) e h =
    if_case (Tells w (s ∷ i ∷ ns) e) (is_short s) (cond (is_short i) (event_at w s i ns) None) e h
    (λ p f. if_case (Tells w (s ∷ i ∷ ns) e) (is_short i) (event_at w s i ns) e f
    (λ q g. event_at_is w s i ns e (ltb-true s (2 ^ 32) p) (ltb-true i (2 ^ 32) q) g))

pub event_is : (text : List ℕ) (e : Event) → event_in text ≡ Some e → (text ≡ words (event_words e)) × EventHolds e
event_is text e h = by (cut 32 text) (sym (words_cut text)) h
  where
    by : (ws : List (List ℕ)) → text ≡ words ws → event_of_words ws ≡ Some e → (text ≡ words (event_words e)) × EventHolds e
    by [] is f = absurd cc
    by (w ∷ ws) is f =
        then_case ((text ≡ words (event_words e)) × EventHolds e) (event_from w) (numbers_in ws) e f
        (λ ns rest g.
        let t = event_from_is w ns e g in
        let n = numbers_are ws ns rest in
        (is ∙ ap (λ x. words (x ∷ ws)) t.word ∙ ap (λ xs. words (event_word e ∷ xs)) (n.0 ∙ ap (map decimal) t.numbers), record { numbers = subst (AllByRecursion Fits64) t.numbers n.1; short = t.short }))

short-test : (n : ℕ) → Fits32 n → is_short n ≡ true
short-test n h = lt-ltb n (2 ^ 32) h

-- an event at a place of a session
at_place : (w : List ℕ) (s i : ℕ) (ns : List ℕ) → Fits32 s → Fits32 i → event_from w (s ∷ i ∷ ns) ≡ event_at w s i ns
at_place w s i ns p q = ap (λ t. cond t (cond (is_short i) (event_at w s i ns) None) None) (short-test s p) ∙ ap (λ t. cond t (event_at w s i ns) None) (short-test i q)

from_told : (e : Event) → AllByRecursion Fits32 (short_of_event e) → event_from (event_word e) (event_numbers e) ≡ Some e
from_told (event.Begin s i ts m) p = at_place (codes "begin") s i (ts ∷ m ∷ []) p.0 p.1.0
from_told (event.End s i ts) p = at_place (codes "end") s i (ts ∷ []) p.0 p.1.0
from_told (event.Look s i t m) p = at_place (codes "look") s i (t ∷ m ∷ []) p.0 p.1.0
from_told (event.Rows s i t) p = at_place (codes "rows") s i (t ∷ []) p.0 p.1.0
from_told (event.Ancient s i t a) p = at_place (codes "ancient") s i (t ∷ a ∷ []) p.0 p.1.0
from_told (event.Busy s i t f) p = at_place (codes "busy") s i (t ∷ f ∷ []) p.0 p.1.0
from_told (event.Mark s i a) p = at_place (codes "mark") s i (a ∷ []) p.0 p.1.0
from_told (event.Chore s i) p = at_place (codes "chore") s i [] p.0 p.1.0
from_told (event.Large s i n) p = at_place (codes "large") s i (n ∷ []) p.0 p.1.0 ∙ ap (λ t. cond t (Some (event.Large s i n)) None) (short-test n p.1.1.0)
from_told event.Stop p = refl

pub event_told : (e : Event) → EventHolds e → event_of_words (event_words e) ≡ Some e
event_told e holds = ap (option_and_then (event_from (event_word e))) (numbers_told (event_numbers e) holds.numbers) ∙ from_told e holds.short

-- ---- replies

-- the reply of a word and numbers, whatever its rows
record Begins (w : List ℕ) (ns : List ℕ) (f : FirstLine) : Type 0 where
  word : (lines : List (List ℕ)) → length lines ≡ f.due → w ≡ line_word (with_rows f.reply lines)
  numbers : (lines : List (List ℕ)) → length lines ≡ f.due → ns ≡ line_numbers (with_rows f.reply lines)
  outcomes : (lines : List (List ℕ)) → line_outcomes (with_rows f.reply lines) ≡ []
  short : (lines : List (List ℕ)) → AllByRecursion Fits32 (short_of_reply (with_rows f.reply lines))
  rows : (lines : List (List ℕ)) → length lines ≡ f.due → rows_in (with_rows f.reply lines) ≡ lines

no_lines : (lines : List (List ℕ)) → length lines ≡ 0 → [] ≡ lines
no_lines [] e = refl
no_lines (l ∷ lines) e = absurd (omega (arith, e))

first_from_is : (w : List ℕ) (ns : List ℕ) (f : FirstLine) → first_from w ns ≡ Some f → Begins w ns f
first_from_is w [] f h =
    word_case (Begins w []) w (codes "done") (first reply.Done) _ f h
    (λ is. record { word = λ l e. is; numbers = λ l e. refl; outcomes = λ l. refl; short = λ l. tt; rows = no_lines })
    (λ g. word_case (Begins w []) w (codes "stopped") (first reply.Stopped) None f g (λ is. record { word = λ l e. is; numbers = λ l e. refl; outcomes = λ l. refl; short = λ l. tt; rows = no_lines }) (λ k. absurd cc))
first_from_is w (a ∷ []) f h =
    word_case (Begins w (a ∷ [])) w (codes "ahm") (first (reply.Ahm a)) _ f h
    (λ is. record { word = λ l e. is; numbers = λ l e. refl; outcomes = λ l. refl; short = λ l. tt; rows = no_lines })
    (λ g. if_case (Begins w (a ∷ []) f) (is_short a) (if_word w (codes "large") (first (reply.Large a)) None) f g
    (λ lt k. word_case (Begins w (a ∷ [])) w (codes "large") (first (reply.Large a)) None f k
    (λ is. record { word = λ l e. is; numbers = λ l e. refl; outcomes = λ l. refl; short = λ l. (ltb-true a (2 ^ 32) lt, tt); rows = no_lines }) (λ l. absurd cc)))
first_from_is w (a ∷ b ∷ []) f h =
    word_case (Begins w (a ∷ b ∷ [])) w (codes "rows") (record { reply = reply.Rows a []; due = b }) _ f h
    (λ is. record { word = λ l e. is; numbers = λ l e. ap (λ n. a ∷ n ∷ []) (sym e); outcomes = λ l. refl; short = λ l. tt; rows = λ l e. refl })
    (λ g. word_case (Begins w (a ∷ b ∷ [])) w (codes "ancient") (first (reply.Ancient a b)) _ f g
    (λ is. record { word = λ l e. is; numbers = λ l e. refl; outcomes = λ l. refl; short = λ l. tt; rows = no_lines })
    (λ k. word_case (Begins w (a ∷ b ∷ [])) w (codes "busy") (first (reply.Busy a b)) None f k
    (λ is. record { word = λ l e. is; numbers = λ l e. refl; outcomes = λ l. refl; short = λ l. tt; rows = no_lines }) (λ l. absurd cc)))
first_from_is w (a ∷ b ∷ c ∷ ns) f h = absurd cc

-- what a first line says of its reply, once that has its rows
pub record IsFirstOf (text : List ℕ) (r : ReplyLine) (lines : List (List ℕ)) : Type 0 where
  pub text_is : text ≡ words (line_words r)
  pub holds : LineHolds r
  pub rows : rows_in r ≡ lines

abbrev Says : List ℕ → FirstLine → Type 0
Says text f = (lines : List (List ℕ)) → length lines ≡ f.due → AllByRecursion IsRowLine lines → IsFirstOf text (with_rows f.reply lines) lines

at_is : (text : List ℕ) (ws : List (List ℕ)) (f : FirstLine) → text ≡ words (codes "at" ∷ ws) → at_in ws ≡ Some f → Says text f
at_is text [] f is h = absurd cc
at_is text (ts ∷ ws) f is h =
    then_case (Says text f) (λ n. option_map (λ outcomes. first (reply.At n outcomes)) (outcomes_in ws)) (number_in ts) f h
    (λ n number g. map_case (Says text f) (λ outcomes. first (reply.At n outcomes)) (outcomes_in ws) f g
    (λ os outcomes e.
    let k = number_is ts n number in
    let o : ws ≡ map outcome_word os = outcomes_are ws os outcomes in
    subst (Says text) e (λ lines none rows. record {
      text_is = is ∙ ap (λ x. words (codes "at" ∷ x ∷ ws)) k.0 ∙ ap (λ xs. words (codes "at" ∷ decimal n ∷ xs)) o;
      holds = record { numbers = (k.1, tt); short = tt; rows = tt };
      rows = no_lines lines none;
    })))

pub first_is : (text : List ℕ) (f : FirstLine) → first_in text ≡ Some f → Says text f
first_is text f h = by (cut 32 text) (sym (words_cut text)) h
  where
    numbered : (w : List ℕ) (ws : List (List ℕ)) → text ≡ words (w ∷ ws) → option_and_then (first_from w) (numbers_in ws) ≡ Some f → Says text f
    numbered w ws is g =
        then_case (Says text f) (first_from w) (numbers_in ws) f g
        (λ ns rest k lines count rows.
        let b = first_from_is w ns f k in
        let n = numbers_are ws ns rest in
        let r : ReplyLine = with_rows f.reply lines in
        let behind : ws ≡ map decimal (line_numbers r) ++ line_outcomes r = n.0 ∙ ap (map decimal) (b.numbers lines count) ∙ sym (append-nil (map decimal (line_numbers r))) ∙ ap (λ xs. map decimal (line_numbers r) ++ xs) (sym (b.outcomes lines)) in
        record {
          text_is = is ∙ ap (λ x. words (x ∷ ws)) (b.word lines count) ∙ ap (λ xs. words (line_word r ∷ xs)) behind;
          holds = record { numbers = subst (AllByRecursion Fits64) (b.numbers lines count) n.1; short = b.short lines; rows = subst (AllByRecursion IsRowLine) (sym (b.rows lines count)) rows };
          rows = b.rows lines count;
        })

    by : (ws : List (List ℕ)) → text ≡ words ws → first_of_words ws ≡ Some f → Says text f
    by [] is g = absurd cc
    by (w ∷ ws) is g = choose (same w (codes "at")) refl g
      where
        choose : (t : Bool) → same w (codes "at") ≡ t → cond t (at_in ws) (option_and_then (first_from w) (numbers_in ws)) ≡ Some f → Says text f
        choose true e k = at_is text ws f (is ∙ ap (λ x. words (x ∷ ws)) (same_text w (codes "at") e)) k
        choose false e k = numbered w ws is k

-- the first line of a reply
abbrev pub first_line : ReplyLine → FirstLine
first_line r = record { reply = with_rows r []; due = length (rows_in r) }

numbered_told : (r : ReplyLine) → AllByRecursion Fits64 (line_numbers r) → line_outcomes r ≡ [] → same (line_word r) (codes "at") ≡ false → first_from (line_word r) (line_numbers r) ≡ Some (first_line r) → first_of_words (line_words r) ≡ Some (first_line r)
numbered_told r fits none other from =
    let ws : List (List ℕ) = map decimal (line_numbers r) ++ line_outcomes r in
    let numbers : ws ≡ map decimal (line_numbers r) = ap (λ xs. map decimal (line_numbers r) ++ xs) none ∙ append-nil (map decimal (line_numbers r)) in
    ap (λ t. cond t (at_in ws) (option_and_then (first_from (line_word r)) (numbers_in ws))) other
    ∙ ap (λ xs. option_and_then (first_from (line_word r)) (numbers_in xs)) numbers
    ∙ ap (option_and_then (first_from (line_word r))) (numbers_told (line_numbers r) fits) ∙ from

pub first_told : (r : ReplyLine) → AllByRecursion Fits64 (line_numbers r) → AllByRecursion Fits32 (short_of_reply r) → first_of_words (line_words r) ≡ Some (first_line r)
first_told (reply.At ts os) fits short =
    ap (option_and_then (λ n. option_map (λ outcomes. first (reply.At n outcomes)) (outcomes_in (map outcome_word os)))) (number_told ts fits.0)
    ∙ ap (option_map (λ outcomes. first (reply.At ts outcomes))) (outcomes_told os)
first_told (reply.Rows t lines) fits short = numbered_told (reply.Rows t lines) fits refl refl refl
first_told (reply.Ancient t a) fits short = numbered_told (reply.Ancient t a) fits refl refl refl
first_told (reply.Busy t f) fits short = numbered_told (reply.Busy t f) fits refl refl refl
first_told (reply.Ahm a) fits short = numbered_told (reply.Ahm a) fits refl refl refl
first_told reply.Done fits short = numbered_told reply.Done fits refl refl refl
first_told (reply.Large n) fits short = numbered_told (reply.Large n) fits refl refl (ap (λ t. cond t (Some (first (reply.Large n))) None) (short-test n short.0))
first_told reply.Stopped fits short = numbered_told reply.Stopped fits refl refl refl

-- ---- the last line

counted_is : (name : List ℕ) (ws : List (List ℕ)) (p : ℕ × List (List ℕ)) → counted name ws ≡ Some p → (ws ≡ name ∷ decimal p.0 ∷ p.1) × Fits64 p.0
counted_is name [] p h = absurd cc
counted_is name (w ∷ []) p h = absurd cc
counted_is name (w ∷ d ∷ ws) p h =
    if_case ((w ∷ d ∷ ws ≡ name ∷ decimal p.0 ∷ p.1) × Fits64 p.0) (same w name) (option_map (λ n. (n, ws)) (number_in d)) p h
    (λ is f. map_case ((w ∷ d ∷ ws ≡ name ∷ decimal p.0 ∷ p.1) × Fits64 p.0) (λ n. (n, ws)) (number_in d) p f
    (λ n number e.
    let k = number_is d n number in
    subst (λ (q : ℕ × List (List ℕ)). (w ∷ d ∷ ws ≡ name ∷ decimal q.0 ∷ q.1) × Fits64 q.0) e
    (ap (λ x. x ∷ d ∷ ws) (same_text w name is) ∙ ap (λ x. name ∷ x ∷ ws) k.0, k.1)))

nothing_more : (l end : LastLine) (ws : List (List ℕ)) → unless_more l ws ≡ Some end → (ws ≡ []) × (l ≡ end)
nothing_more l end [] h = (refl, cc)
nothing_more l end (w ∷ ws) h = absurd cc

numbers_end : (ws : List (List ℕ)) (end : LastLine) → last_numbers ws ≡ Some end → (codes "tablet" ∷ ws ≡ last_words end) × LastFits end
numbers_end ws end h =
    let P : Type 0 = (codes "tablet" ∷ ws ≡ last_words end) × LastFits end in
    then_case P _ (counted (codes "ahm") ws) end h
    (λ a first f. then_case P _ (counted (codes "last") a.1) end f
    (λ c second g. then_case P _ (counted (codes "rowsets") c.1) end g
    (λ n third k.
    let p = counted_is (codes "ahm") ws a first in
    let q = counted_is (codes "last") a.1 c second in
    let r = counted_is (codes "rowsets") c.1 n third in
    let e = nothing_more (last.Numbers a.0 c.0 n.0) end n.1 k in
    let all : codes "tablet" ∷ ws ≡ last_words (last.Numbers a.0 c.0 n.0) =
    ap (λ xs. codes "tablet" ∷ xs) p.0 ∙ ap (λ xs. codes "tablet" ∷ codes "ahm" ∷ decimal a.0 ∷ xs) q.0 ∙ ap (λ xs. codes "tablet" ∷ codes "ahm" ∷ decimal a.0 ∷ codes "last" ∷ decimal c.0 ∷ xs) r.0
    ∙ ap (λ xs. codes "tablet" ∷ codes "ahm" ∷ decimal a.0 ∷ codes "last" ∷ decimal c.0 ∷ codes "rowsets" ∷ decimal n.0 ∷ xs) e.0 in
    subst (λ (l : LastLine). (codes "tablet" ∷ ws ≡ last_words l) × LastFits l) e.1 (all, (p.1, q.1, r.1)))))

pub last_is : (text : List ℕ) (end : LastLine) → last_in text ≡ Some end → (text ≡ words (last_words end)) × LastFits end
last_is text end h = choose (same text (codes "tablet stopped")) refl h
  where
    by : (ws : List (List ℕ)) → text ≡ words ws → last_of_words ws ≡ Some end → (text ≡ words (last_words end)) × LastFits end
    by [] is f = absurd cc
    by (w ∷ ws) is f =
        if_case ((text ≡ words (last_words end)) × LastFits end) (same w (codes "tablet")) (last_numbers ws) end f
        (λ e g. let p = numbers_end ws end g in (is ∙ ap (λ x. words (x ∷ ws)) (same_text w (codes "tablet") e) ∙ ap words p.0, p.1))

    choose : (t : Bool) → same text (codes "tablet stopped") ≡ t → cond t (Some last.Stopped) (last_of_words (cut 32 text)) ≡ Some end → (text ≡ words (last_words end)) × LastFits end
    choose true e f = let end_is : last.Stopped ≡ end = cc in subst (λ (l : LastLine). (text ≡ words (last_words l)) × LastFits l) end_is (same_text text (codes "tablet stopped") e, tt)
    choose false e f = by (cut 32 text) (sym (words_cut text)) f

pub same_ok : {E : Type 0} (m n : ℕ) → ◌≡◌ {A = Result ℕ E} (Ok m) (Ok n) → m ≡ n
same_ok m n e = cc

pub not_same : (xs ys : List ℕ) → (xs ≡ ys → ⊥) → same xs ys ≡ false
not_same xs ys differ = by (same xs ys) refl
  where
    by : (t : Bool) → same xs ys ≡ t → t ≡ false
    by true is = absurd (differ (same_text xs ys is))
    by false is = refl
