-- Which bytes the words and the rows of an output have.
use Rattle.std.proofs.Common.{◌≡◌, ℕ, ◌+◌, ◌/◌, ◌%◌, ◌<◌, ◌≤◌, List, [], ◌∷◌, ◌++◌, refl, subst, arith, map, Bool, true, false, ◌&&◌}
use Rattle.std.specs.Prelude.{◌≢◌, ◌||◌, ◌==◌, nat_lt, codes, if◌then◌else◌}
use Rattle.std.specs.List.{flat_map, AllByRecursion, list_all}
use Rattle.std.specs.Fmt.{decimal, signed_decimal}
use Rattle.std.proofs.lemmas.Bool.Decides.{nat_tests}
use Rattle.kt_base.specs.declared.cell.Kind.{Kind}
use Rattle.kt_base.specs.declared.cell.Kind.TheVariants as kind
use Rattle.kt_base.specs.declared.cell.Cell.{Cell}
use Rattle.kt_base.specs.declared.cell.Cell.TheVariants as cell
use Rattle.kt_history.specs.declared.change.Outcome.{Outcome}
use Rattle.kt_history.specs.declared.change.Outcome.TheVariants.{Done, Present, Absent, Ignored}
use Rattle.kt_history.specs.declared.event.Event.{Event}
use Rattle.kt_history.specs.declared.event.Event.TheVariants as event
use Rattle.kt_script.specs.declared.replies.ReplyLine.{ReplyLine}
use Rattle.kt_script.specs.declared.replies.ReplyLine.TheVariants as reply
use Rattle.kt_script.specs.declared.output.LastLine.{LastLine}
use Rattle.kt_script.specs.declared.output.LastLine.TheVariants as last
use Rattle.kt_base.specs.Literals.{hex, string_byte, bytes_literal, literal}
use Rattle.kt_script.specs.Texts.{spaced, words, literals, row_text, outcome_word, line_word, line_numbers, line_outcomes, line_words, event_word, event_numbers, event_words, last_words}
use Rattle.kt_script.specs.Laws.{Fits64, LastFits}
use Rattle.kt_base.proofs.Decimals.{IsInk, decimal_ink, signed_ink, no_byte}
use Rattle.kt_script.proofs.Cuts.{Without}

pub join : {X : Type 0} (P : X → Type 0) (xs ys : List X) → AllByRecursion P xs → AllByRecursion P ys → AllByRecursion P (xs ++ ys)
join P [] ys all more_all = more_all
join P (x ∷ xs) ys all more_all = (all.0, join P xs ys all.1 more_all)

-- bytes above the space
abbrev pub Ink : List ℕ → Type 0
Ink w = AllByRecursion IsInk w

ink : (xs : List ℕ) → list_all (λ c. nat_lt 32 c) xs ≡ true → Ink xs
ink [] h = tt
ink (x ∷ xs) h = (above x (left _ _ h), ink xs (right _ _ h))
  where
    above : (n : ℕ) → nat_lt 32 n ≡ true → 32 < n
    above n t = grind (arith, nat_tests)

    left : (a b : Bool) → (a && b) ≡ true → a ≡ true
    left true b g = refl
    left false b g = g

    right : (a b : Bool) → (a && b) ≡ true → b ≡ true
    right true b g = g
    right false b g = cc

numbers_ink : (ns : List ℕ) → AllByRecursion Fits64 ns → AllByRecursion Ink (map decimal ns)
numbers_ink [] p = tt
numbers_ink (n ∷ ns) p = (decimal_ink n, numbers_ink ns p.1)

pub outcome_ink : (o : Outcome) → Ink (outcome_word o)
outcome_ink Done = ink (codes "ok") refl
outcome_ink Present = ink (codes "present") refl
outcome_ink Absent = ink (codes "absent") refl
outcome_ink Ignored = ink (codes "ignored") refl

outcomes_ink : (os : List Outcome) → AllByRecursion Ink (map outcome_word os)
outcomes_ink [] = tt
outcomes_ink (o ∷ os) = (outcome_ink o, outcomes_ink os)

line_word_ink : (r : ReplyLine) → Ink (line_word r)
line_word_ink (reply.At ts os) = ink (codes "at") refl
line_word_ink (reply.Rows t lines) = ink (codes "rows") refl
line_word_ink (reply.Ancient t a) = ink (codes "ancient") refl
line_word_ink (reply.Busy t f) = ink (codes "busy") refl
line_word_ink (reply.Ahm a) = ink (codes "ahm") refl
line_word_ink reply.Done = ink (codes "done") refl
line_word_ink (reply.Large n) = ink (codes "large") refl
line_word_ink reply.Stopped = ink (codes "stopped") refl

line_outcomes_ink : (r : ReplyLine) → AllByRecursion Ink (line_outcomes r)
line_outcomes_ink (reply.At ts os) = outcomes_ink os
line_outcomes_ink (reply.Rows t lines) = tt
line_outcomes_ink (reply.Ancient t a) = tt
line_outcomes_ink (reply.Busy t f) = tt
line_outcomes_ink (reply.Ahm a) = tt
line_outcomes_ink reply.Done = tt
line_outcomes_ink (reply.Large n) = tt
line_outcomes_ink reply.Stopped = tt

pub line_ink : (r : ReplyLine) → AllByRecursion Fits64 (line_numbers r) → AllByRecursion Ink (line_words r)
line_ink r p = (line_word_ink r, join Ink (map decimal (line_numbers r)) (line_outcomes r) (numbers_ink (line_numbers r) p) (line_outcomes_ink r))

event_word_ink : (e : Event) → Ink (event_word e)
event_word_ink (event.Begin s i ts m) = ink (codes "begin") refl
event_word_ink (event.End s i ts) = ink (codes "end") refl
event_word_ink (event.Look s i t m) = ink (codes "look") refl
event_word_ink (event.Rows s i t) = ink (codes "rows") refl
event_word_ink (event.Ancient s i t a) = ink (codes "ancient") refl
event_word_ink (event.Busy s i t f) = ink (codes "busy") refl
event_word_ink (event.Mark s i a) = ink (codes "mark") refl
event_word_ink (event.Chore s i) = ink (codes "chore") refl
event_word_ink (event.Large s i n) = ink (codes "large") refl
event_word_ink event.Stop = ink (codes "stop") refl

pub event_ink : (e : Event) → AllByRecursion Fits64 (event_numbers e) → AllByRecursion Ink (event_words e)
event_ink e p = (event_word_ink e, numbers_ink (event_numbers e) p)

pub last_ink : (end : LastLine) → LastFits end → AllByRecursion Ink (last_words end)
last_ink (last.Numbers a c rowsets) p =
    (ink (codes "tablet") refl, (ink (codes "ahm") refl, (decimal_ink a, (ink (codes "last") refl, (decimal_ink c, (ink (codes "rowsets") refl, (decimal_ink rowsets, tt)))))))
last_ink last.Stopped p = (ink (codes "tablet") refl, (ink (codes "stopped") refl, tt))

pub session_ink : (s : ℕ) → Fits64 s → AllByRecursion Ink (codes "session" ∷ decimal s ∷ [])
session_ink s h = (ink (codes "session") refl, (decimal_ink s, tt))

-- words of ink have no space, and no newline
pub without : (byte : ℕ) → byte ≤ 32 → (ws : List (List ℕ)) → AllByRecursion Ink ws → AllByRecursion (Without byte) ws
without byte h [] p = tt
without byte h (w ∷ ws) p = (no_byte byte h w p.0, without byte h ws p.1)

spaced_in_line : (ws : List (List ℕ)) → AllByRecursion (Without 10) ws → Without 10 (flat_map spaced ws)
spaced_in_line [] p = tt
spaced_in_line (w ∷ ws) p = (λ e. omega arith, join (λ c. c ≢ 10) w (flat_map spaced ws) p.0 (spaced_in_line ws p.1))

-- words without a newline make a line
pub words_in_line : (ws : List (List ℕ)) → AllByRecursion (Without 10) ws → Without 10 (words ws)
words_in_line [] p = tt
words_in_line (w ∷ ws) p = join (λ c. c ≢ 10) w (flat_map spaced ws) p.0 (spaced_in_line ws p.1)

pub ink_in_line : (ws : List (List ℕ)) → AllByRecursion Ink ws → Without 10 (words ws)
ink_in_line ws p = words_in_line ws (without 10 (omega arith) ws p)

digit_in_line : (n : ℕ) (t : Bool) → (if t then 48 + n else 87 + n) ≢ 10
digit_in_line n true e = omega arith
digit_in_line n false e = omega arith

hex_in_line : (b : ℕ) → Without 10 (hex b)
hex_in_line b = (digit_in_line (b / 16) (nat_lt (b / 16) 10), (digit_in_line (b % 16) (nat_lt (b % 16) 10), tt))

string_byte_in_line : (b : ℕ) → Without 10 (string_byte b)
string_byte_in_line b = by_tests ((b == 34) || (b == 92)) (nat_lt b 32 || (b == 127)) refl refl
  where
    by_tests : (t u : Bool) → ((b == 34) || (b == 92)) ≡ t → (nat_lt b 32 || (b == 127)) ≡ u → Without 10 (if t then 92 ∷ b ∷ [] else (if u then 92 ∷ 120 ∷ hex b else b ∷ []))
    by_tests true u e f = ((λ g. omega arith), ((λ g. let h : ((10 == 34) || (10 == 92)) ≡ true = subst (λ n. ((n == 34) || (n == 92)) ≡ true) g e in cc), tt))
    by_tests false true e f = ((λ g. omega arith), ((λ g. omega arith), hex_in_line b))
    by_tests false false e f = ((λ g. let h : (nat_lt 10 32 || (10 == 127)) ≡ false = subst (λ n. (nat_lt n 32 || (n == 127)) ≡ false) g f in cc), tt)

each_in_line : (f : ℕ → List ℕ) → ((b : ℕ) → Without 10 (f b)) → (bytes : List ℕ) → Without 10 (flat_map f bytes)
each_in_line f p [] = tt
each_in_line f p (b ∷ bytes) = join (λ c. c ≢ 10) (f b) (flat_map f bytes) (p b) (each_in_line f p bytes)

quote : Without 10 (34 ∷ [])
quote = ((λ e. omega arith), tt)

string_in_line : (bytes : List ℕ) → Without 10 (34 ∷ (flat_map string_byte bytes ++ 34 ∷ []))
string_in_line bytes = ((λ e. omega arith), join (λ c. c ≢ 10) (flat_map string_byte bytes) (34 ∷ []) (each_in_line string_byte string_byte_in_line bytes) quote)

binary_in_line : (bytes : List ℕ) → Without 10 (120 ∷ 34 ∷ (flat_map hex bytes ++ 34 ∷ []))
binary_in_line bytes = ((λ e. omega arith), ((λ e. omega arith), join (λ c. c ≢ 10) (flat_map hex bytes) (34 ∷ []) (each_in_line hex hex_in_line bytes) quote))

bytes_in_line : (k : Kind) (bytes : List ℕ) → Without 10 (bytes_literal k bytes)
bytes_in_line kind.Bool bytes = string_in_line bytes
bytes_in_line kind.Int8 bytes = string_in_line bytes
bytes_in_line kind.Int16 bytes = string_in_line bytes
bytes_in_line kind.Int32 bytes = string_in_line bytes
bytes_in_line kind.Int64 bytes = string_in_line bytes
bytes_in_line kind.String bytes = string_in_line bytes
bytes_in_line kind.Binary bytes = binary_in_line bytes

literal_in_line : (k : Kind) (c : Cell) → Without 10 (literal k c)
literal_in_line k cell.Null = no_byte 10 (omega arith) (codes "null") (ink (codes "null") refl)
literal_in_line k (cell.Int n) = no_byte 10 (omega arith) (signed_decimal n) (signed_ink n)
literal_in_line k (cell.Bool false) = no_byte 10 (omega arith) (codes "false") (ink (codes "false") refl)
literal_in_line k (cell.Bool true) = no_byte 10 (omega arith) (codes "true") (ink (codes "true") refl)
literal_in_line k (cell.Bytes bytes) = bytes_in_line k bytes

literals_in_line : (kinds : List Kind) (cells : List Cell) → AllByRecursion (Without 10) (literals kinds cells)
literals_in_line kinds [] = tt
literals_in_line [] (c ∷ cells) = tt
literals_in_line (k ∷ kinds) (c ∷ cells) = (literal_in_line k c, literals_in_line kinds cells)

-- a row is a line
pub row_in_line : (kinds : List Kind) (cells : List Cell) → Without 10 (row_text kinds cells)
row_in_line kinds cells = words_in_line (literals kinds cells) (literals_in_line kinds cells)
