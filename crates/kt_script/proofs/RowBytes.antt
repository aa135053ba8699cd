-- Where the bytes of a literal, and of a row line, stop being the front of one.
use Rattle.std.proofs.Common.{◌≡◌, ◌≢◌, ℕ, suc, ◌+◌, ◌<◌, ◌≤◌, Bool, true, false, ◌&&◌, ◌||◌, List, [], ◌∷◌, length, get_or, drop, Option, Some, None, refl, sym, ap, subst, ◌∙◌, arith}
use Rattle.std.specs.Prelude.{codes, is_some, ◌==◌, nat_le, if◌then◌else◌}
use Rattle.std.specs.List.{list_all, onto_first, AllByRecursion}
use Rattle.std.proofs.lemmas.Bool.{eqb-true}
use Rattle.std.proofs.lemmas.List.{drop_more, drop_all}
use Rattle.std.proofs.lemmas.List.Elements.{All-from_recursion}
use Rattle.kt_base.specs.Literals.{is_digit, is_hex, hex_value, is_escaped, value_in}
use Rattle.kt_script.specs.declared.lex.Lex.{Lex}
use Rattle.kt_script.specs.declared.lex.Lex.TheVariants.{Start, N, Nu, Nul, T, Tr, Tru, F, Fa, Fal, Fals, Minus, Zero, Digits, X, Text, Slash, High, Low, LowOfSeven, Pairs, Pair, Whole}
use Rattle.kt_script.specs.declared.word.Side.{Side}
use Rattle.kt_script.specs.declared.word.Side.TheVariants.{Outside, Inside, Slashed}
use Rattle.kt_script.specs.Pieces.{side_after, ends_word, words_from, words_of}
use Rattle.kt_script.specs.Places.{IsFault}
use Rattle.kt_script.specs.Lex.{next, low_of, is_whole, or_space, next_in_row}
use Rattle.kt_script.specs.Outputs.{is_row, IsRowLine}
use Rattle.kt_script.proofs.Pieces.{some_word}
use Rattle.kt_script.proofs.Places.{byte_on, byte_off, no_bytes, same_kind}
use Rattle.kt_script.proofs.LiteralBytes.{on_some, accepts, lit, and_true, literal_is}

-- ---- how far the bytes go on

abbrev pub steps_on : Option Lex → (Lex → ℕ) → ℕ
steps_on None f = 0
steps_on (Some t) f = suc (f t)

-- how many bytes are read until no literal goes on with the next
abbrev pub run : (Lex → ℕ → Option Lex) → Lex → List ℕ → ℕ
run step s [] = 0
run step s (b ∷ bytes) = steps_on (step s b) (λ t. run step t bytes)

abbrev Reaches : (Lex → ℕ → Option Lex) → Lex → List ℕ → Type 0
Reaches step s text = accepts step s text ≡ true

pub run_fault : (step : Lex → ℕ → Option Lex) → ((s : Lex) → (x : List ℕ) × Reaches step s x) → (bs : List ℕ) (s : Lex) → IsFault (Reaches step s) bs (run step s bs)
run_fault step ends [] s = no_bytes (Reaches step s) (ends s).0 (ends s).1
run_fault step ends (b ∷ bs) s = by (step s b) refl (run_fault step ends bs)
  where
    by : (o : Option Lex) → step s b ≡ o → ((t : Lex) → IsFault (Reaches step t) bs (run step t bs)) → IsFault (Reaches step s) (b ∷ bs) (steps_on o (λ t. run step t bs))
    by None e more = byte_off (Reaches step s) b bs (ends s).0 (ends s).1 (λ y h. let g : false ≡ true = sym (ap (λ o. on_some o (λ t. accepts step t y)) e) ∙ h in cc)
    by (Some t) e more = byte_on (Reaches step s) (Reaches step t) b bs (run step t bs) (λ x h. ap (λ o. on_some o (λ u. accepts step u x)) e ∙ h) (λ x h. sym (ap (λ o. on_some o (λ u. accepts step u x)) e) ∙ h) (more t)

-- from each place a literal ends
pub ending : (s : Lex) → (x : List ℕ) × Reaches next s x
ending Start = (codes "0", refl)
ending N = (codes "ull", refl)
ending Nu = (codes "ll", refl)
ending Nul = (codes "l", refl)
ending T = (codes "rue", refl)
ending Tr = (codes "ue", refl)
ending Tru = (codes "e", refl)
ending F = (codes "alse", refl)
ending Fa = (codes "lse", refl)
ending Fal = (codes "se", refl)
ending Fals = (codes "e", refl)
ending Minus = (codes "1", refl)
ending Zero = ([], refl)
ending Digits = ([], refl)
ending X = (codes "\"\"", refl)
ending Text = (codes "\"", refl)
ending Slash = (codes "\"\"", refl)
ending High = (codes "00\"", refl)
ending Low = (codes "0\"", refl)
ending LowOfSeven = (codes "f\"", refl)
ending Pairs = (codes "\"", refl)
ending Pair = (codes "0\"", refl)
ending Whole = ([], refl)

-- ---- a literal

-- ---- a row line

one_line : (s : Lex) (x : List ℕ) → Reaches next s x → Reaches next_in_row s x
one_line s [] h = h
one_line s (b ∷ x) h = by (next s b) refl h (λ t. one_line t x)
  where
    by : (o : Option Lex) → next s b ≡ o → on_some o (λ t. accepts next t x) ≡ true → ((t : Lex) → Reaches next t x → Reaches next_in_row t x) → on_some (or_space ((b == 32) && is_whole s) o) (λ t. accepts next_in_row t x) ≡ true
    by None e g more = absurd cc
    by (Some t) e g more = more t g

pub row_ending : (s : Lex) → (x : List ℕ) × Reaches next_in_row s x
row_ending s = let e = ending s in (e.0, one_line s e.0 e.1)

-- between which quotes a literal stands
abbrev side : Lex → Side
side Text = Inside
side Slash = Slashed
side High = Inside
side Low = Inside
side LowOfSeven = Inside
side Pairs = Inside
side Pair = Inside
side _ = Outside

abbrev Follows : Option Lex → Side → Type 0
Follows None sd = Unit {0}
Follows (Some t) sd = side t ≡ sd

test : (v : Bool) (t : Lex) (o : Option Lex) (sd : Side) → (v ≡ true → side t ≡ sd) → Follows o sd → Follows (if v then Some t else o) sd
test true t o sd h k = h refl
test false t o sd h k = k

at_byte : (from : Side) (b c : ℕ) → (b == c) ≡ true → side_after from c ≡ side_after from b
at_byte from b c e = sym (ap (side_after from) (eqb-true b c e))

outside_digit : (b : ℕ) → is_digit b ≡ true → Outside ≡ side_after Outside b
outside_digit b h = by (b == 34) refl
  where
    by : (t : Bool) → (b == 34) ≡ t → Outside ≡ (if t then Inside else Outside)
    by true e = let g : is_digit 34 ≡ true = subst (λ n. is_digit n ≡ true) (eqb-true b 34 e) h in cc
    by false e = refl

inside_hex : (b : ℕ) → is_hex b ≡ true → Inside ≡ side_after Inside b
inside_hex b h = by (b == 34) (b == 92) refl refl
  where
    by : (t u : Bool) → (b == 34) ≡ t → (b == 92) ≡ u → Inside ≡ (if t then Outside else (if u then Slashed else Inside))
    by true u e f = let g : is_hex 34 ≡ true = subst (λ n. is_hex n ≡ true) (eqb-true b 34 e) h in cc
    by false true e f = let g : is_hex 92 ≡ true = subst (λ n. is_hex n ≡ true) (eqb-true b 92 f) h in cc
    by false false e f = refl

low_inside : (d : ℕ) (sd : Side) → Inside ≡ sd → Follows (low_of d) sd
low_inside d sd h = test (nat_le d 1) Low _ sd (λ e. h) (test (d == 7) LowOfSeven None sd (λ e. h) tt)

one_byte : (t : Lex) (b c : ℕ) → side t ≡ side_after Outside c → Follows (if b == c then Some t else None) (side_after Outside b)
one_byte t b c h = test (b == c) t None (side_after Outside b) (λ e. h ∙ at_byte Outside b c e) tt

-- the quotes are those of the words of a line
follows : (s : Lex) (b : ℕ) → Follows (next s b) (side_after (side s) b)
follows Start b =
    let sd = side_after Outside b in
    test (b == 110) N _ sd (at_byte Outside b 110)
    (test (b == 116) T _ sd (at_byte Outside b 116)
    (test (b == 102) F _ sd (at_byte Outside b 102)
    (test (b == 45) Minus _ sd (at_byte Outside b 45)
    (test (b == 48) Zero _ sd (at_byte Outside b 48)
    (test (is_digit b) Digits _ sd (outside_digit b)
    (test (b == 34) Text _ sd (at_byte Outside b 34)
    (test (b == 120) X None sd (at_byte Outside b 120) tt)))))))
follows N b = one_byte Nu b 117 refl
follows Nu b = one_byte Nul b 108 refl
follows Nul b = one_byte Whole b 108 refl
follows T b = one_byte Tr b 114 refl
follows Tr b = one_byte Tru b 117 refl
follows Tru b = one_byte Whole b 101 refl
follows F b = one_byte Fa b 97 refl
follows Fa b = one_byte Fal b 108 refl
follows Fal b = one_byte Fals b 115 refl
follows Fals b = one_byte Whole b 101 refl
follows Minus b = by (b == 48) (test (is_digit b) Digits None (side_after Outside b) (outside_digit b) tt)
  where
    by : (t : Bool) → Follows (if is_digit b then Some Digits else None) (side_after Outside b) → Follows (if t then None else (if is_digit b then Some Digits else None)) (side_after Outside b)
    by true h = tt
    by false h = h
follows Zero b = tt
follows Digits b = test (is_digit b) Digits None (side_after Outside b) (outside_digit b) tt
follows X b = one_byte Pairs b 34 refl
follows Text b = by (b == 34) (b == 92) (is_escaped b)
  where
    by : (t u v : Bool) → Follows (if t then Some Whole else (if u then Some Slash else (if v then None else Some Text))) (if t then Outside else (if u then Slashed else Inside))
    by true u v = refl
    by false true v = refl
    by false false true = tt
    by false false false = refl
follows Slash b = test ((b == 34) || (b == 92)) Text _ Inside (λ e. refl) (test (b == 120) High None Inside (λ e. refl) tt)
follows High b = by (is_hex b) refl
  where
    by : (t : Bool) → is_hex b ≡ t → Follows (if t then low_of (hex_value b) else None) (side_after Inside b)
    by true e = low_inside (hex_value b) (side_after Inside b) (inside_hex b e)
    by false e = tt
follows Low b = test (is_hex b) Text None (side_after Inside b) (inside_hex b) tt
follows LowOfSeven b = test (b == 102) Text None (side_after Inside b) (at_byte Inside b 102) tt
follows Pairs b = test (b == 34) Whole _ (side_after Inside b) (at_byte Inside b 34) (test (is_hex b) Pair None (side_after Inside b) (inside_hex b) tt)
follows Pair b = test (is_hex b) Pairs None (side_after Inside b) (inside_hex b) tt
follows Whole b = tt

whole_outside : (s : Lex) (b : ℕ) → ends_word (side s) b ≡ false → ((b == 32) && is_whole s) ≡ false
whole_outside s b h = by (is_whole s) refl
  where
    outside : (s : Lex) → is_whole s ≡ true → side s ≡ Outside
    outside Zero e = refl
    outside Digits e = refl
    outside Whole e = refl
    outside s e = absurd cc

    none : (t : Bool) → (t && false) ≡ false
    none true = refl
    none false = refl

    by : (w : Bool) → is_whole s ≡ w → ((b == 32) && w) ≡ false
    by true e = let g : (b == 32) ≡ false = sym (ap (λ sd. ends_word sd b) (outside s e)) ∙ h in ap (λ t. t && true) g
    by false e = none (b == 32)

-- no literal goes on with a space outside quotes
no_space : (s : Lex) (b : ℕ) → ends_word (side s) b ≡ true → (next s b ≡ None) × ((b == 32) ≡ true)
no_space s b h = by (side s) refl h
  where
    at_space : (s : Lex) → side s ≡ Outside → next s 32 ≡ None
    at_space Text e = absurd cc
    at_space Slash e = absurd cc
    at_space High e = absurd cc
    at_space Low e = absurd cc
    at_space LowOfSeven e = absurd cc
    at_space Pairs e = absurd cc
    at_space Pair e = absurd cc
    at_space s e = refl

    by : (sd : Side) → side s ≡ sd → ends_word sd b ≡ true → (next s b ≡ None) × ((b == 32) ≡ true)
    by Outside e g = (subst (λ n. next s n ≡ None) (sym (eqb-true b 32 g)) (at_space s e), g)
    by Inside e g = absurd cc
    by Slashed e g = absurd cc

-- the first word goes on from here, and the others are literals
abbrev say : Lex → List (List ℕ) → Bool
say s [] = false
say s (w ∷ ws) = lit s w && list_all (lit Start) ws

all_say : (ws : List (List ℕ)) → (w : List ℕ) × (more : List (List ℕ)) × (ws ≡ w ∷ more) → say Start ws ≡ list_all (lit Start) ws
all_say ws some = ap (say Start) some.2 ∙ sym (ap (list_all (lit Start)) some.2)

in_row : (bs : List ℕ) (s : Lex) → accepts next_in_row s bs ≡ say s (words_from (side s) bs)
in_row [] s = sym (and_true (is_whole s))
in_row (b ∷ bs) s = by (ends_word (side s) b) refl (in_row bs)
  where
    by : (t : Bool) → ends_word (side s) b ≡ t → ((u : Lex) → accepts next_in_row u bs ≡ say u (words_from (side u) bs))
        → on_some (or_space ((b == 32) && is_whole s) (next s b)) (λ u. accepts next_in_row u bs) ≡ say s (if t then [] ∷ words_from Outside bs else onto_first b (words_from (side_after (side s) b) bs))
    by true e more =
        let n = no_space s b e in
        ap (λ o. on_some (or_space ((b == 32) && is_whole s) o) (λ u. accepts next_in_row u bs)) n.0
        ∙ ap (λ v. on_some (or_space (v && is_whole s) None) (λ u. accepts next_in_row u bs)) n.1
        ∙ spaced (is_whole s)
        ∙ ap (λ v. is_whole s && v) (more Start ∙ all_say (words_from Outside bs) (some_word Outside bs))
      where
        spaced : (w : Bool) → on_some (if w then Some Start else None) (λ u. accepts next_in_row u bs) ≡ (w && accepts next_in_row Start bs)
        spaced true = refl
        spaced false = refl
    by false e more =
        let some = some_word (side_after (side s) b) bs in
        ap (λ v. on_some (or_space v (next s b)) (λ u. accepts next_in_row u bs)) (whole_outside s b e)
        ∙ goes (next s b) refl (follows s b) some.0 some.1 some.2
        ∙ sym (ap (λ ws. say s (onto_first b ws)) some.2)
      where
        goes : (o : Option Lex) → next s b ≡ o → Follows o (side_after (side s) b) → (w : List ℕ) (ws : List (List ℕ)) → words_from (side_after (side s) b) bs ≡ w ∷ ws
            → on_some (or_space false o) (λ u. accepts next_in_row u bs) ≡ (on_some (next s b) (λ u. lit u w) && list_all (lit Start) ws)
        goes None f sd w ws is = sym (ap (λ o. on_some o (λ u. lit u w) && list_all (lit Start) ws) f)
        goes (Some t) f sd w ws is = more t ∙ ap (λ x. say t (words_from x bs)) sd ∙ ap (say t) is ∙ sym (ap (λ o. on_some o (λ u. lit u w) && list_all (lit Start) ws) f)

pub row_is : (text : List ℕ) → is_row text ≡ accepts next_in_row Start text
row_is text = each (words_of text) ∙ sym (all_say (words_of text) (some_word Outside text)) ∙ sym (in_row text Start)
  where
    each : (ws : List (List ℕ)) → list_all (λ word. is_some (value_in word)) ws ≡ list_all (lit Start) ws
    each [] = refl
    each (w ∷ ws) = ap (λ v. v && list_all (λ word. is_some (value_in word)) ws) (literal_is w) ∙ ap (λ v. lit Start w && v) (each ws)

no_newline : (s : Lex) → next_in_row s 10 ≡ None
no_newline Start = refl
no_newline s = refl

clean : (bs : List ℕ) (s : Lex) → Reaches next_in_row s bs → AllByRecursion (λ b. b ≢ 10) bs
clean [] s h = tt
clean (b ∷ bs) s h = (λ e. let g : accepts next_in_row s (10 ∷ bs) ≡ true = subst (λ n. accepts next_in_row s (n ∷ bs) ≡ true) e h in let f : false ≡ true = sym (ap (λ o. on_some o (λ t. accepts next_in_row t bs)) (no_newline s)) ∙ g in cc, by (next_in_row s b) refl (clean bs))
  where
    by : (o : Option Lex) → next_in_row s b ≡ o → ((t : Lex) → Reaches next_in_row t bs → AllByRecursion (λ b. b ≢ 10) bs) → AllByRecursion (λ b. b ≢ 10) bs
    by None e more = let f : false ≡ true = sym (ap (λ o. on_some o (λ t. accepts next_in_row t bs)) e) ∙ h in absurd cc
    by (Some t) e more = more t (sym (ap (λ o. on_some o (λ t. accepts next_in_row t bs)) e) ∙ h)

-- a row line has no newline
pub row_line : (text : List ℕ) → is_row text ≡ true → IsRowLine text
row_line text h = (All-from_recursion (λ b. ¬ (b ≡ 10)) text (clean text Start (sym (row_is text) ∙ h)), h)

pub row_fault : (text : List ℕ) → IsFault IsRowLine text (run next_in_row Start text)
row_fault text = same_kind (Reaches next_in_row Start) IsRowLine text (run next_in_row Start text) (λ x h. (All-from_recursion (λ b. ¬ (b ≡ 10)) x (clean x Start h), row_is x ∙ h)) (λ x h. sym (row_is x) ∙ h.1) (run_fault next_in_row row_ending text Start)

-- ---- one byte more of a loop

module _ (step : Lex → ℕ → Option Lex) (text : List ℕ) (at : ℕ) (s : Lex) where
  here : at < length text → drop at text ≡ get_or text at 0 ∷ drop (at + 1) text
  here lt = drop_more text at 0 lt

  pub run_more : (t : Lex) → at < length text → step s (get_or text at 0) ≡ Some t → run step Start text ≡ at + run step s (drop at text) → run step Start text ≡ (at + 1) + run step t (drop (at + 1) text)
  run_more t lt is so = let e = ap (run step s) (here lt) ∙ ap (λ o. steps_on o (λ u. run step u (drop (at + 1) text))) is in omega (arith, so, e)

  pub run_stop : at < length text → step s (get_or text at 0) ≡ None → run step Start text ≡ at + run step s (drop at text) → run step Start text ≡ at
  run_stop lt is so = let e = ap (run step s) (here lt) ∙ ap (λ o. steps_on o (λ u. run step u (drop (at + 1) text))) is in omega (arith, so, e)

  pub run_all : length text ≤ at → run step Start text ≡ at + run step s (drop at text) → run step Start text ≡ at
  run_all le so = let e = ap (run step s) (drop_all at text le) in omega (arith, so, e)

  pub accepts_more : (t : Lex) → at < length text → step s (get_or text at 0) ≡ Some t → accepts step Start text ≡ accepts step s (drop at text) → accepts step Start text ≡ accepts step t (drop (at + 1) text)
  accepts_more t lt is so = so ∙ ap (accepts step s) (here lt) ∙ ap (λ o. on_some o (λ u. accepts step u (drop (at + 1) text))) is

  pub accepts_stop : at < length text → step s (get_or text at 0) ≡ None → accepts step Start text ≡ accepts step s (drop at text) → accepts step Start text ≡ false
  accepts_stop lt is so = so ∙ ap (accepts step s) (here lt) ∙ ap (λ o. on_some o (λ u. accepts step u (drop (at + 1) text))) is

  pub accepts_all : length text ≤ at → accepts step Start text ≡ accepts step s (drop at text) → accepts step Start text ≡ is_whole s
  accepts_all le so = so ∙ ap (accepts step s) (drop_all at text le)
