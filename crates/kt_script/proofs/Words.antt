-- Words with spaces between them, one more at the end.
use Rattle.std.proofs.Common.{◌≡◌, ℕ, zero, suc, ◌+◌, ◌<◌, ◌≤◌, List, [], ◌∷◌, ◌++◌, refl, sym, ap, ◌∙◌, arith, length, min, take, get_or, map, append_assoc, add-one}
use Rattle.std.proofs.lemmas.List.{take_more, length-map, length-take}
use Rattle.std.proofs.lemmas.Grind.{flat_map-append}
use mathlib.Core.List.{map-append, append-nil}
use Rattle.kt_base.specs.declared.cell.Kind.{Kind}
use Rattle.kt_base.specs.declared.cell.Cell.{Cell}
use Rattle.kt_base.specs.Literals.{literal}
use Rattle.kt_script.specs.declared.replies.ReplyLine.{ReplyLine}
use Rattle.kt_script.specs.Texts.{spaced, words, literals, told_session, told_sessions, seen}
use Rattle.kt_script.specs.declared.lists.ShownReply.{ShownReply}

pub words_push : (w : List ℕ) (ws : List (List ℕ)) (v : List ℕ) → words ((w ∷ ws) ++ v ∷ []) ≡ words (w ∷ ws) ++ (32 ∷ v)
words_push w ws v = rw (flat_map-append spaced ws (v ∷ [])) (simp (append-nil, append_assoc))

-- one more word, made of the next element
pub words_more : {X : Type 0} (f : X → List ℕ) (w : List ℕ) (ws : List (List ℕ)) (xs : List X) (i : ℕ) (d : X) → i < length xs
    → words (w ∷ (ws ++ map f (take (i + 1) xs))) ≡ words (w ∷ (ws ++ map f (take i xs))) ++ (32 ∷ f (get_or xs i d))
words_more f w ws xs i d h =
    let next : map f (take (i + 1) xs) ≡ map f (take i xs) ++ f (get_or xs i d) ∷ [] = ap (map f) (take_more xs i d h) ∙ map-append f (take i xs) (get_or xs i d ∷ []) in
    ap (λ vs. words (w ∷ (ws ++ vs))) next ∙ (ap (λ vs. words (w ∷ vs)) (sym (append_assoc ws (map f (take i xs)) (f (get_or xs i d) ∷ []))) ∙ words_push w (ws ++ map f (take i xs)) (f (get_or xs i d)))

-- what stands before the word at a place
abbrev pub space : ℕ → List ℕ
space zero = []
space (suc n) = 32 ∷ []

pub space_first : (at : ℕ) → at ≤ 0 → space at ≡ []
space_first zero h = refl
space_first (suc n) h = absurd (omega arith)

pub space_later : (at : ℕ) → 0 < at → space at ≡ 32 ∷ []
space_later zero h = absurd (omega arith)
space_later (suc n) h = refl

literals_push : (k : Kind) (c : Cell) (kinds : List Kind) (cells : List Cell) (at : ℕ) → at < length kinds → at < length cells
    → literals kinds (take (suc at) cells) ≡ literals kinds (take at cells) ++ literal (get_or kinds at k) (get_or cells at c) ∷ []
literals_push k c [] cells at h g = absurd (omega arith)
literals_push k c (kind ∷ kinds) [] at h g = absurd (omega arith)
literals_push k c (kind ∷ kinds) (cell ∷ cells) zero h g = refl
literals_push k c (kind ∷ kinds) (cell ∷ cells) (suc at) h g = ap (λ rest. literal kind cell ∷ rest) (literals_push k c kinds cells at (omega arith) (omega arith))

literals_more : (k : Kind) (c : Cell) (kinds : List Kind) (cells : List Cell) (at : ℕ) → at < length kinds → at < length cells
    → words (literals kinds (take (suc at) cells)) ≡ words (literals kinds (take at cells)) ++ (space at ++ literal (get_or kinds at k) (get_or cells at c))
literals_more k c [] cells at h g = absurd (omega arith)
literals_more k c (kind ∷ kinds) [] at h g = absurd (omega arith)
literals_more k c (kind ∷ kinds) (cell ∷ cells) zero h g = append-nil (literal kind cell)
literals_more k c (kind ∷ kinds) (cell ∷ cells) (suc at) h g =
    ap words (literals_push k c (kind ∷ kinds) (cell ∷ cells) (suc at) h g) ∙ words_push (literal kind cell) (literals kinds (take at cells)) (literal (get_or kinds at k) (get_or cells at c))

-- the row after one more cell
pub row_more : (k : Kind) (c : Cell) (kinds : List Kind) (cells : List Cell) (at : ℕ) (first out mid new : List ℕ) → at < length kinds → at < length cells
    → out ≡ first ++ words (literals kinds (take at cells)) → mid ≡ out ++ space at → new ≡ mid ++ literal (get_or kinds at k) (get_or cells at c)
    → new ≡ first ++ words (literals kinds (take (at + 1) cells))
row_more k c kinds cells at first out mid new h g is space_is new_is =
    rw (add-one, literals_more k c kinds cells at h g, new_is, space_is, is) (simp append_assoc)

-- cells without a column are not printed
pub literals_end : (kinds : List Kind) (cells : List Cell) (n : ℕ) → n ≤ length cells → min (length cells) (length kinds) ≤ n → literals kinds (take n cells) ≡ literals kinds cells
literals_end kinds [] zero h g = refl
literals_end kinds [] (suc n) h g = refl
literals_end [] (c ∷ cells) zero h g = refl
literals_end [] (c ∷ cells) (suc n) h g = refl
literals_end (k ∷ kinds) (c ∷ cells) zero h g = absurd (omega arith)
literals_end (k ∷ kinds) (c ∷ cells) (suc n) h g = ap (λ rest. literal k c ∷ rest) (literals_end kinds cells n (omega arith) (omega arith))

-- one more session
pub told_more : (k : ℕ) (xs : List (List ReplyLine)) (rs : List ReplyLine) → told_sessions k (xs ++ rs ∷ []) ≡ told_sessions k xs ++ told_session (k + length xs) rs
told_more k [] rs = append-nil (told_session k rs) ∙ ap (λ m. told_session m rs) (omega arith)
told_more k (x ∷ xs) rs =
    let e : suc k + length xs ≡ k + suc (length xs) = omega arith in
    ap (λ ys. told_session k x ++ ys) (told_more (suc k) xs rs ∙ ap (λ m. told_sessions (suc k) xs ++ told_session m rs) e) ∙ sym (append_assoc (told_session k x) (told_sessions (suc k) xs) (told_session (k + suc (length xs)) rs))

pub sessions_step : (xs : List (List ShownReply)) (i : ℕ) (item : List ShownReply) (first out new : List ℕ) → i < length xs → item ≡ get_or xs i item → out ≡ first ++ told_sessions 1 (map (map seen) (take i xs))
    → new ≡ out ++ told_session (i + 1) (map seen item) → new ≡ first ++ told_sessions 1 (map (map seen) (take (i + 1) xs))
sessions_step xs i item first out new h is so printed =
    let front : List (List ReplyLine) = map (map seen) (take i xs) in
    let number : 1 + length front ≡ i + 1 = omega (arith, length-map (take i xs) (map seen), length-take i xs, h) in
    let longer : map (map seen) (take (i + 1) xs) ≡ front ++ map seen item ∷ [] = ap (map (map seen)) (take_more xs i item h ∙ ap (λ x. take i xs ++ x ∷ []) (sym is)) ∙ map-append (map seen) (take i xs) (item ∷ []) in
    printed ∙ ap (λ x. x ++ told_session (i + 1) (map seen item)) so ∙ append_assoc first (told_sessions 1 front) (told_session (i + 1) (map seen item))
    ∙ ap (λ x. first ++ x) (ap (λ n. told_sessions 1 front ++ told_session n (map seen item)) (sym number) ∙ sym (told_more 1 front (map seen item)) ∙ ap (told_sessions 1) (sym longer))
