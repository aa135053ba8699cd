-- Byte lists that lie end to end in one buffer: each one, all of them, and one more.
use Rattle.std.proofs.Common.{◌≡◌, ℕ, zero, suc, ◌+◌, ◌-◌, ◌<◌, ◌≤◌, List, [], ◌∷◌, ◌++◌, length, get_or, take, drop, refl, sym, ap, ◌∙◌, arith, length-append}
use Rattle.std.specs.List.{between, concat}
use Rattle.std.proofs.lemmas.List.{append_assoc, take-append-le, drop-append-le, drop_all, drop_at, take_at, take_all, length-drop, length-take, nil_from_length}
use Rattle.std.proofs.lemmas.List.Folds.{drop_split}
use Rattle.kt_bytes.specs.Cuts.{pieces, IsCut, start_at, ends_of, last}

pub length-pieces : {A : Type 0} (from : ℕ) (ends : List ℕ) (bytes : List A) → length (pieces from ends bytes) ≡ length ends
length-pieces from [] bytes = refl
length-pieces from (e ∷ ends) bytes = ap suc (length-pieces e ends bytes)

-- item number i lies between its start and its end
pub get_or-pieces : {A : Type 0} (from : ℕ) (ends : List ℕ) (bytes : List A) (i : ℕ) → i < length ends → get_or (pieces from ends bytes) i [] ≡ between (start_at from ends i) (get_or ends i 0) bytes
get_or-pieces from [] bytes i h = absurd (omega arith)
get_or-pieces from (e ∷ ends) bytes zero h = refl
get_or-pieces from (e ∷ ends) bytes (suc zero) h = get_or-pieces e ends bytes zero (omega arith)
get_or-pieces from (e ∷ ends) bytes (suc (suc i)) h = get_or-pieces e ends bytes (suc i) (omega arith)

pub cut_from : (from : ℕ) (ends : List ℕ) (total : ℕ) → IsCut from ends total → from ≤ total
cut_from from [] total h = omega arith
cut_from from (e ∷ ends) total h = omega (arith, h.0, cut_from e ends total h.1)

pub cut_start : (from : ℕ) (ends : List ℕ) (total i : ℕ) → IsCut from ends total → i < length ends → start_at from ends i ≤ get_or ends i 0
cut_start from [] total i h lt = absurd (omega arith)
cut_start from (e ∷ ends) total zero h lt = h.0
cut_start from (e ∷ ends) total (suc zero) h lt = cut_start e ends total zero h.1 (omega arith)
cut_start from (e ∷ ends) total (suc (suc i)) h lt = cut_start e ends total (suc i) h.1 (omega arith)

pub cut_end : (from : ℕ) (ends : List ℕ) (total i : ℕ) → IsCut from ends total → i < length ends → get_or ends i 0 ≤ total
cut_end from [] total i h lt = absurd (omega arith)
cut_end from (e ∷ ends) total zero h lt = cut_from e ends total h.1
cut_end from (e ∷ ends) total (suc i) h lt = cut_end e ends total i h.1 (omega arith)

-- the last piece ends where the bytes end
pub cut_last : (from e : ℕ) (ends : List ℕ) (total : ℕ) → IsCut from (e ∷ ends) total → get_or (e ∷ ends) (length ends) 0 ≡ total
cut_last from e [] total h = h.1
cut_last from e (f ∷ ends) total h = cut_last e f ends total h.1

pub cut_push : (from : ℕ) (ends : List ℕ) (total more : ℕ) → IsCut from ends total → IsCut from (ends ++ (total + more) ∷ []) (total + more)
cut_push from [] total more h = (omega arith, refl)
cut_push from (e ∷ ends) total more h = (h.0, cut_push e ends total more h.1)

between-append : {A : Type 0} (i j : ℕ) (xs ys : List A) → i ≤ j → j ≤ length xs → between i j (xs ++ ys) ≡ between i j xs
between-append i j xs ys le fits =
    let front : i ≤ length xs = omega arith in
    let room : j - i ≤ length (drop i xs) = omega (arith, length-drop i xs) in
    rw (drop-append-le i xs ys front) (take-append-le (j - i) (drop i xs) ys room)

pub pieces_push : {A : Type 0} (from : ℕ) (ends : List ℕ) (bytes more : List A) → IsCut from ends (length bytes) → pieces from (ends ++ (length bytes + length more) ∷ []) (bytes ++ more) ≡ pieces from ends bytes ++ more ∷ []
pieces_push from [] bytes more h =
    let behind : drop from (bytes ++ more) ≡ more = drop_at bytes more from (sym h) in
    let all : take ((length bytes + length more) - from) more ≡ more = take_all _ more (omega arith) in
    rw behind (rw all refl)
pieces_push from (e ∷ ends) bytes more h =
    let low : e ≤ length bytes = cut_from e ends (length bytes) h.1 in
    rw (between-append from e bytes more h.0 low, pieces_push e ends bytes more h.1) refl

-- ---- at a view that is known

pub count_is : {A : Type 0} (ends : List ℕ) (bytes : List A) (items : List (List A)) → pieces 0 ends bytes ≡ items → length ends ≡ length items
count_is ends bytes items e = sym (length-pieces 0 ends bytes) ∙ ap length e

pub item_is : {A : Type 0} (ends : List ℕ) (bytes : List A) (items : List (List A)) (i : ℕ) → pieces 0 ends bytes ≡ items → i < length items → between (start_at 0 ends i) (get_or ends i 0) bytes ≡ get_or items i []
item_is {A} ends bytes items i e lt =
    let n = count_is ends bytes items e in
    sym (get_or-pieces 0 ends bytes i (omega arith)) ∙ ap (λ (xs : List (List A)). get_or xs i []) e

-- where the last item lies: from its start to where the bytes end
pub last_from : (ends : List ℕ) (total : ℕ) → IsCut 0 ends total → start_at 0 ends (length ends - 1) ≤ total
last_from [] total h = omega arith
last_from (e ∷ ends) total h =
    let at : length (e ∷ ends) - 1 ≡ length ends = omega arith in
    rw at (omega (arith, cut_start 0 (e ∷ ends) total (length ends) h (omega arith), cut_end 0 (e ∷ ends) total (length ends) h (omega arith)))

pub last_is : (ends bytes : List ℕ) (items : List (List ℕ)) → pieces 0 ends bytes ≡ items → IsCut 0 ends (length bytes) → drop (start_at 0 ends (length ends - 1)) bytes ≡ last items
last_is [] bytes items e h =
    let none : bytes ≡ [] = nil_from_length bytes (sym h) in
    rw (← e, none) refl
last_is (d ∷ ends) bytes items e h =
    let n = count_is (d ∷ ends) bytes items e in
    let from = start_at 0 (d ∷ ends) (length ends) in
    let at : length (d ∷ ends) - 1 ≡ length ends = omega arith in
    let at_last : length items - 1 ≡ length ends = omega arith in
    let it = item_is (d ∷ ends) bytes items (length ends) e (omega arith) in
    let stop : get_or (d ∷ ends) (length ends) 0 ≡ length bytes = cut_last 0 d ends (length bytes) h in
    let whole : take (length bytes - from) (drop from bytes) ≡ drop from bytes = take_all _ _ (omega (arith, length-drop from bytes)) in
    let same : drop from bytes ≡ get_or items (length ends) [] = sym whole ∙ (ap (λ (k : ℕ). between from k bytes) (sym stop) ∙ it) in
    rw (at, at_last) same

-- the front of the last item
pub shared_is : (ends bytes : List ℕ) (items : List (List ℕ)) (n : ℕ) → pieces 0 ends bytes ≡ items → IsCut 0 ends (length bytes) → between (start_at 0 ends (length ends - 1)) (start_at 0 ends (length ends - 1) + n) bytes ≡ take n (last items)
shared_is ends bytes items n e h =
    let k : (start_at 0 ends (length ends - 1) + n) - start_at 0 ends (length ends - 1) ≡ n = omega arith in
    rw k (ap (take n) (last_is ends bytes items e h))

pub last_len : (ends bytes : List ℕ) (items : List (List ℕ)) → pieces 0 ends bytes ≡ items → IsCut 0 ends (length bytes) → start_at 0 ends (length ends - 1) + length (last items) ≡ length bytes
last_len ends bytes items e h = omega (arith, ap length (last_is ends bytes items e h), length-drop (start_at 0 ends (length ends - 1)) bytes, last_from ends (length bytes) h)

-- one more item
pub pushed_is : {A : Type 0} (ends : List ℕ) (bytes : List A) (items : List (List A)) (more : List A) → pieces 0 ends bytes ≡ items → IsCut 0 ends (length bytes) → pieces 0 (ends ++ (length bytes + length more) ∷ []) (bytes ++ more) ≡ items ++ more ∷ []
pushed_is {A} ends bytes items more e h = pieces_push 0 ends bytes more h ∙ ap (λ (xs : List (List A)). xs ++ more ∷ []) e

-- the same from what the calls on the two vectors say
pub pushed_cut : {A : Type 0} (ends : List ℕ) (bytes more : List A) (ends' : List ℕ) (bytes' : List A) (end : ℕ) → IsCut 0 ends (length bytes) → ends' ≡ ends ++ end ∷ [] → bytes' ≡ bytes ++ more → end ≡ length bytes' → IsCut 0 ends' (length bytes')
pushed_cut ends bytes more ends' bytes' end h p q r =
    let len : length bytes' ≡ length bytes + length more = ap length q ∙ length-append bytes more in
    let at : end ≡ length bytes + length more = r ∙ len in
    rw (p, at, len) (cut_push 0 ends (length bytes) (length more) h)

pub pushed_view : {A : Type 0} (ends : List ℕ) (bytes more : List A) (ends' : List ℕ) (bytes' : List A) (end : ℕ) (items : List (List A)) (item : List A) → pieces 0 ends bytes ≡ items → IsCut 0 ends (length bytes) → ends' ≡ ends ++ end ∷ [] → bytes' ≡ bytes ++ more → end ≡ length bytes' → more ≡ item → pieces 0 ends' bytes' ≡ items ++ item ∷ []
pushed_view ends bytes more ends' bytes' end items item e h p q r s =
    let at : end ≡ length bytes + length more = r ∙ (ap length q ∙ length-append bytes more) in
    rw (p, q, at, ← s) (pushed_is ends bytes items more e h)

-- ---- all of them joined

pub length-between : (from end : ℕ) (bytes : List ℕ) → from ≤ end → end ≤ length bytes → from + length (between from end bytes) ≡ end
length-between from end bytes le fits = omega (arith, length-take (end - from) (drop from bytes), length-drop from bytes)

-- the pieces joined are the bytes from the first piece on
pub concat-pieces : (from : ℕ) (ends bytes : List ℕ) → IsCut from ends (length bytes) → concat (pieces from ends bytes) ≡ drop from bytes
concat-pieces from [] bytes cut = sym (drop_all from bytes (omega (arith, cut)))
concat-pieces from (e ∷ ends) bytes cut =
    ap (λ (rest : List ℕ). between from e bytes ++ rest) (concat-pieces e ends bytes cut.1) ∙ sym (drop_split bytes from e cut.0)

pub concat-all : (ends bytes : List ℕ) → IsCut 0 ends (length bytes) → concat (pieces 0 ends bytes) ≡ bytes
concat-all ends bytes cut = concat-pieces 0 ends bytes cut

-- the pieces end where they were cut
pub ends_of-pieces : (from : ℕ) (ends bytes : List ℕ) → IsCut from ends (length bytes) → ends_of from (pieces from ends bytes) ≡ ends
ends_of-pieces from [] bytes cut = refl
ends_of-pieces from (e ∷ ends) bytes cut =
    let same : from + length (between from e bytes) ≡ e = length-between from e bytes cut.0 (cut_from e ends (length bytes) cut.1) in
    rw same (ap (λ (rest : List ℕ). e ∷ rest) (ends_of-pieces e ends bytes cut.1))

-- texts joined and cut at their ends are the texts again
pub pieces-ends_of : (from : ℕ) (front : List ℕ) (texts : List (List ℕ)) → length front ≡ from → pieces from (ends_of from texts) (front ++ concat texts) ≡ texts
pieces-ends_of from front [] len = refl
pieces-ends_of from front (t ∷ ts) len =
    let grouped : front ++ (t ++ concat ts) ≡ (front ++ t) ++ concat ts = sym (append_assoc front t (concat ts)) in
    let whole : length (front ++ t) ≡ from + length t = omega (arith, length-append front t) in
    let n : from + length t - from ≡ length t = omega arith in
    let first : between from (from + length t) (front ++ (t ++ concat ts)) ≡ t = rw (n, drop_at front (t ++ concat ts) from len) (take_at t (concat ts) (length t) refl) in
    let rest : pieces (from + length t) (ends_of (from + length t) ts) (front ++ (t ++ concat ts)) ≡ ts = rw grouped (pieces-ends_of (from + length t) (front ++ t) ts whole) in
    ap (λ (x : List ℕ). x ∷ pieces (from + length t) (ends_of (from + length t) ts) (front ++ (t ++ concat ts))) first ∙ ap (λ (xs : List (List ℕ)). t ∷ xs) rest

pub IsCut-ends_of : (from : ℕ) (texts : List (List ℕ)) → IsCut from (ends_of from texts) (from + length (concat texts))
IsCut-ends_of from [] = omega arith
IsCut-ends_of from (t ∷ ts) =
    let len : from + length (t ++ concat ts) ≡ from + length t + length (concat ts) = omega (arith, length-append t (concat ts)) in
    (omega arith, rw len (IsCut-ends_of (from + length t) ts))

pub length-ends_of : (from : ℕ) (texts : List (List ℕ)) → length (ends_of from texts) ≡ length texts
length-ends_of from [] = refl
length-ends_of from (t ∷ ts) = ap suc (length-ends_of (from + length t) ts)
