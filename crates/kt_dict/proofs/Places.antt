-- What the fields of a list are: which of them can follow others, and how long they are.
use Rattle.std.proofs.Common.{◌≡◌, ℕ, zero, suc, ◌+◌, ◌*◌, ◌-◌, ◌^◌, ◌<◌, ◌≤◌, Bool, true, false, cond, List, [], ◌∷◌, ◌++◌, length, get_or, take, drop, map, refl, sym, ap, subst, ◌∙◌, append_assoc, arith, inl, inr, length-append, length-drop}
use Rattle.std.specs.Prelude.{replicate, nat_lt, nat_le, ◌==◌, ◌&&◌, ◌||◌}
use Rattle.std.specs.List.{AllByRecursion, concat, flat_map}
use Rattle.std.proofs.lemmas.Bool.{cases_lt, ltb-true, leb-true, eqb-true, le-ltb}
use Rattle.std.proofs.lemmas.Bool.Decides.{nat_tests}
use Rattle.std.proofs.lemmas.List.{append-nil, take_at, drop_at, nil_from_length, take-append-drop, length-take-le, length-map, length_push, take_more, map-append, map_push, get_or-take, get_or_at}
use Rattle.std.proofs.lemmas.Grind.{flat_map-append}
use Rattle.kt_bytes.specs.Places.{Begins, GoesOn, Delimited}
use Rattle.kt_bytes.proofs.Places.{goes_on}
use Rattle.kt_bytes.proofs.Fronts.{IsWhole}
use Rattle.kt_dict.specs.Spelling.{AreBytes, has, place, with_entry, entries_after, dictionary, short, number, entry, code, block, fields, FitsWithin, SpelledWithin}
use Rattle.kt_dict.specs.Walk.{is_count, is_code, used_with}
use Rattle.kt_dict.proofs.Words.{Own, own_nil, own_after, has_place, has_get, has_front, has_front_not, place_front, place_push, place-le, after_grows, same_self}
use Rattle.kt_dict.proofs.Fields.{length-short, length-number, short_one, number_one}
use Rattle.kt_dict.proofs.Fresh.{and_both, upto_test, Good, IsFresh, grow}

-- the fields of the count and of these entries; and of the codes of these items behind them
abbrev pub entries_front : ℕ → List (List ℕ) → List (List ℕ)
entries_front d known = short d ∷ flat_map entry known

abbrev pub codes_front : List (List ℕ) → List (List ℕ) → List (List ℕ)
codes_front known items = short (length known) ∷ (flat_map entry known ++ map (code known) items)

-- ---- tests

pub below_test : (a b : ℕ) → a < b → nat_lt a b ≡ true
below_test a b h = grind (arith, nat_tests)

pub same_test : (a b : ℕ) → a ≡ b → (a == b) ≡ true
same_test a b h = grind (arith, nat_tests)

pub record Counted (n d : ℕ) : Type 0 where
  pub few : d ≤ 4096
  pub room : d ≤ n
  pub some : 0 < n → 0 < d

pub counted : (n d : ℕ) → is_count n d ≡ true → Counted n d
counted n d e =
    let p = and_both (nat_le d 4096 && nat_le d n) (nat_lt 0 d || n == 0) e in
    let q = and_both (nat_le d 4096) (nat_le d n) p.0 in
    record { few = leb-true d 4096 q.0; room = leb-true d n q.1; some = λ lt. at_least n d lt p.1 }
  where
    at_least : (n d : ℕ) → 0 < n → (nat_lt 0 d || n == 0) ≡ true → 0 < d
    at_least n d lt e = grind (arith, nat_tests)

-- ---- entries

pub after_append : (ds xs ys : List (List ℕ)) → entries_after ds (xs ++ ys) ≡ entries_after (entries_after ds xs) ys
after_append ds [] ys = refl
after_append ds (x ∷ xs) ys = after_append (with_entry ds x) xs ys

pub new_one : (known : List (List ℕ)) (m : List ℕ) (more : List (List ℕ)) → Own (known ++ m ∷ more) → has known m ≡ false
new_one known m more own =
    (elim (has known m) as (λ b. has known m ≡ b → b ≡ false) [
      | true ↦ λ e.
          let p = has_place known m e in
          let q = place_front known (m ∷ more) m e in
          let at = own.at (length known) (omega (arith, length-append known (m ∷ more))) in
          let is : get_or (known ++ m ∷ more) (length known) [] ≡ m = get_at known m more in
          let r : place (known ++ m ∷ more) m ≡ length known = sym (ap (place (known ++ m ∷ more)) is) ∙ at in
          absurd (omega arith)
      | false ↦ λ e. refl
    ]) refl
  where
    get_at : (xs : List (List ℕ)) (m : List ℕ) (more : List (List ℕ)) → get_or (xs ++ m ∷ more) (length xs) [] ≡ m
    get_at [] m more = refl
    get_at (x ∷ xs) m more = get_at xs m more

-- new entries, one after the other
after_new : (front rest : List (List ℕ)) → Own (front ++ rest) → entries_after front rest ≡ front ++ rest
after_new front [] own = sym (append-nil front)
after_new front (x ∷ rest) own =
    let group : (front ++ x ∷ []) ++ rest ≡ front ++ x ∷ rest = append_assoc front (x ∷ []) rest in
    rw (new_one front x rest own) (after_new (front ++ x ∷ []) rest (subst Own (sym group) own) ∙ group)

after_again : (ds : List (List ℕ)) (y : List ℕ) (k : ℕ) → has ds y ≡ true → entries_after ds (replicate k y) ≡ ds
after_again ds y zero e = refl
after_again ds y (suc k) e =
    let one : with_entry ds y ≡ ds = rw e refl in
    ap (λ (es : List (List ℕ)). entries_after es (replicate k y)) one ∙ after_again ds y k e

-- each item is among the entries that it leaves
pub has_more : (ds more : List (List ℕ)) (x : List ℕ) → has ds x ≡ true → has (ds ++ more) x ≡ true
has_more ds more x e =
    let p = has_place ds x e in
    let at : place (ds ++ more) x ≡ place ds x = place_front ds more x e in
    let get : get_or (ds ++ more) (place ds x) [] ≡ get_or ds (place ds x) [] = get_left ds more (place ds x) p.0 in
    subst (λ (z : List ℕ). has (ds ++ more) z ≡ true) (get ∙ p.1) (has_get (ds ++ more) (place ds x) (omega (arith, p.0, length-append ds more)))
  where
    get_left : (xs ys : List (List ℕ)) (i : ℕ) → i < length xs → get_or (xs ++ ys) i [] ≡ get_or xs i []
    get_left [] ys i lt = absurd (omega arith)
    get_left (x ∷ xs) ys zero lt = refl
    get_left (x ∷ xs) ys (suc i) lt = get_left xs ys i (omega arith)

has_last : (ds : List (List ℕ)) (x : List ℕ) → has (ds ++ x ∷ []) x ≡ true
has_last [] x = rw (same_self x) refl
has_last (d ∷ ds) x = rw (has_last ds x) (or_true _)
  where
    or_true : (b : Bool) → (b || true) ≡ true
    or_true true = refl
    or_true false = refl

has_with : (ds : List (List ℕ)) (x : List ℕ) → has (with_entry ds x) x ≡ true
has_with ds x =
    (elim (has ds x) as (λ b. has ds x ≡ b → has (cond b ds (ds ++ x ∷ [])) x ≡ true) [
      | true ↦ λ e. e
      | false ↦ λ e. has_last ds x
    ]) refl

pub all_had : (ds xs : List (List ℕ)) → AllByRecursion (λ x. has (entries_after ds xs) x ≡ true) xs
all_had ds [] = tt
all_had ds (x ∷ xs) =
    let g = after_grows (with_entry ds x) xs in
    (subst (λ (es : List (List ℕ)). has es x ≡ true) (sym g.1) (has_more (with_entry ds x) g.0 x (has_with ds x)), all_had (with_entry ds x) xs)

-- ---- what some list goes on with

-- so many of d entries are used by these items, and m items of n are left, enough for the other entries
pub record Coded (most n m used : ℕ) (known items : List (List ℕ)) : Type 0 where
  pub good : Good most known
  pub counts : is_count n (length known) ≡ true
  pub total : length items + m ≡ n
  pub within : used ≤ length known
  pub enough : length known ≤ used + m
  pub so_far : entries_after [] items ≡ take used known

rest_of : ℕ → ℕ → List (List ℕ) → List (List ℕ)
rest_of m used known = drop used known ++ replicate (m - length (drop used known)) (get_or known 0 [])

dictionary_of : (most n m used : ℕ) (known items : List (List ℕ)) → Coded most n m used known items → dictionary (items ++ rest_of m used known) ≡ known
unfolding rest_of
dictionary_of most n m used known items c =
    let left : List (List ℕ) = drop used known in
    let k : ℕ = m - length left in
    let y : List ℕ = get_or known 0 [] in
    let whole : take used known ++ left ≡ known = take-append-drop used known in
    let one : entries_after (take used known) left ≡ known = after_new (take used known) left (subst Own (sym whole) c.good.own) ∙ whole in
    after_append [] items (left ++ replicate k y) ∙ (ap (λ (ds : List (List ℕ)). entries_after ds (left ++ replicate k y)) c.so_far
    ∙ (after_append (take used known) left (replicate k y) ∙ (ap (λ (ds : List (List ℕ)). entries_after ds (replicate k y)) one ∙ again k (λ lt. omega (arith, (counted n (length known) c.counts).some, c.total, length-drop used known)))))
  where
    again : (k : ℕ) → (0 < k → 0 < length known) → entries_after known (replicate k (get_or known 0 [])) ≡ known
    again zero h = refl
    again (suc k) h = after_again known (get_or known 0 []) (suc k) (has_get known 0 (h (omega arith)))

length-times : (k : ℕ) (y : List ℕ) → length (replicate k y) ≡ k
length-times zero y = refl
length-times (suc k) y = ap suc (length-times k y)

all_left : (most n m used : ℕ) (known items : List (List ℕ)) → Coded most n m used known items → length items + length (rest_of m used known) ≡ n
unfolding rest_of
all_left most n m used known items c = omega (arith, c.total, c.enough, c.within, length-drop used known, length-append (drop used known) (replicate (m - length (drop used known)) (get_or known 0 [])), length-times (m - length (drop used known)) (get_or known 0 []))

pub begins_codes : (most n m used : ℕ) (known items : List (List ℕ)) → Coded most n m used known items → Begins (SpelledWithin most n) (codes_front known items)
begins_codes most n m used known items c = (
  map (code known) (rest_of m used known),
  record {
    items = items ++ rest_of m used known;
    count = length-append items (rest_of m used known) ∙ all_left most n m used known items c;
    fits = record { few = omega (arith, ap length dict, (counted n (length known) c.counts).few); each = subst (λ (ds : List (List ℕ)). AllByRecursion (λ x. length x ≤ most) ds) (sym dict) c.good.each };
    bytes = subst (λ (ds : List (List ℕ)). AllByRecursion AreBytes ds) (sym dict) c.good.bytes;
    is = ap (λ (t : List (List ℕ)). short (length known) ∷ t) (append_assoc (flat_map entry known) (map (code known) items) (map (code known) (rest_of m used known))
        ∙ ap (λ (t : List (List ℕ)). flat_map entry known ++ t) (sym (map-append (code known) items (rest_of m used known))))
        ∙ ap (λ (ds : List (List ℕ)). block ds (items ++ rest_of m used known)) (sym dict);
  },
)
  where
    dict : dictionary (items ++ rest_of m used known) ≡ known
    dict = dictionary_of most n m used known items c

pub begins_entries : (most n m : ℕ) (known : List (List ℕ)) → Good most known → is_count n (length known + m) ≡ true → Begins (SpelledWithin most n) (entries_front (length known + m) known)
begins_entries most n m known g e =
    let c = counted n (length known + m) e in
    let r = grow m known g c.few in
    let all : List (List ℕ) = known ++ r.0 in
    let size : length all ≡ length known + m = omega (arith, length-append known r.0, r.1) in
    let b = begins_codes most n n 0 all [] (record { good = r.2; counts = rw size e; total = refl_zero n; within = omega arith; enough = omega (arith, c.room); so_far = refl }) in
    let group : flat_map entry all ++ [] ≡ flat_map entry known ++ flat_map entry r.0 = append-nil (flat_map entry all) ∙ flat_map-append entry known r.0 in
    let is : codes_front all [] ≡ entries_front (length known + m) known ++ flat_map entry r.0 = ap (λ (k : ℕ). short k ∷ (flat_map entry all ++ [])) size ∙ ap (λ (t : List (List ℕ)). short (length known + m) ∷ t) group in
    (flat_map entry r.0 ++ b.0, subst (SpelledWithin most n) (ap (λ (t : List (List ℕ)). t ++ b.0) is ∙ append_assoc (entries_front (length known + m) known) (flat_map entry r.0) b.0) b.1)
  where
    refl_zero : (n : ℕ) → 0 + n ≡ n
    refl_zero n = omega arith

-- ---- what can follow

-- fields that begin as those of some entries do
pub entries_inside : (known ds tail cs : List (List ℕ)) → flat_map entry known ++ tail ≡ flat_map entry ds ++ cs → length known ≤ length ds → (more : List (List ℕ)) × (ds ≡ known ++ more) × (tail ≡ flat_map entry more ++ cs)
entries_inside [] ds tail cs e le = (ds, refl, e)
entries_inside (k ∷ known) [] tail cs e le = absurd (omega arith)
entries_inside (k ∷ known) (x ∷ ds) tail cs e le =
    let one : x ≡ k = cc in
    let rest : flat_map entry known ++ tail ≡ flat_map entry ds ++ cs = cc in
    let r = entries_inside known ds tail cs rest (omega arith) in
    (r.0, ap (λ (z : List ℕ). z ∷ ds) one ∙ ap (λ (t : List (List ℕ)). k ∷ t) r.1, r.2)

-- the codes of items are those of no others
codes_inside : (known xs ys : List (List ℕ)) (tail : List (List ℕ)) → length known ≤ 4096 → AllByRecursion (λ x. has known x ≡ true) xs → AllByRecursion (λ x. has known x ≡ true) ys
    → map (code known) xs ++ tail ≡ map (code known) ys → (zs : List (List ℕ)) × (ys ≡ xs ++ zs) × (tail ≡ map (code known) zs)
codes_inside known [] ys tail few hx hy e = (ys, refl, e)
codes_inside known (x ∷ xs) [] tail few hx hy e = absurd cc
codes_inside known (x ∷ xs) (y ∷ ys) tail few hx hy e =
    let first : short (place known x) ≡ short (place known y) = cc in
    let rest : map (code known) xs ++ tail ≡ map (code known) ys = cc in
    let p = has_place known x hx.0 in
    let q = has_place known y hy.0 in
    let at : place known y ≡ place known x = short_one (place known y) (place known x) (omega (arith, q.0)) (omega (arith, p.0)) (sym first) in
    let one : y ≡ x = sym q.1 ∙ (ap (λ (i : ℕ). get_or known i []) at ∙ p.1) in
    let r = codes_inside known xs ys tail few hx.1 hy.1 rest in
    (r.0, ap (λ (z : List ℕ). z ∷ ys) one ∙ ap (λ (t : List (List ℕ)). x ∷ t) r.1, r.2)

-- the entries of a list whose fields begin so
pub record Inside (most n d : ℕ) (known tail : List (List ℕ)) : Type 0 where
  pub items : List (List ℕ)
  pub count : length items ≡ n
  pub size : length (dictionary items) ≡ d
  pub more : List (List ℕ)
  pub is : dictionary items ≡ known ++ more
  pub short : AllByRecursion (λ x. length x ≤ most) (known ++ more)
  pub bytes : AllByRecursion AreBytes (known ++ more)
  pub own : Own (known ++ more)
  pub tail_is : tail ≡ flat_map entry more ++ map (code (known ++ more)) items

pub inside : (most n d : ℕ) (known tail all : List (List ℕ)) → d ≤ 4096 → length known ≤ d → SpelledWithin most n all → all ≡ short d ∷ (flat_map entry known ++ tail) → Inside most n d known tail
inside most n d known tail all few le s e =
    let ds : List (List ℕ) = dictionary s.items in
    let whole : short d ∷ (flat_map entry known ++ tail) ≡ short (length ds) ∷ (flat_map entry ds ++ map (code ds) s.items) = sym e ∙ s.is in
    let first : short d ≡ short (length ds) = cc in
    let rest : flat_map entry known ++ tail ≡ flat_map entry ds ++ map (code ds) s.items = cc in
    let size : length ds ≡ d = sym (short_one d (length ds) (omega arith) (omega (arith, s.fits.few)) first) in
    let r = entries_inside known ds tail (map (code ds) s.items) rest (omega arith) in
    record {
      items = s.items;
      count = s.count;
      size = size;
      more = r.0;
      is = r.1;
      short = subst (AllByRecursion (λ x. length x ≤ most)) r.1 s.fits.each;
      bytes = subst (AllByRecursion AreBytes) r.1 s.bytes;
      own = subst Own r.1 (own_after [] s.items own_nil);
      tail_is = r.2 ∙ ap (λ (es : List (List ℕ)). flat_map entry r.0 ++ map (code es) s.items) r.1;
    }

all_at : {A : Type 0} (P : A → Type 0) (xs : List A) (y : A) (ys : List A) → AllByRecursion P (xs ++ y ∷ ys) → P y
all_at P [] y ys all = all.0
all_at P (x ∷ xs) y ys all = all_at P xs y ys all.1

-- the length of an entry
pub record NextLength (most : ℕ) (known : List (List ℕ)) (f : List ℕ) : Type 0 where
  pub x : List ℕ
  pub fresh : IsFresh known (length x) x
  pub small : length x ≤ most
  pub field : f ≡ number (length x)

regroup : (a : List ℕ) (xs : List (List ℕ)) (f : List ℕ) (more : List (List ℕ)) → ((a ∷ xs) ++ f ∷ []) ++ more ≡ a ∷ (xs ++ f ∷ more)
regroup a xs f more = ap (λ (t : List (List ℕ)). a ∷ t) (append_assoc xs (f ∷ []) more)

pub next_length : (most n d : ℕ) (known : List (List ℕ)) (f : List ℕ) → d ≤ 4096 → length known < d → GoesOn (SpelledWithin most n) (entries_front d known) f → NextLength most known f
next_length most n d known f few lt on = at (inside most n d known (f ∷ on.0) (entries_front d known ++ f ∷ [] ++ on.0) few (omega arith) on.1 (regroup (short d) (flat_map entry known) f on.0))
  where
    at : Inside most n d known (f ∷ on.0) → NextLength most known f
    at i = from i.more i.is i.short i.bytes i.own i.tail_is
      where
        from : (more : List (List ℕ)) → dictionary i.items ≡ known ++ more → AllByRecursion (λ x. length x ≤ most) (known ++ more) → AllByRecursion AreBytes (known ++ more) → Own (known ++ more) → f ∷ on.0 ≡ flat_map entry more ++ map (code (known ++ more)) i.items → NextLength most known f
        from [] is short bytes own e = absurd (omega (arith, ap length is, ap length (append-nil known), i.size))
        from (x ∷ more) is short bytes own e = record {
          x = x;
          fresh = record { length_is = refl; bytes = all_at AreBytes known x more bytes; is_new = new_one known x more own };
          small = all_at (λ y. length y ≤ most) known x more short;
          field = cc;
        }

-- the bytes of an entry behind its length
pub next_bytes : (most n d len : ℕ) (known : List (List ℕ)) (f : List ℕ) → d ≤ 4096 → length known < d → most < 2 ^ 32 → len < 2 ^ 32 → GoesOn (SpelledWithin most n) (entries_front d known ++ number len ∷ []) f → IsFresh known len f
next_bytes most n d len known f few lt room short_len on = at (inside most n d known (number len ∷ f ∷ on.0) (((entries_front d known ++ number len ∷ []) ++ f ∷ []) ++ on.0) few (omega arith) on.1 group)
  where
    group : ((entries_front d known ++ number len ∷ []) ++ f ∷ []) ++ on.0 ≡ short d ∷ (flat_map entry known ++ number len ∷ f ∷ on.0)
    group = ap (λ (t : List (List ℕ)). short d ∷ t) (append_assoc (flat_map entry known ++ number len ∷ []) (f ∷ []) on.0 ∙ append_assoc (flat_map entry known) (number len ∷ []) (f ∷ on.0))

    has_room : (k : ℕ) → k ≤ most → k < 2 ^ 32
    has_room k le = omega (arith, room)

    at : Inside most n d known (number len ∷ f ∷ on.0) → IsFresh known len f
    at i = from i.more i.is i.short i.bytes i.own i.tail_is
      where
        from : (more : List (List ℕ)) → dictionary i.items ≡ known ++ more → AllByRecursion (λ x. length x ≤ most) (known ++ more) → AllByRecursion AreBytes (known ++ more) → Own (known ++ more)
            → number len ∷ f ∷ on.0 ≡ flat_map entry more ++ map (code (known ++ more)) i.items → IsFresh known len f
        from [] is short bytes own e = absurd (omega (arith, ap length is, ap length (append-nil known), i.size))
        from (x ∷ more) is short bytes own e =
            let first : number len ≡ number (length x) = cc in
            let second : x ≡ f = cc in
            let same : length x ≡ len = sym (number_one len (length x) short_len (has_room (length x) (all_at (λ y. length y ≤ most) known x more short)) first) in
            subst (IsFresh known len) second (record { length_is = same; bytes = all_at AreBytes known x more bytes; is_new = new_one known x more own })

-- ---- codes

-- the code of the next item, with m items behind it
pub record NextCode (m used : ℕ) (known : List (List ℕ)) (f : List ℕ) : Type 0 where
  pub code : ℕ
  pub small : code < 2 ^ 16
  pub stands : is_code m (length known) used code ≡ true
  pub field : f ≡ short code

pub record Step (m : ℕ) (known : List (List ℕ)) (used c : ℕ) : Type 0 where
  pub there : c < length known
  pub within : used_with used c ≤ length known
  pub enough : length known ≤ used_with used c + m
  pub after : with_entry (take used known) (get_or known c []) ≡ take (used_with used c) known

-- what a code that can stand does to the entries that were used
pub code_step : (m : ℕ) (known : List (List ℕ)) (used c : ℕ) → Own known → used ≤ length known → length known ≤ used + suc m → is_code m (length known) used c ≡ true → Step m known used c
code_step m known used c own le enough e =
    (elim (nat_lt c used) as (λ b. nat_lt c used ≡ b → cond b (nat_le (length known) (used + m)) (c == used && nat_lt c (length known)) ≡ true → Step m known used c) [
      | true ↦ λ t h.
          let lt : c < used = ltb-true c used t in
          let fits : length known ≤ used + m = grind (arith, nat_tests) in
          record { there = omega arith; within = rw t le; enough = rw t fits; after = rw (has_front known used c lt le, t) refl }
      | false ↦ λ t h.
          let p = and_both (c == used) (nat_lt c (length known)) h in
          let at : c ≡ used = eqb-true c used p.0 in
          let lt : c < length known = ltb-true c (length known) p.1 in
          let new : has (take used known) (get_or known c []) ≡ false = rw at (has_front_not known used own (omega arith)) in
          let one : take (used + 1) known ≡ take used known ++ get_or known c [] ∷ [] = rw at (take_more known used [] (omega arith)) in
          record { there = lt; within = rw t (omega arith); enough = rw t (omega arith); after = rw (new, t) (sym one) }
    ]) refl e

-- the code of an item can stand where its turn is
pub record Again (n : ℕ) (known : List (List ℕ)) (used : ℕ) (x : List ℕ) : Type 0 where
  pub item : get_or known (place known x) [] ≡ x
  pub stands : is_code n (length known) used (place known x) ≡ true
  pub next : with_entry (take used known) x ≡ take (used_with used (place known x)) known
  pub within : used_with used (place known x) ≤ length known

pub again_step : (known : List (List ℕ)) (used : ℕ) (x : List ℕ) (xs : List (List ℕ)) → used ≤ length known → entries_after (with_entry (take used known) x) xs ≡ known → Again (length xs) known used x
again_step known used x xs le e =
    let front : List (List ℕ) = take used known in
    let len : length front ≡ used = length-take-le used known le in
    (elim (has front x) as (λ b. has front x ≡ b → entries_after (cond b front (front ++ x ∷ [])) xs ≡ known → Again (length xs) known used x) [
      | true ↦ λ t h.
          let p = has_place front x t in
          let same : place known x ≡ place front x = ap (λ z. place z x) (sym (take-append-drop used known)) ∙ place_front front (drop used known) x t in
          let lt : place known x < used = omega arith in
          let test = below_test (place known x) used lt in
          let g = after_grows front xs in
          let fits : length known ≤ used + length xs = omega (arith, ap length (sym h ∙ g.1), length-append front g.0, g.2) in
          record {
            item = sym (get_or-take used known (place known x) [] lt) ∙ (ap (λ k. get_or front k []) same ∙ p.1);
            stands = rw test (upto_test (length known) (used + length xs) fits);
            next = rw (t, test) refl;
            within = rw test le;
          }
      | false ↦ λ t h.
          let g = after_grows (front ++ x ∷ []) xs in
          let is : known ≡ front ++ x ∷ g.0 = sym h ∙ (g.1 ∙ append_assoc front (x ∷ []) g.0) in
          let at : place known x ≡ used = ap (λ z. place z x) is ∙ (place_push front g.0 x t ∙ len) in
          let lt : used < length known = omega (arith, ap length is, length-append front (x ∷ g.0)) in
          let test : nat_lt (place known x) used ≡ false = le-ltb (place known x) used (omega arith) in
          let item : get_or known used [] ≡ x = ap (λ z. get_or z used []) is ∙ get_or_at front x g.0 [] used len in
          let last : nat_lt (place known x) (length known) ≡ true = below_test (place known x) (length known) (omega arith) in
          let turn : (place known x == used) ≡ true = same_test (place known x) used at in
          record {
            item = ap (λ k. get_or known k []) at ∙ item;
            stands = rw (test, turn, last) refl;
            next = rw (t, test) (sym (take_more known used [] lt ∙ ap (λ y. front ++ y ∷ []) item));
            within = rw test (omega arith);
          }
    ]) refl e

-- one item more, the entry of a code that can stand
pub coded_step : (most n m used c : ℕ) (known items : List (List ℕ)) → Coded most n (suc m) used known items → is_code m (length known) used c ≡ true → Coded most n m (used_with used c) known (items ++ get_or known c [] ∷ [])
coded_step most n m used c known items s e =
    let t = code_step m known used c s.good.own s.within s.enough e in
    record {
      good = s.good;
      counts = s.counts;
      total = omega (arith, s.total, length_push items (get_or known c []));
      within = t.within;
      enough = t.enough;
      so_far = after_append [] items (get_or known c [] ∷ []) ∙ (ap (λ (ds : List (List ℕ)). with_entry ds (get_or known c [])) s.so_far ∙ t.after);
    }

pub codes_push : (known items : List (List ℕ)) (c : ℕ) → Own known → c < length known → codes_front known (items ++ get_or known c [] ∷ []) ≡ codes_front known items ++ short c ∷ []
codes_push known items c own lt =
    let one : code known (get_or known c []) ≡ short c = ap short (own.at c lt) in
    ap (λ (t : List (List ℕ)). short (length known) ∷ (flat_map entry known ++ t)) (map_push (code known) items (get_or known c []) ∙ ap (λ (f : List ℕ). map (code known) items ++ f ∷ []) one)
    ∙ ap (λ (t : List (List ℕ)). short (length known) ∷ t) (sym (append_assoc (flat_map entry known) (map (code known) items) (short c ∷ [])))

-- some code can stand where items are left
some_code : (m used d : ℕ) → used ≤ d → d ≤ used + suc m → 0 < d → (c : ℕ) × (is_code m d used c ≡ true)
some_code m used d le enough some =
    elim (cases_lt used d) [
      | inl lt ↦ (used, next m used d lt)
      | inr full ↦ (0, first m used d (omega arith) (omega arith))
    ]
  where
    next : (m used d : ℕ) → used < d → is_code m d used used ≡ true
    next m used d lt = rw (le-ltb used used (omega arith), same_test used used refl, below_test used d lt) refl

    first : (m used d : ℕ) → 0 < used → d ≤ used → is_code m d used 0 ≡ true
    first m used d lt le = rw (below_test 0 used lt) (upto_test d (used + m) (omega arith))

pub code_goes_on : (most n m used : ℕ) (known items : List (List ℕ)) → Coded most n (suc m) used known items → (w : List ℕ) × (length w ≡ 2) × GoesOn (SpelledWithin most n) (codes_front known items) w
code_goes_on most n m used known items s =
    let c = some_code m used (length known) s.within s.enough (omega (arith, (counted n (length known) s.counts).some, s.total)) in
    let t = code_step m known used c.0 s.good.own s.within s.enough c.1 in
    (short c.0, length-short c.0, subst (Begins (SpelledWithin most n)) (codes_push known items c.0 s.good.own t.there) (begins_codes most n m (used_with used c.0) known (items ++ get_or known c.0 [] ∷ []) (coded_step most n m used c.0 known items s c.1)))

all_items : (ds items : List (List ℕ)) → dictionary items ≡ ds → AllByRecursion (λ x. has ds x ≡ true) items
all_items ds items e = subst (λ (es : List (List ℕ)). AllByRecursion (λ x. has es x ≡ true) items) e (all_had [] items)

all_front : (used : ℕ) (known xs : List (List ℕ)) → AllByRecursion (λ x. has (take used known) x ≡ true) xs → AllByRecursion (λ x. has known x ≡ true) xs
all_front used known [] all = tt
all_front used known (x ∷ xs) all = (subst (λ (es : List (List ℕ)). has es x ≡ true) (take-append-drop used known) (has_more (take used known) (drop used known) x all.0), all_front used known xs all.1)

-- the items of a list whose fields begin with those of these
record Ahead (n used : ℕ) (known items : List (List ℕ)) (f : List ℕ) (more : List (List ℕ)) : Type 0 where
  pub rest : List (List ℕ)
  pub count : length items + length rest ≡ n
  pub used_up : entries_after (take used known) rest ≡ known
  pub codes : f ∷ more ≡ map (code known) rest

ahead : (most n m used : ℕ) (known items : List (List ℕ)) (f : List ℕ) → Coded most n m used known items → (on : GoesOn (SpelledWithin most n) (codes_front known items) f) → Ahead n used known items f on.0
ahead most n m used known items f s on = at (inside most n (length known) known (map (code known) items ++ f ∷ on.0) ((codes_front known items ++ f ∷ []) ++ on.0) (counted n (length known) s.counts).few (omega arith) on.1 group)
  where
    group : (codes_front known items ++ f ∷ []) ++ on.0 ≡ short (length known) ∷ (flat_map entry known ++ (map (code known) items ++ f ∷ on.0))
    group = ap (λ (t : List (List ℕ)). short (length known) ∷ t) (append_assoc (flat_map entry known ++ map (code known) items) (f ∷ []) on.0 ∙ append_assoc (flat_map entry known) (map (code known) items) (f ∷ on.0))

    at : Inside most n (length known) known (map (code known) items ++ f ∷ on.0) → Ahead n used known items f on.0
    at i =
        let none : i.more ≡ [] = nil_from_length i.more (omega (arith, ap length i.is, length-append known i.more, i.size)) in
        let dict : dictionary i.items ≡ known = i.is ∙ (ap (λ (t : List (List ℕ)). known ++ t) none ∙ append-nil known) in
        let whole : map (code known) items ++ f ∷ on.0 ≡ map (code known) i.items = i.tail_is ∙ (ap (λ (t : List (List ℕ)). flat_map entry t ++ map (code (known ++ t)) i.items) none ∙ ap (λ (t : List (List ℕ)). map (code t) i.items) (append-nil known)) in
        let mine = all_front used known items (all_items (take used known) items s.so_far) in
        let r = codes_inside known items i.items (f ∷ on.0) (counted n (length known) s.counts).few mine (all_items known i.items dict) whole in
        record {
          rest = r.0;
          count = sym (length-append items r.0) ∙ (sym (ap length r.1) ∙ i.count);
          used_up = ap (λ (ds : List (List ℕ)). entries_after ds r.0) (sym s.so_far) ∙ (sym (after_append [] items r.0) ∙ (ap dictionary (sym r.1) ∙ dict));
          codes = r.2;
        }

pub next_code : (most n m used : ℕ) (known items : List (List ℕ)) (f : List ℕ) → Coded most n (suc m) used known items → GoesOn (SpelledWithin most n) (codes_front known items) f → NextCode m used known f
next_code most n m used known items f s on = at (ahead most n (suc m) used known items f s on)
  where
    from : (rest : List (List ℕ)) → length items + length rest ≡ n → entries_after (take used known) rest ≡ known → f ∷ on.0 ≡ map (code known) rest → NextCode m used known f
    from [] count up e = absurd cc
    from (y ∷ rest) count up e =
        let g = again_step known used y rest s.within up in
        let len : length rest ≡ m = omega (arith, s.total) in
        record { code = place known y; small = omega (arith, place-le known y, (counted n (length known) s.counts).few); stands = subst (λ (k : ℕ). is_code k (length known) used (place known y) ≡ true) len g.stands; field = cc }

    at : Ahead n used known items f on.0 → NextCode m used known f
    at a = from a.rest a.count a.used_up a.codes

pub no_more : (most n used : ℕ) (known items : List (List ℕ)) (f : List ℕ) → Coded most n 0 used known items → GoesOn (SpelledWithin most n) (codes_front known items) f → ⊥
no_more most n used known items f s on = at (ahead most n 0 used known items f s on)
  where
    from : (rest : List (List ℕ)) → length items + length rest ≡ n → f ∷ on.0 ≡ map (code known) rest → ⊥
    from [] count e = absurd (let len : suc (length on.0) ≡ 0 = ap length e in omega arith)
    from (y ∷ rest) count e = absurd (omega (arith, s.total))

    at : Ahead n used known items f on.0 → ⊥
    at a = from a.rest a.count a.codes

-- ---- how long fields are

codes_two : (ds items front : List (List ℕ)) (a : List ℕ) (more : List (List ℕ)) → front ++ a ∷ more ≡ map (code ds) items → length a ≡ 2
codes_two ds [] [] a more e = absurd (let len : suc (length more) ≡ 0 = ap length e in omega arith)
codes_two ds (x ∷ items) [] a more e = let is : a ≡ code ds x = cc in ap length is ∙ length-short (place ds x)
codes_two ds [] (f ∷ front) a more e = absurd (let len : suc (length (front ++ a ∷ more)) ≡ 0 = ap length e in omega arith)
codes_two ds (x ∷ items) (f ∷ front) a more e = let rest : front ++ a ∷ more ≡ map (code ds) items = cc in codes_two ds items front a more rest

-- the fields of two lists with as many entries
record Alike (most : ℕ) (front : List (List ℕ)) (a b : List ℕ) (ds es ks ls : List (List ℕ)) (xs ys : List (List ℕ)) (more others : List (List ℕ)) : Type 0 where
  pub room : most < 2 ^ 32
  pub count : length ds ≡ length es
  pub short : AllByRecursion (λ x. length x ≤ most) ds
  pub small : AllByRecursion (λ x. length x ≤ most) es
  pub first : front ++ a ∷ more ≡ flat_map entry ds ++ map (code ks) xs
  pub second : front ++ b ∷ others ≡ flat_map entry es ++ map (code ls) ys

alike : (most : ℕ) (front : List (List ℕ)) (a b : List ℕ) (ds es ks ls xs ys more others : List (List ℕ)) → Alike most front a b ds es ks ls xs ys more others → length a ≡ length b
alike most front a b [] [] ks ls xs ys more others l = codes_two ks xs front a more l.first ∙ sym (codes_two ls ys front b others l.second)
alike most front a b [] (e ∷ es) ks ls xs ys more others l = absurd (omega (arith, l.count))
alike most front a b (d ∷ ds) [] ks ls xs ys more others l = absurd (omega (arith, l.count))
alike most [] a b (d ∷ ds) (e ∷ es) ks ls xs ys more others l =
    let p : a ≡ number (length d) = head_is l.first in
    let q : b ≡ number (length e) = head_is l.second in
    omega (arith, ap length p, ap length q, length-number (length d), length-number (length e))
  where
    head_is : {x y : List ℕ} {xs ys : List (List ℕ)} → x ∷ xs ≡ y ∷ ys → x ≡ y
    head_is e = cc
alike most (f ∷ []) a b (d ∷ ds) (e ∷ es) ks ls xs ys more others l = two f a b d e more others (flat_map entry ds ++ map (code ks) xs) (flat_map entry es ++ map (code ls) ys) (omega (arith, l.room, l.short.0)) (omega (arith, l.room, l.small.0)) l.first l.second
  where
    two : (f a b d e : List ℕ) (more others xs ys : List (List ℕ)) → length d < 2 ^ 32 → length e < 2 ^ 32 → f ∷ a ∷ more ≡ number (length d) ∷ d ∷ xs → f ∷ b ∷ others ≡ number (length e) ∷ e ∷ ys → length a ≡ length b
    two f a b d e more others xs ys ld le p q =
        let same : number (length d) ≡ number (length e) = cc in
        let ad : a ≡ d = cc in
        let be : b ≡ e = cc in
        omega (arith, number_one (length d) (length e) ld le same, ap length ad, ap length be)
alike most (f ∷ g ∷ front) a b (d ∷ ds) (e ∷ es) ks ls xs ys more others l =
    alike most front a b ds es ks ls xs ys more others (record { room = l.room; count = omega (arith, l.count); short = l.short.1; small = l.small.1; first = tail_is l.first; second = tail_is l.second })
  where
    tail_is : {x y z w : List ℕ} {xs ys : List (List ℕ)} → x ∷ y ∷ xs ≡ z ∷ w ∷ ys → xs ≡ ys
    tail_is e = cc

-- the same, whatever the items are made of
pub record Listed (most n : ℕ) (all : List (List ℕ)) : Type 0 where
  pub items : List (List ℕ)
  pub count : length items ≡ n
  pub fits : FitsWithin most items
  pub is : all ≡ fields items

pub listed : (most n : ℕ) (all : List (List ℕ)) → SpelledWithin most n all → Listed most n all
listed most n all s = record { items = s.items; count = s.count; fits = s.fits; is = s.is }

pub listed_on : (most n : ℕ) (front : List (List ℕ)) (field : List ℕ) → GoesOn (SpelledWithin most n) front field → GoesOn (Listed most n) front field
listed_on most n front field on = (on.0, listed most n ((front ++ field ∷ []) ++ on.0) on.1)

-- two lists whose first fields are one have as many entries
same_count : (most n : ℕ) (f : List ℕ) (xs ys : List (List ℕ)) (s : Listed most n (f ∷ xs)) (t : Listed most n (f ∷ ys)) → length (dictionary s.items) ≡ length (dictionary t.items)
same_count most n f xs ys s t =
    let p : f ≡ short (length (dictionary s.items)) = head_is s.is in
    let q : f ≡ short (length (dictionary t.items)) = head_is t.is in
    short_one (length (dictionary s.items)) (length (dictionary t.items)) (omega (arith, s.fits.few)) (omega (arith, t.fits.few)) (sym p ∙ q)
  where
    head_is : {x y : List ℕ} {xs ys : List (List ℕ)} → x ∷ xs ≡ y ∷ ys → x ≡ y
    head_is e = cc

tail_of : {x y : List ℕ} {xs ys : List (List ℕ)} → x ∷ xs ≡ y ∷ ys → xs ≡ ys
tail_of e = cc

listed_delimited : (most n : ℕ) → most < 2 ^ 32 → Delimited (Listed most n)
listed_delimited most n room [] a b p q =
    let s = p.1 in
    let t = q.1 in
    omega (arith, length-short (length (dictionary s.items)), length-short (length (dictionary t.items)), ap length (head_is s.is), ap length (head_is t.is))
  where
    head_is : {x y : List ℕ} {xs ys : List (List ℕ)} → x ∷ xs ≡ y ∷ ys → x ≡ y
    head_is e = cc
listed_delimited most n room (f ∷ front) a b p q =
    let s : Listed most n (f ∷ ((front ++ a ∷ []) ++ p.0)) = p.1 in
    let t : Listed most n (f ∷ ((front ++ b ∷ []) ++ q.0)) = q.1 in
    alike most front a b (dictionary s.items) (dictionary t.items) (dictionary s.items) (dictionary t.items) s.items t.items p.0 q.0 (record {
      room = room;
      count = same_count most n f ((front ++ a ∷ []) ++ p.0) ((front ++ b ∷ []) ++ q.0) s t;
      short = s.fits.each;
      small = t.fits.each;
      first = sym (append_assoc front (a ∷ []) p.0) ∙ tail_of s.is;
      second = sym (append_assoc front (b ∷ []) q.0) ∙ tail_of t.is;
    })

length-entries : (ds : List (List ℕ)) → length (flat_map entry ds) ≡ 2 * length ds
length-entries [] = refl
length-entries (d ∷ ds) = omega (arith, length-entries ds)

field_count : (most n : ℕ) (f : List ℕ) (xs : List (List ℕ)) (s : Listed most n (f ∷ xs)) → length xs ≡ 2 * length (dictionary s.items) + n
field_count most n f xs s = omega (arith, ap length s.is, length-append (flat_map entry (dictionary s.items)) (map (code (dictionary s.items)) s.items), length-entries (dictionary s.items), length-map s.items (code (dictionary s.items)), s.count)

-- what is whole doesn't go on
pub listed_ends : (most n : ℕ) (front : List (List ℕ)) (w : List ℕ) → GoesOn (Listed most n) front w → ¬ Listed most n front
listed_ends most n [] w on s = absurd (let len : 0 ≡ suc (length (flat_map entry (dictionary s.items) ++ map (code (dictionary s.items)) s.items)) = ap length s.is in omega arith)
listed_ends most n (f ∷ front) w on s =
    let t : Listed most n (f ∷ ((front ++ w ∷ []) ++ on.0)) = on.1 in
    absurd (omega (arith, same_count most n f front ((front ++ w ∷ []) ++ on.0) s t, field_count most n f front s, field_count most n f ((front ++ w ∷ []) ++ on.0) t, length-append (front ++ w ∷ []) on.0, length_push front w))

pub delimited : (most n : ℕ) → most < 2 ^ 32 → Delimited (SpelledWithin most n)
delimited most n room front a b p q = listed_delimited most n room front a b (listed_on most n front a p) (listed_on most n front b q)

pub whole_ends : (most n : ℕ) (front : List (List ℕ)) (w : List ℕ) → GoesOn (SpelledWithin most n) front w → ¬ SpelledWithin most n front
whole_ends most n front w on s = listed_ends most n front w (listed_on most n front w on) (listed most n front s)

-- ---- one list

same_fields : (most : ℕ) (xs ys : List (List ℕ)) → FitsWithin most xs → FitsWithin most ys → fields xs ≡ fields ys → xs ≡ ys
same_fields most xs ys p q e =
    let ds : List (List ℕ) = dictionary xs in
    let es : List (List ℕ) = dictionary ys in
    let first : short (length ds) ≡ short (length es) = head_is e in
    let size : length ds ≡ length es = short_one (length ds) (length es) (omega (arith, p.few)) (omega (arith, q.few)) first in
    let r = entries_inside ds es (map (code ds) xs) (map (code es) ys) (tail_of e) (omega arith) in
    let none : r.0 ≡ [] = nil_from_length r.0 (omega (arith, ap length r.1, length-append ds r.0, size)) in
    let one : es ≡ ds = r.1 ∙ (ap (λ (t : List (List ℕ)). ds ++ t) none ∙ append-nil ds) in
    let codes : map (code ds) xs ≡ map (code ds) ys = r.2 ∙ (ap (λ (t : List (List ℕ)). flat_map entry t ++ map (code es) ys) none ∙ ap (λ (t : List (List ℕ)). map (code t) ys) one) in
    let z = codes_inside ds xs ys [] p.few (all_items ds xs refl) (all_items ds ys one) (append-nil (map (code ds) xs) ∙ codes) in
    let rest : z.0 ≡ [] = no_rest ds z.0 z.2 in
    sym (z.1 ∙ (ap (λ (t : List (List ℕ)). xs ++ t) rest ∙ append-nil xs))
  where
    head_is : {x y : List ℕ} {us vs : List (List ℕ)} → x ∷ us ≡ y ∷ vs → x ≡ y
    head_is e = cc

    no_rest : (es zs : List (List ℕ)) → [] ≡ map (code es) zs → zs ≡ []
    no_rest es [] e = refl
    no_rest es (z ∷ zs) e = absurd cc

-- what is cut into fields in two ways is cut in one
same_cut : (S : List (List ℕ) → Type 0) (front f g : List (List ℕ)) → Delimited S → IsWhole S → S (front ++ f) → S (front ++ g) → concat f ≡ concat g → f ≡ g
same_cut S front [] [] d w p q e = refl
same_cut S front [] (b ∷ g) d w p q e = absurd (w front b (rw append-nil at p) (goes_on S front b g ([], rw append-nil q)))
same_cut S front (a ∷ f) [] d w p q e = absurd (w front a (rw append-nil at q) (goes_on S front a f ([], rw append-nil p)))
same_cut S front (a ∷ f) (b ∷ g) d w p q e =
    let len : length a ≡ length b = d front a b (goes_on S front a f ([], rw append-nil p)) (goes_on S front b g ([], rw append-nil q)) in
    let one : a ≡ b = sym (take_at a (concat f) (length b) len) ∙ ap (take (length b)) e ∙ take_at b (concat g) (length b) refl in
    let rest : concat f ≡ concat g = sym (drop_at a (concat f) (length b) len) ∙ ap (drop (length b)) e ∙ drop_at b (concat g) (length b) refl in
    let right : front ++ b ∷ g ≡ (front ++ a ∷ []) ++ g = ap (λ (x : List ℕ). front ++ x ∷ g) (sym one) ∙ sym (append_assoc front (a ∷ []) g) in
    let more = same_cut S (front ++ a ∷ []) f g d w (subst S (sym (append_assoc front (a ∷ []) f)) p) (subst S right q) rest in
    ap (λ (x : List ℕ). x ∷ f) one ∙ ap (λ (l : List (List ℕ)). b ∷ l) more

pub one_spelling : (most n : ℕ) (xs ys : List (List ℕ)) → most < 2 ^ 32 → FitsWithin most xs → FitsWithin most ys → length xs ≡ n → length ys ≡ n → concat (fields xs) ≡ concat (fields ys) → xs ≡ ys
one_spelling most n xs ys room p q cx cy e =
    let s : Listed most n (fields xs) = record { items = xs; count = cx; fits = p; is = refl } in
    let t : Listed most n (fields ys) = record { items = ys; count = cy; fits = q; is = refl } in
    same_fields most xs ys p q (same_cut (Listed most n) [] (fields xs) (fields ys) (listed_delimited most n room) (λ front w whole on. listed_ends most n front w on whole) s t e)
