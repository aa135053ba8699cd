-- The first fault of bytes that are not the ends and the bytes of n byte lists.
use Rattle.std.proofs.Common.{◌≡◌, ◌⊎◌, ℕ, ◌+◌, ◌-◌, ◌*◌, ◌^◌, ◌<◌, ◌≤◌, List, [], ◌∷◌, ◌++◌, length, take, drop, map, replicate, refl, sym, ap, ◌∙◌, subst, arith, inl, inr}
use Rattle.std.specs.List.{concat}
use Rattle.std.specs.Int.{w32, to_le_bytes}
use Rattle.std.proofs.lemmas.List.{append_assoc, append-nil, length-append, length-drop, length-map, length-replicate, length-take, map-append, take-append-drop}
use Rattle.byteorder.specs.Endian.{little_number}
use Rattle.byteorder.specs.Numbers.{little_number-reads_back}
use Rattle.kt_bytes.specs.Cuts.{pieces, IsCut, ends_of}
use Rattle.kt_bytes.specs.Places.{Begins, GoesOn, Delimited}
use Rattle.kt_bytes.proofs.Cuts.{cut_from, concat-all, ends_of-pieces, length-pieces, length-ends_of, IsCut-ends_of}
use Rattle.kt_bytes.proofs.Numbers.{IsBytes}
use Rattle.kt_bytes.proofs.Fronts.{concat-map, concat-push, map_split, IsWhole}
use Rattle.kt_plain.specs.declared.widths.Width.TheVariants.{Bytes}
use Rattle.kt_plain.specs.declared.items.Items.{Items}
use Rattle.kt_plain.specs.declared.items.Items.TheVariants.{Numbers, Texts}
use Rattle.kt_plain.specs.Items.{count}
use Rattle.kt_plain.specs.Spelling.{AreShort, Fits, fields, SpelledWithin}
use Rattle.kt_plain.specs.Reading.{ends_in, IsSpellingWithin, IsAtFaultWithin}
use Rattle.kt_plain.proofs.Ends.{length-ends_in, ends_in-more, spelled-ends_in, IsCut-same, next-le, one_len, IsCut-more, same_ends, AreSteps, steps_more, steps_same, step_at, short_pieces, short_steps}

-- the field of an end
abbrev pub end_bytes : ℕ → List ℕ
end_bytes e = to_le_bytes w32 e

-- ---- what the fields of byte lists are

-- rising ends and as many bytes as the last says are the fields of the pieces
pub spelled_fields : (most n : ℕ) (es body : List ℕ) → IsCut 0 es (length body) → AreSteps most 0 es → length es ≡ n → n < 2 ^ 32 → length body < 2 ^ 32 → SpelledWithin most Bytes n (map end_bytes es ++ body ∷ [])
spelled_fields most n es body cut steps len few small =
    let counted : length (pieces 0 es body) ≡ n = length-pieces 0 es body ∙ len in
    let joined : concat (pieces 0 es body) ≡ body = concat-all es body cut in
    record {
      items = Texts (pieces 0 es body);
      fits = (subst (λ (k : ℕ). k < 2 ^ 32) (sym counted) few, rw joined small);
      short = short_pieces most 0 es body cut steps;
      counted = counted;
      spelled = rw (ends_of-pieces 0 es body cut, joined) refl;
    }

-- byte lists whose fields these are
pub record OfTexts (most n : ℕ) (fs : List (List ℕ)) : Type 0 where
  pub texts : List (List ℕ)
  pub counted : length (ends_of 0 texts) ≡ n
  pub fits : length (concat texts) < 2 ^ 32
  pub steps : AreSteps most 0 (ends_of 0 texts)
  pub is : fs ≡ map end_bytes (ends_of 0 texts) ++ concat texts ∷ []

pub of_texts : (most n : ℕ) (fs : List (List ℕ)) → SpelledWithin most Bytes n fs → OfTexts most n fs
of_texts most n fs s = of n fs s.items s.fits s.short s.counted s.spelled
  where
    of : (n : ℕ) (fs : List (List ℕ)) (items : Items) → Fits Bytes items → AreShort most items → count items ≡ n → fs ≡ fields Bytes items → OfTexts most n fs
    of n fs (Numbers zs) fits short counted e = absurd fits
    of n fs (Texts ts) fits short counted e = record { texts = ts; counted = length-ends_of 0 ts ∙ counted; fits = fits.1; steps = short_steps most 0 ts short; is = e }

-- the list in front of a longer one begins it
record Longer {X : Type 0} (a b c d : List X) : Type 0 where
  middle : List X
  is_long : a ≡ c ++ middle
  is_rest : d ≡ middle ++ b

longer : {X : Type 0} (a b c d : List X) → a ++ b ≡ c ++ d → length c ≤ length a → Longer a b c d
longer a b [] d e le = record { middle = a; is_long = refl; is_rest = sym e }
longer [] b (y ∷ c) d e le = absurd (omega arith)
longer (x ∷ a) b (y ∷ c) d e le =
    let l = longer a b c d (ap (λ (xs : List _). drop 1 xs) e) (omega arith) in
    record { middle = l.middle; is_long = first x y a b c d l.middle e l.is_long; is_rest = l.is_rest }
  where
    first : {X : Type 0} (x y : X) (a b c d m : List X) → x ∷ (a ++ b) ≡ y ∷ (c ++ d) → a ≡ c ++ m → x ∷ a ≡ y ∷ (c ++ m)
    first x y a b c d m e f = cc

-- a field behind others: an end, which is not below the last one, or all bytes, which are as many as the last end says
pub record AnEnd (most n : ℕ) (front : List (List ℕ)) (field : List ℕ) : Type 0 where
  pub before : length front < n
  pub ends : List ℕ
  pub end : ℕ
  pub more : List ℕ
  pub total : ℕ
  pub cut : IsCut 0 (ends ++ end ∷ more) total
  pub steps : AreSteps most 0 (ends ++ end ∷ more)
  pub small : total < 2 ^ 32
  pub is_front : map end_bytes ends ≡ front
  pub is : field ≡ end_bytes end

pub record AllBytes (most n : ℕ) (front : List (List ℕ)) (field : List ℕ) : Type 0 where
  pub before : length front ≡ n
  pub ends : List ℕ
  pub cut : IsCut 0 ends (length field)
  pub small : length field < 2 ^ 32
  pub is_front : map end_bytes ends ≡ front

pub goes_on_as : (most n : ℕ) (front : List (List ℕ)) (field : List ℕ) → GoesOn (SpelledWithin most Bytes n) front field → AnEnd most n front field ⊎ AllBytes most n front field
goes_on_as most n front field (more, s) =
    let t = of_texts most n ((front ++ field ∷ []) ++ more) s in
    let ends : List ℕ = ends_of 0 t.texts in
    let whole : map end_bytes ends ++ concat t.texts ∷ [] ≡ front ++ field ∷ more = sym t.is ∙ append_assoc front (field ∷ []) more in
    let len : length (map end_bytes ends) ≡ n = length-map ends end_bytes ∙ t.counted in
    let total = ap (λ (xs : List (List ℕ)). length xs) whole in
    let le : length front ≤ length (map end_bytes ends) = omega (arith, total, length-append (map end_bytes ends) (concat t.texts ∷ []), length-append front (field ∷ more)) in
    let l = longer (map end_bytes ends) (concat t.texts ∷ []) front (field ∷ more) whole le in
    split n front field more t.texts l.middle (IsCut-ends_of 0 t.texts) t.steps t.fits len l.is_long l.is_rest
  where
    head_of : (x y : List ℕ) (xs ys : List (List ℕ)) → x ∷ xs ≡ y ∷ ys → x ≡ y
    head_of x y xs ys e = cc

    split : (n : ℕ) (front : List (List ℕ)) (field : List ℕ) (more texts middle : List (List ℕ)) → IsCut 0 (ends_of 0 texts) (0 + length (concat texts)) → AreSteps most 0 (ends_of 0 texts) → length (concat texts) < 2 ^ 32
        → length (map end_bytes (ends_of 0 texts)) ≡ n → map end_bytes (ends_of 0 texts) ≡ front ++ middle → field ∷ more ≡ middle ++ concat texts ∷ []
        → AnEnd most n front field ⊎ AllBytes most n front field
    split n front field more texts [] cut steps small len e f =
        let is_front : map end_bytes (ends_of 0 texts) ≡ front = e ∙ append-nil front in
        let is : field ≡ concat texts = head_of field (concat texts) more [] f in
        inr (record {
          before = ap (λ (xs : List (List ℕ)). length xs) (sym is_front) ∙ len;
          ends = ends_of 0 texts;
          cut = rw is (subst (λ (k : ℕ). IsCut 0 (ends_of 0 texts) k) (omega arith) cut);
          small = rw is small;
          is_front = is_front;
        })
    split n front field more texts (y ∷ middle) cut steps small len e f =
        let is : field ≡ y = head_of field y more (middle ++ concat texts ∷ []) f in
        let m = map_split end_bytes (ends_of 0 texts) front y middle e in
        let count = ap (λ (xs : List (List ℕ)). length xs) e in
        inl (record {
          before = omega (arith, len, count, length-append front (y ∷ middle));
          ends = m.before;
          end = m.at;
          more = m.after;
          total = 0 + length (concat texts);
          cut = subst (λ (es : List ℕ). IsCut 0 es (0 + length (concat texts))) m.whole cut;
          steps = subst (AreSteps most 0) m.whole steps;
          small = omega arith;
          is_front = m.is_front;
          is = is ∙ sym m.is_field;
        })

pub texts_delimited : (most n : ℕ) → Delimited (SpelledWithin most Bytes n)
texts_delimited most n front a b x y = same n front a b (goes_on_as most n front a x) (goes_on_as most n front b y)
  where
    same : (n : ℕ) (front : List (List ℕ)) (a b : List ℕ) → AnEnd most n front a ⊎ AllBytes most n front a → AnEnd most n front b ⊎ AllBytes most n front b → length a ≡ length b
    same n front a b (inl p) (inl q) = ap (λ (xs : List ℕ). length xs) p.is ∙ sym (ap (λ (xs : List ℕ). length xs) q.is)
    same n front a b (inl p) (inr q) = let lt = p.before in let eq = q.before in absurd (omega arith)
    same n front a b (inr p) (inl q) = let eq = p.before in let lt = q.before in absurd (omega arith)
    same n front a b (inr p) (inr q) =
        let ends : q.ends ≡ p.ends = same_ends 0 0 p.ends q.ends (length a) (length b) [] p.cut (subst (λ (es : List ℕ). IsCut 0 es (length b)) (sym (append-nil q.ends)) q.cut) p.small q.small (q.is_front ∙ sym p.is_front) in
        one_len 0 p.ends (length a) (length b) p.cut (subst (λ (es : List ℕ). IsCut 0 es (length b)) ends q.cut)

pub count_fields : (most n : ℕ) (fs : List (List ℕ)) → SpelledWithin most Bytes n fs → length fs ≡ n + 1
count_fields most n fs s =
    let t = of_texts most n fs s in
    ap (λ (xs : List (List ℕ)). length xs) t.is ∙ omega (arith, length-append (map end_bytes (ends_of 0 t.texts)) (concat t.texts ∷ []), length-map (ends_of 0 t.texts) end_bytes, t.counted)

pub at_most : (most n : ℕ) (front : List (List ℕ)) (field : List ℕ) → GoesOn (SpelledWithin most Bytes n) front field → length front ≤ n
at_most most n front field on = of n front field (goes_on_as most n front field on)
  where
    of : (n : ℕ) (front : List (List ℕ)) (field : List ℕ) → AnEnd most n front field ⊎ AllBytes most n front field → length front ≤ n
    of n front field (inl p) = let lt = p.before in omega arith
    of n front field (inr p) = let eq = p.before in omega arith

pub texts_whole : (most n : ℕ) → IsWhole (SpelledWithin most Bytes n)
texts_whole most n front field s on = omega (arith, count_fields most n front s, at_most most n front field on)

-- ---- the ends in the first fields

-- some ends that rise begin a spelling
pub ends_begin : (most n : ℕ) (es : List ℕ) (last : ℕ) → IsCut 0 es last → AreSteps most 0 es → length es ≤ n → n < 2 ^ 32 → last < 2 ^ 32 → Begins (SpelledWithin most Bytes n) (map end_bytes es)
ends_begin most n es last cut steps le few small =
    let more : List ℕ = replicate (n - length es) last in
    let body : List ℕ = replicate last 0 in
    let body_len : length body ≡ last = length-replicate {A = ℕ} last 0 in
    let count : length (es ++ more) ≡ n = omega (arith, length-append es more, length-replicate {A = ℕ} (n - length es) last) in
    let s = spelled_fields most n (es ++ more) body (rw body_len (IsCut-same 0 es last (n - length es) cut)) (steps_same most 0 es last (n - length es) cut steps) count few (rw body_len small) in
    let shape : map end_bytes (es ++ more) ++ body ∷ [] ≡ map end_bytes es ++ (map end_bytes more ++ body ∷ []) =
    ap (λ (xs : List (List ℕ)). xs ++ body ∷ []) (map-append end_bytes es more) ∙ append_assoc (map end_bytes es) (map end_bytes more) (body ∷ []) in
    (map end_bytes more ++ body ∷ [], subst (SpelledWithin most Bytes n) shape s)

-- the fields of the ends, and what is behind them
pub record Front (i : ℕ) (bytes : List ℕ) : Type 0 where
  pub joined : concat (map end_bytes (ends_in i bytes)) ≡ take (4 * i) bytes
  pub len : length (concat (map end_bytes (ends_in i bytes))) ≡ 4 * i
  pub parts : bytes ≡ concat (map end_bytes (ends_in i bytes)) ++ drop (4 * i) bytes

pub front_of : (i : ℕ) (bytes : List ℕ) → 4 * i ≤ length bytes → IsBytes bytes → Front i bytes
front_of i bytes room fits =
    let joined : concat (map end_bytes (ends_in i bytes)) ≡ take (4 * i) bytes = concat-map end_bytes (ends_in i bytes) ∙ spelled-ends_in i bytes room fits in
    record {
      joined = joined;
      len = ap (λ (xs : List ℕ). length xs) joined ∙ omega (arith, length-take (4 * i) bytes);
      parts = sym (take-append-drop (4 * i) bytes) ∙ ap (λ (xs : List ℕ). xs ++ drop (4 * i) bytes) (sym joined);
    }

-- so far the ends in the first fields rise
pub record HasEnds (most n i : ℕ) (bytes : List ℕ) (last : ℕ) : Type 0 where
  pub few : n < 2 ^ 32
  pub small : last < 2 ^ 32
  pub within : i ≤ n
  pub room : 4 * i ≤ length bytes
  pub fits : IsBytes bytes
  pub cut : IsCut 0 (ends_in i bytes) last
  pub steps : AreSteps most 0 (ends_in i bytes)

begins : (most n i : ℕ) (bytes : List ℕ) (last : ℕ) → HasEnds most n i bytes last → Begins (SpelledWithin most Bytes n) (map end_bytes (ends_in i bytes))
begins most n i bytes last h = ends_begin most n (ends_in i bytes) last h.cut h.steps (let le = h.within in omega (arith, length-ends_in i bytes)) h.few h.small

count_front : (i : ℕ) (bytes : List ℕ) → length (map end_bytes (ends_in i bytes)) ≡ i
count_front i bytes = length-map (ends_in i bytes) end_bytes ∙ length-ends_in i bytes

-- what may follow them: an end not below the last, or as many bytes as it says
follows_end : (most n i : ℕ) (bytes : List ℕ) (last : ℕ) → HasEnds most n i bytes last → i < n → (field : List ℕ) → GoesOn (SpelledWithin most Bytes n) (map end_bytes (ends_in i bytes)) field
    → (end : ℕ) × (field ≡ end_bytes end) × (last ≤ end) × (end < 2 ^ 32) × (end ≤ last + most)
follows_end most n i bytes last h lt field on = of n i bytes last h lt field (goes_on_as most n (map end_bytes (ends_in i bytes)) field on)
  where
    end_below : (at : ℕ) (es : List ℕ) (end : ℕ) (more : List ℕ) (total : ℕ) → IsCut at (es ++ end ∷ more) total → end ≤ total
    end_below at [] end more total cut = cut_from end more total cut.1
    end_below at (e ∷ es) end more total cut = end_below e es end more total cut.1

    of : (n i : ℕ) (bytes : List ℕ) (last : ℕ) → HasEnds most n i bytes last → i < n → (field : List ℕ)
        → AnEnd most n (map end_bytes (ends_in i bytes)) field ⊎ AllBytes most n (map end_bytes (ends_in i bytes)) field → (end : ℕ) × (field ≡ end_bytes end) × (last ≤ end) × (end < 2 ^ 32) × (end ≤ last + most)
    of n i bytes last h lt field (inl p) =
        let ends : p.ends ≡ ends_in i bytes = same_ends 0 0 (ends_in i bytes) p.ends last p.total (p.end ∷ p.more) h.cut p.cut h.small p.small p.is_front in
        let cut : IsCut 0 (ends_in i bytes ++ p.end ∷ p.more) p.total = subst (λ (es : List ℕ). IsCut 0 (es ++ p.end ∷ p.more) p.total) ends p.cut in
        let small = p.small in
        (p.end, p.is, next-le 0 (ends_in i bytes) last p.end p.more p.total h.cut cut, omega (arith, end_below 0 (ends_in i bytes) p.end p.more p.total cut), step_at most 0 (ends_in i bytes) last p.end p.more h.cut (subst (λ (es : List ℕ). AreSteps most 0 (es ++ p.end ∷ p.more)) ends p.steps))
    of n i bytes last h lt field (inr p) = let eq = p.before in absurd (omega (arith, count_front i bytes))

follows_all : (most n : ℕ) (bytes : List ℕ) (last : ℕ) → HasEnds most n n bytes last → (field : List ℕ) → GoesOn (SpelledWithin most Bytes n) (map end_bytes (ends_in n bytes)) field → length field ≡ last
follows_all most n bytes last h field on = of n bytes last h field (goes_on_as most n (map end_bytes (ends_in n bytes)) field on)
  where
    of : (n : ℕ) (bytes : List ℕ) (last : ℕ) → HasEnds most n n bytes last → (field : List ℕ)
        → AnEnd most n (map end_bytes (ends_in n bytes)) field ⊎ AllBytes most n (map end_bytes (ends_in n bytes)) field → length field ≡ last
    of n bytes last h field (inl p) = let lt = p.before in absurd (omega (arith, count_front n bytes))
    of n bytes last h field (inr p) =
        let ends : p.ends ≡ ends_in n bytes = same_ends 0 0 (ends_in n bytes) p.ends last (length field) [] h.cut (subst (λ (es : List ℕ). IsCut 0 es (length field)) (sym (append-nil p.ends)) p.cut) h.small p.small p.is_front in
        one_len 0 (ends_in n bytes) (length field) last (subst (λ (es : List ℕ). IsCut 0 es (length field)) ends p.cut) h.cut

-- ends that are not all are no spelling
not_all : (most n i : ℕ) (bytes : List ℕ) → i ≤ n → SpelledWithin most Bytes n (map end_bytes (ends_in i bytes)) → ⊥
not_all most n i bytes le s = omega (arith, count_fields most n (map end_bytes (ends_in i bytes)) s, count_front i bytes)

-- ---- the whole, and the four faults

-- the ends in the first fields, and as many bytes behind them
pub spelled_whole : (most n : ℕ) (bytes : List ℕ) (last : ℕ) → HasEnds most n n bytes last → 4 * n + last ≡ length bytes → IsSpellingWithin most Bytes n bytes
spelled_whole most n bytes last h len =
    let es : List ℕ = ends_in n bytes in
    let body : List ℕ = drop (4 * n) bytes in
    let body_len : length body ≡ last = omega (arith, length-drop (4 * n) bytes) in
    let cut : IsCut 0 es (length body) = rw body_len h.cut in
    let counted : length (pieces 0 es body) ≡ n = length-pieces 0 es body ∙ length-ends_in n bytes in
    let joined : concat (pieces 0 es body) ≡ body = concat-all es body cut in (
      Texts (pieces 0 es body),
      record {
        spells = record {
          fits = (subst (λ (k : ℕ). k < 2 ^ 32) (sym counted) h.few, rw (joined, body_len) h.small);
          counted = counted;
          spelled = sym (rw (ends_of-pieces 0 es body cut, joined, spelled-ends_in n bytes h.room h.fits) (take-append-drop (4 * n) bytes));
        };
        short = short_pieces most 0 es body cut h.steps;
      },
    )

-- an end is missing
pub fault_no_end : (most n i : ℕ) (bytes : List ℕ) (last : ℕ) → HasEnds most n i bytes last → i < n → length bytes < 4 * i + 4 → IsAtFaultWithin most Bytes n bytes (length bytes)
fault_no_end most n i bytes last h lt short =
    let f = front_of i bytes h.room h.fits in
    let es : List ℕ = ends_in i bytes in
    let room = h.room in
    let rest_len : length (drop (4 * i) bytes) ≡ length bytes - 4 * i = length-drop (4 * i) bytes in
    let on : GoesOn (SpelledWithin most Bytes n) (map end_bytes es) (end_bytes last) =
    subst (Begins (SpelledWithin most Bytes n)) (map-append end_bytes es (last ∷ []))
    (ends_begin most n (es ++ last ∷ []) last (IsCut-more 0 es last last h.cut (omega arith)) (steps_more most 0 es last last h.cut h.steps (omega arith)) (omega (arith, length-append es (last ∷ []), length-ends_in i bytes)) h.few h.small) in
    record {
      front = map end_bytes es;
      rest = drop (4 * i) bytes;
      parts = f.parts;
      begins = begins most n i bytes last h;
      ends = λ field goes (more, e).
          let end = follows_end most n i bytes last h lt field goes in
          let a = ap (λ (xs : List ℕ). length xs) (e ∙ ap (λ (xs : List ℕ). xs ++ more) end.1) in
          omega (arith, a, rest_len);
      more = λ s. absurd (not_all most n i bytes (omega arith) s);
      at = inl (end_bytes last, on, omega (arith, rest_len), omega (arith, f.len, rest_len));
    }

-- an end is below the one before it, or too far behind it
pub fault_end_falls : (most n i : ℕ) (bytes : List ℕ) (last : ℕ) → HasEnds most n i bytes last → i < n → 4 * i + 4 ≤ length bytes → (little_number 4 (drop (4 * i) bytes) < last) ⊎ (last + most < little_number 4 (drop (4 * i) bytes)) → IsAtFaultWithin most Bytes n bytes (4 * i)
fault_end_falls most n i bytes last h lt long bad =
    let f = front_of i bytes h.room h.fits in
    let es : List ℕ = ends_in i bytes in
    let rest_len : length (drop (4 * i) bytes) ≡ length bytes - 4 * i = length-drop (4 * i) bytes in
    record {
      front = map end_bytes es;
      rest = drop (4 * i) bytes;
      parts = f.parts;
      begins = begins most n i bytes last h;
      ends = λ field goes (more, e).
          let end = follows_end most n i bytes last h lt field goes in
          let same : little_number 4 (drop (4 * i) bytes) ≡ end.0 = ap (little_number 4) (e ∙ ap (λ (xs : List ℕ). xs ++ more) end.1) ∙ little_number-reads_back 4 end.0 more end.3 in
          elim bad [ inl falls ↦ omega (arith, same, end.2, falls) | inr far ↦ omega (arith, same, end.4, far) ];
      more = λ s. omega (arith, rest_len);
      at = inr (
        (λ field goes.
            let end = follows_end most n i bytes last h lt field goes in
            let a = ap (λ (xs : List ℕ). length xs) end.1 in
            omega (arith, a, rest_len)),
        sym f.len,
      );
    }

-- bytes of the lists are missing
pub fault_no_bytes : (most n : ℕ) (bytes : List ℕ) (last : ℕ) → HasEnds most n n bytes last → length bytes < 4 * n + last → IsAtFaultWithin most Bytes n bytes (length bytes)
fault_no_bytes most n bytes last h short =
    let f = front_of n bytes h.room h.fits in
    let es : List ℕ = ends_in n bytes in
    let room = h.room in
    let body : List ℕ = replicate last 0 in
    let body_len : length body ≡ last = length-replicate {A = ℕ} last 0 in
    let rest_len : length (drop (4 * n) bytes) ≡ length bytes - 4 * n = length-drop (4 * n) bytes in
    let on : GoesOn (SpelledWithin most Bytes n) (map end_bytes es) body =
    ([], subst (SpelledWithin most Bytes n) (sym (append-nil (map end_bytes es ++ body ∷ []))) (spelled_fields most n es body (rw body_len h.cut) h.steps (length-ends_in n bytes) h.few (rw body_len h.small))) in
    record {
      front = map end_bytes es;
      rest = drop (4 * n) bytes;
      parts = f.parts;
      begins = begins most n n bytes last h;
      ends = λ field goes (more, e).
          let len = follows_all most n bytes last h field goes in
          let a = ap (λ (xs : List ℕ). length xs) e ∙ length-append field more in
          omega (arith, a, len, rest_len);
      more = λ s. absurd (not_all most n n bytes (omega arith) s);
      at = inl (body, on, omega (arith, body_len, rest_len), omega (arith, f.len, rest_len));
    }

-- bytes follow
pub fault_more_bytes : (most n : ℕ) (bytes : List ℕ) (last : ℕ) → HasEnds most n n bytes last → 4 * n + last < length bytes → IsAtFaultWithin most Bytes n bytes (4 * n + last)
fault_more_bytes most n bytes last h long =
    let f = front_of n bytes h.room h.fits in
    let es : List ℕ = ends_in n bytes in
    let rest : List ℕ = drop (4 * n) bytes in
    let rest_len : length rest ≡ length bytes - 4 * n = length-drop (4 * n) bytes in
    let body : List ℕ = take last rest in
    let body_len : length body ≡ last = omega (arith, length-take last rest) in
    let front : List (List ℕ) = map end_bytes es ++ body ∷ [] in
    let s : SpelledWithin most Bytes n front = spelled_fields most n es body (rw body_len h.cut) h.steps (length-ends_in n bytes) h.few (rw body_len h.small) in
    let front_len : length front ≡ n + 1 = count_fields most n front s in
    let joined : concat front ≡ concat (map end_bytes es) ++ body = concat-push (map end_bytes es) body in
    let none : (field : List ℕ) → ¬ GoesOn (SpelledWithin most Bytes n) front field = λ field goes. omega (arith, front_len, at_most most n front field goes) in
    record {
      front = front;
      rest = drop last rest;
      parts = f.parts ∙ ap (λ (xs : List ℕ). concat (map end_bytes es) ++ xs) (sym (take-append-drop last rest)) ∙ sym (append_assoc (concat (map end_bytes es)) body (drop last rest))
          ∙ ap (λ (xs : List ℕ). xs ++ drop last rest) (sym joined);
      begins = ([], subst (SpelledWithin most Bytes n) (sym (append-nil front)) s);
      ends = λ field goes stands. none field goes;
      more = λ whole. omega (arith, length-drop last rest, rest_len);
      at = inr ((λ field goes. absurd (none field goes)), sym (ap (λ (xs : List ℕ). length xs) joined ∙ omega (arith, length-append (concat (map end_bytes es)) body, f.len, body_len)));
    }

-- one end more
pub has_more : (most n i : ℕ) (bytes : List ℕ) (last end : ℕ) → HasEnds most n i bytes last → i < n → 4 * i + 4 ≤ length bytes → end < 2 ^ 32 → end ≡ little_number 4 (drop (4 * i) bytes) → last ≤ end → end ≤ last + most → HasEnds most n (i + 1) bytes end
has_more most n i bytes last end h lt long small is le near = record {
  few = h.few;
  small = small;
  within = omega arith;
  room = omega arith;
  fits = h.fits;
  cut = rw (ends_in-more i bytes, ← is) (IsCut-more 0 (ends_in i bytes) last end h.cut le);
  steps = rw (ends_in-more i bytes, ← is) (steps_more most 0 (ends_in i bytes) last end h.cut h.steps near);
}
