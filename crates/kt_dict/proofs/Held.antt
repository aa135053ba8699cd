-- The spelling of a held list, how long it is, and how long it is at least while a list is gone over.
use Rattle.std.proofs.Common.{◌≡◌, ℕ, suc, ◌+◌, ◌*◌, ◌^◌, ◌<◌, ◌≤◌, List, [], ◌∷◌, ◌++◌, length, get_or, refl, sym, ap, subst, ◌∙◌, arith}
use Rattle.std.specs.List.{AllByRecursion, concat, flat_map}
use Rattle.std.proofs.lemmas.List.{length-map, length-append}
use Rattle.kt_dict.specs.Spelling.{short, code, dictionary, entries_after, spelling, Fits}
use Rattle.kt_dict.specs.Writing.{text}
use Rattle.kt_dict.specs.Items.{IsHeld, items_of}
use Rattle.kt_dict.proofs.Words.{Own, own_nil, own_after, after_grows}
use Rattle.kt_dict.proofs.Fields.{length-text, concat_block}
use Rattle.kt_dict.proofs.Short.{spelled_by, length-spelling, no_longer}

codes_are : (entries : List (List ℕ)) (codes : List ℕ) → Own entries → ((i : ℕ) → i < length codes → get_or codes i 0 < length entries) → flat_map (code entries) (items_of entries codes) ≡ flat_map short codes
codes_are entries [] own within = refl
codes_are entries (c ∷ codes) own within =
    ap (λ k. short k ++ flat_map (code entries) (items_of entries codes)) (own.at c (within 0 (omega arith)))
    ∙ ap (λ (t : List ℕ). short c ++ t) (codes_are entries codes own (λ i lt. within (suc i) (omega arith)))

-- the entries and codes that were written are the spelling
pub held_spelled : (entries : List (List ℕ)) (codes : List ℕ) → IsHeld entries codes → (short (length entries) ++ flat_map text entries) ++ flat_map short codes ≡ spelling (items_of entries codes)
held_spelled entries codes h =
    let items : List (List ℕ) = items_of entries codes in
    let own : Own entries = subst Own h.first_use (own_after [] items own_nil) in
    ap (λ (t : List ℕ). (short (length entries) ++ flat_map text entries) ++ t) (sym (codes_are entries codes own h.within))
    ∙ (sym (concat_block entries items) ∙ spelled_by items entries (sym h.first_use))

pub held_fits : (entries : List (List ℕ)) (codes : List ℕ) → IsHeld entries codes → Fits (items_of entries codes)
held_fits entries codes h = record { few = omega (arith, ap length h.first_use, h.most); each = no_longer (dictionary (items_of entries codes)) (subst (AllByRecursion (λ x. length x < 2 ^ 32)) (sym h.first_use) h.short) }

pub length-texts : (ds : List (List ℕ)) → length (flat_map text ds) ≡ 4 * length ds + length (concat ds)
length-texts [] = refl
length-texts (d ∷ ds) = omega (arith, length-append (text d) (flat_map text ds), length-text d, length-append d (concat ds), length-texts ds)

pub held_len : (entries : List (List ℕ)) (codes : List ℕ) → IsHeld entries codes → length (spelling (items_of entries codes)) ≡ 2 + (4 * length entries + length (concat entries)) + 2 * length codes
held_len entries codes h =
    omega (arith, length-spelling (items_of entries codes) entries (sym h.first_use), length-texts entries, length-map codes (λ c. get_or entries c []))

-- so many bytes at most
pub concat_most : (ds : List (List ℕ)) → AllByRecursion (λ x. length x < 2 ^ 32) ds → length (concat ds) ≤ 4294967296 * length ds
concat_most [] all = omega arith
concat_most (d ∷ ds) all = omega (arith, all.0, length-append d (concat ds), concat_most ds all.1)

flat_grows : (ds more : List (List ℕ)) → length (flat_map text ds) ≤ length (flat_map text (ds ++ more))
flat_grows [] more = omega arith
flat_grows (d ∷ ds) more = omega (arith, length-append (text d) (flat_map text ds), length-append (text d) (flat_map text (ds ++ more)), flat_grows ds more)

-- the entries so far are no more, and no longer, than those of the whole list
pub so_far_less : (items ds rest : List (List ℕ)) → entries_after ds rest ≡ dictionary items → (length ds ≤ length (dictionary items)) × (length (flat_map text ds) ≤ length (flat_map text (dictionary items)))
so_far_less items ds rest so_far =
    let g = after_grows ds rest in
    let whole : dictionary items ≡ ds ++ g.0 = sym so_far ∙ g.1 in
    (omega (arith, ap length whole, length-append ds g.0), omega (arith, ap (λ es. length (flat_map text es)) whole, flat_grows ds g.0))
