-- Reading a key, one cell after another.
use Rattle.std.proofs.Common.{◌≡◌, ◌≢◌, ℕ, zero, suc, ◌+◌, ◌<◌, true, false, List, [], ◌∷◌, ◌++◌, length, drop, get_or, refl, sym, ap, subst, ◌∙◌, arith, add-one, append_assoc}
use Rattle.std.proofs.lemmas.Bool.{false≢true}
use Rattle.kt_base.specs.declared.cell.Kind.{Kind}
use Rattle.kt_base.specs.declared.cell.Kind.TheVariants as kind
use Rattle.kt_base.specs.declared.cell.Cell.{Cell}
use Rattle.kt_key.specs.Fit.{is_bool, has_kind}
use Rattle.kt_key.specs.Spelling.{spelling, inner_spelling, last_spelling}
use Rattle.kt_key.specs.Reading.{Spells}
use Rattle.kt_key.proofs.Steps.{is_key_more, is_key_strong, is_key-cons}
use Rattle.kt_key.proofs.Orders.{key_cell}
use Rattle.kt_key.proofs.Kept.{inner-one}

-- the first cells are read, and rest is what the others have to spell
pub record IsSoFar (kinds : List Kind) (bytes : List ℕ) (at : ℕ) (cells : List Cell) (rest : List ℕ) : Type 0 where
  pub forward : (more : List Cell) → Spells (drop at kinds) more rest → Spells kinds (cells ++ more) bytes
  pub backward : (whole : List Cell) → Spells kinds whole bytes → (more : List Cell) × (whole ≡ cells ++ more) × Spells (drop at kinds) more rest

pub so_far_start : (kinds : List Kind) (bytes : List ℕ) (cells : List Cell) → cells ≡ [] → IsSoFar kinds bytes 0 cells bytes
so_far_start kinds bytes cells none = subst (λ xs. IsSoFar kinds bytes 0 xs bytes) (sym none) (record { forward = λ more s. s; backward = λ whole s. (whole, refl, s) })

pub record HasMore (kinds : List Kind) (at : ℕ) : Type 0 where
  pub next : Kind
  pub others : List Kind
  pub here : drop at kinds ≡ get_or kinds at kind.Bool ∷ next ∷ others
  pub after : drop (at + 1) kinds ≡ next ∷ others

pub has_more : (kinds : List Kind) (at : ℕ) → at + 1 < length kinds → HasMore kinds at
has_more [] at more = absurd (omega (arith, more))
has_more (k ∷ []) at more = absurd (omega (arith, more))
has_more (k ∷ next ∷ others) zero more = record { next = next; others = others; here = refl; after = refl }
has_more (k ∷ next ∷ others) (suc at) more =
    let h = has_more (next ∷ others) at (omega (arith, more)) in
    record { next = h.next; others = h.others; here = h.here; after = rw add-one (rw add-one at h.after) }

pub last_drop : (kinds : List Kind) (at : ℕ) → at + 1 ≡ length kinds → drop at kinds ≡ get_or kinds at kind.Bool ∷ []
last_drop [] at last = absurd (omega (arith, last))
last_drop (k ∷ []) zero last = refl
last_drop (k ∷ next ∷ others) zero last = absurd (omega (arith, last))
last_drop (k ∷ []) (suc at) last = absurd (omega (arith, last))
last_drop (k ∷ next ∷ others) (suc at) last = last_drop (next ∷ others) at (omega (arith, last))

cons_spells : (k next : Kind) (others : List Kind) (c : Cell) (more : List Cell) (rest behind : List ℕ) → is_bool k ≡ false → has_kind k c ≡ true → inner_spelling k c ++ behind ≡ rest
    → Spells (next ∷ others) more behind → Spells (k ∷ next ∷ others) (c ∷ more) rest
cons_spells k next others c more rest behind strong kinds same s =
    record { key = is_key-cons k (next ∷ others) c more strong kinds s.key; spelled = ap (λ ys. inner_spelling k c ++ ys) s.spelled ∙ same }

spells_cons : (k next : Kind) (others : List Kind) (c : Cell) (whole : List Cell) (rest behind : List ℕ) → is_bool k ≡ false → has_kind k c ≡ true → inner_spelling k c ++ behind ≡ rest
    → Spells (k ∷ next ∷ others) whole rest → (more : List Cell) × (whole ≡ c ∷ more) × Spells (next ∷ others) more behind
spells_cons k next others c [] rest behind strong kinds same s = absurd (false≢true s.key)
spells_cons k next others c (d ∷ more) rest behind strong kinds same s =
    let one = inner-one k d c (spelling (next ∷ others) more) behind (key_cell k d (is_key_strong k (next ∷ others) d more s.key) (is_key_more k (next ∷ others) d more s.key).0) (key_cell k c strong kinds) (s.spelled ∙ sym same) in
    (more, ap (λ x. x ∷ more) one.0, record { key = (is_key_more k (next ∷ others) d more s.key).1; spelled = one.1 })

pub so_far_more : (kinds : List Kind) (bytes : List ℕ) (at : ℕ) (cells : List Cell) (rest behind : List ℕ) (c : Cell) (news : List Cell) → at + 1 < length kinds → IsSoFar kinds bytes at cells rest
    → is_bool (get_or kinds at kind.Bool) ≡ false → has_kind (get_or kinds at kind.Bool) c ≡ true → inner_spelling (get_or kinds at kind.Bool) c ++ behind ≡ rest → news ≡ cells ++ c ∷ []
    → IsSoFar kinds bytes (at + 1) news behind
so_far_more kinds bytes at cells rest behind c news more so_far strong kinds-is same news-is =
    let h = has_more kinds at more in
    let k = get_or kinds at kind.Bool in
    record {
      forward = λ (xs : List Cell) (s : Spells (drop (at + 1) kinds) xs behind).
          let s' = cons_spells k h.next h.others c xs rest behind strong kinds-is same (rw h.after at s) in
          let e : cells ++ c ∷ xs ≡ news ++ xs = sym (ap (λ zs. zs ++ xs) news-is ∙ append_assoc cells (c ∷ []) xs) in
          subst (λ zs. Spells kinds zs bytes) e (so_far.forward (c ∷ xs) (subst (λ ks. Spells ks (c ∷ xs) rest) (sym h.here) s'));
      backward = λ (whole : List Cell) (s : Spells kinds whole bytes).
          let b = so_far.backward whole s in
          let d = spells_cons k h.next h.others c b.0 rest behind strong kinds-is same (subst (λ ks. Spells ks b.0 rest) h.here b.2) in
          (d.0, b.1 ∙ ap (λ zs. cells ++ zs) d.1 ∙ sym (ap (λ zs. zs ++ d.0) news-is ∙ append_assoc cells (c ∷ []) d.0), subst (λ ks. Spells ks d.0 behind) (sym h.after) d.2);
    }

inner_none : (k next : Kind) (others : List Kind) (rest : List ℕ) → ((c : Cell) (more : List ℕ) → is_bool k ≡ false → has_kind k c ≡ true → inner_spelling k c ++ more ≢ rest)
    → (xs : List Cell) → Spells (k ∷ next ∷ others) xs rest → ⊥
inner_none k next others rest none [] s = false≢true s.key
inner_none k next others rest none (c ∷ xs) s = none c (spelling (next ∷ others) xs) (is_key_strong k (next ∷ others) c xs s.key) (is_key_more k (next ∷ others) c xs s.key).0 s.spelled

pub so_far_none : (kinds : List Kind) (bytes : List ℕ) (at : ℕ) (cells : List Cell) (rest : List ℕ) → at + 1 < length kinds → IsSoFar kinds bytes at cells rest
    → ((c : Cell) (more : List ℕ) → is_bool (get_or kinds at kind.Bool) ≡ false → has_kind (get_or kinds at kind.Bool) c ≡ true → inner_spelling (get_or kinds at kind.Bool) c ++ more ≢ rest)
    → (whole : List Cell) → ¬ Spells kinds whole bytes
so_far_none kinds bytes at cells rest more so_far none whole s =
    let h = has_more kinds at more in
    let b = so_far.backward whole s in
    inner_none (get_or kinds at kind.Bool) h.next h.others rest none b.0 (subst (λ ks. Spells ks b.0 rest) h.here b.2)

pub so_far_last : (kinds : List Kind) (bytes : List ℕ) (at : ℕ) (cells : List Cell) (rest : List ℕ) (c : Cell) (news : List Cell) → at + 1 ≡ length kinds → IsSoFar kinds bytes at cells rest
    → is_bool (get_or kinds at kind.Bool) ≡ false → has_kind (get_or kinds at kind.Bool) c ≡ true → last_spelling (get_or kinds at kind.Bool) c ≡ rest → news ≡ cells ++ c ∷ []
    → Spells kinds news bytes
so_far_last kinds bytes at cells rest c news last so_far strong kinds-is same news-is =
    let k = get_or kinds at kind.Bool in
    let s : Spells (k ∷ []) (c ∷ []) rest = record { key = is_key-cons k [] c [] strong kinds-is refl; spelled = same } in
    subst (λ zs. Spells kinds zs bytes) (sym news-is) (so_far.forward (c ∷ []) (subst (λ ks. Spells ks (c ∷ []) rest) (sym (last_drop kinds at last)) s))

last_none : (k : Kind) (rest : List ℕ) → ((c : Cell) → is_bool k ≡ false → has_kind k c ≡ true → last_spelling k c ≢ rest) → (xs : List Cell) → Spells (k ∷ []) xs rest → ⊥
last_none k rest none [] s = false≢true s.key
last_none k rest none (c ∷ []) s = none c (is_key_strong k [] c [] s.key) (is_key_more k [] c [] s.key).0 s.spelled
last_none k rest none (c ∷ d ∷ xs) s = false≢true (is_key_more k [] c (d ∷ xs) s.key).1

pub so_far_no_last : (kinds : List Kind) (bytes : List ℕ) (at : ℕ) (cells : List Cell) (rest : List ℕ) → at + 1 ≡ length kinds → IsSoFar kinds bytes at cells rest
    → ((c : Cell) → is_bool (get_or kinds at kind.Bool) ≡ false → has_kind (get_or kinds at kind.Bool) c ≡ true → last_spelling (get_or kinds at kind.Bool) c ≢ rest)
    → (whole : List Cell) → ¬ Spells kinds whole bytes
so_far_no_last kinds bytes at cells rest last so_far none whole s =
    let b = so_far.backward whole s in
    last_none (get_or kinds at kind.Bool) rest none b.0 (subst (λ ks. Spells ks b.0 rest) (last_drop kinds at last) b.2)
