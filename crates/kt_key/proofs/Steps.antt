-- A key's spelling, one cell after another.
use Rattle.std.proofs.Common.{◌≡◌, ℕ, ◌+◌, ◌<◌, Bool, true, false, ◌&&◌, cond, List, [], ◌∷◌, ◌++◌, length, drop, zero, suc, ◌==◌, get_or, refl, sym, ap, ◌∙◌, arith, add-one}
use Rattle.std.specs.List.{count_by}
use Rattle.std.proofs.lemmas.List.Sums.{sum_by-cons}
use Rattle.kt_base.specs.declared.cell.Kind.{Kind}
use Rattle.kt_base.specs.declared.cell.Kind.TheVariants as kind
use Rattle.kt_base.specs.declared.cell.Cell.{Cell}
use Rattle.kt_base.specs.Keys.{escaped}
use Rattle.kt_key.specs.Fit.{is_bool, is_key, has_kind}
use Rattle.kt_key.specs.Spelling.{spelling, inner_spelling, last_spelling}

pub length-escaped : (bytes : List ℕ) → length (escaped bytes) ≡ length bytes + count_by (λ b. b == 0) bytes + 2
length-escaped [] = refl
length-escaped (b ∷ bytes) = rw (sum_by-cons (λ b. cond (b == 0) 1 0) b bytes) (by (b == 0) (length-escaped bytes))
  where
    by : (is : Bool) → length (escaped bytes) ≡ length bytes + count_by (λ b. b == 0) bytes + 2
        → length (b ∷ cond is (1 ∷ escaped bytes) (escaped bytes)) ≡ length (b ∷ bytes) + (cond is 1 0 + count_by (λ b. b == 0) bytes) + 2
    by true h = omega (arith, h)
    by false h = omega (arith, h)

pub both_true : (a b : Bool) → (a && b) ≡ true → (a ≡ true) × (b ≡ true)
both_true true b h = (refl, h)
both_true false b h = absurd cc

-- what a key is from its second column on
pub is_key_more : (k : Kind) (kinds : List Kind) (c : Cell) (cells : List Cell) → is_key (k ∷ kinds) (c ∷ cells) ≡ true → (has_kind k c ≡ true) × (is_key kinds cells ≡ true)
is_key_more kind.Bool kinds c cells h = absurd cc
is_key_more kind.Int8 kinds c cells h = both_true _ _ h
is_key_more kind.Int16 kinds c cells h = both_true _ _ h
is_key_more kind.Int32 kinds c cells h = both_true _ _ h
is_key_more kind.Int64 kinds c cells h = both_true _ _ h
is_key_more kind.String kinds c cells h = both_true _ _ h
is_key_more kind.Binary kinds c cells h = both_true _ _ h

pub is_key_strong : (k : Kind) (kinds : List Kind) (c : Cell) (cells : List Cell) → is_key (k ∷ kinds) (c ∷ cells) ≡ true → is_bool k ≡ false
is_key_strong kind.Bool kinds c cells h = absurd cc
is_key_strong kind.Int8 kinds c cells h = refl
is_key_strong kind.Int16 kinds c cells h = refl
is_key_strong kind.Int32 kinds c cells h = refl
is_key_strong kind.Int64 kinds c cells h = refl
is_key_strong kind.String kinds c cells h = refl
is_key_strong kind.Binary kinds c cells h = refl

-- a key has a cell for each column
pub is_key-long : (kinds : List Kind) (cells : List Cell) → is_key kinds cells ≡ true → length cells ≡ length kinds
is_key-long [] [] h = refl
is_key-long [] (c ∷ cells) h = absurd cc
is_key-long (k ∷ kinds) [] h = absurd cc
is_key-long (k ∷ kinds) (c ∷ cells) h = ap suc (is_key-long kinds cells (is_key_more k kinds c cells h).1)

-- a cell that has others behind it
pub spelling-inner : (kinds : List Kind) (cells : List Cell) (at : ℕ) (k : Kind) (c : Cell) → length cells ≡ length kinds → c ≡ get_or cells at c → at + 1 < length kinds
    → spelling (drop at kinds) (drop at cells) ≡ inner_spelling (get_or kinds at k) c ++ spelling (drop (at + 1) kinds) (drop (at + 1) cells)
spelling-inner [] cells at k c long there more = absurd (omega (arith, more))
spelling-inner (x ∷ kinds) [] at k c long there more = absurd (omega (arith, long))
spelling-inner (x ∷ []) (y ∷ cells) zero k c long there more = absurd (omega (arith, more))
spelling-inner (x ∷ next ∷ kinds) (y ∷ cells) zero k c long there more = ap (λ z. inner_spelling x z ++ spelling (next ∷ kinds) cells) (sym there)
spelling-inner (x ∷ kinds) (y ∷ cells) (suc at) k c long there more = rw add-one (rw (add-one) at (spelling-inner kinds cells at k c (omega (arith, long)) there (omega (arith, more))))

-- the last cell
pub spelling-last : (kinds : List Kind) (cells : List Cell) (at : ℕ) (k : Kind) (c : Cell) → length cells ≡ length kinds → c ≡ get_or cells at c → at + 1 ≡ length kinds
    → spelling (drop at kinds) (drop at cells) ≡ last_spelling (get_or kinds at k) c
spelling-last [] cells at k c long there last = absurd (omega (arith, last))
spelling-last (x ∷ kinds) [] at k c long there last = absurd (omega (arith, long))
spelling-last (x ∷ []) (y ∷ cells) zero k c long there last = ap (λ z. last_spelling x z) (sym there)
spelling-last (x ∷ next ∷ kinds) (y ∷ cells) zero k c long there last = absurd (omega (arith, last))
spelling-last (x ∷ kinds) (y ∷ cells) (suc at) k c long there last = spelling-last kinds cells at k c (omega (arith, long)) there (omega (arith, last))

-- each cell of a key is of its kind
pub is_key-at : (kinds : List Kind) (cells : List Cell) (at : ℕ) (c : Cell) → is_key kinds cells ≡ true → c ≡ get_or cells at c → at < length kinds → has_kind (get_or kinds at kind.Bool) c ≡ true
is_key-at [] cells at c key there within = absurd (omega (arith, within))
is_key-at (k ∷ kinds) [] at c key there within = absurd cc
is_key-at (k ∷ kinds) (x ∷ cells) zero c key there within = ap (has_kind k) there ∙ (is_key_more k kinds x cells key).0
is_key-at (k ∷ kinds) (x ∷ cells) (suc at) c key there within = is_key-at kinds cells at c (is_key_more k kinds x cells key).1 there (omega (arith, within))

pub is_key-cons : (k : Kind) (kinds : List Kind) (c : Cell) (cells : List Cell) → is_bool k ≡ false → has_kind k c ≡ true → is_key kinds cells ≡ true → is_key (k ∷ kinds) (c ∷ cells) ≡ true
is_key-cons kind.Bool kinds c cells strong here more = absurd cc
is_key-cons kind.Int8 kinds c cells strong here more = ap (λ b. b && is_key kinds cells) here ∙ more
is_key-cons kind.Int16 kinds c cells strong here more = ap (λ b. b && is_key kinds cells) here ∙ more
is_key-cons kind.Int32 kinds c cells strong here more = ap (λ b. b && is_key kinds cells) here ∙ more
is_key-cons kind.Int64 kinds c cells strong here more = ap (λ b. b && is_key kinds cells) here ∙ more
is_key-cons kind.String kinds c cells strong here more = ap (λ b. b && is_key kinds cells) here ∙ more
is_key-cons kind.Binary kinds c cells strong here more = ap (λ b. b && is_key kinds cells) here ∙ more
