-- Bytes added one after the other.
use Rattle.std.proofs.Common.{◌≡◌, ℕ, List, [], ◌∷◌, ◌++◌, Result, Ok, Err, refl, ap, ◌∙◌, append_assoc}
use Rattle.std.specs.Prelude.{OnOk}
use Rattle.kt_bytes.specs.declared.memory.NoMemory.{NoMemory}
use Rattle.kt_records.specs.declared.entry.Entry.{Entry}
use Rattle.kt_records.specs.declared.entry.Entry.TheVariants.{Replicate, Commit}
use Rattle.kt_records.specs.Spelling.{head, listed, spelling}

-- a byte, and two fields
pub tagged : (old a b c x y p q : List ℕ) (t : ℕ) → a ≡ old ++ t ∷ [] → b ≡ a ++ x → c ≡ b ++ y → x ≡ p → y ≡ q → c ≡ old ++ t ∷ (p ++ q)
tagged old a b c x y p q t ea eb ec ex ey =
    ec ∙ ap (λ (z : List ℕ). z ++ y) (eb ∙ ap (λ (z : List ℕ). z ++ x) ea) ∙ append_assoc (old ++ t ∷ []) x y ∙ append_assoc old (t ∷ []) (x ++ y)
    ∙ ap (λ (z : List ℕ). old ++ t ∷ (z ++ y)) ex ∙ ap (λ (z : List ℕ). old ++ t ∷ (p ++ z)) ey

-- a record is its head and what it lists
pub head_and_listed : (entry : Entry) → head entry ++ listed entry ≡ spelling entry
head_and_listed (Replicate ts ops) = refl
head_and_listed (Commit ts rows) = refl

-- a record behind other bytes, its head first
pub entry_put : (r : Result (Unit {0}) NoMemory) (old front a b h : List ℕ) (entry : Entry) → h ≡ head entry → a ≡ old ++ (front ++ h) → OnOk r (b ≡ a ++ listed entry) → OnOk r (b ≡ old ++ (front ++ spelling entry))
entry_put (Ok u) old front a b h entry eh ea eb =
    eb ∙ ap (λ (z : List ℕ). z ++ listed entry) (ea ∙ ap (λ (z : List ℕ). old ++ (front ++ z)) eh) ∙ append_assoc old (front ++ head entry) (listed entry)
    ∙ ap (λ (z : List ℕ). old ++ z) (append_assoc front (head entry) (listed entry) ∙ ap (λ (z : List ℕ). front ++ z) (head_and_listed entry))
entry_put (Err e) old front a b h entry eh ea eb = tt
