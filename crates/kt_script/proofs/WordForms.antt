-- Forms: how values of a kind are written in the words of a line. A form is described once; how it is read, printed and kept follows.
use Rattle.std.specs.Prelude.{◌≡◌, ℕ, min, List, [], ◌∷◌, ◌++◌, take, drop, Option, Some, None}
use Rattle.kt_script.specs.Reasons.{sound}
use Rattle.kt_script.specs.Kinds.{kind_in}

-- How a value is written in one word: why a word is refused, what it says, and what is printed.
pub record Single (A : Type 0) : Type 1 where
  pub no : List ℕ → ℕ
  pub value : List ℕ → A
  pub word : A → List ℕ
  pub keeps : A → Type 0

-- How a value is written in words. Alike are words that are one line but for the order of its names.
pub record Form (A : Type 0) : Type 1 where
  -- the least reason that holds, or sound
  pub no : List (List ℕ) → ℕ
  pub value : List (List ℕ) → A
  pub words : A → List (List ℕ)
  pub keeps : A → Type 0
  pub alike : List (List ℕ) → List (List ℕ) → Type 0

-- the words spell the value
pub record Spells {A : Type 0} (f : Form A) (ws : List (List ℕ)) (a : A) : Type 0 where
  pub keeps : f.keeps a
  pub words : f.alike ws (f.words a)

abbrev pub equal : List (List ℕ) → List (List ℕ) → Type 0
equal ws vs = ws ≡ vs

-- ---- a word for each of a list

module _ {C A : Type 0} (s : C → Single A) where
  abbrev pub each_no : List C → List (List ℕ) → ℕ
  each_no [] [] = sound
  each_no (c ∷ cs) (w ∷ ws) = min ((s c).no w) (each_no cs ws)
  each_no _ _ = 12

  abbrev pub each_value : List C → List (List ℕ) → List A
  each_value (c ∷ cs) (w ∷ ws) = (s c).value w ∷ each_value cs ws
  each_value _ _ = []

  abbrev pub each_words : List C → List A → List (List ℕ)
  each_words (c ∷ cs) (a ∷ more) = (s c).word a ∷ each_words cs more
  each_words _ _ = []

  abbrev pub each_keeps : List C → List A → Type 0
  each_keeps [] [] = Unit {0}
  each_keeps (c ∷ cs) (a ∷ more) = (s c).keeps a × each_keeps cs more
  each_keeps _ _ = ⊥

  abbrev pub each : List C → Form (List A)
  each cs = record { no = each_no cs; value = each_value cs; words = each_words cs; keeps = each_keeps cs; alike = equal }

-- ---- words behind words

-- nothing is left
abbrev pub nothing_no : List (List ℕ) → ℕ
nothing_no [] = sound
nothing_no (w ∷ ws) = 12

abbrev pub nothing : {A : Type 0} → A → Form A
nothing a = record { no = nothing_no; value = λ ws. a; words = λ b. []; keeps = λ b. b ≡ a; alike = equal }

-- so many words, and those behind them
abbrev pub pair : {A B : Type 0} → ℕ → Form A → Form B → Form (A × B)
pair n f g = record {
  no = λ ws. min (f.no (take n ws)) (g.no (drop n ws));
  value = λ ws. (f.value (take n ws), g.value (drop n ws));
  words = λ x. f.words x.0 ++ g.words x.1;
  keeps = λ x. f.keeps x.0 × g.keeps x.1;
  alike = λ ws vs. f.alike (take n ws) (take n vs) × g.alike (drop n ws) (drop n vs);
}

-- ---- kinds of lines

-- a first word of several, which tells how the others are read
module _ {K A : Type 0} (tag : K → List ℕ) (kinds : List K) (kind_of : A → K) (form : K → Form A) (other : A) where
  abbrev pub kind_no : Option K → List (List ℕ) → ℕ
  kind_no None ws = 12
  kind_no (Some k) ws = (form k).no ws

  abbrev pub kind_value : Option K → List (List ℕ) → A
  kind_value None ws = other
  kind_value (Some k) ws = (form k).value ws

  abbrev pub first_kind : List (List ℕ) → Option K
  first_kind [] = None
  first_kind (w ∷ ws) = kind_in tag kinds w

  abbrev pub chosen : Form A
  chosen = record {
    no = λ ws. kind_no (first_kind ws) (drop 1 ws);
    value = λ ws. kind_value (first_kind ws) (drop 1 ws);
    words = λ a. tag (kind_of a) ∷ (form (kind_of a)).words a;
    keeps = λ a. (form (kind_of a)).keeps a;
    alike = λ ws vs. (take 1 ws ≡ take 1 vs) × ((k : K) → first_kind ws ≡ Some k → (form k).alike (drop 1 ws) (drop 1 vs));
  }

-- ---- other values, and one rule more

abbrev pub mapped : {A B : Type 0} → (A → B) → (B → A) → Form A → Form B
mapped to from f = record { no = f.no; value = λ ws. to (f.value ws); words = λ b. f.words (from b); keeps = λ b. f.keeps (from b) × (to (from b) ≡ b); alike = f.alike }

abbrev pub ruled : {A : Type 0} → (List (List ℕ) → ℕ) → (A → Type 0) → Form A → Form A
ruled why rule f = record { no = λ ws. min (f.no ws) (why ws); value = f.value; words = f.words; keeps = λ a. f.keeps a × rule a; alike = f.alike }
