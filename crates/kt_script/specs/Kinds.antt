-- Kinds by their words.
use Rattle.std.specs.Prelude.{ℕ, List, [], ◌∷◌, Option, Some, None, if◌then◌else◌}
use Rattle.kt_base.specs.Literals.{same}

-- the first of some kinds that has this word
abbrev pub kind_in : {K : Type 0} → (K → List ℕ) → List K → List ℕ → Option K
kind_in tag [] word = None
kind_in tag (kind ∷ kinds) word = if same word (tag kind) then Some kind else kind_in tag kinds word
