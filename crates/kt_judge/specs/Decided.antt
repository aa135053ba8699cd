-- What a test says of a fact.
use Rattle.std.specs.Prelude.{Bool, true, false}

-- the fact holds, or it does not
abbrev pub Decided : Bool → Type 0 → Type 0
Decided true P = P
Decided false P = P → ⊥
