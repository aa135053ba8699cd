-- What every text that is a script says.
use Rattle.std.specs.Prelude.{◌≡◌, ℕ, true, IfSome, List, Some}
use Rattle.std.specs.List.{list_any}
use Rattle.kt_script.specs.Columns.{IsTable}
use Rattle.kt_script.specs.Loads.{IsLoad}
use Rattle.kt_script.specs.Scripts.{Said, script_of, load_of}
use Rattle.kt_script.specs.Fit.{PlanFits}

-- A table that has a key, and a plan that keeps its rules and those of the grammar.
pub record SaidFits (s : Said) : Type 0 where
  pub table : IsTable s.columns
  pub key : list_any (λ c. c.key) s.columns ≡ true
  pub plan : PlanFits s.columns s.plan

-- what a text says keeps the rules
abbrev pub scripts_fit : Type 0
scripts_fit = (text : List ℕ) (s : Said) → script_of text ≡ Some s → SaidFits s

-- a text with a load line says the plan of its number
abbrev pub loads_are_plans : Type 0
loads_are_plans = (text : List ℕ) (s : Said) → script_of text ≡ Some s → IfSome (load_of text) (λ n. IsLoad s.columns s.plan n)
