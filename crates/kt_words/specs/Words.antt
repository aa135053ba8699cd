-- The words of the command line of a run.
use Rattle.std.specs.Prelude.{ℕ, ◌+◌, ◌&&◌, not, Bool, true, false, List, [], ◌∷◌, ◌++◌, length, take, drop, Option, Some, None, if◌then◌else◌, codes}
use Rattle.std.specs.List.{list_any}
use Rattle.std.specs.Option.{option_and_then, option_map, option_or}
use Rattle.clap.specs.Words.{App, Rule, Row, Kinds, new_app, new_rule, with_rule, matches_of, fault_of, first_of}
use Rattle.clap.specs.declared.builder.action.ArgAction.TheVariants.{Set}
use Rattle.kt_base.specs.Literals.{same}
use Rattle.kt_words.specs.declared.run.Settings.{Settings}
use Rattle.kt_words.specs.Numbers.{number_said}

-- an option of one value
abbrev pub option_rule : List ℕ → Rule
option_rule name = record (new_rule name) { long = Some name; action = Some Set }

abbrev pub run_app : App
run_app = with_rule (with_rule (new_app (codes "run")) (option_rule (codes "workers"))) (option_rule (codes "pool"))

-- the number that an option has, or the one that stands for none
abbrev pub number_or : ℕ → ℕ → ℕ → Option (List ℕ) → Option ℕ
number_or without least most None = Some without
number_or without least most (Some digits) = number_said least most digits

-- 0 to 4 workers, none by default; 1,024 to 4,194,304 cells, 262,144 by default: from the first value of each option
abbrev pub settings_by : (List ℕ → Option (List ℕ)) → Option Settings
settings_by value = option_and_then (λ workers. option_map (λ cells. record { workers = workers; cells = cells }) (number_or 262144 1024 4194304 (value (codes "pool")))) (number_or 0 0 4 (value (codes "workers")))

abbrev pub settings_of : List Row → Option Settings
settings_of rows = settings_by (λ name. first_of name rows)

abbrev pub begins_run : List (List ℕ) → Bool
begins_run [] = false
begins_run (word ∷ words) = same word (codes "run")

-- `--` ends the options; it is outside the form, and `clap` would take it
abbrev pub ends_options : List (List ℕ) → Bool
ends_options words = list_any (λ word. same word (codes "--")) words

abbrev pub is_none : Kinds → Bool
is_none [] = true
is_none (kind ∷ kinds) = false

-- what the words say, where they are in the form: `run`, and behind it what the command takes
abbrev pub settings_in : List (List ℕ) → Option Settings
settings_in words = if begins_run words && (not (ends_options words) && is_none (fault_of run_app words)) then settings_of (matches_of run_app words) else None

-- ---- the form, spelled out

-- The value that the first words give an option, in the next word or behind `=`, and the words behind it
abbrev pub joined : List ℕ → List ℕ → List (List ℕ) → Option (List ℕ × List (List ℕ))
joined name word rest = if same (take (length name + 1) word) (name ++ 61 ∷ []) then Some (drop (length name + 1) word, rest) else None

abbrev pub given : List ℕ → List (List ℕ) → Option (List ℕ × List (List ℕ))
given name [] = None
given name (word ∷ []) = joined name word []
given name (word ∷ value ∷ rest) = if same word name then Some (value, rest) else joined name word (value ∷ rest)

-- what comes behind an option: nothing, or what else may
abbrev pub Behind : Type 0
Behind = Settings → List (List ℕ) → Option Settings

abbrev pub or_over : Behind → Behind
or_over next s [] = Some s
or_over next s (word ∷ words) = next s (word ∷ words)

abbrev pub over : Behind
over = or_over (λ s words. None)

abbrev pub with_workers : Behind → Behind
with_workers next s words = option_and_then (λ v. option_and_then (λ n. next (record s { workers = n }) v.1) (number_said 0 4 v.0)) (given (codes "--workers") words)

abbrev pub with_pool : Behind → Behind
with_pool next s words = option_and_then (λ v. option_and_then (λ n. next (record s { cells = n }) v.1) (number_said 1024 4194304 v.0)) (given (codes "--pool") words)

abbrev pub defaults : Settings
defaults = record { workers = 0; cells = 262144 }

-- both options at most once, in either order
abbrev pub options_in : List (List ℕ) → Option Settings
options_in words = or_over (λ s ws. option_or (with_workers (or_over (with_pool over)) s ws) (with_pool (or_over (with_workers over)) s ws)) defaults words

abbrev pub spelled_settings : List (List ℕ) → Option Settings
spelled_settings [] = None
spelled_settings (word ∷ words) = if same word (codes "run") then options_in words else None
