-- Words that the command takes, and words that it refuses.
use Rattle.std.proofs.Common.{◌≡◌, ◌∙◌, ℕ, List, [], ◌∷◌, Bool, true, false, Option, None, refl, sym, ap}
use Rattle.std.specs.Prelude.{◌&&◌, not, if◌then◌else◌}
use Rattle.clap.specs.Words.{App, Kinds, IsAmong, fault_of, matches_of, first_value, rows_of}
use Rattle.clap.specs.declared.parser.matches.Found.{Found}
use Rattle.clap.proofs.WalkLemmas.{first_value-rows}
use Rattle.clap.specs.declared.error.kind.ErrorKind.{ErrorKind}
use Rattle.kt_words.specs.declared.run.Settings.{Settings}
use Rattle.kt_words.specs.Words.{run_app, settings_by, settings_of, begins_run, ends_options, is_none, settings_in}

-- what the command takes is said by its matches
pub taken : (words : List (List ℕ)) → begins_run words ≡ true → ends_options words ≡ false → fault_of run_app words ≡ [] → settings_in words ≡ settings_of (matches_of run_app words)
taken words begins ends none = rw (begins, ends, none) refl

-- and so by the values that are found of them
pub said : (words : List (List ℕ)) (app : App) (f : Found) (o : Option Settings) → app ≡ run_app → begins_run words ≡ true → ends_options words ≡ false → fault_of app words ≡ [] → rows_of f ≡ matches_of app words
    → o ≡ settings_by (first_value f) → settings_in words ≡ o
said words app f o app_is begins ends none rows_are o_is =
    taken words begins ends (ap (λ (a : App). fault_of a words) (sym app_is) ∙ none)
    ∙ ap (λ (a : App). settings_of (matches_of a words)) (sym app_is)
    ∙ ap settings_of (sym rows_are)
    ∙ (λ i. settings_by (λ name. sym (first_value-rows f name) i))
    ∙ sym o_is

-- a kind among some is one of some
some_kind : (kinds : Kinds) (k : ErrorKind) → IsAmong k kinds → is_none kinds ≡ false
some_kind [] k among = absurd among
some_kind (x ∷ kinds) k among = refl

outside : (b c : Bool) (o : Option Settings) → c ≡ false → (if b && c then o else None) ≡ None
outside true c o h = ap (λ t. if t then o else None) h
outside false c o h = refl

behind : (b c : Bool) → c ≡ false → (b && c) ≡ false
behind true c h = h
behind false c h = refl

-- what it refuses is outside the form
pub refused : (words : List (List ℕ)) (k : ErrorKind) → IsAmong k (fault_of run_app words) → settings_in words ≡ None
refused words k among =
    outside (begins_run words) (not (ends_options words) && is_none (fault_of run_app words)) _ (behind (not (ends_options words)) (is_none (fault_of run_app words)) (some_kind (fault_of run_app words) k among))
