-- The form that is spelled out is taken.
use Rattle.std.specs.Prelude.{◌≡◌, ℕ, List, Some}
use Rattle.kt_words.specs.declared.run.Settings.{Settings}
use Rattle.kt_words.specs.Words.{settings_in, spelled_settings}

-- words that are spelled so are in the form, and say what they spell
abbrev pub spelled_words_are_taken : Type 0
spelled_words_are_taken = (words : List (List ℕ)) (s : Settings) → spelled_settings words ≡ Some s → settings_in words ≡ Some s
