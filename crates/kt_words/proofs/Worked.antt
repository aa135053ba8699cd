-- Words that are in the form, and words that are not.
use Rattle.std.proofs.Common.{◌≡◌, [], ◌∷◌, Some, None, refl, codes}
use Rattle.clap.proofs.OnLiterals.{clap_on_literals}
use Rattle.kt_words.specs.Words.{settings_in}

run_alone : settings_in (codes "run" ∷ []) ≡ Some (record { workers = 0; cells = 262144 })
unfolding clap_on_literals
run_alone = refl

pool_behind : settings_in (codes "run" ∷ codes "--pool" ∷ codes "1024" ∷ []) ≡ Some (record { workers = 0; cells = 1024 })
unfolding clap_on_literals
pool_behind = refl

both_joined : settings_in (codes "run" ∷ codes "--workers=2" ∷ codes "--pool=0004194304" ∷ []) ≡ Some (record { workers = 2; cells = 4194304 })
unfolding clap_on_literals
both_joined = refl

other_word : settings_in (codes "walk" ∷ []) ≡ None
other_word = refl

no_word : settings_in [] ≡ None
no_word = refl

five_workers : settings_in (codes "run" ∷ codes "--workers" ∷ codes "5" ∷ []) ≡ None
unfolding clap_on_literals
five_workers = refl

pool_twice : settings_in (codes "run" ∷ codes "--pool" ∷ codes "1024" ∷ codes "--pool" ∷ codes "1024" ∷ []) ≡ None
unfolding clap_on_literals
pool_twice = refl

end_of_options : settings_in (codes "run" ∷ codes "--" ∷ []) ≡ None
end_of_options = refl

help : settings_in (codes "run" ∷ codes "--help" ∷ []) ≡ None
unfolding clap_on_literals
help = refl
