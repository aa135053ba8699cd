use Rattle.std.proofs.Common.{◌≡◌, map, drop}
use Rattle.kt_words.specs.Words.{ends_options}
use Rattle.kt_words.proofs.run.ends_options.Given as goal

abbrev pub invariant-loop-word : goal.invariant-loop-word
invariant-loop-word l = ends_options (map (λ w. w.now) l.words) ≡ ends_options (map (λ w. w.now) (drop l.word-index l.words))
