-- Worked values.
use Rattle.std.proofs.Common.{◌≡◌, [], ◌∷◌, refl}
use Rattle.kt_lookup.specs.Hash.{hash_of}
use Rattle.kt_lookup.specs.Filter.{filter_of}

hash_of_a : hash_of (0x61 ∷ []) ≡ 0xaf63dc4c8601ec8c
hash_of_a = refl

filter_of_a : filter_of ((0x61 ∷ []) ∷ []) ≡ 0x49 ∷ 0x32 ∷ []
unfolding filter_of
filter_of_a = refl
