-- What a reader of some value took from the front: its spelling.
use Rattle.std.proofs.Common.{◌≡◌, ℕ, ◌<◌, List, ◌++◌, length, Ok, sym, ap, subst, ◌∙◌, append_assoc}
use Rattle.std.specs.Int.{Width, to_le_bytes}
use Rattle.kt_bytes.specs.Reading.{number_at, bytes_at, counted_at}
use Rattle.kt_bytes.proofs.Numbers.{IsBytes, IsWide, done, ok_is, bind_ok, then_is, number_takes, number_again, bytes_takes, bytes_again}

-- what a reader took from the front
pub record Took {A : Type 0} (spelled : A → List ℕ) (Fits : A → Type 0) (bytes : List ℕ) (x : A × List ℕ) : Type 0 where
  pub parts : bytes ≡ spelled x.0 ++ x.1
  pub rest_fits : IsBytes x.1
  pub fits : Fits x.0

pub took_as : {A : Type 0} (spelled : A → List ℕ) (Fits : A → Type 0) (bytes : List ℕ) (y x : A × List ℕ) → done y ≡ done x → Took spelled Fits bytes y → Took spelled Fits bytes x
took_as spelled Fits bytes y x e t = subst (λ z. Took spelled Fits bytes z) (ok_is y x e) t

pub joined : (a s b t c : List ℕ) → a ≡ s ++ b → b ≡ t ++ c → a ≡ (s ++ t) ++ c
joined a s b t c p q = p ∙ ap (λ (r : List ℕ). s ++ r) q ∙ sym (append_assoc s t c)

pub number_took : (w : Width) (limit : ℕ) (wide : IsWide w limit) (bytes : List ℕ) (x : ℕ × List ℕ) → IsBytes bytes → number_at w bytes ≡ Ok x → Took (to_le_bytes w) (λ n. n < limit) bytes x
number_took w limit wide bytes x fits e =
    let t = number_takes w limit wide bytes x fits e in
    record { parts = t.0.parts; rest_fits = t.0.rest_fits; fits = t.1 }

pub bytes_took : (n : ℕ) (bytes : List ℕ) (x : List ℕ × List ℕ) → IsBytes bytes → bytes_at n bytes ≡ Ok x → Took (λ text. text) (λ text. length text ≡ n) bytes x
bytes_took n bytes x fits e =
    let t = bytes_takes n bytes x fits e in
    record { parts = t.0.parts; rest_fits = t.0.rest_fits; fits = t.1 }

-- bytes, and their count in front of them
abbrev pub counted : Width → List ℕ → List ℕ
counted w text = to_le_bytes w (length text) ++ text

pub counted_took : (w : Width) (limit : ℕ) (wide : IsWide w limit) (bytes : List ℕ) (x : List ℕ × List ℕ) → IsBytes bytes → counted_at w bytes ≡ Ok x → Took (counted w) (λ text. length text < limit) bytes x
counted_took w limit wide bytes x fits e =
    let a = bind_ok (number_at w bytes) (λ n. bytes_at n.0 n.1) x e in
    let t = number_took w limit wide bytes a.0 fits a.1 in
    let u = bytes_took a.0.0 a.0.1 x t.rest_fits a.2 in
    let both : bytes ≡ (to_le_bytes w a.0.0 ++ x.0) ++ x.1 = joined bytes (to_le_bytes w a.0.0) a.0.1 x.0 x.1 t.parts u.parts in
    record {
      parts = subst (λ (k : ℕ). bytes ≡ (to_le_bytes w k ++ x.0) ++ x.1) (sym u.fits) both;
      rest_fits = u.rest_fits;
      fits = subst (λ (k : ℕ). k < limit) (sym u.fits) t.fits;
    }

pub counted_again : (w : Width) (limit : ℕ) (wide : IsWide w limit) (text rest : List ℕ) → length text < limit → counted_at w (counted w text ++ rest) ≡ Ok (text, rest)
counted_again w limit wide text rest lt =
    let regrouped : counted w text ++ rest ≡ to_le_bytes w (length text) ++ (text ++ rest) = append_assoc (to_le_bytes w (length text)) text rest in
    ap (counted_at w) regrouped
    ∙ then_is (number_at w (to_le_bytes w (length text) ++ (text ++ rest))) (λ n. bytes_at n.0 n.1) (length text, text ++ rest) (number_again w limit wide (length text) (text ++ rest) lt)
    ∙ bytes_again text rest
