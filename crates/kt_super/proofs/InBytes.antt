-- Parts of a format whose values are in bytes, and parts of which a fact is known.
use Rattle.std.proofs.Common.{ℕ, List, Result, refl, subst}
use Rattle.std.specs.List.{concat}
use Rattle.kt_bytes.proofs.Numbers.{IsBytes}
use Rattle.kt_bytes.proofs.Formats.{same_format, same_delimited, bytes_front, Then, Part}
use Rattle.kt_bytes.proofs.Joins.{same_part}

-- it fits, and its fields are in bytes
abbrev pub InBytes : {X : Type 0} → (X → List (List ℕ)) → (X → Type 0) → X → Type 0
InBytes fields Fits v = Fits v × IsBytes (concat (fields v))

module _ {X : Type 0} (reads : List ℕ → Result (X × List ℕ) ℕ) (fields : X → List (List ℕ)) (Fits : X → Type 0) (p : Part reads fields Fits) where
  abbrev Own : X → Type 0
  Own = InBytes fields Fits

  to_bytes : (Next : X → List (List ℕ) → Type 0) (all : List (List ℕ)) → Then fields Fits Next all → Then fields Own Next all
  to_bytes Next all t = record { value = t.value; fits = (t.fits, t.bytes); bytes = t.bytes; more = t.more; follows = t.follows; is = t.is }

  from_bytes : (Next : X → List (List ℕ) → Type 0) (all : List (List ℕ)) → Then fields Own Next all → Then fields Fits Next all
  from_bytes Next all t = record { value = t.value; fits = t.fits.0; bytes = t.bytes; more = t.more; follows = t.follows; is = t.is }

  -- what follows fields in bytes
  abbrev Behind : (X → List (List ℕ) → Type 0) → X → List (List ℕ) → Type 0
  Behind Next v more = IsBytes (concat (fields v)) × Next v more

  behind : (Next : X → List (List ℕ) → Type 0) (all : List (List ℕ)) → Then fields Own Next all → Then fields Fits (Behind Next) all
  behind Next all t = record { value = t.value; fits = t.fits.0; bytes = t.bytes; more = t.more; follows = (t.fits.1, t.follows); is = t.is }

  pub in_bytes : Part reads fields Own
  in_bytes = record {
    took = λ bytes x fits e. let t = p.took bytes x fits e in record { parts = t.parts; rest_fits = t.rest_fits; fits = (t.fits, bytes_front (concat (fields x.0)) x.1 (subst IsBytes t.parts fits)) };
    again = λ v rest f. p.again v rest f.0;
    some = let k = p.some in record { value = k.value; fits = (k.fits, k.bytes); bytes = k.bytes };
    fails = λ Next live bytes left fits e. same_format (Then fields Fits Next) (Then fields Own Next) bytes left (to_bytes Next) (from_bytes Next) (p.fails Next (λ v f own. live v (f, own) own) bytes left fits e);
    tells = λ Next next. same_delimited (Then fields Fits (Behind Next)) (Then fields Own Next) (behind Next) (p.tells (Behind Next) (λ v f front a b on other. next v (f, on.1.0) front a b (on.0, on.1.1) (other.0, other.1.1)));
  }

  -- with a fact that is known
  pub with_fact : (P : Type 0) → P → Part reads fields (λ v. P × Fits v)
  with_fact P fact = same_part reads fields fields Fits (λ v. P × Fits v) (λ v f. (fact, f)) (λ v f. f.1) (λ v f. refl) p
