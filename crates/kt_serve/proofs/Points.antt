-- The points that a session comes to, reply by reply.
use Rattle.std.proofs.Common.{◌≡◌, ℕ, zero, suc, ◌+◌, List, [], ◌∷◌, ◌++◌, Some, length, refl, sym, ap, ◌∙◌, subst, arith}
use Rattle.std.specs.Prelude.{slice_get, Ok, ◌≢◌}
use Rattle.kt_history.specs.declared.change.Outcome.{Outcome}
use Rattle.kt_history.specs.declared.reply.Reply.{Reply}
use Rattle.kt_history.specs.declared.reply.Reply.TheVariants as reply
use Rattle.kt_history.specs.Machine.{nth}
use Rattle.kt_tablet.specs.declared.tablet.scan.SnapNo.{SnapNo}
use Rattle.kt_tablet.specs.declared.tablet.scan.SnapNo.TheVariants as no
use Rattle.kt_serve.specs.declared.scan.ScanTurn.TheVariants as turn
use Rattle.kt_serve.specs.Points.{IfWritten}
use Rattle.kt_serve.specs.Scans.{TabletSnap, turn_of_read}
use Rattle.std.specs.Prelude.{Result, Err}

some_same : {A : Type 0} (x y : A) → Some x ≡ Some y → x ≡ y
some_same x y e = cc

got_more : {A : Type 0} (P : ℕ → A → Type 0) (xs : List A) (x : A) → ((j : ℕ) (y : A) → slice_get xs j ≡ Some y → P j y) → P (length xs) x → (j : ℕ) (y : A) → slice_get (xs ++ x ∷ []) j ≡ Some y → P j y
got_more P [] x each one zero y at = subst (P 0) (some_same x y at) one
got_more P [] x each one (suc j) y at = absurd (cc)
got_more P (z ∷ xs) x each one zero y at = each zero y at
got_more P (z ∷ xs) x each one (suc j) y at = got_more (λ n v. P (suc n) v) xs x (λ k v. each (suc k) v) one j y at

-- what is so of each reply and of one more is so of each
pub each_more : {A : Type 0} (P : ℕ → A → Type 0) (xs new : List A) (x : A) (n : ℕ) → n ≡ length xs + 1 → new ≡ xs ++ x ∷ [] → ((k : ℕ) (y : A) → nth xs k ≡ Some y → P k y) → P n x → (k : ℕ) (y : A) → nth new k ≡ Some y → P k y
each_more P xs new x n is pushed each one zero y at = absurd (cc)
each_more P xs new x n is pushed each one (suc j) y at =
    got_more (λ k v. P (suc k) v) xs x (λ k v. each (suc k) v) (subst (λ m. P m x) (is ∙ (let e : length xs + 1 ≡ suc (length xs) = omega arith in e)) one) j y (ap (λ l. slice_get l j) (sym pushed) ∙ at)

-- a reply that is a write's came with its point
pub if_written : (r : Reply) (P : Type 0) → ((ts : ℕ) (outcomes : List Outcome) → r ≡ reply.At ts outcomes → P) → IfWritten r P
if_written (reply.At ts outcomes) P is = is ts outcomes (refl)
if_written (reply.Rows t rows) P is = tt
if_written (reply.Ancient t a) P is = tt
if_written (reply.Busy t f) P is = tt
if_written (reply.Ahm a) P is = tt
if_written reply.Done P is = tt
if_written (reply.Large n) P is = tt
if_written reply.Stopped P is = tt

-- a scan is not answered as a write is
pub never_written : (r : Result TabletSnap SnapNo) (ts : ℕ) (outcomes : List Outcome) → turn_of_read r ≢ turn.Told (reply.At ts outcomes)
never_written (Ok snap) ts outcomes = λ e. cc
never_written (Err no.Stopped) ts outcomes = λ e. cc
never_written (Err (no.Ancient t a)) ts outcomes = λ e. cc
never_written (Err (no.Busy t f)) ts outcomes = λ e. cc
never_written (Err (no.NotYet f)) ts outcomes = λ e. cc
never_written (Err no.Memory) ts outcomes = λ e. cc
