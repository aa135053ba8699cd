-- The replies of a run are those that its lines tell, one for each command; and the pool of a run has room for each write of a load.
use Rattle.std.proofs.Common.{◌≡◌, ℕ, zero, suc, ◌+◌, ◌≤◌, Bool, true, false, ◌&&◌, List, [], ◌∷◌, Option, Some, None, refl, ap, ◌∙◌, arith, length}
use Rattle.std.specs.Prelude.{slice_get, is_some, unwrap_or, nat_lt, nat_le, not, codes, if◌then◌else◌}
use Rattle.std.specs.Option.{option_and_then, option_map}
use Rattle.std.proofs.lemmas.Bool.Decides.{nat_tests}
use Rattle.kt_history.specs.declared.command.Command.{Command}
use Rattle.kt_history.specs.declared.reply.Reply.{Reply}
use Rattle.kt_history.specs.declared.reply.Reply.TheVariants as reply
use Rattle.kt_history.specs.Machine.{nth, command_of}
use Rattle.kt_history.specs.Replies.{replies_to, all_replies}
use Rattle.kt_words.specs.declared.run.Settings.{Settings}
use Rattle.clap.specs.Words.{matches_of, fault_of, first_of}
use Rattle.kt_words.specs.Words.{settings_in, settings_by, settings_of, number_or, begins_run, ends_options, is_none, run_app}
use Rattle.kt_words.specs.Numbers.{number_said, between, digits_from}
use Rattle.kt_app.specs.Played.{given, reply_in}

-- one reply for each command of each session
abbrev pub AreAll : List (List Command) → List (List Reply) → Type 0
AreAll plan replies = (s : ℕ) (commands : List Command) → slice_get plan s ≡ Some commands → (r : List Reply) × (slice_get replies s ≡ Some r) × (length r ≡ length commands)

-- ---- each command has a reply

as_many : {A B : Type 0} (xs : List A) (ys : List B) (k : ℕ) → length ys ≡ length xs → is_some (slice_get xs k) ≡ true → is_some (slice_get ys k) ≡ true
as_many [] ys k e h = absurd cc
as_many (x ∷ xs) [] k e h = absurd (omega (arith, e))
as_many (x ∷ xs) (y ∷ ys) zero e h = refl
as_many (x ∷ xs) (y ∷ ys) (suc k) e h = as_many xs ys k (omega (arith, e)) h

nth_many : {A B : Type 0} (xs : List A) (ys : List B) (i : ℕ) → length ys ≡ length xs → is_some (nth xs i) ≡ true → is_some (nth ys i) ≡ true
nth_many xs ys zero e h = absurd cc
nth_many xs ys (suc k) e h = as_many xs ys k e h

pub has_reply : (plan : List (List Command)) (replies : List (List Reply)) → AreAll plan replies → (s i : ℕ) → is_some (command_of (nth plan s) i) ≡ true → is_some (given replies s i) ≡ true
has_reply plan replies all zero i h = absurd cc
has_reply plan replies all (suc j) i h = by (slice_get plan j) refl h
  where
    by : (o : Option (List Command)) → slice_get plan j ≡ o → is_some (command_of o i) ≡ true → is_some (reply_in (slice_get replies j) i) ≡ true
    by None is there = absurd cc
    by (Some commands) is there = let mine = all j commands is in ap (λ o. is_some (reply_in o i)) mine.1 ∙ nth_many commands mine.0 i mine.2 there

-- ---- they are the replies that are told

one_is : (o : Option Reply) (r : Reply) → o ≡ Some r → unwrap_or o reply.Stopped ≡ r
one_is o r e = ap (λ x. unwrap_or x reply.Stopped) e

session_are : (f : ℕ → Option Reply) (i : ℕ) (commands : List Command) (r : List Reply) → length r ≡ length commands → ((k : ℕ) → f (i + k) ≡ slice_get r k) → replies_to f i commands ≡ r
session_are f i [] [] e told = refl
session_are f i [] (x ∷ r) e told = absurd (omega (arith, e))
session_are f i (c ∷ commands) [] e told = absurd (omega (arith, e))
session_are f i (c ∷ commands) (x ∷ r) e told =
    let here : i ≡ i + 0 = omega arith in
    let first = one_is (f i) x (ap f here ∙ told 0) in
    let rest = session_are f (i + 1) commands r (omega (arith, e)) (λ k. let next : (i + 1) + k ≡ i + suc k = omega arith in ap f next ∙ told (suc k)) in
    λ t. first t ∷ rest t

same_one : {A : Type 0} (a b : A) → Some a ≡ Some b → a ≡ b
same_one a b e = cc

pub all_are : (f : ℕ → ℕ → Option Reply) (s : ℕ) (plan : List (List Command)) (replies : List (List Reply)) → length replies ≡ length plan → AreAll plan replies → ((j k : ℕ) → f (s + j) k ≡ reply_in (slice_get replies j) k) → all_replies f s plan ≡ replies
all_are f s [] [] e all told = refl
all_are f s [] (r ∷ replies) e all told = absurd (omega (arith, e))
all_are f s (commands ∷ plan) [] e all told = absurd (omega (arith, e))
all_are f s (commands ∷ plan) (r ∷ replies) e all told =
    let mine = all 0 commands refl in
    let many : length r ≡ length commands = ap length (same_one r mine.0 mine.1) ∙ mine.2 in
    let here : s ≡ s + 0 = omega arith in
    let first = session_are (f s) 1 commands r many (λ k. let at : 1 + k ≡ suc k = omega arith in ap (λ n. f n (1 + k)) here ∙ told 0 (1 + k) ∙ ap (nth r) at) in
    let rest = all_are f (s + 1) plan replies (omega (arith, e)) (λ j cs is. all (suc j) cs is) (λ j k. let next : (s + 1) + j ≡ s + suc j = omega arith in ap (λ n. f n k) next ∙ told (suc j) k) in
    λ t. first t ∷ rest t

-- ---- the pool

in_bounds : (least most n m : ℕ) → between least most n ≡ Some m → least ≤ m
in_bounds least most n m h = by (nat_le least n) (nat_le n most) refl h
  where
    low : nat_le least n ≡ true → n ≡ m → least ≤ m
    low is same = grind (arith, nat_tests)

    by : (a b : Bool) → nat_le least n ≡ a → (if a && b then Some n else None) ≡ Some m → least ≤ m
    by true true is e = low is (same_one n m e)
    by true false is e = absurd cc
    by false b is e = absurd cc

bound_then : (least most : ℕ) (o : Option ℕ) (m : ℕ) → option_and_then (between least most) o ≡ Some m → least ≤ m
bound_then least most None m h = absurd cc
bound_then least most (Some n) m h = in_bounds least most n m h

said_bound : (least most : ℕ) (digits : List ℕ) (m : ℕ) → number_said least most digits ≡ Some m → least ≤ m
said_bound least most digits m h = by (nat_lt 0 (length digits) && nat_le (length digits) 10) h
  where
    by : (b : Bool) → (if b then option_and_then (between least most) (digits_from 0 digits) else None) ≡ Some m → least ≤ m
    by true e = bound_then least most (digits_from 0 digits) m e
    by false e = absurd cc

or_bound : (without least most : ℕ) (o : Option (List ℕ)) (m : ℕ) → least ≤ without → number_or without least most o ≡ Some m → least ≤ m
or_bound without least most None m le h = let same : without ≡ m = cc in omega (arith, le, same)
or_bound without least most (Some digits) m le h = said_bound least most digits m h

cells_of : (workers : ℕ) (o : Option ℕ) (s : Settings) → option_map (λ (cells : ℕ). record { workers = workers; cells = cells }) o ≡ Some s → o ≡ Some s.cells
cells_of workers None s h = absurd cc
cells_of workers (Some n) s h = ap (λ (x : Settings). Some x.cells) (same_settings _ s h)
  where
    same_settings : (a b : Settings) → Some a ≡ Some b → a ≡ b
    same_settings a b e = cc

by_least : (value : List ℕ → Option (List ℕ)) (s : Settings) → settings_by value ≡ Some s → 1024 ≤ s.cells
by_least value s h = by (number_or 0 0 4 (value (codes "workers"))) h
  where
    pool : Option ℕ
    pool = number_or 262144 1024 4194304 (value (codes "pool"))

    by : (o : Option ℕ) → option_and_then (λ (workers : ℕ). option_map (λ (cells : ℕ). record { workers = workers; cells = cells }) pool) o ≡ Some s → 1024 ≤ s.cells
    by None e = absurd cc
    by (Some workers) e = or_bound 262144 1024 4194304 (value (codes "pool")) s.cells (omega arith) (cells_of workers pool s e)

if_taken : (b : Bool) (o : Option Settings) (s : Settings) → (if b then o else None) ≡ Some s → o ≡ Some s
if_taken true o s e = e
if_taken false o s e = absurd cc

-- a run has 1,024 cells at least
pub least_cells : (words : List (List ℕ)) (s : Settings) → settings_in words ≡ Some s → 1024 ≤ s.cells
least_cells words s h =
    by_least (λ name. first_of name (matches_of run_app words)) s
    (if_taken (begins_run words && (not (ends_options words) && is_none (fault_of run_app words))) (settings_of (matches_of run_app words)) s h)
