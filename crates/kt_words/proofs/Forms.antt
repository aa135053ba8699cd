-- Words that are spelled in the form are words that the command takes.
use Rattle.std.proofs.Common.{◌≡◌, ◌∙◌, ℕ, ◌+◌, ◌-◌, List, [], ◌∷◌, ◌++◌, length, take, drop, Bool, true, false, Option, Some, None, refl, sym, ap, ap₂, subst, inl, inr, arith, codes}
use Rattle.std.specs.Prelude.{◌⊎◌, ◌==◌, ◌&&◌, ◌||◌, if◌then◌else◌, fold, is_some}
use Rattle.std.specs.Option.{option_and_then, option_map, option_or, option_map_or}
use Rattle.std.specs.Str.{bytes_eq}
use Rattle.std.proofs.lemmas.Bool.Decides.{nat_tests}
use Rattle.std.proofs.lemmas.List.{take-append-drop}
use Rattle.clap.specs.Lexer.{strip_byte, long_of, long_of_rest, short_of, short_of_rest}
use Rattle.clap.specs.Walk.{Step as WordStep, Text, Rule, Row, Held, Waiting, Walk, idle, option, used, nothing_held, walk_from, walked, walk, settled, finished, long_or_other, short_or_plain, plain_word, word_met, trailing, after_step}
use Rattle.clap.specs.Simple.{Shape, built, filled, with_index, entered, matches_of}
use Rattle.clap.specs.Kinds.{Kinds, or_else}
use Rattle.clap.specs.Faults.{word_fault, flag_word_fault, bundle_fault, step_fault, turn_fault, walk_fault, settle_fault, defaults_fault, check_fault, entered_fault, fault_of}
use Rattle.clap.proofs.OnLiterals.{clap_on_literals}
use Rattle.kt_base.specs.Literals.{same, is_digit}
use Rattle.kt_base.proofs.Decimals.{same_text}
use Rattle.kt_words.specs.declared.run.Settings.{Settings}
use Rattle.kt_words.specs.Numbers.{number_said}
use Rattle.kt_words.specs.Words.{run_app, option_rule, settings_of, ends_options, settings_in, joined, given, or_over, over, with_workers, with_pool, defaults, options_in}
use Rattle.kt_words.specs.Laws.{spelled_words_are_taken}
use Rattle.kt_words.proofs.Digits.{no_digit, none_said}
use Rattle.kt_words.proofs.Taken.{taken}

-- ---- the walk of the command over the words behind `run`

abbrev top : Shape
top = (built run_app).top

abbrev rule : Text → Rule
rule name = with_index 1 (filled (option_rule name))

abbrev workers : Text
workers = codes "workers"

abbrev pool : Text
pool = codes "pool"

-- the walk with these rows, this option and its values, and what waits for the next word
abbrev pub at : List Row → Option (Text × List Text) → Waiting → Walk
at rows pending waiting = record { held = record { rows = rows; pending = pending; skip = 0 }; waiting = waiting; position = 1; is_trailing = false; stopped = None }

-- a word that is taken leads from one walk to the next
pub record Step (w : Walk) (word : Text) (next : Walk) : Type 0 where
  pub walks : walked top.rules [] w word ≡ next
  pub passes : turn_fault top [] w word ≡ []

pub record Runs (w : Walk) (words : List Text) (end : Walk) : Type 0 where
  pub walks : fold (walked top.rules []) w words ≡ end
  pub passes : walk_fault top [] w words ≡ []

pub runs_none : (w : Walk) → Runs w [] w
unfolding walk_fault
runs_none w = record { walks = refl; passes = refl }

pub runs_more : (w next end : Walk) (word : Text) (words : List Text) → Step w word next → Runs next words end → Runs w (word ∷ words) end
unfolding walk_fault
runs_more w next end word words s r = record {
  walks = ap (λ (v : Walk). fold (walked top.rules []) v words) s.walks ∙ r.walks;
  passes = ap (λ (k : Kinds). or_else k (walk_fault top [] (walked top.rules [] w word) words)) s.passes ∙ ap (λ (v : Walk). walk_fault top [] v words) s.walks ∙ r.passes;
}

-- ---- its steps

workers_alone : Step (at [] None idle) (codes "--workers") (at [] (Some (workers, [])) (option workers))
unfolding clap_on_literals
workers_alone = record { walks = refl; passes = refl }

pool_alone : Step (at [] None idle) (codes "--pool") (at [] (Some (pool, [])) (option pool))
unfolding clap_on_literals
pool_alone = record { walks = refl; passes = refl }

workers_joined : (v : Text) → Step (at [] None idle) (codes "--workers=" ++ v) (at (used (rule workers) (v ∷ []) []) None idle)
unfolding clap_on_literals
workers_joined v = record { walks = refl; passes = refl }

pool_joined : (v : Text) → Step (at [] None idle) (codes "--pool=" ++ v) (at (used (rule pool) (v ∷ []) []) None idle)
unfolding clap_on_literals
pool_joined v = record { walks = refl; passes = refl }

-- behind an option with its value the other one, whether the value stood in a word of its own or behind `=`
pool_second : (v : Text) → Step (at [] (Some (workers, v ∷ [])) idle) (codes "--pool") (at (used (rule workers) (v ∷ []) []) (Some (pool, [])) (option pool))
unfolding clap_on_literals
pool_second v = record { walks = refl; passes = refl }

pool_behind : (v : Text) → Step (at (used (rule workers) (v ∷ []) []) None idle) (codes "--pool") (at (used (rule workers) (v ∷ []) []) (Some (pool, [])) (option pool))
unfolding clap_on_literals
pool_behind v = record { walks = refl; passes = refl }

pool_joined_second : (v u : Text) → Step (at [] (Some (workers, v ∷ [])) idle) (codes "--pool=" ++ u) (at (used (rule pool) (u ∷ []) (used (rule workers) (v ∷ []) [])) None idle)
unfolding clap_on_literals
pool_joined_second v u = record { walks = refl; passes = refl }

pool_joined_behind : (v u : Text) → Step (at (used (rule workers) (v ∷ []) []) None idle) (codes "--pool=" ++ u) (at (used (rule pool) (u ∷ []) (used (rule workers) (v ∷ []) [])) None idle)
unfolding clap_on_literals
pool_joined_behind v u = record { walks = refl; passes = refl }

workers_second : (v : Text) → Step (at [] (Some (pool, v ∷ [])) idle) (codes "--workers") (at (used (rule pool) (v ∷ []) []) (Some (workers, [])) (option workers))
unfolding clap_on_literals
workers_second v = record { walks = refl; passes = refl }

workers_behind : (v : Text) → Step (at (used (rule pool) (v ∷ []) []) None idle) (codes "--workers") (at (used (rule pool) (v ∷ []) []) (Some (workers, [])) (option workers))
unfolding clap_on_literals
workers_behind v = record { walks = refl; passes = refl }

workers_joined_second : (v u : Text) → Step (at [] (Some (pool, v ∷ [])) idle) (codes "--workers=" ++ u) (at (used (rule workers) (u ∷ []) (used (rule pool) (v ∷ []) [])) None idle)
unfolding clap_on_literals
workers_joined_second v u = record { walks = refl; passes = refl }

workers_joined_behind : (v u : Text) → Step (at (used (rule pool) (v ∷ []) []) None idle) (codes "--workers=" ++ u) (at (used (rule workers) (u ∷ []) (used (rule pool) (v ∷ []) [])) None idle)
unfolding clap_on_literals
workers_joined_behind v u = record { walks = refl; passes = refl }

-- a word that is no flag
pub record IsPlain (w : Text) : Type 0 where
  pub dashes : bytes_eq w (codes "--") ≡ false
  pub long : long_of w ≡ None
  pub short : short_of w ≡ None

-- it is the value of the option that waits
module _ (rows : List Row) (name w : Text) (plain : IsPlain w) where
  abbrev waits : Walk
  waits = at rows (Some (name, [])) (option name)

  met : word_met top.rules [] false (option name) 1 w waits.held ≡ plain_word top.rules (option name) w waits.held
  met =
      ap (λ (b : Bool). if b then (waits.held, trailing 1) else long_or_other top.rules (option name) w (long_of w) waits.held) plain.dashes
      ∙ ap (λ o. long_or_other top.rules (option name) w o waits.held) plain.long
      ∙ ap (λ o. short_or_plain top.rules (option name) w o waits.held) plain.short

  no_flag : word_fault top [] false (option name) w waits.held ≡ []
  no_flag =
      ap (λ (b : Bool). if b then [] else flag_word_fault top.rules top.args_override_self (long_of w) w waits.held) plain.dashes
      ∙ ap (λ o. flag_word_fault top.rules top.args_override_self o w waits.held) plain.long
      ∙ ap (λ o. option_map_or (λ flags. bundle_fault top.rules top.args_override_self flags waits.held) o []) plain.short

  value_taken : (next : Walk) → after_step top.rules w waits (plain_word top.rules (option name) w waits.held).0 (plain_word top.rules (option name) w waits.held).1 ≡ next
      → step_fault top 1 (plain_word top.rules (option name) w waits.held).0 (plain_word top.rules (option name) w waits.held).1 ≡ [] → Step waits w next
  unfolding walked
  value_taken next comes passes = record {
    walks = ap (λ (m : Held × WordStep). after_step top.rules w waits m.0 m.1) met ∙ comes;
    passes = ap₂ or_else no_flag (ap (λ (m : Held × WordStep). step_fault top 1 m.0 m.1) met ∙ passes);
  }

workers_value : (rows : List Row) (w : Text) → IsPlain w → Step (at rows (Some (workers, [])) (option workers)) w (at rows (Some (workers, w ∷ [])) idle)
workers_value rows w plain = value_taken rows workers w plain (at rows (Some (workers, w ∷ [])) idle) refl refl

pool_value : (rows : List Row) (w : Text) → IsPlain w → Step (at rows (Some (pool, [])) (option pool)) w (at rows (Some (pool, w ∷ [])) idle)
pool_value rows w plain = value_taken rows pool w plain (at rows (Some (pool, w ∷ [])) idle) refl refl

-- ---- what the words say at their end

abbrev end_fault : Walk → Kinds → Kinds
end_fault w k =
    or_else k (or_else (entered_fault (built run_app) w.stopped) (or_else (settle_fault top.rules top.args_override_self w.held)
    (or_else (defaults_fault (settled top.rules w.held).rows top.rules) (check_fault top (finished top.rules w.held) (is_some (entered (built run_app) w.stopped))))))

fault_is : (words : List Text) → fault_of run_app (codes "run" ∷ words) ≡ end_fault (walk top.rules [] nothing_held words) (walk_fault top [] (walk_from nothing_held) words)
fault_is words = refl

rows_are : (words : List Text) → matches_of run_app (codes "run" ∷ words) ≡ finished top.rules (walk top.rules [] nothing_held words).held
rows_are words = refl

-- a walk that is whole as it ends, and what it says
pub record Ends (w : Walk) (says : Option Settings) : Type 0 where
  pub whole : end_fault w [] ≡ []
  pub settings : settings_of (finished top.rules w.held) ≡ says

taken_so : (words : List Text) (w : Walk) (says : Option Settings) → ends_options words ≡ false → Runs (at [] None idle) words w → Ends w says → settings_in (codes "run" ∷ words) ≡ says
taken_so words w says ends r e =
    taken (codes "run" ∷ words) refl ends (fault_is words ∙ ap₂ end_fault r.walks r.passes ∙ e.whole)
    ∙ ap settings_of (rows_are words) ∙ ap (λ (v : Walk). settings_of (finished top.rules v.held)) r.walks ∙ e.settings

abbrev both : Option ℕ → Option ℕ → Option Settings
both w c = option_and_then (λ n. option_map (λ cells. record { workers = n; cells = cells }) c) w

nothing_said : Ends (at [] None idle) (both (Some 0) (Some 262144))
unfolding clap_on_literals
nothing_said = record { whole = refl; settings = refl }

-- what may come behind an option with its value, and what the words say then
record Second (w : Walk) (name : Text) (rows : List Row) (second : Text) (alone : Option Settings) (says : Text → Option Settings) : Type 0 where
  ends : Ends w alone
  apart : Step w name (at rows (Some (second, [])) (option second))
  joined : (u : Text) → Step w ((name ++ 61 ∷ []) ++ u) (at (used (rule second) (u ∷ []) rows) None idle)
  value : (u : Text) → IsPlain u → Step (at rows (Some (second, [])) (option second)) u (at rows (Some (second, u ∷ [])) idle)
  ends_apart : (u : Text) → Ends (at rows (Some (second, u ∷ [])) idle) (says u)
  ends_joined : (u : Text) → Ends (at (used (rule second) (u ∷ []) rows) None idle) (says u)
  word : same name (codes "--") ≡ false
  words : (u : Text) → same ((name ++ 61 ∷ []) ++ u) (codes "--") ≡ false

after_workers_apart : (v : Text) → Second (at [] (Some (workers, v ∷ [])) idle) (codes "--pool") (used (rule workers) (v ∷ []) []) pool (both (number_said 0 4 v) (Some 262144)) (λ u. both (number_said 0 4 v) (number_said 1024 4194304 u))
unfolding clap_on_literals
after_workers_apart v = record {
  ends = record { whole = refl; settings = refl };
  apart = pool_second v;
  joined = pool_joined_second v;
  value = λ u plain. pool_value (used (rule workers) (v ∷ []) []) u plain;
  ends_apart = λ u. record { whole = refl; settings = refl };
  ends_joined = λ u. record { whole = refl; settings = refl };
  word = refl;
  words = λ u. refl;
}

after_workers_joined : (v : Text) → Second (at (used (rule workers) (v ∷ []) []) None idle) (codes "--pool") (used (rule workers) (v ∷ []) []) pool (both (number_said 0 4 v) (Some 262144)) (λ u. both (number_said 0 4 v) (number_said 1024 4194304 u))
unfolding clap_on_literals
after_workers_joined v = record {
  ends = record { whole = refl; settings = refl };
  apart = pool_behind v;
  joined = pool_joined_behind v;
  value = λ u plain. pool_value (used (rule workers) (v ∷ []) []) u plain;
  ends_apart = λ u. record { whole = refl; settings = refl };
  ends_joined = λ u. record { whole = refl; settings = refl };
  word = refl;
  words = λ u. refl;
}

after_pool_apart : (v : Text) → Second (at [] (Some (pool, v ∷ [])) idle) (codes "--workers") (used (rule pool) (v ∷ []) []) workers (both (Some 0) (number_said 1024 4194304 v)) (λ u. both (number_said 0 4 u) (number_said 1024 4194304 v))
unfolding clap_on_literals
after_pool_apart v = record {
  ends = record { whole = refl; settings = refl };
  apart = workers_second v;
  joined = workers_joined_second v;
  value = λ u plain. workers_value (used (rule pool) (v ∷ []) []) u plain;
  ends_apart = λ u. record { whole = refl; settings = refl };
  ends_joined = λ u. record { whole = refl; settings = refl };
  word = refl;
  words = λ u. refl;
}

after_pool_joined : (v : Text) → Second (at (used (rule pool) (v ∷ []) []) None idle) (codes "--workers") (used (rule pool) (v ∷ []) []) workers (both (Some 0) (number_said 1024 4194304 v)) (λ u. both (number_said 0 4 u) (number_said 1024 4194304 v))
unfolding clap_on_literals
after_pool_joined v = record {
  ends = record { whole = refl; settings = refl };
  apart = workers_behind v;
  joined = workers_joined_behind v;
  value = λ u plain. workers_value (used (rule pool) (v ∷ []) []) u plain;
  ends_apart = λ u. record { whole = refl; settings = refl };
  ends_joined = λ u. record { whole = refl; settings = refl };
  word = refl;
  words = λ u. refl;
}

-- ---- the form, word by word

and_then_of : {A B : Type 0} (f : A → Option B) (o : Option A) (b : B) → option_and_then f o ≡ Some b → (a : A) × (o ≡ Some a) × (f a ≡ Some b)
and_then_of f None b e = absurd cc
and_then_of f (Some a) b e = (a, refl, e)

or_of : {A : Type 0} (a b : Option A) (s : A) → option_or a b ≡ Some s → (a ≡ Some s) ⊎ (b ≡ Some s)
or_of (Some x) b s e = inl e
or_of None b s e = inr e

if_some : {A : Type 0} (t : Bool) (o : Option A) (a : A) → (if t then o else None) ≡ Some a → (t ≡ true) × (o ≡ Some a)
if_some true o a e = (refl, e)
if_some false o a e = absurd cc

front_and_rest : (n : ℕ) (word front : Text) → take n word ≡ front → word ≡ front ++ drop n word
front_and_rest n word front e = sym (take-append-drop n word) ∙ ap (λ (l : Text). l ++ drop n word) e

-- the first words give an option this value, and this is behind it
record Gives (name : Text) (words : List Text) (value : Text) (rest : List Text) : Type 0 where
  form : (words ≡ name ∷ value ∷ rest) ⊎ (words ≡ ((name ++ 61 ∷ []) ++ value) ∷ rest)

joined_gives : (name word : Text) (rest : List Text) (v : Text × List Text) → joined name word rest ≡ Some v → Gives name (word ∷ rest) v.0 v.1
joined_gives name word rest v e =
    let two = if_some (same (take (length name + 1) word) (name ++ 61 ∷ [])) (Some (drop (length name + 1) word, rest)) v e in
    let value : drop (length name + 1) word ≡ v.0 = cc (two.1) in
    let rest_is : rest ≡ v.1 = cc (two.1) in
    let is : word ≡ (name ++ 61 ∷ []) ++ drop (length name + 1) word = front_and_rest (length name + 1) word (name ++ 61 ∷ []) (same_text (take (length name + 1) word) (name ++ 61 ∷ []) two.0) in
    record { form = inr (λ i. (is ∙ ap (λ (l : Text). (name ++ 61 ∷ []) ++ l) value) i ∷ rest_is i) }

given_gives : (name : Text) (words : List Text) (v : Text × List Text) → given name words ≡ Some v → Gives name words v.0 v.1
given_gives name [] v e = absurd cc
given_gives name (word ∷ []) v e = joined_gives name word [] v e
given_gives name (word ∷ value ∷ rest) v e = go (same word name) refl e
  where
    go : (t : Bool) → same word name ≡ t → (if t then Some (value, rest) else joined name word (value ∷ rest)) ≡ Some v → Gives name (word ∷ value ∷ rest) v.0 v.1
    go true h e =
        let is : value ≡ v.0 = cc (e) in
        let rest_is : rest ≡ v.1 = cc (e) in
        record { form = inl (λ i. same_text word name h i ∷ is i ∷ rest_is i) }
    go false h e = joined_gives name word (value ∷ rest) v e

-- a number is no flag
number_plain : (least most n : ℕ) (v : Text) → number_said least most v ≡ Some n → IsPlain v
number_plain least most n [] e = absurd cc
number_plain least most n (d ∷ ds) e = go (is_digit d) refl
  where
    digit : is_digit d ≡ true → IsPlain (d ∷ ds)
    digit h =
        let no : (d == 45) ≡ false = grind (arith, nat_tests) in
        record {
          dashes = ap (λ (b : Bool). b && bytes_eq ds (45 ∷ [])) no;
          long = ap (λ (b : Bool). option_and_then long_of_rest (option_and_then (strip_byte 45) (if b then Some ds else None))) no;
          short = ap (λ (b : Bool). option_and_then short_of_rest (if b then Some ds else None)) no;
        }

    go : (t : Bool) → is_digit d ≡ t → IsPlain (d ∷ ds)
    go true h = digit h
    go false h = let none = none_said least most (d ∷ ds) (no_digit least most d 0 ds h) in absurd cc

no_end : (v : Text) (words : List Text) → IsPlain v → ends_options words ≡ false → ends_options (v ∷ words) ≡ false
no_end v words plain e = ap₂ (λ (a b : Bool). a || b) plain.dashes e

-- ---- what comes behind the first option

record Rest (w : Walk) (words : List Text) (says : Option Settings) : Type 0 where
  end : Walk
  runs : Runs w words end
  ends : Ends end says
  clean : ends_options words ≡ false

module _ (w : Walk) (name : Text) (rows : List Row) (second : Text) (alone : Option Settings) (says : Text → Option Settings) (b : Second w name rows second alone says) where
  rest_none : Rest w [] alone
  rest_none = record { end = w; runs = runs_none w; ends = b.ends; clean = refl }

  rest_apart : (u : Text) → IsPlain u → Rest w (name ∷ u ∷ []) (says u)
  rest_apart u plain = record {
    end = at rows (Some (second, u ∷ [])) idle;
    runs = runs_more w (at rows (Some (second, [])) (option second)) (at rows (Some (second, u ∷ [])) idle) name (u ∷ []) b.apart
        (runs_more (at rows (Some (second, [])) (option second)) (at rows (Some (second, u ∷ [])) idle) (at rows (Some (second, u ∷ [])) idle) u [] (b.value u plain) (runs_none (at rows (Some (second, u ∷ [])) idle)));
    ends = b.ends_apart u;
    clean = ap₂ (λ (x y : Bool). x || y) b.word (no_end u [] plain refl);
  }

  rest_joined : (u : Text) → Rest w (((name ++ 61 ∷ []) ++ u) ∷ []) (says u)
  rest_joined u = record {
    end = at (used (rule second) (u ∷ []) rows) None idle;
    runs = runs_more w (at (used (rule second) (u ∷ []) rows) None idle) (at (used (rule second) (u ∷ []) rows) None idle) ((name ++ 61 ∷ []) ++ u) [] (b.joined u) (runs_none (at (used (rule second) (u ∷ []) rows) None idle));
    ends = b.ends_joined u;
    clean = ap (λ (x : Bool). x || false) (b.words u);
  }

  rest_gives : (words : List Text) (u : Text) → Gives name words u [] → IsPlain u → Rest w words (says u)
  rest_gives words u g plain = elim g.form [
    | inl apart ↦ subst (λ (ws : List Text). Rest w ws (says u)) (sym apart) (rest_apart u plain)
    | inr joined ↦ subst (λ (ws : List Text). Rest w ws (says u)) (sym joined) (rest_joined u)
  ]

-- nothing may come behind both
nothing_more : (st s : Settings) (words : List Text) → over st words ≡ Some s → (words ≡ []) × (st ≡ s)
nothing_more st s [] e = (refl, cc)
nothing_more st s (word ∷ words) e = absurd cc

number_again : (least most n : ℕ) (v : Text) (f : Option ℕ → Option Settings) (s : Settings) → number_said least most v ≡ Some n → f (Some n) ≡ Some s → f (number_said least most v) ≡ Some s
number_again least most n v f s e is = ap f e ∙ is

-- ---- the first option, and the second or none

said_rest : (w : Walk) (words : List Text) (says : Option Settings) (s : Settings) → says ≡ Some s → Rest w words says → Rest w words (Some s)
said_rest w words says s e r = subst (Rest w words) e r

workers_then : (w : Walk) (v : Text) (n : ℕ) (rest : List Text) (s : Settings) → Second w (codes "--pool") (used (rule workers) (v ∷ []) []) pool (both (number_said 0 4 v) (Some 262144)) (λ u. both (number_said 0 4 v) (number_said 1024 4194304 u))
    → number_said 0 4 v ≡ Some n → or_over (with_pool over) (record { workers = n; cells = 262144 }) rest ≡ Some s → Rest w rest (Some s)
workers_then w v n [] s b number e = said_rest w [] (both (number_said 0 4 v) (Some 262144)) s (number_again 0 4 n v (λ o. both o (Some 262144)) s number e) (rest_none w (codes "--pool") _ pool _ _ b)
workers_then w v n (word ∷ words) s b number e =
    let u = and_then_of (λ (x : Text × List Text). option_and_then (λ m. over (record { workers = n; cells = m }) x.1) (number_said 1024 4194304 x.0)) (given (codes "--pool") (word ∷ words)) s e in
    let m = and_then_of (λ (k : ℕ). over (record { workers = n; cells = k }) u.0.1) (number_said 1024 4194304 u.0.0) s u.2 in
    let none = nothing_more (record { workers = n; cells = m.0 }) s u.0.1 m.2 in
    let gives : Gives (codes "--pool") (word ∷ words) u.0.0 [] = subst (Gives (codes "--pool") (word ∷ words) u.0.0) none.0 (given_gives (codes "--pool") (word ∷ words) u.0 u.1) in
    let is : both (number_said 0 4 v) (number_said 1024 4194304 u.0.0) ≡ Some s =
    number_again 0 4 n v (λ o. both o (number_said 1024 4194304 u.0.0)) s number (number_again 1024 4194304 m.0 u.0.0 (λ o. both (Some n) o) s m.1 (ap (λ (x : Settings). Some x) none.1)) in
    said_rest w (word ∷ words) (both (number_said 0 4 v) (number_said 1024 4194304 u.0.0)) s is
    (rest_gives w (codes "--pool") (used (rule workers) (v ∷ []) []) pool (both (number_said 0 4 v) (Some 262144)) (λ x. both (number_said 0 4 v) (number_said 1024 4194304 x)) b (word ∷ words) u.0.0 gives (number_plain 1024 4194304 m.0 u.0.0 m.1))

pool_then : (w : Walk) (v : Text) (n : ℕ) (rest : List Text) (s : Settings) → Second w (codes "--workers") (used (rule pool) (v ∷ []) []) workers (both (Some 0) (number_said 1024 4194304 v)) (λ u. both (number_said 0 4 u) (number_said 1024 4194304 v))
    → number_said 1024 4194304 v ≡ Some n → or_over (with_workers over) (record { workers = 0; cells = n }) rest ≡ Some s → Rest w rest (Some s)
pool_then w v n [] s b number e = said_rest w [] (both (Some 0) (number_said 1024 4194304 v)) s (number_again 1024 4194304 n v (λ o. both (Some 0) o) s number e) (rest_none w (codes "--workers") _ workers _ _ b)
pool_then w v n (word ∷ words) s b number e =
    let u = and_then_of (λ (x : Text × List Text). option_and_then (λ m. over (record { workers = m; cells = n }) x.1) (number_said 0 4 x.0)) (given (codes "--workers") (word ∷ words)) s e in
    let m = and_then_of (λ (k : ℕ). over (record { workers = k; cells = n }) u.0.1) (number_said 0 4 u.0.0) s u.2 in
    let none = nothing_more (record { workers = m.0; cells = n }) s u.0.1 m.2 in
    let gives : Gives (codes "--workers") (word ∷ words) u.0.0 [] = subst (Gives (codes "--workers") (word ∷ words) u.0.0) none.0 (given_gives (codes "--workers") (word ∷ words) u.0 u.1) in
    let is : both (number_said 0 4 u.0.0) (number_said 1024 4194304 v) ≡ Some s =
    number_again 1024 4194304 n v (λ o. both (number_said 0 4 u.0.0) o) s number (number_again 0 4 m.0 u.0.0 (λ o. both o (Some n)) s m.1 (ap (λ (x : Settings). Some x) none.1)) in
    said_rest w (word ∷ words) (both (number_said 0 4 u.0.0) (number_said 1024 4194304 v)) s is
    (rest_gives w (codes "--workers") (used (rule pool) (v ∷ []) []) workers (both (Some 0) (number_said 1024 4194304 v)) (λ x. both (number_said 0 4 x) (number_said 1024 4194304 v)) b (word ∷ words) u.0.0 gives (number_plain 0 4 m.0 u.0.0 m.1))

-- the words of a first option, whole
whole_apart : (name v : Text) (rest : List Text) (next w : Walk) (s : Settings) → same name (codes "--") ≡ false → IsPlain v → Step (at [] None idle) name next → Step next v w → Rest w rest (Some s) → settings_in (codes "run" ∷ name ∷ v ∷ rest) ≡ Some s
whole_apart name v rest next w s word plain first second r =
    taken_so (name ∷ v ∷ rest) r.end (Some s) (ap₂ (λ (x y : Bool). x || y) word (no_end v rest plain r.clean))
    (runs_more (at [] None idle) next r.end name (v ∷ rest) first (runs_more next w r.end v rest second r.runs)) r.ends

whole_joined : (word : Text) (rest : List Text) (w : Walk) (s : Settings) → same word (codes "--") ≡ false → Step (at [] None idle) word w → Rest w rest (Some s) → settings_in (codes "run" ∷ word ∷ rest) ≡ Some s
whole_joined word rest w s clean first r = taken_so (word ∷ rest) r.end (Some s) (ap₂ (λ (x y : Bool). x || y) clean r.clean) (runs_more (at [] None idle) w r.end word rest first r.runs) r.ends

workers_first : (words : List Text) (s : Settings) → with_workers (or_over (with_pool over)) defaults words ≡ Some s → settings_in (codes "run" ∷ words) ≡ Some s
workers_first words s e =
    let v = and_then_of (λ (x : Text × List Text). option_and_then (λ n. or_over (with_pool over) (record { workers = n; cells = 262144 }) x.1) (number_said 0 4 x.0)) (given (codes "--workers") words) s e in
    let n = and_then_of (λ (k : ℕ). or_over (with_pool over) (record { workers = k; cells = 262144 }) v.0.1) (number_said 0 4 v.0.0) s v.2 in
    let plain = number_plain 0 4 n.0 v.0.0 n.1 in
    elim (given_gives (codes "--workers") words v.0 v.1).form [
      | inl apart ↦ subst (λ (ws : List Text). settings_in (codes "run" ∷ ws) ≡ Some s) (sym apart)
          (whole_apart (codes "--workers") v.0.0 v.0.1 (at [] (Some (workers, [])) (option workers)) (at [] (Some (workers, v.0.0 ∷ [])) idle) s refl plain workers_alone (workers_value [] v.0.0 plain)
          (workers_then (at [] (Some (workers, v.0.0 ∷ [])) idle) v.0.0 n.0 v.0.1 s (after_workers_apart v.0.0) n.1 n.2))
      | inr joined ↦ subst (λ (ws : List Text). settings_in (codes "run" ∷ ws) ≡ Some s) (sym joined)
          (whole_joined (codes "--workers=" ++ v.0.0) v.0.1 (at (used (rule workers) (v.0.0 ∷ []) []) None idle) s refl (workers_joined v.0.0)
          (workers_then (at (used (rule workers) (v.0.0 ∷ []) []) None idle) v.0.0 n.0 v.0.1 s (after_workers_joined v.0.0) n.1 n.2))
    ]

pool_first : (words : List Text) (s : Settings) → with_pool (or_over (with_workers over)) defaults words ≡ Some s → settings_in (codes "run" ∷ words) ≡ Some s
pool_first words s e =
    let v = and_then_of (λ (x : Text × List Text). option_and_then (λ n. or_over (with_workers over) (record { workers = 0; cells = n }) x.1) (number_said 1024 4194304 x.0)) (given (codes "--pool") words) s e in
    let n = and_then_of (λ (k : ℕ). or_over (with_workers over) (record { workers = 0; cells = k }) v.0.1) (number_said 1024 4194304 v.0.0) s v.2 in
    let plain = number_plain 1024 4194304 n.0 v.0.0 n.1 in
    elim (given_gives (codes "--pool") words v.0 v.1).form [
      | inl apart ↦ subst (λ (ws : List Text). settings_in (codes "run" ∷ ws) ≡ Some s) (sym apart)
          (whole_apart (codes "--pool") v.0.0 v.0.1 (at [] (Some (pool, [])) (option pool)) (at [] (Some (pool, v.0.0 ∷ [])) idle) s refl plain pool_alone (pool_value [] v.0.0 plain)
          (pool_then (at [] (Some (pool, v.0.0 ∷ [])) idle) v.0.0 n.0 v.0.1 s (after_pool_apart v.0.0) n.1 n.2))
      | inr joined ↦ subst (λ (ws : List Text). settings_in (codes "run" ∷ ws) ≡ Some s) (sym joined)
          (whole_joined (codes "--pool=" ++ v.0.0) v.0.1 (at (used (rule pool) (v.0.0 ∷ []) []) None idle) s refl (pool_joined v.0.0)
          (pool_then (at (used (rule pool) (v.0.0 ∷ []) []) None idle) v.0.0 n.0 v.0.1 s (after_pool_joined v.0.0) n.1 n.2))
    ]

options_taken : (words : List Text) (s : Settings) → options_in words ≡ Some s → settings_in (codes "run" ∷ words) ≡ Some s
options_taken [] s e = taken_so [] (at [] None idle) (both (Some 0) (Some 262144)) refl (runs_none (at [] None idle)) nothing_said ∙ e
options_taken (word ∷ words) s e = elim (or_of (with_workers (or_over (with_pool over)) defaults (word ∷ words)) (with_pool (or_over (with_workers over)) defaults (word ∷ words)) s e) [
  | inl first ↦ workers_first (word ∷ words) s first
  | inr first ↦ pool_first (word ∷ words) s first
]

pub spelled_taken : spelled_words_are_taken
spelled_taken [] s e = absurd cc
spelled_taken (word ∷ words) s e =
    let two = if_some (same word (codes "run")) (options_in words) s e in
    subst (λ (w : Text). settings_in (w ∷ words) ≡ Some s) (sym (same_text word (codes "run") two.0)) (options_taken words s two.1)
