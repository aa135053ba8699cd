-- Reading the head of a body, number by number: so far as it goes, and where it stops.
use Rattle.std.proofs.Common.{◌≡◌, ℕ, List, Result, Ok, sym, ap, subst, ◌∙◌}
use Rattle.std.specs.Int.{w16, w64}
use Rattle.kt_bytes.specs.declared.fault.Stop.{Stop}
use Rattle.kt_bytes.specs.declared.fault.Stop.TheVariants as no
use Rattle.kt_bytes.specs.Reading.{◌>>=◌, Fails, number_at, checked_at}
use Rattle.kt_super.specs.Rowsets.{is_small}
use Rattle.kt_super.specs.Body.{is_number, is_next_file, is_next_column, is_format, head_at}
use Rattle.kt_super.proofs.HeadParts.{made, number_step, mark_step, last_step, need_step, mem_step, rowset_step, file_step, column_step}

-- what was read is handed on
after : {A B : Type 0} (r : Result A ℕ) (f : A → Result B ℕ) (x : A) → r ≡ Ok x → (r >>= f) ≡ f x
after r f x e = ap (λ (y : Result _ ℕ). y >>= f) e

-- what was not read stops the whole
stops : {A B : Type 0} (e : Stop) (r : Result A ℕ) (f : A → Result B ℕ) → Fails e r → Fails e (r >>= f)
stops no.Memory r f h = tt
stops (no.Left left) r f h = ap (λ (y : Result _ ℕ). y >>= f) h

-- the whole stops where what is left of it does
rest_stops : {B : Type 0} (e : Stop) (whole rest : Result B ℕ) → whole ≡ rest → Fails e rest → Fails e whole
rest_stops e whole rest is h = subst (λ (r : Result _ ℕ). Fails e r) (sym is) h

-- where bytes begin with these numbers, what is read behind them
module _ (slot : ℕ) (bytes : List ℕ) where
  pub to_word : (word : ℕ × List ℕ) → checked_at w16 is_format bytes ≡ Ok word → head_at slot bytes ≡ number_step slot word.1
  unfolding head_at
  to_word word e1 = after (checked_at w16 is_format bytes) (λ x. number_step slot x.1) word e1

  pub to_number : (word number : ℕ × List ℕ) → checked_at w16 is_format bytes ≡ Ok word → checked_at w64 (is_number slot) word.1 ≡ Ok number → head_at slot bytes ≡ mark_step number.0 number.1
  to_number word number e1 e2 = to_word word e1 ∙ after (checked_at w64 (is_number slot) word.1) (λ x. mark_step x.0 x.1) number e2

  pub to_a : (word number a : ℕ × List ℕ) → checked_at w16 is_format bytes ≡ Ok word → checked_at w64 (is_number slot) word.1 ≡ Ok number → number_at w64 number.1 ≡ Ok a → head_at slot bytes ≡ last_step number.0 a.0 a.1
  to_a word number a e1 e2 e3 = to_number word number e1 e2 ∙ after (number_at w64 number.1) (λ x. last_step number.0 x.0 x.1) a e3

  pub to_c : (word number a c : ℕ × List ℕ) → checked_at w16 is_format bytes ≡ Ok word → checked_at w64 (is_number slot) word.1 ≡ Ok number → number_at w64 number.1 ≡ Ok a → number_at w64 a.1 ≡ Ok c → head_at slot bytes ≡ need_step number.0 a.0 c.0 c.1
  to_c word number a c e1 e2 e3 e4 = to_a word number a e1 e2 e3 ∙ after (number_at w64 a.1) (λ x. need_step number.0 a.0 x.0 x.1) c e4

  pub to_need : (word number a c need : ℕ × List ℕ) → checked_at w16 is_format bytes ≡ Ok word → checked_at w64 (is_number slot) word.1 ≡ Ok number → number_at w64 number.1 ≡ Ok a → number_at w64 a.1 ≡ Ok c → checked_at w64 is_small c.1 ≡ Ok need → head_at slot bytes ≡ mem_step number.0 a.0 c.0 need.0 need.1
  to_need word number a c need e1 e2 e3 e4 e5 = to_c word number a c e1 e2 e3 e4 ∙ after (checked_at w64 is_small c.1) (λ x. mem_step number.0 a.0 c.0 x.0 x.1) need e5

  pub to_last_mem : (word number a c need last_mem : ℕ × List ℕ) → checked_at w16 is_format bytes ≡ Ok word → checked_at w64 (is_number slot) word.1 ≡ Ok number → number_at w64 number.1 ≡ Ok a → number_at w64 a.1 ≡ Ok c → checked_at w64 is_small c.1 ≡ Ok need → checked_at w64 is_small need.1 ≡ Ok last_mem → head_at slot bytes ≡ rowset_step number.0 a.0 c.0 need.0 last_mem.0 last_mem.1
  to_last_mem word number a c need last_mem e1 e2 e3 e4 e5 e6 = to_need word number a c need e1 e2 e3 e4 e5 ∙ after (checked_at w64 is_small need.1) (λ x. rowset_step number.0 a.0 c.0 need.0 x.0 x.1) last_mem e6

  pub to_next_rowset : (word number a c need last_mem next_rowset : ℕ × List ℕ) → checked_at w16 is_format bytes ≡ Ok word → checked_at w64 (is_number slot) word.1 ≡ Ok number → number_at w64 number.1 ≡ Ok a → number_at w64 a.1 ≡ Ok c → checked_at w64 is_small c.1 ≡ Ok need → checked_at w64 is_small need.1 ≡ Ok last_mem → checked_at w64 is_small last_mem.1 ≡ Ok next_rowset → head_at slot bytes ≡ file_step number.0 a.0 c.0 need.0 last_mem.0 next_rowset.0 next_rowset.1
  to_next_rowset word number a c need last_mem next_rowset e1 e2 e3 e4 e5 e6 e7 = to_last_mem word number a c need last_mem e1 e2 e3 e4 e5 e6 ∙ after (checked_at w64 is_small last_mem.1) (λ x. file_step number.0 a.0 c.0 need.0 last_mem.0 x.0 x.1) next_rowset e7

  pub to_next_file : (word number a c need last_mem next_rowset next_file : ℕ × List ℕ) → checked_at w16 is_format bytes ≡ Ok word → checked_at w64 (is_number slot) word.1 ≡ Ok number → number_at w64 number.1 ≡ Ok a → number_at w64 a.1 ≡ Ok c → checked_at w64 is_small c.1 ≡ Ok need → checked_at w64 is_small need.1 ≡ Ok last_mem → checked_at w64 is_small last_mem.1 ≡ Ok next_rowset → checked_at w64 is_next_file next_rowset.1 ≡ Ok next_file → head_at slot bytes ≡ column_step number.0 a.0 c.0 need.0 last_mem.0 next_rowset.0 next_file.0 next_file.1
  to_next_file word number a c need last_mem next_rowset next_file e1 e2 e3 e4 e5 e6 e7 e8 = to_next_rowset word number a c need last_mem next_rowset e1 e2 e3 e4 e5 e6 e7 ∙ after (checked_at w64 is_next_file next_rowset.1) (λ x. column_step number.0 a.0 c.0 need.0 last_mem.0 next_rowset.0 x.0 x.1) next_file e8

  pub to_next_column : (word number a c need last_mem next_rowset next_file next_column : ℕ × List ℕ) → checked_at w16 is_format bytes ≡ Ok word → checked_at w64 (is_number slot) word.1 ≡ Ok number → number_at w64 number.1 ≡ Ok a → number_at w64 a.1 ≡ Ok c → checked_at w64 is_small c.1 ≡ Ok need → checked_at w64 is_small need.1 ≡ Ok last_mem → checked_at w64 is_small last_mem.1 ≡ Ok next_rowset → checked_at w64 is_next_file next_rowset.1 ≡ Ok next_file → checked_at w16 is_next_column next_file.1 ≡ Ok next_column → head_at slot bytes ≡ Ok (made number.0 a.0 c.0 need.0 last_mem.0 next_rowset.0 next_file.0 next_column.0, next_column.1)
  to_next_column word number a c need last_mem next_rowset next_file next_column e1 e2 e3 e4 e5 e6 e7 e8 e9 = to_next_file word number a c need last_mem next_rowset next_file e1 e2 e3 e4 e5 e6 e7 e8 ∙ after (checked_at w16 is_next_column next_file.1) (λ x. Ok (made number.0 a.0 c.0 need.0 last_mem.0 next_rowset.0 next_file.0 x.0, x.1)) next_column e9

  pub no_word : (e : Stop) → Fails e (checked_at w16 is_format bytes) → Fails e (head_at slot bytes)
  unfolding head_at
  no_word e h = stops e (checked_at w16 is_format bytes) (λ x. number_step slot x.1) h

  pub no_number : (e : Stop) → (word : ℕ × List ℕ) → checked_at w16 is_format bytes ≡ Ok word → Fails e (checked_at w64 (is_number slot) word.1) → Fails e (head_at slot bytes)
  no_number e word e1 h = rest_stops e (head_at slot bytes) (number_step slot word.1) (to_word word e1) (stops e (checked_at w64 (is_number slot) word.1) (λ x. mark_step x.0 x.1) h)

  pub no_a : (e : Stop) → (word number : ℕ × List ℕ) → checked_at w16 is_format bytes ≡ Ok word → checked_at w64 (is_number slot) word.1 ≡ Ok number → Fails e (number_at w64 number.1) → Fails e (head_at slot bytes)
  no_a e word number e1 e2 h = rest_stops e (head_at slot bytes) (mark_step number.0 number.1) (to_number word number e1 e2) (stops e (number_at w64 number.1) (λ x. last_step number.0 x.0 x.1) h)

  pub no_c : (e : Stop) → (word number a : ℕ × List ℕ) → checked_at w16 is_format bytes ≡ Ok word → checked_at w64 (is_number slot) word.1 ≡ Ok number → number_at w64 number.1 ≡ Ok a → Fails e (number_at w64 a.1) → Fails e (head_at slot bytes)
  no_c e word number a e1 e2 e3 h = rest_stops e (head_at slot bytes) (last_step number.0 a.0 a.1) (to_a word number a e1 e2 e3) (stops e (number_at w64 a.1) (λ x. need_step number.0 a.0 x.0 x.1) h)

  pub no_need : (e : Stop) → (word number a c : ℕ × List ℕ) → checked_at w16 is_format bytes ≡ Ok word → checked_at w64 (is_number slot) word.1 ≡ Ok number → number_at w64 number.1 ≡ Ok a → number_at w64 a.1 ≡ Ok c → Fails e (checked_at w64 is_small c.1) → Fails e (head_at slot bytes)
  no_need e word number a c e1 e2 e3 e4 h = rest_stops e (head_at slot bytes) (need_step number.0 a.0 c.0 c.1) (to_c word number a c e1 e2 e3 e4) (stops e (checked_at w64 is_small c.1) (λ x. mem_step number.0 a.0 c.0 x.0 x.1) h)

  pub no_last_mem : (e : Stop) → (word number a c need : ℕ × List ℕ) → checked_at w16 is_format bytes ≡ Ok word → checked_at w64 (is_number slot) word.1 ≡ Ok number → number_at w64 number.1 ≡ Ok a → number_at w64 a.1 ≡ Ok c → checked_at w64 is_small c.1 ≡ Ok need → Fails e (checked_at w64 is_small need.1) → Fails e (head_at slot bytes)
  no_last_mem e word number a c need e1 e2 e3 e4 e5 h = rest_stops e (head_at slot bytes) (mem_step number.0 a.0 c.0 need.0 need.1) (to_need word number a c need e1 e2 e3 e4 e5) (stops e (checked_at w64 is_small need.1) (λ x. rowset_step number.0 a.0 c.0 need.0 x.0 x.1) h)

  pub no_next_rowset : (e : Stop) → (word number a c need last_mem : ℕ × List ℕ) → checked_at w16 is_format bytes ≡ Ok word → checked_at w64 (is_number slot) word.1 ≡ Ok number → number_at w64 number.1 ≡ Ok a → number_at w64 a.1 ≡ Ok c → checked_at w64 is_small c.1 ≡ Ok need → checked_at w64 is_small need.1 ≡ Ok last_mem → Fails e (checked_at w64 is_small last_mem.1) → Fails e (head_at slot bytes)
  no_next_rowset e word number a c need last_mem e1 e2 e3 e4 e5 e6 h = rest_stops e (head_at slot bytes) (rowset_step number.0 a.0 c.0 need.0 last_mem.0 last_mem.1) (to_last_mem word number a c need last_mem e1 e2 e3 e4 e5 e6) (stops e (checked_at w64 is_small last_mem.1) (λ x. file_step number.0 a.0 c.0 need.0 last_mem.0 x.0 x.1) h)

  pub no_next_file : (e : Stop) → (word number a c need last_mem next_rowset : ℕ × List ℕ) → checked_at w16 is_format bytes ≡ Ok word → checked_at w64 (is_number slot) word.1 ≡ Ok number → number_at w64 number.1 ≡ Ok a → number_at w64 a.1 ≡ Ok c → checked_at w64 is_small c.1 ≡ Ok need → checked_at w64 is_small need.1 ≡ Ok last_mem → checked_at w64 is_small last_mem.1 ≡ Ok next_rowset → Fails e (checked_at w64 is_next_file next_rowset.1) → Fails e (head_at slot bytes)
  no_next_file e word number a c need last_mem next_rowset e1 e2 e3 e4 e5 e6 e7 h = rest_stops e (head_at slot bytes) (file_step number.0 a.0 c.0 need.0 last_mem.0 next_rowset.0 next_rowset.1) (to_next_rowset word number a c need last_mem next_rowset e1 e2 e3 e4 e5 e6 e7) (stops e (checked_at w64 is_next_file next_rowset.1) (λ x. column_step number.0 a.0 c.0 need.0 last_mem.0 next_rowset.0 x.0 x.1) h)

  pub no_next_column : (e : Stop) → (word number a c need last_mem next_rowset next_file : ℕ × List ℕ) → checked_at w16 is_format bytes ≡ Ok word → checked_at w64 (is_number slot) word.1 ≡ Ok number → number_at w64 number.1 ≡ Ok a → number_at w64 a.1 ≡ Ok c → checked_at w64 is_small c.1 ≡ Ok need → checked_at w64 is_small need.1 ≡ Ok last_mem → checked_at w64 is_small last_mem.1 ≡ Ok next_rowset → checked_at w64 is_next_file next_rowset.1 ≡ Ok next_file → Fails e (checked_at w16 is_next_column next_file.1) → Fails e (head_at slot bytes)
  no_next_column e word number a c need last_mem next_rowset next_file e1 e2 e3 e4 e5 e6 e7 e8 h = rest_stops e (head_at slot bytes) (column_step number.0 a.0 c.0 need.0 last_mem.0 next_rowset.0 next_file.0 next_file.1) (to_next_file word number a c need last_mem next_rowset next_file e1 e2 e3 e4 e5 e6 e7 e8) (stops e (checked_at w16 is_next_column next_file.1) (λ x. Ok (made number.0 a.0 c.0 need.0 last_mem.0 next_rowset.0 next_file.0 x.0, x.1)) h)
