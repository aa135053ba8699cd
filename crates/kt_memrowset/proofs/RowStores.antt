-- A MemRowSet as a store of rows: what it does with an operation, and the cells that this takes.
use Rattle.std.proofs.Common.{◌≡◌, ℕ, List, ◌∷◌, ◌+◌, ◌≤◌, ◌⊎◌, inl, [], true, false, cond, Option, Some, None, refl, sym, subst, ap, ◌∙◌, arith, is_some}
use Rattle.std.specs.Option.{option_map}
use Rattle.std.specs.FinMap.Entries.{find, put, by_order}
use Rattle.std.specs.declared.cmp.Ordering.{Ordering}
use Rattle.std.specs.declared.cmp.Ordering.TheVariants.{Less, Equal, Greater}
use Rattle.kt_history.specs.declared.operation.RowOp.{RowOp}
use Rattle.kt_history.specs.declared.target.Kindly.{Kindly}
use Rattle.kt_history.specs.declared.target.Target.{Target}
use Rattle.kt_history.specs.Rows.{key_cmp}
use Rattle.kt_history.specs.Stores.{Store, Hist, push, hist_in, share, change_of, with_change, TakesUpTo}
use Rattle.kt_pool.specs.Contents.{Contents, at_cell, used}
use Rattle.kt_tree.specs.Takes.{Takes}
use Rattle.kt_tree.specs.Trees.{need}
use Rattle.kt_memrowset.specs.declared.store.MemRowSet.{MemRowSet}
use Rattle.kt_memrowset.specs.Stores.{IsStore, store_of, number_of, is_frozen, Owns, cells_had, cells_taken, link_need, Joins}
use Rattle.kt_memrowset.specs.Taking.{JoinsIf}
use Rattle.kt_memrowset.proofs.Applying.{share_covers}

-- a store that has taken a change has a row
pub put_some : (q : List ℕ) (h : Hist) (store : Store) → put key_cmp q h store ≡ [] → ⊥
put_some q h [] none = cc
put_some q h (r ∷ store) none = by (key_cmp q r.0) none
  where
    by : (o : Ordering) → by_order o ((q, h) ∷ r ∷ store) ((r.0, h) ∷ store) (r ∷ put key_cmp q h store) ≡ [] → ⊥
    by Less e = cc
    by Equal e = cc
    by Greater e = cc

few_taken : (op : RowOp) (store : Store) → cells_taken op store ≤ share op
few_taken op store = elim (is_some (find key_cmp op.key store)) as (λ b. link_need op.cells + cond b 0 (need op.key) ≤ share op) [
  | true ↦ let le = share_covers op in omega (arith, le)
  | false ↦ let le = share_covers op in omega (arith, le)
]

pub takes_share : (op : RowOp) (store : Store) (old new : Contents) → Takes old new (cells_taken op store) → share op ≤ old.reserved → TakesUpTo (share op) old new
takes_share op store old new takes room = let few = few_taken op store in record {
  cells = cells_taken op store;
  few = few;
  used = takes.used;
  reserved = let e = takes.reserved in omega (arith, e, few, room);
  size = takes.size;
}

pub more_had : (s t : MemRowSet) (old new : Contents) (op : RowOp) (ts : ℕ) (kind : Kindly) → Joins s t old new op ts kind → cells_had t new + used old ≡ cells_had s old + used new
more_had s t old new op ts kind j = let h = j.had in let u = j.takes.used in omega (arith, h, u)

-- what a MemRowSet did with an operation, whose change is of this kind, if there is one
pub record Took (s t : MemRowSet) (old new : Contents) (op : RowOp) (ts : ℕ) (kind : Option Kindly) : Type 0 where
  pub stands : IsStore t new
  pub frozen : is_frozen t ≡ is_frozen s
  pub changed : store_of t new ≡ with_change op.key ts (option_map (λ kind. change_of kind op.cells) kind) (store_of s old)
  pub has_row : store_of t new ≡ [] → kind ≡ None
  pub name : number_of t ≡ number_of s
  pub takes : TakesUpTo (share op) old new
  pub more : cells_had t new + used old ≡ cells_had s old + used new
  pub idle : kind ≡ None → (t ≡ s) × (new ≡ old)
  pub keeps : (k : ℕ) → Owns s old k → Owns t new k
  pub grows : (k : ℕ) → Owns t new k → Owns s old k ⊎ (at_cell old k ≡ None)
  pub frame : (k : ℕ) → ¬ Owns t new k → at_cell new k ≡ at_cell old k

pub took : (s t : MemRowSet) (old new : Contents) (op : RowOp) (ts : ℕ) (kind : Option Kindly) → IsStore s old → share op ≤ old.reserved → JoinsIf s t old new op ts kind → Took s t old new op ts kind
took s t old new op ts None st room j = subst (λ (t : MemRowSet). Took s t old new op ts None) (sym j.0) (subst (λ (new : Contents). Took s s old new op ts None) (sym j.1) (record {
  stands = st;
  frozen = refl;
  changed = refl;
  has_row = λ none. refl;
  name = refl;
  takes = record { cells = 0; few = omega arith; used = omega arith; reserved = omega arith; size = refl };
  more = refl;
  idle = λ e. (refl, refl);
  keeps = λ k own. own;
  grows = λ k own. inl own;
  frame = λ k none. refl;
}))
took s t old new op ts (Some kind) st room j = record {
  stands = j.stands;
  frozen = j.frozen;
  changed = j.joined;
  has_row = λ none. absurd (put_some op.key (push ts (change_of kind op.cells) (hist_in op.key (store_of s old))) (store_of s old) (sym j.joined ∙ none));
  name = j.number;
  takes = takes_share op (store_of s old) old new j.takes room;
  more = more_had s t old new op ts kind j;
  idle = λ e. absurd (some_none kind e);
  keeps = j.keeps;
  grows = j.grows;
  frame = j.frame;
}
  where
    some_none : (kind : Kindly) → ¬ (Some kind ≡ None)
    some_none kind e = cc

-- where no store took a change, none was made
pub none_made : (mine : Target) (kind : Option Kindly) (target : Option Target) → target ≡ option_map (λ _. mine) kind → target ≡ None → kind ≡ None
none_made mine None target e none = refl
none_made mine (Some kind) target e none = let f : Some mine ≡ None = sym e ∙ none in cc

-- and where none was made, no store took one
pub none_taken : (mine : Target) (kind : Option Kindly) (target : Option Target) → target ≡ option_map (λ _. mine) kind → kind ≡ None → target ≡ None
none_taken mine kind target e none = e ∙ ap (option_map (λ _. mine)) none
