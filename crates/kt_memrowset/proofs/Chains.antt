-- Chains of changes.
use Rattle.std.proofs.Common.{◌≡◌, ◌≢◌, ℕ, zero, suc, ◌+◌, ◌^◌, ◌<◌, ◌≤◌, inl, inr, true, false, cond, List, [], ◌∷◌, ◌++◌, length, Some, refl, sym, ap, subst, ◌∙◌, arith}
use Rattle.std.specs.Prelude.{◌==◌}
use Rattle.std.proofs.lemmas.Bool.{cases_eq}
use Rattle.std.proofs.lemmas.Bool.Decides.{nat_tests}
use Rattle.std.proofs.lemmas.List.{length-map}
use Rattle.kt_pool.specs.Contents.{Contents, Stands, at_cell}
use Rattle.kt_tree.proofs.Places.{stands_inside, stands_some, one_same, one_other}
use Rattle.kt_memrowset.specs.Links.{nothing, Link, IsLink, spelling, link_at, Chains, chain_at, chain, cells_of, times, newest, IsMarked, step_of, steps_of}
use Rattle.kt_memrowset.proofs.Counting.{times_first, few}
use Rattle.kt_memrowset.proofs.Links.{link_again}

-- ---- chains whose places have not changed

pub link_kept : (old new : Contents) (l : Link) → at_cell new l.cell ≡ at_cell old l.cell → IsLink old l → IsLink new l
link_kept old new l e s = record { inside = s.inside; bytes = e ∙ s.bytes; head = s.head; cells = s.cells }

pub chain_kept : (old new : Contents) (cell : ℕ) (links : List Link) → Chains old cell links → ((k : ℕ) → 0 < times (cells_of links) k → at_cell new k ≡ at_cell old k) → Chains new cell links
chain_kept old new cell [] h same = h
chain_kept old new cell (l ∷ links) h same =
    let f = times_first l.cell (cells_of links) in (
      h.0,
      link_kept old new l (same l.cell (omega arith)) h.1,
      chain_kept old new l.head.next links h.2 (λ k low. same k (omega arith)),
    )

pub chain_stands : (pool : Contents) (cell : ℕ) (links : List Link) (k : ℕ) → Chains pool cell links → 0 < times (cells_of links) k → Stands pool k
chain_stands pool cell [] k h low = absurd (omega arith)
chain_stands pool cell (l ∷ links) k h low = elim (cases_eq l.cell k) [
  | inl same ↦ subst (Stands pool) same (stands_some pool l.cell (spelling l.head l.cells) h.1.bytes)
  | inr other ↦ let e = one_other l.cell k other in chain_stands pool l.head.next links k h.2 (omega arith)
]

-- ---- the chain that the pool spells

chain_step : (pool : Contents) (n cell : ℕ) (l : Link) → cell ≢ nothing → link_at pool cell ≡ l → chain_at pool (suc n) cell ≡ l ∷ chain_at pool n l.head.next
chain_step pool n cell l ne e =
    let test : (cell == nothing) ≡ false = grind (arith, nat_tests) in
    ap (λ b. cond b [] (link_at pool cell ∷ chain_at pool n (link_at pool cell).head.next)) test ∙ ap (λ (l : Link). l ∷ chain_at pool n l.head.next) e

chain_end : (pool : Contents) (n cell : ℕ) → cell ≡ nothing → chain_at pool (suc n) cell ≡ []
chain_end pool n cell e =
    let test : (cell == nothing) ≡ true = grind (arith, nat_tests) in
    ap (λ b. cond b [] (link_at pool cell ∷ chain_at pool n (link_at pool cell).head.next)) test

chain_spelled : (pool : Contents) (n cell : ℕ) (links : List Link) → Chains pool cell links → length links ≤ n → chain_at pool n cell ≡ links
chain_spelled pool zero cell [] h low = refl
chain_spelled pool (suc n) cell [] h low = chain_end pool n cell h
chain_spelled pool zero cell (l ∷ links) h low = absurd (omega arith)
chain_spelled pool (suc n) cell (l ∷ links) h low =
    let i = h.1.inside in let c = h.0 in
    chain_step pool n cell l (omega arith) (ap (link_at pool) c ∙ link_again pool l h.1)
    ∙ ap (λ (ls : List Link). l ∷ ls) (chain_spelled pool n l.head.next links h.2 (omega arith))

pub chain_small : (pool : Contents) (cell : ℕ) (links : List Link) → Chains pool cell links → ((k : ℕ) → times (cells_of links) k ≤ 1) → length links ≤ length pool.places
chain_small pool cell links h once =
    let e : length (cells_of links) ≡ length links = length-map links (λ (l : Link). l.cell) in
    let f = few (cells_of links) (length pool.places) once (λ k low. stands_inside pool k (chain_stands pool cell links k h low)) in
    omega arith

pub chain_is : (pool : Contents) (cell : ℕ) (links : List Link) → Chains pool cell links → ((k : ℕ) → times (cells_of links) k ≤ 1) → chain pool cell ≡ links
chain_is pool cell links h once = chain_spelled pool (length pool.places) cell links h (chain_small pool cell links h once)

-- ---- one change more

abbrev pub with_next : ℕ → Link → Link
with_next v l = record { cell = l.cell; head = record l.head { next = v }; cells = l.cells }

abbrev pub with_last : ℕ → Link → Link
with_last v l = record { cell = l.cell; head = record l.head { last = v }; cells = l.cells }

-- the first change of the longer chain, and those behind it
abbrev pub grown_first : ℕ → Link → List Link → Link
grown_first v l [] = with_next v l
grown_first v l (m ∷ links) = l

abbrev pub grown_rest : ℕ → Link → List Link → List Link
grown_rest v fresh [] = fresh ∷ []
grown_rest v fresh (m ∷ links) = grown_first v m links ∷ grown_rest v fresh links

pub newest_in : (l : Link) (links : List Link) → 1 ≤ times (cells_of (l ∷ links)) (newest l links).cell
newest_in l [] = times_first l.cell []
newest_in l (m ∷ links) = let e = newest_in m links in omega arith

pub newest_stands : (pool : Contents) (cell : ℕ) (l : Link) (links : List Link) → Chains pool cell (l ∷ links) → IsLink pool (newest l links)
newest_stands pool cell l [] h = h.1
newest_stands pool cell l (m ∷ links) h = newest_stands pool l.head.next m links h.2

-- the last change goes on to a new one
pub grown_chains : (old new : Contents) (cell v : ℕ) (fresh l : Link) (links : List Link) → Chains old cell (l ∷ links) → ((k : ℕ) → times (cells_of (l ∷ links)) k ≤ 1) → at_cell new (newest l links).cell ≡ Some (spelling (with_next v (newest l links)).head (newest l links).cells) → ((k : ℕ) → k ≢ (newest l links).cell → at_cell new k ≡ at_cell old k)
    → IsLink new fresh → fresh.head.next ≡ nothing → v ≡ fresh.cell → Chains new cell (grown_first v l links ∷ grown_rest v fresh links)
grown_chains old new cell v fresh l [] h once changed others s ends is =
    let f = h.1.head in let i = s.inside in (
      h.0,
      record { inside = h.1.inside; bytes = changed; head = record { next = omega arith; last = f.last; before = f.before; ts = f.ts }; cells = h.1.cells },
      (is, s, ends),
    )
grown_chains old new cell v fresh l (m ∷ links) h once changed others s ends is =
    let ne : l.cell ≢ (newest m links).cell = λ e. let a = newest_in m links in let b = one_same l.cell (newest m links).cell e in let o = once (newest m links).cell in absurd (omega arith) in (
      h.0,
      link_kept old new l (others l.cell ne) h.1,
      grown_chains old new l.head.next v fresh m links h.2 (λ k. let o = once k in omega arith) changed others s ends is,
    )

-- the first change names another last one
pub named_chains : (old new : Contents) (cell v : ℕ) (l : Link) (links : List Link) → Chains old cell (l ∷ links) → ((k : ℕ) → times (cells_of (l ∷ links)) k ≤ 1) → at_cell new l.cell ≡ Some (spelling (with_last v l).head l.cells) → ((k : ℕ) → k ≢ l.cell → at_cell new k ≡ at_cell old k) → v < 2 ^ 32
    → Chains new cell (with_last v l ∷ links)
named_chains old new cell v l links h once changed others small =
    let f = h.1.head in (
      h.0,
      record { inside = h.1.inside; bytes = changed; head = record { next = f.next; last = small; before = f.before; ts = f.ts }; cells = h.1.cells },
      chain_kept old new l.head.next links h.2 (λ k low. others k (λ e. let a = one_same l.cell k (sym e) in let o = once k in absurd (omega arith))),
    )

pub grown_cells : (v : ℕ) (fresh l : Link) (links : List Link) (k : ℕ) → times (cells_of (grown_first v l links ∷ grown_rest v fresh links)) k ≡ times (cells_of (l ∷ links)) k + times (fresh.cell ∷ []) k
grown_cells v fresh l [] k = omega arith
grown_cells v fresh l (m ∷ links) k = let e = grown_cells v fresh m links k in omega arith

pub grown_steps : (v : ℕ) (fresh l : Link) (links : List Link) → steps_of (grown_first v l links ∷ grown_rest v fresh links) ≡ steps_of (l ∷ links) ++ step_of fresh ∷ []
grown_steps v fresh l [] = refl
grown_steps v fresh l (m ∷ links) = ap (λ xs. step_of l ∷ xs) (grown_steps v fresh m links)

pub grown_newest : (v : ℕ) (fresh l : Link) (links : List Link) → newest l (grown_rest v fresh links) ≡ fresh
grown_newest v fresh l [] = refl
grown_newest v fresh l (m ∷ links) = grown_newest v fresh (grown_first v m links) links

pub grown_marked : (v : ℕ) (fresh l : Link) (links : List Link) → v ≡ fresh.cell → IsMarked (with_last v l ∷ grown_rest v fresh links)
grown_marked v fresh l [] e = e
grown_marked v fresh l (m ∷ links) e = e ∙ sym (ap (λ (x : Link). x.cell) (grown_newest v fresh (grown_first v m links) links))
