-- A chain that goes on with one change more.
use Rattle.std.proofs.Common.{◌≡◌, ◌≢◌, ℕ, ◌+◌, ◌^◌, ◌<◌, ◌≤◌, inl, inr, List, [], ◌∷◌, length, Some, refl, sym, ap, subst, ◌∙◌, arith}
use Rattle.std.proofs.lemmas.Bool.{cases_eq}
use Rattle.byteorder.specs.Endian.{little_bytes}
use Rattle.kt_pool.specs.Contents.{Contents, Stands, at_cell, bytes_at, with_place, overwritten}
use Rattle.kt_pool.proofs.Callers.{at_same, at_other}
use Rattle.kt_tree.proofs.Places.{stands_inside, stands_some, one_same}
use Rattle.kt_memrowset.specs.declared.link.Head.{Head}
use Rattle.kt_memrowset.specs.Links.{nothing, Link, IsLink, HeadFits, CellsFit, spelling, Chains, chain, cells_of, times, newest, IsChainAt}
use Rattle.kt_memrowset.specs.Stores.{before_at, RowStands}
use Rattle.kt_memrowset.specs.Writes.{Keeps, LeadsOn, IsFresh, Extends}
use Rattle.kt_memrowset.proofs.Counting.{times_one, times_other}
use Rattle.kt_memrowset.proofs.Links.{link_bytes, link_head, length-spelling}
use Rattle.kt_memrowset.proofs.Chains.{link_kept, newest_in, newest_stands, with_next, with_last, grown_first, grown_rest, grown_chains, named_chains, grown_cells, grown_steps, grown_newest, grown_marked}
use Rattle.kt_memrowset.proofs.Trails.{leads_same}
use Rattle.kt_memrowset.proofs.Writing.{set_keeps}

pub leads_then : (a b c : Contents) (k : ℕ) → LeadsOn a b k → LeadsOn b c k → LeadsOn a c k
leads_then a b c k x y = record { long = y.long ∙ x.long; before = y.before ∙ x.before }

pub long_link : (pool : Contents) (l : Link) → IsLink pool l → 23 ≤ length (bytes_at pool l.cell)
long_link pool l s = let e = ap length (link_bytes pool l s) in let n = length-spelling l.head l.cells in omega arith

-- another number in the first fields of a change
module _ (old new : Contents) (at v : ℕ) (l m : Link) (s : IsLink old l) (cell : ℕ) (here : cell ≡ l.cell) (g : new ≡ with_place old cell (Some (overwritten at (little_bytes 4 v) (bytes_at old cell))) old.reserved) (low : at + 4 ≤ 23) (same_cell : m.cell ≡ l.cell) (same_before : m.head.before ≡ l.head.before) (over : overwritten at (little_bytes 4 v) (spelling l.head l.cells) ≡ spelling m.head m.cells) (fits : HeadFits m.head) (same_cells : m.cells ≡ l.cells) where
  there : Stands old cell
  there = subst (Stands old) (sym here) (stands_some old l.cell (spelling l.head l.cells) s.bytes)

  room : at + 4 ≤ length (bytes_at old cell)
  room = let n = long_link old l s in let e = ap (λ c. length (bytes_at old c)) here in omega arith

  pub put_bytes : at_cell new m.cell ≡ Some (spelling m.head m.cells)
  put_bytes =
      ap (at_cell new) (same_cell ∙ sym here) ∙ at_same old new cell (Some (overwritten at (little_bytes 4 v) (bytes_at old cell))) old.reserved g (stands_inside old cell there)
      ∙ ap (λ bytes. Some (overwritten at (little_bytes 4 v) bytes)) (ap (bytes_at old) here ∙ link_bytes old l s) ∙ ap (λ bytes. Some bytes) over

  pub put_link : IsLink new m
  put_link = record { inside = subst (λ c. c < nothing) (sym same_cell) s.inside; bytes = put_bytes; head = fits; cells = subst CellsFit (sym same_cells) s.cells }

  pub put_keeps : Keeps old new cell
  put_keeps = set_keeps old new cell at (little_bytes 4 v) g there room

  pub put_others : (k : ℕ) → k ≢ cell → at_cell new k ≡ at_cell old k
  put_others = at_other old new cell (Some (overwritten at (little_bytes 4 v) (bytes_at old cell))) old.reserved g

  pub put_leads : (k : ℕ) → LeadsOn old new k
  put_leads k = elim (cases_eq k cell) [
    | inr other ↦ leads_same old new k (put_others k other)
    | inl same ↦ subst (LeadsOn old new) (sym same) (record {
      long = put_keeps.long;
      before =
          ap (before_at new) (here ∙ sym same_cell) ∙ ap (λ (h : Head). h.before) (link_head new m put_link) ∙ same_before
          ∙ sym (ap (λ (h : Head). h.before) (link_head old l s)) ∙ ap (before_at old) (sym here);
    })
  ]

-- the first of a longer chain stands where the first of the chain stood
grown_cell : (v : ℕ) (l : Link) (links : List Link) → (grown_first v l links).cell ≡ l.cell
grown_cell v l [] = refl
grown_cell v l (m ∷ links) = refl

pub once_grown : (links : List ℕ) (cell k : ℕ) → times links cell ≡ 0 → times links k ≤ 1 → times links k + times (cell ∷ []) k ≤ 1
once_grown links cell k none once = elim (cases_eq cell k) [
  | inl same ↦ let a = times_one cell in let b = ap (times links) same in let c = ap (times (cell ∷ [])) same in omega arith
  | inr other ↦ let a = times_other cell k other in omega arith
]

module _ (p0 p1 p2 : Contents) (first last : ℕ) (fresh l : Link) (links : List Link) (row : RowStands p0 first (l ∷ links)) (alone : IsChainAt p0 first (l ∷ links)) (f : IsFresh p0 (l ∷ links) fresh) (is_last : last ≡ (newest l links).cell)
    (g1 : p1 ≡ with_place p0 last (Some (overwritten 0 (little_bytes 4 fresh.cell) (bytes_at p0 last))) p0.reserved)
    (g2 : p2 ≡ with_place p1 first (Some (overwritten 4 (little_bytes 4 fresh.cell) (bytes_at p1 first))) p1.reserved) where
  v : ℕ
  v = fresh.cell

  tail : Link
  tail = newest l links

  tail_stands : IsLink p0 (newest l links)
  tail_stands = newest_stands p0 first l links row.chains

  tail_fits : HeadFits (record (newest l links).head { next = fresh.cell })
  tail_fits = let h = tail_stands.head in let i = f.stands.inside in record { next = omega arith; last = h.last; before = h.before; ts = h.ts }

  bytes1 : at_cell p1 (newest l links).cell ≡ Some (spelling (with_next fresh.cell (newest l links)).head (newest l links).cells)
  bytes1 = put_bytes p0 p1 0 fresh.cell (newest l links) (with_next fresh.cell (newest l links)) tail_stands last is_last g1 (omega arith) refl refl refl tail_fits refl

  keeps1 : Keeps p0 p1 last
  keeps1 = put_keeps p0 p1 0 fresh.cell (newest l links) (with_next fresh.cell (newest l links)) tail_stands last is_last g1 (omega arith) refl refl refl tail_fits refl

  others1 : (k : ℕ) → k ≢ last → at_cell p1 k ≡ at_cell p0 k
  others1 = put_others p0 p1 0 fresh.cell (newest l links) (with_next fresh.cell (newest l links)) tail_stands last is_last g1 (omega arith) refl refl refl tail_fits refl

  leads1 : (k : ℕ) → LeadsOn p0 p1 k
  leads1 = put_leads p0 p1 0 fresh.cell (newest l links) (with_next fresh.cell (newest l links)) tail_stands last is_last g1 (omega arith) refl refl refl tail_fits refl

  fresh_other : fresh.cell ≢ last
  fresh_other e = let a = newest_in l links in let b = f.apart in let c = ap (times (cells_of (l ∷ links))) (e ∙ is_last) in absurd (omega arith)

  chain1 : Chains p1 first (grown_first fresh.cell l links ∷ grown_rest fresh.cell fresh links)
  chain1 = grown_chains p0 p1 first fresh.cell fresh l links row.chains alone.once bytes1 (λ k ne. others1 k (λ e. ne (e ∙ is_last))) (link_kept p0 p1 fresh (others1 fresh.cell fresh_other) f.stands) f.ends refl

  once1 : (k : ℕ) → times (cells_of (grown_first fresh.cell l links ∷ grown_rest fresh.cell fresh links)) k ≤ 1
  once1 k = let c = grown_cells fresh.cell fresh l links k in let o = once_grown (cells_of (l ∷ links)) fresh.cell k f.apart (alone.once k) in omega arith

  head1 : Link
  head1 = grown_first fresh.cell l links

  head_fits : HeadFits (record (grown_first fresh.cell l links).head { last = fresh.cell })
  head_fits = let h = chain1.1.head in let i = f.stands.inside in record { next = h.next; last = omega arith; before = h.before; ts = h.ts }

  bytes2 : at_cell p2 (grown_first fresh.cell l links).cell ≡ Some (spelling (with_last fresh.cell (grown_first fresh.cell l links)).head (grown_first fresh.cell l links).cells)
  bytes2 = put_bytes p1 p2 4 fresh.cell (grown_first fresh.cell l links) (with_last fresh.cell (grown_first fresh.cell l links)) chain1.1 first chain1.0 g2 (omega arith) refl refl refl head_fits refl

  keeps2 : Keeps p1 p2 first
  keeps2 = put_keeps p1 p2 4 fresh.cell (grown_first fresh.cell l links) (with_last fresh.cell (grown_first fresh.cell l links)) chain1.1 first chain1.0 g2 (omega arith) refl refl refl head_fits refl

  others2 : (k : ℕ) → k ≢ first → at_cell p2 k ≡ at_cell p1 k
  others2 = put_others p1 p2 4 fresh.cell (grown_first fresh.cell l links) (with_last fresh.cell (grown_first fresh.cell l links)) chain1.1 first chain1.0 g2 (omega arith) refl refl refl head_fits refl

  leads2 : (k : ℕ) → LeadsOn p1 p2 k
  leads2 = put_leads p1 p2 4 fresh.cell (grown_first fresh.cell l links) (with_last fresh.cell (grown_first fresh.cell l links)) chain1.1 first chain1.0 g2 (omega arith) refl refl refl head_fits refl

  small : fresh.cell < 2 ^ 32
  small = let i = f.stands.inside in omega arith

  pub extended : Extends p0 p2 first (l ∷ links) fresh
  extended = record {
    longer = with_last fresh.cell (grown_first fresh.cell l links) ∷ grown_rest fresh.cell fresh links;
    stands = named_chains p1 p2 first fresh.cell (grown_first fresh.cell l links) (grown_rest fresh.cell fresh links) chain1 once1 bytes2 (λ k ne. others2 k (λ e. ne (e ∙ chain1.0))) small;
    marked = grown_marked fresh.cell fresh (grown_first fresh.cell l links) links refl;
    kind = ap (λ (x : Link). x.head.kind) (grown_newest fresh.cell fresh (with_last fresh.cell (grown_first fresh.cell l links)) links);
    steps = grown_steps fresh.cell fresh l links;
    cells = grown_cells fresh.cell fresh l links;
    leads = λ k. leads_then p0 p1 p2 k (leads1 k) (leads2 k);
    others = λ k none. others2 k (λ e. let a = one_same l.cell k (sym row.chains.0 ∙ sym e) in absurd (omega arith)) ∙ others1 k (λ e. let a = newest_in l links in let b = ap (times (cells_of (l ∷ links))) (e ∙ is_last) in absurd (omega arith));
    size = keeps2.size ∙ keeps1.size;
    reserved = keeps2.reserved ∙ keeps1.reserved;
    used = keeps2.used ∙ keeps1.used;
  }

  pub first_room : Stands p1 first × (8 ≤ length (bytes_at p1 first))
  first_room =
      let s = subst (Stands p1) (sym chain1.0) (stands_some p1 (grown_first fresh.cell l links).cell (spelling (grown_first fresh.cell l links).head (grown_first fresh.cell l links).cells) chain1.1.bytes) in
      let n = long_link p1 (grown_first fresh.cell l links) chain1.1 in
      let e = ap (λ c. length (bytes_at p1 c)) chain1.0 in
      (s, omega arith)

-- ---- the same of the chain that the pool spells

abbrev pub EndsAt : Contents → ℕ → ℕ → Type 0
EndsAt pool first last = (l : Link) (links : List Link) → chain pool first ≡ l ∷ links → last ≡ (newest l links).cell

last_room_of : (p0 : Contents) (first last : ℕ) (links : List Link) → chain p0 first ≡ links → RowStands p0 first links → EndsAt p0 first last → Stands p0 last × (4 ≤ length (bytes_at p0 last))
last_room_of p0 first last [] e row ends = absurd row.marked
last_room_of p0 first last (l ∷ links) e row ends =
    let t = newest_stands p0 first l links row.chains in
    let is = ends l links e in
    let n = long_link p0 (newest l links) t in
    let b = ap (λ c. length (bytes_at p0 c)) is in
    (subst (Stands p0) (sym is) (stands_some p0 (newest l links).cell (spelling (newest l links).head (newest l links).cells) t.bytes), omega arith)

pub last_room : (p0 : Contents) (first last : ℕ) → RowStands p0 first (chain p0 first) → EndsAt p0 first last → Stands p0 last × (4 ≤ length (bytes_at p0 last))
last_room p0 first last row ends = last_room_of p0 first last (chain p0 first) refl row ends

module _ (p0 p1 : Contents) (first last : ℕ) (fresh : Link) (ends : EndsAt p0 first last) (g1 : p1 ≡ with_place p0 last (Some (overwritten 0 (little_bytes 4 fresh.cell) (bytes_at p0 last))) p0.reserved) where
  head_room_of : (p2 : Contents) (g2 : p2 ≡ with_place p1 first (Some (overwritten 4 (little_bytes 4 fresh.cell) (bytes_at p1 first))) p1.reserved) (links : List Link) → chain p0 first ≡ links → RowStands p0 first links → IsChainAt p0 first links → IsFresh p0 links fresh → Stands p1 first × (8 ≤ length (bytes_at p1 first))
  head_room_of p2 g2 [] e row alone f = absurd row.marked
  head_room_of p2 g2 (l ∷ links) e row alone f = first_room p0 p1 p2 first last fresh l links row alone f (ends l links e) g1 g2

  pub head_room : RowStands p0 first (chain p0 first) → IsChainAt p0 first (chain p0 first) → IsFresh p0 (chain p0 first) fresh → Stands p1 first × (8 ≤ length (bytes_at p1 first))
  head_room row alone f = head_room_of (with_place p1 first (Some (overwritten 4 (little_bytes 4 fresh.cell) (bytes_at p1 first))) p1.reserved) refl (chain p0 first) refl row alone f

  module _ (p2 : Contents) (g2 : p2 ≡ with_place p1 first (Some (overwritten 4 (little_bytes 4 fresh.cell) (bytes_at p1 first))) p1.reserved) where
    extended_of : (links : List Link) → chain p0 first ≡ links → RowStands p0 first links → IsChainAt p0 first links → IsFresh p0 links fresh → Extends p0 p2 first links fresh
    extended_of [] e row alone f = absurd row.marked
    extended_of (l ∷ links) e row alone f = extended p0 p1 p2 first last fresh l links row alone f (ends l links e) g1 g2

    pub chain_extended : RowStands p0 first (chain p0 first) → IsChainAt p0 first (chain p0 first) → IsFresh p0 (chain p0 first) fresh → Extends p0 p2 first (chain p0 first) fresh
    chain_extended row alone f = extended_of (chain p0 first) refl row alone f
