-- A flush changes over.
use Rattle.std.proofs.Common.{◌≡◌, ◌≤◌, ◌<◌, ℕ, Bool, true, List, [], ◌∷◌, ◌++◌, map, Some, None, refl, sym, ap, ◌∙◌, subst, cond}
use Rattle.std.specs.Prelude.{nat_lt}
use Rattle.std.proofs.lemmas.Bool.{lt-ltb, ltb-false, ltb-true}
use Rattle.std.proofs.lemmas.List.{append-nil}
use Rattle.kt_history.specs.Stores.{Hist, never}
use Rattle.kt_histlaws.specs.Jobs.{AreAlike}
use Rattle.kt_records.specs.declared.entry.Entry.{Entry}
use Rattle.kt_rowfiles.specs.Files.{DiskRowset, hist_in_files}
use Rattle.kt_content.specs.Rules.{Rules}
use Rattle.kt_content.specs.Places.{Super, Place, memory, disk, in_files}
use Rattle.kt_content.specs.InMemory.{mem_rows, Stores, is_at, group, hist_at}
use Rattle.kt_content.specs.Recoverable.{Resident, SuperStands}
use Rattle.kt_content.specs.Keeping.{with_stores}
use Rattle.kt_content.specs.Flushes.{flushed, Flushes}
use Rattle.kt_content.proofs.Flushes.{flush_stands}
use Rattle.kt_content.proofs.Lending.{alike_itself}
use Rattle.kt_content.proofs.StoresCome.{others_keep}
use Rattle.kt_joblaws.specs.ChangesOver.{hists_of, in_memory, before_flush, after_flush, FlushesOver, a_flush_changes_over}
use Rattle.kt_joblaws.proofs.Groups.{group-append, all_named, frozen_memory, frozen_disk, frozen_none, older_memory, older_above, older_same, outputs_none, outputs_memory, outputs_below, outputs_stand}

-- a store that has nothing shows nothing
never_front : (j : ℕ) (xs ys : List Hist) → AreAlike j xs ys → AreAlike j (never ∷ xs) ys
never_front j xs ys h = record { rows = h.rows; steps = h.steps; one_row = h.one_row; one_step = h.one_step }

module _ (rules : Rules) (old : Super) (a c need last_mem next active j : ℕ) (outputs : List DiskRowset) (records : List Entry) (frozen others : List ℕ → Stores) (f : FlushesOver rules old a last_mem next active outputs records frozen others j) where
  abbrev new : Super
  new = flushed old a c need last_mem outputs

  -- both sides at once: the frozen MemRowSets, the others and the outputs
  abbrev beside : List ℕ → Stores
  beside q = (mem_rows active, never) ∷ frozen q ++ (others q ++ in_memory q outputs)

  -- the store that takes inserts is in a group, or is not
  abbrev with_first : Super → Place → List Hist → List Hist
  with_first super p hs = cond (is_at p (cond (nat_lt super.last_mem active) (Some memory) None)) (never ∷ hs) hs

  three : (super : Super) (p : Place) (xs ys zs : Stores) → group super p (xs ++ (ys ++ zs)) ≡ group super p xs ++ (group super p ys ++ group super p zs)
  three super p xs ys zs = group-append super p xs (ys ++ zs) ∙ ap (λ (l : List Hist). group super p xs ++ l) (group-append super p ys zs)

  -- a group of all, told by the groups of its parts
  parts : (super : Super) (p : Place) (xs ys zs : Stores) (gx gy gz : List Hist) → group super p xs ≡ gx → group super p ys ≡ gy → group super p zs ≡ gz
      → group super p ((mem_rows active, never) ∷ xs ++ (ys ++ zs)) ≡ with_first super p (gx ++ (gy ++ gz))
  parts super p xs ys zs gx gy gz ex ey ez =
      ap (with_first super p)
      (three super p xs ys zs ∙ ap (λ (l : List Hist). l ++ (group super p ys ++ group super p zs)) ex ∙ ap (λ (l : List Hist). gx ++ (l ++ group super p zs)) ey ∙ ap (λ (l : List Hist). gx ++ (gy ++ l)) ez)

  -- and of two
  pair : (super : Super) (p : Place) (xs ys : Stores) (gx gy : List Hist) → group super p xs ≡ gx → group super p ys ≡ gy → group super p ((mem_rows active, never) ∷ xs ++ ys) ≡ with_first super p (gx ++ gy)
  pair super p xs ys gx gy ex ey = ap (with_first super p) (group-append super p xs ys ∙ ap (λ (l : List Hist). l ++ group super p ys) ex ∙ ap (λ (l : List Hist). gx ++ l) ey)

  first_old : nat_lt old.last_mem active ≡ true
  first_old = lt-ltb old.last_mem active f.later.0

  first_new : nat_lt last_mem active ≡ true
  first_new = lt-ltb last_mem active f.later.1

  first_memory : (super : Super) (hs : List Hist) → nat_lt super.last_mem active ≡ true → with_first super memory hs ≡ never ∷ hs
  first_memory super hs e = ap (λ (b : Bool). cond (is_at memory (cond b (Some memory) None)) (never ∷ hs) hs) e

  first_disk : (super : Super) (r : ℕ) (hs : List Hist) → nat_lt super.last_mem active ≡ true → with_first super (disk r) hs ≡ hs
  first_disk super r hs e = ap (λ (b : Bool). cond (is_at (disk r) (cond b (Some memory) None)) (never ∷ hs) hs) e

  -- ---- what the old superblock sees of both sides

  old_same : (q : List ℕ) (p : Place) → group old p (beside q) ≡ group old p (before_flush active (frozen q) (others q))
  old_same q p =
      parts old p (frozen q) (others q) (in_memory q outputs) (group old p (frozen q)) (group old p (others q)) [] refl refl (outputs_none old next last_mem p q outputs f.rowsets f.outputs_from)
      ∙ ap (λ (l : List Hist). with_first old p (group old p (frozen q) ++ l)) (append-nil (group old p (others q)))
      ∙ sym (pair old p (frozen q) (others q) (group old p (frozen q)) (group old p (others q)) refl refl)

  -- ---- what the new one sees of them

  new_same : (q : List ℕ) (p : Place) → group new p (after_flush active q outputs (others q)) ≡ group new p (beside q)
  new_same q p =
      pair new p (others q) (in_memory q outputs) (group new p (others q)) (group new p (in_memory q outputs)) refl refl
      ∙ sym (parts new p (frozen q) (others q) (in_memory q outputs) [] (group new p (others q)) (group new p (in_memory q outputs)) (frozen_none new old.last_mem p (frozen q) (f.taken q)) refl refl)

  inputs : (q : List ℕ) → group old memory (beside q) ≡ never ∷ hists_of (frozen q)
  inputs q =
      parts old memory (frozen q) (others q) (in_memory q outputs) (hists_of (frozen q)) [] [] (frozen_memory old last_mem (frozen q) (f.taken q)) (older_memory old next (others q) (f.left q)) (outputs_memory old q outputs)
      ∙ first_memory old (hists_of (frozen q) ++ []) first_old ∙ ap (λ (l : List Hist). never ∷ l) (append-nil (hists_of (frozen q)))

  nothing : (q : List ℕ) → group new memory (beside q) ≡ never ∷ []
  nothing q =
      parts new memory (frozen q) (others q) (in_memory q outputs) [] [] [] (frozen_none new old.last_mem memory (frozen q) (f.taken q)) (older_memory new next (others q) (f.left q)) (outputs_memory new q outputs)
      ∙ first_memory new [] first_new

  own : (q : List ℕ) (r : ℕ) → next ≤ r → group new (disk r) (beside q) ≡ group new (disk r) (in_memory q outputs)
  own q r up =
      parts new (disk r) (frozen q) (others q) (in_memory q outputs) [] [] (group new (disk r) (in_memory q outputs)) (frozen_none new old.last_mem (disk r) (frozen q) (f.taken q)) (older_above new next r (others q) (f.left q) up) refl
      ∙ first_disk new r (group new (disk r) (in_memory q outputs)) first_new

  rest : (q : List ℕ) (r : ℕ) → r < next → group new (disk r) (beside q) ≡ group old (disk r) (beside q)
  rest q r lt =
      parts new (disk r) (frozen q) (others q) (in_memory q outputs) [] (group old (disk r) (others q)) [] (frozen_none new old.last_mem (disk r) (frozen q) (f.taken q))
      (older_same old a c need last_mem next outputs r (others q) f.outputs_from (f.left q)) (outputs_below new next r q outputs f.outputs_from lt)
      ∙ first_disk new r (group old (disk r) (others q) ++ []) first_new
      ∙ sym (parts old (disk r) (frozen q) (others q) (in_memory q outputs) [] (group old (disk r) (others q)) [] (frozen_disk old old.last_mem last_mem r (frozen q) (f.taken q)) refl (outputs_none old next last_mem (disk r) q outputs f.rowsets f.outputs_from)
      ∙ first_disk old r (group old (disk r) (others q) ++ []) first_old)

  pub flushes : Flushes rules old a c need last_mem next outputs records beside j
  flushes = record {
    old_differ = f.old_differ;
    new_differ = f.new_differ;
    rowsets = f.rowsets;
    outputs_from = f.outputs_from;
    names = f.names;
    told = f.told;
    old_pass = f.old_pass;
    new_pass = f.new_pass;
    alike = λ q. subst (λ (l : List Hist). AreAlike j l (map (hist_in_files q) outputs)) (sym (inputs q)) (never_front j (hists_of (frozen q)) (map (hist_in_files q) outputs) (f.alike q));
    sound = f.sound;
    active = λ q. subst (λ (l : List Hist). AreAlike a l (never ∷ [])) (sym (nothing q)) (alike_itself a never);
    outs = λ q r up. subst (λ (l : List Hist). AreAlike a l (hist_at (disk r) (in_files q outputs) ∷ [])) (sym (own q r (ltb-false r next up)))
        (outputs_stand new a r q outputs (all_named old.rowsets outputs) f.new_differ);
    others = λ q r lt. rest q r (ltb-true r next lt);
  }

pub changes_over : a_flush_changes_over
changes_over rules fill old a c need last_mem next active outputs durable high j past live frozen others names numbers log stands calm stores f lends up old_fresh new_fresh =
    let records = durable ++ [] in
    let both : List ℕ → Stores = beside rules old a c need last_mem next active j outputs records frozen others f in
    let there : Resident = with_stores both names numbers live in
    let one : SuperStands rules fill old durable [] past there = others_keep rules fill old durable [] past live both names numbers stands
    (λ q p. old_same rules old a c need last_mem next active j outputs records frozen others f q p ∙ ap (group old p) (sym (stores q))) old_fresh in
    let two = flush_stands rules fill old a c need last_mem next outputs durable high j past there log one calm (flushes rules old a c need last_mem next active j outputs records frozen others f) lends up new_fresh in
    others_keep rules fill (flushed old a c need last_mem outputs) durable [] past there (λ q. after_flush active q outputs (others q)) names numbers two
    (λ q p. new_same rules old a c need last_mem next active j outputs records frozen others f q p) new_fresh
