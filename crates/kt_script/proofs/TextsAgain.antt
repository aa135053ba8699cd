-- What a text says is printed as that text but for the order of names, and each order of them says it.
use Rattle.std.proofs.Common.{◌≡◌, ℕ, suc, ◌+◌, ◌≤◌, Bool, true, false, not, List, [], ◌∷◌, ◌++◌, length, drop, Option, Some, None, min, refl, sym, ap, subst, ◌∙◌, arith, append_assoc, length-append, eq-eqb}
use mathlib.Core.List.{append-nil}
use Rattle.std.specs.Prelude.{◌≢◌, if◌then◌else◌, ◌&&◌, ◌==◌, nat_lt, codes}
use Rattle.std.specs.Fmt.{decimal}
use Rattle.std.specs.List.{flat_map, list_any, onto_first, AllByRecursion}
use Rattle.std.proofs.lemmas.Bool.{false≢true}
use Rattle.std.proofs.lemmas.Bool.Decides.{nat_tests}
use Rattle.std.proofs.lemmas.Grind.{flat_map-append}
use Rattle.kt_base.specs.Literals.{same}
use Rattle.kt_base.proofs.Decimals.{same_text}
use Rattle.kt_schema.specs.Names.{is_name}
use Rattle.kt_schema.specs.declared.column.Column.{Column}
use Rattle.kt_history.specs.declared.operation.OpKind.{OpKind}
use Rattle.kt_history.specs.declared.command.Command.{Command}
use Rattle.kt_history.specs.declared.command.Command.TheVariants as command
use Rattle.kt_script.specs.declared.forms.OpForm.{OpForm}
use Rattle.kt_script.specs.declared.forms.OpForm.TheVariants as form
use Rattle.kt_script.specs.declared.word.Side.TheVariants.{Outside}
use Rattle.kt_script.specs.Pieces.{cut, words_of}
use Rattle.kt_script.specs.Reasons.{sound, reason_if}
use Rattle.kt_script.specs.Texts.{line, words}
use Rattle.kt_script.specs.Columns.{column_line, kind_of, of_kind, begins_column, said_no, column_no, columns_with, IsTable}
use Rattle.kt_script.specs.Writes.{op_kind, op_form, ops_of, first_op, later_ops, write_no, write_of}
use Rattle.kt_script.specs.declared.leads.Word.{Word}
use Rattle.kt_script.specs.declared.leads.Word.TheVariants as word
use Rattle.kt_script.specs.declared.leads.Lead.{Lead}
use Rattle.kt_script.specs.declared.leads.Lead.TheVariants as lead
use Rattle.kt_script.specs.Leads.{chore_word, lead_word, lead_in, alone_no}
use Rattle.kt_script.specs.Times.{time_no}
use Rattle.kt_script.specs.Loads.{load_no, load_size, load_plan, load_number}
use Rattle.kt_script.specs.Scripts.{Above, start, head, body, load, session_no, full_no, command_no, command_of, in_session_no, led_no, led_after, body_no, body_after, first_lead, push_last, is_begun, most_bytes, line_no, rest_no, after, Fault, fault_if, fault_from, above_end, Said, said, load_in, load_of}
use Rattle.kt_script.specs.Print.{column_text, command_text, session_lines, write_words, script_text}
use Rattle.kt_script.specs.Alike.{is_write, behind_alike, kind_alike, op_alike, ops_alike, alike_as, line_alike, lines_alike, alike, texts_are_printed, alike_texts_are_read, texts_are_one, texts_are_read_again}
use Rattle.kt_script.proofs.Cuts.{Without, some_piece, cut_lines}
use Rattle.kt_script.proofs.Pieces.{some_word}
use Rattle.kt_script.proofs.OpWords.{ops_split}
use Rattle.kt_script.proofs.FirstWords.{lead_is}
use Rattle.kt_script.proofs.Spelling.{FitsAbove, after_kept, no_fault, script_is, is_script}
use Rattle.kt_script.proofs.AgainColumns.{rejoined, column_again}
use Rattle.kt_script.proofs.AgainScans.{scan_again, mark_again}
use Rattle.kt_script.proofs.ByName.{size}
use Rattle.kt_script.proofs.WriteLaws.{write_again, write_moved, write_size}
use Rattle.kt_script.proofs.TimeWords.{not_late}
use Rattle.kt_script.proofs.Loads.{load_line, size_in}

-- what is printed of what stands above a line
abbrev printed : Above → List ℕ
printed start = []
printed (head columns) = script_text None (record { columns = columns; plan = [] })
printed (body columns plan) = script_text None (record { columns = columns; plan = plan })
printed (load columns n) = script_text (Some n) (record { columns = columns; plan = load_plan n })

-- ---- the first line and columns

-- a column line is no write
column_is_other : (columns : List Column) (text : List ℕ) → sound ≤ column_no columns text → is_write (first_lead (words_of text)) ≡ false
column_is_other columns text h = by (words_of text) refl
  where
    none : (words : List (List ℕ)) → words_of text ≡ words → column_line words ≡ None → ⊥
    none words is g = let no : said_no columns (column_line (words_of text)) ≡ 4 = ap (λ ws. said_no columns (column_line ws)) is ∙ ap (said_no columns) g in omega (arith, h, no)

    from : (w v u : List ℕ) (ws : List (List ℕ)) → words_of text ≡ w ∷ v ∷ u ∷ ws → (b : Bool) → same w (codes "column") ≡ b → is_write (lead_in w) ≡ false
    from w v u ws is true t = ap (λ x. is_write (lead_in x)) (same_text w (codes "column") t)
    from w v u ws is false t = absurd (none (w ∷ v ∷ u ∷ ws) is (ap (λ b. if b then of_kind v (kind_of u) ws else None) (ap (λ x. x && is_name v) t)))

    by : (words : List (List ℕ)) → words_of text ≡ words → is_write (first_lead words) ≡ false
    by [] is = refl
    by (w ∷ []) is = absurd (none (w ∷ []) is refl)
    by (w ∷ v ∷ []) is = absurd (none (w ∷ v ∷ []) is refl)
    by (w ∷ v ∷ u ∷ ws) is = from w v u ws is (same w (codes "column")) refl

put_in : (a b x : List ℕ) → a ++ ((b ++ x) ++ []) ≡ (a ++ (b ++ [])) ++ x
put_in a b x = simp (append-nil, append_assoc)

column_goes_on : (columns : List Column) (text : List ℕ) → sound ≤ column_no columns text → script_text None (record { columns = columns_with columns text; plan = [] }) ≡ script_text None (record { columns = columns; plan = [] }) ++ line text
column_goes_on columns text h =
    let one = column_again columns text h in
    let c = one.0 in
    let added : flat_map column_text (columns ++ c ∷ []) ≡ flat_map column_text columns ++ column_text c = rw (flat_map-append column_text columns (c ∷ [])) (simp (append-nil)) in
    let all : script_text None (record { columns = columns ++ c ∷ []; plan = [] }) ≡ script_text None (record { columns = columns; plan = [] }) ++ column_text c = ap (λ x. line (codes "table") ++ (x ++ [])) added ∙ put_in (line (codes "table")) (flat_map column_text columns) (column_text c) in
    ap (λ cs. script_text None (record { columns = cs; plan = [] })) one.1 ∙ (all ∙ ap (λ x. script_text None (record { columns = columns; plan = [] }) ++ line x) (sym one.2))

-- what is printed of a line, behind what was printed above it
record LineAgain (columns : List Column) (text now so_far : List ℕ) : Type 0 where
  shown : List ℕ
  printed : now ≡ so_far ++ line shown
  alike : line_alike columns text shown
  inside : Without 10 shown

-- ---- bytes of lines and words

onto_without : (byte b : ℕ) (ps : List (List ℕ)) → b ≢ byte → AllByRecursion (Without byte) ps → AllByRecursion (Without byte) (onto_first b ps)
onto_without byte b [] h all = ((h, tt), tt)
onto_without byte b (p ∷ ps) h all = ((h, all.0), all.1)

cut_without : (byte : ℕ) (l : List ℕ) → AllByRecursion (Without byte) (cut byte l)
cut_without byte [] = (tt, tt)
cut_without byte (b ∷ l) = by (b == byte) refl (cut_without byte l)
  where
    by : (t : Bool) → (b == byte) ≡ t → AllByRecursion (Without byte) (cut byte l) → AllByRecursion (Without byte) (if t then [] ∷ cut byte l else onto_first b (cut byte l))
    by true e more = (tt, more)
    by false e more = onto_without byte b (cut byte l) (λ q. false≢true (sym e ∙ eq-eqb b byte q)) more

-- ---- lines that are alike

-- a write begins with the same word
first_alike : (columns : List Column) (ws vs : List (List ℕ)) → is_write (first_lead ws) ≡ true → ops_alike columns (ops_of ws) (ops_of vs) → first_lead vs ≡ first_lead ws
first_alike columns [] vs first e = absurd (false≢true first)
first_alike columns (w ∷ ws) vs first e = by (same w (codes ";")) refl (subst (λ os. ops_alike columns os (first_op vs ∷ later_ops vs)) (ops_split (w ∷ ws)) (subst (ops_alike columns (ops_of (w ∷ ws))) (ops_split vs) e)).0
  where
    of : (xs : List (List ℕ)) → op_alike columns (w ∷ first_op ws) (first_op xs) → first_lead xs ≡ lead_in w
    of [] q = absurd q
    of (x ∷ xs) q = sign (same x (codes ";")) q
      where
        sign : (t : Bool) → op_alike columns (w ∷ first_op ws) (if t then [] else x ∷ first_op xs) → lead_in x ≡ lead_in w
        sign true p = absurd p
        sign false p = ap lead_in (sym p.0)

    by : (t : Bool) → same w (codes ";") ≡ t → op_alike columns (if t then [] else w ∷ first_op ws) (first_op vs) → first_lead vs ≡ lead_in w
    by true s g = absurd (false≢true (sym (ap (λ x. is_write (lead_in x)) (same_text w (codes ";") s)) ∙ first))
    by false s g = of vs g

behind_joined : (columns : List Column) (f : OpForm) (ws us vs : List (List ℕ)) → behind_alike columns f ws us → behind_alike columns f vs us → behind_alike columns f ws vs
behind_joined columns form.Literals ws us vs a b = a ∙ sym b
behind_joined columns form.RowNames ws us vs a b = (a.0 ∙ sym b.0, λ n. a.1 n ∙ sym (b.1 n))
behind_joined columns form.Names ws us vs a b = (a.0 ∙ sym b.0, λ n. a.1 n ∙ sym (b.1 n))
behind_joined columns form.Key ws us vs a b = a ∙ sym b

op_joined : (columns : List Column) (ws us vs : List (List ℕ)) → op_alike columns ws us → op_alike columns vs us → op_alike columns ws vs
op_joined columns [] [] [] a b = tt
op_joined columns [] [] (v ∷ vs) a b = absurd b
op_joined columns [] (u ∷ us) vs a b = absurd a
op_joined columns (w ∷ ws) [] vs a b = absurd a
op_joined columns (w ∷ ws) (u ∷ us) [] a b = absurd b
op_joined columns (w ∷ ws) (u ∷ us) (v ∷ vs) a b = (a.0 ∙ sym b.0, by (op_kind w) a.1 (subst (λ x. kind_alike columns (op_kind x) vs us) (b.0 ∙ sym a.0) b.1))
  where
    by : (o : Option OpKind) → kind_alike columns o ws us → kind_alike columns o vs us → kind_alike columns o ws vs
    by None p q = p ∙ sym q
    by (Some k) p q = behind_joined columns (op_form k) ws us vs p q

ops_joined : (columns : List Column) (ops mid more : List (List (List ℕ))) → ops_alike columns ops mid → ops_alike columns more mid → ops_alike columns ops more
ops_joined columns [] [] [] a b = tt
ops_joined columns [] [] (vs ∷ more) a b = absurd b
ops_joined columns [] (us ∷ mid) more a b = absurd a
ops_joined columns (ws ∷ ops) [] more a b = absurd a
ops_joined columns (ws ∷ ops) (us ∷ mid) [] a b = absurd b
ops_joined columns (ws ∷ ops) (us ∷ mid) (vs ∷ more) a b = (op_joined columns ws us vs a.0 b.0, ops_joined columns ops mid more a.1 b.1)

-- ---- a write line, or another

abbrev writes : List ℕ → Bool
writes text = is_write (first_lead (words_of text))

still_write : (columns : List Column) (text next : List ℕ) → writes text ≡ true → ops_alike columns (ops_of (words_of text)) (ops_of (words_of next)) → writes next ≡ true
still_write columns text next t e = ap is_write (first_alike columns (words_of text) (words_of next) t e) ∙ t

-- lines that are alike to one are alike
line_joined : (columns : List Column) (text mid next : List ℕ) → line_alike columns text mid → line_alike columns next mid → line_alike columns text next
line_joined columns text mid next = by (writes text) (writes next) refl refl
  where
    by : (s t : Bool) → writes text ≡ s → writes next ≡ t → alike_as columns s text mid → alike_as columns t next mid → alike_as columns s text next
    by true true p q a b = ops_joined columns (ops_of (words_of text)) (ops_of (words_of mid)) (ops_of (words_of next)) a b
    by true false p q a b = absurd (false≢true (sym q ∙ (ap writes b ∙ still_write columns text mid p a)))
    by false true p q a b = absurd (false≢true (sym p ∙ (ap writes a ∙ still_write columns next mid q b)))
    by false false p q a b = a ∙ sym b

joined_alike : (columns : List Column) (lines mid others : List (List ℕ)) → lines_alike columns lines mid → lines_alike columns others mid → lines_alike columns lines others
joined_alike columns [] [] [] a b = tt
joined_alike columns [] [] (o ∷ others) a b = absurd b
joined_alike columns [] (m ∷ mid) others a b = absurd a
joined_alike columns (l ∷ lines) [] others a b = absurd a
joined_alike columns (l ∷ lines) (m ∷ mid) [] a b = absurd b
joined_alike columns (l ∷ lines) (m ∷ mid) (o ∷ others) a b = (line_joined columns l m o a.0 b.0, joined_alike columns lines mid others a.1 b.1)

-- ---- sessions

session_push : (columns : List Column) (commands : List Command) (c : Command) → session_lines columns (commands ++ c ∷ []) ≡ session_lines columns commands ++ line (command_text columns c)
session_push columns commands c = rw (flat_map-append (λ x. line (command_text columns x)) commands (c ∷ [])) (simp (append-nil, append_assoc))

plan_push : (columns : List Column) (plan : List (List Command)) (c : Command) → is_begun plan ≡ true → flat_map (session_lines columns) (push_last c plan) ≡ flat_map (session_lines columns) plan ++ line (command_text columns c)
plan_push columns [] c some = absurd cc
plan_push columns (commands ∷ []) c some = append-nil (session_lines columns (commands ++ c ∷ [])) ∙ session_push columns commands c ∙ ap (λ x. x ++ line (command_text columns c)) (sym (append-nil (session_lines columns commands)))
plan_push columns (commands ∷ more ∷ plan) c some =
    ap (λ x. session_lines columns commands ++ x) (plan_push columns (more ∷ plan) c (positive (length plan))) ∙ sym (append_assoc (session_lines columns commands) (flat_map (session_lines columns) (more ∷ plan)) (line (command_text columns c)))
  where
    positive : (n : ℕ) → nat_lt 0 (suc n) ≡ true
    positive n = grind (arith, nat_tests)

-- a plan whose text goes on
goes_on : (columns : List Column) (plan longer : List (List Command)) (added : List ℕ) → flat_map (session_lines columns) longer ≡ flat_map (session_lines columns) plan ++ added
    → script_text None (record { columns = columns; plan = longer }) ≡ script_text None (record { columns = columns; plan = plan }) ++ added
goes_on columns plan longer added h = rw h (simp (append_assoc))

-- a line of a word alone, by what it begins
alone_is : (text : List ℕ) (ws : List (List ℕ)) (l : Lead) → words_of text ≡ ws → first_lead ws ≡ Some l → sound ≤ alone_no ws → text ≡ lead_word l
alone_is text [] l is first h = absurd (omega (arith, h))
alone_is text (w ∷ []) l is first h = sym (rejoined text) ∙ ap words is ∙ append-nil w ∙ lead_is w l first
alone_is text (w ∷ v ∷ ws) l is first h = absurd (omega (arith, h))

-- a line is its first word and those behind it
begins_with : (text : List ℕ) (l : Lead) → first_lead (words_of text) ≡ Some l → words (lead_word l ∷ drop 1 (words_of text)) ≡ text
begins_with text l first = by (words_of text) first ∙ rejoined text
  where
    by : (ws : List (List ℕ)) → first_lead ws ≡ Some l → words (lead_word l ∷ drop 1 ws) ≡ words ws
    by [] e = absurd cc
    by (w ∷ ws) e = ap (λ v. words (v ∷ ws)) (sym (lead_is w l e))

-- a line below the columns
module _ (columns : List Column) (plan : List (List Command)) (text : List ℕ) (table : IsTable columns) where
  abbrev so_far : List ℕ
  so_far = script_text None (record { columns = columns; plan = plan })

  -- a command that is printed as a line
  command_goes_on : (w : Word) (l : List ℕ) → sound ≤ in_session_no columns plan w (words_of text) → (sound ≤ command_no columns w (words_of text) → command_text columns (command_of columns w (words_of text)) ≡ l)
      → script_text None (record { columns = columns; plan = push_last (command_of columns w (words_of text)) plan }) ≡ so_far ++ line l
  command_goes_on w l taken is = by (is_begun plan) refl taken
    where
      c : Command
      c = command_of columns w (words_of text)

      by : (b : Bool) → is_begun plan ≡ b → sound ≤ (if b then min (command_no columns w (words_of text)) (full_no plan) else 11) → script_text None (record { columns = columns; plan = push_last c plan }) ≡ so_far ++ line l
      by true some g = goes_on columns plan (push_last c plan) (line l) (plan_push columns plan c some ∙ ap (λ x. flat_map (session_lines columns) plan ++ line x) (is (omega (arith, g))))
      by false some g = absurd (omega (arith, g))

  -- a command but a write is printed as its line
  command_shown : (w : Word) → first_lead (words_of text) ≡ Some (lead.Command w) → is_write (Some (lead.Command w)) ≡ false → sound ≤ command_no columns w (words_of text) → command_text columns (command_of columns w (words_of text)) ≡ text
  command_shown word.Scan first plain h = ap words (scan_again columns (drop 1 (words_of text)) table h) ∙ begins_with text (lead.Command word.Scan) first
  command_shown word.Mark first plain h = ap (λ vs. words (codes "mark" ∷ vs)) (mark_again (drop 1 (words_of text)) h) ∙ begins_with text (lead.Command word.Mark) first
  command_shown (word.Chore c) first plain h = append-nil (chore_word c) ∙ sym (alone_is text (words_of text) (lead.Command (word.Chore c)) refl first h)
  command_shown (word.Op k) first plain h = absurd (false≢true (sym plain))

  session_line_on : first_lead (words_of text) ≡ Some lead.Session → sound ≤ session_no plan (words_of text) → script_text None (record { columns = columns; plan = plan ++ [] ∷ [] }) ≡ so_far ++ line text
  session_line_on first h =
      let is = alone_is text (words_of text) lead.Session refl first (omega (arith, h)) in
      goes_on columns plan (plan ++ [] ∷ []) (line text) (rw (flat_map-append (session_lines columns) plan ([] ∷ []), is) (simp (append-nil)))

  -- a load line stands below no session
  load_line_on : first_lead (words_of text) ≡ Some lead.Load → sound ≤ load_no columns plan (words_of text) → script_text (Some (load_size (words_of text))) (record { columns = columns; plan = load_plan (load_size (words_of text)) }) ≡ so_far ++ line text
  load_line_on first h =
      let ws : List (List ℕ) = drop 1 (words_of text) in
      let taken = load_line columns plan (words_of text) h in
      let size = size_in (load_number ws) taken.size in
      let no : time_no (load_number ws) ≡ sound = ap time_no size.2 ∙ not_late (load_size (words_of text)) (omega (arith, size.1)) in
      let is : words (codes "load" ∷ decimal (load_size (words_of text)) ∷ []) ≡ text = ap (λ vs. words (codes "load" ∷ vs)) (mark_again ws (omega (arith, no))) ∙ begins_with text lead.Load first in
      by plan taken.first ∙ ap (λ x. so_far ++ line x) is
    where
      shown : List ℕ
      shown = words (codes "load" ∷ decimal (load_size (words_of text)) ∷ [])

      joins : (t c l : List ℕ) → t ++ (c ++ l) ≡ (t ++ (c ++ [])) ++ l
      joins t c l = simp (append-nil, append_assoc)

      by : (p : List (List Command)) → nat_lt 0 (length p) ≡ false → script_text (Some (load_size (words_of text))) (record { columns = columns; plan = load_plan (load_size (words_of text)) }) ≡ script_text None (record { columns = columns; plan = p }) ++ line shown
      by [] none = joins (line (codes "table")) (flat_map column_text columns) (line shown)
      by (commands ∷ p) none = absurd (false≢true (sym none ∙ positive (length p)))
        where
          positive : (n : ℕ) → nat_lt 0 (suc n) ≡ true
          positive n = grind (arith, nat_tests)

  write_taken : (k : OpKind) → sound ≤ in_session_no columns plan (word.Op k) (words_of text) → sound ≤ write_no columns (words_of text)
  write_taken k g = by (is_begun plan) g
    where
      by : (b : Bool) → sound ≤ (if b then min (write_no columns (words_of text)) (full_no plan) else 11) → sound ≤ write_no columns (words_of text)
      by true e = omega (arith, e)
      by false e = absurd (omega (arith, e))

  body_goes_on : sound ≤ body_no columns plan (words_of text) → Without 10 text → LineAgain columns text (printed (body_after columns plan (words_of text))) so_far
  body_goes_on h inside = by (first_lead (words_of text)) refl h
    where
      as_it_is : (l : Option Lead) → first_lead (words_of text) ≡ l → is_write l ≡ false → (now : List ℕ) → now ≡ so_far ++ line text → LineAgain columns text now so_far
      as_it_is l first plain now is = record { shown = text; printed = is; alike = subst (λ b. alike_as columns b text text) (sym (ap is_write first ∙ plain)) refl; inside = inside }

      plain : (w : Word) → is_write (Some (lead.Command w)) ≡ false → first_lead (words_of text) ≡ Some (lead.Command w) → sound ≤ in_session_no columns plan w (words_of text)
          → LineAgain columns text (script_text None (record { columns = columns; plan = push_last (command_of columns w (words_of text)) plan })) so_far
      plain w other first g = as_it_is (Some (lead.Command w)) first other _ (command_goes_on w text g (command_shown w first other))

      by : (l : Option Lead) → first_lead (words_of text) ≡ l → sound ≤ led_no columns plan l (words_of text) → LineAgain columns text (printed (led_after columns plan l (words_of text))) so_far
      by None first g = absurd (omega (arith, g))
      by (Some lead.Session) first g = as_it_is (Some lead.Session) first refl _ (session_line_on first g)
      by (Some lead.Load) first g = as_it_is (Some lead.Load) first refl _ (load_line_on first g)
      by (Some (lead.Command word.Scan)) first g = plain word.Scan refl first g
      by (Some (lead.Command word.Mark)) first g = plain word.Mark refl first g
      by (Some (lead.Command (word.Chore c))) first g = plain (word.Chore c) refl first g
      by (Some (lead.Command (word.Op k))) first g =
          let again = write_again columns (words_of text) table (write_taken k g) in
          let shown : List ℕ = words (write_words columns (write_of columns (words_of text))) in
          record { shown = shown; printed = command_goes_on (word.Op k) shown g (λ taken. refl); alike = subst (λ b. alike_as columns b text shown) (sym (ap is_write first)) again.alike; inside = again.line }

  -- another order of the names
  body_moved : (next : List ℕ) → sound ≤ body_no columns plan (words_of text) → line_alike columns text next → (sound ≤ body_no columns plan (words_of next)) × (body_after columns plan (words_of next) ≡ body_after columns plan (words_of text))
  body_moved next h e = by (first_lead (words_of text)) refl h e
    where
      Moved : List ℕ → Type 0
      Moved x = (sound ≤ body_no columns plan (words_of x)) × (body_after columns plan (words_of x) ≡ body_after columns plan (words_of text))

      itself : text ≡ next → Moved next
      itself is = subst Moved is (h, refl)

      by : (l : Option Lead) → first_lead (words_of text) ≡ l → sound ≤ led_no columns plan l (words_of text) → alike_as columns (is_write l) text next → Moved next
      by None first g k = itself k
      by (Some lead.Session) first g k = itself k
      by (Some lead.Load) first g k = itself k
      by (Some (lead.Command word.Scan)) first g k = itself k
      by (Some (lead.Command word.Mark)) first g k = itself k
      by (Some (lead.Command (word.Chore c))) first g k = itself k
      by (Some (lead.Command (word.Op kind))) first g k =
          let moved = write_moved columns (words_of text) (words_of next) table (write_taken kind g) k in
          let leads = first_alike columns (words_of text) (words_of next) (ap is_write first) k ∙ first in (
            subst (λ l. sound ≤ led_no columns plan l (words_of next)) (sym leads) (still (is_begun plan) g moved.0),
            ap (λ l. led_after columns plan l (words_of next)) leads ∙ (ap (λ ops. body columns (push_last (command.Write (record { ops = ops })) plan)) moved.1 ∙ ap (λ l. led_after columns plan l (words_of text)) (sym first)),
          )
        where
          still : (b : Bool) → sound ≤ (if b then min (write_no columns (words_of text)) (full_no plan) else 11) → sound ≤ write_no columns (words_of next) → sound ≤ (if b then min (write_no columns (words_of next)) (full_no plan) else 11)
          still true q m = omega (arith, q, m)
          still false q m = absurd (omega (arith, q))

-- ---- line by line

-- sessions or a load over these columns
abbrev Over : List Column → Above → Type 0
Over columns start = ⊥
Over columns (head cs) = ⊥
Over columns (body cs plan) = cs ≡ columns
Over columns (load cs n) = cs ≡ columns

over_led : (columns cs : List Column) (plan : List (List Command)) (words : List (List ℕ)) (l : Option Lead) → cs ≡ columns → Over columns (led_after cs plan l words)
over_led columns cs plan words None o = o
over_led columns cs plan words (Some lead.Session) o = o
over_led columns cs plan words (Some lead.Load) o = o
over_led columns cs plan words (Some (lead.Command w)) o = o

over_after : (columns : List Column) (above : Above) (text : List ℕ) → Over columns above → Over columns (after above text)
over_after columns start text o = absurd o
over_after columns (head cs) text o = absurd o
over_after columns (body cs plan) text o = over_led columns cs plan (words_of text) (first_lead (words_of text)) o
over_after columns (load cs n) text o = o

-- below them the columns stay
over_stays : (columns : List Column) (above : Above) (pieces : List (List ℕ)) → Over columns above → (said (above_end above pieces)).columns ≡ columns
over_stays columns start pieces o = absurd o
over_stays columns (head cs) pieces o = absurd o
over_stays columns (body cs plan) [] o = o
over_stays columns (load cs n) [] o = o
over_stays columns (body cs plan) (rest ∷ []) o = o
over_stays columns (load cs n) (rest ∷ []) o = o
over_stays columns (body cs plan) (text ∷ more ∷ pieces) o = over_stays columns (after (body cs plan) text) (more ∷ pieces) (over_after columns (body cs plan) text o)
over_stays columns (load cs n) (text ∷ more ∷ pieces) o = over_stays columns (load cs n) (more ∷ pieces) o

-- so they do below a line that is no column's
below_stays : (columns : List Column) (plan : List (List Command)) (words : List (List ℕ)) (pieces : List (List ℕ)) → (said (above_end (body_after columns plan words) pieces)).columns ≡ columns
below_stays columns plan words pieces = over_stays columns (body_after columns plan words) pieces (over_led columns columns plan words (first_lead words) refl)

abbrev columns_at : Above → List (List ℕ) → List Column
columns_at above pieces = (said (above_end above pieces)).columns

-- a line that is no write is as it is
plain_again : (columns : List Column) (text now above : List ℕ) → writes text ≡ false → Without 10 text → now ≡ above ++ line text → LineAgain columns text now above
plain_again columns text now above plain inside is = record { shown = text; printed = is; alike = subst (λ b. alike_as columns b text text) (sym plain) refl; inside = inside }

step : (above : Above) (text : List ℕ) (pieces : List (List ℕ)) → FitsAbove above → sound ≤ line_no above text → Without 10 text → LineAgain (columns_at (after above text) pieces) text (printed (after above text)) (printed above)
step start text pieces fits h inside = by (same text (codes "table")) refl h
  where
    by : (b : Bool) → same text (codes "table") ≡ b → sound ≤ reason_if (not b) 3 → LineAgain (columns_at (head []) pieces) text (printed (head [])) []
    by true t g = let is = same_text text (codes "table") t in plain_again (columns_at (head []) pieces) text (printed (head [])) [] (ap writes is) inside (ap line (sym is))
    by false t g = absurd (omega arith)
step (head columns) text pieces fits h inside = by (begins_column text) (list_any (λ c. c.key) columns) h
  where
    by : (b k : Bool) → sound ≤ (if b then column_no columns text else (if k then body_no columns [] (words_of text) else 5))
        → LineAgain (columns_at (if b then head (columns_with columns text) else body_after columns [] (words_of text)) pieces) text (printed (if b then head (columns_with columns text) else body_after columns [] (words_of text))) (printed (head columns))
    by true k g =
        plain_again (columns_at (head (columns_with columns text)) pieces) text (printed (head (columns_with columns text))) (printed (head columns)) (column_is_other columns text g) inside (column_goes_on columns text g)
    by false true g = subst (λ cs. LineAgain cs text (printed (body_after columns [] (words_of text))) (printed (head columns))) (sym (below_stays columns [] (words_of text) pieces))
        (body_goes_on columns [] text fits g inside)
    by false false g = absurd (omega arith)
step (body columns plan) text pieces fits h inside = subst (λ cs. LineAgain cs text (printed (body_after columns plan (words_of text))) (printed (body columns plan))) (sym (below_stays columns plan (words_of text) pieces))
    (body_goes_on columns plan text fits.0 h inside)
step (load columns n) text pieces fits h inside = absurd (omega (arith, h))

-- lines that are printed again
record LinesAgain (columns : List Column) (pieces : List (List ℕ)) (now so_far : List ℕ) : Type 0 where
  shown : List (List ℕ)
  printed : now ≡ so_far ++ flat_map line shown
  alike : lines_alike columns pieces (shown ++ [] ∷ [])
  inside : AllByRecursion (Without 10) shown

all_again : (above : Above) (n : ℕ) (piece : List ℕ) (pieces : List (List ℕ)) → FitsAbove above → fault_from above n (piece ∷ pieces) ≡ None → AllByRecursion (Without 10) (piece ∷ pieces)
    → LinesAgain (columns_at above (piece ∷ pieces)) (piece ∷ pieces) (printed (above_end above (piece ∷ pieces))) (printed above)
all_again above n [] [] fits none inside = record { shown = []; printed = sym (append-nil (printed above)); alike = (refl, tt); inside = tt }
all_again above n (b ∷ rest) [] fits none inside = absurd (omega (arith, (no_fault n (rest_no above (b ∷ rest)) None none).0))
all_again above n text (more ∷ pieces) fits none inside =
    let parts = no_fault n (line_no above text) (fault_from (after above text) (n + 1) (more ∷ pieces)) none in
    let later = all_again (after above text) (n + 1) more pieces (after_kept above text fits parts.0) parts.1 inside.1 in
    let one = step above text (more ∷ pieces) fits parts.0 inside.0 in
    record {
      shown = one.shown ∷ later.shown;
      printed = later.printed ∙ (ap (λ x. x ++ flat_map line later.shown) one.printed ∙ append_assoc (printed above) (line one.shown) (flat_map line later.shown));
      alike = (one.alike, later.alike);
      inside = (one.inside, later.inside);
    }

-- ---- another order, line by line

moved : (above : Above) (text next : List ℕ) (pieces : List (List ℕ)) → FitsAbove above → sound ≤ line_no above text → line_alike (columns_at (after above text) pieces) text next → (sound ≤ line_no above next) × (after above next ≡ after above text)
moved start text next pieces fits h e = by (same text (codes "table")) refl h
  where
    by : (b : Bool) → same text (codes "table") ≡ b → sound ≤ reason_if (not b) 3 → (sound ≤ line_no start next) × (after start next ≡ after start text)
    by true t g = let is = same_text text (codes "table") t in
        let one : text ≡ next = subst (λ b. alike_as (columns_at (head []) pieces) b text next) (ap writes is) e in
        (subst (λ x. sound ≤ line_no start x) one h, refl)
    by false t g = absurd (omega arith)
moved (head columns) text next pieces fits h e = by (begins_column text) (list_any (λ c. c.key) columns) refl h e
  where
    Moved : List ℕ → Type 0
    Moved x = (sound ≤ line_no (head columns) x) × (after (head columns) x ≡ after (head columns) text)

    itself : text ≡ next → Moved next
    itself is = subst Moved is (h, refl)

    begins : (l : Option Lead) → sound ≤ led_no columns [] l (words_of text) → alike_as columns (is_write l) text next → text ≡ next
    begins None g k = k
    begins (Some lead.Session) g k = k
    begins (Some lead.Load) g k = k
    begins (Some (lead.Command w)) g k = absurd (omega (arith, g))

    by : (b k : Bool) → begins_column text ≡ b → sound ≤ (if b then column_no columns text else (if k then body_no columns [] (words_of text) else 5)) → line_alike (columns_at (if b then head (columns_with columns text) else body_after columns [] (words_of text)) pieces) text next → Moved next
    by true k t g q = itself (subst (λ b. alike_as (columns_at (head (columns_with columns text)) pieces) b text next) (column_is_other columns text g) q)
    by false true t g q = itself (begins (first_lead (words_of text)) g (subst (λ cs. line_alike cs text next) (below_stays columns [] (words_of text) pieces) q))
    by false false t g q = absurd (omega arith)
moved (body columns plan) text next pieces fits h e =
    body_moved columns plan text fits.0 next h (subst (λ cs. line_alike cs text next) (below_stays columns plan (words_of text) pieces) e)
moved (load columns n) text next pieces fits h e = absurd (omega (arith, h))

fine : (n r : ℕ) (later : Option Fault) → sound ≤ r → later ≡ None → fault_if n r later ≡ None
fine n r later h e = ap (λ t. if t then Some (record { number = n; reason = r }) else later) (high r h) ∙ e
  where
    high : (m : ℕ) → sound ≤ m → nat_lt m sound ≡ false
    high m g = grind (arith, nat_tests)

all_moved : (above : Above) (n : ℕ) (piece : List ℕ) (pieces others : List (List ℕ)) → FitsAbove above → fault_from above n (piece ∷ pieces) ≡ None → lines_alike (columns_at above (piece ∷ pieces)) (piece ∷ pieces) others
    → (fault_from above n others ≡ None) × (above_end above others ≡ above_end above (piece ∷ pieces))
all_moved above n piece pieces [] fits none e = absurd e
all_moved above n (b ∷ rest) [] (next ∷ others) fits none e = absurd (omega (arith, (no_fault n (rest_no above (b ∷ rest)) None none).0))
all_moved above n [] [] (next ∷ []) fits none e = subst (λ x. (fault_from above n (x ∷ []) ≡ None) × (above_end above (x ∷ []) ≡ above)) e.0 (none, refl)
all_moved above n [] [] (next ∷ one ∷ others) fits none e = absurd e.1
all_moved above n text (more ∷ pieces) (next ∷ []) fits none e = absurd e.1
all_moved above n text (more ∷ pieces) (next ∷ one ∷ others) fits none e =
    let parts = no_fault n (line_no above text) (fault_from (after above text) (n + 1) (more ∷ pieces)) none in
    let here = moved above text next (more ∷ pieces) fits parts.0 e.0 in
    let later = all_moved (after above text) (n + 1) more pieces (one ∷ others) (after_kept above text fits parts.0) parts.1 e.1 in (
      fine n (line_no above next) (fault_from (after above next) (n + 1) (one ∷ others)) here.0 (ap (λ a. fault_from a (n + 1) (one ∷ others)) here.1 ∙ later.0),
      ap (λ a. above_end a (one ∷ others)) here.1 ∙ later.1,
    )

-- ---- how long texts are

joined_size : (w : List ℕ) (ws : List (List ℕ)) → length (words (w ∷ ws)) + 1 ≡ size (w ∷ ws)
joined_size w [] = let none : length (words (w ∷ [])) ≡ length w = ap length (append-nil w) in omega (arith, none)
joined_size w (v ∷ ws) =
    let more = joined_size v ws in
    let whole : length (w ++ (32 ∷ words (v ∷ ws))) ≡ length w + length (32 ∷ words (v ∷ ws)) = length-append w (32 ∷ words (v ∷ ws)) in
    omega (arith, more, whole)

words_size : (l : List ℕ) → size (words_of l) ≡ length l + 1
words_size l = let some = some_word Outside l in
    ap size some.2 ∙ (sym (joined_size some.0 some.1) ∙ ap (λ x. length x + 1) (ap words (sym some.2) ∙ rejoined l))

pieces_size : (l : List ℕ) → size (cut 10 l) ≡ length l + 1
pieces_size [] = refl
pieces_size (b ∷ l) = by (b == 10) (some_piece 10 l) (pieces_size l)
  where
    by : (t : Bool) → (p : List ℕ) × (ps : List (List ℕ)) × (cut 10 l ≡ p ∷ ps) → size (cut 10 l) ≡ length l + 1 → size (if t then [] ∷ cut 10 l else onto_first b (cut 10 l)) ≡ length (b ∷ l) + 1
    by true some more = omega (arith, more)
    by false some more = let a = ap (λ ps. size (onto_first b ps)) some.2 in let c = ap size some.2 in omega (arith, more, a, c)

line_size : (columns : List Column) (text next : List ℕ) → line_alike columns text next → length text ≡ length next
line_size columns text next e = by (writes text) e
  where
    by : (b : Bool) → alike_as columns b text next → length text ≡ length next
    by true k = let a = write_size columns (words_of text) (words_of next) k in let b = words_size text in let c = words_size next in omega (arith, a, b, c)
    by false k = ap length k

lines_size : (columns : List Column) (lines others : List (List ℕ)) → lines_alike columns lines others → size lines ≡ size others
lines_size columns [] [] e = refl
lines_size columns [] (o ∷ others) e = absurd e
lines_size columns (l ∷ lines) [] e = absurd e
lines_size columns (l ∷ lines) (o ∷ others) e = let a = line_size columns l o e.0 in let b = lines_size columns lines others e.1 in omega (arith, a, b)

pub alike_size : (columns : List Column) (text next : List ℕ) → alike columns text next → length text ≡ length next
alike_size columns text next e = let a = lines_size columns (cut 10 text) (cut 10 next) e in let b = pieces_size text in let c = pieces_size next in omega (arith, a, b, c)

-- ---- the end

last_printed : (above : Above) (n : ℕ) (piece : List ℕ) (pieces : List (List ℕ)) → fault_from above n (piece ∷ pieces) ≡ None
    → printed (above_end above (piece ∷ pieces)) ≡ script_text (load_in (above_end above (piece ∷ pieces))) (said (above_end above (piece ∷ pieces)))
last_printed above n rest [] none = by above rest (no_fault n (rest_no above rest) None none).0
  where
    by : (a : Above) (xs : List ℕ) → sound ≤ rest_no a xs → printed a ≡ script_text (load_in a) (said a)
    by a (b ∷ bytes) h = absurd (omega arith)
    by start [] h = absurd (omega arith)
    by (head columns) [] h = refl
    by (body columns plan) [] h = refl
    by (load columns k) [] h = refl
last_printed above n text (more ∷ pieces) none = last_printed (after above text) (n + 1) more pieces (no_fault n (line_no above text) (fault_from (after above text) (n + 1) (more ∷ pieces)) none).1

pub printed_alike : texts_are_printed
printed_alike text s e =
    let i = script_is text s e in
    let some = some_piece 10 text in
    let taken : fault_from start 1 (some.0 ∷ some.1) ≡ None = ap (fault_from start 1) (sym some.2) ∙ i.taken in
    let inside = subst (AllByRecursion (Without 10)) some.2 (cut_without 10 text) in
    let all = all_again start 1 some.0 some.1 tt taken inside in
    let end : above_end start (cut 10 text) ≡ above_end start (some.0 ∷ some.1) = ap (above_end start) some.2 in
    let says : said (above_end start (some.0 ∷ some.1)) ≡ s = ap said (sym end) ∙ i.says in
    let text_is : script_text (load_of text) s ≡ flat_map line all.shown = ap (λ a. script_text (load_in a) s) end ∙ (ap (script_text (load_in (above_end start (some.0 ∷ some.1)))) (sym says) ∙ (sym (last_printed start 1 some.0 some.1 taken) ∙ all.printed)) in
    let pieces : cut 10 (script_text (load_of text) s) ≡ all.shown ++ [] ∷ [] = ap (cut 10) text_is ∙ cut_lines all.shown all.inside in
    subst (λ ps. lines_alike s.columns ps (cut 10 (script_text (load_of text) s))) (sym some.2) (subst (lines_alike s.columns (some.0 ∷ some.1)) (sym pieces) (subst (λ (x : Said). lines_alike x.columns (some.0 ∷ some.1) (all.shown ++ [] ∷ [])) says all.alike))

pub alike_is_read : alike_texts_are_read
alike_is_read text next s e a =
    let i = script_is text s e in
    let some = some_piece 10 text in
    let taken : fault_from start 1 (some.0 ∷ some.1) ≡ None = ap (fault_from start 1) (sym some.2) ∙ i.taken in
    let says : said (above_end start (some.0 ∷ some.1)) ≡ s = ap (λ ps. said (above_end start ps)) (sym some.2) ∙ i.says in
    let lines = subst (λ (x : Said). lines_alike x.columns (some.0 ∷ some.1) (cut 10 next)) (sym says) (subst (λ ps. lines_alike s.columns ps (cut 10 next)) some.2 a) in
    let m = all_moved start 1 some.0 some.1 (cut 10 next) tt taken lines in (
      is_script next s (record { short = ap (λ n. nat_lt most_bytes n) (sym (alike_size s.columns text next a)) ∙ i.short; taken = m.0; says = ap said m.1 ∙ says }),
      ap load_in (m.1 ∙ ap (above_end start) (sym some.2)),
    )

pub read_again : texts_are_read_again
read_again text s e = alike_is_read text (script_text (load_of text) s) s e (printed_alike text s e)

pub one_text : texts_are_one
one_text text next s e f loads =
    joined_alike s.columns (cut 10 text) (cut 10 (script_text (load_of text) s)) (cut 10 next) (printed_alike text s e) (subst (λ o. alike s.columns next (script_text o s)) (sym loads) (printed_alike next s f))
