use Rattle.std.proofs.Common.{◌≡◌, ◌++◌, ◌<◌, List, ℕ, length, ap, sym, subst, ◌∙◌, arith}
use Rattle.std.specs.Borrow.{Bor}
use Rattle.std.specs.List.{All, flat_map}
use Rattle.std.proofs.lemmas.List.{length-map}
use Rattle.kt_dict.specs.Spelling.{short, code}
use Rattle.kt_dict.specs.Writing.{text}
use Rattle.kt_dict.proofs.Words.{nows}
use Rattle.kt_dict.proofs.Fields.{concat_block}
use Rattle.kt_dict.proofs.writing.written.Goals as goal

pub put_short-requires : goal.put_short-requires
put_short-requires c = omega (arith, c.requires.few, c.len.ensures.len, length-map c.args.table.now.keys (λ (k : Bor (List ℕ)). k.now))

pub put_entries-requires : goal.put_entries-requires
put_entries-requires c = subst (All (λ (k : Bor (List ℕ)). length k.now < 4294967296)) (sym c.as_slice.ensures.keys) c.requires.small

pub returns : goal.returns
returns c =
    let known : List (List ℕ) = nows c.args.table.now.keys in
    let items : List (List ℕ) = c.args.cells.now in
    let count : c.len.result ≡ length known = c.len.ensures.len ∙ sym (length-map c.args.table.now.keys (λ (k : Bor (List ℕ)). k.now)) in
    let first : c.put_short.new.out.items ≡ short (length known) = c.in-Ok.ensures ∙ (ap (λ (t : List ℕ). t ++ short c.len.result) c.new-out.ensures.items ∙ ap short count) in
    let second : c.put_entries.new.out.items ≡ short (length known) ++ flat_map text known = c.in-Ok-put_entries.ensures ∙ (ap (λ (t : List ℕ). t ++ flat_map text (nows c.as_slice.result.now)) first ∙ ap (λ ks. short (length known) ++ flat_map text (nows ks)) c.as_slice.ensures.keys) in
    c.in-Ok-put_codes.ensures ∙ (ap (λ (t : List ℕ). t ++ flat_map (code known) items) second ∙ sym (concat_block known items))
