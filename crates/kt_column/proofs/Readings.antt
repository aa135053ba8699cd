-- What the codecs read, as values of a block.
use Rattle.std.proofs.Common.{◌≡◌, ◌<◌, ◌≤◌, ◌^◌, ℕ, ℤ, List, [], ◌∷◌, length, All, arith, refl, sym, subst, lit≤}
use Rattle.std.specs.List.{concat, flat_map}
use Rattle.std.proofs.lemmas.List.Elements.{All-nil, All-append, All-replicate, All-from_recursion, recursion_from_All}
use Rattle.std.proofs.lemmas.List.Sums.{sum_by-le}
use Rattle.kt_plain.specs.declared.widths.Width.{Width}
use Rattle.kt_plain.specs.declared.widths.Width.TheVariants as widths
use Rattle.kt_plain.specs.declared.items.Items.TheVariants.{Numbers, Texts}
use Rattle.kt_plain.specs.declared.widths.NumberWidth.{NumberWidth as RunWidth}
use Rattle.kt_plain.specs.Widths as run_length
use Rattle.kt_rle.specs.declared.runs.Run.{Run}
use Rattle.kt_rle.specs.Runs.{expand, AreRuns}
use Rattle.kt_rle.specs.Spelling as runs
use Rattle.kt_dict.specs.Reading as dictionary
use Rattle.kt_front.specs.Reading as prefix
use Rattle.kt_column.specs.declared.form.Form.{Form}
use Rattle.kt_column.specs.declared.form.Form.TheVariants.{Cells, Keys}
use Rattle.kt_column.specs.declared.form.Encoding.TheVariants.{Plain, RunLength, Dictionary, Prefix}
use Rattle.kt_column.specs.Forms.{width, limit, IsNumeric, IsInWidth}
use Rattle.kt_column.specs.Values.{run_width, AreValues}
use Rattle.kt_column.specs.Reading.{Reads}
use Rattle.kt_plain.specs.declared.items.Items.{Items}
use Rattle.kt_plain.specs.Spelling as plain
use Rattle.kt_dict.specs.Spelling as words
use Rattle.kt_dict.proofs.Limits.{items_short, entries_short}
use Rattle.kt_front.proofs.Cells.{short_more}
use Rattle.kt_column.proofs.Widths.{sum_of_concat, numbers_fit_in, texts_fit_in}

in_plain_width : (w : Width) (z : ℤ) → IsNumeric w → run_length.IsInWidth (run_width w) z → IsInWidth w z
in_plain_width (widths.Numbers w) z n h = h
in_plain_width widths.Bytes z n h = elim n [ ]

all_expanded : (w : RunWidth) (rs : List Run) → AreRuns w rs → All (run_length.IsInWidth w) (flat_map expand rs)
all_expanded w [] are = All-nil (run_length.IsInWidth w)
all_expanded w (r ∷ rs) are = All-append (run_length.IsInWidth w) (expand r) (flat_map expand rs) (All-replicate (run_length.IsInWidth w) r.len r.value are.1) (all_expanded w rs are.3)

pub runs_fit : (w : RunWidth) (n : ℕ) (bytes : List ℕ) (zs : List ℤ) → runs.Spells w n zs bytes → All (run_length.IsInWidth w) zs
runs_fit w n bytes zs s = subst (λ xs. All (run_length.IsInWidth w) xs) (sym s.expanded) (all_expanded w s.runs s.are)

pub runs_read : (form : Form) (n : ℕ) (bytes : List ℕ) (zs : List ℤ) → IsNumeric (width form) → n ≤ 8192 → runs.Spells (run_width (width form)) n zs bytes → Reads form RunLength n bytes (Numbers zs)
runs_read form n bytes zs numeric few s =
    let all : All (run_length.IsInWidth (run_width (width form))) zs = runs_fit (run_width (width form)) n bytes zs s in
    record {
      values = record { fits = numbers_fit_in (width form) zs numeric (omega (arith, s.counted)) (λ k d lt. in_plain_width (width form) _ numeric (all k d lt)); few = omega (arith, s.counted); short = tt };
      counted = s.counted;
      encoded = subst (λ k. runs.Spells (run_width (width form)) k zs bytes) (sym s.counted) s;
    }

pub limited : (form : Form) → limit form ≤ 65536
limited (Cells kind nullable) = lit≤ tt
limited Keys = lit≤ tt

-- few short byte lists are few bytes
pub small_together : (form : Form) (ts : List (List ℕ)) → length ts ≤ 8192 → All (λ t. length t ≤ limit form) ts → length (concat ts) < 2 ^ 32
small_together form ts few short =
    let all : All (λ t. length t ≤ 65536) ts = λ k d lt. (let one = short k d lt in let most = limited form in omega arith) in
    let together = sum_by-le length 65536 ts all in
    omega (arith, together, sum_of_concat ts)

pub are_values : (form : Form) (ts : List (List ℕ)) → width form ≡ widths.Bytes → length ts ≤ 8192 → All (λ t. length t ≤ limit form) ts → AreValues form (Texts ts)
are_values form ts bytes few short = record { fits = texts_fit_in (width form) ts bytes (omega (arith, few)) (small_together form ts few short); few = few; short = short }

-- the codecs read what has no longer byte lists

pub plain_read : (form : Form) (n : ℕ) (bytes : List ℕ) (items : Items) → n ≤ 8192 → plain.SpellsWithin (limit form) (width form) n items bytes → Reads form Plain n bytes items
plain_read form n bytes items few s = record { values = record { fits = s.spells.fits; few = omega (arith, s.spells.counted); short = s.short }; counted = s.spells.counted; encoded = s.spells.spelled }

pub plain_spelled : (form : Form) (n : ℕ) (bytes : List ℕ) (items : Items) → Reads form Plain n bytes items → plain.SpellsWithin (limit form) (width form) n items bytes
plain_spelled form n bytes items r = record { spells = record { fits = r.values.fits; counted = r.counted; spelled = r.encoded }; short = r.values.short }

pub dictionary_read : (form : Form) (n : ℕ) (bytes : List ℕ) (ts : List (List ℕ)) → width form ≡ widths.Bytes → n ≤ 8192 → dictionary.SpellsWithin (limit form) bytes n ts → Reads form Dictionary n bytes (Texts ts)
dictionary_read form n bytes ts w few s =
    record {
      values = are_values form ts w (omega (arith, s.count)) (items_short (limit form) ts s.fits.each);
      counted = s.count;
      encoded = (record { few = s.fits.few; each = short_more (limit form) 4294967295 (words.dictionary ts) (omega (arith, limited form)) s.fits.each }, s.parts);
    }

pub dictionary_spelled : (form : Form) (n : ℕ) (bytes : List ℕ) (ts : List (List ℕ)) → Reads form Dictionary n bytes (Texts ts) → dictionary.SpellsWithin (limit form) bytes n ts
dictionary_spelled form n bytes ts r = record { count = r.counted; fits = record { few = r.encoded.0.few; each = entries_short (limit form) ts r.values.short }; parts = r.encoded.1 }

pub prefix_read : (form : Form) (n : ℕ) (bytes : List ℕ) (ts : List (List ℕ)) → width form ≡ widths.Bytes → n ≤ 8192 → prefix.SpellsWithin (limit form) bytes n ts → Reads form Prefix n bytes (Texts ts)
prefix_read form n bytes ts w few s =
    record {
      values = are_values form ts w (omega (arith, s.count)) (All-from_recursion (λ t. length t ≤ limit form) ts s.fits.each);
      counted = s.count;
      encoded = (record { each = short_more (limit form) 4294967295 ts (omega (arith, limited form)) s.fits.each }, s.parts);
    }

pub prefix_spelled : (form : Form) (n : ℕ) (bytes : List ℕ) (ts : List (List ℕ)) → Reads form Prefix n bytes (Texts ts) → prefix.SpellsWithin (limit form) bytes n ts
prefix_spelled form n bytes ts r = record { count = r.counted; fits = record { each = recursion_from_All (λ t. length t ≤ limit form) ts r.values.short }; parts = r.encoded.1 }

-- only numbers are read as runs
pub as_runs : {Q : Type 0} (form : Form) (n : ℕ) (bytes : List ℕ) (items : Items) → Reads form RunLength n bytes items → ((zs : List ℤ) → Numbers zs ≡ items → runs.Spells (run_width (width form)) n zs bytes → Q) → Q
as_runs form n bytes (Numbers zs) r then = then zs refl (subst (λ k. runs.Spells (run_width (width form)) k zs bytes) r.counted r.encoded)
as_runs form n bytes (Texts ts) r then = absurd r.encoded

-- and only byte lists are read from a dictionary or from prefixes
pub as_dictionary : {Q : Type 0} (form : Form) (n : ℕ) (bytes : List ℕ) (items : Items) → Reads form Dictionary n bytes items → ((ts : List (List ℕ)) → Texts ts ≡ items → dictionary.SpellsWithin (limit form) bytes n ts → Q) → Q
as_dictionary form n bytes (Numbers zs) r then = absurd r.encoded
as_dictionary form n bytes (Texts ts) r then = then ts refl (dictionary_spelled form n bytes ts r)

pub as_prefixes : {Q : Type 0} (form : Form) (n : ℕ) (bytes : List ℕ) (items : Items) → Reads form Prefix n bytes items → ((ts : List (List ℕ)) → Texts ts ≡ items → prefix.SpellsWithin (limit form) bytes n ts → Q) → Q
as_prefixes form n bytes (Numbers zs) r then = absurd r.encoded
as_prefixes form n bytes (Texts ts) r then = then ts refl (prefix_spelled form n bytes ts r)
