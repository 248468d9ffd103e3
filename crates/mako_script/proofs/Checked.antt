-- The lines of settings, one after the other, and the first fault among them.
use Rattle.std.proofs.Common.{◌≡◌, ◌⊎◌, inl, inr, ◌+◌, ◌<◌, ◌≤◌, ℕ, zero, suc, List, [], ◌∷◌, ◌++◌, length, map, drop}
use Rattle.std.proofs.Common.{get_or, Ok, Err, true, false, true≢false, eq-or-lt_of_le, refl, ap, sym, subst, ◌∙◌}
use Rattle.std.proofs.Common.{arith, length-append, length-drop}
use Rattle.std.specs.Fmt.{decimal}
use Rattle.std.specs.List.{list_all, join_with_byte}
use Rattle.std.specs.Prelude.{slice_index}
use Rattle.std.proofs.lemmas.Bool.{cases_lt}
use Rattle.std.proofs.lemmas.List.Splits.{join_with_byte-slice_split}
use Rattle.std.proofs.lemmas.List.{drop_more, get_or-drop, get_or_append_left, get_or_push, get_or_default, length-map}
use Rattle.mako_script.specs.declared.fault.Kind.{Kind}
use Rattle.mako_script.specs.declared.fault.Kind.TheVariants.{Header, NotAscii, Word, Number, Range, Names, Undefined}
use Rattle.mako_script.specs.declared.fault.Kind.TheVariants.{Unclosed, Many, Entries}
use Rattle.mako_script.specs.Checks.{IsCut, IsLine, IsSettingLine, HasSetting, HaveSettings, SettingFault}
use Rattle.mako_script.specs.Faults.{IsFirstFault, HasFault, LineFault, is_printable, rank, told_line}
use Rattle.mako_script.specs.Lines.{line_in, words_at, word_in, ended, key_at}
use Rattle.mako_text.specs.declared.keys.Key.{Key}
use Rattle.mako_text.specs.Keys.{keys, key_view}
use Rattle.mako_reader.specs.Parts.{numbers_in}
use Rattle.mako_reader.specs.Words.{IsFirstLine, IsNumber, lines_of, words_of}
use Rattle.mako_shape.specs.Limits.{all_entries, max_entries}
use Rattle.mako_reader.proofs.Splits.{some_line}
use Rattle.mako_reader.proofs.Header.{key_at as key_in}
use Rattle.mako_script.proofs.GoodSettings.{good_number, good_range, IsGood, not_in, not_between}

abbrev second : List (List ℕ) → List ℕ
second words = word_in words 1

-- ---- one line

pub record IsNth (lines : List (List ℕ)) (at : ℕ) (line : List ℕ) (left : List (List ℕ)) : Type 0 where
  pub line_is : line_in lines at ≡ line
  pub left_is : left ≡ drop (at + 1) lines
  pub before_last : at < ended lines

pub nth_line : (lines : List (List ℕ)) (at : ℕ) (line : List ℕ) (left : List (List ℕ)) → drop at lines ≡ line ∷ left
    → 0 < length left → IsNth lines at line left
nth_line lines at line left e some =
    let long : at < length lines = omega (arith, ap length e, length-drop at lines) in
    let both = drop_more lines at [] long in
    let same : line ∷ left ≡ line_in lines at ∷ drop (at + 1) lines = sym e ∙ both in
    record {
      line_is = cc;
      left_is = cc;
      before_last = omega (arith, ap length e, length-drop at lines);
    }

pub with_setting : (lines : List (List ℕ)) (at : ℕ) (line : List ℕ) (left : List (List ℕ)) (n : ℕ)
    → IsNth lines at line left → list_all is_printable line ≡ true
    → IsSettingLine (key_at at) (words_of line) (Ok n) → HasSetting lines at n
with_setting lines at line left n nth printable (inl none) = absurd (let e = none.1 in cc)
with_setting lines at line left n nth printable (inr (word, words, value)) =
    let number_word : words_of line ≡ (key_at at).0 ∷ decimal n ∷ [] = words
    ∙ ap (λ (w : List ℕ). (key_at at).0 ∷ w ∷ []) value.0.0 in
    record {
      ended = nth.before_last;
      printable = rw nth.line_is printable;
      words = rw nth.line_is number_word;
      few = value.0.1;
      low = value.1;
      high = value.2;
    }

pub have_more : (lines : List (List ℕ)) (v : List ℕ) (n : ℕ) → HaveSettings lines v → HasSetting lines (length v) n
    → HaveSettings lines (v ++ n ∷ [])
have_more lines v n have has at below =
    elim (cases_lt at (length v)) [
      | inl less ↦ subst (HasSetting lines at) (sym (get_or_append_left v (n ∷ []) 0 at less)) (have at less)
      | inr past ↦ (
          let same : length v ≡ at = omega (arith, length-append v (n ∷ [])) in
          subst (HasSetting lines at) (sym (get_or_push v n 0 at same))
          (subst (λ (k : ℕ). HasSetting lines k n) same has))
    ]

-- ---- the faults of one line

pub front : (lines : List (List ℕ)) (at : ℕ) → line_in (drop at lines) 0 ≡ line_in lines at
front lines at = let same : at + 0 ≡ at = omega arith in get_or-drop at lines 0 [] ∙ ap (line_in lines) same

pub cut_is : (lines : List (List ℕ)) (at : ℕ) (kind : Kind) → at ≤ ended lines → IsCut (drop at lines) kind
    → SettingFault lines at kind
cut_is lines at NotAscii within cut = subst (λ (l : List ℕ). list_all is_printable l ≡ false) (front lines at) cut
cut_is lines at Unclosed within cut = (
  subst (λ (l : List ℕ). list_all is_printable l ≡ true) (front lines at) cut.0,
  omega
      (arith, cut.1, length-drop at lines),
)
cut_is lines at _ within cut = absurd cut

pub wrong_setting : (lines : List (List ℕ)) (at : ℕ) (line : List ℕ) (left : List (List ℕ)) (kind : Kind)
    → IsNth lines at line left → list_all is_printable line ≡ true
    → IsSettingLine (key_at at) (words_of line) (Err kind) → SettingFault lines at kind
wrong_setting lines at line left NotAscii nth printable (inl none) = absurd (let e = none.1 in cc)
wrong_setting lines at line left NotAscii nth printable (inr (word, words, none)) = absurd none
wrong_setting lines at line left Unclosed nth printable (inl none) = absurd (let e = none.1 in cc)
wrong_setting lines at line left Unclosed nth printable (inr (word, words, none)) = absurd none
wrong_setting lines at line left _ nth printable is = (nth.before_last, rw nth.line_is printable, rw nth.line_is is)

-- ---- the first fault

-- a line with its setting has no fault but that of all entries, which is told at the last setting
no_word : (lines : List (List ℕ)) (at : ℕ) → at < 11 → LineFault lines at Word → ⊥
no_word lines at setting (inl opens) = not_between lines at setting opens.0
no_word lines at setting (inr other) = not_in lines other.0 at (omega arith) other.1

no_more : (lines : List (List ℕ)) (at : ℕ) → at < 11 → LineFault lines at Many → ⊥
no_more lines at setting (inl opens) = not_between lines at setting opens.0
no_more lines at setting (inr other) = not_in lines other.0 at (omega arith) other.1

is_good : (lines : List (List ℕ)) (at n : ℕ) → at < 11 → HasSetting lines at n → IsGood lines at n
is_good lines at n setting has = record {
  setting = setting;
  words = has.words;
  low = has.low;
  high = has.high;
  few = has.few;
}

pub passes : (lines : List (List ℕ)) (at n : ℕ) → at < 11 → HasSetting lines at n → (k : Kind) → HasFault lines at k
    → (k ≡ Entries) × (at ≡ 10)
passes lines at n setting has k (inl cut) = absurd (true≢false (sym has.printable ∙ cut.1))
passes lines at n setting has k (inr (inr end)) = absurd (omega (arith, has.ended, end.0))
passes lines at n setting has Entries (inr (inl fault)) = (refl, fault.1.0)
passes lines at n setting has Header (inr (inl fault)) = absurd (fault.1.1 (decimal n) has.words)
passes lines at n setting has Word (inr (inl fault)) = absurd (no_word lines at setting fault.1)
passes lines at n setting has Number (inr (inl fault)) =
    absurd (good_number lines at n (is_good lines at n setting has) fault.1)
passes lines at n setting has Range (inr (inl fault)) =
    absurd (good_range lines at n (is_good lines at n setting has) fault.1)
passes lines at n setting has Undefined (inr (inl fault)) = absurd (not_in lines fault.1.0 at (omega arith) fault.1.2)
passes lines at n setting has Names (inr (inl fault)) = absurd (not_in lines fault.1.0 at (omega arith) fault.1.3)
passes lines at n setting has Many (inr (inl fault)) = absurd (no_more lines at setting fault.1)
passes lines at n setting has _ (inr (inl fault)) = absurd fault.1

-- ---- which faults a line of settings may have

-- the line is printable and ended
not_cut : (lines : List (List ℕ)) (at : ℕ) → list_all is_printable (line_in lines at) ≡ true → at < ended lines
    → (k : Kind) → HasFault lines at k → LineFault lines at k
not_cut lines at printable ended k (inl cut) = absurd (true≢false (sym printable ∙ cut.1))
not_cut lines at printable ended k (inr (inl fault)) = fault.1
not_cut lines at printable ended k (inr (inr end)) = absurd (omega (arith, end.0))

from_header : (lines : List (List ℕ)) (at : ℕ) (k : Kind) → LineFault lines at k → 2 ≤ rank k
from_header lines at NotAscii fault = absurd fault
from_header lines at Unclosed fault = absurd fault
from_header lines at _ fault = omega arith

from_number : (lines : List (List ℕ)) (at : ℕ) (word : List ℕ) → at < 11 → words_at lines at ≡ (key_at at).0 ∷ word ∷ []
    → (k : Kind) → LineFault lines at k → 4 ≤ rank k
from_number lines at word setting words NotAscii fault = absurd fault
from_number lines at word setting words Unclosed fault = absurd fault
from_number lines at word setting words Header fault = absurd (fault.1 word words)
from_number lines at word setting words Word fault = absurd (no_word lines at setting fault)
from_number lines at word setting words _ fault = omega arith

from_range : (lines : List (List ℕ)) (at : ℕ) (word : List ℕ) (n : ℕ) → at < 11
    → words_at lines at ≡ (key_at at).0 ∷ word ∷ [] → IsNumber word n → (k : Kind) → LineFault lines at k → 5 ≤ rank k
from_range lines at word n setting words number NotAscii fault = absurd fault
from_range lines at word n setting words number Unclosed fault = absurd fault
from_range lines at word n setting words number Header fault = absurd (fault.1 word words)
from_range lines at word n setting words number Word fault = absurd (no_word lines at setting fault)
from_range lines at word n setting words number Number (other, range, inl is, none) =
    absurd (none n (subst (λ (w : List ℕ). IsNumber w n) (sym (is.1 ∙ ap second words)) number))
from_range lines at word n setting words number Number (other, range, inr is, none) =
    absurd (not_in lines is.0 at (omega arith) is.1)
from_range lines at word n setting words number _ fault = omega arith

-- ---- the first fault of all

-- a fault in a line behind lines that have their settings, when none in this line is told before it
told : (text : List ℕ) (at : ℕ) (kind : Kind) → at < 11 → ((k : ℕ) → k < at → (n : ℕ) × HasSetting (lines_of text) k n)
    → HasFault (lines_of text) at kind
    → at + 1 ≡ told_line at kind → ((k : Kind) → HasFault (lines_of text) at k → rank kind ≤ rank k)
    → IsFirstFault text kind (at + 1)
told text at kind setting before has line least = record { at = at; has = has; told = line; first = first }
  where
    first : (other : ℕ) → (k : Kind) → HasFault (lines_of text) other k → (at < other)
        ⊎ ((at ≡ other) × (rank kind ≤ rank k))
    first other k fault =
        elim (cases_lt other at) [
          | inl less ↦ (
              let has = before other less in
              let last = passes (lines_of text) other has.0 (omega arith) has.1 k fault in
              absurd (omega (arith, last.1)))
          | inr more ↦ elim (eq-or-lt_of_le more) [
            | inl same ↦ inr (same, least k (subst (λ (n : ℕ). HasFault (lines_of text) n k) (sym same) fault))
            | inr later ↦ inl later
          ]
        ]

pub setting_first : (text : List ℕ) (at : ℕ) (kind : Kind) → at < 11
    → ((k : ℕ) → k < at → (n : ℕ) × HasSetting (lines_of text) k n) → SettingFault (lines_of text) at kind
    → IsFirstFault text kind (at + 1)
setting_first text at NotAscii setting before fault =
    told text at NotAscii setting before (inl (refl, fault)) refl (λ k has. omega arith)
setting_first text at Unclosed setting before fault =
    told text at Unclosed setting before (inr (inr (fault.1, inr (inl setting)))) refl (unclosed fault.0)
  where
    unclosed : list_all is_printable (line_in (lines_of text) at) ≡ true → (k : Kind) → HasFault (lines_of text) at k
        → 1 ≤ rank k
    unclosed printable NotAscii (inl cut) = absurd (true≢false (sym printable ∙ cut.1))
    unclosed printable NotAscii (inr (inl other)) = absurd other.1
    unclosed printable NotAscii (inr (inr other)) = absurd other.1
    unclosed printable _ has = omega arith
setting_first text at Header setting before (ended, printable, inl none) =
    told text at Header setting before (inr (inl (ended, (setting, none.0)))) refl
    (λ k has. from_header (lines_of text) at k (not_cut (lines_of text) at printable ended k has))
setting_first text at Header setting before (ended, printable, inr (word, words, value)) = absurd value
setting_first text at Number setting before (ended, printable, inl none) = absurd (let e = none.1 in cc)
setting_first text at Number setting before (ended, printable, inr (word, words, value)) =
    told text at Number setting before
    (inr (inl (ended, (word, (key_at at).1, inl (setting, sym (ap second words), refl), value)))) refl
    (λ k has. from_number (lines_of text) at word setting words k (not_cut (lines_of text) at printable ended k has))
setting_first text at Range setting before (ended, printable, inl none) = absurd (let e = none.1 in cc)
setting_first text at Range setting before (ended, printable, inr (word, words, value)) =
    told text at Range setting before
    (inr (inl (ended, (word, (key_at at).1, value.0, inl (setting, sym (ap second words), refl), value.1, value.2))))
    refl
    (λ k has. from_range (lines_of text) at word value.0 setting words value.1 k
    (not_cut (lines_of text) at printable ended k has))
setting_first text at _ setting before (ended, printable, inl none) = absurd (let e = none.1 in cc)
setting_first text at _ setting before (ended, printable, inr (word, words, value)) = absurd value

-- ---- as the settings are read

last_line : (lines : List (List ℕ)) → ((read : List ℕ × List (List ℕ)) → ¬ IsFirstLine lines read) → 0 < length lines
    → length lines ≡ 1
last_line [] none some = absurd (omega arith)
last_line (l ∷ []) none some = refl
last_line (l ∷ m ∷ more) none some = absurd (none (l, m ∷ more) (refl, omega arith))

one_joined : (lines : List (List ℕ)) → length lines ≡ 1 → join_with_byte 10 lines ≡ line_in lines 0
one_joined [] e = absurd (omega arith)
one_joined (l ∷ []) e = refl
one_joined (l ∷ m ∷ more) e = absurd (omega arith)

pub last_piece : (text : List ℕ) → ((read : List ℕ × List (List ℕ)) → ¬ IsFirstLine (lines_of text) read)
    → (length (lines_of text) ≡ 1) × (line_in (lines_of text) 0 ≡ text)
unfolding lines_of
last_piece text none =
    let one = last_line (lines_of text) none (some_line text) in
    (one, sym (one_joined (lines_of text) one) ∙ join_with_byte-slice_split 10 text)

-- a key of the table is that of its line
pub key_is : (table : List Key) (i : ℕ) (d : Key) → map key_view table ≡ keys → i < length table
    → key_view (get_or table i d) ≡ key_at i
key_is table i d e below =
    let short : i < length keys = omega (arith, sym (ap length e), length-map table key_view) in
    key_in table i d below ∙ ap (λ (ks : List (List ℕ × (ℕ × ℕ))). get_or ks i (key_view (get_or table i d))) e
    ∙ get_or_default keys i _ _ short

pub settings_before : (lines : List (List ℕ)) (v : List ℕ) (i : ℕ) → length v ≡ i → HaveSettings lines v → (k : ℕ)
    → k < i → (n : ℕ) × HasSetting lines k n
settings_before lines v i count has k below = (slice_index v k, has k (omega (arith, count)))

within_ended : (lines : List (List ℕ)) (i : ℕ) → ((k : ℕ) → k < i → (n : ℕ) × HasSetting lines k n) → i ≤ ended lines
within_ended lines zero before = omega arith
within_ended lines (suc i) before = omega (arith, (before i (omega arith)).1.ended)

pub cut_first : (text : List ℕ) (i : ℕ) (kind : Kind) (line : ℕ) (lines : List (List ℕ)) → i < 11 → line ≡ i + 1
    → ((k : ℕ) → k < i → (n : ℕ) × HasSetting (lines_of text) k n)
    → lines ≡ drop i (lines_of text) → IsCut lines kind → IsFirstFault text kind line
cut_first text i kind line lines small at before same cut =
    subst (IsFirstFault text kind) (sym at)
    (setting_first text i kind small before
    (cut_is (lines_of text) i kind (within_ended (lines_of text) i before)
    (subst (λ (ls : List (List ℕ)). IsCut ls kind) same cut)))

-- the next line of settings
pub setting_line : (text : List ℕ) (i : ℕ) (lines left : List (List ℕ)) (line : List ℕ) → lines ≡ drop i (lines_of text)
    → IsLine lines line left → IsNth (lines_of text) i line left
setting_line text i lines left line same is = nth_line (lines_of text) i line left (sym same ∙ is.0) is.1

pub wrong_first : (text : List ℕ) (i : ℕ) (kind : Kind) (told : ℕ) (line : List ℕ) (left : List (List ℕ)) → i < 11
    → told ≡ i + 1 → ((k : ℕ) → k < i → (n : ℕ) × HasSetting (lines_of text) k n)
    → IsNth (lines_of text) i line left → list_all is_printable line ≡ true
    → IsSettingLine (key_at i) (words_of line) (Err kind) → IsFirstFault text kind told
wrong_first text i kind told line left small at before nth printable is =
    subst (IsFirstFault text kind) (sym at)
    (setting_first text i kind small before (wrong_setting (lines_of text) i line left kind nth printable is))

-- the entries of all tablets are too many, and the settings are right
pub entries_first : (text v : List ℕ) → length v ≡ 11 → HaveSettings (lines_of text) v
    → max_entries < all_entries (numbers_in v 0) → IsFirstFault text Entries 11
entries_first text v count has many =
    let lines = lines_of text in
    let each : (at : ℕ) → at < 11 → IsNumber (word_in (words_at lines at) 1) (slice_index v at) =
    λ at below. (let s = has at (omega (arith, count)) in (ap second s.words, s.few)) in
    let last = has 10 (omega (arith, count)) in
    told text 10 Entries (omega arith) (λ k below. (slice_index v k, has k (omega (arith, count))))
    (inr (inl (last.ended, (refl, v, record { count = count; each = each }, many)))) refl
    (λ k fault. ap_rank k (passes lines 10 (slice_index v 10) (omega arith) last k fault).0)
  where
    ap_rank : (k : Kind) → k ≡ Entries → rank Entries ≤ rank k
    ap_rank k e = omega (arith, ap rank e)
