-- What the settings give: numbers in range, and a check of sections that starts with no fault before it.
use Rattle.std.proofs.Common.{◌≡◌, ℕ, zero, suc, ◌∷◌, ◌*◌, ◌<◌, ◌≤◌, inl, inr, not, ◌&&◌, count_by, true, true≢false}
use Rattle.std.proofs.Common.{List, [], length, drop, Result, Ok, Err, refl, sym, ap, subst, ◌∙◌, arith}
use Rattle.std.specs.Prelude.{◌↔◌, ◌≢◌, is_err, slice_index}
use Rattle.std.specs.Str.{bytes_eq}
use Rattle.mako_shape.specs.declared.fault.ShapeFault.{ShapeFault}
use Rattle.mako_shape.specs.declared.fault.ShapeFault.TheVariants.{OutOfRange, TooManyEntries, TooManyWords}
use Rattle.mako_shape.specs.declared.numbers.Numbers.{Numbers}
use Rattle.mako_shape.specs.Limits.{AllInRange, IsFault, all_entries, max_entries, max_words, tested}
use Rattle.mako_shape.specs.Places.{total}
use Rattle.mako_shape.proofs.Ranges.{in_range-no_first}
use Rattle.mako_text.specs.Texts.{end_word, mutator_word}
use Rattle.mako_reader.specs.Parts.{numbers_in}
use Rattle.mako_reader.specs.Words.{IsNumber, lines_of}
use Rattle.mako_script.specs.declared.fault.Kind.{Kind}
use Rattle.mako_script.specs.declared.fault.Kind.TheVariants.{Entries, Words}
use Rattle.mako_script.specs.Checks.{HasSetting, HaveSettings}
use Rattle.mako_script.specs.Faults.{HasFault, IsFirstFault}
use Rattle.mako_script.specs.Lines.{lines_before, words_at, word_in, AreSettings}
use Rattle.mako_script.specs.States.{Between, Ends}
use Rattle.mako_script.proofs.BetweenSections.{many_words}
use Rattle.mako_script.proofs.Checked.{passes}
use Rattle.mako_script.proofs.Counts.{before_is}
use Rattle.mako_script.proofs.GoodSettings.{number_is}

pub are_settings : (lines : List (List ℕ)) (v : List ℕ) → HaveSettings lines v → length v ≡ 11 → AreSettings lines v
are_settings lines v has count = record {
  count = count;
  each = λ at below. (let s = has at (omega (arith, count)) in
      (ap (λ (ws : List (List ℕ)). word_in ws 1) s.words, s.few));
}

-- the ranges of the keys are those of a geometry
pub in_range : (lines : List (List ℕ)) (v : List ℕ) (m : ℕ) → HaveSettings lines v → length v ≡ 11 → 1 ≤ m → m ≤ 16
    → AllInRange (numbers_in v m)
in_range lines v m has count some few =
    let s : (at : ℕ) → at < 11 → HasSetting lines at (slice_index v at) = λ at below. has at (omega (arith, count)) in
    let s1 = s 1 (omega arith) in
    let s2 = s 2 (omega arith) in
    let s3 = s 3 (omega arith) in
    let s4 = s 4 (omega arith) in
    let s5 = s 5 (omega arith) in
    let s6 = s 6 (omega arith) in
    let s7 = s 7 (omega arith) in
    let s8 = s 8 (omega arith) in
    let s9 = s 9 (omega arith) in
    record {
      each = (
        some,
        few,
        (
          s1.low,
          s1.high,
          (
            s2.low,
            s2.high,
            (
              s3.low,
              s3.high,
              (
                s4.low,
                s4.high,
                (
                  s5.low,
                  s5.high,
                  (s6.low, s6.high, (s7.low, s7.high, (s8.low, s8.high, (s9.low, s9.high, tt)))),
                ),
              ),
            ),
          ),
        ),
      );
    }

-- the number of roots is in its range
pub some_roots : (lines : List (List ℕ)) (v : List ℕ) → HaveSettings lines v → length v ≡ 11 → (1 ≤ slice_index v 7)
    × (slice_index v 7 ≤ 32)
some_roots lines v has count = let s = has 7 (omega (arith, count)) in (s.low, s.high)

-- numbers in range that are no geometry, and whose entries are few, have too many words
pub too_many_words : (n : Numbers) (r : Result Numbers ShapeFault) → is_err r ≡ true
    → ((f : ShapeFault) → (r ≡ Err f) ↔ IsFault n f) → AllInRange n → ¬ (max_entries < all_entries n)
    → max_words < total n
too_many_words n (Ok s) e fault range few = absurd cc
too_many_words n (Err (OutOfRange place)) e fault range few =
    absurd (in_range-no_first (tested n) place range.each ((fault (OutOfRange place)).0 refl))
too_many_words n (Err TooManyEntries) e fault range few = absurd (few ((fault TooManyEntries).0 refl).1)
too_many_words n (Err TooManyWords) e fault range few = ((fault TooManyWords).0 refl).2

module _ (text v : List ℕ) (has : HaveSettings (lines_of text) v) (count : length v ≡ 11)
    (few : ¬ (max_entries < all_entries (numbers_in v 0))) where
  abbrev lines : List (List ℕ)
  lines = lines_of text

  setting : (at : ℕ) → at < 11 → HasSetting lines at (slice_index v at)
  setting at below = has at (omega (arith, count))

  -- the numbers of the lines are these
  pub number_at : (at n : ℕ) → at < 11 → IsNumber (word_in (words_at lines at) 1) n → n ≡ slice_index v at
  number_at at n below is =
      let s = setting at below in
      number_is (word_in (words_at lines at) 1) (slice_index v at) n
      (ap (λ (ws : List (List ℕ)). word_in ws 1) s.words) s.few is

  few_entries : (w : List ℕ) → AreSettings lines w → max_entries < all_entries (numbers_in w 0) → ⊥
  few_entries w are many =
      let servers = number_at 1 (slice_index w 1) (omega arith) (are.each 1 (omega arith)) in
      let tablets = number_at 2 (slice_index w 2) (omega arith) (are.each 2 (omega arith)) in
      let entries = number_at 3 (slice_index w 3) (omega arith) (are.each 3 (omega arith)) in
      let same : all_entries (numbers_in w 0) ≡ all_entries (numbers_in v 0) = λ i. servers i * tablets i * entries i in
      few (subst (λ (n : ℕ). max_entries < n) same many)

  clean : (other : ℕ) → other < 11 → (k : Kind) → HasFault lines other k → ⊥
  clean other below k has = by k has (passes lines other (slice_index v other) below (setting other below) k has).0
    where
      by : (k : Kind) → HasFault lines other k → k ≡ Entries → ⊥
      by k (inl cut) is = true≢false (sym (setting other below).printable ∙ cut.1)
      by k (inr (inr end)) is = omega (arith, (setting other below).ended, end.0)
      by Entries (inr (inl fault)) is = few_entries fault.1.1 fault.1.2 fault.1.3
      by _ (inr (inl fault)) is = cc

  no_lines : lines_before lines 11 ≡ []
  no_lines = before_is lines 11 (omega arith)

  pub begins : Between text (slice_index v 7) 0 0 11 (drop 11 lines)
  begins = record {
    reached = record {
      left_is = refl;
      low = omega arith;
      within = (let last = setting 10 (omega arith) in omega (arith, last.ended));
      clean = clean;
      sections_are = ap (count_by (bytes_eq mutator_word)) no_lines;
      commands_are = ap (count_by (λ w. not (bytes_eq mutator_word w) && not (bytes_eq end_word w))) no_lines;
      number = (let s = setting 7 (omega arith) in (ap (λ (ws : List (List ℕ)). word_in ws 1) s.words, s.few));
      few_sections = omega arith;
      few_commands = omega arith;
    };
    between = record { behind = omega arith; closed = λ from is. omega (arith, is.behind, is.before) };
    early = omega arith;
  }

-- whether this answer for numbers in range tells too many entries
pub tells_entries : (n : Numbers) (fault : ShapeFault) (v : List ℕ) (r : Result Numbers ShapeFault) → n ≡ numbers_in v 1
    → r ≡ Err fault
    → ((f : ShapeFault) → (r ≡ Err f) ↔ IsFault n f) → AllInRange (numbers_in v 1)
    → (max_entries < all_entries (numbers_in v 0)) → fault ≡ TooManyEntries
tells_entries n fault v r same is faults range many =
    let told : r ≡ Err TooManyEntries =
    (faults TooManyEntries).1 (subst (λ (m : Numbers). AllInRange m
    × (max_entries < all_entries m)) (sym same) (range, many)) in
    cc

module _ (text v : List ℕ) (has : HaveSettings (lines_of text) v) (count : length v ≡ 11)
    (few : ¬ (max_entries < all_entries (numbers_in v 0))) where
  -- as the code has the number of roots, the line and the lines that are left
  pub begins_at : (roots line : ℕ) (left : List (List ℕ)) → roots ≡ slice_index v 7 → line ≡ 11
      → left ≡ drop 11 (lines_of text) → Between text roots 0 0 line left
  begins_at roots line left same at behind =
      subst (λ (r : ℕ). Between text r 0 0 line left) (sym same)
      (subst (λ (n : ℕ). Between text (slice_index v 7) 0 0 n left) (sym at)
      (subst (Between text (slice_index v 7) 0 0 11) (sym behind) (begins text v has count few)))

  -- the first fault where all areas have too many words together
  pub words_first : (roots sections told m : ℕ) (n : Numbers) (r : Result Numbers ShapeFault)
      → Ends text roots sections told → m ≡ sections → sections ≢ 0 → sections ≤ 16 → n ≡ numbers_in v m
      → is_err r ≡ true → ((f : ShapeFault) → (r ≡ Err f) ↔ IsFault n f) → IsFirstFault text Words 11
  words_first roots sections told m n r ends same some small numbers fails fault =
      let whole : n ≡ numbers_in v sections = numbers ∙ ap (numbers_in v) same in
      let range = in_range (lines_of text) v sections has count (above_zero sections some) small in
      let many = too_many_words n r fails fault (subst AllInRange (sym whole) range)
      (λ more. few (subst (λ (k : Numbers). max_entries < all_entries k) whole more)) in
      many_words text roots sections ends.commands ends.line ([] ∷ []) ends.between refl (above_zero sections some) v
      (are_settings (lines_of text) v has count)
      (subst (λ (k : Numbers). max_words < total k) whole many)
    where
      above_zero : (k : ℕ) → k ≢ 0 → 1 ≤ k
      above_zero zero some = absurd (some refl)
      above_zero (suc k) some = omega arith
