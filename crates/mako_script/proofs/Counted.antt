-- What a check of sections has read so far, line by line.
use Rattle.std.proofs.Common.{◌≡◌, ℕ, zero, suc, ◌+◌, ◌<◌, ◌≤◌, Bool, not, true, false, List, [], ◌∷◌, ◌++◌, length}
use Rattle.std.proofs.Common.{drop, take, refl, sym, ap, subst, ◌∙◌, arith}
use Rattle.std.specs.Str.{bytes_eq}
use Rattle.std.proofs.lemmas.List.{drop_more, get_or_default, length-drop, length_push, take_all, take_more}
use Rattle.std.specs.Prelude.{is_err, slice_index, IfOk, Result, Ok, Err}
use Rattle.std.proofs.lemmas.Slice.Eq.{bytes_eq-Decides}
use Rattle.mako_model.specs.declared.call.Call.{Call}
use Rattle.mako_shape.specs.declared.fault.ShapeFault.{ShapeFault}
use Rattle.mako_shape.specs.declared.numbers.Numbers.{Numbers}
use Rattle.mako_shape.specs.Limits.{IsShape}
use Rattle.mako_script.specs.Checks.{HasSetting, HaveSettings, IsLine}
use Rattle.mako_script.specs.CommandLines.{IsRead}
use Rattle.mako_script.specs.Lines.{key_at, line_in}
use Rattle.mako_text.specs.Names.{board_word}
use Rattle.mako_text.specs.Programs.{ProgramView}
use Rattle.mako_text.specs.Scripts.{ScriptView}
use Rattle.mako_text.specs.Texts.{IsScript, end_word, mutator_word}
use Rattle.mako_text.specs.Keys.{keys}
use Rattle.mako_reader.specs.Finds.{ReadsEach}
use Rattle.mako_reader.specs.Parts.{AreProper, AreSections, IsBody, IsSetting, numbers_in, script_of}
use Rattle.mako_reader.specs.Words.{lines_of, words_of}
use Rattle.mako_reader.proofs.Header.{are_values}
use Rattle.mako_reader.proofs.Lists.{each_more}
use Rattle.mako_reader.proofs.Scripts.{proper_from, spells}
use Rattle.mako_reader.proofs.Sections.{CallsSoFar, SectionsSoFar, calls_end, calls_go, calls_start, sections_begin}
use Rattle.mako_reader.proofs.Sections.{sections_end, sections_go}

pub not_not : (b : Bool) → not b ≡ false → b ≡ true
not_not true e = refl
not_not false e = absurd cc

-- ---- commands

-- from the second line of a section on so many commands were read, with these names behind them and these lines left
pub record CallsRead (roots before commands : ℕ) (names start lines : List (List ℕ)) : Type 0 where
  pub front : List Call
  pub so_far : CallsSoFar roots start names front lines
  pub count : commands ≡ before + length front
  pub room : commands ≤ 1048576

pub calls_begin : (roots before : ℕ) (names start : List (List ℕ)) → names ≡ board_word ∷ [] → 1 ≤ roots
    → before ≤ 1048576 → CallsRead roots before before names start start
calls_begin roots before names start same some room =
    record { front = []; so_far = calls_start roots start names [] some same refl; count = omega arith; room = room }

pub calls_next : (roots before commands : ℕ) (names start lines : List (List ℕ)) (line : List ℕ)
    (left after : List (List ℕ)) → CallsRead roots before commands names start lines
    → IsLine lines line left → IsRead roots names (words_of line) after → commands < 1048576
    → CallsRead roots before (commands + 1) after start left
calls_next roots before commands names start lines line left after read is one room = record {
  front = read.front ++ one.0 ∷ [];
  so_far = calls_go roots start names read.front lines line left after one.0 read.so_far is.0 one.1;
  count = omega (arith, read.count, length_push read.front one.0);
  room = omega arith;
}

-- the section is read to its end
abbrev pub SectionIs : ℕ → ℕ → List (List ℕ) → List (List ℕ) → ℕ → Type 0
SectionIs roots before start rest commands = (p : ProgramView) × IsBody roots before start (p, rest)
    × (commands ≡ before + length p.calls)

pub calls_finish : (roots before commands : ℕ) (names start lines : List (List ℕ)) (line : List ℕ)
    (left : List (List ℕ)) → CallsRead roots before commands names start lines
    → IsLine lines line left → bytes_eq line end_word ≡ true → SectionIs roots before start left commands
calls_finish roots before commands names start lines line left read is end =
    let last = is.0 ∙ ap (λ (l : List ℕ). l ∷ left) ((bytes_eq-Decides line end_word).0 end) in (
      record { names = names; calls = read.front },
      calls_end roots before start names read.front lines left read.so_far last is.1
          (omega (arith, read.count, read.room)),
      read.count,
    )

-- ---- sections

pub record SectionsRead (roots sections commands : ℕ) (start lines : List (List ℕ)) : Type 0 where
  pub front : List ProgramView
  pub so_far : SectionsSoFar roots commands start front lines
  pub count : sections ≡ length front
  pub room : commands ≤ 1048576

pub sections_first : (roots : ℕ) (start : List (List ℕ)) → SectionsRead roots 0 0 start start
sections_first roots start = record {
  front = [];
  so_far = sections_begin roots start [] refl;
  count = refl;
  room = omega arith;
}

pub sections_next : (roots sections commands next : ℕ) (start lines : List (List ℕ)) (line : List ℕ)
    (left rest : List (List ℕ)) → SectionsRead roots sections commands start lines
    → IsLine lines line left → bytes_eq line mutator_word ≡ true → SectionIs roots commands left rest next
    → SectionsRead roots (sections + 1) next start rest
sections_next roots sections commands next start lines line left rest read is opens section =
    let first = is.0 ∙ ap (λ (l : List ℕ). l ∷ left) ((bytes_eq-Decides line mutator_word).0 opens) in
    record {
      front = read.front ++ section.0 ∷ [];
      so_far = sections_go roots commands next start read.front lines section.0 rest read.so_far
          (left, first, section.1) section.2;
      count = omega (arith, read.count, length_push read.front section.0);
      room = omega (arith, section.2, section.1.total);
    }

pub sections_finish : (roots sections commands : ℕ) (start lines : List (List ℕ))
    → SectionsRead roots sections commands start lines → lines ≡ [] ∷ [] → sections ≤ 16
    → (ps : List ProgramView) × AreSections roots start ps × (sections ≡ length ps)
sections_finish roots sections commands start lines read none few = (
  read.front,
  sections_end roots commands start read.front lines read.so_far none
      (omega (arith, read.count, few)) read.room,
  read.count,
)

-- ---- settings

setting_is : (lines : List (List ℕ)) (at n : ℕ) → HasSetting lines at n
    → IsSetting (key_at at) (drop at lines) (n, drop (at + 1) lines)
setting_is lines at n has = record {
  line = line_in lines at;
  lines_are = drop_more lines at [] (omega (arith, has.ended));
  ended = omega (arith, has.ended, length-drop (at + 1) lines);
  words = has.words;
  few = has.few;
  low = has.low;
  high = has.high;
}

settings_so_far : (lines : List (List ℕ)) (v : List ℕ) → HaveSettings lines v → length v ≡ 11 → (i : ℕ) → i ≤ 11
    → ReadsEach IsSetting (take i keys) lines (take i v, drop i lines)
settings_so_far lines v has count zero within = (refl, refl)
settings_so_far lines v has count (suc i) within =
    let before = settings_so_far lines v has count i (omega arith) in
    let one = setting_is lines i (slice_index v i) (has i (omega (arith, count))) in
    let more = each_more IsSetting keys i (key_at i) lines (drop i lines) (drop (i + 1) lines) (take i v)
    (slice_index v i) (omega arith) (get_or_default keys i _ _ (omega arith)) before one in
    let next : i + 1 ≡ suc i = omega arith in
    subst (λ (k : ℕ). ReadsEach IsSetting (take k keys) lines (take k v, drop k lines)) next
    (subst (λ (front : List ℕ). ReadsEach IsSetting (take (i + 1) keys) lines (front, drop (i + 1) lines))
    (sym (take_more v i 0 (omega (arith, count)))) more)

pub settings_are : (lines : List (List ℕ)) (v : List ℕ) → HaveSettings lines v → length v ≡ 11
    → ReadsEach IsSetting keys lines (v, drop 11 lines)
settings_are lines v has count =
    subst (λ (t : List ℕ). ReadsEach IsSetting keys lines (t, drop 11 lines)) (take_all 11 v (omega (arith, count)))
    (settings_so_far lines v has count 11 (omega arith))

-- ---- scripts

shape_is : (n : Numbers) (r : Result Numbers ShapeFault) → is_err r ≡ false → IfOk r (λ s. (s ≡ n) × IsShape s)
    → IsShape n
shape_is n (Ok s) e h = subst IsShape h.0 h.1
shape_is n (Err f) e h = absurd cc

-- the text is that of a script
pub has_script : (text v : List ℕ) (ps : List ProgramView) (n : Numbers) (left : List (List ℕ))
    (r : Result Numbers ShapeFault) → HaveSettings (lines_of text) v → length v ≡ 11
    → left ≡ drop 11 (lines_of text) → AreSections (slice_index v 7) left ps → n ≡ numbers_in v (length ps)
    → is_err r ≡ false → IfOk r (λ s. (s ≡ n) × IsShape s) → (s : ScriptView) × IsScript text s
has_script text v ps n left r has count same sections numbers fine shape =
    let lines = lines_of text in
    let settings = settings_are lines v has count in
    let programs : AreProper (slice_index v 7) ps = record {
      few = sections.few;
      commands = sections.total;
      programs = sections.proper;
    } in
    let proper = proper_from v ps (are_values lines (v, drop 11 lines) settings) programs
    (subst IsShape numbers (shape_is n r fine shape)) in
    let behind = subst (λ (ls : List (List ℕ)). AreSections (slice_index v 7) ls ps) same sections in
    (script_of v ps, record { proper = proper; spelled = spells text v (drop 11 lines) ps settings behind })
