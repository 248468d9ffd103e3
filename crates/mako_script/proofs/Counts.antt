-- The lines before one, counted: what one line more adds, and where the first fault of a text is.
use Rattle.std.proofs.Common.{◌≡◌, ℕ, ◌+◌, ◌-◌, ◌<◌, ◌≤◌, inl, inr, Bool, true, false, true≢false, List, [], length}
use Rattle.std.proofs.Common.{take, drop, get_or, count_by, sym, ap, subst, ◌∙◌, arith, eq-or-lt_of_le}
use Rattle.std.specs.List.{list_all}
use Rattle.std.proofs.lemmas.Bool.{cases_lt}
use Rattle.std.proofs.lemmas.List.{drop-take, get_or-drop, length-drop}
use Rattle.std.proofs.lemmas.List.Sums.{count_by_more_no, count_by_more_yes}
use Rattle.mako_script.specs.declared.fault.Kind.{Kind}
use Rattle.mako_reader.specs.Words.{lines_of}
use Rattle.mako_script.specs.Faults.{HasFault, IsFirstFault, LineFault, is_printable, rank, told_line}
use Rattle.mako_script.specs.Lines.{line_in, lines_before}
use Rattle.mako_script.specs.States.{IsClean}
use Rattle.mako_script.proofs.Checked.{IsNth}

-- a fault behind lines without one, with none in its place that is told before it
pub first_here : (text : List ℕ) (line : ℕ) (kind : Kind) (told : ℕ) → IsClean (lines_of text) line
    → HasFault (lines_of text) line kind → told ≡ told_line line kind
    → ((k : Kind) → HasFault (lines_of text) line k → rank kind ≤ rank k) → IsFirstFault text kind told
first_here text line kind told clean has is least = record {
  at = line;
  has = has;
  told = is;
  first = λ other k h. elim (cases_lt other line) [
    | inl below ↦ absurd (clean other below k h)
    | inr past ↦ elim (eq-or-lt_of_le past) [
      | inl same ↦ inr (same, least k (subst (λ (at : ℕ). HasFault (lines_of text) at k) (sym same) h))
      | inr later ↦ inl later
    ]
  ];
}

-- an ended line that is printable has only the faults of its words
pub of_line : (lines : List (List ℕ)) (at : ℕ) (line : List ℕ) (left : List (List ℕ)) → IsNth lines at line left
    → list_all is_printable line ≡ true
    → (k : Kind) → HasFault lines at k → LineFault lines at k
of_line lines at line left nth printable k (inl cut) =
    absurd (true≢false (sym printable ∙ ap (list_all is_printable) (sym nth.line_is) ∙ cut.1))
of_line lines at line left nth printable k (inr (inl fault)) = fault.1
of_line lines at line left nth printable k (inr (inr end)) = absurd (omega (arith, end.0, nth.before_last))

pub clean_more : (lines : List (List ℕ)) (line : ℕ) → IsClean lines line → ((k : Kind) → HasFault lines line k → ⊥)
    → IsClean lines (line + 1)
clean_more lines line before here other below k has = elim (cases_lt other line) [
  | inl less ↦ before other less k has
  | inr past ↦ (let same : other ≡ line = omega arith in here k (subst (λ (at : ℕ). HasFault lines at k) same has))
]

-- ---- lines counted

pub before_is : (lines : List (List ℕ)) (line : ℕ) → 11 ≤ line
    → lines_before lines line ≡ take (line - 11) (drop 11 lines)
before_is lines line low =
    let same : line ≡ 11 + (line - 11) = omega arith in
    ap (λ (n : ℕ). drop 11 (take n lines)) same ∙ drop-take 11 (line - 11) lines

nth_behind : (lines : List (List ℕ)) (line : ℕ) → 11 ≤ line → get_or (drop 11 lines) (line - 11) [] ≡ line_in lines line
nth_behind lines line low =
    let same : 11 + (line - 11) ≡ line = omega arith in
    get_or-drop 11 lines (line - 11) [] ∙ ap (line_in lines) same

next_before : (lines : List (List ℕ)) (line : ℕ) → 11 ≤ line
    → lines_before lines (line + 1) ≡ take (line - 11 + 1) (drop 11 lines)
next_before lines line low =
    let next : line + 1 - 11 ≡ line - 11 + 1 = omega arith in
    before_is lines (line + 1) (omega arith) ∙ ap (λ (n : ℕ). take n (drop 11 lines)) next

pub counted_yes : (t : List ℕ → Bool) (lines : List (List ℕ)) (line : ℕ) → 11 ≤ line → line < length lines
    → t (line_in lines line) ≡ true
    → count_by t (lines_before lines (line + 1)) ≡ count_by t (lines_before lines line) + 1
counted_yes t lines line low within is =
    ap (count_by t) (next_before lines line low)
    ∙ count_by_more_yes t (drop 11 lines) (line - 11) [] (omega (arith, length-drop 11 lines))
    (ap t (nth_behind lines line low) ∙ is)
    ∙ ap (λ (ls : List (List ℕ)). count_by t ls + 1) (sym (before_is lines line low))

pub counted_no : (t : List ℕ → Bool) (lines : List (List ℕ)) (line : ℕ) → 11 ≤ line → line < length lines
    → t (line_in lines line) ≡ false
    → count_by t (lines_before lines (line + 1)) ≡ count_by t (lines_before lines line)
counted_no t lines line low within is =
    ap (count_by t) (next_before lines line low)
    ∙ count_by_more_no t (drop 11 lines) (line - 11) [] (omega (arith, length-drop 11 lines))
    (ap t (nth_behind lines line low) ∙ is)
    ∙ ap (count_by t) (sym (before_is lines line low))
