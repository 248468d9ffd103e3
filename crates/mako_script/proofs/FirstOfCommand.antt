-- The first fault of a command line, from those of its words.
use Rattle.std.proofs.Common.{◌≡◌, ℕ, ◌+◌, ◌≤◌, ◌⊎◌, inl, inr, Bool, true, false, true≢false, List, ◌∷◌, length}
use Rattle.std.proofs.Common.{slice_get, Some, refl, sym, ap, subst, ◌∙◌, arith}
use Rattle.std.specs.Prelude.{◌≢◌}
use Rattle.mako_text.specs.declared.command.Argument.{Argument}
use Rattle.mako_text.specs.declared.command.Argument.TheVariants as arguments
use Rattle.mako_text.specs.declared.command.Command.{Command}
use Rattle.mako_script.specs.declared.fault.Kind.{Kind}
use Rattle.mako_script.specs.declared.fault.Kind.TheVariants as faults
use Rattle.mako_script.specs.CommandLines.{ArgumentFault, CommandFault, IsFirstOfCommand, IsLeastFault}
use Rattle.mako_script.specs.Faults.{rank}
use Rattle.mako_script.specs.Lines.{word_in, HasArgument, IsCommand, IsSpelled}
use Rattle.mako_text.specs.Names.{is_name}
use Rattle.mako_text.specs.Commands.{kinds_of, word_of}
use Rattle.mako_script.proofs.Clean.{behind_at}
use Rattle.mako_reader.proofs.Values.{by_word}

from_word : (names : List (List ℕ)) (roots : ℕ) (words : List (List ℕ)) (k : Kind) → CommandFault names roots words k
    → 3 ≤ rank k
from_word names roots words faults.NotAscii fault = absurd fault
from_word names roots words faults.Unclosed fault = absurd fault
from_word names roots words faults.Header fault = absurd fault
from_word names roots words _ fault = omega arith

-- words of no command
word_first : (names : List (List ℕ)) (roots : ℕ) (words : List (List ℕ))
    → ((command : Command) → ¬ IsCommand words command) → IsFirstOfCommand names roots words faults.Word
word_first names roots words none =
    record { has = none; least = λ other fault. from_word names roots words other fault }

pub no_name : (names : List (List ℕ)) (roots : ℕ) (words : List (List ℕ)) (word : List ℕ) (behind : List (List ℕ))
    → words ≡ word ∷ behind → ((command : Command) → word ≢ word_of command)
    → IsFirstOfCommand names roots words faults.Word
no_name names roots words word behind same none = word_first names roots words
    (λ command is. none command (ap (λ (t : List (List ℕ)). word_in t 0) (sym same) ∙ is.named))

-- ---- one command

module _ (names : List (List ℕ)) (roots : ℕ) (words : List (List ℕ)) (word : List ℕ) (behind : List (List ℕ))
    (command : Command) (same : words ≡ word ∷ behind) (named : word ≡ word_of command) where
  this_command : (other : Command) → IsCommand words other → other ≡ command
  this_command other is = by_word other command (sym is.named ∙ ap (λ (t : List (List ℕ)). word_in t 0) same ∙ named)

  pub no_count : length behind ≢ length (kinds_of command) → IsFirstOfCommand names roots words faults.Word
  no_count differ = word_first names roots words
      (λ other is. differ (omega
      (arith, is.count, ap length same, ap (λ (c : Command). length (kinds_of c)) (this_command other is))))

  place_in : (other : Command) → IsCommand words other → (place : ℕ) (kind : Argument)
      → slice_get (kinds_of other) place ≡ Some kind → slice_get (kinds_of command) place ≡ Some kind
  place_in other is place kind e = ap (λ (c : Command). slice_get (kinds_of c) place) (sym (this_command other is)) ∙ e

  spelled_at : (other : Command) → IsCommand words other → (place : ℕ) (kind : Argument)
      → slice_get (kinds_of command) place ≡ Some kind → IsSpelled kind (word_in behind place)
  spelled_at other is place kind e =
      let at = ap (λ (c : Command). slice_get (kinds_of c) place) (this_command other is) ∙ e in
      subst (IsSpelled kind) (behind_at words word behind place same) (is.spelled place kind at)

  -- a word that should be a name and is none
  no_spelling : (place : ℕ) (kind : Argument) → slice_get (kinds_of command) place ≡ Some kind
      → ArgumentFault names roots kind (word_in behind place) faults.Word
      → (other : Command) → ¬ IsCommand words other
  no_spelling place arguments.Defined e fault other is =
      true≢false (sym (spelled_at other is place arguments.Defined e) ∙ fault)
  no_spelling place arguments.Read e fault other is =
      true≢false (sym (spelled_at other is place arguments.Read e) ∙ fault)
  no_spelling place (arguments.Number greatest) e fault other is = fault

  word_or_past : (kind : Argument) (w : List ℕ) (f : Kind) → ArgumentFault names roots kind w f → (f ≡ faults.Word)
      ⊎ (4 ≤ rank f)
  word_or_past arguments.Defined w faults.Word fault = inl refl
  word_or_past arguments.Defined w faults.Names fault = inr (omega arith)
  word_or_past arguments.Defined w _ fault = absurd fault
  word_or_past arguments.Read w faults.Word fault = inl refl
  word_or_past arguments.Read w faults.Undefined fault = inr (omega arith)
  word_or_past arguments.Read w _ fault = absurd fault
  word_or_past (arguments.Number greatest) w faults.Number fault = inr (omega arith)
  word_or_past (arguments.Number greatest) w faults.Range fault = inr (omega arith)
  word_or_past (arguments.Number greatest) w _ fault = absurd fault

  -- the fault of a word is that of the line
  to_line : (kind : Argument) (w : List ℕ) (f : Kind) → ArgumentFault names roots kind w f → HasArgument words kind w
      → 4 ≤ rank f → CommandFault names roots words f
  to_line arguments.Defined w faults.Names fault has past = (w, has, fault.1, fault.2)
  to_line arguments.Defined w faults.Word fault has past = absurd (omega (arith, past))
  to_line arguments.Defined w _ fault has past = absurd fault
  to_line arguments.Read w faults.Undefined fault has past = (w, has, fault.1)
  to_line arguments.Read w faults.Word fault has past = absurd (omega (arith, past))
  to_line arguments.Read w _ fault has past = absurd fault
  to_line (arguments.Number greatest) w faults.Number fault has past = (w, greatest, has, fault)
  to_line (arguments.Number greatest) w faults.Range (n, number, inl below) has past = absurd (omega (arith, below))
  to_line (arguments.Number greatest) w faults.Range (n, number, inr above) has past =
      (w, greatest, n, has, number, above)
  to_line (arguments.Number greatest) w _ fault has past = absurd fault

  -- the fault of a line is that of a word
  record OfWord (f : Kind) : Type 0 where
    place : ℕ
    kind : Argument
    among : slice_get (kinds_of command) place ≡ Some kind
    has : ArgumentFault names roots kind (word_in behind place) f

  of_word : (kind : Argument) (w : List ℕ) (f : Kind) → HasArgument words kind w
      → (IsSpelled kind w → ArgumentFault names roots kind w f) → OfWord f
  of_word kind w f (other, place, is, among, spelled) fault =
      let at = place_in other is place kind among in
      let here = spelled ∙ behind_at words word behind place same in
      record {
        place = place;
        kind = kind;
        among = at;
        has = subst (λ (v : List ℕ). ArgumentFault names roots kind v f) here
            (fault (subst (IsSpelled kind) (sym here) (spelled_at other is place kind at)));
      }

  from_line : (f : Kind) → CommandFault names roots words f → (f ≡ faults.Word) ⊎ OfWord f
  from_line faults.Word fault = inl refl
  from_line faults.Number (w, greatest, has, none) =
      inr (of_word (arguments.Number greatest) w faults.Number has (λ spelled. none))
  from_line faults.Range (w, greatest, n, has, number, above) =
      inr (of_word (arguments.Number greatest) w faults.Range has (λ spelled. (n, number, inr above)))
  from_line faults.Undefined (name, has, none) =
      inr (of_word arguments.Read name faults.Undefined has (λ spelled. (spelled, none)))
  from_line faults.Names (name, has, none, full) =
      inr (of_word arguments.Defined name faults.Names has (λ spelled. (spelled, none, full)))
  from_line _ fault = absurd fault

  -- with as many words as the command has arguments, each name is spelled as one or the fault is a wrong word
  module _ (count : length behind ≡ length (kinds_of command)) (f : Kind)
      (first : IsLeastFault names roots (kinds_of command) behind f) where
    spelled_all : 4 ≤ rank f → (place : ℕ) → (kind : Argument) → slice_get (kinds_of command) place ≡ Some kind
        → IsSpelled kind (word_in words (place + 1))
    spelled_all past place kind e = subst (IsSpelled kind) (sym (behind_at words word behind place same))
        (by kind e (is_name (word_in behind place)) refl)
      where
        by : (k : Argument) → slice_get (kinds_of command) place ≡ Some k → (b : Bool)
            → is_name (word_in behind place) ≡ b → IsSpelled k (word_in behind place)
        by arguments.Defined e true is = is
        by arguments.Read e true is = is
        by arguments.Defined e false h =
            absurd (omega (arith, past, first.least place arguments.Defined faults.Word e h))
        by arguments.Read e false h =
            absurd (omega (arith, past, first.least place arguments.Read faults.Word e h))
        by (arguments.Number greatest) e b h = tt

    is_this : 4 ≤ rank f → IsCommand words command
    is_this past = record {
      named = ap (λ (t : List (List ℕ)). word_in t 0) same ∙ named;
      count = omega (arith, ap length same, count);
      spelled = spelled_all past;
    }

    past_word : 4 ≤ rank f → IsFirstOfCommand names roots words f
    past_word past = record {
      has = to_line first.kind (word_in behind first.place) f first.has
          (command, first.place, is_this past, first.among, sym (behind_at words word behind first.place same)) past;
      least = λ other fault. least other fault (from_line other fault);
    }
      where
        least : (other : Kind) → CommandFault names roots words other → (other ≡ faults.Word) ⊎ OfWord other
            → rank f ≤ rank other
        least other fault (inl word_fault) =
            absurd ((subst (CommandFault names roots words) word_fault fault) command (is_this past))
        least other fault (inr of) = first.least of.place of.kind other of.among of.has

    pub first_of_words : IsFirstOfCommand names roots words f
    first_of_words = elim (word_or_past first.kind (word_in behind first.place) f first.has) [
      | inl is ↦ subst (IsFirstOfCommand names roots words) (sym is)
          (word_first names roots words
          (no_spelling first.place first.kind first.among
          (subst (ArgumentFault names roots first.kind (word_in behind first.place)) is first.has)))
      | inr past ↦ past_word past
    ]
