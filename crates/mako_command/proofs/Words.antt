-- Words of the characters a to z and 0 to 9, and the words that say a command.
use Rattle.std.proofs.Common.{◌≡◌, ℕ, ◌≤◌, ◌<◌, ◌+◌, ◌-◌, ◌*◌, ◌^◌, Bool, true, false, List, [], ◌∷◌, arith, rules}
use Rattle.std.proofs.Common.{refl, sym, subst, inl, inr, ◌∙◌}
use Rattle.std.specs.Prelude.{◌&&◌, ◌||◌, ◌==◌}
use Rattle.std.specs.Fmt.{decimal}
use Rattle.std.specs.Char.{is_ascii_lowercase, is_ascii_digit}
use Rattle.std.specs.Str.{all_ascii_digits}
use Rattle.std.specs.List.{list_all, All}
use Rattle.std.proofs.lemmas.Bool.{and_from, le-leb}
use Rattle.std.proofs.lemmas.Fmt.{decimal_nonempty, length-decimal-le, digits_decimal}
use Rattle.std.proofs.lemmas.Str.Parse.{IsNumeralModel, numerals_by_fold}
use Rattle.std.proofs.lemmas.List.Sums.{AllPass-from_list_all}
use Rattle.clap.specs.Faults.{fault_of}
use Rattle.clap.specs.Walk.{Text}
use Rattle.mako_command.specs.CommandLines.{Says, SayNothing, IsReplay, IsGen, IsCount, IsLoad, IsOrder, IsNumber}
use Rattle.mako_command.specs.CommandLines.{max_seed}
use Rattle.mako_command.specs.Tables.{is_plain, is_word, table}
use Rattle.mako_replay.specs.declared.order.Order.{Order}
use Rattle.mako_replay.specs.declared.order.Order.TheVariants.{Turns, Seed}
use Rattle.mako_command.specs.declared.line.CommandLine.{CommandLine}
use Rattle.mako_command.specs.declared.line.CommandLine.TheVariants.{Replay, Gen, Count, Load}
use Rattle.mako_command.proofs.Rows.{IsPlain, replay_taken, gen_taken, count_taken, load_taken}

-- a byte of a word is no hyphen
not_hyphen : (b : ℕ) → is_plain b ≡ true → (b == 45) ≡ false
not_hyphen b p = grind arith

abbrev holds : Bool → Type 0
holds true = Unit {0}
holds false = ⊥

pub false_is_true : false ≡ true → ⊥
false_is_true p = subst holds (sym p) tt

parts : (a b : Bool) → (a && b) ≡ true → (a ≡ true) × (b ≡ true)
parts true b p = (refl, p)
parts false b p = absurd (false_is_true p)

or_right : (a b : Bool) → b ≡ true → (a || b) ≡ true
or_right true b p = refl
or_right false b p = p

pub plain_word : (word : Text) → is_word word ≡ true → IsPlain word
plain_word [] p = absurd (false_is_true p)
plain_word (b ∷ bs) p =
    let all : list_all is_plain (b ∷ bs) ≡ true = (parts _ _ (parts _ _ p).1).1 in
    let e : (b == 45) ≡ false = not_hyphen b (parts _ _ all).0 in
    record { no_dashes = rw e refl; no_long = rw e refl; no_short = rw e refl }

pub plain_words : (words : List Text) → list_all is_word words ≡ true → All IsPlain words
plain_words words p = λ k d l. plain_word _ (AllPass-from_list_all is_word words p k d l)

-- ---- numbers are words

abbrev read_on : ℕ → List ℕ → ℕ
read_on n [] = n
read_on n (c ∷ cs) = read_on (10 * n + (c - 48)) cs

own : IsNumeralModel (λ ds. all_ascii_digits ds ≡ true) (read_on 0)
own = numerals_by_fold _ (search rules) read_on (search rules)

digits_pass : (ds : List ℕ) → all_ascii_digits ds ≡ true → list_all is_plain ds ≡ true
digits_pass [] p = refl
digits_pass (c ∷ cs) p =
    let both = parts (is_ascii_digit c) (all_ascii_digits cs) p in
    and_from (is_plain c) (list_all is_plain cs) (or_right (is_ascii_lowercase c) (is_ascii_digit c) both.0)
    (digits_pass cs both.1)

decimal_word : (n : ℕ) → n < 2 ^ 64 → is_word (decimal n) ≡ true
decimal_word n small =
    let few : n < 10 ^ 20 = omega (arith, small) in
    and_from _ _ (le-leb 1 _ (decimal_nonempty n small))
    (and_from _ _ (le-leb _ 20 (length-decimal-le 20 n (omega arith) few small))
    (digits_pass (decimal n) (digits_decimal own n small)))

number_word : (low high : ℕ) (word : Text) (n : ℕ) → high ≤ max_seed → IsNumber low high word n → is_word word ≡ true
number_word low high word n fits h =
    let small : n < 2 ^ 64 = omega (arith, h.2, fits) in
    subst (λ (w : Text). is_word w ≡ true) (sym h.0) (decimal_word n small)

order_word : (word : Text) (order : Order) → IsOrder word order → is_word word ≡ true
order_word word Turns h = subst (λ (w : Text). is_word w ≡ true) (sym h) refl
order_word word (Seed seed) h = number_word 0 max_seed word seed (omega arith) h

-- ---- words that say a command are words, and the table takes them

replay_words : (first second : Text) (line : CommandLine) → IsReplay first second line → (is_word first ≡ true)
    × (is_word second ≡ true)
replay_words first second (Replay order steps) h =
    (order_word first order h.0, number_word 0 1000000000 second steps (omega arith) h.1)
replay_words first second (Gen seed size) h = absurd h
replay_words first second (Count workers) h = absurd h
replay_words first second (Load number) h = absurd h

gen_words : (first second : Text) (line : CommandLine) → IsGen first second line → (is_word first ≡ true)
    × (is_word second ≡ true)
gen_words first second (Replay order steps) h = absurd h
gen_words first second (Gen seed size) h =
    (number_word 0 max_seed first seed (omega arith) h.0, number_word 1 4096 second size (omega arith) h.1)
gen_words first second (Count workers) h = absurd h
gen_words first second (Load number) h = absurd h

count_words : (first : Text) (line : CommandLine) → IsCount first line → is_word first ≡ true
count_words first (Replay order steps) h = absurd h
count_words first (Gen seed size) h = absurd h
count_words first (Count workers) h = number_word 1 64 first workers (omega arith) h
count_words first (Load number) h = absurd h

load_words : (first : Text) (line : CommandLine) → IsLoad first line → is_word first ≡ true
load_words first (Replay order steps) h = absurd h
load_words first (Gen seed size) h = absurd h
load_words first (Count workers) h = absurd h
load_words first (Load number) h = number_word 0 max_seed first number (omega arith) h

abbrev IsTakenWhole : List Text → Type 0
IsTakenWhole words = (list_all is_word words ≡ true) × (fault_of table words ≡ [])

pub said_words : (words : List Text) (line : CommandLine) → Says words line → IsTakenWhole words
said_words [] line h = absurd h
said_words (name ∷ []) line h = absurd h
said_words (name ∷ first ∷ []) line h = elim h [
  | inl c ↦ let p = count_words first line c.1 in
      subst (λ (n : Text). IsTakenWhole (n ∷ first ∷ [])) (sym c.0)
      (and_from _ _ p refl, count_taken first (plain_word first p))
  | inr l ↦ let p = load_words first line l.1 in
      subst (λ (n : Text). IsTakenWhole (n ∷ first ∷ [])) (sym l.0)
      (and_from _ _ p refl, load_taken first (plain_word first p))
]
said_words (name ∷ first ∷ second ∷ []) line h = elim h [
  | inl r ↦ let p = replay_words first second line r.1 in
      subst (λ (n : Text). IsTakenWhole (n ∷ first ∷ second ∷ [])) (sym r.0) (
        and_from _ _ p.0 (and_from _ _ p.1 refl),
        replay_taken first second (plain_word first p.0)
            (plain_word second p.1),
      )
  | inr g ↦ let p = gen_words first second line g.1 in
      subst (λ (n : Text). IsTakenWhole (n ∷ first ∷ second ∷ [])) (sym g.0)
      (and_from _ _ p.0 (and_from _ _ p.1 refl), gen_taken first second (plain_word first p.0) (plain_word second p.1))
]
said_words (name ∷ first ∷ second ∷ third ∷ rest) line h = absurd h

pub other_words : (words : List Text) → list_all is_word words ≡ false → SayNothing words
other_words words p = λ line h. false_is_true (sym p ∙ (said_words words line h).0)

pub faulty_words : (words : List Text) → (fault_of table words ≡ [] → ⊥) → SayNothing words
faulty_words words p = λ line h. p (said_words words line h).1
