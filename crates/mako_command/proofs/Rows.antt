-- What the table makes of words.
use Rattle.std.proofs.Common.{◌≡◌, Bool, true, false, List, [], ◌∷◌, ◌++◌, Some, None, codes, arith, refl, sym, ap}
use Rattle.std.proofs.Common.{subst, inl, inr, ◌∙◌, length, suc, append-nil, append_assoc}
use Rattle.std.specs.Prelude.{fold}
use Rattle.std.specs.Str.{bytes_eq}
use Rattle.std.specs.List.{All}
use Rattle.std.proofs.lemmas.Slice.Eq.{bytes_eq-Decides}
use Rattle.clap.specs.Lexer.{long_of, short_of}
use Rattle.clap.specs.Faults.{fault_of, walk_fault, is_simple_and_free}
use Rattle.clap.specs.Simple.{Shape, is_simple, subcommand_of, built, names_of}
use Rattle.clap.specs.Kinds.{Kinds}
use Rattle.clap.specs.Walk.{Names, Rule, Text, Walk, idle, walked, nothing_held}
use Rattle.clap.specs.declared.error.kind.ErrorKind.{ErrorKind}
use Rattle.clap.specs.declared.error.kind.ErrorKind.TheVariants as kind
use Rattle.clap.proofs.OnLiterals.{clap_on_literals}
use Rattle.mako_command.specs.Tables.{table, given, IsPair, IsSingle, IsTaken}

pub is_simple_and_free-table : is_simple_and_free table ≡ true
is_simple_and_free-table = refl

pub is_simple-table : is_simple table ≡ true
is_simple-table = refl

no_words : fault_of table [] ≡ kind.MissingSubcommand ∷ []
unfolding clap_on_literals
no_words = refl

-- a word that is no flag
pub record IsPlain (word : Text) : Type 0 where
  pub no_dashes : bytes_eq word (45 ∷ 45 ∷ []) ≡ false
  pub no_long : long_of word ≡ None
  pub no_short : short_of word ≡ None

-- ---- what follows the name of a command

-- a walk that stopped at a command, and the words behind its name
abbrev stopped_at : Text → List Text → Walk
stopped_at name words = record {
  held = nothing_held;
  waiting = idle;
  position = 1;
  is_trailing = false;
  stopped = Some (name, words);
}

stopped_walk : (c : List Rule) (names : Names) (name : Text) (words rest : List Text) →
    fold (walked c names) (stopped_at name words) rest ≡ stopped_at name (words ++ rest)
unfolding clap_on_literals
stopped_walk c names name words [] = ap (stopped_at name) (sym (append-nil words))
stopped_walk c names name words (word ∷ rest) =
    stopped_walk c names name (words ++ word ∷ []) rest ∙ ap (stopped_at name) (append_assoc words (word ∷ []) rest)

stopped_fault : (s : Shape) (names : Names) (name : Text) (words rest : List Text)
    → walk_fault s names (stopped_at name words) rest ≡ []
unfolding clap_on_literals
stopped_fault s names name words [] = refl
stopped_fault s names name words (word ∷ rest) = stopped_fault s names name (words ++ word ∷ []) rest

-- ---- words that are taken

pub replay_taken : (first second : Text) → IsPlain first → IsPlain second
    → fault_of table (codes "replay" ∷ first ∷ second ∷ []) ≡ []
unfolding clap_on_literals
replay_taken first second p q = rw (p.no_dashes, p.no_long, p.no_short, q.no_dashes, q.no_long, q.no_short) refl

replay_rows : (first second : Text) → IsPlain first → IsPlain second →
    subcommand_of table (codes "replay" ∷ first ∷ second ∷ []) ≡ Some
    (codes "replay", given (codes "order") first ∷ given (codes "steps") second ∷ [])
unfolding clap_on_literals
replay_rows first second p q = rw (p.no_dashes, p.no_long, p.no_short, q.no_dashes, q.no_long, q.no_short) refl

pub gen_taken : (first second : Text) → IsPlain first → IsPlain second
    → fault_of table (codes "gen" ∷ first ∷ second ∷ []) ≡ []
unfolding clap_on_literals
gen_taken first second p q = rw (p.no_dashes, p.no_long, p.no_short, q.no_dashes, q.no_long, q.no_short) refl

gen_rows : (first second : Text) → IsPlain first → IsPlain second →
    subcommand_of table (codes "gen" ∷ first ∷ second ∷ []) ≡ Some
    (codes "gen", given (codes "seed") first ∷ given (codes "size") second ∷ [])
unfolding clap_on_literals
gen_rows first second p q = rw (p.no_dashes, p.no_long, p.no_short, q.no_dashes, q.no_long, q.no_short) refl

pub count_taken : (first : Text) → IsPlain first → fault_of table (codes "count" ∷ first ∷ []) ≡ []
unfolding clap_on_literals
count_taken first p = rw (p.no_dashes, p.no_long, p.no_short) refl

count_rows : (first : Text) → IsPlain first →
    subcommand_of table (codes "count" ∷ first ∷ []) ≡ Some (codes "count", given (codes "workers") first ∷ [])
unfolding clap_on_literals
count_rows first p = rw (p.no_dashes, p.no_long, p.no_short) refl

pub load_taken : (first : Text) → IsPlain first → fault_of table (codes "load" ∷ first ∷ []) ≡ []
unfolding clap_on_literals
load_taken first p = rw (p.no_dashes, p.no_long, p.no_short) refl

load_rows : (first : Text) → IsPlain first →
    subcommand_of table (codes "load" ∷ first ∷ []) ≡ Some (codes "load", given (codes "number") first ∷ [])
unfolding clap_on_literals
load_rows first p = rw (p.no_dashes, p.no_long, p.no_short) refl

-- ---- words that are refused

other_refused : (name : Text) (rest : List Text) → IsPlain name → bytes_eq (codes "replay") name ≡ false
    → bytes_eq (codes "gen") name ≡ false →
    bytes_eq (codes "count") name ≡ false → bytes_eq (codes "load") name ≡ false →
    fault_of table (name ∷ rest) ≡ kind.UnknownArgument ∷ kind.InvalidSubcommand ∷ []
unfolding clap_on_literals
other_refused name rest p r g c l = rw (r, g, c, l, p.no_dashes, p.no_long, p.no_short) refl

replay_alone : fault_of table (codes "replay" ∷ []) ≡ kind.MissingRequiredArgument ∷ []
unfolding clap_on_literals
replay_alone = refl

replay_short : (first : Text) → IsPlain first
    → fault_of table (codes "replay" ∷ first ∷ []) ≡ kind.MissingRequiredArgument ∷ []
unfolding clap_on_literals
replay_short first p = rw (p.no_dashes, p.no_long, p.no_short) refl

replay_long : (first second third : Text) (rest : List Text) → IsPlain first → IsPlain second → IsPlain third →
    fault_of table (codes "replay" ∷ first ∷ second ∷ third ∷ rest) ≡ kind.UnknownArgument ∷ []
unfolding clap_on_literals
replay_long first second third rest p q r =
    rw (
      stopped_walk [] (names_of (built table)) (codes "replay") (first ∷ second ∷ third ∷ []) rest,
      stopped_fault (built table).top (names_of (built table)) (codes "replay") (first ∷ second ∷ third ∷ []) rest,
      p.no_dashes,
      p.no_long,
      p.no_short,
      q.no_dashes,
      q.no_long,
      q.no_short,
      r.no_dashes,
      r.no_long,
      r.no_short,
    ) refl

gen_alone : fault_of table (codes "gen" ∷ []) ≡ kind.MissingRequiredArgument ∷ []
unfolding clap_on_literals
gen_alone = refl

gen_short : (first : Text) → IsPlain first
    → fault_of table (codes "gen" ∷ first ∷ []) ≡ kind.MissingRequiredArgument ∷ []
unfolding clap_on_literals
gen_short first p = rw (p.no_dashes, p.no_long, p.no_short) refl

gen_long : (first second third : Text) (rest : List Text) → IsPlain first → IsPlain second → IsPlain third →
    fault_of table (codes "gen" ∷ first ∷ second ∷ third ∷ rest) ≡ kind.UnknownArgument ∷ []
unfolding clap_on_literals
gen_long first second third rest p q r =
    rw (
      stopped_walk [] (names_of (built table)) (codes "gen") (first ∷ second ∷ third ∷ []) rest,
      stopped_fault (built table).top (names_of (built table)) (codes "gen") (first ∷ second ∷ third ∷ []) rest,
      p.no_dashes,
      p.no_long,
      p.no_short,
      q.no_dashes,
      q.no_long,
      q.no_short,
      r.no_dashes,
      r.no_long,
      r.no_short,
    ) refl

count_alone : fault_of table (codes "count" ∷ []) ≡ kind.MissingRequiredArgument ∷ []
unfolding clap_on_literals
count_alone = refl

count_long : (first second : Text) (rest : List Text) → IsPlain first → IsPlain second
    → fault_of table (codes "count" ∷ first ∷ second ∷ rest) ≡ kind.UnknownArgument ∷ []
unfolding clap_on_literals
count_long first second rest p q =
    rw (
      stopped_walk [] (names_of (built table)) (codes "count") (first ∷ second ∷ []) rest,
      stopped_fault (built table).top (names_of (built table)) (codes "count") (first ∷ second ∷ []) rest,
      p.no_dashes,
      p.no_long,
      p.no_short,
      q.no_dashes,
      q.no_long,
      q.no_short,
    ) refl

load_alone : fault_of table (codes "load" ∷ []) ≡ kind.MissingRequiredArgument ∷ []
unfolding clap_on_literals
load_alone = refl

load_long : (first second : Text) (rest : List Text) → IsPlain first → IsPlain second
    → fault_of table (codes "load" ∷ first ∷ second ∷ rest) ≡ kind.UnknownArgument ∷ []
unfolding clap_on_literals
load_long first second rest p q =
    rw (
      stopped_walk [] (names_of (built table)) (codes "load") (first ∷ second ∷ []) rest,
      stopped_fault (built table).top (names_of (built table)) (codes "load") (first ∷ second ∷ []) rest,
      p.no_dashes,
      p.no_long,
      p.no_short,
      q.no_dashes,
      q.no_long,
      q.no_short,
    ) refl

-- ---- all words

fails : {k : ErrorKind} {ks words : Kinds} → words ≡ k ∷ ks → words ≡ [] → ⊥
fails {k} {ks} e none =
    let same : length (k ∷ ks) ≡ length {A = ErrorKind} [] = ap length (sym e ∙ none) in
    omega (arith, same)

after_replay : (words : List Text) → All IsPlain words → fault_of table (codes "replay" ∷ words) ≡ [] →
    IsPair (codes "replay") (codes "order") (codes "steps") (codes "replay" ∷ words)
    (subcommand_of table (codes "replay" ∷ words))
after_replay [] plain none = absurd (fails replay_alone none)
after_replay (first ∷ []) plain none = absurd (fails (replay_short first (plain 0 first (omega arith))) none)
after_replay (first ∷ second ∷ []) plain none = record {
  first = first;
  second = second;
  words_are = refl;
  taken_as = replay_rows first second (plain 0 first (omega arith)) (plain 1 first (omega arith));
}
after_replay (first ∷ second ∷ third ∷ rest) plain none =
    absurd (fails (replay_long first second third rest (plain 0 first (omega arith)) (plain 1 first (omega arith))
    (plain 2 first (omega arith))) none)

after_gen : (words : List Text) → All IsPlain words → fault_of table (codes "gen" ∷ words) ≡ [] →
    IsPair (codes "gen") (codes "seed") (codes "size") (codes "gen" ∷ words) (subcommand_of table (codes "gen" ∷ words))
after_gen [] plain none = absurd (fails gen_alone none)
after_gen (first ∷ []) plain none = absurd (fails (gen_short first (plain 0 first (omega arith))) none)
after_gen (first ∷ second ∷ []) plain none = record {
  first = first;
  second = second;
  words_are = refl;
  taken_as = gen_rows first second (plain 0 first (omega arith)) (plain 1 first (omega arith));
}
after_gen (first ∷ second ∷ third ∷ rest) plain none =
    absurd (fails (gen_long first second third rest (plain 0 first (omega arith)) (plain 1 first (omega arith))
    (plain 2 first (omega arith))) none)

after_count : (words : List Text) → All IsPlain words → fault_of table (codes "count" ∷ words) ≡ [] →
    IsSingle (codes "count") (codes "workers") (codes "count" ∷ words) (subcommand_of table (codes "count" ∷ words))
after_count [] plain none = absurd (fails count_alone none)
after_count (first ∷ []) plain none = record {
  first = first;
  words_are = refl;
  taken_as = count_rows first (plain 0 first (omega arith));
}
after_count (first ∷ second ∷ rest) plain none =
    absurd (fails (count_long first second rest (plain 0 first (omega arith)) (plain 1 first (omega arith))) none)

after_load : (words : List Text) → All IsPlain words → fault_of table (codes "load" ∷ words) ≡ [] →
    IsSingle (codes "load") (codes "number") (codes "load" ∷ words) (subcommand_of table (codes "load" ∷ words))
after_load [] plain none = absurd (fails load_alone none)
after_load (first ∷ []) plain none = record {
  first = first;
  words_are = refl;
  taken_as = load_rows first (plain 0 first (omega arith));
}
after_load (first ∷ second ∷ rest) plain none =
    absurd (fails (load_long first second rest (plain 0 first (omega arith)) (plain 1 first (omega arith))) none)

-- the name decides
named : (name : Text) (rest : List Text) → IsPlain name → All IsPlain rest → fault_of table (name ∷ rest) ≡ [] →
    (r g c l : Bool) → bytes_eq (codes "replay") name ≡ r → bytes_eq (codes "gen") name ≡ g
    → bytes_eq (codes "count") name ≡ c → bytes_eq (codes "load") name ≡ l →
    IsTaken (name ∷ rest) (subcommand_of table (name ∷ rest))
named name rest p plain none true g c l is_replay is_gen is_count is_load =
    let same : codes "replay" ≡ name = (bytes_eq-Decides (codes "replay") name).0 is_replay in
    subst (λ (n : Text). fault_of table (n ∷ rest) ≡ []
    → IsTaken (n ∷ rest) (subcommand_of table (n ∷ rest))) same (λ e. inl (after_replay rest plain e)) none
named name rest p plain none false true c l is_replay is_gen is_count is_load =
    let same : codes "gen" ≡ name = (bytes_eq-Decides (codes "gen") name).0 is_gen in
    subst (λ (n : Text). fault_of table (n ∷ rest) ≡ []
    → IsTaken (n ∷ rest) (subcommand_of table (n ∷ rest))) same (λ e. inr (inl (after_gen rest plain e))) none
named name rest p plain none false false true l is_replay is_gen is_count is_load =
    let same : codes "count" ≡ name = (bytes_eq-Decides (codes "count") name).0 is_count in
    subst (λ (n : Text). fault_of table (n ∷ rest) ≡ []
    → IsTaken (n ∷ rest) (subcommand_of table (n ∷ rest))) same
    (λ e. inr (inr (inl (after_count rest plain e)))) none
named name rest p plain none false false false true is_replay is_gen is_count is_load =
    let same : codes "load" ≡ name = (bytes_eq-Decides (codes "load") name).0 is_load in
    subst (λ (n : Text). fault_of table (n ∷ rest) ≡ []
    → IsTaken (n ∷ rest) (subcommand_of table (n ∷ rest))) same
    (λ e. inr (inr (inr (after_load rest plain e)))) none
named name rest p plain none false false false false is_replay is_gen is_count is_load =
    absurd (fails (other_refused name rest p is_replay is_gen is_count is_load) none)

-- words without a fault are taken as a command
pub taken : (words : List Text) → All IsPlain words → fault_of table words ≡ []
    → IsTaken words (subcommand_of table words)
taken [] plain none = absurd (fails no_words none)
taken (name ∷ rest) plain none =
    named name rest (plain 0 name (omega arith))
    (λ k d l. plain (suc k) d (omega arith)) none _ _ _ _ refl refl refl refl
