-- What the table makes of words, and what is made of its matches.
use Rattle.std.proofs.Common.{◌≡◌, ◌∙◌, Bool, true, false, List, [], ◌∷◌, Option, Some, None, codes, arith, refl, sym}
use Rattle.std.proofs.Common.{ap, subst, inl, inr, is_some, get_or, true≢false}
use Rattle.std.specs.List.{list_all}
use Rattle.std.specs.Str.{bytes_eq}
use Rattle.std.proofs.lemmas.Slice.Eq.{bytes_eq-Decides}
use Rattle.clap.specs.Words.{App, Row, Text, HasMatchesOf, HasKind, IsAmong, fault_of, first_of, first_value, is_simple}
use Rattle.clap.specs.Words.{is_simple_and_free, kind_of, rows_of, subcommand_of}
use Rattle.clap.specs.Words.{subcommand_rows_of}
use Rattle.clap.specs.Kinds.{Kinds}
use Rattle.clap.specs.declared.error.Error.{Error}
use Rattle.clap.specs.declared.error.kind.ErrorKind.{ErrorKind}
use Rattle.clap.specs.declared.error.kind.ErrorKind.TheVariants as kind
use Rattle.clap.specs.declared.parser.matches.ArgMatches.{ArgMatches}
use Rattle.clap.specs.declared.parser.matches.Found.{Found}
use Rattle.clap.proofs.WalkLemmas.{first_value-rows}
use Rattle.mako_command.specs.CommandLines.{Finds, IsReplay, IsGen, IsCount, IsLoad, Says, SayNothing}
use Rattle.mako_command.specs.Tables.{IsPair, IsSingle, IsTaken, given, is_word, table}
use Rattle.mako_command.specs.declared.line.CommandLine.{CommandLine}
use Rattle.mako_command.proofs.Rows.{is_simple-table, is_simple_and_free-table, taken}
use Rattle.mako_command.proofs.Words.{faulty_words, plain_words}

-- ---- the parse

pub taken_matches : (words : List Text) (app : App) (m : ArgMatches) → app ≡ table → list_all is_word words ≡ true
    → HasMatchesOf app words m →
    (is_simple_and_free app ≡ true → fault_of app words ≡ []) → IsTaken words (subcommand_rows_of m)
taken_matches words app m is_table all has passes =
    let rows = (has (ap is_simple is_table ∙ is_simple-table)).1 in
    let none : fault_of table words ≡ [] =
    subst (λ (a : App). fault_of a words ≡ []) is_table (passes (ap is_simple_and_free is_table
    ∙ is_simple_and_free-table)) in
    subst (λ (t : Option (Text × List Row)). IsTaken words t) (sym (rows
    ∙ ap (λ (a : App). subcommand_of a words) is_table))
    (taken words (plain_words words all) none)

none_among : (k : ErrorKind) (kinds : Kinds) → kinds ≡ [] → IsAmong k kinds → ⊥
none_among k kinds none among = subst (λ (ks : Kinds). IsAmong k ks) none among

pub refused_matches : (words : List Text) (app : App) (e : Error) → app ≡ table
    → (is_simple_and_free app ≡ true → HasKind (fault_of app words) e) →
    (kind_of e ≡ kind.OutOfMemory → ⊥) → SayNothing words
refused_matches words app e is_table fails found_memory =
    let has : HasKind (fault_of table words) e =
    subst (λ (a : App). HasKind (fault_of a words) e) is_table (fails (ap is_simple_and_free is_table
    ∙ is_simple_and_free-table)) in
    faulty_words words (λ none. elim has [
      | inl memory ↦ found_memory memory
      | inr among ↦ none_among (kind_of e)
          (fault_of table words) none among
    ])

-- ---- the name and the matches of the subcommand

abbrev text_in : Option Text → Text
text_in None = []
text_in (Some text) = text

is_none : {A : Type 0} (x : A) → None ≡ Some x → ⊥
is_none {A} x e = true≢false (sym (ap (λ (o : Option A). is_some o) e))

-- ---- the arguments of the subcommand

abbrev name_in : Option (Text × List Row) → Text
name_in None = []
name_in (Some p) = p.0

abbrev rows_within : Option (Text × List Row) → List Row
rows_within None = []
rows_within (Some p) = p.1

-- the matches have these two arguments
pub record HasPair (name one two : Text) (words : List Text) (f : Found) : Type 0 where
  pub first : Text
  pub second : Text
  pub words_are : words ≡ name ∷ first ∷ second ∷ []
  pub first_is : first_value f one ≡ Some first
  pub second_is : first_value f two ≡ Some second

pub record HasSingle (name one : Text) (words : List Text) (f : Found) : Type 0 where
  pub first : Text
  pub words_are : words ≡ name ∷ first ∷ []
  pub first_is : first_value f one ≡ Some first

pair : (name one two : Text) (words : List Text) (n : Text) (f : Found)
    → ((a b : Text) → first_of one (given one a ∷ given two b ∷ []) ≡ Some a) →
    ((a b : Text) → first_of two (given one a ∷ given two b ∷ []) ≡ Some b)
    → IsPair name one two words (Some (n, rows_of f)) → HasPair name one two words f
pair name one two words n f at_one at_two p = record {
  first = p.first;
  second = p.second;
  words_are = p.words_are;
  first_is = first_value-rows f one ∙ ap (λ (rows : List Row). first_of one rows) (ap rows_within p.taken_as)
      ∙ at_one p.first p.second;
  second_is = first_value-rows f two ∙ ap (λ (rows : List Row). first_of two rows) (ap rows_within p.taken_as)
      ∙ at_two p.first p.second;
}

single : (name one : Text) (words : List Text) (n : Text) (f : Found)
    → ((a : Text) → first_of one (given one a ∷ []) ≡ Some a) →
    IsSingle name one words (Some (n, rows_of f)) → HasSingle name one words f
single name one words n f at_one p = record {
  first = p.first;
  words_are = p.words_are;
  first_is = first_value-rows f one ∙ ap (λ (rows : List Row). first_of one rows) (ap rows_within p.taken_as)
      ∙ at_one p.first;
}

-- a test of two texts
pub equal : (a b : Text) (r : Bool) → r ≡ bytes_eq a b → r ≡ true → a ≡ b
equal a b r is holds = (bytes_eq-Decides a b).0 (sym is ∙ holds)

pub unequal : (a b : Text) (r : Bool) → r ≡ bytes_eq a b → r ≡ false → a ≡ b → ⊥
unequal a b r is failed same = true≢false (sym ((bytes_eq-Decides a b).1 same) ∙ sym is ∙ failed)

-- names that begin differently
differ : (a b : Text) → a ≡ b → (get_or a 0 0 ≡ get_or b 0 0 → ⊥) → ⊥
differ a b e heads = heads (ap (λ (t : Text). get_or t 0 0) e)

pub replay_given : (words : List Text) (n : Text) (f : Found) → n ≡ codes "replay"
    → IsTaken words (Some (n, rows_of f)) →
    HasPair (codes "replay") (codes "order") (codes "steps") words f
replay_given words n f named t = elim t [
  | inl p ↦ pair _ _ _ words n f (λ a b. refl) (λ a b. refl) p
  | inr rest ↦ elim rest [
    | inl p ↦ absurd (differ _ _ (sym named ∙ ap name_in p.taken_as) (λ e. omega (arith, e)))
    | inr singles ↦ elim singles [
      | inl s ↦ absurd (differ _ _ (sym named ∙ ap name_in s.taken_as) (λ e. omega (arith, e)))
      | inr s ↦ absurd (differ _ _ (sym named ∙ ap name_in s.taken_as) (λ e. omega (arith, e)))
    ]
  ]
]

pub gen_given : (words : List Text) (n : Text) (f : Found) → n ≡ codes "gen" → IsTaken words (Some (n, rows_of f)) →
    HasPair (codes "gen") (codes "seed") (codes "size") words f
gen_given words n f named t = elim t [
  | inl p ↦ absurd (differ _ _ (sym named ∙ ap name_in p.taken_as) (λ e. omega (arith, e)))
  | inr rest ↦ elim rest [
    | inl p ↦ pair _ _ _ words n f (λ a b. refl) (λ a b. refl) p
    | inr singles ↦ elim singles [
      | inl s ↦ absurd (differ _ _ (sym named ∙ ap name_in s.taken_as) (λ e. omega (arith, e)))
      | inr s ↦ absurd (differ _ _ (sym named ∙ ap name_in s.taken_as) (λ e. omega (arith, e)))
    ]
  ]
]

pub count_given : (words : List Text) (n : Text) (f : Found) → n ≡ codes "count" → IsTaken words (Some (n, rows_of f)) →
    HasSingle (codes "count") (codes "workers") words f
count_given words n f named t = elim t [
  | inl p ↦ absurd (differ _ _ (sym named ∙ ap name_in p.taken_as) (λ e. omega (arith, e)))
  | inr rest ↦ elim rest [
    | inl p ↦ absurd (differ _ _ (sym named ∙ ap name_in p.taken_as) (λ e. omega (arith, e)))
    | inr singles ↦ elim singles [
      | inl s ↦ single _ _ words n f (λ a. refl) s
      | inr s ↦ absurd (differ _ _ (sym named ∙ ap name_in s.taken_as) (λ e. omega (arith, e)))
    ]
  ]
]

pub load_given : (words : List Text) (n : Text) (f : Found) → (n ≡ codes "replay" → ⊥) → (n ≡ codes "gen" → ⊥)
    → (n ≡ codes "count" → ⊥) →
    IsTaken words (Some (n, rows_of f)) → HasSingle (codes "load") (codes "number") words f
load_given words n f no_replay no_gen no_count t = elim t [
  | inl p ↦ absurd (no_replay (ap name_in p.taken_as))
  | inr rest ↦ elim rest [
    | inl p ↦ absurd (no_gen (ap name_in p.taken_as))
    | inr singles ↦ elim singles [
      | inl s ↦ absurd (no_count (ap name_in s.taken_as))
      | inr s ↦ single _ _ words n f (λ a. refl) s
    ]
  ]
]

-- ---- what the words say

pub replay_says : (words : List Text) (f : Found) (first second : Text) (r : Option CommandLine)
    → HasPair (codes "replay") (codes "order") (codes "steps") words f →
    Some first ≡ first_value f (codes "order") → Some second ≡ first_value f (codes "steps")
    → Finds (IsReplay first second) r → Finds (Says words) r
replay_says words f first second r has at_one at_two found =
    let one : first ≡ has.first = ap text_in (at_one ∙ has.first_is) in
    let two : second ≡ has.second = ap text_in (at_two ∙ has.second_is) in
    subst (λ (ws : List Text). Finds (Says ws) r) (sym has.words_are)
    (subst (λ (a : Text). Finds (Says (codes "replay" ∷ a ∷ has.second ∷ [])) r) one
    (subst (λ (b : Text). Finds (Says (codes "replay" ∷ first ∷ b ∷ [])) r) two (go r found)))
  where
    go : (r : Option CommandLine) → Finds (IsReplay first second) r
        → Finds (Says (codes "replay" ∷ first ∷ second ∷ [])) r
    go (Some line) h = inl (refl, h)
    go None h = λ line s. elim s [ inl p ↦ h line p.1 | inr p ↦ differ _ _ p.0 (λ e. omega (arith, e)) ]

pub gen_says : (words : List Text) (f : Found) (first second : Text) (r : Option CommandLine)
    → HasPair (codes "gen") (codes "seed") (codes "size") words f →
    Some first ≡ first_value f (codes "seed") → Some second ≡ first_value f (codes "size")
    → Finds (IsGen first second) r → Finds (Says words) r
gen_says words f first second r has at_one at_two found =
    let one : first ≡ has.first = ap text_in (at_one ∙ has.first_is) in
    let two : second ≡ has.second = ap text_in (at_two ∙ has.second_is) in
    subst (λ (ws : List Text). Finds (Says ws) r) (sym has.words_are)
    (subst (λ (a : Text). Finds (Says (codes "gen" ∷ a ∷ has.second ∷ [])) r) one
    (subst (λ (b : Text). Finds (Says (codes "gen" ∷ first ∷ b ∷ [])) r) two (go r found)))
  where
    go : (r : Option CommandLine) → Finds (IsGen first second) r → Finds (Says (codes "gen" ∷ first ∷ second ∷ [])) r
    go (Some line) h = inr (refl, h)
    go None h = λ line s. elim s [ inl p ↦ differ _ _ p.0 (λ e. omega (arith, e)) | inr p ↦ h line p.1 ]

pub count_says : (words : List Text) (f : Found) (first : Text) (r : Option CommandLine)
    → HasSingle (codes "count") (codes "workers") words f →
    Some first ≡ first_value f (codes "workers") → Finds (IsCount first) r → Finds (Says words) r
count_says words f first r has at_one found =
    let one : first ≡ has.first = ap text_in (at_one ∙ has.first_is) in
    subst (λ (ws : List Text). Finds (Says ws) r) (sym has.words_are)
    (subst (λ (a : Text). Finds (Says (codes "count" ∷ a ∷ [])) r) one (go r found))
  where
    go : (r : Option CommandLine) → Finds (IsCount first) r → Finds (Says (codes "count" ∷ first ∷ [])) r
    go (Some line) h = inl (refl, h)
    go None h = λ line s. elim s [ inl p ↦ h line p.1 | inr p ↦ differ _ _ p.0 (λ e. omega (arith, e)) ]

pub load_says : (words : List Text) (f : Found) (first : Text) (r : Option CommandLine)
    → HasSingle (codes "load") (codes "number") words f →
    Some first ≡ first_value f (codes "number") → Finds (IsLoad first) r → Finds (Says words) r
load_says words f first r has at_one found =
    let one : first ≡ has.first = ap text_in (at_one ∙ has.first_is) in
    subst (λ (ws : List Text). Finds (Says ws) r) (sym has.words_are)
    (subst (λ (a : Text). Finds (Says (codes "load" ∷ a ∷ [])) r) one (go r found))
  where
    go : (r : Option CommandLine) → Finds (IsLoad first) r → Finds (Says (codes "load" ∷ first ∷ [])) r
    go (Some line) h = inr (refl, h)
    go None h = λ line s. elim s [ inl p ↦ differ _ _ p.0 (λ e. omega (arith, e)) | inr p ↦ h line p.1 ]

-- an argument that was given is found
pub not_missing : (f : Found) (id text : Text) → None ≡ first_value f id → first_value f id ≡ Some text → ⊥
not_missing f id text missing is = is_none text (missing ∙ is)
