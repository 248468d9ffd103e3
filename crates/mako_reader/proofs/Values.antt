-- The words of arguments and their values.
use Rattle.std.proofs.Common.{suc, ◌≡◌, ℕ, ◌<◌, Bool, true, false, true≢false, get_or, List, [], ◌∷◌, length, ◌+◌, ◌*◌}
use Rattle.std.proofs.Common.{Option, Some, refl, sym, ap, subst, ◌∙◌, arith}
use Rattle.std.specs.Prelude.{Err, Result, slice_index}
use Rattle.std.specs.Result.{IsErrAnd}
use Rattle.std.proofs.lemmas.Result.{err_from_is_err_and}
use Rattle.mako_model.specs.declared.call.Call.{Call}
use Rattle.mako_text.specs.declared.command.Command.{Command}
use Rattle.mako_text.specs.declared.command.Command.TheVariants.{New, Num, Copy, Drop, Get, Put, Show, Collect}
use Rattle.mako_text.specs.declared.command.Argument.{Argument}
use Rattle.mako_text.specs.declared.command.Argument.TheVariants.{Defined, Read, Number}
use Rattle.mako_text.specs.Commands.{FitCall, defines, kinds_of, word_of}
use Rattle.mako_reader.specs.Commands.{AreValuesOf, DefinesFirst, IsCommandLine, IsValueOf, ReadsWord}
use Rattle.mako_reader.specs.Finds.{Finds, ReadsEach, Refused}
use Rattle.mako_reader.specs.Words.{IsFirstWord}
use Rattle.mako_reader.proofs.Lists.{same_each}
use Rattle.mako_reader.specs.declared.refusal.Refusal.{Refusal}
use Rattle.mako_reader.specs.declared.refusal.Refusal.TheVariants.{Bad, Memory}
use Rattle.mako_reader.proofs.Digits.{same_number}
use Rattle.mako_reader.proofs.NameLists.{place_below, place_takes}

-- where nothing is a part, nothing is the whole
pub refuse : {Y Z : Type 0} (Is : Y → Type 0) (Whole : Z → Type 0) (e : Refusal) → ((z : Z) → Whole z → (y : Y) × Is y)
    → Refused Is e → Refused Whole e
refuse Is Whole Bad part none = λ z whole. let p = part z whole in none p.0 p.1
refuse Is Whole Memory part none = tt

-- and so where an error of the part is returned
pub stops : {X Y Z : Type 0} (view : X → Z) (r : Result X Refusal) (e : Refusal) → IsErrAnd r (λ f. f ≡ e)
    → (Is : Y → Type 0) (Whole : Z → Type 0) → ((z : Z) → Whole z → (y : Y) × Is y) → Refused Is e
    → Finds Whole view r
stops view r e fails Is Whole part none =
    let p = err_from_is_err_and r fails in
    subst (Finds Whole view) (sym (p.1 ∙ ap Err p.2)) (refuse Is Whole e part none)

abbrev some : {A : Type 0} → A → Option A
some x = Some x

pub some_is : {A : Type 0} (x y : A) → some x ≡ some y → x ≡ y
some_is x y e = cc

-- a word is one value of a kind at most
same_value : (names : List (List ℕ)) (kind : Argument) (word : List ℕ) (v w : ℕ) → IsValueOf names kind word v
    → IsValueOf names kind word w → v ≡ w
same_value names Defined word v w one two = one.1 ∙ sym two.1
same_value names Read word v w one two = some_is v w (sym one.1 ∙ two.1)
same_value names (Number greatest) word v w one two = same_number word v w one.0 two.0

pub same_word : (names : List (List ℕ)) (kind : Argument) (words : List (List ℕ)) (x y : ℕ × List (List ℕ))
    → ReadsWord names kind words x → ReadsWord names kind words y → x ≡ y
same_word names kind words x y one two =
    let both = sym one.1 ∙ two.1 in
    let word : one.0 ≡ two.0 = cc in
    let left : x.1 ≡ y.1 = cc in
    let value = same_value names kind two.0 x.0 y.0
    (subst (λ (w : List ℕ). IsValueOf names kind w x.0) word one.2) two.2 in
    (λ i. (value i, left i))

-- the first of the words, of a command that defines it
pub first_word : (b : Bool) (roots : ℕ) (names words after : List (List ℕ)) → b ≡ true
    → DefinesFirst b roots names words after → (read : List ℕ × List (List ℕ)) × IsFirstWord words read
first_word true roots names [] after e first = absurd first
first_word true roots names (word ∷ rest) after e first = ((word, rest), refl)
first_word false roots names words after e first = absurd (true≢false (sym e))

-- the values as they are read
pub values_from : (names : List (List ℕ)) (kinds : List Argument) (words : List (List ℕ)) (vs : List ℕ)
    → AreValuesOf names kinds words vs → ReadsEach (ReadsWord names) kinds words (vs, [])
values_from names [] [] [] are = (refl, refl)
values_from names (kind ∷ kinds) (word ∷ words) (v ∷ vs) are =
    (v, words, vs, refl, (word, refl, are.0), values_from names kinds words vs are.1)
values_from names _ _ _ are = absurd are

pub values_to : (names : List (List ℕ)) (kinds : List Argument) (words : List (List ℕ)) (vs : List ℕ)
    → ReadsEach (ReadsWord names) kinds words (vs, []) → AreValuesOf names kinds words vs
values_to names [] words vs each = rw (each.0, each.1) tt
values_to names (kind ∷ kinds) words vs each =
    rw (each.3, each.4.1) (each.4.2, values_to names kinds each.1 each.2 each.5)

-- there are as many words and values as kinds
pub counts : (names : List (List ℕ)) (kinds : List Argument) (words : List (List ℕ)) (vs : List ℕ)
    → AreValuesOf names kinds words vs → (length words ≡ length kinds) × (length vs ≡ length kinds)
counts names [] [] [] are = (refl, refl)
counts names (kind ∷ kinds) (word ∷ words) (v ∷ vs) are = let n = counts names kinds words vs are.1 in
    (ap suc n.0, ap suc n.1)
counts names _ _ _ are = absurd are

pub same_values : (names : List (List ℕ)) (kinds : List Argument) (words : List (List ℕ)) (vs us : List ℕ)
    → AreValuesOf names kinds words vs → AreValuesOf names kinds words us → vs ≡ us
same_values names kinds words vs us one two =
    ap (λ (read : List ℕ × List (List ℕ)). read.0)
    (same_each (ReadsWord names) (same_word names) kinds words (vs, []) (us, [])
    (values_from names kinds words vs one) (values_from names kinds words us two))

-- the words of commands differ
abbrev mark : List ℕ → ℕ
mark word = slice_index word 0 * 65536 + slice_index word 1 * 256 + slice_index word 2

pub by_word : (c d : Command) → word_of c ≡ word_of d → c ≡ d
by_word New New e = refl
by_word Num Num e = refl
by_word Copy Copy e = refl
by_word Drop Drop e = refl
by_word Get Get e = refl
by_word Put Put e = refl
by_word Show Show e = refl
by_word Collect Collect e = refl
by_word _ _ e = absurd (omega (arith, ap mark e))

-- the arguments and the names of a line of this command
pub line_parts : (roots : ℕ) (names words : List (List ℕ)) (word : List ℕ) (behind : List (List ℕ)) (command : Command)
    (read : Call × List (List ℕ)) → words ≡ word ∷ behind → word ≡ word_of command
    → (line : IsCommandLine roots names words read) → AreValuesOf names (kinds_of command) behind line.values
    × DefinesFirst (defines command) roots names behind read.1
line_parts roots names words word behind command read split named line =
    let both = sym split ∙ line.words_are in
    let same : line.command ≡ command =
    by_word line.command command (ap (λ (ws : List (List ℕ)). get_or ws 0 []) (sym both) ∙ named) in
    let rest : line.behind ≡ behind = cc in (
      subst (λ (c : Command). AreValuesOf names (kinds_of c) behind line.values) same
          (subst (λ (ws : List (List ℕ)). AreValuesOf names (kinds_of line.command) ws line.values) rest line.are),
      subst (λ (c : Command). DefinesFirst (defines c) roots names behind read.1) same
          (subst (λ (ws : List (List ℕ)). DefinesFirst (defines line.command) roots names ws read.1) rest line.next),
    )

-- a value other than a number, or of a number that is small, is a byte
abbrev IsSmall : Argument → Type 0
IsSmall Defined = Unit {0}
IsSmall Read = Unit {0}
IsSmall (Number greatest) = greatest < 256

value_fits : (names : List (List ℕ)) (kind : Argument) (word : List ℕ) (v : ℕ) → length names < 256 → IsSmall kind
    → IsValueOf names kind word v → v < 256
value_fits names Defined word v few small h = omega (arith, h.1, place_below names word)
value_fits names Read word v few small h = omega (arith, (place_takes names word v h.1).0)
value_fits names (Number greatest) word v few small h = omega (arith, h.2)

-- the values of a command's arguments are enough for its call
pub arguments_fit : (command : Command) (names words : List (List ℕ)) (vs : List ℕ)
    → AreValuesOf names (kinds_of command) words vs → length names < 256 → FitCall command vs
arguments_fit New names (w ∷ x ∷ []) (v ∷ n ∷ []) h few =
    (refl, value_fits names Defined w v few tt h.0, value_fits names (Number 14) x n few (omega arith) h.1.0)
arguments_fit Num names (w ∷ x ∷ []) (v ∷ n ∷ []) h few = (refl, value_fits names Defined w v few tt h.0)
arguments_fit Copy names (w ∷ x ∷ []) (v ∷ n ∷ []) h few =
    (refl, value_fits names Defined w v few tt h.0, value_fits names Read x n few tt h.1.0)
arguments_fit Drop names (w ∷ []) (v ∷ []) h few = (refl, value_fits names Read w v few tt h.0)
arguments_fit Get names (w ∷ x ∷ y ∷ []) (v ∷ n ∷ k ∷ []) h few = (
  refl,
  value_fits names Defined w v few tt h.0,
  value_fits names Read x n few tt h.1.0,
  value_fits names (Number 13) y k few (omega arith) h.1.1.0,
)
arguments_fit Put names (w ∷ x ∷ y ∷ []) (v ∷ n ∷ k ∷ []) h few = (
  refl,
  value_fits names Read w v few tt h.0,
  value_fits names (Number 13) x n few (omega arith) h.1.0,
  value_fits names Read y k few tt h.1.1.0,
)
arguments_fit Show names (w ∷ []) (v ∷ []) h few = (refl, value_fits names Read w v few tt h.0)
arguments_fit Collect names words vs h few = tt
arguments_fit command names words vs h few = let n = counts names (kinds_of command) words vs h in
    absurd (omega (arith, n.0, n.1))
