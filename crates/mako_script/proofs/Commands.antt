-- A command line whose words may all stand there is read.
use Rattle.std.proofs.Common.{◌≡◌, ℕ, suc, ◌<◌, ◌⊎◌, inl, inr, Bool, true, false, true≢false, ◌||◌, List, [], ◌∷◌, ◌++◌}
use Rattle.std.proofs.Common.{length, map, get_or, slice_get, Option, Some, None, refl, sym, ap, subst, ◌∙◌, arith}
use Rattle.std.specs.Prelude.{unwrap_or}
use Rattle.std.specs.Bool.{one_answer}
use Rattle.std.specs.List.{list_any}
use Rattle.std.specs.Str.{bytes_eq}
use Rattle.std.proofs.lemmas.List.Folds.{list_any_at}
use Rattle.std.proofs.lemmas.Slice.Eq.{bytes_eq-Decides}
use Rattle.mako_text.specs.declared.command.Argument.{Argument}
use Rattle.mako_text.specs.declared.command.Argument.TheVariants as arguments
use Rattle.mako_text.specs.declared.command.Command.{Command}
use Rattle.mako_text.specs.declared.command.Command.TheVariants.{New, Num, Copy, Get, Collect}
use Rattle.mako_script.specs.CommandLines.{AreArguments, IsArgument, IsRead, is_among}
use Rattle.mako_script.specs.Lines.{word_in}
use Rattle.mako_text.specs.Commands.{call_of, defines, kinds_of, word_of}
use Rattle.mako_reader.specs.Commands.{AreValuesOf, Defines, DefinesFirst, IsValueOf, place_at}
use Rattle.mako_text.specs.Names.{is_name}
use Rattle.mako_reader.proofs.NameLists.{no_place, place_takes}

-- ---- names

any_of_map : {X Y : Type 0} (t : Y → Bool) (f : X → Y) (xs : List X)
    → list_any t (map f xs) ≡ list_any (λ x. t (f x)) xs
any_of_map t f [] = refl
any_of_map t f (x ∷ xs) = ap (λ (b : Bool). t (f x) || b) (any_of_map t f xs)

pub among_all : {X : Type 0} (f : X → List ℕ) (xs : List X) (word : List ℕ)
    → list_any (λ x. bytes_eq (f x) word) xs ≡ is_among (map f xs) word
among_all f xs word = sym (any_of_map (λ (name : List ℕ). bytes_eq name word) f xs)

pub turned : (word name : List ℕ) → bytes_eq name word ≡ bytes_eq word name
turned word name =
    one_answer (bytes_eq name word) (bytes_eq word name) (bytes_eq-Decides name word)
    (λ e. sym ((bytes_eq-Decides word name).0 e), λ same. (bytes_eq-Decides word name).1 (sym same))

pub among_any : (names : List (List ℕ)) (word : List ℕ) → is_among names word ≡ list_any (bytes_eq word) names
among_any [] word = refl
among_any (name ∷ names) word =
    (λ i. turned word name i || list_any (λ (n : List ℕ). bytes_eq n word) names)
    ∙ ap (λ (b : Bool). bytes_eq word name || b) (among_any names word)

-- a name that is among others has a place there
pub among_place : (names : List (List ℕ)) (word : List ℕ) → is_among names word ≡ true → (root : ℕ)
    × (place_at names word ≡ Some root)
among_place names word is = by (place_at names word) refl
  where
    by : (o : Option ℕ) → place_at names word ≡ o → (root : ℕ) × (place_at names word ≡ Some root)
    by (Some root) e = (root, e)
    by None e = absurd (true≢false (sym is ∙ among_any names word ∙ no_place names word e))

pub not_placed : (names : List (List ℕ)) (word : List ℕ) → is_among names word ≡ false → place_at names word ≡ None
not_placed names word none = by (place_at names word) refl
  where
    by : (o : Option ℕ) → place_at names word ≡ o → place_at names word ≡ None
    by None e = e
    by (Some root) e =
        let h = place_takes names word root e in
        let here = (bytes_eq-Decides word (get_or names root [])).1 (sym h.1) in
        absurd (true≢false (sym (list_any_at (bytes_eq word) names root [] h.0 here) ∙ sym (among_any names word)
        ∙ none))

-- ---- arguments

argument_reads : (names : List (List ℕ)) (roots : ℕ) (kind : Argument) (word : List ℕ)
    → IsArgument names roots kind word → (v : ℕ) × IsValueOf names kind word v
argument_reads names roots arguments.Defined word is = (unwrap_or (place_at names word) (length names), (is.0, refl))
argument_reads names roots arguments.Read word is = let p = among_place names word is.1 in (p.0, (is.0, p.1))
argument_reads names roots (arguments.Number greatest) word is = is

arguments_read : (names : List (List ℕ)) (roots : ℕ) (kinds : List Argument) (words : List (List ℕ))
    → length words ≡ length kinds → AreArguments names roots kinds words
    → (vs : List ℕ) × AreValuesOf names kinds words vs
arguments_read names roots [] [] same are = ([], tt)
arguments_read names roots [] (w ∷ ws) same are = absurd (omega arith)
arguments_read names roots (k ∷ ks) [] same are = absurd (omega arith)
arguments_read names roots (k ∷ ks) (w ∷ ws) same are =
    let one = argument_reads names roots k w (are 0 k refl) in
    let others = arguments_read names roots ks ws (omega arith) (λ place kind e. are (suc place) kind e) in
    (one.0 ∷ others.0, (one.1, others.1))

-- ---- lines

pub first_kind : (command : Command) → defines command ≡ true → slice_get (kinds_of command) 0 ≡ Some arguments.Defined
first_kind New e = refl
first_kind Num e = refl
first_kind Copy e = refl
first_kind Get e = refl
first_kind _ e = absurd cc

-- the words of a command's line, with its arguments
pub record HasCommand (roots : ℕ) (names : List (List ℕ)) (words : List (List ℕ)) (command : Command)
    (behind : List (List ℕ)) : Type 0 where
  pub word : List ℕ
  pub words_are : words ≡ word ∷ behind
  pub named : word ≡ word_of command
  pub count : length behind ≡ length (kinds_of command)
  pub are : AreArguments names roots (kinds_of command) behind

pub has_command : (roots : ℕ) (names words : List (List ℕ)) (command : Command) (behind : List (List ℕ)) (word : List ℕ)
    (rest : List (List ℕ)) (kinds : List Argument)
    → words ≡ word ∷ rest → behind ≡ rest → word ≡ word_of command → length behind ≡ length kinds
    → kinds ≡ kinds_of command
    → AreArguments names roots kinds behind → HasCommand roots names words command behind
has_command roots names words command behind word rest kinds words_are same named count kinds_are are = record {
  word = word;
  words_are = words_are ∙ ap (λ (t : List (List ℕ)). word ∷ t) (sym same);
  named = named;
  count = count ∙ ap (λ (ks : List Argument). length ks) kinds_are;
  are = subst (λ (ks : List Argument). AreArguments names roots ks behind) kinds_are are;
}

reads : (roots : ℕ) (names words : List (List ℕ)) (command : Command) (behind after : List (List ℕ))
    → HasCommand roots names words command behind
    → DefinesFirst (defines command) roots names behind after → IsRead roots names words after
reads roots names words command behind after has next =
    let values = arguments_read names roots (kinds_of command) behind has.count has.are in (
      call_of command values.0,
      record {
        command = command;
        behind = behind;
        values = values.0;
        words_are = has.words_are
            ∙ ap (λ (w : List ℕ). w ∷ behind) has.named;
        are = values.1;
        call_is = refl;
        next = next;
      },
    )

-- a command that defines its first argument
reads_first : (roots : ℕ) (names words : List (List ℕ)) (command : Command) (behind after : List (List ℕ))
    → HasCommand roots names words command behind → defines command ≡ true
    → Defines roots names (word_in behind 0) after → IsRead roots names words after
reads_first roots names words command behind after has some next =
    reads roots names words command behind after has
    (subst (λ (b : Bool). DefinesFirst b roots names behind after) (sym some)
    (by behind (omega (arith, has.count, some_kinds command some))
    (has.are 0 arguments.Defined (first_kind command some)).0 next))
  where
    some_kinds : (c : Command) → defines c ≡ true → 0 < length (kinds_of c)
    some_kinds Collect e = absurd cc
    some_kinds _ e = omega arith

    by : (ws : List (List ℕ)) → 0 < length ws → is_name (word_in ws 0) ≡ true → Defines roots names (word_in ws 0) after
        → DefinesFirst true roots names ws after
    by [] none spelled made = absurd (omega arith)
    by (w ∷ ws) any spelled made = (spelled, made)

pub reads_plain : (roots : ℕ) (names words : List (List ℕ)) (command : Command) (behind : List (List ℕ))
    → HasCommand roots names words command behind
    → defines command ≡ false → IsRead roots names words names
reads_plain roots names words command behind has none =
    reads roots names words command behind names has
    (subst (λ (b : Bool). DefinesFirst b roots names behind names) (sym none) refl)

pub reads_known : (roots : ℕ) (names words : List (List ℕ)) (command : Command) (behind : List (List ℕ))
    → HasCommand roots names words command behind
    → defines command ≡ true → is_among names (word_in behind 0) ≡ true → IsRead roots names words names
reads_known roots names words command behind has some known =
    let place = among_place names (word_in behind 0) known in
    reads_first roots names words command behind names has some
    (inl ((λ none. (let no = sym place.1 ∙ none in cc)), refl))

pub reads_new : (roots : ℕ) (names words : List (List ℕ)) (command : Command) (behind : List (List ℕ))
    → HasCommand roots names words command behind
    → defines command ≡ true → is_among names (word_in behind 0) ≡ false → length names < roots
    → IsRead roots names words (names ++ word_in behind 0 ∷ [])
reads_new roots names words command behind has some unknown room =
    reads_first roots names words command behind (names ++ word_in behind 0 ∷
    []) has some (inr (not_placed names (word_in behind 0) unknown, room, refl))

-- an argument that is not among the names has room
pub has_room : (roots : ℕ) (names words : List (List ℕ)) (command : Command) (behind : List (List ℕ))
    → HasCommand roots names words command behind
    → defines command ≡ true → is_among names (word_in behind 0) ≡ false → length names < roots
has_room roots names words command behind has some unknown =
    by (has.are 0 arguments.Defined (first_kind command some)).1
  where
    by : (is_among names (word_in behind 0) ≡ true) ⊎ (length names < roots) → length names < roots
    by (inl known) = absurd (true≢false (sym known ∙ unknown))
    by (inr room) = room

pub first_of : {X : Type 0} (f : X → List ℕ) (xs : List X) (d : X) → f d ≡ [] → word_in (map f xs) 0 ≡ f (get_or xs 0 d)
first_of f [] d none = sym none
first_of f (x ∷ xs) d none = refl
