-- A text that is printed word by word and line by line.
use Rattle.std.proofs.Common.{◌≡◌, ℕ, ◌+◌, ◌<◌, ◌≤◌, List, [], ◌∷◌, ◌++◌, length, drop, get_or, map, sym, ap, refl, ◌∙◌}
use Rattle.std.proofs.Common.{append_assoc, arith}
use Rattle.std.specs.List.{flat_map, join_with_byte, zip}
use Rattle.std.proofs.lemmas.List.{append-nil, drop_more, drop_all}
use Rattle.std.proofs.lemmas.List.Folds.{flat_map-map}
use Rattle.std.proofs.lemmas.Grind.{flat_map-append}
use Rattle.std.proofs.lemmas.Slice.Zip.{get_or-zip, length-zip}
use Rattle.mako_model.specs.declared.call.Call.{Call}
use Rattle.mako_text.specs.Programs.{ProgramView}
use Rattle.mako_text.specs.Commands.{arguments_of, command_of, word_of}
use Rattle.mako_text.specs.Texts.{argument_word, argument_words, command_words, end_word, mutator_word, section_lines}
use Rattle.mako_text.specs.Texts.{line_text}

-- words behind others, each behind a space
abbrev words_text : List (List ℕ) → List ℕ
words_text words = flat_map (λ w. 32 ∷ w) words

-- words with one space between them are the first and each other behind a space
joined_words : (w : List ℕ) (ws : List (List ℕ)) → join_with_byte 32 (w ∷ ws) ≡ w ++ words_text ws
joined_words w [] = sym (append-nil w)
joined_words w (v ∷ ws) = ap (λ (t : List ℕ). w ++ 32 ∷ t) (joined_words v ws)

pub line_of_words : (start first mid last : List ℕ) (names : List (List ℕ)) (call : Call)
    → first ≡ start ++ word_of (command_of call)
    → mid ≡ first ++ flat_map (λ a. 32 ∷ argument_word names a) (arguments_of call)
    → last ≡ mid ++ 10 ∷ [] → last ≡ start ++ line_text (command_words names call)
line_of_words start first mid last names call a b c =
    let word = word_of (command_of call) in
    let behind = words_text (argument_words names call) in
    let arguments : mid ≡ first ++ behind = b
    ∙ ap (λ (t : List ℕ). first ++ t) (sym (flat_map-map (λ w. 32 ∷ w) (argument_word names) (arguments_of call))) in
    let words : join_with_byte 32 (command_words names call) ≡ word ++ behind =
    joined_words word (argument_words names call) in
    c ∙ ap (λ (t : List ℕ). t ++ 10 ∷ []) (arguments ∙ ap (λ (t : List ℕ). t ++ behind) a)
    ∙ ap (λ (t : List ℕ). t ++ 10 ∷ []) (append_assoc start word behind)
    ∙ append_assoc start (word ++ behind) (10 ∷ [])
    ∙ ap (λ (t : List ℕ). start ++ (t ++ 10 ∷ [])) (sym words)

-- one more pair of two lists is added, and what is left to add is the others
pub pair_goes_on : {X Y : Type 0} (f : X × Y → List ℕ) (xs : List X) (ys : List Y) (i : ℕ) (x : X)
    (y : Y) (before after whole : List ℕ) → length xs ≡ length ys → i < length xs
    → before ++ flat_map f (drop i (zip xs ys)) ≡ whole → after ≡ before ++ f (get_or xs i x, get_or ys i y)
    → after ++ flat_map f (drop (i + 1) (zip xs ys)) ≡ whole
pair_goes_on {X} {Y} f xs ys i x y before after whole same within h a =
    let both = zip xs ys in
    let here : after ≡ before ++ f (get_or both i (x, y)) = a
    ∙ ap (λ (p : X × Y). before ++ f p) (sym (get_or-zip xs ys i (x, y) within (omega arith))) in
    rw here (append_assoc before (f (get_or both i (x, y))) (flat_map f (drop (i + 1) both))
    ∙ ap (λ (t : List ℕ). before ++ t)
    (ap (flat_map f) (sym (drop_more both i (x, y) (omega (arith, length-zip xs ys))))) ∙ h)

pub pairs_gone : {X Y : Type 0} (f : X × Y → List ℕ) (xs : List X) (ys : List Y) (i : ℕ) (text whole : List ℕ)
    → length xs ≤ i → text ++ flat_map f (drop i (zip xs ys)) ≡ whole → text ≡ whole
pairs_gone f xs ys i text whole past h = sym (append-nil text)
    ∙ ap (λ t. text ++ flat_map f t) (sym (drop_all i (zip xs ys) (omega (arith, length-zip xs ys)))) ∙ h

-- a section is its first line, its calls and its last line
pub section_of_calls : (start first mid last : List ℕ) (p : ProgramView) → first ≡ start ++ (mutator_word ++ 10 ∷ [])
    → mid ≡ first ++ flat_map (λ c. line_text (command_words p.names c)) p.calls
    → last ≡ mid ++ (end_word ++ 10 ∷ []) → last ≡ start ++ flat_map line_text (section_lines p)
section_of_calls start first mid last p a b c =
    let calls = flat_map (λ c. line_text (command_words p.names c)) p.calls in
    let one : flat_map line_text (map (command_words p.names) p.calls ++ (end_word ∷ []) ∷
    []) ≡ calls ++ (end_word ++ 10 ∷ []) =
    flat_map-append line_text (map (command_words p.names) p.calls) ((end_word ∷ []) ∷ [])
    ∙ ap (λ (t : List ℕ). t ++ (end_word ++ 10 ∷ [])) (flat_map-map line_text (command_words p.names) p.calls) in
    c ∙ ap (λ (t : List ℕ). t ++ (end_word ++ 10 ∷ [])) (b ∙ ap (λ (t : List ℕ). t ++ calls) a
    ∙ append_assoc start (mutator_word ++ 10 ∷ []) calls)
    ∙ append_assoc start ((mutator_word ++ 10 ∷ []) ++ calls) (end_word ++ 10 ∷ [])
    ∙ ap (λ (t : List ℕ). start ++ t) (append_assoc (mutator_word ++ 10 ∷ []) calls (end_word ++ 10 ∷ [])
    ∙ ap (λ (t : List ℕ). (mutator_word ++ 10 ∷ []) ++ t) (sym one))

-- all sections behind the settings
pub all_sections : (lines : List (List (List ℕ))) (ps : List ProgramView)
    → flat_map line_text (lines ++ flat_map section_lines ps) ≡ flat_map line_text lines ++ flat_map
    (λ p. flat_map line_text (section_lines p)) ps
all_sections lines ps = flat_map-append line_text lines (flat_map section_lines ps)
    ∙ ap (λ (t : List ℕ). flat_map line_text lines ++ t) (nested ps)
  where
    nested : (ps : List ProgramView)
        → flat_map line_text (flat_map section_lines ps) ≡ flat_map (λ p. flat_map line_text (section_lines p)) ps
    nested [] = refl
    nested (p ∷ ps) = flat_map-append line_text (section_lines p) (flat_map section_lines ps)
        ∙ ap (λ (t : List ℕ). flat_map line_text (section_lines p) ++ t) (nested ps)
