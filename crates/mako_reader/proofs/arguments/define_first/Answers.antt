use Rattle.std.proofs.Common.{◌≡◌, ◌∷◌, Bool, true, List, ℕ, Result, Ok, Err, refl, sym, subst}
use Rattle.mako_text.specs.Names.{is_name, texts}
use Rattle.mako_reader.specs.declared.refusal.Refusal.{Refusal}
use Rattle.mako_reader.specs.Commands.{Defines, DefinesFirst, IsName}
use Rattle.mako_reader.specs.Finds.{Finds}
use Rattle.mako_reader.specs.Words.{IsFirstWord, words_behind}
use Rattle.mako_reader.proofs.Values.{first_word, refuse, stops}
use Rattle.mako_reader.proofs.arguments.define_first.Goals as goal

pub returns-in_err-word : goal.returns-in_err-word
returns-in_err-word c =
    let words = words_behind c.args.text.now in
    let names = texts c.args.names.now in
    (stops _ c.from_residual.result _ c.from_residual.ensures.1 (IsFirstWord words)
    (DefinesFirst c.args.defines c.args.roots names words)
    (λ after first. first_word c.args.defines c.args.roots names words after c.if-not-defines.false first)
    c.in_err-word.ensures.read)

-- the name that is defined is the first word
named : (b : Bool) (roots : ℕ) (names words after : List (List ℕ)) (word : List ℕ) (rest : List (List ℕ)) → b ≡ true
    → words ≡ word ∷ rest → DefinesFirst b roots names words after → (is_name word ≡ true)
    × Defines roots names word after
named b roots names words after word rest e split first =
    subst (λ (q : Bool). DefinesFirst q roots names (word ∷ rest) after) e
    (subst (λ (ws : List (List ℕ)). DefinesFirst b roots names ws after) split first)

pub returns-in_err-name : goal.returns-in_err-name
returns-in_err-name c =
    let words = words_behind c.args.text.now in
    let names = texts c.args.names.now in
    let word = c.in_ok-word.word.now in
    (stops _ c.from_residual-in_err-name.result _ c.from_residual-in_err-name.ensures.1 (IsName word)
    (DefinesFirst c.args.defines c.args.roots names words)
    (λ after first. (
      word,
      (
        (named c.args.defines c.args.roots names words after word
            (words_behind c.in_ok-word.field-0-1.now) c.if-not-defines.false c.in_ok-word.ensures.read first).0,
        refl,
      ),
    ))
    c.in_err-name.ensures)

found : {X : Type 0} (b : Bool) (roots : ℕ) (names words : List (List ℕ)) (word name : List ℕ) (rest : List (List ℕ))
    (view : X → List (List ℕ)) (r : Result X Refusal) → b ≡ true → words ≡ word ∷ rest → IsName word name
    → Finds (Defines roots names name) view r → Finds (DefinesFirst b roots names words) view r
found b roots names words word name rest view (Ok x) true_is split is made =
    rw (true_is, split) (is.0, subst (λ (n : List ℕ). Defines roots names n (view x)) (sym is.1) made)
found b roots names words word name rest view (Err e) true_is split is none =
    refuse (Defines roots names name) (DefinesFirst b roots names words) e
    (λ after first. (
      after,
      subst (λ (n : List ℕ). Defines roots names n after) is.1
          (named b roots names words after word rest true_is split first).1,
    )) none

pub returns : goal.returns
returns c =
    found c.args.defines c.args.roots (texts c.args.names.now)
    (words_behind c.args.text.now) c.in_ok-word.word.now c.in_ok-name.field-0.now
    (words_behind c.in_ok-word.field-0-1.now) _ c.define.result
    c.if-not-defines.false c.in_ok-word.ensures.read c.in_ok-name.ensures c.define.ensures
