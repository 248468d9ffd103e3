use Rattle.std.proofs.Common.{length, ◌≡◌, ◌++◌, ◌∷◌, [], true, false, List, ℕ, Bor, map, get_or, sym, ap, subst, refl}
use Rattle.std.proofs.Common.{◌∙◌, arith}
use Rattle.std.proofs.lemmas.List.{length-map}
use Rattle.mako_script.specs.CommandLines.{IsLeastFault, IsRead, AreArguments, is_among}
use Rattle.mako_text.specs.declared.command.Argument.{Argument}
use Rattle.mako_script.specs.Lines.{word_in}
use Rattle.mako_text.specs.Commands.{defines, kinds_of}
use Rattle.mako_reader.specs.Words.{words_of}
use Rattle.mako_script.proofs.Commands.{first_of, has_command, has_room, reads_known, reads_new, reads_plain}
use Rattle.mako_script.proofs.Clean.{no_fault}
use Rattle.mako_script.proofs.FirstOfCommand.{first_of_words}
use Rattle.mako_script.proofs.check.command.Goals as goal
use Rattle.mako_script.proofs.check.command.Goals.{else-defines-via-then-defines+then-not-is_among+else-names-roots}
use Rattle.mako_script.proofs.check.command.Goals.{else-defines-via-then-defines+else-not-is_among}
use Rattle.mako_script.proofs.check.command.Goals.{else-defines-via-else-defines}

abbrev word_now : Bor (List ℕ) → List ℕ
word_now w = w.now

-- the first of the words
abbrev front : List (Bor (List ℕ)) → List ℕ
front ws = (get_or ws 0 (record { ref_ptr = (0, 0); now = [] })).now

pub returns-then-names-roots-clause-read : goal.returns-then-names-roots-clause-read
returns-then-names-roots-clause-read c =
    let names = map word_now c.args.names.now in
    let items = c.in-Some-arguments.words.items in
    let behind = map word_now items in
    let words = words_of c.args.line.now in
    let are = subst (λ (ws : List (Bor (List ℕ))). AreArguments names c.args.roots c.arguments-kinds.result.now
    (map word_now ws)) c.deref.ensures.0 c.in_default-arguments_fault.ensures.none in
    let has = has_command c.args.roots names words c.in-Some.command behind c.split_word.result.0.now _
    c.arguments-kinds.result.now
    c.split_word.ensures c.in-Some-arguments.ensures.words c.in-Some.ensures.some (length-map items word_now
    ∙ c.in-Some-arguments.ensures.count) c.arguments-kinds.ensures are in
    let some : defines c.in-Some.command ≡ true = sym c.defines.ensures ∙ c.if-defines.true in
    let first = first_of word_now items (record { ref_ptr = (0, 0); now = [] }) refl in
    let unknown : is_among names (word_in behind 0) ≡ false =
    ap (is_among names) (first ∙ ap front (sym c.deref-then-defines.ensures.0)) ∙ sym c.is_among.ensures
    ∙ c.if-not-is_among.true in
    subst (λ (w : List ℕ). IsRead c.args.roots names words (names ++ w ∷ [])) (first
    ∙ ap front (sym c.deref-then-names-roots.ensures.0))
    (reads_new c.args.roots names words c.in-Some.command behind has some unknown
    (omega (arith, length-map c.args.names.now word_now)))

pub returns-clause-read : goal.returns-clause-read
returns-clause-read c =
    let names = map word_now c.args.names.now in
    let items = c.in-Some-arguments.words.items in
    let behind = map word_now items in
    let words = words_of c.args.line.now in
    let are = subst (λ (ws : List (Bor (List ℕ))). AreArguments names c.args.roots c.arguments-kinds.result.now
    (map word_now ws)) c.deref.ensures.0 c.in_default-arguments_fault.ensures.none in
    let has = has_command c.args.roots names words c.in-Some.command behind c.split_word.result.0.now _
    c.arguments-kinds.result.now
    c.split_word.ensures c.in-Some-arguments.ensures.words c.in-Some.ensures.some (length-map items word_now
    ∙ c.in-Some-arguments.ensures.count) c.arguments-kinds.ensures are in
    let first = first_of word_now items (record { ref_ptr = (0, 0); now = [] }) refl in
    elim c.else-defines.branch [
      | else-defines-via-then-defines+then-not-is_among+else-names-roots w ↦ (
          let some : defines c.in-Some.command ≡ true = sym c.defines.ensures ∙ w.if-defines.true in
          let unknown : is_among names (word_in behind 0) ≡ false =
          ap (is_among names) (first ∙ ap front (sym w.deref-then-defines.ensures.0)) ∙ sym w.is_among.ensures
          ∙ w.if-not-is_among.true in
          let room = has_room c.args.roots names words c.in-Some.command behind has some unknown in
          absurd (omega (arith, room, w.if-names-roots.false, length-map c.args.names.now word_now)))
      | else-defines-via-then-defines+else-not-is_among w ↦ (
          let some : defines c.in-Some.command ≡ true = sym c.defines.ensures ∙ w.if-defines.true in
          reads_known c.args.roots names words c.in-Some.command behind has some (ap (is_among names) (first
          ∙ ap front (sym w.deref-then-defines.ensures.0)) ∙ sym w.is_among.ensures ∙ w.if-not-is_among.false))
      | else-defines-via-else-defines w ↦ reads_plain c.args.roots names words c.in-Some.command behind has
          (sym c.defines.ensures ∙ w.if-defines.false)
    ]

pub returns-clause-none : goal.returns-clause-none
returns-clause-none c = λ fault has.
    let names = map word_now c.args.names.now in
    no_fault c.args.roots names (words_of c.args.line.now) names (returns-clause-read c) fault has

pub returns-then-names-roots-clause-none : goal.returns-then-names-roots-clause-none
returns-then-names-roots-clause-none c = λ fault has.
    let names = map word_now c.args.names.now in
    let after = names ++ front c.deref-then-names-roots.result.now ∷ [] in
    no_fault c.args.roots names (words_of c.args.line.now) after (returns-then-names-roots-clause-read c) fault has

pub returns-in-Some-arguments_fault-clause-fault : goal.returns-in-Some-arguments_fault-clause-fault
returns-in-Some-arguments_fault-clause-fault c =
    let names = map word_now c.args.names.now in
    let items = c.in-Some-arguments.words.items in
    let behind = map word_now items in
    let kinds : c.arguments-kinds.result.now ≡ kinds_of c.in-Some.command = c.arguments-kinds.ensures in
    let least = subst (λ (ws : List (Bor (List ℕ))). IsLeastFault names c.args.roots c.arguments-kinds.result.now
    (map word_now ws) c.in-Some-arguments_fault.kind) c.deref.ensures.0
    c.in-Some-arguments_fault.ensures.some in
    first_of_words names c.args.roots (words_of c.args.line.now) c.split_word.result.0.now behind c.in-Some.command
    (c.split_word.ensures
    ∙ ap (λ (t : List (List ℕ)). c.split_word.result.0.now ∷ t) (sym c.in-Some-arguments.ensures.words))
    c.in-Some.ensures.some
    (length-map items word_now ∙ c.in-Some-arguments.ensures.count
    ∙ ap (λ (ks : List Argument). length ks) kinds) c.in-Some-arguments_fault.kind
    (subst (λ (ks : List Argument). IsLeastFault names c.args.roots ks behind c.in-Some-arguments_fault.kind) kinds
    least)
