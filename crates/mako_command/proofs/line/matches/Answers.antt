use Rattle.std.proofs.Common.{◌≡◌, ◌∙◌, true, false, map, rules, string_bytes, sym}
use Rattle.std.proofs.lemmas.List.Folds.{list_all-map}
use Rattle.clap.specs.Words.{app_of}
use Rattle.mako_command.specs.Tables.{is_word}
use Rattle.mako_command.proofs.Words.{other_words}
use Rattle.mako_command.proofs.Named.{taken_matches, refused_matches}
use Rattle.mako_command.proofs.line.matches.Goals as goal

pub returns-then-not-are_words : goal.returns-then-not-are_words
returns-then-not-are_words c =
    let refused : c.are_words.result ≡ false = search rules in
    other_words (map string_bytes c.args.words.now) (list_all-map is_word string_bytes c.args.words.now
    ∙ sym c.are_words.ensures ∙ refused)

pub returns-in-Ok-try_get_matches_from : goal.returns-in-Ok-try_get_matches_from
returns-in-Ok-try_get_matches_from c =
    let all : c.are_words.result ≡ true = search rules in
    taken_matches (map string_bytes c.args.words.now)
    (app_of c.in-Ok.table) c.in-Ok-try_get_matches_from.matches c.in-Ok.ensures
    (list_all-map is_word string_bytes c.args.words.now ∙ sym c.are_words.ensures
    ∙ all) c.in-Ok-try_get_matches_from.ensures.matches
    c.in-Ok-try_get_matches_from.ensures.kinds

pub returns : goal.returns
returns c = refused_matches (map string_bytes c.args.words.now)
    (app_of c.in-Ok.table) c.in-Err.error c.in-Ok.ensures c.in-Err.ensures.kinds
    (λ memory. c.in_default-kind.not-OutOfMemory (c.kind.ensures ∙ memory))
