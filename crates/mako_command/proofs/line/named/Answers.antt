use Rattle.std.proofs.Common.{◌∙◌, List, ℕ, Option, Bor, codes, sym, ap, option_map}
use Rattle.clap.specs.Words.{found_of}
use Rattle.mako_command.proofs.Named.{equal, unequal, replay_given, gen_given, count_given, load_given, replay_says}
use Rattle.mako_command.proofs.Named.{gen_says, count_says, load_says, not_missing}
use Rattle.mako_command.proofs.line.named.Goals as goal

abbrev shown : Option (Bor (List ℕ)) → Option (List ℕ)
shown = option_map (λ s. s.now)

pub returns-in_err-get_str : goal.returns-in_err-get_str
returns-in_err-get_str c = λ words t.
    let given = replay_given words _ (found_of c.args.matches.now) (equal _ _ _ c.eq.ensures c.if-eq.true) t in
    absurd (not_missing (found_of c.args.matches.now) (codes "order") given.first (sym (ap shown c.in_err-get_str.was)
    ∙ c.get_str.ensures) given.first_is)

pub returns-in_err-get_str-2 : goal.returns-in_err-get_str-2
returns-in_err-get_str-2 c = λ words t.
    let given = replay_given words _ (found_of c.args.matches.now) (equal _ _ _ c.eq.ensures c.if-eq.true) t in
    absurd (not_missing (found_of c.args.matches.now) (codes "steps") given.second
    (sym (ap shown c.in_err-get_str-2.was) ∙ c.get_str-then-eq.ensures) given.second_is)

pub returns-then-eq : goal.returns-then-eq
returns-then-eq c = λ words t.
    let given = replay_given words _ (found_of c.args.matches.now) (equal _ _ _ c.eq.ensures c.if-eq.true) t in
    replay_says words (found_of c.args.matches.now) _ _ c.replay.result given (sym (ap shown c.in_ok-get_str.was)
    ∙ c.get_str.ensures)
    (sym (ap shown c.in_ok-get_str-2.was) ∙ c.get_str-then-eq.ensures) c.replay.ensures

pub returns-in_err-get_str-3 : goal.returns-in_err-get_str-3
returns-in_err-get_str-3 c = λ words t.
    let given = gen_given words _ (found_of c.args.matches.now) (equal _ _ _ c.eq-2.ensures c.if-eq-2.true) t in
    absurd (not_missing (found_of c.args.matches.now) (codes "seed") given.first (sym (ap shown c.in_err-get_str-3.was)
    ∙ c.get_str-then-eq-2.ensures) given.first_is)

pub returns-in_err-get_str-4 : goal.returns-in_err-get_str-4
returns-in_err-get_str-4 c = λ words t.
    let given = gen_given words _ (found_of c.args.matches.now) (equal _ _ _ c.eq-2.ensures c.if-eq-2.true) t in
    absurd (not_missing (found_of c.args.matches.now) (codes "size") given.second (sym (ap shown c.in_err-get_str-4.was)
    ∙ c.get_str-then-eq-2-2.ensures) given.second_is)

pub returns-then-eq-2 : goal.returns-then-eq-2
returns-then-eq-2 c = λ words t.
    let given = gen_given words _ (found_of c.args.matches.now) (equal _ _ _ c.eq-2.ensures c.if-eq-2.true) t in
    gen_says words (found_of c.args.matches.now) _ _ c.generation.result given (sym (ap shown c.in_ok-get_str-3.was)
    ∙ c.get_str-then-eq-2.ensures)
    (sym (ap shown c.in_ok-get_str-4.was) ∙ c.get_str-then-eq-2-2.ensures) c.generation.ensures

pub returns-in_err-get_str-5 : goal.returns-in_err-get_str-5
returns-in_err-get_str-5 c = λ words t.
    let given = count_given words _ (found_of c.args.matches.now) (equal _ _ _ c.eq-3.ensures c.if-eq-3.true) t in
    absurd (not_missing (found_of c.args.matches.now) (codes "workers") given.first
    (sym (ap shown c.in_err-get_str-5.was) ∙ c.get_str-then-eq-3.ensures) given.first_is)

pub returns-then-eq-3 : goal.returns-then-eq-3
returns-then-eq-3 c = λ words t.
    let given = count_given words _ (found_of c.args.matches.now) (equal _ _ _ c.eq-3.ensures c.if-eq-3.true) t in
    count_says words (found_of c.args.matches.now) _ c.count.result given (sym (ap shown c.in_ok-get_str-5.was)
    ∙ c.get_str-then-eq-3.ensures) c.count.ensures

pub returns-in_err-get_str-6 : goal.returns-in_err-get_str-6
returns-in_err-get_str-6 c = λ words t.
    let given = load_given words _ (found_of c.args.matches.now) (unequal _ _ _ c.eq.ensures c.if-eq.false)
    (unequal _ _ _ c.eq-2.ensures c.if-eq-2.false) (unequal _ _ _ c.eq-3.ensures c.if-eq-3.false) t in
    absurd (not_missing (found_of c.args.matches.now) (codes "number") given.first
    (sym (ap shown c.in_err-get_str-6.was) ∙ c.get_str-2.ensures) given.first_is)

pub returns : goal.returns
returns c = λ words t.
    let given = load_given words _ (found_of c.args.matches.now) (unequal _ _ _ c.eq.ensures c.if-eq.false)
    (unequal _ _ _ c.eq-2.ensures c.if-eq-2.false) (unequal _ _ _ c.eq-3.ensures c.if-eq-3.false) t in
    load_says words (found_of c.args.matches.now) _ c.load.result given (sym (ap shown c.in_ok-get_str-6.was)
    ∙ c.get_str-2.ensures) c.load.ensures
