use Rattle.std.proofs.Common.{◌≡◌, ◌+◌, ◌<◌, ◌≤◌, ◌++◌, ◌∷◌, [], true, false, List, ℕ, Bor, Option, map, length, refl}
use Rattle.std.proofs.Common.{sym, ap, subst, ◌∙◌, arith}
use Rattle.std.specs.Prelude.{IsSome, option_map}
use Rattle.std.specs.Str.{bytes_eq}
use Rattle.std.proofs.lemmas.List.{map-append, length_push}
use Rattle.std.proofs.lemmas.Result.{err_from_is_err_and}
use Rattle.mako_script.specs.declared.fault.Kind.{Kind}
use Rattle.mako_script.specs.CommandLines.{IsFirstOfCommand, IsRead, with_name}
use Rattle.mako_script.specs.Faults.{IsFirstFault}
use Rattle.mako_script.specs.States.{Inside}
use Rattle.mako_reader.specs.Words.{lines_of, words_of}
use Rattle.mako_text.specs.Names.{board_word}
use Rattle.mako_text.specs.Texts.{end_word}
use Rattle.mako_script.proofs.Counted.{CallsRead, calls_begin, calls_finish, calls_next}
use Rattle.mako_script.proofs.InSections.{command_first, cut_inside, ends, goes_on, many_first, next_line}
use Rattle.mako_script.proofs.check.section.Goals as goal

abbrev word_now : Bor (List ℕ) → List ℕ
word_now w = w.now

pub commands-init : goal.commands-init
commands-init c =
    let items = c.push.ensures.items ∙ (λ i. c.new-names.ensures i ++ c.as_slice.result ∷ []) in
    let names : map word_now c.push.new.self.items ≡ board_word ∷ [] = ap (map word_now) items
    ∙ ap (λ (w : List ℕ). w ∷ []) c.as_slice.ensures in
    record {
      few = omega (arith, ap length items);
      left = omega arith;
      read = λ some room. calls_begin c.args.roots c.args.before (map word_now c.push.new.self.items)
          (lines_of c.args.lines.now.rest.now) names some room;
      inside = λ text sections start. subst
          (λ (ns : List (List ℕ)). Inside text c.args.roots sections c.args.before ns c.args.lines.now.line
          (lines_of c.args.lines.now.rest.now)) (sym names) start;
    }

pub returns-then-eq-clause-read : goal.returns-then-eq-clause-read
returns-then-eq-clause-read c = λ some room.
    let end : bytes_eq c.in_ok-line.line.now end_word ≡ true =
    ap (bytes_eq c.in_ok-line.line.now) (sym c.as_slice-in-commands.ensures) ∙ sym c.eq.ensures ∙ c.if-eq.true in
    calls_finish c.args.roots c.args.before c.commands.commands (map word_now c.commands.names.items)
    (lines_of c.args.lines.now.rest.now)
    (lines_of c.commands.lines.rest.now) c.in_ok-line.line.now (lines_of c.expect.new.self.rest.now)
    (c.commands.invariant.read some room) c.in_ok-line.ensures.read end

pub returns-then-eq-clause-ended : goal.returns-then-eq-clause-ended
returns-then-eq-clause-ended c = λ text sections start.
    let st = c.commands.invariant.inside text sections start in
    let line = c.in_ok-line.line.now in
    let end : bytes_eq line end_word ≡ true = ap (bytes_eq line) (sym c.as_slice-in-commands.ensures) ∙ sym c.eq.ensures
    ∙ c.if-eq.true in
    ends text c.args.roots sections c.commands.commands c.commands.lines.line c.expect.new.self.line
    (map word_now c.commands.names.items) (lines_of c.commands.lines.rest.now) st
    line (lines_of c.expect.new.self.rest.now) c.in_ok-line.ensures.read end c.in_ok-line.ensures.line

pub returns-in_err-line-clause-fault : goal.returns-in_err-line-clause-fault
returns-in_err-line-clause-fault c = λ text sections start.
    let p = err_from_is_err_and c.from_residual.result c.from_residual.ensures.1 in
    let st = c.commands.invariant.inside text sections start in
    rw (p.1, p.2) (cut_inside text c.args.roots sections c.commands.commands c.commands.lines.line
    (map word_now c.commands.names.items) (lines_of c.commands.lines.rest.now) st
    c.in_err-line.field-0.0.kind c.in_err-line.field-0.0.line c.in_err-line.ensures.fault.1
    (c.in_err-line.ensures.fault.0
    ∙ next_line text c.args.roots sections c.commands.commands c.commands.lines.line c.expect.new.self.line
    (map word_now c.commands.names.items)
    (lines_of c.commands.lines.rest.now) st c.in_err-line.ensures.line))

pub returns-in-Err-clause-fault : goal.returns-in-Err-clause-fault
returns-in-Err-clause-fault c = λ text sections start.
    let names = map word_now c.commands.names.items in
    let st = c.commands.invariant.inside text sections start in
    let line = c.in_ok-line.line.now in
    let other : bytes_eq line end_word ≡ false = ap (bytes_eq line) (sym c.as_slice-in-commands.ensures)
    ∙ sym c.eq.ensures ∙ c.if-eq.false in
    let at = c.fault.ensures.1
    ∙ next_line text c.args.roots sections c.commands.commands c.commands.lines.line c.expect.new.self.line names
    (lines_of c.commands.lines.rest.now) st c.in_ok-line.ensures.line in
    let first = subst (λ (ns : List (Bor (List ℕ))). IsFirstOfCommand (map word_now ns) c.args.roots
    (words_of line) c.in-Err.kind) c.deref.ensures.0 c.in-Err.ensures.fault in
    subst (λ (kind : Kind). IsFirstFault text kind c.fault.result.line) (sym c.fault.ensures.0)
    (command_first text c.args.roots sections c.commands.commands c.commands.lines.line names
    (lines_of c.commands.lines.rest.now) st line (lines_of c.expect.new.self.rest.now)
    c.in_ok-line.ensures.read other c.in-Err.kind c.fault.result.line first at)

pub returns-then-commands-ge-MAX_COMMANDS-clause-fault : goal.returns-then-commands-ge-MAX_COMMANDS-clause-fault
returns-then-commands-ge-MAX_COMMANDS-clause-fault c = λ text sections start.
    let names = map word_now c.commands.names.items in
    let st = c.commands.invariant.inside text sections start in
    let line = c.in_ok-line.line.now in
    let other : bytes_eq line end_word ≡ false = ap (bytes_eq line) (sym c.as_slice-in-commands.ensures)
    ∙ sym c.eq.ensures ∙ c.if-eq.false in
    let here = subst (λ (ns : List (Bor (List ℕ))). IsRead c.args.roots (map word_now ns) (words_of line)
    (with_name (map word_now ns) (option_map word_now c.in-Ok.new))) c.deref.ensures.0 c.in-Ok.ensures.read in
    let at = c.fault-then-commands-ge-MAX_COMMANDS.ensures.1
    ∙ next_line text c.args.roots sections c.commands.commands c.commands.lines.line c.expect.new.self.line names
    (lines_of c.commands.lines.rest.now) st c.in_ok-line.ensures.line in
    subst (λ (kind : Kind). IsFirstFault text kind c.fault-then-commands-ge-MAX_COMMANDS.result.line)
    (sym c.fault-then-commands-ge-MAX_COMMANDS.ensures.0)
    (many_first text c.args.roots sections c.commands.commands c.commands.lines.line names
    (lines_of c.commands.lines.rest.now) st line (lines_of c.expect.new.self.rest.now)
    c.in_ok-line.ensures.read other
    (with_name names (option_map word_now c.in-Ok.new)) here c.fault-then-commands-ge-MAX_COMMANDS.result.line
    c.if-commands-ge-MAX_COMMANDS.true at)

pub commands-preserved-in-Some : goal.commands-preserved-in-Some
commands-preserved-in-Some c =
    let names = map word_now c.commands.names.items in
    let line = c.in_ok-line.line.now in
    let other : bytes_eq line end_word ≡ false = ap (bytes_eq line) (sym c.as_slice-in-commands.ensures)
    ∙ sym c.eq.ensures ∙ c.if-eq.false in
    let read = subst (λ (o : Option (Bor (List ℕ))). IsRead c.args.roots (map word_now c.deref.result.now)
    (words_of line) (with_name (map word_now c.deref.result.now) (option_map word_now o)))
    c.in-Some.is c.in-Ok.ensures.read in
    let here = subst (λ (ns : List (Bor (List ℕ))). IsRead c.args.roots (map word_now ns) (words_of line)
    (map word_now ns ++ c.in-Some.name.now ∷ [])) c.deref.ensures.0 read in
    let after = ap (map word_now) c.push-in-Some.ensures.items
    ∙ map-append word_now c.commands.names.items (c.in-Some.name ∷ []) in
    let next : (some : 1 ≤ c.args.roots) → (room : c.args.before ≤ 1048576)
    → CallsRead c.args.roots c.args.before (c.commands.commands + 1) (names ++ c.in-Some.name.now ∷
    []) (lines_of c.args.lines.now.rest.now) (lines_of c.expect.new.self.rest.now) =
    λ some room. calls_next c.args.roots c.args.before c.commands.commands names
    (lines_of c.args.lines.now.rest.now) (lines_of c.commands.lines.rest.now) line
    (lines_of c.expect.new.self.rest.now) (names ++ c.in-Some.name.now ∷
    []) (c.commands.invariant.read some room) c.in_ok-line.ensures.read here c.if-commands-ge-MAX_COMMANDS.false in
    record {
      few = (let room = subst (λ (o : Option (Bor (List ℕ))). IsSome o
          → length c.deref.result.now < c.args.roots) c.in-Some.is c.in-Ok.ensures.room refl in
          omega (
            arith,
            room,
            ap length c.deref.ensures.0,
            ap length c.push-in-Some.ensures.items,
            length_push c.commands.names.items c.in-Some.name,
            c.requires,
          ));
      left = omega (arith, c.in_ok-line.ensures.shorter, c.commands.invariant.left);
      inside = λ text sections start.
          subst (λ (ns : List (List ℕ)). Inside text c.args.roots sections
          (c.commands.commands + 1) ns c.expect.new.self.line (lines_of c.expect.new.self.rest.now)) (sym after)
          (goes_on text c.args.roots sections c.commands.commands c.commands.lines.line c.expect.new.self.line names
          (lines_of c.commands.lines.rest.now)
          (c.commands.invariant.inside text sections start) line (lines_of c.expect.new.self.rest.now)
          (names ++ c.in-Some.name.now ∷ []) c.in_ok-line.ensures.read other here
          c.if-commands-ge-MAX_COMMANDS.false c.in_ok-line.ensures.line);
      read = λ some room. subst
          (λ (ns : List (List ℕ)). CallsRead c.args.roots c.args.before (c.commands.commands + 1) ns
          (lines_of c.args.lines.now.rest.now) (lines_of c.expect.new.self.rest.now)) (sym after) (next some room);
    }

pub commands-preserved : goal.commands-preserved
commands-preserved c =
    let names = map word_now c.commands.names.items in
    let line = c.in_ok-line.line.now in
    let other : bytes_eq line end_word ≡ false = ap (bytes_eq line) (sym c.as_slice-in-commands.ensures)
    ∙ sym c.eq.ensures ∙ c.if-eq.false in
    let read = subst (λ (o : Option (Bor (List ℕ))). IsRead c.args.roots (map word_now c.deref.result.now)
    (words_of line) (with_name (map word_now c.deref.result.now) (option_map word_now o)))
    c.in_default.is c.in-Ok.ensures.read in
    let here = subst (λ (ns : List (Bor (List ℕ))). IsRead c.args.roots (map word_now ns) (words_of line)
    (map word_now ns)) c.deref.ensures.0 read in
    record {
      few = c.commands.invariant.few;
      left = omega (arith, c.in_ok-line.ensures.shorter, c.commands.invariant.left);
      inside = λ text sections start.
          goes_on text c.args.roots sections c.commands.commands c.commands.lines.line c.expect.new.self.line names
          (lines_of c.commands.lines.rest.now)
          (c.commands.invariant.inside text sections start) line
          (lines_of c.expect.new.self.rest.now) names c.in_ok-line.ensures.read other here
          c.if-commands-ge-MAX_COMMANDS.false c.in_ok-line.ensures.line;
      read = λ some room. calls_next c.args.roots c.args.before c.commands.commands names
          (lines_of c.args.lines.now.rest.now) (lines_of c.commands.lines.rest.now) line
          (lines_of c.expect.new.self.rest.now) names
          (c.commands.invariant.read some room) c.in_ok-line.ensures.read here c.if-commands-ge-MAX_COMMANDS.false;
    }
