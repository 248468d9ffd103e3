-- The calls of a section and the sections of a script, read line by line, and what else the lines may be of.
use Rattle.std.proofs.Common.{◌≡◌, ◌≢◌, ℕ, zero, suc, ◌+◌, ◌≤◌, ◌<◌, Bool, true, false, true≢false, List, [], ◌∷◌, ◌++◌}
use Rattle.std.proofs.Common.{length, map, take, get_or, Option, Some, None, refl, sym, ap, subst, ◌∙◌, append_assoc}
use Rattle.std.proofs.Common.{arith, inl, inr}
use Rattle.std.proofs.lemmas.List.{append-nil, length-append, map_push, take_all}
use Rattle.std.proofs.lemmas.List.Sums.{sum_by-append, sum_by-cons}
use Rattle.std.specs.List.{join_with_byte, flat_map, AllByRecursion}
use Rattle.std.specs.Str.{bytes_eq}
use Rattle.std.proofs.lemmas.Slice.Eq.{bytes_eq-Decides}
use Rattle.mako_model.specs.declared.call.Call.{Call}
use Rattle.mako_text.specs.Names.{AreNames, board_word, is_name, name_of}
use Rattle.mako_text.specs.Programs.{ProgramView, IsCall, AreCalls, IsProgram, defined_after}
use Rattle.mako_text.specs.Scripts.{command_count}
use Rattle.mako_text.specs.Texts.{argument_words, command_words, end_word, mutator_word, section_lines}
use Rattle.mako_text.specs.Commands.{call_of, command_of, defines, kinds_of, word_of}
use Rattle.mako_reader.specs.Commands.{AreValuesOf, DefinesFirst, IsCommandLine, IsStep}
use Rattle.mako_reader.specs.Parts.{AreSections, IsBody, IsSection, body_lines, lines_from}
use Rattle.mako_reader.specs.Words.{IsFirstLine, words_of}
use Rattle.mako_text.specs.declared.command.Command.{Command}
use Rattle.mako_reader.proofs.Again.{all-append, at_most, command_again, command_is_words, first_name, not_end}
use Rattle.mako_reader.proofs.Again.{words_again}
use Rattle.mako_reader.proofs.Spelled.{command_takes, line_is}
use Rattle.mako_reader.proofs.Values.{by_word, same_values}

-- ---- lists

lines_end : (lines : List (List (List ℕ))) (l : List (List ℕ)) (left : List (List ℕ))
    → lines_from (lines ++ l ∷ []) ++ left ≡ lines_from lines ++ join_with_byte 32 l ∷ left
lines_end [] l left = refl
lines_end (x ∷ lines) l left = ap (λ (ls : List (List ℕ)). join_with_byte 32 x ∷ ls) (lines_end lines l left)

pub lines_more : (lines others : List (List (List ℕ))) (left : List (List ℕ))
    → lines_from (lines ++ others) ++ left ≡ lines_from lines ++ (lines_from others ++ left)
lines_more [] others left = refl
lines_more (x ∷ lines) others left =
    ap (λ (ls : List (List ℕ)). join_with_byte 32 x ∷ ls) (lines_more lines others left)

abbrev first : List (List ℕ) → List ℕ
first lines = get_or lines 0 []

behind : {A : Type 0} (x y : A) (xs ys : List A) → x ∷ xs ≡ y ∷ ys → xs ≡ ys
behind x y xs ys e = cc

-- ---- the calls of a section

calls_push : (k : ℕ) (calls : List Call) (n : ℕ) (call : Call) → AreCalls k calls n → IsCall n call
    → AreCalls k (calls ++ call ∷ []) (defined_after n call)
calls_push k [] n call are fits =
    (subst (λ (m : ℕ). IsCall m call) (sym are) fits, ap (λ (m : ℕ). defined_after m call) are)
calls_push k (c ∷ calls) n call are fits = (are.0, calls_push (defined_after k c) calls n call are.1 fits)

-- behind the first line of a section these calls were read, with these names, and these lines are left
pub record CallsSoFar (roots : ℕ) (start names : List (List ℕ)) (calls : List Call)
    (lines : List (List ℕ)) : Type 0 where
  pub spelled : (more : List (List ℕ)) → start ≡ lines_from (map (command_words (names ++ more)) calls) ++ lines
  pub are : AreNames names
  pub few : length names ≤ roots
  pub fits : AreCalls 1 calls (length names)

board_names : AreNames (board_word ∷ [])
unfolding is_name
board_names = record {
  some = omega arith;
  board = refl;
  spelled = at;
  distinct = λ a b before below. absurd (omega arith);
}
  where
    at : (root : ℕ) → root < 1 → is_name (name_of (board_word ∷ []) root) ≡ true
    at zero below = refl
    at (suc root) below = absurd (omega arith)

pub calls_begin : (roots : ℕ) (start : List (List ℕ)) → 1 ≤ roots → CallsSoFar roots start (board_word ∷ []) [] start
calls_begin roots start some = record { spelled = λ more. refl; are = board_names; few = some; fits = refl }

pub calls_start : (roots : ℕ) (start names : List (List ℕ)) (calls : List Call) → 1 ≤ roots → names ≡ board_word ∷ []
    → calls ≡ [] → CallsSoFar roots start names calls start
calls_start roots start names calls some same none = rw (same, none) (calls_begin roots start some)

pub calls_go : (roots : ℕ) (start names : List (List ℕ)) (calls : List Call) (lines : List (List ℕ)) (l : List ℕ)
    (left after : List (List ℕ)) (call : Call)
    → CallsSoFar roots start names calls lines → lines ≡ l ∷ left → IsCommandLine roots names (words_of l) (call, after)
    → CallsSoFar roots start after (calls ++ call ∷ []) left
calls_go roots start names calls lines l left after call so_far split read =
    let t = command_takes roots names so_far.are so_far.few (words_of l) (call, after) read in
    record {
      spelled = λ more.
          let names_are : names ++ (t.rest ++ more) ≡ after ++ more = sym (append_assoc names t.rest more)
          ∙ ap (λ (ns : List (List ℕ)). ns ++ more) (sym t.front) in
          let line : l ≡ join_with_byte 32 (command_words (after ++ more) call) = line_is l
          ∙ ap (join_with_byte 32) (t.spelled more) in
          so_far.spelled (t.rest ++ more)
          ∙ ap (λ (ns : List (List ℕ)). lines_from (map (command_words ns) calls) ++ lines) names_are
          ∙ ap (λ (ls : List (List ℕ)). lines_from (map (command_words (after ++ more)) calls) ++ ls) (split
          ∙ ap (λ (x : List ℕ). x ∷ left) line)
          ∙ sym (lines_end (map (command_words (after ++ more)) calls) (command_words (after ++ more) call) left)
          ∙ ap (λ (ls : List (List (List ℕ))). lines_from ls ++ left)
          (sym (map_push (command_words (after ++ more)) calls call));
      are = t.are;
      few = t.few;
      fits = subst (AreCalls 1 (calls ++ call ∷ [])) t.next (calls_push 1 calls (length names) call so_far.fits t.fits);
    }

pub calls_end : (roots count : ℕ) (start names : List (List ℕ)) (calls : List Call) (lines left : List (List ℕ))
    → CallsSoFar roots start names calls lines → lines ≡ end_word ∷ left → 0 < length left
    → count + length calls ≤ 1048576
    → IsBody roots count start (record { names = names; calls = calls }, left)
calls_end roots count start names calls lines left so_far split some room = record {
  spelled = so_far.spelled []
      ∙ ap (λ (ns : List (List ℕ)). lines_from (map (command_words ns) calls) ++ lines) (append-nil names)
      ∙ ap (λ (ls : List (List ℕ)). lines_from (map (command_words names) calls) ++ ls) split
      ∙ sym (lines_end (map (command_words names) calls) (end_word ∷ []) left);
  ended = some;
  program = record { names = so_far.are; few = so_far.few; calls = so_far.fits };
  total = room;
}

-- ---- no other calls

-- of lines of which these calls were read, the program has these others
pub record Tail (names final : List (List ℕ)) (calls all : List Call) (lines left : List (List ℕ)) : Type 0 where
  pub rest : List Call
  pub calls_are : all ≡ calls ++ rest
  pub within : length names ≤ length final
  pub names_are : take (length names) final ≡ names
  pub spelled : lines ≡ lines_from (map (command_words final) rest ++ (end_word ∷ []) ∷ []) ++ left
  pub fits : AreCalls (length names) rest (length final)

not_last : (names : List (List ℕ)) (call : Call) → join_with_byte 32 (command_words names call) ≡ end_word → ⊥
not_last names call same =
    true≢false (sym ((bytes_eq-Decides (join_with_byte 32 (command_words names call)) end_word).1 same)
    ∙ not_end names call)

same_first : (b : Bool) (roots : ℕ) (names words xs ys : List (List ℕ)) → DefinesFirst b roots names words xs
    → DefinesFirst b roots names words ys → xs ≡ ys
same_first false roots names words xs ys one two = one ∙ sym two
same_first true roots names [] xs ys one two = absurd one
same_first true roots names (w ∷ ws) xs ys (spelled, inl (some, x)) (named, inl (any, y)) = x ∙ sym y
same_first true roots names (w ∷ ws) xs ys (spelled, inl (some, x)) (named, inr (none, room, y)) = absurd (some none)
same_first true roots names (w ∷ ws) xs ys (spelled, inr (none, room, x)) (named, inl (any, y)) = absurd (any none)
same_first true roots names (w ∷ ws) xs ys (spelled, inr (none, room, x)) (named, inr (absent, more, y)) = x ∙ sym y

-- words are one command at most
same_line : (roots : ℕ) (names words : List (List ℕ)) (x y : Call × List (List ℕ)) → IsCommandLine roots names words x
    → IsCommandLine roots names words y → x ≡ y
same_line roots names words x y one two =
    let both = sym one.words_are ∙ two.words_are in
    let command : one.command ≡ two.command = by_word one.command two.command (ap first both) in
    let rest : one.behind ≡ two.behind =
    behind (word_of one.command) (word_of two.command) one.behind two.behind both in
    let moved = subst (λ (c : Command). AreValuesOf names (kinds_of c) two.behind one.values) command
    (subst (λ (ws : List (List ℕ)). AreValuesOf names (kinds_of one.command) ws one.values) rest one.are) in
    let values = same_values names (kinds_of two.command) two.behind one.values two.values moved two.are in
    let next = subst (λ (c : Command). DefinesFirst (defines c) roots names two.behind x.1) command
    (subst (λ (ws : List (List ℕ)). DefinesFirst (defines one.command) roots names ws x.1) rest one.next) in
    let after = same_first (defines two.command) roots names two.behind x.1 y.1 next two.next in
    let call : x.0 ≡ y.0 = one.call_is ∙ (λ i. call_of (command i) (values i)) ∙ sym two.call_is in
    (λ i. (call i, after i))

module _ (roots : ℕ) (xs ys : List (List ℕ)) (are : AreNames xs) (too : AreNames ys) (few : length xs ≤ roots)
    (short : length ys ≤ roots) where
  same_call : (k : ℕ) (c d : Call) → k ≤ length xs → k ≤ length ys → take k xs ≡ take k ys → IsCall k c → IsCall k d
      → defined_after k c ≤ length xs → defined_after k d ≤ length ys
      → join_with_byte 32 (command_words xs c) ≡ join_with_byte 32 (command_words ys d) → (c ≡ d)
      × (take (defined_after k c) xs ≡ take (defined_after k d) ys)
  same_call k c d inx iny same fits_c fits_d after_c after_d line =
      let words_c = words_again (word_of (command_of c)) (argument_words xs c)
      (command_is_words xs are k inx c fits_c after_c) in
      let words_d = words_again (word_of (command_of d)) (argument_words ys d)
      (command_is_words ys too k iny d fits_d after_d) in
      let words : command_words ys d ≡ command_words xs c = sym words_d ∙ ap words_of (sym line) ∙ words_c in
      let one = command_again xs are roots few k inx c fits_c after_c in
      let other : IsCommandLine roots (take k xs) (command_words xs c) (d, take (defined_after k d) ys) =
      subst (λ (ns : List (List ℕ)). IsCommandLine roots ns (command_words xs c) (d, take (defined_after k d) ys))
      (sym same)
      (subst (λ (ws : List (List ℕ)). IsCommandLine roots (take k ys) ws (d, take (defined_after k d) ys)) words
      (command_again ys too roots short k iny d fits_d after_d)) in
      let both = same_line roots (take k xs) (command_words xs c) (c, take (defined_after k c) xs)
      (d, take (defined_after k d) ys) one other in
      (ap (λ (x : Call × List (List ℕ)). x.0) both, ap (λ (x : Call × List (List ℕ)). x.1) both)

  tail : (k : ℕ) (cs ds : List Call) (lines left : List (List ℕ)) → k ≤ length xs → k ≤ length ys
      → take k xs ≡ take k ys → AreCalls k cs (length xs) → AreCalls k ds (length ys)
      → lines_from (map (command_words xs) cs) ++ lines ≡ lines_from (map (command_words ys) ds ++ (end_word ∷ []) ∷
      []) ++ left → Tail xs ys cs ds lines left
  tail k [] ds lines left inx iny same fits_c fits_d e = record {
    rest = ds;
    calls_are = refl;
    within = omega (arith, fits_c, at_most k ds (length ys) fits_d);
    names_are = ap (λ (n : ℕ). take n ys) (sym fits_c) ∙ sym same ∙ take_all k xs (omega (arith, fits_c));
    spelled = e;
    fits = subst (λ (n : ℕ). AreCalls n ds (length ys)) fits_c fits_d;
  }
  tail k (c ∷ cs) [] lines left inx iny same fits_c fits_d e = absurd (not_last xs c (ap first e))
  tail k (c ∷ cs) (d ∷ ds) lines left inx iny same fits_c fits_d e =
      let after_c = at_most (defined_after k c) cs (length xs) fits_c.1 in
      let after_d = at_most (defined_after k d) ds (length ys) fits_d.1 in
      let one = same_call k c d inx iny same fits_c.0 fits_d.0 after_c after_d (ap first e) in
      let next : defined_after k d ≡ defined_after k c = ap (defined_after k) (sym one.0) in
      let t = tail (defined_after k c) cs ds lines left after_c (omega (arith, next, after_d)) (one.1
      ∙ ap (λ (n : ℕ). take n ys) next)
      fits_c.1 (subst (λ (n : ℕ). AreCalls n ds (length ys)) next fits_d.1) (behind _ _ _ _ e) in
      record {
        rest = t.rest;
        calls_are = (λ i. sym one.0 i ∷ t.calls_are i);
        within = t.within;
        names_are = t.names_are;
        spelled = t.spelled;
        fits = t.fits;
      }

-- the lines of another program go on from those that were read
pub follows : (roots count : ℕ) (start names : List (List ℕ)) (calls : List Call) (lines : List (List ℕ))
    (p : ProgramView × List (List ℕ)) → CallsSoFar roots start names calls lines
    → IsBody roots count start p → Tail names p.0.names calls p.0.calls lines p.1
follows roots count start names calls lines p so_far body =
    let are = body.program.names in
    let e = sym (so_far.spelled []
    ∙ ap (λ (ns : List (List ℕ)). lines_from (map (command_words ns) calls) ++ lines) (append-nil names))
    ∙ body.spelled in
    tail roots names p.0.names so_far.are are so_far.few body.program.few 1 calls p.0.calls lines p.1
    (omega (arith, so_far.are.some)) (omega (arith, are.some))
    (first_name names so_far.are ∙ sym (first_name p.0.names are)) so_far.fits body.program.calls e

-- where the section ends, the program is the whole of it
tail_ends : (names final : List (List ℕ)) (calls all : List Call) (lines left behind : List (List ℕ))
    → Tail names final calls all lines left → lines ≡ end_word ∷ behind
    → (names ≡ final) × (calls ≡ all) × (behind ≡ left)
tail_ends names final calls all lines left after t split = by t.rest t.calls_are t.spelled t.fits
  where
    by : (rest : List Call) → all ≡ calls ++ rest
        → lines ≡ lines_from (map (command_words final) rest ++ (end_word ∷ []) ∷ []) ++ left
        → AreCalls (length names) rest (length final)
        → (names ≡ final) × (calls ≡ all) × (after ≡ left)
    by [] calls_are spelled fits = (
      sym t.names_are ∙ take_all (length names) final (omega (arith, fits)),
      sym (calls_are ∙ append-nil calls),
      behind end_word end_word after left (sym split ∙ spelled),
    )
    by (c ∷ rest) calls_are spelled fits = absurd (not_last final c (ap first (sym spelled ∙ split)))

pub same_body : (roots count other : ℕ) (start : List (List ℕ)) (p q : ProgramView × List (List ℕ))
    → IsBody roots count start p → IsBody roots other start q → p ≡ q
same_body roots count other start p q one two =
    let are = one.program.names in
    let too = two.program.names in
    let e = sym (lines_end (map (command_words p.0.names) p.0.calls) (end_word ∷ []) p.1) ∙ sym one.spelled
    ∙ two.spelled in
    let t = tail roots p.0.names q.0.names are too one.program.few two.program.few 1 p.0.calls q.0.calls (end_word ∷
    p.1) q.1 (omega (arith, are.some)) (omega (arith, too.some))
    (first_name p.0.names are ∙ sym (first_name q.0.names too)) one.program.calls two.program.calls e in
    let same = tail_ends p.0.names q.0.names p.0.calls q.0.calls (end_word ∷ p.1) q.1 p.1 t refl in
    (λ i. (record { names = same.0 i; calls = same.1 i }, same.2 i))

-- ---- steps

-- the next line of another program
pub its_step : (roots count : ℕ) (start names : List (List ℕ)) (calls : List Call) (lines : List (List ℕ))
    → CallsSoFar roots start names calls lines → (p : ProgramView × List (List ℕ)) → IsBody roots count start p
    → (s : Option Call × List (List ℕ) × List (List ℕ)) × IsStep roots names lines s
its_step roots count start names calls lines so_far p body = by t.rest t.spelled t.fits
  where
    t : Tail names p.0.names calls p.0.calls lines p.1
    t = follows roots count start names calls lines p so_far body

    by : (rest : List Call) → lines ≡ lines_from (map (command_words p.0.names) rest ++ (end_word ∷ []) ∷ []) ++ p.1
        → AreCalls (length names) rest (length p.0.names)
        → (s : Option Call × List (List ℕ) × List (List ℕ)) × IsStep roots names lines s
    by [] spelled fits = ((None, names, p.1), (spelled, refl, body.ended))
    by (c ∷ rest) spelled fits =
        let final = p.0.names in
        let after = at_most (defined_after (length names) c) rest (length final) fits.1 in
        let words = words_again (word_of (command_of c)) (argument_words final c)
        (command_is_words final body.program.names (length names) t.within c fits.0 after) in
        let next = take (defined_after (length names) c) final in
        let read = command_again final body.program.names roots body.program.few
        (length names) t.within c fits.0 after in
        let here = subst (λ (ns : List (List ℕ)). IsCommandLine roots ns
        (words_of (join_with_byte 32 (command_words final c))) (c, next)) t.names_are
        (subst (λ (ws : List (List ℕ)). IsCommandLine roots (take (length names) final) ws (c, next))
        (sym words) read) in
        let others = lines_from (map (command_words final) rest ++ (end_word ∷ []) ∷ []) in (
          (Some c, next, others ++ p.1),
          (
            join_with_byte 32 (command_words final c),
            spelled,
            not_last final c,
            here,
            omega
                (arith, length-append others p.1, body.ended),
          ),
        )

-- there is none with one command more than a script may have
pub no_room : (roots count : ℕ) (start names : List (List ℕ)) (calls : List Call) (lines after left : List (List ℕ))
    (call : Call) → CallsSoFar roots start names calls lines
    → IsStep roots names lines (Some call, after, left) → 1048576 ≤ count + length calls
    → (p : ProgramView × List (List ℕ)) → ¬ IsBody roots count start p
no_room roots count start names calls lines after left call so_far step full p body = by t.rest t.calls_are t.spelled
  where
    t : Tail names p.0.names calls p.0.calls lines p.1
    t = follows roots count start names calls lines p so_far body

    by : (rest : List Call) → p.0.calls ≡ calls ++ rest
        → lines ≡ lines_from (map (command_words p.0.names) rest ++ (end_word ∷ []) ∷ []) ++ p.1 → ⊥
    by [] calls_are spelled = step.2 (ap first (sym step.1 ∙ spelled))
    by (c ∷ rest) calls_are spelled =
        omega (arith, full, body.total, ap length calls_are, length-append calls (c ∷ rest))

-- ---- sections

pub record SectionsSoFar (roots count : ℕ) (start : List (List ℕ)) (programs : List ProgramView)
    (lines : List (List ℕ)) : Type 0 where
  pub spelled : start ≡ lines_from (flat_map section_lines programs) ++ lines
  pub proper : AllByRecursion (IsProgram roots) programs
  pub count_is : count ≡ command_count programs

pub sections_begin : (roots : ℕ) (start : List (List ℕ)) (programs : List ProgramView) → programs ≡ []
    → SectionsSoFar roots 0 start programs start
sections_begin roots start programs none = rw none (record { spelled = refl; proper = tt; count_is = refl })

sections_push : (ps : List ProgramView) (p : ProgramView) (lines : List (List ℕ))
    → lines_from (flat_map section_lines (ps ++ p ∷ [])) ++ lines ≡ lines_from
    (flat_map section_lines ps) ++ (lines_from (section_lines p) ++ lines)
sections_push [] p lines = ap (λ (ls : List (List (List ℕ))). lines_from ls ++ lines) (append-nil (section_lines p))
sections_push (q ∷ ps) p lines =
    lines_more (section_lines q) (flat_map section_lines (ps ++ p ∷ [])) lines
    ∙ ap (λ (ls : List (List ℕ)). lines_from (section_lines q) ++ ls) (sections_push ps p lines)
    ∙ sym (lines_more (section_lines q) (flat_map section_lines ps) (lines_from (section_lines p) ++ lines))

pub sections_go : (roots count next : ℕ) (start : List (List ℕ)) (programs : List ProgramView) (lines : List (List ℕ))
    (p : ProgramView) (left : List (List ℕ))
    → SectionsSoFar roots count start programs lines → IsSection roots count lines (p, left)
    → next ≡ count + length p.calls → SectionsSoFar roots next start (programs ++ p ∷ []) left
sections_go roots count next start programs lines p left so_far section counted = record {
  spelled = so_far.spelled
      ∙ ap (λ (ls : List (List ℕ)). lines_from (flat_map section_lines programs) ++ ls) (section.1
      ∙ ap (λ (ls : List (List ℕ)). mutator_word ∷ ls) section.2.spelled)
      ∙ sym (sections_push programs p left);
  proper = all-append (IsProgram roots) programs (p ∷ []) so_far.proper (section.2.program, tt);
  count_is = omega (
    arith,
    counted,
    so_far.count_is,
    sum_by-append (λ (x : ProgramView). length x.calls) programs (p ∷
        []),
  );
}

pub sections_end : (roots count : ℕ) (start : List (List ℕ)) (programs : List ProgramView) (lines : List (List ℕ))
    → SectionsSoFar roots count start programs lines → lines ≡ [] ∷ []
    → length programs ≤ 16 → count ≤ 1048576 → AreSections roots start programs
sections_end roots count start programs lines so_far end few room = record {
  spelled = so_far.spelled ∙ ap (λ (ls : List (List ℕ)). lines_from (flat_map section_lines programs) ++ ls) end;
  few = few;
  proper = so_far.proper;
  total = omega (arith, so_far.count_is, room);
}

-- of lines of which these programs were read, the script has these others
pub record Others (roots : ℕ) (programs all : List ProgramView) (lines : List (List ℕ)) : Type 0 where
  pub rest : List ProgramView
  pub programs_are : all ≡ programs ++ rest
  pub spelled : lines ≡ lines_from (flat_map section_lines rest) ++ [] ∷ []
  pub proper : AllByRecursion (IsProgram roots) rest

pub no_first : (lines : List (List ℕ)) → mutator_word ∷ lines ≡ [] ∷ [] → ⊥
no_first lines e = let none = ap (λ (ls : List (List ℕ)). length (first ls)) e in omega (arith, none)

body_of : (roots : ℕ) (p : ProgramView) (left : List (List ℕ)) → IsProgram roots p → 0 + length p.calls ≤ 1048576
    → 0 < length left → IsBody roots 0 (lines_from (body_lines p) ++ left) (p, left)
body_of roots p left proper few some = record { spelled = refl; ended = some; program = proper; total = few }

others : (roots : ℕ) (ps qs : List ProgramView) (lines : List (List ℕ)) → AllByRecursion (IsProgram roots) ps
    → AllByRecursion (IsProgram roots) qs → command_count ps ≤ 1048576 → command_count qs ≤ 1048576 → 0 < length lines
    → lines_from (flat_map section_lines ps) ++ lines ≡ lines_from (flat_map section_lines qs) ++ [] ∷ []
    → Others roots ps qs lines
others roots [] qs lines are too few short some e = record { rest = qs; programs_are = refl; spelled = e; proper = too }
others roots (p ∷ ps) [] lines are too few short some e = absurd (no_first _ e)
others roots (p ∷ ps) (q ∷ qs) lines are too few short some e =
    let sum_p = sum_by-cons (λ (x : ProgramView). length x.calls) p ps in
    let sum_q = sum_by-cons (λ (x : ProgramView). length x.calls) q qs in
    let left = lines_from (flat_map section_lines ps) ++ lines in
    let right = lines_from (flat_map section_lines qs) ++ [] ∷ [] in
    let both = sym (lines_more (section_lines p) (flat_map section_lines ps) lines) ∙ e
    ∙ lines_more (section_lines q) (flat_map section_lines qs) ([] ∷ []) in
    let bodies = behind mutator_word mutator_word (lines_from (body_lines p) ++ left)
    (lines_from (body_lines q) ++ right) both in
    let one = body_of roots p left are.0 (omega (arith, sum_p, few))
    (omega (arith, length-append (lines_from (flat_map section_lines ps)) lines, some)) in
    let two = body_of roots q right too.0 (omega (arith, sum_q, short))
    (omega (arith, length-append (lines_from (flat_map section_lines qs)) ([] ∷ []))) in
    let same = same_body roots 0 0 (lines_from (body_lines p) ++ left) (p, left) (q, right) one
    (subst (λ (ls : List (List ℕ)). IsBody roots 0 ls (q, right)) (sym bodies) two) in
    let program : q ≡ p = sym (ap (λ (x : ProgramView × List (List ℕ)). x.0) same) in
    let t = others roots ps qs lines are.1 too.1 (omega (arith, sum_p, few)) (omega (arith, sum_q, short)) some
    (ap (λ (x : ProgramView × List (List ℕ)). x.1) same) in
    record { rest = t.rest; programs_are = (λ i. program i ∷ t.programs_are i); spelled = t.spelled; proper = t.proper }

pub sections_follow : (roots count : ℕ) (start : List (List ℕ)) (ps qs : List ProgramView) (lines : List (List ℕ))
    → SectionsSoFar roots count start ps lines → count ≤ 1048576 → 0 < length lines
    → AreSections roots start qs → Others roots ps qs lines
sections_follow roots count start ps qs lines so_far room some are =
    others roots ps qs lines so_far.proper are.proper (omega (arith, so_far.count_is, room)) are.total some
    (sym so_far.spelled ∙ are.spelled)

abbrev at_end : List (List ℕ)
at_end = [] ∷ []

-- the next section of another script, where the text goes on
pub its_section : (roots count : ℕ) (start : List (List ℕ)) (ps : List ProgramView) (lines : List (List ℕ))
    → SectionsSoFar roots count start ps lines → count ≤ 1048576 → 0 < length lines → lines ≢ at_end
    → (qs : List ProgramView) → AreSections roots start qs → (p : ProgramView × List (List ℕ))
    × IsSection roots count lines p
its_section roots count start ps lines so_far room some more qs are = by t.rest t.programs_are t.spelled t.proper
  where
    t : Others roots ps qs lines
    t = sections_follow roots count start ps qs lines so_far room some are

    by : (rest : List ProgramView) → qs ≡ ps ++ rest → lines ≡ lines_from (flat_map section_lines rest) ++ at_end
        → AllByRecursion (IsProgram roots) rest
        → (p : ProgramView × List (List ℕ)) × IsSection roots count lines p
    by [] same spelled proper = absurd (more spelled)
    by (q ∷ rest) same spelled proper =
        let others = lines_from (flat_map section_lines rest) in
        let sums = sum_by-append (λ (x : ProgramView). length x.calls) ps (q ∷ rest) in
        let one = sum_by-cons (λ (x : ProgramView). length x.calls) q rest in
        let body : IsBody roots count (lines_from (body_lines q) ++ (others ++ at_end)) (q, others ++ at_end) = record {
          spelled = refl;
          ended = omega (arith, length-append others at_end);
          program = proper.0;
          total = omega (arith, sums, one, ap command_count same, are.total, so_far.count_is);
        } in (
          (q, others ++ at_end),
          (
            lines_from (body_lines q) ++ (others ++ at_end),
            spelled
                ∙ lines_more (section_lines q) (flat_map section_lines rest) at_end,
            body,
          ),
        )

-- there are no more than 16
pub no_more : (roots count : ℕ) (start : List (List ℕ)) (ps : List ProgramView) (lines : List (List ℕ))
    → SectionsSoFar roots count start ps lines → count ≤ 1048576 → 0 < length lines → lines ≢ at_end
    → 16 ≤ length ps → (qs : List ProgramView) → ¬ AreSections roots start qs
no_more roots count start ps lines so_far room some more full qs are = by t.rest t.programs_are t.spelled
  where
    t : Others roots ps qs lines
    t = sections_follow roots count start ps qs lines so_far room some are

    by : (rest : List ProgramView) → qs ≡ ps ++ rest → lines ≡ lines_from (flat_map section_lines rest) ++ at_end → ⊥
    by [] same spelled = more spelled
    by (q ∷ rest) same spelled = omega (arith, full, are.few, ap length same, length-append ps (q ∷ rest))

-- ---- one section

-- no section begins where no line does, nor with another line
pub no_line : (roots count : ℕ) (lines : List (List ℕ)) (p : ProgramView × List (List ℕ))
    → IsSection roots count lines p → (read : List ℕ × List (List ℕ)) × IsFirstLine lines read
no_line roots count lines p section = (
  (mutator_word, section.0),
  (
    section.1,
    omega (
      arith,
      ap length section.2.spelled,
      length-append (lines_from (body_lines p.0)) p.1,
      section.2.ended,
    ),
  ),
)

pub other_line : (roots count : ℕ) (lines : List (List ℕ)) (line : List ℕ) (left : List (List ℕ))
    → IsFirstLine lines (line, left) → bytes_eq line mutator_word ≡ false
    → (p : ProgramView × List (List ℕ)) → ¬ IsSection roots count lines p
other_line roots count lines line left e other p section =
    let same : line ≡ mutator_word = ap first (sym e.0 ∙ section.1) in
    true≢false (sym ((bytes_eq-Decides line mutator_word).1 same) ∙ other)

-- nor where no program follows
pub its_body : (roots count : ℕ) (lines : List (List ℕ)) (line : List ℕ) (left : List (List ℕ))
    → IsFirstLine lines (line, left) → (p : ProgramView × List (List ℕ)) → IsSection roots count lines p
    → (q : ProgramView × List (List ℕ)) × IsBody roots count left q
its_body roots count lines line left e p section = (
  p,
  subst (λ (ls : List (List ℕ)). IsBody roots count ls p) (behind mutator_word line section.0 left (sym section.1
      ∙ e.0)) section.2,
)
