-- The lines of settings.
use Rattle.std.proofs.Common.{◌≡◌, ℕ, zero, suc, ◌<◌, get_or, drop, true, List, [], ◌∷◌, ◌++◌, length, map, refl, sym}
use Rattle.std.proofs.Common.{ap, ◌∙◌, arith}
use Rattle.std.specs.Fmt.{decimal}
use Rattle.std.specs.List.{join_with_byte, list_all}
use Rattle.std.proofs.lemmas.List.{get_or-map, drop_all, drop_more, length-append}
use Rattle.std.proofs.lemmas.Fmt.{decimal_injective}
use Rattle.mako_text.specs.Keys.{key_view, keys}
use Rattle.mako_text.specs.declared.keys.Key.{Key}
use Rattle.mako_text.specs.Programs.{ProgramView}
use Rattle.mako_text.specs.Texts.{settings, setting_words}
use Rattle.mako_reader.specs.Finds.{ReadsEach}
use Rattle.mako_reader.specs.Parts.{AreValues, IsSetting, lines_from, script_of}
use Rattle.mako_reader.specs.Words.{IsFirstLine, words_of}
use Rattle.mako_reader.proofs.Again.{is_key, key_is, InRanges, words_again, decimal_word, setting_lines}
use Rattle.mako_reader.proofs.Spelled.{line_is}

pub same_setting : (key : List ℕ × (ℕ × ℕ)) (lines : List (List ℕ)) (x y : ℕ × List (List ℕ)) → IsSetting key lines x
    → IsSetting key lines y → x ≡ y
same_setting key lines x y one two =
    let both = sym one.lines_are ∙ two.lines_are in
    let line : one.line ≡ two.line = cc in
    let words = sym one.words ∙ ap words_of line ∙ two.words in
    let number : x.0 ≡ y.0 = decimal_injective x.0 y.0 (omega (arith, one.few)) (omega (arith, two.few)) cc in
    let left : x.1 ≡ y.1 = cc in
    (λ i. (number i, left i))

-- as many numbers as keys, each in its range
pub header_length : (table : List (List ℕ × (ℕ × ℕ))) (lines : List (List ℕ)) (read : List ℕ × List (List ℕ))
    → ReadsEach IsSetting table lines read → length read.0 ≡ length table
header_length [] lines read each = ap length each.0
header_length (key ∷ table) lines read each = ap length each.3
    ∙ ap suc (header_length table each.1 (each.2, read.1) each.5)

-- the line of each
pub header_at : (table : List (List ℕ × (ℕ × ℕ))) (lines : List (List ℕ)) (read : List ℕ × List (List ℕ))
    → ReadsEach IsSetting table lines read → (i : ℕ) (d : List ℕ × (ℕ × ℕ)) → i < length table
    → IsSetting (get_or table i d) (drop i lines) (get_or read.0 i 0, drop (suc i) lines)
header_at [] lines read each i d below = absurd (omega arith)
header_at (key ∷ table) lines read each zero d below = rw (each.3, ap (drop 1) each.4.lines_are) each.4
header_at (key ∷ table) lines read each (suc i) d below =
    rw (each.3, each.4.lines_are) (header_at table each.1 (each.2, read.1) each.5 i d (omega arith))

pub header_spelled : (table : List (List ℕ × (ℕ × ℕ))) (lines : List (List ℕ)) (read : List ℕ × List (List ℕ))
    → ReadsEach IsSetting table lines read → lines ≡ lines_from (setting_lines table read.0) ++ read.1
header_spelled [] lines read each = each.1
header_spelled (key ∷ table) lines read each =
    rw each.3 (each.4.lines_are
    ∙ ap (λ (l : List ℕ). l ∷ each.1) (line_is each.4.line ∙ ap (join_with_byte 32) each.4.words)
    ∙ ap (λ (ls : List (List ℕ)). join_with_byte 32 (key.0 ∷ decimal each.0 ∷ []) ∷
    ls) (header_spelled table each.1 (each.2, read.1) each.5))

pub header_from : (table : List (List ℕ × (ℕ × ℕ))) (vs : List ℕ) (left : List (List ℕ)) → 0 < length left
    → list_all is_key table ≡ true → InRanges table vs
    → ReadsEach IsSetting table (lines_from (setting_lines table vs) ++ left) (vs, left)
header_from [] [] left some keyed h = (refl, refl)
header_from [] (v ∷ vs) left some keyed h = absurd h
header_from (key ∷ table) [] left some keyed h = absurd h
header_from (key ∷ table) (v ∷ vs) left some keyed h =
    let k = key_is key table keyed in
    let others = lines_from (setting_lines table vs) in
    let one : IsSetting key (join_with_byte 32 (key.0 ∷ decimal v ∷ []) ∷ (others ++ left)) (v, others ++ left) =
    record {
      line = join_with_byte 32 (key.0 ∷ decimal v ∷ []);
      lines_are = refl;
      ended = omega (arith, length-append others left, some);
      words = words_again key.0 (decimal v ∷ []) (k.0, (decimal_word v (omega (arith, k.1, h.1)), tt));
      few = omega (arith, k.1, h.1);
      low = h.0;
      high = h.1;
    } in
    (v, others ++ left, vs, refl, one, header_from table vs left some k.2 h.2)

pub are_values : (lines : List (List ℕ)) (read : List ℕ × List (List ℕ)) → ReadsEach IsSetting keys lines read
    → AreValues read.0
are_values lines read each =
    let at : (i : ℕ) → i < 11
    → IsSetting (get_or keys i ([], (0, 0))) (drop i lines) (get_or read.0 i 0, drop (suc i) lines) =
    λ i below. header_at keys lines read each i ([], (0, 0)) below in
    let roots = at 7 (omega arith) in
    let board = at 10 (omega arith) in
    record {
      first = (let version = at 0 (omega arith) in omega (arith, version.low, version.high));
      count = header_length keys lines read each;
      roots_low = roots.low;
      roots_high = roots.high;
      board_low = board.low;
      board_high = board.high;
    }

eleven : (vs : List ℕ) → length vs ≡ 11
    → vs ≡ get_or vs 0 0 ∷ get_or vs 1 0 ∷ get_or vs 2 0 ∷ get_or vs 3 0 ∷ get_or vs 4 0 ∷ get_or vs 5 0 ∷
    get_or vs 6 0 ∷ get_or vs 7 0 ∷ get_or vs 8 0 ∷ get_or vs 9 0 ∷ get_or vs 10 0 ∷ []
eleven vs len = drop_more vs 0 0 (omega (arith, len))
    ∙ ap (λ (t : List ℕ). get_or vs 0 0 ∷ t) (drop_more vs 1 0 (omega (arith, len))
    ∙ ap (λ (t : List ℕ). get_or vs 1 0 ∷ t) (drop_more vs 2 0 (omega (arith, len))
    ∙ ap (λ (t : List ℕ). get_or vs 2 0 ∷ t) (drop_more vs 3 0 (omega (arith, len))
    ∙ ap (λ (t : List ℕ). get_or vs 3 0 ∷ t) (drop_more vs 4 0 (omega (arith, len))
    ∙ ap (λ (t : List ℕ). get_or vs 4 0 ∷ t) (drop_more vs 5 0 (omega (arith, len))
    ∙ ap (λ (t : List ℕ). get_or vs 5 0 ∷ t) (drop_more vs 6 0 (omega (arith, len))
    ∙ ap (λ (t : List ℕ). get_or vs 6 0 ∷ t) (drop_more vs 7 0 (omega (arith, len))
    ∙ ap (λ (t : List ℕ). get_or vs 7 0 ∷ t) (drop_more vs 8 0 (omega (arith, len))
    ∙ ap (λ (t : List ℕ). get_or vs 8 0 ∷ t) (drop_more vs 9 0 (omega (arith, len))
    ∙ ap (λ (t : List ℕ). get_or vs 9 0 ∷ t) (drop_more vs 10 0 (omega (arith, len))
    ∙ ap (λ (t : List ℕ). get_or vs 10 0 ∷ t) (drop_all 11 vs (omega (arith, len)))))))))))))

pub the_settings : (vs : List ℕ) (ps : List ProgramView) → AreValues vs
    → setting_lines keys vs ≡ map setting_words (settings (script_of vs ps))
the_settings vs ps values =
    let first : get_or vs 0 0 ≡ 1 = values.first in
    ap (setting_lines keys) (eleven vs values.count)
    ∙ ap (λ (v : ℕ). setting_lines keys (v ∷ get_or vs 1 0 ∷ get_or vs 2 0 ∷ get_or vs 3 0 ∷ get_or vs 4 0 ∷
    get_or vs 5 0 ∷ get_or vs 6 0 ∷ get_or vs 7 0 ∷ get_or vs 8 0 ∷ get_or vs 9 0 ∷ get_or vs 10 0 ∷ [])) first

-- a key of the code's table stands in the list that it is seen as
pub key_at : (table : List Key) (i : ℕ) (d : Key) → i < length table
    → key_view (get_or table i d) ≡ get_or (map key_view table) i (key_view (get_or table i d))
key_at table i d within = sym (get_or-map key_view table i d (key_view (get_or table i d)) within)

-- the words of a setting's line, by its first word and those behind it
pub words_of_setting : (key : List ℕ × (ℕ × ℕ)) (lines : List (List ℕ)) (first : List ℕ × List (List ℕ)) (x : ℕ
    × List (List ℕ)) (word : List ℕ) (behind : List (List ℕ)) → IsFirstLine lines first
    → words_of first.0 ≡ word ∷ behind → IsSetting key lines x → (word ≡ key.0) × (behind ≡ decimal x.0 ∷ [])
words_of_setting key lines first x word behind split words is =
    let line : first.0 ≡ is.line = ap (λ (ls : List (List ℕ)). get_or ls 0 []) (sym split.0 ∙ is.lines_are) in
    let both : word ∷ behind ≡ key.0 ∷ decimal x.0 ∷ [] = sym words ∙ ap words_of line ∙ is.words in
    (cc, cc)
