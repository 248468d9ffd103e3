-- What is read of commands, sections and settings is spelled so.
use Rattle.std.proofs.Common.{◌≡◌, ℕ, ◌+◌, ◌<◌, ◌≤◌, max, true, List, [], ◌∷◌, ◌++◌, length, Option, Some, None, refl}
use Rattle.std.proofs.Common.{sym, ap, subst, ◌∙◌, arith, inl, inr, ⊎_elim}
use Rattle.std.specs.Prelude.{unwrap_or}
use Rattle.std.specs.List.{join_with_byte}
use Rattle.std.proofs.lemmas.Bool.{cases_lt}
use Rattle.std.proofs.lemmas.List.{get_or_append_left, get_or_push, length_push, length-append, append-nil}
use Rattle.std.proofs.lemmas.List.Splits.{join_with_byte-slice_split}
use Rattle.mako_model.specs.declared.call.Call.{Call}
use Rattle.mako_model.specs.declared.call.Call.TheVariants as calls
use Rattle.mako_text.specs.declared.command.Command.{Command}
use Rattle.mako_text.specs.declared.command.Command.TheVariants.{New, Num, Copy, Drop, Get, Put, Show, Collect}
use Rattle.mako_text.specs.declared.command.Argument.TheVariants.{Defined, Read}
use Rattle.mako_text.specs.Names.{is_name, name_of, AreNames}
use Rattle.mako_text.specs.Programs.{IsCall, defined_after}
use Rattle.mako_text.specs.Texts.{command_words}
use Rattle.mako_text.specs.Commands.{call_of, defines, kinds_of, word_of}
use Rattle.mako_reader.specs.Commands.{AreValuesOf, Defines, DefinesFirst, IsCommandLine, IsValueOf, place_at}
use Rattle.mako_reader.specs.Words.{words_of}
use Rattle.mako_reader.proofs.Values.{counts}
use Rattle.mako_reader.proofs.NameLists.{place_none, place_takes}

-- a list of names with a new one behind it
names_push : (names : List (List ℕ)) (w : List ℕ) → AreNames names → is_name w ≡ true → place_at names w ≡ None
    → AreNames (names ++ w ∷ [])
names_push names w are spelled absent = record {
  some = omega (arith, length_push names w);
  board = get_or_append_left names (w ∷ []) [] 0 are.some ∙ are.board;
  spelled = λ root below. ⊎_elim
      (λ (old : root < length names). ap is_name (get_or_append_left names (w ∷ []) [] root old) ∙ are.spelled root old)
      (λ (new : length names ≤ root). ap is_name (get_or_push names w [] root (omega (arith, length_push names w)))
      ∙ spelled)
      (cases_lt root (length names));
  distinct = λ a b before below same. ⊎_elim
      (λ (old : b < length names). are.distinct a b before old
      (sym (get_or_append_left names (w ∷ []) [] a (omega arith)) ∙ same
      ∙ get_or_append_left names (w ∷ []) [] b old))
      (λ (new : length names ≤ b). place_none names w absent a (omega (arith, length_push names w))
      (sym (get_or_append_left names (w ∷ []) [] a (omega (arith, length_push names w))) ∙ same
      ∙ get_or_push names w [] b (omega (arith, length_push names w))))
      (cases_lt b (length names));
}

-- a name that a command defines has this root among the names behind it
record IsDefined (roots : ℕ) (names : List (List ℕ)) (w : List ℕ) (v : ℕ) (after : List (List ℕ)) : Type 0 where
  are : AreNames after
  few : length after ≤ roots
  rest : List (List ℕ)
  front : after ≡ names ++ rest
  within : v < length after
  named : name_of after v ≡ w
  low : v ≤ length names
  next : max (length names) (v + 1) ≡ length after

define_takes : (roots : ℕ) (names : List (List ℕ)) (w : List ℕ) (after : List (List ℕ)) (v : ℕ) → AreNames names
    → length names ≤ roots → is_name w ≡ true
    → Defines roots names w after → v ≡ unwrap_or (place_at names w) (length names) → IsDefined roots names w v after
define_takes roots names w after v are few spelled (inl (some, same)) value = by (place_at names w) refl
  where
    by : (o : Option ℕ) → place_at names w ≡ o → IsDefined roots names w v after
    by None p = absurd (some p)
    by (Some r) p =
        let h = place_takes names w r p in
        let is : v ≡ r = value ∙ ap (λ o. unwrap_or o (length names)) p in
        subst (λ (t : List (List ℕ)). IsDefined roots names w v t) (sym same) (record {
          are = are;
          few = few;
          rest = [];
          front = sym (append-nil names);
          within = omega (arith, h.0);
          named = ap (name_of names) is ∙ h.1;
          low = omega (arith, h.0);
          next = omega (arith, h.0);
        })
define_takes roots names w after v are few spelled (inr (none, room, same)) value =
    let is : v ≡ length names = value ∙ ap (λ o. unwrap_or o (length names)) none in
    subst (λ (t : List (List ℕ)). IsDefined roots names w v t) (sym same)
    (record {
      are = names_push names w are spelled none;
      few = omega (arith, length_push names w);
      rest = w ∷ [];
      front = refl;
      within = omega (arith, length_push names w);
      named = get_or_push names w [] v (sym is);
      low = omega arith;
      next = omega (arith, length_push names w);
    })

-- ---- command lines

-- what is read of a command line
pub record TakesCall (roots : ℕ) (names words : List (List ℕ)) (call : Call) (after : List (List ℕ)) : Type 0 where
  pub spelled : (more : List (List ℕ)) → words ≡ command_words (after ++ more) call
  pub fits : IsCall (length names) call
  pub next : defined_after (length names) call ≡ length after
  pub are : AreNames after
  pub few : length after ≤ roots
  pub rest : List (List ℕ)
  pub front : after ≡ names ++ rest

-- the names behind a command that defines its first argument
defined_first : (roots : ℕ) (names : List (List ℕ)) (w : List ℕ) (words after : List (List ℕ)) (v : ℕ) → AreNames names
    → length names ≤ roots → IsValueOf names Defined w v
    → DefinesFirst true roots names (w ∷ words) after → IsDefined roots names w v after
defined_first roots names w words after v are few takes first =
    define_takes roots names w after v are few takes.0 first.1 takes.1

-- what is read still names its root when others follow
read_along : (names rest more : List (List ℕ)) (w : List ℕ) (v : ℕ) → IsValueOf names Read w v
    → name_of ((names ++ rest) ++ more) v ≡ w
read_along names rest more w v takes =
    let p = place_takes names w v takes.1 in
    get_or_append_left (names ++ rest) more [] v (omega (arith, length-append names rest, p.0))
    ∙ get_or_append_left names rest [] v p.0 ∙ p.1

below : (names : List (List ℕ)) (w : List ℕ) (v : ℕ) → IsValueOf names Read w v → v < length names
below names w v takes = (place_takes names w v takes.1).0

module _ (roots : ℕ) (names : List (List ℕ)) (are : AreNames names) (few : length names ≤ roots) where
  -- a command that defines its first argument
  defining : (w : List ℕ) (v : ℕ) (after words : List (List ℕ)) (call : Call) (d : IsDefined roots names w v after)
      → ((more : List (List ℕ)) → name_of (after ++ more) v ≡ w → words ≡ command_words (after ++ more) call)
      → IsCall (length names) call → defined_after (length names) call ≡ max (length names) (v + 1)
      → TakesCall roots names words call after
  defining w v after words call d spelled fits next = record {
    spelled = λ more. spelled more (get_or_append_left after more [] v d.within ∙ d.named);
    fits = fits;
    next = next ∙ d.next;
    are = d.are;
    few = d.few;
    rest = d.rest;
    front = d.front;
  }

  -- one that defines none
  plain : (after words : List (List ℕ)) (call : Call) → after ≡ names
      → ((more : List (List ℕ)) → words ≡ command_words ((names ++ []) ++ more) call) → IsCall (length names) call
      → defined_after (length names) call ≡ length names → TakesCall roots names words call after
  plain after words call same spelled fits next =
      let none = append-nil names in
      subst (TakesCall roots names words call) (sym same)
      (record {
        spelled = λ more. spelled more ∙ ap (λ (ns : List (List ℕ)). command_words (ns ++ more) call) none;
        fits = fits;
        next = next;
        are = are;
        few = few;
        rest = [];
        front = sym none;
      })

  -- the arguments of each command
  by_command : (command : Command) (words : List (List ℕ)) (vs : List ℕ) (after : List (List ℕ))
      → AreValuesOf names (kinds_of command) words vs → DefinesFirst (defines command) roots names words after
      → TakesCall roots names (word_of command ∷ words) (call_of command vs) after
  by_command New (w ∷ x ∷ []) (v ∷ n ∷ []) after h e =
      let d = defined_first roots names w (x ∷ []) after v are few h.0 e in
      defining w v after _ (calls.New v n) d (λ more named. rw (named, h.1.0.0.0) refl) (d.low, (h.1.0.2, tt)) refl
  by_command Num (w ∷ x ∷ []) (v ∷ n ∷ []) after h e =
      let d = defined_first roots names w (x ∷ []) after v are few h.0 e in
      defining w v after _ (calls.Num v n) d (λ more named. rw (named, h.1.0.0.0) refl)
      (d.low, (h.1.0.2, tt)) refl
  by_command Copy (w ∷ x ∷ []) (v ∷ n ∷ []) after h e =
      let d = defined_first roots names w (x ∷ []) after v are few h.0 e in
      defining w v after _ (calls.CopyRoot v n) d
      (λ more named. (let read = ap (λ (ns : List (List ℕ)). name_of (ns ++ more) n) d.front
      ∙ read_along names d.rest more x n h.1.0 in rw (named, read) refl)) (d.low, (below names x n h.1.0, tt)) refl
  by_command Drop (w ∷ []) (v ∷ []) after h e =
      plain after _ (calls.DropRoot v) e (λ more. rw (read_along names [] more w v h.0) refl)
      (below names w v h.0, tt) refl
  by_command Get (w ∷ x ∷ y ∷ []) (v ∷ n ∷ k ∷ []) after h e =
      let d = defined_first roots names w (x ∷ y ∷ []) after v are few h.0 e in
      defining w v after _ (calls.Get v n k) d
      (λ more named. (let read = ap (λ (ns : List (List ℕ)). name_of (ns ++ more) n) d.front
      ∙ read_along names d.rest more x n h.1.0 in rw (named, read, h.1.1.0.0.0) refl))
      (d.low, (below names x n h.1.0, (h.1.1.0.2, tt))) refl
  by_command Put (w ∷ x ∷ y ∷ []) (v ∷ n ∷ k ∷ []) after h e =
      plain after _ (calls.Put v n k) e
      (λ more. rw (read_along names [] more w v h.0, read_along names [] more y k h.1.1.0, h.1.0.0.0) refl)
      (below names w v h.0, (h.1.0.2, (below names y k h.1.1.0, tt))) refl
  by_command Show (w ∷ []) (v ∷ []) after h e =
      plain after _ (calls.Show v) e (λ more. rw (read_along names [] more w v h.0) refl)
      (below names w v h.0, tt) refl
  by_command Collect [] [] after h e = plain after _ calls.Collect e (λ more. refl) tt refl
  by_command command words vs after h e = let n = counts names (kinds_of command) words vs h in
      absurd (omega (arith, n.0, n.1))

  pub command_takes : (words : List (List ℕ)) (c : Call × List (List ℕ)) → IsCommandLine roots names words c
      → TakesCall roots names words c.0 c.1
  command_takes words c line =
      let t = by_command line.command line.behind line.values c.1 line.are line.next in
      subst (λ (x : List (List ℕ)). TakesCall roots names x c.0 c.1) (sym line.words_are)
      (subst (λ (x : Call). TakesCall roots names (word_of line.command ∷ line.behind) x c.1) (sym line.call_is) t)

-- a line is its words, with one space between them
pub line_is : (line : List ℕ) → line ≡ join_with_byte 32 (words_of line)
unfolding words_of
line_is line = sym (join_with_byte-slice_split 32 line)
