-- The core at its start: what its script, its words and its seats give to the openings of other definitions.
use Rattle.std.proofs.Common.{◌≡◌, ℕ, ◌+◌, ◌<◌, ◌≤◌, false, List, length, map, slice_get, sum_by, Some, sym, ap, refl}
use Rattle.std.proofs.Common.{◌∙◌, arith}
use Rattle.std.proofs.lemmas.Bool.Decides.{nat_tests}
use Rattle.std.proofs.lemmas.List.{length-map}
use Rattle.std.proofs.lemmas.Option.{same_Some, slice_get_within, slice_get_read}
use Rattle.mako_words.specs.declared.phase_word.PhaseWord.TheVariants.{Idle}
use Rattle.mako_words.specs.Entries.{entry_at}
use Rattle.mako_words.specs.Phases.{phase_at}
use Rattle.mako_words.proofs.EntryWords.{entry_at-entry_word}
use Rattle.mako_shape.specs.declared.numbers.Numbers.{Numbers}
use Rattle.mako_shape.specs.Limits.{EachInRange, tested, all_entries}
use Rattle.mako_shape.specs.Places.{Place, phase, barrier, work, ghost, entry, total, Within, word_at}
use Rattle.mako_model.specs.declared.call.Call.{Call}
use Rattle.mako_model.specs.declared.call.Call.TheVariants.{New, Num, CopyRoot, DropRoot, Get, Put, Show, Collect}
use Rattle.mako_model.specs.Heaps.{board_name}
use Rattle.mako_model.specs.Laws as laws
use Rattle.mako_model.specs.Laws.{ProgramsFit}
use Rattle.mako_model.specs.LawfulFronts.{IsInRange}
use Rattle.mako_script.specs.Programs.{ProgramView}
use Rattle.mako_script.specs.Scripts.{ScriptView, IsProper}
use Rattle.mako_script.specs.ScriptFacts.{facts_of}
use Rattle.mako_call.specs.Callers as callers
use Rattle.mako_mutator.proofs.ProgramCalls.{program_fits}
use Rattle.mako_seat.specs.declared.seat.Seat.{Seat}
use Rattle.mako_gate.specs.Standings.{away, mutator_at}
use Rattle.mako_layout.specs.Openings.{board_entry, opening_words, seats_from, idle_works}
use Rattle.mako_layout.proofs.Opens.{fits_word}
use Rattle.mako_names.specs.Tables.{IsWorkloadOf, entry_of, phase_of}
use Rattle.mako_names.specs.Uses.{IsUseSlot}
use Rattle.mako_names.proofs.Going.{map_get}
use Rattle.mako_state.specs.Facets.{gate_facet, work_facet, left_facet, ended_of}
use Rattle.mako_state.proofs.Seating.{map_at}
use Rattle.mako_state.proofs.OpeningWords.{entries_some}
use Rattle.mako_state.proofs.OpeningSeats.{IsOpeningSeat, of_mutator, of_server, of_collector, gate_is, work_is}
use Rattle.mako_state.proofs.OpeningSeats.{none_ended, gates_are, works_are, sum_none}

-- ---- the script

-- a call that a mutator can make has a number that fits
number_fits : (n : Numbers) (call : Call) → callers.CallFits n call → laws.CallFits call
number_fits n (New r fields) fits = tt
number_fits n (Num r number) fits = fits.1
number_fits n (CopyRoot to from) fits = tt
number_fits n (DropRoot r) fits = tt
number_fits n (Get to from field) fits = tt
number_fits n (Put to field from) fits = tt
number_fits n (Show r) fits = tt
number_fits n Collect fits = tt

module _ (s : ScriptView) (proper : IsProper s) where
  pub in_range : EachInRange (tested s.numbers)
  in_range = proper.shape.in_range.each

  mutators_are : length (facts_of s).programs ≡ s.numbers.mutators
  mutators_are = length-map s.programs (λ (p : ProgramView). p.calls) ∙ sym proper.mutators

  pub board_fits : s.board + 1 ≤ s.numbers.words
  board_fits = let high = proper.board_high in omega (arith, high, in_range)

  pub workload : IsWorkloadOf s.numbers (facts_of s)
  workload = record {
    mutators = mutators_are;
    roots = refl;
    board = board_fits;
    tablets = refl;
    entries = refl;
    words = refl;
    cycles = refl;
    generations = refl;
    few_cycles = omega (arith, in_range);
    few_generations = omega (arith, in_range);
  }

  pub program_at : (m : ℕ) (p : ProgramView) → slice_get s.programs m ≡ Some p
      → slice_get (facts_of s).programs m ≡ Some p.calls
  program_at m p at = map_at (λ (q : ProgramView). q.calls) s.programs m p at

  pub programs_fit : ProgramsFit (facts_of s).programs
  programs_fit m program call at here =
      let t = map_get (λ (q : ProgramView). q.calls) s.programs m program at in
      let found : slice_get program here.0 ≡ Some call =
      slice_get_read program (length program) here.0 call refl here.1 (sym here.2) in
      number_fits s.numbers call
      (program_fits s m t.0 proper t.1 here.0 call (ap (λ (cs : List Call). slice_get cs here.0) t.2 ∙ found))

-- ---- a core with these words and seats

module _ (s : ScriptView) (proper : IsProper s) (ws : List ℕ) (size : length ws ≡ total s.numbers)
    (stands : (p : Place) → Within s.numbers p → word_at s.numbers ws p ≡ opening_words s.numbers s.board p)
    (seats : List Seat) (count : length seats ≡ s.numbers.mutators + s.numbers.servers + 1)
    (each : (i : ℕ) (v : Seat) → slice_get seats i ≡ Some v → IsOpeningSeat s i v) where
  -- names
  pub phase_is : phase_of s.numbers ws ≡ Idle 0
  unfolding phase_of
  phase_is = ap phase_at (stands phase tt)

  pub some : 0 < all_entries s.numbers
  some = entries_some s.numbers proper.shape s.board

  pub first : entry_of s.numbers ws 0 ≡ board_entry s.numbers
  unfolding entry_of
  first = ap entry_at (stands (entry 0) some)
      ∙ entry_at-entry_word (board_entry s.numbers) (fits_word s.numbers proper.shape s.board (board_fits s proper))

  pub word_zero : (x : ℕ) → 0 < x → x < all_entries s.numbers → word_at s.numbers ws (entry x) ≡ 0
  word_zero x l within = stands (entry x) within ∙ off x l
    where
      off : (x : ℕ) → 0 < x → opening_words s.numbers s.board (entry x) ≡ 0
      off x l = grind (arith, nat_tests)

  pub others : (x : ℕ) → 0 < x → x < all_entries s.numbers
      → ((entry_of s.numbers ws x).taken ≡ false) × ((entry_of s.numbers ws x).generation ≡ 0)
  unfolding entry_of
  others x l within =
      let e = word_zero x l within in (ap (λ k. (entry_at k).taken) e, ap (λ k. (entry_at k).generation) e)

  pub slots : (p : Place) → Within s.numbers p → IsUseSlot p → word_at s.numbers ws p ≡ 0
  slots (barrier m slot) within is = stands (barrier m slot) within
  slots (work i slot) within is = stands (work i slot) within
  slots (ghost a b slot) within is = stands (ghost a b slot) within
  slots p within is = absurd is

  pub board_in_range : IsInRange (facts_of s) board_name
  board_in_range = record { entry = some; generation = (let r = in_range s proper in omega (arith, r)) }

  -- what is left of each program is the program
  program_is : (i : ℕ) (v : Seat) (program : List Call) → IsOpeningSeat s i v
      → slice_get (facts_of s).programs i ≡ Some program → program ≡ left_facet v
  program_is _ _ program (of_mutator m p at) is = same_Some program p.calls (sym is ∙ program_at s proper m p at)
  program_is _ _ program (of_server i j e l) is =
      absurd (let within = slice_get_within (facts_of s).programs i program is in
      let long = mutators_are s proper in let same = proper.mutators in omega arith)
  program_is _ _ program (of_collector i e) is =
      absurd (let within = slice_get_within (facts_of s).programs i program is in
      let long = mutators_are s proper in let same = proper.mutators in omega arith)

  pub programs_left : (m : ℕ) (left program : List Call) → slice_get (map left_facet seats) m ≡ Some left
      → slice_get (facts_of s).programs m ≡ Some program → program ≡ left
  programs_left m left program at is =
      let t = map_get left_facet seats m left at in program_is m t.0 program (each m t.0 t.1) is ∙ t.2

  -- layouts
  pub gates_same : map (gate_facet s.numbers) seats ≡ seats_from 0 (s.numbers.mutators + s.numbers.servers + 1)
  gates_same = gates_are (map (gate_facet s.numbers) seats) 0 (s.numbers.mutators + s.numbers.servers + 1)
      (length-map seats (gate_facet s.numbers) ∙ count)
      (λ i g at. let t = map_get (gate_facet s.numbers) seats i g at in
      sym t.2 ∙ gate_is s proper.mutators i t.0 (each i t.0 t.1)
      ∙ ap (λ q. mutator_at q away) (let a : i ≡ 0 + i = omega arith in a))

  pub works_same : map work_facet seats ≡ idle_works (s.numbers.mutators + s.numbers.servers + 1)
  works_same = works_are (map work_facet seats) (s.numbers.mutators + s.numbers.servers + 1)
      (length-map seats work_facet ∙ count)
      (λ i w at. let t = map_get work_facet seats i w at in sym t.2 ∙ work_is s i t.0 (each i t.0 t.1))

  pub ended_none : sum_by ended_of seats ≡ 0
  ended_none = sum_none ended_of seats (λ i v at. none_ended s i v (each i v at))
