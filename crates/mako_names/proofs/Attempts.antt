-- The steps of waiting and of last attempts, from the words that they find.
use Rattle.std.proofs.Common.{◌≡◌, ℕ, ◌+◌, ◌*◌, ◌<◌, ◌≤◌, ◌⊎◌, ⊎_elim, true, false, List, ◌∷◌, length, set}
use Rattle.std.proofs.Common.{slice_get, Some, sym, subst, refl, ◌∙◌, arith}
use Rattle.mako_words.specs.Phases.{cycle_of}
use Rattle.mako_shape.specs.declared.numbers.Numbers.{Numbers}
use Rattle.mako_shape.specs.Limits.{all_entries}
use Rattle.mako_shape.specs.Places.{top, total, word_at}
use Rattle.mako_model.specs.declared.call.Call.{Call}
use Rattle.mako_model.specs.declared.call.Call.TheVariants as call
use Rattle.mako_model.specs.declared.reply.Reply.TheVariants as reply
use Rattle.mako_model.specs.declared.point.Point.TheVariants.{Did}
use Rattle.mako_model.specs.Fronts.{Seen, with_point}
use Rattle.mako_model.specs.Heaps.{board_name}
use Rattle.mako_model.specs.Legal.{Facts, state_of}
use Rattle.mako_model.specs.Starved.{IsEntryUnavailable, words_made}
use Rattle.mako_model.specs.LawfulFronts.{IsLawfulFront}
use Rattle.mako_model.proofs.CycleCounts.{cycles_stay}
use Rattle.mako_model.proofs.Histories.{legal_push}
use Rattle.mako_names.specs.Tables.{EntryStands, TableStands, SameTable, entry_of, phase_of, settled_of}
use Rattle.mako_names.specs.Tables.{running_of}
use Rattle.mako_names.specs.Uses.{SameSlots}
use Rattle.mako_names.specs.Trying as trying
use Rattle.mako_names.specs.Trying.{Trying, TryingStands, tablet_at}
use Rattle.mako_names.specs.Holding.{NameFacets, NamesHoldWith}
use Rattle.mako_names.proofs.Holding.{hold_tries, hold_decides}
use Rattle.mako_names.proofs.Next.{plain_next, cycle_next, not_full}
use Rattle.mako_model.proofs.RootRows.{has_roots}
use Rattle.mako_names.proofs.TryingKinds.{trying_asks, trying_awaited, trying_spent, trying_notes, trying_entry}
use Rattle.mako_names.proofs.TryingKinds.{trying_entries, trying_words, trying_full, trying_answered, taken_seen}
use Rattle.mako_names.proofs.TryingKinds.{retired_seen}

module _ (n : Numbers) (w : Facts) where
  -- the load of the phase asks for the cycle after the present one
  pub hold_asks : (ws : List ℕ) (front : Seen) (facets : NameFacets) (m : ℕ) → NamesHoldWith n w ws front facets
      → NamesHoldWith n w ws front
      (record facets { trying = set facets.trying m (trying.Asked (cycle_of (phase_of n ws) + 1)) })
  hold_asks ws front facets m hold =
      hold_tries n w ws front facets m (trying.Asked (cycle_of (phase_of n ws) + 1))
      (trying_asks w front m (cycle_of (phase_of n ws)) hold.table.cycle) hold

  -- a cycle that the phase tells to be finished is finished
  is_finished : (ws : List ℕ) (front : Seen) (k : ℕ) → TableStands n ws w front
      → k + running_of (phase_of n ws) ≤ cycle_of (phase_of n ws) → k ≤ length front.finished
  is_finished ws front k table told = let a = table.cycle in let b = table.finished in omega arith

  -- the load of the phase finds the cycle that was asked for finished, and the last attempt begins
  pub hold_begins_awaited : (ws : List ℕ) (front : Seen) (facets : NameFacets) (m k fields : ℕ)
      → slice_get facets.trying m ≡ Some (trying.Asked k) → k + running_of (phase_of n ws) ≤ cycle_of (phase_of n ws)
      → NamesHoldWith n w ws front facets
      → NamesHoldWith n w ws front (record facets { trying = set facets.trying m (trying.Last fields 0 0) })
  hold_begins_awaited ws front facets m k fields at told hold =
      hold_tries n w ws front facets m (trying.Last fields 0 0)
      (trying_awaited w front m k fields hold.answers.lawful (is_finished ws front k hold.table told)
      (hold.trying m (trying.Asked k) at)) hold

  -- or it finds the last cycle
  pub hold_begins_spent : (ws : List ℕ) (front : Seen) (facets : NameFacets) (m fields : ℕ)
      → cycle_of (phase_of n ws) ≡ w.cycles
      → NamesHoldWith n w ws front facets
      → NamesHoldWith n w ws front (record facets { trying = set facets.trying m (trying.Last fields 0 0) })
  hold_begins_spent ws front facets m fields last hold =
      hold_tries n w ws front facets m (trying.Last fields 0 0)
      (trying_spent w front m fields (sym hold.table.cycle ∙ last)) hold

  -- a last attempt that made a note
  pub hold_notes : (ws : List ℕ) (front : Seen) (facets : NameFacets) (m fields tablets entries : ℕ)
      → slice_get facets.trying m ≡ Some (trying.Last fields tablets entries)
      → NamesHoldWith n w ws front facets
      → NamesHoldWith n w ws front (record facets { trying = set facets.trying m (trying.Last fields 0 0) })
  hold_notes ws front facets m fields tablets entries at hold =
      hold_tries n w ws front facets m (trying.Last fields 0 0)
      (trying_notes w front m fields tablets entries (hold.trying m (trying.Last fields tablets entries) at)) hold

  -- a last attempt finds an entry taken, or with no generation left
  pub hold_sees : (ws : List ℕ) (front : Seen) (facets : NameFacets) (m fields tablets entries : ℕ)
      → slice_get facets.trying m ≡ Some (trying.Last fields tablets entries)
      → tablet_at w m tablets * w.entries + entries < all_entries n → 0 < w.generations
      → ((entry_of n ws (tablet_at w m tablets * w.entries + entries)).taken ≡ true)
      ⊎ (((entry_of n ws (tablet_at w m tablets * w.entries + entries)).taken ≡ false)
      × (w.generations ≤ (entry_of n ws (tablet_at w m tablets * w.entries + entries)).generation))
      → NamesHoldWith n w ws front facets
      → NamesHoldWith n w ws front
      (record facets { trying = set facets.trying m (trying.Last fields tablets (entries + 1)) })
  hold_sees ws front facets m fields tablets entries at within some found hold =
      let x : ℕ = tablet_at w m tablets * w.entries + entries in
      let lawful = hold.answers.lawful in
      let settled : ℕ = settled_of (phase_of n ws) in
      let g : ℕ = (entry_of n ws x).generation in
      let seen : (k : ℕ) → k ≤ length front.finished → IsEntryUnavailable w front front.history k x = λ k le. ⊎_elim
      (λ taken. taken_seen w front k settled x g lawful le
      (subst (λ b. EntryStands w front settled x b g) taken (hold.table.entries x within)))
      (λ t. retired_seen w front k settled x g lawful t.1 some
      (subst (λ b. EntryStands w front settled x b g) t.0 (hold.table.entries x within))) found in
      hold_tries n w ws front facets m (trying.Last fields tablets (entries + 1))
      (trying_entry w front m fields tablets entries seen lawful
      (hold.trying m (trying.Last fields tablets entries) at)) hold

  -- it has seen all entries of a tablet
  pub hold_goes_over : (ws : List ℕ) (front : Seen) (facets : NameFacets) (m fields tablets : ℕ)
      → slice_get facets.trying m ≡ Some (trying.Last fields tablets w.entries) → 0 < w.entries
      → NamesHoldWith n w ws front facets
      → NamesHoldWith n w ws front
      (record facets { trying = set facets.trying m (trying.Last fields (tablets + 1) 0) })
  hold_goes_over ws front facets m fields tablets at some hold =
      hold_tries n w ws front facets m (trying.Last fields (tablets + 1) 0)
      (trying_entries w front m fields tablets some (hold.trying m (trying.Last fields tablets w.entries) at))
      hold

  -- or has found too few words left in it
  pub hold_lacks : (ws : List ℕ) (front : Seen) (facets : NameFacets) (m fields tablets : ℕ)
      → slice_get facets.trying m ≡ Some (trying.Last fields tablets 0)
      → word_at n ws (top (tablet_at w m tablets)) ≤ words_made w (tablet_at w m tablets) front.history
      → w.words < word_at n ws (top (tablet_at w m tablets)) + fields + 1
      → NamesHoldWith n w ws front facets
      → NamesHoldWith n w ws front
      (record facets { trying = set facets.trying m (trying.Last fields (tablets + 1) 0) })
  hold_lacks ws front facets m fields tablets at used few hold =
      hold_tries n w ws front facets m (trying.Last fields (tablets + 1) 0)
      (trying_words w front m fields tablets (word_at n ws (top (tablet_at w m tablets))) used few
      (hold.trying m (trying.Last fields tablets 0) at)) hold

  -- it has gone over all tablets, and `Full` is decided
  pub hold_full : (ws us : List ℕ) (front : Seen) (facets : NameFacets) (m root fields : ℕ) (left : List Call)
      → slice_get facets.trying m ≡ Some (trying.Last fields w.tablets 0)
      → m < length w.programs → root < w.roots → slice_get facets.left m ≡ Some (call.New root fields ∷ left)
      → length us ≡ total n → SameTable n ws us → SameSlots n ws us
      → NamesHoldWith n w ws front facets
      → NamesHoldWith n w us (with_point front (Did m (call.New root fields) reply.Full))
      (record facets { trying = set facets.trying m trying.Nothing; left = set facets.left m left })
  hold_full ws us front facets m root fields left at within in_row is_next size same slots hold =
      let c : Call = call.New root fields in
      let lawful = hold.answers.lawful in
      let has = (has_roots w front.history lawful.legal).each m root within in_row in
      let next = plain_next w front m c reply.Full lawful has refl (λ k e. let b : ⊥ = cc in b) in
      hold_decides n w ws us front facets m c reply.Full left next
      (trying_full w front m root fields lawful (legal_push w front.history (Did m c reply.Full) lawful.legal has)
      (hold.trying m (trying.Last fields w.tablets 0) at))
      is_next refl size same slots hold

  -- a `Collect` finds the cycle finished that it asked for
  pub hold_answers : (ws us : List ℕ) (front : Seen) (facets : NameFacets) (m k : ℕ) (left : List Call)
      → slice_get facets.trying m ≡ Some (trying.Asked k)
      → k + running_of (phase_of n ws) ≤ cycle_of (phase_of n ws) → 1 ≤ k
      → m < length w.programs → slice_get facets.left m ≡ Some (call.Collect ∷ left) → length us ≡ total n
      → SameTable n ws us → SameSlots n ws us
      → NamesHoldWith n w ws front facets
      → NamesHoldWith n w us (with_point front (Did m call.Collect (reply.Cycle k)))
      (record facets { trying = set facets.trying m trying.Nothing; left = set facets.left m left })
  hold_answers ws us front facets m k left at told some within is_next size same slots hold =
      let lawful = hold.answers.lawful in
      let finished = is_finished ws front k hold.table told in
      let rows = (has_roots w front.history lawful.legal).rows in
      let has : m < length (state_of w front.history).roots = omega arith in
      let next =
      cycle_next w front m k lawful (
        has,
        some,
        (let l = lawful.finished in (let d : k ≤ (state_of w front.history).snaps = omega arith in d)),
      ) finished
      (trying_answered w front m k lawful finished (hold.trying m (trying.Asked k) at)) in
      hold_decides n w ws us front facets m call.Collect (reply.Cycle k) left next
      (not_full w front m call.Collect (reply.Cycle k) (λ e. let b : ⊥ = cc in b)) is_next refl size same slots
      hold

  -- a `Collect` finds the last cycle
  pub hold_spent : (ws us : List ℕ) (front : Seen) (facets : NameFacets) (m : ℕ) (left : List Call)
      → cycle_of (phase_of n ws) ≡ w.cycles → m < length w.programs
      → slice_get facets.left m ≡ Some (call.Collect ∷ left)
      → length us ≡ total n → SameTable n ws us → SameSlots n ws us
      → NamesHoldWith n w ws front facets
      → NamesHoldWith n w us (with_point front (Did m call.Collect reply.Spent))
      (record facets { trying = set facets.trying m trying.Nothing; left = set facets.left m left })
  hold_spent ws us front facets m left last within is_next size same slots hold =
      let lawful = hold.answers.lawful in
      let rows = (has_roots w front.history lawful.legal).rows in
      let next =
      plain_next w front m call.Collect reply.Spent lawful (
        (let d : m < length (state_of w front.history).roots = omega arith in d),
        sym hold.table.cycle ∙ last
            ∙ sym (cycles_stay w front.history lawful.legal),
      ) refl (λ k e. let b : ⊥ = cc in b) in
      hold_decides n w ws us front facets m call.Collect reply.Spent left next
      (not_full w front m call.Collect reply.Spent (λ e. let b : ⊥ = cc in b)) is_next refl size same slots hold

  -- ---- numbers that fit

  -- the board is in range, so that there is a generation
  pub some_generation : (front : Seen) → IsLawfulFront w front → 0 < w.generations
  some_generation front lawful = let l = (lawful.names board_name (0, omega arith, refl)).generation in omega arith
