-- What the ties of names come to.
use Rattle.std.proofs.Common.{◌≡◌, ℕ, ◌<◌, ◌≤◌, true, List, length, slice_get, Contains, Some, sym, subst, arith}
use Rattle.mako_words.specs.declared.name.Name.{Name}
use Rattle.mako_words.specs.Names.{name_word, FitsName}
use Rattle.mako_words.specs.declared.phase_word.PhaseWord.TheVariants.{Evac}
use Rattle.mako_shape.specs.declared.numbers.Numbers.{Numbers}
use Rattle.mako_shape.specs.Limits.{all_entries}
use Rattle.mako_shape.specs.Places.{Place, Within, word_at}
use Rattle.mako_model.specs.Dead.{AreFreed}
use Rattle.mako_model.specs.Legal.{Facts}
use Rattle.mako_names.specs.Counts.{name_of}
use Rattle.mako_names.specs.Freeing.{Freeing, own_entries, entry_by, FreeingStands, FreeingFits, EpochsStand, EpochsFit}
use Rattle.mako_names.specs.Going.{GatheringStands, GatheringFits}
use Rattle.mako_names.specs.Steps.{NameScene, NamesHoldIn, AllIsRead}
use Rattle.mako_names.specs.Tables.{IsWorkloadOf, EntryTells, IsTaken, entry_of, phase_of}
use Rattle.mako_names.specs.Uses.{IsGood, IsUseSlot}
use Rattle.mako_names.proofs.FreeingKinds.{freeing_lists}
use Rattle.mako_names.proofs.Going.{get_map, map_get}
use Rattle.mako_names.proofs.Good.{entry_tells, good_is_taken}
use Rattle.mako_names.proofs.NoticeKinds.{notices_all}
use Rattle.mako_names.proofs.TraceKinds.{past_have_epoch}

pub entries_tell : (n : Numbers) (w : Facts) (s : NameScene) (x : ℕ) → NamesHoldIn n w s → x < all_entries n
    → EntryTells n s.words w s.front x
entries_tell n w s x names within = entry_tells n s.words w s.front x names.hold.answers.lawful names.hold.table within

pub good_are_taken : (n : Numbers) (w : Facts) (s : NameScene) (x g : ℕ) → IsWorkloadOf n w → NamesHoldIn n w s
    → IsGood w s.front.history (name_of x g) → IsTaken n s.words x g
good_are_taken n w s x g of_it names good =
    good_is_taken n s.words w s.front x g of_it names.hold.answers.lawful names.hold.table good

pub slot_names_are_taken : (n : Numbers) (w : Facts) (s : NameScene) (p : Place) (name : Name) → IsWorkloadOf n w
    → NamesHoldIn n w s → Within n p → IsUseSlot p → FitsName name → word_at n s.words p ≡ name_word name
    → IsTaken n s.words name.entry name.generation
slot_names_are_taken n w s p name of_it names within slot fits is =
    good_are_taken n w s name.entry name.generation of_it names (names.hold.uses.slots p name within slot fits is)

pub held_names_are_taken : (n : Numbers) (w : Facts) (s : NameScene) (seat : ℕ) (used : List Name) (name : Name)
    → IsWorkloadOf n w → NamesHoldIn n w s → slice_get s.facets.held seat ≡ Some used → Contains used name
    → IsTaken n s.words name.entry name.generation
held_names_are_taken n w s seat used name of_it names at here =
    good_are_taken n w s name.entry name.generation of_it names (names.hold.uses.held seat used name at here)

module _ (n : Numbers) (w : Facts) (s : NameScene) where
  gathered : (c : ℕ) (names : NamesHoldIn n w s) → phase_of n s.words ≡ Evac c
      → GatheringStands names.freed s.facets.through s.facets.sent s.facets.collector
  gathered c names evac =
      subst (λ p. GatheringFits p names.freed s.facets.through s.facets.sent s.facets.collector) evac names.gathering

  freed_so_far : (c : ℕ) (names : NamesHoldIn n w s) → phase_of n s.words ≡ Evac c
      → FreeingStands n s.words w s.front.history c names.freed
  freed_so_far c names evac = subst (λ p. FreeingFits p n s.words w s.front.history names.freed) evac names.hold.freeing

  pub passed_have_epoch : (c server i through : ℕ) → NamesHoldIn n w s → phase_of n s.words ≡ Evac c
      → slice_get s.facets.through server ≡ Some through → i < through
      → (entry_of n s.words (entry_by n server i)).taken ≡ true → (entry_of n s.words (entry_by n server i)).epoch ≡ c
  passed_have_epoch c server i through names evac at low taken =
      let bounds = (gathered c names evac).bounds in
      let t = map_get (λ (f : Freeing). f.through) names.freed server through
      (subst (λ xs. slice_get xs server ≡ Some through) bounds at) in
      let epochs : EpochsStand n s.words w s.front.history c =
      subst (λ p. EpochsFit p n s.words w s.front.history) evac names.hold.epochs in
      let same = t.2 in
      past_have_epoch n w s.words s.front.history c server i names.freed t.0 epochs (freed_so_far c names evac) t.1
      (let d : i < t.0.through = omega arith in d) taken

  pub lists_are_freed : (c : ℕ) → IsWorkloadOf n w → NamesHoldIn n w s → phase_of n s.words ≡ Evac c
      → AllIsRead n s.facets
      → AreFreed w s.front.history c s.facets.collector.names
  lists_are_freed c of_it names evac read =
      let was = gathered c names evac in
      let stands = freed_so_far c names evac in
      let all : (server : ℕ) (f : Freeing) → slice_get names.freed server ≡ Some f → f.through ≡ own_entries n =
      λ server f at. read.through server f.through
      (subst (λ xs. slice_get xs server ≡ Some f.through) (sym was.bounds)
      (get_map (λ (z : Freeing). z.through) names.freed server f at)) in
      let size = stands.size in
      let done = read.read in
      let whole = notices_all names.freed s.facets.sent s.facets.collector
      (let d : length names.freed ≤ s.facets.collector.server = omega arith in d) was.notices in
      subst (AreFreed w s.front.history c) (sym whole)
      (freeing_lists n w s.words s.front c names.freed of_it names.hold.answers.lawful stands all)
