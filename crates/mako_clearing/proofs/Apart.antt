-- What steps of others leave to a server that evacuates.
use Rattle.std.proofs.Common.{◌≡◌, ◌≢◌, ℕ, ◌+◌, ◌*◌, ◌<◌, ◌≤◌, ◌⊎◌, inl, inr, ⊎_elim, Bool, List, ◌++◌, set, sym, ap}
use Rattle.std.proofs.Common.{subst, refl, ◌∙◌, arith}
use Rattle.std.proofs.lemmas.Bool.{cases_lt}
use Rattle.mako_words.specs.declared.name.Name.{Name}
use Rattle.mako_words.specs.declared.entry_word.EntryWord.{EntryWord}
use Rattle.mako_shape.specs.declared.numbers.Numbers.{Numbers}
use Rattle.std.specs.Prelude.{bit_or, bit_and}
use Rattle.mako_words.specs.Words.{all_but}
use Rattle.mako_words.specs.Entries.{entry_word}
use Rattle.mako_words.specs.Notices.{notice_word}
use Rattle.mako_words.specs.declared.notice_word.NoticeWord.TheVariants.{Freed}
use Rattle.mako_step.specs.Acts.{words_stepped}
use Rattle.mako_gate.specs.Bits.{shut_bit}
use Rattle.mako_record.specs.declared.copier.CopyStage.{CopyStage}
use Rattle.mako_record.specs.declared.copier.CopyStage.TheVariants.{LoadingTop, LoadingHeader, StoringHeader}
use Rattle.mako_record.specs.declared.copier.CopyStage.TheVariants.{LoadingField, StoringField, StoringEntry}
use Rattle.mako_record.specs.declared.copier.CopyStage.TheVariants.{RaisingTop, Ended as CopyEnded}
use Rattle.mako_record.specs.Copying as copying
use Rattle.mako_record.specs.Copying.{Copying as Copy, copied_to}
use Rattle.mako_evac.specs.declared.stage.EvacStage.{EvacStage}
use Rattle.mako_evac.specs.declared.stage.EvacStage.TheVariants.{Evacuating, Freeing, AwaitingEnd, TellingEnd, Ended}
use Rattle.mako_evac.specs.declared.tablet.TabletStage.TheVariants.{LoadingLeaving, Shutting, Draining, LoadingHome}
use Rattle.mako_evac.specs.declared.tablet.TabletStage.TheVariants.{LoadingEntry, Copying, Clearing, Reopening}
use Rattle.mako_evac.specs.declared.freeing.FreeStage.TheVariants.{Loading, Storing, Awaiting, Telling}
use Rattle.mako_evac.specs.Freeing.{free_word, name_of}
use Rattle.mako_shape.specs.Belongings.{tablet_of_entry}
use Rattle.mako_shape.proofs.BelongingLaws.{belongings_in_range, word_after}
use Rattle.mako_state.proofs.Words.{load_back}
use Rattle.mako_shape.specs.Places.{Place, phase, demand, finished, mutator_gate, root, barrier, flags, work, ghost}
use Rattle.mako_shape.specs.Places.{notice, tablet_gate, turn, home, top, leaving, live, entry, region_word, index}
use Rattle.mako_shape.specs.Places.{Within, word_at}
use Rattle.mako_shape.proofs.PlaceLaws.{word_other}
use Rattle.mako_model.specs.Legal.{Facts, state_of}
use Rattle.mako_model.proofs.Lists.{get_set_other}
use Rattle.mako_names.specs.Tables.{entry_of}
use Rattle.mako_names.proofs.Words.{entry_same}
use Rattle.mako_evac.specs.declared.owner.Owner.{Owner}
use Rattle.mako_evac.specs.Owners.{IsOwnEntry}
use Rattle.mako_evac.specs.Evacuating.{Evacuation, IsKnown, next_of, slot_at}
use Rattle.mako_evac.proofs.Bounds.{entry_within, tablet_within, entry_is_own, first_entry_rises}
use Rattle.mako_joint.specs.Joints.{JointScene}
use Rattle.mako_clearing.specs.Notices.{SameNotices}
use Rattle.mako_clearing.specs.Clearing.{IsDue, tells_end, ClearingStands, KeepsSizes, LeavesEvacuation, evacuated}
use Rattle.mako_clearing.specs.Apart.{IsForeign, StoresAreApart, IsApartFrom, EvacuationsAreApart}
use Rattle.mako_clearing.specs.ClearingFacets.{stage_carries, stage_sends}
use Rattle.mako_clearing.proofs.Rings.{sending_stays}

-- ---- a store at a foreign place

module _ (n : Numbers) (ws : List ℕ) (v : Evacuation) (p : Place) (word : ℕ) (within : Within n p)
    (foreign : IsForeign v p)
  where
    entry_apart : (x : ℕ) → x < n.servers * n.tablets * n.entries → IsOwnEntry v.owner x
        → word_at n (set ws (index n p) word) (entry x) ≡ word_at n ws (entry x)
    entry_apart x low own = word_other n ws p (entry x) word within low (λ e. subst (IsForeign v) (sym e) foreign own)

    pub notices_apart : v.owner.server < n.servers → SameNotices n ws (set ws (index n p) word) v.owner.server
    notices_apart known slot low =
        word_other n ws p (notice v.owner.server slot) word within (known, low)
        (λ e. subst (IsForeign v) (sym e) foreign refl)

pub due_same : (n : Numbers) (ws us : List ℕ) (cycle x g : ℕ) → entry_of n us x ≡ entry_of n ws x → IsDue n ws cycle x g
    → IsDue n us cycle x g
due_same n ws us cycle x g e due = record {
  taken = ap (λ (q : EntryWord). q.taken) e ∙ due.taken;
  generation_is = ap (λ (q : EntryWord). q.generation) e ∙ due.generation_is;
  epoch = subst (λ (q : EntryWord). q.epoch ≢ cycle) (sym e) due.epoch;
}

pub stores_are_apart : StoresAreApart
stores_are_apart n w s after v p word is within foreign known shape sizes =
    let in_shape : (k : Numbers) → v.owner.shape ≡ k → v.owner.server < k.servers =
    λ k e. subst (λ q. v.owner.server < q.servers) e known.owner.server in
    let low : v.at < n.ring = subst (λ q. v.at < q.ring) shape known.at in
    record {
      empty = λ e.
          ap (λ (us : List ℕ). word_at n us (notice v.owner.server v.at)) is
          ∙ notices_apart n s.words v p word within foreign (in_shape n shape) v.at low ∙ e;
      due = λ x g own due.
          due_same n s.words after.words v.owner.cycle x g
          (entry_same n s.words after.words x
          (ap (λ (us : List ℕ). word_at n us (entry x)) is
          ∙ entry_apart n s.words v p word within foreign x
          (subst (λ q. x < q.servers * q.tablets * q.entries) shape (entry_within v.owner x known.owner own)) own)) due;
      sizes = sizes;
    }

-- ---- what a step of an evacuation writes

abbrev IsMine : Owner → Place → Type 0
IsMine o (entry x) = IsOwnEntry o x
IsMine o (notice server slot) = server ≡ o.server
IsMine o p = Unit {0}

record Stored (o : Owner) (ws us : List ℕ) : Type 0 where
  place : Place
  word : ℕ
  within : Within o.shape place
  mine : IsMine o place
  is : us ≡ set ws (index o.shape place) word

-- nothing, or a word at one of its own places, or at a place of no server
abbrev Wrote : Owner → List ℕ → List ℕ → Type 0
Wrote o ws us = (us ≡ ws) ⊎ Stored o ws us

stored_at : (o : Owner) (ws : List ℕ) (p : Place) (word : ℕ) → Within o.shape p → IsMine o p
    → Wrote o ws (set ws (index o.shape p) word)
stored_at o ws p word within mine =
    inr (record { place = p; word = word; within = within; mine = mine; is = refl })

module _ (o : Owner) (ws : List ℕ) (t region x : ℕ) (e : EntryWord) (at : ℕ) where
  abbrev copier : CopyStage → Copy
  copier cs = record { shape = o.shape; number = x; entry = e; home = region; stage = cs }

  abbrev Known : Copy → Type 0
  Known q = IsKnown (record { owner = o; at = at; stage = Evacuating t (Copying region x q) })

  -- a word of the home
  stored_home : (q : Copy) → Known q → (offset word : ℕ) → q.home ≡ region → offset < o.shape.words
      → Wrote o ws (set ws (copied_to o.shape region offset) word)
  stored_home q known offset word same low =
      subst (λ i. Wrote o ws (set ws i word)) (word_after o.shape region offset)
      (stored_at o ws (region_word region offset) word (known.stage.1.0.home_is, low) tt)

  copy_wrote : (cs : CopyStage) → Known (copier cs) → Wrote o ws (words_stepped (copying.next_of (copier cs)) ws)
  copy_wrote LoadingTop known = inl (load_back ws (index o.shape (top (tablet_of_entry o.shape x))))
  copy_wrote (LoadingHeader offset) known = inl (load_back ws e.address)
  copy_wrote (StoringHeader offset fields) known =
      let room = known.stage.1.1.known.stage.room in
      stored_home (copier (StoringHeader offset fields)) known offset fields refl (omega arith)
  copy_wrote (LoadingField offset fields field) known = inl (load_back ws (e.address + 1 + field))
  copy_wrote (StoringField offset fields field word) known =
      let room = known.stage.1.1.known.stage.0.room in
      let less = known.stage.1.1.known.stage.1 in
      stored_home (copier (StoringField offset fields field word)) known (offset + 1 + field) word refl (omega arith)
  copy_wrote (StoringEntry offset fields) known =
      stored_at o ws (entry x) (entry_word (record e { address = copied_to o.shape region offset }))
      known.stage.1.1.known.number (entry_is_own o t x known.stage.0 known.stage.1.0.entry_is)
  copy_wrote (RaisingTop offset fields) known =
      stored_at o ws (top (tablet_of_entry o.shape x)) (offset + fields + 1)
      (belongings_in_range.entry o.shape x known.stage.1.1.known.number) tt
  copy_wrote (CopyEnded address) known = inl refl

  copying_wrote : (q : Copy) → q.entry ≡ e → Known q → Wrote o ws (words_stepped (copying.next_of q) ws)
  copying_wrote q same known =
      let of = known.stage.1.1 in
      let is : q ≡ copier q.stage =
      (λ i. record { shape = of.shape i; number = of.number i; entry = same i; home = of.home i; stage = q.stage }) in
      subst (λ k. Known k → Wrote o ws (words_stepped (copying.next_of k) ws)) (sym is) (copy_wrote q.stage) known

wrote : (o : Owner) (at : ℕ) (stage : EvacStage) (ws : List ℕ)
    → IsKnown (record { owner = o; at = at; stage = stage })
    → Wrote o ws (words_stepped (next_of (record { owner = o; at = at; stage = stage })) ws)
wrote o at (Evacuating t LoadingLeaving) ws known = inl (load_back ws (index o.shape (leaving t)))
wrote o at (Evacuating t Shutting) ws known =
    stored_at o ws (tablet_gate t) (bit_or (word_at o.shape ws (tablet_gate t)) shut_bit)
    (tablet_within o t known.owner known.stage.0) tt
wrote o at (Evacuating t Draining) ws known = inl (load_back ws (index o.shape (tablet_gate t)))
wrote o at (Evacuating t LoadingHome) ws known = inl (load_back ws (index o.shape (home t)))
wrote o at (Evacuating t (LoadingEntry region x)) ws known = inl (load_back ws (index o.shape (entry x)))
wrote o at (Evacuating t (Copying region x q)) ws known = copying_wrote o ws t region x q.entry at q refl known
wrote o at (Evacuating t Clearing) ws known =
    stored_at o ws (leaving t) 0 (tablet_within o t known.owner known.stage.0) tt
wrote o at (Evacuating t Reopening) ws known =
    stored_at o ws (tablet_gate t) (bit_and (word_at o.shape ws (tablet_gate t)) (all_but shut_bit))
    (tablet_within o t known.owner known.stage.0) tt
wrote o at (Freeing x Loading) ws known = inl (load_back ws (index o.shape (entry x)))
wrote o at (Freeing x (Storing g)) ws known =
    stored_at o ws (entry x) (free_word g) (entry_within o x known.owner known.stage.0) known.stage.0
wrote o at (Freeing x (Awaiting g)) ws known = inl (load_back ws (slot_at o at))
wrote o at (Freeing x (Telling g)) ws known =
    stored_at o ws (notice o.server at) (notice_word (Freed (name_of x g))) (known.owner.server, known.at) refl
wrote o at AwaitingEnd ws known = inl (load_back ws (slot_at o at))
wrote o at TellingEnd ws known = stored_at o ws (notice o.server at) 1 (known.owner.server, known.at) refl
wrote o at Ended ws known = inl refl

-- ---- two servers

-- the entries of two servers are apart
apart_entries : (a b : Owner) (x : ℕ) → a.shape ≡ b.shape → IsOwnEntry a x → IsOwnEntry b x → a.server ≡ b.server
apart_entries a b x shape own other =
    let same : IsOwnEntry (record { shape = a.shape; server = b.server; cycle = b.cycle }) x =
    subst (λ k. IsOwnEntry (record { shape = k; server = b.server; cycle = b.cycle }) x) (sym shape) other in
    let low = own.from in
    let high = own.below in
    let from = same.from in
    let to = same.below in
    ⊎_elim
    (λ less. absurd (let up = rises a.shape (a.server + 1) b.server (omega arith) in omega arith))
    (λ le. ⊎_elim
    (λ less. absurd (let up = rises a.shape (b.server + 1) a.server (omega arith) in omega arith))
    (λ more. omega arith) (cases_lt b.server a.server)) (cases_lt a.server b.server)
  where
    rises : (n : Numbers) (p q : ℕ) → p ≤ q → p * n.tablets * n.entries ≤ q * n.tablets * n.entries
    rises n p q le =
        first_entry_rises n.entries (p * n.tablets) (q * n.tablets) (first_entry_rises n.tablets p q le)

foreign_to : (a : Owner) (other : Evacuation) (p : Place) → a.shape ≡ other.owner.shape
    → other.owner.server ≢ a.server → IsMine a p → IsForeign other p
foreign_to a other (entry x) shape apart mine = λ own. apart (sym (apart_entries a other.owner x shape mine own))
foreign_to a other (notice server slot) shape apart mine = λ e. apart (sym e ∙ mine)
foreign_to a other phase shape apart mine = tt
foreign_to a other demand shape apart mine = tt
foreign_to a other finished shape apart mine = tt
foreign_to a other (mutator_gate m) shape apart mine = tt
foreign_to a other (root m q) shape apart mine = tt
foreign_to a other (barrier m slot) shape apart mine = tt
foreign_to a other (flags s) shape apart mine = tt
foreign_to a other (work s slot) shape apart mine = tt
foreign_to a other (ghost s r slot) shape apart mine = tt
foreign_to a other (tablet_gate t) shape apart mine = tt
foreign_to a other (turn t) shape apart mine = tt
foreign_to a other (home t) shape apart mine = tt
foreign_to a other (top t) shape apart mine = tt
foreign_to a other (leaving t) shape apart mine = tt
foreign_to a other (live t) shape apart mine = tt
foreign_to a other (region_word r o) shape apart mine = tt

pub same_leaves : (n : Numbers) (w : Facts) (s after : JointScene) (v : Evacuation) → after.words ≡ s.words
    → KeepsSizes (state_of w s.front.history) (state_of w after.front.history) → LeavesEvacuation n w s after v
same_leaves n w s after v same sizes = record {
  empty = λ e. ap (λ (us : List ℕ). word_at n us (notice v.owner.server v.at)) same ∙ e;
  due = λ x g own due. subst (λ us. IsDue n us v.owner.cycle x g) (sym same) due;
  sizes = sizes;
}

module _ (w : Facts) (s : JointScene) (v other : Evacuation) (ended : ℕ) (laden : Bool) (taker : ℕ) (sent : List Name)
    (c : ClearingStands v.owner.shape w s v ended laden taker sent) (known : IsKnown other)
    (shape : other.owner.shape ≡ v.owner.shape) (apart : other.owner.server ≢ v.owner.server) where
  abbrev after : JointScene
  after = evacuated v.owner.shape s v ended laden sent

  sizes_same : KeepsSizes (state_of w s.front.history) (state_of w s.front.history)
  sizes_same name fields are = (fields, are, refl)

  in_servers : other.owner.server < v.owner.shape.servers
  in_servers = subst (λ k. other.owner.server < k.servers) shape known.owner.server

  facts : LeavesEvacuation v.owner.shape w s after other × SameNotices v.owner.shape s.words after.words
      other.owner.server
  facts =
      ⊎_elim
      (λ same. (
        same_leaves v.owner.shape w s after other same sizes_same,
        (λ slot low. ap (λ (us : List ℕ). word_at v.owner.shape us (notice other.owner.server slot)) same),
      ))
      (λ t. let foreign = foreign_to v.owner other t.place (sym shape) apart t.mine in (
        stores_are_apart v.owner.shape w s after other t.place t.word t.is t.within foreign known shape sizes_same,
        (λ slot low.
            ap (λ (us : List ℕ). word_at v.owner.shape us (notice other.owner.server slot)) t.is
            ∙ notices_apart v.owner.shape s.words other t.place t.word t.within foreign in_servers slot low),
      ))
      (wrote v.owner v.at v.stage s.words c.known)

  apart_from : IsApartFrom v.owner.shape w s after other
  apart_from = record {
    leaves = facts.0;
    sending = λ q names k. record {
      sent_is = get_set_other s.facets.names.sent v.owner.server other.owner.server (sent ++ stage_sends v.stage) apart
          ∙ k.sent_is;
      notices = sending_stays v.owner.shape s.words after.words other.owner.server q other.at names
          (stage_carries other.stage) (tells_end other.stage) facts.1 k.notices;
    };
  }

pub evacuations_are_apart : EvacuationsAreApart
evacuations_are_apart n w s v other ended laden taker sent c known shape apart =
    subst
    (λ k. ClearingStands k w s v ended laden taker sent → other.owner.shape ≡ k
    → IsApartFrom k w s (evacuated k s v ended laden sent) other)
    c.shape (λ d e. apart_from w s v other ended laden taker sent d known e apart) c shape
