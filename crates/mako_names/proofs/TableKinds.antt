-- The table at each kind of step.
use Rattle.std.proofs.Common.{◌≡◌, ◌≢◌, ℕ, ◌+◌, ◌-◌, ◌<◌, ◌^◌, ⊎_elim, true, false, List, [], ◌∷◌, ◌++◌, length, set}
use Rattle.std.proofs.Common.{sym, ap, subst, refl, ◌∙◌, arith, length-append}
use Rattle.std.proofs.lemmas.Bool.{cases_eq}
use Rattle.mako_words.specs.declared.name.Name.{Name}
use Rattle.mako_words.specs.declared.entry_word.EntryWord.{EntryWord}
use Rattle.mako_words.specs.declared.phase_word.PhaseWord.{PhaseWord}
use Rattle.mako_words.specs.declared.phase_word.PhaseWord.TheVariants.{Idle, Trace, Evac, Stop}
use Rattle.mako_words.specs.Entries.{entry_word, FitsEntry}
use Rattle.mako_words.specs.Phases.{phase_word, cycle_of, FitsPhase}
use Rattle.mako_shape.specs.declared.numbers.Numbers.{Numbers}
use Rattle.mako_shape.specs.Limits.{all_entries}
use Rattle.mako_shape.specs.Places.{phase, entry, index, total}
use Rattle.mako_model.specs.declared.call.Call.{Call}
use Rattle.mako_model.specs.declared.reply.Reply.TheVariants.{Made}
use Rattle.mako_model.specs.declared.point.Point.{Point}
use Rattle.mako_model.specs.declared.point.Point.TheVariants.{Did, Snap}
use Rattle.mako_model.specs.Fronts.{Seen, with_point, with_cycle}
use Rattle.mako_model.specs.Legal.{Facts, state_of, IsLegal}
use Rattle.mako_model.specs.Dead.{made_by, IsDead}
use Rattle.mako_model.specs.LawfulFronts.{IsLawfulFront}
use Rattle.mako_model.proofs.DeadApart.{snaps_replied}
use Rattle.mako_model.proofs.Histories.{state_push}
use Rattle.mako_names.specs.Counts.{name_of, made_of}
use Rattle.mako_names.specs.Tables.{published, EntryStands, EachStands, TableStands, SameTable, entry_of, phase_of}
use Rattle.mako_names.specs.Tables.{settled_of, running_of}
use Rattle.mako_names.proofs.Counts.{made_none, made_push, one_other, names_in_order}
use Rattle.mako_names.proofs.Entries.{entry_grows, entry_published, entry_freed, entry_settles, entry_finishes}
use Rattle.mako_names.proofs.Words.{entry_same, phase_same, entry_stored, entry_else, phase_else, phase_stored}
use Rattle.mako_names.proofs.Words.{entries_else}

-- one entry word is stored, and the other entries stand as they did
stored_each : (n : Numbers) (ws : List ℕ) (w : Facts) (front : Seen) (settled x : ℕ) (e : EntryWord)
    → length ws ≡ total n → x < all_entries n → FitsEntry e
    → EntryStands w front settled x e.taken e.generation
    → ((y : ℕ) → y < all_entries n → y ≢ x
    → EntryStands w front settled y (entry_of n ws y).taken (entry_of n ws y).generation)
    → EachStands n (set ws (index n (entry x)) (entry_word e)) w front settled
stored_each n ws w front settled x e size within fits this others y inside =
    ⊎_elim
    (λ same.
    subst (λ k. EntryStands w front settled k (entry_of n (set ws (index n (entry x)) (entry_word e)) k).taken
    (entry_of n (set ws (index n (entry x)) (entry_word e)) k).generation) (sym same)
    (subst (λ (u : EntryWord). EntryStands w front settled x u.taken u.generation)
    (sym (entry_stored n ws x e size within fits)) this))
    (λ other. subst (λ (u : EntryWord). EntryStands w front settled y u.taken u.generation)
    (sym (entry_else n ws x y (entry_word e) within inside other)) (others y inside other))
    (cases_eq y x)

-- no entry word is stored
same_each : (n : Numbers) (ws us : List ℕ) (w : Facts) (front : Seen) (settled : ℕ)
    → ((x : ℕ) → x < all_entries n → entry_of n us x ≡ entry_of n ws x) → EachStands n ws w front settled
    → EachStands n us w front settled
same_each n ws us w front settled same stands x within =
    subst (λ (u : EntryWord). EntryStands w front settled x u.taken u.generation) (sym (same x within))
    (stands x within)

-- the phase is as it was
same_phase : (n : Numbers) (ws us : List ℕ) (w : Facts) (front : Seen) → phase_of n us ≡ phase_of n ws
    → cycle_of (phase_of n ws) ≡ (state_of w front.history).snaps
    → length front.finished + running_of (phase_of n ws) ≡ (state_of w front.history).snaps
    → EachStands n us w front (settled_of (phase_of n ws)) → TableStands n us w front
same_phase n ws us w front same cycle finished entries = record {
  cycle = ap cycle_of same ∙ cycle;
  finished = ap (λ p. length front.finished + running_of p) same ∙ finished;
  entries = subst (λ p. EachStands n us w front (settled_of p)) (sym same) entries;
}

-- a step that changes neither the table nor the front
pub table_stays : (n : Numbers) (ws us : List ℕ) (w : Facts) (front : Seen) → SameTable n ws us
    → TableStands n ws w front → TableStands n us w front
table_stays n ws us w front same table =
    same_phase n ws us w front (phase_same n ws us same.phase) table.cycle table.finished
    (same_each n ws us w front (settled_of (phase_of n ws))
    (λ x within. entry_same n ws us x (same.entries x within)) table.entries)

did_snaps : (w : Facts) (front : Seen) (m : ℕ) (c : Call) (r : _)
    → (state_of w (front.history ++ Did m c r ∷ [])).snaps ≡ (state_of w front.history).snaps
did_snaps w front m c r =
    ap (λ s. s.snaps) (state_push w front.history (Did m c r)) ∙ snaps_replied (state_of w front.history) m c r

-- a deciding point that makes no name
pub table_point : (n : Numbers) (ws us : List ℕ) (w : Facts) (front : Seen) (m : ℕ) (c : Call) (r : _)
    → IsLawfulFront w front → IsLegal w (front.history ++ Did m c r ∷ []) → made_by (Did m c r) ≡ []
    → SameTable n ws us → TableStands n ws w front → TableStands n us w (with_point front (Did m c r))
table_point n ws us w front m c r lawful legal none same table =
    let snaps = did_snaps w front m c r in
    same_phase n ws us w (with_point front (Did m c r)) (phase_same n ws us same.phase) (table.cycle ∙ sym snaps)
    (table.finished ∙ sym snaps)
    (λ x within.
    subst (λ (u : EntryWord). EntryStands w (with_point front (Did m c r)) (settled_of (phase_of n ws)) x u.taken
    u.generation) (sym (entry_same n ws us x (same.entries x within)))
    (entry_grows w front (Did m c r) (settled_of (phase_of n ws)) x (entry_of n ws x).taken
    (entry_of n ws x).generation lawful legal (made_none x front.history (Did m c r) none) (table.entries x within)))

other_made : (front : Seen) (m : ℕ) (c : Call) (x g y : ℕ) → y ≢ x
    → made_of y (front.history ++ Did m c (Made (name_of x g)) ∷ []) ≡ made_of y front.history
other_made front m c x g y other =
    let e = made_push y front.history (Did m c (Made (name_of x g))) in let o =
    one_other y (name_of x g) (λ f. other (sym f)) in omega arith

-- the publication of a free entry
pub table_publishes : (n : Numbers) (ws : List ℕ) (w : Facts) (front : Seen) (m : ℕ) (c : Call)
    (x g epoch address : ℕ) → length ws ≡ total n → x < all_entries n → FitsEntry (published g epoch address)
    → IsLawfulFront w front → IsLegal w (front.history ++ Did m c (Made (name_of x g)) ∷ [])
    → (entry_of n ws x).taken ≡ false → (entry_of n ws x).generation ≡ g
    → TableStands n ws w front
    → TableStands n (set ws (index n (entry x)) (entry_word (published g epoch address))) w
    (with_point front (Did m c (Made (name_of x g))))
table_publishes n ws w front m c x g epoch address size within fits lawful legal is_free generation table =
    let p : Point = Did m c (Made (name_of x g)) in
    let settled : ℕ = settled_of (phase_of n ws) in
    let us : List ℕ = set ws (index n (entry x)) (entry_word (published g epoch address)) in
    let snaps = did_snaps w front m c (Made (name_of x g)) in
    let was : EntryStands w front settled x false g =
    subst (λ k. EntryStands w front settled x false k) generation
    (subst (λ b. EntryStands w front settled x b (entry_of n ws x).generation) is_free
    (table.entries x within)) in
    same_phase n ws us w (with_point front p) (phase_else n ws x (entry_word (published g epoch address)) within)
    (table.cycle ∙ sym snaps) (table.finished ∙ sym snaps)
    (stored_each n ws w (with_point front p) settled x (published g epoch address) size within fits
    (entry_published w front m c settled x g lawful legal (names_in_order w front lawful) was)
    (λ y inside other. entry_grows w front p settled y (entry_of n ws y).taken (entry_of n ws y).generation lawful
    legal (other_made front m c x g y other) (table.entries y inside)))

-- a store of an entry that leaves it taken with its generation, as a mark or a move does
pub table_touches : (n : Numbers) (ws : List ℕ) (w : Facts) (front : Seen) (x : ℕ) (e : EntryWord)
    → length ws ≡ total n → x < all_entries n → FitsEntry e → e.taken ≡ (entry_of n ws x).taken
    → e.generation ≡ (entry_of n ws x).generation
    → TableStands n ws w front → TableStands n (set ws (index n (entry x)) (entry_word e)) w front
table_touches n ws w front x e size within fits taken generation table =
    let settled : ℕ = settled_of (phase_of n ws) in
    same_phase n ws (set ws (index n (entry x)) (entry_word e)) w front (phase_else n ws x (entry_word e) within)
    table.cycle table.finished
    (stored_each n ws w front settled x e size within fits
    (subst (λ b. EntryStands w front settled x b e.generation) (sym taken)
    (subst (λ k. EntryStands w front settled x (entry_of n ws x).taken k) (sym generation) (table.entries x within)))
    (λ y inside other. table.entries y inside))

-- the store of a phase
stored_phase : (n : Numbers) (ws : List ℕ) (w : Facts) (front : Seen) (p : PhaseWord) → length ws ≡ total n
    → FitsPhase p → cycle_of p ≡ (state_of w front.history).snaps
    → length front.finished + running_of p ≡ (state_of w front.history).snaps
    → EachStands n ws w front (settled_of p) → TableStands n (set ws (index n phase) (phase_word p)) w front
stored_phase n ws w front p size fits cycle finished entries =
    let us : List ℕ = set ws (index n phase) (phase_word p) in
    let is = phase_stored n ws p size fits in record {
      cycle = ap cycle_of is ∙ cycle;
      finished = ap (λ q. length front.finished + running_of q) is ∙ finished;
      entries =
          subst (λ q. EachStands n us w front (settled_of q)) (sym is)
          (same_each n ws us w front (settled_of p) (λ x within. entries_else n ws x (phase_word p) within) entries);
    }

-- the store of Trace(c + 1) with its snapshot: what was settled before is settled in the cycle before
pub table_snaps : (n : Numbers) (ws : List ℕ) (w : Facts) (front : Seen) (c : ℕ) → length ws ≡ total n
    → c + 1 < 2 ^ 20 → IsLawfulFront w front → IsLegal w (front.history ++ Snap (c + 1) ∷ []) → phase_of n ws ≡ Idle c
    → TableStands n ws w front
    → TableStands n (set ws (index n phase) (phase_word (Trace (c + 1)))) w (with_point front (Snap (c + 1)))
table_snaps n ws w front c size fits lawful legal idle table =
    let p : Point = Snap (c + 1) in
    let cycle : c ≡ (state_of w front.history).snaps = sym (ap cycle_of idle) ∙ table.cycle in
    let finished : length front.finished + 0 ≡ (state_of w front.history).snaps =
    ap (λ q. length front.finished + running_of q) (sym idle) ∙ table.finished in
    let snaps : (state_of w (front.history ++ p ∷ [])).snaps ≡ (state_of w front.history).snaps + 1 =
    ap (λ s. s.snaps) (state_push w front.history p) in
    let settled : settled_of (phase_of n ws) ≡ c + 1 - 1 =
    ap settled_of idle ∙ (let e : c ≡ c + 1 - 1 = omega arith in e) in
    stored_phase n ws w (with_point front p) (Trace (c + 1)) size fits (omega arith) (omega arith)
    (λ x within.
    subst (λ k. EntryStands w (with_point front p) k x (entry_of n ws x).taken (entry_of n ws x).generation) settled
    (entry_grows w front p (settled_of (phase_of n ws)) x (entry_of n ws x).taken (entry_of n ws x).generation
    lawful legal (made_none x front.history p refl) (table.entries x within)))

-- the store of Evac(c)
pub table_evacuates : (n : Numbers) (ws : List ℕ) (w : Facts) (front : Seen) (c : ℕ) → length ws ≡ total n
    → c < 2 ^ 20 → IsLegal w front.history → phase_of n ws ≡ Trace c
    → TableStands n ws w front → TableStands n (set ws (index n phase) (phase_word (Evac c))) w front
table_evacuates n ws w front c size fits legal trace table =
    let cycle : c ≡ (state_of w front.history).snaps = sym (ap cycle_of trace) ∙ table.cycle in
    let settled : settled_of (phase_of n ws) ≡ c - 1 = ap settled_of trace in
    stored_phase n ws w front (Evac c) size fits cycle
    (ap (λ q. length front.finished + running_of q) (sym trace) ∙ table.finished)
    (λ x within. entry_settles w front (settled_of (phase_of n ws)) c x (entry_of n ws x).taken
    (entry_of n ws x).generation legal (omega arith) (omega arith) (table.entries x within))

-- the store of Stop(c)
pub table_stops : (n : Numbers) (ws : List ℕ) (w : Facts) (front : Seen) (c : ℕ) → length ws ≡ total n → c < 2 ^ 20
    → phase_of n ws ≡ Idle c
    → TableStands n ws w front → TableStands n (set ws (index n phase) (phase_word (Stop c))) w front
table_stops n ws w front c size fits idle table =
    stored_phase n ws w front (Stop c) size fits (sym (ap cycle_of idle) ∙ table.cycle)
    (ap (λ q. length front.finished + running_of q) (sym idle) ∙ table.finished)
    (subst (EachStands n ws w front) (ap settled_of idle) table.entries)

-- the store of a free entry in Evac(c), where its name is dead in c
pub table_frees : (n : Numbers) (ws : List ℕ) (w : Facts) (front : Seen) (c x : ℕ) (e : EntryWord)
    → length ws ≡ total n → x < all_entries n → FitsEntry e → e.taken ≡ false
    → e.generation ≡ (entry_of n ws x).generation + 1
    → phase_of n ws ≡ Evac c → (entry_of n ws x).taken ≡ true
    → IsDead w front.history c (name_of x (entry_of n ws x).generation)
    → TableStands n ws w front → TableStands n (set ws (index n (entry x)) (entry_word e)) w front
table_frees n ws w front c x e size within fits is_free generation evac taken dead table =
    let settled : ℕ = settled_of (phase_of n ws) in
    let is : c ≡ settled = sym (ap settled_of evac) in
    let g : ℕ = (entry_of n ws x).generation in
    let was : EntryStands w front settled x true g =
    subst (λ b. EntryStands w front settled x b g) taken (table.entries x within) in
    same_phase n ws (set ws (index n (entry x)) (entry_word e)) w front (phase_else n ws x (entry_word e) within)
    table.cycle table.finished
    (stored_each n ws w front settled x e size within fits
    (subst (λ b. EntryStands w front settled x b e.generation) (sym is_free)
    (subst (EntryStands w front settled x false) (sym generation)
    (entry_freed w front settled x g (subst (λ k. IsDead w front.history k (name_of x g)) is dead) was)))
    (λ y inside other. table.entries y inside))

-- the store of Idle(c), where the name of no taken entry is dead in c
pub table_finishes : (n : Numbers) (ws : List ℕ) (w : Facts) (front : Seen) (names : List Name) (c : ℕ)
    → length ws ≡ total n → c < 2 ^ 20 → phase_of n ws ≡ Evac c
    → ((x : ℕ) → x < all_entries n → (entry_of n ws x).taken ≡ true
    → ¬ IsDead w front.history c (name_of x (entry_of n ws x).generation))
    → TableStands n ws w front → TableStands n (set ws (index n phase) (phase_word (Idle c))) w (with_cycle front names)
table_finishes n ws w front names c size fits evac kept table =
    let cycle : c ≡ (state_of w front.history).snaps = sym (ap cycle_of evac) ∙ table.cycle in
    let finished : length front.finished + 1 ≡ (state_of w front.history).snaps =
    ap (λ q. length front.finished + running_of q) (sym evac) ∙ table.finished in
    let longer : length (front.finished ++ names ∷ []) ≡ length front.finished + 1 =
    length-append front.finished (names ∷ []) in
    let last : c ≡ length (front.finished ++ names ∷ []) = omega arith in
    stored_phase n ws w (with_cycle front names) (Idle c) size fits cycle (omega arith)
    (λ x within. entry_finishes w front names c x (entry_of n ws x).taken (entry_of n ws x).generation
    (λ is. subst (λ k. ¬ IsDead w front.history k (name_of x (entry_of n ws x).generation)) last (kept x within is))
    (subst (λ k. EntryStands w front k x (entry_of n ws x).taken (entry_of n ws x).generation) (ap settled_of evac)
    (table.entries x within)))
