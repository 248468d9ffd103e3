-- One entry of the table while the history goes on, and when it is published, freed or settled.
use Rattle.std.proofs.Common.{◌≡◌, ℕ, ◌+◌, ◌≤◌, Bool, true, false, List, [], ◌∷◌, ◌++◌, length, Contains, sym, subst}
use Rattle.std.proofs.Common.{refl, ◌∙◌, arith}
use Rattle.mako_words.specs.declared.name.Name.{Name}
use Rattle.mako_model.specs.declared.call.Call.{Call}
use Rattle.mako_model.specs.declared.reply.Reply.TheVariants.{Made}
use Rattle.mako_model.specs.declared.point.Point.{Point}
use Rattle.mako_model.specs.declared.point.Point.TheVariants.{Did, Snap}
use Rattle.mako_model.specs.Fronts.{Seen, with_point, with_cycle}
use Rattle.mako_model.specs.Legal.{Facts, state_of, IsLegal}
use Rattle.mako_model.specs.Dead.{names_made, IsDead}
use Rattle.mako_model.specs.LawfulFronts.{IsLawfulFront}
use Rattle.mako_model.proofs.Histories.{made_stays}
use Rattle.mako_model.proofs.DeadApart.{dead_later}
use Rattle.mako_model.proofs.Growth.{dead_stays, dead_was}
use Rattle.mako_names.specs.Counts.{name_of, made_of, NamesStand}
use Rattle.mako_names.specs.Tables.{EntryStands}
use Rattle.mako_names.proofs.Counts.{made_push, one_same}

pub no_bool : false ≡ true → ⊥
no_bool e = cc

-- a name that is dead was made
pub dead_made : (w : Facts) (history : List Point) (cycle : ℕ) (name : Name) → IsDead w history cycle name
    → Contains (names_made history) name
dead_made w history cycle name dead =
    subst (λ ps. Contains (names_made ps) name) (sym dead.split)
    (made_stays dead.before (Snap cycle ∷ dead.after) name dead.made)

-- the entry stands while the history goes on with a point that makes no name of it
pub entry_grows : (w : Facts) (front : Seen) (p : Point) (settled x : ℕ) (taken : Bool) (g : ℕ)
    → IsLawfulFront w front → IsLegal w (front.history ++ p ∷ [])
    → made_of x (front.history ++ p ∷ []) ≡ made_of x front.history
    → EntryStands w front settled x taken g → EntryStands w (with_point front p) settled x taken g
entry_grows w front p settled x taken g lawful legal same stands = record {
  count = stands.count ∙ sym same;
  free = λ is last e. dead_stays w front.history (p ∷ []) settled (name_of x last) (stands.free is last e);
  held = λ is dead. stands.held is
      (dead_was w front.history (p ∷ []) (length front.finished) (name_of x g) legal lawful.finished dead);
}

-- a free entry is published with its generation: a name that was just made is dead in no cycle
pub entry_published : (w : Facts) (front : Seen) (m : ℕ) (c : Call) (settled x g : ℕ) → IsLawfulFront w front
    → IsLegal w (front.history ++ Did m c (Made (name_of x g)) ∷ []) → NamesStand front.history
    → EntryStands w front settled x false g
    → EntryStands w (with_point front (Did m c (Made (name_of x g)))) settled x true g
entry_published w front m c settled x g lawful legal stand stands =
    let p : Point = Did m c (Made (name_of x g)) in
    let pushed = made_push x front.history p in
    let one = one_same x (name_of x g) refl in
    let count = stands.count in record {
      count = omega arith;
      free = λ is. absurd (no_bool (sym is));
      held = λ is dead.
          let was =
          dead_was w front.history (p ∷ []) (length front.finished) (name_of x g) legal lawful.finished dead in
          let below = (stand x g).0 (dead_made w front.history (length front.finished) (name_of x g) was) in
          absurd (omega arith);
    }

-- a taken entry is freed, whose name is dead
pub entry_freed : (w : Facts) (front : Seen) (settled x g : ℕ) → IsDead w front.history settled (name_of x g)
    → EntryStands w front settled x true g → EntryStands w front settled x false (g + 1)
entry_freed w front settled x g dead stands = let count = stands.count in record {
  count = omega arith;
  free = λ is last e. let same : g ≡ last =
      omega arith in subst (λ k. IsDead w front.history settled (name_of x k)) same dead;
  held = λ is. absurd (no_bool is);
}

-- a later cycle settles what an earlier one did
pub entry_settles : (w : Facts) (front : Seen) (settled later x : ℕ) (taken : Bool) (g : ℕ)
    → IsLegal w front.history → settled ≤ later → later ≤ (state_of w front.history).snaps
    → EntryStands w front settled x taken g → EntryStands w front later x taken g
entry_settles w front settled later x taken g legal le high stands = record {
  count = stands.count;
  free = λ is last e. dead_later w front.history settled later (name_of x last) legal le high (stands.free is last e);
  held = stands.held;
}

-- the cycle finishes, where the name of the entry, if it is taken, is not dead in it
pub entry_finishes : (w : Facts) (front : Seen) (names : List Name) (settled x : ℕ) (taken : Bool) (g : ℕ)
    → (taken ≡ true → ¬ IsDead w front.history (length (front.finished ++ names ∷ [])) (name_of x g))
    → EntryStands w front settled x taken g → EntryStands w (with_cycle front names) settled x taken g
entry_finishes w front names settled x taken g kept stands = record {
  count = stands.count;
  free = stands.free;
  held = kept;
}

-- ---- what an entry tells

-- the generation of a free entry is no name's yet
pub free_is_new : (w : Facts) (front : Seen) (settled x g : ℕ) → NamesStand front.history
    → EntryStands w front settled x false g → Contains (names_made front.history) (name_of x g) → ⊥
free_is_new w front settled x g stand stands made =
    let l = (stand x g).0 made in let count = stands.count in omega arith

-- the name of a taken entry was made
pub held_is_made : (w : Facts) (front : Seen) (settled x g : ℕ) → NamesStand front.history
    → EntryStands w front settled x true g → Contains (names_made front.history) (name_of x g)
held_is_made w front settled x g stand stands = let count = stands.count in (stand x g).1 (omega arith)
