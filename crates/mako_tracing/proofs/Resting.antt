-- What follows from the facets of a server being of one machine: who is not laden rests, and in a quiet heap nobody is
-- laden.
use Rattle.std.proofs.Common.{◌≡◌, ℕ, ◌+◌, ◌<◌, ◌||◌, Bool, true, false, Option, Some, None, is_some, List, [], ◌∷◌}
use Rattle.std.proofs.Common.{◌++◌, sym, ap, refl, ◌∙◌, arith}
use Rattle.std.proofs.lemmas.Bool.{or_parts}
use Rattle.mako_words.specs.declared.name.Name.{Name}
use Rattle.mako_words.specs.declared.value.Value.{Value}
use Rattle.mako_shape.specs.declared.numbers.Numbers.{Numbers}
use Rattle.mako_model.specs.declared.point.Point.{Point}
use Rattle.mako_model.specs.Heaps.{fields_of}
use Rattle.mako_model.specs.Legal.{Facts, state_of, IsLegal}
use Rattle.mako_model.proofs.Closed.{made_are_objects}
use Rattle.mako_model.proofs.Histories.{legal_prefix}
use Rattle.mako_ring.specs.Facets.{Doing, resting, sending, storing, taking, clearing, ServerFacet, Scene}
use Rattle.mako_ring.specs.Polling.{DoingStands, MayTake, IsQuietScene, PollingStands}
use Rattle.mako_ring.specs.TraceFacets as trace
use Rattle.mako_ring.specs.TraceFacets.{Hand, empty, considering, marking, pushing, Off, nothing, popped, located, Work}
use Rattle.mako_ring.specs.TraceFacets.{has_hand, has_off, is_filled, IsIdle}
use Rattle.mako_ring.specs.TracerFacets.{work_of, serving_of}
use Rattle.mako_ring.specs.declared.tracing.Source.{Source}
use Rattle.mako_ring.specs.declared.tracing.Source.TheVariants.{Collector, Server}
use Rattle.mako_ring.specs.declared.tracing.MarkStage.TheVariants.{Considering, Measuring, Marking as EntryMark}
use Rattle.mako_ring.specs.declared.tracing.MarkStage.TheVariants.{Counting}
use Rattle.mako_ring.specs.declared.tracing.TraceStage.TheVariants.{Sending, Scanning, Receiving, Marking, Resting}
use Rattle.mako_ring.specs.declared.tracing.TraceStage.TheVariants.{Ended}
use Rattle.mako_phases.specs.Lives.{record_size, sized}
use Rattle.mako_phases.proofs.Sizes.{sizes_those}
use Rattle.mako_tracing.specs.Resting.{UnladenServersRest, QuietServersAreUnladen, MeasuredStays}
use Rattle.mako_tracing.specs.ServerFacets.{is_taking}

false_true : (b : Bool) → b ≡ false → b ≡ true → ⊥
false_true b f t = cc

no_hand : (h : Hand) → has_hand h ≡ false → h ≡ empty
no_hand empty e = refl
no_hand (considering x) e = absurd (false_true true e refl)
no_hand (marking x w) e = absurd (false_true true e refl)
no_hand (pushing x) e = absurd (false_true true e refl)

no_off : (o : Off) → has_off o ≡ false → o ≡ nothing
no_off nothing e = refl
no_off (popped x) e = absurd (false_true true e refl)
no_off (located x a) e = absurd (false_true true e refl)

no_option : {A : Type 0} (o : Option A) → is_some o ≡ false → o ≡ None
no_option None e = refl
no_option (Some x) e = absurd (false_true true e refl)

no_items : {A : Type 0} (xs : List A) → is_filled xs ≡ false → xs ≡ []
no_items [] e = refl
no_items (x ∷ xs) e = absurd (false_true true e refl)

-- who does not work is idle
idle_work : (w : Work) → trace.is_working w ≡ false → IsIdle (trace.serving w)
idle_work w e =
    let a = or_parts (has_hand w.hand)
    (has_off w.off || (is_some w.outgoing || (is_some w.scan || is_filled w.stack))) e in
    let b = or_parts (has_off w.off) (is_some w.outgoing || (is_some w.scan || is_filled w.stack)) a.1 in
    let c = or_parts (is_some w.outgoing) (is_some w.scan || is_filled w.stack) b.1 in
    let d = or_parts (is_some w.scan) (is_filled w.stack) c.1 in
    (no_hand w.hand a.0, no_option w.outgoing c.0, no_items w.stack d.1, no_off w.off b.0, no_option w.scan d.0)

pub unladen_rest : UnladenServersRest
unladen_rest t e =
    let parts = or_parts (serving_of t).working (is_taking (serving_of t).doing) e in
    (idle_work (work_of t) parts.0, parts.0)

-- in a quiet heap nobody takes a name
takes_none : (n : Numbers) (s : Scene) → PollingStands n s → IsQuietScene n s → (i : ℕ) → i < n.servers
    → (source : Source) (w : ℕ) → MayTake n s.word i (s.server i) source w → ⊥
takes_none n s stands quiet i low Collector w may =
    may.filled (sym may.found ∙ quiet.works i (s.server i).work_at low (stands.works i low).at_below)
takes_none n s stands quiet i low (Server a) w may =
    let is = may.is_source in
    may.filled (sym may.found ∙ quiet.ghosts a i ((s.server i).ghost_at a) is.0 low
    (stands.ghosts a i is.0 low is.1).at_below)

not_taking : (n : Numbers) (s : Scene) → PollingStands n s → IsQuietScene n s → (i : ℕ) → i < n.servers
    → (d : Doing) → DoingStands n s.word i (s.server i) d → is_taking d ≡ false
not_taking n s stands quiet i low resting may = refl
not_taking n s stands quiet i low (sending r) may = refl
not_taking n s stands quiet i low (storing r) may = refl
not_taking n s stands quiet i low (taking source w) may = absurd (takes_none n s stands quiet i low source w may)
not_taking n s stands quiet i low (clearing source w) may = absurd (takes_none n s stands quiet i low source w may)

neither : (a b : Bool) → a ≡ false → b ≡ false → (a || b) ≡ false
neither false b e f = f
neither true b e f = absurd (false_true true e refl)

pub quiet_unladen : QuietServersAreUnladen
quiet_unladen n s t stands quiet low is =
    neither (serving_of t).working (is_taking (serving_of t).doing)
    (ap (λ (f : ServerFacet). f.working) (sym is) ∙ quiet.servers t.server low)
    (ap (λ (f : ServerFacet). is_taking f.doing) (sym is)
    ∙ not_taking n s stands quiet t.server low (s.server t.server).doing (stands.doing t.server low))

-- ---- a measured record stays so

measured_name : (w : Facts) (before after : List Point) → IsLegal w (before ++ after) → (x : Name) (fields : ℕ)
    → record_size (state_of w before) x ≡ fields + 1 → record_size (state_of w (before ++ after)) x ≡ fields + 1
measured_name w before after legal x fields is =
    by (fields_of (state_of w before) x) refl
  where
    by : (o : Option (List Value)) → fields_of (state_of w before) x ≡ o
        → record_size (state_of w (before ++ after)) x ≡ fields + 1
    by None e = absurd (let none : 0 ≡ fields + 1 = sym (ap sized e) ∙ is in omega arith)
    by (Some values) e =
        sizes_those w before after legal x
        ((made_are_objects w before (legal_prefix w before after legal) x).1 (values, e)) ∙ is

pub measured_stays : MeasuredStays
measured_stays w before after legal (Marking (EntryMark x e fields)) is = measured_name w before after legal x fields is
measured_stays w before after legal (Marking (Considering x)) is = tt
measured_stays w before after legal (Marking (Measuring x e)) is = tt
measured_stays w before after legal (Marking (Counting x fields)) is = tt
measured_stays w before after legal (Sending x) is = tt
measured_stays w before after legal (Scanning x) is = tt
measured_stays w before after legal (Receiving x) is = tt
measured_stays w before after legal (Resting x) is = tt
measured_stays w before after legal Ended is = tt
