-- What a step of an attempt comes to: a stage of the call, whose numbers are in range, of a lower rank.
use Rattle.std.proofs.Common.{◌≡◌, ℕ, ◌+◌, ◌-◌, ◌*◌, ◌<◌, ◌≤◌, inl, inr, ap, arith}
use Rattle.std.proofs.lemmas.Bool.{cases_lt}
use Rattle.std.proofs.Math.Nat.{add-mul}
use Rattle.mako_words.specs.Entries.{entry_at, FitsEntry}
use Rattle.mako_words.specs.Names.{FitsName}
use Rattle.mako_words.specs.declared.name.Name.{Name}
use Rattle.mako_alloc.specs.Allocating as allocating
use Rattle.mako_alloc.specs.declared.job.Job.{Job}
use Rattle.mako_alloc.proofs.Bounds.{some_tablet}
use Rattle.mako_model.specs.declared.call.Call.{Call}
use Rattle.mako_model.specs.declared.call.Call.TheVariants.{New, Num, CopyRoot, DropRoot, Get, Put, Show, Collect}
use Rattle.mako_model.specs.declared.attempt.Attempt.{Attempt}
use Rattle.mako_model.specs.declared.attempt.Attempt.TheVariants.{Answer, Full, Pause as Paused}
use Rattle.mako_shape.specs.declared.numbers.Numbers.{Numbers}
use Rattle.mako_shape.proofs.BelongingLaws.{belongings_in_range}
use Rattle.mako_call.specs.declared.caller.Caller.{Caller}
use Rattle.mako_call.specs.declared.object.Access.{Access}
use Rattle.mako_call.specs.declared.object.Access.TheVariants.{Get as Gets, Put as Puts}
use Rattle.mako_call.specs.declared.object.Errand.{Errand}
use Rattle.mako_call.specs.declared.object.Located.{Located}
use Rattle.mako_call.specs.declared.call_stage.CallStage.{CallStage}
use Rattle.mako_call.specs.Agreeing.{Arrives, AccessOf, OutcomeOf, IsCollect, outcome_asked, asked_of, AskedFits}
use Rattle.mako_call.specs.Agreeing.{StageOf}
use Rattle.mako_call.specs.Objects.{tablet_of, at_record, AccessIsKnown, ErrandIsKnown, LocatedIsKnown}
use Rattle.mako_call.specs.Callers.{IsCaller}
use Rattle.mako_call.specs.Allocating.{opening_search, search_bound}
use Rattle.mako_call.specs.Leaving.{leaving_tablet}
use Rattle.mako_call.specs.Calls.{StageIsKnown, stage_rank}

-- a stage of the call that is known, and of a rank below this
pub record GoesOn (k : Caller) (call : Call) (r : ℕ) (stage : CallStage) : Type 0 where
  pub known : StageIsKnown k stage
  pub agrees : StageOf k.shape call stage
  pub lower : stage_rank k.shape stage < r

-- the tablet of an object that is known
pub tablet_known : (k : Caller) (e : Errand) → ErrandIsKnown k.shape e
    → tablet_of k.shape e.object < k.shape.servers * k.shape.tablets
tablet_known k e known = belongings_in_range.entry k.shape e.object.entry known.0.1

-- it leaves the tablet
pub leaves_tablet : (k : Caller) (call : Call) (r t : ℕ) (outcome : Attempt) → OutcomeOf call outcome
    → t < k.shape.servers * k.shape.tablets → 2 < r → GoesOn k call r (leaving_tablet t outcome)
leaves_tablet k call r t outcome arrives tablet h = record { known = tablet; agrees = arrives; lower = h }

-- a call that goes to an object arrives at its own gate
pub access_arrives : (call : Call) (access : Access) → AccessOf call access → Arrives call
access_arrives (Get to from field) (Gets get) h = tt
access_arrives (Put to field from) (Puts put) h = tt
access_arrives _ _ h = absurd h

-- it is at its object's record
pub at_goes : (k : Caller) (call : Call) (r : ℕ) (at : Located) (access : Access) → LocatedIsKnown k.shape at
    → AccessIsKnown k.shape access → AccessOf call access → 7 < r →
    GoesOn k call r (at_record at access)
at_goes k call r at (Gets get) located known agrees h = record {
  known = (located, known);
  agrees = agrees;
  lower = omega (arith, h);
}
at_goes k call r at (Puts put) located known agrees h = record { known = (located, known); agrees = agrees; lower = h }

-- the tablet of the object at which it is
pub located_tablet : (k : Caller) (at : Located) → LocatedIsKnown k.shape at
    → tablet_of k.shape at.object < k.shape.servers * k.shape.tablets
located_tablet k at known = belongings_in_range.entry k.shape at.object.entry known.0.1

-- each word is that of an entry whose numbers fit their bits
pub entry_fits : (w : ℕ) → FitsEntry (entry_at w)
entry_fits w = record { address = omega arith; epoch = omega arith; generation = omega arith }

-- a name that a new makes fits its bits
pub named_fits : (job : Job) (name : Name) → allocating.IsJob job → allocating.IsNamed job name → FitsName name
named_fits job name numbers named =
    let most = numbers.shape.entries in
    let ranges = numbers.shape.in_range.each in
    (omega (arith, named.0, most), omega (arith, named.1, ranges))

-- a search begins with its numbers in range
pub opening_known : (k : Caller) (fields cycle : ℕ) → IsCaller k → fields ≤ 14 → cycle ≤ k.shape.cycles
    → allocating.IsKnown (opening_search k fields cycle).job (opening_search k fields cycle).progress
opening_known k fields cycle caller few in_range = record {
  numbers = record { shape = caller.shape; mutator = caller.mutator; fields = few; cycle = in_range };
  passed = some_tablet k.shape caller.shape;
  stage = tt;
}

-- and with a rank within its bound
pub opening_rank : (k : Caller) (fields cycle : ℕ) → IsCaller k → fields ≤ 14
    → allocating.rank (opening_search k fields cycle) ≤ search_bound k.shape
opening_rank k fields cycle caller few =
    let n = k.shape in
    let some = some_tablet n caller.shape in
    let all : n.servers * n.tablets ≡ 1 + (n.servers * n.tablets - (0 + 1)) = omega (arith, some) in
    omega (arith, few, add-mul 1 (n.servers * n.tablets - (0 + 1)) (n.entries + 6), ap (λ q. q * (n.entries + 6)) all)

-- a number that is not the next one is beyond it
pub one_more : (a b : ℕ) → a < b → (a + 1 ≡ b → ⊥) → a + 1 < b
one_more a b h d = elim (cases_lt (a + 1) b) [ inl l ↦ l | inr g ↦ absurd (d (omega (arith, h, g))) ]

-- a call that arrives at the own gate has asked for no cycle, nor has one that is answered
pub arrives_asked : (n : Numbers) (call : Call) (outcome : Attempt) → Arrives call → AskedFits n (asked_of call outcome)
arrives_asked n (New root fields) outcome h = tt
arrives_asked n (Num root number) outcome h = tt
arrives_asked n (CopyRoot to from) outcome h = tt
arrives_asked n (DropRoot root) outcome h = tt
arrives_asked n (Get to from field) outcome h = tt
arrives_asked n (Put to field from) outcome h = tt
arrives_asked n (Show root) outcome h = tt
arrives_asked n Collect outcome h = absurd h

-- a call that leaves its own gate has arrived there
pub outcome_arrives : (call : Call) (outcome : Attempt) → OutcomeOf call outcome → Arrives call
outcome_arrives call (Answer reply) of = of
outcome_arrives (New root fields) Full of = tt
outcome_arrives _ Full of = absurd of
outcome_arrives call (Paused pause) of = of

-- what a collect comes to, that has asked for a cycle of the geometry if it has to wait
pub collect_asked : (n : Numbers) (call : Call) (outcome : Attempt) → IsCollect call
    → AskedFits n (outcome_asked outcome) → AskedFits n (asked_of call outcome)
collect_asked n Collect outcome h fits = fits
collect_asked n _ outcome h fits = absurd h
