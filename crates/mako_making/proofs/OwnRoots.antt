-- What a mutator keeps of itself where it publishes its object, where it stores the root, and at its end.
use Rattle.std.proofs.Common.{◌≡◌, ℕ, ◌<◌, ⊎_elim, [], ◌∷◌, ◌++◌, replicate, set, Option, Some, sym, ap, subst, refl}
use Rattle.std.proofs.Common.{◌∙◌, arith, append-nil}
use Rattle.std.proofs.lemmas.Bool.{cases_eq}
use Rattle.std.proofs.lemmas.Option.{same_Some}
use Rattle.mako_words.specs.declared.name.Name.{Name}
use Rattle.mako_words.specs.declared.value.Value.TheVariants.{Null, Ref}
use Rattle.mako_words.specs.Values.{value_word}
use Rattle.mako_shape.specs.Places.{finished, root, entry, index, Within, word_at}
use Rattle.mako_shape.proofs.PlaceLaws.{word_same, word_other}
use Rattle.mako_step.specs.declared.act.Op.TheVariants.{Add}
use Rattle.mako_model.specs.declared.attempt.Pause.{Pause as Reason}
use Rattle.mako_model.specs.declared.call.Call.TheVariants as call
use Rattle.mako_model.specs.declared.reply.Reply.TheVariants as reply
use Rattle.mako_model.specs.declared.point.Point.{Point}
use Rattle.mako_model.specs.declared.point.Point.TheVariants.{Did}
use Rattle.mako_model.specs.Heaps.{Heap, root_of, with_root, with_fields}
use Rattle.mako_model.specs.Lawful.{HasRoot}
use Rattle.mako_model.specs.Legal.{state_of}
use Rattle.mako_model.proofs.Histories.{state_push}
use Rattle.mako_model.proofs.Lookups.{root_same, root_other}
use Rattle.mako_model.proofs.RootRows.{has_roots}
use Rattle.mako_alloc.specs.declared.progress.NewStage.TheVariants.{Making}
use Rattle.mako_alloc.specs.declared.progress.NewRecord.{NewRecord}
use Rattle.mako_alloc.specs.declared.progress.Part.TheVariants.{Entry}
use Rattle.mako_call.specs.declared.call_stage.CallStage.{CallStage}
use Rattle.mako_call.specs.declared.call_stage.CallStage.TheVariants.{Allocating}
use Rattle.mako_call.specs.declared.allocating.AllocStage.TheVariants.{StoringRoot}
use Rattle.mako_mutator.specs.declared.progress.Task.TheVariants.{Finishing}
use Rattle.mako_mutator.specs.Drivers as drivers
use Rattle.mako_mutator.specs.Drivers.{Driving}
use Rattle.mako_mutator.proofs.DriverGoing.{driver_known}
use Rattle.mako_state.proofs.Points.{own_reply}
use Rattle.mako_mutating.specs.Mutators.{MutatorKeeps, found_by}
use Rattle.mako_making.proofs.Lights.{SelfKept, IsLight, roots_at}
use Rattle.mako_making.proofs.Searches.{y, seeking, AtStage}
use Rattle.mako_making.proofs.Trials.{Trial, at_task, driver}

-- ---- the object is published
module _ (x : Trial) (q f c passed : ℕ) (o : Option Reason) (made : NewRecord)
    (at : AtStage x q f c passed o (Making made Entry)) where
  abbrev z : Trial
  z = y x q f c

  abbrev stage : CallStage
  stage = seeking x q f c passed o (Making made Entry)

  abbrev h : Heap
  h = state_of x.w x.s.front.history

  abbrev objects : Heap
  objects = with_fields h made.name (replicate f Null)

  abbrev point : Point
  point = Did x.m (call.New q f) (reply.Made made.name)

  has : HasRoot h x.m q
  has =
      let facts = x.joint.script.facts in
      (has_roots x.w x.s.front.history x.joint.names.hold.answers.lawful.legal).each x.m q
      (subst (λ k. x.m < k) (sym facts.mutators) x.low)
      (subst (λ k. q < k) (sym facts.roots) at.known.progress.task.known.stage.0)

  within : Within x.n (entry made.name.entry)
  within = at.known.progress.task.known.stage.1.stage.0.name.0

  pub publication_kept : MutatorKeeps x.n x.w x.s.words x.s.front x.m (driver z stage)
      → drivers.Fits (driver z stage) (found_by x.s (driver z stage))
      → SelfKept x.n x.w x.s x.m (driver z stage)
  publication_kept keeps fits = record {
    known = driver_known (driver z stage) (found_by x.s (driver z stage)) keeps.known fits tt;
    shape = refl;
    number = refl;
    in_range = x.low;
    program = keeps.program;
    replies = ap (λ rs. rs ++ reply.Made made.name ∷ []) keeps.replies
        ∙ sym (own_reply x.m (call.New q f) (reply.Made made.name) x.s.front.history);
    says = tt;
    counts = tt;
    roots = λ j u less e.
        let e' : root_of (with_root objects x.m q (Ref made.name)) x.m j ≡ Some u =
        ap (λ k. root_of k x.m j) (sym (state_push x.w x.s.front.history point)) ∙ e in (
          (λ same. same_Some (Ref made.name) u
              (sym (root_same objects x.m q (Ref made.name) has.0 has.1)
              ∙ ap (root_of (with_root objects x.m q (Ref made.name)) x.m) same ∙ e')),
          (λ other. word_other x.n x.s.words (entry made.name.entry) (root x.m j) _ within (x.low, less)
              (λ d. (let b : ⊥ = cc in b))
              ∙ keeps.roots j u less
              (sym (root_other objects x.m q x.m j (Ref made.name) (λ a b. other (sym b))) ∙ e')),
        );
  }

-- ---- the root is stored
module _ (x : Trial) (q t : ℕ) (name : Name) where
  abbrev storing : CallStage
  storing = Allocating (StoringRoot q name t)

  pub root_kept : MutatorKeeps x.n x.w x.s.words x.s.front x.m (driver x storing)
      → drivers.Fits (driver x storing) (found_by x.s (driver x storing))
      → SelfKept x.n x.w x.s x.m (driver x storing)
  root_kept keeps fits =
      let in_row : q < x.n.roots = keeps.known.progress.task.known.stage.0 in
      let v = value_word (Ref name) in record {
        known = driver_known (driver x storing) (found_by x.s (driver x storing)) keeps.known fits tt;
        shape = refl;
        number = refl;
        in_range = x.low;
        program = keeps.program;
        replies = append-nil x.replies ∙ keeps.replies;
        says = tt;
        counts = tt;
        roots = λ j u less e. ⊎_elim
            (λ same. subst (λ k. word_at x.n (set x.s.words (index x.n (root x.m q)) v) (root x.m k) ≡ value_word u)
            (sym same)
            (word_same x.n x.s.words (root x.m q) v x.joint.names.hold.size (x.low, in_row)
            ∙ ap value_word ((keeps.roots j u less e).0 (sym same))))
            (λ other. word_other x.n x.s.words (root x.m q) (root x.m j) v (x.low, in_row) (x.low, less)
            (λ d. other (root_number x.m j q d))
            ∙ (keeps.roots j u less e).1 (λ same. other (sym same))) (cases_eq j q);
      }
    where
      root_number : (m j i : ℕ) → root m j ≡ root m i → j ≡ i
      root_number m j i d = cc

-- ---- the end
pub end_light : (x : Trial) → IsLight x.n x.w x.s x.m (at_task x Finishing)
end_light x = record {
  was = tt;
  acts = tt;
  roots = roots_at x finished (Add 1) tt (λ e. omega arith);
  bare = tt;
  still = tt;
}
