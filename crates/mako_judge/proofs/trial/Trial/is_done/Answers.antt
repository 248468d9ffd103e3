use Rattle.std.proofs.Common.{◌≡◌, slice_get, Some, [], ap, sym, ◌∙◌, append-nil}
use Rattle.std.proofs.lemmas.Option.{same_Some}
use Rattle.mako_model.specs.Fronts.{calls_by}
use Rattle.mako_judge.specs.Trials.{script}
use Rattle.mako_judge.proofs.Kept.{false_true}
use Rattle.mako_judge.proofs.Pointwise.{get_map}
use Rattle.mako_judge.proofs.trial.Trial.is_done.Goals as goal

pub returns-in-None : goal.returns-in-None
returns-in-None c = λ program at.
    let rows = c.args.self.now.setup.now.programs.items in
    let calls = calls_by c.args.mutator c.args.self.now.points.now in
    let row : slice_get (script c.args.self.now).programs c.args.mutator ≡ Some c.deref.result.now =
    get_map (λ calls. calls.items) rows c.args.mutator c.index-program.result.now c.requires
    ∙ ap (λ calls. Some calls.items) (sym c.index-program.ensures)
    ∙ ap (λ calls. Some calls) (sym c.deref.ensures.value) in
    let same : c.deref.result.now ≡ program = same_Some c.deref.result.now program (sym row ∙ at) in
    ((λ t. absurd (false_true t)), (λ e. absurd (c.in-None.ensures ([], append-nil calls ∙ e ∙ sym same))))
