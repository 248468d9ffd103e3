use Rattle.std.proofs.Common.{◌≡◌, ◌∙◌, ◌++◌, ℕ, List, Vec, ap, ap₂, codes, length, map, sum_by, sym}
use Rattle.std.specs.List.{count_by}
use Rattle.mako_model.specs.declared.reply.Reply.{Reply}
use Rattle.mako_script.specs.Outputs.{last_line}
use Rattle.mako_cli.specs.Loads.{count_line, is_answer}
use Rattle.mako_cli.proofs.Loads.{replies_counted, summed_up}
use Rattle.mako_cli.proofs.load.summary.Goals.{then-finished, else-finished}
use Rattle.mako_cli.proofs.load.summary.Goals as goal

pub returns : goal.returns
returns c =
    let outcome = c.args.outcome.now in
    let sum = λ (lists : List (Vec Reply _)). sum_by length (map (λ v. v.items) lists) in
    let commands : c.count_replies.result ≡ count_by is_answer outcome.front.history =
    c.count_replies.ensures ∙ ap sum c.deref.ensures.value
    ∙ replies_counted outcome c.requires.whole c.requires.mutators in
    let cycles : c.from-2.result ≡ length outcome.front.finished =
    c.from-2.ensures ∙ c.len.ensures ∙ ap length c.requires.freed in
    let freed : c.count_freed.result ≡ sum_by length outcome.front.finished =
    c.count_freed.ensures ∙ ap (sum_by length) c.requires.freed in
    let last : c.if-finished.last.now ≡ last_line c.args.finished = elim c.if-finished.branch [
      | then-finished w ↦ ap (λ text. text.now) w.last-is ∙ sym (ap last_line w.if-finished.true)
      | else-finished w ↦ ap (λ text. text.now) w.last-is ∙ sym (ap last_line w.if-finished.false)
    ] in
    let begun = λ (start : List ℕ) (n : ℕ). start ++ count_line (codes "load ") n in
    let first : c.add_line.new.summary.items ≡ count_line (codes "load ") c.args.number =
    c.add_line.ensures.text ∙ ap₂ begun c.new-summary.ensures c.from.ensures in
    summed_up c.args.number outcome.front c.args.finished
    c.count_replies.result c.from-2.result c.count_freed.result c.if-finished.last.now
    c.add_line.new.summary.items c.add_line-2.new.summary.items c.add_line-3.new.summary.items
    c.add_line-4.new.summary.items c.add.new.summary.items commands cycles freed last first
    c.add_line-2.ensures.text c.add_line-3.ensures.text c.add_line-4.ensures.text c.add.ensures
