use Rattle.std.proofs.Common.{Vec, Global, length, set, get_or, ap, ◌∙◌, [], arith}
use Rattle.std.proofs.lemmas.List.{length-map}
use Rattle.mako_words.specs.declared.value.Value.{Value}
use Rattle.mako_model.proofs.RootsIn.{set_in}
use Rattle.mako_model.proofs.roots.Roots.set.Goals as goal

pub returns : goal.returns
returns c =
    let rows = c.self.inside.rows in
    let seen = ap length c.self.view_is in
    let long = length-map rows.items (λ (r : Vec Value Global). r.items) in
    set_in rows.items c.args.mutator c.args.root c.index_mut.result.now c.args.value
    (omega (arith, seen, long, c.requires.mutator)) c.index_mut.ensures.value
    ∙ ap (λ table. set table c.args.mutator (set (get_or table c.args.mutator []) c.args.root c.args.value))
    c.self.view_is
