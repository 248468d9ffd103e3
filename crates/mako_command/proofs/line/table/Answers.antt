use Rattle.std.proofs.Common.{◌≡◌, ◌∙◌, ap, ap₂, codes, true, [], ◌∷◌}
use Rattle.std.proofs.lemmas.Result.{IfOk-weaker}
use Rattle.clap.specs.Words.{App, app_of, new_app, with_subcommand}
use Rattle.clap.specs.Simple.{app_of_fields, on_top}
use Rattle.mako_command.specs.Tables.{command}
use Rattle.mako_command.proofs.line.table.Goals as goal

abbrev bare : App
bare = new_app (codes "mako")

abbrev plain : App
plain = record bare {
  top = record bare.top {
    no_binary_name = true;
    disable_help_flag = true;
    disable_help_subcommand = true;
    subcommand_required = true;
  };
}

pub returns : goal.returns
returns c =
    let set-1 : app_of c.no_binary_name.result ≡ on_top (λ s. record s { no_binary_name = true }) bare =
    ap app_of_fields c.no_binary_name.ensures
    ∙ ap (on_top (λ s. record s { no_binary_name = true })) c.new.ensures.app in
    let set-2 : app_of c.disable_help_flag.result ≡ on_top (λ s. record s {
      no_binary_name = true;
      disable_help_flag = true;
    }) bare =
    ap app_of_fields c.disable_help_flag.ensures ∙ ap (on_top (λ s. record s { disable_help_flag = true })) set-1 in
    let set-3 : app_of c.disable_help_subcommand.result ≡ on_top (λ s. record s {
      no_binary_name = true;
      disable_help_flag = true;
      disable_help_subcommand = true;
    }) bare =
    ap app_of_fields c.disable_help_subcommand.ensures
    ∙ ap (on_top (λ s. record s { disable_help_subcommand = true })) set-2 in
    let set-4 : app_of c.subcommand_required.result ≡ plain =
    ap app_of_fields c.subcommand_required.ensures ∙ ap (on_top (λ s. record s { subcommand_required = true })) set-3 in
    let with-1 : app_of c.in_ok-subcommand.field-0 ≡ with_subcommand plain
    (command (codes "replay") (codes "order" ∷ codes "steps" ∷ [])) =
    c.in_ok-subcommand.ensures.shape c.in_ok-command.ensures.local
    ∙ ap₂ with_subcommand set-4 c.in_ok-command.ensures.shape in
    let with-2 : app_of c.in_ok-subcommand-2.field-0 ≡ with_subcommand
    (with_subcommand plain (command (codes "replay") (codes "order" ∷ codes "steps" ∷ [])))
    (command (codes "gen") (codes "seed" ∷ codes "size" ∷ [])) =
    c.in_ok-subcommand-2.ensures.shape c.in_ok-command-2.ensures.local
    ∙ ap₂ with_subcommand with-1 c.in_ok-command-2.ensures.shape in
    let with-3 : app_of c.in_ok-subcommand-3.field-0 ≡ with_subcommand
    (with_subcommand (with_subcommand plain (command (codes "replay") (codes "order" ∷ codes "steps" ∷ [])))
    (command (codes "gen") (codes "seed" ∷ codes "size" ∷ []))) (command (codes "count") (codes "workers" ∷ [])) =
    c.in_ok-subcommand-3.ensures.shape c.in_ok-command-3.ensures.local
    ∙ ap₂ with_subcommand with-2 c.in_ok-command-3.ensures.shape in
    IfOk-weaker c.subcommand-4.result _ _ (λ made adds. adds.shape c.in_ok-command-4.ensures.local
    ∙ ap₂ with_subcommand with-3 c.in_ok-command-4.ensures.shape) c.subcommand-4.ensures
