use Rattle.std.proofs.Common.{◌∙◌, ap, codes, sym, unwrap_or, Some, []}
use Rattle.clap.proofs.WalkLemmas.{first_value-rows}
use Rattle.clap.specs.Matches.{found_of}
use Rattle.lalrpop_run_options.specs.Options.{features_in}
use Rattle.lalrpop_run_options.proofs.FoundLemmas.{unwrap_or_text}
use Rattle.lalrpop_run_options.proofs.found.read.Goals as goal

pub returns : goal.returns
returns c =
    let found = found_of c.args.matches.now in
    let row = first_value-rows found in
    record {
      task = sym (row (codes "command")) ∙ c.task.ensures;
      start = sym (row (codes "start")) ∙ (c.start.ensures ∙ ap (λ t. Some t) (sym c.in_ok-from_str.ensures.ok));
      text = c.in_ok-text.ensures;
      tree = c.in_ok-tree.ensures;
      features = c.in_ok-features.ensures ∙ ap features_in (ap (λ s. s.now) c.unwrap_or.ensures
          ∙ unwrap_or_text c.get_str.result _
          ∙ ap (λ o. unwrap_or o []) (c.get_str.ensures ∙ row (codes "features")));
      macro_limit = rw (← row (codes "macro-limit")) c.macro_limit.ensures;
      method = rw (← row (codes "method"), ← row (codes "copies")) c.method.ensures;
      limit = rw (← row (codes "limit")) c.limit.ensures;
    }
