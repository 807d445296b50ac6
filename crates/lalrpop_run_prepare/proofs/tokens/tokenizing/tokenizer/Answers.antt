use Rattle.lalrpop_norm_chain.specs.LoweredViews.{lowered_view}
use Rattle.lalrpop_run_prepare.specs.Tokenizers.{scan_entries}
use Rattle.lalrpop_run_prepare.proofs.tokens.tokenizing.tokenizer.Goals as goal

pub returns-clause-made : goal.returns-clause-made
returns-clause-made c =
    let lowered = lowered_view c.in_ok-made.made in
    λ read.
    let given = c.in_ok-made.ensures.made read in
    record {
      generable = given.generable;
      lowered = lowered;
      normalized = given.normalized;
      scans = c.new.ensures (scan_entries lowered.entries) given.decides c.in_ok-terminals.ensures;
    }
