use Rattle.lalrpop_norm_token_check.proofs.AutomatonLemmas.{named_at}
use Rattle.lalrpop_norm_token_check.proofs.automaton.tie.Goals as goal

pub returns : goal.returns
returns c = (
  named_at c.args.entries.now c.args.one c.index-entries-one.result c.in_ok-try_clone.field-0 c.requires.one_within
      c.index-entries-one.is c.in_ok-try_clone.ensures,
  named_at c.args.entries.now c.args.two c.index-entries-two.result c.in_ok-try_clone-2.field-0 c.requires.two_within
      c.index-entries-two.is c.in_ok-try_clone-2.ensures,
)
