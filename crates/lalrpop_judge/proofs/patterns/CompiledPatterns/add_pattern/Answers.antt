use Rattle.lalrpop_judge.proofs.CompiledLemmas.{right_after}
use Rattle.lalrpop_judge.proofs.patterns.CompiledPatterns.add_pattern.Goals as goal

pub invariant_of-self : goal.invariant_of-self
invariant_of-self c = record {
  right = right_after c.insert.result c.args.self.now.by_text c.insert.new.self c.args.pattern c.in_ok-compiled.compiled
      c.args.self.now.right c.in_ok-compiled.ensures c.insert.ensures.updates c.insert.ensures.err;
}
