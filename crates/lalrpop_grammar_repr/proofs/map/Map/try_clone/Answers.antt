use Rattle.std.proofs.Common.{rules}
use Rattle.lalrpop_grammar_repr.proofs.MapLemmas.{copied_goes_on}
use Rattle.lalrpop_grammar_repr.proofs.map.Map.try_clone.Goals as goal

pub loop-key-preserved : goal.loop-key-preserved
loop-key-preserved g c =
    copied_goes_on g.met.K.Ord.total c.args.self.now c.loop-key.copy c.loop-key.key-iterator c.next.new.self c.insert_copy.new.self
    c.in-Some.key.now c.in-Some.value.now c.iter-key-items.ensures.ordered c.loop-key.invariant (search rules) (search rules)
