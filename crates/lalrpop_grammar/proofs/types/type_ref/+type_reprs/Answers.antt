use Rattle.std.proofs.Common.{rules}
use Rattle.lalrpop_grammar.proofs.GroundingLemmas.{one_more_type, one_without_type}
use Rattle.lalrpop_grammar.proofs.types.type_ref.+type_reprs.Goals as goal

pub type_reprs-returns-in-None : goal.type_reprs-returns-in-None
type_reprs-returns-in-None t c =
    one_without_type c.args.types.now c.loop-written.written-index c.written-item.result (search rules) (search rules) (search rules)

pub type_reprs-loop-written-preserved : goal.type_reprs-loop-written-preserved
type_reprs-loop-written-preserved t c =
    one_more_type c.args.types.now c.loop-written.written-index c.written-item.result c.loop-written.found c.push.new.self
    c.in-Some.ty (search rules) (search rules) (search rules) (search rules) c.loop-written.invariant
