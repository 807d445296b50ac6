use Rattle.std.proofs.Common.{◌≡◌, map, take}
use Rattle.lalrpop_grammar_repr.specs.Productions.{productions_of}
use Rattle.lalrpop_lr1_build.specs.FrontItems.{front_of, shown_front}
use Rattle.lalrpop_lr1_build.proofs.builder.lr.front_items.Given as goal

abbrev pub invariant-loop-production : goal.invariant-loop-production
invariant-loop-production g l = map shown_front l.items.items
    ≡ map (front_of l.lookahead) (take l.production-index (productions_of l.grammar.nonterminals l.nonterminal))
