use Rattle.std.proofs.Common.{◌∙◌, ap, sym, length}
use Rattle.lalrpop_lexer.proofs.StateViewLemmas.{views_count}
use Rattle.lalrpop_lexer.proofs.automaton.Dfa.state_count.Goals as goal

pub returns : goal.returns
returns c =
    c.len.ensures ∙ c.self.inside.states.ok.0 ∙ sym (views_count c.self.inside.states.items c.self.inside.edges)
    ∙ ap length c.self.view_is
