use Rattle.std.proofs.Common.{subst}
use Rattle.lalrpop_grammar.specs.Views.{grammar_view}
use Rattle.lalrpop_grammar_repr.specs.declared.methods.Method.TheVariants.{Canonical}
use Rattle.lalrpop_norm_theory.specs.Premises.{IsReadGrammar}
use Rattle.lalrpop_run_parser.specs.Limits.{TellsFaultsFirst}
use Rattle.lalrpop_run_parser.specs.Parsers.{HasTableBy, ParserView}
use Rattle.lalrpop_run_parser.proofs.FaultLawLemmas.{tells_faults_first}
use Rattle.lalrpop_run_parser.proofs.parser.Parser.canonical_states_tell_faults.Goals as goal

pub returns : goal.returns
returns c =
    subst (λ (u : ParserView). IsReadGrammar (grammar_view u.prepared.written) → HasTableBy Canonical u.prepared u.table u.count →
    TellsFaultsFirst u) c.self.view_is
    (λ read by.
    tells_faults_first c.self.inside.prepared.now c.self.inside.table c.self.inside.state_count (c.known.ensures.prepared read) read
    c.known.ensures.prefixed c.known.ensures.parsed by)
