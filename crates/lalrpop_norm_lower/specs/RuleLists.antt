-- What definitions see of rules that were picked out of a grammar.
use Rattle.std.specs.Prelude.{List, map}
use Rattle.std.specs.Borrow.{Bor}
use Rattle.lalrpop_grammar.specs.Views.{nonterminal_view}
use Rattle.lalrpop_grammar.specs.WrittenGrammar.{Rule}
use Rattle.lalrpop_grammar.specs.declared.nonterminal.NonterminalData.{NonterminalData}

abbrev pub rules_at : List (Bor NonterminalData) → List Rule
rules_at = map (λ r. nonterminal_view r.now)
