-- Names of productions are among those that are listed, terminals of a grammar in its set: for laying the right sides.
use Rattle.std.proofs.Common.{List, []}
use Rattle.std.proofs.Common.{Contains}
use Rattle.std.specs.Prelude.{flat_map}
use Rattle.lalrpop_grammar_symbols.specs.declared.names.NonterminalString.{NonterminalString}
use Rattle.lalrpop_grammar_repr.specs.declared.production.Production.{Production}
use Rattle.lalrpop_grammar_repr.specs.declared.production.Symbol.{Symbol}
use Rattle.lalrpop_grammar_repr.specs.declared.production.Symbol.TheVariants as symbols
use Rattle.lalrpop_grammar_repr.specs.declared.terminal_set.TerminalSet.{TerminalSet}
use Rattle.lalrpop_lr1_theory.proofs.ListLemmas.{contains_here, contains_later}
use Rattle.lalrpop_lr1_first.specs.Listings.{HoldSame, names_in_production, symbol_names}
use Rattle.lalrpop_lr1_first.specs.Tables.{HaveNumberedTerminals, IsKnownProduction, IsKnownSymbol}
use Rattle.lalrpop_lr1_core.proofs.GraphLemmas.{flat_has}

module _ (names : List NonterminalString) (ts : TerminalSet) (productions known : List Production)
    (listed : HoldSame names (flat_map names_in_production productions))
    (same : HoldSame productions known) (numbered : HaveNumberedTerminals ts known) where
  known_symbol : (p : Production) → Contains productions p → (x : Symbol) → Contains p.symbols x → IsKnownSymbol names ts x
  known_symbol p c (symbols.Nonterminal n) d =
      (listed n).1 (flat_has names_in_production productions p n c
      (contains_later p.nonterminal n (flat_map symbol_names p.symbols)
      (flat_has symbol_names p.symbols (symbols.Nonterminal n) n d (contains_here n []))))
  known_symbol p c (symbols.Terminal t) d = numbered p ((same p).0 c) (symbols.Terminal t) d

  pub known_production : (p : Production) → Contains productions p → IsKnownProduction names ts p
  known_production p c = record {
    name = (listed p.nonterminal).1 (flat_has names_in_production productions p p.nonterminal c
        (contains_here p.nonterminal (flat_map symbol_names p.symbols)));
    side = known_symbol p c;
  }
