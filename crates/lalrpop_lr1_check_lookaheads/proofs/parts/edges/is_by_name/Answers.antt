use Rattle.std.proofs.Common.{◌≡◌, ◌∙◌, List, ℕ, ap, sym}
use Rattle.lalrpop_grammar_symbols.specs.Symbols.{Text}
use Rattle.lalrpop_grammar_symbols.specs.declared.names.NonterminalString.{NonterminalString}
use Rattle.lalrpop_lr1_theory.specs.Productions as theory
use Rattle.lalrpop_lr1_check_lookaheads.specs.SeenEdges.{edge_symbol_view}
use Rattle.lalrpop_lr1_check_lookaheads.proofs.parts.edges.is_by_name.Goals as goal

name_is : (a b : Text) → theory.nonterminal a ≡ theory.nonterminal b → a ≡ b
name_is a b e = cc

abbrev name_of : List ℕ → NonterminalString
name_of t = record { 0 = t }

pub returns-in-Nonterminal : goal.returns-in-Nonterminal
returns-in-Nonterminal c =
    let a = c.args.name.now in
    let b = c.in-Nonterminal.other.now in
    let own : edge_symbol_view c.args.own ≡ theory.nonterminal b.0 = ap edge_symbol_view c.in-Nonterminal.is in (
      λ e. ap (λ (x : NonterminalString). theory.nonterminal x.0) (c.is_same_name.ensures.0 e) ∙ sym own,
      λ h. c.is_same_name.ensures.1 (ap name_of (name_is a.0 b.0 (h ∙ own))),
    )
