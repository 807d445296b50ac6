-- A start that stands on no right side stands on none that the theory sees; for whoever builds tables of a grammar.
use Rattle.std.proofs.Common.{◌≡◌, ap, sym, subst, map, Contains}
use Rattle.std.proofs.lemmas.List.Elements.{All-contains}
use Rattle.lalrpop_grammar_symbols.specs.declared.names.NonterminalString.{NonterminalString}
use Rattle.lalrpop_grammar_repr.specs.Productions.{AreFreeOf, IsAlone, IsFreeOf}
use Rattle.lalrpop_grammar_repr.specs.declared.grammar.Grammar.{Grammar}
use Rattle.lalrpop_grammar_repr.specs.declared.production.Production.{Production}
use Rattle.lalrpop_grammar_repr.specs.declared.production.Symbol.{Symbol}
use Rattle.lalrpop_grammar_repr.specs.declared.production.Symbol.TheVariants as symbols
use Rattle.lalrpop_lr1_theory.specs.CheckedStates.{IsStartAlone}
use Rattle.lalrpop_lr1_theory.specs.Productions as theory
use Rattle.lalrpop_lr1_core.specs.Views.{production_symbol_view, production_view}
use Rattle.lalrpop_lr1_core.proofs.MemberLemmas.{in_map}
use Rattle.lalrpop_lr1_core.proofs.GraphLemmas.{in_flat}
use Rattle.lalrpop_lr1_core.specs.TheoryGrammars.{productions_of_grammar}
use Rattle.lalrpop_lr1_core.specs.TheoryGrammars.{theory_grammar}

pub same_name : (x : Symbol) (n : NonterminalString) → production_symbol_view x ≡ theory.nonterminal n.0 → x ≡ symbols.Nonterminal n
same_name (symbols.Nonterminal m) n e = let same : m.0 ≡ n.0 = cc in ap (λ t. symbols.Nonterminal (record { 0 = t })) same
same_name (symbols.Terminal t) n e = let w : ⊥ = cc in absurd w

-- a nonterminal that stands on no right side of the grammar stands on none as the grammar is seen
pub alone_seen : (g : Grammar) (n : NonterminalString) → IsAlone n g.nonterminals → IsStartAlone (theory_grammar g) n.0
alone_seen g n alone p c d =
    let m = in_map production_view (productions_of_grammar g) p c in
    let e = in_flat (λ e. e.1.productions) g.nonterminals m.0 m.1 in
    let free : IsFreeOf n m.0.symbols =
    All-contains (λ (q : Production). IsFreeOf n q.symbols) e.0.1.productions m.0
    (All-contains (λ f. AreFreeOf n f.1.productions) g.nonterminals e.0 alone e.1) e.2 in
    let there : Contains (map production_symbol_view m.0.symbols) (theory.nonterminal n.0) =
    subst (λ (q : theory.Production). Contains q.right (theory.nonterminal n.0)) (sym m.2) d in
    let x = in_map production_symbol_view m.0.symbols (theory.nonterminal n.0) there in
    All-contains (λ (s : Symbol). s ≡ symbols.Nonterminal n → ⊥) m.0.symbols x.0 free x.1 (same_name x.0 n x.2)
