use Rattle.std.proofs.Common.{◌≡◌, ◌∷◌, [], ◌++◌, ◌⊎◌, ◌↔◌, Contains, List, ap, subst, rules, sym}
use Rattle.std.proofs.Common.{◌∙◌}
use Rattle.std.specs.Prelude.{flat_map}
use Rattle.lalrpop_grammar_symbols.specs.declared.names.NonterminalString.{NonterminalString}
use Rattle.lalrpop_grammar_repr.specs.declared.production.NonterminalData.{NonterminalData}
use Rattle.lalrpop_grammar_repr.specs.declared.production.Production.{Production}
use Rattle.lalrpop_lr1_first.specs.Listings.{lent, lent_in}
use Rattle.lalrpop_lr1_core.specs.TheoryGrammars.{productions_of_grammar}
use Rattle.lalrpop_lr1_first.proofs.AddLemmas.{puts_all, puts_more, puts_start}
use Rattle.lalrpop_lr1_first.proofs.listing.productions_in.Goals as goal

abbrev given : List (NonterminalString × NonterminalData) → List Production
given es = flat_map (λ e. e.1.productions) es

pub loop-data-init : goal.loop-data-init
loop-data-init c =
    let all : c.into_iter-data-iterator.result ≡ c.args.grammar.now.nonterminals = search rules in
    let none : lent_in c.new-set.result ≡ [] = ap lent c.new-set.ensures.empty in
    subst (λ old. (p : Production) → Contains (productions_of_grammar c.args.grammar.now) p
    ↔ (Contains old p ⊎ Contains (given c.into_iter-data-iterator.result) p)) (sym none)
    (puts_start (productions_of_grammar c.args.grammar.now) (given c.into_iter-data-iterator.result) (ap given all))

pub loop-data-preserved : goal.loop-data-preserved
loop-data-preserved c =
    let next : c.loop-data.data-iterator ≡ (c.in-Some.field-0-0.now, c.in-Some.data.now) ∷ c.next.new.self = search rules in
    let side : c.as_slice.result.now ≡ c.in-Some.data.now.productions = c.as_slice.ensures in
    puts_more (productions_of_grammar c.args.grammar.now) (lent_in c.loop-data.set) (lent_in c.add_productions.new.set)
    (given c.loop-data.data-iterator) c.as_slice.result.now (given c.next.new.self) c.loop-data.invariant
    (ap given next ∙ ap (λ l. l ++ given c.next.new.self) (sym side)) c.in_ok-add_productions.ensures

pub returns : goal.returns
returns c =
    let none : c.loop-data.data-iterator ≡ [] = search rules in
    puts_all (productions_of_grammar c.args.grammar.now) (lent_in c.loop-data.set) (given c.loop-data.data-iterator)
    c.loop-data.invariant (ap given none)
