use Rattle.std.proofs.Common.{◌≡◌, refl, rules, subst, sym, Contains}
use Rattle.std.specs.Prelude.{flat_map}
use Rattle.lalrpop_grammar_repr.specs.declared.production.Production.{Production}
use Rattle.lalrpop_lr1_first.specs.Listings.{HoldSame, lent, lent_in, names_in_production}
use Rattle.lalrpop_lr1_core.specs.TheoryGrammars.{productions_of_grammar}
use Rattle.lalrpop_lr1_first.specs.Tables.{AreLaid, IsKnownProduction}
use Rattle.lalrpop_lr1_first.proofs.KnownLemmas.{known_production}
use Rattle.lalrpop_lr1_first.proofs.numbered.Numbered.new.Goals as goal

pub lay_rules-requires-clause-known : goal.lay_rules-requires-clause-known
lay_rules-requires-clause-known c =
    let g = c.args.grammar.now in
    let ps = c.in_ok-productions.productions.items in
    let at_names : c.as_slice.result.now ≡ ps = search rules in
    let at_laying : c.as_slice-2.result.now ≡ ps = search rules in
    let listed : HoldSame (lent c.in_ok-names.names.listed.items) (flat_map names_in_production (lent ps)) =
    subst (λ ks. HoldSame (lent ks) (flat_map names_in_production (lent ps))) (sym c.in_ok-names.ensures.listed)
    (subst (λ qs. HoldSame (lent_in c.in_ok-names_in.field-0) (flat_map names_in_production (lent qs))) at_names
    c.in_ok-names_in.ensures) in
    let same : HoldSame (lent ps) (productions_of_grammar g) =
    subst (λ ks. HoldSame (lent ks) (productions_of_grammar g)) (sym c.in_ok-productions.ensures.same) c.in_ok-productions_in.ensures in
    subst (λ qs. (p : Production) → Contains (lent qs) p →
    IsKnownProduction (lent c.in_ok-names.names.listed.items) g.terminals p) (sym at_laying)
    (known_production (lent c.in_ok-names.names.listed.items) g.terminals (lent ps) (productions_of_grammar g) listed same
    c.requires.known)

pub returns : goal.returns
returns c =
    let g = c.args.grammar.now in
    let ps = c.in_ok-productions.productions.items in
    let at_laying : c.as_slice-2.result.now ≡ ps = search rules in
    record {
      numbers = record {
        terminals = c.requires.numbered;
        names = c.in_ok-names.ensures.ordered;
        productions = c.in_ok-productions.ensures.ordered;
        laid = subst (λ qs. AreLaid (lent c.in_ok-names.names.listed.items) g.terminals (lent qs) c.lay_rules.new.rules.items
            c.lay_rules.new.places.items) at_laying c.in_ok-lay_rules.ensures;
      };
      terminals = refl;
      productions = subst (λ ks. HoldSame (lent ks) (productions_of_grammar g)) (sym c.in_ok-productions.ensures.same)
          c.in_ok-productions_in.ensures;
    }
