-- A start that stands on no right side, and what it reaches, by the grammar's own productions: for states that may be parsed with.
use Rattle.std.proofs.Common.{◌≡◌, ◌↔◌, ℕ, List, sym, subst, map, Contains}
use Rattle.lalrpop_grammar_symbols.specs.Symbols.{Text}
use Rattle.lalrpop_grammar_symbols.specs.declared.names.NonterminalString.{NonterminalString}
use Rattle.lalrpop_grammar_repr.specs.declared.grammar.Grammar.{Grammar}
use Rattle.lalrpop_grammar_repr.specs.declared.production.Production.{Production}
use Rattle.lalrpop_lr1_theory.specs.CheckedStates.{AreCheckedStates, IsStartAlone}
use Rattle.lalrpop_lr1_theory.specs.Productions as theory
use Rattle.lalrpop_lr1_theory.specs.Trees.{AreOver, Forest, leaf, node, none}
use Rattle.lalrpop_lr1_theory.specs.ValidItems.{NoneBarren, Reaches, itself, onward}
use Rattle.lalrpop_lr1_core.specs.Views.{lr_state_view, production_view, token_lookahead}
use Rattle.lalrpop_lr1_core.specs.declared.state.State.{State}
use Rattle.lalrpop_lr1_core.specs.TheoryGrammars.{productions_of_grammar}
use Rattle.lalrpop_lr1_first.specs.NumberedGrammars.{IsNumberTableOf, IsSeenIn, table_productions}
use Rattle.lalrpop_lr1_first.specs.declared.numbered.Numbered.{Numbered}
use Rattle.lalrpop_lr1_first.proofs.TableFirstLemmas.{seen_same}
use Rattle.lalrpop_lr1_core.specs.TheoryGrammars.{theory_grammar}
use Rattle.lalrpop_lr1_interpret.specs.Parses.{AreParsable}

module _ (G H : theory.Production → Type 0) (more : (p : theory.Production) → G p → H p) where
  over_more : (ts : Forest) → AreOver G ts → AreOver H ts
  over_more none over = tt
  over_more (leaf t ts) over = over_more ts over
  over_more (node p cs ts) over = (more p over.0, over.1, over_more cs over.2, over_more ts over.3)

  reaches_more : (s A : Text) → Reaches G s A → Reaches H s A
  reaches_more s _ itself = itself
  reaches_more s _ (onward p B r g c) = onward p B (reaches_more s p.left r) (more p g) c

-- productions of which there are the same leave the same barren
barren_same : (G H : theory.Production → Type 0) → ((p : theory.Production) → G p ↔ H p) → (s : Text) → NoneBarren G s →
    NoneBarren H s
barren_same G H same s nb A r =
    let k = nb A (reaches_more H G (λ p. (same p).1) s A r) in
    (k.0, (k.1.0, over_more G H (λ p. (same p).0) k.0 k.1.1))

-- a grammar's table has the same barren as the grammar
pub table_barren : (g : Grammar) (table : Numbered) → IsNumberTableOf g table → (s : Text) →
    NoneBarren (IsSeenIn (table_productions table)) s ↔ NoneBarren (Contains (theory_grammar g)) s
table_barren g table of s =
    let same : (p : theory.Production) → IsSeenIn (table_productions table) p ↔ Contains (theory_grammar g) p =
    λ p. (
      seen_same production_view (table_productions table) (productions_of_grammar g) of.productions p,
      seen_same production_view (productions_of_grammar g) (table_productions table)
          (λ x. ((of.productions x).1, (of.productions x).0)) p,
    ) in (
      barren_same (IsSeenIn (table_productions table)) (Contains (theory_grammar g)) same s,
      barren_same (Contains (theory_grammar g)) (IsSeenIn (table_productions table)) (λ p. ((same p).1, (same p).0)) s,
    )

-- states that are checked where the start is alone and reaches nothing barren may be parsed with
pub are_parsable : (g : Grammar) (s t : NonterminalString) (states : List (State (List ℕ))) → t ≡ s →
    IsStartAlone (theory_grammar g) s.0 → NoneBarren (Contains (theory_grammar g)) s.0 →
    (NoneBarren (Contains (theory_grammar g)) t.0 → IsStartAlone (theory_grammar g) t.0 →
    AreCheckedStates (theory_grammar g) t.0 (map (lr_state_view (token_lookahead g.terminals)) states)) →
    AreParsable g.terminals states
are_parsable g s t states same alone nb checked =
    let alone_there = subst (λ (n : NonterminalString). IsStartAlone (theory_grammar g) n.0) (sym same) alone in
    let none_there = subst (λ (n : NonterminalString). NoneBarren (Contains (theory_grammar g)) n.0) (sym same) nb in
    record { grammar = theory_grammar g; start = t.0; alone = alone_there; checked = checked none_there alone_there }
