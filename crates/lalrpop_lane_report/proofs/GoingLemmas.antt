-- By which items a trace goes on: the tests of the program.
use Rattle.std.proofs.Common.{◌≡◌, ◌∙◌, ◌↔◌, ℕ, Bool, List, map, sym, ap, subst, arith}
use Rattle.std.proofs.Common.{Option, None, Some}
use Rattle.std.specs.Prelude.{IsTrue, ◌==◌}
use Rattle.std.proofs.lemmas.Bool.Decides.{Decides-eqb}
use Rattle.lalrpop_grammar_symbols.specs.declared.names.NonterminalString.{NonterminalString}
use Rattle.lalrpop_grammar_repr.specs.declared.grammar.Grammar.{Grammar}
use Rattle.lalrpop_grammar_repr.specs.declared.production.Symbol.{Symbol}
use Rattle.lalrpop_grammar_repr.specs.declared.terminal_set.TerminalSet.{TerminalSet}
use Rattle.lalrpop_lr1_theory.specs.FirstSets.{First0}
use Rattle.lalrpop_sets.specs.AscendingLists.{has}
use Rattle.lalrpop_sets.specs.Tokens.{eof_number}
use Rattle.lalrpop_lr1_core.specs.Dots.{behind_cursor}
use Rattle.lalrpop_lr1_core.specs.Views.{next_of_number, production_symbol_view}
use Rattle.lalrpop_lr1_core.specs.declared.item.Item.{Item}
use Rattle.lalrpop_lr1_first.specs.FirstSetsOf.{AreFirstSetsOf, IsFirstSet, IsProductionOf}
use Rattle.lalrpop_lr1_first.proofs.TableLemmas.{end_is_none}
use Rattle.lalrpop_lane_report.specs.declared.traces.tracer.Kind.TheVariants.{Shift, Reduction}
use Rattle.lalrpop_lane_report.specs.Tracings.{GoesBy, Suits}

pub shift_goes : {L : Type 0} (item : Item L) (firsts : List (NonterminalString × List ℕ)) (terminals : TerminalSet) (by : Option Grammar) →
    Suits Shift firsts terminals by → IsTrue (item.index == 0) ↔ GoesBy by item
shift_goes item firsts terminals None suits = Decides-eqb item.index 0
shift_goes item firsts terminals (Some g) suits = absurd suits

pub reduction_goes : {L : Type 0} (item : Item L) (b : Bool) (set : List ℕ) (behind : List Symbol) (firsts : List (NonterminalString × List ℕ))
    (terminals : TerminalSet) (by : Option Grammar) → Suits Reduction firsts terminals by → behind ≡ behind_cursor item →
    ((g : Grammar) → AreFirstSetsOf g firsts → terminals ≡ g.terminals → IsFirstSet g (map production_symbol_view behind) set) →
    b ≡ has set (eof_number terminals) → IsTrue b ↔ GoesBy by item
reduction_goes item b set behind firsts terminals None suits is first has_end = absurd suits
reduction_goes {L} item b set behind firsts terminals (Some g) suits is first has_end =
    let at = first g suits.0 suits.1 (eof_number g.terminals) in
    let named : has set (eof_number terminals) ≡ has set (eof_number g.terminals) = ap (λ (ts : TerminalSet). has set (eof_number ts)) suits.1 in (
      λ t. subst (λ (side : List Symbol). First0 (IsProductionOf g) (map production_symbol_view side) None) is
          (subst (First0 (IsProductionOf g) (map production_symbol_view behind)) ended (at.0 (sym (has_end ∙ named) ∙ t)).1),
      λ f. has_end ∙ named ∙ at.1 (
        omega arith,
        subst (First0 (IsProductionOf g) (map production_symbol_view behind)) (sym ended)
            (subst (λ (side : List Symbol). First0 (IsProductionOf g) (map production_symbol_view side) None) (sym is) f),
      ),
    )
  where
    ended : next_of_number g.terminals (eof_number g.terminals) ≡ None
    ended = end_is_none g.terminals suits.0.numbered
