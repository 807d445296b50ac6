-- An alternative of a level, and the pass to the next tighter one, under the names that the program has for them.
use Rattle.std.specs.Prelude.{List, Option, Some, None}
use Rattle.lalrpop_grammar_symbols.specs.Symbols.{Text, syms, WrittenSymbol}
use Rattle.lalrpop_grammar.specs.WrittenGrammar.{Alternative, Rule}
use Rattle.lalrpop_grammar.specs.Views.{alternative_view}
use Rattle.lalrpop_grammar_language.specs.Closing.{Binding, occurrences_in}
use Rattle.lalrpop_grammar_language.specs.Levels.{Assoc, Rank}
use Rattle.lalrpop_grammar_rules.specs.Ranks.{rank_view}
use Rattle.lalrpop_grammar_rules.specs.Scopes.{binding_view}
use Rattle.lalrpop_norm_theory.specs.LevelRules.{rename_listed_occurrences}
use Rattle.lalrpop_norm_theory.specs.LeveledGrammar.{without_ranks, pass_down_to}
use Rattle.lalrpop_norm_precedence.specs.Occurrences.{name_by_side, scope_by_number}
use Rattle.lalrpop_norm_precedence.specs.declared.levels.alternatives.OccurrenceNames.{OccurrenceNames}
use Rattle.lalrpop_norm_precedence.specs.declared.levels.alternatives.RankedAlternative.{RankedAlternative}

-- what the occurrences of a rule in the alternatives of one of its levels are called
pub record OccurrenceNaming : Type 0 where
  pub binding : Binding
  pub owner : Text
  -- those that may have the alternative's own level
  pub reached : Text
  pub others : Text

abbrev pub naming_view : OccurrenceNames → OccurrenceNaming
naming_view n = record { binding = binding_view n.binding; owner = n.owner.now; reached = n.reached.now; others = n.others.now }

abbrev pub symbols_by_naming : OccurrenceNaming → Assoc → List WrittenSymbol → List WrittenSymbol
symbols_by_naming w side xs =
    rename_listed_occurrences (λ n k. name_by_side side (occurrences_in w.binding w.owner (syms xs)) w.reached w.others k)
    (scope_by_number w.binding w.owner) 0 xs

-- where there is no rank, there is no other level
abbrev pub side_of_rank : Option Rank → Assoc
side_of_rank None = Assoc.fully_assoc
side_of_rank (Some k) = k.side

abbrev pub alternative_by_naming : OccurrenceNaming → Alternative × Option Rank → Alternative
alternative_by_naming w p = record p.0 {
  expr = symbols_by_naming w (side_of_rank p.1) p.0.expr;
  attributes = without_ranks p.0.attributes;
}

abbrev pub ranked_alternative_view : RankedAlternative → Alternative × Option Rank
ranked_alternative_view r = (alternative_view r.alternative.now, Some (rank_view r.rank))

-- the pass to a level of that name, whatever its number
abbrev pub pass_down_by_name : Rule → Text → Alternative
pass_down_by_name r n = pass_down_to (λ owner j. n) r 0
