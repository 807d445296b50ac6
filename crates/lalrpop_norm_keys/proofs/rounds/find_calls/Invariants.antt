use Rattle.std.proofs.Common.{◌≡◌, ◌-◌, ◌≤◌, List, ◌++◌, map}
use Rattle.lalrpop_grammar.specs.Views.{grammar_view}
use Rattle.lalrpop_grammar_symbols.specs.Symbols.{Closed}
use Rattle.lalrpop_grammar_language.specs.Among.{Among}
use Rattle.lalrpop_grammar_rules.specs.RuleTable.{rules_with}
use Rattle.lalrpop_grammar_rules.specs.Views.{closed_view}
use Rattle.lalrpop_norm_theory.specs.Rounds.{AreCallsToDepth}
use Rattle.lalrpop_norm_keys.specs.Tables.{IsKeyIndex, table_keys}
use Rattle.lalrpop_norm_theory.specs.CallPlaces.{IsMadeAt}
use Rattle.lalrpop_norm_keys.specs.SearchPremises.{CanSearch}
use Rattle.lalrpop_norm_keys.specs.StandingCalls.{CallStandsIn}
use Rattle.lalrpop_grammar.specs.WrittenGrammar.{rules_of}
use Rattle.lalrpop_norm_keys.proofs.OrderedCallLemmas.{IsCallWalk}
use Rattle.lalrpop_norm_keys.proofs.rounds.find_calls.Given as goal

-- the next calls stand in those that were walked over last, and these are made at that depth
abbrev pub invariant-loop-round : goal.invariant-loop-round
invariant-loop-round g l =
    let t = rules_with (g.F.Finder.finds l.finder) l.rules in
    record {
      low : l.round ≤ l.limit;
      index : IsKeyIndex l.calls;
      stand : (x : Closed) → Among (map closed_view l.last.next) x
          → (y : Closed) × Among (map closed_view l.last.callers) y × CallStandsIn t y x;
      made : CanSearch t l.rules.features.now (grammar_view l.grammar) → (y : Closed)
          → Among (map closed_view l.last.callers) y → IsMadeAt t l.round y;
      walked : CanSearch t l.rules.features.now (grammar_view l.grammar) → (walked : List Closed)
          × (table_keys l.calls ≡ walked ++ map closed_view l.last.next)
          × AreCallsToDepth t l.round walked (map closed_view l.last.next);
      order : CanSearch t l.rules.features.now (grammar_view l.grammar) → (walked : List Closed)
          × (table_keys l.calls ≡ walked ++ map closed_view l.last.next)
          × IsCallWalk t (rules_of (grammar_view l.grammar).items) walked (map closed_view l.last.next);
    }

abbrev pub decreases-loop-round : goal.decreases-loop-round
decreases-loop-round g l = l.limit - l.round
