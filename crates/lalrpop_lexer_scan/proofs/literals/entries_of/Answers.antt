use Rattle.std.proofs.Common.{◌≡◌, ◌∙◌, sym, ap}
use Rattle.std.specs.Prelude.{flat_map}
use Rattle.lalrpop_grammar.specs.RulesLeft.{rules_left}
use Rattle.lalrpop_grammar.specs.Views.{alternative_view, grammar_view, nonterminal_view}
use Rattle.lalrpop_lexer_scan.specs.Literals.{first_span, uses_in_alternative, uses_in_grammar, uses_in_rule}
use Rattle.lalrpop_lexer_scan.specs.Noting.{Notes}
use Rattle.lalrpop_lexer_scan.proofs.NotingLemmas.{NotesInAll-step, flat_map-map}
use Rattle.lalrpop_lexer_scan.proofs.literals.entries_of.Goals as goal

pub loop-rule-preserved : goal.loop-rule-preserved
loop-rule-preserved c =
    let same : flat_map (λ a. uses_in_alternative (alternative_view a)) c.as_slice.result.now
    ≡ uses_in_rule (nonterminal_view c.in-Some.rule.now) =
    ap (flat_map (λ a. uses_in_alternative (alternative_view a))) c.as_slice.ensures
    ∙ sym (flat_map-map uses_in_alternative alternative_view c.in-Some.rule.now.alternatives) in
    let step : Notes c.loop-rule.uses c.note_alternatives.new.uses (uses_in_rule (nonterminal_view c.in-Some.rule.now)) =
    rw (← same) c.in_ok-note_alternatives.ensures in
    NotesInAll-step (first_span (uses_in_grammar (grammar_view c.args.grammar.now))) c.loop-rule.uses c.note_alternatives.new.uses
    (flat_map uses_in_rule (rules_left c.loop-rule.rule-iterator)) (uses_in_rule (nonterminal_view c.in-Some.rule.now))
    (flat_map uses_in_rule (rules_left c.next.new.self)) (ap (flat_map uses_in_rule) c.in-Some.ensures.steps) step c.loop-rule.invariant
