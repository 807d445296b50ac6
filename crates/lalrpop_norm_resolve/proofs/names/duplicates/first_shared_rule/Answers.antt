use Rattle.std.proofs.Common.{◌≡◌, ◌∙◌, ◌||◌, ap, sym, arith, false}
use Rattle.lalrpop_grammar_language.specs.Enabled.{has_text, bares_of}
use Rattle.lalrpop_grammar.specs.RulesLeft.{rules_left}
use Rattle.lalrpop_grammar.specs.WrittenGrammar.{Rule, rules_of}
use Rattle.lalrpop_grammar.specs.Views.{grammar_view, nonterminal_view}
use Rattle.lalrpop_grammar_rules.specs.RuleTable.{knows}
use Rattle.lalrpop_grammar_symbols.specs.Symbols.{Text}
use Rattle.lalrpop_norm_resolve.specs.Searches.{first_known}
use Rattle.lalrpop_norm_resolve.proofs.KnownLemmas.{known-same, known_here, known_step}
use Rattle.lalrpop_norm_resolve.proofs.RuleNameLemmas.{nothing_more, three_ors}
use Rattle.lalrpop_norm_resolve.proofs.names.duplicates.first_shared_rule.Goals as goal

abbrev name_of : Rule → Text
name_of r = r.name

pub loop-rule-init : goal.loop-rule-init
loop-rule-init c =
    let d = c.args.definitions.now in
    let bares = bares_of (grammar_view d.grammar.now).items in
    let seen = c.new-seen.result in
    let left = rules_left c.into_iter-rule-iterator.result in
    let all : left ≡ rules_of (grammar_view d.grammar.now).items = cc in
    known-same name_of (λ n. knows d.bares n || knows seen n) (λ n. has_text n bares)
    (λ n.
    let none : knows seen n ≡ false = grind (arith, c.new-seen.ensures.empty) in
    ap (λ b. knows d.bares n || b) none ∙ nothing_more (knows d.bares n) ∙ d.bares_known n)
    left
    ∙ ap (first_known name_of (λ n. has_text n bares)) all

pub loop-rule-preserved : goal.loop-rule-preserved
loop-rule-preserved c =
    let d = c.args.definitions.now in
    let r = nonterminal_view c.in-Some.rule.now in
    let old = c.loop-rule.seen in
    let new = c.add_name.new.names in
    known_step name_of (λ n. knows d.bares n || knows old n) (λ n. knows d.bares n || knows new n) r (rules_left c.next.new.self)
    (sym c.is_known.ensures ∙ c.if-is_known.false)
    (λ n. ap (λ b. knows d.bares n || b) (c.in_ok-add_name.ensures n) ∙ three_ors (knows d.bares n) (knows old n) _)
    ∙ ap (first_known name_of (λ n. knows d.bares n || knows old n)) (sym c.in-Some.ensures.steps)
    ∙ c.loop-rule.invariant

pub returns-then-is_known : goal.returns-then-is_known
returns-then-is_known c =
    let d = c.args.definitions.now in
    let r = nonterminal_view c.in-Some.rule.now in
    let old = c.loop-rule.seen in
    sym (known_here name_of (λ n. knows d.bares n || knows old n) r (rules_left c.next.new.self)
    (sym c.is_known.ensures ∙ c.if-is_known.true))
    ∙ ap (first_known name_of (λ n. knows d.bares n || knows old n)) (sym c.in-Some.ensures.steps)
    ∙ c.loop-rule.invariant
