use Rattle.std.proofs.Common.{◌≡◌, ◌∷◌, ◌∙◌, ◌||◌, [], ap, sym, false, true, refl, map}
use Rattle.std.specs.Prelude.{Bool}
use Rattle.lalrpop_grammar.specs.RulesLeft.{rules_left}
use Rattle.lalrpop_grammar.specs.Views.{grammar_view, nonterminal_view}
use Rattle.lalrpop_grammar.specs.WrittenGrammar.{Rule, rules_of}
use Rattle.std.specs.Str.{bytes_eq}
use Rattle.lalrpop_grammar_language.specs.Enabled.{has_text}
use Rattle.lalrpop_grammar_rules.specs.RuleTable.{knows}
use Rattle.lalrpop_grammar_rules.proofs.BareNameLemmas.{names_on}
use Rattle.std.proofs.Common.{arith}
use Rattle.lalrpop_norm_tyinfer.specs.TypesByTable.{known_names}
use Rattle.lalrpop_norm_tyinfer.proofs.names.rule_names.Goals as goal

pub loop-rule-init : goal.loop-rule-init
loop-rule-init c =
    let all = rules_of (grammar_view c.args.grammar.now).items in
    let left = rules_left c.into_iter-rule-iterator.result in
    let same : left ≡ all = cc in
    λ n.
    let none : knows c.new-names.result n ≡ false = grind (arith, c.new-names.ensures.empty) in
    ap (λ l. has_text n (map (λ (r : Rule). r.name) l)) (sym same)
    ∙ sym (ap (λ (b : Bool). b || has_text n (map (λ (r : Rule). r.name) left)) none)

or_nothing : (a b : Bool) → (a || (b || false)) ≡ (a || b)
or_nothing true b = refl
or_nothing false true = refl
or_nothing false false = refl

pub loop-rule-preserved : goal.loop-rule-preserved
loop-rule-preserved c =
    let left = rules_left c.loop-rule.rule-iterator in
    let rest = rules_left c.next.new.self in
    let r = nonterminal_view c.in-Some.rule.now in
    let before = knows c.loop-rule.names in
    λ n.
    names_on n (has_text n (known_names (grammar_view c.args.grammar.now)).rules) (before n) (knows c.add_name.new.names n)
    (r.name ∷ []) (map (λ (r : Rule). r.name) rest) (map (λ (r : Rule). r.name) left)
    (ap (map (λ (r : Rule). r.name)) c.in-Some.ensures.steps) (c.loop-rule.invariant n)
    (c.in_ok-add_name.ensures n ∙ sym (or_nothing (before n) (bytes_eq n r.name)))
