use Rattle.std.proofs.Common.{◌≡◌, ℕ, ap, ◌∙◌, true, refl, map}
use Rattle.lalrpop_grammar_symbols.specs.Symbols.{Text, Closed}
use Rattle.lalrpop_grammar_symbols.specs.declared.names.NonterminalString.{NonterminalString}
use Rattle.lalrpop_grammar.specs.Views.{alternative_view, nonterminal_view}
use Rattle.lalrpop_grammar.specs.declared.nonterminal.NonterminalData.{NonterminalData}
use Rattle.lalrpop_grammar_language.specs.Levels.{has_levels}
use Rattle.lalrpop_grammar_rules.specs.Views.{binding_of, closed_view}
use Rattle.lalrpop_norm_theory.specs.Between.{rule_between}
use Rattle.lalrpop_norm_theory.specs.LeveledGrammar.{leveled_rules, ranked_alternatives}
use Rattle.lalrpop_norm_precedence.specs.LevelTables.{named_level_view, named_levels}
use Rattle.lalrpop_norm_precedence.specs.LevelBuckets.{bucket_at, of_level}
use Rattle.lalrpop_norm_precedence.specs.RulesByNames.{all_rules_by_names}
use Rattle.std.specs.Prelude.{List}
use Rattle.lalrpop_norm_precedence.proofs.BucketLemmas.{bucket_of_rule}
use Rattle.lalrpop_grammar_symbols.proofs.BoolLemmas.{ok_from}
use Rattle.lalrpop_norm_precedence.proofs.RuleByNameLemmas.{bound_to_nothing, parted_as_named}
use Rattle.lalrpop_norm_precedence.proofs.levels.rules.leveled_rules.Goals as goal

pub returns : goal.returns
returns c =
    let rule = c.args.rule.now in
    let r = nonterminal_view rule in
    let named = map named_level_view c.args.levels.now in
    let buckets = c.in_ok-buckets.buckets in
    let args = c.as_slice-3.result.now in
    let alternatives : has_levels (rule_between r) ≡ true → (j : ℕ) → bucket_at buckets j ≡ of_level j (ranked_alternatives r) =
    λ has. bucket_of_rule buckets r (map alternative_view c.as_slice-2.result.now) (ap (map alternative_view) c.as_slice-2.ensures) has
    c.in_ok-buckets.ensures in
    ok_from
    (λ (made : List NonterminalData). map nonterminal_view made
    ≡ all_rules_by_names r (binding_of rule.args args) (bucket_at buckets) named)
    (λ (made : List NonterminalData). (f : Text → ℕ → Text) → has_levels (rule_between r) ≡ true → named ≡ named_levels f r
    → map nonterminal_view made ≡ leveled_rules f r) _
    (λ made by_names. λ f has are.
    by_names
    ∙ ap (λ b. all_rules_by_names r b (bucket_at buckets) named)
    (bound_to_nothing rule.args rule.args args refl
    (ap (map closed_view) c.as_slice-3.ensures ∙ c.in_ok-args.ensures
    ∙ ap (map (λ (p : NonterminalString). Closed.faulty)) c.as_slice.ensures))
    ∙ parted_as_named r f (bucket_at buckets) (alternatives has) has named are)
    c.rules_of_levels.ensures
