use Rattle.lalrpop_norm_theory.specs.Between.{grammar_between}
use Rattle.lalrpop_norm_theory.proofs.ExpansionListLemmas.{rule_there}
use Rattle.lalrpop_norm_theory.proofs.KeyRuleLemmas.{expanded, expanded_inlined}
use Rattle.lalrpop_norm_theory.proofs.KeyTableLemmas.{table_expansion}
use Rattle.lalrpop_norm_theory.proofs.KeyStepLemmas.{macros_keep_types}
use Rattle.lalrpop_norm_macros.specs.RuleItems.{grammar_with_rules}
use Rattle.lalrpop_norm_macros.proofs.CountLemmas.{right_by_counts}
use Rattle.lalrpop_norm_macros.proofs.FinishedGrammarLemmas.{finished_declarations, finished_expanded, finished_key_rules}
use Rattle.lalrpop_norm_macros.proofs.key_rules.laws.key_rules_expand.Goals as goal

pub returns-clause-expanded : goal.returns-clause-expanded
returns-clause-expanded c = λ finds features w f places keys made found names done.
    let g = grammar_between finds w in
    let h = grammar_between finds (grammar_with_rules w made) in
    let rules = finished_key_rules finds w f keys found.calls places made found.flat found.table names.once names.apart names.own done in
    let declared = finished_declarations finds w f keys found.calls places made found.flat found.table names.once names.apart names.own
    done in
    let expansion = table_expansion g h f found.depth found.calls keys (λ n r i. found.flat r (rule_there g n r i).0) found.found
    found.table rules in
    record {
      rules = rules;
      declared = declared;
      expansion = expansion;
      same = expanded g h f keys expansion;
      inlined = λ x i. expanded_inlined g h f keys expansion x i;
      types = λ x t i. macros_keep_types g h f keys expansion declared x t i;
      expanded = finished_expanded finds w f keys found.calls places made found.flat found.table names.once names.apart names.own done;
    }

pub returns-clause-right : goal.returns-clause-right
returns-clause-right c = λ finds w resolved no_recovery none. right_by_counts finds w resolved no_recovery none
