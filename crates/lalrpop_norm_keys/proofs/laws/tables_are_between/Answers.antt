use Rattle.lalrpop_grammar_language.specs.Enabled.{enabled_grammar}
use Rattle.lalrpop_norm_theory.specs.Between.{grammar_between}
use Rattle.lalrpop_grammar.specs.WrittenGrammar.{rules_of}
use Rattle.lalrpop_norm_keys.proofs.FaultLemmas.{arity_alike, made_alike}
use Rattle.lalrpop_norm_keys.proofs.PlainGrammarLemmas.{calls_alike, keys_alike, table_alike, too_deep_alike}
use Rattle.lalrpop_norm_keys.proofs.PlainUseLemmas.{call_order_alike, list_alike}
use Rattle.lalrpop_norm_keys.proofs.PremiseLemmas.{flat_back, single_back}
use Rattle.lalrpop_norm_keys.proofs.laws.tables_are_between.Goals as goal

pub returns-clause-calls : goal.returns-clause-calls
returns-clause-calls c = λ finds features w active depth walked next a.
    calls_alike (enabled_grammar finds features w) (grammar_between finds w) (table_alike finds features w active) depth walked next a

pub returns-clause-depth : goal.returns-clause-depth
returns-clause-depth c = λ finds features w active limit x t.
    too_deep_alike (enabled_grammar finds features w) (grammar_between finds w) (table_alike finds features w active) limit x t

pub returns-clause-keys : goal.returns-clause-keys
returns-clause-keys c = λ finds features w active calls keys t.
    keys_alike (enabled_grammar finds features w) (grammar_between finds w) (table_alike finds features w active) calls keys t

pub returns-clause-order : goal.returns-clause-order
returns-clause-order c = λ finds features w active keys t.
    list_alike (enabled_grammar finds features w) (grammar_between finds w) (table_alike finds features w active) keys t

pub returns-clause-call_order : goal.returns-clause-call_order
returns-clause-call_order c = λ finds features w active calls t.
    call_order_alike (enabled_grammar finds features w) (grammar_between finds w) (table_alike finds features w active) calls t

pub returns-clause-faults : goal.returns-clause-faults
returns-clause-faults c = λ finds features w active deep f t.
    made_alike (enabled_grammar finds features w) (grammar_between finds w) (table_alike finds features w active) deep f t

pub returns-clause-arity : goal.returns-clause-arity
returns-clause-arity c = λ finds features w active.
    arity_alike (enabled_grammar finds features w) (grammar_between finds w) (table_alike finds features w active) (rules_of w.items)

pub returns-clause-premises : goal.returns-clause-premises
returns-clause-premises c = λ finds features w active flat single.
    let g = enabled_grammar finds features w in
    let h = grammar_between finds w in
    record {
      flat = flat_back g h (table_alike finds features w active) flat;
      single = single_back g h (table_alike finds features w active) single;
      enabled = λ r i. (active r i).rule;
    }
