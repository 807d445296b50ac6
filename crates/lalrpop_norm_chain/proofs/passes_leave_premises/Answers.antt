use Rattle.lalrpop_norm_theory.proofs.ResolvedLemmas.{right_names_resolve}
use Rattle.lalrpop_norm_theory.specs.Between.{without_disabled}
use Rattle.lalrpop_grammar_repr.specs.declared.norm_error.NormErrorKind.TheVariants as kinds
use Rattle.lalrpop_norm_chain.proofs.PlainNameLemmas.{names_plain, parameters_plain, read_tells_resolved}
use Rattle.lalrpop_norm_chain.proofs.ActiveLemmas.{leveled_asks_nothing, all_active}
use Rattle.lalrpop_norm_chain.proofs.RecoveryLemmas.{no_recovery}
use Rattle.lalrpop_norm_chain.proofs.PrefixLemmas.{leveled_free}
use Rattle.lalrpop_norm_chain.proofs.OrderLemmas.{leveled_ordered}
use Rattle.lalrpop_norm_chain.proofs.ItemLemmas.{no_tokenizer}
use Rattle.lalrpop_norm_chain.proofs.passes_leave_premises.Goals as goal

pub returns-clause-plain : goal.returns-clause-plain
returns-clause-plain c = λ finds features w read right. record {
  resolved = right_names_resolve finds (without_disabled features w) right;
  rules = names_plain features w read;
  parameters = parameters_plain features w read;
}

pub returns-clause-told : goal.returns-clause-told
returns-clause-told c = λ features w read. read_tells_resolved features w read

pub returns-clause-active : goal.returns-clause-active
returns-clause-active c = λ features asked w f r i. record {
  rule = all_active asked r.attributes (leveled_asks_nothing features w f r i).rule;
  alternatives = λ a j. all_active asked a.attributes ((leveled_asks_nothing features w f r i).alternatives a j);
}

pub returns-clause-recovery : goal.returns-clause-recovery
returns-clause-recovery c = λ finds features w f read none. no_recovery finds features w f read none

pub returns-clause-prefix : goal.returns-clause-prefix
returns-clause-prefix c = λ finds features w f read none a. leveled_free finds features w f read (none kinds.ReservedPrefix) a

pub returns-clause-order : goal.returns-clause-order
returns-clause-order c = λ finds features w f read. leveled_ordered finds features w f read

pub returns-clause-tokenizer : goal.returns-clause-tokenizer
returns-clause-tokenizer c = λ features w f read. no_tokenizer features w f read
