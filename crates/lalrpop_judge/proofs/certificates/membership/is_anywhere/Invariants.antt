use Rattle.std.proofs.Common.{◌↔◌, Contains}
use Rattle.lalrpop_judge.proofs.MembershipLemmas.{productions_among}
use Rattle.lalrpop_judge.proofs.certificates.membership.is_anywhere.Given as goal

abbrev pub invariant-loop-data : goal.invariant-loop-data
invariant-loop-data l =
    Contains (productions_among l.data-iterator) l.production
    ↔ Contains (productions_among l.grammar.nonterminals) l.production
