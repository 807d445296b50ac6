use Rattle.std.proofs.Common.{Contains, subst}
use Rattle.std.specs.BTreeMap.{is_at}
use Rattle.lalrpop_grammar_symbols.specs.contracts.names.NonterminalStringOrd.TheImpl as names
use Rattle.lalrpop_grammar_repr.specs.Productions.{productions_of}
use Rattle.lalrpop_judge.proofs.MembershipLemmas.{found_at, productions_among, seen_among}
use Rattle.lalrpop_judge.proofs.certificates.membership.has_production.Goals as goal

pub returns-then-is_among : goal.returns-then-is_among
returns-then-is_among c =
    let p = c.args.production.now in
    let es = c.args.grammar.now.nonterminals in
    let there : Contains c.productions_for.result.now p = c.is_among.ensures.0 c.if-is_among.true in
    let found : Contains (productions_of es p.nonterminal) p =
    subst (λ ps. Contains ps p) c.productions_for.ensures there in (
      λ _. (seen_among (productions_among es) p).0 (found_at (is_at ((names.ghosts).cmp p.nonterminal)) es p found),
      λ _. c.if-is_among.true,
    )
