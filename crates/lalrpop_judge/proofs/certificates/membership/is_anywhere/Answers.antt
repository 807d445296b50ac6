use Rattle.std.proofs.Common.{◌≡◌, [], Contains, refl, rules}
use Rattle.lalrpop_judge.proofs.MembershipLemmas.{found_here, left_decides, none_anywhere, productions_among, seen_among}
use Rattle.lalrpop_judge.proofs.certificates.membership.is_anywhere.Goals as goal

pub returns-then-is_among : goal.returns-then-is_among
returns-then-is_among c =
    let p = c.args.production.now in
    let among : Contains c.in-Some.data.now.productions p = search rules in (
      λ _. (seen_among (productions_among c.args.grammar.now.nonterminals) p).0
          (found_here p (c.in-Some.field-0-0.now, c.in-Some.data.now) c.loop-data.data-iterator c.next.new.self
          c.args.grammar.now.nonterminals (search rules) among c.loop-data.invariant),
      λ _. refl,
    )

pub loop-data-preserved : goal.loop-data-preserved
loop-data-preserved c =
    let p = c.args.production.now in
    let not_among : Contains c.in-Some.data.now.productions p → ⊥ = search rules in
    left_decides p (c.in-Some.field-0-0.now, c.in-Some.data.now) c.loop-data.data-iterator c.next.new.self
    c.args.grammar.now.nonterminals (search rules) not_among c.loop-data.invariant

pub returns : goal.returns
returns c =
    let p = c.args.production.now in
    let none : c.loop-data.data-iterator ≡ [] = search rules in (
      λ e. absurd (cc),
      λ seen. absurd (none_anywhere p c.loop-data.data-iterator c.args.grammar.now.nonterminals none c.loop-data.invariant seen),
    )
