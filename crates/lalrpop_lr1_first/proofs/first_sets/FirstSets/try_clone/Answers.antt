use Rattle.std.proofs.Common.{◌≡◌, rules, subst}
use Rattle.std.specs.List.Sorted.{IsStrictlySortedBy}
use Rattle.std.specs.Map.{keys_of}
use Rattle.lalrpop_grammar_symbols.specs.contracts.names.NonterminalStringOrd.TheImpl as names_order
use Rattle.lalrpop_lr1_first.proofs.NameLemmas.{copied_goes_on, name_antisymm}
use Rattle.lalrpop_lr1_first.proofs.first_sets.FirstSets.try_clone.Goals as goal

pub loop-name-preserved : goal.loop-name-preserved
loop-name-preserved c =
    let seen : c.self.inside.sets ≡ c.args.self.now = search rules in
    copied_goes_on name_antisymm c.args.self.now c.loop-name.sets c.loop-name.name-iterator c.next.new.self c.insert.new.self
    c.in-Some.name.now c.in-Some.set.now
    (subst (λ es. IsStrictlySortedBy (names_order.ghosts).cmp (keys_of es)) seen c.iter-name-items.ensures.ordered)
    c.loop-name.invariant (search rules) (search rules)
