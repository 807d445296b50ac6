use Rattle.std.proofs.Common.{◌≡◌, ◌+◌, ◌∷◌, ◌∙◌, ◌++◌, [], List, length, ap, arith, vec_len, rules}
use Rattle.lalrpop_grammar_repr.specs.declared.action.InlinedSymbol.{InlinedSymbol}
use Rattle.std.proofs.lemmas.List.{nil_from_length}
use Rattle.std.specs.Vec.Iter.{into_iter_items}
use Rattle.lalrpop_grammar_repr.specs.declared.production.Production.{Production}
use Rattle.lalrpop_lr1_inline.specs.InliningSteps.{production_of_record}
use Rattle.lalrpop_lr1_inline.proofs.MadeLemmas.{definitions_end, definitions_on, productions_on}
use Rattle.lalrpop_lr1_inline.proofs.made.add_made.Goals as goal

pub loop-made-preserved : goal.loop-made-preserved
loop-made-preserved c =
    let left = into_iter_items c.loop-made.made-iterator in
    let rest = into_iter_items c.next.new.self in
    let one : left ≡ c.in-Some.made ∷ rest = c.in-Some.ensures.steps.0 in
    let many = ap length one in
    let k = length c.args.actions.now + vec_len c.loop-made.definitions in
    record {
      room = grind (arith, many, c.loop-made.invariant.room, c.in_ok-push-2.ensures.len);
      count = grind (arith, many, c.loop-made.invariant.count, c.in_ok-push-2.ensures.len);
      productions = productions_on c.args.production.now left rest c.in-Some.made k _ c.loop-made.productions c.push.new.self _ one
          (c.in_ok-push.ensures.ok ∙ ap (λ (p : Production). c.loop-made.productions ++ p ∷ [])
          (c.in_ok-production_by.ensures
          ∙ ap (λ (r : List InlinedSymbol). production_of_record c.args.production.now r (length c.args.actions.now + c.len.result))
          c.as_slice.ensures
          ∙ ap (λ j. production_of_record c.args.production.now c.in-Some.made (length c.args.actions.now + j)) c.len.ensures))
          (omega (arith, c.in_ok-push-2.ensures.len)) c.loop-made.invariant.productions;
      definitions = definitions_on c.args.actions.now c.args.production.now left rest c.in-Some.made c.in_ok-definition.field-0 _ _
          c.loop-made.definitions.items c.push-in-loop-made.new.self.items one c.in_ok-push-2.ensures.items
          c.in_ok-definition.ensures c.loop-made.invariant.definitions;
    }

pub returns-clause-definitions : goal.returns-clause-definitions
returns-clause-definitions c =
    let none : into_iter_items c.loop-made.made-iterator
    ≡ [] = nil_from_length (into_iter_items c.loop-made.made-iterator) (search rules) in
    definitions_end c.args.actions.now c.args.production.now (into_iter_items c.loop-made.made-iterator) _ _
    c.loop-made.definitions.items none c.loop-made.invariant.definitions
