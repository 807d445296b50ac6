use Rattle.std.proofs.Common.{◌≡◌, ◌+◌, ◌<◌, ◌∷◌, [], List, length, arith, rules, subst, sym, vec_len}
use Rattle.std.specs.Prelude.{All}
use Rattle.std.specs.Vec.Iter.{into_iter_items}
use Rattle.std.proofs.lemmas.List.{nil_from_length}
use Rattle.std.proofs.lemmas.List.Elements.{All-tail}
use Rattle.lalrpop_grammar_repr.specs.declared.production.Production.{Production}
use Rattle.lalrpop_lr1_inline.specs.InliningSteps.{AddsDefinitions, records_after}
use Rattle.lalrpop_lr1_inline.proofs.MadeLemmas.{added_on, adds_none, count_on, replaced_on}
use Rattle.lalrpop_lr1_inline.proofs.made.replace_all.Goals as goal

pub loop-production-preserved : goal.loop-production-preserved
loop-production-preserved c =
    let n = c.args.name.now.0 in
    let sources = c.args.sources.now in
    let actions = c.args.actions.now in
    let left = into_iter_items c.loop-production.production-iterator in
    let rest = into_iter_items c.next.new.self in
    let p = c.in-Some.production in
    let one : left ≡ p ∷ rest = c.in-Some.ensures.steps.0 in
    let many = count_on n sources left rest p one in
    let k = length actions + vec_len c.loop-production.definitions in
    let known : (q : Production) → Type 0 = λ q. q.action.0 < length actions in
    record {
      known = All-tail known p rest (subst (λ (l : List Production). All known l) one c.loop-production.invariant.known);
      room = omega (arith, many, c.loop-production.invariant.room, c.in_ok-replace.ensures.count);
      count = omega (arith, many, c.loop-production.invariant.count, c.in_ok-replace.ensures.count);
      productions = replaced_on n sources left rest p k _ c.loop-production.made _ _ one c.in_ok-replace.ensures.productions
          (omega (arith, c.in_ok-replace.ensures.count)) c.loop-production.invariant.productions;
      definitions = added_on actions n sources left rest p _ _ c.loop-production.definitions.items c.replace.new.definitions.items one
          c.in_ok-replace.ensures.definitions c.loop-production.invariant.definitions;
    }

pub returns-clause-definitions : goal.returns-clause-definitions
returns-clause-definitions c =
    let n = c.args.name.now.0 in
    let sources = c.args.sources.now in
    let actions = c.args.actions.now in
    let made = c.loop-production.definitions.items in
    let left = into_iter_items c.loop-production.production-iterator in
    let none : [] ≡ left = sym (nil_from_length left (search rules)) in
    c.loop-production.invariant.definitions made
    (subst (λ (l : List Production). AddsDefinitions actions (records_after n sources l) made made) none (adds_none actions made))
