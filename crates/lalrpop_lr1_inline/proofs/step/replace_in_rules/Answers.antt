use Rattle.std.proofs.Common.{◌≡◌, ◌+◌, ◌<◌, ◌∷◌, ◌∙◌, ◌++◌, [], ap, length, arith, rules, subst, sym}
use Rattle.std.proofs.Common.{vec_len}
use Rattle.std.specs.Prelude.{All}
use Rattle.std.specs.Vec.Iter.{into_iter_items}
use Rattle.std.proofs.lemmas.List.{nil_from_length}
use Rattle.std.proofs.lemmas.List.Elements.{All-tail}
use Rattle.lalrpop_grammar_symbols.specs.declared.names.NonterminalString.{NonterminalString}
use Rattle.lalrpop_grammar_repr.specs.declared.production.NonterminalData.{NonterminalData}
use Rattle.lalrpop_lr1_inline.specs.InlinedNames.{NonterminalEntries}
use Rattle.lalrpop_lr1_inline.specs.InliningSteps.{AddsDefinitions, all_records_after}
use Rattle.lalrpop_lr1_inline.proofs.MadeLemmas.{adds_none}
use Rattle.lalrpop_lr1_inline.proofs.StepRuleLemmas.{all_added_on, all_count_on, rules_on}
use Rattle.lalrpop_lr1_inline.proofs.step.replace_in_rules.Goals as goal

pub loop-entry-preserved : goal.loop-entry-preserved
loop-entry-preserved c =
    let n = c.args.name.now.0 in
    let sources = c.args.sources.now in
    let actions = c.args.actions.now in
    let left = into_iter_items c.loop-entry.entry-iterator in
    let rest = into_iter_items c.next.new.self in
    let e = c.in-Some.entry in
    let one : left ≡ e ∷ rest = c.in-Some.ensures.steps.0 in
    let many = all_count_on n sources left rest e one in
    let k = length actions + vec_len c.loop-entry.definitions in
    let known : (x : NonterminalString × NonterminalData) → Type 0 = λ x. All (λ p. p.action.0 < length actions) x.1.productions in
    record {
      known = All-tail known e rest (subst (λ (l : NonterminalEntries). All known l) one c.loop-entry.invariant.known);
      room = omega (arith, many, c.loop-entry.invariant.room, c.in_ok-rule.ensures.count);
      rules = rules_on n sources left rest e k _ c.loop-entry.made.items c.push.new.self.items _ one
          (c.in_ok-push.ensures.items
          ∙ ap (λ (d : NonterminalData). c.loop-entry.made.items ++ (e.0, d) ∷ []) c.in_ok-rule.ensures.rule)
          (omega (arith, c.in_ok-rule.ensures.count)) c.loop-entry.invariant.rules;
      definitions = all_added_on actions n sources left rest e _ _ c.loop-entry.definitions.items
          c.replace_in_rule.new.definitions.items one c.in_ok-rule.ensures.definitions c.loop-entry.invariant.definitions;
    }

pub returns-clause-definitions : goal.returns-clause-definitions
returns-clause-definitions c =
    let n = c.args.name.now.0 in
    let sources = c.args.sources.now in
    let actions = c.args.actions.now in
    let made = c.loop-entry.definitions.items in
    let left = into_iter_items c.loop-entry.entry-iterator in
    let none : [] ≡ left = sym (nil_from_length left (search rules)) in
    c.loop-entry.invariant.definitions made
    (subst (λ (l : NonterminalEntries). AddsDefinitions actions (all_records_after n sources l) made made) none (adds_none actions made))
