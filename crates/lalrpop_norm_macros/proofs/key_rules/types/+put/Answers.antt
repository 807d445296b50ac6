use Rattle.std.proofs.Common.{◌∙◌, [], ◌∷◌, ap, map, take}
use Rattle.std.proofs.lemmas.List.{map-append}
use Rattle.lalrpop_grammar.specs.Views.{type_view}
use Rattle.lalrpop_grammar_rules.specs.RuleTable.{rules_with}
use Rattle.lalrpop_norm_keys.proofs.TableLemmas.{take_next}
use Rattle.lalrpop_norm_macros.specs.KeyInstances.{instance_binding, instance_rule_view}
use Rattle.lalrpop_grammar_symbols.proofs.BoolLemmas.{ok_from}
use Rattle.lalrpop_norm_macros.proofs.DeclarationLemmas.{put_id, put_nominal, put_on, put_symbol, put_tuple}
use Rattle.lalrpop_norm_macros.proofs.key_rules.types.+put.Goals as goal

pub put_type-returns-in_ok-types-in-Tuple : goal.put_type-returns-in_ok-types-in-Tuple
put_type-returns-in_ok-types-in-Tuple t c = λ finds.
    let i = c.args.instance.now in
    put_tuple i.names.now (rules_with finds i.rules.now) (instance_rule_view i) (instance_binding i) c.args.declared.now
    c.in-Tuple.types c.in_ok-types-in-Tuple.types c.in-Tuple.is (rw c.as_slice.ensures at c.in_ok-types-in-Tuple.ensures finds)

pub put_type-returns-in_ok-try_clone-in-Nominal : goal.put_type-returns-in_ok-try_clone-in-Nominal
put_type-returns-in_ok-try_clone-in-Nominal t c = λ finds.
    let i = c.args.instance.now in
    put_nominal i.names.now (rules_with finds i.rules.now) (instance_rule_view i) (instance_binding i) c.args.declared.now
    c.in-Nominal.path c.in_ok-try_clone-in-Nominal.field-0 c.in-Nominal.types c.in_ok-types-in-Nominal.types c.in-Nominal.is
    c.in_ok-try_clone-in-Nominal.ensures (rw c.as_slice-in-Nominal.ensures at c.in_ok-types-in-Nominal.ensures finds)

pub put_type-returns-in-Id : goal.put_type-returns-in-Id
put_type-returns-in-Id t c =
    let i = c.args.instance.now in
    ok_from _ _ c.named_type.result
    (λ made h finds. put_id i.names.now (rules_with finds i.rules.now) (instance_rule_view i) (instance_binding i) c.args.declared.now
    c.in-Id.name (type_view made) c.in-Id.is h)
    c.named_type.ensures

pub put_type-returns-in-OfSymbol : goal.put_type-returns-in-OfSymbol
put_type-returns-in-OfSymbol t c =
    let i = c.args.instance.now in
    ok_from _ _ c.symbol_type.result
    (λ made h finds. put_symbol i.names.now (rules_with finds i.rules.now) (instance_rule_view i) (instance_binding i)
    c.args.declared.now c.in-OfSymbol.symbol (type_view made) c.in-OfSymbol.is (h finds))
    c.symbol_type.ensures

pub put_types-loop-part-preserved : goal.put_types-loop-part-preserved
put_types-loop-part-preserved t c = λ finds.
    let i = c.args.instance.now in
    let xs = c.args.declared.now in
    let j = c.loop-part.part-index in
    put_on i.names.now (rules_with finds i.rules.now) (instance_rule_view i) (instance_binding i) (map type_view (take j xs)) _
    (map type_view c.loop-part.made) _ _ _ (take_next type_view xs j c.part-item.result c.loop-part-test.true c.part-item.is)
    (ap (map type_view) c.in_ok-push.ensures.ok ∙ map-append type_view c.loop-part.made (c.in_ok-put_type.field-0 ∷ []))
    (c.loop-part.invariant finds) (c.in_ok-put_type.ensures finds)
