use Rattle.std.proofs.Common.{◌∙◌, sym}
use Rattle.lalrpop_json_document.proofs.DocumentLemmas.{found_behind, found_here}
use Rattle.lalrpop_json_document.proofs.value.member_of.Goals as goal

pub returns-then-eq : goal.returns-then-eq
returns-then-eq c =
    let at = c.loop-name.name-index in
    let same = sym c.eq.ensures ∙ c.if-eq.true in
    sym (found_here c.args.key.now _ _ c.deref-name-items.ensures.value at _ c.loop-name-test.true c.loop-name-item.is same)
    ∙ c.loop-name.invariant

pub loop-name-preserved : goal.loop-name-preserved
loop-name-preserved c =
    let at = c.loop-name.name-index in
    let other = sym c.eq.ensures ∙ c.if-eq.false in
    sym (found_behind c.args.key.now _ _ c.deref-name-items.ensures.value at _ c.loop-name-test.true c.loop-name-item.is other)
    ∙ c.loop-name.invariant
