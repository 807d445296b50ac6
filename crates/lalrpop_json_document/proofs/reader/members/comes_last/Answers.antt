use Rattle.std.proofs.Common.{◌∙◌, ◌-◌, List, ap, length, sym}
use Rattle.std.specs.List.{slice_get}
use Rattle.lalrpop_json_document.proofs.MemberOrderLemmas.{Entry, above_last}
use Rattle.lalrpop_json_document.proofs.reader.members.comes_last.Goals as goal

pub returns-in-Some : goal.returns-in-Some
returns-in-Some c =
    let last = λ (ms : List Entry). slice_get ms (length ms - 1) in
    let is_last = ap last (sym c.deref.ensures.value) ∙ sym c.in-Some.ensures.value in
    c.lt.ensures ∙ sym (above_last c.args.members.now.items c.in-Some.field-0.now c.args.key.now is_last)
