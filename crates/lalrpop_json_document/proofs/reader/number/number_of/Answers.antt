use Rattle.std.proofs.Common.{true, false, sym, ap, ◌∙◌}
use Rattle.fast_float.specs.Text.{scan}
use Rattle.serde_json.specs.Read.{number_from, number_of}
use Rattle.lalrpop_json_document.proofs.NumberLemmas.{behind_minus, without_minus}
use Rattle.lalrpop_json_document.proofs.reader.number.number_of.Goals as goal

pub returns-in-Some : goal.returns-in-Some
returns-in-Some c =
    let s = c.as_bytes-bytes.result.now in
    let stripped = c.in-Some.ensures.cases in
    c.below_zero.ensures ∙ ap (number_from true) (c.scan.ensures.parts ∙ ap scan stripped.1)
    ∙ sym (behind_minus s stripped.0) ∙ ap number_of c.as_bytes-bytes.ensures.value

pub returns-in-None : goal.returns-in-None
returns-in-None c =
    let s = c.as_bytes-bytes.result.now in
    c.from_zero.ensures ∙ ap (number_from false) c.scan-in-None.ensures.parts
    ∙ sym (without_minus s c.in-None.ensures.cases) ∙ ap number_of c.as_bytes-bytes.ensures.value
