use Rattle.std.proofs.Common.{◌≡◌, ◌-◌, ◌∙◌, length, take, ap, arith}
use Rattle.std.specs.Str.{chars}
use Rattle.lalrpop_lexer_scan.specs.Pieces.{blanks}
use Rattle.lalrpop_lexer_scan.proofs.TextLemmas.{front_of, trimmed, front_length, front_boundary, front_taken}
use Rattle.lalrpop_lexer_scan.proofs.blank.blank_front.Goals as goal

pub range-requires-clause-end_boundary : goal.range-requires-clause-end_boundary
range-requires-clause-end_boundary c =
    let text = c.args.text.now in
    let n = blanks (chars c.args.text.now) in
    let place : length text - length c.trim_start-rest.result.now ≡ length (front_of text n) =
    ap (λ r. length text - length r) (c.trim_start-rest.ensures.trim ∙ trimmed text) ∙ front_length text c.utf8.text n in
    rw place (front_boundary text c.utf8.text n)

pub returns : goal.returns
returns c =
    let text = c.args.text.now in
    let n = blanks (chars c.args.text.now) in
    let place : length text - length c.trim_start-rest.result.now ≡ length (front_of text n) =
    ap (λ r. length text - length r) (c.trim_start-rest.ensures.trim ∙ trimmed text) ∙ front_length text c.utf8.text n in
    let front : take (length text - length c.trim_start-rest.result.now) text ≡ front_of text n =
    ap (λ k. take k text) place ∙ front_taken text c.utf8.text n in
    let zero_ : length text - length c.trim_start-rest.result.now - 0 ≡ length text - length c.trim_start-rest.result.now = omega arith in
    c.range.ensures.value ∙ ap (λ k. take k text) zero_ ∙ front
