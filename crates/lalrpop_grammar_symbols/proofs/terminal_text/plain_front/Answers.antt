use Rattle.std.proofs.Common.{◌++◌, ◌∙◌, ap, sym, append_assoc}
use Rattle.std.specs.Prelude.{encode_utf8}
use Rattle.std.proofs.lemmas.List.{append_cancel_right}
use Rattle.std.proofs.lemmas.List.Concat.{flat_map-append}
use Rattle.lalrpop_grammar_symbols.specs.Texts.{escape_byte, escape}
use Rattle.lalrpop_grammar_symbols.proofs.terminal_text.plain_front.Goals as goal

pub returns-then-is_escaped-clause-plain : goal.returns-then-is_escaped-clause-plain
returns-then-is_escaped-clause-plain c =
    let seen = c.loop-c.invariant.2 in
    let same = append_cancel_right seen.0 c.before-then-is_escaped.result.now c.loop-c.rest.now
    (sym seen.1 ∙ c.before-then-is_escaped.ensures) in
    ap escape (sym same) ∙ seen.2 ∙ same

pub loop-c-preserved : goal.loop-c-preserved
loop-c-preserved c =
    let seen = c.loop-c.invariant.2 in
    let step = sym c.loop-c.invariant.1 ∙ c.in-Some.ensures.steps.0
    ∙ ap (λ t. encode_utf8 c.in-Some.c ++ t) (sym c.as_str-rest.ensures) in (
      c.as_str-rest.utf8,
      sym c.as_str-rest.ensures,
      (
        seen.0 ++ encode_utf8 c.in-Some.c,
        seen.1 ∙ ap (λ t. seen.0 ++ t) step
            ∙ sym (append_assoc seen.0 (encode_utf8 c.in-Some.c) c.as_str-rest.result.now),
        flat_map-append escape_byte seen.0 (encode_utf8 c.in-Some.c)
            ∙ ap (λ t. t ++ escape (encode_utf8 c.in-Some.c)) seen.2
            ∙ ap (λ t. seen.0 ++ t) (c.is_escaped.ensures c.if-is_escaped.false),
      ),
    )
