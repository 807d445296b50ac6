use Rattle.std.proofs.Common.{◌≡◌, [], ◌∷◌, ◌++◌, sym, ap, ap₂, ◌∙◌, rules}
use Rattle.std.proofs.Output.{has_written_append, has_written_of_eq}
use Rattle.lalrpop_grammar_symbols.specs.Texts.{join_texts, symbol_texts}
use Rattle.lalrpop_grammar_symbols.specs.Parts.{texts_of_symbols, group_view, macro_view}
use Rattle.lalrpop_grammar_symbols.proofs.TextLemmas.{group-texts, call-name, call-texts}
use Rattle.lalrpop_grammar_symbols.proofs.texts.+texts.Goals as goal

pub write_group-returns : goal.write_group-returns
write_group-returns g t c plain ok =
    let same : join_texts (32 ∷ []) (symbol_texts (group_view c.args.group.now))
    ≡ join_texts (32 ∷ []) (texts_of_symbols c.as_slice.result.now) =
    ap (join_texts (32 ∷ [])) (group-texts c.args.group.now ∙ ap texts_of_symbols (sym c.as_slice.ensures)) in
    let opened = c.write_str.ensures.writes plain (search rules) in
    let inside = c.write_symbols.ensures opened.plain (search rules) in
    let closed = c.write_str-2.ensures.writes inside.plain ok in
    has_written_of_eq _ _ _ _ _ (ap (λ text. 40 ∷ (text ++ 41 ∷ [])) (sym same))
    (has_written_append _ _ _ _ _ _ (has_written_append _ _ _ _ _ _ opened inside) closed)

pub write_call-returns : goal.write_call-returns
write_call-returns g t c plain ok =
    let same : join_texts (44 ∷ 32 ∷ []) (symbol_texts (macro_view c.args.call.now).1)
    ≡ join_texts (44 ∷ 32 ∷ []) (texts_of_symbols c.as_slice.result.now) =
    ap (join_texts (44 ∷ 32 ∷ [])) (call-texts c.args.call.now ∙ ap texts_of_symbols (sym c.as_slice.ensures)) in
    let name = c.fmt.ensures.writes plain (search rules) in
    let opened = c.write_str.ensures.writes name.plain (search rules) in
    let inside = c.write_symbols.ensures opened.plain (search rules) in
    let closed = c.write_str-2.ensures.writes inside.plain ok in
    has_written_of_eq _ _ _ _ _
    (ap₂ (λ n text. ((n ++ 60 ∷ []) ++ text) ++ 62 ∷ []) (sym (call-name c.args.call.now)) (sym same))
    (has_written_append _ _ _ _ _ _ (has_written_append _ _ _ _ _ _ (has_written_append _ _ _ _ _ _ name opened) inside) closed)
