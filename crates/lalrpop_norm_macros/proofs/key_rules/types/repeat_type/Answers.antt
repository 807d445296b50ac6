use Rattle.std.proofs.Common.{◌∙◌, ◌++◌, [], ◌∷◌, ap}
use Rattle.lalrpop_grammar_symbols.specs.Views.{repeat_op_view, symbol_view}
use Rattle.lalrpop_grammar.specs.declared.types.type_ref.TypeRef.TheVariants as written
use Rattle.lalrpop_norm_macros.proofs.DeclarationLemmas.{repeat_written}
use Rattle.lalrpop_norm_macros.proofs.key_rules.types.repeat_type.Goals as goal

pub returns : goal.returns
returns c = λ bares f spelled keyed. (
  symbol_view c.in_ok-symbol.symbol,
  repeat_written (repeat_op_view c.args.op) c.in_ok-new.field-0 c.push.new.self c.in_ok-symbol.symbol
      (c.in_ok-new.ensures ∙ c.repeat_path.ensures)
      (c.in_ok-push.ensures.ok ∙ ap (λ l. l ++ written.OfSymbol c.in_ok-symbol.symbol ∷ []) c.new-types.ensures),
  (c.in_ok-symbol.ensures bares f spelled keyed).1.0,
)
