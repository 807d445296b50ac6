use Rattle.std.proofs.Common.{rules}
use Rattle.lalrpop_json_items.proofs.AlternativeSpellingLemmas.{alternative_whole, choice_in, origin_in, symbols_in}
use Rattle.lalrpop_json_items.proofs.writer.alternative.is_readable_alternative.Goals as goal

pub returns-then-not-is_written_at : goal.returns-then-not-is_written_at
returns-then-not-is_written_at c = (
  (λ is. absurd (search rules)),
  (λ is. let passed = c.is_written_at.ensures.1 (origin_in c.args.rule.now c.args.place c.args.alternative.now is) in
      absurd (search (rules, passed))),
)

pub returns-then-has_readable_symbols : goal.returns-then-has_readable_symbols
returns-then-has_readable_symbols c =
    let whole = alternative_whole c.args.rule.now c.args.place c.args.alternative.now (c.is_written_at.ensures.0 (search rules))
    (c.has_readable_symbols.ensures.0 (search rules)) in (
      (λ is. whole (c.has_readable_action.ensures.0 is)),
      (λ is. c.has_readable_action.ensures.1 (choice_in c.args.rule.now c.args.place c.args.alternative.now is)),
    )

pub returns-else-has_readable_symbols : goal.returns-else-has_readable_symbols
returns-else-has_readable_symbols c = (
  (λ is. absurd (search rules)),
  (λ is. c.has_readable_symbols.ensures.1 (symbols_in c.args.rule.now c.args.place c.args.alternative.now is)),
)
