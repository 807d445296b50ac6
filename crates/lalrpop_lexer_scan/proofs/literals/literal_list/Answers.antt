use Rattle.std.proofs.Common.{◌≡◌, ◌∙◌, ap, List, ◌++◌, map}
use Rattle.lalrpop_lexer_scan.specs.declared.literals.UsedLiteral.{UsedLiteral}
use Rattle.lalrpop_lexer_scan.specs.Literals.{LiteralUse}
use Rattle.lalrpop_lexer_scan.specs.Noting.{use_view, quoted_use, regex_use}
use Rattle.lalrpop_lexer_scan.proofs.ListedLemmas.{both_ascending, both_found}
use Rattle.lalrpop_lexer_scan.proofs.literals.literal_list.Goals as goal

whole : (c : goal.In_ok-push_regexes)
    → map use_view c.push_regexes.new.entries.items
    ≡ map quoted_use c.args.uses.quoted.entries ++ map regex_use c.args.uses.regexes.entries
whole c =
    c.in_ok-push_regexes.ensures.pushed
    ∙ ap (λ (l : List LiteralUse). l ++ map regex_use c.args.uses.regexes.entries)
    (c.in_ok-push_quoted.ensures.pushed
    ∙ ap (λ (l : List UsedLiteral). map use_view l ++ map quoted_use c.args.uses.quoted.entries) c.new-entries.ensures.items)

pub returns-clause-ascending : goal.returns-clause-ascending
returns-clause-ascending c =
    both_ascending c.args.uses.quoted c.args.uses.regexes _ (whole c) c.in_ok-push_quoted.ensures.ordered
    c.in_ok-push_regexes.ensures.ordered

pub returns-clause-each : goal.returns-clause-each
returns-clause-each c t = both_found c.args.uses.quoted c.args.uses.regexes _ (whole c) t
