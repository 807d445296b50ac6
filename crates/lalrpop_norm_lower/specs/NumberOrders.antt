-- In which order lowering numbers actions: nonterminal by nonterminal, first the starts, then the rules as they stand.
use Rattle.std.specs.Prelude.{◌≡◌, ◌<◌, List, [], ◌∷◌, ◌++◌, map}
use Rattle.lalrpop_grammar_symbols.specs.Symbols.{Text}
use Rattle.lalrpop_grammar.specs.WrittenGrammar.{Rule}
use Rattle.lalrpop_grammar_language.specs.Among.{Among}
use Rattle.lalrpop_norm_theory.specs.Productions.{NamedProduction}
use Rattle.lalrpop_norm_lower.specs.LoweredLists.{rules_with_starts}

-- the productions of each of these nonterminals have smaller actions than those of the later ones
abbrev pub AreNumberedAlong : List Text → List NamedProduction → Type 0
AreNumberedAlong [] ps = Unit {0}
AreNumberedAlong (n ∷ ns) ps =
    ((p q : NamedProduction) → Among ps p → Among ps q → p.nonterminal ≡ n → Among ns q.nonterminal → p.action < q.action)
    × AreNumberedAlong ns ps

-- the names of the starts, then those of the rules
abbrev pub names_in_order : Text → List Rule → List Text
names_in_order prefix rs = map (λ r. prefix ++ r.name) (rules_with_starts rs) ++ map (λ r. r.name) rs
