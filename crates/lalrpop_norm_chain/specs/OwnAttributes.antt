-- Which attributes the nonterminals of a lowered grammar have; for what a normalized grammar is.
use Rattle.std.specs.Prelude.{◌≡◌, true, List, [], ◌∷◌, codes}
use Rattle.lalrpop_grammar_symbols.specs.Symbols.{Closed, Op, Text, TextSpan}
use Rattle.lalrpop_grammar.specs.WrittenGrammar.{Attr, Grammar, Rule, rules_of}
use Rattle.lalrpop_grammar_language.specs.Among.{Among}
use Rattle.lalrpop_grammar_language.specs.Enabled.{is_active}
use Rattle.lalrpop_grammar_language.specs.Expansion.{Nonterminal}
use Rattle.lalrpop_norm_theory.specs.Between.{without_cfg}

-- The rule has these attributes beside those that ask for features; it is enabled.
pub record IsRuleAttributes (features : List Text) (w : Grammar) (n : Text) (as_ : List Attr) : Type 0 where
  pub rule : Rule
  pub rule_there : Among (rules_of w.items) rule
  pub enabled : is_active features rule.attributes ≡ true
  pub name_is : rule.name ≡ n
  pub attributes_are : without_cfg rule.attributes ≡ as_

-- what a repeat, a group or a lookaround that stands there says: that it is inlined, but for `X+`
abbrev pub added_attributes : TextSpan → Closed → List Attr
added_attributes p (Closed.repeat Op.plus x) = []
added_attributes p (Closed.repeat Op.star x) = Attr.empty p (codes "inline") ∷ []
added_attributes p (Closed.repeat Op.question x) = Attr.empty p (codes "inline") ∷ []
added_attributes p (Closed.group xs) = Attr.empty p (codes "inline") ∷ []
added_attributes p Closed.lookahead = Attr.empty p (codes "inline") ∷ []
added_attributes p Closed.lookbehind = Attr.empty p (codes "inline") ∷ []
added_attributes p (Closed.terminal t) = []
added_attributes p (Closed.call n args level) = []
added_attributes p (Closed.choose x) = []
added_attributes p (Closed.name m n x) = []
added_attributes p Closed.faulty = []

-- A nonterminal that stands there has these: a start none, a level and an instance those of their rule.
abbrev pub HasOwnAttributes : List Text → Grammar → Nonterminal → TextSpan → List Attr → Type 0
HasOwnAttributes features w (Nonterminal.start n) p as_ = as_ ≡ []
HasOwnAttributes features w (Nonterminal.closed (Closed.call n args level)) p as_ = IsRuleAttributes features w n as_
HasOwnAttributes features w (Nonterminal.closed (Closed.repeat op x)) p as_ = as_ ≡ added_attributes p (Closed.repeat op x)
HasOwnAttributes features w (Nonterminal.closed (Closed.group xs)) p as_ = as_ ≡ added_attributes p (Closed.group xs)
HasOwnAttributes features w (Nonterminal.closed Closed.lookahead) p as_ = as_ ≡ added_attributes p Closed.lookahead
HasOwnAttributes features w (Nonterminal.closed Closed.lookbehind) p as_ = as_ ≡ added_attributes p Closed.lookbehind
HasOwnAttributes features w (Nonterminal.closed (Closed.terminal t)) p as_ = Unit {0}
HasOwnAttributes features w (Nonterminal.closed (Closed.choose x)) p as_ = Unit {0}
HasOwnAttributes features w (Nonterminal.closed (Closed.name m n x)) p as_ = Unit {0}
HasOwnAttributes features w (Nonterminal.closed Closed.faulty) p as_ = Unit {0}
