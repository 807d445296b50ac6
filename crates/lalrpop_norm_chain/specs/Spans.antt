-- Where the productions and the nonterminals of an expansion stand; for what a normalized grammar is.
use Rattle.std.specs.Prelude.{ℕ, ◌≡◌, Bool, true, List, [], Option}
use Rattle.lalrpop_grammar_symbols.specs.Symbols.{Argument, Text, TextSpan, Closed}
use Rattle.lalrpop_grammar.specs.WrittenGrammar.{Alternative, Grammar, Origin, Rule, rules_of}
use Rattle.lalrpop_grammar_language.specs.Among.{Among}
use Rattle.lalrpop_grammar_language.specs.Enabled.{at_places, enabled_grammar, is_active}
use Rattle.lalrpop_grammar_language.specs.Expansion.{Nonterminal, origin_with}
use Rattle.lalrpop_norm_keys.specs.KeyPlaces.{IsKeyPlace}

-- The rule stands there; it is enabled.
pub record IsRuleSpan (features : List Text) (w : Grammar) (n : Text) (p : TextSpan) : Type 0 where
  pub rule : Rule
  pub rule_there : Among (rules_of w.items) rule
  pub enabled : is_active features rule.attributes ≡ true
  pub name_is : rule.name ≡ n
  pub span_is : rule.span ≡ p

-- The alternative at that place of the rule stands there; both are enabled.
pub record IsWrittenSpan (features : List Text) (w : Grammar) (n : Text) (place : ℕ) (p : TextSpan) : Type 0 where
  pub rule : Rule
  pub alternative : Alternative
  pub rule_there : Among (rules_of w.items) rule
  pub rule_enabled : is_active features rule.attributes ≡ true
  pub name_is : rule.name ≡ n
  pub at : Among (at_places n 0 rule.alternatives) (Origin.alternative n [] place, alternative)
  pub enabled : is_active features alternative.attributes ≡ true
  pub span_is : alternative.span ≡ p

-- Where a production stands, by its choice: that of an alternative where the alternative does, another one where its nonterminal does.
abbrev pub StandsByChoice : List Text → Grammar → TextSpan → Origin → TextSpan → Type 0
StandsByChoice features w own (Origin.alternative n args place) p = IsWrittenSpan features w n place p
StandsByChoice features w own Origin.pass_down p = p ≡ own
StandsByChoice features w own Origin.start p = p ≡ own
StandsByChoice features w own Origin.plus_one p = p ≡ own
StandsByChoice features w own Origin.plus_more p = p ≡ own
StandsByChoice features w own Origin.star_none p = p ≡ own
StandsByChoice features w own Origin.star_some p = p ≡ own
StandsByChoice features w own Origin.opt_none p = p ≡ own
StandsByChoice features w own Origin.opt_some p = p ≡ own
StandsByChoice features w own Origin.group p = p ≡ own
StandsByChoice features w own Origin.look p = p ≡ own

-- Where a nonterminal stands: a start, a level and an instance where their rule does; a repeat, a group and a lookaround where it is met,
-- at its own symbol, or at the parameter's where it comes by one.
abbrev pub HasOwnSpan : (Text → Text → Option Bool) → List Text → Grammar → Nonterminal → TextSpan → Type 0
HasOwnSpan finds features w (Nonterminal.start n) p = IsRuleSpan features w n p
HasOwnSpan finds features w (Nonterminal.closed (Closed.call n args level)) p = IsRuleSpan features w n p
HasOwnSpan finds features w (Nonterminal.closed (Closed.repeat op x)) p = IsKeyPlace (enabled_grammar finds features w) (Closed.repeat op x) p
HasOwnSpan finds features w (Nonterminal.closed (Closed.group xs)) p = IsKeyPlace (enabled_grammar finds features w) (Closed.group xs) p
HasOwnSpan finds features w (Nonterminal.closed Closed.lookahead) p = IsKeyPlace (enabled_grammar finds features w) Closed.lookahead p
HasOwnSpan finds features w (Nonterminal.closed Closed.lookbehind) p = IsKeyPlace (enabled_grammar finds features w) Closed.lookbehind p
HasOwnSpan finds features w (Nonterminal.closed (Closed.terminal t)) p = Unit {0}
HasOwnSpan finds features w (Nonterminal.closed (Closed.choose x)) p = Unit {0}
HasOwnSpan finds features w (Nonterminal.closed (Closed.name m n x)) p = Unit {0}
HasOwnSpan finds features w (Nonterminal.closed Closed.faulty) p = Unit {0}

-- what the pass over macros makes of alternatives

-- a choice of a repeat, a group or a lookaround
abbrev pub IsAddedOrigin : Origin → Type 0
IsAddedOrigin (Origin.alternative n args place) = ⊥
IsAddedOrigin Origin.pass_down = ⊥
IsAddedOrigin Origin.start = ⊥
IsAddedOrigin Origin.plus_one = Unit {0}
IsAddedOrigin Origin.plus_more = Unit {0}
IsAddedOrigin Origin.star_none = Unit {0}
IsAddedOrigin Origin.star_some = Unit {0}
IsAddedOrigin Origin.opt_none = Unit {0}
IsAddedOrigin Origin.opt_some = Unit {0}
IsAddedOrigin Origin.group = Unit {0}
IsAddedOrigin Origin.look = Unit {0}

-- The alternative of a rule is made of one of these rules' alternatives, where both stand: its origin has arguments more.
pub record IsMadeFrom (rs : List Rule) (q : Rule) (b : Alternative) : Type 0 where
  pub rule : Rule
  pub alternative : Alternative
  pub rule_there : Among rs rule
  pub alternative_there : Among rule.alternatives alternative
  pub arguments : List Argument
  pub origin_is : b.origin ≡ origin_with arguments alternative.origin
  pub span_is : b.span ≡ alternative.span
  pub rule_span_is : q.span ≡ rule.span
