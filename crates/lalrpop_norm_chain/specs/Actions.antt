-- What the productions of an expansion do: what is written in their alternatives; what passes add has no user code. For what a
-- normalized grammar is.
use Rattle.std.specs.Prelude.{ℕ, ◌≡◌, Option}
use Rattle.lalrpop_grammar_symbols.specs.Symbols.{Text, Closed}
use Rattle.lalrpop_grammar.specs.WrittenGrammar.{Action, Grammar, Origin}
use Rattle.lalrpop_grammar_language.specs.Among.{Among}
use Rattle.lalrpop_grammar_language.specs.Admitting.{IsAtPlace}
use Rattle.lalrpop_grammar_language.specs.Enabled.{Choice, EnabledGrammar, EnabledRule, enabled_grammar}
use Rattle.lalrpop_grammar_language.specs.Expansion.{Nonterminal, Produces, RightSide}
use Rattle.std.specs.Prelude.{Bool, List}

-- The alternative that is written at that place of the rule does this.
pub record IsWrittenAction (g : EnabledGrammar) (n : Text) (place : ℕ) (a : Action) : Type 0 where
  pub rule : EnabledRule
  pub choice : Choice
  pub rule_there : Among g.rules rule
  pub name_is : rule.name ≡ n
  pub choice_there : Among rule.choices choice
  pub at : IsAtPlace n place choice
  pub action_is : choice.action ≡ a

-- what a rule's production does: an alternative what is written there, a pass to a tighter level the default
abbrev pub DoesByChoice : EnabledGrammar → Origin → Action → Type 0
DoesByChoice g (Origin.alternative n args place) a = IsWrittenAction g n place a
DoesByChoice g Origin.pass_down a = a ≡ Action.default
DoesByChoice g Origin.start a = ⊥
DoesByChoice g Origin.plus_one a = ⊥
DoesByChoice g Origin.plus_more a = ⊥
DoesByChoice g Origin.star_none a = ⊥
DoesByChoice g Origin.star_some a = ⊥
DoesByChoice g Origin.opt_none a = ⊥
DoesByChoice g Origin.opt_some a = ⊥
DoesByChoice g Origin.group a = ⊥
DoesByChoice g Origin.look a = ⊥

-- What a production does, by its label: a rule's and an instance's what their alternatives do, starts, repeats and groups the
-- default, lookarounds what they are.
abbrev pub ChoiceDoes : EnabledGrammar → Nonterminal → Origin → Action → Type 0
ChoiceDoes g (Nonterminal.start n) o a = a ≡ Action.default
ChoiceDoes g (Nonterminal.closed (Closed.call n args level)) o a = DoesByChoice g o a
ChoiceDoes g (Nonterminal.closed (Closed.repeat op x)) o a = a ≡ Action.default
ChoiceDoes g (Nonterminal.closed (Closed.group xs)) o a = a ≡ Action.default
ChoiceDoes g (Nonterminal.closed Closed.lookahead) o a = a ≡ Action.lookahead
ChoiceDoes g (Nonterminal.closed Closed.lookbehind) o a = a ≡ Action.lookbehind
ChoiceDoes g (Nonterminal.closed (Closed.terminal t)) o a = ⊥
ChoiceDoes g (Nonterminal.closed (Closed.choose x)) o a = ⊥
ChoiceDoes g (Nonterminal.closed (Closed.name m n x)) o a = ⊥
ChoiceDoes g (Nonterminal.closed Closed.faulty) o a = ⊥

-- a production does one thing: its label tells which
abbrev pub ProductionsDoOneThing : Type 0
ProductionsDoOneThing =
    (finds : Text → Text → Option Bool) (features : List Text) (w : Grammar) (x : Nonterminal) (o : Origin) (side : RightSide)
    (a b : Action) → Produces (enabled_grammar finds features w) x o side → ChoiceDoes (enabled_grammar finds features w) x o a
    → ChoiceDoes (enabled_grammar finds features w) x o b → a ≡ b
