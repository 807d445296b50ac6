-- The symbols that stand on the right sides of a call, and what may be wrong while they are gathered.
use Rattle.std.specs.Prelude.{ℕ, ◌≡◌, ◌⊎◌, ◌↔◌, Bool, List, [], ◌∷◌, ◌++◌, map, Option}
use Rattle.lalrpop_grammar_symbols.specs.Symbols.{Text, Closed, Closeds}
use Rattle.lalrpop_grammar_language.specs.Among.{Among}
use Rattle.lalrpop_grammar_language.specs.Enabled.{EnabledGrammar, EnabledRule, Choice, IsRule}
use Rattle.lalrpop_grammar_language.specs.Levels.{Rank}
use Rattle.lalrpop_grammar_language.specs.Closing.{Binding, right_side}
use Rattle.lalrpop_grammar_language.specs.Conditions.{Holds}
use Rattle.lalrpop_grammar_language.specs.Admitting.{bind}
use Rattle.lalrpop_norm_theory.specs.KeyTables.{keys_in_all, KeyStandsIn}
use Rattle.lalrpop_grammar_rules.specs.Views.{closeds}
use Rattle.lalrpop_grammar_repr.specs.declared.session.NormFault.{NormFault}
use Rattle.lalrpop_grammar_repr.specs.declared.session.NormFault.TheVariants as faults
use Rattle.lalrpop_grammar_rules.specs.Details.{ChoiceDetail, choices_view, tighter_in}
use Rattle.lalrpop_grammar_rules.specs.declared.rule.Choice as program
use Rattle.lalrpop_norm_keys.specs.MacroFaults.{TellsOfAlternative}

-- the right side of an alternative is put behind the symbols, where its condition holds
abbrev pub AddsSide : EnabledGrammar → EnabledRule → Binding → Choice × Option Rank → List Closed → List Closed → Type 0
AddsSide g r b p old new =
    Holds g b p.0.condition × (new ≡ old ++ right_side g r b p) ⊎ (Holds g b p.0.condition → ⊥) × (new ≡ old)

-- the same of several alternatives, one after another
abbrev pub AddsSides : EnabledGrammar → EnabledRule → Binding → List (Choice × Option Rank) → List Closed → List Closed
    → Type 0
AddsSides g r b [] old new = new ≡ old
AddsSides g r b (p ∷ ps) old new = (next : List Closed) × AddsSide g r b p old next × AddsSides g r b ps next new

-- the alternatives that the program keeps, from a place on
abbrev pub kept_from : Text → ℕ → List (Option program.Choice) → List (Choice × Option Rank)
kept_from name k cs = map (λ (d : ChoiceDetail). (d.0, d.1.0)) (choices_view name k cs)

-- each has the next tighter one of these levels
abbrev pub AreTight : List ℕ → List ChoiceDetail → Type 0
AreTight levels ds = (d : ChoiceDetail) → Among ds d → d.1.1 ≡ tighter_in levels d.1.0

-- something is wrong with the condition of one of these alternatives, or memory ran out
abbrev pub TellsOfSome : (Text → Text → Option Bool) → (Text → Bool) → Binding → List (Choice × Option Rank) → NormFault
    → Type 0
TellsOfSome finds deep b ps faults.Memory = Unit {0}
TellsOfSome finds deep b ps fault = (p : Choice × Option Rank) × Among ps p × TellsOfAlternative finds deep b p.0.condition fault

-- the symbols have just the keys that stand in y
abbrev pub HasKeysOf : EnabledGrammar → Closed → List Closed → Type 0
HasKeysOf g y xs = (z : Closed) → Among (keys_in_all (closeds xs)) z ↔ KeyStandsIn g y z

-- an alternative of the called rule with its condition under the arguments
pub record IsAskedIn (g : EnabledGrammar) (n : Text) (args : Closeds) (c : Choice) (b : Binding) : Type 0 where
  pub rule : EnabledRule
  pub is_rule : IsRule g n rule
  pub among : Among rule.choices c
  pub binding_is : b ≡ bind rule args

-- something is wrong with a condition of the called rule under the arguments, or memory ran out
abbrev pub TellsOfCall : EnabledGrammar → (Text → Bool) → Text → Closeds → NormFault → Type 0
TellsOfCall g deep n args faults.Memory = Unit {0}
TellsOfCall g deep n args fault =
    (c : Choice) × (b : Binding) × IsAskedIn g n args c b × TellsOfAlternative g.finds deep b c.condition fault
