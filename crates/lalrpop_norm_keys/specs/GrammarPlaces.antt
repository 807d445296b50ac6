-- Where the keys of a grammar between two passes are met: in its rules that are no macros, in order, and then in instances.
use Rattle.std.specs.Prelude.{◌≡◌, ◌⊎◌, ◌++◌, List, [], ◌∷◌, length, Option, None}
use Rattle.lalrpop_grammar_symbols.specs.Symbols.{Closed, Closeds, Text, TextSpan, closed_list}
use Rattle.lalrpop_grammar.specs.WrittenGrammar.{Rule}
use Rattle.lalrpop_grammar_language.specs.Enabled.{Choice, EnabledGrammar, EnabledRule, IsRule}
use Rattle.lalrpop_grammar_language.specs.Levels.{Rank, ranked_choices}
use Rattle.lalrpop_grammar_language.specs.Closing.{Binding}
use Rattle.lalrpop_grammar_language.specs.Conditions.{Holds}
use Rattle.lalrpop_grammar_language.specs.Admitting.{bind}
use Rattle.lalrpop_norm_keys.specs.FoundCalls.{plain_calls}
use Rattle.lalrpop_norm_keys.specs.FirstPlaces.{AreKeySpans}
use Rattle.lalrpop_norm_keys.specs.KeyPlaces.{keys_met_in_side}
use Rattle.lalrpop_norm_keys.specs.MetKeys.{MetKey}

-- the keys of an alternative are put behind the others, where its condition holds
abbrev pub PutsMet : EnabledGrammar → EnabledRule → Binding → Choice × Option Rank → List MetKey → List MetKey → Type 0
PutsMet g r b c old new =
    Holds g b c.0.condition × (new ≡ old ++ keys_met_in_side g r b c) ⊎ (Holds g b c.0.condition → ⊥) × (new ≡ old)

-- the same of several alternatives, one after another
abbrev pub PutsMetInChoices : EnabledGrammar → EnabledRule → Binding → List (Choice × Option Rank) → List MetKey → List MetKey
    → Type 0
PutsMetInChoices g r b [] old new = new ≡ old
PutsMetInChoices g r b (c ∷ cs) old new = (next : List MetKey) × PutsMet g r b c old next × PutsMetInChoices g r b cs next new

-- A rule that the call calls, with as many arguments as it has parameters.
pub record IsCalledIn (g : EnabledGrammar) (y : Closed) (args : Closeds) (r : EnabledRule) : Type 0 where
  pub name : Text
  pub call_is : y ≡ Closed.call name args None
  pub is_rule : IsRule g name r
  pub arguments : length (closed_list args) ≡ length r.parameters

-- The keys that are met in a rule or an instance are put behind the others; none where no rule is called.
pub data PutsMetInCall (g : EnabledGrammar) (y : Closed) (old new : List MetKey) : Type 0 where
  called : (args : Closeds) (r : EnabledRule) → IsCalledIn g y args r
      → PutsMetInChoices g r (bind r args) (ranked_choices r) old new → PutsMetInCall g y old new
  uncalled : ((args : Closeds) (r : EnabledRule) → IsCalledIn g y args r → ⊥) → new ≡ old → PutsMetInCall g y old new

-- the same of several calls, one after another
abbrev pub PutsMetInCalls : EnabledGrammar → List Closed → List MetKey → List MetKey → Type 0
PutsMetInCalls g [] old new = new ≡ old
PutsMetInCalls g (y ∷ ys) old new = (next : List MetKey) × PutsMetInCall g y old next × PutsMetInCalls g ys next new

-- Each of the keys has its span: of the place where it is met first, in the rules that are no macros, in order, and then in these keys,
-- in order; one that is met nowhere has the other span.
pub record HasKeySpans (g : EnabledGrammar) (rs : List Rule) (other : TextSpan) (keys : List Closed) (ps : List TextSpan) : Type 0
  where
    pub met : List MetKey
    pub are_met : PutsMetInCalls g (plain_calls rs ++ keys) [] met
    pub spans : AreKeySpans met other keys ps
