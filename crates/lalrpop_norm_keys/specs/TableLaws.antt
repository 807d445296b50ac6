-- What a table of rules under features that disable nothing says of a grammar between two passes.
use Rattle.std.specs.Prelude.{ℕ, ◌≡◌, true, Bool, List, Option}
use Rattle.lalrpop_grammar_symbols.specs.Symbols.{Text, Closed}
use Rattle.lalrpop_grammar.specs.WrittenGrammar.{Alternative, Grammar, Rule, rules_of}
use Rattle.lalrpop_grammar_language.specs.Among.{Among}
use Rattle.lalrpop_grammar_language.specs.Enabled.{EnabledRule, IsRule, enabled_grammar, is_active}
use Rattle.lalrpop_norm_theory.specs.Between.{grammar_between}
use Rattle.lalrpop_norm_theory.specs.Depth.{IsTooDeep}
use Rattle.lalrpop_norm_theory.specs.Premises.{HasNoLevels}
use Rattle.lalrpop_norm_theory.specs.Rounds.{AreCallsToDepth}
use Rattle.lalrpop_norm_theory.specs.KeyTables.{IsKeyTable}
use Rattle.lalrpop_norm_theory.specs.UsedKeys.{IsListByUse}
use Rattle.lalrpop_grammar_repr.specs.declared.session.NormFault.{NormFault}
use Rattle.lalrpop_norm_keys.specs.Arity.{arity_faults}
use Rattle.lalrpop_norm_keys.specs.FoundCalls.{TellsOfMadeCall}
use Rattle.lalrpop_norm_keys.specs.SearchPremises.{CanSearch}
use Rattle.lalrpop_norm_keys.specs.UseSearch.{AreCallsByUse}

-- nothing of the rule is disabled under the features
pub record IsActiveRule (features : List Text) (r : Rule) : Type 0 where
  pub rule : is_active features r.attributes ≡ true
  pub alternatives : (a : Alternative) → Among r.alternatives a → is_active features a.attributes ≡ true

abbrev pub HasAllActive : List Text → List Rule → Type 0
HasAllActive features rs = (r : Rule) → Among rs r → IsActiveRule features r

-- calls by depth are those of the grammar between two passes
abbrev pub CallsStayBetween : Type 0
CallsStayBetween =
    (finds : Text → Text → Option Bool) (features : List Text) (w : Grammar) → HasAllActive features (rules_of w.items)
    → (depth : ℕ) (walked next : List Closed) → AreCallsToDepth (enabled_grammar finds features w) depth walked next
    → AreCallsToDepth (grammar_between finds w) depth walked next

-- one that is too deep is too deep there
abbrev pub DepthStaysBetween : Type 0
DepthStaysBetween =
    (finds : Text → Text → Option Bool) (features : List Text) (w : Grammar) → HasAllActive features (rules_of w.items)
    → (limit : ℕ) (x : Closed) → IsTooDeep (enabled_grammar finds features w) limit x → IsTooDeep (grammar_between finds w) limit x

-- and so is a table of keys
abbrev pub KeysStayBetween : Type 0
KeysStayBetween =
    (finds : Text → Text → Option Bool) (features : List Text) (w : Grammar) → HasAllActive features (rules_of w.items)
    → (calls keys : List Closed) → IsKeyTable (enabled_grammar finds features w) calls keys
    → IsKeyTable (grammar_between finds w) calls keys

-- and keys and calls in order of first use
abbrev pub OrderStaysBetween : Type 0
OrderStaysBetween =
    (finds : Text → Text → Option Bool) (features : List Text) (w : Grammar) → HasAllActive features (rules_of w.items)
    → (keys : List Closed) → IsListByUse (enabled_grammar finds features w) keys → IsListByUse (grammar_between finds w) keys

abbrev pub CallOrderStaysBetween : Type 0
CallOrderStaysBetween =
    (finds : Text → Text → Option Bool) (features : List Text) (w : Grammar) → HasAllActive features (rules_of w.items)
    → (calls : List Closed) → AreCallsByUse (enabled_grammar finds features w) calls → AreCallsByUse (grammar_between finds w) calls

-- what is told of a condition is told of one there
abbrev pub FaultsStayBetween : Type 0
FaultsStayBetween =
    (finds : Text → Text → Option Bool) (features : List Text) (w : Grammar) → HasAllActive features (rules_of w.items)
    → (deep : Text → Bool) (f : NormFault) → TellsOfMadeCall (enabled_grammar finds features w) deep f
    → TellsOfMadeCall (grammar_between finds w) deep f

-- and the calls with another number of arguments than parameters are the same
abbrev pub ArityStaysBetween : Type 0
ArityStaysBetween =
    (finds : Text → Text → Option Bool) (features : List Text) (w : Grammar) → HasAllActive features (rules_of w.items)
    → arity_faults (enabled_grammar finds features w) (rules_of w.items) ≡ arity_faults (grammar_between finds w) (rules_of w.items)

-- what a search asks of a table holds where it holds of the grammar between two passes
abbrev pub PremisesComeBack : Type 0
PremisesComeBack =
    (finds : Text → Text → Option Bool) (features : List Text) (w : Grammar) → HasAllActive features (rules_of w.items)
    → HasNoLevels (grammar_between finds w)
    → ((q : EnabledRule) → Among (grammar_between finds w).rules q → IsRule (grammar_between finds w) q.name q)
    → CanSearch (enabled_grammar finds features w) features w
