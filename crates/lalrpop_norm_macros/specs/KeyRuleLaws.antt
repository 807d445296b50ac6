-- What the rules of keys rest on, what is answered, and what the grammar with these rules is.
use Rattle.std.specs.Prelude.{ℕ, ◌≡◌, Bool, List, [], Option, None, map}
use Rattle.lalrpop_grammar_symbols.specs.Symbols.{Text, TextSpan, Closed, Closeds}
use Rattle.lalrpop_grammar.specs.WrittenGrammar.{Grammar, Rule, rules_of}
use Rattle.lalrpop_grammar_language.specs.Among.{Among}
use Rattle.lalrpop_grammar_language.specs.Enabled.{EnabledRule, IsRule}
use Rattle.lalrpop_grammar_repr.specs.declared.session.NormFault.{NormFault}
use Rattle.lalrpop_norm_theory.specs.Between.{grammar_between}
use Rattle.lalrpop_norm_theory.specs.Inlined.{SameInlined}
use Rattle.lalrpop_norm_theory.specs.Premises.{HasNoLevels, HasNoRecovery, IsExpanded, IsResolved}
use Rattle.lalrpop_norm_theory.specs.Rounds.{AreCallsToDepth}
use Rattle.lalrpop_norm_theory.specs.Same.{SameExpansion}
use Rattle.lalrpop_norm_theory.specs.Types.{SameTypes}
use Rattle.lalrpop_norm_theory.specs.KeyRules.{IsMacroExpansion, by_name, nonterminal_by_name}
use Rattle.lalrpop_norm_theory.specs.KeyTables.{AreKeyRules, IsKeyTable}
use Rattle.lalrpop_norm_theory.specs.KeyTypes.{DeclareKeyTypes}
use Rattle.lalrpop_norm_theory.specs.UsedKeys.{IsListByUse}
use Rattle.lalrpop_norm_keys.specs.Tables.{HasEachOnce}
use Rattle.lalrpop_norm_keys.specs.Arity.{arity_faults}
use Rattle.lalrpop_norm_keys.specs.FoundCalls.{TellsOfMadeCall}
use Rattle.lalrpop_norm_keys.specs.TableLaws.{HasAllActive}
use Rattle.lalrpop_norm_macros.specs.FinishedRules.{AreFinishedRules}
use Rattle.lalrpop_norm_macros.specs.RuleItems.{grammar_with_rules}
use Rattle.lalrpop_norm_macros.specs.UsableSymbols.{IsRightGrammar}

-- A grammar between two passes of which nothing is disabled under the features, whose names are resolved, without levels and
-- without `!` in an alternative; its calls are found, and these are its keys, in order of first use.
pub record HasRightKeys (finds : Text → Text → Option Bool) (features : List Text) (w : Grammar) (keys : List Closed) : Type 0 where
  pub active : HasAllActive features (rules_of w.items)
  pub right : IsRightGrammar (grammar_between finds w)
  pub flat : HasNoLevels (grammar_between finds w)
  pub depth : ℕ
  pub calls : List Closed
  pub found : AreCallsToDepth (grammar_between finds w) depth calls []
  pub table : IsKeyTable (grammar_between finds w) calls keys
  pub in_order : IsListByUse (grammar_between finds w) keys

-- for such a grammar these are the finished rules of the keys under these names
abbrev pub AreRulesUnderNames : (Text → Text → Option Bool) → List Text → Grammar → List Closed → List Text
    → (ℕ → TextSpan)
    → List Rule → Type 0
AreRulesUnderNames finds features w keys names places made =
    HasRightKeys finds features w keys → (f : Closed → Text) → map f keys ≡ names → AreFinishedRules finds w f places keys made

-- for such a grammar something is told of a condition of a call that is made, or memory ran out
abbrev pub TellsOfRightKeys : (Text → Text → Option Bool) → (Text → Bool) → List Text → Grammar → List Closed → NormFault
    → Type 0
TellsOfRightKeys finds deep features w keys fault =
    HasRightKeys finds features w keys → TellsOfMadeCall (grammar_between finds w) deep fault

-- Keys have names of their own: no two share one, and a rule that is no macro keeps its name.
pub record AreOwnNames (finds : Text → Text → Option Bool) (w : Grammar) (f : Closed → Text) (keys : List Closed) : Type 0 where
  pub once : HasEachOnce keys
  pub apart : (x y : Closed) → Among keys x → Among keys y → f x ≡ f y → x ≡ y
  pub own : (n : Text) (r : EnabledRule) → IsRule (grammar_between finds w) n r → r.parameters ≡ []
      → f (Closed.call n Closeds.none None) ≡ n

-- The macros of the grammar are expanded in the other one, with a rule for each key and no other.
pub record HasExpandedMacros (finds : Text → Text → Option Bool) (w made : Grammar)
    (f : Closed → Text) (keys : List Closed) : Type 0 where
  pub rules : AreKeyRules (grammar_between finds w) (grammar_between finds made) f keys
  pub declared : DeclareKeyTypes (grammar_between finds w) (grammar_between finds made) f keys
  pub expansion : IsMacroExpansion (grammar_between finds w) (grammar_between finds made) f keys
  pub same : SameExpansion (grammar_between finds w) (grammar_between finds made) (nonterminal_by_name f)
  pub inlined : SameInlined (grammar_between finds w) (grammar_between finds made) (nonterminal_by_name f)
  pub types : SameTypes (grammar_between finds w) (grammar_between finds made) (by_name f)
  pub expanded : IsExpanded (grammar_between finds made)

-- the grammar with a finished rule for each key, under names of their own, is that
abbrev pub FinishedRulesExpand : Type 0
FinishedRulesExpand =
    (finds : Text → Text → Option Bool) (features : List Text) (w : Grammar) (f : Closed → Text) (places : ℕ → TextSpan)
    (keys : List Closed) (made : List Rule) → HasRightKeys finds features w keys → AreOwnNames finds w f keys
    → AreFinishedRules finds w f places keys made → HasExpandedMacros finds w (grammar_with_rules w made) f keys

-- where names are resolved, no alternative has `!`, and no wrong number of arguments is told, the grammar is right
abbrev pub CountsMakeRight : Type 0
CountsMakeRight =
    (finds : Text → Text → Option Bool) (w : Grammar) → IsResolved (grammar_between finds w)
    → HasNoRecovery (grammar_between finds w)
    → arity_faults (grammar_between finds w) (rules_of w.items) ≡ [] → IsRightGrammar (grammar_between finds w)
