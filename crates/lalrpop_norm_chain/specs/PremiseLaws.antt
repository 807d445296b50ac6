-- What the passes leave of what the passes after them rest on; for the chain of all passes.
use Rattle.std.specs.Prelude.{ℕ, ◌≡◌, ◌≢◌, ◌<◌, Bool, List, [], ◌∷◌, ◌++◌, Option, flat_map, replicate}
use Rattle.lalrpop_grammar_symbols.specs.Symbols.{Text, Closed}
use Rattle.lalrpop_grammar.specs.WrittenGrammar.{InternEntry, WrittenItem, Grammar, rules_of}
use Rattle.lalrpop_grammar_language.specs.Among.{Among}
use Rattle.lalrpop_grammar_language.specs.Enabled.{EnabledGrammar, EnabledRule, Choice, enabled_grammar}
use Rattle.lalrpop_norm_theory.specs.Between.{grammar_between, without_disabled}
use Rattle.lalrpop_norm_theory.specs.Keys.{flat_key_text, with_number}
use Rattle.lalrpop_norm_theory.specs.Premises.{IsReadGrammar, HasNoRecovery, IsExpanded}
use Rattle.lalrpop_norm_theory.specs.Productions.{IsOriginBefore}
use Rattle.lalrpop_norm_theory.specs.KeyRules.{IsMacroExpansion}
use Rattle.lalrpop_norm_theory.specs.Resolving.{resolved_grammar}
use Rattle.lalrpop_norm_theory.specs.NameFaults.{HasRightNames}
use Rattle.lalrpop_norm_theory.specs.LeveledGrammar.{leveled_grammar}
use Rattle.lalrpop_norm_theory.specs.LevelNames.{AreLevelNames}
use Rattle.lalrpop_norm_theory.specs.LevelLaws.{TellsOwnRules}
use Rattle.lalrpop_norm_precedence.specs.LevelExpansions.{HasPlainNames}
use Rattle.lalrpop_norm_prevalidate.specs.Faults.{HasNoCheckFault}
use Rattle.lalrpop_norm_keys.specs.TableLaws.{HasAllActive}

-- the written grammar without what is disabled, and with each of its names resolved
abbrev pub resolved_part : List Text → Grammar → Grammar
resolved_part features w = resolved_grammar (without_disabled features w)

-- and with a rule for each level, under these names
abbrev pub leveled_part : (Text → ℕ → Text) → List Text → Grammar → Grammar
leveled_part f features w = leveled_grammar f (resolved_part features w)

-- Where nothing is wrong with names, those of rules and parameters are what the names of levels rest on.
abbrev pub ReadNamesArePlain : Type 0
ReadNamesArePlain =
    (finds : Text → Text → Option Bool) (features : List Text) (w : Grammar) → IsReadGrammar w
    → HasRightNames (without_disabled features w) → HasPlainNames finds (resolved_part features w)

-- each alternative tells a place of its own rule when levels are expanded
abbrev pub ResolvedTellsOwnRules : Type 0
ResolvedTellsOwnRules = (features : List Text) (w : Grammar) → IsReadGrammar w → TellsOwnRules (resolved_part features w)

-- No attribute that asks for features is left when macros are expanded: nothing is disabled, whatever is asked.
abbrev pub NothingIsDisabled : Type 0
NothingIsDisabled =
    (features asked : List Text) (w : Grammar) (f : Text → ℕ → Text)
    → HasAllActive asked (rules_of (leveled_part f features w).items)

-- where no enabled alternative has the symbol of error recovery, none has it when macros are expanded
abbrev pub NoRecoveryComesIn : Type 0
NoRecoveryComesIn =
    (finds : Text → Text → Option Bool) (features : List Text) (w : Grammar) (f : Text → ℕ → Text) → IsReadGrammar w
    → HasNoRecovery (enabled_grammar finds features w) → HasNoRecovery (grammar_between finds (leveled_part f features w))

-- The prefix, a run of underscores, begins no rule's name and no bare name that is mapped.
pub record HasFreePrefix (prefix : Text) (g : EnabledGrammar) : Type 0 where
  pub underscores : ℕ
  pub some : 0 < underscores
  pub prefix_is : prefix ≡ replicate underscores 95
  pub rules : (r : EnabledRule) (t : Text) → Among g.rules r → r.name ≢ prefix ++ t
  pub bares : (n t : Text) → Among g.bares n → n ≢ prefix ++ t

-- where the first pass finds no fault, no name begins with it when macros are expanded
abbrev pub PrefixStaysFree : Type 0
PrefixStaysFree =
    (finds : Text → Text → Option Bool) (features : List Text) (w : Grammar) (f : Text → ℕ → Text) → IsReadGrammar w
    → HasNoCheckFault w → AreLevelNames (resolved_part features w) f
    → HasFreePrefix w.prefix (grammar_between finds (leveled_part f features w))

-- nor once they are expanded, under names of keys
abbrev pub KeysLeavePrefix : Type 0
KeysLeavePrefix =
    (g h : EnabledGrammar) (f : Closed → Text) (keys : List Closed) (prefix : Text) (number : Closed → ℕ)
    → IsMacroExpansion g h f keys → IsExpanded h → HasFreePrefix prefix g
    → ((x : Closed) → Among keys x → f x ≡ with_number (flat_key_text x) (number x)) → HasFreePrefix prefix h

-- the alternatives stand by their origins, each before all later ones
abbrev pub AreInOrder : List Choice → Type 0
AreInOrder [] = Unit {0}
AreInOrder (c ∷ cs) = ((later : Choice) → Among cs later → IsOriginBefore c.origin later.origin) × AreInOrder cs

abbrev pub HasRulesInOrder : EnabledGrammar → Type 0
HasRulesInOrder g = (r : EnabledRule) → Among g.rules r → AreInOrder r.choices

-- so they stand when macros are expanded
abbrev pub RulesStayInOrder : Type 0
RulesStayInOrder =
    (finds : Text → Text → Option Bool) (features : List Text) (w : Grammar) (f : Text → ℕ → Text) → IsReadGrammar w
    → HasRulesInOrder (grammar_between finds (leveled_part f features w))

-- and once they are
abbrev pub KeysStandInOrder : Type 0
KeysStandInOrder =
    (g h : EnabledGrammar) (f : Closed → Text) (keys : List Closed) → IsMacroExpansion g h f keys → IsExpanded h → HasRulesInOrder g
    → HasRulesInOrder h

-- the entries that tokenizers among the items have
abbrev pub entries_of_item : WrittenItem → List InternEntry
entries_of_item (WrittenItem.intern_token entries) = entries
entries_of_item (WrittenItem.nonterminal r) = []
entries_of_item (WrittenItem.match_token groups place) = []
entries_of_item (WrittenItem.extern_token block) = []
entries_of_item (WrittenItem.import text) = []

abbrev pub entries_of_items : List WrittenItem → List InternEntry
entries_of_items items = flat_map entries_of_item items

-- no tokenizer stands when macros are expanded
abbrev pub NoTokenizerIsMade : Type 0
NoTokenizerIsMade =
    (features : List Text) (w : Grammar) (f : Text → ℕ → Text) → IsReadGrammar w
    → entries_of_items (leveled_part f features w).items ≡ []
