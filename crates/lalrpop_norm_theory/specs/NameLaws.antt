-- What the laws say of what is disabled and of names that are resolved.
use Rattle.std.specs.Prelude.{ℕ, ◌≡◌, ◌↔◌, Bool, List, Option}
use Rattle.lalrpop_grammar_symbols.specs.Symbols.{Text, Closed}
use Rattle.lalrpop_grammar.specs.WrittenGrammar.{Grammar}
use Rattle.lalrpop_grammar_language.specs.Enabled.{enabled_grammar}
use Rattle.lalrpop_grammar_language.specs.Expansion.{Nonterminal}
use Rattle.lalrpop_norm_theory.specs.Between.{grammar_between, without_disabled}
use Rattle.lalrpop_norm_theory.specs.Premises.{IsReadGrammar, IsResolved}
use Rattle.lalrpop_norm_theory.specs.Same.{SameExpansion}
use Rattle.lalrpop_norm_theory.specs.Inlined.{SameInlined}
use Rattle.lalrpop_norm_theory.specs.Types.{SameTypes}
use Rattle.lalrpop_norm_theory.specs.Depth.{HasCallChain}
use Rattle.lalrpop_norm_theory.specs.Keys.{leveled_key_text, IsNaming}
use Rattle.lalrpop_norm_theory.specs.Resolving.{resolved_grammar}
use Rattle.lalrpop_norm_theory.specs.NameFaults.{HasRightNames}

-- what is left of a grammar that was read has the expansion of its enabled grammar
abbrev pub DroppingKeeps : Type 0
DroppingKeeps =
    (finds : Text → Text → Option Bool) (features : List Text) (g : Grammar) → IsReadGrammar g →
    SameExpansion (enabled_grammar finds features g) (grammar_between finds (without_disabled features g)) (λ x. x)

-- with the same nonterminals inlined
abbrev pub DroppingInlinesAlike : Type 0
DroppingInlinesAlike =
    (finds : Text → Text → Option Bool) (features : List Text) (g : Grammar) → IsReadGrammar g →
    SameInlined (enabled_grammar finds features g) (grammar_between finds (without_disabled features g)) (λ x. x)

-- with the same types
abbrev pub DroppingKeepsTypes : Type 0
DroppingKeepsTypes =
    (finds : Text → Text → Option Bool) (features : List Text) (g : Grammar) → IsReadGrammar g →
    SameTypes (enabled_grammar finds features g) (grammar_between finds (without_disabled features g)) (λ x. x)

-- and the same chains of macro calls
abbrev pub DroppingKeepsChains : Type 0
DroppingKeepsChains =
    (finds : Text → Text → Option Bool) (features : List Text) (g : Grammar) → IsReadGrammar g → (k : ℕ) (x : Closed) →
    HasCallChain (enabled_grammar finds features g) k x ↔ HasCallChain (grammar_between finds (without_disabled features g)) k x

-- names of what is left are names of the enabled grammar
abbrev pub DroppedNamesGoBack : Type 0
DroppedNamesGoBack =
    (finds : Text → Text → Option Bool) (features : List Text) (g : Grammar) (prefix : Text) (name_of : Nonterminal → Text) →
    IsReadGrammar g →
    IsNaming (leveled_key_text (grammar_between finds (without_disabled features g))) prefix
    (grammar_between finds (without_disabled features g)) name_of →
    IsNaming (leveled_key_text (enabled_grammar finds features g)) prefix (enabled_grammar finds features g) name_of

-- where nothing is wrong with names, resolving them makes a resolved grammar
abbrev pub ResolvingResolves : Type 0
ResolvingResolves =
    (finds : Text → Text → Option Bool) (g : Grammar) → HasRightNames g → IsResolved (grammar_between finds (resolved_grammar g))

-- and the expansion stays, whatever is wrong with names
abbrev pub ResolvingKeeps : Type 0
ResolvingKeeps =
    (finds : Text → Text → Option Bool) (g : Grammar) →
    SameExpansion (grammar_between finds g) (grammar_between finds (resolved_grammar g)) (λ x. x)

-- with the same nonterminals inlined
abbrev pub ResolvingInlinesAlike : Type 0
ResolvingInlinesAlike =
    (finds : Text → Text → Option Bool) (g : Grammar) →
    SameInlined (grammar_between finds g) (grammar_between finds (resolved_grammar g)) (λ x. x)

-- with the same types
abbrev pub ResolvingKeepsTypes : Type 0
ResolvingKeepsTypes =
    (finds : Text → Text → Option Bool) (g : Grammar) →
    SameTypes (grammar_between finds g) (grammar_between finds (resolved_grammar g)) (λ x. x)

-- and the same chains of macro calls
abbrev pub ResolvingKeepsChains : Type 0
ResolvingKeepsChains =
    (finds : Text → Text → Option Bool) (g : Grammar) (k : ℕ) (x : Closed) →
    HasCallChain (grammar_between finds g) k x ↔ HasCallChain (grammar_between finds (resolved_grammar g)) k x

-- names of the grammar with its names resolved are names of the written one
abbrev pub ResolvedNamesGoBack : Type 0
ResolvedNamesGoBack =
    (finds : Text → Text → Option Bool) (g : Grammar) (prefix : Text) (name_of : Nonterminal → Text) →
    IsNaming (leveled_key_text (grammar_between finds (resolved_grammar g))) prefix (grammar_between finds (resolved_grammar g)) name_of →
    IsNaming (leveled_key_text (grammar_between finds g)) prefix (grammar_between finds g) name_of

-- a resolved grammar stays as it is
abbrev pub ResolvedStays : Type 0
ResolvedStays =
    (finds : Text → Text → Option Bool) (g : Grammar) → IsResolved (grammar_between finds g) → resolved_grammar g ≡ g

-- and nothing is wrong with its names
abbrev pub ResolvedHasRightNames : Type 0
ResolvedHasRightNames = (g : Grammar) → HasRightNames g → HasRightNames (resolved_grammar g)
