-- What the laws say of keys in order of first use: there is one order, it has all keys, and names that are given in it are one.
use Rattle.std.specs.Prelude.{ℕ, ◌≡◌, Bool, List, ◌++◌, Option}
use Rattle.lalrpop_grammar_symbols.specs.Symbols.{Text, Closed}
use Rattle.lalrpop_grammar.specs.WrittenGrammar.{Grammar}
use Rattle.lalrpop_grammar_language.specs.Among.{Among}
use Rattle.lalrpop_grammar_language.specs.Enabled.{EnabledGrammar, EnabledRule, IsRule, enabled_grammar}
use Rattle.lalrpop_grammar_language.specs.Expansion.{Nonterminal, InExpansion}
use Rattle.lalrpop_norm_theory.specs.Between.{grammar_between, without_disabled}
use Rattle.lalrpop_norm_theory.specs.Keys.{flat_key_text, leveled_key_text}
use Rattle.lalrpop_norm_theory.specs.LevelLaws.{IsLevelable, TellsOwnRules, nonterminal_by_level}
use Rattle.lalrpop_norm_theory.specs.LeveledGrammar.{leveled_grammar}
use Rattle.lalrpop_norm_theory.specs.LevelNames.{HasNoTildes}
use Rattle.lalrpop_norm_theory.specs.Premises.{IsReadGrammar}
use Rattle.lalrpop_norm_theory.specs.Resolving.{resolved_grammar}
use Rattle.lalrpop_norm_theory.specs.UsedKeys.{AreKeysByUse, KeyUses, written_keys}
use Rattle.lalrpop_norm_theory.specs.NamesByUse.{IsNamingByUse}

-- a key uses one list of keys
abbrev pub KeysUseOneList : Type 0
KeysUseOneList = (g : EnabledGrammar) (y : Closed) (us vs : List Closed) → KeyUses g y us → KeyUses g y vs → us ≡ vs

-- so the keys of a grammar have one order
abbrev pub KeysHaveOneOrder : Type 0
KeysHaveOneOrder =
    (g : EnabledGrammar) (others more : List Closed) → AreKeysByUse g others → AreKeysByUse g more → others ≡ more

-- which has each nonterminal of the expansion that is no start
abbrev pub KeysByUseAreAll : Type 0
KeysByUseAreAll =
    (g : EnabledGrammar) (others : List Closed) → AreKeysByUse g others → (x : Closed) → InExpansion g (Nonterminal.closed x)
    → Among (written_keys g ++ others) x

-- and the expansion one naming, where no two rules share a name
abbrev pub NamesByUseAreOne : Type 0
NamesByUseAreOne =
    (text_of : Closed → Text) (prefix : Text) (g : EnabledGrammar) (m n : Nonterminal → Text)
    → ((r : EnabledRule) → Among g.rules r → IsRule g r.name r) → IsNamingByUse text_of prefix g m
    → IsNamingByUse text_of prefix g n → (x : Nonterminal) → InExpansion g x → m x ≡ n x

-- names that are given by use in what is left of a grammar that was read are so in its enabled grammar
abbrev pub DroppedNamesByUseGoBack : Type 0
DroppedNamesByUseGoBack =
    (finds : Text → Text → Option Bool) (features : List Text) (g : Grammar) (prefix : Text) (name_of : Nonterminal → Text)
    → IsReadGrammar g → IsNamingByUse (leveled_key_text (grammar_between finds (without_disabled features g))) prefix
    (grammar_between finds (without_disabled features g)) name_of
    → IsNamingByUse (leveled_key_text (enabled_grammar finds features g)) prefix (enabled_grammar finds features g) name_of

-- and those in the grammar whose names are resolved are so in the written one
abbrev pub ResolvedNamesByUseGoBack : Type 0
ResolvedNamesByUseGoBack =
    (finds : Text → Text → Option Bool) (g : Grammar) (prefix : Text) (name_of : Nonterminal → Text)
    → IsNamingByUse (leveled_key_text (grammar_between finds (resolved_grammar g))) prefix (grammar_between finds (resolved_grammar g))
    name_of → IsNamingByUse (leveled_key_text (grammar_between finds g)) prefix (grammar_between finds g) name_of

-- and those in the grammar in which each level has a rule of its own are so in the grammar before, whose keys print with their levels
abbrev pub LeveledNamesByUseGoBack : Type 0
LeveledNamesByUseGoBack =
    (finds : Text → Text → Option Bool) (g : Grammar) (f : Text → ℕ → Text) (prefix : Text) (name_of : Nonterminal → Text)
    → IsLevelable finds g f → TellsOwnRules g → HasNoTildes g
    → IsNamingByUse flat_key_text prefix (grammar_between finds (leveled_grammar f g)) name_of
    → IsNamingByUse (leveled_key_text (grammar_between finds g)) prefix (grammar_between finds g) (λ x. name_of (nonterminal_by_level f x))
