-- A grammar in which each level of a rule has a rule of its own.
use Rattle.std.specs.Prelude.{ℕ, ◌+◌, ◌≡◌, List, [], ◌∷◌, Option, Some, None, option_map, if◌then◌else◌}
use Rattle.std.specs.Str.{bytes_eq}
use Rattle.lalrpop_grammar_symbols.specs.Symbols.{Text, TextSpan, Syms, Sym, WrittenSymbol, Closed, Closeds}
use Rattle.lalrpop_grammar_language.specs.Enabled.{EnabledRule}
use Rattle.lalrpop_grammar_language.specs.Levels.{loosest}
use Rattle.lalrpop_grammar_language.specs.Closing.{Scope, Meaning, name_meaning, parameter_value, names_owner, occurrences}

-- the name of a rule at a level, where levels have names
abbrev pub level_name : (Text → ℕ → Text) → Text → Option ℕ → Text
level_name f n None = n
level_name f n (Some l) = f n l

-- a closed symbol under the names of the levels
abbrev mutual
  pub by_level_names : (Text → ℕ → Text) → Closed → Closed
  by_level_names f (Closed.terminal t) = Closed.terminal t
  by_level_names f (Closed.call n args level) = Closed.call (level_name f n level) (all_by_level_names f args) None
  by_level_names f (Closed.repeat op x) = Closed.repeat op (by_level_names f x)
  by_level_names f (Closed.group xs) = Closed.group (all_by_level_names f xs)
  by_level_names f (Closed.choose x) = Closed.choose (by_level_names f x)
  by_level_names f (Closed.name m n x) = Closed.name m n (by_level_names f x)
  by_level_names f Closed.lookahead = Closed.lookahead
  by_level_names f Closed.lookbehind = Closed.lookbehind
  by_level_names f Closed.faulty = Closed.faulty

  pub all_by_level_names : (Text → ℕ → Text) → Closeds → Closeds
  all_by_level_names f Closeds.none = Closeds.none
  all_by_level_names f (Closeds.more x xs) = Closeds.more (by_level_names f x) (all_by_level_names f xs)

-- what occurrence k of the owner is renamed to; another name stays
abbrev pub occurrence_name : (Text → ℕ → Text) → Scope → ℕ → Text → Text
occurrence_name f s k n = if bytes_eq n s.owner then level_name f n (s.level_at k) else n

-- a resolved symbol with the owner's occurrences renamed, each by its number
abbrev mutual
  pub rename_occurrences : (Text → ℕ → Text) → Scope → ℕ → WrittenSymbol → WrittenSymbol
  rename_occurrences f s k (Sym.expr p xs) = Sym.expr p (rename_all_occurrences f s k xs)
  rename_occurrences f s k (Sym.ambiguous_id p n) = Sym.ambiguous_id p n
  rename_occurrences f s k (Sym.nonterminal p n) = Sym.nonterminal p (occurrence_name f s k n)
  rename_occurrences f s k (Sym.terminal p t) = Sym.terminal p t
  rename_occurrences f s k (Sym.macro p n args) =
      Sym.macro p (occurrence_name f s k n) (rename_all_occurrences f s (k + names_owner s.binding s.owner n) args)
  rename_occurrences f s k (Sym.repeat p op x) = Sym.repeat p op (rename_occurrences f s k x)
  rename_occurrences f s k (Sym.choose p x) = Sym.choose p (rename_occurrences f s k x)
  rename_occurrences f s k (Sym.name p m n x) = Sym.name p m n (rename_occurrences f s k x)
  rename_occurrences f s k (Sym.lookahead p) = Sym.lookahead p
  rename_occurrences f s k (Sym.lookbehind p) = Sym.lookbehind p
  rename_occurrences f s k (Sym.error p) = Sym.error p

  pub rename_all_occurrences : (Text → ℕ → Text) → Scope → ℕ → Syms TextSpan → Syms TextSpan
  rename_all_occurrences f s k Syms.none = Syms.none
  rename_all_occurrences f s k (Syms.more x xs) =
      Syms.more (rename_occurrences f s k x) (rename_all_occurrences f s (k + occurrences s.binding s.owner x) xs)

abbrev pub rename_listed_occurrences : (Text → ℕ → Text) → Scope → ℕ → List WrittenSymbol → List WrittenSymbol
rename_listed_occurrences f s k [] = []
rename_listed_occurrences f s k (x ∷ xs) =
    rename_occurrences f s k x ∷ rename_listed_occurrences f s (k + occurrences s.binding s.owner x) xs

-- A scope of the grammar with levels, and one of that where each level has a rule of its own, under that name: a rule's
-- loosest level keeps its name, each level that an occurrence may have is there, parameters stay, and what they are bound to is
-- renamed.
pub record IsLeveledScope (f : Text → ℕ → Text) (s t : Scope) : Type 0 where
  pub loosest_kept : (n : Text) (r : EnabledRule) → name_meaning s.grammar n ≡ Meaning.rule r → level_name f n (loosest r) ≡ n
  pub rules : (k : ℕ) (n : Text) (r : EnabledRule) → name_meaning s.grammar n ≡ Meaning.rule r →
      (q : EnabledRule) × (name_meaning t.grammar (occurrence_name f s k n) ≡ Meaning.rule q) × (q.parameters ≡ r.parameters)
      × (loosest q ≡ None)
  pub bares : t.grammar.bares ≡ s.grammar.bares
  pub bindings : (n : Text) → parameter_value t.binding n ≡ option_map (by_level_names f) (parameter_value s.binding n)
  pub no_levels : (k : ℕ) → t.level_at k ≡ None

-- a call whose name is a rule's, in both scopes: no parameter hides it or the name of its level
pub record IsOpenCall (f : Text → ℕ → Text) (s t : Scope) (k : ℕ) (n : Text) : Type 0 where
  pub rule : EnabledRule
  pub meant : name_meaning s.grammar n ≡ Meaning.rule rule
  pub not_hidden : parameter_value s.binding n ≡ None
  pub level_not_hidden : parameter_value t.binding (occurrence_name f s k n) ≡ None

-- each name in the symbol, after k occurrences of the owner, is resolved; parameters alone are left as names
abbrev mutual
  pub IsResolvedAfter : (Text → ℕ → Text) → Scope → Scope → ℕ → WrittenSymbol → Type 0
  IsResolvedAfter f s t k (Sym.expr p xs) = AreResolvedAfter f s t k xs
  IsResolvedAfter f s t k (Sym.ambiguous_id p n) = (c : Closed) × (parameter_value s.binding n ≡ Some c)
  IsResolvedAfter f s t k (Sym.nonterminal p n) = (r : EnabledRule) × (name_meaning s.grammar n ≡ Meaning.rule r)
  IsResolvedAfter f s t k (Sym.terminal p u) = Unit {0}
  IsResolvedAfter f s t k (Sym.macro p n args) =
      IsOpenCall f s t k n × AreResolvedAfter f s t (k + names_owner s.binding s.owner n) args
  IsResolvedAfter f s t k (Sym.repeat p op x) = IsResolvedAfter f s t k x
  IsResolvedAfter f s t k (Sym.choose p x) = IsResolvedAfter f s t k x
  IsResolvedAfter f s t k (Sym.name p m n x) = IsResolvedAfter f s t k x
  IsResolvedAfter f s t k (Sym.lookahead p) = Unit {0}
  IsResolvedAfter f s t k (Sym.lookbehind p) = Unit {0}
  IsResolvedAfter f s t k (Sym.error p) = Unit {0}

  pub AreResolvedAfter : (Text → ℕ → Text) → Scope → Scope → ℕ → Syms TextSpan → Type 0
  AreResolvedAfter f s t k Syms.none = Unit {0}
  AreResolvedAfter f s t k (Syms.more x xs) =
      IsResolvedAfter f s t k x × AreResolvedAfter f s t (k + occurrences s.binding s.owner x) xs

abbrev pub AreListedResolvedAfter : (Text → ℕ → Text) → Scope → Scope → ℕ → List WrittenSymbol → Type 0
AreListedResolvedAfter f s t k [] = Unit {0}
AreListedResolvedAfter f s t k (x ∷ xs) =
    IsResolvedAfter f s t k x × AreListedResolvedAfter f s t (k + occurrences s.binding s.owner x) xs
