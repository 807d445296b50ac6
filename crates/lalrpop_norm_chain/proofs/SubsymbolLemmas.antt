-- The symbols that stand in a resolved symbol, and in one under the names of levels, by those that stood there before; for the
-- laws of what passes leave and of faults.
use Rattle.std.proofs.Common.{◌≡◌, ℕ, List, [], ◌∷◌, ◌++◌, refl, ap, sym, ◌∙◌, inl, inr, ◌⊎◌}
use Rattle.std.specs.Prelude.{◌+◌, map}
use Rattle.lalrpop_grammar_symbols.specs.Symbols.{Text, TextSpan, Sym, Syms, syms, WrittenSymbol}
use Rattle.lalrpop_grammar_symbols.specs.Subsymbols.{subsymbols, subsymbols_of}
use Rattle.lalrpop_grammar_symbols.specs.SymbolMaps.{map_symbol, map_symbols}
use Rattle.lalrpop_grammar_language.specs.Among.{Among}
use Rattle.lalrpop_grammar_language.specs.Closing.{Scope, names_owner, occurrences}
use Rattle.lalrpop_grammar_language.proofs.StepLemmas.{among_right}
use Rattle.lalrpop_grammar_language.proofs.StepLemmas.{among_left}
use Rattle.lalrpop_grammar_language.proofs.OrderLemmas.{among_parts}
use Rattle.lalrpop_norm_theory.specs.LevelRules.{rename_occurrences, rename_all_occurrences, rename_listed_occurrences}
use Rattle.lalrpop_norm_theory.specs.Resolving.{DefinedNames, NameUse, use_of_name, resolved_name, name_resolution, resolved_symbol}
use Rattle.lalrpop_norm_theory.proofs.LeveledRuleLemmas.{map-join}

-- resolved symbols

named_alone : (u : NameUse) (p : TextSpan) (n : Text) → subsymbols (resolved_name u p n) ≡ resolved_name u p n ∷ []
named_alone NameUse.parameter p n = refl
named_alone NameUse.plain_rule p n = refl
named_alone NameUse.macro_rule p n = refl
named_alone NameUse.mapped p n = refl
named_alone NameUse.nothing p n = refl

module _ (d : DefinedNames) (ps : List Text) where
  mutual
    -- what stands in a resolved symbol are the resolved ones of those that stand in it
    pub subsymbols_resolved : (x : WrittenSymbol) →
        subsymbols (resolved_symbol d ps x) ≡ map (resolved_symbol d ps) (subsymbols x)
    subsymbols_resolved (Sym.expr p xs) =
        ap (λ l. Sym.expr p (map_symbols (name_resolution d ps) xs) ∷ l) (all_subsymbols_resolved xs)
    subsymbols_resolved (Sym.ambiguous_id p n) = named_alone (use_of_name d ps n) p n
    subsymbols_resolved (Sym.nonterminal p n) = refl
    subsymbols_resolved (Sym.terminal p t) = refl
    subsymbols_resolved (Sym.macro p n args) =
        ap (λ l. Sym.macro p n (map_symbols (name_resolution d ps) args) ∷ l) (all_subsymbols_resolved args)
    subsymbols_resolved (Sym.repeat p op x) =
        ap (λ l. Sym.repeat p op (map_symbol (name_resolution d ps) x) ∷ l) (subsymbols_resolved x)
    subsymbols_resolved (Sym.choose p x) =
        ap (λ l. Sym.choose p (map_symbol (name_resolution d ps) x) ∷ l) (subsymbols_resolved x)
    subsymbols_resolved (Sym.name p m n x) =
        ap (λ l. Sym.name p m n (map_symbol (name_resolution d ps) x) ∷ l) (subsymbols_resolved x)
    subsymbols_resolved (Sym.lookahead p) = refl
    subsymbols_resolved (Sym.lookbehind p) = refl
    subsymbols_resolved (Sym.error p) = refl

    pub all_subsymbols_resolved : (xs : Syms TextSpan) →
        subsymbols_of (map_symbols (name_resolution d ps) xs) ≡ map (resolved_symbol d ps) (subsymbols_of xs)
    all_subsymbols_resolved Syms.none = refl
    all_subsymbols_resolved (Syms.more x xs) =
        ap (λ l. l ++ subsymbols_of (map_symbols (name_resolution d ps) xs)) (subsymbols_resolved x)
        ∙ ap (λ l. map (resolved_symbol d ps) (subsymbols x) ++ l) (all_subsymbols_resolved xs)
        ∙ sym (map-join (resolved_symbol d ps) (subsymbols x) (subsymbols_of xs))

  listed_map : (xs : List WrittenSymbol) → syms (map (resolved_symbol d ps) xs) ≡ map_symbols (name_resolution d ps) (syms xs)
  listed_map [] = refl
  listed_map (x ∷ xs) = ap (Syms.more (resolved_symbol d ps x)) (listed_map xs)

  -- the same of the symbols of an alternative
  pub listed_subsymbols_resolved : (xs : List WrittenSymbol) →
      subsymbols_of (syms (map (resolved_symbol d ps) xs)) ≡ map (resolved_symbol d ps) (subsymbols_of (syms xs))
  listed_subsymbols_resolved xs = ap subsymbols_of (listed_map xs) ∙ all_subsymbols_resolved (syms xs)

-- symbols under the names of levels

-- a symbol under the names of levels, after some occurrences, of one of these
pub record IsRenamed (f : Text → ℕ → Text) (s : Scope) (xs : List WrittenSymbol) (y : WrittenSymbol) : Type 0 where
  pub from : WrittenSymbol
  pub after : ℕ
  pub among : Among xs from
  pub is_it : rename_occurrences f s after from ≡ y

inside : (f : Text → ℕ → Text) (s : Scope) (x : WrittenSymbol) (xs : List WrittenSymbol) (y : WrittenSymbol) →
    IsRenamed f s xs y →
    IsRenamed f s (x ∷ xs) y
inside f s x xs y u = record { from = u.from; after = u.after; among = inr u.among; is_it = u.is_it }

itself : (f : Text → ℕ → Text) (s : Scope) (k : ℕ) (x : WrittenSymbol) (xs : List WrittenSymbol) (y : WrittenSymbol) →
    rename_occurrences f s k x ≡ y → IsRenamed f s (x ∷ xs) y
itself f s k x xs y e = record { from = x; after = k; among = inl refl; is_it = e }

wider : (f : Text → ℕ → Text) (s : Scope) (xs ys : List WrittenSymbol) (y : WrittenSymbol) →
    IsRenamed f s xs y ⊎ IsRenamed f s ys y → IsRenamed f s (xs ++ ys) y
wider f s xs ys y (inl u) =
    record { from = u.from; after = u.after; among = among_left xs ys u.from u.among; is_it = u.is_it }
wider f s xs ys y (inr u) =
    record { from = u.from; after = u.after; among = among_right xs ys u.from u.among; is_it = u.is_it }

either : {A B C D : Type 0} → A ⊎ B → (A → C) → (B → D) → C ⊎ D
either (inl a) h k = inl (h a)
either (inr b) h k = inr (k b)

mutual
  -- what stands in a renamed symbol is renamed from what stands in it
  pub renamed_from : (f : Text → ℕ → Text) (s : Scope) (k : ℕ) (x y : WrittenSymbol) →
      Among (subsymbols (rename_occurrences f s k x)) y → IsRenamed f s (subsymbols x) y
  renamed_from f s k (Sym.expr p xs) y (inl e) = itself f s k (Sym.expr p xs) (subsymbols_of xs) y e
  renamed_from f s k (Sym.expr p xs) y (inr i) = inside f s (Sym.expr p xs) (subsymbols_of xs) y (all_renamed_from f s k xs y i)
  renamed_from f s k (Sym.ambiguous_id p n) y (inl e) = itself f s k (Sym.ambiguous_id p n) [] y e
  renamed_from f s k (Sym.ambiguous_id p n) y (inr i) = absurd i
  renamed_from f s k (Sym.nonterminal p n) y (inl e) = itself f s k (Sym.nonterminal p n) [] y e
  renamed_from f s k (Sym.nonterminal p n) y (inr i) = absurd i
  renamed_from f s k (Sym.terminal p t) y (inl e) = itself f s k (Sym.terminal p t) [] y e
  renamed_from f s k (Sym.terminal p t) y (inr i) = absurd i
  renamed_from f s k (Sym.macro p n args) y (inl e) = itself f s k (Sym.macro p n args) (subsymbols_of args) y e
  renamed_from f s k (Sym.macro p n args) y (inr i) =
      inside f s (Sym.macro p n args) (subsymbols_of args) y
      (all_renamed_from f s (k + names_owner s.binding s.owner n) args y i)
  renamed_from f s k (Sym.repeat p op x) y (inl e) = itself f s k (Sym.repeat p op x) (subsymbols x) y e
  renamed_from f s k (Sym.repeat p op x) y (inr i) = inside f s (Sym.repeat p op x) (subsymbols x) y (renamed_from f s k x y i)
  renamed_from f s k (Sym.choose p x) y (inl e) = itself f s k (Sym.choose p x) (subsymbols x) y e
  renamed_from f s k (Sym.choose p x) y (inr i) = inside f s (Sym.choose p x) (subsymbols x) y (renamed_from f s k x y i)
  renamed_from f s k (Sym.name p m n x) y (inl e) = itself f s k (Sym.name p m n x) (subsymbols x) y e
  renamed_from f s k (Sym.name p m n x) y (inr i) = inside f s (Sym.name p m n x) (subsymbols x) y (renamed_from f s k x y i)
  renamed_from f s k (Sym.lookahead p) y (inl e) = itself f s k (Sym.lookahead p) [] y e
  renamed_from f s k (Sym.lookahead p) y (inr i) = absurd i
  renamed_from f s k (Sym.lookbehind p) y (inl e) = itself f s k (Sym.lookbehind p) [] y e
  renamed_from f s k (Sym.lookbehind p) y (inr i) = absurd i
  renamed_from f s k (Sym.error p) y (inl e) = itself f s k (Sym.error p) [] y e
  renamed_from f s k (Sym.error p) y (inr i) = absurd i

  pub all_renamed_from : (f : Text → ℕ → Text) (s : Scope) (k : ℕ) (xs : Syms TextSpan) (y : WrittenSymbol) →
      Among (subsymbols_of (rename_all_occurrences f s k xs)) y → IsRenamed f s (subsymbols_of xs) y
  all_renamed_from f s k Syms.none y i = absurd i
  all_renamed_from f s k (Syms.more x xs) y i =
      wider f s (subsymbols x) (subsymbols_of xs) y
      (either (among_parts (subsymbols (rename_occurrences f s k x))
      (subsymbols_of (rename_all_occurrences f s (k + occurrences s.binding s.owner x) xs)) y i)
      (λ j. renamed_from f s k x y j) (λ j. all_renamed_from f s (k + occurrences s.binding s.owner x) xs y j))

-- the same of the symbols of an alternative
pub listed_renamed_from : (f : Text → ℕ → Text) (s : Scope) (k : ℕ) (xs : List WrittenSymbol) (y : WrittenSymbol) →
    Among (subsymbols_of (syms (rename_listed_occurrences f s k xs))) y → IsRenamed f s (subsymbols_of (syms xs)) y
listed_renamed_from f s k [] y i = absurd i
listed_renamed_from f s k (x ∷ xs) y i =
    wider f s (subsymbols x) (subsymbols_of (syms xs)) y
    (either (among_parts (subsymbols (rename_occurrences f s k x))
    (subsymbols_of (syms (rename_listed_occurrences f s (k + occurrences s.binding s.owner x) xs))) y i)
    (λ j. renamed_from f s k x y j) (λ j. listed_renamed_from f s (k + occurrences s.binding s.owner x) xs y j))
