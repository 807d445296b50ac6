-- Renaming goes by the names that the occurrences get, however they come about; for the alternatives of a level.
use Rattle.std.specs.Str.{bytes_eq}
use Rattle.std.proofs.Common.{◌≡◌, ℕ, ◌+◌, Bool, true, false, List, [], ◌∷◌, refl, ap, sym, ◌∙◌, cond}
use Rattle.std.specs.Prelude.{Option}
use Rattle.lalrpop_grammar_symbols.specs.Symbols.{Text, TextSpan, Syms, Sym, WrittenSymbol}
use Rattle.lalrpop_grammar_language.specs.Enabled.{EnabledGrammar}
use Rattle.lalrpop_grammar_language.specs.Closing.{Binding, Scope, names_owner, occurrences}
use Rattle.lalrpop_grammar_language.proofs.PlaceLemmas.{same_text-eq}
use Rattle.lalrpop_norm_theory.specs.LevelRules.{level_name, occurrence_name, rename_occurrences, rename_all_occurrences}
use Rattle.lalrpop_norm_theory.specs.LevelRules.{rename_listed_occurrences}

module _ (g : EnabledGrammar) (b : Binding) (o : Text) (f h : Text → ℕ → Text) (one two : ℕ → Option ℕ)
    (same : (k : ℕ) → level_name f o (one k) ≡ level_name h o (two k)) where
  abbrev here : Scope
  here = record { grammar = g; binding = b; owner = o; level_at = one }

  abbrev there : Scope
  there = record { grammar = g; binding = b; owner = o; level_at = two }

  name_same : (k : ℕ) (n : Text) → occurrence_name f here k n ≡ occurrence_name h there k n
  name_same k n = go (bytes_eq n o) refl
    where
      go : (q : Bool) → bytes_eq n o ≡ q → cond q (level_name f n (one k)) n ≡ cond q (level_name h n (two k)) n
      go true e =
          let own : n ≡ o = same_text-eq n o e in
          ap (λ m. level_name f m (one k)) own ∙ same k ∙ ap (λ m. level_name h m (two k)) (sym own)
      go false e = refl

  mutual
    rename_same : (k : ℕ) (x : WrittenSymbol) → rename_occurrences f here k x ≡ rename_occurrences h there k x
    rename_same k (Sym.expr p xs) = ap (Sym.expr p) (rename_all_same k xs)
    rename_same k (Sym.ambiguous_id p n) = refl
    rename_same k (Sym.nonterminal p n) = ap (Sym.nonterminal p) (name_same k n)
    rename_same k (Sym.terminal p t) = refl
    rename_same k (Sym.macro p n args) =
        ap (λ m. Sym.macro p m (rename_all_occurrences f here (k + names_owner b o n) args)) (name_same k n)
        ∙ ap (Sym.macro p (occurrence_name h there k n)) (rename_all_same (k + names_owner b o n) args)
    rename_same k (Sym.repeat p op x) = ap (Sym.repeat p op) (rename_same k x)
    rename_same k (Sym.choose p x) = ap (Sym.choose p) (rename_same k x)
    rename_same k (Sym.name p m n x) = ap (Sym.name p m n) (rename_same k x)
    rename_same k (Sym.lookahead p) = refl
    rename_same k (Sym.lookbehind p) = refl
    rename_same k (Sym.error p) = refl

    rename_all_same : (k : ℕ) (xs : Syms TextSpan) → rename_all_occurrences f here k xs ≡ rename_all_occurrences h there k xs
    rename_all_same k Syms.none = refl
    rename_all_same k (Syms.more x xs) =
        ap (λ y. Syms.more y (rename_all_occurrences f here (k + occurrences b o x) xs)) (rename_same k x)
        ∙ ap (Syms.more (rename_occurrences h there k x)) (rename_all_same (k + occurrences b o x) xs)

  -- symbols are renamed alike where the occurrences get the same names
  pub rename_listed_same : (k : ℕ) (xs : List WrittenSymbol)
      → rename_listed_occurrences f here k xs ≡ rename_listed_occurrences h there k xs
  rename_listed_same k [] = refl
  rename_listed_same k (x ∷ xs) =
      ap (λ y. y ∷ rename_listed_occurrences f here (k + occurrences b o x) xs) (rename_same k x)
      ∙ ap (λ ys. rename_occurrences h there k x ∷ ys) (rename_listed_same (k + occurrences b o x) xs)
