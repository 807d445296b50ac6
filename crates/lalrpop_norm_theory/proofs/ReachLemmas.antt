-- The expansion reaches the same closed symbols under the names of the levels; for the law of types.
use Rattle.std.proofs.Common.{◌≡◌, ℕ, ap, sym, ◌∙◌, subst, Bool, true, inl, inr, refl}
use Rattle.std.specs.Prelude.{Option}
use Rattle.lalrpop_grammar_symbols.specs.Symbols.{Text, Closed}
use Rattle.lalrpop_grammar.specs.WrittenGrammar.{Grammar}
use Rattle.lalrpop_grammar_language.specs.Enabled.{EnabledGrammar}
use Rattle.lalrpop_grammar_language.specs.Closing.{is_sound}
use Rattle.lalrpop_grammar_language.specs.Expansion.{Nonterminal, InExpansion}
use Rattle.lalrpop_norm_theory.specs.LevelRules.{by_level_names}
use Rattle.lalrpop_norm_theory.proofs.LevelRuleLemmas.{sound-renamed}
use Rattle.lalrpop_norm_theory.specs.LevelLaws.{nonterminal_by_level, IsLevelable}
use Rattle.lalrpop_norm_theory.proofs.LevelNameLemmas.{before, after}
use Rattle.lalrpop_norm_theory.proofs.LevelExpansionLemmas.{well_in, reached_there, reached_from}
use Rattle.lalrpop_norm_theory.proofs.WellLeveledLemmas.{IsWell, IsWellOrFaulty, well_sound, well_apart}

-- a symbol that is well, if it is sound, is in the one expansion just where it is in the other

-- the symbol is well if it is sound
abbrev pub IsWellIfSound : EnabledGrammar → Closed → Type 0
IsWellIfSound g x = is_sound x ≡ true → IsWell g x

-- what is in the expansion is in the leveled one, under the names of the levels
pub closed_reached : (finds : Text → Text → Option Bool) (g : Grammar) (f : Text → ℕ → Text) → IsLevelable finds g f →
    (x : Closed) → InExpansion (before finds g) (Nonterminal.closed x) →
    InExpansion (after finds g f) (Nonterminal.closed (by_level_names f x))
closed_reached finds g f w x i = (i.0, reached_there finds g f w i.0 (Nonterminal.closed x) i.1)

-- and what is well if sound is in the expansion where it is in the leveled one under those names
pub closed_reached_from : (finds : Text → Text → Option Bool) (g : Grammar) (f : Text → ℕ → Text) → IsLevelable finds g f →
    (x : Closed) → IsWellIfSound (before finds g) x → InExpansion (after finds g f) (Nonterminal.closed (by_level_names f x)) →
    InExpansion (before finds g) (Nonterminal.closed x)
closed_reached_from finds g f w x each i =
    let u = reached_from finds g f w i.0 (Nonterminal.closed (by_level_names f x)) i.1 in
    go u.0 u.1 u.2
  where
    same_closed : (y : Closed) → InExpansion (before finds g) (Nonterminal.closed y) → by_level_names f x ≡ by_level_names f y →
        IsWellOrFaulty (before finds g) y → InExpansion (before finds g) (Nonterminal.closed x)
    same_closed y j e h =
        let same : y ≡ x = well_apart finds g f w.names y x h (well_too h) (sym e) in
        subst (λ z. InExpansion (before finds g) (Nonterminal.closed z)) same j
      where
        is_faulty : (z : Closed) → by_level_names f z ≡ Closed.faulty → z ≡ Closed.faulty
        is_faulty (Closed.terminal t) e = cc
        is_faulty (Closed.call n args level) e = cc
        is_faulty (Closed.repeat op z) e = cc
        is_faulty (Closed.group zs) e = cc
        is_faulty (Closed.choose z) e = cc
        is_faulty (Closed.name m n z) e = cc
        is_faulty Closed.lookahead e = cc
        is_faulty Closed.lookbehind e = cc
        is_faulty Closed.faulty e = refl

        well_too : IsWellOrFaulty (before finds g) y → IsWellOrFaulty (before finds g) x
        well_too (inl k) = inl (is_faulty x (e ∙ ap (by_level_names f) k))
        well_too (inr k) =
            inr (each (sym (sound-renamed f x) ∙ ap is_sound e ∙ sound-renamed f y ∙ well_sound (before finds g) y k))

    go : (y : Nonterminal) → InExpansion (before finds g) y → Nonterminal.closed (by_level_names f x) ≡ nonterminal_by_level f y →
        InExpansion (before finds g) (Nonterminal.closed x)
    go (Nonterminal.start n) j e = cc
    go (Nonterminal.closed y) j e =
        let same : by_level_names f x ≡ by_level_names f y = cc in same_closed y j same (well_in finds g f w (Nonterminal.closed y) j)
