-- Computed examples of literals in use, of a free prefix and of alternatives in order; and near misses.
use Prim.Native.String.{String}
use Rattle.std.proofs.Common.{◌≡◌, ◌≢◌, ◌∙◌, ℕ, [], ◌∷◌, ◌++◌, refl, ap, inl, inr, arith}
use Rattle.std.specs.Prelude.{None, codes}
use Rattle.lalrpop_grammar_symbols.specs.Symbols.{Closed, Closeds, Terminal, Text}
use Rattle.lalrpop_grammar.specs.WrittenGrammar.{Action, ConditionTest, Origin, WrittenItem}
use Rattle.lalrpop_grammar_language.specs.Among.{Among}
use Rattle.lalrpop_grammar_language.specs.Enabled.{Choice, EnabledGrammar, EnabledRule, enabled_grammar}
use Rattle.lalrpop_grammar_language.specs.Expansion.{GrammarSymbol, Nonterminal}
use Rattle.lalrpop_grammar_language.proofs.WrittenTreeLemmas.{alt, finds, grammar, lit, macro_of, of_macro, on_K, rule_of}
use Rattle.lalrpop_norm_chain.specs.PremiseLaws.{AreInOrder, HasFreePrefix}
use Rattle.lalrpop_norm_chain.specs.UsedLiterals.{IsUsedLiteral}
use Rattle.lalrpop_norm_chain.proofs.ExamplesOfNormalizedParts.{nonterminals, s}
use Rattle.lalrpop_norm_chain.proofs.ExamplesOfNormalized.{on_side, symbols_of}

-- S = "a"; M<K> = "c" if K == "x": what stands in a macro that nothing calls isn't used
abbrev macro_M : WrittenItem
macro_M = macro_of "M" ("K" ∷ []) (on_K ConditionTest.equals "x" (lit "c" ∷ []) ∷ [])

abbrev uncalled : EnabledGrammar
uncalled = enabled_grammar finds [] (grammar (rule_of "S" (alt (lit "a" ∷ []) ∷ []) ∷ macro_M ∷ []))

abbrev first_byte : GrammarSymbol Nonterminal → ℕ
first_byte (GrammarSymbol.terminal (Terminal.quoted (b ∷ t))) = b
first_byte _ = 0

uncalled_refused : IsUsedLiteral uncalled (Terminal.quoted (codes "c")) → ⊥
uncalled_refused u = go (on_side uncalled nonterminals refl (Terminal.quoted (codes "c")) u)
  where
    go : Among (symbols_of uncalled nonterminals) (GrammarSymbol.terminal (Terminal.quoted (codes "c"))) → ⊥
    go (inl e) = cc
    go (inr (inl e)) = let byte : ◌≡◌ {A = ℕ} 97 99 = ap first_byte e in omega (arith, byte)
    go (inr (inr k)) = absurd k

-- S = M<"x">: "x" is tested, and "c" used
abbrev tested : EnabledGrammar
tested = enabled_grammar finds [] (grammar (rule_of "S" (alt (of_macro "M" (lit "x" ∷ []) ∷ []) ∷ []) ∷ macro_M ∷ []))

abbrev instance_M : Nonterminal
instance_M = Nonterminal.closed (Closed.call (codes "M") (Closeds.more (Closed.terminal (Terminal.quoted (codes "x"))) Closeds.none) None)

tested_refused : IsUsedLiteral tested (Terminal.quoted (codes "x")) → ⊥
tested_refused u = go (on_side tested (Nonterminal.start (codes "S") ∷ Nonterminal.closed s ∷ instance_M ∷ []) refl
    (Terminal.quoted (codes "x")) u)
  where
    go : Among (symbols_of tested (Nonterminal.start (codes "S") ∷ Nonterminal.closed s ∷ instance_M ∷ []))
        (GrammarSymbol.terminal (Terminal.quoted (codes "x"))) → ⊥
    go (inl e) = cc
    go (inr (inl e)) = cc
    go (inr (inr (inl e))) = let byte : ◌≡◌ {A = ℕ} 99 120 = ap first_byte e in omega (arith, byte)
    go (inr (inr (inr k))) = absurd k

-- a name that begins with the prefix, and one that begins with less of it
abbrev rules_named_so : String → EnabledGrammar
rules_named_so n = enabled_grammar finds [] (grammar (rule_of n (alt [] ∷ []) ∷ []))

taken_refused : HasFreePrefix (codes "__") (rules_named_so "__S") → ⊥
taken_refused h = h.rules _ (codes "S") (inl refl) refl

abbrev second_byte : Text → ℕ
second_byte (b ∷ c ∷ t) = c
second_byte _ = 0

free : HasFreePrefix (codes "__") (rules_named_so "_S")
free = record { underscores = 2; some = omega arith; prefix_is = refl; rules = rules; bares = λ n t m. absurd m }
  where
    rules : (r : EnabledRule) (t : Text) → Among (rules_named_so "_S").rules r → r.name ≢ codes "__" ++ t
    rules r t (inr m) e = absurd m
    rules r t (inl d) e =
        let same : codes "_S" ≡ codes "__" ++ t = ap (λ (x : EnabledRule). x.name) d ∙ e in
        let byte : ◌≡◌ {A = ℕ} 83 95 = ap second_byte same in
        omega (arith, byte)

-- alternatives stand by their places, and those of `X*` by their kinds
abbrev chosen_at : Origin → Choice
chosen_at o = record { origin = o; expr = []; condition = None; attributes = []; action = Action.user (codes "") }

turned_refused : AreInOrder (chosen_at Origin.star_some ∷ chosen_at Origin.star_none ∷ []) → ⊥
turned_refused h = h.0 (chosen_at Origin.star_none) (inl refl)
