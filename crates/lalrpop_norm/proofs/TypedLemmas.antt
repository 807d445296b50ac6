-- Where no fault of types stands in the expanded grammar, none stands in the written one; for the normalizer.
use Rattle.std.proofs.Common.{◌≡◌, List, refl, ap, sym, ◌∙◌, subst, Bool, true, false}
use Rattle.std.specs.Prelude.{Option}
use Rattle.std.proofs.lemmas.Bool.{true≢false}
use Rattle.lalrpop_grammar_symbols.specs.Symbols.{Text, TextSpan, Closed}
use Rattle.lalrpop_grammar.specs.WrittenGrammar.{Grammar, Rule, rules_of}
use Rattle.lalrpop_grammar_language.specs.Among.{Among}
use Rattle.lalrpop_grammar_language.specs.Enabled.{EnabledGrammar, EnabledRule, enabled_grammar}
use Rattle.lalrpop_grammar_language.specs.Expansion.{InExpansion, Nonterminal}
use Rattle.lalrpop_grammar_language.proofs.PlaceLemmas.{among_map}
use Rattle.lalrpop_norm_theory.specs.Between.{grammar_between, rule_between, without_disabled}
use Rattle.lalrpop_norm_theory.specs.Types.{IsGrounded}
use Rattle.lalrpop_norm_theory.proofs.ExpansionListLemmas.{rule_there}
use Rattle.lalrpop_norm_tyinfer.specs.TypeFaults.{HasNoType, HasNoTypeFault, TypeFault, is_part_rule, rule_symbol}
use Rattle.lalrpop_norm_chain.specs.Chains.{IsMacroChain}
use Rattle.lalrpop_norm_chain.proofs.FrontLemmas.{closed_to, has_rule, types_expanded}
use Rattle.lalrpop_norm_chain.proofs.TwoAlternativeLemmas.{disagreeing_types}
use Rattle.lalrpop_norm_chain.specs.WrittenTypeFaults.{HasNoTypeAt, IsDisagreeing}

-- each rule has a type, where none is told
every_typed : (g : EnabledGrammar) (rs : List Rule) → HasNoTypeFault g rs → (r : Rule) → Among rs r → HasNoType g r.name → ⊥
every_typed g rs none r i h =
    none (TypeFault.untyped r.name r.span) (
      r,
      i,
      refl,
      refl,
      record {
        no_type = h;
        no_part = λ e s j k. other s j k (is_part_rule s) refl;
      },
    )
  where
    other : (s : Rule) → Among rs s → HasNoType g s.name → (b : Bool) → is_part_rule s ≡ b → is_part_rule s ≡ true
    other s j k true e = e
    other s j k false e =
        absurd (none (TypeFault.untyped s.name s.span) (
          s,
          j,
          refl,
          refl,
          record {
            no_type = k;
            no_part = λ f. absurd (true≢false (sym f ∙ e));
          },
        ))

module _ (finds : Text → Text → Option Bool) (features : List Text) (w leveled expanded : Grammar)
    (c : IsMacroChain finds features w leveled expanded)
    (none : HasNoTypeFault (grammar_between finds expanded) (rules_of expanded.items)) where
  abbrev old : EnabledGrammar
  old = enabled_grammar finds features w

  abbrev new : EnabledGrammar
  new = grammar_between finds expanded

  -- the rule that a symbol of the expansion has
  rule_at : (x : Closed) → InExpansion old (Nonterminal.closed x)
      → (s : Rule) × Among (rules_of expanded.items) s × (closed_to finds features w leveled expanded c x ≡ rule_symbol s.name)
  rule_at x i =
      let u = has_rule finds features w leveled expanded c x i in
      let there = rule_there new u.name u.rule u.is_rule in
      let s = among_map rule_between (rules_of expanded.items) u.rule there.0 in
      (s.0, s.1, u.becomes ∙ ap rule_symbol (sym (ap (λ (e : EnabledRule). e.name) s.2 ∙ there.1)))

  pub none_disagree : (p : TextSpan) → IsDisagreeing old (without_disabled features w) p → ⊥
  none_disagree p t =
      let s = rule_at t.symbol t.at.in_expansion in
      let both = disagreeing_types old (without_disabled features w) p t in
      none (TypeFault.disagree s.0.span) (
        s.0,
        s.1,
        refl,
        record {
          first = t.first;
          second = t.second;
          differ = t.differ;
          first_is = subst (λ (y : Closed). IsGrounded new y t.first) s.2
              ((types_expanded finds features w leveled expanded c t.symbol t.first t.at.in_expansion).0 both.0);
          second_is = subst (λ (y : Closed). IsGrounded new y t.second) s.2
              ((types_expanded finds features w leveled expanded c t.symbol t.second t.at.in_expansion).0 both.1);
        },
      )

  pub all_typed : (p : TextSpan) → HasNoTypeAt old (without_disabled features w) p → ⊥
  all_typed p t =
      let s = rule_at t.symbol t.at.in_expansion in
      every_typed new (rules_of expanded.items) none s.0 s.1 (λ u h. t.no_type u
      ((types_expanded finds features w leveled expanded c t.symbol u t.at.in_expansion).1
      (subst (λ (y : Closed). IsGrounded new y u) (sym s.2) h)))
