-- What is said of alternatives by the choices that they tell, by what they do and by where they stand, holds from the reading to the
-- levels; for what productions do and where they stand.
use Rattle.std.proofs.Common.{ℕ, List, sym, subst, inl, inr, ◌⊎◌}
use Rattle.std.specs.Prelude.{Option, Some, None, filter, map}
use Rattle.lalrpop_grammar_symbols.specs.Symbols.{Text, TextSpan}
use Rattle.lalrpop_grammar.specs.WrittenGrammar.{Action, Alternative, Grammar, Origin, Rule, rules_of}
use Rattle.lalrpop_grammar_language.specs.Among.{Among}
use Rattle.lalrpop_grammar_language.specs.Levels.{ranked_choices, tighter}
use Rattle.lalrpop_grammar_language.proofs.PlaceLemmas.{among_filter, among_map}
use Rattle.lalrpop_norm_theory.specs.Between.{rule_between}
use Rattle.lalrpop_grammar_language.proofs.OrderLemmas.{among_parts}
use Rattle.lalrpop_norm_theory.specs.Resolving.{defined_names, resolved_alternative, resolved_grammar}
use Rattle.lalrpop_norm_theory.specs.LeveledGrammar.{has_rank_level, level_alternatives, leveled_alternative, leveled_grammar}
use Rattle.lalrpop_norm_theory.specs.LeveledGrammar.{pass_downs, ranked_alternatives}
use Rattle.lalrpop_norm_theory.proofs.LeveledRuleLemmas.{rule_of_key}
use Rattle.lalrpop_norm_chain.proofs.ActiveLemmas.{zip_front}
use Rattle.lalrpop_norm_chain.proofs.SourceLemmas.{leveled_source, resolved_source}

module _ (Says : Origin → Action → TextSpan → Type 0) where
  abbrev pub IsToldBy : Alternative → Type 0
  IsToldBy a = Says a.origin a.action a.span

  abbrev pub AreToldBy : List Rule → Type 0
  AreToldBy rs = (r : Rule) (a : Alternative) → Among rs r → Among r.alternatives a → IsToldBy a

  -- names that are resolved leave it
  pub resolved_told : (g : Grammar) → AreToldBy (rules_of g.items) → AreToldBy (rules_of (resolved_grammar g).items)
  resolved_told g h r a i j =
      let q = resolved_source g r i in
      let b = among_map (resolved_alternative (defined_names g) q.0.parameters) q.0.alternatives a
      (subst (λ (e : Rule). Among e.alternatives a) (sym q.2) j) in
      subst IsToldBy b.2 (h q.0 b.0 q.1 b.1)

  -- and so do levels, where passes to a tighter level meet it
  pub leveled_told : ((p : TextSpan) → Says Origin.pass_down Action.default p) → (f : Text → ℕ → Text) (g : Grammar)
      → AreToldBy (rules_of g.items) → AreToldBy (rules_of (leveled_grammar f g).items)
  leveled_told down f g h r a i j =
      let u = leveled_source f g r i in
      of_key u.rule u.level (λ b k. h u.rule b u.among k) a (subst (λ (e : Rule). Among e.alternatives a) (sym u.is_it) j)
    where
      of_level : (q : Rule) (j : ℕ) → ((b : Alternative) → Among q.alternatives b → IsToldBy b) → (a : Alternative)
          → Among (level_alternatives f q j) a → IsToldBy a
      of_level q j k a m =
          let v = among_map (leveled_alternative f q) (filter (λ p. has_rank_level j p.1) (ranked_alternatives q)) a m in
          let t = among_filter (λ p. has_rank_level j p.1) (ranked_alternatives q) v.0 v.1 in
          let listed : Among q.alternatives v.0.0 =
          zip_front q.alternatives (map (λ p. p.1) (ranked_choices (rule_between q))) v.0 t.0 in
          subst IsToldBy v.2 (k v.0.0 listed)

      of_pass : (q : Rule) (o : Option ℕ) (a : Alternative) → Among (pass_downs f q o) a → IsToldBy a
      of_pass q None a m = absurd m
      of_pass q (Some to) a (inl e) = subst IsToldBy e (down q.span)
      of_pass q (Some to) a (inr m) = absurd m

      of_either : (q : Rule) (j : ℕ) → ((b : Alternative) → Among q.alternatives b → IsToldBy b) → (a : Alternative)
          → Among (level_alternatives f q j) a ⊎ Among (pass_downs f q (tighter (rule_between q) j)) a → IsToldBy a
      of_either q j k a (inl m) = of_level q j k a m
      of_either q j k a (inr m) = of_pass q (tighter (rule_between q) j) a m

      of_key : (q : Rule) (level : Option ℕ) → ((b : Alternative) → Among q.alternatives b → IsToldBy b) → (a : Alternative)
          → Among (rule_of_key f q level).alternatives a → IsToldBy a
      of_key q None k a m = k a m
      of_key q (Some j) k a m =
          of_either q j k a (among_parts (level_alternatives f q j) (pass_downs f q (tighter (rule_between q) j)) a m)
