-- Two alternatives of an expanded rule that give it types are two of the written call that it stands for; for the faults of types.
use Rattle.std.proofs.Common.{◌≡◌, ℕ, List, [], ◌∷◌, ap, sym, ◌∙◌, subst, Bool, inl, inr}
use Rattle.std.specs.Prelude.{◌≢◌, Option, None}
use Rattle.lalrpop_grammar_symbols.specs.Symbols.{Text, TextSpan, Closed, Closeds}
use Rattle.lalrpop_grammar.specs.WrittenGrammar.{Origin, Rule, Grammar, rules_of}
use Rattle.lalrpop_grammar_language.specs.Among.{Among}
use Rattle.lalrpop_grammar_language.specs.Enabled.{Choice, EnabledGrammar, IsRule, enabled_grammar}
use Rattle.lalrpop_grammar_language.specs.Expansion.{InExpansion, Nonterminal}
use Rattle.lalrpop_grammar_language.specs.Levels.{Rank, ranked_choices}
use Rattle.lalrpop_grammar_language.proofs.AmongLemmas.{map_among}
use Rattle.lalrpop_norm_theory.specs.Between.{grammar_between, rule_between}
use Rattle.lalrpop_norm_theory.specs.LevelRules.{by_level_names}
use Rattle.lalrpop_norm_theory.specs.Productions.{IsOriginBefore}
use Rattle.lalrpop_norm_theory.specs.Types.{ByDefault, GroundType, IsGrounded}
use Rattle.lalrpop_norm_theory.proofs.LevelChoiceLemmas.{choice_listed}
use Rattle.lalrpop_norm_theory.proofs.LevelLemmas.{no_rank}
use Rattle.lalrpop_norm_theory.proofs.LevelOrderLemmas.{one_rule}
use Rattle.lalrpop_norm_theory.proofs.NumberingLemmas.{not_before_itself}
use Rattle.lalrpop_norm_theory.proofs.TypeLemmas.{step_grounded}
use Rattle.lalrpop_norm_tyinfer.specs.TypeFaults.{HasDisagreeingAlternatives}
use Rattle.lalrpop_norm_chain.specs.Chains.{IsMacroChain}
use Rattle.lalrpop_norm_chain.specs.PremiseLaws.{AreInOrder, HasRulesInOrder}
use Rattle.lalrpop_norm_chain.specs.WrittenTypeFaults.{IsDisagreeing, IsGivenBy, OwnAlternative}
use Rattle.lalrpop_norm_chain.proofs.OrderLemmas.{keys_ordered, leveled_ordered}
use Rattle.lalrpop_norm_chain.proofs.OwnAlternativeLemmas.{StandsForGiver, giver_stands, origin_given}

-- choices in order differ in what they tell

before_another : (c d : Choice) → IsOriginBefore c.origin d.origin → c.origin ≡ d.origin → ⊥
before_another c d h e = not_before_itself c.origin (subst (λ (x : Origin). IsOriginBefore c.origin x) (sym e) h)

one_in_order : (cs : List Choice) → AreInOrder cs → (a b : Choice) → Among cs a → Among cs b → a.origin ≡ b.origin → a ≡ b
one_in_order [] o a b i j e = absurd i
one_in_order (c ∷ cs) o a b (inl f) (inl k) e = sym f ∙ k
one_in_order (c ∷ cs) o a b (inl f) (inr j) e = absurd (before_another c b (o.0 b j) (ap (λ (x : Choice). x.origin) f ∙ e))
one_in_order (c ∷ cs) o a b (inr i) (inl k) e = absurd (before_another c a (o.0 a i) (ap (λ (x : Choice). x.origin) k ∙ sym e))
one_in_order (c ∷ cs) o a b (inr i) (inr j) e = one_in_order cs o.1 a b i j e

-- what an alternative gives is a grounded type

given_grounded : (g : EnabledGrammar) (n : Text) (args : Closeds) (level : Option ℕ) →
    InExpansion g (Nonterminal.closed (Closed.call n args level)) → (a : OwnAlternative) (t : GroundType) →
    IsGivenBy g n args level a t → IsGrounded g (Closed.call n args level) t
given_grounded g n args level i (OwnAlternative.written x) t h = step_grounded g (Closed.call n args level) t (i, inr (inl h.0))
given_grounded g n args level i OwnAlternative.pass_down t h = step_grounded g (Closed.call n args level) t (i, inr (inr h))

-- so a call whose alternatives disagree has both types
pub disagreeing_types : (g : EnabledGrammar) (d : Grammar) (p : TextSpan) (t : IsDisagreeing g d p) →
    IsGrounded g t.symbol t.first × IsGrounded g t.symbol t.second
disagreeing_types g d p t =
    let there = subst (λ (y : Closed). InExpansion g (Nonterminal.closed y)) t.at.is_call t.at.in_expansion in (
      subst (λ (y : Closed). IsGrounded g y t.first) (sym t.at.is_call)
          (given_grounded g t.at.name t.at.args t.at.level there t.one t.first t.one_gives),
      subst (λ (y : Closed). IsGrounded g y t.second) (sym t.at.is_call)
          (given_grounded g t.at.name t.at.args t.at.level there t.other t.second t.other_gives),
    )

-- the passes up to macros

-- two alternatives of the call that differ give it types that differ
pub record HasTwoGivers (g : EnabledGrammar) (n : Text) (args : Closeds) (level : Option ℕ) : Type 0 where
  pub one : OwnAlternative
  pub other : OwnAlternative
  pub apart : one ≢ other
  pub first : GroundType
  pub second : GroundType
  pub differ : first ≢ second
  pub one_gives : IsGivenBy g n args level one first
  pub other_gives : IsGivenBy g n args level other second

abbrev unranked : Choice → Choice × Option Rank
unranked a = (a, None)

module _ (finds : Text → Text → Option Bool) (features : List Text) (w leveled expanded : Grammar)
    (c : IsMacroChain finds features w leveled expanded) where
  abbrev old : EnabledGrammar
  old = enabled_grammar finds features w

  abbrev new : EnabledGrammar
  new = grammar_between finds expanded

  in_order : (q : Rule) → Among (rules_of expanded.items) q → AreInOrder (rule_between q).choices
  in_order q i =
      keys_ordered (grammar_between finds leveled) new c.macros.key_of c.macros.keys c.macros.expansion c.macros.expanded
      (subst (λ (x : Grammar). HasRulesInOrder (grammar_between finds x)) (sym c.levels.value)
      (leveled_ordered finds features w c.levels.names c.read))
      (rule_between q) (map_among rule_between (rules_of expanded.items) q i)

  -- a default alternative of the rule that stands for its name
  pub written_in : (q : Rule) → IsRule new q.name (rule_between q) → (t : GroundType)
      (b : ByDefault (IsGrounded new) new q.name Closeds.none None t) → Among (ranked_choices (rule_between q)) b.choice
  written_in q is t b =
      subst (λ x. Among (ranked_choices x) b.choice) (one_rule new q.name b.rule (rule_between q) b.fits.rule is) b.fits.written

  -- choices of one rule that tell the same are the same
  pub same_choice : (q : Rule) → Among (rules_of expanded.items) q → (x y : Choice × Option Rank) →
      Among (ranked_choices (rule_between q)) x → Among (ranked_choices (rule_between q)) y → x.0.origin ≡ y.0.origin → x ≡ y
  same_choice q i x y j k e =
      let rule = rule_between q in
      let flat = c.macros.expanded.no_levels rule (map_among rule_between (rules_of expanded.items) q i) in
      let first : x ≡ unranked x.0 = ap (λ a. (x.0, a)) (no_rank rule x flat j) in
      let second : y ≡ unranked y.0 = ap (λ a. (y.0, a)) (no_rank rule y flat k) in
      first ∙ ap unranked (one_in_order rule.choices (in_order q i) x.0 y.0 (choice_listed rule x j) (choice_listed rule y k) e) ∙ sym second

  -- what gives a rule of this name its type, where the name is that of a call's key
  named_giver : (n : Text) (args : Closeds) (level : Option ℕ) → InExpansion old (Nonterminal.closed (Closed.call n args level)) →
      Among c.macros.keys (by_level_names c.levels.names (Closed.call n args level)) → (m : Text) →
      m ≡ c.macros.key_of (by_level_names c.levels.names (Closed.call n args level)) → (t : GroundType)
      (b : ByDefault (IsGrounded new) new m Closeds.none None t) →
      StandsForGiver finds features w leveled expanded c n args level b.choice.0.origin t
  named_giver n args level i k m e t =
      subst (λ (z : Text). (b : ByDefault (IsGrounded new) new z Closeds.none None t) →
      StandsForGiver finds features w leveled expanded c n args level b.choice.0.origin t) (sym e)
      (giver_stands finds features w leveled expanded c n args level i k t)

  -- where the alternatives of a call's rule disagree, so do those of the call
  pub two_givers : (q : Rule) → Among (rules_of expanded.items) q → IsRule new q.name (rule_between q) →
      HasDisagreeingAlternatives new q.name → (n : Text) (args : Closeds) (level : Option ℕ) →
      InExpansion old (Nonterminal.closed (Closed.call n args level)) →
      Among c.macros.keys (by_level_names c.levels.names (Closed.call n args level)) →
      q.name ≡ c.macros.key_of (by_level_names c.levels.names (Closed.call n args level)) → HasTwoGivers old n args level
  two_givers q i is t n args level there k e =
      let a = named_giver n args level there k q.name e t.first t.first_by in
      let b = named_giver n args level there k q.name e t.second t.second_by in
      record {
        one = a.own;
        other = b.own;
        apart = λ same. t.apart (same_choice q i t.first_by.choice t.second_by.choice (written_in q is t.first t.first_by)
            (written_in q is t.second t.second_by)
            (a.told ∙ ap (origin_given finds features w leveled expanded c args) same ∙ sym b.told));
        first = t.first;
        second = t.second;
        differ = t.differ;
        one_gives = a.gives;
        other_gives = b.gives;
      }
