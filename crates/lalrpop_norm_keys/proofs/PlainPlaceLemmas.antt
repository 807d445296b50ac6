-- Where a key is met is the same in grammars that differ by origins alone; for the law of places between passes.
use Rattle.std.proofs.Common.{◌≡◌, ℕ, zero, suc, List, [], ◌∷◌, refl, ap, sym, ◌∙◌, subst, inl}
use Rattle.std.specs.Prelude.{Option}
use Rattle.lalrpop_grammar_symbols.specs.Symbols.{Text, TextSpan, Closed, Closeds, syms}
use Rattle.lalrpop_grammar_language.specs.Among.{Among}
use Rattle.lalrpop_grammar_language.specs.Enabled.{Choice, EnabledGrammar, EnabledRule, IsRule}
use Rattle.lalrpop_grammar_language.specs.Levels.{Rank, greatest, levels, loosest, ranked_choices}
use Rattle.lalrpop_grammar_language.specs.Admitting.{Fits, bind, rank_level}
use Rattle.lalrpop_grammar.specs.WrittenGrammar.{Origin}
use Rattle.lalrpop_grammar_language.specs.Expansion.{GrammarSymbol, InExpansion, IsReachedIn, Nonterminal, Produces, RightSide}
use Rattle.lalrpop_grammar_language.proofs.PlaceLemmas.{among_map}
use Rattle.lalrpop_grammar_rules.specs.Views.{closeds}
use Rattle.lalrpop_grammar_language.proofs.AmongLemmas.{map_among}
use Rattle.lalrpop_norm_keys.proofs.OriginLemmas.{levels_plain, plain_grammar, plain_pair, plain_rule, plain_was, ranked_plain}
use Rattle.lalrpop_norm_keys.proofs.OriginLemmas.{rule_plain, same_levels, side_plain}
use Rattle.lalrpop_norm_keys.proofs.PlainGrammarLemmas.{produces_plain, produces_was, root_alike}
use Rattle.lalrpop_norm_theory.proofs.RuleChangeLemmas.{holds_with}
use Rattle.lalrpop_norm_keys.specs.KeyPlaces.{IsKeyPlace, IsKeyPlaceIn, keys_met_in_side}
use Rattle.lalrpop_norm_keys.specs.MetKeys.{MetKey, keys_met_in_row}

-- an alternative without origins meets the same keys
side_met : (g : EnabledGrammar) (r : EnabledRule) (args : Closeds) (c : Choice × Option Rank)
    → keys_met_in_side g r (bind r args) c ≡ keys_met_in_side (plain_grammar g) (plain_rule r) (bind r args) (plain_pair c)
side_met g r args c =
    ap (λ (l : List Closed). keys_met_in_row (syms c.0.expr) (closeds l)) (side_plain g r (bind r args) c)

key_plain : (g : EnabledGrammar) (y x : Closed) (p : TextSpan) → IsKeyPlaceIn g y x p → IsKeyPlaceIn (plain_grammar g) y x p
key_plain g y x p q = record {
  name = q.name;
  args = q.args;
  level = q.level;
  call_is = q.call_is;
  rule = plain_rule q.rule;
  choice = plain_pair q.choice;
  fits = record {
    rule = rule_plain g q.name q.rule q.fits.rule;
    arguments = q.fits.arguments;
    written = subst (λ ps. Among ps (plain_pair q.choice)) (sym (ranked_plain q.rule))
        (map_among plain_pair (ranked_choices q.rule) q.choice q.fits.written);
    leveled = q.fits.leveled ∙ sym (levels_plain q.rule);
    holds = holds_with g (plain_grammar g) refl (bind q.rule q.args) q.choice.0.condition q.fits.holds;
  };
  level_is = q.level_is;
  met = subst (λ (l : List MetKey). Among l (x, p)) (side_met g q.rule q.args q.choice) q.met;
}

key_was : (g : EnabledGrammar) (y x : Closed) (p : TextSpan) → IsKeyPlaceIn (plain_grammar g) y x p → IsKeyPlaceIn g y x p
key_was g y x p q = let m = plain_was g q.name q.rule q.fits.rule in of_rule m.0 m.1 m.2
  where
    of_choice : (r : EnabledRule) → IsRule g q.name r → plain_rule r ≡ q.rule → (c : Choice × Option Rank)
        → Among (ranked_choices r) c → plain_pair c ≡ q.choice → IsKeyPlaceIn g y x p
    of_choice r i e c m f =
        let fits : Fits (plain_grammar g) q.name q.args (plain_rule r) (plain_pair c) =
        subst (Fits (plain_grammar g) q.name q.args (plain_rule r)) (sym f)
        (subst (λ t. Fits (plain_grammar g) q.name q.args t q.choice) (sym e) q.fits) in
        let met : Among (keys_met_in_side (plain_grammar g) (plain_rule r) (bind r q.args) (plain_pair c)) (x, p) =
        subst (λ d. Among (keys_met_in_side (plain_grammar g) (plain_rule r) (bind r q.args) d) (x, p)) (sym f)
        (subst (λ t. Among (keys_met_in_side (plain_grammar g) t (bind t q.args) q.choice) (x, p)) (sym e) q.met) in
        record {
          name = q.name;
          args = q.args;
          level = q.level;
          call_is = q.call_is;
          rule = r;
          choice = c;
          fits = record {
            rule = i;
            arguments = fits.arguments;
            written = m;
            leveled = fits.leveled ∙ levels_plain r;
            holds = holds_with (plain_grammar g) g refl (bind r q.args) c.0.condition fits.holds;
          };
          level_is = ap (λ (d : Choice × Option Rank). rank_level d.1) f ∙ q.level_is;
          met = subst (λ (l : List MetKey). Among l (x, p)) (sym (side_met g r q.args c)) met;
        }

    of_rule : (r : EnabledRule) → IsRule g q.name r → plain_rule r ≡ q.rule → IsKeyPlaceIn g y x p
    of_rule r i e =
        let c = among_map plain_pair (ranked_choices r) q.choice
        (subst (λ ps. Among ps q.choice) (ranked_plain r)
        (subst (λ t. Among (ranked_choices t) q.choice) (sym e) q.fits.written)) in
        of_choice r i e c.0 c.1 c.2

module _ (g h : EnabledGrammar) (alike : plain_grammar g ≡ plain_grammar h) where
  key_alike : (y x : Closed) (p : TextSpan) → IsKeyPlaceIn g y x p → IsKeyPlaceIn h y x p
  key_alike y x p q = key_was h y x p (subst (λ k. IsKeyPlaceIn k y x p) alike (key_plain g y x p q))

  -- a start leads to its rule in both
  start_alike : (a : Text) (y : Closed) (o : Origin) (side : RightSide) → Produces g (Nonterminal.start a) o side
      → Among side (GrammarSymbol.nonterminal (Nonterminal.closed y)) → InExpansion h (Nonterminal.closed y)
  start_alike a y o side m i =
      let w = plain_was h a (plain_rule m.0) (subst (λ k. IsRule k a (plain_rule m.0)) alike (rule_plain g a m.0 m.1)) in
      of_rule w.0 w.1 w.2
    where
      of_rule : (q : EnabledRule) → IsRule h a q → plain_rule q ≡ plain_rule m.0 → InExpansion h (Nonterminal.closed y)
      of_rule q is e =
          let same : loosest m.0 ≡ loosest q =
          ap greatest (sym (same_levels m.0) ∙ ap levels (sym e) ∙ same_levels q) in
          let begun : Produces h (Nonterminal.start a) Origin.start (begins q) =
          (q, is, ap (λ (r : EnabledRule). r.parameters) e ∙ m.2, ap (λ (r : EnabledRule). r.public) e ∙ m.3, refl, refl) in (
            suc zero,
            (
              Nonterminal.start a,
              Origin.start,
              begins q,
              inl (a, begins q, refl, begun),
              begun,
              subst (λ (l : RightSide). Among l (GrammarSymbol.nonterminal (Nonterminal.closed y)))
                  (m.5 ∙ ap (λ (l : Option ℕ). GrammarSymbol.nonterminal (Nonterminal.closed (Closed.call a Closeds.none l)) ∷ [])
                  same) i,
            ),
          )
        where
          begins : EnabledRule → RightSide
          begins r = GrammarSymbol.nonterminal (Nonterminal.closed (Closed.call a Closeds.none (loosest r))) ∷ []

  -- what is reached there is reached here
  reached_alike : (n : ℕ) (y : Closed) → IsReachedIn g n (Nonterminal.closed y) → InExpansion h (Nonterminal.closed y)
  reached_alike zero y r = (zero, root_alike g h alike y r)
  reached_alike (suc n) y (Nonterminal.start a, o, side, r, m, i) = start_alike a y o side m i
  reached_alike (suc n) y (Nonterminal.closed z, o, side, r, m, i) =
      let p = produces_plain g z o side m in
      let q = produces_was h z p.0 side (subst (λ k. Produces k (Nonterminal.closed z) p.0 side) alike p.1) in
      let u = reached_alike n z r in (suc u.0, (Nonterminal.closed z, q.0, side, u.1, q.1, i))

  -- so a place is one in the other grammar
  pub key_place_alike : (x : Closed) (p : TextSpan) → IsKeyPlace g x p → IsKeyPlace h x p
  key_place_alike x p (y, i, q) = (y, reached_alike i.0 y i.1, key_alike y x p q)
