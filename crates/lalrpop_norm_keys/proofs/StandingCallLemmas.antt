-- The symbols on the right sides of a call have just the calls that stand in it; where no rule has levels, these are the calls that
-- occur in it; for the search.
use Rattle.std.proofs.Common.{◌≡◌, List, [], refl, ap, sym, ◌∙◌, subst, inl, inr, ◌⊎◌, map, length}
use Rattle.std.specs.Prelude.{ℕ, Option, Some, None, filter, is_some, nat_lt}
use Rattle.lalrpop_grammar_symbols.specs.Symbols.{Text, Closed, Closeds, closed_list}
use Rattle.lalrpop_grammar.specs.WrittenGrammar.{Origin}
use Rattle.lalrpop_grammar_language.specs.Among.{Among}
use Rattle.lalrpop_grammar_language.specs.Enabled.{EnabledGrammar, EnabledRule, IsRule}
use Rattle.lalrpop_grammar_language.specs.Levels.{Rank, greatest, ranked_choices}
use Rattle.lalrpop_grammar_language.specs.Closing.{right_side}
use Rattle.lalrpop_grammar_language.specs.Admitting.{argument_list, bind, rank_level}
use Rattle.lalrpop_grammar_language.specs.Expansion.{ByAlternative, ByPassDown, Nonterminal, RightSide, Produces}
use Rattle.lalrpop_grammar_language.specs.Expansion.{grammar_symbol, origin_with}
use Rattle.lalrpop_grammar_language.proofs.PlaceLemmas.{among_map}
use Rattle.lalrpop_norm_theory.specs.Depth.{CallOccursIn, calls_in, calls_in_all, calls_in_grammar_symbol}
use Rattle.lalrpop_norm_theory.specs.Premises.{HasNoLevels}
use Rattle.lalrpop_grammar_language.proofs.AmongLemmas.{map_among}
use Rattle.lalrpop_norm_theory.proofs.ExpansionListLemmas.{rule_there}
use Rattle.lalrpop_norm_theory.proofs.LevelLemmas.{no_levels, no_rank}
use Rattle.lalrpop_norm_theory.specs.KeyTables.{IsNoCall}
use Rattle.lalrpop_grammar_rules.specs.Views.{closeds}
use Rattle.lalrpop_norm_keys.specs.Instances.{AddsSides}
use Rattle.lalrpop_norm_keys.specs.StandingCalls.{CallStandsIn, HasCallsOf, StandsInCall}
use Rattle.lalrpop_norm_keys.proofs.SideLemmas.{IsOfSide, added_of_sides, all_of_sides}
use Rattle.lalrpop_norm_keys.proofs.SymbolLemmas.{among_call, call_among}
use Rattle.lalrpop_norm_theory.proofs.OccurringLemmas.{calls_of_symbol}

-- the calls in the right sides that are gathered
pub calls_of_sides : (g : EnabledGrammar) (n : Text) (args : Closeds) (r : EnabledRule) → IsRule g n r
    → length (closed_list args) ≡ length r.parameters → (xs : List Closed) → AddsSides g r (bind r args) (ranked_choices r) [] xs
    → HasCallsOf g (Closed.call n args None) xs
calls_of_sides g n args r is full xs added x = (there, back)
  where
    of_side : (z : Closed) → Among (calls_in z) x → ⊥ ⊎ IsOfSide g r (bind r args) (ranked_choices r) z → StandsInCall g n args x
    of_side z j (inl i) = absurd i
    of_side z j (inr (p, i, h, k)) = record {
      rule = r;
      is_rule = is;
      arguments = full;
      choice = p;
      written = i;
      holds = h;
      symbol = z;
      in_side = k;
      has_call = j;
    }

    there : Among (calls_in_all (closeds xs)) x → StandsInCall g n args x
    there i =
        let w = among_call xs x i in
        of_side w.0 w.2 (added_of_sides g r (bind r args) (ranked_choices r) [] xs added w.0 w.1)

    side : (s : StandsInCall g n args x) → IsOfSide g r (bind r args) (ranked_choices r) s.symbol
    side s =
        let same : s.rule ≡ r = cc (s.is_rule, is) in
        subst (λ q. IsOfSide g q (bind q args) (ranked_choices q) s.symbol) same (s.choice, s.written, s.holds, s.in_side)

    back : StandsInCall g n args x → Among (calls_in_all (closeds xs)) x
    back s =
        call_among xs s.symbol x (all_of_sides g r (bind r args) (ranked_choices r) [] xs added s.symbol (inr (side s))) s.has_call

-- no rule, or one with another number of parameters
pub no_calls_without : (g : EnabledGrammar) (n : Text) (args : Closeds) → ((r : EnabledRule) → IsRule g n r
    → length (closed_list args) ≡ length r.parameters → ⊥) → HasCallsOf g (Closed.call n args None) []
no_calls_without g n args out x = (λ i. absurd i, λ s. absurd (out s.rule s.is_rule s.arguments))

-- a rule of that name has another number of parameters, where the rule of that name has
pub other_length : (g : EnabledGrammar) (n : Text) (k : ℕ) (r q : EnabledRule) → IsRule g n r → IsRule g n q
    → (k ≡ length r.parameters → ⊥) → k ≡ length q.parameters → ⊥
other_length g n k r q i j other e =
    let same : q ≡ r = cc (i, j) in other (e ∙ ap (λ (z : EnabledRule). length z.parameters) same)

-- a call that isn't one of a rule without levels produces nothing, where no rule has levels
pub leveled_is_barren : (g : EnabledGrammar) → HasNoLevels g → (y : Closed) → (IsNoCall y → ⊥)
    → ((n : Text) (args : Closeds) → y ≡ Closed.call n args None → ⊥) → (o : Origin) (side : RightSide)
    → Produces g (Nonterminal.closed y) o side → ⊥
leveled_is_barren g flat (Closed.call n args None) c k o side m = k n args refl
leveled_is_barren g flat (Closed.call n args (Some l)) c k o side (inl b) =
    let here = flat b.rule (rule_there g n b.rule b.fits.rule).0 in
    let none : rank_level b.choice.1 ≡ None = ap rank_level (no_rank b.rule b.choice here b.fits.written) in
    let wrong : None ≡ Some l = sym none ∙ b.level_is in cc
leveled_is_barren g flat (Closed.call n args (Some l)) c k o side (inr p) =
    let here = flat p.rule (rule_there g n p.rule p.is_rule).0 in
    let wrong : None ≡ Some p.to =
    sym (ap (λ (ns : List ℕ). greatest (filter (λ (j : ℕ). nat_lt j p.from) ns)) (no_levels p.rule here)) ∙ p.to_is in cc
leveled_is_barren g flat (Closed.terminal t) c k o side m = c tt
leveled_is_barren g flat (Closed.repeat op x) c k o side m = c tt
leveled_is_barren g flat (Closed.group xs) c k o side m = c tt
leveled_is_barren g flat (Closed.choose x) c k o side m = c tt
leveled_is_barren g flat (Closed.name a n x) c k o side m = c tt
leveled_is_barren g flat Closed.lookahead c k o side m = c tt
leveled_is_barren g flat Closed.lookbehind c k o side m = c tt
leveled_is_barren g flat Closed.faulty c k o side m = c tt

-- what stands in a call occurs there, where no rule has levels
pub standing_occurs : (g : EnabledGrammar) → HasNoLevels g → (y x : Closed) → CallStandsIn g y x → CallOccursIn g y x
standing_occurs g flat (Closed.call n args None) x s =
    let unranked : s.choice.1 ≡ None =
    no_rank s.rule s.choice (flat s.rule (rule_there g n s.rule s.is_rule).0) s.written in record {
      origin = origin_with (argument_list g.spelled args) s.choice.0.origin;
      side = map grammar_symbol (right_side g s.rule (bind s.rule args) s.choice);
      produced = inl (record {
        rule = s.rule;
        choice = s.choice;
        fits = record {
          rule = s.is_rule;
          arguments = s.arguments;
          written = s.written;
          leveled = ap (λ (k : Option Rank). is_some k) unranked ∙ sym (flat s.rule (rule_there g n s.rule s.is_rule).0);
          holds = s.holds;
        };
        level_is = ap rank_level unranked;
        origin_is = refl;
        side_is = refl;
      });
      symbol = grammar_symbol s.symbol;
      in_side = map_among grammar_symbol (right_side g s.rule (bind s.rule args) s.choice) s.symbol s.in_side;
      call_is = subst (λ l. Among l x) (sym (calls_of_symbol s.symbol)) s.has_call;
    }
standing_occurs g flat (Closed.call n args (Some l)) x s = absurd s
standing_occurs g flat (Closed.terminal t) x s = absurd s
standing_occurs g flat (Closed.repeat op z) x s = absurd s
standing_occurs g flat (Closed.group zs) x s = absurd s
standing_occurs g flat (Closed.choose z) x s = absurd s
standing_occurs g flat (Closed.name a n z) x s = absurd s
standing_occurs g flat Closed.lookahead x s = absurd s
standing_occurs g flat Closed.lookbehind x s = absurd s
standing_occurs g flat Closed.faulty x s = absurd s

-- and nothing else occurs in a call
pub occurring_stands : (g : EnabledGrammar) → HasNoLevels g → (y x : Closed) → (IsNoCall y → ⊥) → CallOccursIn g y x
    → CallStandsIn g y x
occurring_stands g flat (Closed.call n args None) x k o = go o.produced
  where
    go : ByAlternative g n args None o.origin o.side ⊎ ByPassDown g n args None o.origin o.side → StandsInCall g n args x
    go (inl b) =
        let w = among_map grammar_symbol (right_side g b.rule (bind b.rule args) b.choice) o.symbol
        (subst (λ l. Among l o.symbol) b.side_is o.in_side) in record {
          rule = b.rule;
          is_rule = b.fits.rule;
          arguments = b.fits.arguments;
          choice = b.choice;
          written = b.fits.written;
          holds = b.fits.holds;
          symbol = w.0;
          in_side = w.1;
          has_call = subst (λ l. Among l x) (ap calls_in_grammar_symbol (sym w.2) ∙ calls_of_symbol w.0) o.call_is;
        }
    go (inr p) = absurd (let wrong : None ≡ Some p.from = p.from_is in cc)
occurring_stands g flat (Closed.call n args (Some l)) x k o =
    absurd (leveled_is_barren g flat (Closed.call n args (Some l)) k (λ m as_ e. cc) o.origin o.side o.produced)
occurring_stands g flat (Closed.terminal t) x k o = absurd (k tt)
occurring_stands g flat (Closed.repeat op z) x k o = absurd (k tt)
occurring_stands g flat (Closed.group zs) x k o = absurd (k tt)
occurring_stands g flat (Closed.choose z) x k o = absurd (k tt)
occurring_stands g flat (Closed.name a n z) x k o = absurd (k tt)
occurring_stands g flat Closed.lookahead x k o = absurd (k tt)
occurring_stands g flat Closed.lookbehind x k o = absurd (k tt)
occurring_stands g flat Closed.faulty x k o = absurd (k tt)
