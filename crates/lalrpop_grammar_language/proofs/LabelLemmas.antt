-- A label has one right side; for trees_correspond.
use Rattle.std.proofs.Common.{◌≡◌, ℕ, [], ◌∷◌, ap, sym, ◌∙◌, inl, inr}
use Rattle.std.specs.Prelude.{Option, Some, map}
use Rattle.lalrpop_grammar_symbols.specs.Symbols.{Text, Closed, Closeds, Op}
use Rattle.lalrpop_grammar.specs.WrittenGrammar.{Origin}
use Rattle.lalrpop_grammar_language.specs.Enabled.{EnabledGrammar}
use Rattle.lalrpop_grammar_language.specs.Levels.{tighter, loosest}
use Rattle.lalrpop_grammar_language.specs.Closing.{right_side}
use Rattle.lalrpop_grammar_language.specs.Admitting.{bind, argument_list}
use Rattle.lalrpop_grammar_language.specs.Expansion.{GrammarSymbol, Nonterminal, RightSide, grammar_symbol, Produces}
use Rattle.lalrpop_grammar_language.specs.Expansion.{ByAlternative, ByPassDown, origin_with}
use Rattle.lalrpop_grammar_language.proofs.PlaceLemmas.{TellPlaces, PlacesApart}

-- both passing down: the rule, the level and the next tighter one are the same
passed_down : (g : EnabledGrammar) (n : Text) (args : Closeds) (level : Option ℕ) (o : Origin) (s t : RightSide)
    → ByPassDown g n args level o s → ByPassDown g n args level o t → s ≡ t
passed_down g n args level o s t a b =
    let ra = a.is_rule in
    let rb = b.is_rule in
    let rule : a.rule ≡ b.rule = cc in
    let fa = a.from_is in
    let fb = b.from_is in
    let from : a.from ≡ b.from = cc in
    let to : Some a.to ≡ Some b.to = sym a.to_is ∙ ap (λ r. tighter r a.from) rule ∙ ap (λ k. tighter b.rule k) from ∙ b.to_is in
    a.side_is ∙ ap (λ k. GrammarSymbol.nonterminal (Nonterminal.closed (Closed.call n args k)) ∷ []) to ∙ sym b.side_is

module _ (g : EnabledGrammar) (told : TellPlaces g) (apart : PlacesApart g) where
  -- the origin that an alternative gives, with its place
  origin_of : (n : Text) (args : Closeds) (level : Option ℕ) (o : Origin) (s : RightSide) → ByAlternative g n args level o s
      → (place : ℕ) × (o ≡ Origin.alternative n (argument_list g.spelled args) place)
  origin_of n args level o s a =
      let (place, at) = told n args a.rule a.choice a.fits in
      (place, a.origin_is ∙ ap (λ q. origin_with (argument_list g.spelled args) q) at)

  -- both by an alternative: it is the one at the place that the origin tells
  by_alternatives : (n : Text) (args : Closeds) (level : Option ℕ) (o : Origin) (s t : RightSide)
      → ByAlternative g n args level o s → ByAlternative g n args level o t → s ≡ t
  by_alternatives n args level o s t a b =
      let (pa, ta) = told n args a.rule a.choice a.fits in
      let (pb, tb) = told n args b.rule b.choice b.fits in
      let oa : o ≡ Origin.alternative n (argument_list g.spelled args) pa =
      a.origin_is ∙ ap (λ q. origin_with (argument_list g.spelled args) q) ta in
      let ob : o ≡ Origin.alternative n (argument_list g.spelled args) pb =
      b.origin_is ∙ ap (λ q. origin_with (argument_list g.spelled args) q) tb in
      let places : pa ≡ pb = cc in
      let same = apart n args a.rule b.rule a.choice b.choice a.fits b.fits
      (ta ∙ ap (λ k. Origin.alternative n [] k) places ∙ sym tb) in
      a.side_is ∙ ap (λ r. map grammar_symbol (right_side g r (bind r args) a.choice)) same.0
      ∙ ap (λ q. map grammar_symbol (right_side g b.rule (bind b.rule args) q)) same.1 ∙ sym b.side_is

  -- an alternative's origin is none of passing down
  not_both : (n : Text) (args : Closeds) (level : Option ℕ) (o : Origin) (s t : RightSide)
      → ByAlternative g n args level o s → ByPassDown g n args level o t → ⊥
  not_both n args level o s t a b =
      let from = origin_of n args level o s a in
      let e : Origin.alternative n (argument_list g.spelled args) from.0 ≡ Origin.pass_down = sym from.1 ∙ b.origin_is in
      cc

  -- a closed symbol produces one right side by a choice
  closed_side : (x : Closed) (o : Origin) (s t : RightSide) → Produces g (Nonterminal.closed x) o s
      → Produces g (Nonterminal.closed x) o t → s ≡ t
  closed_side (Closed.call n args level) o s t (inl a) (inl b) = by_alternatives n args level o s t a b
  closed_side (Closed.call n args level) o s t (inl a) (inr b) = absurd (not_both n args level o s t a b)
  closed_side (Closed.call n args level) o s t (inr a) (inl b) = absurd (not_both n args level o t s b a)
  closed_side (Closed.call n args level) o s t (inr a) (inr b) = passed_down g n args level o s t a b
  closed_side (Closed.repeat Op.plus x) o s t (inl a) (inl b) = a.1 ∙ sym b.1
  closed_side (Closed.repeat Op.plus x) o s t (inl a) (inr b) =
      let e : Origin.plus_one ≡ Origin.plus_more = sym a.0 ∙ b.0 in cc
  closed_side (Closed.repeat Op.plus x) o s t (inr a) (inl b) =
      let e : Origin.plus_more ≡ Origin.plus_one = sym a.0 ∙ b.0 in cc
  closed_side (Closed.repeat Op.plus x) o s t (inr a) (inr b) = a.1 ∙ sym b.1
  closed_side (Closed.repeat Op.star x) o s t (inl a) (inl b) = a.1 ∙ sym b.1
  closed_side (Closed.repeat Op.star x) o s t (inl a) (inr b) =
      let e : Origin.star_none ≡ Origin.star_some = sym a.0 ∙ b.0 in cc
  closed_side (Closed.repeat Op.star x) o s t (inr a) (inl b) =
      let e : Origin.star_some ≡ Origin.star_none = sym a.0 ∙ b.0 in cc
  closed_side (Closed.repeat Op.star x) o s t (inr a) (inr b) = a.1 ∙ sym b.1
  closed_side (Closed.repeat Op.question x) o s t (inl a) (inl b) = a.1 ∙ sym b.1
  closed_side (Closed.repeat Op.question x) o s t (inl a) (inr b) =
      let e : Origin.opt_none ≡ Origin.opt_some = sym a.0 ∙ b.0 in cc
  closed_side (Closed.repeat Op.question x) o s t (inr a) (inl b) =
      let e : Origin.opt_some ≡ Origin.opt_none = sym a.0 ∙ b.0 in cc
  closed_side (Closed.repeat Op.question x) o s t (inr a) (inr b) = a.1 ∙ sym b.1
  closed_side (Closed.group xs) o s t a b = a.1 ∙ sym b.1
  closed_side Closed.lookahead o s t a b = a.1 ∙ sym b.1
  closed_side Closed.lookbehind o s t a b = a.1 ∙ sym b.1
  closed_side (Closed.terminal u) o s t a b = absurd a
  closed_side (Closed.choose x) o s t a b = absurd a
  closed_side (Closed.name m n x) o s t a b = absurd a
  closed_side Closed.faulty o s t a b = absurd a

  -- so does each nonterminal
  pub one_side : (x : Nonterminal) (o : Origin) (s t : RightSide) → Produces g x o s → Produces g x o t → s ≡ t
  one_side (Nonterminal.start n) o s t (r, is, plain, public, at, side) (q, also, _, _, _, other) =
      let ra = is in
      let rb = also in
      let rule : r ≡ q = cc in
      side ∙ ap (λ k. GrammarSymbol.nonterminal (Nonterminal.closed (Closed.call n Closeds.none (loosest k))) ∷ []) rule ∙ sym other
  one_side (Nonterminal.closed x) o s t a b = closed_side x o s t a b
