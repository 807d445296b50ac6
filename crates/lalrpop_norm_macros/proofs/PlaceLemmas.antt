-- Where a call is written is the same in grammars that differ by origins alone; for the place of a call that is too deep.
use Rattle.std.proofs.Common.{◌≡◌, ℕ, zero, suc, refl, ap, sym, ◌∙◌, subst}
use Rattle.std.specs.Prelude.{Option}
use Rattle.lalrpop_grammar_symbols.specs.Symbols.{TextSpan, WrittenSymbol, Closed, syms}
use Rattle.lalrpop_grammar_language.specs.Among.{Among}
use Rattle.lalrpop_grammar_language.specs.Enabled.{EnabledGrammar, EnabledRule, Choice, IsRule}
use Rattle.lalrpop_grammar_language.specs.Levels.{Rank, allowed_level, ranked_choices}
use Rattle.lalrpop_grammar_language.specs.Closing.{Binding, close, is_sound, occurrences_in, scope_of}
use Rattle.lalrpop_grammar_language.specs.Admitting.{Fits, bind, rank_level}
use Rattle.lalrpop_grammar_language.proofs.PlaceLemmas.{among_map}
use Rattle.lalrpop_norm_theory.specs.Depth.{calls_in}
use Rattle.lalrpop_grammar_language.proofs.AmongLemmas.{map_among}
use Rattle.lalrpop_norm_theory.specs.CallPlaces.{IsMadeAt, IsPlaceBelow, IsPlaceInSide, IsPlaceOfCall}
use Rattle.lalrpop_norm_keys.proofs.OriginLemmas.{allowed_plain, close_same, levels_plain, plain_choice, plain_grammar, plain_pair}
use Rattle.lalrpop_norm_keys.proofs.OriginLemmas.{plain_rule, plain_was, ranked_plain, rule_plain}
use Rattle.lalrpop_norm_keys.proofs.PlainGrammarLemmas.{chain_alike, root_alike}
use Rattle.lalrpop_norm_theory.proofs.RuleChangeLemmas.{holds_with}

-- An alternative without origins has the same places.
module _ (g : EnabledGrammar) (r : EnabledRule) (b : Binding) (c : Choice × Option Rank) where
  abbrev sides : ℕ
  sides = occurrences_in b r.name (syms c.0.expr)

  closes : (k : ℕ) (w : WrittenSymbol) → close (scope_of g r b c.0 c.1) k w
      ≡ close (scope_of (plain_grammar g) (plain_rule r) b (plain_choice c.0) c.1) k w
  closes k w =
      close_same g b r.name (allowed_level r c.1 sides) (allowed_level (plain_rule r) c.1 sides)
      (λ i. sym (allowed_plain r c.1 sides i)) k w

  side_place_plain : (x : Closed) (p : TextSpan) → IsPlaceInSide g r b c x p
      → IsPlaceInSide (plain_grammar g) (plain_rule r) b (plain_pair c) x p
  side_place_plain x p q = record {
    top = q.top;
    among = q.among;
    sound = ap is_sound (sym (closes q.top.0 q.top.1)) ∙ q.sound;
    innermost = let i = q.innermost in record {
      symbol = i.symbol;
      stands = i.stands;
      has_call = subst (λ d. Among (calls_in d) x) (closes i.symbol.0 i.symbol.1) i.has_call;
      innermost = λ z w h. i.innermost z w (subst (λ d. Among (calls_in d) x) (sym (closes z.0 z.1)) h);
      place = i.place;
    };
  }

  side_place_was : (x : Closed) (p : TextSpan) → IsPlaceInSide (plain_grammar g) (plain_rule r) b (plain_pair c) x p
      → IsPlaceInSide g r b c x p
  side_place_was x p q = record {
    top = q.top;
    among = q.among;
    sound = ap is_sound (closes q.top.0 q.top.1) ∙ q.sound;
    innermost = let i = q.innermost in record {
      symbol = i.symbol;
      stands = i.stands;
      has_call = subst (λ d. Among (calls_in d) x) (sym (closes i.symbol.0 i.symbol.1)) i.has_call;
      innermost = λ z w h. i.innermost z w (subst (λ d. Among (calls_in d) x) (closes z.0 z.1) h);
      place = i.place;
    };
  }

place_plain : (g : EnabledGrammar) (y x : Closed) (p : TextSpan) → IsPlaceOfCall g y x p → IsPlaceOfCall (plain_grammar g) y x p
place_plain g y x p q = record {
  name = q.name;
  args = q.args;
  level = q.level;
  call_is = q.call_is;
  rule = plain_rule q.rule;
  choice = plain_pair q.choice;
  fits = record {
    rule = rule_plain g q.name q.rule q.fits.rule;
    arguments = q.fits.arguments;
    written = subst (λ ps. Among ps (plain_pair q.choice)) (sym (ranked_plain q.rule))
        (map_among plain_pair (ranked_choices q.rule) q.choice q.fits.written);
    leveled = q.fits.leveled ∙ sym (levels_plain q.rule);
    holds = holds_with g (plain_grammar g) refl (bind q.rule q.args) q.choice.0.condition q.fits.holds;
  };
  level_is = q.level_is;
  place = side_place_plain g q.rule (bind q.rule q.args) q.choice x p q.place;
}

place_was : (g : EnabledGrammar) (y x : Closed) (p : TextSpan) → IsPlaceOfCall (plain_grammar g) y x p → IsPlaceOfCall g y x p
place_was g y x p q = let m = plain_was g q.name q.rule q.fits.rule in of_rule m.0 m.1 m.2
  where
    of_choice : (r : EnabledRule) → IsRule g q.name r → plain_rule r ≡ q.rule → (c : Choice × Option Rank)
        → Among (ranked_choices r) c → plain_pair c ≡ q.choice → IsPlaceOfCall g y x p
    of_choice r i e c m f =
        let fits : Fits (plain_grammar g) q.name q.args (plain_rule r) (plain_pair c) =
        subst (Fits (plain_grammar g) q.name q.args (plain_rule r)) (sym f)
        (subst (λ t. Fits (plain_grammar g) q.name q.args t q.choice) (sym e) q.fits) in
        let place : IsPlaceInSide (plain_grammar g) (plain_rule r) (bind r q.args) (plain_pair c) x p =
        subst (λ d. IsPlaceInSide (plain_grammar g) (plain_rule r) (bind r q.args) d x p) (sym f)
        (subst (λ t. IsPlaceInSide (plain_grammar g) t (bind t q.args) q.choice x p) (sym e) q.place) in
        record {
          name = q.name;
          args = q.args;
          level = q.level;
          call_is = q.call_is;
          rule = r;
          choice = c;
          fits = record {
            rule = i;
            arguments = fits.arguments;
            written = m;
            leveled = fits.leveled ∙ levels_plain r;
            holds = holds_with (plain_grammar g) g refl (bind r q.args) c.0.condition fits.holds;
          };
          level_is = ap (λ (d : Choice × Option Rank). rank_level d.1) f ∙ q.level_is;
          place = side_place_was g r (bind r q.args) c x p place;
        }

    of_rule : (r : EnabledRule) → IsRule g q.name r → plain_rule r ≡ q.rule → IsPlaceOfCall g y x p
    of_rule r i e =
        let c = among_map plain_pair (ranked_choices r) q.choice
        (subst (λ ps. Among ps q.choice) (ranked_plain r)
        (subst (λ t. Among (ranked_choices t) q.choice) (sym e) q.fits.written)) in
        of_choice r i e c.0 c.1 c.2

-- so a place below a depth is one in the other grammar
pub place_alike : (g h : EnabledGrammar) → plain_grammar g ≡ plain_grammar h → (depth : ℕ) (x : Closed) (p : TextSpan)
    → IsPlaceBelow g depth x p → IsPlaceBelow h depth x p
place_alike g h e depth x p (y, m, q) =
    (y, made_there depth m, place_was h y x p (subst (λ k. IsPlaceOfCall k y x p) e (place_plain g y x p q)))
  where
    made_there : (k : ℕ) → IsMadeAt g k y → IsMadeAt h k y
    made_there zero r = root_alike g h e y r
    made_there (suc k) c = chain_alike g h e (suc k) y c
