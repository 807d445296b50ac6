-- Places of keys go back where names are replaced by what closes as they do; for the laws of places in resolved grammars.
use Rattle.std.proofs.Common.{◌≡◌, List, [], ◌∷◌, ◌++◌, refl, ap, sym, ◌∙◌, subst}
use Rattle.std.specs.Prelude.{Option, map}
use Rattle.lalrpop_grammar_symbols.specs.Symbols.{Text, TextSpan, Sym, Syms, syms, WrittenSymbol, Closed, Closeds}
use Rattle.lalrpop_grammar_symbols.specs.SymbolMaps.{map_symbol, map_symbols}
use Rattle.lalrpop_grammar_language.specs.Among.{Among}
use Rattle.lalrpop_grammar_language.specs.Enabled.{EnabledGrammar, EnabledRule, Choice, IsRule}
use Rattle.lalrpop_grammar_language.specs.Levels.{Rank, ranked_choices}
use Rattle.lalrpop_grammar_language.specs.Closing.{right_side}
use Rattle.lalrpop_grammar_language.specs.Admitting.{Fits, bind, rank_level}
use Rattle.lalrpop_grammar_language.specs.Expansion.{InExpansion, Nonterminal}
use Rattle.lalrpop_grammar_language.proofs.PlaceLemmas.{among_map}
use Rattle.lalrpop_grammar_rules.specs.Views.{closeds}
use Rattle.lalrpop_norm_theory.specs.KeyTables.{keys_in}
use Rattle.lalrpop_norm_keys.specs.Standing.{keys_of_repeat}
use Rattle.lalrpop_norm_theory.proofs.RuleChangeLemmas.{RuleChange, changed_expansion, changed_pair, changed_rule, fits_before}
use Rattle.lalrpop_norm_theory.proofs.RuleChangeLemmas.{ranked_kept, rule_before}
use Rattle.lalrpop_norm_theory.proofs.ClosedNameLemmas.{with_names}
use Rattle.lalrpop_norm_theory.proofs.ReplacedNameLemmas.{ReplacesNames, keeps_sides}
use Rattle.lalrpop_norm_keys.specs.MetKeys.{MetKey, all_met_at, keys_met, keys_met_in_row}
use Rattle.lalrpop_norm_keys.specs.KeyPlaces.{IsKeyPlace, IsKeyPlaceIn, keys_met_in_side}

-- what stands for a name meets the keys that it closes to, at the name
abbrev pub MeetsAlone : (TextSpan → Text → WrittenSymbol) → Type 0
MeetsAlone f = (p : TextSpan) (n : Text) (c : Closed) → keys_met (f p n) c ≡ all_met_at p (keys_in c)

mutual
  -- beside what a symbol closes to the same keys are met
  met_replaced : (f : TextSpan → Text → WrittenSymbol) → MeetsAlone f → (w : WrittenSymbol) (c : Closed) →
      keys_met (map_symbol (with_names f) w) c ≡ keys_met w c
  met_replaced f a (Sym.expr p xs) (Closed.group cs) = ap (λ (l : List MetKey). (Closed.group cs, p) ∷ l) (row_replaced f a xs cs)
  met_replaced f a (Sym.expr p xs) _ = refl
  met_replaced f a (Sym.repeat p op x) (Closed.repeat o c) =
      ap (λ (l : List MetKey). all_met_at p (keys_of_repeat o c) ++ l) (met_replaced f a x c)
  met_replaced f a (Sym.repeat p op x) _ = refl
  met_replaced f a (Sym.choose p x) (Closed.choose c) = met_replaced f a x c
  met_replaced f a (Sym.choose p x) _ = refl
  met_replaced f a (Sym.name p v n x) (Closed.name i j c) = met_replaced f a x c
  met_replaced f a (Sym.name p v n x) _ = refl
  met_replaced f a (Sym.ambiguous_id p n) c = a p n c
  met_replaced f a (Sym.nonterminal p n) c = refl
  met_replaced f a (Sym.terminal p t) c = refl
  met_replaced f a (Sym.macro p n args) c = refl
  met_replaced f a (Sym.lookahead p) c = refl
  met_replaced f a (Sym.lookbehind p) c = refl
  met_replaced f a (Sym.error p) c = refl

  row_replaced : (f : TextSpan → Text → WrittenSymbol) → MeetsAlone f → (ws : Syms TextSpan) (cs : Closeds) →
      keys_met_in_row (map_symbols (with_names f) ws) cs ≡ keys_met_in_row ws cs
  row_replaced f a Syms.none cs = refl
  row_replaced f a (Syms.more w ws) Closeds.none = refl
  row_replaced f a (Syms.more w ws) (Closeds.more c cs) =
      ap (λ (l : List MetKey). l ++ keys_met_in_row (map_symbols (with_names f) ws) cs) (met_replaced f a w c)
      ∙ ap (λ (l : List MetKey). keys_met w c ++ l) (row_replaced f a ws cs)

listed_replaced : (f : TextSpan → Text → WrittenSymbol) → MeetsAlone f → (ws : List WrittenSymbol) (cs : Closeds) →
    keys_met_in_row (syms (map (map_symbol (with_names f)) ws)) cs ≡ keys_met_in_row (syms ws) cs
listed_replaced f a [] cs = refl
listed_replaced f a (w ∷ ws) Closeds.none = refl
listed_replaced f a (w ∷ ws) (Closeds.more c cs) =
    ap (λ (l : List MetKey). l ++ keys_met_in_row (syms (map (map_symbol (with_names f)) ws)) cs) (met_replaced f a w c)
    ∙ ap (λ (l : List MetKey). keys_met w c ++ l) (listed_replaced f a ws cs)

module _ (w : RuleChange) (g h : EnabledGrammar) (m : ReplacesNames w g h) (alone : (r : EnabledRule) → MeetsAlone (m.by r)) where
  -- an alternative meets the same keys
  side_met : (n : Text) (r : EnabledRule) → IsRule g n r → (args : Closeds) (c : Choice × Option Rank) →
      keys_met_in_side h (changed_rule w r) (bind r args) (changed_pair w r c) ≡ keys_met_in_side g r (bind r args) c
  side_met n r i args c =
      ap (λ (l : List Closed). keys_met_in_row (syms (w.expr r c.0)) (closeds l)) (keeps_sides w g h m n r i args c)
      ∙ ap (λ (l : List WrittenSymbol). keys_met_in_row (syms l) (closeds (right_side g r (bind r args) c))) (m.expr_is r c.0)
      ∙ listed_replaced (m.by r) (alone r) c.0.expr (closeds (right_side g r (bind r args) c))

  -- the place of a key in a call
  key_before : (y x : Closed) (p : TextSpan) → IsKeyPlaceIn h y x p → IsKeyPlaceIn g y x p
  key_before y x p b = let u = rule_before w g h m.changed b.name b.rule b.fits.rule in of_rule u.0 u.1 u.2
    where
      of_choice : (r : EnabledRule) → IsRule g b.name r → changed_rule w r ≡ b.rule → (c : Choice × Option Rank) →
          Among (ranked_choices r) c → changed_pair w r c ≡ b.choice → IsKeyPlaceIn g y x p
      of_choice r i e c k d = record {
        name = b.name;
        args = b.args;
        level = b.level;
        call_is = b.call_is;
        rule = r;
        choice = c;
        fits = fits_before w g h m.changed b.name b.args r c i k
            (subst (λ q. Fits h b.name b.args (changed_rule w r) q) (sym d)
            (subst (λ q. Fits h b.name b.args q b.choice) (sym e) b.fits));
        level_is = ap (λ (q : Choice × Option Rank). rank_level q.1) d ∙ b.level_is;
        met = subst (λ (l : List MetKey). Among l (x, p)) (side_met b.name r i b.args c)
            (subst (λ (q : Choice × Option Rank). Among (keys_met_in_side h (changed_rule w r) (bind r b.args) q) (x, p)) (sym d)
            (subst (λ (q : EnabledRule). Among (keys_met_in_side h q (bind q b.args) b.choice) (x, p)) (sym e) b.met));
      }

      of_rule : (r : EnabledRule) → IsRule g b.name r → changed_rule w r ≡ b.rule → IsKeyPlaceIn g y x p
      of_rule r i e =
          let c = among_map (changed_pair w r) (ranked_choices r) b.choice
          (subst (λ ps. Among ps b.choice) (ranked_kept w m.changed.ranks r)
          (subst (λ q. Among (ranked_choices q) b.choice) (sym e) b.fits.written)) in
          of_choice r i e c.0 c.1 c.2

  call_before : (y : Closed) → InExpansion h (Nonterminal.closed y) → InExpansion g (Nonterminal.closed y)
  call_before y i =
      let u = (changed_expansion w g h m.changed (keeps_sides w g h m)).no_other (Nonterminal.closed y) i in
      subst (λ (z : Nonterminal). InExpansion g z) (sym u.2) u.1

  -- and in the grammar
  pub key_place_before : (x : Closed) (p : TextSpan) → IsKeyPlace h x p → IsKeyPlace g x p
  key_place_before x p (y, made, place) = (y, call_before y made, key_before y x p place)
