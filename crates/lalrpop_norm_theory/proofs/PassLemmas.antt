-- Passes follow one another; and productions of what a pass gives are productions of what it got; for normalizing.
use Rattle.std.proofs.Common.{◌≡◌, ℕ, zero, suc, List, [], ◌∷◌, refl, ap, sym, ◌∙◌, subst}
use Rattle.std.specs.Prelude.{◌↔◌}
use Rattle.lalrpop_grammar_symbols.specs.Symbols.{Text}
use Rattle.lalrpop_grammar.specs.WrittenGrammar.{Origin}
use Rattle.lalrpop_grammar_language.specs.Enabled.{EnabledGrammar}
use Rattle.lalrpop_grammar_language.specs.Expansion.{GrammarSymbol, Nonterminal, RightSide, Produces, IsReachedIn, IsRoot}
use Rattle.lalrpop_grammar_language.specs.Expansion.{WrittenLabel}
use Rattle.lalrpop_norm_theory.specs.Same.{rename_symbol, rename_side, SameExpansion}
use Rattle.lalrpop_norm_theory.specs.Productions.{NamedProduction, StandsForLabel, AreProductions}

rename_twice : {A B C : Type 0} (e : B → C) (f : A → B) (p : GrammarSymbol A) →
    rename_symbol e (rename_symbol f p) ≡ rename_symbol (λ x. e (f x)) p
rename_twice e f (GrammarSymbol.nonterminal x) = refl
rename_twice e f (GrammarSymbol.terminal t) = refl

-- a right side renamed twice is renamed once by both
pub rename_side_twice : {A B C : Type 0} (e : B → C) (f : A → B) (ps : List (GrammarSymbol A)) →
    rename_side e (rename_side f ps) ≡ rename_side (λ x. e (f x)) ps
rename_side_twice e f [] = refl
rename_side_twice e f (p ∷ ps) =
    ap (λ q. q ∷ rename_side e (rename_side f ps)) (rename_twice e f p)
    ∙ ap (λ l. rename_symbol (λ x. e (f x)) p ∷ l) (rename_side_twice e f ps)

-- what two passes keep one after the other
pub SameExpansion-trans : (g h k : EnabledGrammar) (f e : Nonterminal → Nonterminal) → SameExpansion g h f → SameExpansion h k e →
    SameExpansion g k (λ x. e (f x))
SameExpansion-trans g h k f e a b = record {
  apart = λ x y i j same. a.apart x y i j (b.apart (f x) (f y) (a.there x i) (a.there y j) same);
  starts = λ n. ap e (a.starts n) ∙ b.starts n;
  there = λ x i. b.there (f x) (a.there x i);
  no_other = λ z i. let u = b.no_other z i in let v = a.no_other u.0 u.1 in (v.0, v.1, u.2 ∙ ap e v.2);
  produces = λ x o side i m. subst (λ s. Produces k (e (f x)) o s) (rename_side_twice e f side)
      (b.produces (f x) o (rename_side f side) (a.there x i) (a.produces x o side i m));
  produces_no_other = λ x o side i m.
      let u = b.produces_no_other (f x) o side (a.there x i) m in
      let v = a.produces_no_other x o u.0 i u.1 in
      (v.0, v.1, u.2 ∙ ap (λ l. rename_side e l) v.2 ∙ rename_side_twice e f v.0);
}

-- the productions of what the passes gave are those of what they got
pub productions_before : (g h : EnabledGrammar) (to : Nonterminal → Nonterminal) (name_of : Nonterminal → Text)
    (productions : List NamedProduction) (origins : List Origin) → SameExpansion g h to →
    AreProductions h name_of productions origins → AreProductions g (λ x. name_of (to x)) productions origins
productions_before g h to name_of productions origins s a = record {
  every = λ label side i m.
      let p = a.every (record { head = to label.head; choice = label.choice }) (rename_side to side) (s.there label.head i)
      (s.produces label.head label.choice side i m) in (
        p.0,
        p.1,
        p.2,
        record {
          in_expansion = i;
          produced = m;
          nonterminal_is = p.3.nonterminal_is;
          symbols_are = p.3.symbols_are ∙ rename_side_twice name_of to side;
          origin_is = p.3.origin_is;
        },
      );
  no_other = λ p i. let w = a.no_other p i in back p w.0 w.1 w.2;
  once = a.once;
  own_action = a.own_action;
  in_order = a.in_order;
  no_other_origin = a.no_other_origin;
}
  where
    back : (p : NamedProduction) (label : WrittenLabel) (side : RightSide) → StandsForLabel h name_of origins p label side →
        (before : WrittenLabel) × (from : RightSide) × StandsForLabel g (λ x. name_of (to x)) origins p before from
    back p label side w =
        let x = s.no_other label.head w.in_expansion in
        let b = s.produces_no_other x.0 label.choice side x.1 (subst (λ z. Produces h z label.choice side) x.2 w.produced) in (
          record { head = x.0; choice = label.choice },
          b.0,
          record {
            in_expansion = x.1;
            produced = b.1;
            nonterminal_is = w.nonterminal_is ∙ ap name_of x.2;
            symbols_are = w.symbols_are ∙ ap (rename_side name_of) b.2 ∙ rename_side_twice name_of to b.0;
            origin_is = w.origin_is;
          },
        )

rename_self : {A : Type 0} (ps : List (GrammarSymbol A)) → rename_side (λ x. x) ps ≡ ps
rename_self [] = refl
rename_self (GrammarSymbol.nonterminal x ∷ ps) = ap (λ l. GrammarSymbol.nonterminal x ∷ l) (rename_self ps)
rename_self (GrammarSymbol.terminal t ∷ ps) = ap (λ l. GrammarSymbol.terminal t ∷ l) (rename_self ps)

-- a pass that keeps every production and every root keeps the expansion, names included
pub SameExpansion-alike : (g h : EnabledGrammar) →
    ((x : Nonterminal) (o : Origin) (side : RightSide) → Produces g x o side ↔ Produces h x o side) →
    ((x : Nonterminal) → IsRoot g x ↔ IsRoot h x) → SameExpansion g h (λ x. x)
SameExpansion-alike g h m b = record {
  apart = λ x y i j e. e;
  starts = λ n. refl;
  there = λ x i. (i.0, over i.0 x i.1);
  no_other = λ y i. (y, (i.0, under i.0 y i.1), refl);
  produces = λ x o side i k. subst (λ s. Produces h x o s) (sym (rename_self side)) ((m x o side).0 k);
  produces_no_other = λ x o side i k. (side, (m x o side).1 k, sym (rename_self side));
}
  where
    over : (n : ℕ) (x : Nonterminal) → IsReachedIn g n x → IsReachedIn h n x
    over zero x r = (b x).0 r
    over (suc n) x (y, o, side, r, k, i) = (y, o, side, over n y r, (m y o side).0 k, i)

    under : (n : ℕ) (x : Nonterminal) → IsReachedIn h n x → IsReachedIn g n x
    under zero x r = (b x).1 r
    under (suc n) x (y, o, side, r, k, i) = (y, o, side, under n y r, (m y o side).1 k, i)
