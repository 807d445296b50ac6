-- What an equation gives by a table it gives by one that has more types; for the search for types.
use Rattle.std.proofs.Common.{◌≡◌, ◌∙◌, ap, ap₂, refl, List, [], ◌∷◌, Bool, true, false, cond}
use Rattle.std.specs.Prelude.{Option, Some, None, map, option_map}
use Rattle.lalrpop_grammar_symbols.specs.Symbols.{Text, Sym, WrittenSymbol}
use Rattle.lalrpop_grammar.specs.WrittenGrammar.{Ty, Tys}
use Rattle.lalrpop_grammar_language.specs.Enabled.{has_text}
use Rattle.lalrpop_norm_theory.specs.Types.{GroundType}
use Rattle.lalrpop_norm_tyinfer.specs.Equations.{TypeSource, source_ground_type}
use Rattle.lalrpop_norm_tyinfer.specs.GroundViews.{ground_types}
use Rattle.lalrpop_norm_tyinfer.specs.TypesByTable.{KnownNames, RuleTypes, bare_ground_type, chosen_symbols, each_ground_type}
use Rattle.lalrpop_norm_tyinfer.specs.TypesByTable.{name_ground_type, symbol_ground_type, symbols_ground_type, tuple_of_types}
use Rattle.lalrpop_norm_tyinfer.specs.TypesByTable.{with_ground_type, written_ground_type, written_ground_types}

-- the other one is there where the first is, and the same
abbrev pub Stays : {A : Type 0} → Option A → Option A → Type 0
Stays {A} o p = (x : A) → o ≡ Some x → p ≡ Some x

map_stays : {A B : Type 0} (f : A → B) (o p : Option A) → Stays o p → Stays (option_map f o) (option_map f p)
map_stays f None p h y e = absurd (let wrong : ⊥ = cc in wrong)
map_stays f (Some x) p h y e = ap (option_map f) (h x refl) ∙ e

with_stays : (o p : Option GroundType) (os ps : Option (List GroundType)) → Stays o p → Stays os ps
    → Stays (with_ground_type o os) (with_ground_type p ps)
with_stays None p os ps h k ts e = absurd (let wrong : ⊥ = cc in wrong)
with_stays (Some t) p None ps h k ts e = absurd (let wrong : ⊥ = cc in wrong)
with_stays (Some t) p (Some us) ps h k ts e = ap₂ with_ground_type (h t refl) (k us refl) ∙ e

module _ (k : KnownNames) (old new : RuleTypes) (grows : (m : Text) → Stays (old m) (new m)) where
  name_stays : (n : Text) → Stays (name_ground_type k old n) (name_ground_type k new n)
  name_stays n = go (has_text n k.rules)
    where
      go : (b : Bool) → Stays (cond b (old n) (bare_ground_type k n)) (cond b (new n) (bare_ground_type k n))
      go true = grows n
      go false = λ t e. e

  symbol_stays : (x : WrittenSymbol) → Stays (symbol_ground_type k old x) (symbol_ground_type k new x)
  symbol_stays (Sym.terminal p t) = λ u e. e
  symbol_stays (Sym.nonterminal p n) = name_stays n
  symbol_stays (Sym.ambiguous_id p n) = name_stays n
  symbol_stays (Sym.choose p x) = symbol_stays x
  symbol_stays (Sym.name p mutable n x) = symbol_stays x
  symbol_stays (Sym.macro p n args) = λ u e. e
  symbol_stays (Sym.expr p xs) = λ u e. e
  symbol_stays (Sym.repeat p op x) = λ u e. e
  symbol_stays (Sym.lookahead p) = λ u e. e
  symbol_stays (Sym.lookbehind p) = λ u e. e
  symbol_stays (Sym.error p) = λ u e. e

  each_stays : (xs : List WrittenSymbol)
      → Stays (each_ground_type (map (symbol_ground_type k old) xs)) (each_ground_type (map (symbol_ground_type k new) xs))
  each_stays [] = λ ts e. e
  each_stays (x ∷ xs) =
      with_stays (symbol_ground_type k old x) (symbol_ground_type k new x)
      (each_ground_type (map (symbol_ground_type k old) xs)) (each_ground_type (map (symbol_ground_type k new) xs))
      (symbol_stays x) (each_stays xs)

  symbols_stay : (xs : List WrittenSymbol) → Stays (symbols_ground_type k old xs) (symbols_ground_type k new xs)
  symbols_stay xs =
      map_stays tuple_of_types (each_ground_type (map (symbol_ground_type k old) (chosen_symbols xs)))
      (each_ground_type (map (symbol_ground_type k new) (chosen_symbols xs))) (each_stays (chosen_symbols xs))

  mutual
    written_stays : (y : Ty) → Stays (written_ground_type k old y) (written_ground_type k new y)
    written_stays (Ty.tuple ys) =
        map_stays (λ ts. GroundType.tuple (ground_types ts)) (written_ground_types k old ys) (written_ground_types k new ys)
        (written_stay ys)
    written_stays (Ty.nominal path ys) =
        map_stays (λ ts. GroundType.nominal path (ground_types ts)) (written_ground_types k old ys)
        (written_ground_types k new ys) (written_stay ys)
    written_stays (Ty.id n) = λ t e. e
    written_stays (Ty.of_symbol x) = symbol_stays x
    written_stays (Ty.ref lifetime mutable y) =
        map_stays (λ t. GroundType.ref lifetime mutable t) (written_ground_type k old y) (written_ground_type k new y)
        (written_stays y)
    written_stays (Ty.opaque text) = λ t e. e

    written_stay : (ys : Tys) → Stays (written_ground_types k old ys) (written_ground_types k new ys)
    written_stay Tys.none = λ ts e. e
    written_stay (Tys.more y ys) =
        with_stays (written_ground_type k old y) (written_ground_type k new y) (written_ground_types k old ys)
        (written_ground_types k new ys) (written_stays y) (written_stay ys)

  pub source_stays : (s : TypeSource) → Stays (source_ground_type k old s) (source_ground_type k new s)
  source_stays (TypeSource.declared y) = written_stays y
  source_stays (TypeSource.symbols xs) = symbols_stay xs
