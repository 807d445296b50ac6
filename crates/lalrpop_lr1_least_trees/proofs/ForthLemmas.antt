-- Moves by derived rules are those of trees over the productions: without leaves, or beginning with the terminal, as their symbols say.
use Rattle.std.proofs.Common.{◌≡◌, ◌∙◌, ℕ, ◌+◌, ◌-◌, ◌<◌, ◌≤◌, true, List, []}
use Rattle.std.proofs.Common.{◌∷◌, ◌++◌, length, map}
use Rattle.std.proofs.Common.{refl, sym, ap, subst, inl, inr, ⊎_elim, arith, Contains, Option, Some, slice_get}
use Rattle.std.specs.Option.{option_and_then}
use Rattle.std.proofs.lemmas.Option.{slice_get_within}
use Rattle.lalrpop_grammar_symbols.specs.Symbols.{Terminal}
use Rattle.lalrpop_lr1_theory.specs.Productions.{Production, Symbol, first, nonterminal, terminal}
use Rattle.lalrpop_lr1_theory.specs.Trees.{AreOver, Forest, leaf, moves, node, none, reduce, roots, yield}
use Rattle.lalrpop_lr1_theory.proofs.ListLemmas.{get_contains}
use Rattle.lalrpop_lr1_theory.proofs.StepLemmas.{some_same}
use Rattle.lalrpop_lr1_first.specs.Numbers.{SpellsSymbols}
use Rattle.lalrpop_lr1_least_trees.specs.declared.least_counts.rule.NumberMove.{NumberMove}
use Rattle.lalrpop_lr1_least_trees.specs.declared.least_counts.rule.NumberMove.TheVariants as numbered
use Rattle.lalrpop_lr1_least_trees.specs.NumberedTrees.{Builds, NamesAreBelow, NumberRule, nothing, reduces, rule_views, shifts}
use Rattle.lalrpop_lr1_least_trees.proofs.RuleLemmas.{views_long}
use Rattle.lalrpop_lr1_least_trees.specs.MoveViews.{SpellsMoves}
use Rattle.lalrpop_lr1_least_trees.proofs.SpellLemmas.{StandFor, spells-append}
use Rattle.lalrpop_lr1_least_trees.specs.declared.begin_trees.derived.Derived.{Derived}
use Rattle.lalrpop_lr1_least_trees.specs.declared.begin_trees.derived.DerivedOrigin.{DerivedOrigin}
use Rattle.lalrpop_lr1_least_trees.specs.BeginForests.{IsWanted}
use Rattle.lalrpop_lr1_least_trees.specs.DerivedRules.{AreDerived, IsBeginOf, IsDerived, IsEmptyOf, IsWholeOf, begin_side, begin_symbol}
use Rattle.lalrpop_lr1_least_trees.specs.DerivedRules.{all_names, down, empty_symbol, whole_symbol}
use Rattle.lalrpop_lr1_least_trees.proofs.KindLemmas.{AllEmpty, Begins, all_empty, at_down, down_begin}
use Rattle.lalrpop_lr1_least_trees.proofs.KindLemmas.{down_empty, down_name, down_past, side_begins, spells_begin, spells_empty}
use Rattle.lalrpop_lr1_least_trees.proofs.KindLemmas.{spells_whole}
use Rattle.lalrpop_lr1_first.proofs.TableLemmas.{get_some}

-- what comes first stays first before others
pub first_front : (xs ys : List Terminal) (t : Terminal) → first xs ≡ Some t → first (xs ++ ys) ≡ Some t
first_front [] ys t e = let w : ⊥ = cc in absurd w
first_front (x ∷ xs) ys t e = e

first_behind : (xs ys : List Terminal) (t : Terminal) → xs ≡ [] → first ys ≡ Some t → first (xs ++ ys) ≡ Some t
first_behind xs ys t e f = ap (λ l. first (l ++ ys)) e ∙ f

both_empty : (xs ys : List Terminal) → xs ≡ [] → ys ≡ [] → xs ++ ys ≡ []
both_empty xs ys e f = ap (λ l. l ++ ys) e ∙ f

module _ (at : ℕ → Option Symbol) (names : ℕ) (rules : List NumberRule) (productions : List Production)
    (stand : StandFor at names rules productions) (wanted : ℕ) (t : Terminal) (is_wanted : IsWanted at t wanted) (derived : Derived)
    (are : AreDerived names wanted rules (length rules) derived) where
  abbrev G : Production → Type 0
  G = Contains productions

  -- the production of a derived rule
  abbrev pub production_of : ℕ → Option Production
  production_of k = option_and_then (λ (o : DerivedOrigin). slice_get productions o.rule) (slice_get derived.origins.items k)

  abbrev pub DerivedBuilds : List ℕ → List NumberMove → Type 0
  DerivedBuilds = Builds (rule_views derived.rules.items) (all_names names) true

  -- what a derived rule is derived from
  pub record HasSource (k : ℕ) (d : NumberRule) : Type 0 where
    pub origin : DerivedOrigin
    pub rule : NumberRule
    pub production : Production
    pub at_origin : slice_get derived.origins.items k ≡ Some origin
    pub at_rule : slice_get rules origin.rule ≡ Some rule
    pub at_production : slice_get productions origin.rule ≡ Some production
    pub is : IsDerived names wanted rule origin.place d

  pub source : (k : ℕ) (d : NumberRule) → slice_get (rule_views derived.rules.items) k ≡ Some d → HasSource k d
  source k d e =
      let o = get_some derived.origins.items k (omega (
        arith,
        slice_get_within (rule_views derived.rules.items) k d e,
        views_long derived.rules.items,
        are.origins,
      )) in
      let s = are.sound k d o.0 (record { at_rule = e; at_origin = o.1 }) in
      let p = get_some productions o.0.rule (omega (arith, slice_get_within rules o.0.rule s.0 s.1, stand.count)) in
      record {
        origin = o.0;
        rule = s.0;
        production = p.0;
        at_origin = o.1;
        at_rule = s.1;
        at_production = p.1;
        is = s.2;
      }

  pub source_production : (k : ℕ) (d : NumberRule) (s : HasSource k d) → production_of k ≡ Some s.production
  source_production k d s =
      ap (option_and_then (λ (o : DerivedOrigin). slice_get productions o.rule)) s.at_origin ∙ s.at_production

  source_left : (k : ℕ) (d : NumberRule) (s : HasSource k d) → at s.rule.left ≡ Some (nonterminal s.production.left)
  source_left k d s = stand.left s.origin.rule s.rule s.production s.at_rule s.at_production

  pub source_below : (k : ℕ) (d : NumberRule) (s : HasSource k d) → s.rule.left < names
  source_below k d s = stand.name_below s.rule.left s.production.left (source_left k d s)

  source_right : (k : ℕ) (d : NumberRule) (s : HasSource k d) → SpellsSymbols at s.rule.right s.production.right
  source_right k d s = stand.right s.origin.rule s.rule s.production s.at_rule s.at_production

  -- the names of derived rules
  pub derived_below : NamesAreBelow (all_names names) (rule_views derived.rules.items)
  derived_below k d e = go s.is
    where
      s : HasSource k d
      s = source k d e

      below : s.rule.left < names
      below = source_below k d s

      go : IsDerived names wanted s.rule s.origin.place d → d.left < all_names names
      go (inl w) = let left : d.left ≡ s.rule.left = ap (λ (x : NumberRule). x.left) w.1 in omega (arith, left, below)
      go (inr (inl w)) =
          let left : d.left ≡ empty_symbol names s.rule.left = ap (λ (x : NumberRule). x.left) w.2 in omega (arith, left, below)
      go (inr (inr w)) =
          let left : d.left ≡ begin_symbol names s.rule.left = ap (λ (x : NumberRule). x.left) w.1.1 in omega (arith, left, below)

  -- what its left side and its right side say
  pub record SourceSays (k : ℕ) (d : NumberRule) (s : HasSource k d) : Type 0 where
    pub left : at_down names at d.left ≡ Some (nonterminal s.production.left)
    pub right : SpellsSymbols (at_down names at) d.right s.production.right
    pub empty : names ≤ d.left → d.left < names + names → AllEmpty names d.right
    pub begins : names + names ≤ d.left → Begins names wanted d.right

  pub source_says : (k : ℕ) (d : NumberRule) (s : HasSource k d) → SourceSays k d s
  source_says k d s = go s.is
    where
      below : s.rule.left < names
      below = source_below k d s

      whole : IsWholeOf names s.rule s.origin.place d → SourceSays k d s
      whole w =
          let left : d.left ≡ s.rule.left = ap (λ (x : NumberRule). x.left) w.1 in
          let right : d.right ≡ map (whole_symbol names) s.rule.right = ap (λ (x : NumberRule). x.right) w.1 in
          record {
            left = ap (λ x. at (down names x)) left ∙ ap at (down_name names s.rule.left below) ∙ source_left k d s;
            right = subst (λ l. SpellsSymbols (at_down names at) l s.production.right) (sym right)
                (spells_whole names at s.rule.right s.production.right (source_right k d s));
            empty = λ h g. absurd (omega (arith, h, left, below));
            begins = λ h. absurd (omega (arith, h, left, below));
          }

      empty : IsEmptyOf names s.rule s.origin.place d → SourceSays k d s
      empty w =
          let left : d.left ≡ empty_symbol names s.rule.left = ap (λ (x : NumberRule). x.left) w.2 in
          let right : d.right ≡ map (empty_symbol names) s.rule.right = ap (λ (x : NumberRule). x.right) w.2 in
          record {
            left = ap (λ x. at (down names x)) left ∙ ap at (down_empty names s.rule.left below) ∙ source_left k d s;
            right = subst (λ l. SpellsSymbols (at_down names at) l s.production.right) (sym right)
                (spells_empty names at s.rule.right s.production.right w.0 (source_right k d s));
            empty = λ h g. subst (AllEmpty names) (sym right) (all_empty names s.rule.right w.0);
            begins = λ h. absurd (omega (arith, h, left, below));
          }

      begin : IsBeginOf names wanted s.rule s.origin.place d → SourceSays k d s
      begin w =
          let left : d.left ≡ begin_symbol names s.rule.left = ap (λ (x : NumberRule). x.left) w.1.1 in
          let right : d.right ≡ begin_side names s.rule.right s.origin.place = ap (λ (x : NumberRule). x.right) w.1.1 in
          record {
            left = ap (λ x. at (down names x)) left ∙ ap at (down_begin names s.rule.left) ∙ source_left k d s;
            right = subst (λ l. SpellsSymbols (at_down names at) l s.production.right) (sym right)
                (spells_begin names at s.rule.right s.production.right s.origin.place w.0.within w.0.front (source_right k d s));
            empty = λ h g. absurd (omega (arith, g, left));
            begins = λ h. subst (Begins names wanted) (sym right) (side_begins names wanted s.rule.right s.origin.place w.0);
          }

      go : IsDerived names wanted s.rule s.origin.place d → SourceSays k d s
      go (inl w) = whole w
      go (inr (inl w)) = empty w
      go (inr (inr w)) = begin w

  -- trees over the productions, with these roots and moves
  pub record AreTold (ss : List ℕ) (xs : List Symbol) (ns : List NumberMove) : Type 0 where
    pub trees : Forest
    pub roots_are : roots trees ≡ xs
    pub over : AreOver G trees
    pub spelled : SpellsMoves (at_down names at) production_of ns (moves trees)
    pub empty : AllEmpty names ss → yield trees ≡ []
    pub begins : Begins names wanted ss → first (yield trees) ≡ Some t

  pub derived_trees : {ss : List ℕ} {ns : List NumberMove} → DerivedBuilds ss ns → (xs : List Symbol) → SpellsSymbols
      (at_down names at) ss xs →
      AreTold ss xs ns
  derived_trees nothing [] sp =
      record { trees = none; roots_are = refl; over = tt; spelled = tt; empty = λ h. refl; begins = λ h. absurd h }
  derived_trees nothing (x ∷ xs) sp = absurd sp
  derived_trees (shifts s l h b) [] sp = absurd sp
  derived_trees (shifts s {ss = ss} {ms = ns} l h b) (x ∷ xs) sp = go x sp.0 (derived_trees b xs sp.1)
    where
      past : down names s ≡ s - (names + names)
      past = down_past names s (omega (arith, h))

      go : (y : Symbol) → at_down names at s ≡ Some y → AreTold ss xs ns → AreTold (s ∷ ss) (y ∷ xs) (numbered.Shift s ∷ ns)
      go (nonterminal A) e r = absurd (omega (arith, stand.name_below (down names s) A e, past, h))
      go (terminal u) e r = record {
        trees = leaf u r.trees;
        roots_are = ap (λ l. terminal u ∷ l) r.roots_are;
        over = r.over;
        spelled = (e, r.spelled);
        empty = λ g. absurd (omega (arith, g.1, h));
        begins = λ g. ⊎_elim
            (λ k. ⊎_elim (λ a. absurd (omega (arith, a, h)))
            (λ a.
            let same : down names s ≡ wanted = ap (down names) a ∙ down_begin names wanted in
            ap Some (is_wanted.is u (ap at (sym same) ∙ e))) k.1)
            (λ k. absurd (omega (arith, k.1, h))) g;
      }
  derived_trees (reduces k d at_rule inner b) [] sp = absurd sp
  derived_trees (reduces k d {ss = ss} {ms = ms} {ns = ns} at_rule inner b) (x ∷ xs) sp =
      let s = source k d at_rule in
      let says = source_says k d s in
      let c = derived_trees inner s.production.right says.right in
      let r = derived_trees b xs sp.1 in
      let same : nonterminal s.production.left ≡ x = some_same (nonterminal s.production.left) x (sym says.left ∙ sp.0) in
      record {
        trees = node s.production c.trees r.trees;
        roots_are = ap (λ l. nonterminal s.production.left ∷ l) r.roots_are ∙ ap (λ y. y ∷ xs) same;
        over = (get_contains productions s.origin.rule s.production s.at_production, c.roots_are, c.over, r.over);
        spelled = spells-append (at_down names at) production_of ms (moves c.trees) (numbered.Reduce k ∷ ns)
            (reduce s.production ∷ moves r.trees) c.spelled (source_production k d s, r.spelled);
        empty = λ g. both_empty (yield c.trees) (yield r.trees) (c.empty (says.empty g.0 g.1)) (r.empty g.2);
        begins = λ g. ⊎_elim
            (λ j. first_front (yield c.trees) (yield r.trees) t (c.begins (says.begins j.0)))
            (λ j. first_behind (yield c.trees) (yield r.trees) t (c.empty (says.empty j.0 j.1)) (r.begins j.2)) g;
      }
