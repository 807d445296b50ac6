-- Trees over the productions of an expansion have written trees that fit: at each node the children of each choice are those that
-- the choice takes apart. So what folding looks for, it can find.
use Rattle.std.proofs.Common.{◌≡◌, ◌+◌, List, [], ◌∷◌, ◌++◌, refl, ap, sym, ◌∙◌, subst, inl, inr}
use Rattle.lalrpop_grammar.specs.Trees.{Tree, trees}
use Rattle.lalrpop_grammar.specs.WrittenGrammar.{Origin}
use Rattle.lalrpop_grammar_symbols.specs.Symbols.{Closed, Op, Text}
use Rattle.lalrpop_grammar_language.specs.Derivations.{append_tree, first_tree, leaf_token, tree_by_origin}
use Rattle.lalrpop_grammar_language.specs.Enabled.{EnabledGrammar}
use Rattle.lalrpop_grammar_language.specs.Expansion.{GrammarSymbol, InExpansion, Nonterminal, Produces, RightSide}
use Rattle.lalrpop_grammar_language.specs.Expansion.{origin_with}
use Rattle.lalrpop_grammar_language.specs.Admitting.{argument_list}
use Rattle.lalrpop_grammar_language.proofs.PlaceLemmas.{TellPlaces}
use Rattle.lalrpop_lr1_theory.specs.Productions as theory
use Rattle.lalrpop_lr1_theory.specs.Spans.{SpannedForest, leaf_at, node_at, none_at, without_spans}
use Rattle.lalrpop_lr1_theory.specs.Trees.{AreOver, roots}
use Rattle.lalrpop_norm_theory.specs.Inlined.{IsInlined}
use Rattle.lalrpop_grammar_language.specs.Labels.{Inlinings, Label}
use Rattle.lalrpop_grammar_language.specs.Inlining.{Inlines, InlinesAll}
use Rattle.lalrpop_run_theory.specs.Expansions.{AreExpansion, theory_side}
use Rattle.lalrpop_run_theory.proofs.ForestLemmas.{production_of}
use Rattle.lalrpop_run_theory.proofs.ReachLemmas.{HoldsInside}
use Rattle.lalrpop_run_trees.specs.ActionLabels.{ChoiceInlinings, ChoiceLabel}
use Rattle.lalrpop_run_trees.specs.LabelledTrees.{shown_trees}
use Rattle.lalrpop_run_trees.specs.KeptTrees.{AreAllKeptBy, AreChildrenBy, AreKeptBy, AreTreesOf}
use Rattle.lalrpop_run_trees.proofs.ChildrenLemmas.{trees_joined}
use Rattle.lalrpop_run_trees.proofs.TreesOfLemmas.{trees_shown}

-- a nonterminal `X+`, and a list
abbrev IsRepeated : Nonterminal → Type 0
IsRepeated x = (y : Closed) × (x ≡ Nonterminal.closed (Closed.repeat Op.plus y))

abbrev IsListTree : Tree → Type 0
IsListTree t = (us : List Tree) × (t ≡ Tree.list (trees us))

-- a tree of `X+` is a list
abbrev FitsSymbol : GrammarSymbol Nonterminal → Tree → Type 0
FitsSymbol (GrammarSymbol.terminal z) t = Unit {0}
FitsSymbol (GrammarSymbol.nonterminal x) t = IsRepeated x → IsListTree t

-- The first tree fits the first symbol, and the others are what `Rest` says.
record FitsBefore (p : GrammarSymbol Nonterminal) (Rest : List Tree → Type 0) (us : List Tree) : Type 0 where
  first : Tree
  others : List Tree
  trees_are : us ≡ first ∷ others
  fits : FitsSymbol p first
  rest : Rest others

-- one tree for each symbol, and it fits
abbrev FitSide : RightSide → List Tree → Type 0
FitSide [] us = us ≡ []
FitSide (p ∷ side) us = FitsBefore p (FitSide side) us

-- no tree for no symbol, one for one
one_fits : (p : GrammarSymbol Nonterminal) (side : RightSide) (us : List Tree) → side ≡ p ∷ [] → FitSide side us →
    (u : Tree) × (us ≡ u ∷ []) × FitsSymbol p u
one_fits p side us e h =
    let k : FitSide (p ∷ []) us = subst (λ s. FitSide s us) e h in
    (k.first, k.trees_are ∙ ap (λ l. k.first ∷ l) k.rest, k.fits)

none_fits : (side : RightSide) (us : List Tree) → side ≡ [] → FitSide side us → us ≡ []
none_fits side us e h = subst (λ s. FitSide s us) e h

two_fit : (p q : GrammarSymbol Nonterminal) (side : RightSide) (us : List Tree) → side ≡ p ∷ q ∷ [] → FitSide side us →
    (u : Tree) × (v : Tree) × (us ≡ u ∷ v ∷ []) × FitsSymbol p u
two_fit p q side us e h =
    let k : FitSide (p ∷ q ∷ []) us = subst (λ s. FitSide s us) e h in (
      k.first,
      k.rest.first,
      k.trees_are ∙ ap (λ l. k.first ∷ l)
          (k.rest.trees_are ∙ ap (λ l. k.rest.first ∷ l) k.rest.rest),
      k.fits,
    )

-- what a choice says of trees that fit its right side
abbrev ChoiceFits : Nonterminal → Origin → List Tree → Type 0
ChoiceFits x o us =
    AreChildrenBy o (tree_by_origin o (trees us)) us × FitsSymbol (GrammarSymbol.nonterminal x) (tree_by_origin o (trees us))

-- for a nonterminal that isn't `X+`
unrepeated : (x : Nonterminal) (o : Origin) (us : List Tree) → (IsRepeated x → ⊥) →
    AreChildrenBy o (tree_by_origin o (trees us)) us →
    ChoiceFits x o us
unrepeated x o us isnt h = (h, λ r. absurd (isnt r))

passed_fits : (o p : Origin) (us : List Tree) → o ≡ p → AreChildrenBy p (tree_by_origin p (trees us)) us →
    AreChildrenBy o (tree_by_origin o (trees us)) us
passed_fits o p us e h = subst (λ c. AreChildrenBy c (tree_by_origin c (trees us)) us) (sym e) h

more_fits : (us : List Tree) (u v : Tree) → us ≡ u ∷ v ∷ [] → IsListTree u →
    AreChildrenBy Origin.plus_more (tree_by_origin Origin.plus_more (trees us)) us
    × IsListTree (tree_by_origin Origin.plus_more (trees us))
more_fits us u v e (front, f) =
    let tree : tree_by_origin Origin.plus_more (trees us) ≡ Tree.list (trees (front ++ v ∷ [])) =
    ap (λ l. tree_by_origin Origin.plus_more (trees l)) e ∙ ap (λ t. append_tree t v) f ∙ ap Tree.list (sym (trees_joined front v)) in
    ((front, v, e ∙ ap (λ t. t ∷ v ∷ []) f, tree), (front ++ v ∷ [], tree))

module _ (g : EnabledGrammar) (places : TellPlaces g) where
  choice_fits : (x : Nonterminal) (o : Origin) (side : RightSide) (us : List Tree) → Produces g x o side → FitSide side us →
      ChoiceFits x o us
  choice_fits (Nonterminal.start n) o side us m h =
      let one = one_fits _ side us m.5 h in
      unrepeated (Nonterminal.start n) o us no_start
      (passed_fits o Origin.start us m.4 (one.1 ∙ ap (λ l. first_tree (trees l) ∷ []) (sym one.1)))
    where
      no_start : IsRepeated (Nonterminal.start n) → ⊥
      no_start r = let e = r.1 in absurd (cc)
  choice_fits (Nonterminal.closed (Closed.call n args level)) o side us (inl a) h =
      let place = places n args a.rule a.choice a.fits in
      let own : o ≡ Origin.alternative n (argument_list g.spelled args) place.0 =
      a.origin_is ∙ ap (λ c. origin_with (argument_list g.spelled args) c) place.1 in
      unrepeated (Nonterminal.closed (Closed.call n args level)) o us no_call
      (passed_fits o (Origin.alternative n (argument_list g.spelled args) place.0) us own refl)
    where
      no_call : IsRepeated (Nonterminal.closed (Closed.call n args level)) → ⊥
      no_call r = let e = r.1 in absurd (cc)
  choice_fits (Nonterminal.closed (Closed.call n args level)) o side us (inr b) h =
      let one = one_fits _ side us b.side_is h in
      unrepeated (Nonterminal.closed (Closed.call n args level)) o us no_call
      (passed_fits o Origin.pass_down us b.origin_is (one.1 ∙ ap (λ l. first_tree (trees l) ∷ []) (sym one.1)))
    where
      no_call : IsRepeated (Nonterminal.closed (Closed.call n args level)) → ⊥
      no_call r = let e = r.1 in absurd (cc)
  choice_fits (Nonterminal.closed (Closed.repeat Op.plus x)) o side us (inl a) h =
      let one = one_fits _ side us a.1 h in
      let tree : tree_by_origin o (trees us) ≡ Tree.list (trees us) = ap (λ c. tree_by_origin c (trees us)) a.0 in
      (passed_fits o Origin.plus_one us a.0 (one.0, one.1, ap (λ l. Tree.list (trees l)) one.1), λ r. (us, tree))
  choice_fits (Nonterminal.closed (Closed.repeat Op.plus x)) o side us (inr b) h =
      let two = two_fit _ _ side us b.1 h in
      let more = more_fits us two.0 two.1 two.2 (two.3 (x, refl)) in (
        passed_fits o Origin.plus_more us b.0 more.0,
        λ r. subst (λ c. IsListTree (tree_by_origin c (trees us))) (sym b.0) more.1,
      )
  choice_fits (Nonterminal.closed (Closed.repeat Op.star x)) o side us (inl a) h =
      unrepeated (Nonterminal.closed (Closed.repeat Op.star x)) o us no_star
      (passed_fits o Origin.star_none us a.0 (none_fits side us a.1 h, refl))
    where
      no_star : IsRepeated (Nonterminal.closed (Closed.repeat Op.star x)) → ⊥
      no_star r = let e = r.1 in absurd (cc)
  choice_fits (Nonterminal.closed (Closed.repeat Op.star x)) o side us (inr b) h =
      let one = one_fits _ side us b.1 h in
      unrepeated (Nonterminal.closed (Closed.repeat Op.star x)) o us no_star
      (passed_fits o Origin.star_some us b.0 (one.1 ∙ ap (λ l. first_tree (trees l) ∷ []) (sym one.1)))
    where
      no_star : IsRepeated (Nonterminal.closed (Closed.repeat Op.star x)) → ⊥
      no_star r = let e = r.1 in absurd (cc)
  choice_fits (Nonterminal.closed (Closed.repeat Op.question x)) o side us (inl a) h =
      unrepeated (Nonterminal.closed (Closed.repeat Op.question x)) o us no_question
      (passed_fits o Origin.opt_none us a.0 (none_fits side us a.1 h, refl))
    where
      no_question : IsRepeated (Nonterminal.closed (Closed.repeat Op.question x)) → ⊥
      no_question r = let e = r.1 in absurd (cc)
  choice_fits (Nonterminal.closed (Closed.repeat Op.question x)) o side us (inr b) h =
      let one = one_fits _ side us b.1 h in
      unrepeated (Nonterminal.closed (Closed.repeat Op.question x)) o us no_question
      (passed_fits o Origin.opt_some us b.0 (one.0, one.1, ap (λ l. Tree.opt_some (first_tree (trees l))) one.1))
    where
      no_question : IsRepeated (Nonterminal.closed (Closed.repeat Op.question x)) → ⊥
      no_question r = let e = r.1 in absurd (cc)
  choice_fits (Nonterminal.closed (Closed.group xs)) o side us m h =
      unrepeated (Nonterminal.closed (Closed.group xs)) o us no_group (passed_fits o Origin.group us m.0 refl)
    where
      no_group : IsRepeated (Nonterminal.closed (Closed.group xs)) → ⊥
      no_group r = let e = r.1 in absurd (cc)
  choice_fits (Nonterminal.closed Closed.lookahead) o side us m h =
      unrepeated (Nonterminal.closed Closed.lookahead) o us no_look
      (passed_fits o Origin.look us m.0 (none_fits side us m.1 h, refl))
    where
      no_look : IsRepeated (Nonterminal.closed Closed.lookahead) → ⊥
      no_look r = let e = r.1 in absurd (cc)
  choice_fits (Nonterminal.closed Closed.lookbehind) o side us m h =
      unrepeated (Nonterminal.closed Closed.lookbehind) o us no_look
      (passed_fits o Origin.look us m.0 (none_fits side us m.1 h, refl))
    where
      no_look : IsRepeated (Nonterminal.closed Closed.lookbehind) → ⊥
      no_look r = let e = r.1 in absurd (cc)
  choice_fits (Nonterminal.closed (Closed.terminal t)) o side us m h = absurd m
  choice_fits (Nonterminal.closed (Closed.choose x)) o side us m h = absurd m
  choice_fits (Nonterminal.closed (Closed.name b n x)) o side us m h = absurd m
  choice_fits (Nonterminal.closed Closed.faulty) o side us m h = absurd m

  -- `X+` isn't inlined
  not_inlined : (x : Nonterminal) → IsRepeated x → IsInlined g x → ⊥
  not_inlined x r i = subst (λ y. IsInlined g y) r.1 i

  -- trees that fit two sides, one behind the other
  record FitBoth (front rest : RightSide) (us : List Tree) : Type 0 where
    first : List Tree
    second : List Tree
    trees_are : us ≡ first ++ second
    fits : FitSide front first
    others : FitSide rest second

  fit_both : (front rest : RightSide) (us : List Tree) → FitSide (front ++ rest) us → FitBoth front rest us
  fit_both [] rest us h = record { first = []; second = us; trees_are = refl; fits = refl; others = h }
  fit_both (p ∷ front) rest us h =
      let b = fit_both front rest h.others h.rest in
      record {
        first = h.first ∷ b.first;
        second = b.second;
        trees_are = h.trees_are ∙ ap (λ l. h.first ∷ l) b.trees_are;
        fits = record { first = h.first; others = b.first; trees_are = refl; fits = h.fits; rest = b.fits };
        others = b.others;
      }

  -- What a label says of trees that fit its right side, and whatever comes behind.
  record LabelFits (label : ChoiceLabel) (x : Nonterminal) (us : List Tree) : Type 0 where
    tree : Tree
    is_kept : AreKeptBy label tree us
    fits : FitsSymbol (GrammarSymbol.nonterminal x) tree

  record AllFit (inlinings : ChoiceInlinings) (before : RightSide) (us : List Tree) : Type 0 where
    children : List Tree
    are_kept : AreAllKeptBy inlinings children us
    fit : FitSide before children

  mutual
    label_fits : (label : ChoiceLabel) (x : Nonterminal) (side : RightSide) (us : List Tree) →
        Inlines (Produces g) (IsInlined g) x label side → FitSide side us → LabelFits label x us
    label_fits (Label.choose y o inlinings) x side us m h =
        let a = all_fit inlinings m.1 side us m.3 h in
        let c = choice_fits x o m.1 a.children m.2 a.fit in
        record { tree = tree_by_origin o (trees a.children); is_kept = (a.children, c.0, a.are_kept); fits = c.1 }

    all_fit : (inlinings : ChoiceInlinings) (before side : RightSide) (us : List Tree) →
        InlinesAll (Produces g) (IsInlined g) before inlinings side → FitSide side us → AllFit inlinings before us
    all_fit Inlinings.none [] side us m h =
        record { children = []; are_kept = (refl, none_fits side us m h); fit = refl }
    all_fit (Inlinings.kept inlinings) [] side us m h = absurd m
    all_fit (Inlinings.inlined label inlinings) [] side us m h = absurd m
    all_fit Inlinings.none (p ∷ before) side us m h = absurd m
    all_fit (Inlinings.kept inlinings) (p ∷ before) side us m h =
        let k : FitSide (p ∷ m.1) us = subst (λ s. FitSide s us) m.2 h in
        let a = all_fit inlinings before m.1 k.others m.3 k.rest in
        record {
          children = k.first ∷ a.children;
          are_kept = record {
            first = k.first;
            others = a.children;
            left = k.others;
            children_are = refl;
            trees_are = k.trees_are;
            rest = a.are_kept;
          };
          fit = record { first = k.first; others = a.children; trees_are = refl; fits = k.fits; rest = a.fit };
        }
    all_fit (Inlinings.inlined label inlinings) (GrammarSymbol.terminal t ∷ before) side us m h = absurd m
    all_fit (Inlinings.inlined label inlinings) (GrammarSymbol.nonterminal x ∷ before) side us m h =
        let b = fit_both m.1.front m.1.rest us (subst (λ s. FitSide s us) m.1.side_is h) in
        let l = label_fits label x m.1.front b.first m.1.is_front b.fits in
        let a = all_fit inlinings before m.1.rest b.second m.1.is_rest b.others in
        record {
          children = l.tree ∷ a.children;
          are_kept = record {
            first = l.tree;
            others = a.children;
            front = b.first;
            left = b.second;
            children_are = refl;
            trees_are = b.trees_are;
            kept = l.is_kept;
            rest = a.are_kept;
          };
          fit = record { first = l.tree; others = a.children; trees_are = refl; fits = l.fits; rest = a.fit };
        }

  module _ (prefix : Text) (G : theory.Production → Type 0) (e : AreExpansion g prefix G) where
    -- Trees over productions and the written trees that they are of, which fit the symbols.
    record TreesFit (side : RightSide) (ts : SpannedForest) : Type 0 where
      written : List Tree
      are_of : AreTreesOf e.label_of ts written
      fit : FitSide side written

    trees_fit : (side : RightSide) (ts : SpannedForest) → HoldsInside (InExpansion g) side →
        roots (without_spans ts) ≡ theory_side e.name_of side → AreOver G (without_spans ts) → TreesFit side ts
    trees_fit [] none_at i r o = record { written = []; are_of = refl; fit = refl }
    trees_fit [] (leaf_at t span ts) i r o = cc
    trees_fit [] (node_at p cs ts) i r o = cc
    trees_fit (q ∷ side) none_at i r o = cc
    trees_fit (GrammarSymbol.terminal u ∷ side) (leaf_at t span ts) i r o =
        let rest = trees_fit side ts (λ y a. i y (inr a)) (cc) o in
        record {
          written = Tree.terminal (leaf_token t span) ∷ rest.written;
          are_of = (rest.written, refl, rest.are_of);
          fit = record {
            first = Tree.terminal (leaf_token t span);
            others = rest.written;
            trees_are = refl;
            fits = tt;
            rest = rest.fit;
          };
        }
    trees_fit (GrammarSymbol.nonterminal x ∷ side) (leaf_at t span ts) i r o = cc
    trees_fit (GrammarSymbol.terminal u ∷ side) (node_at p cs ts) i r o = cc
    trees_fit (GrammarSymbol.nonterminal x ∷ side) (node_at p cs ts) i r o =
        let left : p.left ≡ e.name_of x = cc in
        let m = production_of g (IsInlined g) prefix G e p x o.0 (i x (inl refl)) left in
        let below = trees_fit m.side cs m.inside (o.1 ∙ m.right_is) o.2 in
        let l = label_fits (e.label_of p.action) x m.side below.written m.inlined below.fit in
        let rest = trees_fit side ts (λ y a. i y (inr a)) (cc) o.3 in
        record {
          written = l.tree ∷ rest.written;
          are_of = record {
            first = l.tree;
            kept = below.written;
            others = rest.written;
            trees_are = refl;
            are_kept = l.is_kept;
            children = below.are_of;
            rest = rest.are_of;
          };
          fit = record { first = l.tree; others = rest.written; trees_are = refl; fits = l.fits; rest = rest.fit };
        }

    -- the written trees of trees over the productions are taken apart to these trees
    pub trees_are_of : (side : RightSide) (ts : SpannedForest) → HoldsInside (InExpansion g) side →
        roots (without_spans ts) ≡ theory_side e.name_of side → AreOver G (without_spans ts) →
        AreTreesOf e.label_of ts (shown_trees e.label_of ts)
    trees_are_of side ts i r o =
        let f = trees_fit side ts i r o in
        subst (λ l. AreTreesOf e.label_of ts l) (sym (trees_shown e.label_of ts f.written f.are_of)) f.are_of
