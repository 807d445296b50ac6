-- Paths that fit a lookahead: which are passed over, and what a call gives.
use Rattle.std.proofs.Common.{◌≡◌, ◌∙◌, ◌↔◌, ◌<◌, ◌≤◌, ℕ, suc, Bool, true, false, List, [], ◌∷◌, ◌++◌, map, length, drop, refl, sym, ap, subst, ⊎_elim, arith}
use Rattle.std.proofs.Common.{Option, None, Some, append_assoc}
use Rattle.std.specs.Prelude.{IsFalse, IsTrue, Result, Ok, Err, ◌&&◌}
use Rattle.std.specs.declared.alloc.AllocError.{AllocError}
use Rattle.std.proofs.lemmas.List.Elements.{Contains-append_cases}
use Rattle.std.specs.Borrow.{Bor}
use Rattle.std.proofs.lemmas.List.{append-nil}
use Rattle.lalrpop_grammar_repr.specs.declared.grammar.Grammar.{Grammar}
use Rattle.lalrpop_grammar_repr.specs.declared.production.Production.{Production}
use Rattle.lalrpop_lr1_core.specs.declared.item.Item.{Item}
use Rattle.lalrpop_lr1_theory.proofs.ListLemmas.{contains_split}
use Rattle.lalrpop_lr1_theory.proofs.NameLemmas.{no_element}
use Rattle.lalrpop_lr1_core.specs.Views.{production_symbol_view}
use Rattle.lalrpop_lr1_first.specs.FirstSetsOf.{AreFirstSetsOf, IsFirstSet}
use Rattle.lalrpop_sets.specs.AscendingLists.{has}
use Rattle.lalrpop_lane_report.specs.declared.traces.example.Example.{Example}
use Rattle.lalrpop_lane_report.specs.Enumerators.{EnumeratorView, GivesExample, TracePath}
use Rattle.lalrpop_lane_report.specs.Examples.{IsExample, labels_of, next_symbols}
use Rattle.lalrpop_lane_report.specs.FittingPaths.{FilterView, FitsPath, GivesFitting, HasFitInFront, NoneFits, SkipsUnfit}
use Rattle.lalrpop_lane_report.specs.TraceGraphs.{GraphView}
use Rattle.lalrpop_lane_report.specs.TraceNodes.{graph_node_of, item_node}

-- what can come next meets the lookahead, or not
pub fits_by : (g : Grammar) (lookahead set : List ℕ) (p : TracePath) (b : Bool) →
    IsFirstSet g (map production_symbol_view (next_symbols (labels_of p))) set →
    (IsTrue b → (k : ℕ) × (has set k ≡ true) × (has lookahead k ≡ true)) → (IsFalse b → (k : ℕ) → (has set k && has lookahead k) ≡ false) →
    IsTrue b ↔ FitsPath g lookahead p
fits_by g lookahead set p true first meets apart = (
  λ t. let k = meets refl in let f = (first k.0).0 k.1 in (k.0, f.0, k.2, f.1),
  λ f. refl,
)
fits_by g lookahead set p false first meets apart = (
  λ t. let z : false ≡ true = t in let w : ⊥ = cc in absurd w,
  λ f. absurd (never f.0 (has set f.0) (has lookahead f.0) (apart refl f.0) ((first f.0).1 (f.1, f.3)) f.2),
)
  where
    never : (k : ℕ) (a b : Bool) → (a && b) ≡ false → a ≡ true → b ≡ true → ⊥
    never k true true e x y = let w : ⊥ = cc in w
    never k true false e x y = let w : ⊥ = cc in w
    never k false b e x y = let w : ⊥ = cc in w

-- none is passed over, and one more is
pub skips_none : (g : Grammar) (lookahead : List ℕ) (ps : List TracePath) → SkipsUnfit g lookahead ps ps
skips_none g lookahead ps = record { passed = []; is = refl; none_fits = λ p c f. no_element p c }

pub skips_one : (g : Grammar) (lookahead : List ℕ) (old left next : List TracePath) (p : TracePath) (others : List TracePath) →
    SkipsUnfit g lookahead old left → left ≡ p ∷ others → next ≡ drop 1 left → (FitsPath g lookahead p → ⊥) → SkipsUnfit g lookahead old next
skips_one g lookahead old left next p others s is goes unfit =
    let rest : next ≡ others = goes ∙ ap (λ (l : List TracePath). drop 1 l) is in
    record {
      passed = s.passed ++ p ∷ [];
      is = s.is ∙ ap (λ l. s.passed ++ l) (is ∙ ap (λ l. p ∷ l) (sym rest)) ∙ sym (append_assoc s.passed (p ∷ []) next);
      none_fits = λ q c f. ⊎_elim (λ d. s.none_fits q d f)
          (λ d. ⊎_elim (λ e. unfit (subst (FitsPath g lookahead) (sym e) f)) (λ z. no_element q z) (contains_split p q [] d))
          (Contains-append_cases s.passed (p ∷ []) q c);
    }

-- no path is left
pub none_in_front : (g : Grammar) (lookahead : List ℕ) (ps : List TracePath) → (0 < length ps → ⊥) → HasFitInFront g lookahead ps
none_in_front g lookahead ps none p others is =
    let long : length ps ≡ suc (length others) = ap length is in absurd (none (omega (arith, long)))

-- what a call gives, once paths were passed over
pub fitting_given : (old new : FilterView) (middle : EnumeratorView) (result : Option (Result Example AllocError)) →
    middle.graph ≡ old.paths.graph → length middle.left ≤ length old.paths.left →
    ((g : Grammar) → AreFirstSetsOf g old.firsts → old.terminals ≡ g.terminals →
    SkipsUnfit g old.lookahead old.paths.left middle.left × HasFitInFront g old.lookahead middle.left) →
    GivesExample middle result new.paths → new ≡ record old { paths = new.paths } → GivesFitting old result new
fitting_given old new middle None same shorter skips gives frame = (
  gives.1,
  λ g firsts terminals.
      let s = (skips g firsts terminals).0 in
      subst (NoneFits g old.lookahead) (sym (s.is ∙ ap (λ l. s.passed ++ l) gives.0 ∙ append-nil s.passed)) s.none_fits,
  frame,
  gives.2 ∙ same,
)
fitting_given old new middle (Some (Ok example)) same shorter skips gives frame =
    let long : length middle.left ≡ suc (length new.paths.left) = ap length gives.1 in (
      gives.0,
      subst (λ (graph : GraphView). IsExample graph.nodes gives.0 example) same gives.2,
      λ g firsts terminals.
          let both = skips g firsts terminals in
          record {
            passed = both.0.passed;
            is = both.0.is ∙ ap (λ l. both.0.passed ++ l) gives.1;
            none_fits = both.0.none_fits;
            fits = both.1 gives.0 new.paths.left gives.1;
          },
      omega (arith, long, shorter),
      frame,
      gives.3 ∙ same,
    )
fitting_given old new middle (Some (Err fault)) same shorter skips gives frame =
    let some = gives.0 in (omega (arith, some, shorter), gives.1, frame, gives.2 ∙ same)

-- an item with and without its lookahead is one node
pub same_node : {L M : Type 0} (a : Item L) (b : Item M) → a.production ≡ b.production → a.index ≡ b.index → graph_node_of a ≡ graph_node_of b
same_node a b same at =
    ap (λ (p : Bor Production). item_node p.now a.index) same ∙ ap (item_node b.production.now) at
