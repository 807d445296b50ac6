-- What an enumerator shows at a path: whether there is one, what it tells, and what a call gives.
use Rattle.std.proofs.Common.{◌≡◌, ◌∙◌, ◌↔◌, ◌<◌, suc, Bool, true, false, List, [], ◌∷◌, ◌++◌, map, length, drop, refl, sym, ap, subst, arith}
use Rattle.std.proofs.Common.{Option, None, Some, slice_get}
use Rattle.std.specs.Borrow.{Bor}
use Rattle.std.specs.Option.{option_copied}
use Rattle.std.specs.Prelude.{IsTrue, Ok, not, ◌==◌}
use Rattle.std.proofs.lemmas.Bool.Decides.{Decides-eqb}
use Rattle.std.proofs.lemmas.List.{append-nil}
use Rattle.lalrpop_grammar_repr.specs.declared.production.Symbol.{Symbol}
use Rattle.lalrpop_lr1_theory.proofs.StepLemmas.{some_same}
use Rattle.lalrpop_lane_report.specs.declared.traces.example.Example.{Example}
use Rattle.lalrpop_lane_report.specs.declared.traces.example.ExampleSymbol.{ExampleSymbol}
use Rattle.lalrpop_lane_report.specs.declared.traces.path_enumerator.TakenEdge.{TakenEdge}
use Rattle.lalrpop_lane_report.specs.declared.traces.trace_graph.TraceGraphEdge.{TraceGraphEdge}
use Rattle.lalrpop_lane_report.specs.declared.traces.trace_graph.TraceGraphNode.{TraceGraphNode}
use Rattle.lalrpop_lane_report.specs.Enumerators.{EnumeratorView, GivesExample, TracePath}
use Rattle.lalrpop_lane_report.specs.Examples.{IsExample, at_cursor, cursor_symbols, example_symbols, labels_of, named_labels, joined_prefixes, reductions_over}
use Rattle.lalrpop_lane_report.specs.PathSteps.{enumerator_view, step_labels, step_path}
use Rattle.lalrpop_lane_report.specs.TraceNodes.{GraphNode, node_view}
use Rattle.lalrpop_lane_report.proofs.TurnLemmas.{first_left, first_of_list, left_some}

some_steps : (steps : List TakenEdge) (b : Bool) → b ≡ (length steps == 0) → IsTrue (not b) → 0 < length steps
some_steps [] true e t = let z : false ≡ true = t in let w : ⊥ = cc in absurd w
some_steps [] false e t = let w : ⊥ = cc in absurd w
some_steps (s ∷ steps) b e t = omega arith

steps_some : (steps : List TakenEdge) (b : Bool) → b ≡ (length steps == 0) → 0 < length steps → IsTrue (not b)
steps_some [] b e h = absurd (omega (arith, h))
steps_some (s ∷ steps) true e h =
    let z : suc (length steps) ≡ 0 = (Decides-eqb (suc (length steps)) 0).0 (sym e) in absurd (omega (arith, z))
steps_some (s ∷ steps) false e h = refl

-- there is a path where there are steps
pub found_is : (nodes : List TraceGraphNode) (edges : List TraceGraphEdge) (steps : List TakenEdge) (v : EnumeratorView) (b : Bool) →
    enumerator_view nodes edges steps ≡ v → b ≡ (length steps == 0) → IsTrue (not b) ↔ (0 < length v.left)
found_is nodes edges steps v b same e =
    let some = left_some nodes edges steps in (
      λ t. subst (λ (w : EnumeratorView). 0 < length w.left) same (some.1 (some_steps steps b e t)),
      λ h. steps_some steps b e (some.0 (subst (λ (w : EnumeratorView). 0 < length w.left) (sym same) h)),
    )

-- no path is found where none is left
pub none_found : (ps : List TracePath) (b : Bool) → IsTrue b ↔ (0 < length ps) → b ≡ false → ps ≡ []
none_found [] b found none = refl
none_found (p ∷ ps) true found none = let w : ⊥ = cc in absurd w
none_found (p ∷ ps) false found none = let z : false ≡ true = found.1 (omega arith) in let w : ⊥ = cc in absurd w

-- nothing is shown at the cursor of a finished production with symbols
pub nothing_shown : (out : List ExampleSymbol) (steps : List TakenEdge) (s : TakenEdge) (b : Bool) → Some s ≡ slice_get steps 0 →
    s.edge.now.labels.cursor ≡ None → b ≡ (length s.edge.now.labels.prefix.now == 0) → b ≡ false → out ≡ out ++ at_cursor (step_labels steps)
nothing_shown out [] s b at none e f = let w : ⊥ = cc in absurd w
nothing_shown out (x ∷ steps) s b at none e f =
    let same : s ≡ x = some_same s x at in
    sym (ap (λ (r : TakenEdge). out ++ cursor_symbols (option_copied r.edge.now.labels.cursor) r.edge.now.labels.prefix.now) (sym same)
    ∙ ap (λ l. out ++ l) (go s.edge.now.labels.cursor s.edge.now.labels.prefix.now none (sym e ∙ f)) ∙ append-nil out)
  where
    go : (cursor : Option (Bor Symbol)) (prefix : List Symbol) → cursor ≡ None → (length prefix == 0) ≡ false →
        cursor_symbols (option_copied cursor) prefix ≡ []
    go None [] n h = let w : ⊥ = cc in absurd w
    go None (p ∷ prefix) n h = refl
    go (Some y) prefix n h = let w : ⊥ = cc in absurd w

-- the example of the steps is that of the first path that is left
pub example_at : (nodes : List TraceGraphNode) (edges : List TraceGraphEdge) (steps lent : List TakenEdge) (v : EnumeratorView) (p : TracePath)
    (others : List TracePath) (example : Example) → enumerator_view nodes edges steps ≡ v → lent ≡ steps → v.left ≡ p ∷ others →
    example.symbols.items ≡ example_symbols (step_labels lent) → example.cursor ≡ length (joined_prefixes (step_labels lent)) →
    example.reductions.items ≡ reductions_over (length (at_cursor (step_labels lent))) (named_labels (map node_view nodes) (step_path lent)) →
    IsExample v.graph.nodes p example
example_at nodes edges steps lent v p others example same is left symbols cursor reductions =
    let path : step_path lent ≡ p =
    ap step_path is ∙ sym (first_left nodes edges steps p others (ap (λ (w : EnumeratorView). w.left) same ∙ left)) in
    let seen : map node_view nodes ≡ v.graph.nodes = ap (λ (w : EnumeratorView). w.graph.nodes) same in
    record {
      symbols = symbols ∙ ap (λ (q : TracePath). example_symbols (labels_of q)) path;
      cursor = cursor ∙ ap (λ (q : TracePath). length (joined_prefixes (labels_of q))) path;
      reductions = reductions
          ∙ ap (λ (q : TracePath). reductions_over (length (at_cursor (labels_of q))) (named_labels (map node_view nodes) q)) path
          ∙ ap (λ (ns : List GraphNode). reductions_over (length (at_cursor (labels_of p))) (named_labels ns p)) seen;
    }

-- a call gives the example of the first path
pub gives_first : (old new : EnumeratorView) (example : Example) → 0 < length old.left →
    ((p : TracePath) (others : List TracePath) → old.left ≡ p ∷ others → IsExample old.graph.nodes p example) → new.left ≡ drop 1 old.left →
    new.graph ≡ old.graph → GivesExample old (Some (Ok example)) new
gives_first old new example some is next same =
    let f = first_of_list old.left some in
    let rest : new.left ≡ f.1 = next ∙ ap (λ (l : List TracePath). drop 1 l) f.2 in
    (f.0, f.2 ∙ ap (λ l. f.0 ∷ l) (sym rest), is f.0 f.1 f.2, same)
