-- What a table keeps under a label once a place is put under one. For the table of labels.
use Rattle.std.proofs.Common.{◌≡◌, ◌∷◌, [], ◌∙◌, ℕ, List, refl, ap, sym, arith, append-nil, append_assoc, length, ◌+◌, ◌++◌}
use Rattle.std.specs.Prelude.{Option, Some, if◌then◌else◌}
use Rattle.lalrpop_grammar_repr.specs.declared.action.ActionFnDefn.{ActionFnDefn}
use Rattle.lalrpop_grammar_repr.specs.declared.production.Production.{Production}
use Rattle.lalrpop_run_trees.specs.FlatLabels.{flat_of}
use Rattle.lalrpop_run_trees.specs.LabelTables.{place_from_here, place_under, places_from, same_label}
use Rattle.lalrpop_run_trees.specs.declared.flat_labels.mark.LabelMark.{LabelMark}

-- places behind others
pub after_more : (before : Option ℕ) (l : List LabelMark) (es fs : List (List LabelMark × ℕ))
    → place_from_here before l (es ++ fs) ≡ place_from_here (place_from_here before l es) l fs
after_more before l [] fs = refl
after_more before l (e ∷ es) fs = after_more (if same_label e.0 l then Some e.1 else before) l es fs

-- one production more
pub places_push : (actions : List ActionFnDefn) (given at : ℕ) (ps : List Production) (p : Production)
    → places_from actions given at (ps ++ p ∷ [])
    ≡ places_from actions given at ps ++ place_under (flat_of actions given p.action.0 (length p.symbols)) (at + length ps)
places_push actions given at [] p =
    append-nil (place_under (flat_of actions given p.action.0 (length p.symbols)) at)
    ∙ ap (place_under (flat_of actions given p.action.0 (length p.symbols))) (omega arith)
places_push actions given at (q ∷ ps) p =
    ap (λ r. place_under (flat_of actions given q.action.0 (length q.symbols)) at ++ r)
    (places_push actions given (at + 1) ps p
    ∙ ap (λ n. places_from actions given (at + 1) ps ++ place_under (flat_of actions given p.action.0 (length p.symbols)) n) (omega arith))
    ∙ sym (append_assoc (place_under (flat_of actions given q.action.0 (length q.symbols)) at) (places_from actions given (at + 1) ps)
    (place_under (flat_of actions given p.action.0 (length p.symbols)) (at + length (q ∷ ps))))
