-- Where the productions of each flat label stand: the last of them counts. For the table of labels.
use Rattle.std.specs.Prelude.{ℕ, ◌+◌, List, [], ◌∷◌, ◌++◌, Bool, Option, Some, None, Vec, flat_map, if◌then◌else◌, length}
use Rattle.std.specs.Cmp.Lexicographic.{pointwise}
use Rattle.std.specs.HashMap.{get}
use Rattle.std.specs.declared.alloc.Global.{Global}
use Rattle.lalrpop_grammar_repr.specs.declared.action.ActionFnDefn.{ActionFnDefn}
use Rattle.lalrpop_grammar_repr.specs.declared.grammar.Grammar.{Grammar}
use Rattle.lalrpop_grammar_repr.specs.declared.production.Production.{Production}
use Rattle.lalrpop_run_trees.specs.FlatLabels.{flat_of}
use Rattle.lalrpop_run_trees.specs.declared.flat_labels.label_table.LabelTable.{LabelTable}
use Rattle.lalrpop_run_trees.specs.declared.flat_labels.mark.LabelMark.{LabelMark}
use Rattle.lalrpop_run_trees.specs.contracts.flat_labels.mark.LabelMarkPartialEq.TheImpl as equal_marks

-- whether two flat labels are the same, mark by mark
abbrev pub same_label : List LabelMark → List LabelMark → Bool
same_label = pointwise (equal_marks.ghosts).eq

-- the place under a label, where there is one
abbrev pub place_under : Option (List LabelMark) → ℕ → List (List LabelMark × ℕ)
place_under None place = []
place_under (Some l) place = (l, place) ∷ []

-- the places of productions, the first of which stands at this one, under their labels
abbrev pub places_from : List ActionFnDefn → ℕ → ℕ → List Production → List (List LabelMark × ℕ)
places_from actions given at [] = []
places_from actions given at (p ∷ ps) =
    place_under (flat_of actions given p.action.0 (length p.symbols)) at ++ places_from actions given (at + 1) ps

-- those of all productions, nonterminal by nonterminal
abbrev pub label_places : Grammar → ℕ → List (List LabelMark × ℕ)
label_places g given = flat_map (λ e. places_from g.action_fn_defns given 0 e.1.productions) g.nonterminals

-- the last place under the label, where there is one, and else the one before
abbrev pub place_from_here : Option ℕ → List LabelMark → List (List LabelMark × ℕ) → Option ℕ
place_from_here before l [] = before
place_from_here before l (e ∷ es) = place_from_here (if same_label e.0 l then Some e.1 else before) l es

abbrev pub last_place : List LabelMark → List (List LabelMark × ℕ) → Option ℕ
last_place l es = place_from_here None l es

-- what a table keeps under the label
abbrev pub kept_place : LabelTable → Vec LabelMark Global → Option ℕ
kept_place t l = get (λ (x y : Vec LabelMark Global). same_label x.items y.items) t.places l
