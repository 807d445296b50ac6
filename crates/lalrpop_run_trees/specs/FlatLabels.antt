-- Flat labels: the given actions of which the action of a production is made, in reading order, and a mark for each symbol that was kept.
use Rattle.std.specs.Prelude.{ℕ, zero, suc, List, [], ◌∷◌, ◌++◌, Option, Some, None, Vec, if◌then◌else◌, length, nat_lt, option_map, replicate, slice_get}
use Rattle.std.specs.Option.{option_and_then}
use Rattle.std.specs.declared.alloc.Global.{Global}
use Rattle.lalrpop_grammar_repr.specs.declared.action.ActionFnDefn.{ActionFnDefn}
use Rattle.lalrpop_grammar_repr.specs.declared.action.ActionFnDefnKind.{ActionFnDefnKind}
use Rattle.lalrpop_grammar_repr.specs.declared.action.ActionFnDefnKind.TheVariants as kinds
use Rattle.lalrpop_grammar_repr.specs.declared.action.InlineActionFnDefn.{InlineActionFnDefn}
use Rattle.lalrpop_grammar_repr.specs.declared.action.InlinedSymbol.{InlinedSymbol}
use Rattle.lalrpop_grammar_repr.specs.declared.action.InlinedSymbol.TheVariants as symbols
use Rattle.lalrpop_run_trees.specs.declared.flat_labels.mark.LabelMark.{LabelMark}
use Rattle.lalrpop_run_trees.specs.declared.flat_labels.mark.LabelMark.TheVariants as marks

-- the record of a kind
abbrev pub record_in : ActionFnDefnKind → Option InlineActionFnDefn
record_in (kinds.User code) = None
record_in (kinds.Inline i) = Some i
record_in (kinds.Lookaround look) = None

-- the record of the action with this number, where it has one
abbrev pub record_at : List ActionFnDefn → ℕ → Option InlineActionFnDefn
record_at actions k = option_and_then (λ (d : ActionFnDefn). record_in d.kind) (slice_get actions k)

-- what stands for a symbol of a record whose actions are below this one, by the flat labels of these actions for so many symbols
abbrev pub entry_marks : (ℕ → ℕ → Option (List LabelMark)) → ℕ → InlinedSymbol → Option (List LabelMark)
entry_marks flat below (symbols.Original s) = Some (marks.Kept ∷ [])
entry_marks flat below (symbols.Inlined action side) = if nat_lt action.0 below then flat action.0 (length side) else None

-- a flat label with what stands for the symbols of a record put in, one for each symbol that was kept
abbrev pub put_marks : (ℕ → ℕ → Option (List LabelMark)) → ℕ → List InlinedSymbol → List LabelMark → Option (List LabelMark)
put_marks flat below [] [] = Some []
put_marks flat below (s ∷ rest) [] = None
put_marks flat below entries (marks.Given k ∷ outer) = option_map (λ made. marks.Given k ∷ made) (put_marks flat below entries outer)
put_marks flat below [] (marks.Kept ∷ outer) = None
put_marks flat below (s ∷ rest) (marks.Kept ∷ outer) =
    option_and_then (λ e. option_map (λ made. e ++ made) (put_marks flat below rest outer)) (entry_marks flat below s)

-- that of an action with this record, by the flat labels of the actions below it
abbrev pub made_marks : (ℕ → ℕ → Option (List LabelMark)) → ℕ → Option InlineActionFnDefn → Option (List LabelMark)
made_marks flat k None = None
made_marks flat k (Some i) =
    if nat_lt i.action.0 k then option_and_then (put_marks flat k i.symbols) (flat i.action.0 (length i.symbols)) else None

-- that of an action, by so many steps from made actions to those below them
abbrev pub flat_within : ℕ → List ActionFnDefn → ℕ → ℕ → ℕ → Option (List LabelMark)
flat_within zero actions given k count = None
flat_within (suc steps) actions given k count =
    if nat_lt k given then Some (marks.Given k ∷ replicate count marks.Kept)
    else made_marks (flat_within steps actions given) k (record_at actions k)

-- the flat label of the action of a production with so many symbols, of which the first so many are given; none where inlining makes no such action
abbrev pub flat_of : List ActionFnDefn → ℕ → ℕ → ℕ → Option (List LabelMark)
flat_of actions given k count = flat_within (suc k) actions given k count

abbrev pub marks_in : Option (Vec LabelMark Global) → Option (List LabelMark)
marks_in = option_map (λ v. v.items)
