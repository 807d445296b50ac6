-- When an action has no record; for the code.
use Rattle.std.proofs.Common.{◌≡◌, ℕ, List, None, Some, ap, refl, sym, ◌∙◌}
use Rattle.std.specs.Prelude.{Option, slice_get}
use Rattle.lalrpop_grammar_repr.specs.declared.action.ActionFnDefn.{ActionFnDefn}
use Rattle.lalrpop_grammar_repr.specs.declared.action.ActionFnDefnKind.TheVariants as kinds
use Rattle.lalrpop_grammar_repr.specs.declared.action.InlineActionFnDefn.{InlineActionFnDefn}
use Rattle.lalrpop_grammar_repr.specs.declared.action.ActionFnDefnKind.{ActionFnDefnKind}
use Rattle.lalrpop_run_trees.specs.ActionLabels.{IsRecordOf}
use Rattle.lalrpop_run_trees.specs.FlatLabels.{record_in}

-- an action number at which no definition stands has no record
pub no_definition : (actions : List ActionFnDefn) (k : ℕ) → slice_get actions k ≡ None → (i : InlineActionFnDefn) →
    IsRecordOf actions k i → ⊥
no_definition actions k e i is = never is.definition (sym is.at ∙ e)
  where
    never : (d : ActionFnDefn) → ◌≡◌ {A = Option ActionFnDefn} (Some d) None → ⊥
    never d h = absurd (cc)

-- an action whose definition isn't one that inlining added has no record
pub no_inline : (actions : List ActionFnDefn) (k : ℕ) (d : ActionFnDefn) → slice_get actions k ≡ Some d →
    ((i : InlineActionFnDefn) → d.kind ≡ kinds.Inline i → ⊥) → (i : InlineActionFnDefn) → IsRecordOf actions k i → ⊥
no_inline actions k d at other i is = other i (ap (λ e. e.kind) (same d is.definition (sym at ∙ is.at)) ∙ is.kind_is)
  where
    same : (c e : ActionFnDefn) → ◌≡◌ {A = Option ActionFnDefn} (Some c) (Some e) → c ≡ e
    same c e h = cc

-- a kind that isn't one that inlining added has no record
pub no_record_in : (kind : ActionFnDefnKind) → ((i : InlineActionFnDefn) → kind ≡ kinds.Inline i → ⊥) → record_in kind ≡ None
no_record_in (kinds.User code) other = refl
no_record_in (kinds.Inline i) other = absurd (other i refl)
no_record_in (kinds.Lookaround look) other = refl
