-- What follows where an action tells a label: how many symbols it keeps, and what its tree is by the parts of its record; for the code.
use Rattle.std.proofs.Common.{◌≡◌, ◌+◌, ◌<◌, ℕ, suc, List, [], ◌∷◌, ◌++◌, length, refl, ap, ap₂}
use Rattle.std.proofs.Common.{sym, ◌∙◌, arith}
use Rattle.std.proofs.Common.{subst}
use Rattle.std.specs.Prelude.{None, Option, Some, drop, slice_get}
use Rattle.std.proofs.lemmas.Option.{slice_get_within}
use Rattle.lalrpop_grammar.specs.Trees.{Tree, trees}
use Rattle.lalrpop_grammar.specs.Views.{origin_view}
use Rattle.lalrpop_grammar.specs.declared.origin.Origin as choices
use Rattle.lalrpop_grammar_language.specs.Derivations.{tree_by_origin}
use Rattle.lalrpop_grammar_repr.specs.declared.action.ActionFnDefn.{ActionFnDefn}
use Rattle.lalrpop_grammar_repr.specs.declared.action.ActionFnDefnKind.TheVariants as kinds
use Rattle.lalrpop_grammar_repr.specs.declared.action.InlineActionFnDefn.{InlineActionFnDefn}
use Rattle.lalrpop_grammar_repr.specs.declared.action.InlinedSymbol.{InlinedSymbol}
use Rattle.lalrpop_grammar_repr.specs.declared.action.InlinedSymbol.TheVariants as inlined
use Rattle.lalrpop_grammar_repr.specs.declared.action.ActionFn.{ActionFn}
use Rattle.lalrpop_grammar_repr.specs.declared.production.Symbol.{Symbol}
use Rattle.lalrpop_grammar_language.specs.Labels.{Inlinings}
use Rattle.lalrpop_run_trees.specs.ActionLabels.{ChoiceInlinings, ChoiceLabel, IsRecordOf, TellEntries, TellsLabel, all_kept}
use Rattle.lalrpop_run_trees.specs.ActionLabels.{kept_count, kept_counts, symbols_after_entry}
use Rattle.lalrpop_run_trees.specs.LabelledTrees.{tree_by_label, trees_by_inlinings}
use Rattle.lalrpop_run_trees.proofs.FillLemmas.{all_kept_count, filled_count, filled_tree, symbol_count}
use Rattle.lalrpop_run_trees.proofs.FrontLemmas.{kept_trees}

-- entries are for as many symbols as the record has
pub entries_for : (actions : List ActionFnDefn) (origins : List choices.Origin) (below : ℕ) (symbols : List InlinedSymbol)
    (count : ℕ) (entries : ChoiceInlinings) → TellEntries actions origins below symbols count entries →
    symbol_count entries ≡ length symbols
entries_for actions origins below symbols count entries (TellEntries.none b) = refl
entries_for actions origins below symbols count entries (TellEntries.kept b s rest n es h) =
    ap suc (entries_for actions origins b rest n es h)
entries_for actions origins below symbols count entries (TellEntries.inlined b action side label rest n es less t h) =
    ap suc (entries_for actions origins b rest n es h)

mutual
  -- a label keeps as many symbols as its production has
  pub told_count : (actions : List ActionFnDefn) (origins : List choices.Origin) (k count : ℕ) (label : ChoiceLabel) →
      TellsLabel actions origins k count label → kept_count label ≡ count
  told_count actions origins k count label (TellsLabel.given k2 n x o at) = all_kept_count n
  told_count actions origins k count label (TellsLabel.made k2 n d i outer entries from at kind less told tell) =
      filled_count outer entries
      (entries_for actions origins k2 i.symbols n entries tell
      ∙ sym (told_count actions origins i.action.0 (length i.symbols) outer told))
      ∙ entries_count actions origins k2 i.symbols n entries tell

  entries_count : (actions : List ActionFnDefn) (origins : List choices.Origin) (below : ℕ) (symbols : List InlinedSymbol)
      (count : ℕ) (entries : ChoiceInlinings) → TellEntries actions origins below symbols count entries →
      kept_counts entries ≡ count
  entries_count actions origins below symbols count entries (TellEntries.none b) = refl
  entries_count actions origins below symbols count entries (TellEntries.kept b s rest n es h) =
      ap suc (entries_count actions origins b rest n es h)
  entries_count actions origins below symbols count entries (TellEntries.inlined b action side label rest n es less t h) =
      ap₂ (λ a c. a + c) (told_count actions origins action.0 (length side) label t) (entries_count actions origins b rest n es h)

-- the tree of a given action is that of its choice
pub given_node : (actions : List ActionFnDefn) (origins : List choices.Origin) (k count : ℕ) (label : ChoiceLabel) →
    TellsLabel actions origins k count label → (o : choices.Origin) → slice_get origins k ≡ Some o → (ts : List Tree) →
    count ≡ length ts → tree_by_label label ts ≡ tree_by_origin (origin_view o) (trees ts)
given_node actions origins k count label (TellsLabel.given k2 n x o at) p e ts c =
    let same : o ≡ p = cc in
    ap₂ (λ c l. tree_by_origin (origin_view c) (trees l)) same
    (ap (λ m. trees_by_inlinings (all_kept m) ts) c ∙ kept_trees ts)
given_node actions origins k count label (TellsLabel.made k2 n d i outer entries from at kind less told tell) p e ts c =
    absurd (omega (arith, from, slice_get_within origins k2 p e))

-- What an action that inlining added is made of, and its tree by these parts.
pub record IsMadeNode (actions : List ActionFnDefn) (origins : List choices.Origin) (k count : ℕ) (label : ChoiceLabel) : Type 0 where
  pub record_of : InlineActionFnDefn
  pub is_record : IsRecordOf actions k record_of
  pub less : record_of.action.0 < k
  pub outer : ChoiceLabel
  pub entries : ChoiceInlinings
  pub outer_told : TellsLabel actions origins record_of.action.0 (length record_of.symbols) outer
  pub entries_told : TellEntries actions origins k record_of.symbols count entries
  pub tree_is : (ts : List Tree) → tree_by_label label ts ≡ tree_by_label outer (trees_by_inlinings entries ts)

-- an action that tells a label and has no origin was added by inlining, and its record tells its parts
pub made_node : (actions : List ActionFnDefn) (origins : List choices.Origin) (k count : ℕ) (label : ChoiceLabel) →
    TellsLabel actions origins k count label → slice_get origins k ≡ None → IsMadeNode actions origins k count label
made_node actions origins k count label (TellsLabel.given k2 n x o at) e = absurd (cc)
made_node actions origins k count label (TellsLabel.made k2 n d i outer entries from at kind less told tell) e =
    record {
      record_of = i;
      is_record = record { definition = d; at = at; kind_is = kind };
      less = less;
      outer = outer;
      entries = entries;
      outer_told = told;
      entries_told = tell;
      tree_is = λ ts. filled_tree outer entries ts
          (entries_for actions origins k2 i.symbols n entries tell
          ∙ sym (told_count actions origins i.action.0 (length i.symbols) outer told));
    }

-- an action has one record
pub one_record : (actions : List ActionFnDefn) (k : ℕ) (i j : InlineActionFnDefn) → IsRecordOf actions k i →
    IsRecordOf actions k j →
    i ≡ j
one_record actions k i j a b =
    let same : a.definition ≡ b.definition = some_one a.definition b.definition (sym a.at ∙ b.at) in
    let kinds_same : kinds.Inline i ≡ kinds.Inline j = sym a.kind_is ∙ ap (λ d. d.kind) same ∙ b.kind_is in
    cc
  where
    some_one : (c d : ActionFnDefn) → ◌≡◌ {A = Option ActionFnDefn} (Some c) (Some d) → c ≡ d
    some_one c d e = cc

-- The entries of a record in two parts: that of its first symbol, and the others.
pub record AreParted (actions : List ActionFnDefn) (origins : List choices.Origin) (below : ℕ) (s : InlinedSymbol)
    (rest : List InlinedSymbol) (count : ℕ) (entries : ChoiceInlinings) : Type 0 where
  pub first : ChoiceInlinings
  pub others : ChoiceInlinings
  pub other_count : ℕ
  pub first_told : TellEntries actions origins below (s ∷ []) (symbols_after_entry s) first
  pub others_told : TellEntries actions origins below rest other_count others
  pub count_is : count ≡ symbols_after_entry s + other_count
  pub trees_are : (ts : List Tree) → trees_by_inlinings entries ts
      ≡ trees_by_inlinings first ts ++ trees_by_inlinings others (drop (symbols_after_entry s) ts)

kept_trees_parted : (entries : ChoiceInlinings) (ts : List Tree) →
    trees_by_inlinings (Inlinings.kept entries) ts
    ≡ trees_by_inlinings (Inlinings.kept Inlinings.none) ts ++ trees_by_inlinings entries (drop 1 ts)
kept_trees_parted entries [] = refl
kept_trees_parted entries (t ∷ ts) = refl

-- the entries of a record fall into that of its first symbol and those of the others
pub parted : (actions : List ActionFnDefn) (origins : List choices.Origin) (below : ℕ) (s : InlinedSymbol)
    (rest : List InlinedSymbol) (count : ℕ) (entries : ChoiceInlinings) →
    TellEntries actions origins below (s ∷ rest) count entries → AreParted actions origins below s rest count entries
parted actions origins below s rest count entries (TellEntries.kept b s2 rest2 n es h) =
    record {
      first = Inlinings.kept Inlinings.none;
      others = es;
      other_count = n;
      first_told = TellEntries.kept below s2 [] 0 Inlinings.none (TellEntries.none below);
      others_told = h;
      count_is = omega arith;
      trees_are = λ ts. kept_trees_parted es ts;
    }
parted actions origins below s rest count entries (TellEntries.inlined b action side label rest2 n es less t h) =
    record {
      first = Inlinings.inlined label Inlinings.none;
      others = es;
      other_count = n;
      first_told = subst (λ c. TellEntries actions origins below (inlined.Inlined action side ∷ []) c
          (Inlinings.inlined label Inlinings.none)) (omega arith)
          (TellEntries.inlined below action side label [] 0 Inlinings.none less t (TellEntries.none below));
      others_told = h;
      count_is = refl;
      trees_are = λ ts. ap (λ c. tree_by_label label ts ∷ trees_by_inlinings es (drop c ts))
          (told_count actions origins action.0 (length side) label t);
    }

-- where no symbol is left, no entry is
pub no_entry : (actions : List ActionFnDefn) (origins : List choices.Origin) (below count : ℕ) (entries : ChoiceInlinings) →
    TellEntries actions origins below [] count entries → (count ≡ 0) × (entries ≡ Inlinings.none)
no_entry actions origins below count entries (TellEntries.none b) = (refl, refl)

-- the one entry of a symbol that was kept
pub kept_entry : (actions : List ActionFnDefn) (origins : List choices.Origin) (below : ℕ) (s : Symbol) (count : ℕ)
    (entries : ChoiceInlinings) → TellEntries actions origins below (inlined.Original s ∷ []) count entries →
    (count ≡ 1) × (entries ≡ Inlinings.kept Inlinings.none)
kept_entry actions origins below s count entries (TellEntries.kept b s2 rest n es h) =
    let none_left = no_entry actions origins below n es h in
    (ap suc none_left.0, ap Inlinings.kept none_left.1)

-- The one entry of a symbol that was inlined.
pub record IsInlinedEntry (actions : List ActionFnDefn) (origins : List choices.Origin) (below : ℕ) (action : ActionFn)
    (side : List Symbol) (count : ℕ) (entries : ChoiceInlinings) : Type 0 where
  pub label : ChoiceLabel
  pub less : action.0 < below
  pub told : TellsLabel actions origins action.0 (length side) label
  pub count_is : count ≡ length side
  pub entries_are : entries ≡ Inlinings.inlined label Inlinings.none

-- of one symbol that was inlined there is one entry, with the label that its action tells
pub inlined_entry : (actions : List ActionFnDefn) (origins : List choices.Origin) (below : ℕ) (action : ActionFn)
    (side : List Symbol) (count : ℕ) (entries : ChoiceInlinings) →
    TellEntries actions origins below (inlined.Inlined action side ∷ []) count entries →
    IsInlinedEntry actions origins below action side count entries
inlined_entry actions origins below action side count entries (TellEntries.inlined b a2 side2 label rest n es less t h) =
    let none_left = no_entry actions origins below n es h in
    record {
      label = label;
      less = less;
      told = t;
      count_is = omega (arith, none_left.0);
      entries_are = ap (Inlinings.inlined label) none_left.1;
    }
