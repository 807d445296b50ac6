-- What filling a label by entries comes to: its tree is that of the label over the trees of the entries, and it keeps what these keep; for
-- the trees of actions that inlining adds.
use Rattle.std.proofs.Common.{◌≡◌, ◌+◌, ℕ, zero, suc, List, [], ◌∷◌, refl, ap, ap₂, sym, ◌∙◌, arith}
use Rattle.std.specs.Prelude.{drop}
use Rattle.std.proofs.lemmas.List.{drop-drop}
use Rattle.std.proofs.Math.Seq.{drop-nil}
use Rattle.lalrpop_grammar.specs.Trees.{Tree, trees}
use Rattle.lalrpop_grammar.specs.WrittenGrammar.{Origin}
use Rattle.lalrpop_grammar_language.specs.Expansion.{Nonterminal}
use Rattle.lalrpop_grammar_language.specs.Derivations.{tree_by_origin}
use Rattle.lalrpop_grammar_language.specs.Labels.{Inlinings, Label}
use Rattle.lalrpop_run_trees.specs.ActionLabels.{ChoiceInlinings, ChoiceLabel, all_kept, fill_all_by_entries, fill_by_entries}
use Rattle.lalrpop_run_trees.specs.ActionLabels.{kept_count, kept_counts, label_of_entries}
use Rattle.lalrpop_run_trees.specs.LabelledTrees.{tree_by_label, trees_by_inlinings}

-- for how many symbols there are entries
abbrev pub symbol_count : ChoiceInlinings → ℕ
symbol_count Inlinings.none = 0
symbol_count (Inlinings.kept entries) = suc (symbol_count entries)
symbol_count (Inlinings.inlined label entries) = suc (symbol_count entries)

-- What a filled label makes of trees, and what is left: of the entries, and of the trees.
record Fills (label : ChoiceLabel) (entries : ChoiceInlinings) (ts : List Tree) (left : ℕ) : Type 0 where
  tree_is : tree_by_label (fill_by_entries label entries).0 ts ≡ tree_by_label label (trees_by_inlinings entries ts)
  rest_is : trees_by_inlinings (fill_by_entries label entries).1 (drop (kept_count (fill_by_entries label entries).0) ts)
      ≡ drop (kept_count label) (trees_by_inlinings entries ts)
  left_is : symbol_count (fill_by_entries label entries).1 ≡ left
  count_is : kept_count (fill_by_entries label entries).0 + kept_counts (fill_by_entries label entries).1 ≡ kept_counts entries

-- the same of what a label says of symbols
record FillAll (inlinings : ChoiceInlinings) (entries : ChoiceInlinings) (ts : List Tree) (left : ℕ) : Type 0 where
  trees_are : trees_by_inlinings (fill_all_by_entries inlinings entries).0 ts
      ≡ trees_by_inlinings inlinings (trees_by_inlinings entries ts)
  rest_is : trees_by_inlinings (fill_all_by_entries inlinings entries).1
      (drop (kept_counts (fill_all_by_entries inlinings entries).0) ts)
      ≡ drop (kept_counts inlinings) (trees_by_inlinings entries ts)
  left_is : symbol_count (fill_all_by_entries inlinings entries).1 ≡ left
  count_is : kept_counts (fill_all_by_entries inlinings entries).0 + kept_counts (fill_all_by_entries inlinings entries).1
      ≡ kept_counts entries

-- one more symbol that is kept, by an entry that keeps it
kept_by_kept : (inlinings entries : ChoiceInlinings) (ts : List Tree) (left : ℕ) →
    ((us : List Tree) → FillAll inlinings entries us left) → FillAll (Inlinings.kept inlinings) (Inlinings.kept entries) ts left
kept_by_kept inlinings entries [] left others =
    let o = others [] in
    record {
      trees_are = ap (λ l. Tree.opt_none ∷ l) o.trees_are;
      rest_is =
          ap (λ l. trees_by_inlinings (fill_all_by_entries inlinings entries).1 l)
          (drop-nil {A = Tree} (suc (kept_counts (fill_all_by_entries inlinings entries).0))
          ∙ sym (drop-nil {A = Tree} (kept_counts (fill_all_by_entries inlinings entries).0)))
          ∙ o.rest_is;
      left_is = o.left_is;
      count_is = omega (arith, o.count_is);
    }
kept_by_kept inlinings entries (t ∷ ts) left others =
    let o = others ts in
    record {
      trees_are = ap (λ l. t ∷ l) o.trees_are;
      rest_is = o.rest_is;
      left_is = o.left_is;
      count_is = omega (arith, o.count_is);
    }

-- and by an entry that inlines it
kept_by_inlined : (inlinings : ChoiceInlinings) (label : ChoiceLabel) (entries : ChoiceInlinings) (ts : List Tree) (left : ℕ) →
    FillAll inlinings entries (drop (kept_count label) ts) left →
    FillAll (Inlinings.kept inlinings) (Inlinings.inlined label entries) ts left
kept_by_inlined inlinings label entries ts left o =
    record {
      trees_are = ap (λ l. tree_by_label label ts ∷ l) o.trees_are;
      rest_is =
          ap (λ l. trees_by_inlinings (fill_all_by_entries inlinings entries).1 l)
          (sym (drop-drop (kept_counts (fill_all_by_entries inlinings entries).0) (kept_count label) ts))
          ∙ o.rest_is;
      left_is = o.left_is;
      count_is = omega (arith, o.count_is);
    }

-- one more symbol that is inlined
inlined_by_label : (label : ChoiceLabel) (inlinings entries : ChoiceInlinings) (ts : List Tree) (left : ℕ) →
    Fills label entries ts (kept_counts inlinings + left) →
    FillAll inlinings (fill_by_entries label entries).1 (drop (kept_count (fill_by_entries label entries).0) ts) left →
    FillAll (Inlinings.inlined label inlinings) entries ts left
inlined_by_label label inlinings entries ts left a b =
    let rest : ChoiceInlinings = (fill_by_entries label entries).1 in
    let filled : ChoiceLabel = (fill_by_entries label entries).0 in
    record {
      trees_are =
          ap₂ (λ t l. t ∷ l) a.tree_is (b.trees_are ∙ ap (λ l. trees_by_inlinings inlinings l) a.rest_is);
      rest_is =
          ap (λ l. trees_by_inlinings (fill_all_by_entries inlinings rest).1 l)
          (sym (drop-drop (kept_counts (fill_all_by_entries inlinings rest).0) (kept_count filled) ts))
          ∙ b.rest_is ∙ ap (λ l. drop (kept_counts inlinings) l) a.rest_is
          ∙ drop-drop (kept_counts inlinings) (kept_count label) (trees_by_inlinings entries ts);
      left_is = b.left_is;
      count_is = omega (arith, a.count_is, b.count_is);
    }

mutual
  fills : (label : ChoiceLabel) (entries : ChoiceInlinings) (ts : List Tree) (left : ℕ) →
      symbol_count entries ≡ kept_count label + left → Fills label entries ts left
  fills (Label.choose x o inlinings) entries ts left e =
      let a = fill_all inlinings entries ts left e in
      record {
        tree_is = ap (λ l. tree_by_origin o (trees l)) a.trees_are;
        rest_is = a.rest_is;
        left_is = a.left_is;
        count_is = a.count_is;
      }

  fill_all : (inlinings entries : ChoiceInlinings) (ts : List Tree) (left : ℕ) →
      symbol_count entries ≡ kept_counts inlinings + left → FillAll inlinings entries ts left
  fill_all Inlinings.none entries ts left e =
      record { trees_are = refl; rest_is = refl; left_is = omega (arith, e); count_is = omega arith }
  fill_all (Inlinings.kept inlinings) Inlinings.none ts left e = absurd (omega (arith, e))
  fill_all (Inlinings.kept inlinings) (Inlinings.kept entries) ts left e =
      kept_by_kept inlinings entries ts left (λ us. fill_all inlinings entries us left (omega (arith, e)))
  fill_all (Inlinings.kept inlinings) (Inlinings.inlined label entries) ts left e =
      kept_by_inlined inlinings label entries ts left
      (fill_all inlinings entries (drop (kept_count label) ts) left (omega (arith, e)))
  fill_all (Inlinings.inlined label inlinings) entries ts left e =
      let a = fills label entries ts (kept_counts inlinings + left) (omega (arith, e)) in
      inlined_by_label label inlinings entries ts left a
      (fill_all inlinings (fill_by_entries label entries).1 (drop (kept_count (fill_by_entries label entries).0) ts) left a.left_is)

-- the tree of a label filled by as many entries as it keeps symbols
pub filled_tree : (label : ChoiceLabel) (entries : ChoiceInlinings) (ts : List Tree) → symbol_count entries ≡ kept_count label →
    tree_by_label (label_of_entries label entries) ts ≡ tree_by_label label (trees_by_inlinings entries ts)
filled_tree label entries ts e = (fills label entries ts 0 (omega (arith, e))).tree_is

no_entries : (entries : ChoiceInlinings) → symbol_count entries ≡ 0 → kept_counts entries ≡ 0
no_entries Inlinings.none e = refl
no_entries (Inlinings.kept entries) e = absurd (omega (arith, e))
no_entries (Inlinings.inlined label entries) e = absurd (omega (arith, e))

-- it keeps what they keep
pub filled_count : (label : ChoiceLabel) (entries : ChoiceInlinings) → symbol_count entries ≡ kept_count label →
    kept_count (label_of_entries label entries) ≡ kept_counts entries
filled_count label entries e =
    let f = fills label entries [] 0 (omega (arith, e)) in
    omega (arith, f.count_is, no_entries (fill_by_entries label entries).1 f.left_is)

-- so many symbols that are kept are so many
pub all_kept_count : (n : ℕ) → kept_counts (all_kept {N = Nonterminal} {C = Origin} n) ≡ n
all_kept_count zero = refl
all_kept_count (suc n) = ap suc (all_kept_count n)
