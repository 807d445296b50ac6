-- The labels of the written grammar's expansion and the actions of the lowered one are as many; for the normalizer.
use Rattle.std.proofs.Common.{◌≡◌, ℕ, suc, ◌+◌, ◌<◌, ◌≤◌, List, [], ◌∷◌, ◌++◌, refl, ap}
use Rattle.std.proofs.Common.{ap₂, sym, ◌∙◌, subst, inl, inr, arith}
use Rattle.std.proofs.Common.{Bool}
use Rattle.std.proofs.lemmas.List.{length-append, length-map}
use Rattle.std.specs.Prelude.{Option, Some, ◌^◌, flat_map, length, map, slice_get}
use Rattle.lalrpop_grammar_symbols.specs.Symbols.{Text, Closed}
use Rattle.lalrpop_grammar.specs.WrittenGrammar.{Grammar, Origin, Rule, rules_of}
use Rattle.lalrpop_grammar_language.specs.Among.{Among}
use Rattle.lalrpop_grammar_language.specs.Enabled.{EnabledGrammar, enabled_grammar}
use Rattle.lalrpop_grammar_language.specs.Expansion.{InExpansion, IsWrittenProduction, Nonterminal, Produces, WrittenLabel}
use Rattle.lalrpop_grammar_language.proofs.PlaceLemmas.{among_map}
use Rattle.lalrpop_grammar_repr.specs.declared.norm_error.NormErrorKind.TheVariants as kinds
use Rattle.lalrpop_norm_theory.specs.Between.{grammar_between, rule_between}
use Rattle.lalrpop_norm_theory.specs.Keys.{flat_key_text, with_number}
use Rattle.lalrpop_norm_theory.specs.Premises.{IsExpanded}
use Rattle.lalrpop_norm_theory.specs.Productions.{IsOriginBefore}
use Rattle.lalrpop_norm_theory.specs.Rows.{AreExpansionRows, Row}
use Rattle.lalrpop_norm_theory.specs.Same.{SameExpansion, rename_side}
use Rattle.lalrpop_grammar_language.proofs.AmongLemmas.{map_among}
use Rattle.lalrpop_norm_theory.proofs.NumberingLemmas.{not_before_itself}
use Rattle.lalrpop_norm_prevalidate.specs.Faults.{HasNoCheckFault}
use Rattle.lalrpop_norm_keys.specs.Tables.{HasEachOnce}
use Rattle.lalrpop_norm_token_check.specs.Checked.{IsTokenChecked}
use Rattle.lalrpop_norm_token_check.specs.Places.{FirstPlaces}
use Rattle.lalrpop_norm_lower.specs.LoweredLists.{count_actions, count_alternatives, rules_with_starts}
use Rattle.lalrpop_norm_lower.specs.LoweredSymbols.{lowered_name}
use Rattle.lalrpop_norm_lower.proofs.EarlierLemmas.{among_at}
use Rattle.lalrpop_norm_lower.proofs.ExpansionRowLemmas.{alternative_row, are_expansion_rows, lowered_rows, rule_rows, start_row}
use Rattle.lalrpop_norm_chain.specs.Chains.{IsMacroChain}
use Rattle.lalrpop_norm_chain.specs.PremiseLaws.{HasFreePrefix, HasRulesInOrder}
use Rattle.lalrpop_norm_chain.proofs.ChainLemmas.{between_behind}
use Rattle.lalrpop_norm_chain.proofs.FrontLemmas.{prefix_leveled, same_expanded, to}
use Rattle.lalrpop_norm_chain.proofs.KeyPrefixLemmas.{keys_free}
use Rattle.lalrpop_norm_chain.proofs.OrderLemmas.{keys_ordered, leveled_ordered}
use Rattle.lalrpop_norm_chain.proofs.PrefixLemmas.{leveled_free}
use Rattle.lalrpop_norm.specs.Normalizing.{HasTooManyLabels, IsLabelOf}
use Rattle.lalrpop_norm.proofs.CountLemmas.{once_before, once_behind, once_within}
use Rattle.lalrpop_norm_chain.proofs.PremiseLemmas.{choices_in_order}

-- rows of an expansion

abbrev pub label_of : Row → WrittenLabel
label_of row = row.0

abbrev StandInOrder : (Nonterminal → Text) → List Row → Type 0
StandInOrder name_of rows =
    (i j : ℕ) (row later : Row) → i < j → slice_get rows i ≡ Some row → slice_get rows j ≡ Some later
    → name_of row.0.head ≡ name_of later.0.head → IsOriginBefore row.0.choice later.0.choice

-- no label stands twice where rows stand in order
labels_once : (name_of : Nonterminal → Text) (rows : List Row) → StandInOrder name_of rows → HasEachOnce (map label_of rows)
labels_once name_of [] order = tt
labels_once name_of (row ∷ rows) order = (
  λ i. let m = among_map label_of rows (label_of row) i in
      let at = among_at rows m.0 m.1 in
      not_before_itself row.0.choice
      (subst (λ (l : WrittenLabel). IsOriginBefore row.0.choice l.choice) m.2
      (order 0 (suc at.0) row m.0 (omega arith) refl at.1 (ap (λ (l : WrittenLabel). name_of l.head) (sym m.2)))),
  labels_once name_of rows (λ i j a b less e f. order (suc i) (suc j) a b (arith-suc i j less) e f),
)
  where
    arith-suc : (i j : ℕ) → i < j → suc i < suc j
    arith-suc i j less = omega (arith, less)

-- as many rows as actions

rows_of_rules : (rs : List Rule) → length (flat_map rule_rows rs) ≡ count_alternatives rs
rows_of_rules [] = refl
rows_of_rules (r ∷ rs) =
    length-append (rule_rows r) (flat_map rule_rows rs)
    ∙ ap₂ ◌+◌ (length-map r.alternatives (alternative_row r.name)) (rows_of_rules rs)

rows_are_actions : (rs : List Rule) → length (lowered_rows rs) ≡ count_actions rs
rows_are_actions rs =
    length-append (map start_row (rules_with_starts rs)) (flat_map rule_rows rs)
    ∙ ap₂ ◌+◌ (length-map (rules_with_starts rs) start_row) (rows_of_rules rs)

-- labels under another expansion's nonterminals

module _ (g h : EnabledGrammar) (to : Nonterminal → Nonterminal) (same : SameExpansion g h to) where
  abbrev label_to : WrittenLabel → WrittenLabel
  label_to l = record { head = to l.head; choice = l.choice }

  -- the rows' labels are those of labels here
  pub record AreLabelsOf (rows : List Row) : Type 0 where
    pub labels : List WrittenLabel
    pub become : map label_to labels ≡ map label_of rows
    pub each : (l : WrittenLabel) → Among labels l → IsLabelOf g l

  labels_back : (rows : List Row) → ((row : Row) → Among rows row → InExpansion h row.0.head × IsWrittenProduction h row.0 row.1)
      → AreLabelsOf rows
  labels_back [] there = record { labels = []; become = refl; each = λ l i. absurd i }
  labels_back (row ∷ rows) there =
      let here = there row (inl refl) in
      let x = same.no_other row.0.head here.0 in
      let from = same.produces_no_other x.0 row.0.choice row.1 x.1
      (subst (λ (y : Nonterminal). Produces h y row.0.choice row.1) x.2 here.1) in
      let label : WrittenLabel = record { head = x.0; choice = row.0.choice } in
      let rest = labels_back rows (λ r i. there r (inr i)) in
      let front : label_to label ≡ label_of row =
      ap (λ (y : Nonterminal). record { head = y; choice = row.0.choice }) (sym x.2) in
      record {
        labels = label ∷ rest.labels;
        become = ap₂ (λ a l. a ∷ l) front rest.become;
        each = λ l i. each_of label rest (x.1, from.0, from.1) l i;
      }
    where
      each_of : (label : WrittenLabel) (rest : AreLabelsOf rows) → IsLabelOf g label → (l : WrittenLabel)
          → Among (label ∷ rest.labels) l → IsLabelOf g l
      each_of label rest is l (inl e) = subst (IsLabelOf g) e is
      each_of label rest is l (inr i) = rest.each l i

  module _ (name_of : Nonterminal → Text) (rows : List Row) (are : AreExpansionRows h name_of rows) where
    -- as many labels as rows
    pub too_many_here : 2 ^ 32 < length rows → HasTooManyLabels g
    too_many_here many =
        let u = labels_back rows are.no_other in
        let long : length u.labels ≡ length rows =
        sym (length-map u.labels label_to) ∙ ap length u.become ∙ length-map rows label_of in
        record {
          labels = u.labels;
          each = u.each;
          once = once_before label_to u.labels
              (subst HasEachOnce (sym u.become) (labels_once name_of rows are.in_order));
          many = subst (λ (n : ℕ). 2 ^ 32 < n) (sym long) many;
        }

    -- no more labels than rows
    pub few_here : (t : HasTooManyLabels g) → length t.labels ≤ length rows
    few_here t =
        subst (λ (n : ℕ). n ≤ length rows) (length-map t.labels label_to)
        (subst (λ (n : ℕ). length (map label_to t.labels) ≤ n) (length-map rows label_of)
        (once_within (map label_to t.labels) (map label_of rows)
        (once_behind label_to t.labels t.once (λ a b i j e. apart a b (t.each a i) (t.each b j) e))
        (λ l i. let m = among_map label_to t.labels l i in there m.0 l (t.each m.0 m.1) m.2)))
      where
        apart : (a b : WrittenLabel) → IsLabelOf g a → IsLabelOf g b → label_to a ≡ label_to b → a ≡ b
        apart a b i j e =
            let heads : a.head ≡ b.head =
            same.apart a.head b.head i.0 j.0 (ap (λ (l : WrittenLabel). l.head) e) in
            ap₂ (λ (x : Nonterminal) (o : Origin). record { head = x; choice = o }) heads
            (ap (λ (l : WrittenLabel). l.choice) e)

        there : (a l : WrittenLabel) → IsLabelOf g a → label_to a ≡ l → Among (map label_of rows) l
        there a l is e =
            subst (Among (map label_of rows)) e
            (map_among label_of rows (label_to a, rename_side to is.1)
            (are.every (label_to a) (rename_side to is.1) (same.there a.head is.0)
            (same.produces a.head a.choice is.1 is.0 is.2)))

-- the passes up to tokens

module _ (finds : Text → Text → Option Bool) (features : List Text) (w leveled expanded checked : Grammar)
    (c : IsMacroChain finds features w leveled expanded) (checks : HasNoCheckFault w) (first : FirstPlaces)
    (t : IsTokenChecked first expanded checked) where
  abbrev mid : EnabledGrammar
  mid = grammar_between finds leveled

  abbrev new : EnabledGrammar
  new = grammar_between finds expanded

  abbrev g : EnabledGrammar
  g = enabled_grammar finds features w

  between_is : grammar_between finds checked ≡ new
  between_is = ap (grammar_between finds) t.whole ∙ between_behind finds t.entries expanded

  leveled_in_order : HasRulesInOrder mid
  leveled_in_order =
      subst (λ (x : Grammar). HasRulesInOrder (grammar_between finds x)) (sym c.levels.value)
      (leveled_ordered finds features w c.levels.names c.read)

  expanded_in_order : HasRulesInOrder new
  expanded_in_order = keys_ordered mid new c.macros.key_of c.macros.keys c.macros.expansion c.macros.expanded leveled_in_order

  printed : (x : Closed) → Among c.macros.keys x → c.macros.key_of x ≡ with_number (flat_key_text x) (c.macros.naming.naming.number x)
  printed x i = sym (c.macros.named x i) ∙ c.macros.naming.naming.printed x (c.macros.expansion.reached x i)

  leveled_is_free : HasFreePrefix w.prefix mid
  leveled_is_free =
      subst (λ (x : Grammar). HasFreePrefix w.prefix (grammar_between finds x)) (sym c.levels.value)
      (leveled_free finds features w c.levels.names c.read (checks kinds.ReservedPrefix) c.levels.are_names)

  expanded_is_free : HasFreePrefix w.prefix new
  expanded_is_free =
      keys_free mid new c.macros.key_of c.macros.keys c.macros.expansion w.prefix leveled_is_free c.macros.expanded
      c.macros.naming.naming.number printed

  prefix_checked : checked.prefix ≡ w.prefix
  prefix_checked =
      ap (λ (x : Grammar). x.prefix) t.whole ∙ c.macros.prefix ∙ prefix_leveled finds features w leveled expanded c

  rows_are : AreExpansionRows (grammar_between finds checked) (lowered_name checked.prefix) (lowered_rows (rules_of checked.items))
  rows_are =
      are_expansion_rows finds checked (subst IsExpanded (sym between_is) c.macros.expanded)
      (λ r i. choices_in_order r.choices (subst HasRulesInOrder (sym between_is) expanded_in_order r i))
      (λ r n i e. (subst (HasFreePrefix w.prefix) (sym between_is) expanded_is_free).rules (rule_between r) n
      (map_among rule_between (rules_of checked.items) r i) (e ∙ ap (λ (p : Text). p ++ n) prefix_checked))

  same_checked : SameExpansion g (grammar_between finds checked) (to finds features w leveled expanded c)
  same_checked =
      subst (λ (h : EnabledGrammar). SameExpansion g h (to finds features w leveled expanded c)) (sym between_is)
      (same_expanded finds features w leveled expanded c)

  -- more actions than numbers are more labels
  pub many_labels : 2 ^ 32 < count_actions (rules_of checked.items) → HasTooManyLabels g
  many_labels many =
      too_many_here g (grammar_between finds checked) (to finds features w leveled expanded c) same_checked
      (lowered_name checked.prefix) (lowered_rows (rules_of checked.items)) rows_are
      (subst (λ (n : ℕ). 2 ^ 32 < n) (sym (rows_are_actions (rules_of checked.items))) many)

  -- no more actions are no more labels
  pub few_labels : count_actions (rules_of checked.items) ≤ 2 ^ 32 → HasTooManyLabels g → ⊥
  few_labels few too =
      not_above (length too.labels) (count_actions (rules_of checked.items)) (2 ^ 32)
      (subst (λ (n : ℕ). length too.labels ≤ n) (rows_are_actions (rules_of checked.items))
      (few_here g (grammar_between finds checked) (to finds features w leveled expanded c) same_checked
      (lowered_name checked.prefix) (lowered_rows (rules_of checked.items)) rows_are too))
      few too.many
    where
      not_above : (a b k : ℕ) → a ≤ b → b ≤ k → k < a → ⊥
      not_above a b k le less more = omega (arith, le, less, more)
