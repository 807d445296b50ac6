-- The actions of an inlined grammar have labels: those of productions are given, the others come of smaller ones.
use Rattle.std.proofs.Common.{◌≡◌, ◌<◌, ◌≤◌, ◌∙◌, ℕ, List, [], ◌∷◌, ◌++◌, ap, arith, refl}
use Rattle.std.proofs.Common.{sym, subst, suc, zero, true, false}
use Rattle.std.proofs.Common.{inl, inr, length, map, ◌⊎◌}
use Rattle.std.specs.Prelude.{All, Bool, Option, Some, None, eqb, if◌then◌else◌, ltb, slice_get}
use Rattle.std.specs.Ordering.{is_eq}
use Rattle.std.proofs.lemmas.Bool.{eq-eqb, eqb-true, lt-ltb, ltb-true}
use Rattle.lalrpop_grammar_symbols.specs.Symbols.{Text}
use Rattle.lalrpop_grammar_symbols.specs.contracts.names.NonterminalStringOrd.TheImpl as names
use Rattle.lalrpop_grammar_symbols.specs.declared.names.NonterminalString.{NonterminalString}
use Rattle.lalrpop_grammar_language.specs.Among.{Among}
use Rattle.lalrpop_grammar_repr.specs.declared.action.ActionFnDefn.{ActionFnDefn}
use Rattle.lalrpop_grammar_repr.specs.declared.action.ActionFnDefnKind.{ActionFnDefnKind}
use Rattle.lalrpop_grammar_repr.specs.declared.action.ActionFnDefnKind.TheVariants as kinds
use Rattle.lalrpop_grammar_repr.specs.declared.action.InlineActionFnDefn.{InlineActionFnDefn}
use Rattle.lalrpop_grammar_repr.specs.declared.action.InlinedSymbol.{InlinedSymbol}
use Rattle.lalrpop_grammar_repr.specs.declared.action.InlinedSymbol.TheVariants as inlined
use Rattle.lalrpop_grammar_repr.specs.declared.grammar.Grammar.{Grammar}
use Rattle.lalrpop_grammar_repr.specs.declared.production.NonterminalData.{NonterminalData}
use Rattle.lalrpop_grammar_repr.specs.declared.production.Production.{Production}
use Rattle.lalrpop_grammar_language.specs.Labels.{Label}
use Rattle.lalrpop_grammar_language.specs.Steps.{RecordedSymbol, label_with}
use Rattle.lalrpop_lr1_inline.specs.InlinedGrammars.{IsInlinedGrammar}
use Rattle.lalrpop_lr1_inline.specs.InlinedNames.{NonterminalEntries, name_of_text}
use Rattle.lalrpop_lr1_inline.specs.InliningSteps.{productions_named}
use Rattle.lalrpop_lr1_inline.specs.NamedProductions.{entry_by_labels, label_given, record_by_labels, side_by_names}
use Rattle.lalrpop_grammar_language.proofs.StepLemmas.{among_right}
use Rattle.lalrpop_grammar_symbols.proofs.NameLemmas.{same_name}
use Rattle.lalrpop_grammar_language.proofs.AmongLemmas.{flat_map_among}
use Rattle.lalrpop_grammar_language.proofs.AmongLemmas.{map_among}
use Rattle.lalrpop_lr1_inline.proofs.StepsLemmas.{looked_by}
use Rattle.lalrpop_lr1_inline.specs.InlinedLabels.{AreActionLabels, StandOnce, production_actions}
use Rattle.lalrpop_lr1_inline.proofs.GivenLabelLemmas.{named_stands}
use Rattle.lalrpop_lr1_inline.proofs.OnceLemmas.{once_left, once_right}
use Rattle.lalrpop_lr1_inline.proofs.OrderLabelLemmas.{steps_extend}
use Rattle.lalrpop_lr1_inline.proofs.SmallerLemmas.{MadeBelow, RecordBelow, entries_of_all, steps_below}

abbrev numbers : List Production → List ℕ
numbers ps = map (λ p. p.action.0) ps

-- the label of the production with this action
found_in : Text → List Production → ℕ → Label Text ℕ → Label Text ℕ
found_in n [] k other = other
found_in n (p ∷ ps) k other =
    if eqb p.action.0 k then label_given n k (side_by_names p.symbols) else found_in n ps k other

found_label : NonterminalEntries → ℕ → Label Text ℕ
found_label [] k = label_given [] k []
found_label (e ∷ es) k = found_in e.0.0 e.1.productions k (found_label es k)

skipped : (n : Text) (ps : List Production) (k : ℕ) (other : Label Text ℕ) → (Among (numbers ps) k → ⊥) →
    found_in n ps k other ≡ other
unfolding found_in
skipped n [] k other h = refl
skipped n (p ∷ ps) k other h = go (eqb p.action.0 k) refl (skipped n ps k other (λ i. h (inr i)))
  where
    go : (b : Bool) → eqb p.action.0 k ≡ b → found_in n ps k other ≡ other →
        (if b then label_given n k (side_by_names p.symbols) else found_in n ps k other) ≡ other
    go true f ih = absurd (h (inl (eqb-true p.action.0 k f)))
    go false f ih = ih

found_own : (n : Text) (ps : List Production) (other : Label Text ℕ) → StandOnce (numbers ps) → (p : Production) → Among ps p →
    found_in n ps p.action.0 other ≡ label_given n p.action.0 (side_by_names p.symbols)
unfolding found_in
found_own n [] other own p i = absurd i
found_own n (q ∷ ps) other own p (inl e) =
    ap (λ (b : Bool). if b then label_given n p.action.0 (side_by_names q.symbols) else found_in n ps p.action.0 other)
    (eq-eqb q.action.0 p.action.0 (ap (λ (x : Production). x.action.0) e))
    ∙ ap (λ (x : Production). label_given n p.action.0 (side_by_names x.symbols)) e
found_own n (q ∷ ps) other own p (inr i) = go (eqb q.action.0 p.action.0) refl (found_own n ps other own.1 p i)
  where
    go : (b : Bool) → eqb q.action.0 p.action.0 ≡ b →
        found_in n ps p.action.0 other ≡ label_given n p.action.0 (side_by_names p.symbols) →
        (if b then label_given n p.action.0 (side_by_names q.symbols) else found_in n ps p.action.0 other)
        ≡ label_given n p.action.0 (side_by_names p.symbols)
    go true f ih =
        absurd (own.0 (subst (λ (k : ℕ). Among (numbers ps) k) (sym (eqb-true q.action.0 p.action.0 f))
        (map_among (λ (x : Production). x.action.0) ps p i)))
    go false f ih = ih

apart_parts : {A : Type 0} (xs ys : List A) → StandOnce (xs ++ ys) → (x : A) → Among xs x → Among ys x → ⊥
apart_parts [] ys h x i j = i
apart_parts {A} (z ∷ xs) ys h x (inl e) j = h.0 (among_right xs ys z (subst (λ (y : A). Among ys y) (sym e) j))
apart_parts (z ∷ xs) ys h x (inr i) j = apart_parts xs ys h.1 x i j

found_given : (es : NonterminalEntries) → StandOnce (production_actions es) → (n : Text) (p : Production) →
    Among (productions_named es n) p → found_label es p.action.0 ≡ label_given n p.action.0 (side_by_names p.symbols)
unfolding found_label
found_given [] own n p i = absurd i
found_given (e ∷ es) own n p i =
    go (is_eq ((names.ghosts).cmp (name_of_text n) e.0)) refl
    (found_given es (once_right (numbers e.1.productions) (production_actions es) own) n p)
  where
    go : (b : Bool) → is_eq ((names.ghosts).cmp (name_of_text n) e.0) ≡ b →
        (Among (productions_named es n) p → found_label es p.action.0 ≡ label_given n p.action.0 (side_by_names p.symbols)) →
        found_in e.0.0 e.1.productions p.action.0 (found_label es p.action.0)
        ≡ label_given n p.action.0 (side_by_names p.symbols)
    go true f later =
        let same : e.0.0 ≡ n = ap (λ (x : NonterminalString). x.0) (sym ((same_name (name_of_text n) e.0).0 f)) in
        found_own e.0.0 e.1.productions (found_label es p.action.0)
        (once_left (numbers e.1.productions) (production_actions es) own) p
        (subst (λ (l : List Production). Among l p) (looked_by n e es true f) i)
        ∙ ap (λ (x : Text). label_given x p.action.0 (side_by_names p.symbols)) same
    go false f later =
        let j = subst (λ (l : List Production). Among l p) (looked_by n e es false f) i in
        let w = named_stands es n p j in
        let there = flat_map_among (λ (d : NonterminalString × NonterminalData). numbers d.1.productions) es w.0 p.action.0 w.1
        (map_among (λ (x : Production). x.action.0) w.0.1.productions p w.2) in
        skipped e.0.0 e.1.productions p.action.0 (found_label es p.action.0)
        (λ h. apart_parts (numbers e.1.productions) (production_actions es) own p.action.0 h there)
        ∙ later j

module _ (es : NonterminalEntries) (whole : List ActionFnDefn) (least : ℕ)
    (below : (k : ℕ) (d : ActionFnDefn) (i : InlineActionFnDefn) → least ≤ k → slice_get whole k ≡ Some d →
    d.kind ≡ kinds.Inline i →
    MadeBelow k i) where
  -- the label that an action has by those of others
  label_by_kind : (ℕ → Label Text ℕ) → ActionFnDefnKind → Label Text ℕ
  label_by_kind lab (kinds.User u) = label_given [] 0 []
  label_by_kind lab (kinds.Inline i) = label_with (lab i.action.0) (record_by_labels lab i.symbols)
  label_by_kind lab (kinds.Lookaround u) = label_given [] 0 []

  label_by_action : (ℕ → Label Text ℕ) → Option ActionFnDefn → Label Text ℕ
  label_by_action lab None = label_given [] 0 []
  label_by_action lab (Some d) = label_by_kind lab d.kind

  -- labels of actions so many records deep
  label_within : ℕ → ℕ → Label Text ℕ
  label_within zero k = found_label es k
  label_within (suc f) k =
      if ltb k least then found_label es k else label_by_action (label_within f) (slice_get whole k)

  same_records : (f g : ℕ → Label Text ℕ) (j : ℕ) → ((k : ℕ) → k < j → f k ≡ g k) → (r : List InlinedSymbol) →
      RecordBelow j r →
      record_by_labels f r ≡ record_by_labels g r
  same_records f g j same [] h = refl
  same_records f g j same (inlined.Original s ∷ r) h =
      ap (λ l. entry_by_labels f (inlined.Original s) ∷ l) (same_records f g j same r h.1)
  same_records f g j same (inlined.Inlined action side ∷ r) h =
      ap (λ (x : Label Text ℕ). RecordedSymbol.inlined x (side_by_names side) ∷ record_by_labels f r) (same action.0 h.0)
      ∙ ap (λ l. RecordedSymbol.inlined (g action.0) (side_by_names side) ∷ l) (same_records f g j same r h.1)

  same_kind : (f g : ℕ → Label Text ℕ) (j : ℕ) → ((k : ℕ) → k < j → f k ≡ g k) → (kind : ActionFnDefnKind) →
      ((i : InlineActionFnDefn) → kind ≡ kinds.Inline i → MadeBelow j i) → label_by_kind f kind ≡ label_by_kind g kind
  unfolding label_by_kind
  same_kind f g j same (kinds.User u) h = refl
  same_kind f g j same (kinds.Inline i) h =
      let m = h i refl in
      ap (λ (l : Label Text ℕ). label_with l (record_by_labels f i.symbols)) (same i.action.0 m.0)
      ∙ ap (label_with (g i.action.0)) (same_records f g j same i.symbols m.1)
  same_kind f g j same (kinds.Lookaround u) h = refl

  same_action : (f g : ℕ → Label Text ℕ) (j : ℕ) → least ≤ j → ((k : ℕ) → k < j → f k ≡ g k) →
      label_by_action f (slice_get whole j) ≡ label_by_action g (slice_get whole j)
  unfolding label_by_action
  same_action f g j l same = go (slice_get whole j) refl
    where
      go : (o : Option ActionFnDefn) → slice_get whole j ≡ o → label_by_action f o ≡ label_by_action g o
      go None e = refl
      go (Some d) e = same_kind f g j same d.kind (λ i k. below j d i l e k)

  not_given : (k : ℕ) → least ≤ k → ltb k least ≡ false
  not_given k l = go (ltb k least) refl
    where
      go : (b : Bool) → ltb k least ≡ b → b ≡ false
      go true e = (let wrong : k < least = ltb-true k least e in absurd (omega (arith, wrong, l)))
      go false e = refl

  given_or_made : (k : ℕ) → (k < least) ⊎ (least ≤ k)
  given_or_made k = grind arith

  -- deep enough, the label is the same
  label_stays : (bound f g k : ℕ) → k < bound → k < f → k < g → label_within f k ≡ label_within g k
  unfolding label_within
  label_stays zero f g k a b c = absurd (omega (arith, a))
  label_stays (suc bound) zero g k a b c = absurd (omega (arith, b))
  label_stays (suc bound) (suc f) zero k a b c = absurd (omega (arith, c))
  label_stays (suc bound) (suc f) (suc g) k a b c =
      go (given_or_made k)
      (λ j l. label_stays bound f g j (omega (arith, a, l)) (omega (arith, b, l)) (omega (arith, c, l)))
    where
      go : (k < least) ⊎ (least ≤ k) → ((j : ℕ) → j < k → label_within f j ≡ label_within g j) →
          (if ltb k least then found_label es k else label_by_action (label_within f) (slice_get whole k))
          ≡ (if ltb k least then found_label es k else label_by_action (label_within g) (slice_get whole k))
      go (inl near) same =
          ap (λ (b : Bool). if b then found_label es k else label_by_action (label_within f) (slice_get whole k))
          (lt-ltb k least near)
          ∙ sym (ap (λ (b : Bool). if b then found_label es k else label_by_action (label_within g) (slice_get whole k))
          (lt-ltb k least near))
      go (inr far) same =
          ap (λ (x : Label Text ℕ). if ltb k least then found_label es k else x)
          (same_action (label_within f) (label_within g) k far same)

  label_found : ℕ → Label Text ℕ
  label_found k = label_within (suc k) k

  found_where_given : (k : ℕ) → k < least → label_found k ≡ found_label es k
  unfolding label_found label_within
  found_where_given k near =
      ap (λ (b : Bool). if b then found_label es k else label_by_action (label_within k) (slice_get whole k)) (lt-ltb k least near)

  found_where_made : (k : ℕ) (d : ActionFnDefn) (i : InlineActionFnDefn) → least ≤ k → slice_get whole k ≡ Some d →
      d.kind ≡ kinds.Inline i → label_found k ≡ label_with (label_found i.action.0) (record_by_labels label_found i.symbols)
  unfolding label_found label_within label_by_action label_by_kind
  found_where_made k d i far e f =
      let m = below k d i far e f in
      ap (λ (b : Bool). if b then found_label es k else label_by_action (label_within k) (slice_get whole k)) (not_given k far)
      ∙ ap (label_by_action (label_within k)) e ∙ ap (label_by_kind (label_within k)) f
      ∙ same_kind (label_within k) label_found k
      (λ j l. label_stays k k (suc j) j l l (omega arith)) (kinds.Inline i) (λ t u. subst (MadeBelow k) (inline_same i t u) m)
    where
      inline_same : (a b : InlineActionFnDefn) → kinds.Inline a ≡ kinds.Inline b → a ≡ b
      inline_same a b g = cc

-- where productions have actions of their own, all of them known, the actions after inlining have labels
pub labels_exist : (before after : Grammar) → StandOnce (production_actions before.nonterminals) →
    All (λ e. All (λ p. p.action.0 < length before.action_fn_defns) e.1.productions) before.nonterminals →
    IsInlinedGrammar before after → (lab : ℕ → Label Text ℕ) × AreActionLabels before after lab
labels_exist before after own known inlined =
    let es = before.nonterminals in
    let whole = after.action_fn_defns in
    let least = length before.action_fn_defns in
    let below = steps_below inlined.order es after.nonterminals before.action_fn_defns whole inlined.steps
    (λ mid rest ms last h. steps_extend rest ms last mid whole h) known in
    let entries = entries_of_all least es known in (
      label_found es whole least below,
      record {
        given = λ n p i.
            let w = named_stands es n p i in
            found_where_given es whole least below p.action.0 (entries w.0 w.1 p w.2) ∙ found_given es own n p i;
        made = found_where_made es whole least below;
      },
    )
