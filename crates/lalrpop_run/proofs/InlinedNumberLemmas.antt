-- After all steps of inlining the productions of each nonterminal are numbered in the order of their labels: for the productions of an
-- expansion.
use Rattle.std.proofs.Common.{◌≡◌, ◌∙◌, ◌≤◌, ◌<◌, inl, inr, ℕ, zero, suc, List, [], ◌∷◌, ◌++◌, ap, append_assoc, arith, length}
use Rattle.std.proofs.Common.{length-append}
use Rattle.std.proofs.Common.{refl, subst, sym, take, true}
use Rattle.std.specs.Prelude.{All, Some, slice_get}
use Rattle.std.specs.List.Sorted.{IsStrictlySortedBy}
use Rattle.std.specs.Map.{keys_of}
use Rattle.std.proofs.Math.Seq.{take-append_seam}
use Rattle.lalrpop_grammar_symbols.specs.Symbols.{Text}
use Rattle.lalrpop_grammar_symbols.specs.contracts.names.NonterminalStringOrd.TheImpl as names
use Rattle.lalrpop_grammar_language.specs.Among.{Among}
use Rattle.lalrpop_grammar_language.specs.Labels.{BaseProductions, GrammarSymbols, Label}
use Rattle.lalrpop_grammar_language.specs.Inlining.{HaveOneSide}
use Rattle.lalrpop_grammar_language.specs.Steps.{NamesInlinedFirst, OneMore, label_with}
use Rattle.lalrpop_grammar_language.proofs.AmongLemmas.{contains_among}
use Rattle.lalrpop_grammar_language.proofs.OrderLemmas.{never_names}
use Rattle.lalrpop_grammar_language.proofs.StepLemmas.{among_left, among_right}
use Rattle.lalrpop_grammar_repr.specs.declared.action.ActionFnDefn.{ActionFnDefn}
use Rattle.lalrpop_grammar_repr.specs.declared.action.ActionFnDefnKind.TheVariants as kinds
use Rattle.lalrpop_grammar_repr.specs.declared.action.InlineActionFnDefn.{InlineActionFnDefn}
use Rattle.lalrpop_grammar_repr.specs.declared.grammar.Grammar.{Grammar}
use Rattle.lalrpop_grammar_repr.specs.declared.production.Production.{Production}
use Rattle.lalrpop_grammar_repr.specs.declared.production.Symbol.TheVariants as symbols
use Rattle.lalrpop_lr1_theory.proofs.ListLemmas.{get_contains}
use Rattle.lalrpop_lr1_inline.specs.InlinedGrammars.{IsInlinedGrammar}
use Rattle.lalrpop_lr1_inline.specs.InlinedLabels.{AreActionLabels, StandOnce, production_actions}
use Rattle.lalrpop_lr1_inline.specs.InlinedNames.{NonterminalEntries, inlined_named_by, is_inlined_name}
use Rattle.lalrpop_lr1_inline.specs.InliningOrders.{HasAllInlined, HasNamedFirst, HasNameOnce}
use Rattle.lalrpop_lr1_inline.specs.InliningSteps.{AreInlineSteps, all_records_after, entries_after, productions_named}
use Rattle.lalrpop_lr1_inline.specs.NamedProductions.{ProducesByAction, keeps_all, label_given, record_by_labels, side_by_names}
use Rattle.lalrpop_lr1_inline.proofs.AfterStepLemmas.{AreBelow}
use Rattle.lalrpop_lr1_inline.proofs.GivenLabelLemmas.{given_labels, named_stands}
use Rattle.lalrpop_lr1_inline.proofs.MadeLabelLemmas.{LabelsFrom, labels_made}
use Rattle.lalrpop_lr1_inline.proofs.NamedLemmas.{all_listed}
use Rattle.lalrpop_lr1_inline.proofs.OrderLabelLemmas.{named_there, one_more_is, same_productions, steps_extend}
use Rattle.lalrpop_lr1_inline.proofs.OrderLemmas.{order_all, order_named_first, order_once}
use Rattle.lalrpop_lr1_inline.proofs.SmallerLemmas.{entries_of_all}
use Rattle.lalrpop_lr1_inline.proofs.SourceLemmas.{around}
use Rattle.lalrpop_lr1_inline.proofs.StepLabelLemmas.{AreProductionsBy, step_labels}
use Rattle.lalrpop_lr1_inline.proofs.StepsLemmas.{known_on}
use Rattle.lalrpop_run.specs.ProductionOrders.{IsLabelBefore, IsMadeSooner, IsMadeWithin, inlined_at}
use Rattle.lalrpop_run.proofs.LabelStepLemmas.{lacks_label}
use Rattle.lalrpop_run.proofs.NumberedStepLemmas.{AreOrdered, StandsBefore, step_in_order}
use Rattle.lalrpop_run.proofs.OrderedListLemmas.{AreInOrder}
use Rattle.lalrpop_run.proofs.SoonerLemmas.{among_take_more}

-- the next name of an order is among one more
taken_there : (front : List Text) (n : Text) (ns : List Text) → Among (take (suc (length front)) (front ++ n ∷ ns)) n
taken_there [] n ns = inl refl
taken_there (x ∷ front) n ns = inr (taken_there front n ns)

module _ (ds : NonterminalEntries) (order : List Text) (all : HasAllInlined ds order) (once : HasNameOnce order)
    (first : HasNamedFirst ds order) (one : HaveOneSide (ProducesByAction ds)) (IsBefore : ℕ → ℕ → Type 0) (lab : ℕ → Label Text ℕ)
    (least : ℕ) (whole : List ActionFnDefn)
    (says : (k : ℕ) (d : ActionFnDefn) (i : InlineActionFnDefn) → least ≤ k → slice_get whole k ≡ Some d →
    d.kind ≡ kinds.Inline i →
    lab k ≡ label_with (lab i.action.0) (record_by_labels lab i.symbols)) where
  abbrev M : BaseProductions Text ℕ
  M = ProducesByAction ds

  abbrev AreInTheirOrder : NonterminalEntries → Type 0
  AreInTheirOrder es = (x : Text) → AreInOrder (AreOrdered IsBefore order lab) (productions_named es x)

  -- what is to be inlined in the nonterminal, or in one before it, is inlined before it
  inlined_first : (front : List Text) (n : Text) (ns : List Text) → order ≡ front ++ n ∷ ns →
      NamesInlinedFirst (ProducesByAction ds) (λ x. Among front x) (λ x. is_inlined_name ds x ≡ true) n
  inlined_first front n ns e x choice side y (inl i) w j marked =
      let a = around front x i in
      let split : order ≡ a.front ++ x ∷ (a.back ++ n ∷ ns) =
      e ∙ ap (λ l. l ++ n ∷ ns) a.whole ∙ append_assoc a.front (x ∷ a.back) (n ∷ ns) in
      subst (λ (l : List Text). Among l y) (sym a.whole)
      (among_left a.front (x ∷ a.back) y
      (first a.front x (a.back ++ n ∷ ns) y split (named_there ds x choice side y w j marked)))
  inlined_first front n ns e x choice side y (inr same) w j marked =
      first front n ns y e
      (subst (λ (z : Text). Among (inlined_named_by ds z) y) same (named_there ds x choice side y w j marked))

  -- a step in the order keeps the order of productions
  step_keeps : (front : List Text) (n : Text) (ns : List Text) → order ≡ front ++ n ∷ ns → (es : NonterminalEntries)
      (count : ℕ) → AreProductionsBy (ProducesByAction ds) (λ x. Among front x) lab es → All (AreBelow count) es →
      LabelsFrom lab count (all_records_after n (productions_named es n) es) → AreInTheirOrder es →
      AreInTheirOrder (entries_after n (productions_named es n) es count)
  step_keeps front n ns e es count are below made o =
      let listed : Among order n = subst (λ (a : List Text). Among a n) (sym e) (among_right front (n ∷ ns) n (inl refl)) in
      let marked : is_inlined_name ds n ≡ true = (all n).1 listed in
      let named = inlined_first front n ns e in
      let fresh = (once front n ns e).0 in
      let front_is : take (length front) order ≡ front = ap (take (length front)) e ∙ take-append_seam front (n ∷ ns) in
      step_in_order M IsBefore order front n front_is (more front_is) fresh one
      (lacks_label M (λ x. Among front x) n (λ x choice side known m i. fresh (named x choice side n (inl known) m i marked)))
      (never_names M (λ x. Among front x) (λ x. is_inlined_name ds x ≡ true) n marked named) lab es are count
      (λ x p i. let s = named_stands es x p i in entries_of_all count es below s.0 s.1 p s.2) o made
    where
      more : take (length front) order ≡ front → (y : Text) → OneMore (λ x. Among front x) n y → Among (take (suc (length front)) order) y
      more front_is y (inl i) =
          among_take_more (length front) (suc (length front)) order y (omega arith)
          (subst (λ (l : List Text). Among l y) (sym front_is) i)
      more front_is y (inr same) =
          subst (λ (z : Text). Among (take (suc (length front)) order) z) (sym same)
          (subst (λ (l : List Text). Among (take (suc (length front)) l) n) (sym e) (taken_there front n ns))

  -- and so do all steps
  steps_keep : (ns front : List Text) → order ≡ front ++ ns → (es after : NonterminalEntries) (actions : List ActionFnDefn) →
      AreInlineSteps ns es actions after whole → least ≤ length actions →
      AreProductionsBy (ProducesByAction ds) (λ x. Among front x) lab es → All (AreBelow (length actions)) es → AreInTheirOrder es →
      AreInTheirOrder after
  steps_keep [] front e es after actions h l are below o = subst AreInTheirOrder (sym h.0) o
  steps_keep (n ∷ ns) front e es after actions h l are below o =
      let mid = h.0 in
      let s = h.2 in
      let back = steps_extend ns mid after h.1 whole h.3 in
      let join : whole ≡ actions ++ (s.made ++ back.0) =
      back.1 ∙ ap (λ (a : List ActionFnDefn). a ++ back.0) s.actions_are ∙ append_assoc actions s.made back.0 in
      let made = labels_made lab least whole actions says (all_records_after n (productions_named es n) es) s.made actions back.0
      s.are_definitions join l in
      let listed : Among order n = subst (λ (a : List Text). Among a n) (sym e) (among_right front (n ∷ ns) n (inl refl)) in
      let itself = never_names M (λ x. Among front x) (λ x. is_inlined_name ds x ≡ true) n ((all n).1 listed)
      (inlined_first front n ns e) in
      let stepped = step_labels M (λ x. Among front x) lab n es (once front n ns e).0 itself are (length actions) made in
      let here : AreProductionsBy (ProducesByAction ds) (λ x. Among (front ++ n ∷ []) x) lab mid =
      subst (λ (a : NonterminalEntries). AreProductionsBy (ProducesByAction ds) (λ x. Among (front ++ n ∷ []) x) lab a)
      (sym s.entries_are)
      (same_productions M (OneMore (λ x. Among front x) n) (λ x. Among (front ++ n ∷ []) x) lab
      (entries_after n (productions_named es n) es (length actions)) (one_more_is front n) stepped) in
      let kept = subst AreInTheirOrder (sym s.entries_are) (step_keeps front n ns e es (length actions) are below made o) in
      let many = ap length s.actions_are ∙ length-append actions s.made in
      steps_keep ns (front ++ n ∷ []) (e ∙ sym (append_assoc front (n ∷ []) ns)) mid after h.1 h.3 (omega (arith, many, l)) here
      (known_on n es mid actions h.1 s below) kept

-- before inlining

nothing_inlined : (side : GrammarSymbols Text) (i : ℕ) (l : Label Text ℕ) → inlined_at (keeps_all side) i ≡ Some l → ⊥
nothing_inlined [] i l e = let w : ⊥ = cc in w
nothing_inlined (p ∷ side) zero l e = let w : ⊥ = cc in w
nothing_inlined (p ∷ side) (suc i) l e = nothing_inlined side i l e

-- productions in the order of their choices are in the order of their labels
module _ (es : NonterminalEntries) (IsBefore : ℕ → ℕ → Type 0) (order : List Text) (lab : ℕ → Label Text ℕ)
    (given : (n : Text) (p : Production) → Among (productions_named es n) p →
    lab p.action.0 ≡ label_given n p.action.0 (side_by_names p.symbols)) where
  given_ordered : (x : Text) (p q : Production) → Among (productions_named es x) p → Among (productions_named es x) q →
      IsBefore p.action.0 q.action.0 → p.action.0 < q.action.0 → AreOrdered IsBefore order lab p q
  given_ordered x p q i j before number = (less, inl (inr (never, less), number))
    where
      less : StandsBefore IsBefore order lab p q
      less =
          subst (λ (l : Label Text ℕ). IsLabelBefore Text ℕ IsBefore order l (lab q.action.0)) (sym (given x p i))
          (subst (λ (l : Label Text ℕ). IsLabelBefore Text ℕ IsBefore order (label_given x p.action.0 (side_by_names p.symbols)) l)
          (sym (given x q j))
          (IsLabelBefore.by_choice x p.action.0 q.action.0 (keeps_all (side_by_names p.symbols)) (keeps_all (side_by_names q.symbols))
          before))

      whole : (steps : ℕ) → IsMadeWithin order steps (lab p.action.0)
      whole steps =
          subst (λ (l : Label Text ℕ). IsMadeWithin order steps l) (sym (given x p i))
          (λ k l e. absurd (nothing_inlined (side_by_names p.symbols) k l e))

      never : IsMadeSooner order (lab q.action.0) (lab p.action.0) → ⊥
      never s = s.2 (whole s.0)

-- the productions of a grammar whose own are numbered in the order of their choices are after inlining numbered in the order of their labels
pub numbers_in_order : (before after : Grammar) (lab : ℕ → Label Text ℕ) (IsBefore : ℕ → ℕ → Type 0) →
    IsStrictlySortedBy (names.ghosts).cmp (keys_of before.nonterminals) → StandOnce (production_actions before.nonterminals) →
    HaveOneSide (ProducesByAction before.nonterminals) →
    All (λ e. All (λ (p : Production). p.action.0 < length before.action_fn_defns) e.1.productions) before.nonterminals →
    (inlined : IsInlinedGrammar before after) → AreActionLabels before after lab →
    ((x : Text) → AreInOrder (λ (p q : Production). IsBefore p.action.0 q.action.0 × (p.action.0 < q.action.0))
    (productions_named before.nonterminals x)) →
    (x : Text) → AreInOrder (AreOrdered IsBefore inlined.order lab) (productions_named after.nonterminals x)
numbers_in_order before after lab IsBefore sorted own one known inlined labels chosen =
    let es = before.nonterminals in
    let order = inlined.order in
    steps_keep es order (order_all es order inlined.is_order (all_listed es sorted)) (order_once es order inlined.is_order)
    (order_named_first es order inlined.is_order) one IsBefore lab (length before.action_fn_defns) after.action_fn_defns labels.made order
    [] refl es after.nonterminals before.action_fn_defns inlined.steps (omega arith)
    (given_labels es lab (λ x. Among [] x) (λ x i. i) labels.given own) known
    (λ x i j p q l e f.
    let h = chosen x i j p q l e f in
    given_ordered es IsBefore order lab labels.given x p q
    (contains_among (productions_named es x) p (get_contains (productions_named es x) i p e))
    (contains_among (productions_named es x) q (get_contains (productions_named es x) j q f)) h.0 h.1)
