-- The labels of an inlined grammar, step by step in the order of inlining: for the law on inlined grammars.
use Rattle.std.proofs.Common.{◌≡◌, ◌≤◌, ◌∙◌, ◌↔◌, ℕ, List, [], ◌∷◌, ◌++◌, ap, append_assoc}
use Rattle.std.proofs.Common.{arith, refl, sym, subst, true, inl, inr}
use Rattle.std.proofs.Common.{length, length-append, ◌⊎◌}
use Rattle.std.specs.Prelude.{Some, flat_map, slice_get}
use Rattle.std.specs.List.Sorted.{IsStrictlySortedBy}
use Rattle.std.specs.Map.{keys_of}
use Rattle.lalrpop_grammar_symbols.specs.Symbols.{Text}
use Rattle.lalrpop_grammar_symbols.specs.Views.{terminal_view}
use Rattle.lalrpop_grammar_symbols.specs.contracts.names.NonterminalStringOrd.TheImpl as names
use Rattle.lalrpop_grammar_language.specs.Among.{Among}
use Rattle.lalrpop_grammar_language.specs.Expansion.{GrammarSymbol}
use Rattle.lalrpop_grammar_language.proofs.PlaceLemmas.{among_map}
use Rattle.lalrpop_grammar_repr.specs.declared.action.ActionFnDefn.{ActionFnDefn}
use Rattle.lalrpop_grammar_repr.specs.declared.action.ActionFnDefnKind.TheVariants as kinds
use Rattle.lalrpop_grammar_repr.specs.declared.action.InlineActionFnDefn.{InlineActionFnDefn}
use Rattle.lalrpop_grammar_repr.specs.declared.grammar.Grammar.{Grammar}
use Rattle.lalrpop_grammar_repr.specs.declared.production.Production.{Production}
use Rattle.lalrpop_grammar_repr.specs.declared.production.Symbol.{Symbol}
use Rattle.lalrpop_grammar_repr.specs.declared.production.Symbol.TheVariants as symbols
use Rattle.lalrpop_grammar_language.specs.Labels.{BaseProductions, GrammarSymbols, Label}
use Rattle.lalrpop_grammar_language.specs.Steps.{NamesInlinedFirst, OneMore, label_with}
use Rattle.lalrpop_grammar_language.proofs.OrderLemmas.{never_names}
use Rattle.lalrpop_grammar_language.proofs.SideLemmas.{inlines_same}
use Rattle.lalrpop_lr1_inline.specs.InlinedGrammars.{IsInlinedGrammar}
use Rattle.lalrpop_lr1_inline.specs.InlinedNames.{NonterminalEntries, inlined_in_symbols}
use Rattle.lalrpop_lr1_inline.specs.InlinedNames.{inlined_named_by, is_inlined_name, names_in_symbol}
use Rattle.lalrpop_lr1_inline.specs.InliningOrders.{HasAllInlined, HasNamedFirst, HasNameOnce}
use Rattle.lalrpop_lr1_inline.specs.InliningSteps.{AreInlineSteps, all_records_after, productions_named}
use Rattle.lalrpop_lr1_inline.specs.NamedProductions.{IsInlinedByName, ProducesByAction}
use Rattle.lalrpop_lr1_inline.specs.NamedProductions.{record_by_labels, side_by_names, symbol_by_name}
use Rattle.lalrpop_grammar_language.proofs.StepOnceLemmas.{append-none}
use Rattle.lalrpop_grammar_language.proofs.StepLemmas.{among_right}
use Rattle.lalrpop_grammar_language.proofs.StepLemmas.{among_left}
use Rattle.lalrpop_grammar_language.proofs.OrderLemmas.{among_parts}
use Rattle.lalrpop_lr1_inline.proofs.NamedLemmas.{all_listed}
use Rattle.lalrpop_lr1_inline.proofs.OrderLemmas.{order_all, order_named_first, order_once}
use Rattle.lalrpop_grammar_language.proofs.AmongLemmas.{flat_map_among}
use Rattle.lalrpop_lr1_inline.proofs.SourceLemmas.{around, filter_among}
use Rattle.lalrpop_lr1_inline.specs.InlinedLabels.{AreActionLabels, AreInlinedProductions, StandOnce, production_actions}
use Rattle.lalrpop_lr1_inline.proofs.GivenLabelLemmas.{given_labels}
use Rattle.lalrpop_lr1_inline.proofs.MadeLabelLemmas.{labels_made}
use Rattle.lalrpop_lr1_inline.proofs.StepLabelLemmas.{AreProductionsBy, step_labels}

-- two ways to say which nonterminals are inlined tell the same productions
pub same_productions : (M : BaseProductions Text ℕ) (In Same : Text → Type 0) (lab : ℕ → Label Text ℕ) (es : NonterminalEntries) →
    ((x : Text) → In x ↔ Same x) → AreProductionsBy M In lab es → AreProductionsBy M Same lab es
same_productions M In Same lab es e are = record {
  sound = λ x p i. inlines_same M In Same e (lab p.action.0) x (side_by_names p.symbols) (are.sound x p i);
  all = λ x label side h. are.all x label side (inlines_same M Same In (λ y. ((e y).1, (e y).0)) label x side h);
  once = are.once;
}

pub one_more_is : (front : List Text) (n x : Text) → OneMore (λ y. Among front y) n x ↔ Among (front ++ n ∷ []) x
one_more_is front n x = (to, λ i. from (among_parts front (n ∷ []) x i))
  where
    to : OneMore (λ y. Among front y) n x → Among (front ++ n ∷ []) x
    to (inl i) = among_left front (n ∷ []) x i
    to (inr e) = among_right front (n ∷ []) x (inl (sym e))

    from : Among front x ⊎ Among (n ∷ []) x → OneMore (λ y. Among front y) n x
    from (inl i) = inl i
    from (inr (inl e)) = inr (sym e)
    from (inr (inr i)) = absurd i

-- what steps add stands behind
pub steps_extend : (ns : List Text) (es after : NonterminalEntries) (actions actions_after : List ActionFnDefn) →
    AreInlineSteps ns es actions after actions_after → (back : List ActionFnDefn) × (actions_after ≡ actions ++ back)
steps_extend [] es after actions actions_after h = ([], h.1 ∙ sym (append-none actions))
steps_extend (n ∷ ns) es after actions actions_after h =
    let w = steps_extend ns h.0 after h.1 actions_after h.3 in
    (h.2.made ++ w.0, w.1 ∙ ap (λ l. l ++ w.0) h.2.actions_are ∙ append_assoc actions h.2.made w.0)

-- an inlined nonterminal on the right side of a production is one that its nonterminal names
name_told : (s : Symbol) (y : Text) → symbol_by_name s ≡ GrammarSymbol.nonterminal y → Among (names_in_symbol s) y
name_told (symbols.Terminal t) y e = (let f : GrammarSymbol.terminal (terminal_view t) ≡ GrammarSymbol.nonterminal y = e in cc)
name_told (symbols.Nonterminal m) y e =
    let f : GrammarSymbol.nonterminal m.0 ≡ GrammarSymbol.nonterminal y = e in
    let same : m.0 ≡ y = cc in
    inl same

pub named_there : (es : NonterminalEntries) (x : Text) (choice : ℕ) (side : GrammarSymbols Text) (y : Text) →
    ProducesByAction es x choice side → Among side (GrammarSymbol.nonterminal y) → is_inlined_name es y ≡ true →
    Among (inlined_named_by es x) y
named_there es x choice side y w i marked =
    let p = w.0 in
    let s = among_map symbol_by_name p.symbols (GrammarSymbol.nonterminal y)
    (subst (λ (l : GrammarSymbols Text). Among l (GrammarSymbol.nonterminal y)) (sym w.3) i) in
    let inside = filter_among (is_inlined_name es) (flat_map names_in_symbol p.symbols) y
    (flat_map_among names_in_symbol p.symbols s.0 y s.1 (name_told s.0 y s.2)) marked in
    flat_map_among (λ (q : Production). inlined_in_symbols es q.symbols) (productions_named es x) p y w.1 inside

module _ (ds : NonterminalEntries) (order : List Text) (all : HasAllInlined ds order) (once : HasNameOnce order)
    (first : HasNamedFirst ds order) (lab : ℕ → Label Text ℕ) (least : ℕ) (whole : List ActionFnDefn)
    (says : (k : ℕ) (d : ActionFnDefn) (i : InlineActionFnDefn) → least ≤ k → slice_get whole k ≡ Some d →
    d.kind ≡ kinds.Inline i →
    lab k ≡ label_with (lab i.action.0) (record_by_labels lab i.symbols)) where
  -- what is to be inlined in the nonterminal, or in one before it, is inlined before it
  inlined_first : (front : List Text) (n : Text) (ns : List Text) → order ≡ front ++ n ∷ ns →
      NamesInlinedFirst (ProducesByAction ds) (λ x. Among front x) (λ x. is_inlined_name ds x ≡ true) n
  inlined_first front n ns e x choice side y (inl i) w j marked =
      let a = around front x i in
      let split : order ≡ a.front ++ x ∷ (a.back ++ n ∷ ns) =
      e ∙ ap (λ l. l ++ n ∷ ns) a.whole ∙ append_assoc a.front (x ∷ a.back) (n ∷ ns) in
      subst (λ (l : List Text). Among l y) (sym a.whole)
      (among_left a.front (x ∷ a.back) y
      (first a.front x (a.back ++ n ∷ ns) y split (named_there ds x choice side y w j marked)))
  inlined_first front n ns e x choice side y (inr same) w j marked =
      first front n ns y e
      (subst (λ (z : Text). Among (inlined_named_by ds z) y) same (named_there ds x choice side y w j marked))

  steps_labels : (ns front : List Text) → order ≡ front ++ ns → (es after : NonterminalEntries) (actions : List ActionFnDefn) →
      AreInlineSteps ns es actions after whole → least ≤ length actions →
      AreProductionsBy (ProducesByAction ds) (λ x. Among front x) lab es →
      AreProductionsBy (ProducesByAction ds) (λ x. Among order x) lab after
  steps_labels [] front e es after actions h l are =
      let same : front ≡ order = sym (e ∙ append-none front) in
      subst (λ (a : NonterminalEntries). AreProductionsBy (ProducesByAction ds) (λ x. Among order x) lab a) (sym h.0)
      (subst (λ (f : List Text). AreProductionsBy (ProducesByAction ds) (λ x. Among f x) lab es) same are)
  steps_labels (n ∷ ns) front e es after actions h l are =
      let mid = h.0 in
      let s = h.2 in
      let back = steps_extend ns mid after h.1 whole h.3 in
      let join : whole ≡ actions ++ (s.made ++ back.0) =
      back.1 ∙ ap (λ (a : List ActionFnDefn). a ++ back.0) s.actions_are ∙ append_assoc actions s.made back.0 in
      let made = labels_made lab least whole actions says (all_records_after n (productions_named es n) es) s.made actions back.0
      s.are_definitions join l in
      let listed : Among order n = subst (λ (a : List Text). Among a n) (sym e) (among_right front (n ∷ ns) n (inl refl)) in
      let never = never_names (ProducesByAction ds) (λ x. Among front x) (λ x. is_inlined_name ds x ≡ true) n ((all n).1 listed)
      (inlined_first front n ns e) in
      let stepped = step_labels (ProducesByAction ds) (λ x. Among front x) lab n es (once front n ns e).0 never are
      (length actions) made in
      let here : AreProductionsBy (ProducesByAction ds) (λ x. Among (front ++ n ∷ []) x) lab mid =
      subst (λ (a : NonterminalEntries). AreProductionsBy (ProducesByAction ds) (λ x. Among (front ++ n ∷ []) x) lab a)
      (sym s.entries_are)
      (same_productions (ProducesByAction ds) (OneMore (λ x. Among front x) n) (λ x. Among (front ++ n ∷ []) x) lab _
      (one_more_is front n) stepped) in
      let many = ap length s.actions_are ∙ length-append actions s.made in
      steps_labels ns (front ++ n ∷ []) (e ∙ sym (append_assoc front (n ∷ []) ns)) mid after h.1 h.3 (omega (arith, many, l)) here

-- by the actions' labels, the productions after inlining are those before it, inlined, each label once
pub inlined_labels : (before after : Grammar) (lab : ℕ → Label Text ℕ) →
    IsStrictlySortedBy (names.ghosts).cmp (keys_of before.nonterminals) → StandOnce (production_actions before.nonterminals) →
    IsInlinedGrammar before after → AreActionLabels before after lab →
    AreInlinedProductions before.nonterminals after.nonterminals lab
inlined_labels before after lab sorted own inlined labels =
    let es = before.nonterminals in
    let order = inlined.order in
    let all = order_all es order inlined.is_order (all_listed es sorted) in
    let are = steps_labels es order all (order_once es order inlined.is_order) (order_named_first es order inlined.is_order) lab
    (length before.action_fn_defns) after.action_fn_defns labels.made order [] refl es after.nonterminals before.action_fn_defns
    inlined.steps (omega arith) (given_labels es lab (λ x. Among [] x) (λ x i. i) labels.given own) in
    let last = same_productions (ProducesByAction es) (λ x. Among order x) (IsInlinedByName es) lab after.nonterminals
    (λ x. ((all x).1, (all x).0)) are in
    record { has_label = last.sound; all = last.all; once = last.once }
