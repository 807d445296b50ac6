-- What was prepared has the productions of its grammar's expansion, their actions numbered in the order of their labels: for what conflicts
-- reply.
use Rattle.std.proofs.Common.{◌≡◌, ◌∙◌, ◌<◌, List, Contains, arith, length, map, refl, subst, sym, true, false}
use Rattle.std.specs.Prelude.{Bool, Option, Some, None}
use Rattle.std.proofs.lemmas.List.{length-map}
use Rattle.std.proofs.lemmas.Option.{slice_get_within}
use Rattle.lalrpop_grammar_symbols.specs.Symbols.{Text}
use Rattle.lalrpop_grammar_symbols.specs.declared.names.NonterminalString.{NonterminalString}
use Rattle.lalrpop_grammar.specs.Views.{grammar_view, origin_view}
use Rattle.lalrpop_grammar.specs.WrittenGrammar.{Grammar, Origin}
use Rattle.lalrpop_grammar.specs.declared.origin.Origin as choices
use Rattle.lalrpop_grammar_language.specs.Among.{Among}
use Rattle.lalrpop_grammar_language.specs.Enabled.{EnabledGrammar, enabled_grammar}
use Rattle.lalrpop_grammar_language.specs.Expansion.{InExpansion, Nonterminal, Produces}
use Rattle.lalrpop_grammar_language.specs.Inlining.{HaveOneSide}
use Rattle.lalrpop_grammar_language.specs.Labels.{Label}
use Rattle.lalrpop_grammar_language.proofs.LabelLemmas.{one_side}
use Rattle.lalrpop_grammar_language.proofs.PlaceLemmas.{places_apart, places_told}
use Rattle.lalrpop_grammar_repr.specs.declared.action.ActionFnDefn.{ActionFnDefn}
use Rattle.lalrpop_grammar_repr.specs.declared.grammar.Grammar as repr
use Rattle.lalrpop_grammar_repr.specs.declared.production.NonterminalData.{NonterminalData}
use Rattle.lalrpop_grammar_repr.specs.declared.production.Production as lowered
use Rattle.lalrpop_lr1_core.specs.TheoryGrammars.{theory_grammar}
use Rattle.lalrpop_lr1_inline.specs.InlinedGrammars.{IsInlinedGrammar}
use Rattle.lalrpop_lr1_inline.specs.InlinedNames.{data_named, is_inlined_name, is_marked_data, name_of_text}
use Rattle.lalrpop_lr1_theory.specs.Productions.{Production}
use Rattle.lalrpop_norm_chain.specs.LoweredViews.{lowered_view}
use Rattle.lalrpop_norm_chain.specs.Normalized.{IsNormalized}
use Rattle.lalrpop_norm_chain.proofs.EntryLemmas.{found_name}
use Rattle.lalrpop_norm_lower.specs.LoweredSymbols.{named_production}
use Rattle.lalrpop_norm_lower.specs.declared.lowering.Normalized.{Normalized}
use Rattle.lalrpop_norm_theory.specs.Keys.{leveled_key_text}
use Rattle.lalrpop_norm_theory.specs.NamesByUse.{IsNamingByUse}
use Rattle.lalrpop_norm_theory.specs.Productions.{IsOriginBefore}
use Rattle.lalrpop_run_prepare.specs.NamedGrammars.{IsNamedExpansion}
use Rattle.lalrpop_run_prepare.specs.NamedLabels.{label_back}
use Rattle.lalrpop_run_prepare.specs.PreparedGrammars.{HasNamedProductions, IsPrepared, PreparedGrammar}
use Rattle.lalrpop_run_prepare.specs.ToldExpansions.{AreToldExpansion}
use Rattle.lalrpop_run_prepare.proofs.NamedProductionLemmas.{back, entry_production}
use Rattle.lalrpop_run_prepare.proofs.ToldExpansionLemmas.{told_expansion, told_labels}
use Rattle.lalrpop_run.specs.NonterminalOrders.{IsNonterminalOrder}
use Rattle.lalrpop_run.specs.ProductionOrders.{IsNumberedBefore}
use Rattle.lalrpop_run.proofs.InlineCycleLemmas.{under_own_names}
use Rattle.lalrpop_run.proofs.NonterminalOrderLemmas.{order_under_names}
use Rattle.lalrpop_run.proofs.NumberedExpansionLemmas.{actions_in_order}

-- The actions tell the labels of an expansion's productions, and those of one nonterminal are numbered in the order of their labels. Names
-- are given in order of first use.
pub record AreToldInOrder (g : EnabledGrammar) (prefix : Text) (actions : List ActionFnDefn) (origins : List choices.Origin)
    (grammar : List Production) : Type 0 where
  pub told : AreToldExpansion g prefix actions origins grammar
  pub naming : IsNamingByUse (leveled_key_text g) prefix g told.expansion.name_of
  pub order : List Nonterminal
  pub is_order : IsNonterminalOrder g told.expansion.name_of order
  pub in_order : (p r : Production) → Contains grammar p → Contains grammar r → p.left ≡ r.left → p.action < r.action
      → IsNumberedBefore Nonterminal Origin IsOriginBefore order (told.expansion.label_of p.action) (told.expansion.label_of r.action)

module _ (finds : Text → Text → Option Bool) (features : List Text) (w : Grammar) (made : Normalized)
    (h : IsNormalized finds features w (lowered_view made)) (named : HasNamedProductions made.grammar) (after : repr.Grammar)
    (inlined : IsInlinedGrammar made.grammar after) where
  abbrev g : EnabledGrammar
  g = enabled_grammar finds features w

  abbrev own_names : IsNamedExpansion (enabled_grammar finds features w) w.prefix made.grammar.nonterminals
  own_names = under_own_names finds features w made h named

  sides_are_one : HaveOneSide (Produces (enabled_grammar finds features w))
  sides_are_one = one_side (enabled_grammar finds features w) (places_told finds features w) (places_apart finds features w)

  inlined_there : (k : Text) → is_inlined_name made.grammar.nonterminals k ≡ true →
      (x : Nonterminal) × InExpansion (enabled_grammar finds features w) x × (h.name_of x ≡ k)
  inlined_there k e = go (data_named made.grammar.nonterminals k) refl e
    where
      go : (d : Option NonterminalData) → data_named made.grammar.nonterminals k ≡ d → is_marked_data d ≡ true →
          (x : Nonterminal) × InExpansion (enabled_grammar finds features w) x × (h.name_of x ≡ k)
      go None f m = (let wrong : false ≡ true = m in cc)
      go (Some d) f m = (h.nonterminals k).0 (found_name made.grammar.nonterminals (name_of_text k) d f)

  many : length made.grammar.action_fn_defns ≡ length made.origins
  many = h.actions.no_other ∙ length-map made.origins origin_view

  known : (m : NonterminalString) (d : NonterminalData) (p : lowered.Production) → Among made.grammar.nonterminals (m, d) →
      Among d.productions p → p.action.0 < length made.grammar.action_fn_defns
  known m d p i j =
      let a = h.productions.no_other (named_production p) (entry_production made.grammar.nonterminals (m, d) p i j) in
      let near = slice_get_within (map origin_view made.origins) p.action.0 a.0.choice a.2.origin_is in
      omega (arith, near, h.actions.no_other)

  pub normalized_in_order : AreToldInOrder (enabled_grammar finds features w) w.prefix after.action_fn_defns made.origins
      (theory_grammar after)
  normalized_in_order =
      let es = made.grammar.nonterminals in
      let told = told_expansion g w.prefix made.grammar named.ascending named.under own_names made.origins refl many after inlined
      known in
      let r = told_labels g w.prefix made.grammar named.ascending named.under own_names made.origins refl many after inlined known in
      let o = order_under_names g w.prefix es named.ascending named.under own_names sides_are_one inlined_there inlined.order
      inlined.is_order in
      let goes = back g w.prefix es named.ascending named.under own_names in
      let ordered = actions_in_order g w.prefix made.grammar named.ascending named.under own_names after inlined known r.0 r.1
      o.nonterminals o.names_are o.are_known in
      record {
        told = told;
        naming = subst (λ (f : Nonterminal → Text). IsNamingByUse (leveled_key_text g) w.prefix g f) (sym r.3) h.naming;
        order = o.nonterminals;
        is_order = subst (λ (f : Nonterminal → Text). IsNonterminalOrder g f o.nonterminals) (sym r.3) o.is_order;
        in_order = λ p q c d same less.
            subst (λ (l : Label Nonterminal Origin). IsNumberedBefore Nonterminal Origin IsOriginBefore o.nonterminals l
            (told.expansion.label_of q.action)) (sym (r.2 p.action))
            (subst (λ (l : Label Nonterminal Origin). IsNumberedBefore Nonterminal Origin IsOriginBefore o.nonterminals
            (label_back goes (r.0 p.action)) l) (sym (r.2 q.action)) (ordered p q c d same less));
      }

pub prepared_in_order : (finds : Text → Text → Option Bool) (deep : Text → Bool) (v : PreparedGrammar) → IsPrepared finds deep v →
    AreToldInOrder (enabled_grammar finds v.session.features.items (grammar_view v.written)) v.written.prefix
    v.expansion.action_fn_defns v.origins (theory_grammar v.expansion)
prepared_in_order finds deep v p =
    subst (λ (origins : List choices.Origin). AreToldInOrder
    (enabled_grammar finds v.session.features.items (grammar_view v.written)) v.written.prefix v.expansion.action_fn_defns origins
    (theory_grammar v.expansion)) p.origins_are
    (normalized_in_order finds v.session.features.items (grammar_view v.written) p.made p.normalized p.named v.expansion
    (subst (λ (l : repr.Grammar). IsInlinedGrammar l v.expansion) (sym p.lowered_is) p.inlined))
