-- A normalized grammar's productions are those of the expansion under names: for the law on inlined grammars.
use Rattle.std.proofs.Common.{◌≡◌, ◌∙◌, List, [], ◌∷◌, refl, ap, sym, subst, Bool, Option, true, false}
use Rattle.std.specs.Prelude.{◌||◌, Some, None, codes, filter, map}
use Rattle.std.specs.List.{list_any}
use Rattle.lalrpop_grammar_symbols.specs.Symbols.{Text, TextSpan}
use Rattle.lalrpop_grammar_symbols.specs.Views.{span_view}
use Rattle.std.specs.Str.{bytes_eq}
use Rattle.lalrpop_grammar_symbols.specs.declared.names.NonterminalString.{NonterminalString}
use Rattle.lalrpop_grammar.specs.Views.{arg_step, attribute_step, attribute_view, origin_view}
use Rattle.lalrpop_grammar.specs.WrittenGrammar.{Attr, Grammar, attr_id}
use Rattle.lalrpop_grammar_language.specs.Among.{Among}
use Rattle.lalrpop_grammar_language.specs.Enabled.{enabled_grammar, has_attr}
use Rattle.lalrpop_grammar_language.proofs.PlaceLemmas.{among_filter, among_map}
use Rattle.lalrpop_grammar_repr.specs.declared.production.NonterminalData.{NonterminalData}
use Rattle.lalrpop_grammar.specs.declared.types.attribute.Attribute.{Attribute, fold-Attribute, fold-roll-Attribute}
use Rattle.lalrpop_grammar.specs.declared.types.attribute.AttributeArg.{AttributeArg, map-AttributeArg}
use Rattle.lalrpop_grammar.specs.declared.types.attribute.AttributeArg.TheFolds.{fold-AttributeArg, fold_out-AttributeArg}
use Rattle.lalrpop_grammar.specs.declared.types.attribute.AttributeArg.TheOpen as layer
use Rattle.lalrpop_grammar.specs.declared.types.attribute.AttributeArg.TheViews.{out-AttributeArg}
use Rattle.lalrpop_grammar_language.proofs.AmongLemmas.{map_among}
use Rattle.lalrpop_norm_theory.proofs.LevelLemmas.{keeps}
use Rattle.lalrpop_norm_lower.specs.Lowered.{says_inline}
use Rattle.lalrpop_norm_lower.specs.declared.lowering.Normalized.{Normalized}
use Rattle.lalrpop_norm_chain.specs.Normalized.{IsNormalized}
use Rattle.lalrpop_norm_chain.specs.LoweredViews.{found_entries, lowered_view, names_marked_inline}
use Rattle.lalrpop_norm_chain.proofs.EntryLemmas.{entry_found, found_entry}
use Rattle.lalrpop_lr1_inline.specs.InlinedNames.{NonterminalEntries, data_named, is_inline_mark, is_marked_data}
use Rattle.lalrpop_lr1_inline.specs.InlinedNames.{is_marked_inline, name_of_text}
use Rattle.lalrpop_lr1_inline.specs.NamedProductions.{IsInlinedByName}
use Rattle.lalrpop_run_prepare.specs.NamedGrammars.{IsNamedExpansion}

attribute_opened : (a : Attribute) →
    attribute_view a ≡ fold-AttributeArg (TextSpan → Text → Attr) Attr arg_step attribute_step a.arg (span_view a.span) a.id
attribute_opened a =
    fold-roll-Attribute (TextSpan → Text → Attr) Attr arg_step attribute_step (record { span = a.span; id = a.id; arg = a.arg })

step_name : (l : layer.AttributeArg-F (TextSpan → Text → Attr) Attr) (p : TextSpan) (n : Text) → attr_id (arg_step l p n) ≡ n
step_name layer.Empty p n = refl
step_name (layer.Paren parts) p n = refl
step_name (layer.Equal t) p n = refl

arg_name : (x : AttributeArg) (p : TextSpan) (n : Text) →
    attr_id (fold-AttributeArg (TextSpan → Text → Attr) Attr arg_step attribute_step x p n) ≡ n
arg_name x p n =
    ap (λ (f : TextSpan → Text → Attr). attr_id (f p n))
    (fold_out-AttributeArg (TextSpan → Text → Attr) Attr arg_step attribute_step x)
    ∙ step_name (map-AttributeArg AttributeArg Attribute (TextSpan → Text → Attr) Attr
    (fold-AttributeArg (TextSpan → Text → Attr) Attr arg_step attribute_step)
    (fold-Attribute (TextSpan → Text → Attr) Attr arg_step attribute_step) (out-AttributeArg x)) p n

-- an attribute is seen under its name
name_seen : (a : Attribute) → attr_id (attribute_view a) ≡ a.id
name_seen a = ap attr_id (attribute_opened a) ∙ arg_name a.arg (span_view a.span) a.id

-- the mark of inlining is told the same by both
marks_same : (as_ : List Attribute) → has_attr (codes "inline") (map attribute_view as_) ≡ list_any is_inline_mark as_
marks_same [] = refl
marks_same (a ∷ as_) =
    ap (λ (n : Text). bytes_eq n (codes "inline") || has_attr (codes "inline") (map attribute_view as_)) (name_seen a)
    ∙ ap (λ b. is_inline_mark a || b) (marks_same as_)

says_same : (d : NonterminalData) → says_inline d ≡ is_marked_inline d
says_same d = marks_same d.attributes

-- the names that say that they are inlined are those that are
inlined_among : (es : NonterminalEntries) (n : Text) → Among (names_marked_inline es) n → IsInlinedByName es n
inlined_among es n i =
    let u = among_map (λ (e : NonterminalString × NonterminalData). e.0.0)
    (filter (λ (e : NonterminalString × NonterminalData). says_inline e.1) (found_entries es)) n i in
    let s = among_filter (λ (e : NonterminalString × NonterminalData). says_inline e.1) (found_entries es) u.0 u.1 in
    subst (IsInlinedByName es) u.2
    (ap is_marked_data (entry_found es u.0 s.0) ∙ sym (says_same u.0.1) ∙ s.1)

among_inlined : (es : NonterminalEntries) (n : Text) → IsInlinedByName es n → Among (names_marked_inline es) n
among_inlined es n h = go (data_named es n) refl h
  where
    go : (o : Option NonterminalData) → data_named es n ≡ o → is_marked_data o ≡ true → Among (names_marked_inline es) n
    go None e f = let wrong : false ≡ true = f in cc
    go (Some d) e f =
        map_among (λ (x : NonterminalString × NonterminalData). x.0.0)
        (filter (λ (x : NonterminalString × NonterminalData). says_inline x.1) (found_entries es)) (name_of_text n, d)
        (keeps (λ (x : NonterminalString × NonterminalData). says_inline x.1) (found_entries es) (name_of_text n, d)
        (found_entry es (name_of_text n) d e) (says_same d ∙ f))

-- the productions of a normalized grammar are the expansion's under names
pub named_expansion : (finds : Text → Text → Option Bool) (features : List Text) (w : Grammar) (made : Normalized) →
    IsNormalized finds features w (lowered_view made) →
    IsNamedExpansion (enabled_grammar finds features w) w.prefix made.grammar.nonterminals
named_expansion finds features w made h = record {
  name_of = h.name_of;
  naming = h.naming.naming;
  origins = map origin_view made.origins;
  productions = h.productions;
  inlined = λ x i. (
    λ k. inlined_among made.grammar.nonterminals (h.name_of x) ((h.inlined x i).1 k),
    λ k. (h.inlined x i).0 (among_inlined made.grammar.nonterminals (h.name_of x) k),
  );
}

-- its names are those of the normalized grammar
pub named_names : (finds : Text → Text → Option Bool) (features : List Text) (w : Grammar) (made : Normalized)
    (h : IsNormalized finds features w (lowered_view made)) → (named_expansion finds features w made h).name_of ≡ h.name_of
unfolding named_expansion
named_names finds features w made h = refl

-- its origins are those of the grammar
pub named_origins : (finds : Text → Text → Option Bool) (features : List Text) (w : Grammar) (made : Normalized)
    (h : IsNormalized finds features w (lowered_view made)) →
    (named_expansion finds features w made h).origins ≡ map origin_view made.origins
unfolding named_expansion
named_origins finds features w made h = refl
