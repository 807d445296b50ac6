-- Cycles of inlined rules in a lowered grammar are those over the nonterminals of its expansion, both ways; for what is listed of inlining.
use Rattle.std.proofs.Common.{◌≡◌, ◌∙◌, ◌↔◌, ◌++◌, Bool, List, [], ◌∷◌, Option, ap, inl, inr, map, refl, subst, sym}
use Rattle.std.specs.Prelude.{flat_map}
use Rattle.lalrpop_grammar_symbols.specs.Symbols.{Text}
use Rattle.lalrpop_grammar_symbols.specs.Views.{span_view}
use Rattle.lalrpop_grammar_symbols.specs.declared.names.NonterminalString.{NonterminalString}
use Rattle.lalrpop_grammar.specs.Views.{origin_view}
use Rattle.lalrpop_grammar.specs.WrittenGrammar.{Grammar, Origin}
use Rattle.lalrpop_grammar_language.specs.Among.{Among}
use Rattle.lalrpop_grammar_language.specs.Enabled.{EnabledGrammar, enabled_grammar}
use Rattle.lalrpop_grammar_language.specs.Expansion.{GrammarSymbol, InExpansion, Nonterminal, Produces, RightSide}
use Rattle.lalrpop_grammar_language.proofs.AmongLemmas.{among_flat_map, flat_map_among, map_among}
use Rattle.lalrpop_grammar_language.proofs.PlaceLemmas.{among_filter, among_map}
use Rattle.lalrpop_grammar_repr.specs.declared.norm_error.NormError.{NormError}
use Rattle.lalrpop_grammar_repr.specs.declared.norm_error.NormErrorKind.TheVariants as kinds
use Rattle.lalrpop_grammar_repr.specs.declared.production.NonterminalData.{NonterminalData}
use Rattle.lalrpop_grammar_repr.specs.declared.production.Production.{Production}
use Rattle.lalrpop_grammar_repr.specs.declared.production.Symbol.{Symbol}
use Rattle.lalrpop_grammar_repr.specs.declared.production.Symbol.TheVariants as symbols
use Rattle.lalrpop_lr1_inline.specs.InlinedNames.{NonterminalEntries, inlined_in_symbols, inlined_named_by, is_inlined_name, name_of_text}
use Rattle.lalrpop_lr1_inline.specs.InlinedNames.{names_in_symbol}
use Rattle.lalrpop_lr1_inline.specs.InlineFaults.{IsInlineChain, IsInlineCycle}
use Rattle.lalrpop_lr1_inline.specs.InliningOrders.{IsInliningOrder}
use Rattle.lalrpop_lr1_inline.specs.InliningSteps.{productions_named}
use Rattle.lalrpop_lr1_inline.specs.NamedProductions.{IsInlinedByName, side_by_names}
use Rattle.lalrpop_lr1_inline.proofs.NamedLemmas.{all_listed}
use Rattle.lalrpop_lr1_inline.proofs.OrderLemmas.{order_none}
use Rattle.lalrpop_lr1_inline.proofs.SearchLemmas.{chain_on}
use Rattle.lalrpop_norm_chain.specs.LoweredViews.{found_entries, found_places, lowered_view}
use Rattle.lalrpop_norm_chain.specs.Normalized.{IsNormalized}
use Rattle.lalrpop_norm_chain.specs.Spans.{HasOwnSpan}
use Rattle.lalrpop_norm_chain.proofs.EntryLemmas.{found_entry, found_name}
use Rattle.lalrpop_norm_lower.specs.declared.lowering.Normalized.{Normalized}
use Rattle.lalrpop_norm_theory.specs.Inlined.{IsInlined}
use Rattle.lalrpop_norm_theory.specs.Same.{rename_side, rename_symbol}
use Rattle.lalrpop_norm_theory.proofs.LevelLemmas.{keeps}
use Rattle.lalrpop_run_prepare.specs.NamedGrammars.{IsNamedExpansion, StandUnderNames}
use Rattle.lalrpop_run_prepare.specs.PreparedGrammars.{HasNamedProductions}
use Rattle.lalrpop_run_prepare.proofs.InlinedEntryLemmas.{AreSorted}
use Rattle.lalrpop_run_prepare.proofs.NamedProductionLemmas.{are_named, back}
use Rattle.lalrpop_run_prepare.proofs.NormalizedLemmas.{named_expansion, named_names}
use Rattle.lalrpop_run.specs.InlineCycles.{InlineChain, IsCycleFault, IsCyclic, NamesInlined}

-- chains

-- a chain begins with an inlined nonterminal
pub first_inlined : (g : EnabledGrammar) (x y : Nonterminal) → InlineChain g x y → IsInlined g x
first_inlined g x y (InlineChain.one h) = h.inlined
first_inlined g x y (InlineChain.more c h) = first_inlined g x _ c

-- a chain with one nonterminal more in front
chain_before : (g : EnabledGrammar) (x y z : Nonterminal) → NamesInlined g x y → InlineChain g y z → InlineChain g x z
chain_before g x y z h (InlineChain.one k) = InlineChain.more (InlineChain.one h) k
chain_before g x y z h (InlineChain.more c k) = InlineChain.more (chain_before g x y _ h c) k

-- right sides under names

one_name : (a b : Text) → ◌≡◌ {A = GrammarSymbol Text} (GrammarSymbol.nonterminal a) (GrammarSymbol.nonterminal b) → a ≡ b
one_name a b e = cc

-- a nonterminal of a right side is one of its names
pub side_named : (side : List Symbol) (k : Text) → Among (side_by_names side) (GrammarSymbol.nonterminal k)
    → Among (flat_map names_in_symbol side) k
side_named [] k i = absurd i
side_named (symbols.Nonterminal m ∷ side) k (inl e) = inl (one_name m.0 k e)
side_named (symbols.Nonterminal m ∷ side) k (inr i) = inr (side_named side k i)
side_named (symbols.Terminal t ∷ side) k (inl e) = absurd (let wrong : ⊥ = cc in wrong)
side_named (symbols.Terminal t ∷ side) k (inr i) = side_named side k i

-- and each of its names is a nonterminal of it
named_side : (side : List Symbol) (k : Text) → Among (flat_map names_in_symbol side) k
    → Among (side_by_names side) (GrammarSymbol.nonterminal k)
named_side [] k i = absurd i
named_side (symbols.Nonterminal m ∷ side) k (inl e) = inl (ap GrammarSymbol.nonterminal e)
named_side (symbols.Nonterminal m ∷ side) k (inr i) = inr (named_side side k i)
named_side (symbols.Terminal t ∷ side) k i = inr (named_side side k i)

-- a nonterminal of a renamed right side is one of the right side's under its name
side_renamed : (f : Nonterminal → Text) (side : RightSide) (k : Text) → Among (rename_side f side) (GrammarSymbol.nonterminal k)
    → (y : Nonterminal) × Among side (GrammarSymbol.nonterminal y) × (f y ≡ k)
side_renamed f side k i =
    let r = among_map (rename_symbol f) side (GrammarSymbol.nonterminal k) i in
    go r.0 r.1 r.2
  where
    go : (s : GrammarSymbol Nonterminal) → Among side s → rename_symbol f s ≡ GrammarSymbol.nonterminal k
        → (y : Nonterminal) × Among side (GrammarSymbol.nonterminal y) × (f y ≡ k)
    go (GrammarSymbol.nonterminal y) j e = (y, j, one_name (f y) k e)
    go (GrammarSymbol.terminal t) j e = absurd (let wrong : ⊥ = cc in wrong)

module _ (g : EnabledGrammar) (prefix : Text) (es : NonterminalEntries) (sorted : AreSorted es) (own : StandUnderNames es)
    (n : IsNamedExpansion g prefix es) where
  -- what a production names is in the expansion
  known : (x y : Nonterminal) → InExpansion g x → NamesInlined g x y → InExpansion g y
  known x y i h = (are_named g prefix es sorted own n).known x h.choice h.side i h.produced y h.named

  -- where an inlined nonterminal names one in the expansion, its name does so in the lowered grammar
  named_below : (x y : Nonterminal) → InExpansion g x → NamesInlined g x y
      → Among (inlined_named_by es (n.name_of x)) (n.name_of y)
  named_below x y i h =
      let r = (are_named g prefix es sorted own n).every x h.choice h.side i h.produced in
      let p = r.1.0 in
      let stands : Among (side_by_names p.symbols) (GrammarSymbol.nonterminal (n.name_of y)) =
      subst (λ (side : List (GrammarSymbol Text)). Among side (GrammarSymbol.nonterminal (n.name_of y))) (sym r.1.3)
      (map_among (rename_symbol n.name_of) h.side (GrammarSymbol.nonterminal y) h.named) in
      flat_map_among (λ (q : Production). inlined_in_symbols es q.symbols) (productions_named es (n.name_of x)) p (n.name_of y) r.1.1
      (keeps (is_inlined_name es) (flat_map names_in_symbol p.symbols) (n.name_of y) (side_named p.symbols (n.name_of y) stands)
      ((n.inlined y (known x y i h)).0 h.names_inlined))

  -- and so with a chain
  chain_below : (x y : Nonterminal) → InExpansion g x → InlineChain g x y
      → (between : List Text) × IsInlineChain es (n.name_of x) between (n.name_of y) × InExpansion g y
  chain_below x y i (InlineChain.one h) = ([], named_below x y i h, known x y i h)
  chain_below x z i (InlineChain.more {y = y} c h) =
      let r = chain_below x y i c in (
        r.0 ++ n.name_of y ∷ [],
        chain_on es (n.name_of x) r.0 (n.name_of y) (n.name_of z) r.1 (named_below y z r.2 h),
        known y z r.2 h,
      )

  -- where there is an order, none is cyclic
  pub none_cyclic : (order : List Text) → IsInliningOrder es order → (x : Nonterminal) → IsCyclic g x → ⊥
  none_cyclic order o x h =
      let c = chain_below x x h.0 h.1 in
      order_none es order o (all_listed es sorted) (n.name_of x)
      (record { is_inlined = (n.inlined x h.0).0 (first_inlined g x x h.1); between = c.0; chain = c.1 })

  -- what the name of an inlined nonterminal names in the lowered grammar it names in the expansion
  named_above : (x : Nonterminal) (k : Text) → InExpansion g x → IsInlined g x → Among (inlined_named_by es (n.name_of x)) k
      → (y : Nonterminal) × InExpansion g y × NamesInlined g x y × (n.name_of y ≡ k)
  named_above x k i goes h =
      let r = among_flat_map (λ (q : Production). inlined_in_symbols es q.symbols) (productions_named es (n.name_of x)) k h in
      let p = r.0 in
      let f = among_filter (is_inlined_name es) (flat_map names_in_symbol p.symbols) k r.2 in
      let source : Nonterminal × Origin = back g prefix es sorted own n p.action.0 in
      let b = (are_named g prefix es sorted own n).no_other (n.name_of x) p.action.0 (side_by_names p.symbols) (p, r.1, refl, refl) in
      let same : x ≡ source.0 = n.naming.apart x source.0 i b.known b.name_is in
      let produced : Produces g x source.1 b.from = subst (λ z. Produces g z source.1 b.from) (sym same) b.produced in
      let stands : Among (rename_side n.name_of b.from) (GrammarSymbol.nonterminal k) =
      subst (λ (side : List (GrammarSymbol Text)). Among side (GrammarSymbol.nonterminal k)) b.side_is
      (named_side p.symbols k f.0) in
      let y = side_renamed n.name_of b.from k stands in
      let there : InExpansion g y.0 =
      (are_named g prefix es sorted own n).known x source.1 b.from i produced y.0 y.1 in (
        y.0,
        there,
        record {
          inlined = goes;
          names_inlined = (n.inlined y.0 there).1 (subst (IsInlinedByName es) (sym y.2) f.1);
          choice = source.1;
          side = b.from;
          produced = produced;
          named = y.1;
        },
        y.2,
      )

  -- and so with a chain
  pub chain_above : (x : Nonterminal) (between : List Text) (m : Text) → InExpansion g x → IsInlined g x
      → IsInlineChain es (n.name_of x) between m
      → (y : Nonterminal) × InExpansion g y × InlineChain g x y × (n.name_of y ≡ m)
  chain_above x [] m i goes c = let r = named_above x m i goes c in (r.0, r.1, InlineChain.one r.2, r.3)
  chain_above x (k ∷ between) m i goes c =
      let r = named_above x k i goes c.0 in
      let s = chain_above r.0 between m r.1 r.2.names_inlined
      (subst (λ (t : Text). IsInlineChain es t between m) (sym r.3) c.1) in
      (s.0, s.1, chain_before g x r.0 s.0 r.2 s.2, s.3)

module _ (finds : Text → Text → Option Bool) (features : List Text) (w : Grammar) (made : Normalized)
    (h : IsNormalized finds features w (lowered_view made)) (named : HasNamedProductions made.grammar) where
  abbrev g : EnabledGrammar
  g = enabled_grammar finds features w

  abbrev es : NonterminalEntries
  es = made.grammar.nonterminals

  -- its productions are the expansion's under its own names
  abbrev pub under_own_names : IsNamedExpansion g w.prefix es
  under_own_names = record {
    name_of = h.name_of;
    naming = h.naming.naming;
    origins = map origin_view made.origins;
    productions = h.productions;
    inlined = subst (λ (f : Nonterminal → Text). (x : Nonterminal) → InExpansion g x → IsInlined g x ↔ IsInlinedByName es (f x))
        (named_names finds features w made h) (named_expansion finds features w made h).inlined;
  }

  -- where a normalized grammar has an inlining order, no nonterminal is cyclic
  pub acyclic_ordered : (order : List Text) → IsInliningOrder es order → (x : Nonterminal) → IsCyclic g x → ⊥
  acyclic_ordered order o x c = none_cyclic g w.prefix es named.ascending named.under under_own_names order o x c

  -- a cycle that is told of a normalized grammar is one over its nonterminals
  pub cycle_told : (told : NormError) → IsInlineCycle es told → IsCycleFault finds features w told.kind (span_view told.span)
  cycle_told told c =
      let x = (h.nonterminals c.name).0 (found_name es (name_of_text c.name) c.data_found c.has_data) in
      let goes : IsInlined g x.0 =
      (under_own_names.inlined x.0 x.1).1 (subst (IsInlinedByName es) (sym x.2) c.returns.is_inlined) in
      let r = chain_above g w.prefix es named.ascending named.under under_own_names x.0 c.returns.between c.name x.1 goes
      (subst (λ (t : Text). IsInlineChain es t c.returns.between c.name) (sym x.2) c.returns.chain) in
      let same : x.0 ≡ r.0 = h.naming.naming.apart x.0 r.0 x.1 r.1 (x.2 ∙ sym r.3) in
      let listed : Among (found_places es) (c.name, span_view c.data_found.span) =
      map_among (λ (e : NonterminalString × NonterminalData). (e.0.0, span_view e.1.span)) (found_entries es)
      (name_of_text c.name, c.data_found) (found_entry es (name_of_text c.name) c.data_found c.has_data) in
      let place : HasOwnSpan finds features w x.0 (span_view c.data_found.span) =
      h.spans.places x.0 (span_view c.data_found.span) x.1
      (subst (λ (t : Text). Among (found_places es) (t, span_view c.data_found.span)) (sym x.2) listed) in
      record {
        name_of = h.name_of;
        naming = h.naming;
        nonterminal = x.0;
        cyclic = (x.1, subst (λ y. InlineChain g x.0 y) (sym same) r.2);
        kind_is = ap (λ (e : NormError). e.kind) c.error_is ∙ ap (λ (t : Text). kinds.CyclicInline (name_of_text t)) (sym x.2);
        place = subst (HasOwnSpan finds features w x.0) (sym (ap (λ (e : NormError). span_view e.span) c.error_is)) place;
      }
