-- Each nonterminal of an expanded grammar is lowered, and marked as it is inlined; for lowering.
use Rattle.std.specs.Prelude.{Bool, IsSomeAnd, Option, Some, None, codes, flat_map, map}
use Rattle.std.proofs.Common.{◌≡◌, ◌⊎◌, ◌∙◌, ◌↔◌, ℕ, zero, suc, List, [], ◌∷◌, ◌++◌, refl, ap, sym}
use Rattle.std.proofs.Common.{subst, inl, inr, true, false}
use Rattle.lalrpop_grammar_symbols.specs.Symbols.{Closed, Closeds, Text}
use Rattle.lalrpop_grammar_symbols.specs.declared.names.NonterminalString.{NonterminalString}
use Rattle.lalrpop_grammar.specs.Views.{attribute_view}
use Rattle.lalrpop_grammar.specs.WrittenGrammar.{Grammar, Origin, Rule, rules_of}
use Rattle.lalrpop_grammar_language.specs.Among.{Among}
use Rattle.lalrpop_grammar_language.specs.Enabled.{EnabledGrammar, EnabledRule, IsRule, has_attr, rules_named}
use Rattle.lalrpop_grammar_language.specs.Expansion.{GrammarSymbol, HasLevel, InExpansion, IsReachedIn, Nonterminal, Produces}
use Rattle.lalrpop_grammar_language.specs.Expansion.{RightSide}
use Rattle.lalrpop_grammar_language.proofs.PlaceLemmas.{among_filter, among_map}
use Rattle.lalrpop_grammar_repr.specs.Maps.{at_name}
use Rattle.lalrpop_grammar_repr.specs.declared.production.NonterminalData.{NonterminalData}
use Rattle.lalrpop_grammar_repr.specs.declared.types.Types.{Types}
use Rattle.lalrpop_grammar.specs.declared.types.type_repr.TypeRepr.{TypeRepr}
use Rattle.lalrpop_norm_theory.specs.Between.{grammar_between, rule_between}
use Rattle.lalrpop_norm_theory.specs.Inlined.{IsInlined}
use Rattle.lalrpop_norm_theory.specs.Rows.{Row}
use Rattle.lalrpop_grammar_language.proofs.AmongLemmas.{map_among}
use Rattle.lalrpop_grammar_language.proofs.AmongLemmas.{among_flat_map}
use Rattle.lalrpop_grammar_language.proofs.OrderLemmas.{among_parts}
use Rattle.lalrpop_norm_theory.proofs.LevelLemmas.{no_levels}
use Rattle.lalrpop_norm_tyinfer.specs.TypeFaults.{nonterminal_of}
use Rattle.lalrpop_norm_tyinfer.proofs.ExpandedLemmas.{rule_among}
use Rattle.lalrpop_norm_lower.specs.Lowered.{AreInlinedAsMarked, AreLoweredNonterminals, IsLowerable, IsLoweredRule, IsLoweredStart}
use Rattle.lalrpop_norm_lower.specs.Lowered.{says_inline, start_of}
use Rattle.lalrpop_norm_lower.specs.LoweredLists.{gets_start, rules_with_starts}
use Rattle.lalrpop_norm_lower.specs.LoweredSymbols.{lowered_name, lowered_side}
use Rattle.lalrpop_norm_lower.specs.declared.lowering.Normalized.{Normalized}
use Rattle.lalrpop_norm_lower.proofs.ExpansionRowLemmas.{alternative_row, are_expansion_rows, public_starts, rule_rows, start_row}
use Rattle.lalrpop_norm_lower.proofs.NonterminalLemmas.{IsKnownSymbol, known_side}
use Rattle.lalrpop_norm_lower.proofs.RowLemmas.{produced_by_start, rule_nonterminal, side_by_rules, symbol_by_rules}

module _ (finds : Text → Text → Option Bool) (w : Grammar) (types : Types) (l : IsLowerable finds w types) where
  abbrev g : EnabledGrammar
  g = grammar_between finds w

  abbrev rs : List Rule
  rs = rules_of w.items

  -- the nonterminal is a rule's or a start's
  abbrev IsOfRule : Nonterminal → Type 0
  IsOfRule (Nonterminal.start n) = (r : Rule) × Among rs r × (gets_start r ≡ true) × (r.name ≡ n)
  IsOfRule (Nonterminal.closed (Closed.call n Closeds.none None)) = (r : Rule) × Among rs r × (r.name ≡ n)
  IsOfRule (Nonterminal.closed (Closed.call n Closeds.none (Some k))) = ⊥
  IsOfRule (Nonterminal.closed (Closed.call n (Closeds.more x xs) k)) = ⊥
  IsOfRule (Nonterminal.closed (Closed.terminal t)) = ⊥
  IsOfRule (Nonterminal.closed (Closed.repeat op x)) = ⊥
  IsOfRule (Nonterminal.closed (Closed.group xs)) = ⊥
  IsOfRule (Nonterminal.closed (Closed.choose x)) = ⊥
  IsOfRule (Nonterminal.closed (Closed.name m n x)) = ⊥
  IsOfRule (Nonterminal.closed Closed.lookahead) = ⊥
  IsOfRule (Nonterminal.closed Closed.lookbehind) = ⊥
  IsOfRule (Nonterminal.closed Closed.faulty) = ⊥

  same_nonterminal : (x y : Nonterminal)
      → ◌≡◌ {A = GrammarSymbol Nonterminal} (GrammarSymbol.nonterminal x) (GrammarSymbol.nonterminal y) → x ≡ y
  same_nonterminal x y e = cc

  of_known : (x : Nonterminal) (y : GrammarSymbol Text) → IsKnownSymbol finds w l.expanded y
      → symbol_by_rules y ≡ GrammarSymbol.nonterminal x → IsOfRule x
  of_known x (GrammarSymbol.nonterminal n) h e = subst IsOfRule (same_nonterminal (rule_nonterminal n) x e) h
  of_known x (GrammarSymbol.terminal t) h e = absurd (let wrong : ⊥ = cc in wrong)

  start_row_gives : (row : Row) → Among (map start_row (rules_with_starts rs)) row → (x : Nonterminal)
      → Among row.1 (GrammarSymbol.nonterminal x) → IsOfRule x
  start_row_gives row i x j =
      let m = among_map start_row (rules_with_starts rs) row i in
      let f = among_filter gets_start rs m.0 m.1 in
      go m.0 f.0 (subst (λ (k : Row). Among k.1 (GrammarSymbol.nonterminal x)) (sym m.2) j)
    where
      go : (r : Rule) → Among rs r
          → Among (GrammarSymbol.nonterminal (rule_nonterminal r.name) ∷ []) (GrammarSymbol.nonterminal x) → IsOfRule x
      go r k (inl e) = subst IsOfRule (same_nonterminal (rule_nonterminal r.name) x e) (r, k, refl)
      go r k (inr n) = absurd n

  rule_row_gives : (row : Row) → Among (flat_map rule_rows rs) row → (x : Nonterminal)
      → Among row.1 (GrammarSymbol.nonterminal x) → IsOfRule x
  rule_row_gives row i x j =
      let f = among_flat_map rule_rows rs row i in
      let m = among_map (alternative_row f.0.name) f.0.alternatives row f.2 in
      let side : Among (side_by_rules m.0.expr) (GrammarSymbol.nonterminal x) =
      subst (λ (k : Row). Among k.1 (GrammarSymbol.nonterminal x)) (sym m.2) j in
      let y = among_map symbol_by_rules (lowered_side m.0.expr) (GrammarSymbol.nonterminal x) side in
      of_known x y.0 (known_side finds w l.expanded f.0 m.0 f.1 m.1 y.0 y.1) y.2

  produced : (y : Nonterminal) (o : Origin) (side : RightSide) → InExpansion g y → Produces g y o side → (x : Nonterminal)
      → Among side (GrammarSymbol.nonterminal x) → IsOfRule x
  produced y o side i p x j =
      go (among_parts (map start_row (rules_with_starts rs)) (flat_map rule_rows rs) (record { head = y; choice = o }, side)
      ((are_expansion_rows finds w l.expanded l.ordered l.free_prefix).every (record { head = y; choice = o }) side i p))
    where
      go : Among {A = Row} (map start_row (rules_with_starts rs)) (record { head = y; choice = o }, side)
          ⊎ Among {A = Row} (flat_map rule_rows rs) (record { head = y; choice = o }, side) → IsOfRule x
      go (inl k) = start_row_gives (record { head = y; choice = o }, side) k x j
      go (inr k) = rule_row_gives (record { head = y; choice = o }, side) k x j

  no_level : (r : EnabledRule) → Among g.rules r → (level : Option ℕ) → HasLevel r level → level ≡ None
  no_level r a None h = refl
  no_level r a (Some k) h = absurd (subst (λ ls. Among ls k) (no_levels r (l.expanded.no_levels r a)) h)

  -- the expansion has rules and starts alone
  reached_rule : (n : ℕ) (x : Nonterminal) → IsReachedIn g n x → IsOfRule x
  reached_rule zero x (inl h) =
      let s = produced_by_start g l.expanded h.0 Origin.start h.1 h.3 in
      let m = among_map rule_between rs s.rule s.among in
      subst IsOfRule (sym h.2) (
        m.0,
        m.1,
        public_starts finds w l.expanded l.ordered l.free_prefix m.0 m.1 (ap (λ (q : EnabledRule). q.public) m.2 ∙ s.public),
        ap (λ (q : EnabledRule). q.name) m.2 ∙ s.name_is,
      )
  reached_rule zero x (inr h) =
      let a = rule_among g h.0.name h.0 h.2 in
      let m = among_map rule_between rs h.0 a in
      let is : x ≡ rule_nonterminal h.0.name =
      h.5 ∙ ap (λ k. Nonterminal.closed (Closed.call h.0.name Closeds.none k)) (no_level h.0 a h.1 h.4) in
      subst IsOfRule (sym is) (m.0, m.1, ap (λ (q : EnabledRule). q.name) m.2)
  reached_rule (suc n) x h = produced h.0 h.1 h.2 (n, h.3) h.4 x h.5

  module _ (made : Normalized) (table : List (NonterminalString × TypeRepr)) (a : AreLoweredNonterminals w table made) where
    abbrev nonterminals : List (NonterminalString × NonterminalData)
    nonterminals = made.grammar.nonterminals

    weaker : {A : Type 0} (P Q : A → Type 0) (o : Option A) → ((x : A) → P x → Q x) → IsSomeAnd o P → IsSomeAnd o Q
    weaker P Q None to h = absurd h
    weaker P Q (Some x) to h = to x h

    none_marked : (d : NonterminalData) → d.attributes ≡ [] → says_inline d ≡ true → ⊥
    none_marked d e f =
        let none : says_inline d ≡ false = ap (λ as_. has_attr (codes "inline") (map attribute_view as_)) e in
        let wrong : false ≡ true = sym none ∙ f in cc

    start_marked : (n : Text) → IsOfRule (Nonterminal.start n)
        → IsSomeAnd (at_name (nonterminal_of (w.prefix ++ n)) nonterminals)
        (λ d. (says_inline d ≡ true) ↔ IsInlined g (Nonterminal.start n))
    start_marked n h =
        subst (λ k. IsSomeAnd (at_name (nonterminal_of (w.prefix ++ k)) nonterminals)
        (λ d. (says_inline d ≡ true) ↔ IsInlined g (Nonterminal.start k))) h.3
        (weaker (IsLoweredStart made table w h.0) (λ d. (says_inline d ≡ true) ↔ IsInlined g (Nonterminal.start h.0.name))
        (at_name (start_of w h.0) nonterminals) (λ d s. (none_marked d s.attributes_are, λ f. absurd f)) (a.starts h.0 h.1 h.2))

    only_rule : (q p : EnabledRule) (qs : List EnabledRule) → qs ≡ q ∷ [] → qs ≡ p ∷ [] → q ≡ p
    only_rule q p qs e f = let same : ◌≡◌ {A = List EnabledRule} (q ∷ []) (p ∷ []) = sym e ∙ f in cc

    rule_marked : (n : Text) → IsOfRule (rule_nonterminal n)
        → IsSomeAnd (at_name (nonterminal_of n) nonterminals) (λ d. (says_inline d ≡ true) ↔ IsInlined g (rule_nonterminal n))
    rule_marked n h =
        subst (λ k. IsSomeAnd (at_name (nonterminal_of k) nonterminals)
        (λ d. (says_inline d ≡ true) ↔ IsInlined g (rule_nonterminal k)))
        h.2
        (weaker (IsLoweredRule made table h.0) (λ d. (says_inline d ≡ true) ↔ IsInlined g (rule_nonterminal h.0.name))
        (at_name (nonterminal_of h.0.name) nonterminals)
        (λ d s.
        let same : says_inline d ≡ (rule_between h.0).inlined = ap (has_attr (codes "inline")) s.attributes_are in
        let once : IsRule g h.0.name (rule_between h.0) = l.expanded.rules (rule_between h.0) (map_among rule_between rs h.0 h.1) in (
          λ e. (rule_between h.0, once, sym same ∙ e),
          λ e. same ∙ ap (λ (q : EnabledRule). q.inlined) (only_rule (rule_between h.0) e.0 (rules_named g h.0.name) once e.1) ∙ e.2,
        ))
        (a.rules h.0 h.1))

    marked : (x : Nonterminal) → IsOfRule x
        → IsSomeAnd (at_name (nonterminal_of (lowered_name w.prefix x)) nonterminals) (λ d. (says_inline d ≡ true) ↔ IsInlined g x)
    marked (Nonterminal.start n) h = start_marked n h
    marked (Nonterminal.closed (Closed.call n Closeds.none None)) h = rule_marked n h
    marked (Nonterminal.closed (Closed.call n Closeds.none (Some k))) h = absurd h
    marked (Nonterminal.closed (Closed.call n (Closeds.more x xs) k)) h = absurd h
    marked (Nonterminal.closed (Closed.terminal t)) h = absurd h
    marked (Nonterminal.closed (Closed.repeat op x)) h = absurd h
    marked (Nonterminal.closed (Closed.group xs)) h = absurd h
    marked (Nonterminal.closed (Closed.choose x)) h = absurd h
    marked (Nonterminal.closed (Closed.name m n x)) h = absurd h
    marked (Nonterminal.closed Closed.lookahead) h = absurd h
    marked (Nonterminal.closed Closed.lookbehind) h = absurd h
    marked (Nonterminal.closed Closed.faulty) h = absurd h

    pub inlined_as_marked : AreInlinedAsMarked g w.prefix nonterminals
    inlined_as_marked x i = marked x (reached_rule i.0 x i.1)
