-- Computed examples of two lowered grammars that definitions see as one, where a production of the second stands under another name: only
-- that one has a cycle.
use Rattle.std.proofs.Common.{◌≡◌, ℕ, Bool, List, Option, [], ◌∷◌, ap, arith, cond, false, inl, inr, refl, subst, true}
use Rattle.std.specs.Prelude.{codes, map}
use Rattle.lalrpop_grammar_symbols.specs.Symbols.{Text}
use Rattle.lalrpop_grammar_symbols.specs.declared.names.NonterminalString.{NonterminalString}
use Rattle.lalrpop_grammar.specs.WrittenGrammar.{Grammar}
use Rattle.lalrpop_grammar_repr.specs.declared.norm_error.NormErrorKind.TheVariants as kinds
use Rattle.lalrpop_grammar_repr.specs.declared.production.NonterminalData.{NonterminalData}
use Rattle.lalrpop_lr1_inline.specs.InlinedNames.{NonterminalEntries, name_of_text}
use Rattle.lalrpop_lr1_inline.specs.InlineFaults.{IsInlineCycle}
use Rattle.lalrpop_lr1_inline.specs.InliningOrders.{IsInliningOrder, OrderWalk}
use Rattle.lalrpop_lr1_inline.proofs.ExamplesOfInliningOrders.{marked, n, production, rule, t}
use Rattle.lalrpop_norm_chain.specs.LoweredViews.{lowered_view, names_marked_inline}
use Rattle.lalrpop_norm_chain.specs.Normalized.{IsNormalized}
use Rattle.lalrpop_norm_lower.specs.Lowered.{says_inline}
use Rattle.lalrpop_norm_lower.specs.declared.lowering.Normalized.{Normalized}
use Rattle.lalrpop_run_prepare.specs.NamedGrammars.{StandUnderNames}

-- A = B; B = "b"; S = A; __S = S, of which A and B are inlined
abbrev placed : NonterminalEntries
placed =
    rule "A" marked (production "A" 0 (n "B" ∷ []) ∷ []) ∷ rule "B" marked (production "B" 1 (t "b" ∷ []) ∷ [])
    ∷ rule "S" [] (production "S" 2 (n "A" ∷ []) ∷ []) ∷ rule "__S" [] (production "__S" 3 (n "S" ∷ []) ∷ []) ∷ []

-- the same with the production of A under B
abbrev misplaced : NonterminalEntries
misplaced =
    rule "A" marked [] ∷ rule "B" marked (production "A" 0 (n "B" ∷ []) ∷ production "B" 1 (t "b" ∷ []) ∷ [])
    ∷ rule "S" [] (production "S" 2 (n "A" ∷ []) ∷ []) ∷ rule "__S" [] (production "__S" 3 (n "S" ∷ []) ∷ []) ∷ []

abbrev with_entries : Normalized → NonterminalEntries → Normalized
with_entries made es = record made { grammar = record (made.grammar) { nonterminals = es } }

-- the names of two entries, where the same is said of both
abbrev names_where : Bool → NonterminalString × NonterminalData → NonterminalString × NonterminalData → List Text
names_where b d e = map (λ (x : NonterminalString × NonterminalData). x.0.0) (cond b (d ∷ cond b (e ∷ []) []) (cond b (e ∷ []) []))

-- both mark the same names
same_marks : names_marked_inline placed ≡ names_marked_inline misplaced
same_marks = go (says_inline (rule "A" marked []).1)
  where
    go : (b : Bool)
        → names_where b (rule "A" marked (production "A" 0 (n "B" ∷ []) ∷ [])) (rule "B" marked (production "B" 1 (t "b" ∷ []) ∷ []))
        ≡ names_where b (rule "A" marked [])
        (rule "B" marked (production "A" 0 (n "B" ∷ []) ∷ production "B" 1 (t "b" ∷ []) ∷ []))
    go true = refl
    go false = refl

-- definitions see both as one
one_view : (made : Normalized) → lowered_view (with_entries made placed) ≡ lowered_view (with_entries made misplaced)
one_view made = ap (λ (l : List Text). record (lowered_view (with_entries made misplaced)) { inlined = l }) same_marks

-- so where the first is the lowered grammar of a written one, the second is too
both_normalized : (finds : Text → Text → Option Bool) (features : List Text) (w : Grammar) (made : Normalized)
    → IsNormalized finds features w (lowered_view (with_entries made placed))
    → IsNormalized finds features w (lowered_view (with_entries made misplaced))
both_normalized finds features w made h = subst (IsNormalized finds features w) (one_view made) h

placed_order : IsInliningOrder placed (codes "B" ∷ codes "A" ∷ [])
placed_order = (
  OrderWalk.met_first (codes "A") (OrderWalk.met_first (codes "B") OrderWalk.no_more OrderWalk.no_more)
      (OrderWalk.met_before OrderWalk.no_more),
  (refl, λ i. i, (refl, λ i. i, tt, tt), (inl refl, tt)),
  refl,
)

misplaced_cycle : IsInlineCycle misplaced (record {
  kind = kinds.CyclicInline (name_of_text (codes "B"));
  span = record { 0 = 0; 1 = 0 };
})
misplaced_cycle = record {
  name = codes "B";
  data_found = (rule "B" marked (production "A" 0 (n "B" ∷ []) ∷ production "B" 1 (t "b" ∷ []) ∷ [])).1;
  has_data = refl;
  error_is = refl;
  returns = record { is_inlined = refl; between = []; chain = inl refl };
}

-- the second one's productions don't stand under their names
misplaced_refused : StandUnderNames misplaced → ⊥
misplaced_refused h =
    let same : name_of_text (codes "A") ≡ name_of_text (codes "B") =
    h (rule "B" marked (production "A" 0 (n "B" ∷ []) ∷ production "B" 1 (t "b" ∷ []) ∷ [])) (production "A" 0 (n "B" ∷ []))
    (inr (inl refl)) (inl refl) in
    let texts : codes "A" ≡ codes "B" = ap (λ (m : NonterminalString). m.0) same in
    let letters : ◌≡◌ {A = ℕ} 65 66 = cc in
    omega (arith, letters)
