-- Two lists of productions of one expansion correspond: each label has a production in both.
use Rattle.std.proofs.Common.{◌≡◌, [], ◌∷◌, ◌++◌, refl, ap, sym, ◌∙◌, subst, inl, inr}
use Rattle.std.specs.Prelude.{Contains}
use Rattle.lalrpop_grammar_symbols.specs.Symbols.{Text}
use Rattle.lalrpop_grammar.specs.WrittenGrammar.{Origin}
use Rattle.lalrpop_grammar_language.specs.Enabled.{EnabledGrammar, enabled_grammar}
use Rattle.lalrpop_grammar_language.specs.Expansion.{GrammarSymbol, Nonterminal, RightSide, Produces, InExpansion}
use Rattle.lalrpop_norm_theory.specs.Inlined.{IsInlined}
use Rattle.lalrpop_grammar_language.specs.Labels.{Label}
use Rattle.lalrpop_lr1_theory.specs.Productions as theory
use Rattle.lalrpop_run_theory.specs.Expansions.{AreInlinedExpansion, StandsForInlined, theory_side}
use Rattle.lalrpop_run_theory.proofs.ReachLemmas.{HoldsInside, along_inlined, expansion_goes_along}
use Rattle.lalrpop_run.specs.AnswersOfExpansions.{CertificatesAreSaidOfAll, CountsAreSaidOfAll, Lr1IsSaidOfAll, RunsAreSaidOfAll}
use Rattle.lalrpop_run.proofs.AlikeLemmas.{AlikeSides, Correspond, lr1_alike}
use Rattle.lalrpop_run.proofs.CertificateAlikeLemmas.{certificate_alike}
use Rattle.lalrpop_run.proofs.ItemAlikeLemmas.{count_alike}
use Rattle.lalrpop_run.proofs.RunAlikeLemmas.{has_run_alike}

module _ (g : EnabledGrammar) (In : Nonterminal → Type 0) (prefix : Text) (G H : theory.Production → Type 0)
    (e : AreInlinedExpansion g In prefix G) (f : AreInlinedExpansion g In prefix H) where
  -- names of one nonterminal
  pub record AreNames (a b : Text) : Type 0 where
    pub nonterminal : Nonterminal
    pub in_expansion : InExpansion g nonterminal
    pub left_is : a ≡ e.name_of nonterminal
    pub right_is : b ≡ f.name_of nonterminal

  -- productions of one label
  pub record HaveOneLabel (p q : theory.Production) : Type 0 where
    pub nonterminal : Nonterminal
    pub label : Label Nonterminal Origin
    pub side : RightSide
    pub of_left : G p
    pub of_right : H q
    pub left : StandsForInlined g In e.name_of e.label_of p nonterminal label side
    pub right : StandsForInlined g In f.name_of f.label_of q nonterminal label side

  sides_alike : (side : RightSide) → HoldsInside (InExpansion g) side →
      AlikeSides AreNames (theory_side e.name_of side) (theory_side f.name_of side)
  sides_alike [] h = tt
  sides_alike (GrammarSymbol.nonterminal x ∷ side) h = (
    record { nonterminal = x; in_expansion = h x (inl refl); left_is = refl; right_is = refl },
    sides_alike side (λ y a. h y (inr a)),
  )
  sides_alike (GrammarSymbol.terminal t ∷ side) h = (refl, sides_alike side (λ y a. h y (inr a)))

  pub correspond : Correspond G H AreNames HaveOneLabel
  correspond = record {
    name_one = λ a b d h k.
        h.right_is ∙ ap f.name_of (e.naming.apart h.nonterminal k.nonterminal h.in_expansion k.in_expansion
        (sym h.left_is ∙ k.left_is)) ∙ sym k.right_is;
    name_back = λ a b d h k.
        h.left_is ∙ ap e.name_of (f.naming.apart h.nonterminal k.nonterminal h.in_expansion k.in_expansion
        (sym h.right_is ∙ k.right_is)) ∙ sym k.left_is;
    one = λ p q r h k.
        f.once q r h.of_right k.of_right
        (h.right.label_is ∙ sym h.left.label_is ∙ k.left.label_is ∙ sym k.right.label_is);
    back = λ p q r h k.
        e.once p q h.of_left k.of_left
        (h.left.label_is ∙ sym h.right.label_is ∙ k.right.label_is ∙ sym k.left.label_is);
    left = λ p q h. record {
      nonterminal = h.nonterminal;
      in_expansion = h.left.in_expansion;
      left_is = h.left.left_is;
      right_is = h.right.left_is;
    };
    right = λ p q h.
        subst (λ z. AlikeSides AreNames z q.right) (sym h.left.right_is)
        (subst (λ z. AlikeSides AreNames (theory_side e.name_of h.side) z) (sym h.right.right_is)
        (sides_alike h.side (along_inlined (Produces g) In (InExpansion g) (expansion_goes_along g) h.label h.nonterminal h.side
        h.left.in_expansion h.left.produced)));
    over = λ p q h. h.of_right;
    over_back = λ p q h. h.of_left;
    there = λ p k.
        let s = e.no_other p k in
        let q = f.every s.0 s.1 s.2 s.3.in_expansion s.3.produced in (
          q.0,
          record { nonterminal = s.0; label = s.1; side = s.2; of_left = k; of_right = q.1; left = s.3; right = q.2 },
        );
    there_back = λ q k.
        let s = f.no_other q k in
        let p = e.every s.0 s.1 s.2 s.3.in_expansion s.3.produced in (
          p.0,
          record { nonterminal = s.0; label = s.1; side = s.2; of_left = p.1; of_right = k; left = p.2; right = s.3 },
        );
  }

-- the start has one name in both
pub start_names : (g : EnabledGrammar) (In : Nonterminal → Type 0) (prefix start : Text) (G H : theory.Production → Type 0)
    (e : AreInlinedExpansion g In prefix G) (f : AreInlinedExpansion g In prefix H) → InExpansion g (Nonterminal.start start) →
    AreNames g In prefix G H e f (prefix ++ start) (prefix ++ start)
start_names g In prefix start G H e f i = record {
  nonterminal = Nonterminal.start start;
  in_expansion = i;
  left_is = sym (e.naming.starts start i);
  right_is = sym (f.naming.starts start i);
}

-- whether productions of an expansion are LR(1) doesn't depend on which are taken
pub lr1_is_said_of_all : Lr1IsSaidOfAll
lr1_is_said_of_all finds features w start some others i e f h =
    let g = enabled_grammar finds features w in
    let In = IsInlined g in
    lr1_alike (Contains others) (Contains some) (AreNames g In w.prefix (Contains others) (Contains some) f e)
    (HaveOneLabel g In w.prefix (Contains others) (Contains some) f e)
    (correspond g In w.prefix (Contains others) (Contains some) f e) (w.prefix ++ start) (w.prefix ++ start)
    (start_names g In w.prefix start (Contains others) (Contains some) f e i) h

-- nor how many sets of items they have
pub counts_are_said_of_all : CountsAreSaidOfAll
counts_are_said_of_all n finds features w start some others i e f h =
    let g = enabled_grammar finds features w in
    let In = IsInlined g in
    count_alike (Contains some) (Contains others) (AreNames g In w.prefix (Contains some) (Contains others) e f)
    (HaveOneLabel g In w.prefix (Contains some) (Contains others) e f)
    (correspond g In w.prefix (Contains some) (Contains others) e f) (w.prefix ++ start) (w.prefix ++ start)
    (start_names g In w.prefix start (Contains some) (Contains others) e f i) n h

-- nor how long runs over tokens are
pub runs_are_said_of_all : RunsAreSaidOfAll
runs_are_said_of_all tokens count finds features w start some others i e f h =
    let g = enabled_grammar finds features w in
    let In = IsInlined g in
    has_run_alike (Contains some) (Contains others) (AreNames g In w.prefix (Contains some) (Contains others) e f)
    (HaveOneLabel g In w.prefix (Contains some) (Contains others) e f)
    (correspond g In w.prefix (Contains some) (Contains others) e f) (w.prefix ++ start)
    (start_names g In w.prefix start (Contains some) (Contains others) e f i) tokens count h

-- nor what is told of certificates
pub certificates_are_said_of_all : CertificatesAreSaidOfAll
certificates_are_said_of_all finds features w start some others i e f it v =
    let g = enabled_grammar finds features w in
    let In = IsInlined g in
    let r = certificate_alike (Contains some) (Contains others) (AreNames g In w.prefix (Contains some) (Contains others) e f)
    (HaveOneLabel g In w.prefix (Contains some) (Contains others) e f)
    (correspond g In w.prefix (Contains some) (Contains others) e f) (w.prefix ++ start)
    (start_names g In w.prefix start (Contains some) (Contains others) e f i) e.label_of f.label_of
    (λ p q h. h.left.label_is ∙ sym h.right.label_is) (λ p q h k same. f.once p q h k (ap f.label_of same)) it v in
    (r.other, r.certifies, r.told_is)
