-- Computed examples of right answers, and of wrong ones that aren't right.
use Prim.Native.String.{String}
use Rattle.std.proofs.Common.{◌≡◌, ℕ, List, [], ◌∷◌, refl, ap, sym, ◌∙◌, inl, inr, Some, false}
use Rattle.std.proofs.Common.{arith, Contains}
use Rattle.std.specs.Prelude.{codes}
use Rattle.lalrpop_grammar_symbols.specs.Symbols.{Terminal}
use Rattle.lalrpop_grammar.specs.WrittenGrammar.{Grammar, Origin}
use Rattle.lalrpop_grammar.specs.Trees.{Token}
use Rattle.lalrpop_grammar_language.specs.Among.{Among}
use Rattle.lalrpop_grammar_language.specs.Enabled.{EnabledGrammar, enabled_grammar}
use Rattle.lalrpop_grammar_language.specs.Expansion.{Nonterminal, RightSide, Produces, InExpansion}
use Rattle.lalrpop_grammar_language.proofs.WrittenTreeLemmas.{lit, id, alt, grammar, finds}
use Rattle.lalrpop_norm_theory.specs.Inlined.{IsInlined}
use Rattle.lalrpop_norm_theory.proofs.ProductionListLemmas.{is_production}
use Rattle.lalrpop_norm_theory.proofs.RowListLemmas.{reached-each}
use Rattle.lalrpop_grammar_language.specs.Labels.{Label}
use Rattle.lalrpop_grammar_language.specs.Inlining.{Inlines}
use Rattle.lalrpop_lr1_theory.specs.Productions as theory
use Rattle.lalrpop_lr1_theory.specs.Productions.{Production}
use Rattle.lalrpop_lr1_theory.specs.Trees.{none, leaf, node, reduce}
use Rattle.lalrpop_lr1_theory.specs.Answers.{IsLr1, IsValidMove}
use Rattle.lalrpop_run_theory.proofs.ExamplesOfExpansions.{L, end, kept, n, place, rule, start, t}
use Rattle.lalrpop_run_theory.specs.TextAnswers.{AreExpansionOf, TextAnswer}
use Rattle.lalrpop_run.specs.Asked.{Asked, WrittenAnswer}
use Rattle.lalrpop_run.specs.Check.{HasStateCountBy}
use Rattle.lalrpop_run.specs.RightAnswer.{HasTokens, IsRightAnswerTo, MayBeParsed}
use Rattle.lalrpop_grammar_repr.specs.declared.methods.Method.{Method}
use Rattle.lalrpop_grammar_repr.specs.declared.methods.Method.TheVariants as methods
use Rattle.lalrpop_run.proofs.ExamplesOfOneWord.{kept_where_unmarked, private_rule, public_rule}
use Rattle.lalrpop_run.proofs.OneAnswerLemmas.{parsed_where_answered}

-- a number of states, by either method, is right only where the grammar may be parsed
pub parsed_where_counted : (method : Method) (q : Asked) (w : Grammar) (count : ℕ) → HasStateCountBy method q w count →
    MayBeParsed q w
parsed_where_counted methods.Canonical q w count h = h.parsed
parsed_where_counted (methods.Lane copies) q w count h = h.parsed

-- asked from `S` without features, under a limit on moves; no pattern is nested too deep
abbrev pub asked_within : ℕ → Asked
asked_within limit = record { finds = finds; deep = λ t. false; features = []; macro_limit = 200; start = codes "S"; limit = limit }

abbrev pub asked : Asked
asked = asked_within 1000

-- pub S = { A "x" "y", B "x" "z" }; A = "a"; B = "a": not LR(1), and not ambiguous
abbrev pub two_heads : Grammar
two_heads = grammar (public_rule "S" (alt (id "A" ∷ lit "x" ∷ lit "y" ∷ []) ∷ alt (id "B" ∷ lit "x" ∷ lit "z" ∷ []) ∷ [])
    ∷ private_rule "A" (alt (lit "a" ∷ []) ∷ []) ∷ private_rule "B" (alt (lit "a" ∷ []) ∷ []) ∷ [])

abbrev pub g : EnabledGrammar
g = enabled_grammar finds [] two_heads

abbrev heads : List Nonterminal
heads = start ∷ rule "S" ∷ rule "A" ∷ rule "B" ∷ []

pub there : (x : Nonterminal) → Among heads x → InExpansion g x
there = reached-each g 2 heads refl

abbrev pub Has : Nonterminal → L → RightSide → Type 0
Has x l side = Inlines (Produces g) (IsInlined g) x l side

abbrev pub by_start : L
by_start = Label.choose start Origin.start (kept end)

abbrev pub by_S : ℕ → L
by_S k = Label.choose (rule "S") (place "S" k) (kept (kept (kept end)))

abbrev pub by_head : String → L
by_head s = Label.choose (rule s) (place s 0) (kept end)

abbrev pub side_of : String → String → RightSide
side_of s z = n (rule s) ∷ t "x" ∷ t z ∷ []

pub has_start : Has start by_start (n (rule "S") ∷ [])
has_start = (
  refl,
  _,
  is_production g start Origin.start (n (rule "S") ∷ []) (inl refl),
  (kept_where_unmarked g (rule "S") refl, [], refl, refl),
)

pub has_A : Has (rule "A") (by_head "A") (t "a" ∷ [])
has_A = (refl, _, is_production g (rule "A") (place "A" 0) (t "a" ∷ []) (inl refl), (tt, [], refl, refl))

pub has_B : Has (rule "B") (by_head "B") (t "a" ∷ [])
has_B = (refl, _, is_production g (rule "B") (place "B" 0) (t "a" ∷ []) (inl refl), (tt, [], refl, refl))

pub has_first : Has (rule "S") (by_S 0) (side_of "A" "y")
has_first = (
  refl,
  _,
  is_production g (rule "S") (place "S" 0) (side_of "A" "y") (inl refl),
  (kept_where_unmarked g (rule "A") refl, _, refl, (tt, _, refl, (tt, _, refl, refl))),
)

pub has_second : Has (rule "S") (by_S 1) (side_of "B" "z")
has_second = (
  refl,
  _,
  is_production g (rule "S") (place "S" 1) (side_of "B" "z") (inr (inl refl)),
  (kept_where_unmarked g (rule "B") refl, _, refl, (tt, _, refl, (tt, _, refl, refl))),
)

abbrev pub letter : String → Terminal
letter s = Terminal.quoted (codes s)

pub heads_differ : by_head "A" ≡ by_head "B" → ⊥
heads_differ k =
    let origins : place "A" 0 ≡ place "B" 0 = cc in
    let names : codes "A" ≡ codes "B" = cc in
    let letters : ◌≡◌ {A = ℕ} 65 66 = cc in
    omega (arith, letters)

module _ (G : List Production) (e : AreExpansionOf finds [] two_heads G) where
  abbrev Move : Production → Type 0
  Move p = IsValidMove (Contains G) (codes "__S") (leaf (letter "a") none) (Some (letter "x")) (reduce p)

  -- after `a`, before `x`, a reduction by this head's production is valid
  module _ (s z : String) (k : ℕ) (i : InExpansion g (rule s)) (h : Has (rule s) (by_head s) (t "a" ∷ []))
      (m : Has (rule "S") (by_S k) (side_of s z)) where
    abbrev pub valid : Move ((e.every (rule s) (by_head s) (t "a" ∷ []) i h).0)
    valid =
        let p = e.every start by_start (n (rule "S") ∷ []) (there start (inl refl)) has_start in
        let q = e.every (rule "S") (by_S k) (side_of s z) (there (rule "S") (inr (inl refl))) m in
        let r = e.every (rule s) (by_head s) (t "a" ∷ []) i h in
        record {
          tree = node p.0 (node q.0 (node r.0 (leaf (letter "a") none) (leaf (letter "x") (leaf (letter z) none))) none) none;
          count = 1;
          left = letter "x" ∷ letter z ∷ [];
          is_tree = (
            ap (λ c. theory.nonterminal c ∷ []) (p.2.left_is ∙ e.naming.starts (codes "S") (there start (inl refl))),
            (
              p.1,
              ap (λ c. theory.nonterminal c ∷ []) q.2.left_is ∙ sym p.2.right_is,
              (
                q.1,
                ap (λ c. theory.nonterminal c ∷ theory.terminal (letter "x") ∷ theory.terminal (letter z) ∷ []) r.2.left_is
                    ∙ sym q.2.right_is,
                (r.1, sym r.2.right_is, tt, tt),
                tt,
              ),
              tt,
            ),
          );
          forest_is = refl;
          move_is = refl;
          leaves = refl;
          next = refl;
        }

  -- so two reductions are valid there
  pub not_lr1 : IsLr1 (Contains G) (codes "__S") → ⊥
  not_lr1 h =
      let i = there (rule "A") (inr (inr (inl refl))) in
      let j = there (rule "B") (inr (inr (inr (inl refl)))) in
      let a = e.every (rule "A") (by_head "A") (t "a" ∷ []) i has_A in
      let b = e.every (rule "B") (by_head "B") (t "a" ∷ []) j has_B in
      let same : reduce a.0 ≡ reduce b.0 =
      h (leaf (letter "a") none) (Some (letter "x")) (reduce a.0) (reduce b.0) (valid "A" "y" 0 i has_A has_first)
      (valid "B" "z" 1 j has_B has_second) in
      let productions : a.0 ≡ b.0 = cc in
      heads_differ (sym a.2.label_is ∙ ap (λ (p : Production). e.label_of p.action) productions ∙ b.2.label_is)

-- so no answer to a text is right, be it a tree, a place or the limit, nor are tokens or a number of states
not_parsed : MayBeParsed asked two_heads → ⊥
not_parsed h = not_lr1 h.grammar h.expansion h.lr1

pub answer_where_conflicts_are : (text : List ℕ) (answer : TextAnswer) →
    IsRightAnswerTo asked two_heads text (WrittenAnswer.to_text answer) → ⊥
answer_where_conflicts_are text answer h = not_parsed (parsed_where_answered asked two_heads text answer h)

pub tokens_where_conflicts_are : (text : List ℕ) (tokens : List Token) → HasTokens asked two_heads text tokens → ⊥
tokens_where_conflicts_are text tokens h = not_parsed h.parsed

pub states_where_conflicts_are : (method : Method) (count : ℕ) → HasStateCountBy method asked two_heads count → ⊥
states_where_conflicts_are method count h = not_parsed (parsed_where_counted method asked two_heads count h)
