-- Computed examples of right answers to tokens, and answers that aren't right.
use Prim.Native.String.{String}
use Rattle.std.proofs.Common.{◌≡◌, ◌+◌, ℕ, suc, List, [], ◌∷◌, ◌++◌, refl, ap, sym, ◌∙◌, subst, inl, inr}
use Rattle.std.proofs.Common.{length, arith, take, zero}
use Rattle.std.proofs.lemmas.List.{map-append}
use Rattle.std.specs.Prelude.{None, Some, false, true, codes, map, slice_get}
use Rattle.lalrpop_grammar_symbols.specs.Symbols.{Closed, Closeds, Terminal}
use Rattle.lalrpop_grammar.specs.WrittenGrammar.{Grammar, Origin}
use Rattle.lalrpop_grammar.specs.Trees.{Token, Tree}
use Rattle.lalrpop_grammar_language.specs.Among.{Among}
use Rattle.lalrpop_grammar_language.specs.Enabled.{EnabledGrammar, enabled_grammar}
use Rattle.lalrpop_grammar_language.specs.Expansion.{GrammarSymbol, Nonterminal, RightSide}
use Rattle.lalrpop_grammar_language.specs.Derivations.{Derivation, Derivations, IsDerivationOf, AreDerivationsOf, derivation_tokens}
use Rattle.lalrpop_grammar_language.specs.Derivations.{derivations_tokens, leaf_token, shown_token}
use Rattle.lalrpop_grammar_language.specs.Sentences.{IsSentence, Begins}
use Rattle.lalrpop_grammar_language.proofs.StartLemmas.{start_grown, start_once}
use Rattle.lalrpop_grammar_language.proofs.PlaceLemmas.{places_apart, places_told}
use Rattle.lalrpop_grammar_language.proofs.WrittenTreeLemmas.{lit, alt, rule_of, grammar, finds, nd, yes}
use Rattle.lalrpop_norm_theory.proofs.ProductionListLemmas.{is_production, listed}
use Rattle.lalrpop_norm_theory.specs.Inlined.{IsInlined}
use Rattle.lalrpop_grammar_language.specs.Labels.{Inlinings, Label}
use Rattle.lalrpop_grammar_language.specs.ExpandedTrees.{ExpandedTree, ExpandedTrees, base_tree}
use Rattle.lalrpop_grammar_language.specs.WrittenTrees.{IsExpandedTreeOfTree}
use Rattle.lalrpop_grammar_language.proofs.ExpandedWrittenLemmas.{apart_is, apart_once, taken_apart}
use Rattle.lalrpop_run_theory.specs.ExpansionTrees.{expanded_size, is_inlined_nonterminal}
use Rattle.lalrpop_run_theory.proofs.InlinedTestLemmas.{inlined_decided}
use Rattle.lalrpop_run_theory.specs.TreeChoices.{base_choices, tree_choices}
use Rattle.lalrpop_run_theory.specs.TextAnswers.{TextAnswer, IsRightForTokens, terminals_of_tokens}
use Rattle.lalrpop_grammar_language.proofs.StepOnceLemmas.{append-none}

-- Short ways to write.

abbrev word : String → Terminal
word s = Terminal.quoted (codes s)

abbrev token : String → ℕ → Token
token s at = leaf_token (word s) (at, at + 1)

abbrev tok : String → ℕ → Tree
tok s at = Tree.terminal (token s at)

abbrev rule : String → Nonterminal
rule s = Nonterminal.closed (Closed.call (codes s) Closeds.none None)

abbrev Choice : Type 0
Choice = Origin × RightSide

-- pub S = "1" "+" "1"
abbrev sum : Grammar
sum = grammar (rule_of "S" (alt (lit "1" ∷ lit "+" ∷ lit "1" ∷ []) ∷ []) ∷ [])

abbrev g : EnabledGrammar
g = enabled_grammar finds [] sum

abbrev side : RightSide
side = GrammarSymbol.terminal (word "1") ∷ GrammarSymbol.terminal (word "+") ∷ GrammarSymbol.terminal (word "1") ∷ []

abbrev start : Nonterminal
start = Nonterminal.start (codes "S")

abbrev start_side : RightSide
start_side = GrammarSymbol.nonterminal (rule "S") ∷ []

abbrev three : List Terminal
three = word "1" ∷ word "+" ∷ word "1" ∷ []

-- each derivation has these three terminals
three_leaves : (ds : Derivations) → AreDerivationsOf g side ds → terminals_of_tokens (derivations_tokens ds) ≡ three
three_leaves Derivations.none h = absurd h
three_leaves (Derivations.more (Derivation.node y o kids) ds) h = absurd h.0
three_leaves (Derivations.more (Derivation.leaf a p) Derivations.none) h = absurd h.1
three_leaves (Derivations.more (Derivation.leaf a p) (Derivations.more (Derivation.node y o kids) ds)) h = absurd h.1.0
three_leaves (Derivations.more (Derivation.leaf a p) (Derivations.more (Derivation.leaf b q) Derivations.none)) h = absurd h.1.1
three_leaves (Derivations.more (Derivation.leaf a p) (Derivations.more (Derivation.leaf b q)
    (Derivations.more (Derivation.node y o kids) ds))) h = absurd h.1.1.0
three_leaves (Derivations.more (Derivation.leaf a p) (Derivations.more (Derivation.leaf b q)
    (Derivations.more (Derivation.leaf c r) (Derivations.more d ds)))) h = absurd h.1.1.1
three_leaves (Derivations.more (Derivation.leaf a p) (Derivations.more (Derivation.leaf b q)
    (Derivations.more (Derivation.leaf c r) Derivations.none))) h =
    ap (λ z. z ∷ b ∷ c ∷ []) h.0 ∙ ap (λ z. word "1" ∷ z ∷ c ∷ []) h.1.0
    ∙ ap (λ z. word "1" ∷ word "+" ∷ z ∷ []) h.1.1.0

rule_leaves : (d : Derivation) → IsDerivationOf g (GrammarSymbol.nonterminal (rule "S")) d →
    terminals_of_tokens (derivation_tokens d) ≡ three
rule_leaves (Derivation.leaf u p) h = absurd h
rule_leaves (Derivation.node y o kids) h = go (listed g (rule "S") o h.1 h.2)
  where
    go : Among {A = Choice} ((Origin.alternative (codes "S") [] 0, side) ∷ []) (o, h.1) →
        terminals_of_tokens (derivations_tokens kids) ≡ three
    go (inl e) = three_leaves kids (subst (λ s. AreDerivationsOf g s kids) (sym (ap (λ (c : Choice). c.1) e)) h.3)
    go (inr i) = absurd i

start_leaves : (d : Derivation) → IsDerivationOf g (GrammarSymbol.nonterminal start) d →
    terminals_of_tokens (derivation_tokens d) ≡ three
start_leaves (Derivation.leaf u p) h = absurd h
start_leaves (Derivation.node y o kids) h = go (listed g start o h.1 h.2)
  where
    below : (ds : Derivations) → AreDerivationsOf g start_side ds → terminals_of_tokens (derivations_tokens ds) ≡ three
    below Derivations.none k = absurd k
    below (Derivations.more d (Derivations.more f ds)) k = absurd k.1
    below (Derivations.more d Derivations.none) k =
        ap terminals_of_tokens (append-none (derivation_tokens d)) ∙ rule_leaves d k.0

    go : Among {A = Choice} ((Origin.start, start_side) ∷ []) (o, h.1) → terminals_of_tokens (derivations_tokens kids) ≡ three
    go (inl e) = below kids (subst (λ s. AreDerivationsOf g s kids) (sym (ap (λ (c : Choice). c.1) e)) h.3)
    go (inr i) = absurd i

shown_terminals : (ks : List Token) → terminals_of_tokens (map shown_token ks) ≡ terminals_of_tokens ks
shown_terminals [] = refl
shown_terminals (k ∷ ks) = ap (λ z. k.terminal ∷ z) (shown_terminals ks)

-- each sentence has them
sentence_is : (tokens : List Token) → IsSentence finds [] sum (codes "S") tokens → terminals_of_tokens tokens ≡ three
sentence_is tokens s =
    let d = start_grown g (codes "S") s.0 tokens (_, refl, refl) s.1 in
    sym (shown_terminals tokens) ∙ ap terminals_of_tokens (sym d.1.over) ∙ start_leaves d.0 d.1.grows

-- and these tokens are one
abbrev the_tree : Tree
the_tree = nd "S" 0 (tok "1" 0 ∷ tok "+" 1 ∷ tok "1" 2 ∷ [])

abbrev the_tokens : List Token
the_tokens = token "1" 0 ∷ token "+" 1 ∷ token "1" 2 ∷ []

is_sentence : IsSentence finds [] sum (codes "S") the_tokens
is_sentence = (the_tree, yes [] sum "S" the_tree refl)

begins_one_plus : Begins finds [] sum (codes "S") (word "1" ∷ word "+" ∷ [])
begins_one_plus = (token "1" 0 ∷ token "+" 1 ∷ [], token "1" 2 ∷ [], refl, is_sentence)

begins_nothing : Begins finds [] sum (codes "S") []
begins_nothing = ([], the_tokens, refl, is_sentence)

-- no sentence begins with `+`
no_plus : Begins finds [] sum (codes "S") (word "+" ∷ []) → ⊥
no_plus b =
    let all : terminals_of_tokens (b.0 ++ b.1) ≡ three = sentence_is (b.0 ++ b.1) b.3 in
    let parts : word "+" ∷ terminals_of_tokens b.1 ≡ three =
    ap (λ z. z ++ terminals_of_tokens b.1) (sym b.2) ∙ sym (map-append (λ (k : Token). k.terminal) b.0 b.1) ∙ all in
    let first : word "+" ≡ word "1" = cc in
    let letters : ◌≡◌ {A = ℕ} 43 49 = cc in
    omega (arith, letters)

abbrev IsRight : List Token → ℕ → TextAnswer → Type 0
IsRight tokens limit answer = IsRightForTokens finds [] sum (codes "S") tokens limit answer

-- `1 +` ends too early
early : IsRight (token "1" 0 ∷ token "+" 1 ∷ []) 9 TextAnswer.early_end
early = (
  begins_one_plus,
  λ s.
      let terminals : word "1" ∷ word "+" ∷ [] ≡ three = sentence_is (token "1" 0 ∷ token "+" 1 ∷ []) s in
      let lengths : ◌≡◌ {A = ℕ} 2 3 = ap length terminals in
      omega (arith, lengths),
)

-- its last token isn't wrong
last_is_wrong : IsRight (token "1" 0 ∷ token "+" 1 ∷ []) 9 (TextAnswer.wrong_token 1 (codes "+")) → ⊥
last_is_wrong h = h.begins_no_more (begun h.number)
  where
    take_none : (i : ℕ) → take {A = Terminal} i [] ≡ []
    take_none zero = refl
    take_none (suc i) = refl

    begun : (i : ℕ) → Begins finds [] sum (codes "S") (word "1" ∷ take {A = Terminal} i (word "+" ∷ []))
    begun zero = (token "1" 0 ∷ [], token "+" 1 ∷ token "1" 2 ∷ [], refl, is_sentence)
    begun (suc i) =
        subst (λ z. Begins finds [] sum (codes "S") (word "1" ∷ word "+" ∷ z)) (sym (take_none i)) begins_one_plus

-- `+ 1`: the first token is wrong, and not the end
first_wrong : IsRight (token "+" 0 ∷ token "1" 1 ∷ []) 9 (TextAnswer.wrong_token 0 (codes "+"))
first_wrong = record {
  number = 0;
  token = token "+" 0;
  there = refl;
  at_is = refl;
  text_is = refl;
  begins = begins_nothing;
  begins_no_more = no_plus;
}

not_the_end : IsRight (token "+" 0 ∷ token "1" 1 ∷ []) 9 TextAnswer.early_end → ⊥
not_the_end h =
    let b = h.0 in
    no_plus (fewer b.0 b.1 b.2 b.3)
  where
    fewer : (front back : List Token) → terminals_of_tokens front ≡ word "+" ∷ word "1" ∷ [] →
        IsSentence finds [] sum (codes "S") (front ++ back) → Begins finds [] sum (codes "S") (word "+" ∷ [])
    fewer [] back e s = cc
    fewer (k ∷ front) back e s =
        let first : k.terminal ≡ word "+" = cc in
        (k ∷ [], front ++ back, ap (λ z. z ∷ []) first, s)

-- a wrong place is told nowhere else
elsewhere : IsRight (token "+" 0 ∷ token "1" 1 ∷ []) 9 (TextAnswer.wrong_token 5 (codes "+")) → ⊥
elsewhere h = at h.number h.token h.there h.at_is
  where
    at : (i : ℕ) (k : Token) → slice_get (token "+" 0 ∷ token "1" 1 ∷ []) i ≡ Some k → 5 ≡ k.span.0 → ⊥
    at zero k e f =
        let same : token "+" 0 ≡ k = cc in
        let place : ◌≡◌ {A = ℕ} 5 0 = f ∙ ap (λ (z : Token). z.span.0) (sym same) in
        omega (arith, place)
    at (suc zero) k e f =
        let same : token "1" 1 ≡ k = cc in
        let place : ◌≡◌ {A = ℕ} 5 1 = f ∙ ap (λ (z : Token). z.span.0) (sym same) in
        omega (arith, place)
    at (suc (suc i)) k e f = let wrong : None ≡ Some k = e in cc

-- the tree of `1 + 1` has five nodes with the start's, so it is answered within 5 and not within 4
abbrev by_start : Label Nonterminal Origin
by_start = Label.choose start Origin.start (Inlinings.kept Inlinings.none)

abbrev by_rule : Label Nonterminal Origin
by_rule = Label.choose (rule "S") (Origin.alternative (codes "S") [] 0)
    (Inlinings.kept (Inlinings.kept (Inlinings.kept Inlinings.none)))

abbrev leaf : String → ℕ → ExpandedTree Nonterminal Origin
leaf s at = ExpandedTree.leaf (word s) (at, at + 1)

abbrev the_expanded : ExpandedTree Nonterminal Origin
the_expanded = ExpandedTree.node by_start (ExpandedTrees.more (ExpandedTree.node by_rule (ExpandedTrees.more (leaf "1" 0)
    (ExpandedTrees.more (leaf "+" 1) (ExpandedTrees.more (leaf "1" 2) ExpandedTrees.none)))) ExpandedTrees.none)

S_stays : IsInlined g (rule "S") → ⊥
S_stays h = let wrong : false ≡ true = (inlined_decided g (rule "S")).0 h in cc

abbrev IsExpandedAs : ExpandedTree Nonterminal Origin → Type 0
IsExpandedAs d = IsExpandedTreeOfTree g (IsInlined g) (GrammarSymbol.nonterminal start) the_tree the_tokens d

expanded_is : IsExpandedAs the_expanded
expanded_is = record {
  grows = (
    start_side,
    (
      refl,
      start_side,
      is_production g start Origin.start start_side (inl refl),
      (S_stays, [], refl, refl),
    ),
    (
      (
        side,
        (
          refl,
          side,
          is_production g (rule "S") (Origin.alternative (codes "S") [] 0) side (inl refl),
          (tt, _, refl, (tt, _, refl, (tt, _, refl, refl))),
        ),
        (refl, (refl, (refl, tt))),
      ),
      tt,
    ),
  );
  stands = refl;
  over = refl;
}

within_five : IsRight the_tokens 5 (TextAnswer.written the_tree)
unfolding is_sentence
within_five = record {
  admitted = is_sentence.1;
  expanded = the_expanded;
  is_expanded = expanded_is;
  small = omega arith;
}

-- no other tree is its expanded one
one_expanded : (d : ExpandedTree Nonterminal Origin) → IsExpandedAs d → d ≡ the_expanded
one_expanded d h =
    let f = is_inlined_nonterminal g in
    let p = GrammarSymbol.nonterminal start in
    let decides = inlined_decided g in
    apart_once g (IsInlined g) f decides p d the_expanded h.grows expanded_is.grows
    (start_once g (places_told finds [] sum) (places_apart finds [] sum) (codes "S") (taken_apart d) (taken_apart the_expanded)
    (apart_is g (IsInlined g) f decides p d h.grows) (apart_is g (IsInlined g) f decides p the_expanded expanded_is.grows)
    (h.stands ∙ sym expanded_is.stands))

not_within_four : IsRight the_tokens 4 (TextAnswer.written the_tree) → ⊥
not_within_four h =
    let size : expanded_size h.expanded ≡ 5 = ap expanded_size (one_expanded h.expanded h.is_expanded) in
    omega (arith, size, h.small)

-- and a sentence has no wrong token, within whatever limit
no_wrong_token : IsRight the_tokens 4 (TextAnswer.wrong_token 2 (codes "1")) → ⊥
no_wrong_token h = h.begins_no_more (begun h.number)
  where
    take_none : (i : ℕ) → take {A = Terminal} i [] ≡ []
    take_none zero = refl
    take_none (suc i) = refl

    begun : (i : ℕ) → Begins finds [] sum (codes "S") (word "1" ∷ take {A = Terminal} i (word "+" ∷ word "1" ∷ []))
    begun zero = (token "1" 0 ∷ [], token "+" 1 ∷ token "1" 2 ∷ [], refl, is_sentence)
    begun (suc zero) = begins_one_plus
    begun (suc (suc i)) =
        subst (λ z. Begins finds [] sum (codes "S") (word "1" ∷ word "+" ∷ word "1" ∷ z)) (sym (take_none i))
        (the_tokens, [], refl, is_sentence)

-- the choices of the tree are those of its expanded tree, and none is left out
choices : (tree_choices the_tree ≡ record { rule = codes "S"; args = []; place = 0 } ∷ [])
    × (base_choices (base_tree the_expanded) ≡ record { rule = codes "S"; args = []; place = 0 } ∷ [])
choices = (refl, refl)

choices_left_out : tree_choices the_tree ≡ [] → ⊥
choices_left_out e = cc
