-- What a right side names, under names and back; and trees without spans as trees with them: for the laws on yields and on barren names.
use Rattle.std.proofs.Common.{◌≡◌, List, [], ◌∷◌, ◌++◌, refl, ap, sym, ◌∙◌, inl, inr}
use Rattle.std.proofs.Common.{length, arith, ◌+◌, suc, zero}
use Rattle.std.proofs.Common.{length-append, ℕ}
use Rattle.lalrpop_grammar_symbols.specs.Symbols.{Text, TextSpan}
use Rattle.lalrpop_grammar_language.specs.Among.{Among}
use Rattle.lalrpop_grammar_language.specs.Expansion.{GrammarSymbol, Nonterminal, RightSide}
use Rattle.lalrpop_lr1_theory.specs.Productions as theory
use Rattle.lalrpop_lr1_theory.specs.Trees.{Forest, none, leaf, node, yield}
use Rattle.lalrpop_lr1_theory.specs.Spans.{SpannedForest, none_at, leaf_at, node_at, leaf_spans, without_spans}
use Rattle.lalrpop_run_theory.specs.Expansions.{theory_side}

-- what stands in a right side stands in it under its name
pub named_inside : (name_of : Nonterminal → Text) (side : RightSide) (y : Nonterminal) → Among side (GrammarSymbol.nonterminal y) →
    Among (theory_side name_of side) (theory.nonterminal (name_of y))
named_inside name_of [] y a = absurd a
named_inside name_of (GrammarSymbol.nonterminal x ∷ side) y (inl e) =
    let same : x ≡ y = cc in
    inl (ap (λ z. theory.nonterminal (name_of z)) same)
named_inside name_of (GrammarSymbol.terminal t ∷ side) y (inl e) = cc
named_inside name_of (q ∷ side) y (inr a) = inr (named_inside name_of side y a)

-- a name in it is that of a nonterminal in it
pub inside_named : (name_of : Nonterminal → Text) (side : RightSide) (n : Text) →
    Among (theory_side name_of side) (theory.nonterminal n) →
    (y : Nonterminal) × Among side (GrammarSymbol.nonterminal y) × (name_of y ≡ n)
inside_named name_of [] n a = absurd a
inside_named name_of (GrammarSymbol.nonterminal x ∷ side) n (inl e) = let same : name_of x ≡ n = cc in (x, inl refl, same)
inside_named name_of (GrammarSymbol.terminal t ∷ side) n (inl e) = cc
inside_named name_of (q ∷ side) n (inr a) = let r = inside_named name_of side n a in (r.0, inr r.1, r.2)

-- Trees with spans that are the given ones without them, and have the given spans.
pub record HasSpans (ts : Forest) (spans : List TextSpan) : Type 0 where
  pub trees : SpannedForest
  pub trees_are : without_spans trees ≡ ts
  pub spans_are : leaf_spans trees ≡ spans

record IsSplit {A : Type 0} (xs : List A) (n m : ℕ) : Type 0 where
  front : List A
  back : List A
  whole : xs ≡ front ++ back
  front_length : length front ≡ n
  back_length : length back ≡ m

split_at : {A : Type 0} (xs : List A) (n m : ℕ) → length xs ≡ n + m → IsSplit xs n m
split_at xs zero m e =
    record { front = []; back = xs; whole = refl; front_length = refl; back_length = omega (arith, e) }
split_at [] (suc n) m e = absurd (omega (arith, e))
split_at (x ∷ xs) (suc n) m e =
    let r = split_at xs n m (omega (arith, e)) in
    record {
      front = x ∷ r.front;
      back = r.back;
      whole = ap (λ z. x ∷ z) r.whole;
      front_length = omega (arith, r.front_length);
      back_length = r.back_length;
    }

-- trees can be given as many spans as they have leaves
pub with_spans : (ts : Forest) (spans : List TextSpan) → length spans ≡ length (yield ts) → HasSpans ts spans
with_spans none [] e = record { trees = none_at; trees_are = refl; spans_are = refl }
with_spans none (s ∷ spans) e = absurd (omega (arith, e))
with_spans (leaf t ts) [] e = absurd (omega (arith, e))
with_spans (leaf t ts) (s ∷ spans) e =
    let r = with_spans ts spans (omega (arith, e)) in
    record { trees = leaf_at t s r.trees; trees_are = ap (leaf t) r.trees_are; spans_are = ap (λ z. s ∷ z) r.spans_are }
with_spans (node p cs ts) spans e =
    let two = split_at spans (length (yield cs)) (length (yield ts)) (e ∙ length-append (yield cs) (yield ts)) in
    let a = with_spans cs two.front two.front_length in
    let b = with_spans ts two.back two.back_length in
    record {
      trees = node_at p a.trees b.trees;
      trees_are = ap (λ z. node p z (without_spans b.trees)) a.trees_are ∙ ap (node p cs) b.trees_are;
      spans_are = ap (λ z. z ++ leaf_spans b.trees) a.spans_are ∙ ap (λ z. two.front ++ z) b.spans_are ∙ sym two.whole;
    }

-- with some spans
pub with_blank_spans : (ts : Forest) → (us : SpannedForest) × (without_spans us ≡ ts)
with_blank_spans none = (none_at, refl)
with_blank_spans (leaf t ts) = let r = with_blank_spans ts in (leaf_at t (0, 0) r.0, ap (leaf t) r.1)
with_blank_spans (node p cs ts) =
    let a = with_blank_spans cs in
    let b = with_blank_spans ts in
    (node_at p a.0 b.0, ap (λ z. node p z (without_spans b.0)) a.1 ∙ ap (node p cs) b.1)
