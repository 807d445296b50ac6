-- A test of whether two grammars have one expansion under a renaming, with what it means; for the examples.
use Rattle.std.specs.Str.{bytes_eq}
use Rattle.std.proofs.Common.{◌≡◌, ℕ, List, [], ◌∷◌, refl, ap, sym, ◌∙◌, subst, Bool, true, false, inl, inr}
use Rattle.std.specs.Prelude.{map, ◌==◌, ◌&&◌, not}
use Rattle.std.specs.List.{list_any, list_all}
use Rattle.std.proofs.lemmas.Bool.{eqb-true, and_parts, true≢false}
use Rattle.lalrpop_grammar_symbols.specs.Symbols.{Text}
use Rattle.lalrpop_grammar.specs.WrittenGrammar.{Origin}
use Rattle.lalrpop_grammar_language.specs.Among.{Among}
use Rattle.lalrpop_grammar_language.specs.Enabled.{EnabledGrammar}
use Rattle.lalrpop_grammar_language.specs.Expansion.{GrammarSymbol, Nonterminal, RightSide, Produces, InExpansion}
use Rattle.lalrpop_grammar_language.proofs.PlaceLemmas.{same_text-eq, among_map}
use Rattle.lalrpop_grammar_language.proofs.ComparisonLemmas.{same_term, same_term-eq, same_list, same_list-eq}
use Rattle.lalrpop_norm_theory.specs.Same.{rename_side, SameExpansion}
use Rattle.lalrpop_norm_theory.proofs.ClosedComparisonLemmas.{same_nonterminal, same_nonterminal-eq, same_nonterminal-refl, all-each}
use Rattle.lalrpop_norm_theory.proofs.ClosedComparisonLemmas.{any-one, has_nonterminal, has_nonterminal-among}
use Rattle.lalrpop_norm_theory.proofs.ProductionListLemmas.{Choices, productions_of, listed, is_production}
use Rattle.lalrpop_norm_theory.proofs.ExpansionListLemmas.{is_all, all-of}
use Rattle.lalrpop_norm_theory.proofs.RowListLemmas.{are_reached, reached-each}

abbrev same_origin : Origin → Origin → Bool
same_origin Origin.start Origin.start = true
same_origin (Origin.alternative n args i) (Origin.alternative m others j) = bytes_eq n m && (same_list args others && (i == j))
same_origin Origin.pass_down Origin.pass_down = true
same_origin Origin.plus_one Origin.plus_one = true
same_origin Origin.plus_more Origin.plus_more = true
same_origin Origin.star_none Origin.star_none = true
same_origin Origin.star_some Origin.star_some = true
same_origin Origin.opt_none Origin.opt_none = true
same_origin Origin.opt_some Origin.opt_some = true
same_origin Origin.group Origin.group = true
same_origin Origin.look Origin.look = true
same_origin _ _ = false

origin-eq : (a b : Origin) → same_origin a b ≡ true → a ≡ b
origin-eq Origin.start Origin.start h = refl
origin-eq (Origin.alternative n args i) (Origin.alternative m others j) h =
    let w = and_parts (bytes_eq n m) (same_list args others && (i == j)) h in
    let z = and_parts (same_list args others) (i == j) w.1 in
    ap (λ t. Origin.alternative t args i) (same_text-eq n m w.0) ∙ ap (λ l. Origin.alternative m l i) (same_list-eq args others z.0)
    ∙ ap (λ k. Origin.alternative m others k) (eqb-true i j z.1)
origin-eq Origin.pass_down Origin.pass_down h = refl
origin-eq Origin.plus_one Origin.plus_one h = refl
origin-eq Origin.plus_more Origin.plus_more h = refl
origin-eq Origin.star_none Origin.star_none h = refl
origin-eq Origin.star_some Origin.star_some h = refl
origin-eq Origin.opt_none Origin.opt_none h = refl
origin-eq Origin.opt_some Origin.opt_some h = refl
origin-eq Origin.group Origin.group h = refl
origin-eq Origin.look Origin.look h = refl
origin-eq _ _ h = cc

abbrev same_symbol : GrammarSymbol Nonterminal → GrammarSymbol Nonterminal → Bool
same_symbol (GrammarSymbol.nonterminal x) (GrammarSymbol.nonterminal y) = same_nonterminal x y
same_symbol (GrammarSymbol.terminal t) (GrammarSymbol.terminal u) = same_term t u
same_symbol _ _ = false

symbol-eq : (a b : GrammarSymbol Nonterminal) → same_symbol a b ≡ true → a ≡ b
symbol-eq (GrammarSymbol.nonterminal x) (GrammarSymbol.nonterminal y) h = ap GrammarSymbol.nonterminal (same_nonterminal-eq x y h)
symbol-eq (GrammarSymbol.terminal t) (GrammarSymbol.terminal u) h = ap GrammarSymbol.terminal (same_term-eq t u h)
symbol-eq (GrammarSymbol.nonterminal x) (GrammarSymbol.terminal u) h = cc
symbol-eq (GrammarSymbol.terminal t) (GrammarSymbol.nonterminal y) h = cc

abbrev same_side : RightSide → RightSide → Bool
same_side [] [] = true
same_side (x ∷ xs) (y ∷ ys) = same_symbol x y && same_side xs ys
same_side _ _ = false

side-eq : (a b : RightSide) → same_side a b ≡ true → a ≡ b
side-eq [] [] h = refl
side-eq (x ∷ xs) (y ∷ ys) h =
    let w = and_parts (same_symbol x y) (same_side xs ys) h in
    ap (λ s. s ∷ xs) (symbol-eq x y w.0) ∙ ap (λ s. y ∷ s) (side-eq xs ys w.1)
side-eq [] (y ∷ ys) h = cc
side-eq (x ∷ xs) [] h = cc

abbrev same_choice : Origin × RightSide → Origin × RightSide → Bool
same_choice p q = same_origin p.0 q.0 && same_side p.1 q.1

choice-eq : (p q : Origin × RightSide) → same_choice p q ≡ true → p ≡ q
choice-eq p q h =
    let w = and_parts (same_origin p.0 q.0) (same_side p.1 q.1) h in
    let e : p.0 ≡ q.0 = origin-eq p.0 q.0 w.0 in
    let f : p.1 ≡ q.1 = side-eq p.1 q.1 w.1 in
    ap (λ o. (o, p.1)) e ∙ ap (λ s. (q.0, s)) f

abbrev has_choice : Choices → Origin × RightSide → Bool
has_choice cs p = list_any (same_choice p) cs

choice-among : (cs : Choices) (p : Origin × RightSide) → has_choice cs p ≡ true → Among cs p
choice-among cs p h = let w = any-one (same_choice p) cs h in subst (Among cs) (sym (choice-eq p w.0 w.2)) w.1

abbrev rename_choice : (Nonterminal → Nonterminal) → Origin × RightSide → Origin × RightSide
rename_choice to p = (p.0, rename_side to p.1)

abbrev are_apart : (Nonterminal → Nonterminal) → List Nonterminal → Bool
are_apart to [] = true
are_apart to (x ∷ xs) = list_all (λ y. not (same_nonterminal (to x) (to y))) xs && are_apart to xs

abbrev produces_same : EnabledGrammar → EnabledGrammar → (Nonterminal → Nonterminal) → Nonterminal → Bool
produces_same g h to x =
    list_all (λ p. has_choice (productions_of h (to x)) (rename_choice to p)) (productions_of g x)
    && list_all (has_choice (map (rename_choice to) (productions_of g x))) (productions_of h (to x))

-- whether the first list's nonterminals are renamed to the second's, and their productions
abbrev pub is_same : EnabledGrammar → EnabledGrammar → (Nonterminal → Nonterminal) → List Nonterminal → List Nonterminal → Bool
is_same g h to xs ys =
    are_apart to xs && (list_all (λ x. has_nonterminal ys (to x)) xs && (list_all (has_nonterminal (map to xs)) ys
    && list_all (produces_same g h to) xs))

apart-each : (to : Nonterminal → Nonterminal) (xs : List Nonterminal) → are_apart to xs ≡ true → (x y : Nonterminal) →
    Among xs x →
    Among xs y → to x ≡ to y → x ≡ y
apart-each to [] h x y i j e = absurd i
apart-each to (z ∷ zs) h x y (inl k) (inl l) e = sym k ∙ l
apart-each to (z ∷ zs) h x y (inr i) (inr j) e =
    apart-each to zs (and_parts (list_all (λ y. not (same_nonterminal (to z) (to y))) zs) (are_apart to zs) h).1 x y i j e
apart-each to (z ∷ zs) h x y (inl k) (inr j) e =
    let t = all-each (λ v. not (same_nonterminal (to z) (to v))) zs
    (and_parts (list_all (λ v. not (same_nonterminal (to z) (to v))) zs) (are_apart to zs) h).0 y j in
    let same : to z ≡ to y = ap to k ∙ e in
    let found : same_nonterminal (to z) (to y) ≡ true =
    ap (λ v. same_nonterminal v (to y)) same ∙ same_nonterminal-refl (to y) in
    absurd (true≢false (sym t ∙ ap not found))
apart-each to (z ∷ zs) h x y (inr i) (inl l) e =
    let t = all-each (λ v. not (same_nonterminal (to z) (to v))) zs
    (and_parts (list_all (λ v. not (same_nonterminal (to z) (to v))) zs) (are_apart to zs) h).0 x i in
    let same : to z ≡ to x = ap to l ∙ sym e in
    let found : same_nonterminal (to z) (to x) ≡ true =
    ap (λ v. same_nonterminal v (to x)) same ∙ same_nonterminal-refl (to x) in
    absurd (true≢false (sym t ∙ ap not found))

-- grammars that pass the test have one expansion
pub same-expansion : (g h : EnabledGrammar) (to : Nonterminal → Nonterminal) (n : ℕ) (xs ys : List Nonterminal) →
    ((s : Text) → to (Nonterminal.start s) ≡ Nonterminal.start s) → is_all g xs ≡ true → are_reached g n xs ≡ true →
    is_all h ys ≡ true →
    are_reached h n ys ≡ true → is_same g h to xs ys ≡ true → SameExpansion g h to
same-expansion g h to n xs ys starts all_g reached_g all_h reached_h test = record {
  apart = λ x y i j e. apart-each to xs one.0 x y (all-of g xs all_g x i) (all-of g xs all_g y j) e;
  starts = starts;
  there = λ x i.
      reached-each h n ys reached_h (to x) (has_nonterminal-among ys (to x)
      (all-each (λ z. has_nonterminal ys (to z)) xs two.0 x (all-of g xs all_g x i)));
  no_other = λ y i.
      let m = among_map to xs y (has_nonterminal-among (map to xs) y
      (all-each (has_nonterminal (map to xs)) ys three.0 y (all-of h ys all_h y i))) in
      (m.0, reached-each g n xs reached_g m.0 m.1, sym m.2);
  produces = λ x o side i m.
      is_production h (to x) o (rename_side to side) (choice-among (productions_of h (to x)) (o, rename_side to side)
      (all-each (λ p. has_choice (productions_of h (to x)) (rename_choice to p)) (productions_of g x) (at x i).0 (o, side)
      (listed g x o side m)));
  produces_no_other = λ x o side i m. back x o side i m;
}
  where
    one : (are_apart to xs ≡ true) × ((list_all (λ x. has_nonterminal ys (to x)) xs && (list_all (has_nonterminal (map to xs)) ys
        && list_all (produces_same g h to) xs)) ≡ true)
    one = and_parts (are_apart to xs) (list_all (λ x. has_nonterminal ys (to x)) xs && (list_all (has_nonterminal (map to xs)) ys
        && list_all (produces_same g h to) xs)) test

    two : (list_all (λ x. has_nonterminal ys (to x)) xs ≡ true) × ((list_all (has_nonterminal (map to xs)) ys
        && list_all (produces_same g h to) xs) ≡ true)
    two = and_parts (list_all (λ x. has_nonterminal ys (to x)) xs) (list_all (has_nonterminal (map to xs)) ys
        && list_all (produces_same g h to) xs) one.1

    three : (list_all (has_nonterminal (map to xs)) ys ≡ true) × (list_all (produces_same g h to) xs ≡ true)
    three = and_parts (list_all (has_nonterminal (map to xs)) ys) (list_all (produces_same g h to) xs) two.1

    at : (x : Nonterminal) → InExpansion g x →
        (list_all (λ p. has_choice (productions_of h (to x)) (rename_choice to p)) (productions_of g x) ≡ true)
        × (list_all (has_choice (map (rename_choice to) (productions_of g x))) (productions_of h (to x)) ≡ true)
    at x i =
        and_parts (list_all (λ p. has_choice (productions_of h (to x)) (rename_choice to p)) (productions_of g x))
        (list_all (has_choice (map (rename_choice to) (productions_of g x))) (productions_of h (to x)))
        (all-each (produces_same g h to) xs three.1 x (all-of g xs all_g x i))

    back : (x : Nonterminal) (o : Origin) (side : RightSide) → InExpansion g x → Produces h (to x) o side →
        (from : RightSide) × Produces g x o from × (side ≡ rename_side to from)
    back x o side i m =
        let c = choice-among (map (rename_choice to) (productions_of g x)) (o, side)
        (all-each (has_choice (map (rename_choice to) (productions_of g x))) (productions_of h (to x)) (at x i).1 (o, side)
        (listed h (to x) o side m)) in
        let p = among_map (rename_choice to) (productions_of g x) (o, side) c in
        let e : p.0.0 ≡ o = ap (λ q. q.0) p.2 in
        let f : rename_side to p.0.1 ≡ side = ap (λ q. q.1) p.2 in
        (p.0.1, subst (λ z. Produces g x z p.0.1) e (is_production g x p.0.0 p.0.1 p.1), sym f)
