-- The inlined nonterminals of an expansion have one order by their names, so numbers of actions are too many or enough, and never both: for
-- those who compare two.
use Rattle.std.proofs.Common.{◌≡◌, ◌∙◌, ◌⊎◌, List, [], ◌∷◌, ◌++◌, ap, arith, inl, inr, map, refl, subst, sym}
use Rattle.std.specs.Prelude.{flat_map, option_map, reverse}
use Rattle.std.specs.Cmp.Lexicographic.{nat_list_cmp_total}
use Rattle.std.specs.List.Sorted.{IsStrictlySortedBy}
use Rattle.std.specs.declared.cmp.Ordering.TheVariants.{Less}
use Rattle.std.proofs.lemmas.Option.{slice_get-map}
use Rattle.lalrpop_grammar_symbols.specs.Symbols.{Text}
use Rattle.lalrpop_grammar.specs.WrittenGrammar.{Origin}
use Rattle.lalrpop_grammar_language.specs.Among.{Among}
use Rattle.lalrpop_grammar_language.specs.Enabled.{EnabledGrammar}
use Rattle.lalrpop_grammar_language.specs.Expansion.{InExpansion, Nonterminal}
use Rattle.lalrpop_grammar_language.proofs.AmongLemmas.{among_contains}
use Rattle.lalrpop_lr1_core.proofs.SortedLemmas.{sorted_at}
use Rattle.lalrpop_norm_theory.specs.Productions.{IsOriginBefore}
use Rattle.lalrpop_run.specs.ConflictOrders.{compare_texts}
use Rattle.lalrpop_run.specs.InliningNumbers.{HandsOutTooMany, HasNumbersEnough, HaveNumbers}
use Rattle.lalrpop_run.specs.NonterminalOrders.{AreChosenSides, AreInlinedNamed, ChosenSide, IsNonterminalOrder, IsNonterminalWalk}
use Rattle.lalrpop_run.specs.NonterminalOrders.{NonterminalWalk, inlined_on, walked_nonterminals}
use Rattle.lalrpop_run.proofs.ConflictOrderLemmas.{never_itself}
use Rattle.lalrpop_run.proofs.OrderedListLemmas.{AreInOrder, first_in_order, in_order_behind}

-- lists in one order with the same elements are one
module _ {X : Type 0} (R : X → X → Type 0) (apart : (x y : X) → R x y → R y x → ⊥) where
  tail_among : (x y : X) (xs ys : List X) → x ≡ y → AreInOrder R (x ∷ xs) → ((z : X) → Among (x ∷ xs) z → Among (y ∷ ys) z) → (z : X) →
      Among xs z → Among ys z
  tail_among x y xs ys same a to z i = go (to z (inr i))
    where
      go : (y ≡ z) ⊎ Among ys z → Among ys z
      go (inl e) =
          let itself : R z z = subst (λ v. R v z) (same ∙ e) (first_in_order R x xs a z (among_contains xs z i)) in
          absurd (apart z z itself itself)
      go (inr j) = j

  pub one_ordered : (xs ys : List X) → AreInOrder R xs → AreInOrder R ys → ((z : X) → Among xs z → Among ys z) →
      ((z : X) → Among ys z → Among xs z) → xs ≡ ys
  one_ordered [] [] a b to from = refl
  one_ordered [] (y ∷ ys) a b to from = absurd (from y (inl refl))
  one_ordered (x ∷ xs) [] a b to from = absurd (to x (inl refl))
  one_ordered (x ∷ xs) (y ∷ ys) a b to from =
      let same : x ≡ y = head (to x (inl refl)) (from y (inl refl)) in
      ap (λ z. z ∷ xs) same
      ∙ ap (λ l. y ∷ l) (one_ordered xs ys (in_order_behind R x xs a) (in_order_behind R y ys b) (tail_among x y xs ys same a to)
      (tail_among y x ys xs (sym same) b from))
    where
      head : (y ≡ x) ⊎ Among ys x → (x ≡ y) ⊎ Among xs y → x ≡ y
      head (inl e) j = sym e
      head (inr i) (inl e) = e
      head (inr i) (inr j) =
          absurd (apart x y (first_in_order R x xs a y (among_contains xs y j)) (first_in_order R y ys b x (among_contains ys x i)))

-- of two choices one comes first
before_once : (o p : Origin) → IsOriginBefore o p → IsOriginBefore p o → ⊥
before_once (Origin.alternative n args i) (Origin.alternative m others j) h k = omega (arith, h, k)
before_once (Origin.alternative n args i) Origin.pass_down h k = k
before_once Origin.plus_one Origin.plus_more h k = k
before_once Origin.star_none Origin.star_some h k = k
before_once Origin.opt_some Origin.opt_none h k = k
before_once _ _ h k = h

-- what a nonterminal produces has one order
chosen_once : (g : EnabledGrammar) (x : Nonterminal) (all others : List ChosenSide) → AreChosenSides g x all →
    AreChosenSides g x others → all ≡ others
chosen_once g x all others a b =
    one_ordered (λ (c d : ChosenSide). IsOriginBefore c.choice d.choice) (λ c d h k. before_once c.choice d.choice h k) all others
    a.ordered b.ordered (λ c i. (b.each c.choice c.side).0 ((a.each c.choice c.side).1 i))
    (λ c i. (a.each c.choice c.side).0 ((b.each c.choice c.side).1 i))

-- and so has what its productions name
named_once : (g : EnabledGrammar) (x : Nonterminal) (ns ms : List Nonterminal) → AreInlinedNamed g x ns → AreInlinedNamed g x ms →
    ns ≡ ms
named_once g x ns ms a b =
    a.2 ∙ ap (λ (l : List ChosenSide). flat_map (λ (c : ChosenSide). inlined_on g c.side) l) (chosen_once g x a.0 b.0 a.1 b.1) ∙ sym b.2

-- nonterminals that are walked behind the same ones have one walk
walked_once : (g : EnabledGrammar) (before xs : List Nonterminal) (w v : NonterminalWalk) → IsNonterminalWalk g before xs w →
    IsNonterminalWalk g before xs v → walked_nonterminals w ≡ walked_nonterminals v
walked_once g before [] NonterminalWalk.no_more NonterminalWalk.no_more h k = refl
walked_once g before [] NonterminalWalk.no_more (NonterminalWalk.met_before v) h k = absurd k
walked_once g before [] NonterminalWalk.no_more (NonterminalWalk.met_first y other v) h k = absurd k
walked_once g before [] (NonterminalWalk.met_before w) v h k = absurd h
walked_once g before [] (NonterminalWalk.met_first m inside w) v h k = absurd h
walked_once g before (x ∷ xs) NonterminalWalk.no_more v h k = absurd h
walked_once g before (x ∷ xs) (NonterminalWalk.met_before w) NonterminalWalk.no_more h k = absurd k
walked_once g before (x ∷ xs) (NonterminalWalk.met_before w) (NonterminalWalk.met_before v) h k = walked_once g before xs w v h.1 k.1
walked_once g before (x ∷ xs) (NonterminalWalk.met_before w) (NonterminalWalk.met_first y other v) h k = absurd (k.1 h.0)
walked_once g before (x ∷ xs) (NonterminalWalk.met_first m inside w) NonterminalWalk.no_more h k = absurd k
walked_once g before (x ∷ xs) (NonterminalWalk.met_first m inside w) (NonterminalWalk.met_before v) h k = absurd (h.1 k.0)
walked_once g before (x ∷ xs) (NonterminalWalk.met_first m inside w) (NonterminalWalk.met_first y other v) h k =
    let named : h.2.0 ≡ k.2.0 = named_once g x h.2.0 k.2.0 h.2.1 k.2.1 in
    let same : walked_nonterminals inside ≡ walked_nonterminals other =
    walked_once g before (reverse h.2.0) inside other h.2.2
    (subst (λ (ns : List Nonterminal). IsNonterminalWalk g before (reverse ns) other) (sym named) k.2.2) in
    let behind : walked_nonterminals w ≡ walked_nonterminals v =
    walked_once g (before ++ walked_nonterminals inside ++ x ∷ []) xs w v h.3
    (subst (λ (o : List Nonterminal). IsNonterminalWalk g (before ++ o ++ x ∷ []) xs v) (sym same) k.3) in
    ap (λ o. o ++ m ∷ walked_nonterminals w) same
    ∙ ap (λ z. walked_nonterminals other ++ z ∷ walked_nonterminals w) (h.0 ∙ sym k.0)
    ∙ ap (λ o. walked_nonterminals other ++ y ∷ o) behind

-- nonterminals whose names ascend are in the order of their names
names_in_order : (name_of : Nonterminal → Text) (xs : List Nonterminal) → IsStrictlySortedBy compare_texts (map name_of xs) →
    AreInOrder (λ x y. compare_texts (name_of x) (name_of y) ≡ Less) xs
names_in_order name_of xs sorted i j x y l e f =
    sorted_at compare_texts (map name_of xs) sorted i j (name_of x) (name_of y) l
    (slice_get-map name_of xs i ∙ ap (option_map name_of) e) (slice_get-map name_of xs j ∙ ap (option_map name_of) f)

texts_apart : (s t : Text) → compare_texts s t ≡ Less → compare_texts t s ≡ Less → ⊥
texts_apart s t a b = never_itself nat_list_cmp_total s (nat_list_cmp_total.trans s t s a b)

-- under the same names there is one order
pub order_once_named : (g : EnabledGrammar) (name_of other : Nonterminal → Text) (order others : List Nonterminal) →
    ((x : Nonterminal) → InExpansion g x → name_of x ≡ other x) → IsNonterminalOrder g name_of order →
    IsNonterminalOrder g other others → order ≡ others
order_once_named g name_of other order others same a b =
    let firsts : a.firsts ≡ b.firsts =
    one_ordered (λ x y. compare_texts (name_of x) (name_of y) ≡ Less) (λ x y h k. texts_apart (name_of x) (name_of y) h k) a.firsts
    b.firsts (names_in_order name_of a.firsts a.by_name)
    (names_in_order name_of b.firsts
    (subst (λ (ns : List Text). IsStrictlySortedBy compare_texts ns) (sym (renamed b.firsts (λ x i. same x ((b.each x).0 i).0)))
    b.by_name))
    (λ x i. (b.each x).1 ((a.each x).0 i)) (λ x i. (a.each x).1 ((b.each x).0 i)) in
    sym a.order_is
    ∙ walked_once g [] b.firsts a.walk b.walk (subst (λ (xs : List Nonterminal). IsNonterminalWalk g [] xs a.walk) firsts a.is_walk)
    b.is_walk
    ∙ b.order_is
  where
    renamed : (xs : List Nonterminal) → ((x : Nonterminal) → Among xs x → name_of x ≡ other x) → map name_of xs ≡ map other xs
    renamed [] each = refl
    renamed (x ∷ xs) each =
        ap (λ (t : Text). t ∷ map name_of xs) (each x (inl refl))
        ∙ ap (λ (l : List Text). other x ∷ l) (renamed xs (λ y i. each y (inr i)))

-- and numbers are not both too many and enough
pub never_both : (g : EnabledGrammar) (prefix : Text) (a : HandsOutTooMany g prefix) (b : HasNumbersEnough g prefix) →
    ((x : Nonterminal) → InExpansion g x → a.name_of x ≡ b.name_of x) → ⊥
never_both g prefix a b same =
    let one : a.order ≡ b.order = order_once_named g a.name_of b.name_of a.order b.order same a.is_order b.is_order in
    let few = b.few a.labels (subst (λ (o : List Nonterminal). HaveNumbers g o a.labels) one a.have_numbers) in
    let many = a.too_many in
    omega (arith, few, many)
