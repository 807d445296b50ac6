-- Computed examples of the order in which actions of productions with equal symbols are numbered.
use Rattle.std.proofs.Common.{◌≡◌, ◌∙◌, ◌<◌, ◌≤◌, ◌⊎◌, inl, inr, ℕ, zero, suc, List, [], ◌∷◌, Contains, Some, ap, arith, refl, subst, sym}
use Rattle.std.proofs.Common.{take}
use Rattle.std.proofs.lemmas.Bool.{cases_lt}
use Rattle.std.specs.Prelude.{codes}
use Rattle.lalrpop_grammar.specs.WrittenGrammar.{Grammar, Origin}
use Rattle.lalrpop_grammar_language.specs.Among.{Among}
use Rattle.lalrpop_grammar_language.specs.Expansion.{Nonterminal}
use Rattle.lalrpop_grammar_language.specs.Labels.{Label}
use Rattle.lalrpop_grammar_language.proofs.WrittenTreeLemmas.{alt, grammar, id, lit, rule_of}
use Rattle.lalrpop_lr1_theory.specs.Productions.{Production}
use Rattle.lalrpop_lr1_theory.proofs.StepLemmas.{some_same}
use Rattle.lalrpop_norm_theory.specs.Productions.{IsOriginBefore}
use Rattle.lalrpop_run_theory.proofs.ExamplesOfExpansions.{I, L, by_op, end, inline, inlined, kept, op, place, private, rule}
use Rattle.lalrpop_run.specs.Asked.{enabled}
use Rattle.lalrpop_run.specs.ProductionOrders.{AreItsProductions, DifferFirstAt, IsInlinedSooner, IsLabelBefore, IsMadeSooner, IsMadeWithin}
use Rattle.lalrpop_run.specs.ProductionOrders.{IsNumberedBefore, IsReplacedFirst, inlined_at, label_head}
use Rattle.lalrpop_run.proofs.ExamplesOfRightAnswers.{asked}
use Rattle.lalrpop_run.proofs.LabelOrderLemmas.{numbered_apart, origins_apart}
use Rattle.lalrpop_run.proofs.OneNumberingLemmas.{IsUnderItsLabel, under_label}

abbrev IsFirst : List Nonterminal → L → L → Type 0
IsFirst order l m = IsNumberedBefore Nonterminal Origin IsOriginBefore order l m

abbrev IsBefore : List Nonterminal → L → L → Type 0
IsBefore order l m = IsLabelBefore Nonterminal Origin IsOriginBefore order l m

-- what comes first isn't behind
not_behind : (order : List Nonterminal) (l m : L) → IsFirst order l m → IsFirst order m l → ⊥
not_behind order l m = numbered_apart IsOriginBefore origins_apart order l m

-- two labels of which each inlines something at both places
module _ (order : List Nonterminal) (l k m n : L) (heads : label_head l ≡ label_head m) (others : label_head k ≡ label_head n) where
  abbrev one : I
  one = inlined l (inlined k end)

  abbrev two : I
  two = inlined m (inlined n end)

  made_too : (steps : ℕ) → ((i : ℕ) (x : L) → inlined_at two i ≡ Some x → Among (take steps order) (label_head x)) → (i : ℕ) (x : L) →
      inlined_at one i ≡ Some x → Among (take steps order) (label_head x)
  made_too steps h zero x e =
      subst (λ (z : L). Among (take steps order) (label_head z)) (some_same l x e)
      (subst (λ (z : Nonterminal). Among (take steps order) z) (sym heads) (h 0 m refl))
  made_too steps h (suc zero) x e =
      subst (λ (z : L). Among (take steps order) (label_head z)) (some_same k x e)
      (subst (λ (z : Nonterminal). Among (take steps order) z) (sym others) (h 1 n refl))
  made_too steps h (suc (suc i)) x e = let w : ⊥ = cc in absurd w

  not_sooner : (x : Nonterminal) (c d : Origin) → IsMadeSooner order (Label.choose x c two) (Label.choose x d one) → ⊥
  not_sooner x c d s = s.2 (made_too s.0 s.1)

  differ_first : (label_head l ≡ label_head k) ⊎ IsInlinedSooner order (label_head l) (label_head k) →
      DifferFirstAt order one two 0 (label_head l)
  differ_first b zero x y e f = inr (inr (ap label_head (some_same l x e), omega arith))
  differ_first b (suc zero) x y e f = go b
    where
      go : (label_head l ≡ label_head k) ⊎ IsInlinedSooner order (label_head l) (label_head k) →
          (x ≡ y) ⊎ IsReplacedFirst order 0 (label_head l) 1 (label_head x)
      go (inl same) = inr (inr (same ∙ ap label_head (some_same k x e), omega arith))
      go (inr s) =
          inr (inl (subst (λ (z : L). IsInlinedSooner order (label_head l) (label_head z)) (some_same k x e) s))
  differ_first b (suc (suc i)) x y e f = let w : ⊥ = cc in absurd w

  differ_second : IsInlinedSooner order (label_head k) (label_head l) → DifferFirstAt order one two 1 (label_head k)
  differ_second s zero x y e f =
      inr (inl (subst (λ (z : L). IsInlinedSooner order (label_head k) (label_head z)) (some_same l x e) s))
  differ_second s (suc zero) x y e f = inr (inr (ap label_head (some_same k x e), omega arith))
  differ_second s (suc (suc i)) x y e f = let w : ⊥ = cc in absurd w

  -- the first place decides, where it's replaced first
  by_first : (x : Nonterminal) (c : Origin) →
      (label_head l ≡ label_head k) ⊎ IsInlinedSooner order (label_head l) (label_head k) → IsBefore order l m →
      IsBefore order (Label.choose x c one) (Label.choose x c two)
  by_first x c b less = IsLabelBefore.by_inlined x c one two 0 l m refl refl less (differ_first b)

  -- and the second, where that is
  by_second : (x : Nonterminal) (c : Origin) → IsInlinedSooner order (label_head k) (label_head l) → IsBefore order k n →
      IsBefore order (Label.choose x c one) (Label.choose x c two)
  by_second x c s less = IsLabelBefore.by_inlined x c one two 1 k n refl refl less (differ_second s)

B_is_not_A : rule "B" ≡ rule "A" → ⊥
B_is_not_A e =
    let texts : codes "B" ≡ codes "A" = cc in
    let letters : ◌≡◌ {A = ℕ} 66 65 = cc in
    omega (arith, letters)

C_is_not_A : rule "C" ≡ rule "A" → ⊥
C_is_not_A e =
    let texts : codes "C" ≡ codes "A" = cc in
    let letters : ◌≡◌ {A = ℕ} 67 65 = cc in
    omega (arith, letters)

-- pub S = Op "x"; #[inline] Op = { "a", "a" }

abbrev with_op : ℕ → I
with_op k = inlined (op k) (kept end)

op_made : (order : List Nonterminal) (steps : ℕ) → IsMadeWithin order steps (by_op 1) → IsMadeWithin order steps (by_op 0)
op_made order steps h zero x e =
    subst (λ (z : L). Among (take steps order) (label_head z)) (some_same (op 0) x e) (h 0 (op 1) refl)
op_made order steps h (suc zero) x e = let w : ⊥ = cc in absurd w
op_made order steps h (suc (suc i)) x e = let w : ⊥ = cc in absurd w

op_differs : (order : List Nonterminal) → DifferFirstAt order (with_op 0) (with_op 1) 0 (rule "Op")
op_differs order zero x y e f = inr (inr (ap label_head (some_same (op 0) x e), omega arith))
op_differs order (suc zero) x y e f = let w : ⊥ = cc in absurd w
op_differs order (suc (suc i)) x y e f = let w : ⊥ = cc in absurd w

-- the first alternative's comes first, whatever else is inlined
pub first_alternative_first : (order : List Nonterminal) → IsFirst order (by_op 0) (by_op 1)
first_alternative_first order =
    inr (
      λ s. s.2 (op_made order s.0 s.1),
      IsLabelBefore.by_inlined (rule "S") (place "S" 0) (with_op 0) (with_op 1) 0 (op 0) (op 1) refl refl
          (IsLabelBefore.by_choice (rule "Op") (place "Op" 0) (place "Op" 1) (kept end) (kept end) (omega arith)) (op_differs order),
    )

-- and the second's doesn't
pub second_alternative_behind : (order : List Nonterminal) → IsFirst order (by_op 1) (by_op 0) → ⊥
second_alternative_behind order h = not_behind order (by_op 0) (by_op 1) (first_alternative_first order) h

-- so of all productions of this grammar's expansion the first alternative's has the smaller number
abbrev alike_written : Grammar
alike_written = grammar (rule_of "S" (alt (id "Op" ∷ lit "x" ∷ []) ∷ [])
    ∷ private (inline ∷ []) "Op" (alt (lit "a" ∷ []) ∷ alt (lit "a" ∷ []) ∷ []) ∷ [])

ops_apart : by_op 0 ≡ by_op 1 → ⊥
ops_apart e = let places : ◌≡◌ {A = ℕ} 0 1 = cc in omega (arith, places)

pub smaller_number : (G : List Production) (e : AreItsProductions asked alike_written G) (p r : Production) → Contains G p →
    Contains G r → e.expansion.label_of p.action ≡ by_op 0 → e.expansion.label_of r.action ≡ by_op 1 → p.action < r.action
smaller_number G e p r i j one two = go (cases_lt p.action r.action) (cases_lt r.action p.action)
  where
    named : (x : Production) → Contains G x → IsUnderItsLabel (enabled asked alike_written) e.expansion.name_of x (e.expansion.label_of x.action)
    named x c = under_label (enabled asked alike_written) alike_written.prefix (Contains G) e.expansion x c

    lefts : r.left ≡ p.left
    lefts =
        (named r j).left_is ∙ ap (λ (l : L). e.expansion.name_of (label_head l)) two
        ∙ sym ((named p i).left_is ∙ ap (λ (l : L). e.expansion.name_of (label_head l)) one)

    never : r.action < p.action → ⊥
    never h =
        second_alternative_behind e.order
        (subst (λ (l : L). IsFirst e.order l (by_op 0)) two
        (subst (λ (l : L). IsFirst e.order (e.expansion.label_of r.action) l) one (e.in_order r p j i lefts h)))

    equal : p.action ≡ r.action → ⊥
    equal h = ops_apart (sym one ∙ ap e.expansion.label_of h ∙ two)

    go : (p.action < r.action) ⊎ (r.action ≤ p.action) → (r.action < p.action) ⊎ (p.action ≤ r.action) → p.action < r.action
    go (inl h) t = h
    go (inr h) (inl t) = absurd (never t)
    go (inr h) (inr t) = absurd (equal (omega (arith, h, t)))

-- pub S = { Op "x", "a" "x" }; #[inline] Op = "a"

abbrev plain : L
plain = Label.choose (rule "S") (place "S" 1) (kept (kept end))

nothing_inlined : (i : ℕ) (x : L) → inlined_at (kept (kept end)) i ≡ Some x → ⊥
nothing_inlined zero x e = cc
nothing_inlined (suc zero) x e = cc
nothing_inlined (suc (suc i)) x e = cc

-- what isn't changed comes before what is, whatever their choices are
pub unchanged_first : IsFirst (rule "Op" ∷ []) plain (by_op 0)
unchanged_first = inl (0, λ i x e. absurd (nothing_inlined i x e), λ h. h 0 (op 0) refl)

pub changed_behind : IsFirst (rule "Op" ∷ []) (by_op 0) plain → ⊥
changed_behind h = not_behind (rule "Op" ∷ []) plain (by_op 0) unchanged_first h

-- pub S = B A; #[inline] A = { "a", "a" }; #[inline] B = { "b", "b" }

abbrev a : ℕ → L
a k = Label.choose (rule "A") (place "A" k) (kept end)

abbrev b : ℕ → L
b k = Label.choose (rule "B") (place "B" k) (kept end)

abbrev of_two : L → L → L
of_two l m = Label.choose (rule "S") (place "S" 0) (inlined l (inlined m end))

a_before : (order : List Nonterminal) → IsBefore order (a 0) (a 1)
a_before order = IsLabelBefore.by_choice (rule "A") (place "A" 0) (place "A" 1) (kept end) (kept end) (omega arith)

A_before_B : IsInlinedSooner (rule "A" ∷ rule "B" ∷ []) (rule "A") (rule "B")
A_before_B = (1, inl refl, not_yet)
  where
    not_yet : Among (rule "A" ∷ []) (rule "B") → ⊥
    not_yet (inl e) = B_is_not_A (sym e)
    not_yet (inr i) = i

-- `A` is inlined before `B`, so its choice decides, though it's to the right
pub sooner_place_first : IsFirst (rule "A" ∷ rule "B" ∷ []) (of_two (b 1) (a 0)) (of_two (b 0) (a 1))
sooner_place_first =
    inr (
      not_sooner (rule "A" ∷ rule "B" ∷ []) (b 1) (a 0) (b 0) (a 1) refl refl (rule "S") (place "S" 0) (place "S" 0),
      by_second (rule "A" ∷ rule "B" ∷ []) (b 1) (a 0) (b 0) (a 1) refl refl (rule "S") (place "S" 0) A_before_B
          (a_before (rule "A" ∷ rule "B" ∷ [])),
    )

-- the order isn't that of places from left to right
pub left_place_behind : IsFirst (rule "A" ∷ rule "B" ∷ []) (of_two (b 0) (a 1)) (of_two (b 1) (a 0)) → ⊥
left_place_behind h =
    not_behind (rule "A" ∷ rule "B" ∷ []) (of_two (b 1) (a 0)) (of_two (b 0) (a 1)) sooner_place_first h

-- pub S = C A; #[inline] A = { "a", "a" }; #[inline] C = A

abbrev c : L → L
c l = Label.choose (rule "C") (place "C" 0) (inlined l end)

A_before_C : IsInlinedSooner (rule "A" ∷ rule "C" ∷ []) (rule "A") (rule "C")
A_before_C = (1, inl refl, not_yet)
  where
    not_yet : Among (rule "A" ∷ []) (rule "C") → ⊥
    not_yet (inl e) = C_is_not_A (sym e)
    not_yet (inr i) = i

-- what `C` inlines comes into `S` with `C`, behind the place of `A`
pub nested_place_later : IsFirst (rule "A" ∷ rule "C" ∷ []) (of_two (c (a 1)) (a 0)) (of_two (c (a 0)) (a 1))
nested_place_later =
    inr (
      not_sooner (rule "A" ∷ rule "C" ∷ []) (c (a 1)) (a 0) (c (a 0)) (a 1) refl refl (rule "S") (place "S" 0) (place "S" 0),
      by_second (rule "A" ∷ rule "C" ∷ []) (c (a 1)) (a 0) (c (a 0)) (a 1) refl refl (rule "S") (place "S" 0) A_before_C
          (a_before (rule "A" ∷ rule "C" ∷ [])),
    )

-- pub S = C; #[inline] A = { "a", "a" }; #[inline] C = A A

abbrev two_of : L → L → L
two_of l m = Label.choose (rule "C") (place "C" 0) (inlined l (inlined m end))

abbrev by_c : L → L
by_c l = Label.choose (rule "S") (place "S" 0) (inlined l end)

c_made : (l m : L) → label_head l ≡ label_head m → (steps : ℕ) → IsMadeWithin (rule "A" ∷ rule "C" ∷ []) steps (by_c m) →
    IsMadeWithin (rule "A" ∷ rule "C" ∷ []) steps (by_c l)
c_made l m heads steps h zero x e =
    subst (λ (z : L). Among (take steps (rule "A" ∷ rule "C" ∷ [])) (label_head z)) (some_same l x e)
    (subst (λ (z : Nonterminal). Among (take steps (rule "A" ∷ rule "C" ∷ [])) z) (sym heads) (h 0 m refl))
c_made l m heads steps h (suc i) x e = let w : ⊥ = cc in absurd w

c_differs : (l m : L) → DifferFirstAt (rule "A" ∷ rule "C" ∷ []) (inlined l end) (inlined m end) 0 (label_head l)
c_differs l m zero x y e f = inr (inr (ap label_head (some_same l x e), omega arith))
c_differs l m (suc i) x y e f = let w : ⊥ = cc in absurd w

-- of two places of one nonterminal the left one decides, in what is inlined as well
pub left_place_first : IsFirst (rule "A" ∷ rule "C" ∷ []) (by_c (two_of (a 0) (a 1))) (by_c (two_of (a 1) (a 0)))
left_place_first =
    inr (
      λ s. s.2 (c_made (two_of (a 0) (a 1)) (two_of (a 1) (a 0)) refl s.0 s.1),
      IsLabelBefore.by_inlined (rule "S") (place "S" 0) (inlined (two_of (a 0) (a 1)) end) (inlined (two_of (a 1) (a 0)) end) 0
          (two_of (a 0) (a 1)) (two_of (a 1) (a 0)) refl refl
          (by_first (rule "A" ∷ rule "C" ∷ []) (a 0) (a 1) (a 1) (a 0) refl refl (rule "C") (place "C" 0) (inl refl)
          (a_before (rule "A" ∷ rule "C" ∷ []))) (c_differs (two_of (a 0) (a 1)) (two_of (a 1) (a 0))),
    )
