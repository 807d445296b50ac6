-- Computed examples of inlining orders, and orders that are refused.
use Prim.Native.String.{String}
use Rattle.std.proofs.Common.{◌≡◌, ◌⊎◌, ℕ, List, [], ◌∷◌, refl, inl, inr, arith}
use Rattle.std.specs.Prelude.{codes}
use Rattle.lalrpop_grammar_symbols.specs.Symbols.{Text}
use Rattle.lalrpop_grammar_symbols.specs.declared.names.NonterminalString.{NonterminalString}
use Rattle.lalrpop_grammar_symbols.specs.declared.terminal.TerminalString.TheVariants as terminals
use Rattle.lalrpop_grammar.specs.declared.types.attribute.Attribute.{Attribute}
use Rattle.lalrpop_grammar.specs.declared.types.attribute.AttributeArg.TheVariants as args
use Rattle.lalrpop_grammar_repr.specs.declared.production.NonterminalData.{NonterminalData}
use Rattle.lalrpop_grammar_repr.specs.declared.production.Production.{Production}
use Rattle.lalrpop_grammar_repr.specs.declared.production.Symbol.{Symbol}
use Rattle.lalrpop_grammar_repr.specs.declared.production.Symbol.TheVariants as symbols
use Rattle.lalrpop_lr1_inline.specs.InlinedNames.{NonterminalEntries, inlined_named_by, name_of_text}
use Rattle.lalrpop_lr1_inline.specs.InliningOrders.{IsInliningOrder, OrderWalk}
use Rattle.lalrpop_lr1_inline.specs.InlineFaults.{IsInlinedIntoItself}
use Rattle.lalrpop_lr1_inline.proofs.OrderLemmas.{order_named_first, order_unique}

-- a nonterminal by its name, as a symbol on a right side
abbrev pub n : String → Symbol
n s = symbols.Nonterminal (name_of_text (codes s))

-- a terminal by its bare name, as a symbol on a right side
abbrev pub t : String → Symbol
t s = symbols.Terminal (terminals.Bare (codes s))

-- the attributes of a rule that is to be inlined
abbrev pub marked : List Attribute
marked = record { span = record { 0 = 0; 1 = 0 }; id = codes "inline"; arg = args.Empty } ∷ []

-- a production by its nonterminal, the number of its action, and its right side
abbrev pub production : String → ℕ → List Symbol → Production
production s action side = record {
  nonterminal = name_of_text (codes s);
  symbols = side;
  action = record { 0 = action };
  span = record { 0 = 0; 1 = 0 };
}

-- a nonterminal's entry by its name, its attributes and its productions
abbrev pub rule : String → List Attribute → List Production → NonterminalString × NonterminalData
rule s attributes ps = (
  name_of_text (codes s),
  record {
    name = name_of_text (codes s);
    attributes = attributes;
    span = record { 0 = 0; 1 = 0 };
    productions = ps;
  },
)

-- S = A "z"; A = B "y"; B = { "p", "q" }, of which A and B are inlined
abbrev pub nested : NonterminalEntries
nested =
    rule "A" marked (production "A" 0 (n "B" ∷ t "y" ∷ []) ∷ [])
    ∷ rule "B" marked (production "B" 1 (t "p" ∷ []) ∷ production "B" 2 (t "q" ∷ []) ∷ [])
    ∷ rule "S" [] (production "S" 3 (n "A" ∷ t "z" ∷ []) ∷ []) ∷ []

nested_order : IsInliningOrder nested (codes "B" ∷ codes "A" ∷ [])
nested_order = (
  OrderWalk.met_first (codes "A") (OrderWalk.met_first (codes "B") OrderWalk.no_more OrderWalk.no_more)
      (OrderWalk.met_before OrderWalk.no_more),
  (refl, (λ i. i), (refl, (λ i. i), tt, tt), (inl refl, tt)),
  refl,
)

-- the one that names another isn't first
names_first : IsInliningOrder nested (codes "A" ∷ codes "B" ∷ []) → ⊥
names_first o = order_named_first nested (codes "A" ∷ codes "B" ∷ []) o [] (codes "A") (codes "B" ∷ []) (codes "B") refl (inl refl)

-- A = Y X, all inlined: the last named one is first
abbrev two_named : NonterminalEntries
two_named =
    rule "A" marked (production "A" 0 (n "Y" ∷ n "X" ∷ []) ∷ []) ∷ rule "X" marked (production "X" 1 [] ∷ [])
    ∷ rule "Y" marked (production "Y" 2 [] ∷ []) ∷ []

abbrev last_named_first : List Text
last_named_first = codes "X" ∷ codes "Y" ∷ codes "A" ∷ []

no_text : (i j : ℕ) → (i ≡ j → ⊥) → i ∷ [] ≡ j ∷ [] → ⊥
no_text i j d e = d (let same : i ≡ j = cc in same)

first_same : (a b : Text) (xs ys : List Text) → a ∷ xs ≡ b ∷ ys → a ≡ b
first_same a b xs ys e = cc

two_named_order : IsInliningOrder two_named last_named_first
two_named_order = (
  OrderWalk.met_first (codes "A")
      (OrderWalk.met_first (codes "X") OrderWalk.no_more (OrderWalk.met_first (codes "Y") OrderWalk.no_more OrderWalk.no_more))
      (OrderWalk.met_before (OrderWalk.met_before OrderWalk.no_more)),
  (
    refl,
    (λ i. i),
    (refl, (λ i. i), tt, (refl, fresh, tt, tt)),
    (inl refl, (inr (inl refl), tt)),
  ),
  refl,
)
  where
    fresh : (codes "X" ≡ codes "Y") ⊎ ⊥ → ⊥
    fresh (inl e) = no_text 88 89 (λ f. omega (arith, f)) e
    fresh (inr i) = i

-- and no other order serves
first_named_first : IsInliningOrder two_named (codes "Y" ∷ codes "X" ∷ codes "A" ∷ []) → ⊥
first_named_first o =
    let e = order_unique two_named (codes "Y" ∷ codes "X" ∷ codes "A" ∷ []) last_named_first o two_named_order in
    no_text 89 88 (λ f. omega (arith, f)) (first_same (codes "Y") (codes "X") _ _ e)

-- E = E "x", nothing inlined: an order of none
abbrev recursive : NonterminalEntries
recursive = rule "E" [] (production "E" 0 (n "E" ∷ t "x" ∷ []) ∷ []) ∷ []

nothing_inlined : IsInliningOrder recursive [] × IsInliningOrder [] []
nothing_inlined = ((OrderWalk.no_more, tt, refl), (OrderWalk.no_more, tt, refl))

-- A = B; B = C; C = A: a chain returns to each of them, and there is no order
abbrev circle : NonterminalEntries
circle =
    rule "A" marked (production "A" 0 (n "B" ∷ []) ∷ []) ∷ rule "B" marked (production "B" 1 (n "C" ∷ []) ∷ [])
    ∷ rule "C" marked (production "C" 2 (n "A" ∷ []) ∷ []) ∷ []

returns : IsInlinedIntoItself circle (codes "A")
returns = record {
  is_inlined = refl;
  between = codes "B" ∷ codes "C" ∷ [];
  chain = (inl refl, (inl refl, inl refl));
}

-- the same with B not inlined: none is inlined into itself by way of it
abbrev broken : NonterminalEntries
broken =
    rule "A" marked (production "A" 0 (n "B" ∷ []) ∷ []) ∷ rule "B" [] (production "B" 1 (n "C" ∷ []) ∷ [])
    ∷ rule "C" marked (production "C" 2 (n "A" ∷ []) ∷ []) ∷ []

names_none : (inlined_named_by broken (codes "A") ≡ []) × (inlined_named_by broken (codes "B") ≡ codes "C" ∷ [])
names_none = (refl, refl)

broken_order : IsInliningOrder broken (codes "A" ∷ codes "C" ∷ [])
broken_order = (
  OrderWalk.met_first (codes "A") OrderWalk.no_more
      (OrderWalk.met_first (codes "C") (OrderWalk.met_before OrderWalk.no_more) OrderWalk.no_more),
  (refl, (λ i. i), tt, (refl, fresh, (inl refl, tt), tt)),
  refl,
)
  where
    fresh : (codes "A" ≡ codes "C") ⊎ ⊥ → ⊥
    fresh (inl e) = no_text 65 67 (λ f. omega (arith, f)) e
    fresh (inr i) = i
