-- Computed examples of steps: the records and the productions that they make, in order, and what they don't make.
use Rattle.std.proofs.Common.{◌≡◌, ◌+◌, ℕ, List, [], ◌∷◌, refl, ap, inl, inr, arith, true, false, length, map}
use Rattle.std.specs.Prelude.{Bool, None, codes}
use Rattle.lalrpop_grammar_language.specs.Among.{Among}
use Rattle.lalrpop_grammar_repr.specs.declared.action.ActionFnDefn.{ActionFnDefn}
use Rattle.lalrpop_grammar_repr.specs.declared.action.ActionFnDefnKind.TheVariants as kinds
use Rattle.lalrpop_grammar_repr.specs.declared.action.InlinedSymbol.{InlinedSymbol}
use Rattle.lalrpop_grammar_repr.specs.declared.action.InlinedSymbol.TheVariants as inlined
use Rattle.lalrpop_grammar_repr.specs.declared.production.Production.{Production}
use Rattle.lalrpop_grammar_repr.specs.declared.production.Symbol.{Symbol}
use Rattle.lalrpop_grammar.specs.declared.types.type_repr.TypeRepr.TheVariants as types
use Rattle.lalrpop_lr1_inline.specs.InlinedNames.{NonterminalEntries}
use Rattle.lalrpop_lr1_inline.specs.InliningSteps.{IsInlineDefinition, all_records_after, entries_after, numbers_after}
use Rattle.lalrpop_lr1_inline.specs.InliningSteps.{productions_after, productions_named, records_of}
use Rattle.lalrpop_lr1_inline.proofs.ExamplesOfInliningOrders.{marked, n, nested, production, rule, t}

-- a place in a record that is replaced: by the production with this action and this right side
abbrev pub by : ℕ → List Symbol → InlinedSymbol
by action side = inlined.Inlined (record { 0 = action }) side

-- a symbol in a record that is left as it is
abbrev pub same : Symbol → InlinedSymbol
same s = inlined.Original s

-- S = Op Op; Op = { "a", "b" }
abbrev a_or_b : List Production
a_or_b = production "Op" 0 (t "a" ∷ []) ∷ production "Op" 1 (t "b" ∷ []) ∷ []

abbrev both : List Symbol
both = n "Op" ∷ n "Op" ∷ []

abbrev a : InlinedSymbol
a = by 0 (t "a" ∷ [])

abbrev b : InlinedSymbol
b = by 1 (t "b" ∷ [])

-- the last place changes first
in_order : records_of (codes "Op") a_or_b both ≡ (a ∷ a ∷ []) ∷ (a ∷ b ∷ []) ∷ (b ∷ a ∷ []) ∷ (b ∷ b ∷ []) ∷ []
in_order = refl

-- each with an action of its own, behind those that are there
four_made : productions_after (codes "Op") a_or_b (production "S" 2 both ∷ []) 3
    ≡ production "S" 3 (t "a" ∷ t "a" ∷ []) ∷ production "S" 4 (t "a" ∷ t "b" ∷ []) ∷ production "S" 5 (t "b" ∷ t "a"
    ∷ [])
    ∷ production "S" 6 (t "b" ∷ t "b" ∷ []) ∷ []
four_made = refl

-- no record keeps a place
one_kept : Among (records_of (codes "Op") a_or_b both) (a ∷ same (n "Op") ∷ []) → ⊥
one_kept (inl e) = (let f : a ∷ a ∷ [] ≡ a ∷ same (n "Op") ∷ [] = e in let g : a ≡ same (n "Op") = cc in cc)
one_kept (inr (inl e)) = (let f : a ∷ b ∷ [] ≡ a ∷ same (n "Op") ∷ [] = e in let g : b ≡ same (n "Op") = cc in cc)
one_kept (inr (inr (inl e))) = (let f : b ∷ a ∷ [] ≡ a ∷ same (n "Op") ∷ [] = e in let g : a ≡ same (n "Op") = cc in cc)
one_kept (inr (inr (inr (inl e)))) = (let f : b ∷ b ∷ [] ≡ a ∷ same (n "Op") ∷ [] = e in let g : b ≡ same (n "Op") = cc in cc)
one_kept (inr (inr (inr (inr i)))) = i

-- S = Op "x"; Op = { "a", "a" }: equal right sides, and two productions with two actions
abbrev alike : List Production
alike = production "Op" 0 (t "a" ∷ []) ∷ production "Op" 1 (t "a" ∷ []) ∷ []

two_made : productions_after (codes "Op") alike (production "S" 2 (n "Op" ∷ t "x" ∷ []) ∷ []) 3
    ≡ production "S" 3 (t "a" ∷ t "x" ∷ []) ∷ production "S" 4 (t "a" ∷ t "x" ∷ []) ∷ []
two_made = refl

-- they aren't made one
merged : (p : Production) → productions_after (codes "Op") alike (production "S" 2 (n "Op" ∷ t "x" ∷ []) ∷ []) 3 ≡ p
    ∷ [] → ⊥
merged p e = (let many : ◌≡◌ {A = ℕ} 2 1 = ap length e in omega (arith, many))

-- a production that doesn't name it stays as it is, with its action
stays : productions_after (codes "Op") alike (production "S" 2 (t "x" ∷ n "S" ∷ []) ∷ []) 3 ≡ production "S" 2 (t "x"
    ∷ n "S" ∷ []) ∷ []
stays = refl

-- one that names a nonterminal without productions is gone
gone : productions_after (codes "Op") [] (production "S" 2 (n "Op" ∷ t "x" ∷ []) ∷ []) 3 ≡ []
gone = refl

-- S = A "z"; A = B "y"; B = { "p", "q" }: B first, then A, into which B was put
abbrev after_B : NonterminalEntries
after_B =
    rule "A" marked (production "A" 4 (t "p" ∷ t "y" ∷ []) ∷ production "A" 5 (t "q" ∷ t "y" ∷ []) ∷ [])
    ∷ rule "B" marked (production "B" 1 (t "p" ∷ []) ∷ production "B" 2 (t "q" ∷ []) ∷ [])
    ∷ rule "S" [] (production "S" 3 (n "A" ∷ t "z" ∷ []) ∷ []) ∷ []

first_step : entries_after (codes "B") (productions_named nested (codes "B")) nested 4 ≡ after_B
first_step = refl

abbrev after_A : NonterminalEntries
after_A =
    rule "A" marked (production "A" 4 (t "p" ∷ t "y" ∷ []) ∷ production "A" 5 (t "q" ∷ t "y" ∷ []) ∷ [])
    ∷ rule "B" marked (production "B" 1 (t "p" ∷ []) ∷ production "B" 2 (t "q" ∷ []) ∷ [])
    ∷ rule "S" []
    (production "S" 6 (t "p" ∷ t "y" ∷ t "z" ∷ []) ∷ production "S" 7 (t "q" ∷ t "y" ∷ t "z" ∷ []) ∷ []) ∷ []

-- inlined nonterminals stay
second_step : entries_after (codes "A") (productions_named after_B (codes "A")) after_B 6 ≡ after_A
second_step = refl

-- what the second step records is by the actions that the first one gave
records_nest : map (λ m. m.1) (all_records_after (codes "A") (productions_named after_B (codes "A")) after_B)
    ≡ (by 4 (t "p" ∷ t "y" ∷ []) ∷ same (t "z") ∷ []) ∷ (by 5 (t "q" ∷ t "y" ∷ []) ∷ same (t "z") ∷ []) ∷ []
records_nest = refl

all_numbers : numbers_after (codes "B" ∷ codes "A" ∷ []) nested 4 ≡ 8
all_numbers = refl

-- S = A; A = B B; B = C C; C = { "p", "q" }: numbers of all steps count, those of productions that a later step replaces too
abbrev pub doubling : NonterminalEntries
doubling =
    rule "A" marked (production "A" 0 (n "B" ∷ n "B" ∷ []) ∷ []) ∷ rule "B" marked (production "B" 1 (n "C" ∷ n "C" ∷ [])
    ∷ [])
    ∷ rule "C" marked (production "C" 2 (t "p" ∷ []) ∷ production "C" 3 (t "q" ∷ []) ∷ [])
    ∷ rule "S" [] (production "S" 4 (n "A" ∷ []) ∷ []) ∷ []

numbers_double : numbers_after (codes "C" ∷ codes "B" ∷ codes "A" ∷ []) doubling 5 ≡ 5 + 4 + 16 + 16
numbers_double = refl

-- an action is fallible where an inlined one is, and of the outer's type
abbrev action_of : Bool → List ℕ → ActionFnDefn
action_of fallible code = record { fallible = fallible; ret_type = types.Opaque code; kind = kinds.User (record { code = None }) }

abbrev some_actions : List ActionFnDefn
some_actions = action_of true (codes "u8") ∷ action_of false (codes "u16") ∷ action_of false (codes "u32") ∷ []

fails_by_inlined : IsInlineDefinition some_actions (production "S" 2 both) (a ∷ b ∷ [])
    (record {
      fallible = true;
      ret_type = types.Opaque (codes "u32");
      kind = kinds.Inline (record { action = record { 0 = 2 }; symbols = a ∷ b ∷ [] });
    })
fails_by_inlined = record { outer = action_of false (codes "u32"); has_outer = refl; fallible_is = refl; type_is = refl; kind_is = refl }

fails_by_none : IsInlineDefinition some_actions (production "S" 2 both) (b ∷ b ∷ [])
    (record {
      fallible = false;
      ret_type = types.Opaque (codes "u32");
      kind = kinds.Inline (record { action = record { 0 = 2 }; symbols = b ∷ b ∷ [] });
    })
fails_by_none = record { outer = action_of false (codes "u32"); has_outer = refl; fallible_is = refl; type_is = refl; kind_is = refl }
