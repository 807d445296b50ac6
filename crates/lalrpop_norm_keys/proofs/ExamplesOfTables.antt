-- Computed examples of keys in tables, and near misses.
use Prim.Native.String.{String}
use Rattle.std.proofs.Common.{◌≡◌, List, [], ◌∷◌, refl, inl, inr}
use Rattle.std.specs.Prelude.{None, Some, codes}
use Rattle.lalrpop_grammar_symbols.specs.Symbols.{Closed, Closeds, Op}
use Rattle.lalrpop_norm_theory.specs.Keys.{flat_key_text}
use Rattle.lalrpop_norm_keys.specs.KeyTexts.{call_text}
use Rattle.lalrpop_norm_keys.specs.Standing.{keys_of_repeat}
use Rattle.lalrpop_norm_keys.specs.Tables.{AddsKeys, HasEachOnce, IsPlaceOfKey, places_of_text}

abbrev rule : String → Closed
rule n = Closed.call (codes n) Closeds.none None

abbrev of_one : String → Closed → Closed
of_one n x = Closed.call (codes n) (Closeds.more x Closeds.none) None

-- a level's rule and a written one that share a text
abbrev three_keys : List Closed
three_keys = rule "E2" ∷ Closed.repeat Op.star (rule "E") ∷ rule "E2~2" ∷ []

shared_text : flat_key_text (rule "E2~2") ≡ codes "E2"
shared_text = refl

call_of_level : call_text (codes "E2") (Closeds.more (rule "E1~2") Closeds.none) ≡ codes "E2<E1>"
call_of_level = refl

two_places : places_of_text (codes "E2") 0 three_keys ≡ 0 ∷ 2 ∷ []
two_places = refl

one_place : places_of_text (codes "E*") 0 three_keys ≡ 1 ∷ []
one_place = refl

no_place : places_of_text (codes "E") 0 three_keys ≡ []
no_place = refl

second_found : IsPlaceOfKey three_keys (rule "E2~2") (Some 2)
second_found = refl

-- a key isn't the other one of its text
not_the_other : IsPlaceOfKey three_keys (rule "E2~2") (Some 0) → ⊥
not_the_other e = cc

-- `X*` is made of `X+`, which `X?` isn't
star_of_plus : keys_of_repeat Op.star (rule "X") ≡ Closed.repeat Op.star (rule "X") ∷ Closed.repeat Op.plus (rule "X") ∷ []
star_of_plus = refl

question_alone : keys_of_repeat Op.question (rule "X") ≡ Closed.repeat Op.question (rule "X") ∷ []
question_alone = refl

-- a known key isn't added again
added_once : AddsKeys [] (rule "A" ∷ rule "A" ∷ []) (rule "A" ∷ [])
added_once = (rule "A" ∷ [], inr (λ i. i, refl), (rule "A" ∷ [], inl (inl refl, refl), refl))

twice_refused : HasEachOnce (rule "A" ∷ rule "B" ∷ rule "A" ∷ []) → ⊥
twice_refused h = h.0 (inr (inl refl))
