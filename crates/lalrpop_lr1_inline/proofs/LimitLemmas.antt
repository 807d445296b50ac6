-- Sums and products up to a limit are those of numbers that were cut to it: for the functions that count.
use Rattle.std.proofs.Common.{◌≡◌, ◌+◌, ◌*◌, ◌≤◌, ◌^◌, ◌∙◌, ℕ, List, [], ◌∷◌, ◌++◌}
use Rattle.std.proofs.Common.{ap, refl, sym, arith, true, false}
use Rattle.std.proofs.Common.{inl, inr, suc, zero, ◌⊎◌}
use Rattle.std.specs.Prelude.{◌||◌, Bool, if◌then◌else◌, min}
use Rattle.std.specs.List.{list_any}
use Rattle.std.proofs.Math.Nat.{le-mul_of_pos_right, mul-add, mul_assoc, mul_comm}
use Rattle.lalrpop_grammar_symbols.specs.Symbols.{Text}
use Rattle.lalrpop_grammar_repr.specs.declared.production.Production.{Production}
use Rattle.lalrpop_grammar_repr.specs.declared.production.Symbol.{Symbol}
use Rattle.lalrpop_lr1_inline.specs.InlinedNames.{NonterminalEntries}
use Rattle.std.proofs.lemmas.List.{map-append}
use Rattle.lalrpop_lr1_inline.specs.InliningSteps.{is_place, productions_named}
use Rattle.lalrpop_lr1_inline.specs.NumberCounts.{InlinedCounts, becomes_many, choices_at, counts_to_limit, handed_out, sum_of_entries}
use Rattle.lalrpop_lr1_inline.specs.NumberCounts.{sum_of_sides, up_to_limit}

-- both are the same up to the limit
abbrev pub SameToLimit : ℕ → ℕ → Type 0
SameToLimit a b = up_to_limit a ≡ up_to_limit b

pub cut_twice : (a : ℕ) → up_to_limit (up_to_limit a) ≡ up_to_limit a
cut_twice a = omega arith

pub sum_cut : (a b x y : ℕ) → SameToLimit a b → SameToLimit x y → SameToLimit (a + x) (b + y)
sum_cut a b x y f g = omega (arith, f, g)

at_limit : (c a b : ℕ) → 1 ≤ c → min (min a c * b) c ≡ min (a * b) c
at_limit c a zero pos = omega arith
at_limit c a (suc b) pos = go (split a c)
  where
    split : (a c : ℕ) → (a ≤ c) ⊎ (c ≤ a)
    split a c = grind arith

    go : (a ≤ c) ⊎ (c ≤ a) → min (min a c * suc b) c ≡ min (a * suc b) c
    go (inl h) = ap (λ x. min (x * suc b) c) (omega (arith, h))
    go (inr h) =
        let cut : min a c ≡ c = omega (arith, h) in
        let first : c ≤ c * suc b = le-mul_of_pos_right c (omega arith) in
        let second : a ≤ a * suc b = le-mul_of_pos_right a (omega arith) in
        ap (λ x. min (x * suc b) c) cut ∙ omega (arith, first, second, h)

times_first : (a b : ℕ) → SameToLimit (up_to_limit a * b) (a * b)
times_first a b = at_limit (2 ^ 32 + 1) a b (omega arith)

times_one : (a b x : ℕ) → SameToLimit a b → SameToLimit (a * x) (b * x)
times_one a b x f = sym (times_first a x) ∙ ap (λ k. up_to_limit (k * x)) f ∙ times_first b x

pub product_cut : (a b x y : ℕ) → SameToLimit a b → SameToLimit x y → SameToLimit (a * x) (b * y)
product_cut a b x y f g =
    times_one a b x f ∙ ap up_to_limit (mul_comm b x) ∙ times_one x y b g ∙ ap up_to_limit (mul_comm y b)

-- a product is one factor further on
pub times_on : (many new a b whole x : ℕ) → new ≡ up_to_limit (many * a) → whole ≡ a * b → up_to_limit (many * whole) ≡ x →
    up_to_limit (new * b) ≡ x
times_on many new a b whole x f g h =
    ap (λ k. up_to_limit (k * b)) f ∙ times_first (many * a) b ∙ ap up_to_limit (mul_assoc many a b)
    ∙ ap (λ k. up_to_limit (many * k)) (sym g) ∙ h

-- a sum is one part further on
pub plus_on : (total new part one rest whole x : ℕ) → new ≡ up_to_limit (total + part) → part ≡ up_to_limit one →
    whole ≡ one + rest →
    up_to_limit (total + whole) ≡ x → up_to_limit (new + rest) ≡ x
plus_on total new part one rest whole x f g e h = omega (arith, f, g, e, h)

-- where the nonterminal has no place in a right side, there is one way to replace its places
pub choices_none : (n : Text) (many : ℕ) (side : List Symbol) → list_any (is_place n) side ≡ false → choices_at n many side ≡ 1
choices_none n many [] f = refl
choices_none n many (s ∷ side) f = go (is_place n s) f (choices_none n many side)
  where
    go : (b : Bool) → (b || list_any (is_place n) side) ≡ false →
        (list_any (is_place n) side ≡ false → choices_at n many side ≡ 1) →
        (if b then many * choices_at n many side else choices_at n many side) ≡ 1
    go true g ih = (let wrong : true ≡ false = g in cc)
    go false g ih = ih g

-- the numbers for one right side are one nonterminal further on, where it has a place
pub handed_on : (total many new_total new_many a rest whole x : ℕ) → new_many ≡ up_to_limit (many * a) →
    new_total ≡ up_to_limit (total + new_many) → whole ≡ a + a * rest → up_to_limit (total + many * whole) ≡ x →
    up_to_limit (new_total + new_many * rest) ≡ x
handed_on total many new_total new_many a rest whole x f g e h =
    let made : SameToLimit new_many (many * a) = ap up_to_limit f ∙ cut_twice (many * a) in
    let front : SameToLimit new_total (total + many * a) =
    ap up_to_limit g ∙ cut_twice (total + new_many) ∙ sum_cut total total new_many (many * a) refl made in
    let back : SameToLimit (new_many * rest) (many * a * rest) = times_one new_many (many * a) rest made in
    let joined : total + many * a + many * a * rest ≡ total + many * whole =
    ap (λ k. total + many * a + k) (mul_assoc many a rest) ∙ omega (arith, mul-add many a (a * rest))
    ∙ ap (λ k. total + many * k) (sym e) in
    sum_cut new_total (total + many * a) (new_many * rest) (many * a * rest) front back ∙ ap up_to_limit joined ∙ h

-- what is counted by cut numbers is the same up to the limit
choices_cut : (n : Text) (many : ℕ) (side : List Symbol) →
    SameToLimit (choices_at n (up_to_limit many) side) (choices_at n many side)
choices_cut n many [] = refl
choices_cut n many (s ∷ side) = go (is_place n s) (choices_cut n many side)
  where
    go : (b : Bool) → SameToLimit (choices_at n (up_to_limit many) side) (choices_at n many side) →
        SameToLimit (if b then up_to_limit many * choices_at n (up_to_limit many) side else choices_at n (up_to_limit many) side)
        (if b then many * choices_at n many side else choices_at n many side)
    go true ih =
        product_cut (up_to_limit many) many (choices_at n (up_to_limit many) side) (choices_at n many side) (cut_twice many) ih
    go false ih = ih

pub becomes_cut : (cs : InlinedCounts) (side : List Symbol) →
    SameToLimit (becomes_many (counts_to_limit cs) side) (becomes_many cs side)
becomes_cut [] side = refl
becomes_cut (c ∷ cs) side =
    product_cut (choices_at c.0 (up_to_limit c.1) side) (choices_at c.0 c.1 side) (becomes_many (counts_to_limit cs) side)
    (becomes_many cs side) (choices_cut c.0 c.1 side) (becomes_cut cs side)

-- counts that are cut to the limit hand out as many numbers for a right side, up to the limit
pub handed_cut : (cs : InlinedCounts) (side : List Symbol) → SameToLimit (handed_out (counts_to_limit cs) side) (handed_out cs side)
handed_cut [] side = refl
handed_cut (c ∷ cs) side =
    let back = product_cut (choices_at c.0 (up_to_limit c.1) side) (choices_at c.0 c.1 side) (handed_out (counts_to_limit cs) side)
    (handed_out cs side) (choices_cut c.0 c.1 side) (handed_cut cs side) in
    sum_cut _ _ _ _ (go (list_any (is_place c.0) side)) back
  where
    go : (b : Bool) →
        SameToLimit (if b then choices_at c.0 (up_to_limit c.1) side else 0) (if b then choices_at c.0 c.1 side else 0)
    go true = choices_cut c.0 c.1 side
    go false = refl

pub sides_cut : (f g : List Symbol → ℕ) → ((side : List Symbol) → SameToLimit (f side) (g side)) → (ps : List Production) →
    SameToLimit (sum_of_sides f ps) (sum_of_sides g ps)
sides_cut f g each [] = refl
sides_cut f g each (p ∷ ps) =
    sum_cut (f p.symbols) (g p.symbols) (sum_of_sides f ps) (sum_of_sides g ps) (each p.symbols) (sides_cut f g each ps)

-- sums over all entries are the same up to the limit where those of each right side are
pub entries_cut : (f g : List Symbol → ℕ) → ((side : List Symbol) → SameToLimit (f side) (g side)) → (es : NonterminalEntries) →
    SameToLimit (sum_of_entries f es) (sum_of_entries g es)
entries_cut f g each [] = refl
entries_cut f g each (e ∷ es) =
    sum_cut (sum_of_sides f e.1.productions) (sum_of_sides g e.1.productions) (sum_of_entries f es) (sum_of_entries g es)
    (sides_cut f g each e.1.productions) (entries_cut f g each es)

-- one symbol further on: a place of the nonterminal, and another symbol
pub place_on : (n : Text) (t : ℕ) (s : Symbol) (rest left : List Symbol) (many new x : ℕ) → left ≡ s ∷ rest →
    is_place n s ≡ true →
    new ≡ up_to_limit (many * t) → up_to_limit (many * choices_at n t left) ≡ x → up_to_limit (new * choices_at n t rest) ≡ x
place_on n t s rest left many new x one place f h =
    times_on many new t (choices_at n t rest) (choices_at n t left) x f
    (ap (choices_at n t) one ∙ ap (λ (b : Bool). if b then t * choices_at n t rest else choices_at n t rest) place) h

-- one symbol further on, which is no place of the nonterminal: the product so far stays
pub place_off : (n : Text) (t : ℕ) (s : Symbol) (rest left : List Symbol) (many new x : ℕ) → left ≡ s ∷ rest →
    is_place n s ≡ false →
    new ≡ many → up_to_limit (many * choices_at n t left) ≡ x → up_to_limit (new * choices_at n t rest) ≡ x
place_off n t s rest left many new x one place f h =
    ap (λ k. up_to_limit (k * choices_at n t rest)) f
    ∙ ap (λ k. up_to_limit (many * k)) (sym (ap (choices_at n t) one
    ∙ ap (λ (b : Bool). if b then t * choices_at n t rest else choices_at n t rest) place))
    ∙ h

-- one nonterminal further on: one that has a place in the right side, and one that has none
pub handed_place : (n : Text) (t : ℕ) (side : List Symbol) (rest : InlinedCounts) → list_any (is_place n) side ≡ true →
    handed_out ((n, t) ∷ rest) side ≡ choices_at n t side + choices_at n t side * handed_out rest side
handed_place n t side rest place =
    ap (λ (b : Bool). (if b then choices_at n t side else 0) + choices_at n t side * handed_out rest side) place

-- one nonterminal further on, which has no place in the right side: no numbers are handed out for it
pub handed_off : (n : Text) (t : ℕ) (side : List Symbol) (rest : InlinedCounts) → list_any (is_place n) side ≡ false →
    handed_out ((n, t) ∷ rest) side ≡ handed_out rest side
handed_off n t side rest place =
    ap (λ (b : Bool). (if b then choices_at n t side else 0) + choices_at n t side * handed_out rest side) place
    ∙ ap (λ k. 0 + k * handed_out rest side) (choices_none n t side place) ∙ omega arith

-- what is counted of one nonterminal more
pub counted_on : (es : NonterminalEntries) (done view : InlinedCounts) (n : Text) (many : ℕ) (ps : List Production) →
    view ≡ counts_to_limit done → many ≡ up_to_limit (sum_of_sides (becomes_many view) ps) → ps ≡ productions_named es n →
    view ++ (n, many) ∷ []
    ≡ counts_to_limit (done ++ (n, sum_of_sides (becomes_many done) (productions_named es n)) ∷ [])
counted_on es done view n many ps f g e =
    let same : many ≡ up_to_limit (sum_of_sides (becomes_many done) (productions_named es n)) =
    g ∙ ap (λ v. up_to_limit (sum_of_sides (becomes_many v) ps)) f
    ∙ sides_cut (becomes_many (counts_to_limit done)) (becomes_many done) (becomes_cut done) ps
    ∙ ap (λ l. up_to_limit (sum_of_sides (becomes_many done) l)) e in
    ap (λ v. v ++ (n, many) ∷ []) f ∙ ap (λ k. counts_to_limit done ++ (n, k) ∷ []) same
    ∙ sym (map-append (λ (c : Text × ℕ). (c.0, up_to_limit c.1)) done
    ((n, sum_of_sides (becomes_many done) (productions_named es n)) ∷ []))
