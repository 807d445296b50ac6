-- A grammar's productions, found at their nonterminal or anywhere: for the test of a node's production.
use Rattle.std.proofs.Common.{◌≡◌, ◌↔◌, ℕ, Bool, true, false, List, [], ◌∷◌, ◌++◌, Some, sym, ap}
use Rattle.std.proofs.Common.{◌∙◌, subst}
use Rattle.std.proofs.Common.{Contains, ◌⊎◌, inl, inr, cond, get_or, length, ◌+◌, ◌<◌, ◌≤◌, arith}
use Rattle.std.proofs.lemmas.Bool.{cases_lt}
use Rattle.std.specs.Prelude.{flat_map}
use Rattle.std.specs.Map.{lookup}
use Rattle.std.proofs.lemmas.List.Elements.{Contains-append_cases, Contains-append_left, Contains-append_right}
use Rattle.lalrpop_grammar_symbols.specs.declared.names.NonterminalString.{NonterminalString}
use Rattle.lalrpop_grammar_repr.specs.Productions.{productions_in}
use Rattle.lalrpop_grammar_repr.specs.declared.production.NonterminalData.{NonterminalData}
use Rattle.lalrpop_grammar_repr.specs.declared.production.Production.{Production}
use Rattle.lalrpop_lr1_theory.proofs.ExampleLemmas.{nothing_in}
use Rattle.lalrpop_lr1_interpret.proofs.StackLemmas.{same_get}
use Rattle.lalrpop_lr1_core.specs.Views.{production_view}
use Rattle.lalrpop_lr1_core.proofs.MemberLemmas.{in_map, map_has}
use Rattle.lalrpop_lr1_first.specs.NumberedGrammars.{IsSeenIn}
use Rattle.lalrpop_lr1_core.proofs.ProductionViewLemmas.{same_production}

abbrev Entries : Type 0
Entries = List (NonterminalString × NonterminalData)

-- all productions of some nonterminals
abbrev pub productions_among : Entries → List Production
productions_among es = flat_map (λ e. e.1.productions) es

-- a production is seen among some exactly where it is one of them
pub seen_among : (ps : List Production) (p : Production) → Contains ps p ↔ IsSeenIn ps (production_view p)
seen_among ps p = (
  λ c. map_has production_view ps p c,
  λ c.
      let m = in_map production_view ps (production_view p) c in
      subst (Contains ps) (same_production m.0 p m.2) m.1,
)

-- what stands at a name is among all
pub found_at : (test : NonterminalString → Bool) (es : Entries) (p : Production) → Contains (productions_in (lookup test es)) p →
    Contains (productions_among es) p
found_at test [] p c = c
found_at test (e ∷ es) p c = go (test e.0) (found_at test es p) c
  where
    go : (b : Bool) → (Contains (productions_in (lookup test es)) p → Contains (productions_among es) p) →
        Contains (productions_in (cond b (Some e.1) (lookup test es))) p →
        Contains (e.1.productions ++ productions_among es) p
    go true rec k = Contains-append_left e.1.productions (productions_among es) p k
    go false rec k = Contains-append_right e.1.productions (productions_among es) p (rec k)

-- it isn't with this nonterminal, so what is left decides
pub left_decides : (p : Production) (e : NonterminalString × NonterminalData) (left rest whole : Entries) → left ≡ e ∷ rest →
    (Contains e.1.productions p → ⊥) → (Contains (productions_among left) p ↔ Contains (productions_among whole) p) →
    Contains (productions_among rest) p ↔ Contains (productions_among whole) p
left_decides p e left rest whole first others decides =
    let both : Contains (productions_among (e ∷ rest)) p ↔ Contains (productions_among whole) p = rw first at decides in (
      λ c. both.0 (Contains-append_right e.1.productions (productions_among rest) p c),
      λ c. pick (Contains-append_cases e.1.productions (productions_among rest) p (both.1 c)),
    )
  where
    pick : Contains e.1.productions p ⊎ Contains (productions_among rest) p → Contains (productions_among rest) p
    pick (inl c) = absurd (others c)
    pick (inr c) = c

-- it is with this nonterminal
pub found_here : (p : Production) (e : NonterminalString × NonterminalData) (left rest whole : Entries) → left ≡ e ∷ rest →
    Contains e.1.productions p → (Contains (productions_among left) p ↔ Contains (productions_among whole) p) →
    Contains (productions_among whole) p
found_here p e left rest whole first c decides =
    let both : Contains (productions_among (e ∷ rest)) p ↔ Contains (productions_among whole) p = rw first at decides in
    both.0 (Contains-append_left e.1.productions (productions_among rest) p c)

-- nothing is left
pub none_anywhere : (p : Production) (left whole : Entries) → left ≡ [] →
    (Contains (productions_among left) p ↔ Contains (productions_among whole) p) →
    IsSeenIn (productions_among whole) (production_view p) → ⊥
none_anywhere p left whole none decides seen =
    let both : Contains (productions_among []) p ↔ Contains (productions_among whole) p = rw none at decides in
    nothing_in p (both.1 ((seen_among (productions_among whole) p).1 seen))

-- one of a list is there
pub found_one : (ps : List Production) (i : ℕ) (p q : Production) → i < length ps → q ≡ get_or ps i q → q ≡ p → Contains ps p
found_one ps i p q h read e = subst (Contains ps) e (i, h, sym read)

-- none so far, and this isn't it
pub none_more : (ps : List Production) (p q : Production) (i : ℕ) → i < length ps →
    ((k : ℕ) (d : Production) → k < i → get_or ps k d ≡ p → ⊥) → q ≡ get_or ps i q → (q ≡ p → ⊥) →
    (k : ℕ) (d : Production) → k < i + 1 → get_or ps k d ≡ p → ⊥
none_more ps p q i h before read other k d l e = go (cases_lt k i)
  where
    go : (k < i) ⊎ (i ≤ k) → ⊥
    go (inl a) = before k d a e
    go (inr a) =
        let same : k ≡ i = omega arith in
        other (read ∙ same_get ps i q d h ∙ ap (λ j. get_or ps j d) (sym same) ∙ e)
