-- Nonterminals in states that are visited: those that compare as equal are seen as one.
use Rattle.std.proofs.Common.{◌≡◌, ◌∙◌, ◌⊎◌, ◌↔◌, ◌<◌, ℕ, zero, suc, List, [], ◌∷◌, ◌++◌, map, length, refl, sym, ap, subst, inl, inr, ⊎_elim, arith}
use Rattle.std.proofs.Common.{Contains, Some, get_or, nat_eq, slice_get}
use Rattle.std.specs.Bool.{Decides}
use Rattle.std.specs.Cmp.Derive.{both_true}
use Rattle.std.specs.List.{list_any}
use Rattle.std.specs.Prelude.{if◌then◌else◌}
use Rattle.std.proofs.lemmas.Bool.Decides.{Decides-eqb}
use Rattle.std.proofs.lemmas.List.Elements.{Contains-append_cases, Contains-append_left, Contains-append_right}
use Rattle.lalrpop_grammar_symbols.specs.declared.names.NonterminalString.{NonterminalString}
use Rattle.lalrpop_grammar_repr.proofs.EqualLemmas.{both_parts, same_names}
use Rattle.lalrpop_lr1_theory.proofs.ListLemmas.{contains_here, contains_split}
use Rattle.lalrpop_lr1_theory.proofs.NameLemmas.{no_element}
use Rattle.lalrpop_grammar_repr.specs.declared.production.Symbol.{Symbol}
use Rattle.lalrpop_lr1_core.specs.Edges.{SymbolsLead}
use Rattle.lalrpop_lr1_core.specs.declared.edge.Edge.{Edge}
use Rattle.lalrpop_lr1_core.specs.declared.state_index.StateIndex.{StateIndex}
use Rattle.lalrpop_lane_report.specs.contracts.traces.tracer.AskedPartialEq.TheImpl as asked
use Rattle.lalrpop_lane_report.specs.declared.traces.tracer.Asked.{Asked}
use Rattle.lalrpop_lane_report.specs.Tracings.{GainsPairs, Pair, pair_asked}
use Rattle.lalrpop_lane_report.proofs.KeyLemmas.{adds_key}
use Rattle.lalrpop_lane_report.proofs.TracingLemmas.{alike_pairs, both_pairs, no_pair, one_pair}

abbrev pair : ℕ → NonterminalString → Pair
pair n name = (n, name)

same_asked : (a b : Asked) → Decides ((asked.ghosts).eq a b) (pair_asked a ≡ pair_asked b)
same_asked a b = (
  λ e.
      let x = both_parts (nat_eq a.state b.state) _ e in
      ap (λ n. pair n a.name.now) ((Decides-eqb a.state b.state).0 x.0) ∙ ap (pair b.state) ((same_names a.name.now b.name.now).0 x.1),
  λ e.
      let x : a.state ≡ b.state = ap (λ (p : Pair). p.0) e in
      let y : a.name.now ≡ b.name.now = ap (λ (p : Pair). p.1) e in
      both_true ((Decides-eqb a.state b.state).1 x) ((same_names a.name.now b.name.now).1 y),
)

-- the states of a list
abbrev pub numbers : List StateIndex → List ℕ
numbers states = map (λ (s : StateIndex). s.0) states

abbrev pub In : List StateIndex → NonterminalString → Pair → Type 0
In states name p = Contains (numbers states) p.0 × (p.1 ≡ name)

pub no_state : (visited : List Pair) (name : NonterminalString) → GainsPairs visited (In [] name) visited
no_state visited name = no_pair visited (In [] name) (λ p h. no_element p.0 h.0)

numbers_more : (states : List StateIndex) (s : StateIndex) → numbers (states ++ s ∷ []) ≡ numbers states ++ s.0 ∷ []
numbers_more [] s = refl
numbers_more (r ∷ states) s = ap (λ l. r.0 ∷ l) (numbers_more states s)

-- one state more
pub visits_more : (start : List Pair) (keys next : List Asked) (states more : List StateIndex) (s : StateIndex) (name : NonterminalString) (a : Asked) →
    a.state ≡ s.0 → a.name.now ≡ name → more ≡ states ++ s ∷ [] →
    next ≡ (if list_any ((asked.ghosts).eq a) keys then keys else keys ++ a ∷ []) → GainsPairs start (In states name) (map pair_asked keys) →
    GainsPairs start (In more name) (map pair_asked next)
visits_more start keys next states more s name a at named is inserted so_far =
    both_pairs start (map pair_asked keys) (map pair_asked next) (In states name) (λ p. pair_asked a ≡ p) (In more name)
    (λ p. (λ h. there p h, λ h. ⊎_elim (λ o. (before p o.0, o.1)) (λ e. here p e) h)) so_far
    (one_pair (map pair_asked keys) (map pair_asked next) (pair_asked a) (adds_key pair_asked (asked.ghosts).eq same_asked keys next a inserted))
  where
    listed : numbers more ≡ numbers states ++ s.0 ∷ []
    listed = ap numbers is ∙ numbers_more states s

    there : (p : Pair) → In more name p → In states name p ⊎ (pair_asked a ≡ p)
    there p h =
        ⊎_elim (λ c. inl (c, h.1))
        (λ c. ⊎_elim (λ e. inr (ap (λ n. pair n a.name.now) (at ∙ e) ∙ ap (pair p.0) (named ∙ sym h.1))) (λ z. absurd (no_element p.0 z))
        (contains_split s.0 p.0 [] c))
        (Contains-append_cases (numbers states) (s.0 ∷ []) p.0 (subst (λ l. Contains l p.0) listed h.0))

    before : (p : Pair) → Contains (numbers states) p.0 → Contains (numbers more) p.0
    before p c = subst (λ l. Contains l p.0) (sym listed) (Contains-append_left (numbers states) (s.0 ∷ []) p.0 c)

    here : (p : Pair) → pair_asked a ≡ p → In more name p
    here p e =
        let first : s.0 ≡ p.0 = sym at ∙ ap (λ (q : Pair). q.0) e in (
          subst (λ l. Contains l p.0) (sym listed)
              (Contains-append_right (numbers states) (s.0 ∷ []) p.0 (subst (Contains (s.0 ∷ [])) first (contains_here s.0 []))),
          sym (ap (λ (q : Pair). q.1) e) ∙ named,
        )

-- the states from which symbols lead
pub begins_are : (old new : List Pair) (traced lent : List StateIndex) (graph edges : List Edge) (prefix : List Symbol) (state : ℕ)
    (name : NonterminalString) → lent ≡ traced → graph ≡ edges →
    ((n : ℕ) → Contains (numbers traced) n ↔ SymbolsLead graph n prefix state) → GainsPairs old (In lent name) new →
    GainsPairs old (λ p. SymbolsLead edges p.0 prefix state × (p.1 ≡ name)) new
begins_are old new traced lent graph edges prefix state name is same leads gains =
    alike_pairs old new (In lent name) (λ p. SymbolsLead edges p.0 prefix state × (p.1 ≡ name))
    (λ p. (
      λ h. (
        subst (λ (g : List Edge). SymbolsLead g p.0 prefix state) same
            ((leads p.0).0 (subst (λ (l : List StateIndex). Contains (numbers l) p.0) is h.0)),
        h.1,
      ),
      λ h. (
        subst (λ (l : List StateIndex). Contains (numbers l) p.0) (sym is)
            ((leads p.0).1 (subst (λ (g : List Edge). SymbolsLead g p.0 prefix state) (sym same) h.0)),
        h.1,
      ),
    )) gains

-- what was visited at a place
pub asked_at : (keys lent : List Asked) (number : ℕ) (a : Asked) → lent ≡ keys → number < length keys → a ≡ get_or lent number a →
    slice_get (map pair_asked keys) number ≡ Some (pair_asked a)
asked_at keys lent number a same within is =
    go keys number within
    ∙ ap (λ (b : Asked). Some (pair_asked b)) (sym (is ∙ ap (λ (l : List Asked). get_or l number a) same))
  where
    go : (l : List Asked) (n : ℕ) → n < length l → slice_get (map pair_asked l) n ≡ Some (pair_asked (get_or l n a))
    go [] n h = absurd (omega (arith, h))
    go (k ∷ l) zero h = refl
    go (k ∷ l) (suc n) h = go l n (omega (arith, h))
