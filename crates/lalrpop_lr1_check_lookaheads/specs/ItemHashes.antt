-- By what items and ends are hashed, and that those which compare as equal are hashed alike: for the sets of them.
use Rattle.std.specs.Prelude.{ℕ, ◌≡◌, ◌&&◌, ◌++◌, true, List, nat_eq}
use Rattle.std.specs.Hash as fed
use Rattle.std.proofs.Common.{◌∙◌, ap}
use Rattle.std.proofs.lemmas.Bool.Decides.{Decides-eqb}
use Rattle.lalrpop_grammar_symbols.specs.contracts.names.NonterminalStringPartialEq.TheImpl as names
use Rattle.std.specs.Cmp.Lexicographic.{pointwise}
use Rattle.lalrpop_grammar_repr.specs.contracts.production.ProductionPartialEq.TheImpl as productions
use Rattle.lalrpop_grammar_repr.specs.contracts.production.SymbolPartialEq.TheImpl as symbols
use Rattle.lalrpop_grammar_repr.specs.declared.production.Production.{Production}
use Rattle.lalrpop_grammar_repr.proofs.EqualLemmas.{both_parts}

-- the number of its state, that of its production's action, and the dot
abbrev pub item_hash : ℕ → ℕ → ℕ → List (List ℕ)
item_hash state action dot = fed.usize state ++ fed.u32 action ++ fed.usize dot

pub same_hash : (m n : ℕ) (p q : Production) (i j : ℕ) →
    (nat_eq m n && ((productions.ghosts).eq p q && nat_eq i j)) ≡ true → item_hash m p.action.0 i ≡ item_hash n q.action.0 j
same_hash m n p q i j e =
    let a = both_parts (nat_eq m n) _ e in
    let b = both_parts ((productions.ghosts).eq p q) (nat_eq i j) a.1 in
    let c = both_parts ((names.ghosts).eq p.nonterminal q.nonterminal) _ b.0 in
    let d = both_parts (pointwise (symbols.ghosts).eq p.symbols q.symbols) _ c.1 in
    let f = both_parts (nat_eq p.action.0 q.action.0) _ d.1 in
    ap (λ k. item_hash k p.action.0 i) ((Decides-eqb m n).0 a.0)
    ∙ ap (λ k. item_hash n k i) ((Decides-eqb p.action.0 q.action.0).0 f.0)
    ∙ ap (λ k. item_hash n q.action.0 k) ((Decides-eqb i j).0 b.1)

-- the number of an end's state, and that of its production's action
abbrev pub end_hash : ℕ → ℕ → List (List ℕ)
end_hash state action = fed.usize state ++ fed.u32 action

pub same_end_hash : (m n : ℕ) (p q : Production) → (nat_eq m n && (productions.ghosts).eq p q) ≡ true →
    end_hash m p.action.0 ≡ end_hash n q.action.0
same_end_hash m n p q e =
    let a = both_parts (nat_eq m n) _ e in
    let c = both_parts ((names.ghosts).eq p.nonterminal q.nonterminal) _ a.1 in
    let d = both_parts (pointwise (symbols.ghosts).eq p.symbols q.symbols) _ c.1 in
    let f = both_parts (nat_eq p.action.0 q.action.0) _ d.1 in
    ap (λ k. end_hash k p.action.0) ((Decides-eqb m n).0 a.0) ∙ ap (λ k. end_hash n k) ((Decides-eqb p.action.0 q.action.0).0 f.0)
