-- The name that all of a list are: for the nonterminal that a state produces.
use Rattle.std.proofs.Common.{◌≡◌, ◌∙◌, Bool, List, [], ◌∷◌, Some, None, ap, sym}
use Rattle.std.specs.List.{list_all}
use Rattle.std.specs.Prelude.{if◌then◌else◌, slice_get}
use Rattle.std.specs.Str.{bytes_eq}
use Rattle.lalrpop_grammar_symbols.specs.declared.names.NonterminalString.{NonterminalString}
use Rattle.lalrpop_lr1_core.specs.Dots.{one_name}

-- the name of all is the first, where it is that of all
pub one_is : (names : List NonterminalString) (n : NonterminalString) (b : Bool) → Some n ≡ slice_get names 0
    → list_all (λ m. bytes_eq n.0 m.0) names ≡ b → (if b then Some n else None) ≡ one_name names
one_is [] n b e h = let w : ⊥ = cc in absurd w
one_is (m ∷ ms) n b e h =
    let same : n ≡ m = cc in
    ap (λ c. if c then Some n else None) (sym h)
    ∙ ap (λ k. if list_all (λ j. bytes_eq k.0 j.0) (m ∷ ms) then Some k else None) same
