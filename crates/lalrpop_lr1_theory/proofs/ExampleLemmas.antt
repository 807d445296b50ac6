-- Short ways to write productions, and what tells them apart: for the computed examples.
use Rattle.std.proofs.Common.{◌≡◌, ℕ, List, [], ◌∷◌, arith}
use Rattle.std.proofs.Common.{Some}
use Rattle.std.proofs.Common.{Contains, None}
use Rattle.lalrpop_grammar_symbols.specs.Symbols.{Terminal, Text}
use Rattle.lalrpop_lr1_theory.specs.Productions.{Production, Symbol, nonterminal, terminal}

-- a production with this number
abbrev pub production : ℕ → Text → List Symbol → Production
production n left right = record { left = left; right = right; action = n; from = 0; to = 0 }

-- a name, and a terminal, of one letter
abbrev pub name : ℕ → Text
name n = n ∷ []

-- the quoted terminal of one letter
abbrev pub quoted : ℕ → Terminal
quoted n = Terminal.quoted (n ∷ [])

-- names of one letter that are equal have the same letter
pub name_same : (m n : ℕ) → name m ≡ name n → m ≡ n
name_same m n e = cc

-- quoted terminals of one letter that are equal have the same letter
pub quoted_same : (m n : ℕ) → quoted m ≡ quoted n → m ≡ n
quoted_same m n e = cc

-- symbols of terminals that are equal are of the same terminal
pub terminal_same : (t u : Terminal) → terminal t ≡ terminal u → t ≡ u
terminal_same t u e = cc

-- symbols of nonterminals that are equal have the same name
pub nonterminal_is : (A B : Text) → nonterminal A ≡ nonterminal B → A ≡ B
nonterminal_is A B e = cc

-- the symbol of a terminal is not that of a nonterminal
pub not_nonterminal : (t : Terminal) (A : Text) → terminal t ≡ nonterminal A → ⊥
not_nonterminal t A e = cc

-- the symbol of a nonterminal is not that of a terminal
pub not_terminal : (t : Terminal) (A : Text) → nonterminal A ≡ terminal t → ⊥
not_terminal t A e = cc

-- equal terminals as what comes next are the same terminal
pub next_same : (t u : Terminal) → Some t ≡ Some u → t ≡ u
next_same t u e = cc

-- equal lists begin with the same element
pub head_same : {X : Type 0} (x y : X) (xs ys : List X) → x ∷ xs ≡ y ∷ ys → x ≡ y
head_same x y xs ys e = cc

-- equal lists are the same behind their first element
pub tail_same : {X : Type 0} (x y : X) (xs ys : List X) → x ∷ xs ≡ y ∷ ys → xs ≡ ys
tail_same x y xs ys e = cc

-- the empty list is none with a first element
pub not_empty : {X : Type 0} (x : X) (xs : List X) → [] ≡ x ∷ xs → ⊥
not_empty x xs e = cc

-- a terminal that comes next is not the end
pub none_same : (t : Terminal) → Some t ≡ None → ⊥
none_same t e = cc

-- nothing stands in the empty list
pub nothing_in : {X : Type 0} (x : X) → Contains [] x → ⊥
nothing_in x c = omega (arith, c.1)
