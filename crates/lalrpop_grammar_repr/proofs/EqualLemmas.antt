-- Terminals, names and productions that compare as equal are one: for tests of productions, moves and items.
use Rattle.std.proofs.Common.{◌≡◌, ◌∙◌, ℕ, Bool, true, false, ◌&&◌, List, ap, refl}
use Rattle.std.specs.Bool.{Decides}
use Rattle.std.specs.Prelude.{nat_eq}
use Rattle.std.specs.Cmp.Derive.{both_true}
use Rattle.std.specs.Cmp.Lexicographic.{pointwise}
use Rattle.std.proofs.lemmas.Slice.Eq.{bytes_eq-Decides, slice_eq-Decides}
use Rattle.std.proofs.lemmas.Bool.Decides.{Decides-eqb}
use Rattle.lalrpop_grammar_symbols.specs.contracts.names.NonterminalStringPartialEq.TheImpl as names
use Rattle.lalrpop_grammar_symbols.specs.contracts.terminal.TerminalLiteralPartialEq.TheImpl as literals
use Rattle.lalrpop_grammar_symbols.specs.contracts.terminal.TerminalStringPartialEq.TheImpl as terminals
use Rattle.lalrpop_grammar_symbols.specs.declared.names.NonterminalString.{NonterminalString}
use Rattle.lalrpop_grammar_symbols.specs.declared.terminal.TerminalLiteral.{TerminalLiteral}
use Rattle.lalrpop_grammar_symbols.specs.declared.terminal.TerminalLiteral.TheVariants as literal
use Rattle.lalrpop_grammar_symbols.specs.declared.terminal.TerminalString.{TerminalString}
use Rattle.lalrpop_grammar_symbols.specs.declared.terminal.TerminalString.TheVariants as terminal
use Rattle.lalrpop_grammar_repr.specs.contracts.production.SymbolPartialEq.TheImpl as symbols
use Rattle.lalrpop_grammar_repr.specs.contracts.production.ProductionPartialEq.TheImpl as productions
use Rattle.lalrpop_grammar_repr.specs.declared.production.Symbol.{Symbol}
use Rattle.lalrpop_grammar_repr.specs.declared.production.Symbol.TheVariants as symbol
use Rattle.lalrpop_grammar_repr.specs.declared.production.Production.{Production}

pub same_literal : (a b : TerminalLiteral) → Decides ((literals.ghosts).eq a b) (a ≡ b)
same_literal (literal.Quoted s) (literal.Quoted t) =
    (λ e. ap literal.Quoted ((bytes_eq-Decides s t).0 e), λ e. (bytes_eq-Decides s t).1 (let same : s ≡ t = cc in same))
same_literal (literal.Quoted s) (literal.Regex t) = (λ e. cc, λ e. cc)
same_literal (literal.Regex s) (literal.Quoted t) = (λ e. cc, λ e. cc)
same_literal (literal.Regex s) (literal.Regex t) =
    (λ e. ap literal.Regex ((bytes_eq-Decides s t).0 e), λ e. (bytes_eq-Decides s t).1 (let same : s ≡ t = cc in same))

pub same_terminals : (a b : TerminalString) → Decides ((terminals.ghosts).eq a b) (a ≡ b)
same_terminals (terminal.Literal l) (terminal.Literal m) =
    (λ e. ap terminal.Literal ((same_literal l m).0 e), λ e. (same_literal l m).1 (let same : l ≡ m = cc in same))
same_terminals (terminal.Literal l) (terminal.Bare n) = (λ e. cc, λ e. cc)
same_terminals (terminal.Literal l) terminal.Error = (λ e. cc, λ e. cc)
same_terminals (terminal.Bare n) (terminal.Literal l) = (λ e. cc, λ e. cc)
same_terminals (terminal.Bare m) (terminal.Bare n) =
    (λ e. ap terminal.Bare ((bytes_eq-Decides m n).0 e), λ e. (bytes_eq-Decides m n).1 (let same : m ≡ n = cc in same))
same_terminals (terminal.Bare n) terminal.Error = (λ e. cc, λ e. cc)
same_terminals terminal.Error (terminal.Literal l) = (λ e. cc, λ e. cc)
same_terminals terminal.Error (terminal.Bare n) = (λ e. cc, λ e. cc)
same_terminals terminal.Error terminal.Error = (λ e. refl, λ e. refl)

abbrev name_of : List ℕ → NonterminalString
name_of n = record { 0 = n }

-- names test as equal just where they are one
pub same_names : (a b : NonterminalString) → Decides ((names.ghosts).eq a b) (a ≡ b)
same_names a b =
    (λ e. ap name_of ((bytes_eq-Decides a.0 b.0).0 e), λ e. (bytes_eq-Decides a.0 b.0).1 (ap (λ n. n.0) e))

same_symbol : (a b : Symbol) → Decides ((symbols.ghosts).eq a b) (a ≡ b)
same_symbol (symbol.Nonterminal m) (symbol.Nonterminal n) =
    (λ e. ap symbol.Nonterminal ((same_names m n).0 e), λ e. (same_names m n).1 (let same : m ≡ n = cc in same))
same_symbol (symbol.Nonterminal m) (symbol.Terminal t) = (λ e. cc, λ e. cc)
same_symbol (symbol.Terminal t) (symbol.Nonterminal n) = (λ e. cc, λ e. cc)
same_symbol (symbol.Terminal t) (symbol.Terminal u) =
    (λ e. ap symbol.Terminal ((same_terminals t u).0 e), λ e. (same_terminals t u).1 (let same : t ≡ u = cc in same))

-- where an `&&` is true, both of its sides are
pub both_parts : (a b : Bool) → (a && b) ≡ true → (a ≡ true) × (b ≡ true)
both_parts true b e = (refl, e)
both_parts false b e = let z : ⊥ = cc in absurd z

same_side : (xs ys : List Symbol) → Decides (pointwise (symbols.ghosts).eq xs ys) (xs ≡ ys)
same_side xs ys = slice_eq-Decides same_symbol xs ys (pointwise (symbols.ghosts).eq xs ys) refl

abbrev made : NonterminalString → List Symbol → ℕ → ℕ → ℕ → Production
made name side action from to =
    record { nonterminal = name; symbols = side; action = record { 0 = action }; span = record { 0 = from; 1 = to } }

-- productions that compare as equal are one
pub same_productions : (p q : Production) → Decides ((productions.ghosts).eq p q) (p ≡ q)
same_productions p q = (
  λ e.
      let a = both_parts ((names.ghosts).eq p.nonterminal q.nonterminal) _ e in
      let b = both_parts (pointwise (symbols.ghosts).eq p.symbols q.symbols) _ a.1 in
      let c = both_parts (nat_eq p.action.0 q.action.0) _ b.1 in
      let d = both_parts (nat_eq p.span.0 q.span.0) (nat_eq p.span.1 q.span.1) c.1 in
      ap (λ x. made x p.symbols p.action.0 p.span.0 p.span.1) ((same_names p.nonterminal q.nonterminal).0 a.0)
      ∙ ap (λ x. made q.nonterminal x p.action.0 p.span.0 p.span.1) ((same_side p.symbols q.symbols).0 b.0)
      ∙ ap (λ x. made q.nonterminal q.symbols x p.span.0 p.span.1) ((Decides-eqb p.action.0 q.action.0).0 c.0)
      ∙ ap (λ x. made q.nonterminal q.symbols q.action.0 x p.span.1) ((Decides-eqb p.span.0 q.span.0).0 d.0)
      ∙ ap (λ x. made q.nonterminal q.symbols q.action.0 q.span.0 x) ((Decides-eqb p.span.1 q.span.1).0 d.1),
  λ e. both_true ((same_names p.nonterminal q.nonterminal).1 (ap (λ (x : Production). x.nonterminal) e))
      (both_true ((same_side p.symbols q.symbols).1 (ap (λ (x : Production). x.symbols) e))
      (both_true ((Decides-eqb p.action.0 q.action.0).1 (ap (λ (x : Production). x.action.0) e))
      (both_true ((Decides-eqb p.span.0 q.span.0).1 (ap (λ (x : Production). x.span.0) e))
      ((Decides-eqb p.span.1 q.span.1).1 (ap (λ (x : Production). x.span.1) e))))),
)
