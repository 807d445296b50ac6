-- Terminals and nonterminals at their numbers: equal ones are one. For the table of actions.
use Rattle.std.proofs.Common.{◌≡◌, ◌∙◌, ℕ, zero, suc, ◌<◌, Bool, true, false, ◌||◌}
use Rattle.std.proofs.Common.{List, [], ◌∷◌, length}
use Rattle.std.proofs.Common.{Some, ap, sym, refl, arith, get_or, drop}
use Rattle.std.specs.Bool.{Decides}
use Rattle.std.specs.List.{list_any, position}
use Rattle.std.specs.Prelude.{slice_get}
use Rattle.std.proofs.lemmas.List.Quantifiers.{position-Some}
use Rattle.std.proofs.lemmas.Option.{slice_get-get_or}
use Rattle.std.proofs.lemmas.Slice.Eq.{bytes_eq-Decides}
use Rattle.lalrpop_grammar.specs.declared.token.ScanToken.{ScanToken}
use Rattle.lalrpop_grammar_symbols.specs.Views.{terminal_view}
use Rattle.lalrpop_grammar_symbols.specs.contracts.names.NonterminalStringPartialEq.TheImpl as names
use Rattle.lalrpop_grammar_symbols.specs.contracts.terminal.TerminalStringPartialEq.TheImpl as terminals
use Rattle.lalrpop_grammar_symbols.specs.declared.names.NonterminalString.{NonterminalString}
use Rattle.lalrpop_grammar_symbols.specs.declared.terminal.TerminalString.{TerminalString}
use Rattle.lalrpop_grammar_symbols.specs.declared.terminal.TerminalString.TheVariants as terminal
use Rattle.lalrpop_lr1_theory.specs.Productions.{first}
use Rattle.lalrpop_lr1_interpret.specs.Ends.{terminals_of}
use Rattle.lalrpop_grammar_repr.proofs.EqualLemmas.{same_literal}

-- terminals that compare as equal are one
pub equal_terminals : (a b : TerminalString) → Decides ((terminals.ghosts).eq a b) (a ≡ b)
equal_terminals (terminal.Literal l) (terminal.Literal m) =
    (λ e. ap terminal.Literal ((same_literal l m).0 e), λ e. (same_literal l m).1 (let same : l ≡ m = cc in same))
equal_terminals (terminal.Literal l) (terminal.Bare n) = (λ e. cc, λ e. cc)
equal_terminals (terminal.Literal l) terminal.Error = (λ e. cc, λ e. cc)
equal_terminals (terminal.Bare n) (terminal.Literal l) = (λ e. cc, λ e. cc)
equal_terminals (terminal.Bare m) (terminal.Bare n) =
    (λ e. ap terminal.Bare ((bytes_eq-Decides m n).0 e), λ e. (bytes_eq-Decides m n).1 (let same : m ≡ n = cc in same))
equal_terminals (terminal.Bare n) terminal.Error = (λ e. cc, λ e. cc)
equal_terminals terminal.Error (terminal.Literal l) = (λ e. cc, λ e. cc)
equal_terminals terminal.Error (terminal.Bare n) = (λ e. cc, λ e. cc)
equal_terminals terminal.Error terminal.Error = (λ e. refl, λ e. refl)

-- nonterminals too
pub equal_nonterminals : (a b : NonterminalString) → Decides ((names.ghosts).eq a b) (a ≡ b)
equal_nonterminals a b = (
  λ e. let name : List ℕ →
      NonterminalString = λ n. record { 0 = n } in
      ap name ((bytes_eq-Decides a.0 b.0).0 e),
  λ e. (bytes_eq-Decides a.0 b.0).1 (ap (λ n. n.0) e),
)

-- where none passes a test, none of them does
pub none_passes : {X : Type 0} (p : X → Bool) (xs : List X) (k : ℕ) (x : X) → list_any p xs ≡ false →
    slice_get xs k ≡ Some x →
    p x ≡ false
none_passes p [] k x h e = let z : ⊥ = cc in absurd z
none_passes {X} p (y ∷ ys) k x h e = go (p y) refl h k e (λ j. none_passes p ys j x)
  where
    go : (b : Bool) → p y ≡ b → (b || list_any p ys) ≡ false → (j : ℕ) → slice_get (y ∷ ys) j ≡ Some x →
        ((i : ℕ) → list_any p ys ≡ false → slice_get ys i ≡ Some x → p x ≡ false) → p x ≡ false
    go true at none j there deeper = let z : ⊥ = cc in absurd z
    go false at none zero there deeper = let same : y ≡ x = cc in ap p (sym same) ∙ at
    go false at none (suc j) there deeper = deeper j none there

-- the number that is found is the terminal's
pub terminal_at : (xs : List TerminalString) (t : TerminalString) (k : ℕ) → position ((terminals.ghosts).eq t) xs ≡ Some k →
    slice_get xs k ≡ Some t
terminal_at xs t k e =
    let found = position-Some ((terminals.ghosts).eq t) xs k t e in
    let same : t ≡ get_or xs k t = (equal_terminals t (get_or xs k t)).0 found.1 in
    slice_get-get_or xs k t found.0 ∙ ap Some (sym same)

-- where none is found, the terminal has none
pub terminal_missing : (xs : List TerminalString) (t : TerminalString) (k : ℕ) → list_any ((terminals.ghosts).eq t) xs ≡ false →
    slice_get xs k ≡ Some t → ⊥
terminal_missing xs t k none at =
    let no : (terminals.ghosts).eq t t ≡ false = none_passes ((terminals.ghosts).eq t) xs k t none at in
    let yes : (terminals.ghosts).eq t t ≡ true = (equal_terminals t t).1 refl in
    let z : true ≡ false = sym yes ∙ no in
    let w : ⊥ = cc in w

-- what comes next, at a token
pub next_at : (tokens : List ScanToken) (at : ℕ) (t : ScanToken) → at < length tokens → t ≡ get_or tokens at t →
    first (drop at (terminals_of tokens)) ≡ Some (terminal_view t.terminal)
next_at [] at t h e = absurd (omega arith)
next_at (x ∷ tokens) zero t h e = ap (λ y. Some (terminal_view y.terminal)) (sym e)
next_at (x ∷ tokens) (suc at) t h e = next_at tokens at t (omega arith) e
