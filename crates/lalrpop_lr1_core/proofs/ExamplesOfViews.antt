-- A state with two shifts, a goto and a reduction, as the theory of tables sees it.
use Prim.Native.String.{String}
use Rattle.std.proofs.Common.{◌≡◌, [], ◌∷◌, refl}
use Rattle.std.specs.Borrow.{Bor}
use Rattle.std.specs.Prelude.{true, false, Some, None, codes}
use Rattle.lalrpop_grammar_symbols.specs.Symbols.{Terminal}
use Rattle.lalrpop_grammar_symbols.specs.declared.names.NonterminalString.{NonterminalString}
use Rattle.lalrpop_grammar_symbols.specs.declared.terminal.TerminalLiteral.TheVariants as literals
use Rattle.lalrpop_grammar_symbols.specs.declared.terminal.TerminalString.{TerminalString}
use Rattle.lalrpop_grammar_symbols.specs.declared.terminal.TerminalString.TheVariants as terminals
use Rattle.lalrpop_grammar_repr.specs.declared.production.Production.{Production}
use Rattle.lalrpop_grammar_repr.specs.declared.production.Symbol.TheVariants as symbols
use Rattle.lalrpop_grammar_repr.specs.declared.terminal_set.TerminalSet.{TerminalSet}
use Rattle.lalrpop_lr1_theory.specs.Productions as theory
use Rattle.lalrpop_sets.specs.declared.nil.Nil.{Nil}
use Rattle.lalrpop_lr1_core.specs.Views.{lr_state_view, nil_lookahead, production_view, token_lookahead}
use Rattle.lalrpop_lr1_core.specs.declared.state.State.{State}

-- a quoted literal as a terminal, for the examples
abbrev pub quoted : String → TerminalString
quoted s = terminals.Literal (literals.Quoted (codes s))

-- a nonterminal's name from a string, for the examples
abbrev pub name : String → NonterminalString
name s = record { 0 = codes s }

-- the terminals `"a"` and `"b"`; 2 is the number of the end, 3 that of the token of errors
abbrev pub two_terminals : TerminalSet
two_terminals = record { all = quoted "a" ∷ quoted "b" ∷ []; bits = (quoted "a", 0) ∷ (quoted "b", 1) ∷ [] }

-- `S = S "a" r"[0-9]"`, the fifth action, from the first to the seventh byte
abbrev written : Production
written = record {
  nonterminal = name "S";
  symbols = symbols.Nonterminal (name "S") ∷ symbols.Terminal (quoted "a")
      ∷ symbols.Terminal (terminals.Literal (literals.Regex (codes "[0-9]"))) ∷ [];
  action = record { 0 = 5 };
  span = record { 0 = 1; 1 = 7 };
}

seen : production_view written ≡ record {
  left = codes "S";
  right = theory.nonterminal (codes "S") ∷ theory.terminal (Terminal.quoted (codes "a"))
      ∷ theory.terminal (Terminal.regex (codes "[0-9]")) ∷ [];
  action = 5;
  from = 1;
  to = 7;
}
seen = refl

-- sets: a terminal and the end; all four tokens, with that of errors apart; a number that no token has
a_and_end : token_lookahead two_terminals (0 ∷ 2 ∷ [])
    ≡ record { nexts = Some (Terminal.quoted (codes "a")) ∷ None ∷ []; error = false }
a_and_end = refl

all_four : token_lookahead two_terminals (0 ∷ 1 ∷ 2 ∷ 3 ∷ []) ≡ record {
  nexts = Some (Terminal.quoted (codes "a")) ∷ Some (Terminal.quoted (codes "b")) ∷ None ∷ [];
  error = true;
}
all_four = refl

none_of_them : token_lookahead two_terminals (4 ∷ []) ≡ record { nexts = []; error = false }
none_of_them = refl

-- the state
abbrev state_of : {L : Type 0} → L → L → Bor Production → State L
state_of one other p = record {
  index = record { 0 = 4 };
  items = record {
    vec = record { production = p; index = 1; lookahead = one } ∷ record { production = p; index = 3; lookahead = other }
        ∷ [];
  };
  shifts = (quoted "a", record { 0 = 2 }) ∷ (quoted "b", record { 0 = 3 }) ∷ [];
  reductions = (other, p) ∷ [];
  gotos = (name "S", record { 0 = 1 }) ∷ [];
}

with_lookaheads : (p : Bor Production)
    → lr_state_view (token_lookahead two_terminals) (state_of (1 ∷ []) (0 ∷ 2 ∷ []) p) ≡ record {
      index = 4;
      items = record {
        production = production_view p.now;
        dot = 1;
        lookahead = record {
          nexts = Some (Terminal.quoted (codes "b")) ∷ [];
          error = false;
        };
      }
          ∷ record {
            production = production_view p.now;
            dot = 3;
            lookahead = record {
              nexts = Some (Terminal.quoted (codes "a")) ∷ None ∷ [];
              error = false;
            };
          } ∷ [];
      shifts = (Terminal.quoted (codes "a"), 2) ∷ (Terminal.quoted (codes "b"), 3) ∷ [];
      gotos = (codes "S", 1) ∷ [];
      reductions = record {
        production = production_view p.now;
        lookahead = record {
          nexts = Some (Terminal.quoted (codes "a")) ∷ None ∷ [];
          error = false;
        };
      } ∷ [];
    }
with_lookaheads p = refl

without_lookaheads : (n : Nil) (p : Bor Production) → lr_state_view nil_lookahead (state_of n n p) ≡ record {
  index = 4;
  items = record { production = production_view p.now; dot = 1; lookahead = record { nexts = []; error = false } }
      ∷ record { production = production_view p.now; dot = 3; lookahead = record { nexts = []; error = false } } ∷ [];
  shifts = (Terminal.quoted (codes "a"), 2) ∷ (Terminal.quoted (codes "b"), 3) ∷ [];
  gotos = (codes "S", 1) ∷ [];
  reductions = record { production = production_view p.now; lookahead = record { nexts = []; error = false } } ∷ [];
}
without_lookaheads n p = refl
